use Rattle.moka_segment_model.proofs.SegmentLaws.{alone-replies}
use Rattle.moka_segment_model.proofs.segment_laws.one_segment_answers_as_a_state.Goals as goal

pub returns-clause-reply : goal.returns-clause-reply
returns-clause-reply g c settings calls call one fits = alone-replies g.row.E.Denot g.K.PartialEq.eq settings one fits calls call
