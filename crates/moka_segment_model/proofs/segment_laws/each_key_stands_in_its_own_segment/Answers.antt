use Rattle.moka_segment_model.proofs.SegmentLaws.{stands-at-home}
use Rattle.moka_segment_model.proofs.segment_laws.each_key_stands_in_its_own_segment.Goals as goal

pub returns : goal.returns
returns g c settings calls i alike = stands-at-home g.row.E.Denot g.K.PartialEq.eq settings i g.met.K.Eq.laws alike calls
