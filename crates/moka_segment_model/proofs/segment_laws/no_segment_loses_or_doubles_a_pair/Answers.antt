use Rattle.moka_segment_model.proofs.SegmentLaws.{pairs-conserved}
use Rattle.moka_segment_model.proofs.segment_laws.no_segment_loses_or_doubles_a_pair.Goals as goal

pub returns : goal.returns
returns g c settings calls test few fits alike = pairs-conserved g.row.E.Denot g.K.PartialEq.eq settings test few fits g.met.K.Eq.laws alike calls
