use Rattle.moka_segment_model.specs.Segments.{share_settings, list_of}
use Rattle.moka_segment_model.proofs.SegmentLaws.{legal-calls}
use Rattle.moka_segment_model.proofs.segment_laws.a_segments_list_is_legal.Goals as goal

pub returns : goal.returns
returns g c settings calls i = legal-calls g.row.E.Denot g.K.PartialEq.eq (share_settings settings) (list_of g.row.E.Denot g.K.PartialEq.eq settings calls i)
