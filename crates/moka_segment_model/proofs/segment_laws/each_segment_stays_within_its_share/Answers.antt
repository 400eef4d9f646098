use Rattle.std.proofs.Common.{ap, option_map}
use Rattle.moka_model.proofs.Callers.{entry_count-le, maintained-weighted_size-le, maintained-entry_count-le, maintained-live}
use Rattle.moka_segment_model.specs.Segments.{segments_of, share, share_settings, list_of, steps_in, events_of}
use Rattle.moka_segment_model.proofs.SegmentLaws.{legal-calls}
use Rattle.moka_segment_model.proofs.segment_laws.each_segment_stays_within_its_share.Goals as goal

pub returns-clause-always : goal.returns-clause-always
returns-clause-always g c settings calls i capacity ones limits some =
    entry_count-le g.K.PartialEq.eq (share_settings settings) ones limits (steps_in g.row.E.Denot g.K.PartialEq.eq settings calls i) (share (segments_of settings) capacity) (ap (option_map (share (segments_of settings))) some)
    (legal-calls g.row.E.Denot g.K.PartialEq.eq (share_settings settings) (list_of g.row.E.Denot g.K.PartialEq.eq settings calls i))

pub returns-clause-weight : goal.returns-clause-weight
returns-clause-weight g c settings calls at i capacity some =
    maintained-weighted_size-le g.K.PartialEq.eq (share_settings settings) (events_of g.row.E.Denot g.K.PartialEq.eq settings calls i) at (share (segments_of settings) capacity) (ap (option_map (share (segments_of settings))) some)

pub returns-clause-count : goal.returns-clause-count
returns-clause-count g c settings calls at i capacity ones some =
    maintained-entry_count-le g.K.PartialEq.eq (share_settings settings) ones (events_of g.row.E.Denot g.K.PartialEq.eq settings calls i) at (share (segments_of settings) capacity) (ap (option_map (share (segments_of settings))) some)

pub returns-clause-live : goal.returns-clause-live
returns-clause-live g c settings calls at i = maintained-live g.K.PartialEq.eq (share_settings settings) g.met.K.Eq.laws (events_of g.row.E.Denot g.K.PartialEq.eq settings calls i) at
