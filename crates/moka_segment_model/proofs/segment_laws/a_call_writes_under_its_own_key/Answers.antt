use Rattle.std.proofs.Common.{◌+◌, ap}
use Rattle.moka_segment_model.specs.SegmentLaws.{pairs_written}
use Rattle.moka_segment_model.proofs.SegmentLaws.{none-more, added-none, added-insert}
use Rattle.moka_segment_model.proofs.segment_laws.a_call_writes_under_its_own_key.Goals as goal

pub returns-clause-own : goal.returns-clause-own
returns-clause-own g c settings calls call test fails =
    none-more _ (pairs_written g.row.E.Denot g.K.PartialEq.eq settings test calls) (added-none g.row.E.Denot g.K.PartialEq.eq settings test call calls fails)

pub returns-clause-insert : goal.returns-clause-insert
returns-clause-insert g c settings calls k v at test =
    ap (λ n. n + pairs_written g.row.E.Denot g.K.PartialEq.eq settings test calls) (added-insert g.row.E.Denot g.K.PartialEq.eq settings test k v at calls)
