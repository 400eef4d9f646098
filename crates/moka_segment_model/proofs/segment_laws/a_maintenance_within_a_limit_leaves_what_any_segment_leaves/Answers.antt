use Rattle.std.proofs.Common.{◌≡◌, ℕ, true, false, Bool, Option, Some, ap}
use Rattle.moka_model.specs.Orders.{is_left_at}
use Rattle.moka_model.specs.Calls.{Reply, Left}
use Rattle.moka_segment_model.specs.Segments.{share_settings, segments_of, events_of}
use Rattle.moka_segment_model.proofs.SegmentLaws.{any_below-some, any_below-none}
use Rattle.moka_segment_model.proofs.segment_laws.a_maintenance_within_a_limit_leaves_what_any_segment_leaves.Goals as goal

pub returns-clause-some : goal.returns-clause-some
returns-clause-some g c settings calls limit at i lt left =
    let test : ℕ → Bool = λ i. is_left_at g.K.PartialEq.eq (share_settings settings) (Some limit) at (events_of g.row.E.Denot g.K.PartialEq.eq settings calls i) in
    let here : test i ≡ true = cc in
    ap (λ b. let a : Option (Reply _ _ _) = Some (Left b) in a) (any_below-some test (segments_of settings) i lt here)

pub returns-clause-none : goal.returns-clause-none
returns-clause-none g c settings calls limit at none =
    let test : ℕ → Bool = λ i. is_left_at g.K.PartialEq.eq (share_settings settings) (Some limit) at (events_of g.row.E.Denot g.K.PartialEq.eq settings calls i) in
    ap (λ b. let a : Option (Reply _ _ _) = Some (Left b) in a) (any_below-none test (segments_of settings) (λ i lt. let it = none i lt in let here : test i ≡ false = cc in here))
