-- What the state of a key's segment says of its steps is said of the segment that a call of the key asks.
use Rattle.std.proofs.Common.{◌≡◌, ℕ, Bool, Some, List, sym, subst}
use Rattle.moka_model.specs.Lives.{Behaviour, Settings}
use Rattle.moka_model.specs.Steps.{AcceptedStep}
use Rattle.moka_model.specs.Calls.{Call}
use Rattle.moka_model.specs.StandsFor.{StandsFor}
use Rattle.moka_expiration.specs.Behaviour.{BehaviourData}
use Rattle.moka_expiration.specs.StateData.{StateData, view_by}
use Rattle.moka_segment_model.specs.Segments.{segment_of_place, steps_in, place_of, share_settings, AtEachList, key_in}
use Rattle.moka_segment_model.proofs.Callers.{routed}
use Rattle.moka_segmented.specs.SegmentedData.{SegmentedData, segmented_settings_by, segmented_view_by}
use Rattle.moka_segmented.proofs.Routed.{Routing, routed-history}

pub routed-asked : {K V H W X F : Type 0} (E : Type 0) (eq : K → K → Bool) {is_clone : V → V → Type 0} (behaviour : BehaviourData H W X → Behaviour K V) (frequency : F → List ℕ → ℕ → ℕ) (opened : F) (cache : SegmentedData K V H W X F E)
    (here : StateData K V H W X F E) (index : ℕ) (k : K) (routing : Routing (segmented_settings_by behaviour (frequency opened) cache) cache.segments here index k) (call : Call K V E) (key : key_in call ≡ Some k)
    (P : Settings K V → List (AcceptedStep K V E) → Type 0) → ((s : Settings K V) (steps : List (AcceptedStep K V E)) → StandsFor eq is_clone s (view_by behaviour frequency opened here) steps → P s steps)
    → AtEachList eq is_clone (segmented_view_by behaviour frequency opened cache) (λ given calls. P (share_settings given) (steps_in E eq given calls (segment_of_place (place_of E eq given calls call))))
routed-asked E eq behaviour frequency opened cache here index k routing call key P each given calls stand =
    subst (λ place. P (share_settings given) (steps_in E eq given calls (segment_of_place place))) (sym ((routed E eq given k call calls key).place))
    (routed-history E eq behaviour frequency opened cache here index k routing P each given calls stand)
