-- Segments that were just built.
use Rattle.std.proofs.Common.{◌≡◌, ◌≢◌, ℕ, zero, suc, ◌+◌, ◌-◌, ◌*◌, ◌/◌, ◌%◌, ◌<◌, ◌^◌, min, Bool, Option, Some, None, IfSome, List, [], ◌∷◌, ◌++◌, subst, length, map, option_map, refl, sym, ap, ◌∙◌, arith}
use Rattle.std.specs.List.{slice_get, AllByRecursion}
use Rattle.std.proofs.Math.Nat.{div-eq_of_lt, mul-add-div_right, mod-eq-sub-div-mul, div-mul-le_self, mod-lt}
use Rattle.std.proofs.lemmas.List.{length-map}
use Rattle.moka_model.specs.Lives.{Behaviour}
use Rattle.moka_model.specs.SizeLaws.{LimitsSome}
use Rattle.moka_model.specs.StandsFor.{StandsFor}
use Rattle.moka_expiration.specs.Behaviour.{BehaviourData}
use Rattle.moka_expiration.specs.StateData.{SettingsData, StateData, settings_by, view_by}
use Rattle.moka_segment_model.specs.Segments.{share, share_settings, AllStandFor}
use Rattle.moka_segmented.specs.SegmentedData.{SegmentedData, segmented_settings_by, segmented_view_by}

-- a share by a remainder
pub share-ceil : (whole count : ℕ) → 0 < count → whole / count + min 1 (whole % count) ≡ (whole + (count - 1)) / count
share-ceil whole count some =
    let left : whole + (count - 1) ≡ whole / count * count + (whole % count + (count - 1)) = omega (arith, some, mod-eq-sub-div-mul whole count, div-mul-le_self whole count) in
    sym (ap (λ n. n / count) left ∙ mul-add-div_right some (whole / count) (whole % count + (count - 1)) ∙ ap (λ n. whole / count + n) (by (whole % count) (mod-lt whole some)))
  where
    by : (r : ℕ) → r < count → (r + (count - 1)) / count ≡ min 1 r
    by zero less = div-eq_of_lt (omega (arith, some))
    by (suc r) less =
        let one : suc r + (count - 1) ≡ 1 * count + r = omega (arith, some) in
        ap (λ n. n / count) one ∙ mul-add-div_right some 1 r ∙ ap (λ n. 1 + n) (div-eq_of_lt (let lt : r < count = omega (arith, less) in lt)) ∙ (let least : 1 + 0 ≡ min 1 (suc r) = omega arith in least)

-- a limit that is not 0
pub limits-some : (limit : Option ℕ) → limit ≢ Some 0 → LimitsSome limit
limits-some None not_none = tt
limits-some (Some zero) not_none = absurd (not_none refl)
limits-some (Some (suc n)) not_none = omega arith

-- what holds of all, and of one more, holds of all with it
pub all-more : {X : Type 0} (P : X → Type 0) (xs : List X) (x : X) → P x → AllByRecursion P xs → AllByRecursion P (xs ++ x ∷ [])
all-more P [] x here all = (here, tt)
all-more P (y ∷ ys) x here all = (all.0, all-more P ys x here all.1)

module _ {K V H W X F : Type 0} (E : Type 0) (eq : K → K → Bool) {is_clone : V → V → Type 0} (behaviour : BehaviourData H W X → Behaviour K V) (frequency : F → List ℕ → ℕ → ℕ) (opened : F) (cache : SegmentedData K V H W X F E) where
  -- where each state stands for no steps, with its share, the cache stands for no calls
  pub all-empty : length cache.segments ≡ 2 ^ cache.bits
      → AllByRecursion (λ state. StandsFor eq is_clone (share_settings (segmented_settings_by behaviour (frequency opened) cache)) (view_by behaviour frequency opened state) []) cache.segments
      → AllStandFor eq is_clone (segmented_settings_by behaviour (frequency opened) cache) (segmented_view_by behaviour frequency opened cache) []
  all-empty count all = record {
    settings = refl;
    count = length-map cache.segments (view_by behaviour frequency opened) ∙ count;
    each = at cache.segments all;
  } where
    at : (states : List (StateData K V H W X F E)) → AllByRecursion (λ state. StandsFor eq is_clone (share_settings (segmented_settings_by behaviour (frequency opened) cache)) (view_by behaviour frequency opened state) []) states
        → (i : ℕ) → IfSome (slice_get (map (view_by behaviour frequency opened) states) i) (λ one. StandsFor eq is_clone (share_settings (segmented_settings_by behaviour (frequency opened) cache)) one [])
    at [] all i = tt
    at (s ∷ ss) all zero = all.0
    at (s ∷ ss) all (suc i) = at ss all.1 i

module _ {K V H W X F : Type 0} (E : Type 0) (eq : K → K → Bool) {is_clone : V → V → Type 0} (behaviour : BehaviourData H W X → Behaviour K V) (frequency : F → List ℕ → ℕ → ℕ) (opened : F) (bits : ℕ) (whole : SettingsData H W X) where
  -- one state more that stands for no steps, with its share
  pub opened-more : (states : List (StateData K V H W X F E)) (state : StateData K V H W X F E) (count : ℕ) → count ≡ 2 ^ bits
      → state.settings ≡ record whole { name = None; max_capacity = option_map (share count) whole.max_capacity }
      → StandsFor eq is_clone (settings_by behaviour (frequency opened) state.settings) (view_by behaviour frequency opened state) []
      → AllByRecursion (λ s. StandsFor eq is_clone (share_settings (record { bits = bits; whole = settings_by behaviour (frequency opened) whole })) (view_by behaviour frequency opened s) []) states
      → AllByRecursion (λ s. StandsFor eq is_clone (share_settings (record { bits = bits; whole = settings_by behaviour (frequency opened) whole })) (view_by behaviour frequency opened s) []) (states ++ state ∷ [])
  opened-more states state count is settings empty all =
      all-more (λ s. StandsFor eq is_clone (share_settings (record { bits = bits; whole = settings_by behaviour (frequency opened) whole })) (view_by behaviour frequency opened s) []) states state here all
    where
      here : StandsFor eq is_clone (share_settings (record { bits = bits; whole = settings_by behaviour (frequency opened) whole })) (view_by behaviour frequency opened state) []
      here =
          subst (λ s. StandsFor eq is_clone s (view_by behaviour frequency opened state) [])
          (ap (settings_by behaviour (frequency opened)) settings
          ∙ ap (λ n. settings_by behaviour (frequency opened) (record whole { name = None; max_capacity = option_map (share n) whole.max_capacity })) is)
          empty
