-- What stands for equal keys is the same, and it is stored under an equal key.
use Rattle.std.proofs.Common.{◌≡◌, ℕ, Bool, true, Option, Some, None, List, [], ◌∷◌, refl, ap, ◌∙◌}
use Rattle.std.specs.Cmp.{IsEquivalence}
use Rattle.std.specs.Option.{option_map}
use Rattle.std.specs.List.{list_any}
use Rattle.std.proofs.lemmas.Bool.{cond_both}
use Rattle.moka_model.specs.Lives.{Settings, Write, is_live, hit, after_look, after_write, hidden_by}
use Rattle.moka_model.specs.Events.{Event, Looked, TurnedDown, Written, Invalidated, Hidden, Maintained, Passed, Drawn, Taken, latest}
use Rattle.moka_model.specs.Orders.{evicted_at, is_evicted, standing}

-- a key is equal to just what an equal key is equal to
pub eq_congr_right : {K : Type 0} {eq : K → K → Bool} → IsEquivalence eq → (p q k : K) → eq q k ≡ true → eq p q ≡ eq p k
eq_congr_right e p q k same = e.symm p q ∙ e.congr q k p same ∙ e.symm k p

-- the write is stored under an equal key, where one stands
abbrev pub IsStoredUnder : {K V : Type 0} → (K → K → Bool) → K → Option (Write K V) → Type 0
IsStoredUnder eq k None = Unit {0}
IsStoredUnder eq k (Some w) = eq w.key k ≡ true

module _ {K V : Type 0} (eq : K → K → Bool) (settings : Settings K V) where
  -- a hit keeps the stored key
  IsStoredUnder-after_look : (k : K) (at : ℕ) (o : Option (Write K V)) → IsStoredUnder eq k o → IsStoredUnder eq k (option_map (after_look settings at) o)
  IsStoredUnder-after_look k at None s = tt
  IsStoredUnder-after_look k at (Some w) s = cond_both (is_live settings w at) (hit settings at w) w (λ (u : Write K V). eq u.key k ≡ true) (λ _. s) (λ _. s)

  -- a write keeps the stored key, and else brings its own
  IsStoredUnder-after_write : (k q : K) (v : V) (at : ℕ) (o : Option (Write K V)) → eq q k ≡ true → IsStoredUnder eq k o → IsStoredUnder eq k (Some (after_write settings q v at o))
  IsStoredUnder-after_write k q v at None same s = same
  IsStoredUnder-after_write k q v at (Some w) same s = s

  -- hiding keeps the stored key
  IsStoredUnder-hidden_by : (k : K) (test : K → V → Bool) (o : Option (Write K V)) → IsStoredUnder eq k o → IsStoredUnder eq k (option_map (hidden_by test) o)
  IsStoredUnder-hidden_by k test None s = tt
  IsStoredUnder-hidden_by k test (Some w) s = s

  -- what stands for a key is stored under an equal one
  pub stored_key : (k : K) (h : List (Event K V)) → IsStoredUnder eq k (standing eq settings k h)
  stored_key k [] = tt
  stored_key k (Looked q at ∷ h) = cond_both (eq q k) (option_map (after_look settings (latest (Looked q at ∷ h))) (standing eq settings k h)) (standing eq settings k h) (IsStoredUnder eq k) (λ _. IsStoredUnder-after_look k (latest (Looked q at ∷ h)) (standing eq settings k h) (stored_key k h)) (λ _. stored_key k h)
  stored_key k (TurnedDown q at ∷ h) = stored_key k h
  stored_key k (Written q v at ∷ h) = cond_both (eq q k) (Some (after_write settings q v (latest (Written q v at ∷ h)) (standing eq settings k h))) (standing eq settings k h) (IsStoredUnder eq k) (λ same. IsStoredUnder-after_write k q v (latest (Written q v at ∷ h)) (standing eq settings k h) same (stored_key k h)) (λ _. stored_key k h)
  stored_key k (Invalidated q at ∷ h) = cond_both (eq q k) None (standing eq settings k h) (IsStoredUnder eq k) (λ _. tt) (λ _. stored_key k h)
  stored_key k (Hidden test ∷ h) = IsStoredUnder-hidden_by k test (standing eq settings k h) (stored_key k h)
  stored_key k (Maintained limit at ∷ h) = cond_both (is_evicted eq settings k limit at h) None (standing eq settings k h) (IsStoredUnder eq k) (λ _. tt) (λ _. stored_key k h)
  stored_key k (Passed at ∷ h) = stored_key k h
  stored_key k (Drawn ∷ h) = stored_key k h
  stored_key k (Taken ∷ h) = stored_key k h

  -- some write has an equal key just where it has this one
  list_any-congr : IsEquivalence eq → (q k : K) (ws : List (Write K V)) → eq q k ≡ true → list_any (λ (w : Write K V). eq w.key q) ws ≡ list_any (λ (w : Write K V). eq w.key k) ws
  list_any-congr e q k [] same = refl
  list_any-congr e q k (w ∷ ws) same = rw (eq_congr_right e w.key q k same, list_any-congr e q k ws same)

  -- equal keys leave together
  pub is_evicted-congr : IsEquivalence eq → (q k : K) (limit : Option ℕ) (at : ℕ) (h : List (Event K V)) → eq q k ≡ true → is_evicted eq settings q limit at h ≡ is_evicted eq settings k limit at h
  is_evicted-congr e q k limit at h same = list_any-congr e q k (evicted_at eq settings limit at h) same

  -- the same write stands for equal keys
  pub standing_congr : IsEquivalence eq → (q k : K) (h : List (Event K V)) → eq q k ≡ true → standing eq settings q h ≡ standing eq settings k h
  standing_congr e q k [] same = refl
  standing_congr e q k (Looked p at ∷ h) same = rw (eq_congr_right e p q k same, standing_congr e q k h same)
  standing_congr e q k (TurnedDown p at ∷ h) same = standing_congr e q k h same
  standing_congr e q k (Written p v at ∷ h) same = rw (eq_congr_right e p q k same, standing_congr e q k h same)
  standing_congr e q k (Invalidated p at ∷ h) same = rw (eq_congr_right e p q k same, standing_congr e q k h same)
  standing_congr e q k (Hidden test ∷ h) same = ap (option_map (hidden_by test)) (standing_congr e q k h same)
  standing_congr e q k (Maintained limit at ∷ h) same = rw (is_evicted-congr e q k limit at h same, standing_congr e q k h same)
  standing_congr e q k (Passed at ∷ h) same = standing_congr e q k h same
  standing_congr e q k (Drawn ∷ h) same = standing_congr e q k h same
  standing_congr e q k (Taken ∷ h) same = standing_congr e q k h same
