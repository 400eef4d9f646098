-- Each value that was written to a key has left, or stands.
use Rattle.std.proofs.Common.{◌≡◌, ℕ, Bool, true, false, if◌then◌else◌, Option, Some, None, List, [], ◌∷◌, ◌++◌, refl, sym, ap, ◌∙◌, append-nil, map, cond, length, filter, length-append, add_comm, ◌+◌, ⊎_elim}
use Rattle.std.specs.Cmp.{IsEquivalence}
use Rattle.std.specs.Option.{option_map, option_to_list}
use Rattle.std.proofs.lemmas.Bool.{cond-true, cond-false, cond_both, cases_Bool}
use Rattle.std.proofs.lemmas.List.Elements.{filter-append}
use Rattle.moka_model.specs.declared.notification.RemovalCause.{RemovalCause}
use Rattle.moka_model.specs.declared.notification.RemovalCause.TheVariants.{Explicit, Replaced, Size}
use Rattle.moka_model.specs.Lives.{Settings, Write, is_live, hit, after_look, after_write, hidden_by}
use Rattle.moka_model.specs.Events.{Event, Looked, TurnedDown, Written, Invalidated, Hidden, Maintained, Passed, Drawn, Taken, latest}
use Rattle.moka_model.specs.Admission.{frequency}
use Rattle.moka_model.specs.Orders.{evicted_at, orders, is_evicted, standing}
use Rattle.moka_model.specs.Removals.{Removal, removal_of, removals_of, removals}
use Rattle.moka_laws.specs.Laws.{values_written, values_left, value_standing}
use Rattle.moka_model.specs.OrderLaws.{writes_of}
use Rattle.moka_model.proofs.Callers.{held-maintained, held-orders, IsStoredUnder, stored_key, standing_congr}

-- a choice of fronts
if-append : {A : Type 0} (t : Bool) (x y z : List A) → (if t then x ++ z else y ++ z) ≡ (if t then x else y) ++ z
if-append true x y z = refl
if-append false x y z = refl

-- the values that left in two rows of removals
pub values_left-append : {K V : Type 0} (eq : K → K → Bool) (k : K) (a b : List (Removal K V)) → values_left eq k (a ++ b) ≡ values_left eq k a ++ values_left eq k b
values_left-append eq k [] b = refl
values_left-append eq k (l ∷ a) b = rw (values_left-append eq k a b) (if-append (eq l.key k) (l.value ∷ values_left eq k a) (values_left eq k a) (values_left eq k b))

module _ {K V : Type 0} (eq : K → K → Bool) (settings : Settings K V) where
  -- what stood under an equal key leaves with its value
  values_left-left_same : (k : K) (own : RemovalCause) (at : ℕ) (o : Option (Write K V)) → IsStoredUnder eq k o → values_left eq k (removals_of settings own at o) ≡ value_standing o
  values_left-left_same k own at None s = refl
  values_left-left_same k own at (Some w) s = cond-true (eq w.key k) (w.value ∷ []) [] s

  -- what stood under another key leaves nothing of this one
  values_left-left_other : IsEquivalence eq → (k q : K) (own : RemovalCause) (at : ℕ) (o : Option (Write K V)) → eq q k ≡ false → IsStoredUnder eq q o → values_left eq k (removals_of settings own at o) ≡ []
  values_left-left_other e k q own at None other s = refl
  values_left-left_other e k q own at (Some w) other s = cond-false (eq w.key k) (w.value ∷ []) [] (e.congr w.key q k s ∙ other)

  -- a hit keeps the value
  value_standing-after_look : (at : ℕ) (o : Option (Write K V)) → value_standing (option_map (after_look settings at) o) ≡ value_standing o
  value_standing-after_look at None = refl
  value_standing-after_look at (Some w) = cond_both (is_live settings w at) (hit settings at w) w (λ (u : Write K V). (u.value ∷ []) ≡ (w.value ∷ [])) (λ _. refl) (λ _. refl)

  -- and so does a hiding
  value_standing-hidden_by : (test : K → V → Bool) (o : Option (Write K V)) → value_standing (option_map (hidden_by test) o) ≡ value_standing o
  value_standing-hidden_by test None = refl
  value_standing-hidden_by test (Some w) = refl

  -- so does a look at any key
  value_standing-look : (t : Bool) (at : ℕ) (o : Option (Write K V)) → value_standing (if t then option_map (after_look settings at) o else o) ≡ value_standing o
  value_standing-look true at o = value_standing-after_look at o
  value_standing-look false at o = refl

  -- after a write its value stands
  value_standing-after_write : (q : K) (v : V) (at : ℕ) (o : Option (Write K V)) → value_standing (Some (after_write settings q v at o)) ≡ v ∷ []
  value_standing-after_write q v at None = refl
  value_standing-after_write q v at (Some w) = refl

  -- a write to the key: the value that stood has left, and the new one stands
  conserved_same : (k q : K) (v : V) (at : ℕ) (written : List V) (gone : List (Removal K V)) (o other : Option (Write K V)) → IsStoredUnder eq k o → other ≡ o → written ≡ values_left eq k gone ++ value_standing o → written ++ v ∷ [] ≡ values_left eq k (gone ++ removals_of settings Replaced at other) ++ value_standing (Some (after_write settings q v at o))
  conserved_same k q v at written gone o other s same ih = rw (same, values_left-append eq k gone (removals_of settings Replaced at o), values_left-left_same k Replaced at o s, value_standing-after_write q v at o, ih)

  -- a write to another key, or its removal: nothing of this key leaves
  conserved_other : IsEquivalence eq → (k q : K) (own : RemovalCause) (at : ℕ) (written : List V) (gone : List (Removal K V)) (o other : Option (Write K V)) → eq q k ≡ false → IsStoredUnder eq q other → written ≡ values_left eq k gone ++ value_standing o → written ≡ values_left eq k (gone ++ removals_of settings own at other) ++ value_standing o
  conserved_other e k q own at written gone o other apart s ih = rw (values_left-append eq k gone (removals_of settings own at other), values_left-left_other e k q own at other apart s, append-nil (values_left eq k gone)) ih

  -- a removal of the key: the value that stood has left, and none stands
  conserved_removed : (k : K) (at : ℕ) (written : List V) (gone : List (Removal K V)) (o other : Option (Write K V)) → IsStoredUnder eq k o → other ≡ o → written ≡ values_left eq k gone ++ value_standing o → written ≡ values_left eq k (gone ++ removals_of settings Explicit at other) ++ []
  conserved_removed k at written gone o other s same ih = rw (same, append-nil (values_left eq k (gone ++ removals_of settings Explicit at o)), values_left-append eq k gone (removals_of settings Explicit at o), values_left-left_same k Explicit at o s) ih

  -- what leaves in a maintenance leaves with its value
  values_left-evicted : (k : K) (at : ℕ) (ws : List (Write K V)) → values_left eq k (map (removal_of settings Size at) ws) ≡ map (λ (w : Write K V). w.value) (writes_of eq k ws)
  values_left-evicted k at [] = refl
  values_left-evicted k at (w ∷ ws) = rw (values_left-evicted k at ws) (go (eq w.key k))
    where
      go : (t : Bool) → cond t (w.value ∷ map (λ (u : Write K V). u.value) (writes_of eq k ws)) (map (λ (u : Write K V). u.value) (writes_of eq k ws)) ≡ map (λ (u : Write K V). u.value) (cond t (w ∷ writes_of eq k ws) (writes_of eq k ws))
      go true = refl
      go false = refl

  -- so the value that stood leaves in it, or stands still
  conserved_maintained : (k : K) (at : ℕ) (written : List V) (gone : List (Removal K V)) (ws : List (Write K V)) (o : Option (Write K V)) (t : Bool) → writes_of eq k ws ≡ option_to_list (cond t o None)
      → written ≡ values_left eq k gone ++ value_standing o → written ≡ values_left eq k (gone ++ map (removal_of settings Size at) ws) ++ value_standing (cond t None o)
  conserved_maintained k at written gone ws o t gone_of ih =
      let values : values_left eq k (gone ++ map (removal_of settings Size at) ws) ≡ values_left eq k gone ++ map (λ (w : Write K V). w.value) (option_to_list (cond t o None)) =
      values_left-append eq k gone (map (removal_of settings Size at) ws) ∙ ap (λ l. values_left eq k gone ++ l) (values_left-evicted k at ws ∙ ap (map (λ (w : Write K V). w.value)) gone_of) in
      ih ∙ go t o ∙ ap (λ l. l ++ value_standing (cond t None o)) (sym values)
    where
      go : (t : Bool) (o : Option (Write K V)) → values_left eq k gone ++ value_standing o ≡ (values_left eq k gone ++ map (λ (w : Write K V). w.value) (option_to_list (cond t o None))) ++ value_standing (cond t None o)
      go true None = sym (append-nil (values_left eq k gone ++ []))
      go true (Some w) = sym (append-nil (values_left eq k gone ++ w.value ∷ []))
      go false None = ap (λ l. l ++ []) (sym (append-nil (values_left eq k gone)))
      go false (Some w) = ap (λ l. l ++ w.value ∷ []) (sym (append-nil (values_left eq k gone)))

  -- the values written are those that left, and then the one that stands
  pub values_conserved : IsEquivalence eq → (k : K) (h : List (Event K V)) → values_written eq k h ≡ values_left eq k (removals eq settings h) ++ value_standing (standing eq settings k h)
  values_conserved e k [] = refl
  values_conserved e k (Looked q at ∷ h) = rw (append-nil (removals eq settings h), value_standing-look (eq q k) (latest (Looked q at ∷ h)) (standing eq settings k h)) (values_conserved e k h)
  values_conserved e k (TurnedDown q at ∷ h) = rw (append-nil (removals eq settings h)) (values_conserved e k h)
  values_conserved e k (Written q v at ∷ h) =
      ⊎_elim
      (λ same. rw same (conserved_same k q v (latest (Written q v at ∷ h)) (values_written eq k h) (removals eq settings h) (standing eq settings k h) (standing eq settings q h) (stored_key eq settings k h) (standing_congr eq settings e q k h same) (values_conserved e k h)))
      (λ apart. rw apart (append-nil (values_written eq k h) ∙ conserved_other e k q Replaced (latest (Written q v at ∷ h)) (values_written eq k h) (removals eq settings h) (standing eq settings k h) (standing eq settings q h) apart (stored_key eq settings q h) (values_conserved e k h)))
      (cases_Bool (eq q k))
  values_conserved e k (Invalidated q at ∷ h) =
      ⊎_elim
      (λ same. rw same (conserved_removed k (latest (Invalidated q at ∷ h)) (values_written eq k h) (removals eq settings h) (standing eq settings k h) (standing eq settings q h) (stored_key eq settings k h) (standing_congr eq settings e q k h same) (values_conserved e k h)))
      (λ apart. rw apart (conserved_other e k q Explicit (latest (Invalidated q at ∷ h)) (values_written eq k h) (removals eq settings h) (standing eq settings k h) (standing eq settings q h) apart (stored_key eq settings q h) (values_conserved e k h)))
      (cases_Bool (eq q k))
  values_conserved e k (Hidden test ∷ h) = rw (append-nil (removals eq settings h), value_standing-hidden_by test (standing eq settings k h)) (values_conserved e k h)
  values_conserved e k (Maintained limit at ∷ h) =
      let now : ℕ = latest (Maintained limit at ∷ h) in
      conserved_maintained k now (values_written eq k h) (removals eq settings h) (evicted_at eq settings limit at h) (standing eq settings k h) (is_evicted eq settings k limit at h) (held-maintained eq settings (frequency settings h) k limit now (orders eq settings h) (standing eq settings k h) (held-orders eq settings e k h)).0 (values_conserved e k h)
  values_conserved e k (Passed at ∷ h) = rw (append-nil (removals eq settings h)) (values_conserved e k h)
  values_conserved e k (Drawn ∷ h) = rw (append-nil (removals eq settings h)) (values_conserved e k h)
  values_conserved e k (Taken ∷ h) = rw (append-nil (removals eq settings h)) (values_conserved e k h)

  -- so for each test as many written values pass it as stand or left
  pub values_counted : IsEquivalence eq → (k : K) (p : V → Bool) (h : List (Event K V)) → length (filter p (values_written eq k h)) ≡ length (filter p (value_standing (standing eq settings k h))) + length (filter p (values_left eq k (removals eq settings h)))
  values_counted e k p h =
      let gone : List V = values_left eq k (removals eq settings h) in
      let stands : List V = value_standing (standing eq settings k h) in
      ap (λ vs. length (filter p vs)) (values_conserved e k h) ∙ ap length (filter-append p gone stands) ∙ length-append (filter p gone) (filter p stands) ∙ add_comm (length (filter p gone)) (length (filter p stands))
