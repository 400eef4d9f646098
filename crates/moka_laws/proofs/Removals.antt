-- What leaves at an event is the last write of the key that it writes or removes.
use Rattle.std.proofs.Common.{◌≡◌, ◌≢◌, ⊎_elim, ℕ, Bool, true, false, cond, ◌||◌, Option, None, Some, List, [], ◌∷◌, map, refl, sym, ap, ◌∙◌, subst}
use Rattle.std.specs.Cmp.{IsEquivalence}
use Rattle.std.specs.Option.{option_to_list}
use Rattle.std.specs.List.{list_any}
use Rattle.moka_model.specs.OrderLaws.{writes_of}
use Rattle.moka_model.proofs.Callers.{list_any-filtered, held-maintained, held-orders, IsStoredUnder, stored_key, standing_congr}
use Rattle.std.proofs.lemmas.Bool.{true≢false}
use Rattle.moka_model.specs.declared.notification.RemovalCause.{RemovalCause}
use Rattle.moka_model.specs.declared.notification.RemovalCause.TheVariants.{Explicit, Replaced, Size}
use Rattle.moka_model.specs.Lives.{Settings, Write}
use Rattle.moka_model.specs.Events.{Event, Looked, TurnedDown, Written, Invalidated, Hidden, Maintained, Passed, Drawn, Taken, latest}
use Rattle.moka_model.specs.Admission.{frequency}
use Rattle.moka_model.specs.Orders.{evicted_at, orders, is_evicted, standing}
use Rattle.moka_model.specs.Removals.{Removal, removal_of, removals_of, removals_at}
use Rattle.moka_laws.specs.Laws.{ends, LastWrite, NothingStands, IsRemovalOf, removals_under}
use Rattle.moka_laws.proofs.Places.{last_write_stands, standing-nothing, last_or_nothing}

module _ {K V : Type 0} (eq : K → K → Bool) (settings : Settings K V) where
  -- the last write leaves where its key is written or removed
  pub last_write_leaves : IsEquivalence eq → (k q : K) (h : List (Event K V)) (own : RemovalCause) (at : ℕ) (last : LastWrite eq settings k h) → eq q k ≡ true → (l : Removal K V) × (removals_of settings own at (standing eq settings q h) ≡ l ∷ []) × IsRemovalOf last own at l
  last_write_leaves e k q h own at last same =
      let (w, stands, as_written) = last_write_stands eq settings k h last in
      let it : standing eq settings q h ≡ Some w = standing_congr eq settings e q k h same ∙ stands in
      let under : eq w.key k ≡ true = subst (IsStoredUnder eq k) stands (stored_key eq settings k h) in
      (_, ap (removals_of settings own at) it, record { stood = w; stands = stands; as_written = as_written; key = refl; same_key = under; value = as_written.value; cause = refl })

  -- the removals of a key in a maintenance are the key's writes that leave
  removals_under-evicted : (k : K) (at : ℕ) (ws : List (Write K V)) → removals_under eq k (map (removal_of settings Size at) ws) ≡ map (removal_of settings Size at) (writes_of eq k ws)
  removals_under-evicted k at [] = refl
  removals_under-evicted k at (w ∷ ws) = rw (removals_under-evicted k at ws) (go (eq w.key k))
    where
      go : (t : Bool) → cond t (removal_of settings Size at w ∷ map (removal_of settings Size at) (writes_of eq k ws)) (map (removal_of settings Size at) (writes_of eq k ws)) ≡ map (removal_of settings Size at) (cond t (w ∷ writes_of eq k ws) (writes_of eq k ws))
      go true = refl
      go false = refl

  -- the write that stands leaves, where the key leaves
  removals_under-maintained : IsEquivalence eq → (k : K) (h : List (Event K V)) (limit : Option ℕ) (at : ℕ) → removals_under eq k (removals_at eq settings (Maintained limit at) h) ≡ map (removal_of settings Size (latest (Maintained limit at ∷ h))) (option_to_list (cond (is_evicted eq settings k limit at h) (standing eq settings k h) None))
  removals_under-maintained e k h limit at =
      let now : ℕ = latest (Maintained limit at ∷ h) in
      removals_under-evicted k now (evicted_at eq settings limit at h) ∙ ap (map (removal_of settings Size now)) (held-maintained eq settings (frequency settings h) k limit now (orders eq settings h) (standing eq settings k h) (held-orders eq settings e k h)).0

  pub maintained-stays : IsEquivalence eq → (k : K) (h : List (Event K V)) (limit : Option ℕ) (at : ℕ) → is_evicted eq settings k limit at h ≡ false → removals_under eq k (removals_at eq settings (Maintained limit at) h) ≡ []
  maintained-stays e k h limit at stays = removals_under-maintained e k h limit at ∙ ap (λ t. map (removal_of settings Size (latest (Maintained limit at ∷ h))) (option_to_list (cond t (standing eq settings k h) None))) stays

  pub maintained-leaves : IsEquivalence eq → (k : K) (h : List (Event K V)) (limit : Option ℕ) (at : ℕ) (last : LastWrite eq settings k h) → is_evicted eq settings k limit at h ≡ true
      → (l : Removal K V) × (removals_under eq k (removals_at eq settings (Maintained limit at) h) ≡ l ∷ []) × IsRemovalOf last Size (latest (Maintained limit at ∷ h)) l
  maintained-leaves e k h limit at last evicted =
      let (w, stands, as_written) = last_write_stands eq settings k h last in
      let under : eq w.key k ≡ true = subst (IsStoredUnder eq k) stands (stored_key eq settings k h) in
      let now : ℕ = latest (Maintained limit at ∷ h) in (
        _,
        removals_under-maintained e k h limit at ∙ ap (λ t. map (removal_of settings Size now) (option_to_list (cond t (standing eq settings k h) None))) evicted ∙ ap (λ o. map (removal_of settings Size now) (option_to_list o)) stands,
        record { stood = w; stands = stands; as_written = as_written; key = refl; same_key = under; value = as_written.value; cause = refl },
      )

  -- a key leaves only where a write stands for it
  is_evicted-nothing : IsEquivalence eq → (k : K) (h : List (Event K V)) (limit : Option ℕ) (at : ℕ) → standing eq settings k h ≡ None → is_evicted eq settings k limit at h ≡ false
  is_evicted-nothing e k h limit at none =
      let now : ℕ = latest (Maintained limit at ∷ h) in
      let gone_of : writes_of eq k (evicted_at eq settings limit at h) ≡ [] =
      (held-maintained eq settings (frequency settings h) k limit now (orders eq settings h) (standing eq settings k h) (held-orders eq settings e k h)).0 ∙ ap (λ o. option_to_list (cond (is_evicted eq settings k limit at h) o None)) none ∙ if_none (is_evicted eq settings k limit at h) in
      list_any-filtered (λ (w : Write K V). eq w.key k) (evicted_at eq settings limit at h) gone_of
    where
      if_none : (t : Bool) → ◌≡◌ {A = List (Write K V)} (option_to_list (cond t None None)) []
      if_none true = refl
      if_none false = refl

  -- where nothing stands nothing leaves
  pub removals_at-nothing : IsEquivalence eq → (k : K) (h : List (Event K V)) (e : Event K V) → ends eq settings k e h ≡ true → NothingStands eq settings k h → removals_at eq settings e h ≡ []
  removals_at-nothing equiv k h (Looked q at) ends_it none = refl
  removals_at-nothing equiv k h (TurnedDown q at) ends_it none = refl
  removals_at-nothing equiv k h (Written q v at) ends_it none = ap (removals_of settings Replaced (latest (Written q v at ∷ h))) (standing_congr eq settings equiv q k h ends_it ∙ standing-nothing eq settings k h none)
  removals_at-nothing equiv k h (Invalidated q at) ends_it none = ap (removals_of settings Explicit (latest (Invalidated q at ∷ h))) (standing_congr eq settings equiv q k h ends_it ∙ standing-nothing eq settings k h none)
  removals_at-nothing equiv k h (Hidden test) ends_it none = refl
  removals_at-nothing equiv k h (Maintained limit at) ends_it none = absurd (true≢false (sym ends_it ∙ is_evicted-nothing equiv k h limit at (standing-nothing eq settings k h none)))
  removals_at-nothing equiv k h (Passed at) ends_it none = refl
  removals_at-nothing equiv k h Drawn ends_it none = refl
  removals_at-nothing equiv k h Taken ends_it none = refl

  -- all that leaves is a last write of the key that the event writes or removes
  pub removals_at-alone : IsEquivalence eq → (h : List (Event K V)) (e : Event K V) → removals_at eq settings e h ≢ [] → (k : K) × (ends eq settings k e h ≡ true) × LastWrite eq settings k h
  removals_at-alone equiv h (Looked q at) some = absurd (some refl)
  removals_at-alone equiv h (TurnedDown q at) some = absurd (some refl)
  removals_at-alone equiv h (Written q v at) some = (q, equiv.refl q, ⊎_elim (λ last. last) (λ none. absurd (some (removals_at-nothing equiv q h (Written q v at) (equiv.refl q) none))) (last_or_nothing eq settings q h))
  removals_at-alone equiv h (Invalidated q at) some = (q, equiv.refl q, ⊎_elim (λ last. last) (λ none. absurd (some (removals_at-nothing equiv q h (Invalidated q at) (equiv.refl q) none))) (last_or_nothing eq settings q h))
  removals_at-alone equiv h (Hidden test) some = absurd (some refl)
  removals_at-alone equiv h (Maintained limit at) some = first (evicted_at eq settings limit at h) refl
    where
      first : (ws : List (Write K V)) → evicted_at eq settings limit at h ≡ ws → (k : K) × (is_evicted eq settings k limit at h ≡ true) × LastWrite eq settings k h
      first [] none = absurd (some (ap (map (removal_of settings Size (latest (Maintained limit at ∷ h)))) none))
      first (w ∷ ws) is =
          let evicted : is_evicted eq settings w.key limit at h ≡ true = ap (list_any (λ (u : Write K V). eq u.key w.key)) is ∙ ap (λ t. t || list_any (λ (u : Write K V). eq u.key w.key) ws) (equiv.refl w.key) in
          (w.key, evicted, ⊎_elim (λ last. last) (λ none. absurd (true≢false (sym evicted ∙ is_evicted-nothing equiv w.key h limit at (standing-nothing eq settings w.key h none)))) (last_or_nothing eq settings w.key h))
  removals_at-alone equiv h (Passed at) some = absurd (some refl)
  removals_at-alone equiv h Drawn some = absurd (some refl)
  removals_at-alone equiv h Taken some = absurd (some refl)

  -- an event that writes and removes no key makes nothing leave
  pub removals_at-looks : IsEquivalence eq → (h : List (Event K V)) (e : Event K V) → ((k : K) → ends eq settings k e h ≡ false) → removals_at eq settings e h ≡ []
  removals_at-looks equiv h (Looked q at) none = refl
  removals_at-looks equiv h (TurnedDown q at) none = refl
  removals_at-looks equiv h (Written q v at) none = absurd (true≢false (sym (equiv.refl q) ∙ none q))
  removals_at-looks equiv h (Invalidated q at) none = absurd (true≢false (sym (equiv.refl q) ∙ none q))
  removals_at-looks equiv h (Hidden test) none = refl
  removals_at-looks equiv h (Maintained limit at) none = nobody (evicted_at eq settings limit at h) refl
    where
      nobody : (ws : List (Write K V)) → evicted_at eq settings limit at h ≡ ws → removals_at eq settings (Maintained limit at) h ≡ []
      nobody [] is = ap (map (removal_of settings Size (latest (Maintained limit at ∷ h)))) is
      nobody (w ∷ ws) is =
          let evicted : is_evicted eq settings w.key limit at h ≡ true = ap (list_any (λ (u : Write K V). eq u.key w.key)) is ∙ ap (λ t. t || list_any (λ (u : Write K V). eq u.key w.key) ws) (equiv.refl w.key) in
          absurd (true≢false (sym evicted ∙ none w.key))
  removals_at-looks equiv h (Passed at) none = refl
  removals_at-looks equiv h Drawn none = refl
  removals_at-looks equiv h Taken none = refl
