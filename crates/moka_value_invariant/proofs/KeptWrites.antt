-- After events that satisfy `keeps`, all that is stored satisfies it, and all that was removed.
use Rattle.std.proofs.Common.{◌≡◌, ℕ, max, Bool, true, false, cond, option_map, Option, Some, None, List, [], ◌∷◌, ◌++◌, slice_get, sym, ◌∙◌, subst}
use Rattle.std.specs.Cmp.{IsEquivalence}
use Rattle.std.specs.Option.{IfSome, option_to_list}
use Rattle.std.specs.List.{All, AllByRecursion}
use Rattle.std.proofs.lemmas.Bool.{cond_both}
use Rattle.std.proofs.lemmas.List.Elements.{All-from_recursion, All-nil, All-cons, All-head, All-append, All-map, All-drop}
use Rattle.moka_model.specs.declared.notification.RemovalCause.{RemovalCause}
use Rattle.moka_model.specs.declared.notification.RemovalCause.TheVariants.{Explicit, Replaced, Size}
use Rattle.moka_model.specs.Maintenance.{done}
use Rattle.moka_model.specs.MaintenanceLaws.{everything}
use Rattle.moka_model.specs.Lives.{Settings, Write, is_live, live_one, hit, after_look, after_write, hidden_by}
use Rattle.moka_model.specs.Events.{Event, Looked, TurnedDown, Written, Invalidated, Hidden, Maintained, Passed, Drawn, Taken, latest}
use Rattle.moka_model.specs.Admission.{frequency, wins}
use Rattle.moka_model.specs.Orders.{parts_at, orders, evicted_at, is_evicted, standing}
use Rattle.moka_model.specs.OrderLaws.{writes_of}
use Rattle.moka_model.specs.Removals.{Removal, removal_of, removals_of, removals_at, removals, taken, notices_left}
use Rattle.moka_model.specs.Calls.{live_at}
use Rattle.moka_model.proofs.Callers.{IsStoredUnder, stored_key, held-orders, InParts-parts, InParts-done, All-evicted_in}
use Rattle.moka_value_invariant.specs.Keeps.{IsAlike, EventKeeps}

-- what holds of two lists together holds of each
both-parts : {A : Type 0} (P : A → Type 0) (xs ys : List A) → AllByRecursion P (xs ++ ys) → AllByRecursion P xs × AllByRecursion P ys
both-parts P [] ys all = (tt, all)
both-parts P (x ∷ xs) ys all = let more = both-parts P xs ys all.1 in ((all.0, more.0), more.1)

-- the first of some, if there is one, is one of them
first-holds : {A : Type 0} (P : A → Type 0) (xs : List A) → All P xs → IfSome (slice_get xs 0) P
first-holds P [] all = tt
first-holds P (x ∷ xs) all = All-head P x xs all

module _ {K V : Type 0} (keeps : K → V → Type 0) (eq : K → K → Bool) (settings : Settings K V) (laws : IsEquivalence eq) (alike : IsAlike keeps eq) where
  -- a stored write satisfies `keeps` with its stored key
  abbrev WriteKeeps : Write K V → Type 0
  WriteKeeps w = keeps w.key w.value

  -- and a notice with its own
  abbrev pub RemovalKeeps : Removal K V → Type 0
  RemovalKeeps r = keeps r.key r.value

  looked-keeps : (at : ℕ) (o : Option (Write K V)) → IfSome o WriteKeeps → IfSome (option_map (after_look settings at) o) WriteKeeps
  looked-keeps at None keep = tt
  looked-keeps at (Some w) keep = cond_both (is_live settings w at) (hit settings at w) w WriteKeeps (λ _. keep) (λ _. keep)

  hidden-keeps : (test : K → V → Bool) (o : Option (Write K V)) → IfSome o WriteKeeps → IfSome (option_map (hidden_by test) o) WriteKeeps
  hidden-keeps test None keep = tt
  hidden-keeps test (Some w) keep = keep

  -- a write stores its value under the key that stands, which is equal to its own
  written-keeps : (k q : K) (v : V) (at : ℕ) (o : Option (Write K V)) → eq q k ≡ true → IsStoredUnder eq k o → keeps q v → WriteKeeps (after_write settings q v at o)
  written-keeps k q v at None same under keep = keep
  written-keeps k q v at (Some w) same under keep = alike q w.key v (laws.congr q k w.key same ∙ laws.symm k w.key ∙ under) keep

  standing-keeps : (k : K) (h : List (Event K V)) → AllByRecursion (EventKeeps keeps) h → IfSome (standing eq settings k h) WriteKeeps
  standing-keeps k [] all = tt
  standing-keeps k (Looked q at ∷ h) all =
      let now : ℕ = latest (Looked q at ∷ h) in
      let before = standing-keeps k h all.1 in
      cond_both (eq q k) (option_map (after_look settings now) (standing eq settings k h)) (standing eq settings k h) (λ o. IfSome o WriteKeeps) (λ _. looked-keeps now (standing eq settings k h) before) (λ _. before)
  standing-keeps k (TurnedDown q at ∷ h) all = standing-keeps k h all.1
  standing-keeps k (Written q v at ∷ h) all =
      let now : ℕ = latest (Written q v at ∷ h) in
      cond_both (eq q k) (Some (after_write settings q v now (standing eq settings k h))) (standing eq settings k h) (λ o. IfSome o WriteKeeps)
      (λ same. written-keeps k q v now (standing eq settings k h) same (stored_key eq settings k h) all.0)
      (λ _. standing-keeps k h all.1)
  standing-keeps k (Invalidated q at ∷ h) all = cond_both (eq q k) None (standing eq settings k h) (λ o. IfSome o WriteKeeps) (λ _. tt) (λ _. standing-keeps k h all.1)
  standing-keeps k (Hidden test ∷ h) all = hidden-keeps test (standing eq settings k h) (standing-keeps k h all.1)
  standing-keeps k (Maintained limit at ∷ h) all = cond_both (is_evicted eq settings k limit at h) None (standing eq settings k h) (λ o. IfSome o WriteKeeps) (λ _. tt) (λ _. standing-keeps k h all.1)
  standing-keeps k (Passed at ∷ h) all = standing-keeps k h all.1
  standing-keeps k (Drawn ∷ h) all = standing-keeps k h all.1
  standing-keeps k (Taken ∷ h) all = standing-keeps k h all.1

  -- a live write satisfies `keeps` with its stored key and with the key of the lookup
  abbrev pub LiveKeeps : K → Write K V → Type 0
  LiveKeeps k w = keeps w.key w.value × keeps k w.value

  pub live-keeps : (k : K) (at : ℕ) (h : List (Event K V)) → AllByRecursion (EventKeeps keeps) h → IfSome (live_at eq settings k at h) (LiveKeeps k)
  live-keeps k at h all = go (standing eq settings k h) (stored_key eq settings k h) (standing-keeps k h all)
    where
      now : ℕ
      now = max (latest h) at

      go : (o : Option (Write K V)) → IsStoredUnder eq k o → IfSome o WriteKeeps → IfSome (live_one settings now o) (LiveKeeps k)
      go None under keep = tt
      go (Some w) under keep = cond_both (is_live settings w now) (Some w) None (λ o. IfSome o (LiveKeeps k)) (λ _. (keep, alike w.key k w.value under keep)) (λ _. tt)

  -- what holds of the writes of each key holds of all
  each-key : (ws : List (Write K V)) → ((k : K) → AllByRecursion WriteKeeps (writes_of eq k ws)) → AllByRecursion WriteKeeps ws
  each-key [] of = tt
  each-key (w ∷ ws) of = (here, each-key ws (λ k. behind k (of k)))
    where
      behind : (k : K) → AllByRecursion WriteKeeps (writes_of eq k (w ∷ ws)) → AllByRecursion WriteKeeps (writes_of eq k ws)
      behind k = go (eq w.key k)
        where
          go : (b : Bool) → AllByRecursion WriteKeeps (cond b (w ∷ writes_of eq k ws) (writes_of eq k ws)) → AllByRecursion WriteKeeps (writes_of eq k ws)
          go true all = all.1
          go false all = all

      here : WriteKeeps w
      here = let all = rw (laws.refl w.key) at (of w.key) in all.0

  orders-keep : (h : List (Event K V)) → AllByRecursion (EventKeeps keeps) h → AllByRecursion WriteKeeps (everything (orders eq settings h))
  orders-keep h all = each-key (everything (orders eq settings h)) (λ k. subst (AllByRecursion WriteKeeps) (sym (held-orders eq settings laws k h)) (go (standing eq settings k h) (standing-keeps k h all)))
    where
      go : (o : Option (Write K V)) → IfSome o WriteKeeps → AllByRecursion WriteKeeps (option_to_list o)
      go None keep = tt
      go (Some w) keep = (keep, tt)

  evicted-keep : (limit : Option ℕ) (at : ℕ) (h : List (Event K V)) → AllByRecursion (EventKeeps keeps) h → All WriteKeeps (evicted_at eq settings limit at h)
  evicted-keep limit at h all =
      let now : ℕ = latest (Maintained limit at ∷ h) in
      let q = orders eq settings h in
      let ps = parts_at settings (frequency settings h) now q in
      let both = both-parts WriteKeeps q.admitted q.waiting (orders-keep h all) in
      All-evicted_in WriteKeeps (done limit ps)
      (InParts-done WriteKeeps limit ps
      (InParts-parts WriteKeeps (λ (w : Write K V). w.policy_weight) settings.max_capacity (wins settings (frequency settings h)) (λ (w : Write K V). is_live settings w now) q
      (All-from_recursion WriteKeeps q.admitted both.0) (All-from_recursion WriteKeeps q.waiting both.1)))

  gone-keeps : (own : RemovalCause) (at : ℕ) (o : Option (Write K V)) → IfSome o WriteKeeps → All RemovalKeeps (removals_of settings own at o)
  gone-keeps own at None keep = All-nil RemovalKeeps
  gone-keeps own at (Some w) keep = All-cons RemovalKeeps (removal_of settings own at w) [] keep (All-nil RemovalKeeps)

  removals_at-keep : (e : Event K V) (h : List (Event K V)) → AllByRecursion (EventKeeps keeps) h → All RemovalKeeps (removals_at eq settings e h)
  removals_at-keep (Written k v at) h all = gone-keeps Replaced (latest (Written k v at ∷ h)) (standing eq settings k h) (standing-keeps k h all)
  removals_at-keep (Invalidated k at) h all = gone-keeps Explicit (latest (Invalidated k at ∷ h)) (standing eq settings k h) (standing-keeps k h all)
  removals_at-keep (Maintained limit at) h all = All-map RemovalKeeps (removal_of settings Size (latest (Maintained limit at ∷ h))) (evicted_at eq settings limit at h) (evicted-keep limit at h all)
  removals_at-keep e h all = All-nil RemovalKeeps

  removals-keep : (h : List (Event K V)) → AllByRecursion (EventKeeps keeps) h → All RemovalKeeps (removals eq settings h)
  removals-keep [] all = All-nil RemovalKeeps
  removals-keep (e ∷ h) all = All-append RemovalKeeps (removals eq settings h) (removals_at eq settings e h) (removals-keep h all.1) (removals_at-keep e h all.1)

  -- the notice that is taken next satisfies `keeps`
  pub notice-keeps : (h : List (Event K V)) → AllByRecursion (EventKeeps keeps) h → IfSome (slice_get (notices_left eq settings h) 0) RemovalKeeps
  notice-keeps h all = first-holds RemovalKeeps (notices_left eq settings h) (All-drop RemovalKeeps (taken eq settings h) (removals eq settings h) (removals-keep h all))
