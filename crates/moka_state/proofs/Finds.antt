-- The live write of a key, by the row that is found for the key.
use Rattle.std.proofs.Common.{◌≡◌, ℕ, ◌<◌, ◌^◌, max, Bool, true, false, not, ◌&&◌, cond, is_some, List, Option, Some, None, IfSome, inl, inr, refl, sym, ap, ◌∙◌}
use Rattle.std.specs.Arc.{arc_value}
use Rattle.std.specs.Cmp.{IsEquivalence}
use Rattle.std.specs.List.{AllByRecursion}
use Rattle.moka_model.specs.Lives.{Settings, Write, has_come, is_live}
use Rattle.moka_model.specs.Events.{Looked}
use Rattle.moka_model.specs.Turns.{Turn}
use Rattle.moka_model.specs.Steps.{AcceptedStep, events_in}
use Rattle.moka_model.proofs.Callers.{whole}
use Rattle.moka_model.specs.Calls.{live_at}
use Rattle.moka_model.specs.StandsFor.{StandsFor}
use Rattle.moka_expiration.specs.declared.expiration_policy.ExpirationPolicy.{ExpirationPolicy}
use Rattle.moka_expiration.specs.ExpirationPolicy.{IsDated, AreDated, deadline_of}
use Rattle.moka_expiration.proofs.Callers.{alive-kept}
use Rattle.moka_housekeeper.specs.Hit.{UsesAt}
use Rattle.moka_rows.specs.declared.rows.Row.{Row}
use Rattle.moka_rows.specs.Rows.{row_under, touched, NoneIsRowOf}
use Rattle.moka_table.specs.LiveEntry.{FindsLive}
use Rattle.moka_table.specs.Table.{Contents, entries, stored_write}
use Rattle.moka_table.specs.WriteSlot.{is_live_row}
use Rattle.moka_table.proofs.Callers.{of-row}
use Rattle.moka_state.proofs.Becoming.{HasNoted, stored-same, becomes-hit}
use Rattle.moka_state.proofs.Held.{same-key, held-row, held-absent}
use Rattle.moka_state.proofs.Maintained.{HasLives}
use Rattle.moka_state.proofs.Views.{view_with, Becomes, one-each, live-held}

module _ {K V E : Type 0} (eq : K → K → Bool) {is_clone : V → V → Type 0} {turns : List (Turn K V E)} (laws : IsEquivalence eq) (settings : Settings K V) (contents : Contents K V) (frequency : List ℕ → ℕ → ℕ) (latest number : ℕ)
    (given : Settings K V) (steps : List (AcceptedStep K V E)) (stands : StandsFor eq is_clone given (whole (view_with settings contents frequency latest number) turns) steps) where
  -- the row stores the live value of its key, unless it is hidden or expired
  pub live-row : (lives : ExpirationPolicy) → HasLives settings lives → (k : K) (at n : ℕ) (row : Row K V) → row_under n (entries contents) ≡ Some row → eq (arc_value row.key) k ≡ true
      → (alive : Bool) → (not row.info.is_hidden && not (has_come (deadline_of lives row.info) (max latest at))) ≡ alive
      → live_at eq given k at (events_in steps) ≡ cond alive (Some (stored_write row)) None
  live-row lives expired_alike k at n row there same alive is =
      live-held eq laws given (view_with settings contents frequency latest number) steps stands k at (Some (stored_write row))
      (held-row eq contents (one-each eq laws given (view_with settings contents frequency latest number) steps stands) k n row there same)
      ∙ ap (λ (expired : Row K V → ℕ → Bool). cond (not row.info.is_hidden && not (expired row (max latest at))) (Some (stored_write row)) None) expired_alike
      ∙ ap (λ t. cond t (Some (stored_write row)) None) is

  -- where no row is found, nothing is live
  pub live-absent : (hash_of : K → ℕ) → ((a b : K) → eq a b ≡ true → hash_of a ≡ hash_of b) → AllByRecursion (λ p. p.1.hash ≡ hash_of (arc_value p.1.key)) (entries contents)
      → (k : K) (at hash : ℕ) → hash ≡ hash_of k → NoneIsRowOf eq k hash (entries contents) → live_at eq given k at (events_in steps) ≡ None
  live-absent hash_of respects hashed k at hash is none =
      live-held eq laws given (view_with settings contents frequency latest number) steps stands k at None (held-absent eq contents hash_of respects hashed k hash is none)

-- What a lookup of a live value finds is what the specification finds, for every history of the state.
module _ {K V E : Type 0} (eq : K → K → Bool) {is_clone : V → V → Type 0} {rows : List (Turn K V E)} (laws : IsEquivalence eq) (settings : Settings K V) (contents : Contents K V) (frequency : List ℕ → ℕ → ℕ) (latest number : ℕ)
    (given : Settings K V) (steps : List (AcceptedStep K V E)) (stands : StandsFor eq is_clone given (whole (view_with settings contents frequency latest number) rows) steps) (lives : ExpirationPolicy) (expired_alike : HasLives settings lives) (dated : AreDated lives (entries contents))
    (hash_of : K → ℕ) (respects : (a b : K) → eq a b ≡ true → hash_of a ≡ hash_of b) (hashed : AllByRecursion (λ p. p.1.hash ≡ hash_of (arc_value p.1.key)) (entries contents))
    (k : K) (at hash : ℕ) (is : hash ≡ hash_of k) (is_moment : max latest at < 2 ^ 64) where
  abbrev live_here : Option (Write K V)
  live_here = live_at eq given k at (events_in steps)

  abbrev Finds : Option ℕ → Type 0
  Finds found = FindsLive eq k hash (max latest at) (entries contents) found

  alive-is : (n : ℕ) (row : Row K V) → row_under n (entries contents) ≡ Some row → (alive : Bool) → is_live_row (max latest at) (Some row) ≡ alive → (not row.info.is_hidden && not (has_come (deadline_of lives row.info) (max latest at))) ≡ alive
  alive-is n row there alive live = alive-kept lives row.info (of-row (λ (r : Row K V). IsDated lives r.info) n (entries contents) row dated there) (max latest at) is_moment ∙ live

  -- the row of the key stores the live value, if it is live
  pub live-is : (n : ℕ) (row : Row K V) → row_under n (entries contents) ≡ Some row → eq (arc_value row.key) k ≡ true → (alive : Bool) → is_live_row (max latest at) (Some row) ≡ alive → live_here ≡ cond alive (Some (stored_write row)) None
  live-is n row there same alive live = live-row eq laws settings contents frequency latest number given steps stands lives expired_alike k at n row there same alive (alive-is n row there alive live)

  -- a row that is found stores the live value
  pub found-live : (n : ℕ) (found : Finds (Some n)) → live_here ≡ Some (stored_write found.0)
  found-live n (row, there, of_key, live) = live-is n row there (same-key eq k hash row of_key) true live

  -- an access of that row is the recorded lookup
  pub found-hit : (n : ℕ) (new : Contents K V) → Finds (Some n) → IfSome (row_under n (entries contents)) (λ row. UsesAt settings.behaviour lives n row (max latest at) contents new)
      → new.notices ≡ contents.notices → (noted : List ℕ → ℕ → ℕ) → HasNoted eq settings contents frequency latest number k noted
      → Becomes eq (view_with settings contents frequency latest number) (Looked k at) (view_with settings new noted (max latest at) number)
  found-hit n new (row, there, of_key, live) uses notices noted notes =
      let same = same-key eq k hash row of_key in
      let one = one-each eq laws given (view_with settings contents frequency latest number) steps stands in
      let used = rw there at uses in
      let touch_is = used.1 in
      let live_then : is_live settings (stored_write row) (max latest at) ≡ true =
      ap (λ (expired : Row K V → ℕ → Bool). not row.info.is_hidden && not (expired row (max latest at))) expired_alike ∙ alive-is n row there true live in
      becomes-hit eq settings contents frequency latest number one new k at n row there same noted used.0 notes live_then
      (stored-same _ (touched used.0 row) refl refl refl refl refl (sym touch_is.accessed) (sym touch_is.own) refl) used.2 notices

  -- where none is found, nothing is live
  pub found-none : Finds None → live_here ≡ None
  found-none (inl none) = live-absent eq laws settings contents frequency latest number given steps stands hash_of respects hashed k at hash is none
  found-none (inr (n, row, there, of_key, dead)) = live-is n row there (same-key eq k hash row of_key) false dead

  -- one is found if a value is live
  pub found-is : (found : Option ℕ) → Finds found → is_some live_here ≡ is_some found
  found-is None none = ap is_some (found-none none)
  found-is (Some n) there = ap is_some (found-live n there)
