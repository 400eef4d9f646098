-- What `replace_if` is shown: the live value of the key, which satisfies the invariant.
use Rattle.std.proofs.Common.{◌≡◌, ℕ, ◌<◌, ◌^◌, ◌==◌, max, Bool, true, false, cond, not, ◌&&◌, Option, Some, None, List, [], ◌∷◌, ◌++◌, refl, sym, ap, ◌∙◌, subst, inl, inr, ◌⊎◌}
use Rattle.std.specs.Arc.{arc_value}
use Rattle.std.specs.Fn.{Mut, TakesAt}
use Rattle.std.specs.List.{AllByRecursion}
use denote.Ref.{Bor}
use Rattle.moka_model.specs.Lives.{Settings, Write, has_come, is_live}
use Rattle.moka_model.specs.Turns.{IsIn}
use Rattle.moka_rows.specs.declared.rows.Row.{Row}
use Rattle.moka_rows.specs.Rows.{row_under}
use Rattle.moka_expiration.specs.declared.expiration_policy.ExpirationPolicy.{ExpirationPolicy}
use Rattle.moka_expiration.specs.ExpirationPolicy.{IsDated, AreDated}
use Rattle.moka_expiration.proofs.Callers.{alive-kept}
use Rattle.moka_table.specs.LiveEntry.{LeavesShown, TakesLiveRow}
use Rattle.moka_table.specs.WriteSlot.{is_live_row}
use Rattle.moka_table.specs.Table.{Contents, entries, stored_write, stored_writes}
use Rattle.moka_table.proofs.Callers.{of-row}
use Rattle.moka_state.specs.Begin.{IsShownKept}
use Rattle.moka_state.proofs.Held.{same-key, stored-append}
use Rattle.moka_state.proofs.Maintained.{HasLives}

-- the write of a row is among the stored ones
in-stored : {K V : Type 0} (n : ℕ) (ps : List (ℕ × Row K V)) (row : Row K V) → row_under n ps ≡ Some row → IsIn (stored_write row) (stored_writes ps)
in-stored n [] row there = cc
in-stored {K} {V} n (p ∷ ps) row there = go (p.0 == n) (λ later. in-stored n ps row later) there
  where
    go : (b : Bool) → (row_under n ps ≡ Some row → IsIn (stored_write row) (stored_writes ps)) → cond b (Some p.1) (row_under n ps) ≡ Some row → (stored_write p.1 ≡ stored_write row) ⊎ IsIn (stored_write row) (stored_writes ps)
    go true rest here = let same : p.1 ≡ row = cc in inl (ap (λ (r : Row K V). stored_write r) same)
    go false rest later = inr (rest later)

module _ {K V F : Type 0} (eq : K → K → Bool) (keeps : K → V → Type 0) (alike : (a b : K) (v : V) → eq a b ≡ true → keeps a v → keeps b v)
    (contents : Contents K V) (kept : AllByRecursion (λ p. keeps (arc_value p.1.key) p.1.value) (entries contents)) (call : Mut F (Bor V × Unit {0}) Bool) (k : K) (hash : ℕ) where
  kept-row : (n : ℕ) (row : Row K V) → row_under n (entries contents) ≡ Some row → eq (arc_value row.key) k ≡ true → keeps k row.value
  kept-row n row there same = alike (arc_value row.key) k row.value same (of-row (λ (r : Row K V). keeps (arc_value r.key) r.value) n (entries contents) row kept there)

  -- what may be called at the live value of the key may be called at that of the key's row
  pub takes-row : (settings : Settings K V) (latest at : ℕ) (lives : ExpirationPolicy) → HasLives settings lives → AreDated lives (entries contents) → max latest at < 2 ^ 64 → (f : F)
      → ((w : Write K V) → IsIn w (stored_writes contents.admitted ++ stored_writes contents.waiting) → eq w.key k ≡ true → is_live settings w (max latest at) ≡ true → keeps k w.value → TakesAt call f w.value)
      → TakesLiveRow eq call k hash (max latest at) (entries contents) f
  takes-row settings latest at lives expired_alike dated is_moment f takes n row there of_key live =
      let same = same-key eq k hash row of_key in
      let alive = alive-kept lives row.info (of-row (λ (r : Row K V). IsDated lives r.info) n (entries contents) row dated there) (max latest at) is_moment ∙ live in
      takes (stored_write row) (rw (← stored-append contents.admitted contents.waiting) (in-stored n (entries contents) row there)) same
      (ap (λ (expired : Row K V → ℕ → Bool). not row.info.is_hidden && not (expired row (max latest at))) expired_alike ∙ alive) (kept-row n row there same)

  -- what it was called at satisfies the invariant
  pub shown-kept : (at : ℕ) (old new : Option F) → LeavesShown eq call k hash at (entries contents) old new → IsShownKept (keeps k) call old new
  shown-kept at old new (inl same) = inl same
  shown-kept at old new (inr (n, row, there, of_key, live, called)) = inr (row.value, kept-row n row there (same-key eq k hash row of_key), called)
