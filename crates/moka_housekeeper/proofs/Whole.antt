-- A whole maintenance is one without a limit, and one within a limit is whole where no part is left undone.
use Rattle.std.proofs.Common.{◌≡◌, ℕ, Bool, false, Option, None, List, [], ◌++◌, map, refl, sym, ap, ◌∙◌}
use Rattle.moka_model.specs.Maintenance.{Queues, done, evicted_in, after_parts}
use Rattle.moka_model.specs.MaintenanceLaws.{queues}
use Rattle.moka_model.proofs.Callers.{after-parts, done-all}
use Rattle.moka_rows.specs.declared.rows.Row.{Row}
use Rattle.moka_expiration.specs.declared.expiration_policy.ExpirationPolicy.{ExpirationPolicy}
use Rattle.moka_table.specs.Table.{Contents, weight_of}
use Rattle.moka_housekeeper.specs.Maintain.{is_alive, notice_at, rows_of, row_wins, row_parts, IsMaintained, IsMaintainedUpTo}

-- after all parts nothing waits
none-waits : {K V : Type 0} (lives : ExpirationPolicy) (is_lru : Bool) (frequency_of : ℕ → ℕ) (capacity : Option ℕ) (at : ℕ) (old : Contents K V) → (after_parts (rows_of old) (row_parts lives is_lru frequency_of capacity at old)).waiting ≡ []
none-waits {K} {V} lives is_lru frequency_of capacity at old = ap (λ (q : Queues (ℕ × Row K V)). q.waiting) (after-parts weight_of capacity (is_alive lives at) (row_wins is_lru frequency_of) (rows_of old))

module _ {K V : Type 0} {lives : ExpirationPolicy} {is_lru : Bool} {frequency_of : ℕ → ℕ} {capacity : Option ℕ} {at : ℕ} {old new : Contents K V} where
  pub without-limit : IsMaintained lives is_lru frequency_of capacity at old new → IsMaintainedUpTo lives is_lru frequency_of capacity at None old new false
  without-limit is =
      let after : Queues (ℕ × Row K V) = after_parts (rows_of old) (row_parts lives is_lru frequency_of capacity at old) in
      record {
        orders = ap (λ rows. queues rows new.waiting) is.admitted ∙ ap (queues after.admitted) (is.waiting ∙ sym (none-waits lives is_lru frequency_of capacity at old));
        notices = is.notices;
        left = refl;
      }

  pub no-part-left : {limit : Option ℕ} {is_cut : Bool} → IsMaintainedUpTo lives is_lru frequency_of capacity at limit old new is_cut → is_cut ≡ false → IsMaintained lives is_lru frequency_of capacity at old new
  no-part-left {limit} is none =
      let all : done limit (row_parts lives is_lru frequency_of capacity at old) ≡ row_parts lives is_lru frequency_of capacity at old = done-all limit (row_parts lives is_lru frequency_of capacity at old) (sym is.left ∙ none) in
      let orders : rows_of new ≡ after_parts (rows_of old) (row_parts lives is_lru frequency_of capacity at old) = is.orders ∙ ap (after_parts (rows_of old)) all in
      record {
        waiting = ap (λ (q : Queues (ℕ × Row K V)). q.waiting) orders ∙ none-waits lives is_lru frequency_of capacity at old;
        admitted = ap (λ (q : Queues (ℕ × Row K V)). q.admitted) orders;
        notices = is.notices ∙ ap (λ ps. old.notices ++ map (notice_at lives at) (evicted_in ps)) all;
      }
