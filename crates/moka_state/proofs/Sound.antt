-- What holds of a state's table stays so: after a change of one row, and after a maintenance.
use Rattle.std.proofs.Common.{◌≡◌, ◌≢◌, ℕ, zero, suc, arith, Bool, List, [], ◌∷◌, ◌++◌, map, Option, Some, None, refl, sym, ap, ◌∙◌, subst, append_assoc}
use Rattle.std.specs.Arc.{arc_value}
use Rattle.moka_model.specs.declared.notification.Notice.{Notice}
use Rattle.moka_rows.specs.declared.rows.EntryInfo.{EntryInfo}
use Rattle.moka_rows.specs.declared.rows.Access.{Access}
use Rattle.moka_state.specs.State.{IsSound}
use Rattle.std.specs.List.{AllByRecursion}
use Rattle.moka_rows.specs.declared.rows.Row.{Row}
use Rattle.moka_model.specs.declared.notification.RemovalCause.{RemovalCause}
use Rattle.moka_model.specs.Maintenance.{done, evicted_in, after_parts}
use Rattle.moka_model.specs.MaintenanceLaws.{everything}
use Rattle.moka_model.specs.SizeLaws.{LimitsSome}
use Rattle.moka_expiration.specs.declared.expiration_policy.ExpirationPolicy.{ExpirationPolicy}
use Rattle.moka_expiration.specs.ExpirationPolicy.{IsDated}
use Rattle.moka_housekeeper.specs.Maintain.{is_alive, notice_at, rows_of, row_wins, row_parts, IsMaintainedUpTo}
use Rattle.moka_rows.specs.Rows.{row_under, used_at, touched, overwritten}
use Rattle.moka_table.specs.Table.{Contents, weight_of, entries, SameRows, UsesRow, TakesRow}
use Rattle.moka_rows.proofs.Callers.{all-append}
use Rattle.moka_table.proofs.Callers.{of-row, of-used, of-taken}
use Rattle.moka_state.proofs.Elements.{all-retained, all-evicted}

-- it holds of the same rows
pub IsSound-same : {K V : Type 0} (keeps : K → V → Type 0) (hash_of : K → ℕ) (lives : ExpirationPolicy) (old new : Contents K V) → SameRows old new → IsSound keeps hash_of lives old → IsSound keeps hash_of lives new
IsSound-same keeps hash_of lives old new same sound = record {
  dated = rw (same.0, same.1) sound.dated;
  hashed = rw (same.0, same.1) sound.hashed;
  kept = rw (same.0, same.1) sound.kept;
  notices_kept = rw same.2 sound.notices_kept;
}

module _ {K V : Type 0} (keeps : K → V → Type 0) (hash_of : K → ℕ) (lives : ExpirationPolicy) (old new : Contents K V) (sound : IsSound keeps hash_of lives old) where
  -- A value that satisfies the invariant takes the place of a row's value, which gets a notice under an equal key.
  pub IsSound-overwritten : (n : ℕ) (row : Row K V) (v : V) (info : EntryInfo) (notice : Notice K V) → row_under n (entries old) ≡ Some row → keeps (arc_value row.key) v
      → (keeps (arc_value row.key) row.value → keeps (arc_value notice.key) notice.value) → UsesRow n (overwritten v info) old new → new.notices ≡ old.notices ++ notice ∷ []
      → IsDated lives info → IsSound keeps hash_of lives new
  IsSound-overwritten n row v info notice there kept left used notices dated =
      record {
        dated = of-used (λ (r : Row K V). IsDated lives r.info) n (overwritten v info) row old new sound.dated there dated used;
        hashed = of-used (λ (r : Row K V). r.hash ≡ hash_of (arc_value r.key)) n (overwritten v info) row old new sound.hashed there (of-row (λ (r : Row K V). r.hash ≡ hash_of (arc_value r.key)) n (entries old) row sound.hashed there) used;
        kept = of-used (λ (r : Row K V). keeps (arc_value r.key) r.value) n (overwritten v info) row old new sound.kept there kept used;
        notices_kept = rw notices (all-append (λ (m : Notice K V). keeps (arc_value m.key) m.value) old.notices (notice ∷ []) sound.notices_kept (left (of-row (λ (r : Row K V). keeps (arc_value r.key) r.value) n (entries old) row sound.kept there), tt));
      }

  -- a row with its hash, whose value satisfies the invariant with its key, is added to the pending ones
  pub IsSound-added : (n : ℕ) (row : Row K V) → row.hash ≡ hash_of (arc_value row.key) → keeps (arc_value row.key) row.value
      → new.admitted ≡ old.admitted → new.waiting ≡ old.waiting ++ (n, row) ∷ [] → new.notices ≡ old.notices → IsDated lives row.info → IsSound keeps hash_of lives new
  IsSound-added n row hash kept admitted waiting notices dated = record {
    dated = rw grown (all-append (λ (p : ℕ × Row K V). IsDated lives p.1.info) (entries old) ((n, row) ∷ []) sound.dated (dated, tt));
    hashed = rw grown (all-append (λ (p : ℕ × Row K V). p.1.hash ≡ hash_of (arc_value p.1.key)) (entries old) ((n, row) ∷ []) sound.hashed (hash, tt));
    kept = rw grown (all-append (λ (p : ℕ × Row K V). keeps (arc_value p.1.key) p.1.value) (entries old) ((n, row) ∷ []) sound.kept (kept, tt));
    notices_kept = rw notices sound.notices_kept;
  }
    where
      grown : entries new ≡ entries old ++ (n, row) ∷ []
      grown = ap (λ a. a ++ new.waiting) admitted ∙ ap (λ w. old.admitted ++ w) waiting ∙ sym (append_assoc old.admitted old.waiting ((n, row) ∷ []))

  -- a use of a row, which gives it its deadline
  pub IsSound-touched : (n : ℕ) (row : Row K V) (touch : Access) → row_under n (entries old) ≡ Some row
      → UsesRow n (touched touch) old new → new.notices ≡ old.notices → IsDated lives (used_at touch row.info) → IsSound keeps hash_of lives new
  IsSound-touched n row touch there used notices dated =
      record {
        dated = of-used (λ (r : Row K V). IsDated lives r.info) n (touched touch) row old new sound.dated there dated used;
        hashed = of-used (λ (r : Row K V). r.hash ≡ hash_of (arc_value r.key)) n (touched touch) row old new sound.hashed there (of-row (λ (r : Row K V). r.hash ≡ hash_of (arc_value r.key)) n (entries old) row sound.hashed there) used;
        kept = of-used (λ (r : Row K V). keeps (arc_value r.key) r.value) n (touched touch) row old new sound.kept there (of-row (λ (r : Row K V). keeps (arc_value r.key) r.value) n (entries old) row sound.kept there) used;
        notices_kept = rw notices sound.notices_kept;
      }

  -- a row leaves, and is noticed
  pub IsSound-taken : (n : ℕ) (row : Row K V) (cause : RemovalCause) → row_under n (entries old) ≡ Some row → TakesRow n old new
      → new.notices ≡ old.notices ++ record { key = row.key; value = row.value; cause = cause } ∷ [] → IsSound keeps hash_of lives new
  IsSound-taken n row cause there taken notices = record {
    dated = of-taken (λ (r : Row K V). IsDated lives r.info) n row old new sound.dated there taken;
    hashed = of-taken (λ (r : Row K V). r.hash ≡ hash_of (arc_value r.key)) n row old new sound.hashed there taken;
    kept = of-taken (λ (r : Row K V). keeps (arc_value r.key) r.value) n row old new sound.kept there taken;
    notices_kept = rw notices (all-append (λ (m : Notice K V). keeps (arc_value m.key) m.value) old.notices _ sound.notices_kept (of-row (λ (r : Row K V). keeps (arc_value r.key) r.value) n (entries old) row sound.kept there, tt));
  }

  -- after a maintenance, within a limit if there is one
  pub IsSound-maintained : (is_lru : Bool) (frequency_of : ℕ → ℕ) (capacity : Option ℕ) (at : ℕ) (limit : Option ℕ) (is_cut : Bool) → IsMaintainedUpTo lives is_lru frequency_of capacity at limit old new is_cut → IsSound keeps hash_of lives new
  IsSound-maintained is_lru frequency_of capacity at limit is_cut is =
      let Dated : ℕ × Row K V → Type 0 = λ p. IsDated lives p.1.info in
      let Hashed : ℕ × Row K V → Type 0 = λ p. p.1.hash ≡ hash_of (arc_value p.1.key) in
      let Keeps : ℕ × Row K V → Type 0 = λ p. keeps (arc_value p.1.key) p.1.value in
      let Noticed : Notice K V → Type 0 = λ m. keeps (arc_value m.key) m.value in
      let wins : ℕ × Row K V → List (ℕ × Row K V) → Bool = row_wins is_lru frequency_of in
      let gone : List (ℕ × Row K V) = evicted_in (done limit (row_parts lives is_lru frequency_of capacity at old)) in
      let left : everything (after_parts (rows_of old) (done limit (row_parts lives is_lru frequency_of capacity at old))) ≡ entries new = sym (ap everything is.orders) in
      record {
        dated = subst (AllByRecursion Dated) left (all-retained Dated weight_of capacity wins (is_alive lives at) limit (rows_of old) sound.dated);
        hashed = subst (AllByRecursion Hashed) left (all-retained Hashed weight_of capacity wins (is_alive lives at) limit (rows_of old) sound.hashed);
        kept = subst (AllByRecursion Keeps) left (all-retained Keeps weight_of capacity wins (is_alive lives at) limit (rows_of old) sound.kept);
        notices_kept = rw is.notices (all-append Noticed old.notices _ sound.notices_kept (kept-noticed gone (all-evicted Keeps weight_of capacity wins (is_alive lives at) limit (rows_of old) sound.kept)));
      }
    where
      kept-noticed : (rows : List (ℕ × Row K V)) → AllByRecursion (λ (p : ℕ × Row K V). keeps (arc_value p.1.key) p.1.value) rows → AllByRecursion (λ (m : Notice K V). keeps (arc_value m.key) m.value) (map (notice_at lives at) rows)
      kept-noticed [] all = tt
      kept-noticed (p ∷ ps) all = (all.0, kept-noticed ps all.1)

-- what stores nothing and has no notice is sound
pub IsSound-empty : {K V : Type 0} (keeps : K → V → Type 0) (hash_of : K → ℕ) (lives : ExpirationPolicy) (contents : Contents K V) → entries contents ≡ [] → contents.notices ≡ [] → IsSound keeps hash_of lives contents
IsSound-empty keeps hash_of lives contents none no_notices = record { dated = rw none tt; hashed = rw none tt; kept = rw none tt; notices_kept = rw no_notices tt }

-- a limit that is not 0 allows an eviction
pub limits-some : (limit : Option ℕ) → limit ≢ Some 0 → LimitsSome limit
limits-some None other = tt
limits-some (Some zero) other = absurd (other refl)
limits-some (Some (suc n)) other = omega arith
