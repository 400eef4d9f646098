-- What a lookup leaves in the buffer that it was lent.
use Rattle.std.proofs.Common.{◌≡◌, ◌≢◌, ℕ, ◌<◌, Bool, true, false, nat_lt, if◌then◌else◌, List, ◌++◌, length, drop, Option, Some, refl, subst, sym, arith}
use Rattle.std.proofs.Math.Seq.{drop-append_seam}
use Rattle.std.proofs.lemmas.Bool.{ltb-true}
use Rattle.std.specs.Prelude.{IsSomeAnd}
use Rattle.moka_c.specs.Buffers.{StoresBytes, copy_number, copied_to}

-- A call that neither copies nor keeps anything leaves the length and the buffer.
pub stores_nothing : (number len : ℕ) (buffer : List ℕ) (kept : Option (List ℕ)) → number ≢ 0 → number ≢ 6
    → StoresBytes number len len buffer buffer kept
stores_nothing number len buffer kept not_done not_short =
    record { rest = λ _. refl; untouched = λ _. refl; short = λ short. absurd (not_short short); uncounted = λ _ _. refl }

-- A copy, after which what has no room is kept.
pub stores_copy : (value buffer : List ℕ) (len : ℕ) (kept : Option (List ℕ)) → (copy_number value buffer ≡ 6 → kept ≡ Some value)
    → StoresBytes (copy_number value buffer) len (length value) buffer (copied_to value buffer) kept
stores_copy value buffer len kept keeps = go (nat_lt (length buffer) (length value)) (ltb-true (length buffer) (length value)) keeps
  where
    go : (t : Bool) → (t ≡ true → length buffer < length value) → (◌≡◌ {A = ℕ} (if t then 6 else 0) 6 → kept ≡ Some value)
        → StoresBytes (if t then 6 else 0) len (length value) buffer (if t then buffer else value ++ drop (length value) buffer) kept
    go true short keeps = record {
      rest = λ six. absurd (omega arith);
      untouched = λ _. refl;
      uncounted = λ _ not. absurd (not refl);
      short = λ _. subst (λ o. IsSomeAnd o (λ v. (length value ≡ length v) × (length buffer < length v))) (sym (keeps refl)) (refl, short refl);
    }
    go false short keeps = record {
      rest = λ _. drop-append_seam value (drop (length value) buffer);
      untouched = λ not. absurd (not refl);
      uncounted = λ not _. absurd (not refl);
      short = λ six. absurd (omega arith);
    }
