-- What calls store in the buffers that they are lent.
use Rattle.std.specs.Prelude.{ℕ, ◌≡◌, ◌≢◌, ◌==◌, ◌<◌, nat_lt, if◌then◌else◌, List, ◌++◌, length, drop}
use Rattle.std.specs.Prelude.{Option, Some, None, option_map, IsSomeAnd, Result, Ok}
use Rattle.moka_policy.specs.declared.policy.Refused.{Refused}

-- The number of a copy to a buffer: 0, or 6 if the buffer is shorter than the bytes.
abbrev pub copy_number : List ℕ → List ℕ → ℕ
copy_number bytes buffer = if nat_lt (length buffer) (length bytes) then 6 else 0

-- The buffer after that copy. One that is too short is kept.
abbrev pub copied_to : List ℕ → List ℕ → List ℕ
copied_to bytes buffer = if nat_lt (length buffer) (length bytes) then buffer else bytes ++ drop (length bytes) buffer

-- What a lookup returned, given its number, the bytes that it stored, and those that it kept because there was no room. Other
-- numbers stand for nothing; so does 2, since a call can fail with it before it reaches the cache.
abbrev pub bytes_of : ℕ → List ℕ → Option (List ℕ) → Option (Result (Option (List ℕ)) Refused)
bytes_of number stored kept =
    if number == 0 then Some (Ok (Some stored))
    else (if number == 1 then Some (Ok None) else (if number == 6 then option_map (λ value. Ok (Some value)) kept else None))

-- What a lookup leaves in the length and in the buffer that it was lent, given its number and the value that it kept. It changes
-- the buffer at its front alone, and only if it is done. With 6 it keeps a value for which there is no room.
pub record StoresBytes (number old_len new_len : ℕ) (old new : List ℕ) (kept : Option (List ℕ)) : Type 0 where
  pub rest : number ≡ 0 → drop new_len new ≡ drop new_len old
  pub untouched : number ≢ 0 → new ≡ old
  pub short : number ≡ 6 → IsSomeAnd kept (λ value. (new_len ≡ length value) × (length old < length value))
  pub uncounted : number ≢ 0 → number ≢ 6 → new_len ≡ old_len

-- What a copy of what is kept returns, and leaves in the length and in the buffer that it was lent. If nothing is kept it returns 1,
-- and changes neither.
abbrev pub CopiesFound : Option (List ℕ) → ℕ → ℕ → ℕ → List ℕ → List ℕ → Type 0
CopiesFound None number old_len new_len old new = (number ≡ 1) × (new_len ≡ old_len) × (new ≡ old)
CopiesFound (Some bytes) number old_len new_len old new =
    (number ≡ copy_number bytes old) × (new_len ≡ length bytes) × (new ≡ copied_to bytes old)
