-- The fields of a cursor, and what is returned, as keys and lists of the specification.
use Rattle.std.specs.Prelude.{◌≡◌, Option, Some, None, Result, Ok, Err, List, [], ◌∷◌, ◌++◌}
use Rattle.std.specs.List.{AllByRecursion}

-- The keys that are still to come, if any were taken.
abbrev pub keys_in : {Q K : Type 0} → (Q → List K) → Option Q → List K
keys_in keys None = []
keys_in keys (Some queue) = keys queue

-- The keys that are returned, if they are.
abbrev pub key_list : {Q K E : Type 0} → (Q → List K) → Result Q E → Result (List K) E
key_list keys (Ok handed_out) = Ok (keys handed_out)
key_list keys (Err e) = Err e

-- What is yielded, with the key itself in place of what holds it.
abbrev pub with_key : {A K V E : Type 0} → (A → K) → Result (A × V) E → Result (K × V) E
with_key value (Ok pair) = Ok (value pair.0, pair.1)
with_key value (Err e) = Err e

-- `finds` says what may be returned for each key of one segment.
module _ {K V E : Type 0} (finds : K → Result (Option V) E → Type 0) where
  -- This result is that of a key.
  abbrev pub StopsAt : K → Result (K × V) E → Type 0
  StopsAt k (Ok pair) = (pair.0 ≡ k) × finds k (Ok (Some pair.1))
  StopsAt k (Err e) = finds k (Err e)

  -- A walk over these keys skips those that are not live, and stops at the first other one, or it skips all.
  abbrev pub Stops : List K → Option (Result (K × V) E) → List K → Type 0
  Stops pending None rest = AllByRecursion (λ k. finds k (Ok None)) pending × (rest ≡ [])
  Stops pending (Some reply) rest =
      (passed : List K) × (k : K) × (pending ≡ passed ++ k ∷ rest) × AllByRecursion (λ q. finds q (Ok None)) passed × StopsAt k reply
