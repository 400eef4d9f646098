-- Hashes of equal keys.
use Rattle.std.proofs.Common.{◌≡◌, ℕ, Bool, true, List, fold, ap}
use Rattle.moka_expiration.specs.Behaviour.{hash_by}

-- equal keys hash alike
pub hash-alike : {K H S I : Type 0} (build_hasher : H → S) (write : S → List I → S) (finish : S → ℕ) (hasher : H) {hash_input : K → List (List I)} {eq : K → K → Bool} → ((a b : K) → eq a b ≡ true → hash_input a ≡ hash_input b)
    → (a b : K) → eq a b ≡ true → hash_by build_hasher write finish hash_input hasher a ≡ hash_by build_hasher write finish hash_input hasher b
hash-alike build_hasher write finish hasher respects a b same = ap (λ input. finish (fold write (build_hasher hasher) input)) (respects a b same)
