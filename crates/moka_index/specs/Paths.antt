-- Lists of numbers, and links from each number to the next.
use Rattle.std.specs.Prelude.{◌≡◌, ◌⊎◌, ℕ, zero, suc, ◌+◌, ◌==◌, if◌then◌else◌, Option, Some, None, List, [], ◌∷◌, ◌++◌, length}

-- The number is in the list.
abbrev pub IsAmong : ℕ → List ℕ → Type 0
IsAmong k [] = ⊥
IsAmong k (x ∷ xs) = (x ≡ k) ⊎ IsAmong k xs

-- The number is not in the list.
abbrev pub IsAbsent : ℕ → List ℕ → Type 0
IsAbsent k xs = IsAmong k xs → ⊥

-- How often a number is in a list.
abbrev pub count_of : ℕ → List ℕ → ℕ
count_of k [] = 0
count_of k (x ∷ xs) = (if x == k then 1 else 0) + count_of k xs

-- The list without the first k.
abbrev pub without : ℕ → List ℕ → List ℕ
without k [] = []
without k (x ∷ xs) = if x == k then xs else x ∷ without k xs

-- The numbers along the first n links, from a on.
abbrev pub steps : (ℕ → ℕ) → ℕ → ℕ → List ℕ
steps next zero a = []
steps next (suc n) a = a ∷ steps next n (next a)

-- The links lead from an end through these numbers and back to the end.
abbrev pub IsRing : (ℕ → ℕ) → ℕ → List ℕ → Type 0
IsRing next end xs = steps next (suc (length xs)) (next end) ≡ xs ++ end ∷ []

-- The first number, if there is one.
abbrev pub first_of : List ℕ → Option ℕ
first_of [] = None
first_of (x ∷ xs) = Some x

-- The number after the first k, if there is one.
abbrev pub number_behind : ℕ → List ℕ → Option ℕ
number_behind k [] = None
number_behind k (x ∷ xs) = if x == k then first_of xs else number_behind k xs

-- The numbers along the links until there is none, at most n of them.
abbrev pub chase : (ℕ → Option ℕ) → ℕ → Option ℕ → List ℕ
chase same zero first = []
chase same (suc n) None = []
chase same (suc n) (Some k) = k ∷ chase same n (same k)

-- From the first number on, the links lead through these numbers and end there.
abbrev pub IsChain : (ℕ → Option ℕ) → Option ℕ → List ℕ → Type 0
IsChain same first ks = chase same (suc (length ks)) first ≡ ks
