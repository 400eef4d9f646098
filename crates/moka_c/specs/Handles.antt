-- What a call through a handle does.
use Rattle.std.specs.Prelude.{◌≡◌, ℕ, Option, None, IfSome, IsSomeAnd}

-- An open handle stays open, and `ends` says what the call does with its cache.
abbrev pub OnOpen : {X : Type 0} → (X → X → Type 0) → Option X → Option X → Type 0
OnOpen ends old new = IfSome old (λ before. IsSomeAnd new (λ after. ends before after))

-- A closed handle is refused with the number 4, and stays closed.
abbrev pub RefusesClosed : {X : Type 0} → Option X → Option X → ℕ → Type 0
RefusesClosed old new number = old ≡ None → (number ≡ 4) × (new ≡ None)

-- A call that cannot fail returns 0 with an open handle.
abbrev pub IsDoneOnOpen : {X : Type 0} → Option X → ℕ → Type 0
IsDoneOnOpen old number = IfSome old (λ _. number ≡ 0)
