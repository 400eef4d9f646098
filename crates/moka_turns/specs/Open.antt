-- An open turn in a table.
use Rattle.std.specs.Prelude.{◌≡◌, ◌<◌, ℕ, Option, IsSome, IfSome}
use Rattle.moka_turns.specs.declared.table.OpenTurn.{OpenTurn}

-- There is an open turn, and it has this number.
abbrev pub IsOpenAs : {V : Type 0} → ℕ → Option (OpenTurn V) → Type 0
IsOpenAs number o = IsSome o × IfSome o (λ row. row.number ≡ number)

-- There is an open turn, and it has this number and this many unspent tickets.
abbrev pub IsOpenWith : {V : Type 0} → ℕ → ℕ → Option (OpenTurn V) → Type 0
IsOpenWith number waiting o = IsSome o × IfSome o (λ row. (row.number ≡ number) × (row.unspent ≡ waiting))

-- There is an open turn, and it has this number. If it has unspent tickets, there is an end to retain for them.
abbrev pub IsOpenFor : {V A : Type 0} → ℕ → Option A → Option (OpenTurn V) → Type 0
IsOpenFor number end o = IsSome o × IfSome o (λ row. (row.number ≡ number) × (0 < row.unspent → IsSome end))
