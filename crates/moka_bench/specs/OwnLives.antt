-- Lifetimes that are the same for each entry.
use Rattle.std.specs.Prelude.{ℕ, Some}
use Rattle.moka.specs.Lives.{Lifetimes}

-- each entry lives so many nanoseconds after each write
abbrev pub same_lives : ℕ → Lifetimes ℕ ℕ
same_lives nanos = record { created = λ _ _ _. Some nanos; read = λ _ _ _ rest _. rest; updated = λ _ _ _ _. Some nanos }
