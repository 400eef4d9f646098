-- What the closure `replace_if` of a shared loader is called at, and how often. A loader begins anew after each wait for a
-- turn that was abandoned, so that it may call the closure again.
use Rattle.std.specs.Prelude.{Bool, List}
use Rattle.std.specs.Fn.{CalledAt, Mut}
use Rattle.std.specs.List.{FoldsTo}
use denote.Ref.{Bor}
pub use Rattle.moka_state.specs.Begin.{TakesKept, TakesLive}

module _ {V P : Type 0} (keeps : V → Type 0) (call : Mut P (Bor V × Unit {0}) Bool) where
  -- These calls, each at a value that satisfies the invariant, and with a result, take the closure from one state to
  -- another.
  abbrev pub AreShown : P → List (V × Bool) → P → Type 0
  AreShown f calls g = FoldsTo (λ before shown after. keeps shown.0 × CalledAt call before shown.0 shown.1 after) f calls g

  -- The closure may be called at each value that satisfies the invariant, and again after any such calls.
  abbrev pub TakesKeptAgain : P → Type 0
  TakesKeptAgain f = (calls : List (V × Bool)) (g : P) → AreShown f calls g → TakesKept keeps call g
