-- A closure may be called through a `&mut` to it wherever it may be called itself.
use Rattle.std.proofs.Common.{◌≡◌, ℕ, Bool, Option, Some, None, IfSome}
use Rattle.std.specs.Fn.{Mut}
use Rattle.std.specs.Option.{option_copied_mut}
use denote.Ref.{Bor, MutBor}
use Rattle.moka_state.specs.Begin.{TakesKept}

pub takes-lent : {V P : Type 0} (keeps : V → Type 0) (call : Mut P (Bor V × Unit {0}) Bool) (o : Option (MutBor P))
    → IfSome (option_copied_mut o) (TakesKept keeps call) → IfSome o (λ s. (v : V) → keeps v → (y : Bor V) → y.now ≡ v → (n : ℕ) → call.pre s.now (y, tt))
takes-lent keeps call None takes = tt
takes-lent keeps call (Some f) takes = λ v kept y shows n. takes v kept y shows
