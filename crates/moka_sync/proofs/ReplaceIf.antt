-- What `replace_if` may be called at: at each value that satisfies the invariant, and again.
use Rattle.std.proofs.Common.{◌≡◌, Bool, Option, Some, None, IfSome, List, [], ◌∷◌, refl, subst, sym, inl, inr}
use Rattle.std.specs.Fn.{CalledAt, Mut, TakesAt}
use denote.Ref.{Bor}
use denote.Param.Always.{always_mut, mut_next}
use Rattle.moka_state.specs.Begin.{IsShownKept, TakesKept}
use Rattle.moka_sync.specs.ReplaceIf.{AreShown, TakesKeptAgain}

-- what holds of the closure, if there is one
pub if-some : {A : Type 0} {P Q : A → Type 0} (o : Option A) → ((a : A) → P a → Q a) → IfSome o P → IfSome o Q
if-some None more holds = tt
if-some (Some a) more holds = more a holds

module _ {V P : Type 0} (keeps : V → Type 0) (call : Mut P (Bor V × Unit {0}) Bool) where
  -- before any call it may be called
  pub takes-once : (o : Option P) → IfSome o (TakesKeptAgain keeps call) → IfSome o (TakesKept keeps call)
  takes-once None takes = tt
  takes-once (Some f) takes = takes [] f refl

  -- after one call it may be called again
  pub takes-after : (old new : Option P) → IsShownKept keeps call old new → IfSome old (TakesKeptAgain keeps call) → IfSome new (TakesKeptAgain keeps call)
  takes-after old new (inl same) takes = rw same takes
  takes-after None new (inr (v, kept, none)) takes = rw none tt
  takes-after (Some f) new (inr (v, kept, (said, left, called, is))) takes = rw is (λ calls g shown. takes ((v, said) ∷ calls) g (left, (kept, called), shown))

  -- what may always be called may be called so
  pub takes-always : (f : P) → always_mut call f → TakesKeptAgain keeps call f
  takes-always f always [] g same = λ v kept y shows. ((subst (always_mut call) same always).at ((y, tt) ∷ [])).0
  takes-always f always (shown ∷ calls) g (left, (kept, called), rest) = takes-always left (mut_next call f (called.shown, tt) shown.1 left left called.called refl always) calls g rest

-- a closure that may be called at more values
module _ {V P : Type 0} (more fewer : V → Type 0) (call : Mut P (Bor V × Unit {0}) Bool) (within : (v : V) → fewer v → more v) where
  shown-within : (f : P) (calls : List (V × Bool)) (g : P) → AreShown fewer call f calls g → AreShown more call f calls g
  shown-within f [] g same = same
  shown-within f (shown ∷ calls) g (left, (kept, called), rest) = (left, (within shown.0 kept, called), shown-within left calls g rest)

  pub takes-fewer : (f : P) → TakesKeptAgain more call f → TakesKeptAgain fewer call f
  takes-fewer f takes calls g shown = λ v kept. takes calls g (shown-within f calls g shown) v (within v kept)
