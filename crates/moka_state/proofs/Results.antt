-- What `?` returns.
use Rattle.std.proofs.Common.{◌≡◌, ap}
use Rattle.std.specs.Prelude.{Result, Ok, Err, IsErrAnd}

-- a result whose `?` returns this error is that error
pub err-is : {A X : Type 0} (r : Result A X) (e : X) → IsErrAnd r (λ own. own ≡ e) → r ≡ Err e
err-is (Ok a) e is = absurd is
err-is (Err own) e is = ap Err is
