use Rattle.std.proofs.Common.{◌≡◌, ℕ, Bool, true, false, not, List, ◌++◌, Option, Some, None, IsSome, MatchOption, sym, ap, subst, ◌∙◌, refl}
use Rattle.moka_rows.specs.Rows.{row_under}
use Rattle.moka_rows.proofs.Callers.{row_under-append_right}
use Rattle.moka_parts_tests.proofs.stores.waits.Goals as goal

-- a stored row that is not admitted is pending
waiting : {R : Type 0} (n : ℕ) (admitted waits : List (ℕ × R)) (said : Bool) → IsSome (row_under n (admitted ++ waits))
    → MatchOption (row_under n admitted) (said ≡ false) (λ _. said ≡ true) → not said ≡ true → IsSome (row_under n waits)
waiting {R} n admitted waits said stored is reply = go (row_under n admitted) refl is
  where
    go : (o : Option R) → row_under n admitted ≡ o → MatchOption o (said ≡ false) (λ _. said ≡ true) → IsSome (row_under n waits)
    go None absent m = subst IsSome (row_under-append_right n admitted waits absent) stored
    go (Some r) found m = let both : not true ≡ true = ap not (sym m) ∙ reply in absurd cc

pub returns : goal.returns
returns g c = waiting c.args.number (g.R.RowStore.admitted c.args.rows.now) (g.R.RowStore.waiting c.args.rows.now) c.is_admitted.result c.requires c.is_admitted.ensures
