use Rattle.std.proofs.Common.{◌≡◌, ◌∷◌, ◌++◌, ◌+◌, ◌≤◌, arith}
use Rattle.moka_model.specs.Numbers.{next_number}
use Rattle.moka_laws.proofs.Deadlines.{next_number-more, next_number-counted, next_number-drawn}
use Rattle.moka_laws.proofs.laws.numbers_never_come_again.Goals as goal

pub returns-clause-never_falls : goal.returns-clause-never_falls
returns-clause-never_falls g c settings later h = next_number-more settings later h

pub returns-clause-greater : goal.returns-clause-greater
returns-clause-greater g c settings later h e draws_it =
    let one : next_number settings (e ∷ h) ≡ next_number settings h + 1 = next_number-drawn settings e h draws_it in
    let more : next_number settings (e ∷ h) ≤ next_number settings (later ++ e ∷ h) = next_number-more settings later (e ∷ h) in
    omega arith

pub returns-clause-counted : goal.returns-clause-counted
returns-clause-counted g c settings h = next_number-counted settings h
