use Rattle.std.proofs.Common.{Ok, Err, refl}
use Rattle.moka_model.specs.Calls.{Entered, GaveNothing}
use Rattle.moka_model.specs.Entries.{entry_of}
use Rattle.moka_state.proofs.state.State.optionally_get_with.Goals as goal

pub returns-in-Err-clause-form : goal.returns-in-Err-clause-form
returns-in-Err-clause-form g c =
    let loads = rw c.in-Err.is at c.load.ensures.form in
    (loads.0, Err c.in-Err.cause, loads.1, refl, loads.2, loads.3)

pub returns-in-Ok-Some-clause-form : goal.returns-in-Ok-Some-clause-form
returns-in-Ok-Some-clause-form g c =
    let loads = rw (c.in-Ok-Some.is, c.in-Ok-Some.field-0-is) at c.load.ensures.form in
    (loads.0, Ok (Entered (entry_of c.in-Ok-Some.entry)), loads.1, c.into_value.ensures, loads.2, loads.3)

pub returns-in-Ok-None-clause-form : goal.returns-in-Ok-None-clause-form
returns-in-Ok-None-clause-form g c =
    let loads = rw (c.in-Ok-None.is, c.in-Ok-None.field-0-is) at c.load.ensures.form in
    (loads.0, Ok GaveNothing, loads.1, tt, loads.2, loads.3)
