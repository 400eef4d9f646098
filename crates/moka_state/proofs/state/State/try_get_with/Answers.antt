use Rattle.std.proofs.Common.{Ok, Err, refl}
use Rattle.moka_model.specs.Calls.{Entered, GaveError}
use Rattle.moka_model.specs.Entries.{entry_of}
use Rattle.std.specs.Arc.{arc_value}
use Rattle.moka_state.proofs.state.State.try_get_with.Goals as goal

pub returns-in-Err-clause-form : goal.returns-in-Err-clause-form
returns-in-Err-clause-form g c =
    let loads = rw c.in-Err.is at c.load.ensures.form in
    (loads.0, Err c.in-Err.cause, loads.1, refl, loads.2, loads.3)

pub returns-in-Ok-Ok-clause-form : goal.returns-in-Ok-Ok-clause-form
returns-in-Ok-Ok-clause-form g c =
    let loads = rw (c.in-Ok-Ok.is, c.in-Ok-Ok.field-0-is) at c.load.ensures.form in
    (loads.0, Ok (Entered (entry_of c.in-Ok-Ok.entry)), loads.1, c.into_value.ensures, loads.2, loads.3)

pub returns-in-Ok-Err-clause-form : goal.returns-in-Ok-Err-clause-form
returns-in-Ok-Err-clause-form g c =
    let loads = rw (c.in-Ok-Err.is, c.in-Ok-Err.field-0-is) at c.load.ensures.form in
    (loads.0, Ok (GaveError (arc_value c.in-Ok-Err.error)), loads.1, refl, loads.2, loads.3)
