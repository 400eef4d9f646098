use Rattle.std.proofs.Common.{Ok, Err, refl}
use Rattle.moka_model.specs.Calls.{Inserted, ReplacedWith}
use Rattle.moka_model.specs.Entries.{entry_of}
use Rattle.moka_state.proofs.state.State.end_with_put.Goals as goal

pub returns-in-Ok-Inserted-clause-ends : goal.returns-in-Ok-Inserted-clause-ends
returns-in-Ok-Inserted-clause-ends g c =
    let ends = rw (c.in-Ok-Inserted.is, c.in-Ok-Inserted.field-0-is) at c.end_compute.ensures.ends in
    (Ok (Inserted (entry_of c.in-Ok-Inserted.entry)), ends, refl)

pub returns-in-Ok-ReplacedWith-clause-ends : goal.returns-in-Ok-ReplacedWith-clause-ends
returns-in-Ok-ReplacedWith-clause-ends g c =
    let ends = rw (c.in-Ok-ReplacedWith.is, c.in-Ok-ReplacedWith.field-0-is) at c.end_compute.ensures.ends in
    (Ok (ReplacedWith (entry_of c.in-Ok-ReplacedWith.entry)), ends, refl)

pub returns-in-Err-clause-ends : goal.returns-in-Err-clause-ends
returns-in-Err-clause-ends g c =
    let ends = rw c.in-Err.is at c.end_compute.ensures.ends in
    (Err c.in-Err.cause, ends, refl)
