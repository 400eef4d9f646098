-- The results of loaders that return entries.
use Rattle.std.specs.Prelude.{Option, Some, None, Result, Ok, Err}
use Rattle.std.specs.Arc.{arc_value}
use Rattle.std.specs.declared.sync.Arc.{Arc}
use Rattle.std.specs.declared.alloc.Global.{Global}
use Rattle.moka_policy.specs.declared.policy.Refused.{Refused}
use Rattle.moka_model.specs.declared.entry.Entry.{Entry}
use Rattle.moka_model.specs.Entries.{entry_of}
use Rattle.moka_model.specs.Calls.{Reply, Entered, GaveError, GaveNothing}

module _ {K V E : Type 0} where
  -- The result of a loader that may return no entry, as a reply of the specification.
  abbrev pub of_optional : Result (Option (Entry K V)) Refused → Result (Reply K V E) Refused
  of_optional (Ok (Some entry)) = Ok (Entered (entry_of entry))
  of_optional (Ok None) = Ok GaveNothing
  of_optional (Err cause) = Err cause

  -- The result of a loader that may return an error, as a reply of the specification.
  abbrev pub of_tried : Result (Result (Entry K V) (Arc E Global)) Refused → Result (Reply K V E) Refused
  of_tried (Ok (Ok entry)) = Ok (Entered (entry_of entry))
  of_tried (Ok (Err error)) = Ok (GaveError (arc_value error))
  of_tried (Err cause) = Err cause
