-- What the result of a compute means in the definitions.
use Rattle.std.specs.Prelude.{Option, Some, None}
use Rattle.std.specs.Arc.{arc_value}
use Rattle.moka_model.specs.declared.entry.Entry.{Entry}
use Rattle.moka_model.specs.declared.comp_result.CompResult.{CompResult}
use Rattle.moka_model.specs.declared.comp_result.CompResult.TheVariants as results
use Rattle.moka_model.specs.Calls as calls
use Rattle.moka_model.specs.Entries.{entry_of}

-- The entry of a result, if it has one.
abbrev pub entry_in : {K V : Type 0} → CompResult K V → Option (Entry K V)
entry_in (results.StillNone key) = None
entry_in (results.Unchanged entry) = Some entry
entry_in (results.Inserted entry) = Some entry
entry_in (results.ReplacedWith entry) = Some entry
entry_in (results.Removed entry) = Some entry

-- The result as a result of the definitions.
abbrev pub of_computed : {K V E : Type 0} → CompResult K V → calls.Reply K V E
of_computed (results.StillNone key) = calls.StillNone (arc_value key)
of_computed (results.Unchanged entry) = calls.Unchanged (entry_of entry)
of_computed (results.Inserted entry) = calls.Inserted (entry_of entry)
of_computed (results.ReplacedWith entry) = calls.ReplacedWith (entry_of entry)
of_computed (results.Removed entry) = calls.Removed (entry_of entry)
