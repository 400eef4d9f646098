-- What an entry of the code means in the definitions.
use Rattle.std.specs.Prelude.{Bool}
use Rattle.std.specs.Arc.{arc_value}
use Rattle.moka_model.specs.declared.entry.Entry.{Entry}
use Rattle.moka_model.specs.Calls as calls

-- An entry of the code, with the key that its `Arc` holds.
abbrev pub entry_of : {K V : Type 0} → Entry K V → calls.Entry K V
entry_of e = record {
  key = arc_value e.key;
  value = e.value;
  fresh = e.is_fresh;
  replaced = e.is_old_value_replaced;
}

-- The entry of a key and a value: whether the call stored the value, and whether it replaced a live one.
abbrev pub entry_with : {K V : Type 0} → K → V → Bool → Bool → calls.Entry K V
entry_with key value fresh replaced = record { key = key; value = value; fresh = fresh; replaced = replaced }
