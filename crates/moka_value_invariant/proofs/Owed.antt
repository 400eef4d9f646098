-- What a caller owes if every value satisfies `keeps` with every key.
use Rattle.moka_model.specs.declared.turns.Op.TheVariants as ops
use Rattle.moka_model.specs.declared.turns.Outcome.TheVariants as outcomes
use Rattle.moka_model.specs.Calls.{Call, Insert, OrInsert, Finish}
use Rattle.moka_value_invariant.specs.Keeps.{CallKeeps}

pub owed-nothing : {K V E : Type 0} (keeps : K → V → Type 0) → ((k : K) (v : V) → keeps k v) → (call : Call K V E) → CallKeeps keeps call
owed-nothing keeps all (Insert k v at) = all k v
owed-nothing keeps all (OrInsert k v at) = all k v
owed-nothing keeps all (Finish name (outcomes.Value v) at) = all name.key v
owed-nothing keeps all (Finish name outcomes.Nothing at) = tt
owed-nothing keeps all (Finish name (outcomes.Failed e) at) = tt
owed-nothing keeps all (Finish name (outcomes.Op (ops.Put v)) at) = all name.key v
owed-nothing keeps all (Finish name (outcomes.Op ops.Remove) at) = tt
owed-nothing keeps all (Finish name (outcomes.Op ops.Nop) at) = tt
owed-nothing keeps all call = tt
