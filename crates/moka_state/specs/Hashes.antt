-- Hashes of keys that callers pass in.
use Rattle.std.specs.Prelude.{◌≡◌, ⊤, ℕ}
use Rattle.std.specs.Arc.{arc_value}
use Rattle.moka_model.specs.Lives.{Settings}
use Rattle.moka_state.specs.declared.step.Step.{Step}
use Rattle.moka_state.specs.declared.step.Step.TheVariants.{Get, ContainsKey, Insert, Invalidate, Remove}
use Rattle.moka_state.specs.declared.step.Step.TheVariants.{OrInsert, Begin, BeginCompute, Finish, Abandon, Collect, Leave}

-- The number is the hash of the key, by the hasher of these settings.
abbrev pub IsHashOf : {K V : Type 0} → Settings K V → K → ℕ → Type 0
IsHashOf settings key hash = hash ≡ settings.behaviour.hash key

-- The number is the hash of the step's key. For a step without a key, any number will do.
abbrev pub IsHashOfStep : {K V C H W X P F L T E S : Type 0} → Settings K V → Step K V C H W X P F L T E S → ℕ → Type 0
IsHashOfStep settings (Get key now) hash = IsHashOf settings (arc_value key) hash
IsHashOfStep settings (ContainsKey key now) hash = IsHashOf settings (arc_value key) hash
IsHashOfStep settings (Insert key value now) hash = IsHashOf settings (arc_value key) hash
IsHashOfStep settings (OrInsert key value now) hash = IsHashOf settings (arc_value key) hash
IsHashOfStep settings (Invalidate key now) hash = IsHashOf settings (arc_value key) hash
IsHashOfStep settings (Remove key now) hash = IsHashOf settings (arc_value key) hash
IsHashOfStep settings (Begin key kind replace now) hash = IsHashOf settings (arc_value key) hash
IsHashOfStep settings (BeginCompute key keep now) hash = IsHashOf settings (arc_value key) hash
IsHashOfStep settings (Finish name outcome now) hash = IsHashOf settings (arc_value name.key) hash
IsHashOfStep settings (Abandon name) hash = IsHashOf settings (arc_value name.key) hash
IsHashOfStep settings (Collect name) hash = IsHashOf settings (arc_value name.key) hash
IsHashOfStep settings (Leave name) hash = IsHashOf settings (arc_value name.key) hash
IsHashOfStep settings step hash = ⊤
