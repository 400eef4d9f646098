-- Which calls find what a `get` finds.
use Rattle.std.specs.Prelude.{◌≡◌, ℕ, Bool, Option, Some, None, List, is_some, option_map}
use Rattle.moka_model.specs.declared.turns.Op.TheVariants as ops
use Rattle.moka_model.specs.declared.turns.Outcome.TheVariants as outcomes
use Rattle.moka_model.specs.Lives.{Settings}
use Rattle.moka_model.specs.Turns.{Name}
use Rattle.moka_model.specs.Steps.{AcceptedStep}
use Rattle.moka_model.specs.Calls.{Call, Get, ContainsKey, Remove, BeginCompute, Finish}
use Rattle.moka_model.specs.Calls.{Entry, Reply, Found, Contains, Run, StillNone, Removed}
use Rattle.moka_laws.specs.Laws.{reply}

module _ {K V E : Type 0} (eq : K → K → Bool) (settings : Settings K V) (steps : List (AcceptedStep K V E)) where
  -- A call after these steps returns this.
  abbrev pub Returns : Call K V E → Reply K V E → Type 0
  Returns call said = reply eq settings call steps ≡ Some said

  -- A `remove` returns what a `get` would at the same moment.
  abbrev pub RemoveFindsTheSame : Type 0
  RemoveFindsTheSame = (k : K) (at : ℕ) → reply eq settings (Remove k at) steps ≡ reply eq settings (Get k at) steps

  -- A `contains_key` says whether a `get` would find a value.
  abbrev pub ContainsTellsTheSame : Type 0
  ContainsTellsTheSame =
      (k : K) (at : ℕ) (value : Option V) → Returns (Get k at) (Found value) → Returns (ContainsKey k at) (Contains (is_some value))

  -- A compute that begins is shown what a `get` would find.
  abbrev pub ShownIsTheSame : Type 0
  ShownIsTheSame =
      (k : K) (keep : Bool) (at : ℕ) (name : Name K) (shown : Option (Entry K V)) → Returns (BeginCompute k keep at) (Run name shown)
      → Returns (Get k at) (Found (option_map (λ e. e.value) shown))

  -- A compute that removes returns what a `get` would find at its finish,
  abbrev pub RemovedIsTheSame : Type 0
  RemovedIsTheSame =
      (name : Name K) (at : ℕ) (e : Entry K V) → Returns (Finish name (outcomes.Op ops.Remove) at) (Removed e)
      → Returns (Get name.key at) (Found (Some e.value))

  -- or that there is none.
  abbrev pub StillNoneIsTheSame : Type 0
  StillNoneIsTheSame =
      (name : Name K) (at : ℕ) (k : K) → Returns (Finish name (outcomes.Op ops.Remove) at) (StillNone k)
      → Returns (Get name.key at) (Found None)
