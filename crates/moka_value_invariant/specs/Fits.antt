-- How a turn may end, by its kind: an initializer that may not fail gives no error, and so on.
use Rattle.std.specs.Prelude.{⊤, Option, IfSome}
use Rattle.moka_model.specs.declared.turns.Kind.{Kind}
use Rattle.moka_model.specs.declared.turns.Kind.TheVariants.{With, Optionally, Try, Compute}
use Rattle.moka_model.specs.Turns.{Turn, End}
use Rattle.moka_model.specs.Turns as turning

module _ {V E : Type 0} where
  abbrev pub EndFits : Kind → End V E → Type 0  -- a turn of this kind may end so
  EndFits With (turning.Value v replaced) = ⊤
  EndFits Optionally (turning.Value v replaced) = ⊤
  EndFits Optionally turning.Nothing = ⊤
  EndFits Try (turning.Value v replaced) = ⊤
  EndFits Try (turning.Failed e) = ⊤
  EndFits Compute turning.Computed = ⊤
  EndFits kind turning.Abandoned = ⊤
  EndFits kind end = ⊥

module _ {K V E : Type 0} where
  abbrev pub TurnFits : Turn K V E → Type 0  -- the turn has ended as its kind may, if it has ended
  TurnFits t = IfSome t.end (EndFits t.name.kind)
