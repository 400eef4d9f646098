-- What holds of each element that a maintenance finds, within a limit if there is one.
use Rattle.std.proofs.Common.{ℕ, Bool, Option, List}
use Rattle.std.specs.List.{All, AllByRecursion}
use Rattle.std.proofs.lemmas.List.Elements.{recursion_from_All, All-from_recursion}
use Rattle.moka_model.specs.Maintenance.{Queues, Part, parts, done, evicted_in, after_parts}
use Rattle.moka_model.specs.MaintenanceLaws.{everything}
use Rattle.moka_model.proofs.Callers.{InParts, InParts-parts, InParts-done, All-evicted_in, All-after_parts}
use Rattle.moka_rows.proofs.Callers.{all-front, all-back}

module _ {X : Type 0} (P : X → Type 0) (weight : X → ℕ) (capacity : Option ℕ) (wins : X → List X → Bool) (is_live : X → Bool) (limit : Option ℕ) (q : Queues X) (all : AllByRecursion P (everything q)) where
  abbrev of_parts : List (Part X)
  of_parts = done limit (parts weight capacity is_live wins q)

  of_admitted : All P q.admitted
  of_admitted = All-from_recursion P q.admitted (all-front P q.admitted q.waiting all)

  of_waiting : All P q.waiting
  of_waiting = All-from_recursion P q.waiting (all-back P q.admitted q.waiting all)

  in_parts : InParts P of_parts
  in_parts = InParts-done P limit (parts weight capacity is_live wins q) (InParts-parts P weight capacity wins is_live q of_admitted of_waiting)

  -- of all that a maintenance evicts
  pub all-evicted : AllByRecursion P (evicted_in of_parts)
  all-evicted = recursion_from_All P (evicted_in of_parts) (All-evicted_in P of_parts in_parts)

  -- of all that it leaves
  pub all-retained : AllByRecursion P (everything (after_parts q of_parts))
  all-retained = recursion_from_All P (everything (after_parts q of_parts)) (All-after_parts P q of_parts of_admitted of_waiting in_parts)
