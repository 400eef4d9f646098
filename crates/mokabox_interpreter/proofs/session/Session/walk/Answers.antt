use Rattle.std.proofs.Common.{◌∷◌, [], ap, ◌∙◌, map, rules}
use Rattle.std.proofs.lemmas.List.Sorted.{IsNonDecreasingBy-from_sort_by_key}
use Rattle.mokabox_syntax.specs.OutputLine.{output_text}
use Rattle.mokabox_syntax.specs.declared.output_line.OutputLine.TheVariants.{Refused}
use Rattle.mokabox_interpreter.proofs.WalkLines.{walk_printed, walk_refused}
use Rattle.mokabox_interpreter.proofs.session.Session.walk.Goals as goal

pub returns-in_ok-vec-in-Ok : goal.returns-in_ok-vec-in-Ok
returns-in_ok-vec-in-Ok c =
    let sort = c.sort_unstable_by_key.ensures in
    walk_printed _ _ c.in-Ok.pairs.items c.sort_unstable_by_key.new.self.items _ (rw c.in-Ok.is at c.in_ok-pairs.ensures.pairs) sort.permutation
    (IsNonDecreasingBy-from_sort_by_key (λ pair. pair.0) c.sort_unstable_by_key.new.self.items sort.sorted (λ a r f' called. search rules)) (ap (map output_text) c.in_ok-vec-in-Ok.ensures.items)

pub returns-in_ok-vec-in-Err : goal.returns-in_ok-vec-in-Err
returns-in_ok-vec-in-Err c =
    let cause = rw c.in-Err.is at c.in_ok-pairs.ensures.cause in
    walk_refused _ _ _ (ap (map output_text) c.in_ok-vec-in-Err.ensures.items ∙ ap (λ r. output_text (Refused r) ∷ []) cause)
