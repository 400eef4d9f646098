use Rattle.std.proofs.Common.{[], ◌∷◌, ◌++◌, map, ap, sym, ◌∙◌, append_assoc}
use Rattle.std.specs.Arc.{arc_value}
use Rattle.moka_iter.proofs.Goings.{all-append}
use Rattle.moka_iter.proofs.position.next_of_segment.Goals as goal

pub loop-key-preserved : goal.loop-key-preserved
loop-key-preserved g c =
    let was = c.loop-key.invariant in
    let k = arc_value c.in-Some.key in (
      was.0 ++ k ∷ [],
      was.1 ∙ ap (λ l. was.0 ++ map arc_value l) c.in-Some.ensures.items ∙ sym (append_assoc was.0 (k ∷ []) (map arc_value c.pop_front.new.self.items)),
      all-append _ was.0 (k ∷ []) was.2 (rw c.in-Ok-None.field-0-is at c.in-Ok-None.ensures, tt),
    )
