use Rattle.std.proofs.Common.{◌≡◌, ◌∙◌, ℕ, false, Option, Some, None, refl, sym}
use Rattle.std.specs.Option.{is_some}
use Rattle.std.proofs.lemmas.Bool.{true≢false}
use Rattle.moka_index.specs.RowIndex.{waiting_of}
use Rattle.moka_index.proofs.Callers.{linked-once, in-admitted, last-stays, without-absent}
use Rattle.moka_index.proofs.row_index.RowIndex.touch.Goals as goal
use Rattle.moka_index.proofs.row_index.RowIndex.touch.Goals.{else-is_admitted-via-then-is_admitted+else-is_some, else-is_admitted-via-else-is_admitted}

none-is : (o : Option ℕ) → is_some o ≡ false → o ≡ None
none-is None said = refl
none-is (Some x) said = absurd cc

pub returns-then-is_some-clause-waiting : goal.returns-then-is_some-clause-waiting
returns-then-is_some-clause-waiting c =
    let there = in-admitted c.args.self.now c.args.number c.is_admitted-is_admitted.result c.requires c.is_admitted-is_admitted.ensures.waiting c.if-is_admitted.true in
    c.move_last.ensures.waiting ∙ without-absent c.args.number (waiting_of c.args.self.now) (linked-once c.args.self.now c.args.number there)

pub returns-else-is_admitted-clause-admitted : goal.returns-else-is_admitted-clause-admitted
returns-else-is_admitted-clause-admitted c = λ there.
    elim c.else-is_admitted.branch [
      | else-is_admitted-via-then-is_admitted+else-is_some w ↦
          let none : w.next.result ≡ None = none-is w.next.result (sym w.is_some.ensures ∙ w.if-is_some.false) in
          (c.is_admitted-is_admitted.ensures.admitted there, last-stays c.args.number _ there (sym (w.next.ensures.admitted there) ∙ none))
      | else-is_admitted-via-else-is_admitted w ↦ absurd (true≢false (sym (c.is_admitted-is_admitted.ensures.admitted there) ∙ w.if-is_admitted.false))
    ]
