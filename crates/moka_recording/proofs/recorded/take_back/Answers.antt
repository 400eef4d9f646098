use Rattle.std.proofs.Common.{◌≡◌, Some, sym, ap, ◌∙◌, subst, arith}
use Rattle.std.specs.Prelude.{slice_get}
use Rattle.moka_recording.proofs.Moves.{compares, takes}
use Rattle.moka_recording.proofs.recorded.take_back.Goals as goal

pub join_seat-requires : goal.join_seat-requires
join_seat-requires g c =
    let w = c.requires.words in
    let p = c.pass.invariant in
    (c.requires.token.0 ∙ sym c.requires.table, p.0 ∙ sym c.requires.table, p.1, omega arith, takes _ _ _ _)

pub load-requires : goal.load-requires
load-requires g c =
    let w = c.requires.words in
    (c.join_seat.ensures.0 ∙ c.requires.token.0 ∙ sym c.requires.table, omega arith, compares c.args.history.now.shared.table_id.slots _ 0 _ _ (ap (λ m. m.0.is_recorder) c.join_seat.ensures.2 ∙ c.requires.token.1))

pub returns-clause-stand : goal.returns-clause-stand
returns-clause-stand g c =
    let log = ap (λ m. m.0.all) c.join_seat.ensures.2 ∙ c.requires.token.2 in
    let claims = ap (λ m. m.0.claims) c.join_seat.ensures.2 in
    rw (← c.pass.view_is) (record {
      claims = λ j d at. subst (λ l. slice_get l d.place ≡ Some d.entry) log (c.load.ensures.2.1 j d (subst (λ l. slice_get l j ≡ Some d) (sym claims) at));
      receipts = c.pass.invariant.2;
    })
