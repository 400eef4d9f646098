use Rattle.std.proofs.Common.{◌≡◌, None, Some, refl, sym, ap, ◌∙◌}
use Rattle.moka_turns.proofs.Begins.{same-there, told-open, told-unknown}
use Rattle.moka_turns.proofs.table.TurnTable.waiting_for.Goals as goal

pub returns-in-Some-clause-tells : goal.returns-in-Some-clause-tells
returns-in-Some-clause-tells g c hash_of ts respects hashed sound keeps =
    told-open g.K.PartialEq.eq g.met.K.Eq.laws g.V.Clone.is_clone hash_of respects ts sound _ _ keeps c.args.turn.now.key hashed c.args.turn.now.number c.in-Some.row.now (sym c.in-Some.ensures.value) c.if-row-turn.true _ refl

pub returns-in_default-clause-tells : goal.returns-in_default-clause-tells
returns-in_default-clause-tells g c hash_of ts respects hashed sound keeps =
    told-unknown g.K.PartialEq.eq g.met.K.Eq.laws g.V.Clone.is_clone hash_of respects ts sound _ _ keeps c.args.turn.now.key hashed c.args.turn.now.number (λ row there same. c.if-row-turn.false (same-there _ _ row (sym c.in-Some.ensures.value) there ∙ same)) _ refl

pub returns-in_default-2-clause-tells : goal.returns-in_default-2-clause-tells
returns-in_default-2-clause-tells g c hash_of ts respects hashed sound keeps =
    let none = rw c.in_default.is at c.get.ensures.value in
    told-unknown g.K.PartialEq.eq g.met.K.Eq.laws g.V.Clone.is_clone hash_of respects ts sound _ _ keeps c.args.turn.now.key hashed c.args.turn.now.number (λ row there same. let off : None ≡ Some row = none ∙ there in cc) _ refl
