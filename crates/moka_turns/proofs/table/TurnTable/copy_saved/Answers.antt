use Rattle.std.proofs.Common.{◌≡◌, None, Some, sym, ◌∙◌}
use Rattle.std.specs.Prelude.{Result, Ok, Err, IfOk}
use Rattle.moka_turns.proofs.Abandons.{the_turn, known, unknown}
use Rattle.moka_turns.proofs.Begins.{same-there}
use Rattle.moka_turns.proofs.Copies.{value-twice}
use Rattle.moka_turns.proofs.table.TurnTable.copy_saved.Goals as goal

pub returns-in_default : goal.returns-in_default
returns-in_default g c hash_of ts respects hashed sound keeps compose =
    let none = rw c.in_default.is at c.get.ensures.value in
    rw (unknown g.K.PartialEq.eq g.V.Clone.is_clone hash_of ts sound _ _ keeps c.args.key.now hashed c.args.number (λ row there same. let off : None ≡ Some row = none ∙ there in cc)) tt

pub returns-then-row-number : goal.returns-then-row-number
returns-then-row-number g c hash_of ts respects hashed sound keeps compose =
    rw (unknown g.K.PartialEq.eq g.V.Clone.is_clone hash_of ts sound _ _ keeps c.args.key.now hashed c.args.number (λ row there same. c.if-row-number.true (same-there _ _ row (sym c.in-Some.ensures.value) there ∙ same))) tt

IfOk-by : {A B : Type 0} {P Q : A → Type 0} (r : Result A B) → ((x : A) → P x → Q x) → IfOk r P → IfOk r Q
IfOk-by (Ok x) more is = more x is
IfOk-by (Err e) more is = tt

pub returns : goal.returns
returns g c = IfOk-by c.copy_saved.result (λ copy copied hash_of ts respects hashed sound keeps compose.
    let eq = g.K.PartialEq.eq in
    let copies = g.V.Clone.is_clone in
    let q = c.args.key.now in
    let row = c.in-Some.row.now in
    let turn = the_turn eq g.met.K.Eq.laws copies hash_of respects ts sound _ _ keeps q hashed row (sym c.in-Some.ensures.value) in
    let named = known eq copies hash_of ts sound _ _ keeps q hashed c.args.number turn.0 turn.1 (sym turn.2.number ∙ c.if-row-number.false) in
    rw named (value-twice copies compose turn.0.kept row.saved copy turn.2.saved copied)) c.copy_saved.ensures
