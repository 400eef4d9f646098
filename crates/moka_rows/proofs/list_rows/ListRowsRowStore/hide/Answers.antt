use Rattle.std.proofs.Common.{sym}
use Rattle.moka_rows.specs.Rows.{hidden}
use Rattle.moka_rows.proofs.RowLemmas.{with_row-absent}
use Rattle.moka_rows.proofs.NumberLemmas.{IsNumbered-changed, IsNumbered-changed_front, absent-behind}
use Rattle.moka_rows.proofs.list_rows.ListRowsRowStore.hide.Goals as goal

pub invariant_of-self-clause-numbered : goal.invariant_of-self-clause-numbered
invariant_of-self-clause-numbered g c =
    rw c.hide.ensures
    (IsNumbered-changed_front c.args.self.now.next c.args.number c.in-Admitted.place c.args.self.now.admitted.items c.args.self.now.waiting.items
    c.index_mut.result.now hidden c.in-Admitted.ensures c.index_mut.ensures.value c.args.self.now.numbered)

pub invariant_of-self-in-Waiting-clause-numbered : goal.invariant_of-self-in-Waiting-clause-numbered
invariant_of-self-in-Waiting-clause-numbered g c =
    rw c.hide-in-Waiting.ensures
    (IsNumbered-changed c.args.self.now.next c.args.number c.in-Waiting.place c.args.self.now.admitted.items c.args.self.now.waiting.items
    c.index_mut-in-Waiting.result.now hidden c.in-Waiting.ensures.1 c.index_mut-in-Waiting.ensures.value c.args.self.now.numbered)

pub returns-in-Admitted-clause-admitted : goal.returns-in-Admitted-clause-admitted
returns-in-Admitted-clause-admitted g c = rw c.hide.ensures (c.in-Admitted.ensures.changed c.index_mut.result.now hidden c.index_mut.ensures.value)

pub returns-in-Admitted-clause-waiting : goal.returns-in-Admitted-clause-waiting
returns-in-Admitted-clause-waiting g c =
    sym (with_row-absent c.args.number hidden c.args.self.now.waiting.items
    (absent-behind c.args.number c.args.self.now.admitted.items c.args.self.now.waiting.items c.index_mut.result.now.1
    c.args.self.now.numbered.apart (c.in-Admitted.ensures.row c.index_mut.result.now c.index_mut.ensures.value)))

pub returns-in-Waiting-clause-admitted : goal.returns-in-Waiting-clause-admitted
returns-in-Waiting-clause-admitted g c = sym (with_row-absent c.args.number hidden c.args.self.now.admitted.items c.in-Waiting.ensures.0)

pub returns-in-Waiting-clause-waiting : goal.returns-in-Waiting-clause-waiting
returns-in-Waiting-clause-waiting g c =
    rw c.hide-in-Waiting.ensures (c.in-Waiting.ensures.1.changed c.index_mut-in-Waiting.result.now hidden c.index_mut-in-Waiting.ensures.value)
