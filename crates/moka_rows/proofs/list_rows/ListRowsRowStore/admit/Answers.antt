use Rattle.moka_rows.proofs.NumberLemmas.{IsNumbered-admitted}
use Rattle.moka_rows.proofs.list_rows.ListRowsRowStore.admit.Goals as goal

pub invariant_of-self-clause-numbered : goal.invariant_of-self-clause-numbered
invariant_of-self-clause-numbered g c =
    rw (c.push_reserved.ensures.items, c.remove-newest.ensures.items)
    (IsNumbered-admitted c.args.self.now.next c.args.number c.in-Some.place c.args.self.now.admitted.items c.args.self.now.waiting.items
    c.remove-newest.result (rw c.deref.ensures.value at c.in-Some.ensures) c.remove-newest.ensures.value c.args.self.now.numbered)
