use Rattle.moka_rows.proofs.NumberLemmas.{IsNumbered-push, row_under-next}
use Rattle.moka_rows.proofs.list_rows.ListRowsRowStore.add.Goals as goal

pub invariant_of-self-clause-numbered : goal.invariant_of-self-clause-numbered
invariant_of-self-clause-numbered g c =
    rw (c.push_reserved.ensures.items, c.new.ensures) (IsNumbered-push c.args.self.now.next c.args.self.now.admitted.items c.args.self.now.waiting.items c.args.row c.args.self.now.numbered)

pub returns-clause-fresh : goal.returns-clause-fresh
returns-clause-fresh g c = row_under-next c.args.self.now.next _ c.args.self.now.numbered
