use Rattle.std.proofs.Common.{arith}
use Rattle.moka_rows.proofs.list_rows.ListRowsRowStore.numbers_differ.Goals as goal

pub returns-clause-few : goal.returns-clause-few
returns-clause-few g c = let few = c.args.self.now.numbered.few in omega (arith, few)
