use Rattle.std.proofs.Common.{sym}
use Rattle.moka_index.proofs.DequeLemmas.{length-order}
use Rattle.moka_index.proofs.deques.Deques.lens.Goals as goal

pub returns-clause-admitted : goal.returns-clause-admitted
returns-clause-admitted c = sym (length-order c.args.self.now.nodes.items 0 c.args.self.now.admitted_len)

pub returns-clause-waiting : goal.returns-clause-waiting
returns-clause-waiting c = sym (length-order c.args.self.now.nodes.items 1 c.args.self.now.waiting_len)
