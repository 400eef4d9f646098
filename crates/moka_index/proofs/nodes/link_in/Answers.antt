use Rattle.std.proofs.Common.{◌≡◌}
use Rattle.moka_index.specs.Nodes.{node_at}
use Rattle.moka_index.proofs.NodeLemmas.{prev-within, links}
use Rattle.moka_index.proofs.nodes.link_in.Goals as goal

pub set_next-requires : goal.set_next-requires
set_next-requires c = rw c.read-prev.ensures (prev-within c.args.nodes.now c.args.before c.requires.mutual c.requires.within)

pub returns : goal.returns
returns c =
    let is : c.read-prev.result ≡ node_at c.args.nodes.now c.args.before = c.read-prev.ensures in
    links c.args.nodes.now c.set_next.new.nodes c.set_next-2.new.nodes c.set_prev.new.nodes c.set_prev-2.new.nodes c.args.at c.args.before
    c.requires.mutual c.requires.alone c.requires.other (rw is at c.set_next.ensures) c.set_next-2.ensures (rw is at c.set_prev.ensures) c.set_prev-2.ensures
