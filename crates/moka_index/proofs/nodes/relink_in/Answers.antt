use Rattle.std.proofs.Common.{◌≡◌}
use Rattle.moka_index.specs.Nodes.{node_at}
use Rattle.moka_index.proofs.NodeLemmas.{next-within, prev-within, last-within, relinks}
use Rattle.moka_index.proofs.nodes.relink_in.Goals as goal

pub set_next-requires : goal.set_next-requires
set_next-requires c = rw c.read-sides.ensures (prev-within c.args.nodes.now c.args.at c.requires.mutual c.requires.at_within)

pub set_prev-requires : goal.set_prev-requires
set_prev-requires c = rw (c.set_next.ensures.rest.len, c.read-sides.ensures) (next-within c.args.nodes.now c.args.at c.requires.mutual c.requires.at_within)

pub set_next-requires-2 : goal.set_next-requires-2
set_next-requires-2 c =
    let is : c.read-sides.result ≡ node_at c.args.nodes.now c.args.at = c.read-sides.ensures in
    rw c.read-last.ensures (last-within c.args.nodes.now c.set_next.new.nodes c.set_prev.new.nodes c.args.at c.args.end c.requires.at_within c.requires.mutual c.requires.other
    (rw is at c.set_next.ensures) (rw is at c.set_prev.ensures) c.requires.within)

pub returns : goal.returns
returns c =
    let is : c.read-sides.result ≡ node_at c.args.nodes.now c.args.at = c.read-sides.ensures in
    let last : c.read-last.result ≡ node_at c.set_prev.new.nodes c.args.end = c.read-last.ensures in
    relinks c.args.nodes.now c.set_next.new.nodes c.set_prev.new.nodes c.args.at c.args.end c.requires.at_within c.requires.mutual c.requires.other
    (rw is at c.set_next.ensures) (rw is at c.set_prev.ensures) c.set_next-2.new.nodes c.set_next-3.new.nodes c.set_prev-2.new.nodes c.set_prev-3.new.nodes
    (rw last at c.set_next-2.ensures) c.set_next-3.ensures (rw last at c.set_prev-2.ensures) c.set_prev-3.ensures
