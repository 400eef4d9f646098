use Rattle.std.proofs.Common.{◌≡◌, ◌+◌, length, length-append, ap, ◌∙◌, arith}
use Rattle.moka_index.proofs.NodeLemmas.{grows-push}
use Rattle.moka_index.proofs.nodes.grow.Goals as goal

pub loop-place-preserved : goal.loop-place-preserved
loop-place-preserved c =
    let items = (c.in_ok-push.ensures).items in
    let inv = c.loop-place.invariant in
    let more : length c.push.new.self.items ≡ length c.loop-place.nodes.items + 1 = ap length items ∙ length-append c.loop-place.nodes.items _ in
    record {
      grown = grows-push c.args.nodes.now.items c.loop-place.nodes.items c.push.new.self.items c.loop-place.place inv.grown inv.at
          (omega (arith, c.loop-place-test.true, c.requires.fits)) items;
      at = omega (arith, more, inv.at);
    }
