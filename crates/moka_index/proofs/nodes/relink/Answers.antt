use Rattle.std.proofs.Common.{◌≡◌, length, sym, subst, ◌∙◌}
use Rattle.std.specs.Vec.{with_items}
use Rattle.std.proofs.lemmas.List.{with_items_is}
use Rattle.moka_index.specs.Nodes.{Relinks}
use Rattle.moka_index.proofs.nodes.relink.Goals as goal

pub returns : goal.returns
returns c =
    let before = c.args.nodes.now in
    let after = c.relink_in.new.nodes in
    let len : length after ≡ before.len = c.relink_in.ensures.joined.rest.len ∙ c.relink_in.ensures.left.rest.len ∙ c.deref_mut.ensures.len in
    subst (λ t. Relinks t (with_items before after).items c.args.at c.args.before) c.deref_mut.ensures.value
    (subst (λ t. Relinks c.deref_mut.result.now t c.args.at c.args.before) (sym (with_items_is before after len)) c.relink_in.ensures)
