use Rattle.std.proofs.Common.{◌≡◌, length, sym, subst, ◌∙◌}
use Rattle.std.specs.Vec.{with_items}
use Rattle.std.proofs.lemmas.List.{with_items_is}
use Rattle.moka_index.specs.Nodes.{LinksBefore}
use Rattle.moka_index.proofs.nodes.link_before.Goals as goal

pub returns : goal.returns
returns c =
    let before = c.args.nodes.now in
    let after = c.link_in.new.nodes in
    let len : length after ≡ before.len = c.link_in.ensures.rest.len ∙ c.deref_mut.ensures.len in
    subst (λ t. LinksBefore t (with_items before after).items c.args.at c.args.before) c.deref_mut.ensures.value
    (subst (λ t. LinksBefore c.deref_mut.result.now t c.args.at c.args.before) (sym (with_items_is before after len)) c.link_in.ensures)
