use Rattle.std.proofs.Common.{◌≡◌, length, sym, subst, ◌∙◌}
use Rattle.std.specs.Vec.{with_items}
use Rattle.std.proofs.lemmas.List.{with_items_is}
use Rattle.moka_index.specs.Nodes.{Unlinks}
use Rattle.moka_index.proofs.nodes.unlink.Goals as goal

pub returns : goal.returns
returns c =
    let before = c.args.nodes.now in
    let after = c.unlink_in.new.nodes in
    let len : length after ≡ before.len = c.unlink_in.ensures.rest.len ∙ c.deref_mut.ensures.len in
    subst (λ t. Unlinks t (with_items before after).items c.args.at) c.deref_mut.ensures.value
    (subst (λ t. Unlinks c.deref_mut.result.now t c.args.at) (sym (with_items_is before after len)) c.unlink_in.ensures)
