use Rattle.std.proofs.Common.{Some, ap, ◌∙◌}
use Rattle.moka_segmented.proofs.Opened.{share-ceil}
use Rattle.moka_segmented.proofs.opening.share_of_capacity.Goals as goal

pub returns-in-Some : goal.returns-in-Some
returns-in-Some c = rw c.in-Some.is (ap Some (c.div_ceil.ensures ∙ share-ceil c.in-Some.whole c.args.count c.requires))
