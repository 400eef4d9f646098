use Rattle.std.proofs.Common.{◌∙◌}
use Rattle.moka_segmented.proofs.Opened.{share-ceil}
use Rattle.moka_segmented.proofs.opening.share_of.Goals as goal

pub returns-clause-room : goal.returns-clause-room
returns-clause-room g c = c.div_ceil.ensures ∙ share-ceil c.args.settings.now.initial_capacity c.args.count c.requires.some
