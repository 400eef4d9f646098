use Rattle.std.proofs.Common.{ap, ◌∙◌, ◌++◌}
use Rattle.moka_model.specs.SizeLaws.{dead}
use Rattle.moka_laws.proofs.Departures.{gone-dead_first, behind-front, admitted-front}
use Rattle.moka_laws.proofs.size_laws.the_shortest_front_leaves.Goals as goal

pub returns-clause-leaving : goal.returns-clause-leaving
returns-clause-leaving g c settings h at capacity lru e light = gone-dead_first g.K.PartialEq.eq settings at h ∙ ap (λ ws. dead g.K.PartialEq.eq settings at h ++ ws) (behind-front g.K.PartialEq.eq settings at h lru capacity e light)

pub returns-clause-admitted : goal.returns-clause-admitted
returns-clause-admitted g c settings h at capacity lru e light = admitted-front g.K.PartialEq.eq settings at h lru capacity e light
