use Rattle.moka_laws.proofs.Moves.{look-none, removed_in-none, hit-admitted, written-admitted, removed-admitted}
use Rattle.moka_laws.proofs.order_laws.a_use_moves_an_admitted_key_behind_all_others.Goals as goal

pub returns-clause-hit : goal.returns-clause-hit
returns-clause-hit g c settings q k at before after w one same place live = hit-admitted g.K.PartialEq.eq settings k q one before after w same place at live

pub returns-clause-overwrite : goal.returns-clause-overwrite
returns-clause-overwrite g c settings q k v at before after w one same place = written-admitted g.K.PartialEq.eq settings k q one before after w same place v at

pub returns-clause-no_hit : goal.returns-clause-no_hit
returns-clause-no_hit g c settings q k at none = look-none g.K.PartialEq.eq settings k q at none

pub returns-clause-removal : goal.returns-clause-removal
returns-clause-removal g c settings q k before after w one same place = removed-admitted g.K.PartialEq.eq settings k q one before after w same place

pub returns-clause-no_removal : goal.returns-clause-no_removal
returns-clause-no_removal g c settings q k none = removed_in-none g.K.PartialEq.eq settings k q none
