use Rattle.moka_laws.proofs.Moves.{hidden-keys, look-waiting_keys, overwrite-waiting_keys, removed_in-waiting_keys, written_in-anew, hit-waiting, written-waiting, removed-waiting}
use Rattle.moka_laws.proofs.order_laws.a_hit_leaves_the_waiting_order_alone.Goals as goal

pub returns-clause-look : goal.returns-clause-look
returns-clause-look g c settings q k at = look-waiting_keys g.K.PartialEq.eq settings k q at

pub returns-clause-overwrite : goal.returns-clause-overwrite
returns-clause-overwrite g c settings q k v at some = overwrite-waiting_keys g.K.PartialEq.eq settings k q v at some

pub returns-clause-removal : goal.returns-clause-removal
returns-clause-removal g c settings q k = removed_in-waiting_keys g.K.PartialEq.eq settings k q

pub returns-clause-opening : goal.returns-clause-opening
returns-clause-opening g c settings q k v at none = written_in-anew g.K.PartialEq.eq settings k q v at none

pub returns-clause-hit_in_place : goal.returns-clause-hit_in_place
returns-clause-hit_in_place g c settings q k at before after w one same place live = hit-waiting g.K.PartialEq.eq settings k q one before after w same place at live

pub returns-clause-overwrite_in_place : goal.returns-clause-overwrite_in_place
returns-clause-overwrite_in_place g c settings q k v at before after w one same place = written-waiting g.K.PartialEq.eq settings k q one before after w same place v at

pub returns-clause-removal_alone : goal.returns-clause-removal_alone
returns-clause-removal_alone g c settings q k before after w one same place = removed-waiting g.K.PartialEq.eq settings k q one before after w same place

pub returns-clause-hiding : goal.returns-clause-hiding
returns-clause-hiding g c q test = (hidden-keys test q.waiting, hidden-keys test q.admitted)
