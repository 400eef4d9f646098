use Rattle.moka_model.specs.declared.notification.RemovalCause.TheVariants.{Explicit, Replaced}
use Rattle.moka_model.specs.Events.{Written, Invalidated, latest}
use Rattle.moka_laws.proofs.Places.{untouched_or_ended, FirstEnd-one_place}
use Rattle.moka_laws.proofs.Removals.{last_write_leaves, removals_at-nothing, removals_at-alone, removals_at-looks, maintained-leaves, maintained-stays}
use Rattle.std.proofs.Common.{◌∷◌}
use Rattle.moka_laws.proofs.laws.what_leaves_leaves_once.Goals as goal

pub returns-clause-replaced : goal.returns-clause-replaced
returns-clause-replaced g c settings h k q v at last same = last_write_leaves g.K.PartialEq.eq settings g.met.K.Eq.laws k q h Replaced (latest (Written q v at ∷ h)) last same

pub returns-clause-removed : goal.returns-clause-removed
returns-clause-removed g c settings h k q at last same = last_write_leaves g.K.PartialEq.eq settings g.met.K.Eq.laws k q h Explicit (latest (Invalidated q at ∷ h)) last same

pub returns-clause-evicted : goal.returns-clause-evicted
returns-clause-evicted g c settings h k limit at last evicted = maintained-leaves g.K.PartialEq.eq settings g.met.K.Eq.laws k h limit at last evicted

pub returns-clause-not_evicted : goal.returns-clause-not_evicted
returns-clause-not_evicted g c settings h k limit at stays = maintained-stays g.K.PartialEq.eq settings g.met.K.Eq.laws k h limit at stays

pub returns-clause-alone : goal.returns-clause-alone
returns-clause-alone g c settings h e some = removals_at-alone g.K.PartialEq.eq settings g.met.K.Eq.laws h e some

pub returns-clause-nothing : goal.returns-clause-nothing
returns-clause-nothing g c settings h e k ends_it none = removals_at-nothing g.K.PartialEq.eq settings g.met.K.Eq.laws k h e ends_it none

pub returns-clause-looks : goal.returns-clause-looks
returns-clause-looks g c settings h e none = removals_at-looks g.K.PartialEq.eq settings g.met.K.Eq.laws h e none

pub returns-clause-first : goal.returns-clause-first
returns-clause-first g c settings later h k = untouched_or_ended g.K.PartialEq.eq settings k h later

pub returns-clause-one_place : goal.returns-clause-one_place
returns-clause-one_place g c settings later h k a b = FirstEnd-one_place g.K.PartialEq.eq settings k h later a b
