use Rattle.std.proofs.Common.{refl}
use Rattle.moka_model.proofs.Callers.{evicted-done-le, done-enough, done_front, done_next}
use Rattle.moka_laws.proofs.maintenance_laws.a_limit_is_kept.Goals as goal

pub returns-clause-kept : goal.returns-clause-kept
returns-clause-kept g c ps limit = evicted-done-le ps limit

pub returns-clause-whole : goal.returns-clause-whole
returns-clause-whole g c ps = refl

pub returns-clause-enough : goal.returns-clause-enough
returns-clause-enough g c ps limit enough = done-enough ps limit enough

pub returns-clause-front : goal.returns-clause-front
returns-clause-front g c ps limit = done_front ps limit

pub returns-clause-next : goal.returns-clause-next
returns-clause-next g c ps limit = done_next ps limit
