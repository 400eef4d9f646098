use Rattle.std.proofs.Common.{refl, ap}
use Rattle.moka_expiration.specs.Behaviour.{hash_by}
use Rattle.moka_expiration.specs.StateData.{estimates}
use Rattle.moka_turns.proofs.Views.{nothing-kept}
use Rattle.moka_state.proofs.Sound.{IsSound-empty, limits-some}
use Rattle.moka_state.proofs.Turns.{new-books}
use Rattle.moka_state.proofs.state.State.new.Goals as goal

pub returns-clause-empty : goal.returns-clause-empty
returns-clause-empty g c = record {
  legal = tt;
  settings = refl;
  books = new-books c.in-Ok.table c.args.settings.first_number c.in-Ok.ensures.rows c.in-Ok.ensures.notices;
  frequency = λ more hash. ap (λ s. estimates g.C.Frequency.FrequencySource.noted g.C.Frequency.FrequencySource.count s more hash) c.in_ok-source.ensures.opened;
  turns = nothing-kept g.K.PartialEq.eq g.V.Clone.is_clone (hash_by g.C.Hasher.BuildHasher.build_hasher g.C.Hasher.Hasher.Hasher.write g.C.Hasher.Hasher.Hasher.finish g.K.Hash.hash_input c.new.result.hasher) c.new-2.result.opened.entries c.new-2.result.ended.entries c.new-2.ensures.nothing.0 c.new-2.ensures.nothing.1;
}

pub invariant_of-result : goal.invariant_of-result
invariant_of-result g c = (IsSound-empty _ _ _ c.in-Ok.table c.in-Ok.ensures.rows c.in-Ok.ensures.notices, limits-some c.args.settings.flush_limit c.requires.limits)
