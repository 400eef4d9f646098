use Rattle.std.proofs.Common.{refl, ap, ◌∙◌}
use Rattle.moka_model.specs.Turns.{Spent, has_ticket_as}
use Rattle.moka_model.specs.Calls.{Leave}
use Rattle.moka_expiration.specs.Behaviour.{hash_by}
use Rattle.moka_state.proofs.NamedTurns.{refuses-named, gives-named, stands-named}
use Rattle.moka_state.proofs.Turns.{no-less}
use Rattle.moka_state.proofs.state.State.leave.Goals as goal

pub returns-then-not-leave-clause-reply : goal.returns-then-not-leave-clause-reply
returns-then-not-leave-clause-reply g c given steps stands =
    let hash_of = hash_by g.C.Hasher.BuildHasher.build_hasher g.C.Hasher.Hasher.Hasher.write g.C.Hasher.Hasher.Hasher.finish g.K.Hash.hash_input c.self.inside.behaviour.hasher in (
      refuses-named g.met.K.Eq.laws g.V.Clone.is_clone g.V.Clone.is_infallible given hash_of c.hash-hash.ensures.alike Leave (has_ticket_as g.K.PartialEq.eq) Spent steps _ c.self.inside.turns c.leave.new.self (rw (← c.self.view_is) at stands) (λ n. refl)
          c.with_hash.result.key c.with_hash.result.number _ c.with_hash.ensures.name (c.with_hash.ensures.hash ∙ c.hash-hash.ensures.hash ∙ ap hash_of c.key.ensures) c.leave.result c.leave.ensures.leaves c.if-not-leave.true,
      refl,
    )

pub returns-clause-reply : goal.returns-clause-reply
returns-clause-reply g c given steps stands =
    let hash_of = hash_by g.C.Hasher.BuildHasher.build_hasher g.C.Hasher.Hasher.Hasher.write g.C.Hasher.Hasher.Hasher.finish g.K.Hash.hash_input c.self.inside.behaviour.hasher in
    gives-named g.met.K.Eq.laws g.V.Clone.is_clone g.V.Clone.is_infallible given hash_of c.hash-hash.ensures.alike Leave (has_ticket_as g.K.PartialEq.eq) Spent steps _ c.self.inside.turns c.leave.new.self (rw (← c.self.view_is) at stands) (λ n. refl)
    c.with_hash.result.key c.with_hash.result.number _ c.with_hash.ensures.name (c.with_hash.ensures.hash ∙ c.hash-hash.ensures.hash ∙ ap hash_of c.key.ensures) c.leave.result c.leave.ensures.leaves (λ n next out. no-less out.0) c.if-not-leave.false

pub returns-clause-stands : goal.returns-clause-stands
returns-clause-stands g c given steps stands =
    let hash_of = hash_by g.C.Hasher.BuildHasher.build_hasher g.C.Hasher.Hasher.Hasher.write g.C.Hasher.Hasher.Hasher.finish g.K.Hash.hash_input c.self.inside.behaviour.hasher in
    stands-named g.met.K.Eq.laws g.V.Clone.is_clone g.V.Clone.is_infallible given hash_of c.hash-hash.ensures.alike Leave (has_ticket_as g.K.PartialEq.eq) Spent steps _ c.self.inside.turns c.leave.new.self (rw (← c.self.view_is) at stands) (λ n. refl)
    c.with_hash.result.key c.with_hash.result.number _ c.with_hash.ensures.name (c.with_hash.ensures.hash ∙ c.hash-hash.ensures.hash ∙ ap hash_of c.key.ensures) c.leave.result c.leave.ensures.leaves c.leave.ensures.unchanged
