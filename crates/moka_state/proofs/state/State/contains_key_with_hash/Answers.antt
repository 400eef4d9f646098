use Rattle.std.proofs.Common.{ap, sym, refl, ◌∙◌, arith}
use Rattle.moka_model.specs.Calls.{ContainsKey, Contains}
use Rattle.moka_expiration.specs.Behaviour.{hash_by}
use Rattle.moka_state.proofs.Alike.{hash-alike}
use Rattle.moka_state.proofs.Finds.{found-is}
use Rattle.moka_state.proofs.Views.{follows-question}
use Rattle.moka_state.proofs.state.State.contains_key_with_hash.Goals as goal

pub returns-clause-reply : goal.returns-clause-reply
returns-clause-reply g c given steps stands =
    let s = c.self.inside in
    let eq = g.K.PartialEq.eq in
    let laws = g.met.K.Eq.laws in
    let key = c.args.key.now in
    let hash_of = hash_by g.C.Hasher.BuildHasher.build_hasher g.C.Hasher.Hasher.Hasher.write g.C.Hasher.Hasher.Hasher.finish g.K.Hash.hash_input s.behaviour.hasher in
    let alike = hash-alike g.C.Hasher.BuildHasher.build_hasher g.C.Hasher.Hasher.Hasher.write g.C.Hasher.Hasher.Hasher.finish s.behaviour.hasher g.met.K.Hash.respects_eq in
    let hash = rw (← c.self.view_is) at c.requires.hash in
    let there = rw (← c.self.view_is) at stands in
    let found = found-is eq laws _ s.table _ s.latest s.next_number given steps there s.housekeeper.lives refl c.self.invariant.0.dated hash_of alike c.self.invariant.0.hashed key c.args.now c.args.hash hash (omega (arith, c.max-now.ensures)) _ (rw c.max-now.ensures at c.find_live.ensures) in
    ap Contains (c.is_some.ensures ∙ sym found)

pub returns-clause-stands : goal.returns-clause-stands
returns-clause-stands g c = follows-question g.K.PartialEq.eq _ (ContainsKey c.args.key.now c.args.now) (λ _ _. refl)
