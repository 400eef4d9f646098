use Rattle.moka_state.proofs.Removing.{IsSound-hidden, becomes-hidden}
use Rattle.moka_state.proofs.Views.{follows-hidden}
use Rattle.moka_state.proofs.state.State.hide_where.Goals as goal

pub invariant_of-self : goal.invariant_of-self
invariant_of-self g c =
    let s = c.self.inside in
    let test = g.C.CacheTypes.test c.args.predicate.now in
    (IsSound-hidden test s.table c.hide_where.new.self (c.hide_where.ensures.admitted test c.requires.tests) (c.hide_where.ensures.waiting test c.requires.tests) c.hide_where.ensures.notices _ _ s.housekeeper.lives c.self.invariant.0, c.self.invariant.1)

pub returns-clause-stands : goal.returns-clause-stands
returns-clause-stands g c =
    let s = c.self.inside in
    let test = g.C.CacheTypes.test c.args.predicate.now in
    rw (← c.self.view_is) (follows-hidden g.K.PartialEq.eq g.met.K.Eq.laws _ _ test (rw (← c.self.view_is) at c.requires.supported)
    (becomes-hidden test s.table c.hide_where.new.self (c.hide_where.ensures.admitted test c.requires.tests) (c.hide_where.ensures.waiting test c.requires.tests) c.hide_where.ensures.notices g.K.PartialEq.eq _ _ s.latest s.next_number))
