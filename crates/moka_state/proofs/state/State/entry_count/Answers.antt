use Rattle.std.proofs.Common.{refl}
use Rattle.moka_model.specs.Calls.{EntryCount}
use Rattle.moka_state.proofs.Counts.{weighs_one, writes-bounded, rows-counted}
use Rattle.moka_state.proofs.Views.{follows-question}
use Rattle.moka_state.proofs.state.State.entry_count.Goals as goal

pub returns-clause-stands : goal.returns-clause-stands
returns-clause-stands g c = follows-question g.K.PartialEq.eq _ EntryCount (λ _ _. refl)

pub returns-clause-bounded : goal.returns-clause-bounded
returns-clause-bounded g c given steps stands without =
    let ones = weighs_one g.C.CacheTypes.weight _ (rw (← c.self.view_is) at without) in
    let few = writes-bounded g.K.PartialEq.eq given _ steps (rw (← c.self.view_is) at stands) ones c.self.invariant.1 in
    rw (← c.self.view_is, c.len.ensures, ← rows-counted c.self.inside.table) few
