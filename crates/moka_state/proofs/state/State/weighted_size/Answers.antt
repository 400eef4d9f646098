use Rattle.std.proofs.Common.{◌∙◌, ap, refl, arith}
use Rattle.moka_model.specs.Calls.{WeightedSize, Counted}
use Rattle.moka_state.proofs.Counts.{rows-weighed, writes-weighed}
use Rattle.moka_state.proofs.Views.{follows-question}
use Rattle.moka_state.proofs.state.State.weighted_size.Goals as goal

pub returns-clause-counted : goal.returns-clause-counted
returns-clause-counted g c =
    let weighs = c.weight.ensures ∙ rows-weighed c.self.inside.table in
    rw (← c.self.view_is) (omega (arith, weighs))

pub returns-clause-reply : goal.returns-clause-reply
returns-clause-reply g c given steps stands =
    let weighed = writes-weighed g.K.PartialEq.eq given _ steps (rw (← c.self.view_is) at stands) in
    let weighs = c.weight.ensures ∙ rows-weighed c.self.inside.table ∙ weighed in
    ap Counted (omega (arith, weighs))

pub returns-clause-stands : goal.returns-clause-stands
returns-clause-stands g c = follows-question g.K.PartialEq.eq _ WeightedSize (λ _ _. refl)
