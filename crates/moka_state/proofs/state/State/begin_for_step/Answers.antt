use Rattle.std.proofs.Common.{false, unwrap_or, ap, ◌∙◌, [], ◌∷◌}
use Rattle.std.specs.Arc.{arc_value}
use Rattle.moka_model.specs.Calls.{Begin, live_at}
use Rattle.moka_model.specs.Steps.{events_in}
use Rattle.moka_state.specs.Given.{of_begin}
use Rattle.moka_state.proofs.TurnSteps.{said-or-unasked, unasked, begun-gives, gives-said, stands-said, OnOk-by}
use Rattle.moka_state.proofs.state.State.begin_for_step.Goals as goal

pub returns-in-Some-clause-reply : goal.returns-in-Some-clause-reply
returns-in-Some-clause-reply g c given steps stands =
    let begins = c.begin.ensures.begins in
    let reply = begins.1.reply given steps stands in
    let says = c.in-Some.field-0 in
    let said = said-or-unasked g.F.FnMut c.args.replace_if says (λ v b left called. c.requires.says v b left called ∙ ap (λ r. unwrap_or r false) c.in-Some.is) (live_at g.K.PartialEq.eq given (arc_value c.args.key.now) c.args.now (events_in steps)) begins.0 reply.0 in
    rw c.in-Some.is (gives-said g.K.PartialEq.eq given steps (arc_value c.args.key.now) c.args.kind c.args.now c.requires.initializer says g.V.Clone.is_clone g.V.Clone.is_infallible begins.0 said (of_begin c.begin.result)
    (begun-gives g.K.PartialEq.eq g.V.Clone.is_clone g.V.Clone.is_infallible given steps (Begin (arc_value c.args.key.now) c.args.kind begins.0 c.args.now) c.begin.result reply.1))

pub returns-in-Some-clause-stands : goal.returns-in-Some-clause-stands
returns-in-Some-clause-stands g c =
    let begins = c.begin.ensures.begins in
    let says = c.in-Some.field-0 in
    rw c.in-Some.is (OnOk-by c.begin.result (λ follows given steps stands.
    stands-said g.K.PartialEq.eq given steps (arc_value c.args.key.now) c.args.kind c.args.now c.requires.initializer says g.met.K.Eq.laws begins.0
    (said-or-unasked g.F.FnMut c.args.replace_if says (λ v b left called. c.requires.says v b left called ∙ ap (λ r. unwrap_or r false) c.in-Some.is) (live_at g.K.PartialEq.eq given (arc_value c.args.key.now) c.args.now (events_in steps)) begins.0 (begins.1.reply given steps stands).0) _ stands.legal (follows given steps stands)) begins.1.stands)

pub returns-in-None-clause-reply : goal.returns-in-None-clause-reply
returns-in-None-clause-reply g c given steps stands =
    let begins = c.begin-in-None.ensures.begins in
    let reply = begins.1.reply given steps stands in
    let nothing = unasked g.F.FnMut (live_at g.K.PartialEq.eq given (arc_value c.args.key.now) c.args.now (events_in steps)) begins.0 reply.0 in
    rw c.in-None.is (rw nothing at (begun-gives g.K.PartialEq.eq g.V.Clone.is_clone g.V.Clone.is_infallible given steps (Begin (arc_value c.args.key.now) c.args.kind begins.0 c.args.now) c.begin-in-None.result reply.1))

pub returns-in-None-clause-stands : goal.returns-in-None-clause-stands
returns-in-None-clause-stands g c =
    let begins = c.begin-in-None.ensures.begins in
    rw c.in-None.is (OnOk-by c.begin-in-None.result (λ follows given steps stands.
    let nothing = unasked g.F.FnMut (live_at g.K.PartialEq.eq given (arc_value c.args.key.now) c.args.now (events_in steps)) begins.0 (begins.1.reply given steps stands).0 in
    rw nothing at (follows given steps stands)) begins.1.stands)

-- What may always be called may be called at the live value.
pub begin-requires-clause-asks : goal.begin-requires-clause-asks
begin-requires-clause-asks g c = λ w stored same live kept y shows. (c.requires.asks.at ((y, tt) ∷ [])).0
