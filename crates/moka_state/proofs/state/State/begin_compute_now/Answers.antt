use Rattle.std.proofs.Common.{refl}
use Rattle.moka_model.specs.Steps.{events_in}
use Rattle.moka_state.proofs.ComputeForms.{closed-waits-not, open-waits}
use Rattle.moka_state.proofs.state.State.begin_compute_now.Goals as goal

pub returns-then-has_to_refuse-clause-begins : goal.returns-then-has_to_refuse-clause-begins
returns-then-has_to_refuse-clause-begins g c =
    let told = rw c.if-has_to_refuse.true at c.has_to_refuse.ensures in
    record {
      reply = λ settings steps stands. open-waits g.K.PartialEq.eq settings (events_in steps) c.args.key c.args.keep c.args.now _ (told settings steps stands);
      stands = tt;
      refused = refl;
    }

pub returns-in-Err-clause-begins : goal.returns-in-Err-clause-begins
returns-in-Err-clause-begins g c =
    let told = rw c.if-has_to_refuse.false at c.has_to_refuse.ensures in
    record {
      reply = λ settings steps stands. (closed-waits-not g.K.PartialEq.eq settings (events_in steps) c.args.key c.args.keep c.args.now _ (told settings steps stands), (tt, λ counts. absurd counts));
      stands = tt;
      refused = refl;
    }

pub returns-in-Ok-clause-begins : goal.returns-in-Ok-clause-begins
returns-in-Ok-clause-begins g c = rw (c.in-Ok.ensures, c.into_shown_turn.ensures) at c.begin_computing.ensures.begins

pub returns-in-Ok-clause-named : goal.returns-in-Ok-clause-named
returns-in-Ok-clause-named g c = rw (c.in-Ok.ensures, c.into_shown_turn.ensures) at c.begin_computing.ensures.named

pub returns-in-Ok-clause-kept : goal.returns-in-Ok-clause-kept
returns-in-Ok-clause-kept g c = rw (c.in-Ok.ensures, c.into_shown_turn.ensures) at c.begin_computing.ensures.kept_for
