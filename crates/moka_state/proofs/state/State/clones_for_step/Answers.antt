use Rattle.std.proofs.Common.{None}
use Rattle.std.specs.Arc.{arc_value}
use Rattle.moka_state.proofs.HandsOuts.{begin-hands, compute-hands}
use Rattle.moka_state.proofs.Replied.{IfOk-so}
use Rattle.moka_state.proofs.state.State.clones_for_step.Goals as goal

pub returns-in-Begin : goal.returns-in-Begin
returns-in-Begin g c = rw c.in-Begin.is (IfOk-so c.clones_for_begin.result c.clones_for_begin.ensures.name c.clones_for_begin.ensures.entry (λ out named live given steps stands.
    begin-hands g.K.PartialEq.eq g.V.Clone.is_clone given steps out (arc_value c.in-Begin.key) c.in-Begin.now named c.shows_live-may_show.result c.in-Begin.kind c.in-Begin.replace
    (λ shows. live shows given steps stands) (λ hides. c.shows_live-may_show.ensures hides given steps stands)))

pub returns-in-BeginCompute : goal.returns-in-BeginCompute
returns-in-BeginCompute g c =
    let out_of = c.clones_for_begin-in-BeginCompute in
    let shows_it = c.shows_live-may_show-in-BeginCompute in
    rw c.in-BeginCompute.is (IfOk-so out_of.result out_of.ensures.name out_of.ensures.entry (λ out named live given steps stands.
    compute-hands g.K.PartialEq.eq g.V.Clone.is_clone given steps out (arc_value c.in-BeginCompute.key) c.in-BeginCompute.now named shows_it.result c.in-BeginCompute.keep None
    (λ shows. live shows given steps stands) (λ hides. shows_it.ensures hides given steps stands)))
