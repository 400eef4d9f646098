use Rattle.std.proofs.Common.{refl}
use Rattle.moka_turns.specs.Handles.{turn_name}
use Rattle.moka_state.proofs.Forms.{abandon-stands}
use Rattle.moka_state.proofs.state.State.end_tried_compute.Goals as goal

pub returns-in-Ok-end_compute-clause-ends : goal.returns-in-Ok-end_compute-clause-ends
returns-in-Ok-end_compute-clause-ends g c =
    let ends = rw c.in-Ok-end_compute.is at c.end_compute.ensures.ends in
    rw c.in-Ok.is ends

pub returns-in-Err-end_compute-clause-ends : goal.returns-in-Err-end_compute-clause-ends
returns-in-Err-end_compute-clause-ends g c =
    let ends = rw c.in-Err-end_compute.is at c.end_compute.ensures.ends in
    rw c.in-Ok.is ends

pub returns-in-Err-clause-ends : goal.returns-in-Err-clause-ends
returns-in-Err-clause-ends g c settings steps stands =
    rw c.in-Err.is (
      refl,
      abandon-stands g.K.PartialEq.eq g.V.Clone.is_clone g.V.Clone.is_infallible settings steps _ (turn_name c.args.turn) c.abandon.result (c.abandon.ensures.reply settings steps stands) c.abandon.ensures.cause _ _
          (λ after. after settings steps stands) (λ is. rw is stands) c.abandon.ensures.stands c.abandon.ensures.refused,
    )
