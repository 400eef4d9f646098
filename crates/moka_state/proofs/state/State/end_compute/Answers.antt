use Rattle.moka_turns.specs.Handles.{turn_name}
use Rattle.moka_state.proofs.Forms.{abandon-stands}
use Rattle.moka_state.proofs.state.State.end_compute.Goals as goal

pub returns-clause-ends : goal.returns-clause-ends
returns-clause-ends g c settings steps stands =
    let ends = c.in-Err.ensures in
    let reply = rw (ends.refused, ends.turn_back) at c.abandon.ensures.reply in
    let follows = rw (ends.refused, ends.turn_back) at c.abandon.ensures.stands in
    let same = rw ends.refused at c.abandon.ensures.refused in (
      ends.reply settings steps stands,
      abandon-stands g.K.PartialEq.eq g.V.Clone.is_clone g.V.Clone.is_infallible settings steps _ (turn_name c.args.turn) c.abandon.result (reply settings steps stands) c.abandon.ensures.cause _ _
          (λ after. after settings steps stands) (λ is. rw is stands) follows same,
    )
