use Rattle.moka_state.specs.BegunOf.{as_begin}
use Rattle.moka_state.proofs.Forms.{on-ok, unsaid}
use Rattle.moka_state.proofs.state.State.begin_now.Goals as goal

pub returns-clause-begins : goal.returns-clause-begins
returns-clause-begins g c =
    let begins = c.begin_now_if.ensures.begins in
    record {
      reply = λ settings steps stands.
          let it = begins.1.reply settings steps stands in
          rw (unsaid _ _ _ begins.0 c.none_like.ensures it.0) at it.1;
      stands = on-ok (as_begin c.begin_now_if.result) (λ follows settings steps stands.
          let it = begins.1.reply settings steps stands in
          rw (unsaid _ _ _ begins.0 c.none_like.ensures it.0) at follows settings steps stands) begins.1.stands;
      refused = begins.1.refused;
    }
