use Rattle.moka_state.specs.BegunOf.{as_begin}
use Rattle.moka_state.proofs.Forms.{on-ok, unsaid}
use Rattle.moka_state.proofs.state.State.begin_now_by_ref.Goals as goal

pub returns-clause-begins : goal.returns-clause-begins
returns-clause-begins g c =
    let begins = rw c.into_begun_now.ensures at c.begin_borrowed.ensures.begins in (
      begins.0,
      begins.1,
      record {
        reply = λ settings steps stands.
            let it = begins.3.reply settings steps stands in
            rw (unsaid _ _ _ begins.2 c.none_like.ensures it.0) at it.1;
        stands = on-ok (as_begin c.into_begun_now.result) (λ follows settings steps stands.
            let it = begins.3.reply settings steps stands in
            rw (unsaid _ _ _ begins.2 c.none_like.ensures it.0) at follows settings steps stands) begins.3.stands;
        refused = begins.3.refused;
      },
      begins.4,
    )

pub returns-clause-kept : goal.returns-clause-kept
returns-clause-kept g c = rw c.into_begun_now.ensures at c.begin_borrowed.ensures.kept_for
