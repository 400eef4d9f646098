use Rattle.std.proofs.Common.{false}
use Rattle.moka_state.proofs.Begins.{found-memory, refuses-memory, refuses-open}
use Rattle.moka_state.proofs.state.State.begin_now_if.Goals as goal

pub returns-then-has_to_refuse-clause-begins : goal.returns-then-has_to_refuse-clause-begins
returns-then-has_to_refuse-clause-begins g c =
    let looks = rw (c.in-Ok-None.is, c.in-Ok-None.field-0-is) at c.acceptable_entry.ensures.looks in
    let told = rw (looks.1.stands, c.if-has_to_refuse.true) at c.has_to_refuse.ensures in (
      looks.0,
      record {
        reply = λ settings steps stands.
            let it = looks.1.reply settings steps stands in
            (it.0, refuses-open g.K.PartialEq.eq g.V.Clone.is_clone g.V.Clone.is_infallible settings steps c.args.key c.args.kind looks.0 c.args.now c.requires.initializer it.1 false (told settings steps stands));
        stands = tt;
        refused = looks.1.stands;
      },
    )

pub returns-in-Err-share-clause-begins : goal.returns-in-Err-share-clause-begins
returns-in-Err-share-clause-begins g c =
    let looks = rw (c.in-Ok-None.is, c.in-Ok-None.field-0-is) at c.acceptable_entry.ensures.looks in
    let told = rw (looks.1.stands, c.if-has_to_refuse.false) at c.has_to_refuse.ensures in (
      looks.0,
      record {
        reply = λ settings steps stands.
            let it = looks.1.reply settings steps stands in
            (it.0, refuses-memory g.K.PartialEq.eq g.V.Clone.is_clone g.V.Clone.is_infallible settings steps c.args.key c.args.kind looks.0 c.args.now c.requires.initializer it.1 false (told settings steps stands));
        stands = tt;
        refused = looks.1.stands;
      },
    )

pub returns-in-Err-clause-begins : goal.returns-in-Err-clause-begins
returns-in-Err-clause-begins g c =
    let looks = rw c.in-Err.is at c.acceptable_entry.ensures.looks in (
      looks.0,
      record {
        reply = λ settings steps stands.
            let it = looks.1.reply settings steps stands in
            (it.0, rw it.1.0 (found-memory g.K.PartialEq.eq g.V.Clone.is_clone g.V.Clone.is_infallible settings steps c.args.key c.args.kind looks.0 c.args.now c.requires.initializer false it.1.1));
        stands = tt;
        refused = looks.1.stands;
      },
    )

pub returns-in-Ok-clause-begins : goal.returns-in-Ok-clause-begins
returns-in-Ok-clause-begins g c =
    let looks = rw (c.in-Ok-None.is, c.in-Ok-None.field-0-is) at c.acceptable_entry.ensures.looks in
    let begins = rw (looks.1.stands, c.in-Ok.ensures, c.into_begun_now.ensures) at c.begin_turn.ensures.begins in
    let ends = begins looks.0 (λ settings steps stands. (looks.1.reply settings steps stands).1) in (
      looks.0,
      record {
        reply = λ settings steps stands. ((looks.1.reply settings steps stands).0, ends.reply settings steps stands);
        stands = ends.stands;
        refused = ends.refused;
      },
    )

pub returns-in-Ok-clause-named : goal.returns-in-Ok-clause-named
returns-in-Ok-clause-named g c = rw (c.in-Ok.ensures, c.into_begun_now.ensures) at c.begin_turn.ensures.named

pub returns-in-Ok-clause-kept : goal.returns-in-Ok-clause-kept
returns-in-Ok-clause-kept g c = rw c.into_begun_now.ensures at c.begin_turn.ensures.kept_for c.args.key
