use Rattle.std.specs.Arc.{arc_value}
use Rattle.moka_state.proofs.state.State.begin_reusing.Goals as goal

pub returns-in-Ok-clause-begins : goal.returns-in-Ok-clause-begins
returns-in-Ok-clause-begins g c =
    let looks = rw (c.deref-2.ensures, c.in-Ok-None.is, c.in-Ok-None.field-0-is) at c.find_acceptable_entry.ensures.looks in
    let begins = rw (looks.1.stands, c.in-Ok.ensures.cases) at c.begin_turn.ensures.begins in
    let ends = begins looks.0 (λ settings steps stands. (looks.1.reply settings steps stands).1) in (
      looks.0,
      record {
        reply = λ settings steps stands. ((looks.1.reply settings steps stands).0, ends.reply settings steps stands);
        stands = ends.stands;
        refused = ends.refused;
      },
    )

pub returns-in-Ok-Some-clause-begins : goal.returns-in-Ok-Some-clause-begins
returns-in-Ok-Some-clause-begins g c =
    let looks = rw (c.deref-2.ensures, c.in-Ok-Some.is, c.in-Ok-Some.field-0-is) at c.find_acceptable_entry.ensures.looks in (
      looks.0,
      record {
        reply = λ settings steps stands. (
          (looks.1.reply settings steps stands).0,
          (looks.1.reply settings steps stands).1 c.args.kind c.requires.initializer,
        );
        stands = looks.1.stands c.args.kind c.requires.initializer;
        refused = tt;
      },
    )

pub returns-in-Err-clause-begins : goal.returns-in-Err-clause-begins
returns-in-Err-clause-begins g c =
    let looks = rw (c.deref-2.ensures, c.in-Err.is) at c.find_acceptable_entry.ensures.looks in (
      looks.0,
      record {
        reply = λ settings steps stands.
            let it = looks.1.reply settings steps stands in
            (it.0, rw it.1.0 (tt, λ counts. absurd counts));
        stands = tt;
        refused = looks.1.stands;
      },
    )

pub returns-in-Ok-clause-kept_for : goal.returns-in-Ok-clause-kept_for
returns-in-Ok-clause-kept_for g c = c.begin_turn.ensures.kept_for (arc_value c.args.key.now)

pub find_acceptable_entry-requires-clause-asks : goal.find_acceptable_entry-requires-clause-asks
find_acceptable_entry-requires-clause-asks g c = rw c.deref-2.ensures c.requires.asks

pub returns-in-Ok-Some-clause-left : goal.returns-in-Ok-Some-clause-left
returns-in-Ok-Some-clause-left g c = rw c.deref-2.ensures at c.find_acceptable_entry.ensures.left
