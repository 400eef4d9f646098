use Rattle.std.proofs.Common.{inl, inr, sym, refl, ◌∙◌}
use Rattle.std.specs.Arc.{arc_value}
use Rattle.moka_state.proofs.Alike.{hash-alike}
use Rattle.moka_state.proofs.Begins.{found-memory, live-alike, refuses-memory, refuses-open}
use Rattle.moka_state.proofs.state.State.begin_borrowed.Goals as goal

pub begin_turn-requires-clause-hash : goal.begin_turn-requires-clause-hash
begin_turn-requires-clause-hash g c =
    let alike = hash-alike g.C.Hasher.BuildHasher.build_hasher g.C.Hasher.Hasher.Hasher.write g.C.Hasher.Hasher.Hasher.finish c.args.self.now.settings.behaviour.hasher g.met.K.Hash.respects_eq c.args.key.now (arc_value c.in-Ok.copy) (c.requires.copies c.args.key.now (arc_value c.in-Ok.copy) c.in-Ok.ensures) in
    rw c.acceptable_entry.ensures.settings (c.hash-hash.ensures ∙ alike)

pub returns-in-Ok-clause-begins : goal.returns-in-Ok-clause-begins
returns-in-Ok-clause-begins g c =
    let looks = rw (c.in-Ok-None.is, c.in-Ok-None.field-0-is) at c.acceptable_entry.ensures.looks in
    let begins = rw looks.1.stands at c.begin_turn.ensures.begins in
    let copy = arc_value c.in-Ok.copy in
    let same = c.requires.copies c.args.key.now copy c.in-Ok.ensures in
    let ends = begins looks.0 (λ settings steps stands.
    let alike = live-alike g.K.PartialEq.eq g.met.K.Eq.laws settings _ steps stands copy c.args.key.now same c.args.now in
    rw (← alike) at (looks.1.reply settings steps stands).1) in (
      copy,
      (same, inr c.in-Ok.ensures),
      looks.0,
      record {
        reply = λ settings steps stands. (
          (let alike = live-alike g.K.PartialEq.eq g.met.K.Eq.laws settings _ steps stands copy c.args.key.now same c.args.now in
              rw alike (looks.1.reply settings steps stands).0),
          ends.reply settings steps stands,
        );
        stands = ends.stands;
        refused = ends.refused;
      },
      c.begin_turn.ensures.named,
    )

pub returns-in-Ok-Some-clause-begins : goal.returns-in-Ok-Some-clause-begins
returns-in-Ok-Some-clause-begins g c =
    let looks = rw (c.in-Ok-Some.is, c.in-Ok-Some.field-0-is) at c.acceptable_entry.ensures.looks in (
      c.args.key.now,
      (g.met.K.Eq.laws.refl c.args.key.now, inl refl),
      looks.0,
      record {
        reply = λ settings steps stands.
            let it = looks.1.reply settings steps stands in
            (it.0, it.1 c.args.kind c.requires.initializer);
        stands = looks.1.stands c.args.kind c.requires.initializer;
        refused = tt;
      },
      tt,
    )

pub returns-then-has_to_refuse-clause-begins : goal.returns-then-has_to_refuse-clause-begins
returns-then-has_to_refuse-clause-begins g c =
    let looks = rw (c.in-Ok-None.is, c.in-Ok-None.field-0-is) at c.acceptable_entry.ensures.looks in
    let told = rw (looks.1.stands, c.if-has_to_refuse.true) at c.has_to_refuse.ensures in (
      c.args.key.now,
      (g.met.K.Eq.laws.refl c.args.key.now, inl refl),
      looks.0,
      record {
        reply = λ settings steps stands.
            let it = looks.1.reply settings steps stands in
            (it.0, refuses-open g.K.PartialEq.eq g.V.Clone.is_clone g.V.Clone.is_infallible settings steps c.args.key.now c.args.kind looks.0 c.args.now c.requires.initializer it.1 c.args.may_wait (told settings steps stands));
        stands = tt;
        refused = looks.1.stands;
      },
      tt,
    )

pub returns-in-Err-share_copy-clause-begins : goal.returns-in-Err-share_copy-clause-begins
returns-in-Err-share_copy-clause-begins g c =
    let looks = rw (c.in-Ok-None.is, c.in-Ok-None.field-0-is) at c.acceptable_entry.ensures.looks in
    let told = rw (looks.1.stands, c.if-has_to_refuse.false) at c.has_to_refuse.ensures in (
      c.args.key.now,
      (g.met.K.Eq.laws.refl c.args.key.now, inl refl),
      looks.0,
      record {
        reply = λ settings steps stands.
            let it = looks.1.reply settings steps stands in
            (it.0, refuses-memory g.K.PartialEq.eq g.V.Clone.is_clone g.V.Clone.is_infallible settings steps c.args.key.now c.args.kind looks.0 c.args.now c.requires.initializer it.1 c.args.may_wait (told settings steps stands));
        stands = tt;
        refused = looks.1.stands;
      },
      tt,
    )

pub returns-in-Err-clause-begins : goal.returns-in-Err-clause-begins
returns-in-Err-clause-begins g c =
    let looks = rw c.in-Err.is at c.acceptable_entry.ensures.looks in (
      c.args.key.now,
      (g.met.K.Eq.laws.refl c.args.key.now, inl refl),
      looks.0,
      record {
        reply = λ settings steps stands.
            let it = looks.1.reply settings steps stands in
            (it.0, rw it.1.0 (found-memory g.K.PartialEq.eq g.V.Clone.is_clone g.V.Clone.is_infallible settings steps c.args.key.now c.args.kind looks.0 c.args.now c.requires.initializer c.args.may_wait it.1.1));
        stands = tt;
        refused = looks.1.stands;
      },
      tt,
    )

pub returns-in-Ok-clause-kept_for : goal.returns-in-Ok-clause-kept_for
returns-in-Ok-clause-kept_for g c = c.begin_turn.ensures.kept_for c.args.key.now
