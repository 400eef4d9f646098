use Rattle.std.proofs.Common.{subst}
use Rattle.moka_model.specs.declared.turns.Kind.TheVariants.{With}
use Rattle.moka_model.specs.Entries.{entry_of}
use Rattle.moka_model.specs.StandsFor.{StandsFor}
use Rattle.moka_state.proofs.Forms.{unsaid}
use Rattle.moka_state.proofs.OrInserts.{or-found, or-used}
use Rattle.moka_state.proofs.state.State.or_default_with_hash.Goals as goal

pub returns-in-Ok-Some-clause-ends : goal.returns-in-Ok-Some-clause-ends
returns-in-Ok-Some-clause-ends g c =
    let looks = rw (c.in-Ok-Some.is, c.in-Ok-Some.field-0-is) at c.acceptable_entry.ensures.looks in
    let eq = g.K.PartialEq.eq in
    let key = c.args.key in
    let value = c.default-value.result in (
      value,
      c.default-value.ensures,
      rw c.discard_key.ensures (record {
        reply = λ given steps stands.
            let it = looks.1.reply given steps stands in
            let begins = rw (unsaid _ _ _ looks.0 c.none_like.ensures it.0) at (it.1 With (λ no. cc)) in
            or-found eq g.V.Clone.is_clone g.V.Clone.is_infallible given steps key value c.args.now (entry_of c.in-Ok-Some.found) begins;
        stands = λ given steps stands.
            let it = looks.1.reply given steps stands in
            let said = unsaid _ _ _ looks.0 c.none_like.ensures it.0 in
            let begins = rw said at (it.1 With (λ no. cc)) in
            subst (StandsFor eq g.V.Clone.is_clone given _) (or-used eq g.V.Clone.is_clone g.V.Clone.is_infallible given steps key value c.args.now (entry_of c.in-Ok-Some.found) begins) (rw (said, ← c.self.view_is) at (looks.1.stands With (λ no. cc) given steps stands));
        refused = tt;
      }),
    )

pub returns-in-Ok-None-clause-ends : goal.returns-in-Ok-None-clause-ends
returns-in-Ok-None-clause-ends g c =
    let looks = rw (c.in-Ok-None.is, c.in-Ok-None.field-0-is) at c.acceptable_entry.ensures.looks in
    let ends = rw looks.1.stands at c.write_default.ensures.ends in (
      c.default-value.result,
      c.default-value.ensures,
      ends (λ settings steps stands. let it = looks.1.reply settings steps stands in rw (unsaid _ _ _ looks.0 c.none_like.ensures it.0) at it.1),
    )
