use Rattle.std.specs.Arc.{arc_value}
use Rattle.moka_turns.specs.Handles.{turn_name}
use Rattle.moka_state.proofs.Forms.{abandon-stands}
use Rattle.moka_state.proofs.Loaders.{failure-memory, given-fits, given-values, shared-owes}
use Rattle.moka_state.proofs.state.State.end_with.Goals as goal

pub returns-in-Err-clause-ends : goal.returns-in-Err-clause-ends
returns-in-Err-clause-ends g c settings steps stands known =
    let failure = rw c.into_outcome.ensures.is at c.in-Err.ensures.failed in
    let fit = rw (c.into_outcome.ensures.is, ← c.requires.kind) at c.into_outcome.ensures.fits in (
      failure-memory g.K.PartialEq.eq g.V.Clone.is_clone g.V.Clone.is_infallible settings steps (turn_name c.args.turn) (g.G.LoaderResult.outcome c.args.given) c.args.now failure fit known,
      abandon-stands g.K.PartialEq.eq g.V.Clone.is_clone g.V.Clone.is_infallible settings steps _ (turn_name c.args.turn) c.abandon.result (c.abandon.ensures.reply settings steps stands) c.abandon.ensures.cause _ _
          (λ after. after settings steps stands) (λ is. rw is stands) c.abandon.ensures.stands c.abandon.ensures.refused,
    )

pub end_turn-requires-clause-kept : goal.end_turn-requires-clause-kept
end_turn-requires-clause-kept g c =
    shared-owes (g.C.CacheTypes.keeps (arc_value c.args.turn.key.key)) c.in-Ok.outcome
    (rw (c.in-Ok.ensures.shared, c.into_outcome.ensures.is) c.requires.kept)

pub end_turn-requires-clause-fits : goal.end_turn-requires-clause-fits
end_turn-requires-clause-fits g c = rw (c.in-Ok.ensures.shared, c.requires.kind) c.into_outcome.ensures.fits

pub loaded-requires : goal.loaded-requires
loaded-requires g c =
    rw (← c.requires.kind) (given-fits g.V.Clone.is_clone (arc_value c.args.turn.key.key) c.args.turn.key.kind c.in-Ok.outcome c.in-Ok-end_turn.answer (rw (c.in-Ok.ensures.shared, c.requires.kind) c.into_outcome.ensures.fits) c.in-Ok-end_turn.ensures.given)

pub returns-in-Ok-end_turn-clause-ends : goal.returns-in-Ok-end_turn-clause-ends
returns-in-Ok-end_turn-clause-ends g c =
    let ends = rw (c.in-Ok-end_turn.is, c.in-Ok.ensures.shared, c.into_outcome.ensures.is) at c.end_turn.ensures.ends in
    rw c.loaded.ensures (λ settings steps stands known. ends settings steps stands)

pub returns-in-Err-end_turn-clause-ends : goal.returns-in-Err-end_turn-clause-ends
returns-in-Err-end_turn-clause-ends g c =
    let ends = rw (c.in-Ok.ensures.shared, c.into_outcome.ensures.is, c.in-Err-end_turn.is) at c.end_turn.ensures.ends in
    λ settings steps stands known. ends settings steps stands

pub returns-in-Ok-end_turn-clause-kept : goal.returns-in-Ok-end_turn-clause-kept
returns-in-Ok-end_turn-clause-kept g c =
    rw c.loaded.ensures (given-values g.V.Clone.is_clone (g.C.CacheTypes.keeps (arc_value c.args.turn.key.key)) (λ v w. g.met.C.CacheTypes.copies_keep (arc_value c.args.turn.key.key) v w) (arc_value c.args.turn.key.key) c.in-Ok.outcome c.in-Ok-end_turn.answer c.in-Ok-end_turn.ensures.given
    (shared-owes (g.C.CacheTypes.keeps (arc_value c.args.turn.key.key)) c.in-Ok.outcome (rw (c.in-Ok.ensures.shared, c.into_outcome.ensures.is) c.requires.kept)))
