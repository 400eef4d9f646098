use Rattle.std.proofs.Common.{[], ◌∷◌, ◌++◌, refl, sym, ap, ◌∙◌, subst, arith, append_assoc}
use Rattle.std.proofs.lemmas.List.{append-nil}
use Rattle.moka_model.specs.SizeLaws.{LimitsSome}
use Rattle.moka_state.proofs.Counts.{weighs_one, writes-bounded}
use Rattle.moka_state.proofs.Conserved.{run-conserved}
use Rattle.moka_state.proofs.Runs.{IsRun-more, stands-more, same_as_rest-empty}
use Rattle.moka_state.proofs.state.State.run.Goals as goal

pub loop-step-init : goal.loop-step-init
loop-step-init g c = record {
  kept = rw c.from_vec-left.ensures.items c.requires;
  room = omega (arith, c.in-Ok.ensures.len, c.in-Ok.ensures.exact, c.from_vec-left.ensures.len, c.len.ensures);
  settings = refl;
  so_far = λ given before stands. ([], sym c.from_vec-left.ensures.items, rw c.in-Ok.ensures.items tt, stands);
}

pub loop-step-preserved : goal.loop-step-preserved
loop-step-preserved g c =
    let kept = rw c.in-Some.ensures.items at c.loop-step.invariant.kept in
    record {
      kept = kept.1;
      room = omega (arith, c.loop-step.invariant.room, c.in-Some.ensures.len, c.push_reserved.ensures.len, c.push_reserved.ensures.capacity);
      settings = c.step-reply.ensures.settings ∙ c.loop-step.invariant.settings;
      so_far = λ given before stands.
          let was = c.loop-step.invariant.so_far given before stands in
          let reply = c.step-reply.ensures.reply given _ was.3 in (
            was.0 ++ c.in-Some.step ∷ [],
            was.1 ∙ ap (λ l. was.0 ++ l) c.in-Some.ensures.items ∙ sym (append_assoc was.0 (c.in-Some.step ∷ []) c.pop_front.new.self.items),
            rw c.push_reserved.ensures.items (IsRun-more g.K.PartialEq.eq g.C.CacheTypes.test g.V.Clone.is_clone g.V.Clone.is_infallible given before was.0 c.loop-step.replies.items c.in-Some.step c.step-reply.result was.2 reply),
            rw c.push_reserved.ensures.items (stands-more g.K.PartialEq.eq g.C.CacheTypes.test g.V.Clone.is_clone g.V.Clone.is_infallible given _ before was.0 c.loop-step.replies.items c.in-Some.step c.step-reply.result was.2 (c.step-reply.ensures.stands given _ was.3)),
          );
    }

pub returns-clause-replies : goal.returns-clause-replies
returns-clause-replies g c given before stands =
    let was = c.loop-step.invariant.so_far given before stands in
    let empty = same_as_rest-empty c.loop-step.left.items (c.in_default-pop_front.ensures.items ∙ c.in_default-pop_front.ensures.rest) in
    let whole = was.1 ∙ ap (λ l. was.0 ++ l) empty ∙ append-nil was.0 in
    rw whole was.2

pub returns-clause-stands : goal.returns-clause-stands
returns-clause-stands g c given before stands =
    let was = c.loop-step.invariant.so_far given before stands in
    let empty = same_as_rest-empty c.loop-step.left.items (c.in_default-pop_front.ensures.items ∙ c.in_default-pop_front.ensures.rest) in
    let whole = was.1 ∙ ap (λ l. was.0 ++ l) empty ∙ append-nil was.0 in
    rw whole was.3

pub returns-clause-bounded : goal.returns-clause-bounded
returns-clause-bounded g c given before stands without =
    let was = c.loop-step.invariant.so_far given before stands in
    let limits = subst (λ s. LimitsSome s.flush_limit) (stands.settings ∙ sym was.3.settings) c.alloc.ensures in
    writes-bounded g.K.PartialEq.eq given _ _ was.3 (weighs_one g.C.CacheTypes.weight _ without) limits

pub returns-clause-conserved : goal.returns-clause-conserved
returns-clause-conserved g c given before stands =
    let was = c.loop-step.invariant.so_far given before stands in
    let empty = same_as_rest-empty c.loop-step.left.items (c.in_default-pop_front.ensures.items ∙ c.in_default-pop_front.ensures.rest) in
    let whole = was.1 ∙ ap (λ l. was.0 ++ l) empty ∙ append-nil was.0 in
    rw whole (run-conserved g.K.PartialEq.eq g.C.CacheTypes.test g.V.Clone.is_clone g.V.Clone.is_infallible given g.met.K.Eq.laws _ before was.0 c.loop-step.replies.items was.2 was.3)

pub returns-clause-settings : goal.returns-clause-settings
returns-clause-settings g c = c.loop-step.invariant.settings
