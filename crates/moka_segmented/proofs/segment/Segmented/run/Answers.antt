use Rattle.std.proofs.Common.{[], ◌∷◌, ◌++◌, refl, sym, ap, ◌∙◌, subst, arith, append_assoc}
use Rattle.std.proofs.lemmas.List.{append-nil}
use Rattle.moka_expiration.specs.Behaviour.{hash_by, behaviour_by}
use Rattle.moka_expiration.specs.StateData.{estimates}
use Rattle.moka_expiration.specs.Behaviour.{weight_by}
use Rattle.moka_model.specs.SizeLaws.{LimitsSome}
use Rattle.moka_segment_model.specs.Segments.{SegmentedSettings}
use Rattle.moka_segmented.proofs.Bounds.{all-bounded}
use Rattle.moka_segmented.proofs.Conserved.{run-conserved-in}
use Rattle.moka_segmented.proofs.Runs.{IsRunIn-more, all-stand-more, same_as_rest-empty}
use Rattle.moka_segmented.proofs.segment.Segmented.run.Goals as goal

pub loop-step-init : goal.loop-step-init
loop-step-init g c = record {
  kept = rw c.from_vec-left.ensures.items c.requires;
  settings = refl;
  room = omega (arith, c.in-Ok.ensures.len, c.in-Ok.ensures.exact, c.from_vec-left.ensures.len, c.len.ensures);
  so_far = λ given before stands. ([], sym c.from_vec-left.ensures.items, rw c.in-Ok.ensures.items tt, stands);
}

pub loop-step-preserved : goal.loop-step-preserved
loop-step-preserved g c =
    let kept = rw c.in-Some.ensures.items at c.loop-step.invariant.kept in
    record {
      kept = kept.1;
      settings = c.step-reply.ensures.settings ∙ c.loop-step.invariant.settings;
      room = omega (arith, c.loop-step.invariant.room, c.in-Some.ensures.len, c.push_reserved.ensures.len, c.push_reserved.ensures.capacity);
      so_far = λ given before stands.
          let was = c.loop-step.invariant.so_far given before stands in
          let reply = c.step-reply.ensures.reply given _ was.3 in (
            was.0 ++ c.in-Some.step ∷ [],
            was.1 ∙ ap (λ l. was.0 ++ l) c.in-Some.ensures.items ∙ sym (append_assoc was.0 (c.in-Some.step ∷ []) c.pop_front.new.self.items),
            rw c.push_reserved.ensures.items (IsRunIn-more g.K.PartialEq.eq g.C.CacheTypes.test g.V.Clone.is_clone g.V.Clone.is_infallible given before was.0 c.loop-step.replies.items c.in-Some.step c.step-reply.result was.2 reply),
            rw c.push_reserved.ensures.items (all-stand-more g.K.PartialEq.eq g.C.CacheTypes.test g.V.Clone.is_clone g.V.Clone.is_infallible given _ before was.0 c.loop-step.replies.items c.in-Some.step c.step-reply.result was.2 (c.step-reply.ensures.stands given _ was.3)),
          );
    }

pub returns-clause-replies : goal.returns-clause-replies
returns-clause-replies g c given before stands =
    let was = c.loop-step.invariant.so_far given before stands in
    let empty = same_as_rest-empty c.loop-step.left.items (c.in_default-pop_front.ensures.items ∙ c.in_default-pop_front.ensures.rest) in
    let whole = was.1 ∙ ap (λ l. was.0 ++ l) empty ∙ append-nil was.0 in
    rw whole was.2

pub returns-clause-stands : goal.returns-clause-stands
returns-clause-stands g c given before stands =
    let was = c.loop-step.invariant.so_far given before stands in
    let empty = same_as_rest-empty c.loop-step.left.items (c.in_default-pop_front.ensures.items ∙ c.in_default-pop_front.ensures.rest) in
    let whole = was.1 ∙ ap (λ l. was.0 ++ l) empty ∙ append-nil was.0 in
    rw whole was.3

pub returns-clause-bounded : goal.returns-clause-bounded
returns-clause-bounded g c given before stands without =
    let was = c.loop-step.invariant.so_far given before stands in
    let limits = subst (λ (s : SegmentedSettings _ _). LimitsSome s.whole.flush_limit) (stands.settings ∙ sym was.3.settings) c.alloc.ensures in
    all-bounded g.row.C-Error.Denot g.K.PartialEq.eq (behaviour_by (hash_by g.C.Hasher.BuildHasher.build_hasher g.C.Hasher.Hasher.Hasher.write g.C.Hasher.Hasher.Hasher.finish g.K.Hash.hash_input) g.C.CacheTypes.weight g.C.CacheTypes.lifetimes) (estimates g.C.Frequency.FrequencySource.noted g.C.Frequency.FrequencySource.count) g.C.Frequency.FrequencySource.opened c.loop-step.self given _ was.3 (λ k v. ap (λ it. weight_by g.C.CacheTypes.weight it k v) without) limits

pub returns-clause-settings : goal.returns-clause-settings
returns-clause-settings g c = c.loop-step.invariant.settings

pub returns-clause-conserved : goal.returns-clause-conserved
returns-clause-conserved g c given before stands =
    let was = c.loop-step.invariant.so_far given before stands in
    let empty = same_as_rest-empty c.loop-step.left.items (c.in_default-pop_front.ensures.items ∙ c.in_default-pop_front.ensures.rest) in
    let whole = was.1 ∙ ap (λ l. was.0 ++ l) empty ∙ append-nil was.0 in
    rw whole (run-conserved-in g.K.PartialEq.eq g.C.CacheTypes.test g.V.Clone.is_clone g.V.Clone.is_infallible given g.met.K.Eq.laws (behaviour_by (hash_by g.C.Hasher.BuildHasher.build_hasher g.C.Hasher.Hasher.Hasher.write g.C.Hasher.Hasher.Hasher.finish g.K.Hash.hash_input) g.C.CacheTypes.weight g.C.CacheTypes.lifetimes) (estimates g.C.Frequency.FrequencySource.noted g.C.Frequency.FrequencySource.count) g.C.Frequency.FrequencySource.opened c.loop-step.self before was.0 c.loop-step.replies.items was.2 was.3)
