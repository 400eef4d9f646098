-- When a walk fails, and when it reaches a further segment.
use Rattle.std.proofs.Common.{◌≡◌, inl, inr, ℕ, ◌+◌, ◌-◌, ◌<◌, Bool, Option, Some, None, Ok, Err, List, [], ◌∷◌, ◌++◌, length, refl, ap, ◌∙◌, arith}
use Rattle.std.specs.List.{AllByRecursion}
use Rattle.std.proofs.lemmas.List.Elements.{All-from_recursion, recursion_from_All}
use Rattle.std.proofs.lemmas.List.Sorted.{All-permutation, IsPermutation-sym}
use Rattle.moka_model.specs.Calls.{IsCopyOf}
use Rattle.moka_policy.specs.declared.policy.Refused.{Refused}
use Rattle.moka_iter.specs.Walks.{Cursor, in_segment, pending_in, taken_from, Ending, Yielded, KeyRefused, SegmentRefused, Finished, Advance, reply_of, key_at_end, keys_dealt_with, IsEnding}
use Rattle.moka_iter.specs.Histories.{History, live_in, StandsIn, FindsIn, WalksOn, RepliesNext}
use Rattle.moka_iter.specs.WalkLaws.{FailsForMemory}
use Rattle.moka_iter.proofs.Goings.{all-append, all-in_segment}

-- what holds of two lists together holds of the first
all-first : {A : Type 0} (P : A → Type 0) (xs ys : List A) → AllByRecursion P (xs ++ ys) → AllByRecursion P xs
all-first P [] ys all = tt
all-first P (x ∷ xs) ys all = (all.0, all-first P xs ys all.1)

module _ {K V E : Type 0} (eq : K → K → Bool) (is_clone : V → V → Type 0) (is_infallible : V → Type 0) (histories : List (History K V E)) (now : ℕ) where
  abbrev Ends : ℕ → Ending K V Refused → Cursor K → Type 0
  Ends = IsEnding (length histories) (StandsIn eq is_clone is_infallible histories now) (FindsIn eq is_clone is_infallible histories now)

  pub fails-for_memory : (old : Cursor K) (e : Refused) (new : Cursor K) → RepliesNext eq is_clone is_infallible histories now old (Some (Err e)) new → FailsForMemory eq is_clone is_infallible histories now old e new
  fails-for_memory old e new may = go may.0.ending may.1.ends may.2
    where
      go : (ending : Ending K V Refused) → Ends (old.reached + length may.0.taken) ending new → Some (Err e) ≡ reply_of ending → FailsForMemory eq is_clone is_infallible histories now old e new
      go (Yielded i k v) ends same = cc
      go (KeyRefused i k f) ends same = let is : e ≡ f = cc in (is ∙ ends.0.1, inl (i, k, ends.0.0))
      go (SegmentRefused f) ends same =
          let is : e ≡ f = cc in
          let at = ap (λ (c : Cursor K). c.reached) ends.2 in
          let further : old.reached < new.reached = omega (arith, at) in (is ∙ ends.0, inr (further, ap (λ (c : Cursor K). c.pending) ends.2))
      go Finished ends same = cc

  module _ (old new : Cursor K) (it : Advance K V Refused) (walks : WalksOn eq is_clone is_infallible histories now old it new) (some : 0 < old.reached) (further : old.reached < new.reached) where
    -- a key of the segment that was reached last is dead
    abbrev IsDeadHere : ℕ × K → Type 0
    IsDeadHere p = p.0 ≡ old.reached - 1 → live_in eq histories now p.0 p.1 ≡ None

    copied-none : (o : Option V) → IsCopyOf is_clone o None → o ≡ None
    copied-none None copied = refl
    copied-none (Some v) copied = absurd copied

    passed-dead : (passed : List (ℕ × K)) → AllByRecursion (λ p. FindsIn eq is_clone is_infallible histories now p.0 p.1 (Ok None)) passed → AllByRecursion IsDeadHere passed
    passed-dead [] all = tt
    passed-dead (p ∷ ps) all = ((λ here. copied-none (live_in eq histories now p.0 p.1) all.0), passed-dead ps all.1)

    later-dead : (k : K) → IsDeadHere (new.reached - 1, k)
    later-dead k here = absurd (omega (arith, here, some, further))

    all-later : (keys : List K) → AllByRecursion (λ k. IsDeadHere (new.reached - 1, k)) keys
    all-later [] = tt
    all-later (k ∷ ks) = (later-dead k, all-later ks)

    end-dead : (ending : Ending K V Refused) → Ends (old.reached + length it.taken) ending new → AllByRecursion IsDeadHere (key_at_end ending)
    end-dead (Yielded i k v) ends = ((λ here. absurd (omega (arith, ends.2, here, some, further))), tt)
    end-dead (KeyRefused i k e) ends = ((λ here. absurd (omega (arith, ends.2, here, some, further))), tt)
    end-dead (SegmentRefused e) ends = tt
    end-dead Finished ends = tt

    dealt-dead : AllByRecursion IsDeadHere (keys_dealt_with it ++ pending_in new)
    dealt-dead =
        all-append IsDeadHere (keys_dealt_with it) (pending_in new)
        (all-append IsDeadHere it.passed (key_at_end it.ending) (passed-dead it.passed walks.dead) (end-dead it.ending walks.ends))
        (all-in_segment (λ i k. IsDeadHere (i, k)) (new.reached - 1) new.pending (all-later new.pending))

    taken-dead : AllByRecursion IsDeadHere (pending_in old ++ taken_from old.reached it.taken)
    taken-dead =
        recursion_from_All IsDeadHere (pending_in old ++ taken_from old.reached it.taken)
        (All-permutation IsDeadHere (keys_dealt_with it ++ pending_in new) (pending_in old ++ taken_from old.reached it.taken)
        (IsPermutation-sym (pending_in old ++ taken_from old.reached it.taken) (keys_dealt_with it ++ pending_in new) walks.once)
        (All-from_recursion IsDeadHere (keys_dealt_with it ++ pending_in new) dealt-dead))

    pending-dead : (keys : List K) → AllByRecursion IsDeadHere (in_segment (old.reached - 1) keys) → AllByRecursion (λ k. live_in eq histories now (old.reached - 1) k ≡ None) keys
    pending-dead [] all = tt
    pending-dead (k ∷ ks) all = (all.0 refl, pending-dead ks all.1)

    pub needed : AllByRecursion (λ k. live_in eq histories now (old.reached - 1) k ≡ None) old.pending
    needed = pending-dead old.pending (all-first IsDeadHere (pending_in old) (taken_from old.reached it.taken) taken-dead)
