-- The laws of walks.
use Rattle.std.proofs.Common.{◌≡◌, ℕ, zero, suc, ◌+◌, ◌-◌, ◌≤◌, max, Bool, true, false, cond, nat_eq, ◌&&◌, Some, None, is_some, Ok, List, [], ◌∷◌, ◌++◌, length, length-append, refl, sym, ap, ◌∙◌, subst, arith}
use Rattle.std.specs.Cmp.{IsEquivalence}
use Rattle.std.specs.List.{AllByRecursion}
use Rattle.std.specs.Option.{IsSome}
use Rattle.std.proofs.lemmas.Bool.{eqb-true}
use Rattle.std.proofs.lemmas.List.{length-map}
use Rattle.std.proofs.lemmas.List.Sorted.{length_permutation}
use Rattle.std.proofs.lemmas.Option.{slice_get_past}
use Rattle.moka_model.specs.MaintenanceLaws.{count}
use Rattle.moka_model.specs.Calls.{IsCopyOf}
use Rattle.moka_policy.specs.declared.policy.Refused.{Refused}
use Rattle.moka_iter.specs.Walks.{Cursor, at_segment, start, in_segment, pending_in, taken_from, Ending, Yielded, KeyRefused, SegmentRefused, Finished, Advance, reply_of, key_at_end, keys_dealt_with, AllStand, IsEnding}
use Rattle.moka_iter.specs.Histories.{History, keys_of, standing_in, live_in, StandsIn, FindsIn, WalksOn, RepliesNext}
use Rattle.moka_iter.specs.WalkLaws.{WalkCall, pair_of, pairs_of, replies_in, all_keys, keys_taken, HaveAtMost, HasOneHome, AreAtHome, AreOfOneCache, StayOfOneCache, IsWalk, YieldsJust}
use Rattle.moka_iter.proofs.Counts.{count-permutation, count-append, count-one, count-none, unreached}
use Rattle.moka_iter.proofs.Goings.{same-cursor}
use Rattle.moka_iter.proofs.KeyCounts.{none-copied, no-value, segment-once, segment-has, is_at, live-within, live-congr}

length-taken : {K : Type 0} (i : ℕ) (taken : List (List K)) → length (taken_from i taken) ≡ all_keys taken
length-taken i [] = refl
length-taken {K} i (keys ∷ more) = length-append (in_segment i keys) (taken_from (i + 1) more) ∙ ap (λ n. n + length (taken_from (i + 1) more)) (length-map {B = ℕ × K} keys (λ k. (i, k))) ∙ ap (λ n. length keys + n) (length-taken (i + 1) more)

-- a call yields the key at which it ends
pair-once : {K V E : Type 0} (eq : K → K → Bool) (k : K) (ending : Ending K V E) → count (λ (pair : K × V). eq pair.0 k) (pair_of ending) ≤ count (λ (p : ℕ × K). eq p.1 k) (key_at_end ending)
pair-once {K} {V} eq k (Yielded i q v) = let a = count-one (λ (pair : K × V). eq pair.0 k) (q, v) [] in let b = count-one (λ (p : ℕ × K). eq p.1 k) (i, q) [] in omega (arith, a, b)
pair-once eq k (KeyRefused i q e) = omega arith
pair-once eq k (SegmentRefused e) = omega arith
pair-once eq k Finished = omega arith

-- a pair that ends at a place is that key's
at-position : {K V : Type 0} (eq : K → K → Bool) (i j : ℕ) (k q : K) (v : V) → count (is_at eq i k) ((j, q) ∷ []) ≤ count (λ (p : K × V). eq p.0 k) ((q, v) ∷ [])
at-position {K} {V} eq i j k q v = go (nat_eq j i) (eq q k) (count-one (is_at eq i k) (j, q) []) (count-one (λ (p : K × V). eq p.0 k) (q, v) [])
  where
    go : (a b : Bool) → count (is_at eq i k) ((j, q) ∷ []) ≡ cond (a && b) 1 0 + 0 → count (λ (p : K × V). eq p.0 k) ((q, v) ∷ []) ≡ cond b 1 0 + 0 → count (is_at eq i k) ((j, q) ∷ []) ≤ count (λ (p : K × V). eq p.0 k) ((q, v) ∷ [])
    go true b left right = omega (arith, left, right)
    go false b left right = omega (arith, left, right)

module _ {K V E : Type 0} (eq : K → K → Bool) (laws : IsEquivalence eq) (is_clone : V → V → Type 0) (is_infallible : V → Type 0) where
  -- it is not before that place, nor past the last segment
  module _ (histories : List (History K V E)) (now : ℕ) (old : Cursor K) (it : Advance K V Refused) (new : Cursor K) (walks : WalksOn eq is_clone is_infallible histories now old it new) where
    reached-le : old.reached + length it.taken ≤ new.reached
    reached-le = go it.ending walks.ends
      where
        go : (ending : Ending K V Refused) → IsEnding (length histories) (StandsIn eq is_clone is_infallible histories now) (FindsIn eq is_clone is_infallible histories now) (old.reached + length it.taken) ending new → old.reached + length it.taken ≤ new.reached
        go (Yielded i k v) ends = omega (arith, ends.1)
        go (KeyRefused i k e) ends = omega (arith, ends.1)
        go (SegmentRefused e) ends = let at = ap (λ (c : Cursor K). c.reached) ends.2 in omega (arith, at)
        go Finished ends = let at = ap (λ (c : Cursor K). c.reached) ends.1 in omega (arith, at)

    within : new.reached ≤ max old.reached (length histories)
    within = go it.ending walks.ends
      where
        go : (ending : Ending K V Refused) → IsEnding (length histories) (StandsIn eq is_clone is_infallible histories now) (FindsIn eq is_clone is_infallible histories now) (old.reached + length it.taken) ending new → new.reached ≤ max old.reached (length histories)
        go (Yielded i k v) ends = let w = walks.within in omega (arith, ends.1, w)
        go (KeyRefused i k e) ends = let w = walks.within in omega (arith, ends.1, w)
        go (SegmentRefused e) ends = let at = ap (λ (c : Cursor K). c.reached) ends.2 in omega (arith, at, ends.1)
        go Finished ends = let at = ap (λ (c : Cursor K). c.reached) ends.1 in let w = walks.within in omega (arith, at, w)

    -- what it has dealt with was to come, or was taken
    counted : (p : ℕ × K → Bool) → count p (pending_in old) + count p (taken_from old.reached it.taken) ≡ count p it.passed + count p (key_at_end it.ending) + count p (pending_in new)
    counted p = sym (count-append p (pending_in old) (taken_from old.reached it.taken)) ∙ count-permutation p (pending_in old ++ taken_from old.reached it.taken) (keys_dealt_with it ++ pending_in new) walks.once
        ∙ count-append p (keys_dealt_with it) (pending_in new) ∙ ap (λ n. n + count p (pending_in new)) (count-append p it.passed (key_at_end it.ending))

    lengths : length old.pending + all_keys it.taken ≡ length it.passed + length (key_at_end it.ending) + length new.pending
    lengths =
        let all = length_permutation (pending_in old ++ taken_from old.reached it.taken) (keys_dealt_with it ++ pending_in new) walks.once in
        let left = length-append (pending_in old) (taken_from old.reached it.taken) in
        let right = length-append (keys_dealt_with it) (pending_in new) in
        let dealt = length-append it.passed (key_at_end it.ending) in
        let taken = length-taken old.reached it.taken in
        let was = length-map {B = ℕ × K} old.pending (λ k. (old.reached - 1, k)) in
        let is = length-map {B = ℕ × K} new.pending (λ k. (new.reached - 1, k)) in
        omega (arith, all, left, right, dealt, taken, was, is)

  -- The keys that are taken of one segment after the other: one whose home is among them comes once at most.
  taken-once : (home : K → ℕ) → HasOneHome eq home → (histories : List (History K V E)) → AreAtHome eq home histories → (now : ℕ) (k : K) (r : ℕ) (taken : List (List K))
      → AllStand {V = V} (length histories) (StandsIn eq is_clone is_infallible histories now) (FindsIn eq is_clone is_infallible histories now) r taken
      → count (λ (p : ℕ × K). eq p.1 k) (taken_from r taken) + unreached (r + length taken) (home k) ≤ unreached r (home k)
  taken-once home homes histories at_home now k r [] stood = omega arith
  taken-once home homes histories at_home now k r (keys ∷ more) stood =
      let rest = taken-once home homes histories at_home now k (r + 1) more stood.1 in
      let one = segment-once eq laws home homes k histories at_home r keys stood.0 in
      let both = count-append (λ (p : ℕ × K). eq p.1 k) (in_segment r keys) (taken_from (r + 1) more) in
      omega (arith, rest, one, both)

  -- A call yields a key no more often than it may still come.
  call-once : (home : K → ℕ) → HasOneHome eq home → (histories : List (History K V E)) → AreAtHome eq home histories → (now : ℕ) (k : K) (old : Cursor K) (it : Advance K V Refused) (new : Cursor K)
      → WalksOn eq is_clone is_infallible histories now old it new
      → count (λ (p : ℕ × K). eq p.1 k) (key_at_end it.ending) + (count (λ (p : ℕ × K). eq p.1 k) (pending_in new) + unreached new.reached (home k)) ≤ count (λ (p : ℕ × K). eq p.1 k) (pending_in old) + unreached old.reached (home k)
  call-once home homes histories at_home now k old it new walks =
      let taken = taken-once home homes histories at_home now k old.reached it.taken walks.stood in
      let all = counted histories now old it new walks (λ (p : ℕ × K). eq p.1 k) in
      let further = reached-le histories now old it new walks in
      omega (arith, taken, all, further)

  walk-once : (home : K → ℕ) (k : K) (calls : List (WalkCall K V E)) (old new : Cursor K) → StayOfOneCache eq home calls → IsWalk eq is_clone is_infallible old calls new
      → count (λ (pair : K × V). eq pair.0 k) (pairs_of calls) ≤ count (λ (p : ℕ × K). eq p.1 k) (pending_in old) + unreached old.reached (home k)
  walk-once home k [] old new stay walk = omega arith
  walk-once home k (call ∷ calls) old new stay walk =
      let first = call-once home stay.0 call.histories stay.1.0 call.now k old call.does walk.0 walk.1 in
      let rest = walk-once home k calls walk.0 new (stay.0, stay.1.1) walk.2 in
      let pair = pair-once eq k call.does.ending in
      let both = count-append (λ (p : K × V). eq p.0 k) (pair_of call.does.ending) (pairs_of calls) in
      omega (arith, first, rest, pair, both)

  pub no-key-twice : (home : K → ℕ) (calls : List (WalkCall K V E)) (new : Cursor K) → StayOfOneCache eq home calls → IsWalk eq is_clone is_infallible start calls new → (k : K) → count (λ (pair : K × V). eq pair.0 k) (pairs_of calls) ≤ 1
  no-key-twice home calls new stay walk k = let it = walk-once home k calls start new stay walk in omega (arith, it)

  -- in one segment each key has its home
  at-home-alone : (histories : List (History K V E)) → length histories ≤ 1 → AreAtHome eq (λ k. 0) histories
  at-home-alone histories few zero = each (standing_in eq histories 0)
    where
      each : (keys : List K) → AllByRecursion (λ (k : K). ◌≡◌ {A = ℕ} 0 0) keys
      each [] = tt
      each (k ∷ ks) = (refl, each ks)
  at-home-alone histories few (suc i) = subst (AllByRecursion (λ (k : K). ◌≡◌ {A = ℕ} 0 (suc i))) (sym (ap (keys_of eq) (slice_get_past histories (suc i) (omega (arith, few))))) tt

  pub stay-alone : (calls : List (WalkCall K V E)) → HaveAtMost 1 calls → StayOfOneCache eq (λ k. 0) calls
  stay-alone calls few = ((λ a b same. refl), each calls few)
    where
      each : (calls : List (WalkCall K V E)) → HaveAtMost 1 calls → AllByRecursion (λ (call : WalkCall K V E). AreAtHome eq (λ k. 0) call.histories) calls
      each [] few = tt
      each (call ∷ calls) few = (at-home-alone call.histories few.0, each calls few.1)

  pub alone : (history : History K V E) → AreOfOneCache eq (λ k. 0) (history ∷ [])
  alone history = ((λ a b same. refl), at-home-alone (history ∷ []) (omega arith))

  -- a call that returns something deals with a key or reaches a further segment
  call-counts : (histories : List (History K V E)) (now : ℕ) (old : Cursor K) (it : Advance K V Refused) (new : Cursor K) → WalksOn eq is_clone is_infallible histories now old it new
      → cond (is_some (reply_of it.ending)) 1 0 + length new.pending + old.reached ≤ length old.pending + all_keys it.taken + new.reached
  call-counts histories now old it new walks = go it.ending refl walks.ends
    where
      go : (ending : Ending K V Refused) → it.ending ≡ ending → IsEnding (length histories) (StandsIn eq is_clone is_infallible histories now) (FindsIn eq is_clone is_infallible histories now) (old.reached + length it.taken) ending new
          → cond (is_some (reply_of ending)) 1 0 + length new.pending + old.reached ≤ length old.pending + all_keys it.taken + new.reached
      go (Yielded i k v) is ends = let all = lengths histories now old it new walks in let one = ap (λ e. length (key_at_end e)) is in omega (arith, all, one, ends.1)
      go (KeyRefused i k e) is ends = let all = lengths histories now old it new walks in let one = ap (λ e. length (key_at_end e)) is in omega (arith, all, one, ends.1)
      go (SegmentRefused e) is ends = let all = lengths histories now old it new walks in let at = ap (λ (c : Cursor K). c.reached) ends.2 in omega (arith, all, at)
      go Finished is ends = let all = lengths histories now old it new walks in let at = ap (λ (c : Cursor K). c.reached) ends.1 in omega (arith, all, at)

  walk-counts : (calls : List (WalkCall K V E)) (old new : Cursor K) → IsWalk eq is_clone is_infallible old calls new → replies_in calls + length new.pending + old.reached ≤ length old.pending + keys_taken calls + new.reached
  walk-counts [] old new same = let a = ap (λ (c : Cursor K). length c.pending) same in let b = ap (λ (c : Cursor K). c.reached) same in omega (arith, a, b)
  walk-counts (call ∷ calls) old new walk =
      let first = call-counts call.histories call.now old call.does walk.0 walk.1 in
      let rest = walk-counts calls walk.0 new walk.2 in
      omega (arith, first, rest)

  pub each-walk-ends : (calls : List (WalkCall K V E)) (new : Cursor K) → IsWalk eq is_clone is_infallible start calls new → replies_in calls ≤ keys_taken calls + new.reached
  each-walk-ends calls new walk = let it = walk-counts calls start new walk in omega (arith, it)

  walk-within : (most : ℕ) (calls : List (WalkCall K V E)) (old new : Cursor K) → HaveAtMost most calls → IsWalk eq is_clone is_infallible old calls new → new.reached ≤ max old.reached most
  walk-within most [] old new few same = let at = ap (λ (c : Cursor K). c.reached) same in omega (arith, at)
  walk-within most (call ∷ calls) old new few walk =
      let first = within call.histories call.now old call.does walk.0 walk.1 in
      let rest = walk-within most calls walk.0 new few.1 walk.2 in
      let fewer = few.0 in
      omega (arith, first, rest, fewer)

  pub within-most : (most : ℕ) (calls : List (WalkCall K V E)) (new : Cursor K) → HaveAtMost most calls → IsWalk eq is_clone is_infallible start calls new → new.reached ≤ most
  within-most most calls new few walk = let it = walk-within most calls start new few walk in omega (arith, it)

  pub stays : (histories : List (History K V E)) (now : ℕ) (old new : Cursor K) (it : Advance K V Refused) → WalksOn eq is_clone is_infallible histories now old it new → old.pending ≡ [] → length histories ≤ old.reached → (reply_of it.ending ≡ None) × (new ≡ old)
  stays histories now old new it walks none all = go it.ending refl walks.ends
    where
      no_more : length it.taken ≡ 0
      no_more = let w = walks.within in omega (arith, w, all)

      nothing : all_keys it.taken ≡ 0
      nothing = empty it.taken no_more
        where
          empty : (taken : List (List K)) → length taken ≡ 0 → all_keys taken ≡ 0
          empty [] e = refl
          empty (keys ∷ more) e = omega (arith, e)

      go : (ending : Ending K V Refused) → it.ending ≡ ending → IsEnding (length histories) (StandsIn eq is_clone is_infallible histories now) (FindsIn eq is_clone is_infallible histories now) (old.reached + length it.taken) ending new → (reply_of it.ending ≡ None) × (new ≡ old)
      go (Yielded i k v) is ends = let l = lengths histories now old it new walks in let one = ap (λ e. length (key_at_end e)) is in let empty = ap (λ (l : List K). length l) none in absurd (let no : ◌≡◌ {A = ℕ} 1 0 = omega (arith, l, one, empty, nothing) in cc)
      go (KeyRefused i k e) is ends = let l = lengths histories now old it new walks in let one = ap (λ e. length (key_at_end e)) is in let empty = ap (λ (l : List K). length l) none in absurd (let no : ◌≡◌ {A = ℕ} 1 0 = omega (arith, l, one, empty, nothing) in cc)
      go (SegmentRefused e) is ends = let more = ends.1 in absurd (let no : ◌≡◌ {A = ℕ} 1 0 = omega (arith, more, all) in cc)
      go Finished is ends = (ap reply_of is, ends.1 ∙ same-cursor (at_segment (old.reached + length it.taken) []) old (omega (arith, no_more)) (sym none))

  -- A key that is live is not passed over,
  passed-none : (histories : List (History K V E)) (now i : ℕ) (k : K) → IsSome (live_in eq histories now i k) → (passed : List (ℕ × K)) → AllByRecursion (λ p. FindsIn eq is_clone is_infallible histories now p.0 p.1 (Ok None)) passed
      → AllByRecursion (λ p. is_at eq i k p ≡ false) passed
  passed-none histories now i k live [] dead = tt
  passed-none histories now i k live (p ∷ ps) dead = (go (nat_eq p.0 i) refl (eq p.1 k) refl, passed-none histories now i k live ps dead.1)
    where
      go : (a : Bool) → nat_eq p.0 i ≡ a → (b : Bool) → eq p.1 k ≡ b → (a && b) ≡ false
      go false at b same = refl
      go true at false same = refl
      go true at true same =
          let none : live_in eq histories now p.0 p.1 ≡ None = none-copied is_clone (live_in eq histories now p.0 p.1) dead.0 in
          let here : live_in eq histories now i k ≡ None = sym (live-congr eq laws histories now i p.1 k same) ∙ ap (λ n. live_in eq histories now n p.1) (sym (eqb-true p.0 i at)) ∙ none in
          absurd (no-value V (subst IsSome here live))

  -- and it is among the keys that are taken of the segments, once its own is among these.
  taken-has : (histories : List (History K V E)) (now i : ℕ) (k : K) → IsSome (live_in eq histories now i k) → (r : ℕ) (taken : List (List K))
      → AllStand {V = V} (length histories) (StandsIn eq is_clone is_infallible histories now) (FindsIn eq is_clone is_infallible histories now) r taken
      → unreached r i ≤ count (is_at eq i k) (taken_from r taken) + unreached (r + length taken) i
  taken-has histories now i k live r [] stood = omega arith
  taken-has histories now i k live r (keys ∷ more) stood =
      let rest = taken-has histories now i k live (r + 1) more stood.1 in
      let one = segment-has eq laws histories now i k live r keys stood.0 in
      let both = count-append (is_at eq i k) (in_segment r keys) (taken_from (r + 1) more) in
      omega (arith, rest, one, both)

  -- So, where it is not refused, it comes.
  call-has : (histories : List (History K V E)) (now i : ℕ) (k : K) → IsSome (live_in eq histories now i k) → (old : Cursor K) (it : Advance K V Refused) (new : Cursor K) → WalksOn eq is_clone is_infallible histories now old it new → new.reached ≡ old.reached + length it.taken
      → count (is_at eq i k) (pending_in old) + unreached old.reached i ≤ count (is_at eq i k) (key_at_end it.ending) + (count (is_at eq i k) (pending_in new) + unreached new.reached i)
  call-has histories now i k live old it new walks at =
      let taken = taken-has histories now i k live old.reached it.taken walks.stood in
      let all = counted histories now old it new walks (is_at eq i k) in
      let none = count-none (is_at eq i k) it.passed (passed-none histories now i k live it.passed walks.dead) in
      omega (arith, taken, all, none, at)

  -- What a call does that yields a pair: it ends at that, and all the rest as it says.
  pub record Yields (histories : List (History K V E)) (now : ℕ) (old : Cursor K) (pair : K × V) (new : Cursor K) : Type 0 where
    pub segment : ℕ
    pub it : Advance K V Refused
    pub walks : WalksOn eq is_clone is_infallible histories now old it new
    pub is : it.ending ≡ Yielded segment pair.0 pair.1
    pub found : IsCopyOf is_clone (live_in eq histories now segment pair.0) (Some pair.1)
    pub at : new.reached ≡ old.reached + length it.taken

  yields : (histories : List (History K V E)) (now : ℕ) (old : Cursor K) (pair : K × V) (new : Cursor K) → RepliesNext eq is_clone is_infallible histories now old (Some (Ok pair)) new → Yields histories now old pair new
  yields histories now old pair new may = go may.0.ending refl may.1.ends may.2
    where
      go : (ending : Ending K V Refused) → may.0.ending ≡ ending → IsEnding (length histories) (StandsIn eq is_clone is_infallible histories now) (FindsIn eq is_clone is_infallible histories now) (old.reached + length may.0.taken) ending new → Some (Ok pair) ≡ reply_of ending → Yields histories now old pair new
      go (Yielded i k v) is ends same =
          let both : pair ≡ (k, v) = cc in
          record {
            segment = i;
            it = may.0;
            walks = may.1;
            is = is ∙ ap (λ (p : K × V). Yielded i p.0 p.1) (sym both);
            found = subst (λ (p : K × V). IsCopyOf is_clone (live_in eq histories now i p.0) (Some p.1)) (sym both) ends.0;
            at = ends.1;
          }
      go (KeyRefused i k e) is ends same = cc
      go (SegmentRefused e) is ends same = cc
      go Finished is ends same = cc

  -- what comes is live
  pub each-live : (histories : List (History K V E)) (now : ℕ) (old : Cursor K) (pairs : List (K × V)) → YieldsJust eq is_clone is_infallible histories now old pairs
      → AllByRecursion (λ pair. (i : ℕ) × IsCopyOf is_clone (live_in eq histories now i pair.0) (Some pair.1)) pairs
  each-live histories now old [] walk = tt
  each-live histories now old (pair ∷ pairs) walk = let one = yields histories now old pair walk.0 walk.1 in ((one.segment, one.found), each-live histories now walk.0 pairs walk.2)

  -- the last call leaves nothing to come
  ends-all : (histories : List (History K V E)) (now i : ℕ) (k : K) → IsSome (live_in eq histories now i k) → (old new : Cursor K) → RepliesNext eq is_clone is_infallible histories now old None new → count (is_at eq i k) (pending_in old) + unreached old.reached i ≤ 0
  ends-all histories now i k live old new may = go may.0.ending refl may.1.ends may.2
    where
      go : (ending : Ending K V Refused) → may.0.ending ≡ ending → IsEnding (length histories) (StandsIn eq is_clone is_infallible histories now) (FindsIn eq is_clone is_infallible histories now) (old.reached + length may.0.taken) ending new → None ≡ reply_of ending → count (is_at eq i k) (pending_in old) + unreached old.reached i ≤ 0
      go (Yielded i k v) is ends same = cc
      go (KeyRefused i k e) is ends same = cc
      go (SegmentRefused e) is ends same = cc
      go Finished is ends same =
          let at = ap (λ (c : Cursor K). c.reached) ends.1 in
          let has = call-has histories now i k live old may.0 new may.1 at in
          let none = ap (λ e. count (is_at eq i k) (key_at_end e)) is in
          let left = ap (λ (c : Cursor K). count (is_at eq i k) (pending_in c)) ends.1 in
          let there = live-within eq laws histories now i k live in
          let past = ends.0 in
          omega (arith, has, none, left, at, there, past)

  comes : (histories : List (History K V E)) (now i : ℕ) (k : K) → IsSome (live_in eq histories now i k) → (old : Cursor K) (pairs : List (K × V)) → YieldsJust eq is_clone is_infallible histories now old pairs
      → count (is_at eq i k) (pending_in old) + unreached old.reached i ≤ count (λ (p : K × V). eq p.0 k) pairs
  comes histories now i k live old [] walk = ends-all histories now i k live old walk.0 walk.1
  comes histories now i k live old (pair ∷ pairs) walk =
      let one = yields histories now old pair walk.0 walk.1 in
      let has = call-has histories now i k live old one.it walk.0 one.walks one.at in
      let here = ap (λ e. count (is_at eq i k) (key_at_end e)) one.is in
      let key = at-position eq i one.segment k pair.0 pair.1 in
      let rest = comes histories now i k live walk.0 pairs walk.2 in
      let both = count-append (λ (p : K × V). eq p.0 k) (pair ∷ []) pairs in
      omega (arith, has, here, key, rest, both)

  -- and no key comes twice
  just-once : (home : K → ℕ) (histories : List (History K V E)) → AreOfOneCache eq home histories → (now : ℕ) (k : K) (old : Cursor K) (pairs : List (K × V)) → YieldsJust eq is_clone is_infallible histories now old pairs
      → count (λ (pair : K × V). eq pair.0 k) pairs ≤ count (λ (p : ℕ × K). eq p.1 k) (pending_in old) + unreached old.reached (home k)
  just-once home histories one_cache now k old [] walk = omega arith
  just-once home histories one_cache now k old (pair ∷ pairs) walk =
      let one = yields histories now old pair walk.0 walk.1 in
      let first = call-once home one_cache.0 histories one_cache.1 now k old one.it walk.0 one.walks in
      let here = ap (λ e. count (λ (p : ℕ × K). eq p.1 k) (key_at_end e)) one.is in
      let key = pair-once eq k (let ending : Ending K V Refused = Yielded one.segment pair.0 pair.1 in ending) in
      let rest = just-once home histories one_cache now k walk.0 pairs walk.2 in
      let both = count-append (λ (p : K × V). eq p.0 k) (pair ∷ []) pairs in
      omega (arith, first, here, key, rest, both)

  pub each-once : (home : K → ℕ) (histories : List (History K V E)) (now : ℕ) (pairs : List (K × V)) → AreOfOneCache eq home histories → YieldsJust eq is_clone is_infallible histories now start pairs
      → (k : K) (i : ℕ) → IsSome (live_in eq histories now i k) → count (λ (pair : K × V). eq pair.0 k) pairs ≡ 1
  each-once home histories now pairs one_cache walk k i live =
      let some = comes histories now i k live start pairs walk in
      let once = just-once home histories one_cache now k start pairs walk in
      omega (arith, some, once)
