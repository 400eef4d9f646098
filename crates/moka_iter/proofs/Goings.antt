-- A call of a walk on its way: what it has taken and passed over, and how it ends.
use Rattle.std.proofs.Common.{◌≡◌, ℕ, ◌+◌, ◌^◌, ◌-◌, ◌<◌, ◌≤◌, max, Option, Some, None, Result, Ok, Err, List, [], ◌∷◌, ◌++◌, length, refl, sym, ap, ◌∙◌, subst, append_assoc, arith, length-append}
use Rattle.std.specs.List.{AllByRecursion}
use Rattle.std.specs.List.Sorted.{IsPermutation}
use Rattle.std.proofs.lemmas.List.{map-append, append-nil, length-map}
use Rattle.std.proofs.lemmas.List.Sorted.{IsPermutation-refl, length_permutation}
use Rattle.moka_iter.specs.Walks.{Cursor, at_segment, in_segment, pending_in, taken_from, keys_dealt_with, calls_left, Yielded, KeyRefused, SegmentRefused, Finished, Ending, Advance, reply_of, key_at_end, AllStand, IsEnding, Advances}
use Rattle.moka_iter.specs.Cursors.{Stops}

-- what holds of two lists holds of both together
pub all-append : {A : Type 0} (P : A → Type 0) (xs ys : List A) → AllByRecursion P xs → AllByRecursion P ys → AllByRecursion P (xs ++ ys)
all-append P [] ys left right = right
all-append P (x ∷ xs) ys left right = (left.0, all-append P xs ys left.1 right)

-- what holds of keys of a segment holds of them beside its number
pub all-in_segment : {K : Type 0} (P : ℕ → K → Type 0) (i : ℕ) (keys : List K) → AllByRecursion (λ k. P i k) keys → AllByRecursion (λ (p : ℕ × K). P p.0 p.1) (in_segment i keys)
all-in_segment P i [] all = tt
all-in_segment P i (k ∷ ks) all = (all.0, all-in_segment P i ks all.1)

-- one list of taken keys more
pub taken_from-append : {K : Type 0} (i : ℕ) (taken : List (List K)) (keys : List K) → taken_from i (taken ++ keys ∷ []) ≡ taken_from i taken ++ in_segment (i + length taken) keys
taken_from-append i [] keys = append-nil (in_segment i keys) ∙ ap (λ n. in_segment n keys) (let e : i ≡ i + 0 = omega arith in e)
taken_from-append i (first ∷ more) keys =
    ap (λ l. in_segment i first ++ l) (taken_from-append (i + 1) more keys ∙ ap (λ n. taken_from (i + 1) more ++ in_segment n keys) (let e : i + 1 + length more ≡ i + length (first ∷ more) = omega arith in e))
    ∙ sym (append_assoc (in_segment i first) (taken_from (i + 1) more) (in_segment (i + length (first ∷ more)) keys))

-- cursors of the same parts are the same
pub same-cursor : {K : Type 0} (a b : Cursor K) → a.reached ≡ b.reached → a.pending ≡ b.pending → a ≡ b
same-cursor a b reached pending = ap (λ n. at_segment n a.pending) reached ∙ ap (at_segment b.reached) pending

module _ {K V E : Type 0} (count : ℕ) (stands : ℕ → Result (List K) E → Type 0) (finds : ℕ → K → Result (Option V) E → Type 0) where
  AllStand-append : (i : ℕ) (taken : List (List K)) (keys : List K) → AllStand {V = V} count stands finds i taken → stands (i + length taken) (Ok keys) → AllStand {V = V} count stands finds i (taken ++ keys ∷ [])
  AllStand-append i [] keys all one = (subst (λ n. stands n (Ok keys)) (let e : i + 0 ≡ i = omega arith in e) one, tt)
  AllStand-append i (first ∷ more) keys all one = (all.0, AllStand-append (i + 1) more keys all.1 (subst (λ n. stands n (Ok keys)) (let e : i + length (first ∷ more) ≡ i + 1 + length more = omega arith in e) one))

  -- On its way from one cursor to another, it has taken these keys, and passed over those.
  pub record Goes (old here : Cursor K) (taken : List (List K)) (passed : List (ℕ × K)) : Type 0 where
    pub stood : AllStand {V = V} count stands finds old.reached taken
    pub within : old.reached + length taken ≤ max old.reached count
    pub dead : AllByRecursion (λ p. finds p.0 p.1 (Ok None)) passed
    pub reached : here.reached ≡ old.reached + length taken
    pub same : pending_in old ++ taken_from old.reached taken ≡ passed ++ pending_in here

  abbrev pub IsOnItsWay : Cursor K → Cursor K → Type 0
  IsOnItsWay old here = (taken : List (List K)) × (passed : List (ℕ × K)) × Goes old here taken passed

  -- this may be returned, and leads to that cursor
  abbrev pub MayReply : Cursor K → Option (Result (K × V) E) → Cursor K → Type 0
  MayReply old result new = (it : Advance K V E) × Advances count stands finds old it new × (result ≡ reply_of it.ending)

  pub goes-first : (old : Cursor K) → IsOnItsWay old old
  goes-first old = (
    [],
    [],
    record {
      stood = tt;
      within = omega arith;
      dead = tt;
      reached = omega arith;
      same = append-nil (pending_in old);
    },
  )

  -- all keys of a segment are passed over
  pub goes-on : (old here next : Cursor K) → IsOnItsWay old here → next.reached ≡ here.reached → Stops (finds (here.reached - 1)) here.pending None next.pending → IsOnItsWay old next
  goes-on old here next was same_place stops =
      let it = was.2 in (
        was.0,
        was.1 ++ pending_in here,
        record {
          stood = it.stood;
          within = it.within;
          dead = all-append (λ (p : ℕ × K). finds p.0 p.1 (Ok None)) was.1 (pending_in here) it.dead (all-in_segment (λ i k. finds i k (Ok None)) (here.reached - 1) here.pending stops.0);
          reached = same_place ∙ it.reached;
          same = it.same ∙ sym (ap (λ l. (was.1 ++ pending_in here) ++ in_segment (next.reached - 1) l) stops.1 ∙ append-nil (was.1 ++ pending_in here));
        },
      )

  -- the next segment is reached, and its keys are taken
  pub goes-further : (old here next : Cursor K) → IsOnItsWay old here → here.pending ≡ [] → here.reached < count → next.reached ≡ here.reached + 1 → stands here.reached (Ok next.pending) → IsOnItsWay old next
  goes-further old here next was none more one_further stand =
      let it = was.2 in
      let at : here.reached ≡ old.reached + length was.0 = it.reached in
      let long : length (was.0 ++ next.pending ∷ []) ≡ length was.0 + 1 = length-append was.0 (next.pending ∷ []) in
      let position : old.reached + length was.0 ≡ next.reached - 1 = omega (arith, at, one_further) in
      let all : pending_in old ++ taken_from old.reached was.0 ≡ was.1 = it.same ∙ ap (λ l. was.1 ++ in_segment (here.reached - 1) l) none ∙ append-nil was.1 in (
        was.0 ++ next.pending ∷ [],
        was.1,
        record {
          stood = AllStand-append old.reached was.0 next.pending it.stood (subst (λ n. stands n (Ok next.pending)) at stand);
          within = omega (arith, at, long, more);
          dead = it.dead;
          reached = omega (arith, at, long, one_further);
          same = ap (λ l. pending_in old ++ l) (taken_from-append old.reached was.0 next.pending) ∙ sym (append_assoc (pending_in old) (taken_from old.reached was.0) (in_segment (old.reached + length was.0) next.pending))
              ∙ ap (λ l. l ++ in_segment (old.reached + length was.0) next.pending) all ∙ ap (λ n. was.1 ++ in_segment n next.pending) position;
        },
      )

  -- It ends within a segment, at one of the keys that are still to come.
  stopped : (old here new : Cursor K) (was : IsOnItsWay old here) → (passed : List K) (k : K) → here.pending ≡ passed ++ k ∷ new.pending → new.reached ≡ here.reached
      → IsPermutation (pending_in old ++ taken_from old.reached was.0) ((was.1 ++ in_segment (here.reached - 1) passed) ++ (here.reached - 1, k) ∷ [] ++ pending_in new)
  stopped old here new was passed k are same_place =
      let i = here.reached - 1 in
      let split : pending_in here ≡ in_segment i passed ++ (i, k) ∷ in_segment i new.pending = ap (in_segment i) are ∙ map-append (λ q. (i, q)) passed (k ∷ new.pending) in
      let position : in_segment i new.pending ≡ pending_in new = ap (λ n. in_segment (n - 1) new.pending) (sym same_place) in
      let it : pending_in old ++ taken_from old.reached was.0 ≡ (was.1 ++ in_segment i passed) ++ (i, k) ∷ pending_in new =
      was.2.same ∙ ap (λ l. was.1 ++ l) split ∙ sym (append_assoc was.1 (in_segment i passed) ((i, k) ∷ in_segment i new.pending)) ∙ ap (λ l. (was.1 ++ in_segment i passed) ++ (i, k) ∷ l) position in
      subst (IsPermutation (pending_in old ++ taken_from old.reached was.0)) (it ∙ sym (append_assoc (was.1 ++ in_segment i passed) ((i, k) ∷ []) (pending_in new))) (IsPermutation-refl (pending_in old ++ taken_from old.reached was.0))

  pub ends-within : (old here new : Cursor K) (r : Result (K × V) E) → IsOnItsWay old here → new.reached ≡ here.reached → Stops (finds (here.reached - 1)) here.pending (Some r) new.pending → MayReply old (Some r) new
  ends-within old here new (Ok pair) was same_place stops =
      let i = here.reached - 1 in
      let all = all-append (λ (p : ℕ × K). finds p.0 p.1 (Ok None)) was.1 (in_segment i stops.0) was.2.dead (all-in_segment (λ i k. finds i k (Ok None)) i stops.0 stops.3) in (
        record { taken = was.0; passed = was.1 ++ in_segment i stops.0; ending = Yielded i stops.1 pair.1 },
        record {
          stood = was.2.stood;
          within = was.2.within;
          dead = all;
          ends = (stops.4.1, same_place ∙ was.2.reached, ap (λ n. n - 1) (sym same_place));
          once = stopped old here new was stops.0 stops.1 stops.2 same_place;
        },
        ap (λ k. Some (Ok (k, pair.1))) stops.4.0,
      )
  ends-within old here new (Err e) was same_place stops =
      let i = here.reached - 1 in
      let all = all-append (λ (p : ℕ × K). finds p.0 p.1 (Ok None)) was.1 (in_segment i stops.0) was.2.dead (all-in_segment (λ i k. finds i k (Ok None)) i stops.0 stops.3) in (
        record { taken = was.0; passed = was.1 ++ in_segment i stops.0; ending = KeyRefused i stops.1 e },
        record {
          stood = was.2.stood;
          within = was.2.within;
          dead = all;
          ends = (stops.4, same_place ∙ was.2.reached, ap (λ n. n - 1) (sym same_place));
          once = stopped old here new was stops.0 stops.1 stops.2 same_place;
        },
        refl,
      )

  -- Nothing is still to come, and it ends there.
  behind : (old here : Cursor K) (was : IsOnItsWay old here) → here.pending ≡ [] → (rest : List (ℕ × K)) → rest ≡ [] → IsPermutation (pending_in old ++ taken_from old.reached was.0) ((was.1 ++ []) ++ rest)
  behind old here was none rest empty =
      let it = was.2.same ∙ ap (λ l. was.1 ++ in_segment (here.reached - 1) l) none in
      subst (IsPermutation (pending_in old ++ taken_from old.reached was.0)) (it ∙ ap (λ l. was.1 ++ l) (sym empty) ∙ ap (λ l. l ++ rest) (sym (append-nil was.1))) (IsPermutation-refl (pending_in old ++ taken_from old.reached was.0))

  pub ends-refused : (old here new : Cursor K) (e : E) → IsOnItsWay old here → here.pending ≡ [] → here.reached < count → new.reached ≡ here.reached + 1 → new.pending ≡ [] → stands here.reached (Err e) → MayReply old (Some (Err e)) new
  ends-refused old here new e was none more one_further left refused =
      let at : here.reached ≡ old.reached + length was.0 = was.2.reached in (
        record { taken = was.0; passed = was.1; ending = SegmentRefused e },
        record {
          stood = was.2.stood;
          within = was.2.within;
          dead = was.2.dead;
          ends = (subst (λ n. stands n (Err e)) at refused, subst (λ n. n < count) at more, same-cursor new (at_segment (old.reached + length was.0 + 1) []) (one_further ∙ ap (λ n. n + 1) at) left);
          once = behind old here was none (pending_in new) (ap (in_segment (new.reached - 1)) left);
        },
        refl,
      )

  pub ends-finished : (old here : Cursor K) → IsOnItsWay old here → here.pending ≡ [] → count ≤ here.reached → MayReply old None here
  ends-finished old here was none all =
      let at : here.reached ≡ old.reached + length was.0 = was.2.reached in (
        record { taken = was.0; passed = was.1; ending = Finished },
        record {
          stood = was.2.stood;
          within = was.2.within;
          dead = was.2.dead;
          ends = (subst (λ n. count ≤ n) at all, same-cursor here (at_segment (old.reached + length was.0) []) at none);
          once = behind old here was none (pending_in here) (ap (in_segment (here.reached - 1)) none);
        },
        refl,
      )

  -- a call that reaches a further segment is nearer to the end,
  further : (old new : Cursor K) → old.reached < new.reached → new.reached ≤ max old.reached count → length new.pending < 2 ^ 64 → calls_left count new < calls_left count old
  further old new more within fits =
      let left : count - new.reached + 1 ≤ count - old.reached = omega (arith, more, within) in
      omega (arith, left, fits)

  -- and so is one that stays, and deals with a key
  closer : (old new : Cursor K) → new.reached ≡ old.reached → length new.pending < length old.pending → calls_left count new < calls_left count old
  closer old new same fewer = omega (arith, same, fewer)

  -- so is each call that returns something
  module _ (old new : Cursor K) (it : Advance K V E) (advances : Advances count stands finds old it new) where
    long : length (pending_in old) + length (taken_from old.reached it.taken) ≡ length (keys_dealt_with it) + length (pending_in new)
    long = sym (length-append (pending_in old) (taken_from old.reached it.taken)) ∙ sym (length_permutation (pending_in old ++ taken_from old.reached it.taken) (keys_dealt_with it ++ pending_in new) advances.once) ∙ length-append (keys_dealt_with it) (pending_in new)

    at-key : length (keys_dealt_with it) ≡ length it.passed + 1 → new.reached ≡ old.reached + length it.taken → length new.pending < 2 ^ 64 → calls_left count new < calls_left count old
    at-key one position fits = go it.taken refl
      where
        go : (taken : List (List K)) → it.taken ≡ taken → calls_left count new < calls_left count old
        go [] none =
            let same : new.reached ≡ old.reached = position ∙ ap (λ (ts : List (List K)). old.reached + length ts) none ∙ (let e : old.reached + 0 ≡ old.reached = omega arith in e) in
            let all : length (pending_in old) + 0 ≡ length (keys_dealt_with it) + length (pending_in new) = ap (λ (ts : List (List K)). length (pending_in old) + length (taken_from old.reached ts)) (sym none) ∙ long in
            let here = length-map {B = ℕ × K} old.pending (λ k. (old.reached - 1, k)) in
            let there = length-map {B = ℕ × K} new.pending (λ k. (new.reached - 1, k)) in
            closer old new same (omega (arith, all, one, here, there))
        go (keys ∷ more) some =
            let at : new.reached ≡ old.reached + length (keys ∷ more) = position ∙ ap (λ (ts : List (List K)). old.reached + length ts) some in
            further old new (omega (arith, at)) (subst (λ n. n ≤ max old.reached count) (sym position) advances.within) fits

  pub nearer : (old new : Cursor K) (r : Result (K × V) E) → MayReply old (Some r) new → length new.pending < 2 ^ 64 → calls_left count new < calls_left count old
  nearer old new r may fits = go may.0.ending refl may.1.ends may.2
    where
      go : (ending : Ending K V E) → may.0.ending ≡ ending → IsEnding count stands finds (old.reached + length may.0.taken) ending new → Some r ≡ reply_of ending → calls_left count new < calls_left count old
      go (Yielded i k v) is ends same = at-key old new may.0 may.1 (ap (λ e. length (may.0.passed ++ key_at_end e)) is ∙ length-append may.0.passed ((i, k) ∷ [])) ends.1 fits
      go (KeyRefused i k e) is ends same = at-key old new may.0 may.1 (ap (λ e. length (may.0.passed ++ key_at_end e)) is ∙ length-append may.0.passed ((i, k) ∷ [])) ends.1 fits
      go (SegmentRefused e) is ends same =
          let position : new.reached ≡ old.reached + length may.0.taken + 1 = ap (λ (c : Cursor K). c.reached) ends.2 in
          further old new (omega (arith, position)) (omega (arith, position, ends.1)) fits
      go Finished is ends same = cc
