-- An iterator over caches that say what histories hold walks over these.
use Rattle.std.proofs.Common.{◌≡◌, ℕ, ◌+◌, Bool, Option, Some, None, Result, Ok, Err, List, [], ◌∷◌, length, subst}
use Rattle.std.specs.List.{AllByRecursion}
use Rattle.moka_policy.specs.declared.policy.Refused.{Refused}
use Rattle.moka_iter.specs.Walks.{Cursor, Ending, Yielded, KeyRefused, SegmentRefused, Finished, Advance, AllStand, IsEnding, Advances}
use Rattle.moka_iter.specs.Histories.{History, StandsIn, FindsIn, RepliesNext}
use Rattle.moka_iter.specs.WalkLaws.{YieldsJust}
use Rattle.moka_iter.specs.Iters.{IterData, StandsAt, FindsAt, IteratesTo, IteratesJust, StandStill}

-- what may be returned of segments may be returned of others, which may return no less
module _ {K V E : Type 0} (count : ℕ) (stands stands_too : ℕ → Result (List K) E → Type 0) (finds finds_too : ℕ → K → Result (Option V) E → Type 0)
    (wider : (i : ℕ) (result : Result (List K) E) → stands i result → stands_too i result) (finds_wider : (i : ℕ) (k : K) (result : Result (Option V) E) → finds i k result → finds_too i k result) where
  AllStand-too : (i : ℕ) (taken : List (List K)) → AllStand {V = V} count stands finds i taken → AllStand {V = V} count stands_too finds_too i taken
  AllStand-too i [] all = tt
  AllStand-too i (keys ∷ more) all = (wider i (Ok keys) all.0, AllStand-too (i + 1) more all.1)

  dead-too : (passed : List (ℕ × K)) → AllByRecursion (λ p. finds p.0 p.1 (Ok None)) passed → AllByRecursion (λ p. finds_too p.0 p.1 (Ok None)) passed
  dead-too [] all = tt
  dead-too (p ∷ ps) all = (finds_wider p.0 p.1 (Ok None) all.0, dead-too ps all.1)

  ends-too : (reached : ℕ) (how : Ending K V E) (new : Cursor K) → IsEnding count stands finds reached how new → IsEnding count stands_too finds_too reached how new
  ends-too reached (Yielded i k v) new ends = (finds_wider i k (Ok (Some v)) ends.0, ends.1, ends.2)
  ends-too reached (KeyRefused i k e) new ends = (finds_wider i k (Err e) ends.0, ends.1, ends.2)
  ends-too reached (SegmentRefused e) new ends = (wider reached (Err e) ends.0, ends.1, ends.2)
  ends-too reached Finished new ends = ends

  advances-too : (old : Cursor K) (it : Advance K V E) (new : Cursor K) → Advances count stands finds old it new → Advances count stands_too finds_too old it new
  advances-too old it new advances = record {
    stood = AllStand-too old.reached it.taken advances.stood;
    within = advances.within;
    dead = dead-too it.passed advances.dead;
    ends = ends-too (old.reached + length it.taken) it.ending new advances.ends;
    once = advances.once;
  }

module _ {K V E G : Type 0} (eq : K → K → Bool) (is_clone : V → V → Type 0) (is_infallible : V → Type 0)
    (stands : G → Result (List K) Refused → Type 0) (finds : G → K → Result (Option V) Refused → Type 0) (histories : List (History K V E)) (now : ℕ) where
  abbrev Still : List G → Type 0
  Still caches = StandStill eq is_clone is_infallible stands finds caches histories now

  replies-next : (old : IterData K G) (result : Option (Result (K × V) Refused)) (new : IterData K G) → Still old.caches → IteratesTo stands finds old result new
      → RepliesNext eq is_clone is_infallible histories now old.cursor result new.cursor
  replies-next old result new still to = (
    to.1.0,
    subst (λ n. Advances n (StandsIn eq is_clone is_infallible histories now) (FindsIn eq is_clone is_infallible histories now) old.cursor to.1.0 new.cursor) still.count
        (advances-too (length old.caches) (StandsAt stands finds old.caches) (StandsIn eq is_clone is_infallible histories now) (FindsAt stands finds old.caches) (FindsIn eq is_clone is_infallible histories now)
        still.stored still.live old.cursor to.1.0 new.cursor to.1.1),
    to.1.2,
  )

  stays-still : (old : IterData K G) (result : Option (Result (K × V) Refused)) (new : IterData K G) → Still old.caches → IteratesTo stands finds old result new → Still new.caches
  stays-still old result new still to = rw to.0 still

  yields-just : (iter : IterData K G) (pairs : List (K × V)) → Still iter.caches → IteratesJust stands finds iter pairs → YieldsJust eq is_clone is_infallible histories now iter.cursor pairs
  yields-just iter [] still just = (just.0.cursor, replies-next iter None just.0 still just.1)
  yields-just iter (pair ∷ pairs) still just = (
    just.0.cursor,
    replies-next iter (Some (Ok pair)) just.0 still just.1,
    yields-just just.0 pairs (stays-still iter (Some (Ok pair)) just.0 still just.1) just.2,
  )

  pub yields-from : (first : Cursor K) (iter : IterData K G) (pairs : List (K × V)) → iter.cursor ≡ first → Still iter.caches → IteratesJust stands finds iter pairs → YieldsJust eq is_clone is_infallible histories now first pairs
  yields-from first iter pairs begins still just = subst (λ c. YieldsJust eq is_clone is_infallible histories now c pairs) begins (yields-just iter pairs still just)
