-- Of two keys that wait, the one with the older opening write stands before the other.
use Rattle.std.proofs.Common.{◌≡◌, ℕ, ◌<◌, ◌≤◌, suc, Bool, true, false, not, cond, ◌&&◌, is_some, List, [], ◌∷◌, ◌++◌, length, Option, Some, None, refl, sym, ap, ◌∙◌, subst, arith}
use Rattle.std.specs.List.{list_any}
use Rattle.std.proofs.lemmas.Bool.{and_parts}
use Rattle.std.specs.Cmp.{IsEquivalence}
use Rattle.std.proofs.lemmas.List.{map-append}
use Rattle.moka_model.specs.Lives.{Settings, Write}
use Rattle.moka_model.specs.Events.{Event, Looked, TurnedDown, Written, Invalidated, Hidden, Maintained, Passed, Drawn, Taken, latest}
use Rattle.moka_model.specs.Orders.{standing, orders}
use Rattle.moka_laws.specs.Laws.{IsUnremoved, NothingStands, FirstWrite}
use Rattle.moka_model.specs.OrderLaws.{keys, lasts, openings, waits}
use Rattle.moka_laws.proofs.InOrder.{Each, InOrder, Each-from, Each-filtered, InOrder-filter, InOrder-same, InOrder-push, InOrder-at}
use Rattle.moka_laws.proofs.Places.{standing-nothing, stored_under_first_write}
use Rattle.moka_laws.proofs.Moves.{hidden-keys, look-waiting_keys, removed_in-waiting_keys}
use Rattle.moka_laws.proofs.Arrivals.{waits_in, maintained-waiting_keys, opening-waiting_keys, standing-waiting_keys, waiting_in_order}

module _ {K V : Type 0} (eq : K → K → Bool) (settings : Settings K V) where
  -- how many events there were with the opening write of a key
  abbrev place : List (Event K V) → K → ℕ
  place [] k = 0
  place (Written p v at ∷ h) k = cond (eq p k && not (is_some (standing eq settings k h))) (suc (length h)) (place h k)
  place (e ∷ h) k = place h k

  -- the place of a key that stands stays
  place-stands : (k : K) (e : Event K V) (h : List (Event K V)) → is_some (standing eq settings k h) ≡ true → place (e ∷ h) k ≡ place h k
  place-stands k (Looked p at) h there = refl
  place-stands k (TurnedDown p at) h there = refl
  place-stands k (Written p v at) h there = go (eq p k) (is_some (standing eq settings k h)) there
    where
      go : (s t : Bool) → t ≡ true → cond (s && not t) (suc (length h)) (place h k) ≡ place h k
      go true true e = refl
      go true false e = cc
      go false t e = refl
  place-stands k (Invalidated p at) h there = refl
  place-stands k (Hidden test) h there = refl
  place-stands k (Maintained limit at) h there = refl
  place-stands k (Passed at) h there = refl
  place-stands k Drawn h there = refl
  place-stands k Taken h there = refl

  -- a place is one of those that there are
  place-le : (k : K) (h : List (Event K V)) → place h k ≤ length h
  place-le k [] = omega arith
  place-le k (Looked p at ∷ h) = let l = place-le k h in omega arith
  place-le k (TurnedDown p at ∷ h) = let l = place-le k h in omega arith
  place-le k (Written p v at ∷ h) = go (eq p k && not (is_some (standing eq settings k h))) (place-le k h)
    where
      go : (t : Bool) → place h k ≤ length h → cond t (suc (length h)) (place h k) ≤ suc (length h)
      go true l = omega arith
      go false l = omega arith
  place-le k (Invalidated p at ∷ h) = let l = place-le k h in omega arith
  place-le k (Hidden test ∷ h) = let l = place-le k h in omega arith
  place-le k (Maintained limit at ∷ h) = let l = place-le k h in omega arith
  place-le k (Passed at ∷ h) = let l = place-le k h in omega arith
  place-le k (Drawn ∷ h) = let l = place-le k h in omega arith
  place-le k (Taken ∷ h) = let l = place-le k h in omega arith

  -- the place of a key that is opened
  place-opening : (k p : K) (v : V) (at : ℕ) (h : List (Event K V)) → eq p k ≡ true → standing eq settings k h ≡ None → place (Written p v at ∷ h) k ≡ suc (length h)
  place-opening k p v at h same none = ap (λ t. cond (t && not (is_some (standing eq settings k h))) (suc (length h)) (place h k)) same ∙ ap (λ o. cond (not (is_some o)) (suc (length h)) (place h k)) none

  -- it is that of its first write
  place_from : (k q : K) (v : V) (at : ℕ) (before later : List (Event K V)) → eq q k ≡ true → NothingStands eq settings k before → IsUnremoved eq settings k later (Written q v at ∷ before)
      → place (later ++ Written q v at ∷ before) k ≡ suc (length before)
  place_from k q v at before [] same none u = place-opening k q v at before same (standing-nothing eq settings k before none)
  place_from k q v at before (e ∷ later) same none u =
      let first : FirstWrite eq settings k (later ++ Written q v at ∷ before) = record { later = later; key = q; value = v; at = at; before = before; place = refl; same_key = same; absent = none; kept = u.1 } in
      let stands = stored_under_first_write eq settings k (later ++ Written q v at ∷ before) first in
      place-stands k e (later ++ Written q v at ∷ before) (ap is_some stands.1) ∙ place_from k q v at before later same none u.1

  place-first : (k : K) (h : List (Event K V)) (x : FirstWrite eq settings k h) → place h k ≡ suc (length x.before)
  place-first k h x = ap (λ es. place es k) x.place ∙ place_from k x.key x.value x.at x.before x.later x.same_key x.absent x.kept

  module _ (laws : IsEquivalence eq) where
    -- each key that waits stands
    waiting_stand : (h : List (Event K V)) → Each (λ k. is_some (standing eq settings k h) ≡ true) (keys (orders eq settings h).waiting)
    waiting_stand h =
        let wait : Each (λ k. waits eq settings h k ≡ true) (keys (orders eq settings h).waiting) = subst (Each (λ k. waits eq settings h k ≡ true)) (sym (waiting_in_order eq settings laws h)) (Each-filtered (waits eq settings h) (lasts eq (openings eq settings h))) in
        Each-from
        (λ k. waits eq settings h k ≡ true)
        (λ k. waits eq settings h k ≡ true)
        (λ k. is_some (standing eq settings k h) ≡ true)
        (λ k it _. (and_parts (is_some (standing eq settings k h)) (not (list_any (λ (w : Write K V). eq w.key k) (orders eq settings h).admitted)) it).0)
        (keys (orders eq settings h).waiting)
        wait
        wait

    -- one more event leaves the places of those that wait
    places_stay : (e : Event K V) (h : List (Event K V)) → Each (λ k. place (e ∷ h) k ≡ place h k) (keys (orders eq settings h).waiting)
    places_stay e h = Each-from (λ k. is_some (standing eq settings k h) ≡ true) (λ k. is_some (standing eq settings k h) ≡ true) (λ k. place (e ∷ h) k ≡ place h k) (λ k there _. place-stands k e h there) (keys (orders eq settings h).waiting) (waiting_stand h) (waiting_stand h)

    -- the keys that wait stand in the order of their places
    waiting_in_places : (h : List (Event K V)) → InOrder (place h) (keys (orders eq settings h).waiting)
    waiting_in_places [] = tt
    waiting_in_places (Looked p at ∷ h) = subst (InOrder (place h)) (sym (look-waiting_keys eq settings p (orders eq settings h) (latest (Looked p at ∷ h)))) (waiting_in_places h)
    waiting_in_places (TurnedDown p at ∷ h) = waiting_in_places h
    waiting_in_places (Written p v at ∷ h) = go (standing eq settings p h) refl (InOrder-same (place h) (place (Written p v at ∷ h)) (keys (orders eq settings h).waiting) (places_stay (Written p v at) h) (waiting_in_places h))
      where
        go : (o : Option (Write K V)) → standing eq settings p h ≡ o → InOrder (place (Written p v at ∷ h)) (keys (orders eq settings h).waiting) → InOrder (place (Written p v at ∷ h)) (keys (orders eq settings (Written p v at ∷ h)).waiting)
        go None e o =
            let here = place-opening p p v at h (laws.refl p) e in
            let below = λ (k : K) (same : place (Written p v at ∷ h) k ≡ place h k) (_ : place (Written p v at ∷ h) k ≡ place h k). let l = place-le k h in let b : place (Written p v at ∷ h) k < place (Written p v at ∷ h) p = omega arith in b in
            subst
            (InOrder (place (Written p v at ∷ h)))
            (sym (opening-waiting_keys eq settings laws p v at h e))
            (InOrder-push (place (Written p v at ∷ h)) (keys (orders eq settings h).waiting) p (Each-from (λ k. place (Written p v at ∷ h) k ≡ place h k) (λ k. place (Written p v at ∷ h) k ≡ place h k) (λ k. place (Written p v at ∷ h) k < place (Written p v at ∷ h) p) below (keys (orders eq settings h).waiting) (places_stay (Written p v at) h) (places_stay (Written p v at) h)) o)
        go (Some w) e o = subst (InOrder (place (Written p v at ∷ h))) (sym (standing-waiting_keys eq settings laws p v at h w e)) o
    waiting_in_places (Invalidated p at ∷ h) = subst (InOrder (place h)) (sym (removed_in-waiting_keys eq settings p (orders eq settings h))) (InOrder-filter (place h) (λ x. not (eq x p)) (keys (orders eq settings h).waiting) (waiting_in_places h))
    waiting_in_places (Hidden test ∷ h) = subst (InOrder (place h)) (sym (hidden-keys test (orders eq settings h).waiting)) (waiting_in_places h)
    waiting_in_places (Maintained limit at ∷ h) = subst (InOrder (place h)) (sym (maintained-waiting_keys eq settings laws h limit at)) (InOrder-filter (place h) (waits_in eq settings laws (orders eq settings (Maintained limit at ∷ h)).waiting) (keys (orders eq settings h).waiting) (waiting_in_places h))
    waiting_in_places (Passed at ∷ h) = waiting_in_places h
    waiting_in_places (Drawn ∷ h) = waiting_in_places h
    waiting_in_places (Taken ∷ h) = waiting_in_places h

    -- so of two that wait the first has the older first write
    pub older_first : (h : List (Event K V)) (before middle after : List (Write K V)) (a b : Write K V) → (orders eq settings h).waiting ≡ before ++ a ∷ (middle ++ b ∷ after)
        → (x : FirstWrite eq settings a.key h) (y : FirstWrite eq settings b.key h) → length x.before < length y.before
    older_first h before middle after a b is x y =
        let read = λ (w : Write K V). w.key in
        let names : keys (orders eq settings h).waiting ≡ keys before ++ a.key ∷ (keys middle ++ b.key ∷ keys after) =
        ap keys is ∙ map-append read before (a ∷ (middle ++ b ∷ after)) ∙ ap (λ l. keys before ++ a.key ∷ l) (map-append read middle (b ∷ after)) in
        let older : place h a.key < place h b.key = InOrder-at (place h) (keys before) (keys middle) (keys after) a.key b.key (subst (InOrder (place h)) names (waiting_in_places h)) in
        let at_a = place-first a.key h x in
        let at_b = place-first b.key h y in
        omega arith
