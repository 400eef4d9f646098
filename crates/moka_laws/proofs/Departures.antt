-- What leaves in a maintenance, and for which causes, over every list of events.
use Rattle.std.proofs.Common.{◌≡◌, ◌≢◌, ℕ, Bool, true, false, not, ◌&&◌, nat_le, ◌-◌, if◌then◌else◌, Option, Some, None, List, [], ◌∷◌, ◌++◌, length, take, drop, filter, map, refl, sym, ap, ◌∙◌, subst, take-append-drop, ◌≤◌}
use Rattle.std.specs.List.{All, AllByRecursion}
use Rattle.std.proofs.lemmas.Bool.{cond_both}
use Rattle.std.proofs.lemmas.List.{map-append}
use Rattle.std.proofs.lemmas.List.Elements.{All-nil, All-cons, All-head, All-tail, All-append, All-map, All-weaker, filter_passes, recursion_from_All}
use Rattle.moka_model.specs.declared.notification.RemovalCause.{RemovalCause}
use Rattle.moka_model.specs.declared.notification.RemovalCause.TheVariants.{Expired, Explicit, Replaced, Size}
use Rattle.moka_model.specs.Maintenance.{Queues, Part, parts, done, evicted_in, after_parts}
use Rattle.moka_model.specs.MaintenanceLaws.{the_dead}
use Rattle.moka_model.specs.Lives.{Settings, Write, is_expired, is_live}
use Rattle.moka_model.specs.Events.{Event, Looked, TurnedDown, Written, Invalidated, Hidden, Maintained, Passed, Drawn, Taken, latest}
use Rattle.moka_model.specs.Admission.{frequency, wins}
use Rattle.moka_model.specs.Orders.{orders, standing}
use Rattle.moka_model.specs.Removals.{Removal, removal_of, removals_of, removals_at, removals}
use Rattle.moka_model.specs.SizeLaws.{WeighsOnes, lives, dead, living, gone, gone_behind, excess, overweight, removal_as, dead_removal}
use Rattle.moka_model.proofs.Callers.{parts-agrees, evicted-room, admitted-room, take-evicted, All-live-behind, evicted-ones, admitted-ones, each_one}
use Rattle.moka_laws.proofs.MaintenanceShortest.{evicted-shortest, admitted-shortest}

-- maps agree where what they do to each agrees
map-agree : {A B : Type 0} (f g : A → B) (xs : List A) → All (λ x. f x ≡ g x) xs → map f xs ≡ map g xs
map-agree f g [] same = refl
map-agree f g (x ∷ xs) same = ap (λ y. y ∷ map f xs) (All-head (λ z. f z ≡ g z) x xs same) ∙ ap (λ ys. g x ∷ ys) (map-agree f g xs (All-tail (λ z. f z ≡ g z) x xs same))

-- what is true of all that leaves in some parts is true of what leaves within a limit
module _ {X : Type 0} (P : X → Type 0) where
  All-front : (xs ys : List X) → All P (xs ++ ys) → All P xs
  All-front [] ys a = All-nil P
  All-front (x ∷ xs) ys a = All-cons P x xs (All-head P x (xs ++ ys) a) (All-front xs ys (All-tail P x (xs ++ ys) a))

  All-back : (xs ys : List X) → All P (xs ++ ys) → All P ys
  All-back [] ys a = a
  All-back (x ∷ xs) ys a = All-back xs ys (All-tail P x (xs ++ ys) a)

  evicted-front : (limit : Option ℕ) (ps : List (Part X)) → All P (evicted_in ps) → All P (evicted_in (done limit ps))
  evicted-front None ps a = a
  evicted-front (Some limit) [] a = All-nil P
  evicted-front (Some limit) (p ∷ ps) a =
      let more : List (Part X) = done (Some (limit - length p.evicted)) ps in
      cond_both (nat_le (length p.evicted) limit) (p ∷ more) [] (λ ds. All P (evicted_in ds))
      (λ _. All-append P p.evicted (evicted_in more) (All-front p.evicted (evicted_in ps) a) (evicted-front (Some (limit - length p.evicted)) ps (All-back p.evicted (evicted_in ps) a)))
      (λ _. All-nil P)

module _ {K V : Type 0} (eq : K → K → Bool) (settings : Settings K V) (at : ℕ) (h : List (Event K V)) where
  abbrev now : ℕ
  now = latest (Maintained None at ∷ h)

  abbrev q : Queues (Write K V)
  q = orders eq settings h

  abbrev is_live_now : Write K V → Bool
  is_live_now w = is_live settings w now

  abbrev wins_now : Write K V → List (Write K V) → Bool
  wins_now = wins settings (frequency settings h)

  abbrev weight_of : Write K V → ℕ
  weight_of w = w.policy_weight

  -- what leaves and what is admitted at a capacity
  abbrev gone_at : Option ℕ → List (Write K V)
  gone_at m = evicted_in (parts weight_of m is_live_now wins_now q)

  abbrev admitted_at : Option ℕ → List (Write K V)
  admitted_at m = (after_parts q (parts weight_of m is_live_now wins_now q)).admitted

  -- the dead leave first
  pub gone-dead_first : gone eq settings at h ≡ dead eq settings at h ++ gone_behind eq settings at h
  gone-dead_first =
      let n : ℕ = length (dead eq settings at h) in
      sym (take-append-drop n (gone eq settings at h)) ∙ ap (λ ws. ws ++ gone_behind eq settings at h) (take-evicted weight_of settings.max_capacity is_live_now wins_now q)

  -- without a capacity just the dead leave
  pub gone-without : settings.max_capacity ≡ None → gone eq settings at h ≡ dead eq settings at h
  gone-without e = ap gone_at e ∙ evicted-room weight_of None is_live_now wins_now q refl

  pub admitted-without : settings.max_capacity ≡ None → (orders eq settings (Maintained None at ∷ h)).admitted ≡ living eq settings at h
  admitted-without e = ap admitted_at e ∙ admitted-room weight_of None is_live_now wins_now q refl

  module _ (lru : settings.behaviour.is_lru ≡ true) where
    -- under least recently used each that waits wins
    always : (w : Write K V) (victims : List (Write K V)) → wins_now w victims ≡ true
    always w victims = rw lru refl

    -- so behind the dead the shortest front leaves that brings the living within the capacity
    pub behind-front : (capacity : ℕ) → settings.max_capacity ≡ Some capacity → AllByRecursion (λ w. w.policy_weight ≤ capacity) (filter (lives eq settings at h) q.waiting) → gone_behind eq settings at h ≡ take (overweight eq settings at h capacity) (living eq settings at h)
    behind-front capacity e light = ap (λ m. drop (length (dead eq settings at h)) (gone_at m)) e ∙ evicted-shortest weight_of capacity is_live_now wins_now q always light

    pub admitted-front : (capacity : ℕ) → settings.max_capacity ≡ Some capacity → AllByRecursion (λ w. w.policy_weight ≤ capacity) (filter (lives eq settings at h) q.waiting) → (orders eq settings (Maintained None at ∷ h)).admitted ≡ drop (overweight eq settings at h capacity) (living eq settings at h)
    admitted-front capacity e light = ap admitted_at e ∙ admitted-shortest weight_of capacity is_live_now wins_now q always light

    module _ (ones : WeighsOnes settings) where
      -- and where each weighs one, as many as pass the capacity
      abbrev weight_one : Write K V → ℕ
      weight_one w = 1

      parts-ones : (m : Option ℕ) → parts weight_of m is_live_now wins_now q ≡ parts weight_one m is_live_now wins_now q
      parts-ones m = let each = each_one eq settings ones h in parts-agrees weight_of weight_one m wins_now is_live_now q each.0 each.1

      pub behind-ones : (capacity : ℕ) → settings.max_capacity ≡ Some capacity → gone_behind eq settings at h ≡ take (excess eq settings at h capacity) (living eq settings at h)
      behind-ones capacity e =
          ap (λ m. drop (length (dead eq settings at h)) (gone_at m)) e
          ∙ ap (λ ps. drop (length (dead eq settings at h)) (evicted_in ps)) (parts-ones (Some capacity))
          ∙ evicted-ones weight_one (λ w. refl) is_live_now wins_now always q capacity

      pub gone-within : (capacity : ℕ) → settings.max_capacity ≡ Some capacity → gone eq settings at h ≡ dead eq settings at h ++ take (excess eq settings at h capacity) (living eq settings at h)
      gone-within capacity e = gone-dead_first ∙ ap (λ ws. dead eq settings at h ++ ws) (behind-ones capacity e)

      pub admitted-within : (capacity : ℕ) → settings.max_capacity ≡ Some capacity → (orders eq settings (Maintained None at ∷ h)).admitted ≡ drop (excess eq settings at h capacity) (living eq settings at h)
      admitted-within capacity e = ap admitted_at e ∙ ap (λ ps. (after_parts q ps).admitted) (parts-ones (Some capacity)) ∙ admitted-ones weight_one (λ w. refl) is_live_now wins_now always q capacity

  -- what leaves does so as dead, or for size, as it is dead or live
  removals_at-dead : (w : Write K V) → not (is_live_now w) ≡ true → removal_of settings Size now w ≡ dead_removal w
  removals_at-dead w = go w.is_hidden (is_expired settings w now)
    where
      go : (s t : Bool) → not (not s && not t) ≡ true → ◌≡◌ {A = Removal K V} (record { key = w.key; value = w.value; cause = if s then Explicit else (if t then Expired else Size) }) (removal_as (if s then Explicit else Expired) w)
      go true t d = refl
      go false true d = refl
      go false false d = cc

  removals_at-live : (w : Write K V) → is_live_now w ≡ true → removal_of settings Size now w ≡ removal_as Size w
  removals_at-live w = go w.is_hidden (is_expired settings w now)
    where
      go : (s t : Bool) → (not s && not t) ≡ true → ◌≡◌ {A = Removal K V} (record { key = w.key; value = w.value; cause = if s then Explicit else (if t then Expired else Size) }) (removal_as Size w)
      go true t d = cc
      go false true d = cc
      go false false d = refl

  map-removals_at-dead : map (removal_of settings Size now) (dead eq settings at h) ≡ map dead_removal (dead eq settings at h)
  map-removals_at-dead =
      let is_dead : Write K V → Type 0 = λ w. not (is_live_now w) ≡ true in
      map-agree (removal_of settings Size now) dead_removal (dead eq settings at h)
      (All-weaker is_dead (λ w. removal_of settings Size now w ≡ dead_removal w) removals_at-dead (dead eq settings at h)
      (All-append is_dead (filter (λ w. not (is_live_now w)) q.admitted) (filter (λ w. not (is_live_now w)) q.waiting) (filter_passes (λ w. not (is_live_now w)) q.admitted) (filter_passes (λ w. not (is_live_now w)) q.waiting)))

  map-removals_at-live : map (removal_of settings Size now) (gone_behind eq settings at h) ≡ map (removal_as Size) (gone_behind eq settings at h)
  map-removals_at-live =
      let lives_now : Write K V → Type 0 = λ w. is_live_now w ≡ true in
      map-agree (removal_of settings Size now) (removal_as Size) (gone_behind eq settings at h)
      (All-weaker lives_now (λ w. removal_of settings Size now w ≡ removal_as Size w) removals_at-live (gone_behind eq settings at h) (All-live-behind weight_of settings.max_capacity is_live_now wins_now q))

  -- so the dead leave as dead, and then all else for size
  pub removals_at-dead_first : removals_at eq settings (Maintained None at) h ≡ map dead_removal (dead eq settings at h) ++ map (removal_as Size) (gone_behind eq settings at h)
  removals_at-dead_first =
      ap (map (removal_of settings Size now)) gone-dead_first
      ∙ map-append (removal_of settings Size now) (dead eq settings at h) (gone_behind eq settings at h)
      ∙ ap (λ ls. ls ++ map (removal_of settings Size now) (gone_behind eq settings at h)) map-removals_at-dead
      ∙ ap (λ ls. map dead_removal (dead eq settings at h) ++ ls) map-removals_at-live

  pub removals_at-within : settings.behaviour.is_lru ≡ true → WeighsOnes settings → (capacity : ℕ) → settings.max_capacity ≡ Some capacity
      → removals_at eq settings (Maintained None at) h ≡ map dead_removal (dead eq settings at h) ++ map (removal_as Size) (take (excess eq settings at h capacity) (living eq settings at h))
  removals_at-within lru ones capacity e = removals_at-dead_first ∙ ap (λ ws. map dead_removal (dead eq settings at h) ++ map (removal_as Size) ws) (behind-ones lru ones capacity e)

  pub removals_at-without : settings.max_capacity ≡ None → removals_at eq settings (Maintained None at) h ≡ map dead_removal (dead eq settings at h)
  removals_at-without e = ap (map (removal_of settings Size now)) (gone-without e) ∙ map-removals_at-dead

module _ {K V : Type 0} (eq : K → K → Bool) (settings : Settings K V) where
  -- it did not leave for size
  abbrev NotForSize : Removal K V → Type 0
  NotForSize l = l.cause ≢ Size

  NotForSize-left : (own : RemovalCause) (at : ℕ) (o : Option (Write K V)) → own ≢ Size → All NotForSize (removals_of settings own at o)
  NotForSize-left own at None other = All-nil NotForSize
  NotForSize-left own at (Some w) other =
      All-cons NotForSize (removal_of settings own at w) []
      (cond_both w.is_hidden Explicit (if is_expired settings w at then Expired else own) (λ cause. cause ≢ Size) (λ _ e. cc) (λ _. cond_both (is_expired settings w at) Expired own (λ cause. cause ≢ Size) (λ _ e. cc) (λ _. other)))
      (All-nil NotForSize)

  -- a dead write does not leave for size
  NotForSize-dead : (at : ℕ) (w : Write K V) → not (is_live settings w at) ≡ true → NotForSize (removal_of settings Size at w)
  NotForSize-dead at w = go w.is_hidden (is_expired settings w at)
    where
      go : (s t : Bool) → not (not s && not t) ≡ true → (if s then Explicit else (if t then Expired else Size)) ≢ Size
      go true t d e = cc
      go false true d e = cc
      go false false d e = absurd (cc)

  none_for_size : (h : List (Event K V)) → settings.max_capacity ≡ None → All NotForSize (removals eq settings h)
  none_for_size [] e = All-nil NotForSize
  none_for_size (a ∷ h) e = All-append NotForSize (removals eq settings h) (removals_at eq settings a h) (none_for_size h e) (at_event a)
    where
      at_event : (a : Event K V) → All NotForSize (removals_at eq settings a h)
      at_event (Looked k at) = All-nil NotForSize
      at_event (TurnedDown k at) = All-nil NotForSize
      at_event (Written k v at) = NotForSize-left Replaced (latest (Written k v at ∷ h)) (standing eq settings k h) (λ same. cc)
      at_event (Invalidated k at) = NotForSize-left Explicit (latest (Invalidated k at ∷ h)) (standing eq settings k h) (λ same. cc)
      at_event (Hidden test) = All-nil NotForSize
      at_event (Maintained limit at) =
          let now_then : ℕ = latest (Maintained limit at ∷ h) in
          let q : Queues (Write K V) = orders eq settings h in
          let is_dead : Write K V → Type 0 = λ w. not (is_live settings w now_then) ≡ true in
          let ps : Option ℕ → List (Part (Write K V)) = λ m. parts (λ w. w.policy_weight) m (λ w. is_live settings w now_then) (wins settings (frequency settings h)) q in
          let dead_all : All is_dead (the_dead (λ w. is_live settings w now_then) q) = All-append is_dead (filter (λ w. not (is_live settings w now_then)) q.admitted) (filter (λ w. not (is_live settings w now_then)) q.waiting) (filter_passes (λ w. not (is_live settings w now_then)) q.admitted) (filter_passes (λ w. not (is_live settings w now_then)) q.waiting) in
          let dead_gone : All is_dead (evicted_in (ps None)) = subst (All is_dead) (sym (evicted-room (λ (w : Write K V). w.policy_weight) None (λ w. is_live settings w now_then) (wins settings (frequency settings h)) q refl)) dead_all in
          let within : All is_dead (evicted_in (done limit (ps settings.max_capacity))) = evicted-front is_dead limit (ps settings.max_capacity) (subst (λ m. All is_dead (evicted_in (ps m))) (sym e) dead_gone) in
          All-map NotForSize (removal_of settings Size now_then) (evicted_in (done limit (ps settings.max_capacity))) (All-weaker is_dead (λ w. NotForSize (removal_of settings Size now_then w)) (NotForSize-dead now_then) (evicted_in (done limit (ps settings.max_capacity))) within)
      at_event (Passed at) = All-nil NotForSize
      at_event Drawn = All-nil NotForSize
      at_event Taken = All-nil NotForSize

  pub nothing_leaves_for_size : (h : List (Event K V)) → settings.max_capacity ≡ None → AllByRecursion NotForSize (removals eq settings h)
  nothing_leaves_for_size h e = recursion_from_All NotForSize (removals eq settings h) (none_for_size h e)
