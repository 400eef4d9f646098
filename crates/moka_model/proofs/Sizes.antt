-- How many stand, and how heavy they are.
use Rattle.std.proofs.Common.{◌≡◌, ℕ, ◌+◌, ◌<◌, ◌≤◌, Bool, true, false, not, if◌then◌else◌, Option, Some, None, List, [], ◌∷◌, ◌++◌, length, map, refl, sym, ap, ◌∙◌, subst, ⊎_elim, length-append, append-nil, arith}
use Rattle.std.specs.Option.{option_to_list, option_map}
use Rattle.std.specs.List.{All, filter}
use Rattle.std.specs.Cmp.{IsEquivalence}
use Rattle.std.proofs.lemmas.Bool.{cond_both, leb-false}
use Rattle.std.proofs.lemmas.List.{length-map}
use Rattle.std.proofs.lemmas.List.Elements.{All-head, All-append, All-filter}
use Rattle.std.proofs.lemmas.List.Filters.{length-filter_both}
use Rattle.moka_model.specs.declared.notification.RemovalCause.TheVariants.{Size}
use Rattle.moka_model.specs.Maintenance.{Queues, total, parts, done, after_parts}
use Rattle.moka_model.specs.Lives.{Settings, Write, is_live, after_look, hidden_by}
use Rattle.moka_model.specs.Events.{Event, Looked, TurnedDown, Written, Invalidated, Hidden, Maintained, Passed, Drawn, Taken, latest}
use Rattle.moka_model.specs.Admission.{frequency, wins}
use Rattle.moka_model.specs.Orders.{changed_where, moved_last, is_of, is_hit, used_where, opened_by, written_in, evicted, evicted_at, maintained, orders, is_evicted, standing}
use Rattle.moka_model.specs.Removals.{removal_of, removals_at, removals}
use Rattle.moka_model.specs.Numbers.{entry_count, weighted_size, stores_nothing, flush_point, is_flush_due}
use Rattle.moka_model.specs.Steps.{AcceptedStep, events_in}
use Rattle.moka_model.specs.Calls.{flush, IsLegal}
use Rattle.moka_model.specs.OrderLaws.{writes_of}
use Rattle.moka_model.specs.SizeLaws.{WeighsOnes, LimitsSome}
use Rattle.moka_model.proofs.Maintenance.{total-append, All-live-after, total-after-le}
use Rattle.moka_model.proofs.MaintenanceAgreeing.{total-agrees}
use Rattle.moka_model.proofs.MaintenanceBounds.{length-filter-le, waiting-within-le, admitted-within-le}
use Rattle.moka_model.proofs.FewLeave.{one-leaves}
use Rattle.moka_model.proofs.MaintenanceCounted.{count-maintenance}
use Rattle.moka_model.proofs.MaintenanceOnes.{total-ones}
use Rattle.moka_model.proofs.EachWrite.{orders-hold}
use Rattle.moka_model.proofs.Legal.{IsNoWrite, legal-by_events}
use Rattle.moka_model.proofs.OrdersHold.{opening, overwrite, held-append, held-orders, maintained-none_waits}

-- a move leaves as many
length-moved_last : {A : Type 0} (p : A → Bool) (change : A → A) (xs : List A) → length (moved_last p change xs) ≡ length xs
length-moved_last {A} p change xs =
    let others : List A = filter (λ x. not (p x)) xs in
    let moved : List A = filter p xs in
    let both : length moved + length others ≡ length xs = length-filter_both p (λ x. not (p x)) (λ x. refl) xs in
    let same : length (map change moved) ≡ length moved = length-map moved change in
    let all : length (others ++ map change moved) ≡ length others + length (map change moved) = length-append others (map change moved) in
    omega arith

-- where each weighs one, their weight is their number
total-each_one : {X : Type 0} (weight : X → ℕ) (xs : List X) → All (λ x. weight x ≡ 1) xs → total weight xs ≡ length xs
total-each_one weight xs ones = total-agrees weight (λ x. 1) xs ones ∙ total-ones (λ x. 1) (λ x. refl) xs

-- all pass a test that all pass
pub all-pass : {A : Type 0} (xs : List A) → filter (λ _. true) xs ≡ xs
all-pass [] = refl
all-pass (x ∷ xs) = ap (λ l. x ∷ l) (all-pass xs)

module _ {K V : Type 0} (eq : K → K → Bool) (settings : Settings K V) where
  abbrev pub weight_of : Write K V → ℕ
  weight_of w = w.policy_weight

  -- a write puts one at most behind those that wait, and none among the admitted
  admitted-opened_by : (w : Write K V) (ws : List (Write K V)) (q : Queues (Write K V)) → (opened_by eq settings w ws q).admitted ≡ q.admitted
  admitted-opened_by w [] q = refl
  admitted-opened_by w (v ∷ ws) q = refl

  length-opened_by-le : (w : Write K V) (ws : List (Write K V)) (q : Queues (Write K V)) → length (opened_by eq settings w ws q).waiting ≤ length q.waiting + 1
  length-opened_by-le w [] q = let all = length-append q.waiting (w ∷ []) in omega arith
  length-opened_by-le w (v ∷ ws) q = omega arith

  -- after a maintenance the weight of the admitted is within the capacity
  maintained-weight-le : (frequency_of : ℕ → ℕ) (at : ℕ) (q : Queues (Write K V)) (capacity : ℕ) → settings.max_capacity ≡ Some capacity → total weight_of (maintained settings frequency_of None at q).admitted ≤ capacity
  maintained-weight-le frequency_of at q capacity e =
      let after : Option ℕ → List (Write K V) = λ m. (after_parts q (parts weight_of m (λ (w : Write K V). is_live settings w at) (wins settings frequency_of) q)).admitted in
      subst (λ m. total weight_of (after m) ≤ capacity) (sym e) (total-after-le weight_of capacity (λ (w : Write K V). is_live settings w at) (wins settings frequency_of) q)

  -- so is that of all that stand
  pub maintained-weighted_size-le : (h : List (Event K V)) (at capacity : ℕ) → settings.max_capacity ≡ Some capacity → weighted_size eq settings (Maintained None at ∷ h) ≤ capacity
  maintained-weighted_size-le h at capacity e =
      let now : ℕ = latest (Maintained None at ∷ h) in
      let after : Queues (Write K V) = orders eq settings (Maintained None at ∷ h) in
      let admitted = maintained-weight-le (frequency settings h) now (orders eq settings h) capacity e in
      let waiting : total weight_of after.waiting ≡ 0 = ap (total weight_of) (maintained-none_waits eq settings (frequency settings h) now (orders eq settings h)) in
      let all = total-append weight_of after.admitted after.waiting in
      omega arith

  module _ (laws : IsEquivalence eq) where
    -- the write that stands for a key after it is admitted
    pub maintained-held : (h : List (Event K V)) (at : ℕ) (k : K) → writes_of eq k (orders eq settings (Maintained None at ∷ h)).admitted ≡ option_to_list (standing eq settings k (Maintained None at ∷ h))
    maintained-held h at k =
        let after : Queues (Write K V) = orders eq settings (Maintained None at ∷ h) in
        sym (append-nil (writes_of eq k after.admitted))
        ∙ ap (λ ws. writes_of eq k after.admitted ++ writes_of eq k ws) (sym (maintained-none_waits eq settings (frequency settings h) (latest (Maintained None at ∷ h)) (orders eq settings h)))
        ∙ sym (held-append eq settings k after)
        ∙ held-orders eq settings laws k (Maintained None at ∷ h)

    -- so it is live
    pub maintained-live : (h : List (Event K V)) (at : ℕ) (k : K) (w : Write K V) → standing eq settings k (Maintained None at ∷ h) ≡ Some w → is_live settings w (latest (Maintained None at ∷ h)) ≡ true
    maintained-live h at k w stands =
        let now : ℕ = latest (Maintained None at ∷ h) in
        let live : Write K V → Type 0 = λ u. is_live settings u now ≡ true in
        let admitted : List (Write K V) = (orders eq settings (Maintained None at ∷ h)).admitted in
        let all : All live (writes_of eq k admitted) = All-filter (λ (u : Write K V). eq u.key k) live admitted (All-live-after weight_of settings.max_capacity (λ (u : Write K V). is_live settings u now) (wins settings (frequency settings h)) (orders eq settings h)) in
        All-head live w [] (subst (All live) (maintained-held h at k ∙ ap option_to_list stands) all)

  -- in an event that is no write no more come to wait,
  waiting-no_write : (e : Event K V) → IsNoWrite e → (h : List (Event K V)) → length (orders eq settings (e ∷ h)).waiting ≤ length (orders eq settings h).waiting
  waiting-no_write (Looked k at) other h =
      let same = length-map (orders eq settings h).waiting (λ (w : Write K V). if is_hit eq settings k (latest (Looked k at ∷ h)) w then after_look settings (latest (Looked k at ∷ h)) w else w) in
      omega arith
  waiting-no_write (TurnedDown k at) other h = omega arith
  waiting-no_write (Written k v at) other h = absurd other
  waiting-no_write (Invalidated k at) other h = length-filter-le (λ (w : Write K V). not (eq w.key k)) (orders eq settings h).waiting
  waiting-no_write (Hidden test) other h = let same = length-map (orders eq settings h).waiting (hidden_by test) in omega arith
  waiting-no_write (Maintained limit at) other h = waiting-within-le weight_of settings.max_capacity (λ (w : Write K V). is_live settings w (latest (Maintained limit at ∷ h))) (wins settings (frequency settings h)) limit (orders eq settings h)
  waiting-no_write (Passed at) other h = omega arith
  waiting-no_write Drawn other h = omega arith
  waiting-no_write Taken other h = omega arith

  -- and in a write one more
  waiting-written : (k : K) (v : V) (at : ℕ) (h : List (Event K V)) → length (orders eq settings (Written k v at ∷ h)).waiting ≤ length (orders eq settings h).waiting + 1
  waiting-written k v at h =
      let now : ℕ = latest (Written k v at ∷ h) in
      let q : Queues (Write K V) = orders eq settings h in
      let change : Write K V → Write K V = overwrite eq settings k v now in
      let same : length (changed_where (is_of eq settings k) change q.waiting) ≡ length q.waiting = length-map q.waiting (λ (w : Write K V). if is_of eq settings k w then change w else w) in
      let one = length-opened_by-le (opening eq settings k v now) (writes_of eq k (q.admitted ++ q.waiting)) (used_where eq settings (is_of eq settings k) change q) in
      omega arith

  module _ (whole : settings.flush_limit ≡ None) where
    -- behind a flush without a limit, if one is due, fewer wait than the flush point says
    waiting-flush : (at : ℕ) (h : List (Event K V)) → length (orders eq settings (flush eq settings at h ++ h)).waiting < flush_point
    waiting-flush at h =
        cond_both (is_flush_due eq settings h) (Maintained settings.flush_limit at ∷ []) [] (λ events. length (orders eq settings (events ++ h)).waiting < flush_point)
        (λ _. subst (λ limit. length (orders eq settings (Maintained limit at ∷ h)).waiting < flush_point) (sym whole)
        (let none = ap length (maintained-none_waits eq settings (frequency settings h) (latest (Maintained None at ∷ h)) (orders eq settings h)) in omega arith))
        (λ few. leb-false 64 (length (orders eq settings h).waiting) few)

    -- so no more wait than that after a legal list
    pub waiting-le : {E : Type 0} (steps : List (AcceptedStep K V E)) → IsLegal eq settings steps → length (orders eq settings (events_in steps)).waiting ≤ flush_point
    waiting-le =
        legal-by_events eq settings (λ h. length (orders eq settings h).waiting ≤ flush_point) (omega arith)
        (λ e other h before. let fewer = waiting-no_write e other h in omega arith)
        (λ k v at h stores before. let few = waiting-flush at h in let more = waiting-written k v at (flush eq settings at h ++ h) in omega arith)

  module _ (ones : WeighsOnes settings) where
    -- where each weighs one, so does each that stands
    pub each_one : (h : List (Event K V)) → All (λ (w : Write K V). w.policy_weight ≡ 1) (orders eq settings h).admitted × All (λ (w : Write K V). w.policy_weight ≡ 1) (orders eq settings h).waiting
    each_one h = orders-hold eq settings (λ w. w.policy_weight ≡ 1) (λ k v at. ones k v) (λ k v at w _. ones k v) (λ at w one. one) (λ test w one. one) h

    -- so no more stand after a maintenance than the capacity allows,
    pub maintained-entry_count-le : (h : List (Event K V)) (at capacity : ℕ) → settings.max_capacity ≡ Some capacity → entry_count eq settings (Maintained None at ∷ h) ≤ capacity
    maintained-entry_count-le h at capacity e =
        let after : Queues (Write K V) = orders eq settings (Maintained None at ∷ h) in
        let each = each_one (Maintained None at ∷ h) in
        let within = maintained-weighted_size-le h at capacity e in
        let counted = total-each_one weight_of (after.admitted ++ after.waiting) (All-append (λ (w : Write K V). w.policy_weight ≡ 1) after.admitted after.waiting each.0 each.1) in
        omega arith

    -- where no more were admitted than the capacity allows, a maintenance within any limit leaves it so
    admitted-maintained-le : (limit : Option ℕ) (at : ℕ) (h : List (Event K V)) (capacity : ℕ) → settings.max_capacity ≡ Some capacity → length (orders eq settings h).admitted ≤ capacity → length (orders eq settings (Maintained limit at ∷ h)).admitted ≤ capacity
    admitted-maintained-le limit at h capacity e before =
        let q : Queues (Write K V) = orders eq settings h in
        let light : total weight_of q.admitted ≡ length q.admitted = total-each_one weight_of q.admitted (each_one h).0 in
        let lives : Write K V → Bool = λ (w : Write K V). is_live settings w (latest (Maintained limit at ∷ h)) in
        let stays : Option ℕ → List (Write K V) = λ m. (after_parts q (done limit (parts weight_of m lives (wins settings (frequency settings h)) q))).admitted in
        let bound : total weight_of (stays (Some capacity)) ≤ capacity = admitted-within-le weight_of capacity lives (wins settings (frequency settings h)) limit q (omega arith) in
        let here : total weight_of (stays settings.max_capacity) ≤ capacity = subst (λ m. total weight_of (stays m) ≤ capacity) (sym e) bound in
        let counted = total-each_one weight_of (stays settings.max_capacity) (each_one (Maintained limit at ∷ h)).0 in
        omega arith

    -- so no more are ever admitted
    pub admitted-le : (h : List (Event K V)) (capacity : ℕ) → settings.max_capacity ≡ Some capacity → length (orders eq settings h).admitted ≤ capacity
    admitted-le [] capacity e = omega arith
    admitted-le (Looked k at ∷ h) capacity e =
        let before = admitted-le h capacity e in
        let same = length-moved_last (is_hit eq settings k (latest (Looked k at ∷ h))) (after_look settings (latest (Looked k at ∷ h))) (orders eq settings h).admitted in
        omega arith
    admitted-le (TurnedDown k at ∷ h) capacity e = admitted-le h capacity e
    admitted-le (Written k v at ∷ h) capacity e = admitted-written_in (latest (Written k v at ∷ h)) (orders eq settings h) (admitted-le h capacity e)
      where
        admitted-written_in : (now : ℕ) (q : Queues (Write K V)) → length q.admitted ≤ capacity → length (written_in eq settings k v now q).admitted ≤ capacity
        admitted-written_in now q before =
            let change : Write K V → Write K V = overwrite eq settings k v now in
            let still : (written_in eq settings k v now q).admitted ≡ moved_last (is_of eq settings k) change q.admitted = admitted-opened_by (opening eq settings k v now) (writes_of eq k (q.admitted ++ q.waiting)) (used_where eq settings (is_of eq settings k) change q) in
            let long = ap length still in
            let same = length-moved_last (is_of eq settings k) change q.admitted in
            omega arith
    admitted-le (Invalidated k at ∷ h) capacity e =
        let before = admitted-le h capacity e in
        let fewer = length-filter-le (λ (w : Write K V). not (eq w.key k)) (orders eq settings h).admitted in
        omega arith
    admitted-le (Hidden test ∷ h) capacity e =
        let before = admitted-le h capacity e in
        let same = length-map (orders eq settings h).admitted (hidden_by test) in
        omega arith
    admitted-le (Maintained limit at ∷ h) capacity e = admitted-maintained-le limit at h capacity e (admitted-le h capacity e)
    admitted-le (Passed at ∷ h) capacity e = admitted-le h capacity e
    admitted-le (Drawn ∷ h) capacity e = admitted-le h capacity e
    admitted-le (Taken ∷ h) capacity e = admitted-le h capacity e

    -- what leaves in a maintenance and what stands after it are as many as stood before it
    stand-maintained : (limit : Option ℕ) (at : ℕ) (h : List (Event K V)) → length (evicted_at eq settings limit at h) + entry_count eq settings (Maintained limit at ∷ h) ≡ entry_count eq settings h
    stand-maintained limit at h =
        let q : Queues (Write K V) = orders eq settings h in
        let lives : Write K V → Bool = λ (w : Write K V). is_live settings w (latest (Maintained limit at ∷ h)) in
        let all = count-maintenance (λ _. true) weight_of settings.max_capacity lives (wins settings (frequency settings h)) limit q in
        let a = ap length (all-pass (evicted_at eq settings limit at h)) in
        let b = ap length (all-pass ((orders eq settings (Maintained limit at ∷ h)).admitted ++ (orders eq settings (Maintained limit at ∷ h)).waiting)) in
        let c = ap length (all-pass (q.admitted ++ q.waiting)) in
        omega (arith, all, a, b, c)

    -- no more stand after an event that is no write,
    stand-no_write : (e : Event K V) → IsNoWrite e → (h : List (Event K V)) → entry_count eq settings (e ∷ h) ≤ entry_count eq settings h
    stand-no_write (Looked k at) other h =
        let q : Queues (Write K V) = orders eq settings h in
        let now : ℕ = latest (Looked k at ∷ h) in
        let after : Queues (Write K V) = orders eq settings (Looked k at ∷ h) in
        let a : length after.admitted ≡ length q.admitted = length-moved_last (is_hit eq settings k now) (after_look settings now) q.admitted in
        let w : length after.waiting ≡ length q.waiting = length-map q.waiting (λ (w : Write K V). if is_hit eq settings k now w then after_look settings now w else w) in
        let both = length-append q.admitted q.waiting in
        let both' = length-append after.admitted after.waiting in
        omega (arith, a, w, both, both')
    stand-no_write (TurnedDown k at) other h = omega arith
    stand-no_write (Written k v at) other h = absurd other
    stand-no_write (Invalidated k at) other h =
        let q : Queues (Write K V) = orders eq settings h in
        let after : Queues (Write K V) = orders eq settings (Invalidated k at ∷ h) in
        let a : length after.admitted ≤ length q.admitted = length-filter-le (λ (w : Write K V). not (eq w.key k)) q.admitted in
        let w : length after.waiting ≤ length q.waiting = length-filter-le (λ (w : Write K V). not (eq w.key k)) q.waiting in
        let both = length-append q.admitted q.waiting in
        let both' = length-append after.admitted after.waiting in
        omega (arith, a, w, both, both')
    stand-no_write (Hidden test) other h =
        let q : Queues (Write K V) = orders eq settings h in
        let after : Queues (Write K V) = orders eq settings (Hidden test ∷ h) in
        let a : length after.admitted ≡ length q.admitted = length-map q.admitted (hidden_by test) in
        let w : length after.waiting ≡ length q.waiting = length-map q.waiting (hidden_by test) in
        let both = length-append q.admitted q.waiting in
        let both' = length-append after.admitted after.waiting in
        omega (arith, a, w, both, both')
    stand-no_write (Maintained limit at) other h = let all = stand-maintained limit at h in omega (arith, all)
    stand-no_write (Passed at) other h = omega arith
    stand-no_write Drawn other h = omega arith
    stand-no_write Taken other h = omega arith

    -- and one more after a write
    stand-written : (k : K) (v : V) (at : ℕ) (h : List (Event K V)) → entry_count eq settings (Written k v at ∷ h) ≤ entry_count eq settings h + 1
    stand-written k v at h =
        let now : ℕ = latest (Written k v at ∷ h) in
        let q : Queues (Write K V) = orders eq settings h in
        let after : Queues (Write K V) = orders eq settings (Written k v at ∷ h) in
        let change : Write K V → Write K V = overwrite eq settings k v now in
        let still : after.admitted ≡ moved_last (is_of eq settings k) change q.admitted = admitted-opened_by (opening eq settings k v now) (writes_of eq k (q.admitted ++ q.waiting)) (used_where eq settings (is_of eq settings k) change q) in
        let a : length after.admitted ≡ length q.admitted = ap length still ∙ length-moved_last (is_of eq settings k) change q.admitted in
        let w = waiting-written k v at h in
        let both = length-append q.admitted q.waiting in
        let both' = length-append after.admitted after.waiting in
        omega (arith, a, w, both, both')

    -- behind a maintenance that is due, within a limit that is not 0, one more has room
    stand-limited : (limit : Option ℕ) → LimitsSome limit → (at : ℕ) (h : List (Event K V)) (capacity : ℕ) → settings.max_capacity ≡ Some capacity → entry_count eq settings h ≤ capacity + flush_point
        → entry_count eq settings (Maintained limit at ∷ h) < capacity + flush_point
    stand-limited None some at h capacity e before = let few = maintained-entry_count-le h at capacity e in omega (arith, few)
    stand-limited (Some limit) some at h capacity e before =
        let q : Queues (Write K V) = orders eq settings h in
        let lives : Write K V → Bool = λ (w : Write K V). is_live settings w (latest (Maintained (Some limit) at ∷ h)) in
        let each = each_one h in
        ⊎_elim
        (λ whole.
        let same : entry_count eq settings (Maintained (Some limit) at ∷ h) ≡ entry_count eq settings (Maintained None at ∷ h) = ap (λ ps. let after : Queues (Write K V) = after_parts q ps in length (after.admitted ++ after.waiting)) whole in
        let few = maintained-entry_count-le h at capacity e in
        omega (arith, same, few))
        (λ less. let all = stand-maintained (Some limit) at h in omega (arith, all, less, before))
        (one-leaves weight_of settings.max_capacity lives (wins settings (frequency settings h)) q each.0 each.1 limit some)

    -- behind a flush, if one is due, one more has room
    stand-flush : LimitsSome settings.flush_limit → (at : ℕ) (h : List (Event K V)) (capacity : ℕ) → settings.max_capacity ≡ Some capacity → entry_count eq settings h ≤ capacity + flush_point
        → entry_count eq settings (flush eq settings at h ++ h) < capacity + flush_point
    stand-flush some at h capacity e before =
        cond_both (is_flush_due eq settings h) (Maintained settings.flush_limit at ∷ []) [] (λ events. entry_count eq settings (events ++ h) < capacity + flush_point)
        (λ _. stand-limited settings.flush_limit some at h capacity e before)
        (λ few.
        let waits = leb-false 64 (length (orders eq settings h).waiting) few in
        let admits = admitted-le h capacity e in
        let both = length-append (orders eq settings h).admitted (orders eq settings h).waiting in
        omega (arith, waits, admits, both))

    -- so no more stand after a legal list than the capacity and the flush point together
    pub entry_count-le : {E : Type 0} → LimitsSome settings.flush_limit → (steps : List (AcceptedStep K V E)) (capacity : ℕ) → settings.max_capacity ≡ Some capacity → IsLegal eq settings steps → entry_count eq settings (events_in steps) ≤ capacity + flush_point
    entry_count-le some steps capacity e legal =
        legal-by_events eq settings (λ h. entry_count eq settings h ≤ capacity + flush_point) (omega arith)
        (λ event other h before. let fewer = stand-no_write event other h in omega (arith, fewer, before))
        (λ k v at h stores before. let room = stand-flush some at h capacity e before in let more = stand-written k v at (flush eq settings at h ++ h) in omega (arith, room, more))
        steps legal

-- What a cache of capacity 0 comes to, over every legal list.
module _ {K V : Type 0} (eq : K → K → Bool) (settings : Settings K V) where
  -- nothing is in either order, for no key stands anything, nothing leaves, and no number is drawn by a write
  abbrev IsEmpty : List (Event K V) → Type 0
  IsEmpty h = (orders eq settings h ≡ record { admitted = []; waiting = [] }) × ((k : K) → standing eq settings k h ≡ None) × (removals eq settings h ≡ [])

  nothing_maintained : (frequency_of : ℕ → ℕ) (limit : Option ℕ) (at : ℕ) → maintained settings frequency_of limit at (record { admitted = []; waiting = [] }) ≡ record { admitted = []; waiting = [] }
  nothing_maintained frequency_of None at = refl
  nothing_maintained frequency_of (Some limit) at = refl

  nothing_evicted : (frequency_of : ℕ → ℕ) (limit : Option ℕ) (at : ℕ) → evicted settings frequency_of limit at (record { admitted = []; waiting = [] }) ≡ []
  nothing_evicted frequency_of None at = refl
  nothing_evicted frequency_of (Some limit) at = refl

  empty-no_write : (e : Event K V) → IsNoWrite e → (h : List (Event K V)) → IsEmpty h → IsEmpty (e ∷ h)
  empty-no_write (Looked k at) other h is = (rw (is.0) refl, λ q. cond_both (eq k q) _ _ (λ o. o ≡ None) (λ _. rw (is.1 q) refl) (λ _. is.1 q), rw (is.2) refl)
  empty-no_write (TurnedDown k at) other h is = (is.0, is.1, rw (is.2) refl)
  empty-no_write (Written k v at) other h is = absurd other
  empty-no_write (Invalidated k at) other h is = (rw (is.0) refl, λ q. cond_both (eq k q) None (standing eq settings q h) (λ o. o ≡ None) (λ _. refl) (λ _. is.1 q), rw (is.2, is.1 k) refl)
  empty-no_write (Hidden test) other h is = (rw (is.0) refl, λ q. ap (option_map (hidden_by test)) (is.1 q), rw (is.2) refl)
  empty-no_write (Maintained limit at) other h is = (
    ap (maintained settings (frequency settings h) limit (latest (Maintained limit at ∷ h))) (is.0) ∙ nothing_maintained (frequency settings h) limit (latest (Maintained limit at ∷ h)),
    λ q. cond_both (is_evicted eq settings q limit at h) None (standing eq settings q h) (λ o. o ≡ None) (λ _. refl) (λ _. is.1 q),
    ap (λ l. l ++ removals_at eq settings (Maintained limit at) h) is.2
        ∙ ap (λ q. map (removal_of settings Size (latest (Maintained limit at ∷ h))) (evicted settings (frequency settings h) limit (latest (Maintained limit at ∷ h)) q)) is.0
        ∙ ap (map (removal_of settings Size (latest (Maintained limit at ∷ h)))) (nothing_evicted (frequency settings h) limit (latest (Maintained limit at ∷ h))),
  )
  empty-no_write (Passed at) other h is = (is.0, is.1, rw (is.2) refl)
  empty-no_write Drawn other h is = (is.0, is.1, rw (is.2) refl)
  empty-no_write Taken other h is = (is.0, is.1, rw (is.2) refl)

  module _ {E : Type 0} (none : stores_nothing settings.max_capacity ≡ true) where
    stays-empty : (steps : List (AcceptedStep K V E)) → IsLegal eq settings steps → IsEmpty (events_in steps)
    stays-empty =
        legal-by_events eq settings IsEmpty (refl, λ k. refl, refl) empty-no_write
        (λ k v at h stores is. let no : true ≡ false = sym none ∙ stores in absurd (no_true no))
      where
        no_true : true ≡ false → ⊥
        no_true e = cc

    -- nothing is in either order,
    pub orders-empty : (steps : List (AcceptedStep K V E)) → IsLegal eq settings steps → orders eq settings (events_in steps) ≡ record { admitted = []; waiting = [] }
    orders-empty steps legal = (stays-empty steps legal).0

    -- nothing stands,
    pub standing-empty : (k : K) (steps : List (AcceptedStep K V E)) → IsLegal eq settings steps → standing eq settings k (events_in steps) ≡ None
    standing-empty k steps legal = (stays-empty steps legal).1 k

    -- nothing leaves,
    pub removals-empty : (steps : List (AcceptedStep K V E)) → IsLegal eq settings steps → removals eq settings (events_in steps) ≡ []
    removals-empty steps legal = (stays-empty steps legal).2
