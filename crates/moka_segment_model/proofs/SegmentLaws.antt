-- The proofs of the laws of segments.
use Rattle.std.proofs.Common.{◌≡◌, ◌≢◌, ℕ, zero, suc, ◌+◌, ◌-◌, ◌*◌, ◌/◌, ◌<◌, ◌^◌, ◌==◌, min, Bool, true, false, not, ◌&&◌, ◌||◌, cond, Option, Some, None, List, [], ◌∷◌, ◌++◌, length, filter, option_map, refl, sym, ap, ◌∙◌, ⊎_elim, arith, add_comm}
use Rattle.std.specs.Cmp.{IsEquivalence}
use Rattle.std.proofs.Math.Nat.{div-eq_of_lt, div-lt_iff_lt-mul, div-one}
use Rattle.std.proofs.lemmas.Nat.{pow_pos}
use Rattle.std.proofs.lemmas.Bool.Decides.{eqb_tells}
use Rattle.std.specs.List.{AllByRecursion}
use Rattle.moka_model.specs.Lives.{Settings, Write}
use Rattle.moka_model.specs.Maintenance.{Queues}
use Rattle.moka_model.specs.MaintenanceLaws.{count, everything}
use Rattle.moka_model.specs.Events.{Event, Written, Passed, Maintained}
use Rattle.moka_model.specs.Numbers.{entry_count, weighted_size, greatest_number, stores_nothing, is_flush_due, all_standing}
use Rattle.moka_model.specs.Orders.{orders, is_left_at}
use Rattle.moka_model.specs.Removals.{notices_left}
use Rattle.moka_model.specs.Steps.{AcceptedStep, events_in}
use Rattle.moka_model.specs.Calls.{Call, Insert, RunPendingTasksUpTo, EntryCount, WeightedSize, TakeNotice, Reply, Counted, Left, accepted, reply_of, after, IsLegal}
use Rattle.moka_model.proofs.Callers.{IsLegal-after}
use Rattle.moka_model.specs.Conserved.{SeesKeysAlike, count_written, count_standing, count_left, given_out}
use Rattle.moka_model.proofs.Callers.{is_conserved}
use Rattle.moka_segment_model.specs.Segments.{SegmentedSettings, segments_of, share, share_settings, segment_of, segment_of_key, place_of_key, key_in, One, goes_to, at_first, segment_of_place, place_of, first_with_notice, list_of, steps_after, steps_in, events_of, sum_below, any_below, joint_in, reply_by, reply_in}
use Rattle.moka_segment_model.specs.SegmentLaws.{events_by, accepted_in, pairs_written, pairs_standing, pairs_waiting, pairs_given}
use Rattle.moka_segment_model.proofs.Lists.{segment-within, eqb_refl}
use Rattle.moka_segment_model.proofs.Counts.{sum_below-same, sum_below-zeros, first_from-passes}
use Rattle.moka_segment_model.proofs.Standing.{steps-here, steps-apart, routed}
use Rattle.moka_segment_model.proofs.Writes.{uncounted, written-after, uncounted-call, keyless-none}

-- what calls give is legal
pub legal-calls : {K V : Type 0} (E : Type 0) (eq : K → K → Bool) (settings : Settings K V) (calls : List (Call K V E)) → IsLegal {E = E} eq settings (steps_after eq settings calls)
legal-calls E eq settings [] = tt
legal-calls E eq settings (call ∷ calls) = IsLegal-after eq settings call (steps_after eq settings calls) (legal-calls E eq settings calls)

-- a sum in which one is greater
pub sum_below-one : (f g : ℕ → ℕ) (n j more : ℕ) → j < n → g j ≡ f j + more → ((i : ℕ) → (i == j) ≡ false → g i ≡ f i) → sum_below g n ≡ sum_below f n + more
sum_below-one f g zero j more lt here others = absurd (let no : ⊥ = omega (arith, lt) in no)
sum_below-one f g (suc n) j more lt here others =
    ⊎_elim
    (λ same.
    let below : sum_below g n ≡ sum_below f n = sum_below-same g f n (λ i below. others i (apart i below same.1)) in
    let it : g n ≡ f n + more = ap g same.1 ∙ here ∙ ap (λ i. f i + more) (sym same.1) in
    omega (arith, below, it))
    (λ other.
    let below = sum_below-one f g n j more (less other.1) here others in
    let it = others n other.0 in
    omega (arith, below, it))
    (eqb_tells n j)
  where
    less : n ≢ j → j < n
    less ne = omega (arith, lt, ne)

    apart : (i : ℕ) → i < n → n ≡ j → (i == j) ≡ false
    apart i below e = ⊎_elim (λ same. absurd (let no : ⊥ = omega (arith, below, e, same.1) in no)) (λ other. other.0) (eqb_tells i j)

sum_below-plus : (f g h : ℕ → ℕ) (n : ℕ) → sum_below (λ i. f i + (g i + h i)) n ≡ sum_below f n + (sum_below g n + sum_below h n)
sum_below-plus f g h zero = refl
sum_below-plus f g h (suc n) = let before = sum_below-plus f g h n in omega (arith, before)

-- nothing more is the same
pub none-more : (n m : ℕ) → n ≡ 0 → n + m ≡ m
none-more n m none = omega (arith, none)

-- the share of nothing is nothing, and of no other whole
pub share-nothing : (segments : ℕ) → 0 < segments → (c : Option ℕ) → stores_nothing (option_map (share segments) c) ≡ stores_nothing c
share-nothing segments some None = refl
share-nothing segments some (Some c) = by c
  where
    share-some : (c : ℕ) → 0 < share segments (suc c)
    share-some c =
        let no : share segments (suc c) < 1 → suc c + (segments - 1) < 1 * segments = λ lt. (div-lt_iff_lt-mul {k = segments} {x = suc c + (segments - 1)} {y = 1} some).0 lt in
        ⊎_elim (λ same. absurd (let it = no (omega (arith, same.1)) in omega (arith, it, some))) (λ other. omega (arith, other.1)) (eqb_tells (share segments (suc c)) 0)

    unlike : (n : ℕ) → 0 < n → (n == 0) ≡ false
    unlike n more = ⊎_elim (λ same. absurd (let no : ⊥ = omega (arith, more, same.1) in no)) (λ other. other.0) (eqb_tells n 0)

    by : (c : ℕ) → (share segments c == 0) ≡ (c == 0)
    by zero = ap (λ n. n == 0) (div-eq_of_lt {n = 0 + (segments - 1)} {m = segments} (let few : 0 + (segments - 1) < segments = omega (arith, some) in few))
    by (suc c) = unlike (share segments (suc c)) (share-some c) ∙ sym (unlike (suc c) (omega arith))

module _ {K V : Type 0} (E : Type 0) (eq : K → K → Bool) (given : SegmentedSettings K V) (test : K → V → Bool) where
  abbrev written-of : List (Call K V E) → ℕ → ℕ
  written-of calls i = count_written test (events_of E eq given calls i)

  -- what a call writes, in the segment of the call
  abbrev added : List (Call K V E) → Call K V E → ℕ
  added calls call = count_written test (events_by (accepted_in E eq given calls call))

  -- a call that writes nothing adds no pair, wherever it goes
  written-same : (call : Call K V E) (calls : List (Call K V E)) → key_in call ≡ None
      → sum_below (written-of (call ∷ calls)) (segments_of given) ≡ added calls call + sum_below (written-of calls) (segments_of given)
  written-same call calls e =
      sum_below-same (written-of (call ∷ calls)) (written-of calls) (segments_of given) (λ i lt. by i (goes_to i (place_of E eq given calls call)))
      ∙ sym (none-more _ (sum_below (written-of calls) (segments_of given)) (keyless-none eq (share_settings given) (steps_in E eq given calls (segment_of_place (place_of E eq given calls call))) test call e))
    where
      by : (i : ℕ) (b : Bool) → count_written test (events_in (steps_after {E = E} eq (share_settings given) (cond b (call ∷ list_of E eq given calls i) (list_of E eq given calls i)))) ≡ written-of calls i
      by i true =
          written-after test (accepted eq (share_settings given) (steps_in E eq given calls i) call) (steps_in E eq given calls i)
          ∙ none-more _ (written-of calls i) (keyless-none eq (share_settings given) (steps_in E eq given calls i) test call e)
      by i false = refl

  -- what a call under another key writes is not counted
  pub added-none : (call : Call K V E) (calls : List (Call K V E)) → ((k : K) (v : V) → key_in call ≡ Some k → test k v ≡ false) → added calls call ≡ 0
  added-none call calls fails =
      uncounted test (events_by (accepted_in E eq given calls call))
      (uncounted-call eq (share_settings given) (steps_in E eq given calls (segment_of_place (place_of E eq given calls call))) test call fails)

  -- an insert writes its pair where something is stored
  pub added-insert : (k : K) (v : V) (at : ℕ) (calls : List (Call K V E)) → added calls (Insert k v at) ≡ cond (not (stores_nothing given.whole.max_capacity) && test k v) 1 0
  added-insert k v at calls =
      by (stores_nothing (share_settings given).max_capacity) (is_flush_due eq (share_settings given) (events_of E eq given calls (segment_of_key given k)))
      ∙ ap (λ b. cond (not b && test k v) 1 0) (share-nothing (segments_of given) (pow_pos given.bits) given.whole.max_capacity)
    where
      by : (nothing due : Bool) → count_written test (cond nothing (Passed at ∷ []) (Written k v at ∷ cond due (Maintained given.whole.flush_limit at ∷ []) [])) ≡ cond (not nothing && test k v) 1 0
      by true due = refl
      by false true = refl
      by false false = refl

  module _ (few : given.bits < 64) (fits : (k : K) → given.whole.behaviour.hash k < 2 ^ 64) where
    -- each pair is written in one segment
    written-keyed : (call : Call K V E) (calls : List (Call K V E)) (k : K) → key_in call ≡ Some k
        → sum_below (written-of (call ∷ calls)) (segments_of given) ≡ added calls call + sum_below (written-of calls) (segments_of given)
    written-keyed call calls k e =
        sum_below-one (written-of calls) (written-of (call ∷ calls)) (segments_of given) j (added calls call)
        (segment-within given.bits (given.whole.behaviour.hash k) few (fits k)) here
        (λ i other. ap (λ steps. count_written test (events_in steps)) (steps-apart E eq given calls call i (One j) place other))
        ∙ add_comm (sum_below (written-of calls) (segments_of given)) (added calls call)
      where
        j : ℕ
        j = segment_of_key given k

        place : place_of E eq given calls call ≡ One j
        place = (routed E eq given k call calls e).place

        here : written-of (call ∷ calls) j ≡ written-of calls j + added calls call
        here =
            ap (λ steps. count_written test (events_in steps)) (steps-here E eq given calls call j (One j) place (eqb_refl j))
            ∙ written-after test (accepted eq (share_settings given) (steps_in E eq given calls j) call) (steps_in E eq given calls j)
            ∙ ap (λ p. count_written test (events_by (accepted eq (share_settings given) (steps_in E eq given calls (segment_of_place p)) call)) + written-of calls j) (sym place)
            ∙ add_comm (added calls call) (written-of calls j)

    written-one : (call : Call K V E) (calls : List (Call K V E))
        → sum_below (written-of (call ∷ calls)) (segments_of given) ≡ added calls call + sum_below (written-of calls) (segments_of given)
    written-one call calls = by (key_in call) refl
      where
        by : (o : Option K) → key_in call ≡ o → sum_below (written-of (call ∷ calls)) (segments_of given) ≡ added calls call + sum_below (written-of calls) (segments_of given)
        by None e = written-same call calls e
        by (Some k) e = written-keyed call calls k e

    written-in : (calls : List (Call K V E)) → sum_below (written-of calls) (segments_of given) ≡ pairs_written E eq given test calls
    written-in [] = sum_below-zeros (written-of []) (segments_of given) (λ i lt. refl)
    written-in (call ∷ calls) = written-one call calls ∙ ap (λ n. added calls call + n) (written-in calls)

    -- so nothing is lost or doubled over all segments
    pub pairs-conserved : IsEquivalence eq → SeesKeysAlike eq test → (calls : List (Call K V E))
        → pairs_written E eq given test calls ≡ pairs_standing E eq given test calls + (pairs_waiting E eq given test calls + pairs_given E eq given test calls)
    pairs-conserved laws alike calls =
        let standing_of : ℕ → ℕ = λ i. count_standing test (orders eq (share_settings given) (events_of E eq given calls i)) in
        let waiting_of : ℕ → ℕ = λ i. count_left test (notices_left eq (share_settings given) (events_of E eq given calls i)) in
        let given_of : ℕ → ℕ = λ i. count_left test (given_out eq (share_settings given) (events_of E eq given calls i)) in
        sym (written-in calls)
        ∙ sum_below-same (written-of calls) (λ i. standing_of i + (waiting_of i + given_of i)) (segments_of given) (λ i lt. (is_conserved eq (share_settings given) laws (events_of E eq given calls i)).pairs test alike)
        ∙ sum_below-plus standing_of waiting_of given_of (segments_of given)

-- where nothing passes a test, each fails it
count-none : {X : Type 0} (test : X → Bool) (xs : List X) → count test xs ≡ 0 → AllByRecursion (λ x. test x ≡ false) xs
count-none test [] none = tt
count-none test (x ∷ xs) none = by (λ fails. count-none test xs (sym (ap counted fails) ∙ none)) (test x) refl
  where
    counted : Bool → ℕ
    counted b = length (cond b (x ∷ filter test xs) (filter test xs))

    by : (test x ≡ false → AllByRecursion (λ x. test x ≡ false) xs) → (b : Bool) → test x ≡ b → AllByRecursion (λ x. test x ≡ false) (x ∷ xs)
    by rest true e = absurd (let more : suc (count test xs) ≡ 0 = sym (ap counted e) ∙ none in omega (arith, more))
    by rest false e = (e, rest e)

module _ {K V : Type 0} (E : Type 0) (eq : K → K → Bool) (given : SegmentedSettings K V) (i : ℕ) where
  -- whether a pair's key is of another segment
  abbrev elsewhere : K → V → Bool
  elsewhere k v = not (i == segment_of_key given k)

  abbrev from_elsewhere : List (Call K V E) → ℕ
  from_elsewhere calls = count_written elsewhere (events_of E eq given calls i)

  -- no call adds one, since it goes to the segment of its key alone
  adds-none : (call : Call K V E) (calls : List (Call K V E)) → from_elsewhere (call ∷ calls) ≡ from_elsewhere calls
  adds-none call calls = by (goes_to i (place_of E eq given calls call)) refl
    where
      fails : goes_to i (place_of E eq given calls call) ≡ true → (k : K) (v : V) → key_in call ≡ Some k → elsewhere k v ≡ false
      fails here k v e = ap not (sym (ap (goes_to i) (routed E eq given k call calls e).place) ∙ here)

      by : (b : Bool) → goes_to i (place_of E eq given calls call) ≡ b
          → count_written elsewhere (events_in (steps_after {E = E} eq (share_settings given) (cond b (call ∷ list_of E eq given calls i) (list_of E eq given calls i)))) ≡ from_elsewhere calls
      by true here =
          written-after elsewhere (accepted eq (share_settings given) (steps_in E eq given calls i) call) (steps_in E eq given calls i)
          ∙ none-more _ (from_elsewhere calls)
          (uncounted elsewhere (events_by (accepted eq (share_settings given) (steps_in E eq given calls i) call)) (uncounted-call eq (share_settings given) (steps_in E eq given calls i) elsewhere call (fails here)))
      by false here = refl

  none-elsewhere : (calls : List (Call K V E)) → from_elsewhere calls ≡ 0
  none-elsewhere [] = refl
  none-elsewhere (call ∷ calls) = adds-none call calls ∙ none-elsewhere calls

  -- so what stands in a segment is of keys of that segment
  pub stands-at-home : IsEquivalence eq → ((k q : K) → eq k q ≡ true → given.whole.behaviour.hash k ≡ given.whole.behaviour.hash q) → (calls : List (Call K V E))
      → AllByRecursion (λ (w : Write K V). segment_of_key given w.key ≡ i) (all_standing eq (share_settings given) (events_of E eq given calls i))
  stands-at-home laws alike calls = at (everything q) (count-none (λ (w : Write K V). elsewhere w.key w.value) (everything q) none)
    where
      q : Queues (Write K V)
      q = orders eq (share_settings given) (events_of E eq given calls i)

      sees : SeesKeysAlike eq elsewhere
      sees a b v same = ap (λ hash. not (i == segment_of given.bits hash)) (alike a b same)

      none : count_standing elsewhere q ≡ 0
      none = let all = (is_conserved eq (share_settings given) laws (events_of E eq given calls i)).pairs elsewhere sees in omega (arith, all, none-elsewhere calls)

      here : (k : K) → not (i == segment_of_key given k) ≡ false → segment_of_key given k ≡ i
      here k e = ⊎_elim (λ same. sym same.1) (λ other. let no : not (i == segment_of_key given k) ≡ true = ap not other.0 in let wrong : true ≡ false = sym no ∙ e in cc) (eqb_tells i (segment_of_key given k))

      at : (ws : List (Write K V)) → AllByRecursion (λ w. elsewhere w.key w.value ≡ false) ws → AllByRecursion (λ (w : Write K V). segment_of_key given w.key ≡ i) ws
      at [] all = tt
      at (w ∷ ws) all = (here w.key all.0, at ws all.1)

-- where any number passes a test so does the whole, and where none does it does not
pub any_below-some : (test : ℕ → Bool) (n i : ℕ) → i < n → test i ≡ true → any_below test n ≡ true
any_below-some test zero i lt passes = absurd (let no : ⊥ = omega (arith, lt) in no)
any_below-some test (suc n) i lt passes =
    ⊎_elim (λ same. last (any_below test n) (ap test (sym same.1) ∙ passes)) (λ other. ap (λ b. b || test n) (any_below-some test n i (omega (arith, lt, other.1)) passes)) (eqb_tells i n)
  where
    last : (b : Bool) → test n ≡ true → (b || test n) ≡ true
    last true e = refl
    last false e = e

pub any_below-none : (test : ℕ → Bool) (n : ℕ) → ((i : ℕ) → i < n → test i ≡ false) → any_below test n ≡ false
any_below-none test zero none = refl
any_below-none test (suc n) none = ap (λ b. b || test n) (any_below-none test n (λ i lt. none i (omega (arith, lt)))) ∙ none n (omega arith)

pub any_below-same : (f g : ℕ → Bool) (n : ℕ) → ((i : ℕ) → i < n → f i ≡ g i) → any_below f n ≡ any_below g n
any_below-same f g zero same = refl
any_below-same f g (suc n) same =
    ap (λ b. b || f n) (any_below-same f g n (λ i lt. same i (omega (arith, lt)))) ∙ ap (λ b. any_below g n || b) (same n (omega arith))

module _ {K V : Type 0} (E : Type 0) (eq : K → K → Bool) (given : SegmentedSettings K V) (one : given.bits ≡ 0) where
  -- one segment has the settings of the whole
  pub alone-settings : share_settings given ≡ given.whole
  alone-settings = ap (λ (m : Option ℕ). let s : Settings K V = record given.whole { max_capacity = m } in s) (ap (λ b. option_map (share (2 ^ b)) given.whole.max_capacity) one ∙ wholes given.whole.max_capacity)
    where
      wholes : (m : Option ℕ) → option_map (share 1) m ≡ m
      wholes None = refl
      wholes (Some c) = ap Some (let all : c + (1 - 1) ≡ c = omega arith in ap (λ n. n / 1) all ∙ div-one c)

  alone-first : (o : Option ℕ) (lists : ℕ → List (Call K V E)) → first_with_notice E eq given lists ≡ o → segment_of_place (at_first o) ≡ 0
  alone-first None lists e = refl
  alone-first (Some i) lists e = let it = first_from-passes _ 0 (2 ^ given.bits) i e in let n : 2 ^ given.bits ≡ 1 = ap (λ b. 2 ^ b) one in omega (arith, it.0, n)

  module _ (fits : (k : K) → given.whole.behaviour.hash k < 2 ^ 64) where
    alone-key : (k : K) → segment_of_key given k ≡ 0
    alone-key k = ap (λ b. given.whole.behaviour.hash k / 2 ^ (64 - b)) one ∙ div-eq_of_lt (fits k)

    alone-place : (o : Option K) → segment_of_place (place_of_key given o) ≡ 0
    alone-place None = refl
    alone-place (Some k) = alone-key k

    alone-asked : (calls : List (Call K V E)) (call : Call K V E) → segment_of_place (place_of E eq given calls call) ≡ 0
    alone-asked calls EntryCount = refl
    alone-asked calls WeightedSize = refl
    alone-asked calls TakeNotice = alone-first (first_with_notice E eq given (list_of E eq given calls)) (list_of E eq given calls) refl
    alone-asked calls call = alone-place (key_in call)

    -- it returns what a cache does that was given its list
    alone-share : (calls : List (Call K V E)) (call : Call K V E) → reply_in E eq given calls call ≡ reply_by (joint_in E eq given calls call) (reply_of (accepted eq (share_settings given) (steps_in E eq given calls 0) call))
    alone-share calls call = ap (λ i. reply_by (joint_in E eq given calls call) (reply_of (accepted eq (share_settings given) (steps_in E eq given calls i) call))) (alone-asked calls call)

    alone-sum : (f : ℕ → ℕ) → sum_below f (segments_of given) ≡ f 0
    alone-sum f = ap (λ b. sum_below f (2 ^ b)) one ∙ (let all : 0 + f 0 ≡ f 0 = omega arith in all)

    alone-any : (f : ℕ → Bool) → any_below f (segments_of given) ≡ f 0
    alone-any f = ap (λ b. any_below f (2 ^ b)) one

    alone-here : (calls : List (Call K V E)) (call : Call K V E) → reply_by (joint_in E eq given calls call) (reply_of (accepted eq (share_settings given) (steps_in E eq given calls 0) call)) ≡ reply_of (accepted eq (share_settings given) (steps_in E eq given calls 0) call)
    alone-here calls (RunPendingTasksUpTo limit at) = ap (λ b. let a : Option (Reply K V E) = Some (Left b) in a) (alone-any (λ i. is_left_at eq (share_settings given) (Some limit) at (events_of E eq given calls i)))
    alone-here calls EntryCount = ap (λ n. let a : Option (Reply K V E) = Some (Counted (min n greatest_number)) in a) (alone-sum (λ i. entry_count eq (share_settings given) (events_of E eq given calls i)))
    alone-here calls WeightedSize = ap (λ n. let a : Option (Reply K V E) = Some (Counted (min n greatest_number)) in a) (alone-sum (λ i. weighted_size eq (share_settings given) (events_of E eq given calls i)))
    alone-here calls call = refl

    pub alone-replies : (calls : List (Call K V E)) (call : Call K V E) → reply_in E eq given calls call ≡ reply_of (accepted eq given.whole (steps_after eq given.whole (list_of E eq given calls 0)) call)
    alone-replies calls call =
        alone-share calls call ∙ alone-here calls call
        ∙ ap (λ s. reply_of (accepted eq s (steps_after {E = E} eq s (list_of E eq given calls 0)) call)) alone-settings
