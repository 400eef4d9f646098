-- A cache of several segments: where each call goes, which list of calls each segment has, and what is returned.
use Rattle.std.specs.Prelude.{◌≡◌, ◌==◌, ℕ, zero, suc, ◌+◌, ◌-◌, ◌/◌, ◌^◌, min, Bool, true, false, not, ◌||◌, if◌then◌else◌}
use Rattle.std.specs.Prelude.{Option, Some, None}
use Rattle.std.specs.Prelude.{IfSome, List, [], ◌∷◌, length, option_map, unwrap_or, nat_le, slice_get}
use Rattle.moka_model.specs.Lives.{Settings, Write}
use Rattle.moka_model.specs.Orders.{is_left_at}
use Rattle.moka_model.specs.Removals.{Removal, notices_left}
use Rattle.moka_model.specs.Numbers.{entry_count, weighted_size, greatest_number}
use Rattle.moka_model.specs.Events.{Event}
use Rattle.moka_model.specs.Steps.{AcceptedStep, events_in}
use Rattle.moka_model.specs.Calls.{Call, Get, ContainsKey, Insert, Invalidate, Remove, EntryCount, WeightedSize, TakeNotice}
use Rattle.moka_model.specs.Calls.{RunPendingTasksUpTo, OrInsert, Begin, BeginCompute, Finish, Abandon, Collect, Leave}
use Rattle.moka_model.specs.Calls.{Reply, Counted, Left, accepted, reply_of, after, live_at, IsCopiedReply}
use Rattle.moka_model.specs.StandsFor.{WholeView, StandsFor}

-- The segment of a hash, of 2 ^ bits segments: the number that the hash's highest bits are.
abbrev pub segment_of : ℕ → ℕ → ℕ
segment_of bits hash = hash / 2 ^ (64 - bits)

-- One segment's share of a whole: the least number that, times the number of segments, is at least the whole.
abbrev pub share : ℕ → ℕ → ℕ
share segments whole = (whole + (segments - 1)) / segments

-- What a cache of 2 ^ bits segments is built with: the settings of the whole.
pub record SegmentedSettings (K V : Type 0) : Type 0 where
  pub bits : ℕ
  pub whole : Settings K V

abbrev pub segments_of : {K V : Type 0} → SegmentedSettings K V → ℕ  -- how many segments it has
segments_of settings = 2 ^ settings.bits

-- What one segment is built with: the settings of the whole, with its share of the capacity.
abbrev pub share_settings : {K V : Type 0} → SegmentedSettings K V → Settings K V
share_settings settings =
    record settings.whole { max_capacity = option_map (share (segments_of settings)) settings.whole.max_capacity }

-- The key of a call, if it has one; for a call with a turn's name, the key of that name.
abbrev pub key_in : {K V E : Type 0} → Call K V E → Option K
key_in (Get k at) = Some k
key_in (ContainsKey k at) = Some k
key_in (Insert k v at) = Some k
key_in (Invalidate k at) = Some k
key_in (Remove k at) = Some k
key_in (OrInsert k v at) = Some k
key_in (Begin k kind replace at) = Some k
key_in (BeginCompute k keep at) = Some k
key_in (Finish name outcome at) = Some name.key
key_in (Abandon name) = Some name.key
key_in (Collect name) = Some name.key
key_in (Leave name) = Some name.key
key_in call = None

-- Where a call goes: to one segment, to each, or to none if it changes nothing.
pub data Place : Type 0 where
  One : ℕ → Place
  Each : Place
  Nowhere : Place

-- Whether a call with this place goes to a segment.
abbrev pub goes_to : ℕ → Place → Bool
goes_to i (One j) = i == j
goes_to i Each = true
goes_to i Nowhere = false

abbrev pub at_first : Option ℕ → Place  -- the place at a segment, if there is one
at_first None = Nowhere
at_first (Some i) = One i

-- The segment of a call. If a call goes to each or to none, all segments return the same, or they return something
-- together.
abbrev pub segment_of_place : Place → ℕ
segment_of_place (One i) = i
segment_of_place Each = 0
segment_of_place Nowhere = 0

-- What all segments return together: the total of a count, or whether any of them left a part of a maintenance undone.
pub data Joint : Type 0 where
  Total : ℕ → Joint
  AnyLeft : Bool → Joint

-- The reply to a call: what the segments return together or, for any other call, what is given.
abbrev pub reply_by : {K V E : Type 0} → Option Joint → Option (Reply K V E) → Option (Reply K V E)
reply_by (Some (Total total)) other = Some (Counted total)
reply_by (Some (AnyLeft left)) other = Some (Left left)
reply_by None other = other

-- The sum of a function over all numbers below another.
abbrev pub sum_below : (ℕ → ℕ) → ℕ → ℕ
sum_below f zero = 0
sum_below f (suc n) = sum_below f n + f n

-- Whether a test holds for any number below another.
abbrev pub any_below : (ℕ → Bool) → ℕ → Bool
any_below test zero = false
any_below test (suc n) = any_below test n || test n

-- The first of so many numbers, from `i` on, that passes a test.
abbrev pub first_from : (ℕ → Bool) → ℕ → ℕ → Option ℕ
first_from test i zero = None
first_from test i (suc more) = if test i then Some i else first_from test (suc i) more

-- Whether a list is empty.
abbrev pub is_empty : {X : Type 0} → List X → Bool
is_empty [] = true
is_empty (x ∷ xs) = false

-- How many bits of a hash choose one of so many segments: the fewest that name as many, and 63 at most.
abbrev pub bits_for : ℕ → ℕ
bits_for segments = unwrap_or (first_from (λ bits. nat_le segments (2 ^ bits)) 0 63) 63

-- The accepted steps that calls are, each after those before it.
abbrev pub steps_after : {K V E : Type 0} → (K → K → Bool) → Settings K V → List (Call K V E) → List (AcceptedStep K V E)
steps_after eq settings [] = []
steps_after eq settings (call ∷ calls) = after eq settings call (steps_after eq settings calls)

abbrev pub segment_of_key : {K V : Type 0} → SegmentedSettings K V → K → ℕ  -- the segment of a key
segment_of_key settings k = segment_of settings.bits (settings.whole.behaviour.hash k)

-- Where a call goes by its key: to the key's segment, or to each if it has no key.
abbrev pub place_of_key : {K V : Type 0} → SegmentedSettings K V → Option K → Place
place_of_key settings None = Each
place_of_key settings (Some k) = One (segment_of_key settings k)

module _ {K V : Type 0} (E : Type 0) (eq : K → K → Bool) (settings : SegmentedSettings K V) where
  -- a segment's notices that were not taken, after its list
  abbrev pub notices_after : List (Call K V E) → List (Removal K V)
  notices_after calls = notices_left eq (share_settings settings) (events_in {E = E} (steps_after eq (share_settings settings) calls))

  -- The first segment that has a notice, given the list of each.
  abbrev pub first_with_notice : (ℕ → List (Call K V E)) → Option ℕ
  first_with_notice lists = first_from (λ i. not (is_empty (notices_after (lists i)))) 0 (segments_of settings)

  -- Where a call goes, given the list of each segment. A count goes to none, and a `TakeNotice` to the first segment
  -- that has a notice. Any other call goes to the segment of its key, or to each if it has no key.
  abbrev pub place_by : (ℕ → List (Call K V E)) → Call K V E → Place
  place_by lists EntryCount = Nowhere
  place_by lists WeightedSize = Nowhere
  place_by lists TakeNotice = at_first (first_with_notice lists)
  place_by lists call = place_of_key settings (key_in call)

  -- A segment's list: a filter of the list of all calls. Both are read from the newest.
  abbrev pub list_of : List (Call K V E) → ℕ → List (Call K V E)
  list_of [] i = []
  list_of (call ∷ calls) i =
      if goes_to i (place_by (list_of calls) call) then call ∷ list_of calls i else list_of calls i

  abbrev pub place_of : List (Call K V E) → Call K V E → Place  -- where a call goes, after others
  place_of calls call = place_by (list_of calls) call

  -- The accepted steps of a segment: those of its own list, under its own settings.
  abbrev pub steps_in : List (Call K V E) → ℕ → List (AcceptedStep K V E)
  steps_in calls i = steps_after eq (share_settings settings) (list_of calls i)

  abbrev pub events_of : List (Call K V E) → ℕ → List (Event K V)  -- the events of a segment
  events_of calls i = events_in (steps_in calls i)

  -- The live write of a key at a moment: that of the key's segment.
  abbrev pub live_in : List (Call K V E) → K → ℕ → Option (Write K V)
  live_in calls k at = live_at eq (share_settings settings) k at (events_of calls (segment_of_key settings k))

  -- How many entries are stored in all segments.
  abbrev pub entries_in : List (Call K V E) → ℕ
  entries_in calls = sum_below (λ i. entry_count eq (share_settings settings) (events_of calls i)) (segments_of settings)

  -- Their total weight.
  abbrev pub weight_in : List (Call K V E) → ℕ
  weight_in calls = sum_below (λ i. weighted_size eq (share_settings settings) (events_of calls i)) (segments_of settings)

  abbrev pub notices_in : List (Call K V E) → ℕ  -- how many notices of all segments were not taken
  notices_in calls = sum_below (λ i. length (notices_after (list_of calls i))) (segments_of settings)

  -- Whether a maintenance in which each segment may evict so many would leave a part undone in any of them.
  abbrev pub left_in : List (Call K V E) → ℕ → ℕ → Bool
  left_in calls limit at =
      any_below (λ i. is_left_at eq (share_settings settings) (Some limit) at (events_of calls i)) (segments_of settings)

  -- What all segments return together: to a count the sum, at most the greatest number. To a maintenance with a limit
  -- it is whether any of them leaves a part undone. Any other call has no such result.
  abbrev pub joint_in : List (Call K V E) → Call K V E → Option Joint
  joint_in calls EntryCount = Some (Total (min (entries_in calls) greatest_number))
  joint_in calls WeightedSize = Some (Total (min (weight_in calls) greatest_number))
  joint_in calls (RunPendingTasksUpTo limit at) = Some (AnyLeft (left_in calls limit at))
  joint_in calls call = None

  -- What a call returns after others, none if it fails by its name. It is what all segments return together, if they
  -- do. Else it is what the call's segment returns, as a cache with its share and its own list.
  abbrev pub reply_in : List (Call K V E) → Call K V E → Option (Reply K V E)
  reply_in calls call =
      reply_by (joint_in calls call)
      (reply_of (accepted eq (share_settings settings) (steps_in calls (segment_of_place (place_of calls call))) call))

-- What the states of a cache of several segments are to the definitions.
pub record SegmentedView (K V E : Type 0) : Type 0 where
  pub settings : SegmentedSettings K V
  pub segments : List (WholeView K V E)

-- The cache could have come from a list of calls under these settings. It was built with them, and each segment's state
-- could have come from its own list, under its share.
pub record AllStandFor {K V E : Type 0} (eq : K → K → Bool) (is_clone : V → V → Type 0) (given : SegmentedSettings K V)
    (view : SegmentedView K V E) (calls : List (Call K V E)) : Type 0 where
  pub settings : view.settings ≡ given
  pub count : length view.segments ≡ segments_of given
  pub each : (i : ℕ) →
      IfSome (slice_get view.segments i) (λ one. StandsFor eq is_clone (share_settings given) one (steps_in E eq given calls i))

module _ {K V E : Type 0} (eq : K → K → Bool) (is_clone : V → V → Type 0) where
  -- P holds for all settings and calls that the states could have come from.
  abbrev pub AtEachList : SegmentedView K V E → (SegmentedSettings K V → List (Call K V E) → Type 0) → Type 0
  AtEachList view P =
      (settings : SegmentedSettings K V) (calls : List (Call K V E)) → AllStandFor eq is_clone settings view calls → P settings calls

  -- Whatever calls the old states could have come from, the new ones could have come from those followed by this one.
  abbrev pub FollowsIn : SegmentedView K V E → Call K V E → SegmentedView K V E → Type 0
  FollowsIn old call new = AtEachList old (λ settings calls. AllStandFor eq is_clone settings new (call ∷ calls))

-- a reply, up to cloning
abbrev pub IsGivenReply : {K V E : Type 0} → (V → V → Type 0) → Option (Reply K V E) → Reply K V E → Type 0
IsGivenReply is_clone None reply = ⊥
IsGivenReply is_clone (Some it) reply = IsCopiedReply is_clone it reply

-- This is what the call returns, whatever calls the states could have come from.
abbrev pub RepliesIn : {K V E : Type 0} → (K → K → Bool) → (V → V → Type 0) → SegmentedView K V E → Call K V E →
    Reply K V E → Type 0
RepliesIn {E} eq is_clone view call reply =
    AtEachList eq is_clone view (λ settings calls. IsGivenReply is_clone (reply_in E eq settings calls call) reply)
