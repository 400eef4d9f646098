-- The laws of the calls of several segments.
use Rattle.std.specs.Prelude.{◌≡◌, ◌≢◌, ◌⊎◌, ℕ, ◌+◌, ◌^◌, ◌≤◌, ◌<◌, ◌&&◌, not, if◌then◌else◌, true, false, Bool}
use Rattle.std.specs.Prelude.{Option, Some, None, List, ◌∷◌}
use Rattle.std.specs.List.{AllByRecursion}
use Rattle.moka_model.specs.Calls.{Call, Insert, RunPendingTasks, RunPendingTasksUpTo, TakeNotice, Reply, Left, Noticed}
use Rattle.moka_model.specs.Calls.{accepted, reply_of, IsLegal}
use Rattle.moka_model.specs.Conserved.{SeesKeysAlike}
use Rattle.moka_model.specs.Events.{Event, latest}
use Rattle.moka_model.specs.Lives.{Settings, Write, is_live}
use Rattle.moka_model.specs.Numbers.{entry_count, weighted_size, flush_point, stores_nothing, all_standing}
use Rattle.moka_model.specs.Orders.{standing}
use Rattle.moka_model.specs.SizeLaws.{WeighsOnes, LimitsSome}
use Rattle.moka_segment_model.specs.SegmentLaws.{pairs_written, pairs_standing, pairs_waiting, pairs_given}
use Rattle.moka_segment_model.specs.Segments.{SegmentedSettings, segments_of, share, share_settings, segment_of_key, key_in, One, Each}
use Rattle.moka_segment_model.specs.Segments.{Nowhere, place_of, list_of, steps_after, steps_in, events_of, joint_in, reply_in}

-- The law holds after all calls, under all settings.
abbrev pub AfterAll : (K V E : Type 0) → (SegmentedSettings K V → List (Call K V E) → Type 0) → Type 0
AfterAll K V E law = (settings : SegmentedSettings K V) (calls : List (Call K V E)) → law settings calls

module _ {K V : Type 0} (settings : SegmentedSettings K V) where
  -- The cache has one segment, and each hash has 64 bits.
  abbrev pub IfOne : Type 0 → Type 0
  IfOne fact = settings.bits ≡ 0 → ((k : K) → settings.whole.behaviour.hash k < 2 ^ 64) → fact

module _ {K V E : Type 0} (eq : K → K → Bool) (settings : SegmentedSettings K V) (calls : List (Call K V E)) where
  -- A segment's list of accepted steps is one of a cache with the segment's share.
  abbrev pub IsLegalInEach : Type 0
  IsLegalInEach = (i : ℕ) → IsLegal eq (share_settings settings) (steps_in E eq settings calls i)

  -- A call to one segment is not in the list of another.
  abbrev pub IsInNoOtherList : Type 0
  IsInNoOtherList =
      (between : Call K V E) (i j : ℕ) → place_of E eq settings calls between ≡ One j → i ≢ j
      → list_of E eq settings (between ∷ calls) i ≡ list_of E eq settings calls i

  -- A call on a key returns the same after a call to another segment.
  abbrev pub OthersChangeNoReply : Type 0
  OthersChangeNoReply =
      (between call : Call K V E) (j : ℕ) (k : K) → place_of E eq settings calls between ≡ One j → key_in call ≡ Some k
      → segment_of_key settings k ≢ j → reply_in E eq settings (between ∷ calls) call ≡ reply_in E eq settings calls call

  -- A call on a key returns the same after other calls of which the key's segment has the same.
  abbrev pub ListDecidesReply : Type 0
  ListDecidesReply =
      (others : List (Call K V E)) (call : Call K V E) (k : K) → key_in call ≡ Some k
      → list_of E eq settings calls (segment_of_key settings k) ≡ list_of E eq settings others (segment_of_key settings k)
      → reply_in E eq settings calls call ≡ reply_in E eq settings others call

  -- What a call returns in one segment.
  abbrev pub reply_of_segment : ℕ → Call K V E → Option (Reply K V E)
  reply_of_segment i call = reply_of (accepted eq (share_settings settings) (steps_in E eq settings calls i) call)

  -- A call that goes to each segment returns what each of them does, if they return nothing together.
  abbrev pub EachRepliesAlike : Type 0
  EachRepliesAlike =
      (call : Call K V E) (i : ℕ) → place_of E eq settings calls call ≡ Each → joint_in E eq settings calls call ≡ None
      → reply_in E eq settings calls call ≡ reply_of_segment i call

  -- A call that takes a notice returns none if no segment has one.
  abbrev pub TakesNone : Type 0
  TakesNone =
      place_of E eq settings calls TakeNotice ≡ Nowhere → reply_in E eq settings calls TakeNotice ≡ Some (Noticed None)

  -- A maintenance with a limit goes to each segment.
  abbrev pub LimitGoesToEach : Type 0
  LimitGoesToEach = (limit at : ℕ) → place_of E eq settings calls (RunPendingTasksUpTo limit at) ≡ Each

  -- It returns that something is left if one segment returns so,
  abbrev pub SomeIsLeft : Type 0
  SomeIsLeft =
      (limit at i : ℕ) → i < segments_of settings
      → reply_of_segment i (RunPendingTasksUpTo limit at) ≡ Some (Left true)
      → reply_in E eq settings calls (RunPendingTasksUpTo limit at) ≡ Some (Left true)

  -- and that nothing is left if each segment returns that.
  abbrev pub NoneIsLeft : Type 0
  NoneIsLeft =
      (limit at : ℕ)
      → ((i : ℕ) → i < segments_of settings → reply_of_segment i (RunPendingTasksUpTo limit at) ≡ Some (Left false))
      → reply_in E eq settings calls (RunPendingTasksUpTo limit at) ≡ Some (Left false)

  -- Of one segment, the list has each call that goes to it.
  abbrev pub OneListsAll : Type 0
  OneListsAll =
      (call : Call K V E) → IfOne settings ((place_of E eq settings calls call ≡ Nowhere)
      ⊎ (list_of E eq settings (call ∷ calls) 0 ≡ call ∷ list_of E eq settings calls 0))

  -- Of one segment, a call returns what it does in a state with the same list.
  abbrev pub OneRepliesAsState : Type 0
  OneRepliesAsState =
      (call : Call K V E) → IfOne settings (reply_in E eq settings calls call
      ≡ reply_of (accepted eq settings.whole (steps_after eq settings.whole (list_of E eq settings calls 0)) call))

  -- Each key that a segment stores is one of the segment, if equal keys hash alike.
  abbrev pub KeysStandAtHome : Type 0
  KeysStandAtHome =
      (i : ℕ) → ((k q : K) → eq k q ≡ true → settings.whole.behaviour.hash k ≡ settings.whole.behaviour.hash q)
      → AllByRecursion (λ w. segment_of_key settings w.key ≡ i)
      (all_standing eq (share_settings settings) (events_of E eq settings calls i))

  -- The share of a segment of a capacity.
  abbrev pub share_of : ℕ → ℕ
  share_of capacity = share (segments_of settings) capacity

  -- The events of a segment after a full maintenance.
  abbrev pub maintained : ℕ → ℕ → List (Event K V)
  maintained at i = events_of E eq settings (RunPendingTasks at ∷ calls) i

  -- A segment never stores more than its share and 64, if every entry weighs 1 and the flush limit is not 0.
  abbrev pub IsBoundedInEach : Type 0
  IsBoundedInEach =
      (i capacity : ℕ) → WeighsOnes settings.whole → LimitsSome settings.whole.flush_limit
      → settings.whole.max_capacity ≡ Some capacity
      → entry_count eq (share_settings settings) (events_of E eq settings calls i) ≤ share_of capacity + flush_point

  -- After a full maintenance, a segment's weight is within its share.
  abbrev pub WeighsWithinShare : Type 0
  WeighsWithinShare =
      (at i capacity : ℕ) → settings.whole.max_capacity ≡ Some capacity
      → weighted_size eq (share_settings settings) (maintained at i) ≤ share_of capacity

  -- So is the number of its entries, if every entry weighs 1.
  abbrev pub CountsWithinShare : Type 0
  CountsWithinShare =
      (at i capacity : ℕ) → WeighsOnes settings.whole → settings.whole.max_capacity ≡ Some capacity
      → entry_count eq (share_settings settings) (maintained at i) ≤ share_of capacity

  -- Then all that stands in it is live.
  abbrev pub IsLiveInEach : Type 0
  IsLiveInEach =
      (at i : ℕ) (k : K) (w : Write K V) → standing eq (share_settings settings) k (maintained at i) ≡ Some w
      → is_live (share_settings settings) w (latest (maintained at i)) ≡ true

  -- A call writes no pair that passes a test which fails for each pair of its own key.
  abbrev pub WritesItsKeyAlone : Type 0
  WritesItsKeyAlone =
      (call : Call K V E) (test : K → V → Bool) → ((k : K) (v : V) → key_in call ≡ Some k → test k v ≡ false)
      → pairs_written E eq settings test (call ∷ calls) ≡ pairs_written E eq settings test calls

  -- An insert writes its pair exactly if the capacity is not 0.
  abbrev pub InsertWritesItsPair : Type 0
  InsertWritesItsPair =
      (k : K) (v : V) (at : ℕ) (test : K → V → Bool) → pairs_written E eq settings test (Insert k v at ∷ calls)
      ≡ (if not (stores_nothing settings.whole.max_capacity) && test k v then 1 else 0) + pairs_written E eq settings test calls

  -- As many written pairs pass a test as stand, have a queued notice, or had theirs taken, if it sees equal keys alike.
  abbrev pub NoPairIsLost : Type 0
  NoPairIsLost =
      (test : K → V → Bool) → settings.bits < 64 → ((k : K) → settings.whole.behaviour.hash k < 2 ^ 64) → SeesKeysAlike eq test
      → pairs_written E eq settings test calls ≡ pairs_standing E eq settings test calls
      + (pairs_waiting E eq settings test calls + pairs_given E eq settings test calls)
