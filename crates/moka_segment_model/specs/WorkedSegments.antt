-- The settings and the calls of the worked cases of segments. Keys and values are numbers, and each key is its own
-- hash.
use Rattle.std.specs.Prelude.{ℕ, ◌*◌, ◌^◌, Bool, true, false, Option, Some, None, List, [], ◌∷◌, nat_eq, ◌==◌, not}
use Rattle.moka_model.specs.declared.notification.RemovalCause.{RemovalCause}
use Rattle.moka_model.specs.declared.turns.Kind.TheVariants.{With}
use Rattle.moka_model.specs.declared.turns.Outcome.TheVariants.{Value}
use Rattle.moka_model.specs.Lives.{no_lifetimes}
use Rattle.moka_model.specs.Turns.{Name}
use Rattle.moka_model.specs.Calls.{Call, Reply, Noticed, Entered, Get, Insert, Invalidate, InvalidateAll, InvalidateIf}
use Rattle.moka_model.specs.Calls.{RunPendingTasks, RunPendingTasksUpTo, EntryCount, TakeNotice, Begin, Finish, Abandon, Collect}
use Rattle.moka_segment_model.specs.Segments.{SegmentedSettings, reply_in}

-- Some seconds, in nanoseconds.
abbrev pub seconds : ℕ → ℕ
seconds n = n * 1_000_000_000

-- LRU, each entry weighs 1, ten seconds to live; 2 ^ bits segments with this capacity together.
abbrev pub of_segments : ℕ → ℕ → SegmentedSettings ℕ ℕ
of_segments bits capacity = record {
  bits = bits;
  whole = record {
    time_to_live = Some (seconds 10);
    time_to_idle = None;
    max_capacity = Some capacity;
    first_number = 0;
    supports_closures = true;
    flush_limit = None;
    behaviour = record { is_lru = true; hash = λ k. k; weight = λ k v. 1; lifetimes = no_lifetimes };
    frequency = λ noted hash. 0;
  };
}

-- A key of the upper half of two segments.
abbrev pub upper : ℕ
upper = 2 ^ 63

-- The result of a call that takes the notice of a removed value.
abbrev pub noticed_as : ℕ → ℕ → RemovalCause → Option (Reply ℕ ℕ ℕ)
noticed_as k v cause = Some (Noticed (Some (record { key = k; value = v; cause = cause })))

-- The result of a call that returns an entry, which it stored itself or found.
abbrev pub entered : ℕ → ℕ → Bool → Option (Reply ℕ ℕ ℕ)
entered k v fresh = Some (Entered (record { key = k; value = v; fresh = fresh; replaced = false }))

-- What calls return, in order, after some calls.
abbrev pub replies_in : SegmentedSettings ℕ ℕ → List (Call ℕ ℕ ℕ) → List (Call ℕ ℕ ℕ) → List (Option (Reply ℕ ℕ ℕ))
replies_in settings [] before = []
replies_in settings (call ∷ calls) before = reply_in ℕ nat_eq settings before call ∷ replies_in settings calls (call ∷ before)

-- Two keys enter the lower segment of two, and one the upper. Of the lower ones one is evicted.
abbrev pub two_and_one : List (Call ℕ ℕ ℕ)
two_and_one =
    Insert 1 10 0 ∷ Insert upper 20 0 ∷ Insert 2 30 0 ∷ RunPendingTasks 0 ∷ TakeNotice ∷ TakeNotice ∷ EntryCount
    ∷ Get upper (seconds 10) ∷ Get 2 (seconds 9) ∷ []

-- The upper segment gives its notice after the lower one's, whichever came first.
abbrev pub upper_first : List (Call ℕ ℕ ℕ)
upper_first = Insert upper 20 0 ∷ Insert 1 10 0 ∷ Invalidate upper 1 ∷ Invalidate 1 2 ∷ TakeNotice ∷ TakeNotice ∷ TakeNotice ∷ []

-- All entries are invalidated, in both segments.
abbrev pub both_invalidated : List (Call ℕ ℕ ℕ)
both_invalidated = Insert 1 10 0 ∷ Insert upper 20 0 ∷ InvalidateAll ∷ Get 1 0 ∷ Get upper 0 ∷ EntryCount ∷ []

-- The values 10 and 30 are invalidated by a test, one in each segment. The lower segment keeps 20.
abbrev pub invalidated_by_a_test : List (Call ℕ ℕ ℕ)
invalidated_by_a_test =
    Insert 1 10 0 ∷ Insert 2 20 0 ∷ Insert upper 30 0 ∷ InvalidateIf (λ k v. not (v == 20)) ∷ Get 1 0 ∷ Get 2 0 ∷ Get upper 0 ∷ []

-- All entries are invalidated, and evicted by maintenances with a limit of 1.
abbrev pub one_by_one : List (Call ℕ ℕ ℕ)
one_by_one =
    Insert 1 10 0 ∷ Insert 2 20 0 ∷ Insert upper 30 0 ∷ InvalidateAll ∷ RunPendingTasksUpTo 1 0 ∷ EntryCount
    ∷ RunPendingTasksUpTo 1 0 ∷ EntryCount ∷ []

-- A turn in each segment, both with the number 0.
abbrev pub lower_name : Name ℕ
lower_name = record { number = 0; kind = With; key = 1 }

-- The turn of the upper segment.
abbrev pub upper_name : Name ℕ
upper_name = record { number = 0; kind = With; key = upper }

-- The lower turn is waited for and finished, the upper one is abandoned.
abbrev pub two_turns : List (Call ℕ ℕ ℕ)
two_turns =
    Begin 1 With None 0 ∷ Begin upper With None 0 ∷ Begin 1 With None 0 ∷ Finish lower_name (Value 7) 0 ∷ Collect upper_name
    ∷ Collect lower_name ∷ Abandon upper_name ∷ Get 1 0 ∷ Get upper 0 ∷ []
