-- What a state stores, and what it means to the specification.
use Rattle.std.specs.Prelude.{ℕ, Bool, List, Option}
use Rattle.moka_policy.specs.Frequency.{after_notes}
use Rattle.moka_model.specs.Lives.{Behaviour, Settings}
use Rattle.moka_model.specs.Turns.{Turn}
use Rattle.moka_model.specs.Steps.{AcceptedStep}
use Rattle.moka_model.specs.Calls.{Call, Reply}
use Rattle.moka_model.specs.StandsFor.{Books, View, WholeView, StandsFor, AtEachHistory, Follows, RepliesWith}
use Rattle.moka_expiration.specs.Behaviour.{BehaviourData}

-- The estimate of a source for a hash after it has noted these hashes too.
abbrev pub estimates : {F : Type 0} → (F → ℕ → F) → (F → ℕ → ℕ) → F → List ℕ → ℕ → ℕ
estimates noted count source more hash = count (after_notes source noted more) hash

-- What a state was built with, as data. That its name stays as it was is in no clause of some calls.
pub record SettingsData (H W X : Type 0) : Type 0 where
  pub name : Option (List ℕ)
  pub time_to_live : Option ℕ
  pub time_to_idle : Option ℕ
  pub max_capacity : Option ℕ
  pub first_number : ℕ
  pub supports_closures : Bool
  pub flush_limit : Option ℕ
  pub behaviour : BehaviourData H W X

-- What a state stores, as data: its settings, its books, its frequency source and its turns. Its view is what the types
-- of the cache mean by that. `initial_room` is for how many rows there was room from the start; it matters to no
-- result.
pub record StateData (K V H W X F E : Type 0) : Type 0 where
  pub settings : SettingsData H W X
  pub books : Books K V
  pub source : F
  pub initial_room : ℕ
  pub turns : List (Turn K V E)

module _ {K V H W X : Type 0} (behaviour_in : BehaviourData H W X → Behaviour K V) where
  -- The settings that the data means, given the behaviour that it means and the estimates of a new source.
  abbrev pub settings_by : (List ℕ → ℕ → ℕ) → SettingsData H W X → Settings K V
  settings_by frequency stored = record {
    time_to_live = stored.time_to_live;
    time_to_idle = stored.time_to_idle;
    max_capacity = stored.max_capacity;
    first_number = stored.first_number;
    supports_closures = stored.supports_closures;
    flush_limit = stored.flush_limit;
    behaviour = behaviour_in stored.behaviour;
    frequency = frequency;
  }

  -- The view of a state, given what its data means: its behaviour, the estimates of a source, and a new source.
  abbrev pub view_by : {F E : Type 0} → (F → List ℕ → ℕ → ℕ) → F → StateData K V H W X F E → WholeView K V E
  view_by frequency_in opened state = record {
    values = record {
      settings = settings_by (frequency_in opened) state.settings;
      books = state.books;
      frequency = frequency_in state.source;
    };
    turns = state.turns;
  }

-- The relations of states, in terms of the view of each.
module _ {K V E S : Type 0} (eq : K → K → Bool) (is_clone : V → V → Type 0) (view : S → WholeView K V E) where
  -- These steps are a history of the state, under these settings.
  abbrev pub StandsForBy : Settings K V → S → List (AcceptedStep K V E) → Type 0
  StandsForBy settings state steps = StandsFor eq is_clone settings (view state) steps

  -- P holds for every history of the state.
  abbrev pub AtEachHistoryBy : S → (Settings K V → List (AcceptedStep K V E) → Type 0) → Type 0
  AtEachHistoryBy state P = AtEachHistory eq is_clone (view state) P

  -- Each history of the old state, followed by the call, is a history of the new one.
  abbrev pub FollowsBy : S → Call K V E → S → Type 0
  FollowsBy old call new = Follows eq is_clone (view old) call (view new)

  -- This is a right result of the call, for every history of the state.
  abbrev pub RepliesWithBy : S → Call K V E → Reply K V E → Type 0
  RepliesWithBy state call reply = RepliesWith eq is_clone (view state) call reply
