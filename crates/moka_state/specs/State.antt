-- What a state shows as data, made of its fields.
use Rattle.std.specs.Prelude.{◌≡◌, ℕ, Bool, List, ◌++◌, map, option_map, Option, String}
use Rattle.std.specs.Arc.{arc_value}
use Rattle.std.specs.List.{AllByRecursion}
use Rattle.std.specs.Duration.{as_nanos}
use Rattle.std.specs.String.{string_bytes}
use Rattle.std.specs.declared.alloc.Global.{Global}
use Rattle.std.specs.declared.time.Duration.{Duration}
use Rattle.moka_model.specs.Lives.{Write}
use Rattle.moka_model.specs.Maintenance.{Queues}
use Rattle.moka_model.specs.StandsFor.{Books}
use Rattle.moka_expiration.specs.declared.expiration_policy.ExpirationPolicy.{ExpirationPolicy}
use Rattle.moka_expiration.specs.Behaviour.{BehaviourData}
use Rattle.moka_table.specs.Table.{Contents, entries, stored_writes, removal_of}
use Rattle.moka_expiration.specs.ExpirationPolicy.{AreDated}
pub use Rattle.moka_expiration.specs.StateData.{SettingsData, StateData}

-- The settings of a state that is built from these.
abbrev pub settings_of : {H W X : Type 0} → Option (String Global) → Option Duration → Option Duration → Option ℕ → ℕ → Bool →
    Option ℕ → BehaviourData H W X → SettingsData H W X
settings_of name time_to_live time_to_idle max_capacity first_number closures flush_limit behaviour = record {
  name = option_map string_bytes name;
  time_to_live = option_map as_nanos time_to_live;
  time_to_idle = option_map as_nanos time_to_idle;
  max_capacity = max_capacity;
  first_number = first_number;
  supports_closures = closures;
  flush_limit = flush_limit;
  behaviour = behaviour;
}

-- All stored writes: first the resident entries, then the pending ones.
abbrev pub all_writes : {K V H W X F E : Type 0} → StateData K V H W X F E → List (Write K V)
all_writes state = state.books.orders.admitted ++ state.books.orders.waiting

module _ {K V : Type 0} where
  -- The writes that the rows of a table store, in the access order and in the arrival order.
  abbrev pub stored_orders : Contents K V → Queues (Write K V)
  stored_orders contents = record { admitted = stored_writes contents.admitted; waiting = stored_writes contents.waiting }

  -- The books, made of a table, the latest moment and the next sequence number.
  abbrev pub books_by : Contents K V → ℕ → ℕ → Books K V
  books_by contents latest next_number = record {
    orders = stored_orders contents;
    notices = map removal_of contents.notices;
    latest = latest;
    next_number = next_number;
  }

  -- Each row has the hash of its key, and the deadline of its value. Each key with its value, stored or in a notice,
  -- satisfies the value invariant.
  pub record IsSound (keeps : K → V → Type 0) (hash_of : K → ℕ) (lives : ExpirationPolicy) (contents : Contents K V) : Type 0 where
    pub dated : AreDated lives (entries contents)
    pub hashed : AllByRecursion (λ p. p.1.hash ≡ hash_of (arc_value p.1.key)) (entries contents)
    pub kept : AllByRecursion (λ p. keeps (arc_value p.1.key) p.1.value) (entries contents)
    pub notices_kept : AllByRecursion (λ n. keeps (arc_value n.key) n.value) contents.notices
