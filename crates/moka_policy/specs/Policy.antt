-- The meaning of the types that the user of a cache gives it.
use Rattle.std.specs.Prelude.{◌≡◌, ℕ, Bool, true, false, Option, option_map}
use Rattle.std.specs.Duration.{as_nanos}
use Rattle.std.specs.declared.time.Duration.{Duration}
use Rattle.moka_policy.specs.declared.policy.EvictionPolicy.{EvictionPolicy}
use Rattle.moka_policy.specs.declared.policy.Kind.{Kind}
use Rattle.moka_policy.specs.declared.policy.Kind.TheVariants.{Lru, TinyLfu}
use Rattle.moka_policy.specs.declared.policy.Policy.{Policy}

-- Whether a kind of policy is least recently used.
abbrev pub is_lru_kind : Kind → Bool
is_lru_kind Lru = true
is_lru_kind TinyLfu = false

-- Whether a policy is least recently used.
abbrev pub is_lru : EvictionPolicy → Bool
is_lru policy = is_lru_kind policy.kind

-- The policy of these four settings.
abbrev pub policy_with : Option ℕ → ℕ → Option Duration → Option Duration → Policy
policy_with max_capacity num_segments time_to_live time_to_idle =
    record {
      max_capacity = max_capacity;
      num_segments = num_segments;
      time_to_live = time_to_live;
      time_to_idle = time_to_idle;
    }

-- A closure computes a weight: it can be called with references to any key and value, and returns their weight.
abbrev pub IsWeighing : {K V KeyRef ValueRef : Type 0} → (KeyRef → K) → (ValueRef → V) → (KeyRef → ValueRef → Type 0) →
    (KeyRef → ValueRef → ℕ → Type 0) → (K → V → ℕ) → Type 0
IsWeighing {K} {V} {KeyRef} {ValueRef} key_of value_of can_call answers weight =
    ((key : KeyRef) (value : ValueRef) → can_call key value)
    × ((key : KeyRef) (value : ValueRef) (answer : ℕ) → answers key value answer → answer ≡ weight (key_of key) (value_of value))

-- A closure computes a test: it can be called with references to any key and value, and returns what the test says.
abbrev pub IsTesting : {K V KeyRef ValueRef : Type 0} → (KeyRef → K) → (ValueRef → V) → (KeyRef → ValueRef → Type 0) →
    (KeyRef → ValueRef → Bool → Type 0) → (K → V → Bool) → Type 0
IsTesting {K} {V} {KeyRef} {ValueRef} key_of value_of can_call answers test =
    ((key : KeyRef) (value : ValueRef) → can_call key value)
    × ((key : KeyRef) (value : ValueRef) (answer : Bool) → answers key value answer → answer ≡ test (key_of key) (value_of value))

-- A closure computes the lifetime of a created entry, for each key, value and moment.
abbrev pub IsCreating : {K V KeyRef ValueRef : Type 0} → (KeyRef → K) → (ValueRef → V) → (KeyRef → ValueRef → ℕ → Type 0) →
    (KeyRef → ValueRef → ℕ → Option Duration → Type 0) → (K → V → ℕ → Option ℕ) → Type 0
IsCreating {K} {V} {KeyRef} {ValueRef} key_of value_of can_call answers created =
    ((key : KeyRef) (value : ValueRef) (at : ℕ) → can_call key value at)
    × ((key : KeyRef) (value : ValueRef) (at : ℕ) (life : Option Duration) → answers key value at life →
    option_map as_nanos life ≡ created (key_of key) (value_of value) at)

-- A closure computes the lifetime of an entry that is read, for each key, value, moment, rest and moment of writing.
abbrev pub IsReading : {K V KeyRef ValueRef : Type 0} → (KeyRef → K) → (ValueRef → V) →
    (KeyRef → ValueRef → ℕ → Option Duration → ℕ → Type 0) → (KeyRef → ValueRef → ℕ → Option Duration → ℕ → Option Duration → Type 0) →
    (K → V → ℕ → Option ℕ → ℕ → Option ℕ) → Type 0
IsReading {K} {V} {KeyRef} {ValueRef} key_of value_of can_call answers read =
    ((key : KeyRef) (value : ValueRef) (at : ℕ) (rest : Option Duration) (written : ℕ) → can_call key value at rest written)
    × ((key : KeyRef) (value : ValueRef) (at : ℕ) (rest : Option Duration) (written : ℕ) (life : Option Duration) →
    answers key value at rest written life →
    option_map as_nanos life ≡ read (key_of key) (value_of value) at (option_map as_nanos rest) written)

-- A closure computes the lifetime of an updated entry, for each key, value, moment and rest.
abbrev pub IsUpdating : {K V KeyRef ValueRef : Type 0} → (KeyRef → K) → (ValueRef → V) →
    (KeyRef → ValueRef → ℕ → Option Duration → Type 0) → (KeyRef → ValueRef → ℕ → Option Duration → Option Duration → Type 0) →
    (K → V → ℕ → Option ℕ → Option ℕ) → Type 0
IsUpdating {K} {V} {KeyRef} {ValueRef} key_of value_of can_call answers updated =
    ((key : KeyRef) (value : ValueRef) (at : ℕ) (rest : Option Duration) → can_call key value at rest)
    × ((key : KeyRef) (value : ValueRef) (at : ℕ) (rest : Option Duration) (life : Option Duration) → answers key value at rest life →
    option_map as_nanos life ≡ updated (key_of key) (value_of value) at (option_map as_nanos rest))
