-- The settings of a cache, the entries that it stores, and when these expire. Moments and lifetimes are nanoseconds.
use Rattle.std.specs.Prelude.{ℕ, ◌+◌, ◌-◌, max, min, Bool, false, not, ◌&&◌, ◌||◌, if◌then◌else◌, nat_le, Option, Some, None, List}
use Rattle.std.specs.Prelude.{option_map}

-- The lifetimes that the expiry of a cache gives to single entries, at a moment. None never ends.
--
-- - `created`: for a write where no live value is stored.
-- - `read`: after a hit, given the rest of the lifetime and when the value was written.
-- - `updated`: for a write over a live value, given the rest of the old lifetime.
pub record Lifetimes (K V : Type 0) : Type 0 where
  pub created : K → V → ℕ → Option ℕ
  pub read : K → V → ℕ → Option ℕ → ℕ → Option ℕ
  pub updated : K → V → ℕ → Option ℕ → Option ℕ

abbrev pub no_lifetimes : {K V : Type 0} → Lifetimes K V  -- Without an expiry no entry has a lifetime of its own.
no_lifetimes = record { created = λ k v at. None; read = λ k v at left written. left; updated = λ k v at left. left }

-- How a cache behaves: its policy (LRU or else TinyLFU), the hash of a key, the weight of a key with a value, and the
-- lifetimes of single entries.
pub record Behaviour (K V : Type 0) : Type 0 where
  pub is_lru : Bool
  pub hash : K → ℕ
  pub weight : K → V → ℕ
  pub lifetimes : Lifetimes K V

-- What a cache is built with. The TTL and the TTI are nanoseconds, the capacity is a weight, and each is optional.
-- `frequency` is what its source estimates for a hash after the hashes in a list were noted, in order.
pub record Settings (K V : Type 0) : Type 0 where
  pub time_to_live : Option ℕ
  pub time_to_idle : Option ℕ
  pub max_capacity : Option ℕ
  pub first_number : ℕ
  pub supports_closures : Bool  -- whether it supports invalidation by a predicate
  pub flush_limit : Option ℕ  -- how many entries one flush may evict; none is no limit
  pub behaviour : Behaviour K V
  pub frequency : List ℕ → ℕ → ℕ

-- The lifetime of a single entry, in nanoseconds, and the moment from which it counts.
pub record OwnLife : Type 0 where
  pub from : ℕ
  pub life : ℕ

-- A stored entry. `key` is the key of the write that created it, with its `hash`. The value, its weight and
-- `last_modified` are those of the last write. `last_accessed` is the greatest moment among that write and the recorded
-- hits since. It may have a lifetime of its own, and `is_hidden` says whether it is invalidated.
pub record Write (K V : Type 0) : Type 0 where
  pub key : K
  pub hash : ℕ
  pub value : V
  pub policy_weight : ℕ
  pub last_modified : ℕ
  pub last_accessed : ℕ
  pub own_life : Option OwnLife
  pub is_hidden : Bool

abbrev pub ends_at : Option ℕ → ℕ → Option ℕ  -- The end of a lifetime that begins at a moment; none without a lifetime.
ends_at life from = option_map (λ nanoseconds. from + nanoseconds) life

abbrev pub earlier : Option ℕ → Option ℕ → Option ℕ  -- The earlier of two deadlines, of those that exist.
earlier None b = b
earlier (Some a) None = Some a
earlier (Some a) (Some b) = Some (min a b)

abbrev pub has_come : Option ℕ → ℕ → Bool  -- Whether a deadline has come: it has from its own moment on.
has_come None at = false
has_come (Some deadline) at = nat_le deadline at

abbrev pub own_end : Option OwnLife → Option ℕ  -- The end of an entry's own lifetime.
own_end own = option_map (λ it. it.from + it.life) own

abbrev pub rest : Option OwnLife → ℕ → Option ℕ  -- The rest of an entry's own lifetime at a moment, 0 after its end.
rest own at = option_map (λ it. it.life - (at - it.from)) own

abbrev pub given : Option ℕ → ℕ → Option OwnLife  -- A lifetime given at a moment counts from that moment.
given life at = option_map (λ nanoseconds. record { from = at; life = nanoseconds }) life

module _ {K V : Type 0} (settings : Settings K V) where
  -- The deadline of an entry: the earliest of three ends, of those that exist. These are `last_modified` plus the TTL,
  -- `last_accessed` plus the TTI, and the end of its own lifetime.
  abbrev pub deadline : Write K V → Option ℕ
  deadline w =
      earlier (earlier (ends_at settings.time_to_live w.last_modified) (ends_at settings.time_to_idle w.last_accessed)) (own_end w.own_life)

  abbrev pub is_expired : Write K V → ℕ → Bool  -- An entry is expired from its deadline on.
  is_expired w at = has_come (deadline w) at

  abbrev pub is_live : Write K V → ℕ → Bool  -- A stored entry is live until it is invalidated or expired.
  is_live w at = not w.is_hidden && not (is_expired w at)

  abbrev pub live_one : ℕ → Option (Write K V) → Option (Write K V)  -- The entry, if it is live at a moment.
  live_one at None = None
  live_one at (Some w) = if is_live w at then Some w else None

  -- The lifetime that a live entry has after a hit at a moment: what the expiry's `read` gives, counted from then.
  abbrev pub life_of_hit : ℕ → Write K V → Option OwnLife
  life_of_hit at w = given (settings.behaviour.lifetimes.read w.key w.value at (rest w.own_life at) w.last_modified) at

  -- The entry after a hit at a moment: it is accessed then, and has the lifetime that the expiry gives.
  abbrev pub hit : ℕ → Write K V → Write K V
  hit at w = record w { last_accessed = max w.last_accessed at; own_life = life_of_hit at w }

  -- The entry after a lookup at a moment: a hit if it is live, else unchanged.
  abbrev pub after_look : ℕ → Write K V → Write K V
  after_look at w = if is_live w at then hit at w else w

  -- The lifetime that the expiry gives for a write at a moment, under the stored key: `updated` over a live entry, else
  -- `created`.
  abbrev pub life_given : K → V → ℕ → Option (Write K V) → Option ℕ
  life_given k v at None = settings.behaviour.lifetimes.created k v at
  life_given k v at (Some w) =
      let it = settings.behaviour.lifetimes in if is_live w at then it.updated w.key v at (rest w.own_life at) else it.created w.key v at

  -- The entry that a write at a moment stores, with its lifetime, under a stored key with its hash.
  abbrev pub stored_under : K → ℕ → K → V → ℕ → Option ℕ → Write K V
  stored_under key hash k v at life = record {
    key = key;
    hash = hash;
    value = v;
    policy_weight = settings.behaviour.weight k v;
    last_modified = at;
    last_accessed = at;
    own_life = given life at;
    is_hidden = false;
  }

  -- The entry after a write at a moment. An overwrite keeps the stored key and its hash.
  abbrev pub after_write : K → V → ℕ → Option (Write K V) → Write K V
  after_write k v at None = stored_under k (settings.behaviour.hash k) k v at (life_given k v at None)
  after_write k v at (Some w) = stored_under w.key w.hash k v at (life_given k v at (Some w))

-- The entry after an invalidation by a test: invalidated if the test holds of its stored key and value, or if it
-- already was.
abbrev pub hidden_by : {K V : Type 0} → (K → V → Bool) → Write K V → Write K V
hidden_by test w = record w { is_hidden = w.is_hidden || test w.key w.value }
