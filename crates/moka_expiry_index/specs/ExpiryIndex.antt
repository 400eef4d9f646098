-- The terms in which contracts describe `ExpiryIndex`.
use Rattle.std.specs.Prelude.{◌≡◌, ◌≢◌, ℕ, ◌/◌, ◌<◌, ◌≤◌, List, vec_len, slice_index}
use Rattle.moka_expiry_index.specs.MinTree.{leaf}
use Rattle.moka_expiry_index.specs.Slots.{listed}
use Rattle.moka_expiry_index.specs.declared.expiry_index.ExpiryIndex.{ExpiryIndex}

-- The numbers with their deadlines, in their order.
abbrev pub order_of : ExpiryIndex → List (ℕ × ℕ)
order_of d = listed (slice_index d.numbers.items) (leaf d.nodes.items d.size) (vec_len d.numbers)

-- Each number below this one has a place.
abbrev pub known_of : ExpiryIndex → ℕ
known_of d = vec_len d.places

-- How many numbers there is room for. There are twice as many slots, so that the empty ones are seldom closed.
abbrev pub room_of : ExpiryIndex → ℕ
room_of d = d.size / 2

-- A number is in this slot, and in no other.
pub record IsSlotOf (d : ExpiryIndex) (number place : ℕ) : Type 0 where
  pub within : place < vec_len d.numbers
  pub here : slice_index d.numbers.items place ≡ number
  pub some : number ≢ 0
  pub only : (i : ℕ) → i < vec_len d.numbers → slice_index d.numbers.items i ≡ number → i ≡ place

-- No room is lost.
pub record PreservesRoom (old new : ExpiryIndex) : Type 0 where
  pub known : known_of old ≤ known_of new
  pub room : room_of old ≤ room_of new
