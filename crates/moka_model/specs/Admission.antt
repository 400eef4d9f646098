-- How often keys were looked up, and which pending entries win against their victims.
use Rattle.std.specs.Prelude.{ℕ, ◌+◌, Bool, ◌||◌, nat_le, List, [], ◌∷◌, ◌++◌}
use Rattle.moka_model.specs.Maintenance.{total}
use Rattle.moka_model.specs.Lives.{Settings, Write}
use Rattle.moka_model.specs.Events.{Event, Looked, TurnedDown}

-- The hashes that recorded lookups noted, in order. Each lookup notes its key's hash, whether it finds a value or not.
abbrev pub notes : {K V : Type 0} → Settings K V → List (Event K V) → List ℕ
notes settings [] = []
notes settings (Looked k at ∷ h) = notes settings h ++ settings.behaviour.hash k ∷ []
notes settings (TurnedDown k at ∷ h) = notes settings h ++ settings.behaviour.hash k ∷ []
notes settings (e ∷ h) = notes settings h

-- The frequency of a hash after these events: what the frequency source estimates after all the notes so far.
abbrev pub frequency : {K V : Type 0} → Settings K V → List (Event K V) → ℕ → ℕ
frequency settings h hash = settings.frequency (notes settings h) hash

-- Whether a pending entry wins against its victims: always under LRU. Under TinyLFU if its frequency exceeds the sum of
-- theirs.
abbrev pub wins : {K V : Type 0} → Settings K V → (ℕ → ℕ) → Write K V → List (Write K V) → Bool
wins settings frequency_of w victims =
    settings.behaviour.is_lru || nat_le (total (λ v. frequency_of v.hash) victims + 1) (frequency_of w.hash)
