-- One history, the recorder (the token that knows all of it), and the tokens that claim places of it.
use Rattle.std.specs.Prelude.{◌≡◌, ℕ, ◌<◌, List, [], ◌∷◌, ◌++◌, length, Option, Some, None, slice_get, true, false}
use mathlib.Core.Option.{Option as Maybe, some, none}
use lib.ListN.{get_elem?}
use Rattle.atomic_table.specs.Table.{State, Step, Me}
use Rattle.atomic_table.specs.Seated.{TableId}
use Rattle.moka_recording.specs.declared.law.Claim.{Claim}
use Rattle.moka_recording.specs.declared.law.View.{View}

-- `P` holds of each element.
abbrev pub Each : {X : Type 0} → (X → Type 0) → List X → Type 0
Each {X} P xs = (k : ℕ) (x : X) → slice_get xs k ≡ Some x → P x

-- The name of no table.
abbrev pub no_table : TableId
no_table = record { words = 0; slots = 0; views_name = 0; atom = 0; block = 0; offset = 0; slot_names = [] }

-- What contracts see of a new table: its name, and its history.
pub record OpenedData (S R : Type 0) : Type 0 where
  pub table : TableId
  pub history : List (ℕ × S × R)

-- What contracts see under the lock: the machine, and the history of its steps.
pub record GuardedMachineData (M S R : Type 0) : Type 0 where
  pub machine : M
  pub history : List (ℕ × S × R)

-- What contracts see of a recorded machine: how many passes it has, and what the machine was built with.
pub record RecordedData (B : Type 0) : Type 0 where
  pub count : ℕ
  pub built : Option B

module _ {S R : Type 0} where
  -- A claim of an entry at a place.
  abbrev pub claim : ℕ → ℕ × S × R → Claim S R
  claim place entry = record { place = place; entry = entry }

  -- Each claimed entry is in the history at its place.
  abbrev pub Stands : List (ℕ × S × R) → List (Claim S R) → Type 0
  Stands log claims = Each (λ (c : Claim S R). slice_get log c.place ≡ Some c.entry) claims

-- What is claimed, if anything is, is what was announced.
abbrev pub IsAnnounced : {B : Type 0} → Option B → Option B → Type 0
IsAnnounced {B} built heard = (b : B) → heard ≡ Some b → built ≡ Some b

module _ {S R B : Type 0} where
  -- What the recorder knows: what was announced, the whole history, and its claims.
  abbrev pub recorder : Option B → List (ℕ × S × R) → List (Claim S R) → Option B → View S R B
  recorder built all claims heard =
      record { is_recorder = true; all = all; built = built; claims = claims; heard = heard }

  -- What another token knows: its claims.
  abbrev pub claimer : List (Claim S R) → Option B → View S R B
  claimer claims heard = record { is_recorder = false; all = []; built = None; claims = claims; heard = heard }

  -- What a token without claims knows.
  abbrev pub nobody : View S R B
  nobody = claimer [] None

  -- The first view, with the claims of the second.
  abbrev pub with_claims : View S R B → View S R B → View S R B
  with_claims v w =
      record { is_recorder = v.is_recorder; all = v.all; built = v.built; claims = w.claims; heard = w.heard }

  -- The view, without its claims.
  abbrev pub without_claims : View S R B → View S R B
  without_claims v = with_claims v nobody

  -- The claims of the view, for another token.
  abbrev pub claims_of : View S R B → View S R B
  claims_of v = claimer v.claims v.heard

  -- What the rule says of the token `by`. If it is a recorder, it is the only one, and knows the history and what was
  -- announced. Its claims agree with these.
  abbrev pub Fits : ℕ → List (ℕ × S × R) → Option B → ℕ → View S R B → Type 0
  Fits seat log built by v =
      (v.is_recorder ≡ true → (by ≡ seat) × (v.all ≡ log) × (v.built ≡ built))
      × Stands log v.claims × IsAnnounced built v.heard

  -- There is one history and one announcement: at most one token knows them whole, and what any token claims agrees.
  abbrev pub HasOneHistory : State (ℕ × S × R) (View S R B) → Type 0
  HasOneHistory s =
      (seat : ℕ) × (log : List (ℕ × S × R)) × (built : Option B)
      × ((by : ℕ) (v : View S R B) → get_elem? s.views by ≡ some v → Fits seat log built by v)

  -- The recorder appends the announced entry, and claims it. Its earlier claims are at earlier places.
  abbrev pub AddedEntry : Maybe (ℕ × S × R) → View S R B → View S R B → Type 0
  AddedEntry none v w = Unit {0}
  AddedEntry (some e) v w =
      (w ≡ record {
        is_recorder = v.is_recorder;
        all = v.all ++ e ∷ [];
        built = v.built;
        claims = v.claims ++ claim (length v.all) e ∷ [];
        heard = v.heard;
      })
      × Each (λ (c : Claim S R). c.place < length v.all) v.claims

  -- The move that appends the announced entry.
  abbrev pub Added : Step (ℕ × S × R) → Me (ℕ × S × R) (View S R B) → ℕ → Me (ℕ × S × R) (View S R B) → Type 0
  Added s me found after = AddedEntry s.said me.0 after.0 × (after.1 ≡ me.1)

  -- The move by which the recorder announces what the machine was built with, and claims it.
  abbrev pub Announced : Option B → Step (ℕ × S × R) → Me (ℕ × S × R) (View S R B) → ℕ → Me (ℕ × S × R) (View S R B) → Type 0
  Announced built s me found after =
      after ≡ (
        record { is_recorder = me.0.is_recorder; all = me.0.all; built = built; claims = me.0.claims; heard = built },
        me.1,
      )

  -- The move that changes nothing, and shows that the recorder's claims agree with what it knows.
  abbrev pub Compared : Step (ℕ × S × R) → Me (ℕ × S × R) (View S R B) → ℕ → Me (ℕ × S × R) (View S R B) → Type 0
  Compared s me found after =
      (after ≡ me) × Stands me.0.all me.0.claims × IsAnnounced me.0.built me.0.heard
