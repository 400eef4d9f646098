-- Receipts: what passes store of the entries of a history.
use Rattle.std.specs.Prelude.{⊤, ◌≡◌, ℕ, zero, suc, ◌<◌, List, [], ◌∷◌, ◌++◌, length, Some, slice_get, map}
use Rattle.moka_recording.specs.declared.law.Claim.{Claim}
use Rattle.moka_recording.specs.declared.receipt.StoredReceipt.{StoredReceipt}
use Rattle.moka_recording.specs.declared.receipt.Receipt.{Receipt}
use Rattle.moka_recording.specs.History.{Each, Stands, claim}

-- What contracts see of a pass: its number, its receipts, and its claims: what the history has at the places of the
-- receipts, one by one.
pub record PassData (S R : Type 0) : Type 0 where
  pub number : ℕ
  pub receipts : List (StoredReceipt S R)
  pub claims : List (Claim S R)

module _ {S R : Type 0} where
  -- The steps and replies of a history, without the numbers of the passes.
  abbrev pub pairs : List (ℕ × S × R) → List (S × R)
  pairs log = map (λ (e : ℕ × S × R). (e.1, e.2)) log

  -- The passes of a new cache: numbered from 0, without receipts and claims.
  abbrev pub fresh_passes : ℕ → List (PassData S R)
  fresh_passes zero = []
  fresh_passes (suc n) = fresh_passes n ++ record { number = n; receipts = []; claims = [] } ∷ []

  -- One of the passes has this number.
  abbrev pub HasNumber : List (PassData S R) → ℕ → Type 0
  HasNumber passes number = (k : ℕ) × (p : PassData S R) × (slice_get passes k ≡ Some p) × (p.number ≡ number)

  -- All passes are here, each once: as many as were made, and each number is among them.
  abbrev pub IsWhole : ℕ → List (PassData S R) → Type 0
  IsWhole count passes = (length passes ≡ count) × ((number : ℕ) → number < count → HasNumber passes number)

  -- The number of each pass is its index.
  abbrev pub AreInOrder : List (PassData S R) → Type 0
  AreInOrder passes = (k : ℕ) (p : PassData S R) → slice_get passes k ≡ Some p → p.number ≡ k

  -- The places of these receipts rise.
  abbrev pub PlacesRise : List (StoredReceipt S R) → Type 0
  PlacesRise receipts =
      (j k : ℕ) (a b : StoredReceipt S R) → j < k → slice_get receipts j ≡ Some a → slice_get receipts k ≡ Some b
      → a.place < b.place

  -- The pass at this index has this receipt, at index `k` of its own.
  abbrev pub HasReceipt : List (PassData S R) → ℕ → ℕ → StoredReceipt S R → Type 0
  HasReceipt passes index k receipt =
      (p : PassData S R) × (slice_get passes index ≡ Some p) × (slice_get p.receipts k ≡ Some receipt)

  -- Two receipts of the same place are the same receipt of the same pass.
  abbrev pub AreApart : List (PassData S R) → Type 0
  AreApart passes =
      (i j k l : ℕ) (a b : StoredReceipt S R) → HasReceipt passes i k a → HasReceipt passes j l b
      → a.place ≡ b.place → (i ≡ j) × (k ≡ l)

  -- Each entry of the history is at the place of a receipt of the pass whose number the entry has.
  abbrev pub IsCovered : List (ℕ × S × R) → List (PassData S R) → Type 0
  IsCovered log passes =
      (place : ℕ) (e : ℕ × S × R) → slice_get log place ≡ Some e
      → (i k : ℕ) × (p : PassData S R) × (a : StoredReceipt S R) × (slice_get passes i ≡ Some p) × (p.number ≡ e.0)
      × (slice_get p.receipts k ≡ Some a) × (a.place ≡ place)

-- Given what it means of three steps, and of three replies, that they are of one call: the caller's, the history's and
-- the pass's.
module _ {S R : Type 0} (one_step : S → S → S → Type 0) (one_reply : R → R → R → Type 0) where
  -- What a pass of this number claims, and what it stores, are of one call.
  pub record IsOf (number : ℕ) (c : Claim S R) (k : StoredReceipt S R) : Type 0 where
    pub at : k.place ≡ c.place
    pub by : c.entry.0 ≡ number
    pub step : (given : S) × one_step given c.entry.1 k.step
    pub reply : (returned : R) × one_reply returned c.entry.2 k.reply

  -- The receipts of a pass correspond to its claims, one by one.
  abbrev pub AreOf : ℕ → List (Claim S R) → List (StoredReceipt S R) → Type 0
  AreOf number [] [] = ⊤
  AreOf number (c ∷ cs) (k ∷ ks) = IsOf number c k × AreOf number cs ks
  AreOf number [] (k ∷ ks) = ⊥
  AreOf number (c ∷ cs) [] = ⊥

  -- What a pass claims is in the history at its place, with the number of the pass. Its receipts correspond to that,
  -- one by one.
  pub record Stand (log : List (ℕ × S × R)) (pass : PassData S R) : Type 0 where
    pub claims : Stands log pass.claims
    pub receipts : AreOf pass.number pass.claims pass.receipts

  -- A call adds one receipt to a pass, at a place behind all that the pass had. The step and the reply of the caller, of
  -- the history and of the pass are of one call.
  pub record AddsReceipt (step : S) (old new : PassData S R) (receipt : Receipt R) : Type 0 where
    pub stored : StoredReceipt S R
    pub entry : ℕ × S × R
    pub adds : new ≡ record {
      number = old.number;
      receipts = old.receipts ++ stored ∷ [];
      claims = old.claims ++ claim receipt.place entry ∷ [];
    }
    pub at : stored.place ≡ receipt.place
    pub by : entry.0 ≡ old.number
    pub of_step : one_step step entry.1 stored.step
    pub of_reply : one_reply receipt.reply entry.2 stored.reply
    pub above : Each (λ (o : StoredReceipt S R). o.place < receipt.place) old.receipts
