use Rattle.std.proofs.Common.{rules, ◌≡◌, ℕ, ◌<◌, ◌≤◌, ◌⊎◌, inl, inr, length, slice_index, sym, arith}
use Rattle.std.proofs.lemmas.Bool.{cases_lt}
use Rattle.moka_expiry_index.specs.MinTree.{leaf, never}
use Rattle.moka_expiry_index.proofs.SlotLemmas.{none-due, first-due}
use Rattle.moka_expiry_index.proofs.expiry_index.first_due_in.Goals as goal

pub returns-in_err-place : goal.returns-in_err-place
returns-in_err-place c =
    let none = none-due (slice_index c.args.numbers.now) (leaf c.args.nodes.now c.args.size) c.args.now (length c.args.numbers.now)
    (λ i within. c.in_err-place.ensures.none i (omega (arith, within, c.requires.few))) in
    rw none (search rules)

pub returns : goal.returns
returns c =
    let reached : c.args.now < never = c.requires.early in
    let come : leaf c.args.nodes.now c.args.size c.in_ok-place.place ≤ c.args.now = c.in_ok-place.ensures.at_most in
    let no_slot : leaf c.args.nodes.now c.args.size c.in_ok-place.place ≡ never → ⊥ = λ is. omega (arith, is, come, reached) in
    let within : c.in_ok-place.place < length c.args.numbers.now = go c.in_ok-place.place (length c.args.numbers.now) (cases_lt _ _) (λ more. no_slot (c.requires.behind c.in_ok-place.place more c.in_ok-place.ensures.within)) in
    sym (first-due (slice_index c.args.numbers.now) (leaf c.args.nodes.now c.args.size) c.args.now (length c.args.numbers.now) c.in_ok-place.place within
    (λ none. no_slot (c.requires.cleared c.in_ok-place.place within none)) come
    (none-due (slice_index c.args.numbers.now) (leaf c.args.nodes.now c.args.size) c.args.now c.in_ok-place.place (λ i less. c.in_ok-place.ensures.first i less)))
  where
    go : (p n : ℕ) → (p < n) ⊎ (n ≤ p) → (n ≤ p → ⊥) → p < n
    go p n (inl less) refused = less
    go p n (inr more) refused = absurd (refused more)
