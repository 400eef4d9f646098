-- Tables of counters that a note halves.
use Rattle.std.proofs.Common.{◌≡◌, ℕ, ◌/◌, ◌≤◌, List, length, map, min, take, drop, ◌++◌, arith, ◌∙◌, append-nil}
use Rattle.std.proofs.lemmas.List.{length-map, drop_all, take_all}
use Rattle.std.proofs.lemmas.List.Elements.{All-map}
use Rattle.std.proofs.lemmas.Nat.{pow_pos}
use Rattle.std.specs.List.{All}
use Rattle.moka_policy.specs.Frequency.{IsTable, counter_count}

-- halving the counters keeps the table's invariant, with 0 notes
pub halved_is_table : (bits : ℕ) (counters : List ℕ) → length counters ≡ counter_count bits → All (λ count. count ≤ 15) counters → IsTable bits (record { counters = map (λ count. count / 2) counters; notes = 0 })
halved_is_table bits counters length_is at_most_15 = record {
  length_is = length-map counters (λ (count : ℕ). count / 2) ∙ length_is;
  notes_below = omega (arith, pow_pos (min bits 20));
  at_most_15 = All-map (λ count. count ≤ 15) (λ (count : ℕ). count / 2) counters (λ k d within. omega (arith, at_most_15 k d within));
}

-- a list of length n that is overwritten completely
pub written_over : (n : ℕ) (written before : List ℕ) → length written ≡ n → length before ≡ n → take n (written ++ drop (length written) before) ≡ written
written_over n written before length_written length_before =
    let nothing_left = drop_all (length written) before (omega arith) in
    rw (nothing_left, append-nil) (take_all n written (omega arith))
