use Rattle.std.proofs.Common.{◌≡◌, ◌*◌, vec_len, vec_capacity, slice_index}
use Rattle.moka_expiry_index.specs.MinTree.{leaf}
use Rattle.moka_expiry_index.proofs.Closing.{Closes}
use Rattle.moka_expiry_index.proofs.expiry_index.close_gaps.Given as goal

-- the slots before this one are closed
abbrev pub invariant-loop-place : goal.invariant-loop-place
invariant-loop-place l = record {
  long : vec_len l.nodes ≡ 2 * l.size;
  numbers : vec_len l.numbers ≡ vec_len l.fn.numbers;
  capacity : vec_capacity l.numbers ≡ vec_capacity l.fn.numbers;
  places : vec_len l.places ≡ vec_len l.fn.places;
  closes : Closes (slice_index l.fn.numbers.items) (leaf l.fn.nodes.items l.size) (slice_index l.fn.places.items)
      (slice_index l.numbers.items) (leaf l.nodes.items l.size) (slice_index l.places.items) (vec_len l.fn.places) l.retained l.place;
}
