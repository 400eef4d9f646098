-- What the crates above may use of the proofs here: numbers in lists, links one by one, and what holds of all that stand.
pub use Rattle.moka_index.proofs.PathLemmas.{IsApart, apart-counted, absent-without, among-push, among-without, among-others}
pub use Rattle.moka_index.proofs.PathLemmas.{without-here, without-there, without-absent, among-front, among-back, among-parts, last-stays, no-more, few-below}
pub use Rattle.moka_index.proofs.ChainLemmas.{IsLine}
use Rattle.std.proofs.Common.{◌≡◌, ℕ, ◌<◌, ◌≤◌, ◌^◌, Bool, true, false, length, arith}
use Rattle.moka_index.specs.Paths.{IsAmong, IsAbsent}
use Rattle.moka_index.specs.RowIndex.{IsLinked, admitted_of, waiting_of, numbers_of, hash_at, first_at, same_at, chain_of, places_of}
use Rattle.moka_index.specs.declared.row_index.RowIndex.{RowIndex}
use Rattle.moka_index.proofs.DequeLemmas.{not-both, few-ordered, in-admitted as among-admitted, in-waiting as among-waiting}
use Rattle.moka_index.proofs.IndexLemmas.{Chained, chained-in, stands-among, among-stands, number-within, number-above}

-- a linked number is that of a row, and has a place
pub linked-above : (l : RowIndex) (k : ℕ) → IsLinked l k → 2 ≤ k
linked-above l k q = number-above l.orders k q

pub linked-within : (l : RowIndex) (k : ℕ) → IsLinked l k → k < places_of l
linked-within l k q = number-within l.orders k q

pub linked-among : (l : RowIndex) (k : ℕ) → IsAmong k (numbers_of l) → IsLinked l k
linked-among l k q = stands-among l.orders k q

pub among-linked : (l : RowIndex) (k : ℕ) → IsLinked l k → IsAmong k (numbers_of l)
among-linked l k q = among-stands l.orders k q

-- a place has at most 32 bits
pub few-places : (l : RowIndex) → places_of l ≤ 2 ^ 32
few-places l = l.orders.ringed.few

-- a number is in one order, and only once
pub linked-once : (l : RowIndex) (k : ℕ) → IsAmong k (admitted_of l) → IsAbsent k (waiting_of l)
linked-once l k p q = not-both l.orders.nodes.items (admitted_of l) (waiting_of l) k l.orders.ringed p q

pub admitted-apart : (l : RowIndex) → IsApart (admitted_of l)
admitted-apart l = apart-counted (admitted_of l) l.orders.ringed.first.apart

pub waiting-apart : (l : RowIndex) → IsApart (waiting_of l)
waiting-apart l = apart-counted (waiting_of l) l.orders.ringed.second.apart

-- the chains of the hashes
pub linked-chains : (l : RowIndex) → Chained (same_at l) (hash_at l) (first_at l) (numbers_of l) (chain_of l)
linked-chains l = chained-in l.orders l.bucket_heads l.indexed

-- each order has at most 2^32 numbers
pub few-linked : (l : RowIndex) → (length (admitted_of l) ≤ 2 ^ 32) × (length (waiting_of l) ≤ 2 ^ 32)
few-linked l =
    let few = l.orders.ringed.few in
    let first = few-ordered l.orders.nodes.items 0 true (admitted_of l) l.orders.ringed.first in
    let second = few-ordered l.orders.nodes.items 1 false (waiting_of l) l.orders.ringed.second in
    (omega (arith, few, first), omega (arith, few, second))

-- the order of a number, by what `is_admitted` returns
pub in-admitted : (l : RowIndex) (k : ℕ) (said : Bool) → IsLinked l k
    → (IsAmong k (waiting_of l) → said ≡ false) → said ≡ true → IsAmong k (admitted_of l)
in-admitted l k said there waits is = among-admitted (admitted_of l) (waiting_of l) k said there waits is

pub in-waiting : (l : RowIndex) (k : ℕ) (said : Bool) → IsLinked l k
    → (IsAmong k (admitted_of l) → said ≡ true) → said ≡ false → IsAmong k (waiting_of l)
in-waiting l k said there admitted is = among-waiting (admitted_of l) (waiting_of l) k said there admitted is
