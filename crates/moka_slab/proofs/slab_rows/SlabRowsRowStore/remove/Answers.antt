use Rattle.std.proofs.Common.{◌≡◌, ℕ, ◌+◌, ◌-◌, ◌≤◌, None, refl, arith}
use Rattle.moka_index.proofs.Callers.{linked-above}
use Rattle.std.specs.Prelude.{vec_capacity}
use Rattle.moka_slab.proofs.LivedLemmas.{lived-dropped}
use Rattle.moka_slab.proofs.RoomLemmas.{room-kept, room-if}
use Rattle.moka_slab.proofs.TiedLemmas.{linked-found, puts-update, removed-tied, removed-rest, under-all, order-said}
use Rattle.moka_slab.proofs.slab_rows.SlabRowsRowStore.remove.Goals as goal

back : (n key : ℕ) → 2 ≤ n → key ≡ n - 2 → n ≡ key + 2
back n key above is = omega (arith, is)

pub info-info-requires : goal.info-info-requires
info-info-requires g c = linked-found c.args.self.now.rows c.args.self.now.links c.args.number c.requires

pub hash-hash-requires : goal.hash-hash-requires
hash-hash-requires g c = c.requires

pub remove-requires : goal.remove-requires
remove-requires g c = linked-found c.args.self.now.rows c.args.self.now.links c.args.number c.requires

pub key_of-requires : goal.key_of-requires
key_of-requires g c = linked-above c.args.self.now.links c.args.number (linked-found c.args.self.now.rows c.args.self.now.links c.args.number c.requires)

pub remove-requires-2 : goal.remove-requires-2
remove-requires-2 g c = rw c.key_of.ensures (c.args.self.now.tied.stored c.args.number (linked-found c.args.self.now.rows c.args.self.now.links c.args.number c.requires))

pub invariant_of-self : goal.invariant_of-self
invariant_of-self g c = record {
  tied = removed-tied c.args.self.now.rows c.remove-2.new.self c.args.self.now.links c.remove.new.self c.args.self.now.tied c.args.number c.remove-2.result (rw c.key_of.ensures at c.remove-2.ensures.value)
      (puts-update c.args.self.now.rows c.remove-2.new.self c.args.number c.key_of.result None (back c.args.number c.key_of.result (linked-above c.args.self.now.links c.args.number (linked-found c.args.self.now.rows c.args.self.now.links c.args.number c.requires)) c.key_of.ensures) c.remove-2.ensures.updates)
      (linked-found c.args.self.now.rows c.args.self.now.links c.args.number c.requires) c.remove.ensures.admitted c.remove.ensures.waiting c.remove.ensures.preserves.hash;
  lived = lived-dropped c.args.self.now.rows c.remove-2.new.self c.key_of.result c.args.self.now.lives.items (vec_capacity c.args.self.now.lives) c.remove-2.ensures.updates c.args.self.now.lived;
}

pub returns-clause-row : goal.returns-clause-row
returns-clause-row g c =
    let there = linked-found c.args.self.now.rows c.args.self.now.links c.args.number c.requires in
    let value = rw c.key_of.ensures at c.remove-2.ensures.value in
    let info : c.info-info.result ≡ c.remove-2.result.info = rw value at c.info-info.ensures in
    let under = under-all c.args.self.now.rows c.args.self.now.links c.args.number c.remove-2.result there value in
    let hash : c.hash-hash.result ≡ c.remove-2.result.hash = rw under at c.hash-hash.ensures in
    rw (c.into_key_and_value-key.ensures.key, c.into_key_and_value-key.ensures.value, c.new-info.ensures, info, hash) under

pub returns-clause-rest : goal.returns-clause-rest
returns-clause-rest g c =
    removed-rest c.args.self.now.rows c.remove-2.new.self c.args.self.now.links c.remove.new.self c.args.self.now.tied c.args.number c.remove-2.result (rw c.key_of.ensures at c.remove-2.ensures.value)
    (puts-update c.args.self.now.rows c.remove-2.new.self c.args.number c.key_of.result None (back c.args.number c.key_of.result (linked-above c.args.self.now.links c.args.number (linked-found c.args.self.now.rows c.args.self.now.links c.args.number c.requires)) c.key_of.ensures) c.remove-2.ensures.updates)
    (linked-found c.args.self.now.rows c.args.self.now.links c.args.number c.requires) c.remove.ensures.admitted c.remove.ensures.waiting

pub returns-clause-room : goal.returns-clause-room
returns-clause-room g c =
    room-if (vec_capacity c.args.self.now.lives) c.args.self.now.rows.capacity (vec_capacity c.args.self.now.lives) c.remove-2.new.self.capacity _ _ refl c.remove-2.ensures.capacity
    (room-kept c.args.self.now.rows c.remove-2.new.self c.args.self.now.links c.remove.new.self c.remove-2.ensures.capacity (omega (arith, c.remove-2.ensures.len))
    c.remove.ensures.preserves.places c.remove.ensures.preserves.spare)

pub returns-clause-order : goal.returns-clause-order
returns-clause-order g c =
    rw c.order-order.ensures
    (order-said c.args.self.now.rows c.args.self.now.links c.args.number c.remove-2.result c.remove.result (linked-found c.args.self.now.rows c.args.self.now.links c.args.number c.requires) (rw c.key_of.ensures at c.remove-2.ensures.value)
    c.remove.ensures.was_admitted c.remove.ensures.was_waiting)
