use Rattle.std.proofs.Common.{◌≡◌, ◌-◌, Some, refl, ap, subst, arith}
use Rattle.std.specs.Prelude.{vec_capacity}
use Rattle.slab.specs.Slab.{with_value}
use Rattle.moka_rows.specs.Rows.{touched}
use Rattle.moka_index.proofs.Callers.{linked-above}
use Rattle.moka_slab.specs.NumberedRows.{row_at}
use Rattle.moka_slab.proofs.TiedLemmas.{linked-found, Puts, puts-write, write-updates, used-tied, used-orders, under-all, order-said}
use Rattle.moka_slab.proofs.LivedLemmas.{lived-put}
use Rattle.moka_slab.proofs.RoomLemmas.{room-kept, room-if, len-write}
use Rattle.moka_slab.proofs.slab_rows.SlabRowsRowStore.touch.Goals as goal

pub info-info-requires : goal.info-info-requires
info-info-requires g c = linked-found c.args.self.now.rows c.args.self.now.links c.args.number c.requires

pub key_of-key-requires : goal.key_of-key-requires
key_of-key-requires g c = linked-above c.args.self.now.links c.args.number (linked-found c.args.self.now.rows c.args.self.now.links c.args.number c.requires)

pub index_mut-requires : goal.index_mut-requires
index_mut-requires g c = rw c.key_of-key.ensures (c.args.self.now.tied.stored c.args.number (linked-found c.args.self.now.rows c.args.self.now.links c.args.number c.requires))

pub put_lives-requires : goal.put_lives-requires
put_lives-requires g c =
    let value = rw c.key_of-key.ensures at c.index_mut.ensures.value in
    rw c.key_of-key.ensures (c.args.self.now.lived (c.args.number - 2) c.index_mut.result.now value).0

pub touch-is_admitted-requires : goal.touch-is_admitted-requires
touch-is_admitted-requires g c = linked-found c.args.self.now.rows c.args.self.now.links c.args.number c.requires

pub invariant_of-self : goal.invariant_of-self
invariant_of-self g c =
    let there = linked-found c.args.self.now.rows c.args.self.now.links c.args.number c.requires in
    let value = rw c.key_of-key.ensures at c.index_mut.ensures.value in
    let rows = with_value c.args.self.now.rows (c.args.number - 2) c.touch.new.self in
    let written = puts-write c.args.self.now.rows c.args.number c.index_mut.result.now c.touch.new.self (linked-above c.args.self.now.links c.args.number there) value in
    let puts = subst (λ x. Puts c.args.self.now.rows rows c.args.number (Some x)) c.touch.ensures written in
    let capacity = c.put_lives.ensures.capacity in
    let within = (c.args.self.now.lived (c.args.number - 2) c.index_mut.result.now value).0 in
    rw c.key_of-key.ensures (record {
      tied = used-tied c.args.self.now.rows rows c.args.self.now.links c.touch-is_admitted.new.self c.args.self.now.tied c.args.number c.index_mut.result.now (touched c.args.touch) value
          puts refl there c.touch-is_admitted.result c.touch-is_admitted.ensures.admitted c.touch-is_admitted.ensures.waits c.touch-is_admitted.ensures.waiting c.touch-is_admitted.ensures.preserves.hash;
      lived = lived-put c.args.self.now.rows rows (c.args.number - 2) c.touch.new.self c.args.self.now.lives.items c.put_lives.new.lives.items (vec_capacity c.args.self.now.lives) (vec_capacity c.put_lives.new.lives)
          (write-updates c.args.self.now.rows (c.args.number - 2) c.index_mut.result.now c.touch.new.self value) c.args.self.now.lived (omega (arith, capacity)) (omega (arith, capacity, within))
          (rw c.key_of-key.ensures at (c.put_lives.ensures.put c.touch.new.self.info (ap (λ row. row.info.deadline) c.touch.ensures) (ap (λ row. row.info.own_life) c.touch.ensures)))
          (rw c.key_of-key.ensures at c.put_lives.ensures.others);
    })

pub returns-clause-after : goal.returns-clause-after
returns-clause-after g c =
    let there = linked-found c.args.self.now.rows c.args.self.now.links c.args.number c.requires in
    let value = rw c.key_of-key.ensures at c.index_mut.ensures.value in
    let rows = with_value c.args.self.now.rows (c.args.number - 2) c.touch.new.self in
    let puts = subst (λ x. Puts c.args.self.now.rows rows c.args.number (Some x)) c.touch.ensures
    (puts-write c.args.self.now.rows c.args.number c.index_mut.result.now c.touch.new.self (linked-above c.args.self.now.links c.args.number there) value) in
    rw c.key_of-key.ensures
    (used-orders c.args.self.now.rows rows c.args.self.now.links c.touch-is_admitted.new.self c.args.self.now.tied c.args.number c.index_mut.result.now (touched c.args.touch) value
    puts refl there c.touch-is_admitted.result c.touch-is_admitted.ensures.admitted c.touch-is_admitted.ensures.waits c.touch-is_admitted.ensures.waiting)

pub returns-clause-room : goal.returns-clause-room
returns-clause-room g c =
    let value = rw c.key_of-key.ensures at c.index_mut.ensures.value in
    rw c.key_of-key.ensures
    (room-if (vec_capacity c.args.self.now.lives) c.args.self.now.rows.capacity (vec_capacity c.put_lives.new.lives) c.args.self.now.rows.capacity _ _ c.put_lives.ensures.capacity refl
    (room-kept c.args.self.now.rows (with_value c.args.self.now.rows (c.args.number - 2) c.touch.new.self) c.args.self.now.links c.touch-is_admitted.new.self refl
    (omega (arith, len-write c.args.self.now.rows (c.args.number - 2) c.index_mut.result.now c.touch.new.self value)) c.touch-is_admitted.ensures.preserves.places c.touch-is_admitted.ensures.preserves.spare))

pub returns-clause-before : goal.returns-clause-before
returns-clause-before g c =
    let there = linked-found c.args.self.now.rows c.args.self.now.links c.args.number c.requires in
    let value : row_at c.args.self.now.rows c.args.number ≡ Some c.index_mut.result.now = rw c.key_of-key.ensures at c.index_mut.ensures.value in
    rw (under-all c.args.self.now.rows c.args.self.now.links c.args.number c.index_mut.result.now there value) (rw value at c.info-info.ensures)

pub returns-clause-order : goal.returns-clause-order
returns-clause-order g c =
    rw c.order.ensures
    (order-said c.args.self.now.rows c.args.self.now.links c.args.number c.index_mut.result.now c.touch-is_admitted.result (linked-found c.args.self.now.rows c.args.self.now.links c.args.number c.requires) (rw c.key_of-key.ensures at c.index_mut.ensures.value)
    (λ a. (c.touch-is_admitted.ensures.admitted a).0) (λ w. (c.touch-is_admitted.ensures.waits w).0))
