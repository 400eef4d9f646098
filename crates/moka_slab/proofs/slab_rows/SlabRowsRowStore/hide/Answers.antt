use Rattle.std.proofs.Common.{◌-◌, refl, ap, arith}
use Rattle.std.specs.Prelude.{vec_capacity}
use Rattle.moka_slab.proofs.LivedLemmas.{lived-changed}
use Rattle.slab.specs.Slab.{with_value}
use Rattle.moka_rows.specs.Rows.{hidden}
use Rattle.moka_index.proofs.Callers.{linked-above}
use Rattle.moka_slab.proofs.TiedLemmas.{linked-found, changed-tied, changed-admitted, changed-waiting}
use Rattle.moka_slab.proofs.RoomLemmas.{room-kept, room-if, len-write}
use Rattle.moka_slab.proofs.slab_rows.SlabRowsRowStore.hide.Goals as goal

pub key_of-requires : goal.key_of-requires
key_of-requires g c = linked-above c.args.self.now.links c.args.number (linked-found c.args.self.now.rows c.args.self.now.links c.args.number c.requires)

pub index_mut-requires : goal.index_mut-requires
index_mut-requires g c = rw c.key_of.ensures (c.args.self.now.tied.stored c.args.number (linked-found c.args.self.now.rows c.args.self.now.links c.args.number c.requires))

pub invariant_of-self : goal.invariant_of-self
invariant_of-self g c =
    let there = linked-found c.args.self.now.rows c.args.self.now.links c.args.number c.requires in
    let value = rw c.key_of.ensures at c.index_mut.ensures.value in
    rw c.key_of.ensures (record {
      tied = changed-tied c.args.self.now.rows c.args.self.now.links c.args.self.now.tied c.args.number c.index_mut.result.now c.hide.new.self hidden there value c.hide.ensures refl;
      lived = lived-changed c.args.self.now.rows (c.args.number - 2) c.index_mut.result.now c.hide.new.self c.args.self.now.lives.items (vec_capacity c.args.self.now.lives) value c.args.self.now.lived (ap (λ row. row.info.deadline) c.hide.ensures) (ap (λ row. row.info.own_life) c.hide.ensures);
    })

pub returns-clause-admitted : goal.returns-clause-admitted
returns-clause-admitted g c =
    let there = linked-found c.args.self.now.rows c.args.self.now.links c.args.number c.requires in
    let value = rw c.key_of.ensures at c.index_mut.ensures.value in
    rw c.key_of.ensures
    (changed-admitted c.args.self.now.rows c.args.self.now.links c.args.self.now.tied c.args.number c.index_mut.result.now c.hide.new.self hidden there value c.hide.ensures refl)

pub returns-clause-waiting : goal.returns-clause-waiting
returns-clause-waiting g c =
    let there = linked-found c.args.self.now.rows c.args.self.now.links c.args.number c.requires in
    let value = rw c.key_of.ensures at c.index_mut.ensures.value in
    rw c.key_of.ensures
    (changed-waiting c.args.self.now.rows c.args.self.now.links c.args.self.now.tied c.args.number c.index_mut.result.now c.hide.new.self hidden there value c.hide.ensures refl)

pub returns-clause-room : goal.returns-clause-room
returns-clause-room g c =
    let value = rw c.key_of.ensures at c.index_mut.ensures.value in
    rw c.key_of.ensures
    (room-if (vec_capacity c.args.self.now.lives) c.args.self.now.rows.capacity (vec_capacity c.args.self.now.lives) c.args.self.now.rows.capacity _ _ refl refl
    (room-kept c.args.self.now.rows (with_value c.args.self.now.rows (c.args.number - 2) c.hide.new.self) c.args.self.now.links c.args.self.now.links refl
    (omega (arith, len-write c.args.self.now.rows (c.args.number - 2) c.index_mut.result.now c.hide.new.self value)) (omega arith) (omega arith)))
