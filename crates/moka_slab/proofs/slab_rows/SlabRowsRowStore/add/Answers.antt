use Rattle.std.proofs.Common.{Some, sym, ap, arith}
use Rattle.moka_index.proofs.Callers.{few-places}
use Rattle.std.specs.Prelude.{vec_capacity}
use Rattle.moka_slab.proofs.LivedLemmas.{lived-put}
use Rattle.moka_slab.proofs.RoomLemmas.{has-room, room-taken, room-within, room-if-taken}
use Rattle.moka_slab.proofs.TiedLemmas.{fresh-number, puts-update, added-tied, added-fresh, added-admitted, added-waiting}
use Rattle.moka_slab.proofs.slab_rows.SlabRowsRowStore.add.Goals as goal

pub insert_reserved-key-requires : goal.insert_reserved-key-requires
insert_reserved-key-requires g c = (has-room c.args.self.now.rows c.args.self.now.links (room-within (vec_capacity c.args.self.now.lives) c.args.self.now.rows.capacity _ c.requires).1).row

pub number_of-number-requires : goal.number_of-number-requires
number_of-number-requires g c =
    let within = (has-room c.args.self.now.rows c.args.self.now.links (room-within (vec_capacity c.args.self.now.lives) c.args.self.now.rows.capacity _ c.requires).1).place c.insert_reserved-key.result (omega (arith, c.insert_reserved-key.ensures.key_in_range, c.insert_reserved-key.ensures.capacity)) in
    let few = few-places c.args.self.now.links in
    omega (arith, within, few)

pub add-requires-clause-within : goal.add-requires-clause-within
add-requires-clause-within g c =
    rw c.number_of-number.ensures
    ((has-room c.args.self.now.rows c.args.self.now.links (room-within (vec_capacity c.args.self.now.lives) c.args.self.now.rows.capacity _ c.requires).1).place c.insert_reserved-key.result (omega (arith, c.insert_reserved-key.ensures.key_in_range, c.insert_reserved-key.ensures.capacity)))

pub add-requires-clause-room : goal.add-requires-clause-room
add-requires-clause-room g c = (has-room c.args.self.now.rows c.args.self.now.links (room-within (vec_capacity c.args.self.now.lives) c.args.self.now.rows.capacity _ c.requires).1).hash

pub returns-clause-room : goal.returns-clause-room
returns-clause-room g c =
    room-if-taken (vec_capacity c.args.self.now.lives) c.args.self.now.rows.capacity (vec_capacity c.put_lives.new.lives) c.insert_reserved-key.new.self.capacity _ _
    c.put_lives.ensures.capacity c.insert_reserved-key.ensures.capacity
    (room-taken c.args.self.now.rows c.insert_reserved-key.new.self c.args.self.now.links c.add.new.self c.insert_reserved-key.ensures.capacity c.insert_reserved-key.ensures.len
    c.add.ensures.places c.add.ensures.spare)

pub put_lives-requires : goal.put_lives-requires
put_lives-requires g c =
    let enough = (room-within (vec_capacity c.args.self.now.lives) c.args.self.now.rows.capacity _ c.requires).0 in
    omega (arith, enough, c.insert_reserved-key.ensures.key_in_range, c.insert_reserved-key.ensures.capacity)

pub add-requires-clause-absent : goal.add-requires-clause-absent
add-requires-clause-absent g c = fresh-number c.args.self.now.rows c.args.self.now.links c.number_of-number.result c.insert_reserved-key.result c.args.self.now.tied c.number_of-number.ensures c.insert_reserved-key.ensures.was_vacant

pub invariant_of-self : goal.invariant_of-self
invariant_of-self g c = record {
  tied = added-tied c.args.self.now.rows c.insert_reserved-key.new.self c.args.self.now.links c.add.new.self c.args.self.now.tied c.number_of-number.result c.args.row
      (puts-update c.args.self.now.rows c.insert_reserved-key.new.self c.number_of-number.result c.insert_reserved-key.result (Some c.args.row) c.number_of-number.ensures (rw c.new.ensures at c.insert_reserved-key.ensures.updates))
      (fresh-number c.args.self.now.rows c.args.self.now.links c.number_of-number.result c.insert_reserved-key.result c.args.self.now.tied c.number_of-number.ensures c.insert_reserved-key.ensures.was_vacant) c.add.ensures.admitted c.add.ensures.waiting
      c.add.ensures.hashed c.add.ensures.others;
  lived =
      let enough = (room-within (vec_capacity c.args.self.now.lives) c.args.self.now.rows.capacity _ c.requires).0 in
      lived-put c.args.self.now.rows c.insert_reserved-key.new.self c.insert_reserved-key.result c.args.row c.args.self.now.lives.items c.put_lives.new.lives.items
      (vec_capacity c.args.self.now.lives) (vec_capacity c.put_lives.new.lives) (rw c.new.ensures at c.insert_reserved-key.ensures.updates) c.args.self.now.lived
      (omega (arith, c.put_lives.ensures.capacity)) (omega (arith, c.put_lives.ensures.capacity, enough, c.insert_reserved-key.ensures.key_in_range, c.insert_reserved-key.ensures.capacity))
      (c.put_lives.ensures.put c.args.row.info (ap (λ i. i.deadline) (sym c.info-info.ensures)) (ap (λ i. i.own_life) (sym c.info-info.ensures))) c.put_lives.ensures.others;
}

pub returns-clause-fresh : goal.returns-clause-fresh
returns-clause-fresh g c =
    added-fresh c.args.self.now.rows c.insert_reserved-key.new.self c.args.self.now.links c.add.new.self c.args.self.now.tied c.number_of-number.result c.args.row
    (puts-update c.args.self.now.rows c.insert_reserved-key.new.self c.number_of-number.result c.insert_reserved-key.result (Some c.args.row) c.number_of-number.ensures (rw c.new.ensures at c.insert_reserved-key.ensures.updates))
    (fresh-number c.args.self.now.rows c.args.self.now.links c.number_of-number.result c.insert_reserved-key.result c.args.self.now.tied c.number_of-number.ensures c.insert_reserved-key.ensures.was_vacant) c.add.ensures.admitted c.add.ensures.waiting

pub returns-clause-waiting : goal.returns-clause-waiting
returns-clause-waiting g c =
    added-waiting c.args.self.now.rows c.insert_reserved-key.new.self c.args.self.now.links c.add.new.self c.args.self.now.tied c.number_of-number.result c.args.row
    (puts-update c.args.self.now.rows c.insert_reserved-key.new.self c.number_of-number.result c.insert_reserved-key.result (Some c.args.row) c.number_of-number.ensures (rw c.new.ensures at c.insert_reserved-key.ensures.updates))
    (fresh-number c.args.self.now.rows c.args.self.now.links c.number_of-number.result c.insert_reserved-key.result c.args.self.now.tied c.number_of-number.ensures c.insert_reserved-key.ensures.was_vacant) c.add.ensures.admitted c.add.ensures.waiting

pub returns-clause-admitted : goal.returns-clause-admitted
returns-clause-admitted g c =
    added-admitted c.args.self.now.rows c.insert_reserved-key.new.self c.args.self.now.links c.add.new.self c.args.self.now.tied c.number_of-number.result c.args.row
    (puts-update c.args.self.now.rows c.insert_reserved-key.new.self c.number_of-number.result c.insert_reserved-key.result (Some c.args.row) c.number_of-number.ensures (rw c.new.ensures at c.insert_reserved-key.ensures.updates))
    (fresh-number c.args.self.now.rows c.args.self.now.links c.number_of-number.result c.insert_reserved-key.result c.args.self.now.tied c.number_of-number.ensures c.insert_reserved-key.ensures.was_vacant) c.add.ensures.admitted c.add.ensures.waiting
