use Rattle.std.proofs.Common.{◌+◌, [], refl, sym, ap, subst, ◌∙◌, append-nil, arith}
use Rattle.moka_model.specs.Maintenance.{front}
use Rattle.moka_model.proofs.Callers.{front-le, front-fits}
use Rattle.moka_table.specs.Table.{weight_of}
use Rattle.moka_housekeeper.specs.Maintain.{is_within}
use Rattle.moka_housekeeper.proofs.Judging.{fits-within}
use Rattle.moka_housekeeper.proofs.Maintaining.{EvictsFirst, evicts-on}
use Rattle.moka_housekeeper.proofs.Shrinking.{length-heavy, front-heavy}
use Rattle.moka_housekeeper.proofs.maintain.evict_until_fits.Goals as goal

pub loop-capacity-init : goal.loop-capacity-init
loop-capacity-init g c = record {
  may_hide = refl;
  room = omega arith;
  evicts = record {
    enough = front-le weight_of c.args.capacity c.args.more c.args.table.now.admitted;
    admitted = refl;
    waiting = refl;
    notices = refl;
  };
}

pub evict_first-requires : goal.evict_first-requires
evict_first-requires g c =
    let rows = c.loop-capacity.table.admitted in
    let heavy = fits-within c.args.capacity c.args.more rows ∙ ap (λ w. is_within c.args.capacity (c.args.more + w)) (sym c.admitted_weight.ensures) ∙ sym c.fits.ensures ∙ c.loop-capacity-test.true in
    length-heavy c.args.capacity c.args.more (fits-within c.args.capacity c.args.more [] ∙ c.requires) rows heavy

pub loop-capacity-preserved : goal.loop-capacity-preserved
loop-capacity-preserved g c =
    let first = c.args.table.now in
    let table = c.loop-capacity.table in
    let heavy = fits-within c.args.capacity c.args.more table.admitted ∙ ap (λ w. is_within c.args.capacity (c.args.more + w)) (sym c.admitted_weight.ensures) ∙ sym c.fits.ensures ∙ c.loop-capacity-test.true in
    let evicted = c.evict_first.ensures.evicted in
    let count = front weight_of c.args.capacity c.args.more first.admitted in
    let left = front weight_of c.args.capacity c.args.more c.evict_first.new.self.admitted in
    record {
      may_hide = c.evict_first.ensures.may_hide ∙ c.loop-capacity.invariant.may_hide;
      room = omega (arith, c.loop-capacity.invariant.room, c.evict_first.ensures.room);
      evicts = evicts-on count first table left
          (subst (EvictsFirst count first table) (front-heavy c.args.capacity c.args.more table.admitted evicted.0 c.evict_first.new.self.admitted evicted.1.admitted heavy) c.loop-capacity.invariant.evicts)
          evicted.0 c.evict_first.new.self evicted.1;
    }

pub returns : goal.returns
returns g c =
    let first = c.args.table.now in
    let table = c.loop-capacity.table in
    let fit = fits-within c.args.capacity c.args.more table.admitted ∙ ap (λ w. is_within c.args.capacity (c.args.more + w)) (sym c.admitted_weight.ensures) ∙ sym c.fits.ensures ∙ c.loop-capacity-test.false in
    let done = subst (EvictsFirst (front weight_of c.args.capacity c.args.more first.admitted) first table) (front-fits weight_of c.args.capacity c.args.more table.admitted fit) c.loop-capacity.invariant.evicts in
    record {
      admitted = done.admitted;
      waiting = done.waiting;
      notices = sym (append-nil table.notices) ∙ done.notices;
      room = c.loop-capacity.invariant.room;
      may_hide = c.loop-capacity.invariant.may_hide;
    }
