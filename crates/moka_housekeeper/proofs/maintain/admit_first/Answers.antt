use Rattle.std.proofs.Common.{true, false, None, refl, sym, ◌∙◌}
use Rattle.moka_model.specs.Maintenance.{front}
use Rattle.moka_model.proofs.Callers.{admitting, dropping}
use Rattle.moka_table.specs.Table.{weight_of}
use Rattle.moka_housekeeper.proofs.Verdicts.{first-stored, judges-by, admits-does, admits-lru, drops-heavy}
use Rattle.moka_housekeeper.proofs.maintain.admit_first.Goals as goal

pub row-requires : goal.row-requires
row-requires g c = first-stored c.args.table.now c.args.first c.requires.first

pub returns-then-fits-clause-judged : goal.returns-then-fits-clause-judged
returns-then-fits-clause-judged g c frequency_of =
    let old = c.args.table.now in
    let row = c.row.result in
    let count = front weight_of c.args.capacity row.info.policy_weight old.admitted in
    let alone = rw c.info-weight.ensures at (sym c.fits.ensures ∙ c.if-fits.true) in
    judges-by true frequency_of c.args.capacity old c.admit.new.self c.args.first row None None false c.requires.apart c.requires.first c.row.ensures
    (λ rest. admitting count old.admitted (c.args.first, row) rest)
    (λ rest. admits-lru true frequency_of c.args.capacity old.admitted c.args.first row rest alone count refl refl)
    (λ rest waited. admits-does true frequency_of c.args.capacity old c.admit.new.self c.args.first row None None false c.requires.apart c.requires.first c.row.ensures rest waited
    c.evict_until_fits.new.table
    (rw c.info-weight.ensures at c.evict_until_fits.ensures.admitted)
    c.evict_until_fits.ensures.waiting
    (rw c.info-weight.ensures at c.evict_until_fits.ensures.notices)
    c.admit.ensures.waiting c.admit.ensures.admitted c.admit.ensures.notices
    refl refl)

pub returns-else-fits-clause-judged : goal.returns-else-fits-clause-judged
returns-else-fits-clause-judged g c frequency_of =
    let old = c.args.table.now in
    let row = c.row.result in
    judges-by true frequency_of c.args.capacity old c.drop_first.new.table c.args.first row None None false c.requires.apart c.requires.first c.row.ensures
    (λ rest. dropping old.admitted (c.args.first, row) rest)
    (λ rest. drops-heavy true frequency_of c.args.capacity old.admitted c.args.first row rest (rw c.info-weight.ensures at (sym c.fits.ensures ∙ c.if-fits.false)))
    (λ rest waited. let dropped = c.drop_first.ensures.dropped row rest waited in record {
      orders = dropped.orders;
      notices = dropped.notices;
      rest_is = refl;
      left = refl;
    })
