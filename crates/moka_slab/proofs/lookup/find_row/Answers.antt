use Rattle.std.proofs.Common.{sym, ap, ◌∙◌}
use Rattle.std.specs.Arc.{arc_value}
use Rattle.moka_slab.proofs.FindLemmas.{sought-first, going, going-fits, sought-next, sought-found, sought-stored, sought-absent, going-reads, going-counted, all-reads, all-counted}
use Rattle.moka_slab.proofs.lookup.find_row.Goals as goal

pub loop-at-init : goal.loop-at-init
loop-at-init g c = rw (c.first-at.ensures, c.requires) (sought-first c.args.rows.store.now.rows c.args.rows.store.now.links c.args.rows.store.now.tied g.K.PartialEq.eq c.args.key.now c.args.hash)

pub read_counted-row-requires-clause-linked : goal.read_counted-row-requires-clause-linked
read_counted-row-requires-clause-linked g c = (going c.args.rows.store.now.rows c.args.rows.store.now.links c.args.rows.store.now.tied g.K.PartialEq.eq c.args.key.now c.args.hash c.loop-at.at c.loop-at.reads c.in-Some.number c.in-Some.is c.loop-at.invariant).linked

pub read_counted-row-requires-clause-fits : goal.read_counted-row-requires-clause-fits
read_counted-row-requires-clause-fits g c = going-fits c.args.rows.store.now.rows c.args.rows.store.now.links c.args.rows.store.now.tied g.K.PartialEq.eq c.args.key.now c.args.hash c.loop-at.reads c.in-Some.number (going c.args.rows.store.now.rows c.args.rows.store.now.links c.args.rows.store.now.tied g.K.PartialEq.eq c.args.key.now c.args.hash c.loop-at.at c.loop-at.reads c.in-Some.number c.in-Some.is c.loop-at.invariant)

pub returns-then-eq-clause-found : goal.returns-then-eq-clause-found
returns-then-eq-clause-found g c =
    sought-found c.args.rows.store.now.rows c.args.rows.store.now.links c.args.rows.store.now.tied g.K.PartialEq.eq c.args.key.now c.args.hash c.loop-at.reads c.in-Some.number c.read_counted-row.result.now
    (going c.args.rows.store.now.rows c.args.rows.store.now.links c.args.rows.store.now.tied g.K.PartialEq.eq c.args.key.now c.args.hash c.loop-at.at c.loop-at.reads c.in-Some.number c.in-Some.is c.loop-at.invariant) c.read_counted-row.ensures.row (ap (λ k. g.K.PartialEq.eq k c.args.key.now) (sym (c.deref.ensures ∙ ap arc_value c.key.ensures)) ∙ sym c.eq.ensures ∙ c.if-eq.true)

pub returns-then-eq-clause-stored : goal.returns-then-eq-clause-stored
returns-then-eq-clause-stored g c = sought-stored c.args.rows.store.now.rows c.args.rows.store.now.links c.args.rows.store.now.tied g.K.PartialEq.eq c.args.key.now c.args.hash c.loop-at.reads c.in-Some.number (going c.args.rows.store.now.rows c.args.rows.store.now.links c.args.rows.store.now.tied g.K.PartialEq.eq c.args.key.now c.args.hash c.loop-at.at c.loop-at.reads c.in-Some.number c.in-Some.is c.loop-at.invariant)

pub returns-then-eq-clause-counted : goal.returns-then-eq-clause-counted
returns-then-eq-clause-counted g c = rw c.read_counted-row.ensures.counted (going-counted c.args.rows.store.now.rows c.args.rows.store.now.links c.args.rows.store.now.tied g.K.PartialEq.eq c.args.key.now c.args.hash c.loop-at.reads c.in-Some.number (going c.args.rows.store.now.rows c.args.rows.store.now.links c.args.rows.store.now.tied g.K.PartialEq.eq c.args.key.now c.args.hash c.loop-at.at c.loop-at.reads c.in-Some.number c.in-Some.is c.loop-at.invariant))

pub returns-then-eq-clause-few : goal.returns-then-eq-clause-few
returns-then-eq-clause-few g c = rw c.read_counted-row.ensures.counted (going-reads c.args.rows.store.now.rows c.args.rows.store.now.links c.args.rows.store.now.tied g.K.PartialEq.eq c.args.key.now c.args.hash c.loop-at.reads c.in-Some.number (going c.args.rows.store.now.rows c.args.rows.store.now.links c.args.rows.store.now.tied g.K.PartialEq.eq c.args.key.now c.args.hash c.loop-at.at c.loop-at.reads c.in-Some.number c.in-Some.is c.loop-at.invariant))

pub next_in_chain-at-requires : goal.next_in_chain-at-requires
next_in_chain-at-requires g c = (going c.args.rows.store.now.rows c.args.rows.store.now.links c.args.rows.store.now.tied g.K.PartialEq.eq c.args.key.now c.args.hash c.loop-at.at c.loop-at.reads c.in-Some.number c.in-Some.is c.loop-at.invariant).linked

pub loop-at-preserved : goal.loop-at-preserved
loop-at-preserved g c =
    rw (c.next_in_chain-at.ensures, c.read_counted-row.ensures.counted)
    (sought-next c.args.rows.store.now.rows c.args.rows.store.now.links c.args.rows.store.now.tied g.K.PartialEq.eq c.args.key.now c.args.hash c.loop-at.reads c.in-Some.number c.read_counted-row.result.now
    (going c.args.rows.store.now.rows c.args.rows.store.now.links c.args.rows.store.now.tied g.K.PartialEq.eq c.args.key.now c.args.hash c.loop-at.at c.loop-at.reads c.in-Some.number c.in-Some.is c.loop-at.invariant) c.read_counted-row.ensures.row (ap (λ k. g.K.PartialEq.eq k c.args.key.now) (sym (c.deref.ensures ∙ ap arc_value c.key.ensures)) ∙ sym c.eq.ensures ∙ c.if-eq.false))

pub returns-clause-absent : goal.returns-clause-absent
returns-clause-absent g c = sought-absent c.args.rows.store.now.rows c.args.rows.store.now.links c.args.rows.store.now.tied g.K.PartialEq.eq c.args.key.now c.args.hash c.loop-at.reads (rw c.in_default.is at c.loop-at.invariant)

pub returns-clause-counted : goal.returns-clause-counted
returns-clause-counted g c = all-counted c.args.rows.store.now.rows c.args.rows.store.now.links c.args.rows.store.now.tied g.K.PartialEq.eq c.args.key.now c.args.hash c.loop-at.reads (rw c.in_default.is at c.loop-at.invariant)

pub returns-clause-few : goal.returns-clause-few
returns-clause-few g c = all-reads c.args.rows.store.now.rows c.args.rows.store.now.links c.args.rows.store.now.tied g.K.PartialEq.eq c.args.key.now c.args.hash c.loop-at.reads (rw c.in_default.is at c.loop-at.invariant)
