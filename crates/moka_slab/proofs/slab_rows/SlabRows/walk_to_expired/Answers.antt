use Rattle.std.proofs.Common.{◌≡◌, [], ◌∷◌, ◌++◌, sym, ◌∙◌, arith}
use Rattle.moka_index.specs.RowIndex.{admitted_of}
use Rattle.moka_slab.proofs.Walks.{walks-first, walks-end, walks-more, walks-here, walks-linked, walks-admitted, walks-expired, walks-alive}
use Rattle.moka_slab.specs.NumberedRows.{row_at}
use Rattle.moka_slab.proofs.NumberedLemmas.{some-of}
use Rattle.moka_slab.proofs.slab_rows.SlabRows.walk_to_expired.Goals as goal

pub loop-init : goal.loop-init
loop-init g c = ([], admitted_of c.args.self.now.links, walks-first c.args.self.now.rows c.args.self.now.links c.args.now c.first_admitted-cursor.result c.first_admitted-cursor.ensures)

pub info-requires : goal.info-requires
info-requires g c =
    let on = rw c.in-Some.is at c.loop.invariant in
    walks-linked c.args.self.now.rows c.args.self.now.links c.args.now c.in-Some.at c.loop.counter on.0 on.1 on.2

pub returns-then-is_expired : goal.returns-then-is_expired
returns-then-is_expired g c =
    let on = rw c.in-Some.is at c.loop.invariant in
    let there = walks-linked c.args.self.now.rows c.args.self.now.links c.args.now c.in-Some.at c.loop.counter on.0 on.1 on.2 in
    let r = some-of (row_at c.args.self.now.rows c.in-Some.at) (c.args.self.now.tied.stored c.in-Some.at there) in
    let info : c.info.result ≡ r.0.info = rw r.1 at c.info.ensures in
    walks-expired c.args.self.now.rows c.args.self.now.links c.args.now c.in-Some.at c.loop.counter on.0 on.1 on.2 r.0 r.1 (sym (rw info at c.is_expired.ensures) ∙ c.if-is_expired.true)

pub next-cursor-requires : goal.next-cursor-requires
next-cursor-requires g c =
    let on = rw c.in-Some.is at c.loop.invariant in
    walks-linked c.args.self.now.rows c.args.self.now.links c.args.now c.in-Some.at c.loop.counter on.0 on.1 on.2

pub loop-preserved : goal.loop-preserved
loop-preserved g c =
    let on = rw c.in-Some.is at c.loop.invariant in
    let there = walks-linked c.args.self.now.rows c.args.self.now.links c.args.now c.in-Some.at c.loop.counter on.0 on.1 on.2 in
    let r = some-of (row_at c.args.self.now.rows c.in-Some.at) (c.args.self.now.tied.stored c.in-Some.at there) in
    let info : c.info.result ≡ r.0.info = rw r.1 at c.info.ensures in
    let next = c.next-cursor.ensures.admitted (walks-admitted c.args.self.now.rows c.args.self.now.links c.args.now c.in-Some.at c.loop.counter on.0 on.1 on.2) in (
      on.0 ++ c.in-Some.at ∷ [],
      (walks-here c.args.self.now.rows c.args.self.now.links c.args.now c.in-Some.at c.loop.counter on.0 on.1 on.2).0,
      walks-alive c.args.self.now.rows c.args.self.now.links c.args.now c.in-Some.at c.loop.counter on.0 on.1 on.2 r.0 r.1 (sym (rw info at c.is_expired.ensures) ∙ c.if-is_expired.false)
          c.next-cursor.result next,
    )

pub unreachable-requires : goal.unreachable-requires
unreachable-requires g c =
    let on = rw c.in-None.is at c.loop.invariant in
    walks-more c.args.self.now.rows c.args.self.now.links c.args.now c.loop.counter on.0 on.1 on.2 (omega (arith, c.loop-test.true, c.admitted_len-end.ensures))

pub returns : goal.returns
returns g c =
    let on = c.loop.invariant in
    walks-end c.args.self.now.rows c.args.self.now.links c.args.now c.loop.cursor c.loop.counter on.0 on.1 on.2 (omega (arith, c.loop-test.false, c.admitted_len-end.ensures))
