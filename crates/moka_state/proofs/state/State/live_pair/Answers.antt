use Rattle.std.proofs.Common.{not, ◌||◌, max, ◌∙◌, ap, sym, refl, arith}
use Rattle.std.specs.Arc.{arc_value}
use Rattle.moka_model.specs.Lives.{has_come}
use Rattle.moka_rows.specs.declared.rows.EntryInfo.{EntryInfo}
use Rattle.moka_expiration.specs.ExpirationPolicy.{IsDated}
use Rattle.moka_expiration.proofs.Callers.{alive-kept}
use Rattle.moka_table.proofs.Callers.{of-row, same-row-key, same-row-value}
use Rattle.moka_state.proofs.Finds.{live-row, live-absent}
use Rattle.moka_state.proofs.Held.{same-key}
use Rattle.moka_state.proofs.state.State.live_pair.Goals as goal

pub returns-in_default : goal.returns-in_default
returns-in_default g c given steps stands =
    let s = c.self.inside in
    let none = live-absent g.K.PartialEq.eq g.met.K.Eq.laws _ s.table _ s.latest s.next_number given steps (rw (← c.self.view_is) at stands) _ c.hash-hash.ensures.alike c.self.invariant.0.hashed c.args.key.now c.args.now c.hash-hash.result c.hash-hash.ensures.hash c.in_default.ensures.absent in
    rw none tt

pub returns-then-is_dead : goal.returns-then-is_dead
returns-then-is_dead g c given steps stands =
    let s = c.self.inside in
    let row = c.row-row.result in
    let dated = of-row (λ r. IsDated s.housekeeper.lives r.info) c.in-Some.number _ row c.self.invariant.0.dated c.row-row.ensures in
    let key = same-key g.K.PartialEq.eq c.args.key.now c.hash-hash.result row (rw c.row-row.ensures at c.in-Some.ensures.found) in
    let alive = alive-kept s.housekeeper.lives row.info dated (max s.latest c.args.now) (omega (arith, c.max-now.ensures)) ∙ ap not (sym (ap (λ m. row.info.is_hidden || has_come row.info.deadline m) c.max-now.ensures) ∙ sym (ap (λ (i : EntryInfo). i.is_hidden || has_come i.deadline c.max-now.result) c.info.ensures) ∙ sym c.is_dead.ensures ∙ c.if-is_dead.true) in
    let it = live-row g.K.PartialEq.eq g.met.K.Eq.laws _ s.table _ s.latest s.next_number given steps (rw (← c.self.view_is) at stands) s.housekeeper.lives refl c.args.key.now c.args.now c.in-Some.number row c.row-row.ensures key _ alive in
    rw it tt

pub returns : goal.returns
returns g c given steps stands =
    let s = c.self.inside in
    let row = c.row-row.result in
    let dated = of-row (λ r. IsDated s.housekeeper.lives r.info) c.in-Some.number _ row c.self.invariant.0.dated c.row-row.ensures in
    let key = same-key g.K.PartialEq.eq c.args.key.now c.hash-hash.result row (rw c.row-row.ensures at c.in-Some.ensures.found) in
    let alive = alive-kept s.housekeeper.lives row.info dated (max s.latest c.args.now) (omega (arith, c.max-now.ensures)) ∙ ap not (sym (ap (λ m. row.info.is_hidden || has_come row.info.deadline m) c.max-now.ensures) ∙ sym (ap (λ (i : EntryInfo). i.is_hidden || has_come i.deadline c.max-now.result) c.info.ensures) ∙ sym c.is_dead.ensures ∙ c.if-is_dead.false) in
    let it = live-row g.K.PartialEq.eq g.met.K.Eq.laws _ s.table _ s.latest s.next_number given steps (rw (← c.self.view_is) at stands) s.housekeeper.lives refl c.args.key.now c.args.now c.in-Some.number row c.row-row.ensures key _ alive in
    rw it (c.in_ok-own.ensures.cases ∙ same-row-key _ _ c.row.view_is, rw (same-row-value _ _ c.row.view_is) at c.in_ok-value.ensures.cases)
