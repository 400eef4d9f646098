use Rattle.std.proofs.Common.{refl, sym, ap, ◌∙◌, arith, rules}
use Rattle.moka_recording.specs.Receipts.{IsWhole}
use Rattle.moka_recording.specs.History.{with_claims}
use Rattle.moka_recording.proofs.Apart.{apart, covered}
use Rattle.moka_recording.proofs.Moves.{compares, takes}
use Rattle.moka_recording.proofs.Tokens.{heard_is_built}
use Rattle.moka_recording.proofs.recorded.Recorded.close.Goals as goal

pub returns-then-not-are_all_passes-clause-missing : goal.returns-then-not-are_all_passes-clause-missing
returns-then-not-are_all_passes-clause-missing g c = (refl, refl, λ (w : IsWhole c.args.self.count c.args.passes.items). let n = ap (λ d. d.count) c.self.view_is in let t = c.are_all_passes.ensures.1 (rw (n, c.as_slice.ensures.value) w) in search rules)

pub join_seat-requires : goal.join_seat-requires
join_seat-requires g c =
    let w = c.self.invariant.1 in
    (c.machine.invariant.1 ∙ sym c.self.invariant.0, ap (λ t. t.table_id) c.into_token-witness.ensures ∙ c.self.invariant.3 ∙ sym c.self.invariant.0, ap (λ t. t.me.1) c.into_token-witness.ensures ∙ c.self.invariant.4, omega arith, takes _ _ _ _)

pub load-requires : goal.load-requires
load-requires g c =
    let w = c.self.invariant.1 in (
      c.join_seat.ensures.0 ∙ c.machine.invariant.1 ∙ sym c.self.invariant.0,
      omega arith,
      compares c.self.inside.history.shared.table_id.slots _ 0 _ _ (ap (λ m. m.0.is_recorder) c.join_seat.ensures.2 ∙ ap (λ m. m.0.is_recorder) c.machine.invariant.0.2),
    )

pub take_all_back-requires-clause-token : goal.take_all_back-requires-clause-token
take_all_back-requires-clause-token g c =
    let m = c.load.ensures.2.0 ∙ c.join_seat.ensures.2 ∙ ap (λ x. (with_claims x.0 c.into_token-witness.result.me.0, x.1)) c.machine.invariant.0.2 in
    (c.load.ensures.0 ∙ c.join_seat.ensures.0 ∙ c.machine.invariant.1, ap (λ x. x.0.is_recorder) m, ap (λ x. x.0.all) m)

pub returns-clause-legal : goal.returns-clause-legal
returns-clause-legal g c =
    let known = c.machine.invariant.0 in
    let built = ap (λ m. m.0.built) c.join_seat.ensures.2 ∙ ap (λ m. m.0.built) known.2 in
    let heard = ap (λ m. m.0.heard) c.join_seat.ensures.2 ∙ ap (λ t. t.me.0.heard) c.into_token-witness.ensures in
    rw (← c.self.view_is) (heard_is_built _ _ _ _ known.0 known.1 c.self.invariant.5 built heard c.load.ensures.2.2)

pub returns-clause-whole : goal.returns-clause-whole
returns-clause-whole g c = let t : IsWhole c.self.inside.count c.as_slice.result.now = c.are_all_passes.ensures.0 (search rules) in rw (← c.self.view_is, ← c.as_slice.ensures.value) t

pub returns-clause-apart : goal.returns-clause-apart
returns-clause-apart g c =
    let e = c.take_all_back.ensures in
    let t : IsWhole c.self.inside.count c.as_slice.result.now = c.are_all_passes.ensures.0 (search rules) in
    apart _ _ _ _ c.self.inside.count (rw (← c.as_slice.ensures.value) t) e.stand e.rise

pub returns-clause-covered : goal.returns-clause-covered
returns-clause-covered g c =
    let e = c.take_all_back.ensures in
    let t : IsWhole c.self.inside.count c.as_slice.result.now = c.are_all_passes.ensures.0 (search rules) in
    let w : IsWhole c.self.inside.count c.args.passes.items = rw (← c.as_slice.ensures.value) t in
    let all = c.audit.ensures.whole (e.parts ∙ w.0 ∙ c.self.invariant.2) in
    covered _ _ _ _ (apart _ _ _ _ c.self.inside.count w e.stand e.rise) e.stand (sym c.machine.invariant.2 ∙ sym all ∙ e.amount)
