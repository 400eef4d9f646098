use Rattle.std.proofs.Common.{◌≡◌, ℕ, ◌+◌, [], ◌∷◌, ◌++◌, length, Some, None, refl, sym, ap, ◌∙◌, subst, length-append, arith}
use Rattle.std.specs.Prelude.{◌==◌}
use prog.Atomic.{either}
use Rattle.moka_recording.specs.History.{claim, recorder, without_claims}
use Rattle.moka_recording.specs.declared.receipt.StoredReceipt.{StoredReceipt}
use Rattle.moka_recording.specs.Receipts.{IsOf, PlacesRise}
use Rattle.moka_recording.proofs.Apart.{rise_snoc}
use Rattle.moka_recording.proofs.Moves.{adds, gives, takes}
use Rattle.moka_recording.proofs.Tokens.{borrowed, added, below, grown, of_more}
use Rattle.moka_recording.proofs.guarded_machine.GuardedMachine.add.Goals as goal

pub split_seat-spare-requires : goal.split_seat-spare-requires
split_seat-spare-requires g c =
    let w = c.requires.words in
    (c.self.invariant.1 ∙ sym c.requires.table, omega arith, gives _ _)

pub join_seat-requires : goal.join_seat-requires
join_seat-requires g c =
    let w = c.requires.words in
    let theirs = c.replace-theirs.ensures.value in
    let p = c.pass.invariant in (
      c.split_seat-spare.ensures.0 ∙ c.self.invariant.1 ∙ sym c.requires.table,
      ap (λ t. t.table_id) theirs ∙ p.0 ∙ sym c.requires.table,
      ap (λ t. t.me.1) theirs ∙ p.1,
      omega arith,
      takes _ _ _ _,
    )

pub compare_exchange_with-requires : goal.compare_exchange_with-requires
compare_exchange_with-requires g c =
    let w = c.requires.words in
    let m = borrowed _ _ _ _ _ _ _ c.self.invariant.0.2 c.split_seat-spare.ensures.2 (ap (λ t. t.me.0) c.replace-theirs.ensures.value) c.join_seat.ensures.2 in (
      c.join_seat.ensures.0 ∙ c.split_seat-spare.ensures.0 ∙ c.self.invariant.1 ∙ sym c.requires.table,
      omega arith,
      adds c.args.history.now.shared.table_id.slots _ 0 0 0 _ _ (λ n. either (n == 0) 0 n) _ (ap (λ v. v.0.is_recorder) m),
    )

pub split_seat-requires : goal.split_seat-requires
split_seat-requires g c =
    let w = c.requires.words in (
      c.compare_exchange_with.ensures.0 ∙ c.join_seat.ensures.0 ∙ c.split_seat-spare.ensures.0 ∙ c.self.invariant.1 ∙ sym c.requires.table,
      omega arith,
      gives _ _,
    )

pub invariant_of-self-2 : goal.invariant_of-self-2
invariant_of-self-2 g c =
    let m = borrowed _ _ _ _ _ _ _ c.self.invariant.0.2 c.split_seat-spare.ensures.2 (ap (λ t. t.me.0) c.replace-theirs.ensures.value) c.join_seat.ensures.2 in
    let n = added c.args.history.now.shared.table_id.slots _ _ _ _ _ _ _ c.compare_exchange_with.result m c.compare_exchange_with.ensures.2 in
    let e : ℕ × g.row.S.Denot × g.row.R.Denot = (c.pass.inside.number, c.in-Ok-step_recorded.first.0, c.in-Ok-step_recorded.first.1) in
    let items : c.push_reserved.new.self.items ≡ c.self.inside.entries.items ++ e ∷ [] = c.push_reserved.ensures.items ∙ ap (λ l. l ++ e ∷ []) c.reserve.ensures.items in
    let longer : length c.push_reserved.new.self.items ≡ length c.self.inside.entries.items + 1 = ap length items ∙ length-append _ (e ∷ []) in
    let total = c.add.ensures.total in
    let built = c.self.invariant.0 in
    let before = c.self.invariant.2 in (
      (
        built.0,
        grown (g.M.Machine.stands built.0) _ _ _ _ e (c.in-Ok-step_recorded.ensures.stands built.0 _ built.1) c.reserve.ensures.items c.push_reserved.ensures.items,
        c.split_seat.ensures.2 ∙ ap (λ x. (without_claims x.0, x.1)) n.0 ∙ ap (λ l. (recorder (Some built.0) l [] None, [])) (sym items),
      ),
      c.split_seat.ensures.0 ∙ c.compare_exchange_with.ensures.0 ∙ c.join_seat.ensures.0 ∙ c.split_seat-spare.ensures.0 ∙ c.self.invariant.1,
      omega arith,
      c.self.invariant.3,
      c.self.invariant.4,
    )

pub invariant_of-pass-2 : goal.invariant_of-pass-2
invariant_of-pass-2 g c =
    let m = borrowed _ _ _ _ _ _ _ c.self.invariant.0.2 c.split_seat-spare.ensures.2 (ap (λ t. t.me.0) c.replace-theirs.ensures.value) c.join_seat.ensures.2 in
    let n = added c.args.history.now.shared.table_id.slots _ _ _ _ _ _ _ c.compare_exchange_with.result m c.compare_exchange_with.ensures.2 in
    let place : c.len-place.result ≡ length c.self.inside.entries.items = let a = c.len-place.ensures in let b = ap length c.reserve.ensures.items in omega arith in
    let k : StoredReceipt g.row.S.Denot g.row.R.Denot = record { place = c.len-place.result; step = c.in-Ok-step_recorded.second.0; reply = c.in-Ok-step_recorded.second.1 } in
    let items : c.push_reserved-2.new.self.items ≡ c.pass.inside.receipts.items ++ k ∷ [] = c.push_reserved-2.ensures.items ∙ ap (λ l. l ++ k ∷ []) c.reserve-2.ensures.items in
    let e : ℕ × g.row.S.Denot × g.row.R.Denot = (c.pass.inside.number, c.in-Ok-step_recorded.first.0, c.in-Ok-step_recorded.first.1) in
    let claims = ap (λ m. m.0.claims) c.split_seat.ensures.4 ∙ ap (λ x. x.0.claims) n.0 in
    let above = below _ _ _ _ _ _ c.pass.invariant.2 n.1 in
    let reply = c.in-Ok-step_recorded.ensures.replies _ _ c.self.invariant.0.1 in
    let is : IsOf g.M.Machine.one_step g.M.Machine.one_reply c.pass.inside.number (claim (length c.self.inside.entries.items) e) k = record { at = place; by = refl; step = (_, c.in-Ok-step_recorded.ensures.steps); reply = (_, reply) } in
    let longer : length c.push_reserved-2.new.self.items ≡ length c.pass.inside.receipts.items + 1 = ap length items ∙ length-append _ (k ∷ []) in
    let amount = c.add.ensures.amount in
    let before = c.pass.invariant.5 in (
      c.split_seat.ensures.3 ∙ c.compare_exchange_with.ensures.0 ∙ c.join_seat.ensures.0 ∙ c.split_seat-spare.ensures.0 ∙ c.self.invariant.1,
      ap (λ m. m.1) c.split_seat.ensures.4,
      rw (claims, items) (of_more _ _ _ _ _ _ _ c.pass.invariant.2 is),
      subst (λ l. PlacesRise l) (sym items) (rise_snoc _ k c.pass.invariant.3 (rw place above)),
      c.add.ensures.parts ∙ c.pass.invariant.4,
      omega arith,
    )

pub returns-clause-receipt : goal.returns-clause-receipt
returns-clause-receipt g c =
    let m = borrowed _ _ _ _ _ _ _ c.self.invariant.0.2 c.split_seat-spare.ensures.2 (ap (λ t. t.me.0) c.replace-theirs.ensures.value) c.join_seat.ensures.2 in
    let n = added c.args.history.now.shared.table_id.slots _ _ _ _ _ _ _ c.compare_exchange_with.result m c.compare_exchange_with.ensures.2 in
    let place : c.len-place.result ≡ length c.self.inside.entries.items = let a = c.len-place.ensures in let b = ap length c.reserve.ensures.items in omega arith in
    let k : StoredReceipt g.row.S.Denot g.row.R.Denot = record { place = c.len-place.result; step = c.in-Ok-step_recorded.second.0; reply = c.in-Ok-step_recorded.second.1 } in
    let items : c.push_reserved-2.new.self.items ≡ c.pass.inside.receipts.items ++ k ∷ [] = c.push_reserved-2.ensures.items ∙ ap (λ l. l ++ k ∷ []) c.reserve-2.ensures.items in
    let e : ℕ × g.row.S.Denot × g.row.R.Denot = (c.pass.inside.number, c.in-Ok-step_recorded.first.0, c.in-Ok-step_recorded.first.1) in
    let claims = ap (λ m. m.0.claims) c.split_seat.ensures.4 ∙ ap (λ x. x.0.claims) n.0 in
    let above = below _ _ _ _ _ _ c.pass.invariant.2 n.1 in
    let reply = c.in-Ok-step_recorded.ensures.replies _ _ c.self.invariant.0.1 in
    let placed = claims ∙ ap (λ n. c.pass.inside.token.me.0.claims ++ claim n e ∷ []) (sym place) in
    rw (← c.pass.view_is) (record {
      stored = k;
      entry = e;
      adds = λ i. record { number = c.pass.inside.number; receipts = items i; claims = placed i };
      at = refl;
      by = refl;
      of_step = c.in-Ok-step_recorded.ensures.steps;
      of_reply = reply;
      above = rw place above;
    })
