use Rattle.std.proofs.Common.{◌≡◌, ◌+◌, sym, ap, ◌∙◌, subst, arith, length-append}
use Rattle.std.proofs.lemmas.Grind.{common_steps}
use Rattle.std.proofs.lemmas.Iterator.Consumers.{YieldsList-end}
use Rattle.std.proofs.lemmas.Iterator.Adapters.{YieldsList-from_vec}
use Rattle.std.proofs.lemmas.List.{map-id}
use Rattle.moka_recording.specs.History.{Each}
use Rattle.moka_recording.specs.Receipts.{Stand, PlacesRise}
use Rattle.moka_recording.proofs.Places.{each_snoc}
use Rattle.moka_recording.proofs.recorded.take_all_back.Goals as goal

pub loop-pass-preserved : goal.loop-pass-preserved
loop-pass-preserved g c =
    let i = c.loop-pass.invariant in
    let e = c.take_back.ensures in
    (e.token.0, e.token.1, e.token.2, e.parts ∙ ap (λ n. n + 1) i.3 ∙ sym (length-append _ _), (rw (e.amount, i.4) (grind (arith, common_steps))), each_snoc _ _ _ i.5 e.stand, each_snoc _ _ _ i.6 e.rise)

pub returns-clause-stand : goal.returns-clause-stand
returns-clause-stand g c =
    let b = c.into_iter-pass-iterator.ensures.into_iter_gives in
    let seen = YieldsList-end (YieldsList-from_vec {s = c.into_iter-pass-iterator.result} c.args.passes.items b.0 (b.1 ∙ c.args.passes.ok.0)) c.loop-pass.yielded c.loop-pass.pass-iterator c.loop-pass.yielded_by c.next.result c.next.new.self c.in-None.is c.next.ensures.steps in
    let y : c.loop-pass.yielded ≡ c.args.passes.items = sym (map-id _) ∙ seen.0 in
    subst (λ l. Each (Stand g.M.Machine.one_step g.M.Machine.one_reply c.args.entries.now.items) l) y c.loop-pass.invariant.5

pub returns-clause-rise : goal.returns-clause-rise
returns-clause-rise g c =
    let b = c.into_iter-pass-iterator.ensures.into_iter_gives in
    let seen = YieldsList-end (YieldsList-from_vec {s = c.into_iter-pass-iterator.result} c.args.passes.items b.0 (b.1 ∙ c.args.passes.ok.0)) c.loop-pass.yielded c.loop-pass.pass-iterator c.loop-pass.yielded_by c.next.result c.next.new.self c.in-None.is c.next.ensures.steps in
    let y : c.loop-pass.yielded ≡ c.args.passes.items = sym (map-id _) ∙ seen.0 in
    subst (λ l. Each (λ p. PlacesRise p.receipts) l) y c.loop-pass.invariant.6
