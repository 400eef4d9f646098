use Rattle.std.proofs.Common.{◌≡◌, Some, length, refl}
use Rattle.std.specs.List.{slice_get}
use Rattle.std.proofs.lemmas.Option.{slice_get_read, slice_get_past}
use Rattle.moka_state_iter.proofs.Asked.{finds-kept, finds-none}
use Rattle.moka_state_iter.proofs.cursor.StatesAtSegments.get.Goals as goal

pub returns-in-Some : goal.returns-in-Some
returns-in-Some g c =
    let states = c.args.self.now.states.now in
    let lookup = c.in-Some.ensures.lookup in
    let here : slice_get states c.args.segment ≡ Some c.in-Some.state.now = slice_get_read states (length states) c.args.segment c.in-Some.state.now refl lookup.3.0 lookup.1 in
    let asked = c.scan_get.ensures.ends in
    rw (← c.deref.ensures) (finds-kept _ _ _ _ _ _ g.C.CacheTypes.keeps c.args.segment c.deref.result.now c.in-Some.state.now here c.scan_get.result asked.reply c.scan_get.ensures.kept asked.cause asked.miss asked.copied)

pub returns-in-None : goal.returns-in-None
returns-in-None g c = finds-none _ _ _ _ _ _ g.C.CacheTypes.keeps c.args.segment _ (slice_get_past c.args.self.now.states.now c.args.segment c.in-None.ensures.lookup.3)
