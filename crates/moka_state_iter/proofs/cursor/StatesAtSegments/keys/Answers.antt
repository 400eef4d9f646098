use Rattle.std.proofs.Common.{◌≡◌, Some, length, map, refl}
use Rattle.std.specs.Arc.{arc_value}
use Rattle.std.specs.List.{slice_get}
use Rattle.std.proofs.lemmas.Option.{slice_get_read}
use Rattle.moka_state_iter.proofs.Asked.{stands-shown}
use Rattle.moka_state_iter.proofs.cursor.StatesAtSegments.keys.Goals as goal

pub returns : goal.returns
returns g c =
    let states = c.args.self.now.states.now in
    let here : slice_get states c.args.segment ≡ Some c.index-self-segment.result = slice_get_read states (length states) c.args.segment c.index-self-segment.result refl c.requires c.index-self-segment.is in
    stands-shown _ _ _ _ _ _ (λ keys. map arc_value keys.items) c.args.segment c.index-self-segment.result here c.index-self-segment.result.books (λ settings steps stands. stands.books) c.scan_keys.result (rw (← c.index-self-segment.is) at c.scan_keys.ensures.keys) c.scan_keys.ensures.cause
