use Rattle.std.proofs.Common.{true, refl, length}
use Rattle.std.proofs.lemmas.Option.{slice_get_read}
use Rattle.std.specs.Arc.{arc_value}
use Rattle.moka_expiration.specs.Behaviour.{hash_by, behaviour_by}
use Rattle.moka_expiration.specs.StateData.{estimates}
use Rattle.moka_model.specs.Calls.{Begin, live_at}
use Rattle.moka_model.specs.Steps.{events_in}
use Rattle.moka_state.specs.Begin.{GivesBegun, IsSaidOf}
use Rattle.moka_segmented.specs.SegmentedData.{SegmentedData, data_of, segmented_settings_by}
use Rattle.moka_segmented.proofs.Asked.{routed-asked}
use Rattle.moka_segmented.proofs.Hashing.{all-hash-set}
use Rattle.moka_segmented.proofs.Routed.{IfSome-by, OnOk-by, OnErr-by, Routing, routed-follows, routed-history, data-same}
use Rattle.moka_segmented.proofs.segment.Segmented.begin.Goals as goal

pub returns-clause-begins : goal.returns-clause-begins
returns-clause-begins g c =
    let behaviour = behaviour_by (hash_by g.C.Hasher.BuildHasher.build_hasher g.C.Hasher.Hasher.Hasher.write g.C.Hasher.Hasher.Hasher.finish g.K.Hash.hash_input) g.C.CacheTypes.weight g.C.CacheTypes.lifetimes in
    let frequency = estimates g.C.Frequency.FrequencySource.noted g.C.Frequency.FrequencySource.count in
    let it = c.self.inside in
    let cache : SegmentedData _ _ _ _ _ _ _ = record { bits = it.bits; settings = data_of it.settings; segments = it.segments.items } in
    let routing : Routing (segmented_settings_by behaviour (frequency g.C.Frequency.FrequencySource.opened) cache) it.segments.items c.index_mut.result.now c.place_of-place.result.index (arc_value c.args.key.now) =
    record { here_is = c.index_mut.ensures.value; is = rw (← c.self.view_is, c.deref.ensures) at c.place_of-place.ensures.is; within = rw (← c.self.view_is) at c.place_of-place.ensures.within } in
    let said = c.begin.ensures.begins.0 in
    let ends = c.begin.ensures.begins.1 in
    let call = Begin (arc_value c.args.key.now) c.args.kind said c.args.now in
    rw (← c.self.view_is) (
      said,
      λ given calls stand. (
        routed-history g.row.C-Error.Denot g.K.PartialEq.eq behaviour frequency g.C.Frequency.FrequencySource.opened cache _ _ (arc_value c.args.key.now) routing (λ s steps. IsSaidOf g.F.FnMut c.args.replace_if (live_at g.K.PartialEq.eq s (arc_value c.args.key.now) c.args.now (events_in steps)) said) (λ s steps stands. (ends.reply s steps stands).0) given calls stand,
        routed-asked g.row.C-Error.Denot g.K.PartialEq.eq behaviour frequency g.C.Frequency.FrequencySource.opened cache _ _ (arc_value c.args.key.now) routing call refl (λ s steps. GivesBegun g.K.PartialEq.eq g.V.Clone.is_clone g.V.Clone.is_infallible s steps call true c.begin.result) (λ s steps stands. (ends.reply s steps stands).1) given calls stand,
      ),
      OnOk-by c.begin.result (λ follows. routed-follows g.row.C-Error.Denot g.K.PartialEq.eq behaviour frequency g.C.Frequency.FrequencySource.opened cache _ _ (arc_value c.args.key.now) routing call c.begin.new.self refl follows) ends.stands,
    )

pub returns-clause-refused : goal.returns-clause-refused
returns-clause-refused g c =
    let it = c.self.inside in
    rw (← c.self.view_is) (OnErr-by c.begin.result (λ same. data-same it.bits (data_of it.settings) it.segments.items c.place_of-place.result.index c.index_mut.result.now c.begin.new.self c.index_mut.ensures.value same) c.begin.ensures.begins.1.refused)

pub invariant_of-self : goal.invariant_of-self
invariant_of-self g c =
    let it = c.self.inside in
    all-hash-set _ it.segments.items c.place_of-place.result.index c.index_mut.result.now c.begin.new.self c.index_mut.ensures.value c.begin.ensures.settings c.self.invariant

-- the segment is one of the segments
pub begin-requires-clause-asks : goal.begin-requires-clause-asks
begin-requires-clause-asks g c =
    let it = c.self.inside in
    let within = rw (← c.self.view_is) at c.place_of-place.ensures.within in
    let here = slice_get_read it.segments.items (length it.segments.items) c.place_of-place.result.index c.index_mut.result.now refl within c.index_mut.ensures.value in
    let asks = rw (← c.self.view_is) at c.requires.asks in
    IfSome-by c.args.replace_if (λ f takes. takes c.place_of-place.result.index c.index_mut.result.now here) asks
