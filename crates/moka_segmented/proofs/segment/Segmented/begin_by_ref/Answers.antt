use Rattle.std.proofs.Common.{true, refl, length}
use Rattle.std.proofs.lemmas.Option.{slice_get_read}
use Rattle.std.specs.Arc.{arc_value}
use Rattle.moka_expiration.specs.Behaviour.{hash_by, behaviour_by}
use Rattle.moka_expiration.specs.StateData.{estimates}
use Rattle.moka_model.specs.Calls.{Begin, live_at}
use Rattle.moka_model.specs.Steps.{events_in}
use Rattle.moka_state.specs.Begin.{GivesBegun, IsSaidOf}
use Rattle.moka_segmented.specs.SegmentedData.{SegmentedData, data_of, segmented_settings_by}
use Rattle.moka_segmented.proofs.Asked.{routed-asked}
use Rattle.moka_segmented.proofs.Forms.{hash-alike, routing-alike}
use Rattle.moka_segmented.proofs.Hashing.{all-hash-set}
use Rattle.moka_segmented.proofs.Routed.{IfSome-by, OnOk-by, OnErr-by, Routing, routed-follows, routed-history, data-same}
use Rattle.moka_segmented.proofs.segment.Segmented.begin_by_ref.Goals as goal

pub returns-clause-begins : goal.returns-clause-begins
returns-clause-begins g c =
    let behaviour = behaviour_by (hash_by g.C.Hasher.BuildHasher.build_hasher g.C.Hasher.Hasher.Hasher.write g.C.Hasher.Hasher.Hasher.finish g.K.Hash.hash_input) g.C.CacheTypes.weight g.C.CacheTypes.lifetimes in
    let frequency = estimates g.C.Frequency.FrequencySource.noted g.C.Frequency.FrequencySource.count in
    let it = c.self.inside in
    let cache : SegmentedData _ _ _ _ _ _ _ = record { bits = it.bits; settings = data_of it.settings; segments = it.segments.items } in
    let settings = segmented_settings_by behaviour (frequency g.C.Frequency.FrequencySource.opened) cache in
    let routing : Routing settings it.segments.items c.index_mut.result.now c.place_of-place.result.index c.args.key.now =
    record { here_is = c.index_mut.ensures.value; is = rw (← c.self.view_is) at c.place_of-place.ensures.is; within = rw (← c.self.view_is) at c.place_of-place.ensures.within } in
    let form = c.begin_by_ref.ensures.begins in
    let asked = form.0 in
    let alike = hash-alike g.C.Hasher.BuildHasher.build_hasher g.C.Hasher.Hasher.Hasher.write g.C.Hasher.Hasher.Hasher.finish (arc_value it.settings.hasher) g.met.K.Hash.respects_eq c.args.key.now asked form.1.0 in
    let of_asked = routing-alike settings it.segments.items c.index_mut.result.now c.place_of-place.result.index c.args.key.now asked alike routing in
    let said = form.2 in
    let ends = form.3 in
    let call = Begin asked c.args.kind said c.args.now in
    rw (← c.self.view_is) (
      asked,
      form.1,
      said,
      λ given calls stand. (
        routed-history g.row.C-Error.Denot g.K.PartialEq.eq behaviour frequency g.C.Frequency.FrequencySource.opened cache _ _ asked of_asked (λ s steps. IsSaidOf g.F.FnMut c.args.replace_if (live_at g.K.PartialEq.eq s asked c.args.now (events_in steps)) said) (λ s steps stands. (ends.reply s steps stands).0) given calls stand,
        routed-asked g.row.C-Error.Denot g.K.PartialEq.eq behaviour frequency g.C.Frequency.FrequencySource.opened cache _ _ asked of_asked call refl (λ s steps. GivesBegun g.K.PartialEq.eq g.V.Clone.is_clone g.V.Clone.is_infallible s steps call true c.begin_by_ref.result) (λ s steps stands. (ends.reply s steps stands).1) given calls stand,
      ),
      OnOk-by c.begin_by_ref.result (λ follows. routed-follows g.row.C-Error.Denot g.K.PartialEq.eq behaviour frequency g.C.Frequency.FrequencySource.opened cache _ _ asked of_asked call c.begin_by_ref.new.self refl follows) ends.stands,
      form.4,
    )

pub returns-clause-refused : goal.returns-clause-refused
returns-clause-refused g c =
    let it = c.self.inside in
    rw (← c.self.view_is) (OnErr-by c.begin_by_ref.result (λ same. data-same it.bits (data_of it.settings) it.segments.items c.place_of-place.result.index c.index_mut.result.now c.begin_by_ref.new.self c.index_mut.ensures.value same) c.begin_by_ref.ensures.begins.3.refused)

pub invariant_of-self : goal.invariant_of-self
invariant_of-self g c =
    let it = c.self.inside in
    all-hash-set _ it.segments.items c.place_of-place.result.index c.index_mut.result.now c.begin_by_ref.new.self c.index_mut.ensures.value c.begin_by_ref.ensures.settings c.self.invariant

-- the segment is one of the segments
pub begin_by_ref-requires-clause-asks : goal.begin_by_ref-requires-clause-asks
begin_by_ref-requires-clause-asks g c =
    let it = c.self.inside in
    let within = rw (← c.self.view_is) at c.place_of-place.ensures.within in
    let here = slice_get_read it.segments.items (length it.segments.items) c.place_of-place.result.index c.index_mut.result.now refl within c.index_mut.ensures.value in
    let asks = rw (← c.self.view_is) at c.requires.asks in
    IfSome-by c.args.replace_if (λ f takes. takes c.place_of-place.result.index c.index_mut.result.now here) asks
