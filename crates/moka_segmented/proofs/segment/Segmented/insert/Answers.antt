use Rattle.std.proofs.Common.{◌≡◌, true, IsOk, IsErrAnd, ◌↔◌, refl}
use Rattle.moka_expiration.specs.Behaviour.{hash_by, behaviour_by}
use Rattle.moka_expiration.specs.StateData.{StateData, estimates, settings_by}
use Rattle.moka_state.specs.Hashes.{IsHashOf}
use Rattle.moka_model.specs.Calls.{Insert, IsOutOfNumbers}
use Rattle.moka_model.specs.Numbers.{stores_nothing}
use Rattle.moka_policy.specs.declared.policy.Refused.TheVariants.{NumbersUsedUp}
use Rattle.moka_segmented.specs.SegmentedData.{SegmentedData, data_of, segmented_settings_by}
use Rattle.moka_segmented.proofs.Hashing.{hash-at, all-hash-set}
use Rattle.moka_segmented.proofs.Routed.{OnOk-by, OnErr-by, Routing, routed-follows, routed-history, data-same}
use Rattle.moka_segmented.proofs.Numbers.{out-of-numbers, nothing-stored, nothing-shared}
use Rattle.moka_segmented.proofs.segment.Segmented.insert.Goals as goal

pub returns-clause-stands : goal.returns-clause-stands
returns-clause-stands g c =
    let behaviour = behaviour_by (hash_by g.C.Hasher.BuildHasher.build_hasher g.C.Hasher.Hasher.Hasher.write g.C.Hasher.Hasher.Hasher.finish g.K.Hash.hash_input) g.C.CacheTypes.weight g.C.CacheTypes.lifetimes in
    let frequency = estimates g.C.Frequency.FrequencySource.noted g.C.Frequency.FrequencySource.count in
    let it = c.self.inside in
    let cache : SegmentedData _ _ _ _ _ _ _ = record { bits = it.bits; settings = data_of it.settings; segments = it.segments.items } in
    let routing : Routing (segmented_settings_by behaviour (frequency g.C.Frequency.FrequencySource.opened) cache) it.segments.items c.index_mut.result.now c.place_of-place.result.index c.args.key =
    record { here_is = c.index_mut.ensures.value; is = rw (← c.self.view_is) at c.place_of-place.ensures.is; within = rw (← c.self.view_is) at c.place_of-place.ensures.within } in
    rw (← c.self.view_is) (OnOk-by c.insert_with_hash.result (λ follows. routed-follows g.row.C-Error.Denot g.K.PartialEq.eq behaviour frequency g.C.Frequency.FrequencySource.opened cache _ _ c.args.key routing (Insert c.args.key c.args.value c.args.now) c.insert_with_hash.new.self refl follows) c.insert_with_hash.ensures.ends.stands)

pub returns-clause-refused : goal.returns-clause-refused
returns-clause-refused g c =
    let it = c.self.inside in
    rw (← c.self.view_is) (OnErr-by c.insert_with_hash.result (λ same. data-same it.bits (data_of it.settings) it.segments.items c.place_of-place.result.index c.index_mut.result.now c.insert_with_hash.new.self c.index_mut.ensures.value same) c.insert_with_hash.ensures.ends.refused)

pub returns-clause-numbers : goal.returns-clause-numbers
returns-clause-numbers g c =
    let behaviour = behaviour_by (hash_by g.C.Hasher.BuildHasher.build_hasher g.C.Hasher.Hasher.Hasher.write g.C.Hasher.Hasher.Hasher.finish g.K.Hash.hash_input) g.C.CacheTypes.weight g.C.CacheTypes.lifetimes in
    let frequency = estimates g.C.Frequency.FrequencySource.noted g.C.Frequency.FrequencySource.count in
    let it = c.self.inside in
    let cache : SegmentedData _ _ _ _ _ _ _ = record { bits = it.bits; settings = data_of it.settings; segments = it.segments.items } in
    let routing : Routing (segmented_settings_by behaviour (frequency g.C.Frequency.FrequencySource.opened) cache) it.segments.items c.index_mut.result.now c.place_of-place.result.index c.args.key =
    record { here_is = c.index_mut.ensures.value; is = rw (← c.self.view_is) at c.place_of-place.ensures.is; within = rw (← c.self.view_is) at c.place_of-place.ensures.within } in
    let used_up = IsErrAnd c.insert_with_hash.result (λ refused. refused.cause ≡ NumbersUsedUp) in
    rw (← c.self.view_is) (routed-history g.row.C-Error.Denot g.K.PartialEq.eq behaviour frequency g.C.Frequency.FrequencySource.opened cache _ _ c.args.key routing (λ s steps. used_up ↔ IsOutOfNumbers g.K.PartialEq.eq s steps (Insert c.args.key c.args.value c.args.now))
    (λ s steps stands. out-of-numbers g.K.PartialEq.eq s _ steps stands c.args.key c.args.value c.args.now used_up c.insert_with_hash.ensures.ends.numbers))

pub returns-clause-nothing : goal.returns-clause-nothing
returns-clause-nothing g c =
    let behaviour = behaviour_by (hash_by g.C.Hasher.BuildHasher.build_hasher g.C.Hasher.Hasher.Hasher.write g.C.Hasher.Hasher.Hasher.finish g.K.Hash.hash_input) g.C.CacheTypes.weight g.C.CacheTypes.lifetimes in
    let frequency = estimates g.C.Frequency.FrequencySource.noted g.C.Frequency.FrequencySource.count in
    let it = c.self.inside in
    let cache : SegmentedData _ _ _ _ _ _ _ = record { bits = it.bits; settings = data_of it.settings; segments = it.segments.items } in
    let routing : Routing (segmented_settings_by behaviour (frequency g.C.Frequency.FrequencySource.opened) cache) it.segments.items c.index_mut.result.now c.place_of-place.result.index c.args.key =
    record { here_is = c.index_mut.ensures.value; is = rw (← c.self.view_is) at c.place_of-place.ensures.is; within = rw (← c.self.view_is) at c.place_of-place.ensures.within } in
    rw (← c.self.view_is)
    (λ given calls stand none.
    routed-history g.row.C-Error.Denot g.K.PartialEq.eq behaviour frequency g.C.Frequency.FrequencySource.opened cache _ _ c.args.key routing (λ s steps. stores_nothing s.max_capacity ≡ true → IsOk c.insert_with_hash.result) (λ s steps stands. nothing-stored g.K.PartialEq.eq s _ steps stands (IsOk c.insert_with_hash.result) c.insert_with_hash.ensures.ends.nothing)
    given calls stand (nothing-shared given none))

pub insert_with_hash-requires-clause-hash : goal.insert_with_hash-requires-clause-hash
insert_with_hash-requires-clause-hash g c =
    let behaviour = behaviour_by (hash_by g.C.Hasher.BuildHasher.build_hasher g.C.Hasher.Hasher.Hasher.write g.C.Hasher.Hasher.Hasher.finish g.K.Hash.hash_input) g.C.CacheTypes.weight g.C.CacheTypes.lifetimes in
    let frequency = estimates g.C.Frequency.FrequencySource.noted g.C.Frequency.FrequencySource.count in
    hash-at (λ (state : StateData _ _ _ _ _ _ _). IsHashOf (settings_by behaviour (frequency g.C.Frequency.FrequencySource.opened) state.settings) c.args.key c.place_of-place.result.hash) c.self.inside.segments.items c.place_of-place.result.index c.index_mut.result.now (rw (← c.self.view_is) at c.place_of-place.ensures.within) c.index_mut.ensures.value (rw (← c.self.view_is) at c.place_of-place.ensures.hash)

pub invariant_of-self : goal.invariant_of-self
invariant_of-self g c =
    let it = c.self.inside in
    all-hash-set _ it.segments.items c.place_of-place.result.index c.index_mut.result.now c.insert_with_hash.new.self c.index_mut.ensures.value c.insert_with_hash.ensures.settings c.self.invariant
