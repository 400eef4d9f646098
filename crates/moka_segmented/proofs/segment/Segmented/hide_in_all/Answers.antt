use Rattle.std.proofs.Common.{◌≡◌, ◌<◌, length, ap, sym, ◌∙◌, refl, arith, Some}
use Rattle.std.specs.List.{slice_get}
use Rattle.std.proofs.lemmas.Option.{slice_get_read}
use Rattle.moka_expiration.specs.Behaviour.{hash_by, behaviour_by}
use Rattle.moka_expiration.specs.StateData.{estimates, view_by}
use Rattle.moka_model.specs.Calls.{InvalidateIf}
use Rattle.moka_segmented.specs.SegmentedData.{SegmentedData, data_of}
use Rattle.moka_segmented.proofs.Hashing.{all-hash-by}
use Rattle.moka_segmented.proofs.Broadcast.{progress-none, progress-more, broadcast-follows}
use Rattle.moka_segmented.proofs.segment.Segmented.hide_in_all.Goals as goal

pub loop-index-init : goal.loop-index-init
loop-index-init g c =
    rw (← c.self.view_is) (record { bits = refl; settings = refl; hashed = c.self.invariant.3; progress = progress-none g.K.PartialEq.eq g.V.Clone.is_clone (view_by (behaviour_by (hash_by g.C.Hasher.BuildHasher.build_hasher g.C.Hasher.Hasher.Hasher.write g.C.Hasher.Hasher.Hasher.finish g.K.Hash.hash_input) g.C.CacheTypes.weight g.C.CacheTypes.lifetimes) (estimates g.C.Frequency.FrequencySource.noted g.C.Frequency.FrequencySource.count) g.C.Frequency.FrequencySource.opened) (InvalidateIf (g.C.CacheTypes.test c.args.predicate.now)) c.self.inside.segments.items })

pub loop-index-preserved : goal.loop-index-preserved
loop-index-preserved g c =
    let now = c.loop-index.self-inside.segments.items in
    let index = c.loop-index.index in
    let count : length c.self.inside.segments.items ≡ length c.args.self.now.segments = ap (λ (d : SegmentedData _ _ _ _ _ _ _). length d.segments) c.self.view_is in
    let within : index < length now = omega (arith, c.loop-index-test.true, c.len-index-end.ensures, count, c.loop-index.invariant.progress.count) in
    let here : slice_get now index ≡ Some c.index_mut.result.now = slice_get_read now (length now) index c.index_mut.result.now refl within c.index_mut.ensures.value in
    record {
      bits = c.loop-index.invariant.bits;
      settings = c.loop-index.invariant.settings;
      hashed = all-hash-by _ now index c.index_mut.result.now c.hide_where.new.self c.index_mut.ensures.value c.hide_where.ensures.settings c.loop-index.invariant.hashed;
      progress = progress-more g.K.PartialEq.eq g.V.Clone.is_clone (view_by (behaviour_by (hash_by g.C.Hasher.BuildHasher.build_hasher g.C.Hasher.Hasher.Hasher.write g.C.Hasher.Hasher.Hasher.finish g.K.Hash.hash_input) g.C.CacheTypes.weight g.C.CacheTypes.lifetimes) (estimates g.C.Frequency.FrequencySource.noted g.C.Frequency.FrequencySource.count) g.C.Frequency.FrequencySource.opened) (InvalidateIf (g.C.CacheTypes.test c.args.predicate.now)) c.args.self.now.segments now index c.index_mut.result.now c.hide_where.new.self here c.hide_where.ensures.stands c.loop-index.invariant.progress;
    }

pub hide_where-requires-clause-supported : goal.hide_where-requires-clause-supported
hide_where-requires-clause-supported g c =
    let was = c.loop-index.invariant in
    let now = c.loop-index.self-inside.segments.items in
    let index = c.loop-index.index in
    let count : length c.self.inside.segments.items ≡ length c.args.self.now.segments = ap (λ (d : SegmentedData _ _ _ _ _ _ _). length d.segments) c.self.view_is in
    let within : index < length now = omega (arith, c.loop-index-test.true, c.len-index-end.ensures, count, was.progress.count) in
    let here : slice_get now index ≡ Some c.index_mut.result.now = slice_get_read now (length now) index c.index_mut.result.now refl within c.index_mut.ensures.value in
    let there : slice_get c.args.self.now.segments index ≡ Some c.index_mut.result.now = sym (was.progress.rest index (omega arith)) ∙ here in
    rw there at (c.requires.supported index)

pub returns-clause-stands : goal.returns-clause-stands
returns-clause-stands g c =
    let was = c.loop-index.invariant in
    let count : length c.self.inside.segments.items ≡ length c.args.self.now.segments = ap (λ (d : SegmentedData _ _ _ _ _ _ _). length d.segments) c.self.view_is in
    let all : c.loop-index.index ≡ length c.args.self.now.segments = omega (arith, c.loop-index-test.false, c.loop-index.auto.index-end, c.len-index-end.ensures, count) in
    broadcast-follows g.row.C-Error.Denot g.K.PartialEq.eq (behaviour_by (hash_by g.C.Hasher.BuildHasher.build_hasher g.C.Hasher.Hasher.Hasher.write g.C.Hasher.Hasher.Hasher.finish g.K.Hash.hash_input) g.C.CacheTypes.weight g.C.CacheTypes.lifetimes) (estimates g.C.Frequency.FrequencySource.noted g.C.Frequency.FrequencySource.count) g.C.Frequency.FrequencySource.opened (InvalidateIf (g.C.CacheTypes.test c.args.predicate.now)) c.args.self.now c.loop-index.self-inside.bits (data_of c.loop-index.self-inside.settings) c.loop-index.self-inside.segments.items c.loop-index.index was.bits was.settings all was.progress (λ given calls. refl)

pub returns-clause-settings : goal.returns-clause-settings
returns-clause-settings g c = c.loop-index.invariant.settings
