use Rattle.std.proofs.Common.{◌≡◌, ◌+◌, ◌<◌, ◌≤◌, length, ap, refl, sym, ◌∙◌, arith, Some}
use Rattle.std.specs.List.{slice_get}
use Rattle.std.proofs.lemmas.Option.{slice_get_read}
use Rattle.moka_expiration.specs.Behaviour.{hash_by, behaviour_by, weight_by}
use Rattle.moka_expiration.specs.StateData.{estimates, view_by}
use Rattle.moka_model.specs.Calls.{RunPendingTasks, RunPendingTasksUpTo}
use Rattle.moka_state.specs.State.{all_writes}
use Rattle.moka_segmented.specs.SegmentedData.{SegmentedData, data_of, state_at}
use Rattle.moka_segmented.proofs.Hashing.{all-hash-by}
use Rattle.moka_segmented.proofs.Maintained.{each-more, live-in, weigh-within, count-within, not-left, none-left}
use Rattle.moka_segmented.proofs.Broadcast.{progress-none, progress-more, together-none, together-more, together-answers, broadcast-follows}
use Rattle.moka_segmented.proofs.segment.Segmented.run_pending_tasks_up_to.Goals as goal

pub loop-index-init : goal.loop-index-init
loop-index-init g c =
    rw (← c.self.view_is) (record { bits = refl; settings = refl; hashed = c.self.invariant.3; together = together-none g.K.PartialEq.eq g.V.Clone.is_clone (view_by (behaviour_by (hash_by g.C.Hasher.BuildHasher.build_hasher g.C.Hasher.Hasher.Hasher.write g.C.Hasher.Hasher.Hasher.finish g.K.Hash.hash_input) g.C.CacheTypes.weight g.C.CacheTypes.lifetimes) (estimates g.C.Frequency.FrequencySource.noted g.C.Frequency.FrequencySource.count) g.C.Frequency.FrequencySource.opened) (RunPendingTasksUpTo c.args.limit c.args.now) c.self.inside.segments.items; whole = λ _. progress-none g.K.PartialEq.eq g.V.Clone.is_clone (view_by (behaviour_by (hash_by g.C.Hasher.BuildHasher.build_hasher g.C.Hasher.Hasher.Hasher.write g.C.Hasher.Hasher.Hasher.finish g.K.Hash.hash_input) g.C.CacheTypes.weight g.C.CacheTypes.lifetimes) (estimates g.C.Frequency.FrequencySource.noted g.C.Frequency.FrequencySource.count) g.C.Frequency.FrequencySource.opened) (RunPendingTasks c.args.now) c.self.inside.segments.items; fewer = λ i. omega arith; noticed = λ i. omega arith })

pub loop-index-preserved : goal.loop-index-preserved
loop-index-preserved g c =
    let now = c.loop-index.self-inside.segments.items in
    let index = c.loop-index.index in
    let count : length c.self.inside.segments.items ≡ length c.args.self.now.segments = ap (λ (d : SegmentedData _ _ _ _ _ _ _). length d.segments) c.self.view_is in
    let within : index < length now = omega (arith, c.loop-index-test.true, c.len-index-end.ensures, count, c.loop-index.invariant.together.progress.count) in
    let here : slice_get now index ≡ Some c.index_mut.result.now = slice_get_read now (length now) index c.index_mut.result.now refl within c.index_mut.ensures.value in
    let before : slice_get c.args.self.now.segments index ≡ Some c.index_mut.result.now = sym (c.loop-index.invariant.together.progress.rest index (omega arith)) ∙ here in
    let old = c.args.self.now.segments in
    let new = c.run_pending_tasks_up_to-is_left.new.self in
    record {
      bits = c.loop-index.invariant.bits;
      settings = c.loop-index.invariant.settings;
      hashed = all-hash-by _ now index c.index_mut.result.now c.run_pending_tasks_up_to-is_left.new.self c.index_mut.ensures.value c.run_pending_tasks_up_to-is_left.ensures.settings c.loop-index.invariant.hashed;
      together = together-more g.K.PartialEq.eq g.V.Clone.is_clone (view_by (behaviour_by (hash_by g.C.Hasher.BuildHasher.build_hasher g.C.Hasher.Hasher.Hasher.write g.C.Hasher.Hasher.Hasher.finish g.K.Hash.hash_input) g.C.CacheTypes.weight g.C.CacheTypes.lifetimes) (estimates g.C.Frequency.FrequencySource.noted g.C.Frequency.FrequencySource.count) g.C.Frequency.FrequencySource.opened) (RunPendingTasksUpTo c.args.limit c.args.now) c.args.self.now.segments now c.loop-index.is_left c.run_pending_tasks_up_to-is_left.result index c.index_mut.result.now c.run_pending_tasks_up_to-is_left.new.self here c.run_pending_tasks_up_to-is_left.ensures.stands c.run_pending_tasks_up_to-is_left.ensures.reply c.loop-index.invariant.together;
      whole = λ none. progress-more g.K.PartialEq.eq g.V.Clone.is_clone (view_by (behaviour_by (hash_by g.C.Hasher.BuildHasher.build_hasher g.C.Hasher.Hasher.Hasher.write g.C.Hasher.Hasher.Hasher.finish g.K.Hash.hash_input) g.C.CacheTypes.weight g.C.CacheTypes.lifetimes) (estimates g.C.Frequency.FrequencySource.noted g.C.Frequency.FrequencySource.count) g.C.Frequency.FrequencySource.opened) (RunPendingTasks c.args.now) old now index c.index_mut.result.now new here
          (c.run_pending_tasks_up_to-is_left.ensures.whole (none-left c.loop-index.is_left c.run_pending_tasks_up_to-is_left.result none)) (c.loop-index.invariant.whole (not-left c.loop-index.is_left c.run_pending_tasks_up_to-is_left.result none));
      fewer = each-more (λ one other. state_at (λ state. length (all_writes state)) 0 one ≤ state_at (λ state. length (all_writes state)) 0 other + c.args.limit) old now index c.index_mut.result.now new here before c.run_pending_tasks_up_to-is_left.ensures.fewer c.loop-index.invariant.fewer;
      noticed = each-more (λ one other. state_at (λ state. length state.books.notices) 0 other ≤ state_at (λ state. length state.books.notices) 0 one + c.args.limit) old now index c.index_mut.result.now new here before c.run_pending_tasks_up_to-is_left.ensures.noticed c.loop-index.invariant.noticed;
    }

pub returns-clause-stands : goal.returns-clause-stands
returns-clause-stands g c =
    let was = c.loop-index.invariant in
    let count : length c.self.inside.segments.items ≡ length c.args.self.now.segments = ap (λ (d : SegmentedData _ _ _ _ _ _ _). length d.segments) c.self.view_is in
    let all : c.loop-index.index ≡ length c.args.self.now.segments = omega (arith, c.loop-index-test.false, c.loop-index.auto.index-end, c.len-index-end.ensures, count) in
    broadcast-follows g.row.C-Error.Denot g.K.PartialEq.eq (behaviour_by (hash_by g.C.Hasher.BuildHasher.build_hasher g.C.Hasher.Hasher.Hasher.write g.C.Hasher.Hasher.Hasher.finish g.K.Hash.hash_input) g.C.CacheTypes.weight g.C.CacheTypes.lifetimes) (estimates g.C.Frequency.FrequencySource.noted g.C.Frequency.FrequencySource.count) g.C.Frequency.FrequencySource.opened (RunPendingTasksUpTo c.args.limit c.args.now) c.args.self.now c.loop-index.self-inside.bits (data_of c.loop-index.self-inside.settings) c.loop-index.self-inside.segments.items c.loop-index.index was.bits was.settings all was.together.progress (λ given calls. refl)

pub returns-clause-reply : goal.returns-clause-reply
returns-clause-reply g c =
    let count : length c.self.inside.segments.items ≡ length c.args.self.now.segments = ap (λ (d : SegmentedData _ _ _ _ _ _ _). length d.segments) c.self.view_is in
    let all : c.loop-index.index ≡ length c.args.self.now.segments = omega (arith, c.loop-index-test.false, c.loop-index.auto.index-end, c.len-index-end.ensures, count) in
    together-answers g.row.C-Error.Denot g.K.PartialEq.eq (behaviour_by (hash_by g.C.Hasher.BuildHasher.build_hasher g.C.Hasher.Hasher.Hasher.write g.C.Hasher.Hasher.Hasher.finish g.K.Hash.hash_input) g.C.CacheTypes.weight g.C.CacheTypes.lifetimes) (estimates g.C.Frequency.FrequencySource.noted g.C.Frequency.FrequencySource.count) g.C.Frequency.FrequencySource.opened c.args.limit c.args.now c.args.self.now c.loop-index.self-inside.segments.items c.loop-index.is_left c.loop-index.index all c.loop-index.invariant.together

pub returns-clause-settings : goal.returns-clause-settings
returns-clause-settings g c = c.loop-index.invariant.settings

pub returns-clause-fewer : goal.returns-clause-fewer
returns-clause-fewer g c = c.loop-index.invariant.fewer

pub returns-clause-noticed : goal.returns-clause-noticed
returns-clause-noticed g c = c.loop-index.invariant.noticed

pub returns-clause-whole : goal.returns-clause-whole
returns-clause-whole g c none =
    let was = c.loop-index.invariant in
    let count : length c.self.inside.segments.items ≡ length c.args.self.now.segments = ap (λ (d : SegmentedData _ _ _ _ _ _ _). length d.segments) c.self.view_is in
    let all : c.loop-index.index ≡ length c.args.self.now.segments = omega (arith, c.loop-index-test.false, c.loop-index.auto.index-end, c.len-index-end.ensures, count) in
    broadcast-follows g.row.C-Error.Denot g.K.PartialEq.eq (behaviour_by (hash_by g.C.Hasher.BuildHasher.build_hasher g.C.Hasher.Hasher.Hasher.write g.C.Hasher.Hasher.Hasher.finish g.K.Hash.hash_input) g.C.CacheTypes.weight g.C.CacheTypes.lifetimes) (estimates g.C.Frequency.FrequencySource.noted g.C.Frequency.FrequencySource.count) g.C.Frequency.FrequencySource.opened (RunPendingTasks c.args.now) c.args.self.now c.loop-index.self-inside.bits (data_of c.loop-index.self-inside.settings) c.loop-index.self-inside.segments.items c.loop-index.index was.bits was.settings all (was.whole none) (λ given calls. refl)

pub returns-clause-all_live : goal.returns-clause-all_live
returns-clause-all_live g c none given calls stand =
    let cache : SegmentedData _ _ _ _ _ _ _ = record { bits = c.loop-index.self-inside.bits; settings = data_of c.loop-index.self-inside.settings; segments = c.loop-index.self-inside.segments.items } in
    live-in g.row.C-Error.Denot g.K.PartialEq.eq (behaviour_by (hash_by g.C.Hasher.BuildHasher.build_hasher g.C.Hasher.Hasher.Hasher.write g.C.Hasher.Hasher.Hasher.finish g.K.Hash.hash_input) g.C.CacheTypes.weight g.C.CacheTypes.lifetimes) (estimates g.C.Frequency.FrequencySource.noted g.C.Frequency.FrequencySource.count) g.C.Frequency.FrequencySource.opened cache given calls c.args.now (returns-clause-whole g c none given calls stand)

pub returns-clause-within : goal.returns-clause-within
returns-clause-within g c none given calls stand =
    let cache : SegmentedData _ _ _ _ _ _ _ = record { bits = c.loop-index.self-inside.bits; settings = data_of c.loop-index.self-inside.settings; segments = c.loop-index.self-inside.segments.items } in
    weigh-within g.row.C-Error.Denot g.K.PartialEq.eq (behaviour_by (hash_by g.C.Hasher.BuildHasher.build_hasher g.C.Hasher.Hasher.Hasher.write g.C.Hasher.Hasher.Hasher.finish g.K.Hash.hash_input) g.C.CacheTypes.weight g.C.CacheTypes.lifetimes) (estimates g.C.Frequency.FrequencySource.noted g.C.Frequency.FrequencySource.count) g.C.Frequency.FrequencySource.opened cache given calls c.args.now (returns-clause-whole g c none given calls stand)

pub returns-clause-count : goal.returns-clause-count
returns-clause-count g c none given calls stand without =
    let cache : SegmentedData _ _ _ _ _ _ _ = record { bits = c.loop-index.self-inside.bits; settings = data_of c.loop-index.self-inside.settings; segments = c.loop-index.self-inside.segments.items } in
    count-within g.row.C-Error.Denot g.K.PartialEq.eq (behaviour_by (hash_by g.C.Hasher.BuildHasher.build_hasher g.C.Hasher.Hasher.Hasher.write g.C.Hasher.Hasher.Hasher.finish g.K.Hash.hash_input) g.C.CacheTypes.weight g.C.CacheTypes.lifetimes) (estimates g.C.Frequency.FrequencySource.noted g.C.Frequency.FrequencySource.count) g.C.Frequency.FrequencySource.opened cache given calls c.args.now (returns-clause-whole g c none given calls stand) (λ k v. ap (λ it. weight_by g.C.CacheTypes.weight it k v) without)
