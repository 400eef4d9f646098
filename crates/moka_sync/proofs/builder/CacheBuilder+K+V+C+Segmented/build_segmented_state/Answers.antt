use Rattle.std.proofs.Common.{◌≡◌, ◌≤◌, ◌^◌, ap, ◌∙◌, subst}
use Rattle.std.specs.List.{AllByRecursion}
use Rattle.moka_expiration.specs.StateData.{StateData}
use Rattle.moka_segment_model.specs.Segments.{share, bits_for}
use Rattle.moka_sync.specs.Builder.{BuilderData}
use Rattle.moka_sync.proofs.builder.CacheBuilder+K+V+C+Segmented.build_segmented_state.Goals as goal

pub returns-in-Ok-clause-room : goal.returns-in-Ok-clause-room
returns-in-Ok-clause-room g c =
    let bits = c.bits_for-bits.ensures.bits ∙ ap (λ (b : BuilderData _ _ _). bits_for b.num_segments) c.self.view_is in
    let room : share (2 ^ c.bits_for-bits.result) c.in_ok-settings.settings.initial_capacity ≡ share (2 ^ bits_for c.args.self.num_segments) c.args.self.initial_capacity =
    ap (λ n. share (2 ^ n) c.in_ok-settings.settings.initial_capacity) bits ∙ ap (share (2 ^ bits_for c.args.self.num_segments)) c.in_ok-settings.ensures.room
    ∙ ap (λ (b : BuilderData _ _ _). share (2 ^ bits_for c.args.self.num_segments) b.initial_capacity) c.in_ok-validate.ensures.same in
    subst (λ n. AllByRecursion (λ (state : StateData _ _ _ _ _ _ _). n ≤ state.initial_room) c.in-Ok.cache.segments) room c.in-Ok.ensures.room
