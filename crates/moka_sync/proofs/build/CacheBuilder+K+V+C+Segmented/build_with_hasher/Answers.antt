use Rattle.std.proofs.Common.{◌≡◌, ◌≤◌, ◌^◌, ap, ◌∙◌, subst}
use Rattle.std.specs.List.{AllByRecursion}
use Rattle.moka_segment_model.specs.Segments.{share, bits_for}
use Rattle.moka_sync.specs.Builder.{BuilderData}
use Rattle.moka_sync.specs.Cache.{CacheData}
use Rattle.moka_sync.proofs.build.CacheBuilder+K+V+C+Segmented.build_with_hasher.Goals as goal

-- The segments are those that were made.
pub returns-clause-empty : goal.returns-clause-empty
returns-clause-empty g c = rw c.in_ok-share.ensures.shared c.in_ok-segments.ensures.empty

pub returns-clause-room : goal.returns-clause-room
returns-clause-room g c =
    let bits = c.bits_for-bits.ensures.bits ∙ ap (λ (b : BuilderData _ _ _). bits_for b.num_segments) c.self.view_is in
    let room : share (2 ^ c.bits_for-bits.result) c.in_ok-parts.parts.settings.initial_capacity ≡ share (2 ^ bits_for c.args.self.num_segments) c.args.self.initial_capacity =
    ap (λ n. share (2 ^ n) c.in_ok-parts.parts.settings.initial_capacity) bits ∙ ap (share (2 ^ bits_for c.args.self.num_segments)) c.in_ok-parts.ensures.room
    ∙ ap (λ (b : BuilderData _ _ _). share (2 ^ bits_for c.args.self.num_segments) b.initial_capacity) c.in_ok-builder.ensures.same in
    rw c.in_ok-share.ensures.shared (subst (λ n. AllByRecursion (λ (segment : CacheData _ _ _ _ _ _ _ _ _). n ≤ segment.opening.initial_room) c.in_ok-segments.segments.items) room c.in_ok-segments.ensures.room)
