-- The lemmas that the crates above use.
pub use Rattle.moka_segment_model.proofs.Counts.{sum_below-zeros, sum_below-zero, first_from-none-all, notices-same, sum_below-same, first_from-same, first_from-passes, first-found, first-on, one-stands, noticed-same, entries-same, weight-same, noticed-place, noticed-reply, none-place, none-reply}
pub use Rattle.moka_segment_model.proofs.Lists.{slice_get-set_same, slice_get-set_other, length-set, segment-within, at_or, eqb_refl, there}
pub use Rattle.moka_segment_model.proofs.Rounding.{enough, is-enough, not-enough, bits_for-few}
pub use Rattle.moka_segment_model.proofs.SegmentLaws.{sum_below-one, share-nothing, legal-calls, any_below-same, stands-at-home}
pub use Rattle.moka_segment_model.proofs.Standing.{FollowsAt, stand-set, stand-here, steps-here, steps-apart, stand-one, stand-each, stand-nowhere, reply-at, reply-asked, hash-at, IsRouted, routed}
