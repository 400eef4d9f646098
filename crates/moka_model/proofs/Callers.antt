-- The lemmas that the crates above use.
pub use Rattle.moka_model.proofs.Books.{taken-le, books_after, books_of-event, IsViewOf, frequency_after, view_after, frequency-now, view-event, unmoved, whole, view-of, stands-for, held-stands, stands-moved, cut-stands, stands-after, stands-question}
pub use Rattle.moka_model.proofs.EachWrite.{standing-holds}
pub use Rattle.moka_model.proofs.GivenOut.{given_out_is, given_out-append-notices_left, length-given_out, count-left, is_conserved, noticed_by, given-by_reply}
pub use Rattle.moka_model.proofs.Legal.{events_in-append, IsNoWrite, IsLegal-after, legal-by_calls, legal-by_events}
pub use Rattle.moka_model.proofs.ListLemmas.{filter-both, and_comm, list_any-map, one_side, rest-all, changed_where-none, moved_last-none, rest-one, moved_last-one, changed_where-one, filter-narrower, alone, empty_parts, map-changed_where, map-filter, list_any-filtered}
pub use Rattle.moka_model.proofs.LimitedParts.{left-exactly, done-all, done-behind, done-cut, left-behind}
pub use Rattle.moka_model.proofs.Maintenance.{evicted_in-append, after_parts-append, total-append, fits-none, fits-drop_front, fits-drop_shorter, front-fits, front-le, evicted-dead_admitted, after-dead_admitted, evicted-dead_waiting, after-dead_waiting, evicted-over, after-over, fits-admitted, admitting, dropping, judge_both, admitted_after, after-judged, All-admitted_after, too_much, within, evicted-parts, after-parts, All-live-after, total-after-le}
pub use Rattle.moka_model.proofs.MaintenanceAgreeing.{parts-agrees}
pub use Rattle.moka_model.proofs.MaintenanceBounds.{AllAfter, AllAfter-append, AllAfter-done, AllAfter-last, waiting-within-le, admitted-within-le}
pub use Rattle.moka_model.proofs.MaintenanceBy.{queues_by, part_by, evicted_in-by, after_parts-by, done-by, is_left-by, changed_where-by, moved_last-by, total-by, parts-by}
pub use Rattle.moka_model.proofs.MaintenanceCounted.{count-maintenance}
pub use Rattle.moka_model.proofs.MaintenanceKept.{InParts, InParts-parts, InParts-done, All-evicted_in, All-after_parts}
pub use Rattle.moka_model.proofs.MaintenanceLimits.{evicted-done-le, done-enough, done_front, done_next}
pub use Rattle.moka_model.proofs.MaintenanceOnes.{evicted-ones, admitted-ones}
pub use Rattle.moka_model.proofs.MaintenanceOrder.{judge-room, evicted-room, admitted-room, behind, take-evicted, behind_the_dead-evicted, All-evicted-judged, All-live-behind, judge-wins, behind-append-admitted, all_fit_alone, behind_the_dead-append-admitted}
pub use Rattle.moka_model.proofs.MaintenanceWins.{parts-same}
pub use Rattle.moka_model.proofs.OpenTurns.{same_kind-is, is_open_for-congr, one_is_open}
pub use Rattle.moka_model.proofs.OrdersHold.{opening, overwrite, overwritten, held-append, after_look-key, maintained-none_waits, held-maintained, held-orders}
pub use Rattle.moka_model.proofs.Pairs.{pairs_conserved}
pub use Rattle.moka_model.proofs.Sizes.{all-pass, maintained-weighted_size-le, maintained-live, each_one, waiting-le, maintained-entry_count-le, admitted-le, entry_count-le, orders-empty, standing-empty, removals-empty}
pub use Rattle.moka_model.proofs.Standing.{eq_congr_right, IsStoredUnder, stored_key, standing_congr}
pub use Rattle.moka_model.proofs.TurnLists.{OnSome, in_append, in_place, in_map, in_filter, filter-wider}
pub use Rattle.moka_model.proofs.TurnMoves.{first-none, found-is, Fits}
pub use Rattle.moka_model.proofs.TurnNumbers.{Was, changed, left, was, in_numbered, apart-changed, numbered-alone, numbered-number, next-grows, AllFit, legal-fit, turns-below, turns-apart}
pub use Rattle.moka_model.proofs.Writes.{write_events-nothing, write_events-plain, write_events-flushed, out_of_numbers-insert}
