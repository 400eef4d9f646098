use Rattle.moka_laws.proofs.Counters.{estimate_after-kept, estimate_after-le, kept-counts}
use Rattle.moka_laws.proofs.frequency_laws.a_table_keeps_its_notes.Goals as goal

pub returns-clause-kept : goal.returns-clause-kept
returns-clause-kept g c notes hash = estimate_after-kept g.row.BITS hash notes

pub returns-clause-counted : goal.returns-clause-counted
returns-clause-counted g c notes hash few = kept-counts g.row.BITS hash notes few

pub returns-clause-at_most_15 : goal.returns-clause-at_most_15
returns-clause-at_most_15 g c notes hash = estimate_after-le g.row.BITS hash notes
