use Rattle.std.proofs.Common.{[], ◌∷◌}
use Rattle.std.proofs.lemmas.List.Sums.{fold-append}
use Rattle.moka_laws.proofs.frequency_laws.notes_come_in_order.Goals as goal

pub returns-clause-one_more : goal.returns-clause-one_more
returns-clause-one_more g c notes hash = fold-append g.F.FrequencySource.noted g.F.FrequencySource.opened notes (hash ∷ [])

pub returns-clause-parts : goal.returns-clause-parts
returns-clause-parts g c notes later = fold-append g.F.FrequencySource.noted g.F.FrequencySource.opened notes later
