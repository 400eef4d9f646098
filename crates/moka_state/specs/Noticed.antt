-- The notices that a run returns.
use Rattle.std.specs.Prelude.{Some, List, [], ◌∷◌}
use Rattle.moka_model.specs.Removals.{Removal}
use Rattle.moka_table.specs.Table.{removal_of}
use Rattle.moka_state.specs.declared.step.Reply.{Reply}
use Rattle.moka_state.specs.declared.step.Reply.TheVariants.{Noticed}

-- The removals in the notices of some replies, in order.
abbrev pub noticed_in : {K V C H W X P F L T E S : Type 0} → List (Reply K V C H W X P F L T E S) → List (Removal K V)
noticed_in [] = []
noticed_in (Noticed (Some notice) ∷ replies) = removal_of notice ∷ noticed_in replies
noticed_in (reply ∷ replies) = noticed_in replies
