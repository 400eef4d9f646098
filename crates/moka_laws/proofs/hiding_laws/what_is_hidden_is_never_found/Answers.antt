use Rattle.std.proofs.Common.{[], ◌∷◌}
use Rattle.moka_model.specs.Events.{Hidden}
use Rattle.moka_model.specs.Steps.{events_in}
use Rattle.moka_model.specs.Calls.{InvalidateAll, after}
use Rattle.moka_laws.specs.Laws.{and_then}
use Rattle.moka_laws.proofs.Hiding.{not_found, unseen-after, unseen-after_all}
use Rattle.moka_laws.proofs.hiding_laws.what_is_hidden_is_never_found.Goals as goal

pub returns-clause-all : goal.returns-clause-all
returns-clause-all g c settings later steps k unwritten =
    not_found g.K.PartialEq.eq settings k later (after g.K.PartialEq.eq settings InvalidateAll steps) unwritten (unseen-after_all g.K.PartialEq.eq settings k (events_in steps))

pub returns-clause-by_test : goal.returns-clause-by_test
returns-clause-by_test g c settings later steps test k w supports stands holds unwritten =
    rw supports
    (not_found g.K.PartialEq.eq settings k later (and_then (Hidden test ∷ []) steps) unwritten (unseen-after g.K.PartialEq.eq settings k test (events_in steps) w stands holds))
