use Rattle.std.proofs.Common.{Some, refl}
use Rattle.moka_table.proofs.live_entry.asks_to_replace.Goals as goal

pub returns-in-Some-clause-says : goal.returns-in-Some-clause-says
returns-in-Some-clause-says g c = rw c.in-Some.is (Some c.replace_if.result, (_, record { shown = c.args.value; shows = refl; called = c.replace_if.ensures }), refl)

pub returns-in-Some-clause-left : goal.returns-in-Some-clause-left
returns-in-Some-clause-left g c = rw c.in-Some.is (c.replace_if.result, _, record { shown = c.args.value; shows = refl; called = c.replace_if.ensures }, refl)
