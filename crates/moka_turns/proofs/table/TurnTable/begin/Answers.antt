use Rattle.moka_turns.proofs.table.TurnTable.begin.Goals as goal

pub returns-then-is_awaitable-clause-begins : goal.returns-then-is_awaitable-clause-begins
returns-then-is_awaitable-clause-begins g c = c.wait_for.ensures.begins c.args.number

pub returns-clause-begins : goal.returns-clause-begins
returns-clause-begins g c = c.open.ensures.begins c.args.may_wait

pub returns-then-is_awaitable-clause-number : goal.returns-then-is_awaitable-clause-number
returns-then-is_awaitable-clause-number g c = c.wait_for.ensures.number c.args.number

pub returns-clause-waits : goal.returns-clause-waits
returns-clause-waits g c = c.open.ensures.waits c.args.may_wait
