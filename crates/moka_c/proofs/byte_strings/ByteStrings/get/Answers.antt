use Rattle.std.proofs.Common.{rules, ◌≡◌}
use Rattle.moka_c.proofs.Given.{given_is}
use Rattle.moka_c.proofs.byte_strings.ByteStrings.get.Goals as goal

pub returns-clause-ends : goal.returns-clause-ends
returns-clause-ends c =
    let asked : c.set.new.self ≡ c.args.key.now = search rules in
    let read = rw asked at c.get-found.ensures.ends in
    given_is _ _ _ _ c.give.ensures.given c.give.ensures.failed (rw (← c.give.ensures.cache) at read)
