use Rattle.std.proofs.Common.{◌^◌, arith}
use Rattle.std.proofs.Math.Nat.{mod-lt}
use Rattle.std.proofs.lemmas.Nat.{and_mask, pow_pos}
use Rattle.moka_policy.proofs.frequency.place_of.Goals as goal

pub overflow_sub-result : goal.overflow_sub-result
overflow_sub-result c = omega (arith, pow_pos c.requires.0, c.requires.1)

pub returns-clause-place : goal.returns-clause-place
returns-clause-place c = rw c.requires.1 (and_mask c.args.hash c.requires.0)

pub returns-clause-within : goal.returns-clause-within
returns-clause-within c = rw (c.requires.1, and_mask c.args.hash c.requires.0) (mod-lt c.args.hash (pow_pos c.requires.0))
