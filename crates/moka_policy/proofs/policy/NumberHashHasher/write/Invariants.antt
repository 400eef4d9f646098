use Rattle.std.proofs.Common.{◌≡◌, take}
use Rattle.moka_policy.specs.NumberHash.{number_hash}
use Rattle.moka_policy.proofs.policy.NumberHashHasher.write.Given as goal

-- the hash so far is that of the bytes so far
abbrev pub invariant-loop-byte : goal.invariant-loop-byte
invariant-loop-byte l = l.self.hash ≡ number_hash l.initial.self.hash (take l.byte-index l.bytes)
