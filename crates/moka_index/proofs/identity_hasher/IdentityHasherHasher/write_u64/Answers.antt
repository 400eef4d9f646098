use Rattle.std.proofs.Common.{ap, sym, arith}
use Rattle.std.specs.Hash.{le_bytes}
use Rattle.std.proofs.lemmas.Nat.{from_le_bytes-to_le_bytes_8}
use Rattle.moka_index.proofs.identity_hasher.IdentityHasherHasher.write_u64.Goals as goal

pub returns : goal.returns
unfolding le_bytes
returns c = ap (λ n. record { hash = n }) (sym (from_le_bytes-to_le_bytes_8 c.args.number (omega arith)))
