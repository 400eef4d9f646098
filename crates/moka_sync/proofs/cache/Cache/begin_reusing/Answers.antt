use Rattle.moka_sync.proofs.ReplaceIf.{if-some}
use Rattle.moka_sync.proofs.cache.Cache.begin_reusing.Goals as goal

-- The live value satisfies the invariant, whatever the moment.
pub begin-begun-requires-clause-asks : goal.begin-begun-requires-clause-asks
begin-begun-requires-clause-asks g c now = if-some c.args.replace_if.now (λ f takes w stored same live kept. takes w.value kept) c.requires.asks
