use Rattle.std.proofs.Common.{Some}
use Rattle.moka_sync.proofs.Waiting.{if-first-asked}
use Rattle.moka_sync.proofs.cache.Cache.ask_first.Goals as goal

pub returns : goal.returns
returns g c = if-first-asked g.C.CacheTypes.keeps (Some 200) c.args.kind c.args.key c.wait_for.new.caller c.wait_for.result c.wait_for.ensures.done
