use Rattle.moka_state.proofs.Forms.{if-ok}
use Rattle.moka_state.proofs.Loaders.{tried_keeps}
use Rattle.moka_sync.proofs.entry_selector.RefKeyEntrySelector.or_try_insert_with.Goals as goal

pub returns : goal.returns
returns g c = record { kept = if-ok c.load_by_ref.result (tried_keeps g.C.CacheTypes.keeps c.args.self.key.now) c.load_by_ref.ensures }
