use Rattle.moka_state.proofs.Forms.{if-ok}
use Rattle.moka_state.proofs.Loaders.{optional_keeps}
use Rattle.moka_sync.proofs.entry_selector.RefKeyEntrySelector.or_optionally_insert_with.Goals as goal

pub returns : goal.returns
returns g c = record { kept = if-ok c.load_by_ref.result (optional_keeps g.row.C-Error.Denot g.C.CacheTypes.keeps c.args.self.key.now) c.load_by_ref.ensures }
