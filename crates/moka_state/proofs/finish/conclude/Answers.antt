use Rattle.moka_state.proofs.Finishes.{saved-copied}
use Rattle.moka_state.proofs.finish.conclude.Goals as goal

pub returns-clause-preserves : goal.returns-clause-preserves
returns-clause-preserves g c hash_of ts respects hashed sound keeps value copied =
    c.finish.ensures.finishes hash_of ts respects hashed sound keeps _ (rw c.value_end.ensures (saved-copied _ g.V.Clone.is_clone value c.args.is_replaced c.args.copies.saved copied))
