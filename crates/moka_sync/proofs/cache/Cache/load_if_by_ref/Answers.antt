use Rattle.std.proofs.Common.{◌∙◌}
use Rattle.std.specs.Arc.{arc_value}
use Rattle.moka_state.proofs.Forms.{if-ok}
use Rattle.moka_state.proofs.Loaders.{given-more, owes-more}
use Rattle.moka_sync.proofs.ReplaceIf.{takes-fewer}
use Rattle.moka_sync.proofs.cache.Cache.load_if_by_ref.Goals as goal

-- What satisfies the invariant with the clone of the key does so with the key.
pub load_shared-requires-clause-shows : goal.load_shared-requires-clause-shows
load_shared-requires-clause-shows g c =
    let copy = arc_value c.in_ok-copy.copy in
    let same = g.met.K.Eq.laws.symm copy c.args.key.now ∙ c.requires.copies c.args.key.now copy c.in_ok-copy.ensures in
    takes-fewer (g.C.CacheTypes.keeps c.args.key.now) (g.C.CacheTypes.keeps copy) g.P.FnMut (λ v. g.met.C.CacheTypes.equal_keys_keep copy c.args.key.now v same) c.args.replace_if c.requires.shows

-- And the other way round.
pub load_shared-requires-clause-keeps : goal.load_shared-requires-clause-keeps
load_shared-requires-clause-keeps g c given post =
    let copy = arc_value c.in_ok-copy.copy in
    owes-more (λ v. g.met.C.CacheTypes.equal_keys_keep c.args.key.now copy v (c.requires.copies c.args.key.now copy c.in_ok-copy.ensures)) _ (c.requires.keeps given post)

pub returns : goal.returns
returns g c =
    let copy = arc_value c.in_ok-copy.copy in
    let same = g.met.K.Eq.laws.symm copy c.args.key.now ∙ c.requires.copies c.args.key.now copy c.in_ok-copy.ensures in
    if-ok c.load_shared.result (λ loaded. given-more g.C.CacheTypes.keeps copy c.args.key.now (λ v. g.met.C.CacheTypes.equal_keys_keep copy c.args.key.now v same) _) c.load_shared.ensures
