use Rattle.std.proofs.Common.{◌≡◌, sym}
use Rattle.std.proofs.lemmas.Bool.{eqb-true}
use Rattle.std.proofs.lemmas.Map.Made.{lookup_key_passes}
use Rattle.moka_index.proofs.bucket_heads.find_bucket.Goals as goal

pub returns-in-Some-clause-place : goal.returns-in-Some-clause-place
returns-in-Some-clause-place c =
    let same : c.args.hash ≡ c.in-Some.field-0-1.now = eqb-true _ _ (lookup_key_passes _ c.args.bucket_heads.now.entries c.in-Some.field-0-1.now (sym (c.in-Some.ensures).key)) in
    rw same (c.in-Some.ensures).entry
