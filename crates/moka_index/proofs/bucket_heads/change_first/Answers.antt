use Rattle.std.proofs.Common.{sym, arith}
use Rattle.std.specs.Cmp.{nat_eq_equiv}
use Rattle.std.proofs.lemmas.Option.{slice_get_within}
use Rattle.indexmap.proofs.CallerLemmas.{updates-with_value_at}
use Rattle.std.proofs.lemmas.Bool.{ne_eqb}
use Rattle.moka_index.proofs.bucket_heads.change_first.Goals as goal

pub returns-in-Some : goal.returns-in-Some
returns-in-Some c =
    let u = updates-with_value_at c.args.bucket_heads.now c.args.place c.args.number nat_eq_equiv c.get_index_mut.ensures.unique c.args.hash c.args.first c.requires in
    record { changed = u.1; others = λ other ne. u.2 other (ne_eqb c.args.hash other (λ q. ne (sym q))); room = omega arith }

pub returns-in_default : goal.returns-in_default
returns-in_default c =
    let within = slice_get_within c.args.bucket_heads.now.entries c.args.place _ c.requires in
    let some = c.get_index_mut.ensures.found.1 within in
    let none = rw c.in_default.is at some in
    absurd cc
