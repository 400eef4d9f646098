use Rattle.std.proofs.Common.{sym, ap, ◌∙◌}
use Rattle.std.proofs.lemmas.Bool.{cases_eq}
use Rattle.std.proofs.Common.{⊎_elim}
use Rattle.moka_index.specs.Deques.{same_in, hash_in}
use Rattle.moka_index.proofs.PathLemmas.{row_of-row, row_of-end}
use Rattle.moka_index.proofs.IndexLemmas.{number-within, has-first, within-places, within-chain, before-hash, before-within, passed-by, dropped}
use Rattle.moka_index.proofs.row_index.unchain.Goals as goal

pub hash-hash-requires : goal.hash-hash-requires
hash-hash-requires c = number-within c.args.orders.now c.args.number c.requires.stands

pub chain_link-same-requires : goal.chain_link-same-requires
chain_link-same-requires c = number-within c.args.orders.now c.args.number c.requires.stands

pub unreachable-requires : goal.unreachable-requires
unreachable-requires c = has-first c.args.orders.now c.args.bucket_heads.now c.args.number c.requires.stands c.requires.indexed c.hash-hash.result c.hash-hash.ensures (c.in_default.ensures).first

pub predecessor-before-requires-clause-places : goal.predecessor-before-requires-clause-places
predecessor-before-requires-clause-places c = within-places c.args.orders.now c.args.bucket_heads.now c.args.number c.requires.stands c.requires.indexed c.hash-hash.result c.in-Some.first c.hash-hash.ensures (c.in-Some.ensures).first

pub predecessor-before-requires-clause-within : goal.predecessor-before-requires-clause-within
predecessor-before-requires-clause-within c = within-chain c.args.orders.now c.args.bucket_heads.now c.args.number c.requires.stands c.requires.indexed c.hash-hash.result c.in-Some.first c.hash-hash.ensures (c.in-Some.ensures).first

pub set_same-requires : goal.set_same-requires
set_same-requires c = before-within c.args.orders.now c.args.bucket_heads.now c.args.number c.requires.stands c.requires.indexed c.hash-hash.result c.in-Some.first c.hash-hash.ensures (c.in-Some.ensures).first c.predecessor-before.result c.predecessor-before.ensures

pub returns-then-first-number-clause-hash : goal.returns-then-first-number-clause-hash
returns-then-first-number-clause-hash c = λ k.
    ⊎_elim
    (λ e. ap (hash_in c.set_same.new.self) e ∙ c.set_same.ensures.hashed
    ∙ sym (before-hash c.args.orders.now c.args.bucket_heads.now c.args.number c.requires.stands c.requires.indexed c.hash-hash.result c.in-Some.first c.hash-hash.ensures (c.in-Some.ensures).first c.predecessor-before.result c.predecessor-before.ensures) ∙ ap (hash_in c.args.orders.now) (sym e))
    (λ ne. c.set_same.ensures.others_hashed k ne) (cases_eq k c.predecessor-before.result)

pub returns-then-first-number-clause-linked : goal.returns-then-first-number-clause-linked
returns-then-first-number-clause-linked c =
    passed-by c.args.orders.now c.args.bucket_heads.now c.args.number c.requires.stands c.requires.indexed c.hash-hash.result c.in-Some.first c.hash-hash.ensures (c.in-Some.ensures).first c.predecessor-before.result c.predecessor-before.ensures
    (same_in c.set_same.new.self) (c.set_same.ensures.changed ∙ c.chain_link-same.ensures) c.set_same.ensures.others

pub returns-then-same-lt2-clause-linked : goal.returns-then-same-lt2-clause-linked
returns-then-same-lt2-clause-linked c =
    dropped c.args.orders.now c.args.bucket_heads.now c.args.number c.requires.stands c.requires.indexed c.hash-hash.result c.in-Some.first c.hash-hash.ensures (c.in-Some.ensures).first _ c.if-first-number.false
    (c.drop_first.ensures.changed ∙ sym (row_of-end c.chain_link-same.result c.if-same-lt2.true) ∙ c.chain_link-same.ensures) c.drop_first.ensures.others

pub returns-else-same-lt2-clause-linked : goal.returns-else-same-lt2-clause-linked
returns-else-same-lt2-clause-linked c =
    dropped c.args.orders.now c.args.bucket_heads.now c.args.number c.requires.stands c.requires.indexed c.hash-hash.result c.in-Some.first c.hash-hash.ensures (c.in-Some.ensures).first _ c.if-first-number.false
    (c.change_first.ensures.changed ∙ sym (row_of-row c.chain_link-same.result c.if-same-lt2.false) ∙ c.chain_link-same.ensures) c.change_first.ensures.others
