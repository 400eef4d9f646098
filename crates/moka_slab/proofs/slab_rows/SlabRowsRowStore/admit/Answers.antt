use Rattle.std.proofs.Common.{inr}
use Rattle.moka_slab.proofs.NumberedLemmas.{some-of}
use Rattle.moka_slab.specs.NumberedRows.{row_at}
use Rattle.moka_slab.proofs.TiedLemmas.{waiting-found, admitted-tied, admitted-waiting, admitted-last}
use Rattle.moka_slab.proofs.slab_rows.SlabRowsRowStore.admit.Goals as goal

pub admit-requires : goal.admit-requires
admit-requires g c = inr (waiting-found c.args.self.now.rows c.args.self.now.links c.args.number c.requires)

pub invariant_of-self : goal.invariant_of-self
invariant_of-self g c = record {
  tied = admitted-tied c.args.self.now.rows c.args.self.now.links c.admit.new.self c.args.self.now.tied c.args.number (waiting-found c.args.self.now.rows c.args.self.now.links c.args.number c.requires) c.admit.ensures.admitted c.admit.ensures.waiting c.admit.ensures.preserves.hash;
  lived = c.args.self.now.lived;
}

pub returns-clause-waiting : goal.returns-clause-waiting
returns-clause-waiting g c =
    let r = some-of (row_at c.args.self.now.rows c.args.number) (c.args.self.now.tied.stored c.args.number (inr (waiting-found c.args.self.now.rows c.args.self.now.links c.args.number c.requires))) in
    admitted-waiting c.args.self.now.rows c.args.self.now.links c.admit.new.self c.args.self.now.tied c.args.number (waiting-found c.args.self.now.rows c.args.self.now.links c.args.number c.requires) c.admit.ensures.admitted c.admit.ensures.waiting r.0 r.1

pub returns-clause-admitted : goal.returns-clause-admitted
returns-clause-admitted g c =
    let r = some-of (row_at c.args.self.now.rows c.args.number) (c.args.self.now.tied.stored c.args.number (inr (waiting-found c.args.self.now.rows c.args.self.now.links c.args.number c.requires))) in
    admitted-last c.args.self.now.rows c.args.self.now.links c.admit.new.self c.args.self.now.tied c.args.number (waiting-found c.args.self.now.rows c.args.self.now.links c.args.number c.requires) c.admit.ensures.admitted c.admit.ensures.waiting r.0 r.1
