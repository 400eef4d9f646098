use Rattle.std.proofs.Common.{ap}
use Rattle.moka_rows.specs.Rows.{written}
use Rattle.moka_expiration.specs.Behaviour.{lifetimes_by}
use Rattle.moka_table.proofs.Plain.{over-plain, plain-info, plain-dated}
use Rattle.moka_table.proofs.table.Table.write.Goals as goal

pub overwrite_plain-requires-clause-over : goal.overwrite_plain-requires-clause-over
overwrite_plain-requires-clause-over g c = over-plain c.args.behaviour.now c.args.lives.now c.args.slot c.args.self.now (c.is_over_plain.ensures c.if-is_over_plain.true)

pub returns-then-is_over_plain : goal.returns-then-is_over_plain
returns-then-is_over_plain g c =
    let plain = c.is_over_plain.ensures c.if-is_over_plain.true in
    record {
      writes = (
        written c.args.new.weight c.args.new.now,
        plain-info c.args.behaviour.now c.args.lives.now _ (λ none. ap (lifetimes_by g.C.CacheTypes.lifetimes) none) c.args.new.value c.args.new.weight c.args.new.now c.args.slot c.args.self.now c.requires.stored plain,
        plain-dated c.args.behaviour.now c.args.lives.now c.args.new.weight c.args.new.now c.args.slot c.args.self.now c.requires.stored plain,
        c.overwrite_plain.ensures.puts c.args.new.hash,
        c.overwrite_plain.ensures.over,
      );
    }
