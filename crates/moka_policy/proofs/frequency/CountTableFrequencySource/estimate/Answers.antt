use Rattle.std.proofs.Common.{rules, ◌≡◌, length, min, sym, ◌∙◌}
use Rattle.moka_policy.proofs.frequency.CountTableFrequencySource.estimate.Goals as goal

pub place_of-requires : goal.place_of-requires
place_of-requires g c =
    let same : length c.self.inside.counters.items ≡ c.self.inside.counters.len = search rules in
    (min g.row.BITS 20, c.len.ensures ∙ sym same ∙ c.self.invariant.length_is)
