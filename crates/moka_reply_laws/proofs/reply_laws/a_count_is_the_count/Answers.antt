use Rattle.std.proofs.Common.{◌+◌, Some, ap, length, length-append}
use Rattle.moka_model.specs.Numbers.{entry_count, weighted_size}
use Rattle.moka_model.specs.Orders.{orders}
use Rattle.moka_model.specs.Steps.{events_in}
use Rattle.moka_model.specs.Calls.{Counted}
use Rattle.moka_reply_laws.specs.CountLaws.{weight_of_all}
use Rattle.moka_reply_laws.proofs.Counts.{counts, weighs, unremoved}
use Rattle.moka_reply_laws.proofs.reply_laws.a_count_is_the_count.Goals as goal

pub returns-clause-stored : goal.returns-clause-stored
returns-clause-stored g c settings steps =
    let q = orders g.K.PartialEq.eq settings (events_in steps) in
    let is = counts (entry_count g.K.PartialEq.eq settings (events_in steps)) (length q.admitted + length q.waiting) (length-append q.admitted q.waiting) in
    (λ le. ap (λ n. Some (Counted n)) (is.0 le), λ le. ap (λ n. Some (Counted n)) (is.1 le))

pub returns-clause-unremoved : goal.returns-clause-unremoved
returns-clause-unremoved g c settings steps n written =
    let is = counts (entry_count g.K.PartialEq.eq settings (events_in steps)) n (unremoved g.K.PartialEq.eq settings g.met.K.Eq.laws steps n written) in
    (λ le. ap (λ n. Some (Counted n)) (is.0 le), λ le. ap (λ n. Some (Counted n)) (is.1 le))

pub returns-clause-weight : goal.returns-clause-weight
returns-clause-weight g c settings steps =
    let q = orders g.K.PartialEq.eq settings (events_in steps) in
    let is = counts (weighted_size g.K.PartialEq.eq settings (events_in steps)) (weight_of_all q.admitted + weight_of_all q.waiting) (weighs q.admitted q.waiting) in
    (λ le. ap (λ n. Some (Counted n)) (is.0 le), λ le. ap (λ n. Some (Counted n)) (is.1 le))
