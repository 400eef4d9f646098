use Rattle.std.proofs.Common.{◌≤◌, arith}
use Rattle.moka_model.specs.Admission.{frequency}
use Rattle.moka_laws.specs.AdmissionLaws.{victims, frequencies}
use Rattle.moka_laws.proofs.Admissions.{alone-greater, alone-loses, admitted-exactly}
use Rattle.moka_laws.proofs.admission_laws.greater_frequency_is_admitted.Goals as goal

pub returns-clause-exactly : goal.returns-clause-exactly
returns-clause-exactly g c settings h at capacity w waits tiny = admitted-exactly g.K.PartialEq.eq settings at h capacity w waits g.met.K.Eq.laws tiny

pub returns-clause-wins : goal.returns-clause-wins
returns-clause-wins g c settings h at capacity w waits tiny light greater = alone-greater g.K.PartialEq.eq settings at h capacity w waits light greater

pub returns-clause-loses : goal.returns-clause-loses
returns-clause-loses g c settings h at capacity w waits tiny full no_greater = alone-loses g.K.PartialEq.eq settings at h capacity w waits tiny full no_greater

pub returns-clause-equal : goal.returns-clause-equal
returns-clause-equal g c settings h at capacity w waits tiny full equal =
    let no_greater : frequency settings h w.hash ≤ frequencies settings h (victims g.K.PartialEq.eq settings h capacity w) = omega (arith, equal) in
    (alone-loses g.K.PartialEq.eq settings at h capacity w waits tiny full no_greater).0
