use Rattle.moka_laws.proofs.Places.{last_write_stands, only_the_last_write, nothing_stands, stored_under_first_write, first_write_of, LastWrite-one_place}
use Rattle.moka_laws.proofs.laws.standing_is_the_last_write.Goals as goal

pub returns-clause-stands : goal.returns-clause-stands
returns-clause-stands g c settings h k last = last_write_stands g.K.PartialEq.eq settings k h last

pub returns-clause-alone : goal.returns-clause-alone
returns-clause-alone g c settings h k w is = only_the_last_write g.K.PartialEq.eq settings k h w is

pub returns-clause-nothing : goal.returns-clause-nothing
returns-clause-nothing g c settings h k = nothing_stands g.K.PartialEq.eq settings k h

pub returns-clause-stored : goal.returns-clause-stored
returns-clause-stored g c settings h k first = stored_under_first_write g.K.PartialEq.eq settings k h first

pub returns-clause-stored_alone : goal.returns-clause-stored_alone
returns-clause-stored_alone g c settings h k w is = first_write_of g.K.PartialEq.eq settings k h w is

pub returns-clause-one_place : goal.returns-clause-one_place
returns-clause-one_place g c settings h k a b = LastWrite-one_place g.K.PartialEq.eq settings k h a b
