use Rattle.moka_segment_model.proofs.Rounding.{bits_for-enough, bits_for-least, bits_for-few}
use Rattle.moka_segment_model.proofs.segment_laws.segments_are_rounded_up_to_a_power_of_two.Goals as goal

pub returns-clause-enough : goal.returns-clause-enough
returns-clause-enough c = bits_for-enough

pub returns-clause-least : goal.returns-clause-least
returns-clause-least c = bits_for-least

pub returns-clause-few : goal.returns-clause-few
returns-clause-few c = bits_for-few
