use Rattle.moka_segment_model.proofs.Lists.{segment-within}
use Rattle.moka_segment_model.proofs.segment_laws.a_segment_has_the_hashes_of_its_highest_bits.Goals as goal

pub returns-clause-within : goal.returns-clause-within
returns-clause-within c = segment-within
