use Rattle.std.proofs.Common.{refl, ap, option_map}
use Rattle.moka_segment_model.specs.Segments.{segments_of, share}
use Rattle.moka_segment_model.proofs.segment_laws.a_segment_is_built_as_the_whole.Goals as goal

pub returns : goal.returns
returns g c settings = record {
  time_to_live = refl;
  time_to_idle = refl;
  first_number = refl;
  supports_closures = refl;
  flush_limit = refl;
  behaviour = refl;
  frequency = refl;
  unbounded = λ none. ap (option_map (share (segments_of settings))) none;
  bounded = λ capacity is. ap (option_map (share (segments_of settings))) is;
}
