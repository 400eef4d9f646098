use Rattle.std.proofs.Common.{rules, ◌≡◌, ap, ◌∙◌}
use Rattle.moka_segment_model.specs.Segments.{bits_for}
use Rattle.moka_sync.specs.Builder.{settings_built}
use Rattle.mokabox_interpreter.specs.Script.{wanted_segments}
use Rattle.mokabox_interpreter.proofs.FirstCache.{begins}
use Rattle.mokabox_interpreter.proofs.session.Session.new.Goals as goal

pub returns-clause-begun : goal.returns-clause-begun
returns-clause-begun c =
    let wanted : c.in_ok-builder.builder.num_segments ≡ wanted_segments c.args.settings = search rules in
    begins c.args.settings c.in_ok-cache.cache c.builder_of.result c.default.result c.builder_of.ensures (search rules)
    (c.in_ok-cache.ensures.settings ∙ ap (λ b. settings_built b c.default.result) c.in_ok-builder.ensures.settings)
    (c.in_ok-cache.ensures.segments ∙ ap bits_for wanted)
    c.in_ok-cache.ensures.empty
