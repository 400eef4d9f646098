use Rattle.std.proofs.Common.{◌≡◌, false, refl}
use Rattle.moka_recorded_tests.proofs.Steps.{step_keeps}
use Rattle.moka_recorded_tests.proofs.scene.make_step.Goals as goal

pub step-requires : goal.step-requires
step-requires c = step_keeps (λ k v. Unit {0}) (λ p test. test ≡ (λ k v. false)) (λ p k v. false) (λ k v. tt) (λ p. refl) c.args.step
