use Rattle.std.proofs.Common.{◌≡◌, refl}
use Rattle.moka_model.proofs.Callers.{standing-holds}
use Rattle.moka_laws.proofs.admission_laws.what_stands_has_its_keys_hash.Goals as goal

pub returns : goal.returns
returns g c settings h k w stands = standing-holds g.K.PartialEq.eq settings (λ u. u.hash ≡ settings.behaviour.hash u.key) (λ p v at. refl) (λ p v at u same. same) (λ at u same. same) (λ test u same. same) g.met.K.Eq.laws k h w stands
