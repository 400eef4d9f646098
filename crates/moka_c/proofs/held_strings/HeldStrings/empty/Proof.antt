-- `empty`, as of each struct that holds a box.
use Rattle.moka_c.proofs.HeldBox.{empty_meets}
use Rattle.moka_c.proofs.StringsHeld.{holding}
use Rattle.moka_c.specs.contracts.held_strings.HeldStrings.empty.Key.{name as #self}
use Rattle.moka_c.proofs.held_strings.HeldStrings.empty.Statement as stated
use Rattle.moka_c.proofs.held_strings.HeldStrings.empty.Code as code

pub empty_spec : {M : Type 1} → stated.statement M
empty_spec 𝓤 𝓛 𝓜 𝓡 wired = empty_meets holding 𝓛 𝓜 𝓡 #self (code.unfolded 𝓤 𝓛.H 𝓜 𝓡 wired)
