-- `into_parts`, as of each struct that holds a box.
use Rattle.moka_c.proofs.HeldBox.{into_parts_meets}
use Rattle.moka_c.proofs.StringsHeld.{holding}
use Rattle.moka_c.specs.contracts.held_strings.HeldStrings.into_parts.Key.{name as #self}
use Rattle.moka_c.proofs.held_strings.HeldStrings.into_parts.Statement as stated
use Rattle.moka_c.proofs.held_strings.HeldStrings.into_parts.Code as code

pub into_parts_spec : {M : Type 1} → stated.statement M
into_parts_spec 𝓤 𝓛 𝓜 𝓡 wired = into_parts_meets holding 𝓛 𝓜 𝓡 #self (code.unfolded 𝓤 𝓛.H 𝓜 𝓡 wired)
