-- `HeldStrings` holds a box.
use mathlib.Core.Path.{refl}
use Rattle.moka_c.proofs.HeldBox.{Holding}
use Rattle.moka_c.specs.contracts.byte_strings.ByteStrings as Home
use Rattle.moka_c.proofs.byte_strings.ByteStrings.TheLaws as home
use Rattle.moka_c.specs.contracts.held_strings.HeldStrings as Held

abbrev pub holding : Holding
holding = record {
  row = Home.the_row;
  laws = home.the_row_laws;
  Held = Held.the_row;
  name = Held.the_type.name;
  at = λ h. h.at;
  alloc = λ h. h.alloc;
  held = λ h. h.held;
  make = λ p a o. record { at = p; alloc = a; held = o };
  has = λ p a o. refl;
  owns = λ h vs. refl;
  owned = λ p a o vs. refl;
  boxed = λ a p x. refl;
  last = λ h. tt;
  silent = λ h f. refl;
}
