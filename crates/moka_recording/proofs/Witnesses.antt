-- The machine values of a token and of a witness.
use Rattle.std.proofs.Common.{◌≡◌, T, List, [], ◌∷◌, ◌++◌, ap, ◌∙◌}
use mir.Syntax.{Ty, ty_struct, tcons, tnil}
use mir.Val.{Val, vstruct, vcons, vnil, of_list, has_ty, WT}
use denote.Builtin.{u64}
use denote.Laws.{Is}
use denote.RattleType.{RattleType}
use denote.Struct.Tuple.{Tuple}
use Rattle.atomic_table.proofs.Fields.{token_val, token_told}
use Rattle.atomic_table.specs.contracts.shared.Seat as seat
use Rattle.moka_recording.specs.contracts.law.View as view
use Rattle.moka_recording.specs.contracts.witness.Witness as witness

abbrev pub witness_val : Val
witness_val = vstruct (vcons token_val vnil)

abbrev token_ty : Ty
token_ty = ty_struct [] (tcons (ty_struct [] tnil) tnil)

pub token_good : T (has_ty token_ty token_val) × WT token_val
token_good = (tt, (tt, tt))

pub witness_good : T (has_ty (ty_struct [] (tcons token_ty tnil)) witness_val) × WT witness_val
witness_good = (tt, ((tt, tt), tt))

module _ (S R B : RattleType) where
  abbrev pub EntryRow : RattleType
  EntryRow = Tuple (u64 ∷ S ∷ R ∷ [])

  abbrev pub ViewRow : RattleType
  ViewRow = view.the_row S R B

  abbrev pub TokenRow : RattleType
  TokenRow = seat.the_row EntryRow ViewRow

  abbrev pub WitnessRow : RattleType
  WitnessRow = witness.the_row S R B

  pub token_is : (d : TokenRow.Denot) (vs : List Val) → Is TokenRow d vs → vs ≡ token_val ∷ []
  token_is d vs so = token_told EntryRow ViewRow vs so.0

  pub witness_is : (d : WitnessRow.Denot) (vs : List Val) → Is WitnessRow d vs → vs ≡ witness_val ∷ []
  witness_is d vs so = so.0.1.0 ∙ ap (λ (ws : List Val). vstruct (of_list (ws ++ [])) ∷ []) (token_is d.token so.0.0.0 so.0.1.1.0)
