use Rattle.std.proofs.Common.{codes, refl}
use Rattle.std.specs.Prelude.{Contains}
use Rattle.moka_predicate_ids.specs.PredicateId.{digits, places}
use Rattle.moka_predicate_ids.proofs.NoForm.{absent, AllZip-drop}
use Rattle.moka_predicate_ids.proofs.worked_ids.what_is_no_id.Goals as goal

pub returns-clause-version : goal.returns-clause-version
returns-clause-version c is = absent (codes "4") 53 refl (AllZip-drop Contains 14 places (codes "1a1a1a1a-1a1a-5a1a-9a1a-1a1a1a1a1a1a") is).0

pub returns-clause-variant : goal.returns-clause-variant
returns-clause-variant c is = absent (codes "89ab") 99 refl (AllZip-drop Contains 19 places (codes "1a1a1a1a-1a1a-4a1a-ca1a-1a1a1a1a1a1a") is).0

pub returns-clause-upper_case : goal.returns-clause-upper_case
returns-clause-upper_case c is = absent digits 65 refl (AllZip-drop Contains 1 places (codes "1A1a1a1a-1a1a-4a1a-9a1a-1a1a1a1a1a1a") is).0

pub returns-clause-hyphen : goal.returns-clause-hyphen
returns-clause-hyphen c is = absent digits 45 refl (AllZip-drop Contains 7 places (codes "1a1a1a1-a1a1a-4a1a-9a1a-1a1a1a1a1a1a") is).0

pub returns-clause-no_hyphen : goal.returns-clause-no_hyphen
returns-clause-no_hyphen c is = absent (codes "-") 49 refl (AllZip-drop Contains 23 places (codes "1a1a1a1a-1a1a-4a1a-9a1a11a1a1a1a1a1a") is).0
