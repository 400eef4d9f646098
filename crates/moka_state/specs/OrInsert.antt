-- Calls that return the live value of a key, and write one if there is none.
use Rattle.std.specs.Prelude.{◌≡◌, Result, Ok, Err, OnOk, OnErr}
use Rattle.moka_policy.specs.declared.policy.Refused.{Refused}
use Rattle.moka_model.specs.declared.entry.Entry.{Entry}
use Rattle.moka_model.specs.Entries.{entry_of}
use Rattle.moka_model.specs.Calls.{Reply, Entered}
use Rattle.moka_expiration.specs.StateData.{StateData}
use Rattle.moka_policy.specs.declared.refused.OrInsertRefused.{OrInsertRefused}

module _ {K V E : Type 0} where
  -- The result of an `or_insert`, as a reply of the specification.
  abbrev pub of_or_insert : Result (Entry K V) (OrInsertRefused V) → Result (Reply K V E) Refused
  of_or_insert (Ok entry) = Ok (Entered (entry_of entry))
  of_or_insert (Err refused) = Err refused.cause

  -- The result of an `or_default`, as a reply of the specification.
  abbrev pub of_or_default : Result (Entry K V) Refused → Result (Reply K V E) Refused
  of_or_default (Ok entry) = Ok (Entered (entry_of entry))
  of_or_default (Err cause) = Err cause

-- The call returns what `gives` says. If it succeeds, `follows` holds; if it fails, nothing has changed.
pub record OrInsertEnds {K V H W X F E Q : Type 0} (gives follows : Type 0) (old new : StateData K V H W X F E)
    (result : Result (Entry K V) Q) : Type 0 where
  pub reply : gives
  pub stands : OnOk result follows
  pub refused : OnErr result (new ≡ old)
