-- What the end of a turn with a value is replied.
use Rattle.std.proofs.Common.{◌≡◌, refl}
use Rattle.moka_policy.specs.declared.policy.Refused as policies
use Rattle.moka_model.specs.declared.entry.Entry.{Entry}
use Rattle.moka_state.specs.declared.step.Reply.{Reply}
use Rattle.moka_state.specs.declared.step.Reply.TheVariants.{Entered, Refused}
use Rattle.moka_recorded.specs.StepForm.{RefusedOr, IsSort, an_entry}

module _ {K V C H W X P F L T E S : Type 0} (May : policies.Refused → Type 0) where
  -- an entry, or a refusal
  pub nothing_else : (reply : Reply K V C H W X P F L T E S) → RefusedOr May (IsSort an_entry) reply
      → ((entry : Entry K V) → reply ≡ Entered entry → ⊥) → ((cause : policies.Refused) → reply ≡ Refused cause → ⊥) → ⊥
  nothing_else (Entered entry) form no_entry no_refusal = no_entry entry refl
  nothing_else (Refused cause) form no_entry no_refusal = no_refusal cause refl
  nothing_else reply form no_entry no_refusal = absurd form
