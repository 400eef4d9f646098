-- From call to call a state still has a history that satisfies `keeps`, and what it returns satisfies it.
use Rattle.std.proofs.Common.{◌≡◌, Bool, Option, Some, None, [], refl}
use Rattle.std.specs.Cmp.{IsEquivalence}
use Rattle.moka_model.specs.Lives.{Settings}
use Rattle.moka_model.specs.Calls.{Call, Reply, Accepted, accepted, after}
use Rattle.moka_model.specs.StandsFor.{WholeView, StandsFor, Follows, IsReplyOf, RepliesWith}
use Rattle.moka_value_invariant.specs.Keeps.{IsAlike, IsCopied, CallKeeps, CallReplyKeeps, HasKeptHistory}
use Rattle.moka_value_invariant.proofs.KeptCalls.{steps-keep, reply-keeps}
use Rattle.moka_value_invariant.proofs.KeptCopies.{copy-keeps}

-- a state for which nothing was done has such a history
pub kept-opening : {K V E : Type 0} (keeps : K → V → Type 0) (eq : K → K → Bool) (is_clone : V → V → Type 0) (settings : Settings K V) (view : WholeView K V E) → StandsFor eq is_clone settings view [] → HasKeptHistory keeps eq is_clone view
kept-opening keeps eq is_clone settings view stands = record { settings = settings; steps = []; stands = stands; keep = (tt, tt) }

module _ {K V E : Type 0} (keeps : K → V → Type 0) (eq : K → K → Bool) (is_clone : V → V → Type 0) (laws : IsEquivalence eq) (alike : IsAlike keeps eq) where
  -- so has one that could have come from the same steps followed by a call that satisfies `keeps`
  pub kept-followed : (old new : WholeView K V E) (call : Call K V E) (kept : HasKeptHistory keeps eq is_clone old) → CallKeeps keeps call → StandsFor eq is_clone kept.settings new (after eq kept.settings call kept.steps) → HasKeptHistory keeps eq is_clone new
  kept-followed old new call kept owed stands = record {
    settings = kept.settings;
    steps = after eq kept.settings call kept.steps;
    stands = stands;
    keep = steps-keep keeps eq kept.settings laws alike kept.steps kept.stands.legal kept.keep call owed;
  }

  pub kept-after : (old new : WholeView K V E) (call : Call K V E) → Follows eq is_clone old call new → CallKeeps keeps call → HasKeptHistory keeps eq is_clone old → HasKeptHistory keeps eq is_clone new
  kept-after old new call follows owed kept = kept-followed old new call kept owed (follows kept.settings kept.steps kept.stands)

  -- What is returned after these steps satisfies `keeps`,
  pub kept-told : IsCopied keeps is_clone → (view : WholeView K V E) (call : Call K V E) (reply : Reply K V E) (kept : HasKeptHistory keeps eq is_clone view) → CallKeeps keeps call → IsReplyOf is_clone (accepted eq kept.settings kept.steps call) reply → CallReplyKeeps keeps call reply
  kept-told copied view call reply kept owed = go (accepted eq kept.settings kept.steps call) refl
    where
      go : (o : Option (Accepted K V E)) → accepted eq kept.settings kept.steps call ≡ o → IsReplyOf is_clone o reply → CallReplyKeeps keeps call reply
      go None is none = absurd none
      go (Some it) is copy = copy-keeps keeps is_clone copied call it.reply reply copy (reply-keeps keeps eq kept.settings laws alike kept.steps kept.stands.legal kept.keep call it owed is)

  -- and so does what is returned whatever history the state could have come from.
  pub kept-reply : IsCopied keeps is_clone → (view : WholeView K V E) (call : Call K V E) (reply : Reply K V E) → RepliesWith eq is_clone view call reply → CallKeeps keeps call → HasKeptHistory keeps eq is_clone view → CallReplyKeeps keeps call reply
  kept-reply copied view call reply replies owed kept = kept-told copied view call reply kept owed (replies kept.settings kept.steps kept.stands)
