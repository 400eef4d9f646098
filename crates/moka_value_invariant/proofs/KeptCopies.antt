-- The clone of a reply satisfies `keeps` if the reply does.
use Rattle.std.proofs.Common.{Option, Some, None, sym, subst}
use Rattle.std.specs.Option.{IfSome}
use Rattle.moka_model.specs.Calls.{Call, Reply, Found, Entered, Run, Unchanged, Inserted, ReplacedWith, Removed, Entry, IsCopyOf, IsCopiedEntry, IsEntryOf, IsCopiedReply}
use Rattle.moka_value_invariant.specs.Keeps.{key_of, IsCopied, ValueKeeps, CallEntryKeeps, CallReplyKeeps}

module _ {K V E : Type 0} (keeps : K → V → Type 0) (is_clone : V → V → Type 0) (copied : IsCopied keeps is_clone) (call : Call K V E) where
  value-copied : (v w : V) → is_clone v w → ValueKeeps keeps call v → ValueKeeps keeps call w
  value-copied v w is = go (key_of call)
    where
      go : (o : Option K) → IfSome o (λ k. keeps k v) → IfSome o (λ k. keeps k w)
      go None kept = tt
      go (Some k) kept = copied k v w is kept

  found-copied : (o p : Option V) → IsCopyOf is_clone o p → IfSome o (ValueKeeps keeps call) → IfSome p (ValueKeeps keeps call)
  found-copied None None is kept = tt
  found-copied (Some v) (Some w) is kept = value-copied v w is kept
  found-copied None (Some w) is kept = absurd is
  found-copied (Some v) None is kept = absurd is

  entry-copied : (a b : Entry K V) → IsCopiedEntry is_clone a b → CallEntryKeeps keeps call a → CallEntryKeeps keeps call b
  entry-copied a b is kept = (subst (λ k. keeps k b.value) (sym is.0) (copied a.key a.value b.value is.1 kept.0), value-copied a.value b.value is.1 kept.1)

  shown-copied : (o p : Option (Entry K V)) → IsEntryOf is_clone o p → IfSome o (CallEntryKeeps keeps call) → IfSome p (CallEntryKeeps keeps call)
  shown-copied None None is kept = tt
  shown-copied (Some a) (Some b) is kept = entry-copied a b is kept
  shown-copied None (Some b) is kept = absurd is
  shown-copied (Some a) None is kept = absurd is

  pub copy-keeps : (a b : Reply K V E) → IsCopiedReply is_clone a b → CallReplyKeeps keeps call a → CallReplyKeeps keeps call b
  copy-keeps (Found v) (Found w) is kept = found-copied v w is kept
  copy-keeps (Entered a) (Entered b) is kept = entry-copied a b is kept
  copy-keeps (Run name a) (Run called b) is kept = shown-copied a b is.1 kept
  copy-keeps (Unchanged a) (Unchanged b) is kept = entry-copied a b is kept
  copy-keeps (Inserted a) (Inserted b) is kept = entry-copied a b is kept
  copy-keeps (ReplacedWith a) (ReplacedWith b) is kept = entry-copied a b is kept
  copy-keeps (Removed a) (Removed b) is kept = entry-copied a b is kept
  copy-keeps a b is kept = subst (CallReplyKeeps keeps call) (sym is) kept
