-- What a caller gets of a result.
use Rattle.std.proofs.Common.{◌≡◌, ◌↔◌, Bool, Option, Some, None, refl, sym, ap, subst}
use Rattle.moka_model.specs.Calls.{Entry, Reply, Found, Contains, Done, Counted, Left, Noticed, Entered, Run, Wait, GaveNothing, GaveError, StillNone, Unchanged, Inserted, ReplacedWith, Removed, NotYet, WasAbandoned, HasEnded, Accepted, IsCopiedEntry, IsCopiedReply, reply_of}
use Rattle.moka_model.specs.StandsFor.{IsReplyOf}
use Rattle.moka_reply_laws.specs.CopyLaws.{value_in, with_value, IsReturned}

entry-same : {K V : Type 0} (k q : K) (v : V) (f g r s : Bool) → q ≡ k → g ≡ f → s ≡ r → ◌≡◌ {A = Entry K V} (record { key = q; value = v; fresh = g; replaced = s }) (record { key = k; value = v; fresh = f; replaced = r })
entry-same k q v f g r s key fresh replaced = rw (key, fresh, replaced) refl

-- a cloned entry is the entry with a clone
entry-cloned : {K V : Type 0} (is_clone : V → V → Type 0) (a b : Entry K V) → IsCopiedEntry is_clone a b → b ≡ record a { value = b.value }
entry-cloned is_clone a b is = entry-same a.key b.key b.value a.fresh b.fresh a.replaced b.replaced is.0 is.2 is.3

module _ {K V E : Type 0} (is_clone : V → V → Type 0) where
  pub returned : (said given : Reply K V E) → IsCopiedReply is_clone said given → IsReturned is_clone (value_in said) said given
  returned (Found None) (Found None) is = refl
  returned (Found None) (Found (Some w)) is = absurd is
  returned (Found (Some v)) (Found None) is = absurd is
  returned (Found (Some v)) (Found (Some w)) is = (w, is, refl)
  returned (Entered a) (Entered b) is = (b.value, is.1, ap Entered (entry-cloned is_clone a b is))
  returned (Run name None) (Run called None) is = ap (λ n. Run n None) is.0
  returned (Run name None) (Run called (Some b)) is = absurd is.1
  returned (Run name (Some a)) (Run called None) is = absurd is.1
  returned (Run name (Some a)) (Run called (Some b)) is = (b.value, is.1.1, rw (is.0, entry-cloned is_clone a b is.1) refl)
  returned (Unchanged a) (Unchanged b) is = (b.value, is.1, ap Unchanged (entry-cloned is_clone a b is))
  returned (Inserted a) (Inserted b) is = (b.value, is.1, ap Inserted (entry-cloned is_clone a b is))
  returned (ReplacedWith a) (ReplacedWith b) is = (b.value, is.1, ap ReplacedWith (entry-cloned is_clone a b is))
  returned (Removed a) (Removed b) is = (b.value, is.1, ap Removed (entry-cloned is_clone a b is))
  returned (Found v) given is = absurd (cc)
  returned (Entered a) given is = absurd (cc)
  returned (Run name a) given is = absurd (cc)
  returned (Unchanged a) given is = absurd (cc)
  returned (Inserted a) given is = absurd (cc)
  returned (ReplacedWith a) given is = absurd (cc)
  returned (Removed a) given is = absurd (cc)
  returned (Contains b) given is = is
  returned Done given is = is
  returned (Counted n) given is = is
  returned (Left b) given is = is
  returned (Noticed l) given is = is
  returned (Wait name) given is = is
  returned GaveNothing given is = is
  returned (GaveError e) given is = is
  returned (StillNone k) given is = is
  returned NotYet given is = is
  returned WasAbandoned given is = is
  returned HasEnded given is = is

  -- a clone in place of the value is a clone
  with-clone : (said : Reply K V E) (v copy : V) → value_in said ≡ Some v → is_clone v copy → IsCopiedReply is_clone said (with_value copy said)
  with-clone (Found None) v copy is clone = absurd (cc)
  with-clone (Found (Some own)) v copy is clone = subst (λ u. is_clone u copy) (cc) clone
  with-clone (Entered e) v copy is clone = (refl, subst (λ u. is_clone u copy) (cc) clone, refl, refl)
  with-clone (Run name None) v copy is clone = absurd (cc)
  with-clone (Run name (Some e)) v copy is clone = (refl, (refl, subst (λ u. is_clone u copy) (cc) clone, refl, refl))
  with-clone (Unchanged e) v copy is clone = (refl, subst (λ u. is_clone u copy) (cc) clone, refl, refl)
  with-clone (Inserted e) v copy is clone = (refl, subst (λ u. is_clone u copy) (cc) clone, refl, refl)
  with-clone (ReplacedWith e) v copy is clone = (refl, subst (λ u. is_clone u copy) (cc) clone, refl, refl)
  with-clone (Removed e) v copy is clone = (refl, subst (λ u. is_clone u copy) (cc) clone, refl, refl)
  with-clone said v copy is clone = absurd (cc)

  -- a result without a value is what is returned of it
  itself : (said : Reply K V E) → value_in said ≡ None → IsCopiedReply is_clone said said
  itself (Found None) none = tt
  itself (Found (Some v)) none = absurd (cc)
  itself (Entered e) none = absurd (cc)
  itself (Run name None) none = (refl, tt)
  itself (Run name (Some e)) none = absurd (cc)
  itself (Unchanged e) none = absurd (cc)
  itself (Inserted e) none = absurd (cc)
  itself (ReplacedWith e) none = absurd (cc)
  itself (Removed e) none = absurd (cc)
  itself said none = refl

  returned-back : (said given : Reply K V E) (o : Option V) → value_in said ≡ o → IsReturned is_clone o said given → IsCopiedReply is_clone said given
  returned-back said given None none is = rw is (itself said none)
  returned-back said given (Some v) some is = rw is.2 (with-clone said v is.0 some is.1)

  pub exactly : (said given : Reply K V E) → IsCopiedReply is_clone said given ↔ IsReturned is_clone (value_in said) said given
  exactly said given = (returned said given, returned-back said given (value_in said) refl)

  pub others : (said given : Reply K V E) → value_in said ≡ None → IsCopiedReply is_clone said given ↔ (given ≡ said)
  others said given none = subst (λ o. IsCopiedReply is_clone said given ↔ IsReturned is_clone o said given) none (exactly said given)

  -- and so it is with what a call returns
  pub calls-return : (it : Option (Accepted K V E)) (said given : Reply K V E) → reply_of it ≡ Some said → IsReplyOf is_clone it given ↔ IsReturned is_clone (value_in said) said given
  calls-return None said given is = absurd (cc)
  calls-return (Some it) said given is = let same : it.reply ≡ said = cc in subst (λ r. IsCopiedReply is_clone r given ↔ IsReturned is_clone (value_in said) said given) (sym same) (exactly said given)

  pub rejected-returns : (it : Option (Accepted K V E)) (given : Reply K V E) → reply_of it ≡ None → ¬ (IsReplyOf is_clone it given)
  rejected-returns None given is got = got
  rejected-returns (Some it) given is got = absurd (cc)

-- A result is what is returned of it, if each value is a clone of itself.
pub itself-equal : {K V E : Type 0} (said : Reply K V E) → IsCopiedReply (λ v w. v ≡ w) said said
itself-equal (Found None) = tt
itself-equal (Found (Some v)) = refl
itself-equal (Entered e) = (refl, refl, refl, refl)
itself-equal (Run name None) = (refl, tt)
itself-equal (Run name (Some e)) = (refl, (refl, refl, refl, refl))
itself-equal (Unchanged e) = (refl, refl, refl, refl)
itself-equal (Inserted e) = (refl, refl, refl, refl)
itself-equal (ReplacedWith e) = (refl, refl, refl, refl)
itself-equal (Removed e) = (refl, refl, refl, refl)
itself-equal said = refl
