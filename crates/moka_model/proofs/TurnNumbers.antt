-- Each turn has a number of its own, below the next.
use Rattle.std.proofs.Common.{◌≡◌, ◌≢◌, inl, inr, ⊎_elim, ℕ, ◌<◌, ◌≤◌, Bool, Option, Some, None, List, [], ◌∷◌, ◌++◌, map, refl, sym, ap, ◌∙◌, arith, subst}
use Rattle.std.proofs.lemmas.Bool.{cond-true, cond-false}
use Rattle.std.proofs.lemmas.Bool.Decides.{eqb_tells}
use Rattle.moka_model.specs.Lives.{Settings}
use Rattle.moka_model.specs.Events.{Event}
use Rattle.moka_model.specs.Numbers.{drawn, next_number}
use Rattle.moka_model.specs.Turns.{AreApart, Ended, IsIn, Move, Opened, Spent, Turn, Waited, ended_with, fits, moved_by, numbered, opening, spent, waited_for}
use Rattle.moka_model.specs.Steps.{AcceptedStep, events_in, turns}
use Rattle.moka_model.specs.Calls.{IsLegal, after}
use Rattle.moka_model.proofs.TurnLists.{in_append, in_map}
use Rattle.moka_model.proofs.TurnMoves.{Fits, step-fits}

module _ {K V E : Type 0} where
  -- A change of the turn of a number: each turn after it was one before, and where it has the number it is changed.
  pub data Was (number : ℕ) (change : Turn K V E → Turn K V E) (u t : Turn K V E) : Type 0 where
    changed : u.name.number ≡ number → change u ≡ t → Was number change u t
    left : u.name.number ≢ number → u ≡ t → Was number change u t

  pub was : (number : ℕ) (change : Turn K V E → Turn K V E) (u t : Turn K V E) → numbered number change u ≡ t → Was number change u t
  was number change u t e = ⊎_elim (λ yes. changed yes.1 (sym (cond-true _ (change u) u yes.0) ∙ e)) (λ no. left no.1 (sym (cond-false _ (change u) u no.0) ∙ e)) (eqb_tells u.name.number number)

  pub in_numbered : (number : ℕ) (change : Turn K V E → Turn K V E) (t : Turn K V E) (ts : List (Turn K V E)) → IsIn t (map (numbered number change) ts) → (u : Turn K V E) × IsIn u ts × Was number change u t
  in_numbered number change t ts is = let it = in_map (numbered number change) t ts is in (it.0, it.1, was number change it.0 t it.2)

  module _ (number : ℕ) (change : Turn K V E → Turn K V E) (kept : (t : Turn K V E) → (change t).name.number ≡ t.name.number) where
    pub was-number : (u t : Turn K V E) → Was number change u t → u.name.number ≡ t.name.number
    was-number u t (changed here e) = sym (kept u) ∙ ap (λ (v : Turn K V E). v.name.number) e
    was-number u t (left apart e) = ap (λ (v : Turn K V E). v.name.number) e

  apart-more : (ts : List (Turn K V E)) (new : Turn K V E) → ((t : Turn K V E) → IsIn t ts → t.name.number ≢ new.name.number) → AreApart ts → AreApart (ts ++ new ∷ [])
  apart-more [] new other apart = (λ u is. absurd is, tt)
  apart-more (t ∷ ts) new other apart = (
    λ u is. ⊎_elim (λ here. apart.0 u here) (λ last. ⊎_elim (λ same. subst (λ (v : Turn K V E). t.name.number ≢ v.name.number) same (other t (inl refl))) (λ none. absurd none) last) (in_append u ts (new ∷ []) is),
    apart-more ts new (λ u is. other u (inr is)) apart.1,
  )

  pub apart-changed : (f : Turn K V E → Turn K V E) → ((t : Turn K V E) → (f t).name.number ≡ t.name.number) → (ts : List (Turn K V E)) → AreApart ts → AreApart (map f ts)
  apart-changed f kept [] apart = tt
  apart-changed f kept (t ∷ ts) apart = (
    λ u is same. let it = in_map f u ts is in apart.0 it.0 it.1 (sym (kept t) ∙ same ∙ ap (λ (v : Turn K V E). v.name.number) (sym it.2) ∙ kept it.0),
    apart-changed f kept ts apart.1,
  )

  -- so a number tells a turn
  pub numbered-alone : (ts : List (Turn K V E)) → AreApart ts → (a b : Turn K V E) → IsIn a ts → IsIn b ts → a.name.number ≡ b.name.number → a ≡ b
  numbered-alone [] apart a b is_a is_b same = absurd is_a
  numbered-alone (t ∷ ts) apart a b (inl here) (inl there) same = sym here ∙ there
  numbered-alone (t ∷ ts) apart a b (inl here) (inr there) same = absurd (apart.0 b there (ap (λ (v : Turn K V E). v.name.number) here ∙ same))
  numbered-alone (t ∷ ts) apart a b (inr here) (inl there) same = absurd (apart.0 a here (ap (λ (v : Turn K V E). v.name.number) there ∙ sym same))
  numbered-alone (t ∷ ts) apart a b (inr here) (inr there) same = numbered-alone ts apart.1 a b here there same

  pub numbered-number : (number : ℕ) (change : Turn K V E → Turn K V E) → ((t : Turn K V E) → (change t).name.number ≡ t.name.number) → (t : Turn K V E) → (numbered number change t).name.number ≡ t.name.number
  numbered-number number change kept t = sym (was-number number change kept t (numbered number change t) (was number change t (numbered number change t) refl))

module _ {K V : Type 0} (settings : Settings K V) where
  -- numbers only rise
  pub next-grows : (es h : List (Event K V)) → next_number settings h ≤ next_number settings (es ++ h)
  next-grows [] h = omega arith
  next-grows (e ∷ es) h = let more = next-grows es h in omega (arith, more)

module _ {K V E : Type 0} (eq : K → K → Bool) (settings : Settings K V) where
  -- the move of each step fits
  abbrev pub AllFit : List (AcceptedStep K V E) → Type 0
  AllFit [] = Unit {0}
  AllFit (d ∷ ds) = Fits eq settings ds d.events d.move × AllFit ds

  pub legal-fit : (ds : List (AcceptedStep K V E)) → IsLegal eq settings ds → AllFit ds
  legal-fit [] legal = tt
  legal-fit (d ∷ ds) legal = (step-fits eq settings ds d legal.0, legal-fit ds legal.1)

  abbrev AreBelow : ℕ → List (Turn K V E) → Type 0
  AreBelow n ts = (t : Turn K V E) → IsIn t ts → t.name.number < n

  below-changed : (n m number : ℕ) (change : Turn K V E → Turn K V E) → ((t : Turn K V E) → (change t).name.number ≡ t.name.number) → (ts : List (Turn K V E)) → n ≤ m → AreBelow n ts → AreBelow m (map (numbered number change) ts)
  below-changed n m number change kept ts le below t is =
      let it = in_numbered number change t ts is in
      let low = below it.0 it.1 in
      let same = was-number number change kept it.0 t it.2 in
      omega (arith, low, same, le)

  below-moved : (ds : List (AcceptedStep K V E)) (events : List (Event K V)) (m : Option (Move K V E)) → Fits eq settings ds events m → AreBelow (next_number settings (events_in ds)) (turns ds) → AreBelow (next_number settings (events ++ events_in ds)) (moved_by m (turns ds))
  below-moved ds events None fit below t is = let low = below t is in let le = next-grows settings events (events_in ds) in omega (arith, low, le)
  below-moved ds events (Some (Opened name look kept)) fit below t is =
      ⊎_elim
      (λ here. let low = below t here in let le = next-grows settings events (events_in ds) in omega (arith, low, le))
      (λ last. ⊎_elim (λ same. subst (λ (v : Turn K V E). v.name.number < next_number settings (events ++ events_in ds)) same fit.1) (λ none. absurd none) last)
      (in_append t (turns ds) (opening name look kept ∷ []) is)
  below-moved ds events (Some (Waited number)) fit below t is = below-changed _ _ number waited_for (λ t. refl) (turns ds) (next-grows settings events (events_in ds)) below t is
  below-moved ds events (Some (Ended number end)) fit below t is = below-changed _ _ number (ended_with end) (λ t. refl) (turns ds) (next-grows settings events (events_in ds)) below t is
  below-moved ds events (Some (Spent number)) fit below t is = below-changed _ _ number spent (λ t. refl) (turns ds) (next-grows settings events (events_in ds)) below t is

  -- each turn's number was drawn
  pub turns-below : (ds : List (AcceptedStep K V E)) → AllFit ds → (t : Turn K V E) → IsIn t (turns ds) → t.name.number < next_number settings (events_in ds)
  turns-below [] fit t is = absurd is
  turns-below (d ∷ ds) fit t is = below-moved ds d.events d.move fit.0 (turns-below ds fit.1) t is

  apart-moved : (ds : List (AcceptedStep K V E)) (events : List (Event K V)) (m : Option (Move K V E)) → Fits eq settings ds events m → AreBelow (next_number settings (events_in ds)) (turns ds) → AreApart (turns ds) → AreApart (moved_by m (turns ds))
  apart-moved ds events None fit low apart = apart
  apart-moved ds events (Some (Opened name look kept)) fit low apart = apart-more (turns ds) (opening name look kept) (λ t is same. let lower = low t is in let first = fit.0 in omega (arith, lower, first, same)) apart
  apart-moved ds events (Some (Waited number)) fit low apart = apart-changed (numbered number waited_for) (numbered-number number waited_for (λ t. refl)) (turns ds) apart
  apart-moved ds events (Some (Ended number end)) fit low apart = apart-changed (numbered number (ended_with end)) (numbered-number number (ended_with end) (λ t. refl)) (turns ds) apart
  apart-moved ds events (Some (Spent number)) fit low apart = apart-changed (numbered number spent) (numbered-number number spent (λ t. refl)) (turns ds) apart

  pub turns-apart : (ds : List (AcceptedStep K V E)) → AllFit ds → AreApart (turns ds)
  turns-apart [] fit = tt
  turns-apart (d ∷ ds) fit = apart-moved ds d.events d.move fit.0 (turns-below ds fit.1) (turns-apart ds fit.1)
