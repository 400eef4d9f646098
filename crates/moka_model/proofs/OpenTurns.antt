-- Of a key and kind at most one turn is open.
use Rattle.std.proofs.Common.{◌≡◌, ◌↔◌, ℕ, ◌≤◌, Bool, true, false, ◌&&◌, Option, Some, None, List, [], ◌∷◌, ◌++◌, length, map, filter, refl, sym, ap, ◌∙◌, arith, subst, append-nil}
use Rattle.std.specs.Cmp.{IsEquivalence}
use Rattle.std.proofs.lemmas.Bool.{cond_both, and_parts}
use Rattle.std.proofs.lemmas.List.Elements.{filter-append, filter_agree}
use Rattle.moka_model.specs.declared.turns.Kind.{Kind}
use Rattle.moka_model.specs.declared.turns.Kind.TheVariants.{Compute, Optionally, Try, With}
use Rattle.moka_model.specs.Lives.{Settings}
use Rattle.moka_model.specs.Events.{Event}
use Rattle.moka_model.specs.Turns.{HasOneOpen, Ended, Move, Name, Opened, Spent, Turn, Waited, ended_with, first_of, is_for, is_open, is_open_for, moved_by, numbered, opening, same_kind, spent, waited_for}
use Rattle.moka_model.specs.Steps.{AcceptedStep, events_in, turns}
use Rattle.moka_model.proofs.TurnLists.{length-filter-map}
use Rattle.moka_model.proofs.TurnMoves.{Fits}
use Rattle.moka_model.proofs.TurnNumbers.{AllFit}
use Rattle.moka_model.proofs.Standing.{eq_congr_right}

pub same_kind-is : (a b : Kind) → same_kind a b ≡ true → a ≡ b
same_kind-is With With e = refl
same_kind-is Optionally Optionally e = refl
same_kind-is Try Try e = refl
same_kind-is Compute Compute e = refl
same_kind-is a b e = cc

module _ {K V E : Type 0} (eq : K → K → Bool) where
  -- equal keys and like kinds mean the same turns
  pub is_open_for-congr : IsEquivalence eq → (name : Name K) (kind : Kind) (k : K) → (same_kind name.kind kind && eq name.key k) ≡ true → (t : Turn K V E) → is_open_for eq kind k t ≡ is_open_for eq name.kind name.key t
  is_open_for-congr laws name kind k is t =
      let both = and_parts (same_kind name.kind kind) (eq name.key k) is in
      rw (sym (same_kind-is name.kind kind both.0), eq_congr_right laws t.name.key name.key k both.1) refl

  no-more : (kind : Kind) (k : K) (f : Turn K V E → Turn K V E) → ((t : Turn K V E) → is_open_for eq kind k (f t) ≡ true → is_open_for eq kind k t ≡ true) → (ts : List (Turn K V E)) → length (filter (is_open_for eq kind k) ts) ≤ 1 → length (filter (is_open_for eq kind k) (map f ts)) ≤ 1
  no-more kind k f narrow ts le = let less = length-filter-map (is_open_for eq kind k) f narrow ts in omega (arith, less, le)

  numbered-narrow : (kind : Kind) (k : K) (number : ℕ) (change : Turn K V E → Turn K V E) → ((t : Turn K V E) → is_open_for eq kind k (change t) ≡ true → is_open_for eq kind k t ≡ true) → (t : Turn K V E) → is_open_for eq kind k (numbered number change t) ≡ true → is_open_for eq kind k t ≡ true
  numbered-narrow kind k number change narrow t = cond_both _ (change t) t (λ (u : Turn K V E). is_open_for eq kind k u ≡ true → is_open_for eq kind k t ≡ true) (λ _. narrow t) (λ _ e. e)

module _ {K V E : Type 0} (eq : K → K → Bool) (settings : Settings K V) where
  one-opened : IsEquivalence eq → (ds : List (AcceptedStep K V E)) (kind : Kind) (k : K) (name : Name K) (new : Turn K V E) → new.name ≡ name → filter (is_open_for eq name.kind name.key) (turns ds) ≡ [] → length (filter (is_open_for eq kind k) (turns ds)) ≤ 1 → (b : Bool) → is_open_for eq kind k new ≡ b → length (filter (is_open_for eq kind k) (turns ds ++ new ∷ [])) ≤ 1
  one-opened laws ds kind k name new named none le true is =
      let own = (and_parts (is_open new) (is_for eq kind k new) is).1 in
      let all_none : filter (is_open_for eq kind k) (turns ds) ≡ [] = filter_agree (is_open_for eq kind k) (is_open_for eq name.kind name.key) (is_open_for-congr eq laws name kind k (subst (λ (n : Name K). (same_kind n.kind kind && eq n.key k) ≡ true) named own)) (turns ds) ∙ none in
      rw (filter-append (is_open_for eq kind k) (turns ds) (new ∷ []), all_none, is) (omega arith)
  one-opened laws ds kind k name new named none le false is = rw (filter-append (is_open_for eq kind k) (turns ds) (new ∷ []), is, append-nil (filter (is_open_for eq kind k) (turns ds))) le

  one-step : IsEquivalence eq → (ds : List (AcceptedStep K V E)) (events : List (Event K V)) (m : Option (Move K V E)) → Fits eq settings ds events m → (kind : Kind) (k : K) → length (filter (is_open_for eq kind k) (turns ds)) ≤ 1 → length (filter (is_open_for eq kind k) (moved_by m (turns ds))) ≤ 1
  one-step laws ds events None fit kind k le = le
  one-step laws ds events (Some (Opened name look kept)) fit kind k le = let new : Turn K V E = opening name look kept in one-opened laws ds kind k name new refl fit.2 le (is_open_for eq kind k new) refl
  one-step laws ds events (Some (Waited number)) fit kind k le = no-more eq kind k (numbered number waited_for) (numbered-narrow eq kind k number waited_for (λ t e. e)) (turns ds) le
  one-step laws ds events (Some (Ended number end)) fit kind k le = no-more eq kind k (numbered number (ended_with end)) (numbered-narrow eq kind k number (ended_with end) (λ t e. cc)) (turns ds) le
  one-step laws ds events (Some (Spent number)) fit kind k le = no-more eq kind k (numbered number spent) (numbered-narrow eq kind k number spent (λ t e. e)) (turns ds) le

  pub one_is_open : IsEquivalence eq → (ds : List (AcceptedStep K V E)) → AllFit eq settings ds → HasOneOpen eq (turns ds)
  one_is_open laws [] fit kind k = omega arith
  one_is_open laws (d ∷ ds) fit kind k = one-step laws ds d.events d.move fit.0 kind k (one_is_open laws ds fit.1 kind k)
