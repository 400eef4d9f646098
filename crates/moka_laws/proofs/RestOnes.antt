-- What is left of a list in which each key has one write at most is what of it passes the test of being there.
use Rattle.std.proofs.Common.{◌≡◌, inl, inr, ⊎_elim, Bool, false, cond, ◌||◌, Option, Some, None, List, [], ◌∷◌, refl, sym, ap, ◌∙◌, ◌⊎◌, ◌++◌}
use Rattle.std.specs.Option.{option_to_list}
use Rattle.std.specs.List.{All, filter, list_any}
use Rattle.std.specs.Cmp.{IsEquivalence}
use Rattle.std.proofs.lemmas.Bool.{cases_Bool}
use Rattle.std.proofs.lemmas.List.Elements.{All-nil, All-cons, All-head, All-tail, All-weaker}
use Rattle.std.proofs.lemmas.List.Folds.{list_any_none}
use Rattle.moka_model.specs.Lives.{Write, Settings}
use Rattle.moka_model.specs.OrderLaws.{writes_of}
use Rattle.moka_laws.proofs.Rests.{IsRestOf, All-rest}
use Rattle.moka_model.specs.Events.{Event}
use Rattle.moka_model.specs.Orders.{standing, orders}
use Rattle.moka_model.proofs.Callers.{one_side, held-append, held-orders}
use Rattle.moka_laws.proofs.Moves.{held-alone}

-- none passes where a filter keeps none
none_pass : {A : Type 0} (p : A → Bool) (xs : List A) → filter p xs ≡ [] → All (λ x. p x ≡ false) xs
none_pass p [] none = All-nil (λ x. p x ≡ false)
none_pass p (x ∷ xs) none =
    ⊎_elim
    (λ is. let some = rw is at none in cc)
    (λ is. All-cons (λ y. p y ≡ false) x xs is (none_pass p xs (rw is at none)))
    (cases_Bool (p x))

-- filters agree where their tests agree on each element
filter_agree_on : {A : Type 0} (p q : A → Bool) (xs : List A) → All (λ x. p x ≡ q x) xs → filter p xs ≡ filter q xs
filter_agree_on p q [] same = refl
filter_agree_on p q (x ∷ xs) same =
    ap (λ t. cond t (x ∷ filter p xs) (filter p xs)) (All-head (λ y. p y ≡ q y) x xs same) ∙ ap (λ l. cond (q x) (x ∷ l) l) (filter_agree_on p q xs (All-tail (λ y. p y ≡ q y) x xs same))

module _ {K V : Type 0} (eq : K → K → Bool) where
  -- each key has one write at most in a list
  abbrev pub HasOne : List (Write K V) → Type 0
  HasOne ws = (k : K) → (o : Option (Write K V)) × (writes_of eq k ws ≡ option_to_list o)

  module _ (laws : IsEquivalence eq) where
    -- the rest of it has one each too, and none of the key of the first
    HasOne-tail : (w : Write K V) (ws : List (Write K V)) → HasOne (w ∷ ws) → HasOne ws
    HasOne-tail w ws one k =
        ⊎_elim
        (λ is. let found : w ∷ writes_of eq k ws ≡ option_to_list (one k).0 = rw is at (one k).1 in (None, rest (one k).0 found))
        (λ is. ((one k).0, rw is at (one k).1))
        (cases_Bool (eq w.key k))
      where
        rest : (o : Option (Write K V)) → w ∷ writes_of eq k ws ≡ option_to_list o → writes_of eq k ws ≡ []
        rest None e = cc
        rest (Some u) e = cc

    HasOne-head : (w : Write K V) (ws : List (Write K V)) → HasOne (w ∷ ws) → All (λ u. eq u.key w.key ≡ false) ws
    HasOne-head w ws one = none_pass (λ (u : Write K V). eq u.key w.key) ws (rest (one w.key).0 (rw (laws.refl w.key) at (one w.key).1))
      where
        rest : (o : Option (Write K V)) → w ∷ writes_of eq w.key ws ≡ option_to_list o → writes_of eq w.key ws ≡ []
        rest None e = cc
        rest (Some u) e = cc

    -- whether a list has a write of this one's key
    abbrev pub is_in : List (Write K V) → Write K V → Bool
    is_in ys w = list_any (λ y. eq y.key w.key) ys

    -- what is left of a list is what of it passes the test of being there
    pub filter-is_in : (rest ws : List (Write K V)) → IsRestOf rest ws → HasOne ws → filter (is_in rest) ws ≡ rest
    filter-is_in [] ws is_rest one = none ws
      where
        none : (us : List (Write K V)) → filter (is_in []) us ≡ []
        none [] = refl
        none (u ∷ us) = none us
    filter-is_in (r ∷ rest) [] is_rest one = absurd is_rest
    filter-is_in (r ∷ rest) (w ∷ ws) (inl is_rest) one =
        let agree : All (λ u. is_in (w ∷ rest) u ≡ is_in rest u) ws =
        All-weaker (λ u. eq u.key w.key ≡ false) (λ u. is_in (w ∷ rest) u ≡ is_in rest u) (λ u other. ap (λ s. s || is_in rest u) (laws.symm w.key u.key ∙ other)) ws (HasOne-head w ws one) in
        ap (λ u. filter (is_in (u ∷ rest)) (w ∷ ws)) is_rest.0
        ∙ ap (λ s. cond (s || is_in rest w) (w ∷ filter (is_in (w ∷ rest)) ws) (filter (is_in (w ∷ rest)) ws)) (laws.refl w.key)
        ∙ ap (λ l. w ∷ l) (filter_agree_on (is_in (w ∷ rest)) (is_in rest) ws agree ∙ filter-is_in rest ws is_rest.1 (HasOne-tail w ws one))
        ∙ ap (λ u. u ∷ rest) (sym is_rest.0)
    filter-is_in (r ∷ rest) (w ∷ ws) (inr is_rest) one =
        let apart : (u : Write K V) → Type 0 = λ u. eq u.key w.key ≡ false in
        let not_in : is_in (r ∷ rest) w ≡ false = list_any_none (λ y. eq y.key w.key) (r ∷ rest) (All-rest apart (r ∷ rest) ws is_rest (HasOne-head w ws one)) in
        ap (λ s. cond s (w ∷ filter (is_in (r ∷ rest)) ws) (filter (is_in (r ∷ rest)) ws)) not_in ∙ filter-is_in (r ∷ rest) ws is_rest (HasOne-tail w ws one)

-- Each write that is held stands, and is held in one order alone.
-- an option that is a list of one
option_to_list-one : {A : Type 0} (o : Option A) (x : A) → option_to_list o ≡ x ∷ [] → o ≡ Some x
option_to_list-one None x e = cc
option_to_list-one (Some y) x e = cc

module _ {K V : Type 0} (eq : K → K → Bool) (settings : Settings K V) (laws : IsEquivalence eq) (h : List (Event K V)) where
  pub each_stands : (before after : List (Write K V)) (w : Write K V) → (orders eq settings h).admitted ++ (orders eq settings h).waiting ≡ before ++ w ∷ after → standing eq settings w.key h ≡ Some w
  each_stands before after w is =
      option_to_list-one (standing eq settings w.key h) w (sym (held-orders eq settings laws w.key h) ∙ held-alone eq settings w.key (orders eq settings h) (λ k. (standing eq settings k h, held-orders eq settings laws k h)) before after w (laws.refl w.key) before after is)

  pub in_one_order : (k : K) (w : Write K V) → standing eq settings k h ≡ Some w
      → ((writes_of eq k (orders eq settings h).admitted ≡ w ∷ []) × (writes_of eq k (orders eq settings h).waiting ≡ []))
      ⊎ ((writes_of eq k (orders eq settings h).admitted ≡ []) × (writes_of eq k (orders eq settings h).waiting ≡ w ∷ []))
  in_one_order k w stands =
      ⊎_elim
      (λ (s : (writes_of eq k (orders eq settings h).admitted ≡ []) × (writes_of eq k (orders eq settings h).waiting ≡ option_to_list (Some w))). inr s)
      (λ (s : (writes_of eq k (orders eq settings h).admitted ≡ option_to_list (Some w)) × (writes_of eq k (orders eq settings h).waiting ≡ [])). inl s)
      (one_side (writes_of eq k (orders eq settings h).admitted) (writes_of eq k (orders eq settings h).waiting) (Some w) (sym (held-append eq settings k (orders eq settings h)) ∙ held-orders eq settings laws k h ∙ ap option_to_list stands))
