-- The removals are given out in order, each once.
use Rattle.std.proofs.Common.{◌≡◌, ◌↔◌, ℕ, zero, suc, ◌≤◌, Bool, Option, Some, None, List, [], ◌∷◌, ◌++◌, length, drop, refl, sym, ap, ◌∙◌, arith, slice_get}
use Rattle.std.specs.Option.{option_to_list}
use Rattle.std.proofs.lemmas.List.{take_all}
use Rattle.moka_model.specs.Lives.{Settings}
use Rattle.moka_model.specs.Events.{Event}
use Rattle.moka_model.specs.Removals.{Removal, removals, taken, notices_left}
use Rattle.moka_model.specs.Steps.{AcceptedStep, events_in}
use Rattle.moka_model.specs.Calls.{TakeNotice, Noticed, after}
use Rattle.moka_model.specs.Conserved.{given_out}
use Rattle.moka_model.proofs.Callers.{given_out_is, length-given_out}
use Rattle.moka_laws.specs.Laws.{reply}

module _ {K V : Type 0} where
  -- the first of the rest is the element at the place
  slice_get-drop : (n : ℕ) (xs : List (Removal K V)) → slice_get (drop n xs) 0 ≡ slice_get xs n
  slice_get-drop zero xs = refl
  slice_get-drop (suc n) [] = refl
  slice_get-drop (suc n) (x ∷ xs) = slice_get-drop n xs

  -- there is an element at each place below the length, and at no other
  none_past : (n : ℕ) (xs : List (Removal K V)) → slice_get xs n ≡ None → length xs ≤ n
  none_past n [] none = omega arith
  none_past zero (x ∷ xs) none = absurd (cc)
  none_past (suc n) (x ∷ xs) none = let h : length xs ≤ n = none_past n xs none in omega arith

  none_from_past : (n : ℕ) (xs : List (Removal K V)) → length xs ≤ n → slice_get xs n ≡ None
  none_from_past n [] h = refl
  none_from_past zero (x ∷ xs) h = absurd (omega arith)
  none_from_past (suc n) (x ∷ xs) h = none_from_past n xs (omega arith)

module _ {K V : Type 0} (eq : K → K → Bool) (settings : Settings K V) where
  module _ {E : Type 0} (steps : List (AcceptedStep K V E)) where
    abbrev h : List (Event K V)
    h = events_in steps

    -- the next notice is the removal after those
    pub next_notice : reply eq settings TakeNotice steps ≡ Some (Noticed (slice_get (removals eq settings h) (taken eq settings h)))
    next_notice = ap (λ o. Some (Noticed o)) (slice_get-drop (taken eq settings h) (removals eq settings h))

    -- what it is answered is what it gives out
    pub notice_gives : (o : Option (Removal K V)) → reply eq settings TakeNotice steps ≡ Some (Noticed o) → given_out eq settings (events_in (after eq settings TakeNotice steps)) ≡ given_out eq settings h ++ option_to_list o
    notice_gives o is = let same : slice_get (notices_left eq settings h) 0 ≡ o = cc in ap (λ l. given_out eq settings h ++ option_to_list l) same

    -- there is none exactly where all were given out
    pub no_notice : (reply eq settings TakeNotice steps ≡ Some (Noticed None)) ↔ (given_out eq settings h ≡ removals eq settings h)
    no_notice = (to, from)
      where
        past : reply eq settings TakeNotice steps ≡ Some (Noticed None) → length (removals eq settings h) ≤ taken eq settings h
        past none =
            let same : slice_get (notices_left eq settings h) 0 ≡ None = cc in
            none_past (taken eq settings h) (removals eq settings h) (sym (slice_get-drop (taken eq settings h) (removals eq settings h)) ∙ same)

        to : reply eq settings TakeNotice steps ≡ Some (Noticed None) → given_out eq settings h ≡ removals eq settings h
        to none = given_out_is eq settings h ∙ take_all (taken eq settings h) (removals eq settings h) (past none)

        reached : given_out eq settings h ≡ removals eq settings h → length (removals eq settings h) ≤ taken eq settings h
        reached all = let long = ap length all in let counted = length-given_out eq settings h in omega arith

        from : given_out eq settings h ≡ removals eq settings h → reply eq settings TakeNotice steps ≡ Some (Noticed None)
        from all = next_notice ∙ ap (λ o. Some (Noticed o)) (none_from_past (taken eq settings h) (removals eq settings h) (reached all))
