-- Each pair that is no longer stored is noticed exactly once.
use Rattle.std.proofs.Common.{◌≡◌, ℕ, ◌+◌, Bool, Some, None, List, [], ◌∷◌, ◌++◌, length, length-append, refl, sym, ap, subst, ◌∙◌, arith}
use Rattle.std.specs.Cmp.{IsEquivalence}
use Rattle.std.proofs.lemmas.List.Elements.{filter-append}
use Rattle.moka_model.specs.Lives.{Settings}
use Rattle.moka_model.specs.Events.{Event}
use Rattle.moka_model.specs.Orders.{orders}
use Rattle.moka_model.specs.Removals.{Removal, removals}
use Rattle.moka_model.specs.Conserved.{SeesKeysAlike, count_written, count_standing, count_left, given_out, IsConserved}
use Rattle.moka_model.specs.StandsFor.{Books, books_of}
use Rattle.moka_model.specs.Steps.{events_in}
use Rattle.moka_model.specs.Calls.{Reply, Noticed, with_step}
use Rattle.moka_model.proofs.Callers.{is_conserved, noticed_by, given-by_reply}
use Rattle.moka_laws.specs.TicketLaws.{Made, AreMade, steps_made}
use Rattle.moka_reply_laws.specs.NoticeLaws.{notice_in, notices_returned, passing, OnePasses, events_made, all_notices, Passes}
use Rattle.moka_reply_laws.proofs.Copies.{itself-equal}

one : {A : Type 0} (xs : List A) → length xs ≡ 1 → (x : A) × (xs ≡ x ∷ [])
one [] is = absurd (omega arith)
one (x ∷ []) is = (x, refl)
one (x ∷ y ∷ xs) is = absurd (omega arith)

none : {A : Type 0} (xs : List A) → length xs ≡ 0 → xs ≡ []
none [] is = refl
none (x ∷ xs) is = absurd (omega arith)

module _ {K V : Type 0} (eq : K → K → Bool) (settings : Settings K V) where
  -- as many notices pass a test as written pairs do that are not stored
  pub noticed : (h : List (Event K V)) (books : Books K V) (given : List (Removal K V)) (test : K → V → Bool) → IsConserved eq settings h books given → SeesKeysAlike eq test
      → count_written test h ≡ count_standing test books.orders + length (passing test (given ++ books.notices))
  noticed h books given test conserved alike =
      let all = conserved.pairs test alike in
      let both : length (passing test (given ++ books.notices)) ≡ count_left test given + count_left test books.notices =
      ap length (filter-append (λ (l : Removal K V). test l.key l.value) given books.notices) ∙ length-append (passing test given) (passing test books.notices) in
      omega (arith, all, both)

  pub conserved-once : (h : List (Event K V)) (books : Books K V) (given : List (Removal K V)) (test : K → V → Bool) → IsConserved eq settings h books given → SeesKeysAlike eq test
      → count_written test h ≡ 1 → count_standing test books.orders ≡ 0 → OnePasses test (given ++ books.notices)
  conserved-once h books given test conserved alike written stored =
      let all = noticed h books given test conserved alike in
      one (passing test (given ++ books.notices)) (omega (arith, all, written, stored))

  module _ {E : Type 0} where
    notice-in : (said : Reply K V E) → noticed_by said ≡ notice_in said
    notice-in (Noticed (Some l)) = refl
    notice-in (Noticed None) = refl
    notice-in said = refl

    -- what calls returned is what was given out
    pub returned-given : (made : List (Made K V E)) → AreMade eq settings made → notices_returned made ≡ given_out eq settings (events_made eq settings made)
    returned-given [] are = refl
    returned-given (m ∷ made) are =
        let steps = steps_made made in
        let says = given-by_reply (λ v w. v ≡ w) eq settings steps m.call m.it.reply (rw are.0 (itself-equal m.it.reply)) in
        let after = subst (λ it. given_out eq settings (events_in (with_step it steps)) ≡ given_out eq settings (events_in steps) ++ noticed_by m.it.reply) are.0 says in
        rw (returned-given made are.1, ← notice-in m.it.reply) (sym after)

    pub conserved-made : IsEquivalence eq → (made : List (Made K V E)) → AreMade eq settings made → IsConserved eq settings (events_made eq settings made) (books_of eq settings (events_made eq settings made)) (notices_returned made)
    conserved-made laws made are = rw (returned-given made are) (is_conserved eq settings laws (events_made eq settings made))

    -- the notices are as many as the written pairs that are not stored
    noticed-made : IsEquivalence eq → (made : List (Made K V E)) → AreMade eq settings made → (test : K → V → Bool) (written stored : ℕ) → Passes eq settings made test written stored → written ≡ stored + length (passing test (all_notices eq settings made))
    noticed-made laws made are test written stored passes =
        let all = noticed (events_made eq settings made) (books_of eq settings (events_made eq settings made)) (notices_returned made) test (conserved-made laws made are) passes.0 in
        let w = passes.1 in
        let s = passes.2 in
        omega (arith, all, w, s)

    pub once-made : IsEquivalence eq → (made : List (Made K V E)) → AreMade eq settings made → (test : K → V → Bool) → Passes eq settings made test 1 0 → OnePasses test (all_notices eq settings made)
    once-made laws made are test passes = let all = noticed-made laws made are test 1 0 passes in one (passing test (all_notices eq settings made)) (omega (arith, all))

    pub none-made : IsEquivalence eq → (made : List (Made K V E)) → AreMade eq settings made → (test : K → V → Bool) (n : ℕ) → Passes eq settings made test n n → passing test (all_notices eq settings made) ≡ []
    none-made laws made are test n passes = let all = noticed-made laws made are test n n passes in none (passing test (all_notices eq settings made)) (omega (arith, all))

    pub in-order : IsEquivalence eq → (made : List (Made K V E)) → AreMade eq settings made → all_notices eq settings made ≡ removals eq settings (events_made eq settings made)
    in-order laws made are = (conserved-made laws made are).removals
