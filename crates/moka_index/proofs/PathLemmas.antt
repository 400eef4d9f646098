-- Numbers in a list, and paths through them.
use Rattle.std.proofs.Common.{◌≡◌, ◌≢◌, ℕ, zero, suc, ◌+◌, ◌<◌, ◌≤◌, ◌==◌, true, false, List, [], ◌∷◌, ◌++◌, length, Some, None, refl, sym, ap, subst, ◌∙◌, arith, rules, inl, inr, ⊎_elim}
use Rattle.std.specs.Prelude.{◌⊎◌, ⊤}
use Rattle.std.proofs.lemmas.Bool.{cases_eq, eq-eqb, ne_eqb}
use Rattle.moka_index.specs.Paths.{IsAmong, IsAbsent, count_of, without, steps, first_of, number_behind}
use Rattle.moka_index.specs.Nodes.{row_of}

-- no number comes twice
abbrev pub IsApart : List ℕ → Type 0
IsApart [] = ⊤
IsApart (x ∷ xs) = IsAbsent x xs × IsApart xs

-- the links lead from a through these numbers to e
abbrev pub IsPath : (ℕ → ℕ) → ℕ → List ℕ → ℕ → Type 0
IsPath next a [] e = next a ≡ e
IsPath next a (x ∷ xs) e = (next a ≡ x) × IsPath next x xs e

-- whether a number is in a list, and how often
count-here : (k x : ℕ) (xs : List ℕ) → x ≡ k → count_of k (x ∷ xs) ≡ 1 + count_of k xs
count-here k x xs is = search (rules, is)

count-there : (k x : ℕ) (xs : List ℕ) → x ≢ k → count_of k (x ∷ xs) ≡ count_of k xs
count-there k x xs not = rw (ne_eqb x k not) (omega arith)

pub among-counted : (k : ℕ) (xs : List ℕ) → 0 < count_of k xs → IsAmong k xs
among-counted k [] h = absurd (omega arith)
among-counted k (x ∷ xs) h = ⊎_elim (λ e. inl e) (λ ne. let there = count-there k x xs ne in inr (among-counted k xs (omega arith))) (cases_eq x k)

pub counted-among : (k : ℕ) (xs : List ℕ) → IsAmong k xs → 0 < count_of k xs
counted-among k [] h = absurd h
counted-among k (x ∷ xs) h =
    ⊎_elim (λ e. let here = count-here k x xs e in omega arith) (λ ne. let there = count-there k x xs ne in let rest = counted-among k xs (⊎_elim (λ e. absurd (ne e)) (λ q. q) h) in omega arith) (cases_eq x k)

pub absent-counted : (k : ℕ) (xs : List ℕ) → count_of k xs ≡ 0 → IsAbsent k xs
absent-counted k xs none h = let some = counted-among k xs h in absurd (omega arith)

pub counted-absent : (k : ℕ) (xs : List ℕ) → IsAbsent k xs → count_of k xs ≡ 0
counted-absent k [] h = refl
counted-absent k (x ∷ xs) h = count-there k x xs (λ e. h (inl e)) ∙ counted-absent k xs (λ q. h (inr q))

pub apart-counted : (xs : List ℕ) → ((k : ℕ) → count_of k xs ≤ 1) → IsApart xs
apart-counted [] h = tt
apart-counted (x ∷ xs) h = (
  absent-counted x xs (let here = count-here x x xs refl in let few = h x in omega arith),
  apart-counted xs (λ k. let few = h k in ⊎_elim (λ e. let here = count-here k x xs e in omega arith) (λ ne. let there = count-there k x xs ne in omega arith) (cases_eq x k)),
)

pub counted-apart : (xs : List ℕ) → IsApart xs → (k : ℕ) → count_of k xs ≤ 1
counted-apart [] h k = omega arith
counted-apart (x ∷ xs) h k =
    ⊎_elim (λ e. let here = count-here k x xs e in let none = counted-absent k xs (λ q. h.0 (subst (λ t. IsAmong t xs) (sym e) q)) in omega arith)
    (λ ne. let there = count-there k x xs ne in let few = counted-apart xs h.1 k in omega arith) (cases_eq x k)

-- a ring is a path
pub path-ring : (next : ℕ → ℕ) (a e : ℕ) (xs : List ℕ) → steps next (suc (length xs)) (next a) ≡ xs ++ e ∷ [] → IsPath next a xs e
path-ring next a e [] h = cc
path-ring next a e (x ∷ xs) h =
    let here : next a ≡ x = cc in
    let rest : steps next (suc (length xs)) (next (next a)) ≡ xs ++ e ∷ [] = cc in
    (here, path-ring next x e xs (subst (λ t. steps next (suc (length xs)) (next t) ≡ xs ++ e ∷ []) here rest))

pub ring-path : (next : ℕ → ℕ) (a e : ℕ) (xs : List ℕ) → IsPath next a xs e → steps next (suc (length xs)) (next a) ≡ xs ++ e ∷ []
ring-path next a e [] h = ap (λ t. t ∷ []) h
ring-path next a e (x ∷ xs) h = rw h.0 (ap (λ t. x ∷ t) (ring-path next x e xs h.1))

pub without-here : (x : ℕ) (z : ℕ) (zs : List ℕ) → z ≡ x → without x (z ∷ zs) ≡ zs
without-here x z zs is = search (rules, is)

pub without-there : (x : ℕ) (z : ℕ) (zs : List ℕ) → z ≢ x → without x (z ∷ zs) ≡ z ∷ without x zs
without-there x z zs not = rw (ne_eqb z x not) refl

-- which numbers are in a list without one of its numbers
pub among-without : (x k : ℕ) (zs : List ℕ) → IsAmong k (without x zs) → IsAmong k zs
among-without x k [] h = h
among-without x k (z ∷ zs) h = ⊎_elim (λ e. inr (subst (IsAmong k) (without-here x z zs e) h)) (λ ne. ⊎_elim (λ q. inl q) (λ q. inr (among-without x k zs q)) (subst (IsAmong k) (without-there x z zs ne) h)) (cases_eq z x)

pub among-others : (x k : ℕ) (zs : List ℕ) → k ≢ x → IsAmong k zs → IsAmong k (without x zs)
among-others x k [] ne h = h
among-others x k (z ∷ zs) ne h =
    ⊎_elim (λ e. subst (IsAmong k) (sym (without-here x z zs e)) (⊎_elim (λ q. absurd (ne (sym q ∙ e))) (λ q. q) h))
    (λ far. subst (IsAmong k) (sym (without-there x z zs far)) (⊎_elim (λ q. inl q) (λ q. inr (among-others x k zs ne q)) h)) (cases_eq z x)

pub apart-without : (x : ℕ) (zs : List ℕ) → IsApart zs → IsApart (without x zs)
apart-without x [] h = h
apart-without x (z ∷ zs) h =
    ⊎_elim (λ e. subst IsApart (sym (without-here x z zs e)) h.1)
    (λ ne. subst IsApart (sym (without-there x z zs ne)) ((λ q. h.0 (among-without x z zs q)), apart-without x zs h.1)) (cases_eq z x)

pub absent-without : (x : ℕ) (zs : List ℕ) → IsApart zs → IsAbsent x (without x zs)
absent-without x [] h = λ q. q
absent-without x (z ∷ zs) h =
    ⊎_elim (λ e. λ q. h.0 (subst (λ t. IsAmong t zs) (sym e) (subst (IsAmong x) (without-here x z zs e) q)))
    (λ ne. λ q. ⊎_elim (λ t. ne t) (λ t. absent-without x zs h.1 t) (subst (IsAmong x) (without-there x z zs ne) q)) (cases_eq z x)

pub length-without : (x : ℕ) (zs : List ℕ) → IsAmong x zs → length (without x zs) + 1 ≡ length zs
length-without x [] h = absurd h
length-without x (z ∷ zs) h =
    ⊎_elim (λ e. rw (without-here x z zs e) (omega arith))
    (λ ne. rw (without-there x z zs ne) (let less = length-without x zs (⊎_elim (λ q. absurd (ne q)) (λ q. q) h) in omega arith)) (cases_eq z x)

pub without-absent : (x : ℕ) (zs : List ℕ) → IsAbsent x zs → without x zs ≡ zs
without-absent x [] h = refl
without-absent x (z ∷ zs) h = without-there x z zs (λ e. h (inl e)) ∙ ap (λ t. z ∷ t) (without-absent x zs (λ q. h (inr q)))

-- a number with none after it is the last one: moved after all others, it keeps its place
first_of-none : (xs : List ℕ) → first_of xs ≡ None → xs ≡ []
first_of-none [] none = refl
first_of-none (x ∷ xs) none = absurd cc

pub last-stays : (k : ℕ) (xs : List ℕ) → IsAmong k xs → number_behind k xs ≡ None → xs ≡ without k xs ++ k ∷ []
last-stays k [] h none = absurd h
last-stays k (x ∷ xs) h none = ⊎_elim here (λ ne. there ne (λ later last. last-stays k xs later last)) (cases_eq x k)
  where
    here : x ≡ k → x ∷ xs ≡ without k (x ∷ xs) ++ k ∷ []
    here e =
        let is : (x == k) ≡ true = eq-eqb x k e in
        let last : xs ≡ [] = first_of-none xs (rw is at none) in
        ap (λ t. t ∷ xs) e ∙ ap (λ t. k ∷ t) last ∙ ap (λ t. t ++ k ∷ []) (sym (without-here k x xs e ∙ last))

    there : x ≢ k → (IsAmong k xs → number_behind k xs ≡ None → xs ≡ without k xs ++ k ∷ []) → x ∷ xs ≡ without k (x ∷ xs) ++ k ∷ []
    there ne rest =
        let is : (x == k) ≡ false = ne_eqb x k ne in
        let later : IsAmong k xs = ⊎_elim (λ e. absurd (ne e)) (λ q. q) h in
        ap (λ t. x ∷ t) (rest later (rw is at none)) ∙ ap (λ t. t ++ k ∷ []) (sym (without-there k x xs ne))

-- a list with more numbers at its end
pub among-front : (k : ℕ) (xs ys : List ℕ) → IsAmong k xs → IsAmong k (xs ++ ys)
among-front k [] ys h = absurd h
among-front k (x ∷ xs) ys h = ⊎_elim (λ e. inl e) (λ q. inr (among-front k xs ys q)) h

pub among-back : (k : ℕ) (xs ys : List ℕ) → IsAmong k ys → IsAmong k (xs ++ ys)
among-back k [] ys h = h
among-back k (x ∷ xs) ys h = inr (among-back k xs ys h)

pub among-parts : (k : ℕ) (xs ys : List ℕ) → IsAmong k (xs ++ ys) → IsAmong k xs ⊎ IsAmong k ys
among-parts k [] ys h = inr h
among-parts k (x ∷ xs) ys h = ⊎_elim (λ e. inl (inl e)) (λ q. ⊎_elim (λ t. inl (inr t)) (λ t. inr t) (among-parts k xs ys q)) h

pub among-push : (k x : ℕ) (xs : List ℕ) → IsAmong k (xs ++ x ∷ []) → IsAmong k xs ⊎ (x ≡ k)
among-push k x xs h = ⊎_elim (λ q. inl q) (λ q. ⊎_elim (λ e. inr e) (λ t. absurd t) q) (among-parts k xs (x ∷ []) h)

pub apart-push : (x : ℕ) (xs : List ℕ) → IsApart xs → IsAbsent x xs → IsApart (xs ++ x ∷ [])
apart-push x [] h a = ((λ q. q), tt)
apart-push x (y ∷ ys) h a = ((λ q. ⊎_elim (λ t. h.0 t) (λ e. a (inl (sym e))) (among-push y x ys q)), apart-push x ys h.1 (λ q. a (inr q)))

-- a list of different numbers that are all in another list is not longer than that
pub no-more : (xs ys : List ℕ) → IsApart xs → ((k : ℕ) → IsAmong k xs → IsAmong k ys) → length xs ≤ length ys
no-more [] ys h all = omega arith
no-more (x ∷ xs) ys h all =
    let there = all x (inl refl) in
    let rest = no-more xs (without x ys) h.1 (λ k q. among-others x k ys (λ e. h.0 (subst (λ t. IsAmong t xs) e q)) (all k (inr q))) in
    let less = length-without x ys there in
    omega arith

-- the numbers below n
abbrev below : ℕ → List ℕ
below zero = []
below (suc n) = n ∷ below n

among-below : (n k : ℕ) → k < n → IsAmong k (below n)
among-below zero k h = absurd (omega arith)
among-below (suc n) k h = ⊎_elim (λ e. inl (sym e)) (λ ne. inr (among-below n k (omega arith))) (cases_eq k n)

length-below : (n : ℕ) → length (below n) ≡ n
length-below zero = refl
length-below (suc n) = ap suc (length-below n)

pub few-below : (n : ℕ) (xs : List ℕ) → IsApart xs → ((k : ℕ) → IsAmong k xs → k < n) → length xs ≤ n
few-below n xs h all = let few = no-more xs (below n) h (λ k q. among-below n k (all k q)) in let is = length-below n in omega arith

-- as many steps as a path has numbers go through these
pub path-steps : (next : ℕ → ℕ) (a e : ℕ) (xs : List ℕ) → IsPath next a xs e → steps next (length xs) (next a) ≡ xs
path-steps next a e [] h = refl
path-steps next a e (x ∷ xs) h = rw h.0 (ap (λ t. x ∷ t) (path-steps next x e xs h.1))

pub length-steps : (next : ℕ → ℕ) (n a : ℕ) → length (steps next n a) ≡ n
length-steps next zero a = refl
length-steps next (suc n) a = ap suc (length-steps next n (next a))

-- steps by links that say the same
pub steps-same : (next next' : ℕ → ℕ) (n a : ℕ) → ((k : ℕ) → next' k ≡ next k) → steps next' n a ≡ steps next n a
steps-same next next' zero a same = refl
steps-same next next' (suc n) a same = ap (λ t. a ∷ t) (ap (steps next' n) (same a) ∙ steps-same next next' n (next a) same)

-- the first number of a path, and the one after a number, if the path ends at no row
pub row_of-row : (k : ℕ) → 2 ≤ k → row_of k ≡ Some k
row_of-row k h = search (rules, arith)

pub row_of-end : (e : ℕ) → e < 2 → row_of e ≡ None
row_of-end e h = search (rules, arith)

pub path-first : (next : ℕ → ℕ) (a e : ℕ) (xs : List ℕ) → e < 2 → ((k : ℕ) → IsAmong k xs → 2 ≤ k) → IsPath next a xs e → row_of (next a) ≡ first_of xs
path-first next a e [] end above h = ap row_of h ∙ row_of-end e end
path-first next a e (x ∷ xs) end above h = ap row_of h.0 ∙ row_of-row x (above x (inl refl))

pub path-behind : (next : ℕ → ℕ) (a e k : ℕ) (xs : List ℕ) → e < 2 → ((k : ℕ) → IsAmong k xs → 2 ≤ k) → IsPath next a xs e → IsAmong k xs → row_of (next k) ≡ number_behind k xs
path-behind next a e k [] end above h q = absurd q
path-behind next a e k (x ∷ xs) end above h q =
    ⊎_elim (λ is. ap (λ t. row_of (next t)) (sym is) ∙ path-first next x e xs end (λ j t. above j (inr t)) h.1 ∙ sym (behind-here is))
    (λ not. path-behind next x e k xs end (λ j t. above j (inr t)) h.1 (⊎_elim (λ is. absurd (not is)) (λ t. t) q) ∙ sym (behind-there not)) (cases_eq x k)
  where
    behind-here : x ≡ k → number_behind k (x ∷ xs) ≡ first_of xs
    behind-here is = search (rules, is)

    behind-there : x ≢ k → number_behind k (x ∷ xs) ≡ number_behind k xs
    behind-there not = rw (ne_eqb x k not) refl

-- links that changed only elsewhere keep a path
module _ (next next' : ℕ → ℕ) (x : ℕ) where
  pub path-frame : (t a e : ℕ) (xs : List ℕ) → ((k : ℕ) → k ≢ x → next k ≢ t → next' k ≡ next k) → a ≢ x → e ≢ t → IsAbsent t xs → IsAbsent x xs → IsPath next a xs e → IsPath next' a xs e
  path-frame t a e [] others ax et absent away h = others a ax (λ q. et (sym h ∙ q)) ∙ h
  path-frame t a e (y ∷ ys) others ax et absent away h = (
    others a ax (λ q. absent (inl (sym h.0 ∙ q))) ∙ h.0,
    path-frame t y e ys others (λ q. away (inl q)) et (λ q. absent (inr q)) (λ q. away (inr q)) h.1,
  )

  -- x was taken out, where it was in the path
  pub path-left : (a e : ℕ) (xs : List ℕ) → ((k : ℕ) → k ≢ x → next k ≡ x → next' k ≡ next x) → ((k : ℕ) → k ≢ x → next k ≢ x → next' k ≡ next k)
      → a ≢ x → e ≢ x → IsApart xs → IsPath next a xs e → IsPath next' a (without x xs) e
  path-left a e [] passes others ax ex apart h = others a ax (λ q. ex (sym h ∙ q)) ∙ h
  path-left a e (y ∷ ys) passes others ax ex apart h =
      ⊎_elim (λ is. subst (λ t. IsPath next' a t e) (sym (without-here x y ys is)) (here is ys apart.0 h.1))
      (λ not. subst (λ t. IsPath next' a t e) (sym (without-there x y ys not)) (others a ax (λ q. not (sym h.0 ∙ q)) ∙ h.0, path-left y e ys passes others not ex apart.1 h.1)) (cases_eq y x)
    where
      here : y ≡ x → (zs : List ℕ) → IsAbsent y zs → IsPath next y zs e → IsPath next' a zs e
      here is [] absent p = passes a ax (h.0 ∙ is) ∙ ap next (sym is) ∙ p
      here is (z ∷ zs) absent p = (
        passes a ax (h.0 ∙ is) ∙ ap next (sym is) ∙ p.0,
        path-frame x z e zs others (λ q. absent (inl (q ∙ sym is))) ex (λ q. absent (inr (subst (λ t. IsAmong t zs) (sym is) q)))
            (λ q. absent (inr (subst (λ t. IsAmong t zs) (sym is) q))) p.1,
      )

  -- x was put before the end of the path
  pub path-joined : (a e : ℕ) (xs : List ℕ) → ((k : ℕ) → k ≢ x → next k ≡ e → next' k ≡ x) → ((k : ℕ) → k ≢ x → next k ≢ e → next' k ≡ next k)
      → next' x ≡ e → a ≢ x → IsAbsent x xs → IsAbsent e xs → IsPath next a xs e → IsPath next' a (xs ++ x ∷ []) e
  path-joined a e [] last others ends ax absent off h = (last a ax h, ends)
  path-joined a e (y ∷ ys) last others ends ax absent off h = (
    others a ax (λ q. off (inl (sym h.0 ∙ q))) ∙ h.0,
    path-joined y e ys last others ends (λ q. absent (inl q)) (λ q. absent (inr q)) (λ q. off (inr q)) h.1,
  )
