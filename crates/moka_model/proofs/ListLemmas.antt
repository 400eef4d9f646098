-- Lists that are filtered, and in which what passes a test changes or moves.
use Rattle.std.proofs.Common.{◌≡◌, ◌⊎◌, inl, inr, ⊎_elim, Bool, true, false, not, cond, ◌&&◌, ◌||◌, List, [], ◌∷◌, ◌++◌, map, Option, Some, None, option_map, refl, sym, ap, ◌∙◌}
use Rattle.std.specs.Option.{option_to_list}
use Rattle.std.specs.List.{filter, list_any}
use Rattle.std.proofs.lemmas.Bool.{cases_Bool}
use Rattle.std.proofs.lemmas.List.{append-nil, map-append}
use Rattle.std.proofs.lemmas.List.Elements.{filter-append, filter_agree}
use Rattle.moka_model.specs.Orders.{changed_where, moved_last}

-- those that pass both of two tests
pub filter-both : {A : Type 0} (p q : A → Bool) (xs : List A) → filter (λ x. p x && q x) xs ≡ filter q (filter p xs)
filter-both p q [] = refl
filter-both p q (x ∷ xs) = go (p x) refl (filter-both p q xs)
  where
    go : (t : Bool) → p x ≡ t → filter (λ y. p y && q y) xs ≡ filter q (filter p xs) → filter (λ y. p y && q y) (x ∷ xs) ≡ filter q (filter p (x ∷ xs))
    go true h more = rw h (ap (λ l. cond (q x) (x ∷ l) l) more)
    go false h more = rw h more

-- both tests hold in either order
pub and_comm : (s t : Bool) → (s && t) ≡ (t && s)
and_comm true true = refl
and_comm true false = refl
and_comm false true = refl
and_comm false false = refl

-- two tests leave the same in either order
pub filter_comm : {A : Type 0} (p q : A → Bool) (xs : List A) → filter q (filter p xs) ≡ filter p (filter q xs)
filter_comm p q xs = sym (filter-both p q xs) ∙ filter_agree (λ x. p x && q x) (λ x. q x && p x) (λ x. and_comm (p x) (q x)) xs ∙ filter-both q p xs

-- where a change keeps what a test says, the changed ones pass that passed before
pub filter-map : {A : Type 0} (p : A → Bool) (change : A → A) → ((x : A) → p (change x) ≡ p x) → (xs : List A) → filter p (map change xs) ≡ map change (filter p xs)
filter-map p change kept [] = refl
filter-map p change kept (x ∷ xs) = rw (kept x, filter-map p change kept xs) (go (p x))
  where
    go : (t : Bool) → cond t (change x ∷ map change (filter p xs)) (map change (filter p xs)) ≡ map change (cond t (x ∷ filter p xs) (filter p xs))
    go true = refl
    go false = refl

-- a test of what is read of each element
pub list_any-map : {A B : Type 0} (read : A → B) (p : B → Bool) (xs : List A) → list_any p (map read xs) ≡ list_any (λ x. p (read x)) xs
list_any-map read p [] = refl
list_any-map read p (x ∷ xs) = ap (λ t. p (read x) || t) (list_any-map read p xs)

-- a list of one at most that is joined from two is one of them, and the other is empty
pub one_side : {A : Type 0} (xs ys : List A) (o : Option A) → xs ++ ys ≡ option_to_list o → ((xs ≡ []) × (ys ≡ option_to_list o)) ⊎ ((xs ≡ option_to_list o) × (ys ≡ []))
one_side [] ys o e = inl (refl, e)
one_side (x ∷ xs) ys None e = cc
one_side (x ∷ []) [] (Some z) e = inr (e, refl)
one_side (x ∷ []) (y ∷ ys) (Some z) e = cc
one_side (x ∷ (v ∷ xs)) ys (Some z) e = cc

module _ {A : Type 0} (p : A → Bool) (change : A → A) where
  -- what passes the test is changed
  abbrev pub changed_if : A → A
  changed_if x = cond (p x) (change x) x

  module _ (q : A → Bool) (kept : (x : A) → q (change x) ≡ q x) where
    changed_if-kept : (x : A) → q (changed_if x) ≡ q x
    changed_if-kept x = go (p x)
      where
        go : (t : Bool) → q (cond t (change x) x) ≡ q x
        go true = kept x
        go false = refl

    -- a change in place and a filter go in either order,
    pub filter-changed_where : (xs : List A) → filter q (changed_where p change xs) ≡ changed_where p change (filter q xs)
    filter-changed_where xs = filter-map q changed_if changed_if-kept xs

    -- and so do a move and a filter
    pub filter-moved_last : (xs : List A) → filter q (moved_last p change xs) ≡ moved_last p change (filter q xs)
    filter-moved_last xs =
        filter-append q (filter (λ x. not (p x)) xs) (map change (filter p xs))
        ∙ ap (λ l. l ++ filter q (map change (filter p xs))) (filter_comm (λ x. not (p x)) q xs)
        ∙ ap (λ l. filter (λ x. not (p x)) (filter q xs) ++ l) (filter-map q change kept (filter p xs) ∙ ap (map change) (filter_comm p q xs))

  -- a move in a list of one at most is a change of that one
  moved_last-option : (o : Option A) → moved_last p change (option_to_list o) ≡ option_to_list (option_map changed_if o)
  moved_last-option None = refl
  moved_last-option (Some x) = go (p x)
    where
      go : (t : Bool) → cond (not t) (x ∷ []) [] ++ map change (cond t (x ∷ []) []) ≡ cond t (change x) x ∷ []
      go true = refl
      go false = refl

  changed_where-option : (o : Option A) → changed_where p change (option_to_list o) ≡ option_to_list (option_map changed_if o)
  changed_where-option None = refl
  changed_where-option (Some x) = refl

  -- so is a use in two lists that have one element at most together
  pub used-option : (xs ys : List A) (o : Option A) → xs ++ ys ≡ option_to_list o → moved_last p change xs ++ changed_where p change ys ≡ option_to_list (option_map changed_if o)
  used-option xs ys o e =
      ⊎_elim
      (λ (s : (xs ≡ []) × (ys ≡ option_to_list o)). rw (s.0, s.1) (changed_where-option o))
      (λ (s : (xs ≡ option_to_list o) × (ys ≡ [])). rw (s.0, s.1) (append-nil (moved_last p change (option_to_list o)) ∙ moved_last-option o))
      (one_side xs ys o e)

-- what passes a test and what does not
module _ {A : Type 0} (p : A → Bool) where
  -- where none passes, all are left
  pub rest-all : (xs : List A) → filter p xs ≡ [] → filter (λ x. not (p x)) xs ≡ xs
  rest-all [] none = refl
  rest-all (x ∷ xs) none = go (p x) refl (rest-all xs)
    where
      go : (t : Bool) → p x ≡ t → (filter p xs ≡ [] → filter (λ y. not (p y)) xs ≡ xs) → filter (λ y. not (p y)) (x ∷ xs) ≡ x ∷ xs
      go true h more = let some : x ∷ filter p xs ≡ [] = rw h at none in cc
      go false h more = rw h (ap (λ l. x ∷ l) (more (rw h at none)))

  -- and none changes
  pub changed_where-none : (change : A → A) (xs : List A) → filter p xs ≡ [] → changed_where p change xs ≡ xs
  changed_where-none change [] none = refl
  changed_where-none change (x ∷ xs) none = go (p x) refl (changed_where-none change xs)
    where
      go : (t : Bool) → p x ≡ t → (filter p xs ≡ [] → changed_where p change xs ≡ xs) → changed_where p change (x ∷ xs) ≡ x ∷ xs
      go true h more = let some : x ∷ filter p xs ≡ [] = rw h at none in cc
      go false h more = rw h (ap (λ l. x ∷ l) (more (rw h at none)))

  -- nor moves
  pub moved_last-none : (change : A → A) (xs : List A) → filter p xs ≡ [] → moved_last p change xs ≡ xs
  moved_last-none change xs none = ap (λ l. filter (λ x. not (p x)) xs ++ map change l) none ∙ append-nil (filter (λ x. not (p x)) xs) ∙ rest-all xs none

  module _ (xs ys : List A) (x : A) (here : p x ≡ true) (before : filter p xs ≡ []) (after : filter p ys ≡ []) where
    filter-one : filter p (xs ++ x ∷ ys) ≡ x ∷ []
    filter-one = filter-append p xs (x ∷ ys) ∙ ap (λ l. l ++ filter p (x ∷ ys)) before ∙ ap (λ t. cond t (x ∷ filter p ys) (filter p ys)) here ∙ ap (λ l. x ∷ l) after

    -- the one that passes is taken out
    pub rest-one : filter (λ y. not (p y)) (xs ++ x ∷ ys) ≡ xs ++ ys
    rest-one = filter-append (λ y. not (p y)) xs (x ∷ ys) ∙ ap (λ l. l ++ filter (λ y. not (p y)) (x ∷ ys)) (rest-all xs before)
        ∙ ap (λ t. xs ++ cond (not t) (x ∷ filter (λ y. not (p y)) ys) (filter (λ y. not (p y)) ys)) here ∙ ap (λ l. xs ++ l) (rest-all ys after)

    -- the one that passes goes behind all others
    pub moved_last-one : (change : A → A) → moved_last p change (xs ++ x ∷ ys) ≡ (xs ++ ys) ++ change x ∷ []
    moved_last-one change = ap (λ l. l ++ map change (filter p (xs ++ x ∷ ys))) rest-one ∙ ap (λ l. (xs ++ ys) ++ map change l) filter-one

    -- the one that passes changes in its place
    pub changed_where-one : (change : A → A) → changed_where p change (xs ++ x ∷ ys) ≡ xs ++ change x ∷ ys
    changed_where-one change = map-append (λ y. cond (p y) (change y) y) xs (x ∷ ys) ∙ ap (λ l. l ++ changed_where p change (x ∷ ys)) (changed_where-none change xs before)
        ∙ ap (λ t. xs ++ cond t (change x) x ∷ changed_where p change ys) here ∙ ap (λ l. xs ++ change x ∷ l) (changed_where-none change ys after)

-- a narrower test passes no more
pub filter-narrower : {A : Type 0} (p q : A → Bool) (xs : List A) → ((x : A) → q x ≡ true → p x ≡ true) → filter p xs ≡ [] → filter q xs ≡ []
filter-narrower p q [] narrow none = refl
filter-narrower p q (x ∷ xs) narrow none = go (q x) refl (p x) refl (filter-narrower p q xs narrow)
  where
    go : (s : Bool) → q x ≡ s → (t : Bool) → p x ≡ t → (filter p xs ≡ [] → filter q xs ≡ []) → filter q (x ∷ xs) ≡ []
    go s h true e more = let some : x ∷ filter p xs ≡ [] = rw e at none in cc
    go true h false e more = let no = sym e ∙ narrow x h in cc
    go false h false e more = rw h (more (rw e at none))

-- a list around an element that has one element at most has that one alone
pub alone : {A : Type 0} (xs ys : List A) (x : A) (o : Option A) → xs ++ x ∷ ys ≡ option_to_list o → (xs ≡ []) × (ys ≡ [])
alone [] ys x None e = cc
alone [] ys x (Some v) e = (refl, cc)
alone (z ∷ xs) ys x None e = cc
alone (z ∷ []) ys x (Some v) e = cc
alone (z ∷ (y ∷ zs)) ys x (Some v) e = cc

-- two lists that join to none are empty
pub empty_parts : {A : Type 0} (xs ys : List A) → xs ++ ys ≡ [] → (xs ≡ []) × (ys ≡ [])
empty_parts [] ys e = (refl, e)
empty_parts (x ∷ xs) ys e = cc

-- a change that keeps what is read of each element keeps what is read of all
pub map-changed_where : {A B : Type 0} (read : A → B) (p : A → Bool) (change : A → A) → ((x : A) → read (change x) ≡ read x) → (xs : List A) → map read (changed_where p change xs) ≡ map read xs
map-changed_where read p change kept [] = refl
map-changed_where read p change kept (x ∷ xs) = rw (map-changed_where read p change kept xs) (ap (λ y. y ∷ map read xs) (go (p x)))
  where
    go : (t : Bool) → read (cond t (change x) x) ≡ read x
    go true = kept x
    go false = refl

-- a test of what is read of each element
pub map-filter : {A B : Type 0} (read : A → B) (p : B → Bool) (xs : List A) → map read (filter (λ x. p (read x)) xs) ≡ filter p (map read xs)
map-filter read p [] = refl
map-filter read p (x ∷ xs) = rw (← map-filter read p xs) (go (p (read x)))
  where
    go : (t : Bool) → map read (cond t (x ∷ filter (λ y. p (read y)) xs) (filter (λ y. p (read y)) xs)) ≡ cond t (read x ∷ map read (filter (λ y. p (read y)) xs)) (map read (filter (λ y. p (read y)) xs))
    go true = refl
    go false = refl

-- a test finds nothing where a filter keeps nothing
pub list_any-filtered : {A : Type 0} (p : A → Bool) (xs : List A) → filter p xs ≡ [] → list_any p xs ≡ false
list_any-filtered p [] none = refl
list_any-filtered p (x ∷ xs) none =
    ⊎_elim
    (λ is. let some = rw is at none in cc)
    (λ is. rw is (list_any-filtered p xs (rw is at none)))
    (cases_Bool (p x))
