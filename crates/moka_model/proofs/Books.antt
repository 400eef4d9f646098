-- What each event makes of the books, and what a state comes to stand for.
use Rattle.std.proofs.Common.{subst, ◌≡◌, ℕ, ◌+◌, ◌<◌, ◌≤◌, nat_le, max, min, Bool, true, false, Option, Some, None, List, [], ◌∷◌, ◌++◌, length, map, drop, refl, sym, ap, ◌∙◌, append_assoc, append-nil, length-append, add-zero, arith}
use Rattle.std.proofs.Math.Path.{fun_ext}
use Rattle.std.specs.Option.{option_to_list}
use Rattle.std.specs.Cmp.{IsEquivalence}
use Rattle.std.proofs.lemmas.Bool.{leb-true, leb-false}
use Rattle.std.proofs.lemmas.List.{drop-append-le, drop-drop, drop_all}
use Rattle.moka_model.specs.declared.notification.RemovalCause.{RemovalCause}
use Rattle.moka_model.specs.declared.notification.RemovalCause.TheVariants.{Explicit, Replaced, Size}
use Rattle.moka_model.specs.Lives.{Settings, Write, after_look}
use Rattle.moka_model.specs.Events.{Event, Looked, TurnedDown, Written, Invalidated, Hidden, Maintained, Passed, Drawn, Taken, latest}
use Rattle.moka_model.specs.Admission.{notes, frequency}
use Rattle.moka_model.specs.Orders.{is_hit, used_where, written_in, removed_in, hidden_in, is_cut, evicted, maintained, is_left_at, orders, standing}
use Rattle.moka_model.specs.OrderLaws.{held}
use Rattle.moka_model.specs.Removals.{Removal, removal_of, removals_of, removals_at, removals, taken, notices_left}
use Rattle.moka_model.specs.Numbers.{next_number}
use Rattle.moka_model.specs.Steps.{AcceptedStep, events_in, turns as turns_of}
use Rattle.moka_model.specs.Calls.{Call, after, IsLegal, Holds}
use Rattle.moka_model.specs.StandsFor.{Books, books_of, View, WholeView, StandsFor}
use Rattle.moka_model.specs.Turns.{Turn}
use Rattle.moka_model.proofs.Legal.{IsLegal-after}
use Rattle.moka_model.proofs.OrdersHold.{held-orders}

max-zero : (n : ℕ) → max n 0 ≡ n
max-zero n = omega arith

-- to drop one more is to drop up to the end
one-less : {A : Type 0} (n : ℕ) (xs : List A) → n ≤ length xs → drop 1 (drop n xs) ≡ drop (min (n + 1) (length xs)) xs
one-less n xs short = drop-drop 1 n xs ∙ ends (nat_le (n + 1) (length xs)) refl
  where
    ends : (t : Bool) → nat_le (n + 1) (length xs) ≡ t → drop (n + 1) xs ≡ drop (min (n + 1) (length xs)) xs
    ends true h = let within : n + 1 ≤ length xs = leb-true (n + 1) (length xs) h in let same : n + 1 ≡ min (n + 1) (length xs) = omega arith in ap (λ m. drop m xs) same
    ends false h =
        let past : length xs < n + 1 = leb-false (n + 1) (length xs) h in
        let same : min (n + 1) (length xs) ≡ length xs = omega arith in
        drop_all (n + 1) xs (omega arith) ∙ sym (drop_all (length xs) xs (omega arith)) ∙ ap (λ m. drop m xs) (sym same)

module _ {K V : Type 0} (eq : K → K → Bool) (settings : Settings K V) where
  -- how many of the removals were given out changes where a notice is taken, and nowhere else
  taken-within : (e : Event K V) (h : List (Event K V)) → taken eq settings h ≤ length (removals eq settings h) → taken eq settings (e ∷ h) ≤ length (removals eq settings h)
  taken-within (Looked k at) h le = le
  taken-within (TurnedDown k at) h le = le
  taken-within (Written k v at) h le = le
  taken-within (Invalidated k at) h le = le
  taken-within (Hidden test) h le = le
  taken-within (Maintained limit at) h le = le
  taken-within (Passed at) h le = le
  taken-within Drawn h le = le
  taken-within Taken h le = omega arith

  -- no more of them were given out than there are
  pub taken-le : (h : List (Event K V)) → taken eq settings h ≤ length (removals eq settings h)
  taken-le [] = omega arith
  taken-le (e ∷ h) =
      let before : taken eq settings (e ∷ h) ≤ length (removals eq settings h) = taken-within e h (taken-le h) in
      let more = length-append (removals eq settings h) (removals_at eq settings e h) in
      omega arith

  -- what leaves is noticed behind what was noticed before
  notices-more : (h : List (Event K V)) (more : List (Removal K V)) → drop (taken eq settings h) (removals eq settings h ++ more) ≡ notices_left eq settings h ++ more
  notices-more h more = drop-append-le (taken eq settings h) (removals eq settings h) more (taken-le h)

  notices-same : (h : List (Event K V)) → drop (taken eq settings h) (removals eq settings h ++ []) ≡ notices_left eq settings h
  notices-same h = ap (drop (taken eq settings h)) (append-nil (removals eq settings h))

  notices-taken : (h : List (Event K V)) → notices_left eq settings (Taken ∷ h) ≡ drop 1 (notices_left eq settings h)
  notices-taken h =
      ap (drop (min (taken eq settings h + 1) (length (removals eq settings h)))) (append-nil (removals eq settings h))
      ∙ sym (one-less (taken eq settings h) (removals eq settings h) (taken-le h))

-- those that leave where one stands
removals_of-list : {K V : Type 0} (settings : Settings K V) (own : RemovalCause) (at : ℕ) (o : Option (Write K V)) (ws : List (Write K V)) → ws ≡ option_to_list o → removals_of settings own at o ≡ map (removal_of settings own at) ws
removals_of-list settings own at None ws is = ap (map (removal_of settings own at)) (sym is)
removals_of-list settings own at (Some w) ws is = ap (map (removal_of settings own at)) (sym is)

module _ {K V : Type 0} (eq : K → K → Bool) (settings : Settings K V) where
  -- What an event makes of the books, given how often hashes were looked for before it.
  abbrev pub books_after : (ℕ → ℕ) → Event K V → Books K V → Books K V
  books_after frequency_of (Looked k at) b = record b { orders = used_where eq settings (is_hit eq settings k (max b.latest at)) (after_look settings (max b.latest at)) b.orders; latest = max b.latest at }
  books_after frequency_of (TurnedDown k at) b = record b { latest = max b.latest at }
  books_after frequency_of (Written k v at) b = record {
    orders = written_in eq settings k v (max b.latest at) b.orders;
    notices = b.notices ++ map (removal_of settings Replaced (max b.latest at)) (held eq k b.orders);
    latest = max b.latest at;
    next_number = b.next_number + 1;
  }
  books_after frequency_of (Invalidated k at) b = record b {
    orders = removed_in eq settings k b.orders;
    notices = b.notices ++ map (removal_of settings Explicit (max b.latest at)) (held eq k b.orders);
    latest = max b.latest at;
  }
  books_after frequency_of (Hidden test) b = record b { orders = hidden_in test b.orders }
  books_after frequency_of (Maintained limit at) b = record b {
    orders = maintained settings frequency_of limit (max b.latest at) b.orders;
    notices = b.notices ++ map (removal_of settings Size (max b.latest at)) (evicted settings frequency_of limit (max b.latest at) b.orders);
    latest = max b.latest at;
  }
  books_after frequency_of (Passed at) b = record b { latest = max b.latest at }
  books_after frequency_of Drawn b = record b { next_number = b.next_number + 1 }
  books_after frequency_of Taken b = record b { notices = drop 1 b.notices }

  -- equal parts make equal books
  books-same : (a b : Books K V) → a.orders ≡ b.orders → a.notices ≡ b.notices → a.latest ≡ b.latest → a.next_number ≡ b.next_number → a ≡ b
  books-same a b orders notices moment number =
      ap (λ q. let c : Books K V = record { orders = q; notices = a.notices; latest = a.latest; next_number = a.next_number } in c) orders
      ∙ ap (λ l. let c : Books K V = record { orders = b.orders; notices = l; latest = a.latest; next_number = a.next_number } in c) notices
      ∙ ap (λ m. let c : Books K V = record { orders = b.orders; notices = b.notices; latest = m; next_number = a.next_number } in c) moment
      ∙ ap (λ n. let c : Books K V = record { orders = b.orders; notices = b.notices; latest = b.latest; next_number = n } in c) number

  -- the books after one more event
  pub books_of-event : IsEquivalence eq → (e : Event K V) (h : List (Event K V)) → books_of eq settings (e ∷ h) ≡ books_after (frequency settings h) e (books_of eq settings h)
  books_of-event laws (Looked k at) h = books-same _ _ refl (notices-same eq settings h) refl (add-zero (next_number settings h))
  books_of-event laws (TurnedDown k at) h = books-same _ _ refl (notices-same eq settings h) refl (add-zero (next_number settings h))
  books_of-event laws (Written k v at) h =
      books-same _ _ refl
      (notices-more eq settings h (removals_at eq settings (Written k v at) h) ∙ ap (λ l. notices_left eq settings h ++ l) (removals_of-list settings Replaced (latest (Written k v at ∷ h)) (standing eq settings k h) (held eq k (orders eq settings h)) (held-orders eq settings laws k h)))
      refl refl
  books_of-event laws (Invalidated k at) h =
      books-same _ _ refl
      (notices-more eq settings h (removals_at eq settings (Invalidated k at) h) ∙ ap (λ l. notices_left eq settings h ++ l) (removals_of-list settings Explicit (latest (Invalidated k at ∷ h)) (standing eq settings k h) (held eq k (orders eq settings h)) (held-orders eq settings laws k h)))
      refl (add-zero (next_number settings h))
  books_of-event laws (Hidden test) h = books-same _ _ refl (notices-same eq settings h) (max-zero (latest h)) (add-zero (next_number settings h))
  books_of-event laws (Maintained limit at) h = books-same _ _ refl (notices-more eq settings h (removals_at eq settings (Maintained limit at) h)) refl (add-zero (next_number settings h))
  books_of-event laws (Passed at) h = books-same _ _ refl (notices-same eq settings h) refl (add-zero (next_number settings h))
  books_of-event laws Drawn h = books-same _ _ refl (notices-same eq settings h) (max-zero (latest h)) refl
  books_of-event laws Taken h = books-same _ _ refl (notices-taken eq settings h) (max-zero (latest h)) (add-zero (next_number settings h))

-- A view is that of these events under these settings: what it means to stand for them, but for the list being legal.
pub record IsViewOf {K V : Type 0} (eq : K → K → Bool) (given : Settings K V) (view : View K V) (h : List (Event K V)) : Type 0 where
  pub settings : view.settings ≡ given
  pub books : view.books ≡ books_of eq given h
  pub frequency : (more : List ℕ) (hash : ℕ) → view.frequency more hash ≡ given.frequency (notes given h ++ more) hash

-- what a source estimates once it has noted what an event notes
abbrev pub frequency_after : {K V : Type 0} → Settings K V → Event K V → (List ℕ → ℕ → ℕ) → List ℕ → ℕ → ℕ
frequency_after settings (Looked k at) before more hash = before (settings.behaviour.hash k ∷ more) hash
frequency_after settings (TurnedDown k at) before more hash = before (settings.behaviour.hash k ∷ more) hash
frequency_after settings e before more hash = before more hash

-- What an event makes of a view.
abbrev pub view_after : {K V : Type 0} → (K → K → Bool) → Event K V → View K V → View K V
view_after eq e view = record {
  settings = view.settings;
  books = books_after eq view.settings (view.frequency []) e view.books;
  frequency = frequency_after view.settings e view.frequency;
}

module _ {K V : Type 0} (eq : K → K → Bool) where
  noted-after : (settings : Settings K V) (e : Event K V) (h : List (Event K V)) (before : List ℕ → ℕ → ℕ) → ((more : List ℕ) (hash : ℕ) → before more hash ≡ settings.frequency (notes settings h ++ more) hash)
      → (more : List ℕ) (hash : ℕ) → frequency_after settings e before more hash ≡ settings.frequency (notes settings (e ∷ h) ++ more) hash
  noted-after settings (Looked k at) h before is more hash = is (settings.behaviour.hash k ∷ more) hash ∙ ap (λ l. settings.frequency l hash) (sym (append_assoc (notes settings h) (settings.behaviour.hash k ∷ []) more))
  noted-after settings (TurnedDown k at) h before is more hash = is (settings.behaviour.hash k ∷ more) hash ∙ ap (λ l. settings.frequency l hash) (sym (append_assoc (notes settings h) (settings.behaviour.hash k ∷ []) more))
  noted-after settings (Written k v at) h before is more hash = is more hash
  noted-after settings (Invalidated k at) h before is more hash = is more hash
  noted-after settings (Hidden test) h before is more hash = is more hash
  noted-after settings (Maintained limit at) h before is more hash = is more hash
  noted-after settings (Passed at) h before is more hash = is more hash
  noted-after settings Drawn h before is more hash = is more hash
  noted-after settings Taken h before is more hash = is more hash

  -- the frequencies that a view has now are those of its events
  pub frequency-now : (settings : Settings K V) (view : View K V) (h : List (Event K V)) → IsViewOf eq settings view h → view.frequency [] ≡ frequency settings h
  frequency-now settings view h is = fun_ext (λ hash. is.frequency [] hash ∙ ap (λ l. settings.frequency l hash) (append-nil (notes settings h)))

  -- the view after one more event
  pub view-event : IsEquivalence eq → (settings : Settings K V) (view : View K V) (h : List (Event K V)) (e : Event K V) → IsViewOf eq settings view h → IsViewOf eq settings (view_after eq e view) (e ∷ h)
  view-event laws settings view h e is = record {
    settings = is.settings;
    books =
        ap (λ s. books_after eq s (view.frequency []) e view.books) is.settings
        ∙ ap (λ f. books_after eq settings f e view.books) (frequency-now settings view h is)
        ∙ ap (books_after eq settings (frequency settings h) e) is.books
        ∙ sym (books_of-event eq settings laws e h);
    frequency = λ more hash.
        ap (λ s. frequency_after s e view.frequency more hash) is.settings
        ∙ noted-after settings e h view.frequency is.frequency more hash;
  }

-- a step that moves no turn, on top of others
abbrev pub unmoved : {K V E : Type 0} → List (Event K V) → List (AcceptedStep K V E) → List (AcceptedStep K V E)
unmoved events steps = record { events = events; move = None } ∷ steps

-- values and turns together
abbrev pub whole : {K V E : Type 0} → View K V → List (Turn K V E) → WholeView K V E
whole values turns = record { values = values; turns = turns }

module _ {K V E : Type 0} (eq : K → K → Bool) {is_clone : V → V → Type 0} {turns : List (Turn K V E)} (settings : Settings K V) (view : View K V) (steps : List (AcceptedStep K V E)) where
  -- what stands for accepted steps is the view of their events
  pub view-of : StandsFor eq is_clone settings (whole view turns) steps → IsViewOf eq settings view (events_in steps)
  view-of stands = record { settings = stands.settings; books = stands.books; frequency = stands.frequency }

  -- and the view of their events, with their turns, stands for a legal list of them
  pub stands-for : IsLegal eq settings steps → IsViewOf eq settings view (events_in steps) → Holds eq is_clone (turns_of steps) turns → StandsFor eq is_clone settings (whole view turns) steps
  stands-for legal is same = record { legal = legal; settings = is.settings; books = is.books; frequency = is.frequency; turns = same }

  -- the orders have for each key the write that stands and no other
  pub held-stands : IsEquivalence eq → StandsFor eq is_clone settings (whole view turns) steps → (k : K) → held eq k view.books.orders ≡ option_to_list (standing eq settings k (events_in steps))
  held-stands laws stands k = ap (λ (b : Books K V). held eq k b.orders) stands.books ∙ held-orders eq settings laws k (events_in steps)

  -- a limit leaves a part undone where it leaves one of the maintenance of its books
  pub cut-stands : StandsFor eq is_clone settings (whole view turns) steps → (limit : Option ℕ) (at : ℕ) → is_left_at eq settings limit at (events_in steps) ≡ is_cut view.settings (view.frequency []) limit (max view.books.latest at) view.books.orders
  cut-stands stands limit at =
      let h : List (Event K V) = events_in steps in
      sym
      (ap (λ (s : Settings K V). is_cut s (view.frequency []) limit (max view.books.latest at) view.books.orders) stands.settings
      ∙ ap (λ f. is_cut settings f limit (max view.books.latest at) view.books.orders) (frequency-now eq settings view h (view-of stands))
      ∙ ap (λ (b : Books K V). is_cut settings (frequency settings h) limit (max b.latest at) b.orders) stands.books)

  -- after a call a state stands for the steps that follow, where its view is that of their events, and its turns are theirs
  pub stands-moved : StandsFor eq is_clone settings (whole view turns) steps → (call : Call K V E) (new : View K V) (left : List (Turn K V E)) → IsViewOf eq settings new (events_in (after eq settings call steps))
      → Holds eq is_clone (turns_of (after eq settings call steps)) left → StandsFor eq is_clone settings (whole new left) (after eq settings call steps)
  stands-moved stands call new left is same = record { legal = IsLegal-after eq settings call steps stands.legal; settings = is.settings; books = is.books; frequency = is.frequency; turns = same }

  -- after one that moves no turn the turns are those before
  pub stands-after : StandsFor eq is_clone settings (whole view turns) steps → (call : Call K V E) (new : View K V) (events : List (Event K V)) → after eq settings call steps ≡ unmoved events steps
      → IsViewOf eq settings new (events ++ events_in steps) → StandsFor eq is_clone settings (whole new turns) (after eq settings call steps)
  stands-after stands call new events after_is is =
      stands-moved stands call new turns
      (subst (λ (s : List (AcceptedStep K V E)). IsViewOf eq settings new (events_in s)) (sym after_is) is)
      (subst (λ (s : List (AcceptedStep K V E)). Holds eq is_clone (turns_of s) turns) (sym after_is) stands.turns)

  -- so a call without events leaves it as it is
  pub stands-question : StandsFor eq is_clone settings (whole view turns) steps → (call : Call K V E) → after eq settings call steps ≡ unmoved [] steps → StandsFor eq is_clone settings (whole view turns) (after eq settings call steps)
  stands-question stands call nothing = stands-after stands call view [] nothing (view-of stands)
