-- A state may forget each turn that is ended and has no unspent ticket: every call is answered from those that are left,
-- and they are made from those that were left before.
use Rattle.std.proofs.Common.{◌≡◌, inl, inr, ℕ, ◌-◌, Bool, true, false, cond, nat_le, Option, Some, None, List, [], ◌∷◌, ◌++◌, map, filter, refl, sym, ap, ◌∙◌, arith, subst}
use Rattle.std.proofs.lemmas.Bool.{and_parts, or_right, or_left, leb-true, le-leb, cond_both}
use Rattle.std.proofs.lemmas.List.Elements.{filter-append}
use Rattle.moka_model.specs.declared.turns.Kind.{Kind}
use Rattle.moka_model.specs.declared.turns.Kind.TheVariants.{Compute, Optionally, Try, With}
use Rattle.moka_model.specs.Lives.{Settings}
use Rattle.moka_model.specs.Events.{Event}
use Rattle.moka_model.specs.Turns.{AreApart, End, Ended, IsIn, Move, Name, Opened, Spent, Turn, Waited, ended_with, first_of, found, has_ticket, has_ticket_as, is_for, is_held, is_open, is_open_as, is_open_for, moved_by, numbered, opening, same_name, spent, waited_for}
use Rattle.moka_model.specs.Steps.{AcceptedStep, events_in, held_turns, turns}
use Rattle.moka_model.specs.Calls.{Abandon, Begin, BeginCompute, Call, Collect, ContainsKey, EntryCount, Finish, Get, Insert, Invalidate, InvalidateAll, InvalidateIf, IsLegal, Leave, OrInsert, Remove, RunPendingTasks, RunPendingTasksUpTo, TakeNotice, WeightedSize, accepted_beside, after}
use Rattle.moka_laws.specs.TurnLaws.{HeldSuffice}
use Rattle.moka_model.proofs.Callers.{filter-wider, in_filter, Fits, Was, changed, left, was, numbered-alone, AllFit, turns-apart, legal-fit, turns-below}

module _ {K V E : Type 0} where
  held-open : (t : Turn K V E) → is_open t ≡ true → is_held t ≡ true
  held-open t open_now = or_left (is_open t) (has_ticket t) open_now

  held-ticket : (t : Turn K V E) → has_ticket t ≡ true → is_held t ≡ true
  held-ticket t has = or_right (is_open t) (has_ticket t) has

  found-held : (test : Turn K V E → Bool) (ts : List (Turn K V E)) → ((t : Turn K V E) → test t ≡ true → is_held t ≡ true) → found test (filter is_held ts) ≡ found test ts
  found-held test ts narrow = ap first_of (filter-wider test is_held ts narrow)

module _ {K V E : Type 0} (eq : K → K → Bool) (ts : List (Turn K V E)) where
  pub open_for-held : (kind : Kind) (k : K) → found (is_open_for eq kind k) (filter is_held ts) ≡ found (is_open_for eq kind k) ts
  open_for-held kind k = found-held (is_open_for eq kind k) ts (λ t passes. held-open t (and_parts (is_open t) (is_for eq kind k t) passes).0)

  pub open_as-held : (name : Name K) → found (is_open_as eq name) (filter is_held ts) ≡ found (is_open_as eq name) ts
  open_as-held name = found-held (is_open_as eq name) ts (λ t passes. held-open t (and_parts (is_open t) (same_name eq t.name name) passes).0)

  pub ticket_as-held : (name : Name K) → found (has_ticket_as eq name) (filter is_held ts) ≡ found (has_ticket_as eq name) ts
  ticket_as-held name = found-held (has_ticket_as eq name) ts (λ t passes. held-ticket t (and_parts (has_ticket t) (same_name eq t.name name) passes).0)

module _ {K V E : Type 0} (eq : K → K → Bool) (settings : Settings K V) (h : List (Event K V)) (ts : List (Turn K V E)) where
  -- every call is answered from the held turns alone
  pub accepted-held : (call : Call K V E) → accepted_beside eq settings h (filter is_held ts) call ≡ accepted_beside eq settings h ts call
  accepted-held (Get k at) = refl
  accepted-held (ContainsKey k at) = refl
  accepted-held (Insert k v at) = refl
  accepted-held (OrInsert k v at) = refl
  accepted-held (Invalidate k at) = refl
  accepted-held (Remove k at) = refl
  accepted-held InvalidateAll = refl
  accepted-held (InvalidateIf test) = refl
  accepted-held (RunPendingTasks at) = refl
  accepted-held (RunPendingTasksUpTo limit at) = refl
  accepted-held EntryCount = refl
  accepted-held WeightedSize = refl
  accepted-held TakeNotice = refl
  accepted-held (Begin k With replace at) = rw (open_for-held eq ts With k) refl
  accepted-held (Begin k Optionally replace at) = rw (open_for-held eq ts Optionally k) refl
  accepted-held (Begin k Try replace at) = rw (open_for-held eq ts Try k) refl
  accepted-held (Begin k Compute replace at) = rw (open_for-held eq ts Compute k) refl
  accepted-held (BeginCompute k keep at) = rw (open_for-held eq ts Compute k) refl
  accepted-held (Finish name outcome at) = rw (open_as-held eq ts name) refl
  accepted-held (Abandon name) = rw (open_as-held eq ts name) refl
  accepted-held (Collect name) = rw (ticket_as-held eq ts name) refl
  accepted-held (Leave name) = rw (ticket_as-held eq ts name) refl

-- where each that passes after a change has passed before, the others may be left out first
filter-map-narrow : {A : Type 0} (p : A → Bool) (f : A → A) (xs : List A) → ((x : A) → IsIn x xs → p (f x) ≡ true → p x ≡ true) → filter p (map f xs) ≡ filter p (map f (filter p xs))
filter-map-narrow p f [] narrow = refl
filter-map-narrow p f (x ∷ xs) narrow = go (p x) refl (p (f x)) refl (filter-map-narrow p f xs (λ y is. narrow y (inr is)))
  where
    go : (s : Bool) → p x ≡ s → (t : Bool) → p (f x) ≡ t → filter p (map f xs) ≡ filter p (map f (filter p xs)) → cond (p (f x)) (f x ∷ filter p (map f xs)) (filter p (map f xs)) ≡ filter p (map f (cond s (x ∷ filter p xs) (filter p xs)))
    go true h t e more = ap (λ l. cond (p (f x)) (f x ∷ l) l) more
    go false h true e more = let absent = sym h ∙ narrow x (inl refl) e in cc
    go false h false e more = rw e more

module _ {K V E : Type 0} (number : ℕ) (change : Turn K V E → Turn K V E) where
  numbered-narrow : (t : Turn K V E) → (t.name.number ≡ number → is_held (change t) ≡ true → is_held t ≡ true) → is_held (numbered number change t) ≡ true → is_held t ≡ true
  numbered-narrow t narrow holds = go (was number change t (numbered number change t) refl)
    where
      go : Was number change t (numbered number change t) → is_held t ≡ true
      go (changed here same) = narrow here (ap is_held same ∙ holds)
      go (left other same) = ap is_held same ∙ holds

module _ {K V E : Type 0} (eq : K → K → Bool) (settings : Settings K V) where
  held-ended : (end : End V E) (t : Turn K V E) → is_held (ended_with end t) ≡ true → is_held t ≡ true
  held-ended end t has = held-ticket t has

  held-spent : (t : Turn K V E) → is_held (spent t) ≡ true → is_held t ≡ true
  held-spent t holds = go (is_open t) refl
    where
      go : (b : Bool) → is_open t ≡ b → is_held t ≡ true
      go true is = held-open t is
      go false is =
          let less : nat_le 1 (t.unspent - 1) ≡ true = rw is at holds in
          let some = leb-true 1 (t.unspent - 1) less in
          held-ticket t (le-leb 1 t.unspent (omega (arith, some)))

  held-step : (ds : List (AcceptedStep K V E)) (events : List (Event K V)) (m : Option (Move K V E)) → AllFit eq settings ds → Fits eq settings ds events m → filter is_held (moved_by m (turns ds)) ≡ filter is_held (moved_by m (held_turns ds))
  held-step ds events None fit this = sym (filter-wider is_held is_held (turns ds) (λ t e. e))
  held-step ds events (Some (Opened name look kept)) fit this =
      filter-append is_held (turns ds) (opening name look kept ∷ [])
      ∙ ap (λ l. l ++ opening name look kept ∷ []) (sym (filter-wider is_held is_held (turns ds) (λ t e. e)))
      ∙ sym (filter-append is_held (held_turns ds) (opening name look kept ∷ []))
  held-step ds events (Some (Waited number)) fit this =
      filter-map-narrow is_held (numbered number waited_for) (turns ds)
      (λ t is. numbered-narrow number waited_for t (λ here _. held-open t (subst (λ (v : Turn K V E). is_open v ≡ true) (numbered-alone (turns ds) (turns-apart eq settings ds fit) this.0 t this.1 is (this.2 ∙ sym here)) this.3)))
  held-step ds events (Some (Ended number end)) fit this = filter-map-narrow is_held (numbered number (ended_with end)) (turns ds) (λ t is. numbered-narrow number (ended_with end) t (λ here. held-ended end t))
  held-step ds events (Some (Spent number)) fit this = filter-map-narrow is_held (numbered number spent) (turns ds) (λ t is. numbered-narrow number spent t (λ here. held-spent t))

  -- the held turns after a step are made from those before it
  pub held_on : (d : AcceptedStep K V E) (ds : List (AcceptedStep K V E)) → AllFit eq settings (d ∷ ds) → held_turns (d ∷ ds) ≡ filter is_held (moved_by d.move (held_turns ds))
  held_on d ds fit = held-step ds d.events d.move fit.1 fit.0

  apart-filter : (p : Turn K V E → Bool) (ts : List (Turn K V E)) → AreApart ts → AreApart (filter p ts)
  apart-filter p [] differ = tt
  apart-filter p (t ∷ ts) differ = cond_both (p t) (t ∷ filter p ts) (filter p ts) AreApart (λ _. (λ u is. differ.0 u (in_filter p u ts is).0, apart-filter p ts differ.1)) (λ _. apart-filter p ts differ.1)

  -- a state may keep the held turns alone
  pub held_suffice : (ds : List (AcceptedStep K V E)) → IsLegal eq settings ds → HeldSuffice eq settings ds
  held_suffice ds legal =
      let fit = legal-fit eq settings ds legal in record {
        answered = accepted-held eq settings (events_in ds) (turns ds);
        made = λ d more. held_on d ds (legal-fit eq settings (d ∷ ds) more);
        apart = apart-filter is_held (turns ds) (turns-apart eq settings ds fit);
        are_held = λ t is. (in_filter is_held t (turns ds) is).1;
        below = λ t is. turns-below eq settings ds fit t (in_filter is_held t (turns ds) is).0;
      }
