-- A turn is ended once at most, and each move shows in its call and the reply.
use Rattle.std.proofs.Common.{◌≡◌, ◌≢◌, ⊎_elim, ℕ, ◌+◌, ◌≤◌, ◌==◌, Bool, true, false, Option, Some, None, List, [], ◌∷◌, ◌++◌, refl, sym, ◌∙◌, arith, subst}
use Rattle.std.specs.Option.{option_map}
use Rattle.std.proofs.lemmas.Bool.{and_parts, cond_both, eqb-true}
use Rattle.std.proofs.lemmas.Bool.Decides.{eqb_tells}
use Rattle.moka_model.specs.declared.turns.Kind.{Kind}
use Rattle.moka_model.specs.declared.turns.Kind.TheVariants.{Compute, Optionally, Try, With}
use Rattle.moka_model.specs.declared.turns.Outcome.{Outcome}
use Rattle.moka_model.specs.declared.turns.Outcome.TheVariants as outcomes
use Rattle.moka_model.specs.Lives.{Settings, Write}
use Rattle.moka_model.specs.Events.{Event}
use Rattle.moka_model.specs.Numbers.{next_number}
use Rattle.moka_model.specs.Turns.{Abandoned, Computed, End, Ended, Failed, IsIn, Move, Name, Nothing, Opened, Spent, Turn, Value, Waited, ended_with, fits, found, has_ticket, has_ticket_as, is_open, is_open_as, moved_by, opening, same_name, spent, waited_for}
use Rattle.moka_model.specs.Steps.{AcceptedStep, events_in, turns}
use Rattle.moka_model.specs.Calls.{Abandon, Accepted, Begin, BeginCompute, Call, Collect, ContainsKey, EntryCount, Finish, Get, Insert, Invalidate, InvalidateAll, InvalidateIf, IsLegal, Leave, NotYet, OrInsert, Remove, RunPendingTasks, RunPendingTasksUpTo, TakeNotice, WeightedSize, accepted, accepted_beside, reply_by, begun, begun_compute, collected, end_by, finished, live_at, or_inserted, without_move}
use Rattle.moka_laws.specs.TurnLaws.{HandsIn, MovesShow, Shows, ends_in, ends_of}
use Rattle.moka_model.proofs.Callers.{OnSome, in_append, Fits, found-is, Was, changed, left, in_numbered, AllFit, next-grows, turns-below}
use Rattle.moka_laws.proofs.Tickets.{count_same, count_other}

module _ {V E : Type 0} where
  -- a turn ends with what is handed in
  hands_in : (outcome : Outcome V E) (marked : Bool) → HandsIn outcome (end_by outcome marked)
  hands_in (outcomes.Value v) marked = refl
  hands_in outcomes.Nothing marked = tt
  hands_in (outcomes.Failed e) marked = refl
  hands_in (outcomes.Op op) marked = tt

module _ {K V E : Type 0} where
  -- an open turn is not ended
  abbrev Unended : List (AcceptedStep K V E) → Turn K V E → Type 0
  Unended ds t = is_open t ≡ true → ends_of t.name.number ds ≡ 0

  abbrev UnendedAfter : Option (Move K V E) → List (AcceptedStep K V E) → Turn K V E → Type 0
  UnendedAfter m ds t = is_open t ≡ true → ends_in t.name.number m + ends_of t.name.number ds ≡ 0

  ended-unended : (ds : List (AcceptedStep K V E)) (number : ℕ) (end : End V E) (u t : Turn K V E) → Was number (ended_with end) u t → Unended ds u → UnendedAfter (Some (Ended number end)) ds t
  ended-unended ds number end u t (changed here e) was = subst (UnendedAfter (Some (Ended number end)) ds) e (λ open_now. cc)
  ended-unended ds number end u t (left other e) was = let none = count_other number u.name.number (λ same. other (sym same)) in subst (UnendedAfter (Some (Ended number end)) ds) e (λ open_now. let zero_before = was open_now in omega (arith, none, zero_before))

  other-unended : (ds : List (AcceptedStep K V E)) (m : Option (Move K V E)) (number : ℕ) (change : Turn K V E → Turn K V E) (u t : Turn K V E) → ((n : ℕ) → ends_in n m ≡ 0) → ((v : Turn K V E) → UnendedAfter m ds v → UnendedAfter m ds (change v)) → Was number change u t → Unended ds u → UnendedAfter m ds t
  other-unended ds m number change u t none keeps (changed here e) was = subst (UnendedAfter m ds) e (keeps u (λ open_now. let zero_before = was open_now in let zero_here = none u.name.number in omega (arith, zero_here, zero_before)))
  other-unended ds m number change u t none keeps (left other e) was = subst (UnendedAfter m ds) e (λ open_now. let zero_before = was open_now in let zero_here = none u.name.number in omega (arith, zero_here, zero_before))

module _ {K V E : Type 0} (eq : K → K → Bool) (settings : Settings K V) where
  fresh-step : (ds : List (AcceptedStep K V E)) (events : List (Event K V)) (m : Option (Move K V E)) → AllFit eq settings ds → Fits eq settings ds events m → (n : ℕ) → next_number settings (events_in ds) ≤ n → ends_of n ds ≡ 0 → ends_in n m + ends_of n ds ≡ 0
  fresh-step ds events None fit this n le was = omega (arith, was)
  fresh-step ds events (Some (Opened name look kept)) fit this n le was = omega (arith, was)
  fresh-step ds events (Some (Waited number)) fit this n le was = omega (arith, was)
  fresh-step ds events (Some (Ended number end)) fit this n le was =
      let low = turns-below eq settings ds fit this.0 this.1 in
      let is = this.2 in
      let none = count_other number n (λ same. omega (arith, low, le, is, same)) in omega (arith, was, none)
  fresh-step ds events (Some (Spent number)) fit this n le was = omega (arith, was)

  fresh : (ds : List (AcceptedStep K V E)) → AllFit eq settings ds → (n : ℕ) → next_number settings (events_in ds) ≤ n → ends_of n ds ≡ 0
  fresh [] fit n le = refl
  fresh (d ∷ ds) fit n le = let more = next-grows settings d.events (events_in ds) in let low : next_number settings (events_in ds) ≤ n = omega (arith, more, le) in fresh-step ds d.events d.move fit.1 fit.0 n low (fresh ds fit.1 n low)

  unended-step : (ds : List (AcceptedStep K V E)) (events : List (Event K V)) (m : Option (Move K V E)) → AllFit eq settings ds → Fits eq settings ds events m → ((t : Turn K V E) → IsIn t (turns ds) → Unended ds t) → (t : Turn K V E) → IsIn t (moved_by m (turns ds)) → UnendedAfter m ds t
  unended-step ds events None fit this was t is open_now = let it = was t is open_now in omega (arith, it)
  unended-step ds events (Some (Opened name look kept)) fit this was t is open_now =
      ⊎_elim
      (λ here. let it = was t here open_now in omega (arith, it))
      (λ last. ⊎_elim
      (λ same. let none = fresh ds fit name.number (let first = this.0 in omega (arith, first)) in let zero_after : ends_of t.name.number ds ≡ 0 = subst (λ (v : Turn K V E). ends_of v.name.number ds ≡ 0) same none in omega (arith, zero_after))
      (λ none. absurd none) last)
      (in_append t (turns ds) (opening name look kept ∷ []) is)
  unended-step ds events (Some (Waited number)) fit this was t is open_now = let it = in_numbered number waited_for t (turns ds) is in other-unended ds (Some (Waited number)) number waited_for it.0 t (λ n. refl) (λ v u. u) it.2 (was it.0 it.1) open_now
  unended-step ds events (Some (Ended number end)) fit this was t is open_now = let it = in_numbered number (ended_with end) t (turns ds) is in ended-unended ds number end it.0 t it.2 (was it.0 it.1) open_now
  unended-step ds events (Some (Spent number)) fit this was t is open_now = let it = in_numbered number spent t (turns ds) is in other-unended ds (Some (Spent number)) number spent it.0 t (λ n. refl) (λ v u. u) it.2 (was it.0 it.1) open_now

  unended : (ds : List (AcceptedStep K V E)) → AllFit eq settings ds → (t : Turn K V E) → IsIn t (turns ds) → Unended ds t
  unended [] fit t is open_now = absurd is
  unended (d ∷ ds) fit t is open_now = unended-step ds d.events d.move fit.1 fit.0 (unended ds fit.1) t is open_now

  once-step : (ds : List (AcceptedStep K V E)) (events : List (Event K V)) (m : Option (Move K V E)) → AllFit eq settings ds → Fits eq settings ds events m → (n : ℕ) → ends_of n ds ≤ 1 → ends_in n m + ends_of n ds ≤ 1
  once-step ds events None fit this n le = omega (arith, le)
  once-step ds events (Some (Opened name look kept)) fit this n le = omega (arith, le)
  once-step ds events (Some (Waited number)) fit this n le = omega (arith, le)
  once-step ds events (Some (Ended number end)) fit this n le =
      ⊎_elim
      (λ yes. let none = unended ds fit this.0 this.1 this.3 in let here = this.2 in let same = yes.1 in let before : ends_of n ds ≡ 0 = subst (λ k. ends_of k ds ≡ 0) (here ∙ same) none in let one = count_same number n same in omega (arith, one, before))
      (λ no. let none = count_other number n no.1 in omega (arith, none, le))
      (eqb_tells number n)
  once-step ds events (Some (Spent number)) fit this n le = omega (arith, le)

  pub ends_once : (ds : List (AcceptedStep K V E)) → AllFit eq settings ds → (number : ℕ) → ends_of number ds ≤ 1
  ends_once [] fit n = omega arith
  ends_once (d ∷ ds) fit n = once-step ds d.events d.move fit.1 fit.0 n (ends_once ds fit.1 n)

  module _ (h : List (Event K V)) (ts : List (Turn K V E)) where
    -- the move of an accepted call shows
    abbrev ItShows : Call K V E → Accepted K V E → Type 0
    ItShows call it = Shows call it.reply it.step.move

    begun-shows : (k : K) (kind : Kind) (replace : Option Bool) (at : ℕ) (w : Option (Write K V)) (t : Option (Turn K V E)) → ItShows (Begin k kind replace at) (begun eq settings h k kind replace at w t)
    begun-shows k kind replace at (Some w) t = tt
    begun-shows k kind replace at None (Some t) = (record t.name { key = k }, refl, refl)
    begun-shows k kind replace at None None = (None, refl)

    begun_compute-shows : (call : Call K V E) (k : K) (keep : Bool) (at : ℕ) (t : Option (Turn K V E)) → ItShows call (begun_compute eq settings h k keep at t)
    begun_compute-shows call k keep at (Some t) = (record t.name { key = k }, refl, refl)
    begun_compute-shows call k keep at None = (_, refl)

    or_inserted-shows : (k : K) (v : V) (at : ℕ) (w : Option (Write K V)) → ItShows (OrInsert k v at) (or_inserted eq settings h k v at w)
    or_inserted-shows k v at None = tt
    or_inserted-shows k v at (Some w) = tt

    on-made : (call : Call K V E) (make : Turn K V E → Accepted K V E) (test : Turn K V E → Bool) → ((t : Turn K V E) → test t ≡ true → ItShows call (make t)) → OnSome (ItShows call) (option_map make (found test ts))
    on-made call make test each = go (found test ts) refl
      where
        go : (o : Option (Turn K V E)) → found test ts ≡ o → OnSome (ItShows call) (option_map make o)
        go None e = tt
        go (Some t) e = each t (found-is test ts t e).1

    -- what a collect returns is not that the turn is open
    reply_by-ready : (name : Name K) (end : End V E) → reply_by name end ≢ NotYet
    reply_by-ready name (Value v replaced) e = cc
    reply_by-ready name Nothing e = cc
    reply_by-ready name (Failed err) e = cc
    reply_by-ready name Computed e = cc
    reply_by-ready name Abandoned e = cc

    collected-shows : (name : Name K) (number : ℕ) (o : Option (End V E)) → number ≡ name.number → ItShows (Collect name) (collected name number o)
    collected-shows name n None same = refl
    collected-shows name n (Some own) same = (same, reply_by-ready name own)

    same_number : (name : Name K) (t : Turn K V E) → same_name eq t.name name ≡ true → t.name.number ≡ name.number
    same_number name t same = eqb-true t.name.number name.number (and_parts (t.name.number == name.number) _ same).0

    pub shows : (call : Call K V E) → OnSome (ItShows call) (accepted_beside eq settings h ts call)
    shows (Get k at) = tt
    shows (ContainsKey k at) = tt
    shows (Insert k v at) = tt
    shows (OrInsert k v at) = or_inserted-shows k v at (live_at eq settings k at h)
    shows (Invalidate k at) = tt
    shows (Remove k at) = tt
    shows InvalidateAll = tt
    shows (InvalidateIf test) = cond_both settings.supports_closures _ _ (OnSome (ItShows (InvalidateIf test))) (λ _. tt) (λ _. tt)
    shows (RunPendingTasks at) = tt
    shows (RunPendingTasksUpTo limit at) = tt
    shows EntryCount = tt
    shows WeightedSize = tt
    shows TakeNotice = tt
    shows (Begin k With replace at) = begun-shows k With replace at _ _
    shows (Begin k Optionally replace at) = begun-shows k Optionally replace at _ _
    shows (Begin k Try replace at) = begun-shows k Try replace at _ _
    shows (Begin k Compute replace at) = begun_compute-shows (Begin k Compute replace at) k false at _
    shows (BeginCompute k keep at) = begun_compute-shows (BeginCompute k keep at) k keep at _
    shows (Finish name outcome at) = cond_both (fits name.kind outcome) _ _ (OnSome (ItShows (Finish name outcome at)))
        (λ _. on-made (Finish name outcome at) (finished eq settings h name outcome at) (is_open_as eq name) (λ t is. (same_number name t (and_parts (is_open t) (same_name eq t.name name) is).1, hands_in outcome _)))
        (λ _. tt)
    shows (Abandon name) = on-made (Abandon name) _ (is_open_as eq name) (λ t is. (same_number name t (and_parts (is_open t) (same_name eq t.name name) is).1, refl))
    shows (Collect name) = on-made (Collect name) _ (has_ticket_as eq name) (λ t is. collected-shows name t.name.number t.end (same_number name t (and_parts (has_ticket t) (same_name eq t.name name) is).1))
    shows (Leave name) = on-made (Leave name) _ (has_ticket_as eq name) (λ t is. same_number name t (and_parts (has_ticket t) (same_name eq t.name name) is).1)

  legal-place : (later before : List (AcceptedStep K V E)) (d : AcceptedStep K V E) → IsLegal eq settings (later ++ d ∷ before) → (call : Call K V E) × (it : Accepted K V E) × (accepted eq settings before call ≡ Some it) × (it.step ≡ d)
  legal-place [] before d legal = legal.0
  legal-place (x ∷ xs) before d legal = legal-place xs before d legal.1

  pub moves_show : (ds : List (AcceptedStep K V E)) → IsLegal eq settings ds → MovesShow eq settings ds
  moves_show ds legal d p =
      let made = legal-place p.later p.before d (subst (IsLegal eq settings) p.place legal) in
      let says : ItShows (events_in p.before) (turns p.before) made.0 made.1 = subst (OnSome (ItShows (events_in p.before) (turns p.before) made.0)) made.2 (shows (events_in p.before) (turns p.before) made.0) in
      (made.0, made.1, made.2, made.3, subst (λ (x : AcceptedStep K V E). Shows made.0 made.1.reply x.move) made.3 says)
