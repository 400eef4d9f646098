-- What is collected is the outcome with which a turn of the name ended, after every wait for it.
use Rattle.std.proofs.Common.{◌≡◌, ◌≢◌, ◌⊎◌, inl, inr, ⊎_elim, ℕ, Bool, true, false, Option, Some, None, List, [], ◌∷◌, refl, sym, ap, ◌∙◌, arith, subst}
use Rattle.std.specs.Option.{option_map}
use Rattle.std.proofs.lemmas.Bool.{and_parts}
use Rattle.std.proofs.lemmas.Option.{same_Some}
use Rattle.moka_model.specs.Lives.{Settings}
use Rattle.moka_model.specs.Events.{Event}
use Rattle.moka_model.specs.Turns.{Abandoned, Computed, End, Ended, Failed, IsIn, Move, Name, Nothing, Opened, Spent, Turn, Value, Waited, ended_with, found, has_ticket, has_ticket_as, is_open, moved_by, opening, same_name, spent, waited_for}
use Rattle.moka_model.specs.Steps.{AcceptedStep, turns}
use Rattle.moka_model.specs.Calls.{Accepted, Reply, Entered, Entry, GaveError, GaveNothing, HasEnded, NotYet, WasAbandoned, after, reply_by, collected}
use Rattle.moka_laws.specs.TurnLaws.{Collects, CollectsGive, IsOutcome, Place, waits_in, waits_of}
use Rattle.moka_model.proofs.Callers.{in_append, Fits, found-is, Was, changed, left, in_numbered, numbered-alone, AllFit, turns-apart}
use Rattle.moka_laws.proofs.Tickets.{count_other}

module _ {K V E : Type 0} where
  -- the turn of a number was ended so, after every wait for it
  pub record HasEndedSo (ds : List (AcceptedStep K V E)) (number : ℕ) (end : End V E) : Type 0 where
    pub step : AcceptedStep K V E
    pub place : Place step ds
    pub ends : step.move ≡ Some (Ended number end)
    pub waits_before : waits_of number ds ≡ waits_of number place.before

  ended-more : (events : List (Event K V)) (m : Option (Move K V E)) (ds : List (AcceptedStep K V E)) (number : ℕ) (end : End V E) → waits_in number m ≡ 0 → HasEndedSo ds number end → HasEndedSo (record { events = events; move = m } ∷ ds) number end
  ended-more events m ds number end none was = record {
    step = was.step;
    place = record { later = record { events = events; move = m } ∷ was.place.later; before = was.place.before; place = ap (λ ds. record { events = events; move = m } ∷ ds) was.place.place };
    ends = was.ends;
    waits_before = let same = was.waits_before in omega (arith, none, same);
  }

  ended-here : (events : List (Event K V)) (ds : List (AcceptedStep K V E)) (number : ℕ) (end : End V E) → HasEndedSo (record { events = events; move = Some (Ended number end) } ∷ ds) number end
  ended-here events ds number end = record {
    step = record { events = events; move = Some (Ended number end) };
    place = record { later = []; before = ds; place = refl };
    ends = refl;
    waits_before = omega arith;
  }

  -- each ended turn has ended so
  abbrev pub AllEnded : List (AcceptedStep K V E) → List (Turn K V E) → Type 0
  AllEnded ds ts = (t : Turn K V E) → IsIn t ts → (end : End V E) → t.end ≡ Some end → HasEndedSo ds t.name.number end

  -- a turn that is open has no end
  open-not : (t : Turn K V E) (end : End V E) → is_open t ≡ true → t.end ≡ Some end → ⊥
  open-not t end is e = let no = rw e at is in cc

  same_end : (t : Turn K V E) (u : Turn K V E) (number : ℕ) (events : List (Event K V)) (m : Option (Move K V E)) (ds : List (AcceptedStep K V E)) (end : End V E) → u ≡ t → waits_in u.name.number m ≡ 0 → (u.end ≡ Some end → HasEndedSo ds u.name.number end) → t.end ≡ Some end → HasEndedSo (record { events = events; move = m } ∷ ds) t.name.number end
  same_end t u number events m ds end same none was e =
      subst (λ (v : Turn K V E). HasEndedSo (record { events = events; move = m } ∷ ds) v.name.number end) same
      (ended-more events m ds u.name.number end none (was (ap (λ (v : Turn K V E). v.end) same ∙ e)))

  waited-ended : (ds : List (AcceptedStep K V E)) (events : List (Event K V)) (number : ℕ) (u t : Turn K V E) (end : End V E) → (u.name.number ≡ number → is_open u ≡ true) → Was number waited_for u t → (u.end ≡ Some end → HasEndedSo ds u.name.number end) → t.end ≡ Some end → HasEndedSo (record { events = events; move = Some (Waited number) } ∷ ds) t.name.number end
  waited-ended ds events number u t end opened (changed here same) was e = absurd (open-not u end (opened here) (ap (λ (v : Turn K V E). v.end) same ∙ e))
  waited-ended ds events number u t end opened (left other same) was e = same_end t u number events (Some (Waited number)) ds end same (count_other number u.name.number (λ is. other (sym is))) was e

  ended-ended : (ds : List (AcceptedStep K V E)) (events : List (Event K V)) (number : ℕ) (last : End V E) (u t : Turn K V E) (end : End V E) → Was number (ended_with last) u t → (u.end ≡ Some end → HasEndedSo ds u.name.number end) → t.end ≡ Some end → HasEndedSo (record { events = events; move = Some (Ended number last) } ∷ ds) t.name.number end
  ended-ended ds events number last u t end (changed here same) was e =
      let is : Some last ≡ Some end = ap (λ (v : Turn K V E). v.end) same ∙ e in
      let ends : last ≡ end = cc in
      let number_is : number ≡ t.name.number = sym here ∙ ap (λ (v : Turn K V E). v.name.number) same in
      subst (λ n. HasEndedSo (record { events = events; move = Some (Ended number last) } ∷ ds) n end) number_is
      (subst (λ (x : End V E). HasEndedSo (record { events = events; move = Some (Ended number last) } ∷ ds) number x) ends (ended-here events ds number last))
  ended-ended ds events number last u t end (left other same) was e = same_end t u number events (Some (Ended number last)) ds end same refl was e

  spent-ended : (ds : List (AcceptedStep K V E)) (events : List (Event K V)) (number : ℕ) (u t : Turn K V E) (end : End V E) → Was number spent u t → (u.end ≡ Some end → HasEndedSo ds u.name.number end) → t.end ≡ Some end → HasEndedSo (record { events = events; move = Some (Spent number) } ∷ ds) t.name.number end
  spent-ended ds events number u t end (changed here same) was e =
      subst (λ (v : Turn K V E). HasEndedSo (record { events = events; move = Some (Spent number) } ∷ ds) v.name.number end) same
      (ended-more events (Some (Spent number)) ds u.name.number end refl (was (ap (λ (v : Turn K V E). v.end) same ∙ e)))
  spent-ended ds events number u t end (left other same) was e = same_end t u number events (Some (Spent number)) ds end same refl was e

  made-reply : (made it : Accepted K V E) (reply : Reply K V E) → Some made ≡ Some it → it.reply ≡ reply → made.reply ≡ reply
  made-reply made it reply same says = ap (λ (a : Accepted K V E). a.reply) (same_Some made it same) ∙ says

  -- a collect that is answered with an outcome
  answered : (name : Name K) (number : ℕ) (o : Option (End V E)) → ((collected name number o).reply ≡ NotYet) ⊎ ((end : End V E) × (o ≡ Some end) × ((collected name number o).reply ≡ reply_by name end))
  answered name number None = inl refl
  answered name number (Some end) = inr (end, refl, refl)

module _ {K V E : Type 0} (eq : K → K → Bool) (settings : Settings K V) where
  ended-step : (ds : List (AcceptedStep K V E)) (events : List (Event K V)) (m : Option (Move K V E)) → AllFit eq settings ds → Fits eq settings ds events m → AllEnded ds (turns ds) → AllEnded (record { events = events; move = m } ∷ ds) (moved_by m (turns ds))
  ended-step ds events None fit this was t is end e = ended-more events None ds t.name.number end refl (was t is end e)
  ended-step ds events (Some (Opened name look kept)) fit this was t is end e =
      ⊎_elim
      (λ here. ended-more events (Some (Opened name look kept)) ds t.name.number end refl (was t here end e))
      (λ last. ⊎_elim (λ same. let no : None ≡ Some end = ap (λ (v : Turn K V E). v.end) same ∙ e in cc) (λ none. absurd none) last)
      (in_append t (turns ds) (opening name look kept ∷ []) is)
  ended-step ds events (Some (Waited number)) fit this was t is end e =
      let it = in_numbered number waited_for t (turns ds) is in
      waited-ended ds events number it.0 t end (λ here. subst (λ (v : Turn K V E). is_open v ≡ true) (numbered-alone (turns ds) (turns-apart eq settings ds fit) this.0 it.0 this.1 it.1 (this.2 ∙ sym here)) this.3) it.2 (was it.0 it.1 end) e
  ended-step ds events (Some (Ended number last)) fit this was t is end e = let it = in_numbered number (ended_with last) t (turns ds) is in ended-ended ds events number last it.0 t end it.2 (was it.0 it.1 end) e
  ended-step ds events (Some (Spent number)) fit this was t is end e = let it = in_numbered number spent t (turns ds) is in spent-ended ds events number it.0 t end it.2 (was it.0 it.1 end) e

  pub ended : (ds : List (AcceptedStep K V E)) → AllFit eq settings ds → AllEnded ds (turns ds)
  ended [] fit t is end e = absurd is
  ended (d ∷ ds) fit t is end e = ended-step ds d.events d.move fit.1 fit.0 (ended ds fit.1) t is end e

  module _ (ds : List (AcceptedStep K V E)) (fit : AllFit eq settings ds) (name : Name K) where
    -- what a collect returns is not yet, or the end of a turn of the name
    collect-is : (reply : Reply K V E) → Collects eq settings ds name reply → (reply ≡ NotYet) ⊎ ((end : End V E) × IsOutcome eq ds name end × (reply ≡ reply_by name end))
    collect-is reply (it, is, says) = go (found (has_ticket_as eq name) (turns ds)) refl is
      where
        go : (o : Option (Turn K V E)) → found (has_ticket_as eq name) (turns ds) ≡ o → option_map (λ t. collected name t.name.number t.end) o ≡ Some it → (reply ≡ NotYet) ⊎ ((end : End V E) × IsOutcome eq ds name end × (reply ≡ reply_by name end))
        go None finds same = cc
        go (Some t) finds same =
            let member = found-is (has_ticket_as eq name) (turns ds) t finds in
            let reads : (collected name t.name.number t.end).reply ≡ reply = made-reply (collected name t.name.number t.end) it reply same says in
            ⊎_elim
            (λ not_yet. inl (sym reads ∙ not_yet))
            (λ ready. let so = ended ds fit t member.0 ready.0 ready.1 in inr (ready.0, record { turn = t; same = (and_parts (has_ticket t) (same_name eq t.name name) member.1).1; step = so.step; place = so.place; ends = so.ends; waits_before = so.waits_before }, sym reads ∙ ready.2))
            (answered name t.name.number t.end)

    of_value : (e : Entry K V) (end : End V E) → Entered e ≡ reply_by name end → (e.key ≡ name.key) × (e.fresh ≡ false) × (end ≡ Value e.value e.replaced)
    of_value e (Value v replaced) same = let is : e ≡ record { key = name.key; value = v; fresh = false; replaced = replaced } = cc in rw is (refl, refl, refl)
    of_value e Nothing same = cc
    of_value e (Failed err) same = cc
    of_value e Computed same = cc
    of_value e Abandoned same = cc

    of_nothing : (end : End V E) → GaveNothing ≡ reply_by name end → end ≡ Nothing
    of_nothing (Value v replaced) same = cc
    of_nothing Nothing same = refl
    of_nothing (Failed err) same = cc
    of_nothing Computed same = cc
    of_nothing Abandoned same = cc

    of_failure : (err : E) (end : End V E) → GaveError err ≡ reply_by name end → end ≡ Failed err
    of_failure err (Value v replaced) same = cc
    of_failure err Nothing same = cc
    of_failure err (Failed own) same = cc
    of_failure err Computed same = cc
    of_failure err Abandoned same = cc

    of_computed : (end : End V E) → HasEnded ≡ reply_by name end → end ≡ Computed
    of_computed (Value v replaced) same = cc
    of_computed Nothing same = cc
    of_computed (Failed err) same = cc
    of_computed Computed same = refl
    of_computed Abandoned same = cc

    of_abandoned : (end : End V E) → WasAbandoned ≡ reply_by name end → end ≡ Abandoned
    of_abandoned (Value v replaced) same = cc
    of_abandoned Nothing same = cc
    of_abandoned (Failed err) same = cc
    of_abandoned Computed same = cc
    of_abandoned Abandoned same = refl

    -- an outcome that is collected
    outcome : (reply : Reply K V E) (end : End V E) → reply ≢ NotYet → ((own : End V E) → reply ≡ reply_by name own → own ≡ end) → Collects eq settings ds name reply → IsOutcome eq ds name end
    outcome reply end ready tells it = ⊎_elim (λ not_yet. absurd (ready not_yet)) (λ is. subst (IsOutcome eq ds name) (tells is.0 is.2) is.1) (collect-is reply it)

    value : (e : Entry K V) → Collects eq settings ds name (Entered e) → (e.key ≡ name.key) × (e.fresh ≡ false) × IsOutcome eq ds name (Value e.value e.replaced)
    value e it =
        ⊎_elim
        (λ not_yet. cc)
        (λ is. let own = of_value e is.0 is.2 in (own.0, own.1, subst (IsOutcome eq ds name) own.2 is.1))
        (collect-is (Entered e) it)

  pub collects_give : (ds : List (AcceptedStep K V E)) → AllFit eq settings ds → CollectsGive eq settings ds
  collects_give ds fit = record {
    value = λ name e it. value ds fit name e it;
    nothing = λ name it. outcome ds fit name GaveNothing Nothing (λ e. cc) (of_nothing ds fit name) it;
    failed = λ name err it. outcome ds fit name (GaveError err) (Failed err) (λ e. cc) (of_failure ds fit name err) it;
    computed = λ name it. outcome ds fit name HasEnded Computed (λ e. cc) (of_computed ds fit name) it;
    abandoned = λ name it. outcome ds fit name WasAbandoned Abandoned (λ e. cc) (of_abandoned ds fit name) it;
  }
