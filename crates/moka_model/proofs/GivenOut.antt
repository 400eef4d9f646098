-- What was given out is the front of what left, and each call gives out what it returns.
use Rattle.std.proofs.Common.{◌≡◌, ℕ, zero, suc, min, ◌+◌, ◌≤◌, Bool, true, false, cond, option_map, Option, Some, None, List, [], ◌∷◌, ◌++◌, length, take, drop, refl, sym, ap, ◌∙◌, subst, append-nil, slice_get, add-one, add_comm}
use Rattle.std.specs.Option.{option_to_list}
use Rattle.std.specs.Cmp.{IsEquivalence}
use Rattle.std.specs.List.{AllByRecursion}
use Rattle.std.proofs.lemmas.Bool.{cond_both}
use Rattle.std.proofs.lemmas.List.{take-append-le, take-append-drop, take_min, length-take-le}
use Rattle.moka_model.specs.Lives.{Settings, Write}
use Rattle.moka_model.specs.Events.{Event, Looked, TurnedDown, Written, Invalidated, Hidden, Maintained, Passed, Drawn, Taken}
use Rattle.moka_model.specs.Numbers.{stores_nothing, is_flush_due}
use Rattle.moka_model.specs.Orders.{orders}
use Rattle.moka_model.specs.Removals.{Removal, removals_at, removals, taken, notices_left}
use Rattle.moka_model.specs.Steps.{AcceptedStep, events_in, turns}
use Rattle.moka_model.specs.Calls.{Call, Get, ContainsKey, Insert, Invalidate, Remove, InvalidateAll, InvalidateIf, RunPendingTasks, RunPendingTasksUpTo, EntryCount, WeightedSize, TakeNotice, OrInsert, Begin, BeginCompute, Finish, Abandon, Collect, Leave, Reply, Found, Contains, Done, Counted, Left, Noticed, Entered, Run, Unchanged, Inserted, ReplacedWith, Removed, Accepted, without_move, write_events, look_event, begun, begun_compute, or_inserted, put_by, removed_by, kept_by, reply_by, finished, collected, abandons, spends, acceptable, live_at, accepted, with_step, IsCopiedReply}
use Rattle.moka_model.specs.declared.turns.Kind.{Kind}
use Rattle.moka_model.specs.declared.turns.Kind.TheVariants.{With, Optionally, Try, Compute}
use Rattle.moka_model.specs.declared.turns.Op.TheVariants as ops
use Rattle.moka_model.specs.declared.turns.Outcome.{Outcome}
use Rattle.moka_model.specs.declared.turns.Outcome.TheVariants as outcomes
use Rattle.moka_model.specs.Turns.{Turn, Name, End, fits, found, is_open_for, is_open_as, has_ticket_as}
use Rattle.moka_model.specs.Turns as turning
use Rattle.moka_model.specs.StandsFor.{IsReplyOf, books_of}
use Rattle.moka_model.proofs.Books.{taken-le}
use Rattle.moka_model.specs.Conserved.{SeesKeysAlike, count_left, count_standing, given_by, given_out, IsConserved}
use Rattle.moka_model.proofs.Pairs.{count-append, pairs_conserved}

module _ {K V : Type 0} where
  -- a longer front has one element more, where there is one
  take_next : (n : ℕ) (xs : List (Removal K V)) → take (suc n) xs ≡ take n xs ++ option_to_list (slice_get (drop n xs) 0)
  take_next zero [] = refl
  take_next zero (x ∷ xs) = refl
  take_next (suc n) [] = refl
  take_next (suc n) (x ∷ xs) = ap (λ ys. x ∷ ys) (take_next n xs)

module _ {K V : Type 0} (eq : K → K → Bool) (settings : Settings K V) where
  -- an event that gives out none
  given_more : (gone more given : List (Removal K V)) (n : ℕ) → n ≤ length gone → given ≡ take n gone → given ++ [] ≡ take n (gone ++ more)
  given_more gone more given n le ih = append-nil given ∙ ih ∙ sym (take-append-le n gone more le)

  -- an event that gives out the next, if there is one
  given_next : (gone given : List (Removal K V)) (n : ℕ) → given ≡ take n gone → given ++ option_to_list (slice_get (drop n gone) 0) ≡ take (min (n + 1) (length gone)) (gone ++ [])
  given_next gone given n ih = rw (append-nil gone, take_min (n + 1) gone, add-one n, take_next n gone, ih)

  -- what was given out is the front of what left
  pub given_out_is : (h : List (Event K V)) → given_out eq settings h ≡ take (taken eq settings h) (removals eq settings h)
  given_out_is [] = refl
  given_out_is (e ∷ h) = next e (given_out_is h)
    where
      next : (e : Event K V) → given_out eq settings h ≡ take (taken eq settings h) (removals eq settings h) → given_out eq settings (e ∷ h) ≡ take (taken eq settings (e ∷ h)) (removals eq settings (e ∷ h))
      next (Looked q at) ih = given_more (removals eq settings h) [] (given_out eq settings h) (taken eq settings h) (taken-le eq settings h) ih
      next (TurnedDown q at) ih = given_more (removals eq settings h) [] (given_out eq settings h) (taken eq settings h) (taken-le eq settings h) ih
      next (Written q v at) ih = given_more (removals eq settings h) (removals_at eq settings (Written q v at) h) (given_out eq settings h) (taken eq settings h) (taken-le eq settings h) ih
      next (Invalidated q at) ih = given_more (removals eq settings h) (removals_at eq settings (Invalidated q at) h) (given_out eq settings h) (taken eq settings h) (taken-le eq settings h) ih
      next (Hidden test) ih = given_more (removals eq settings h) [] (given_out eq settings h) (taken eq settings h) (taken-le eq settings h) ih
      next (Maintained limit at) ih = given_more (removals eq settings h) (removals_at eq settings (Maintained limit at) h) (given_out eq settings h) (taken eq settings h) (taken-le eq settings h) ih
      next (Passed at) ih = given_more (removals eq settings h) [] (given_out eq settings h) (taken eq settings h) (taken-le eq settings h) ih
      next Drawn ih = given_more (removals eq settings h) [] (given_out eq settings h) (taken eq settings h) (taken-le eq settings h) ih
      next Taken ih = given_next (removals eq settings h) (given_out eq settings h) (taken eq settings h) ih

  -- what was given out, and then what is left to give out, is what left
  pub given_out-append-notices_left : (h : List (Event K V)) → given_out eq settings h ++ notices_left eq settings h ≡ removals eq settings h
  given_out-append-notices_left h = rw (given_out_is h) (take-append-drop (taken eq settings h) (removals eq settings h))

  -- as many were given out as are counted
  pub length-given_out : (h : List (Event K V)) → length (given_out eq settings h) ≡ taken eq settings h
  length-given_out h = rw (given_out_is h) (length-take-le (taken eq settings h) (removals eq settings h) (taken-le eq settings h))

  -- those that left are those that wait and those that were given out
  pub count-left : (test : K → V → Bool) (h : List (Event K V)) → count_left test (removals eq settings h) ≡ count_left test (notices_left eq settings h) + count_left test (given_out eq settings h)
  count-left test h =
      ap (count_left test) (sym (given_out-append-notices_left h))
      ∙ count-append (λ (l : Removal K V). test l.key l.value) (given_out eq settings h) (notices_left eq settings h)
      ∙ add_comm (count_left test (given_out eq settings h)) (count_left test (notices_left eq settings h))

  -- nothing is lost or doubled
  pub is_conserved : IsEquivalence eq → (h : List (Event K V)) → IsConserved eq settings h (books_of eq settings h) (given_out eq settings h)
  is_conserved laws h = record {
    pairs = λ test alike. pairs_conserved eq settings test laws alike h ∙ ap (λ n. count_standing test (orders eq settings h) + n) (count-left test h);
    removals = given_out-append-notices_left h;
  }

module _ {K V E : Type 0} where
  -- the notice that a reply gives out
  abbrev pub noticed_by : Reply K V E → List (Removal K V)
  noticed_by (Noticed (Some l)) = l ∷ []
  noticed_by reply = []

  module _ (is_clone : V → V → Type 0) where
    -- what is handed out gives out that of the reply
    noticed-same : (a b : Reply K V E) → IsCopiedReply is_clone a b → noticed_by b ≡ noticed_by a
    noticed-same (Found v) (Found w) is = refl
    noticed-same (Entered a) (Entered b) is = refl
    noticed-same (Run name a) (Run called b) is = refl
    noticed-same (Unchanged a) (Unchanged b) is = refl
    noticed-same (Inserted a) (Inserted b) is = refl
    noticed-same (ReplacedWith a) (ReplacedWith b) is = refl
    noticed-same (Removed a) (Removed b) is = refl
    noticed-same a b is = ap noticed_by is

    module _ (eq : K → K → Bool) (settings : Settings K V) (steps : List (AcceptedStep K V E)) where
      abbrev h : List (Event K V)
      h = events_in steps

      abbrev Gives : Option (Accepted K V E) → Type 0
      Gives None = Unit {0}
      Gives (Some it) = given_out eq settings (it.step.events ++ h) ≡ given_out eq settings h ++ noticed_by it.reply

      -- an event that takes no notice
      abbrev IsQuiet : Event K V → Type 0
      IsQuiet Taken = ⊥
      IsQuiet e = Unit {0}

      given_by-quiet : (e : Event K V) (before : List (Event K V)) → IsQuiet e → given_by eq settings e before ≡ []
      given_by-quiet Taken before is = absurd is
      given_by-quiet e before is = refl

      -- such events give out none
      quiet : (es : List (Event K V)) → AllByRecursion IsQuiet es → given_out eq settings (es ++ h) ≡ given_out eq settings h
      quiet [] all = refl
      quiet (e ∷ es) all = ap (λ l. given_out eq settings (es ++ h) ++ l) (given_by-quiet e (es ++ h) all.0) ∙ append-nil (given_out eq settings (es ++ h)) ∙ quiet es all.1

      silent : (events : List (Event K V)) (reply : Reply K V E) → AllByRecursion IsQuiet events → noticed_by reply ≡ [] → given_out eq settings (events ++ h) ≡ given_out eq settings h ++ noticed_by reply
      silent events reply all none = quiet events all ∙ sym (ap (λ l. given_out eq settings h ++ l) none ∙ append-nil (given_out eq settings h))

      silent-one : (it : Accepted K V E) → AllByRecursion IsQuiet it.step.events → noticed_by it.reply ≡ [] → Gives (Some it)
      silent-one it all none = silent it.step.events it.reply all none

      quiet-write : (k : K) (v : V) (at : ℕ) (before later : List (Event K V)) → AllByRecursion IsQuiet later → AllByRecursion IsQuiet (write_events eq settings k v at before ++ later)
      quiet-write k v at before later all = go (stores_nothing settings.max_capacity) (is_flush_due eq settings before)
        where
          go : (none due : Bool) → AllByRecursion IsQuiet (cond none (Passed at ∷ []) (Written k v at ∷ cond due (Maintained settings.flush_limit at ∷ []) []) ++ later)
          go true due = (tt, all)
          go false true = (tt, (tt, all))
          go false false = (tt, all)

      quiet-look : (replace : Option Bool) (k : K) (at : ℕ) → IsQuiet (look_event replace k at)
      quiet-look None k at = tt
      quiet-look (Some false) k at = tt
      quiet-look (Some true) k at = tt

      gives-begun : (k : K) (kind : Kind) (replace : Option Bool) (at : ℕ) (w : Option (Write K V)) (t : Option (Turn K V E)) → Gives (Some (begun eq settings h k kind replace at w t))
      gives-begun k kind replace at (Some w) t = silent-one (begun eq settings h k kind replace at (Some w) t) (quiet-look replace k at, tt) refl
      gives-begun k kind replace at None (Some t) = silent-one (begun eq settings h k kind replace at None (Some t)) (quiet-look replace k at, tt) refl
      gives-begun k kind replace at None None = silent-one (begun eq settings h k kind replace at None None) (tt, (quiet-look replace k at, tt)) refl

      gives-computes : (k : K) (keep : Bool) (at : ℕ) (t : Option (Turn K V E)) → Gives (Some (begun_compute eq settings h k keep at t))
      gives-computes k keep at (Some t) = silent-one (begun_compute eq settings h k keep at (Some t)) (tt, tt) refl
      gives-computes k keep at None = silent-one (begun_compute eq settings h k keep at None) (tt, (tt, tt)) refl

      gives-or_inserted : (k : K) (v : V) (at : ℕ) (w : Option (Write K V)) → Gives (Some (or_inserted eq settings h k v at w))
      gives-or_inserted k v at (Some w) = silent-one (or_inserted eq settings h k v at (Some w)) (tt, tt) refl
      gives-or_inserted k v at None = silent-one (or_inserted eq settings h k v at None) (quiet-write k v at (Looked k at ∷ h) (Looked k at ∷ []) (tt, tt)) refl

      gives-put : (name : Name K) (v : V) (shown : Bool) → noticed_by (put_by {E = E} name v shown) ≡ []
      gives-put name v true = refl
      gives-put name v false = refl

      gives-removed : (name : Name K) (w : Option (Write K V)) → noticed_by (removed_by {E = E} name w) ≡ []
      gives-removed name None = refl
      gives-removed name (Some w) = refl

      gives-kept : (name : Name K) (v : Option V) → noticed_by (kept_by {E = E} name v) ≡ []
      gives-kept name None = refl
      gives-kept name (Some v) = refl

      gives-finished : (name : Name K) (at : ℕ) (outcome : Outcome V E) (t : Turn K V E) → Gives (Some (finished eq settings h name outcome at t))
      gives-finished name at (outcomes.Value v) t = silent-one (finished eq settings h name (outcomes.Value v) at t) (rw (← append-nil (write_events eq settings name.key v at h)) (quiet-write name.key v at h [] tt)) refl
      gives-finished name at outcomes.Nothing t = silent-one (finished eq settings h name outcomes.Nothing at t) (tt, tt) refl
      gives-finished name at (outcomes.Failed e) t = silent-one (finished eq settings h name (outcomes.Failed e) at t) (tt, tt) refl
      gives-finished name at (outcomes.Op (ops.Put v)) t = silent-one (finished eq settings h name (outcomes.Op (ops.Put v)) at t) (rw (← append-nil (write_events eq settings name.key v at h)) (quiet-write name.key v at h [] tt)) (gives-put name v t.shown)
      gives-finished name at (outcomes.Op ops.Remove) t = silent-one (finished eq settings h name (outcomes.Op ops.Remove) at t) (tt, tt) (gives-removed name (live_at eq settings name.key at h))
      gives-finished name at (outcomes.Op ops.Nop) t = silent-one (finished eq settings h name (outcomes.Op ops.Nop) at t) (tt, tt) (gives-kept name t.kept)

      gives-reply_by : (name : Name K) (end : End V E) → noticed_by (reply_by name end) ≡ []
      gives-reply_by name (turning.Value v replaced) = refl
      gives-reply_by name turning.Nothing = refl
      gives-reply_by name (turning.Failed e) = refl
      gives-reply_by name turning.Computed = refl
      gives-reply_by name turning.Abandoned = refl

      gives-collected : (name : Name K) (number : ℕ) (end : Option (End V E)) → Gives (Some (collected name number end))
      gives-collected name number None = silent-one (collected name number None) tt refl
      gives-collected name number (Some end) = silent-one (collected name number (Some end)) tt (gives-reply_by name end)

      gives-made : (make : Turn K V E → Accepted K V E) → ((t : Turn K V E) → Gives (Some (make t))) → (o : Option (Turn K V E)) → Gives (option_map make o)
      gives-made make each None = tt
      gives-made make each (Some t) = each t

      -- each call gives out what it returns
      gives : (call : Call K V E) → Gives (accepted eq settings steps call)
      gives (Get k at) = refl
      gives (ContainsKey k at) = sym (append-nil (given_out eq settings h))
      gives (Insert k v at) = go (stores_nothing settings.max_capacity) (is_flush_due eq settings h)
        where
          go : (none due : Bool) → given_out eq settings (cond none (Passed at ∷ []) (Written k v at ∷ cond due (Maintained settings.flush_limit at ∷ []) []) ++ h) ≡ given_out eq settings h ++ []
          go true due = refl
          go false true = append-nil (given_out eq settings h ++ [])
          go false false = refl
      gives (Invalidate k at) = refl
      gives (Remove k at) = refl
      gives InvalidateAll = refl
      gives (InvalidateIf test) = go settings.supports_closures
        where
          go : (b : Bool) → Gives (cond b (Some (without_move Done (Hidden test ∷ []))) None)
          go true = refl
          go false = tt
      gives (RunPendingTasks at) = refl
      gives (RunPendingTasksUpTo limit at) = refl
      gives EntryCount = sym (append-nil (given_out eq settings h))
      gives WeightedSize = sym (append-nil (given_out eq settings h))
      gives TakeNotice = go (slice_get (notices_left eq settings h) 0)
        where
          go : (o : Option (Removal K V)) → given_out eq settings h ++ option_to_list o ≡ given_out eq settings h ++ noticed_by (Noticed o)
          go None = refl
          go (Some l) = refl
      gives (OrInsert k v at) = gives-or_inserted k v at (live_at eq settings k at h)
      gives (Begin k With replace at) = gives-begun k With replace at (acceptable replace (live_at eq settings k at h)) (found (is_open_for eq With k) (turns steps))
      gives (Begin k Optionally replace at) = gives-begun k Optionally replace at (acceptable replace (live_at eq settings k at h)) (found (is_open_for eq Optionally k) (turns steps))
      gives (Begin k Try replace at) = gives-begun k Try replace at (acceptable replace (live_at eq settings k at h)) (found (is_open_for eq Try k) (turns steps))
      gives (Begin k Compute replace at) = gives-computes k false at (found (is_open_for eq Compute k) (turns steps))
      gives (BeginCompute k keep at) = gives-computes k keep at (found (is_open_for eq Compute k) (turns steps))
      gives (Finish name outcome at) =
          cond_both (fits name.kind outcome) (option_map (finished eq settings h name outcome at) (found (is_open_as eq name) (turns steps))) None Gives
          (λ _. gives-made (finished eq settings h name outcome at) (gives-finished name at outcome) (found (is_open_as eq name) (turns steps)))
          (λ _. tt)
      gives (Abandon name) = gives-made (λ t. abandons t.name.number) (λ t. silent-one (abandons t.name.number) tt refl) (found (is_open_as eq name) (turns steps))
      gives (Collect name) = gives-made (λ t. collected name t.name.number t.end) (λ t. gives-collected name t.name.number t.end) (found (has_ticket_as eq name) (turns steps))
      gives (Leave name) = gives-made (λ t. spends t.name.number) (λ t. silent-one (spends t.name.number) tt refl) (found (has_ticket_as eq name) (turns steps))

      reply-gives : (it : Option (Accepted K V E)) (reply : Reply K V E) → Gives it → IsReplyOf is_clone it reply → given_out eq settings (events_in (with_step it steps)) ≡ given_out eq settings h ++ noticed_by reply
      reply-gives None reply gives is = absurd is
      reply-gives (Some it) reply gives is = gives ∙ ap (λ l. given_out eq settings h ++ l) (sym (noticed-same it.reply reply is))

      -- an accepted call gives out what it hands out
      pub given-by_reply : (call : Call K V E) (reply : Reply K V E) → IsReplyOf is_clone (accepted eq settings steps call) reply
          → given_out eq settings (events_in (with_step (accepted eq settings steps call) steps)) ≡ given_out eq settings h ++ noticed_by reply
      given-by_reply call reply is = reply-gives (accepted eq settings steps call) reply (gives call) is
