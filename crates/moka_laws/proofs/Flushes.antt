-- The worked flush: of 64 keys that wait at a capacity of ten the first 54 leave. A list of 64 events computes slowly
-- as a maintenance, so the laws of the size take that step.
use Rattle.std.proofs.Common.{◌≡◌, ℕ, zero, suc, ◌-◌, nat_eq, min, max, option_map, Bool, Some, None, List, [], ◌∷◌, ◌++◌, length, take, drop, map, refl, ap, ◌∙◌, true, if◌then◌else◌}
use Rattle.std.proofs.lemmas.Bool.{cond_both}
use Rattle.moka_model.specs.declared.notification.RemovalCause.TheVariants.{Replaced, Size}
use Rattle.moka_model.specs.Maintenance.{Queues}
use Rattle.moka_model.specs.MaintenanceLaws.{the_dead, the_living}
use Rattle.moka_model.specs.Lives.{Settings, Write, is_live, live_one, after_write}
use Rattle.moka_model.specs.Events.{Event, Written, Maintained, latest, Passed}
use Rattle.moka_model.specs.Admission.{frequency}
use Rattle.moka_model.specs.Orders.{written_in, orders, is_evicted, standing}
use Rattle.moka_model.specs.Removals.{removals_of, removals_at, removals}
use Rattle.moka_model.specs.Numbers.{greatest_number, entry_count, drawn_in, stores_nothing}
use Rattle.moka_model.specs.Steps.{AcceptedStep, events_in}
use Rattle.moka_model.specs.Calls.{Insert, live_at, after, RunPendingTasksUpTo, flush, write_events}
use Rattle.moka_laws.specs.Worked.{replies, found, is_done, counted}
use Rattle.moka_laws.specs.WorkedCalls.{behind_64}
use Rattle.moka_model.specs.SizeLaws.{removal_as, dead_removal}
use Rattle.moka_laws.specs.WorkedSize.{at_capacity, all_left}
use Rattle.moka_model.proofs.Callers.{maintained-none_waits}
use Rattle.moka_laws.proofs.Departures.{admitted-within, removals_at-within}

-- the writes of the keys from 1 up to a number
abbrev pub all_wait : ℕ → List (Write ℕ ℕ)
all_wait zero = []
all_wait (suc n) = all_wait n ++ after_write (at_capacity 10) (suc n) (suc n) 0 None ∷ []

abbrev pub at_ten : Settings ℕ ℕ
at_ten = at_capacity 10

-- the 64 wait, and none is admitted
abbrev pub all_64 : Queues (Write ℕ ℕ)
all_64 = record { admitted = []; waiting = all_wait 64 }

-- the last ten are admitted, and the next key waits
abbrev pub ten_and_one : Queues (Write ℕ ℕ)
ten_and_one = record { admitted = drop 54 (all_wait 64); waiting = after_write (at_capacity 10) 65 65 1 None ∷ [] }

module _ (h : List (Event ℕ ℕ)) (waiting : orders nat_eq at_ten h ≡ all_64) where
  abbrev lives : Write ℕ ℕ → Bool
  lives w = is_live at_ten w (latest (Maintained None 1 ∷ h))

  removals_at-flush : removals_at nat_eq at_ten (Maintained None 1) h ≡ all_left 54
  removals_at-flush =
      removals_at-within nat_eq at_ten 1 h refl (λ k v. refl) 10 refl
      ∙ ap (λ q. map dead_removal (the_dead lives q) ++ map (removal_as Size) (take (length (the_living lives q) - 10) (the_living lives q))) waiting

  orders-flush : orders nat_eq at_ten (Maintained None 1 ∷ h) ≡ record { admitted = drop 54 (all_wait 64); waiting = [] }
  orders-flush =
      let admitted : (orders nat_eq at_ten (Maintained None 1 ∷ h)).admitted ≡ drop 54 (all_wait 64) =
      admitted-within nat_eq at_ten 1 h refl (λ k v. refl) 10 refl ∙ ap (λ q. drop (length (the_living lives q) - 10) (the_living lives q)) waiting in
      ap (λ ws. record { admitted = ws; waiting = (orders nat_eq at_ten (Maintained None 1 ∷ h)).waiting }) admitted
      ∙ ap (λ ws. record { admitted = drop 54 (all_wait 64); waiting = ws }) (maintained-none_waits nat_eq at_ten (frequency at_ten h) (latest (Maintained None 1 ∷ h)) (orders nat_eq at_ten h))

  module _ (now : latest h ≡ 0) (absent : standing nat_eq at_ten 65 h ≡ None) (kept : removals nat_eq at_ten h ≡ []) (g : List (Event ℕ ℕ)) (next : g ≡ Written 65 65 1 ∷ Maintained None 1 ∷ h) where
    standing-flush : standing nat_eq at_ten 65 (Maintained None 1 ∷ h) ≡ None
    standing-flush = cond_both (is_evicted nat_eq at_ten 65 None 1 h) None (standing nat_eq at_ten 65 h) (λ o. o ≡ None) (λ _. refl) (λ _. absent)

    pub removals-65 : removals nat_eq at_ten g ≡ all_left 54
    removals-65 =
        ap (removals nat_eq at_ten) next
        ∙ ap (λ ls. (ls ++ removals_at nat_eq at_ten (Maintained None 1) h) ++ removals_at nat_eq at_ten (Written 65 65 1) (Maintained None 1 ∷ h)) kept
        ∙ ap (λ ls. ls ++ removals_at nat_eq at_ten (Written 65 65 1) (Maintained None 1 ∷ h)) removals_at-flush
        ∙ ap (λ o. all_left 54 ++ removals_of at_ten Replaced (latest (Written 65 65 1 ∷ Maintained None 1 ∷ h)) o) standing-flush

    pub orders-65 : orders nat_eq at_ten g ≡ ten_and_one
    orders-65 =
        ap (orders nat_eq at_ten) next
        ∙ ap (written_in nat_eq at_ten 65 65 (latest (Written 65 65 1 ∷ Maintained None 1 ∷ h))) orders-flush
        ∙ ap (λ m. written_in nat_eq at_ten 65 65 (max (max m 1) 1) (record { admitted = drop 54 (all_wait 64); waiting = [] })) now

    pub entry_count-65 : entry_count nat_eq at_ten g ≡ 11
    entry_count-65 = ap (λ (q : Queues (Write ℕ ℕ)). length (q.admitted ++ q.waiting)) orders-65

    pub live-65 : live_at nat_eq at_ten 65 1 g ≡ Some (after_write at_ten 65 65 1 None)
    live-65 =
        ap (live_at nat_eq at_ten 65 1) next
        ∙ ap (λ o. live_one at_ten (max (latest (Written 65 65 1 ∷ Maintained None 1 ∷ h)) 1) (Some (after_write at_ten 65 65 (latest (Written 65 65 1 ∷ Maintained None 1 ∷ h)) o))) standing-flush
        ∙ ap (λ m. live_one at_ten (max (max (max m 1) 1) 1) (Some (after_write at_ten 65 65 (max (max m 1) 1) None))) now

-- so are the calls behind 64 that wait
module _ (steps : List (AcceptedStep ℕ ℕ ℕ)) (waiting : orders nat_eq at_ten (events_in steps) ≡ all_64) (now : latest (events_in steps) ≡ 0) (absent : standing nat_eq at_ten 65 (events_in steps) ≡ None) (kept : removals nat_eq at_ten (events_in steps) ≡ [])
    (next : events_in (after nat_eq at_ten (Insert 65 65 1) steps) ≡ Written 65 65 1 ∷ Maintained None 1 ∷ events_in steps) where
  abbrev then_events : List (Event ℕ ℕ)
  then_events = events_in (after nat_eq at_ten (Insert 65 65 1) steps)

  pub session-65 : replies nat_eq at_ten behind_64 steps ≡ is_done ∷ counted 11 ∷ found (Some 65) ∷ []
  session-65 =
      ap (λ n. is_done ∷ counted (min n greatest_number) ∷ found (option_map (λ (w : Write ℕ ℕ). w.value) (live_at nat_eq at_ten 65 1 then_events)) ∷ []) (entry_count-65 (events_in steps) waiting now absent kept then_events next)
      ∙ ap (λ o. is_done ∷ counted 11 ∷ found (option_map (λ (w : Write ℕ ℕ). w.value) o) ∷ []) (live-65 (events_in steps) waiting now absent kept then_events next)

-- With a capacity of 0 no write draws a number.
pub drawn-empty : {K V : Type 0} (eq : K → K → Bool) (settings : Settings K V) → stores_nothing settings.max_capacity ≡ true → (k : K) (v : V) (at : ℕ) (h : List (Event K V)) → drawn_in (write_events eq settings k v at h) ≡ 0
drawn-empty eq settings none k v at h = ap (λ t. drawn_in (if t then Passed at ∷ [] else Written k v at ∷ flush eq settings at h)) none
