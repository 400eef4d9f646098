-- What a maintenance of the rows makes of the view of a state.
use Rattle.std.proofs.Common.{◌≡◌, ℕ, ◌+◌, ◌≤◌, ◌&&◌, ◌||◌, max, nat_le, Bool, true, false, not, cond, List, [], ◌∷◌, ◌++◌, length, map, Option, Some, None, refl, sym, ap, ◌∙◌, subst, length-append, arith}
use Rattle.std.specs.List.{All, AllByRecursion}
use Rattle.std.specs.Option.{IfSome}
use Rattle.std.proofs.lemmas.List.{length-map, append-nil, map-append}
use Rattle.std.proofs.lemmas.List.Elements.{All-same, recursion_from_All}
use Rattle.moka_model.specs.declared.notification.RemovalCause.TheVariants.{Expired, Explicit, Size}
use Rattle.moka_model.specs.Lives.{Settings, Write, is_expired, is_live}
use Rattle.moka_model.specs.Events.{Maintained, latest}
use Rattle.moka_model.specs.Turns.{Turn}
use Rattle.moka_model.specs.Steps.{AcceptedStep, events_in}
use Rattle.moka_model.specs.StandsFor.{Books, StandsFor}
use Rattle.moka_model.specs.Admission.{wins}
use Rattle.moka_model.specs.Orders.{maintained, is_left_at}
use Rattle.moka_model.specs.Removals.{Removal, removal_of as write_removal}
use Rattle.moka_model.specs.Maintenance.{Queues, Part, total, parts, done, is_left, evicted_in, after_parts}
use Rattle.moka_model.specs.MaintenanceLaws.{everything}
use Rattle.moka_model.proofs.Callers.{whole, All-live-after, total-after-le, evicted-done-le, count-maintenance, all-pass, cut-stands, total-by, queues_by, part_by, evicted_in-by, after_parts-by, done-by, is_left-by, parts-by}
use Rattle.moka_model.proofs.Callers.{parts-same}
use Rattle.moka_rows.specs.declared.rows.Row.{Row}
use Rattle.moka_expiration.specs.declared.expiration_policy.ExpirationPolicy.{ExpirationPolicy}
use Rattle.moka_expiration.specs.ExpirationPolicy.{deadline_of}
use Rattle.moka_model.specs.Lives.{has_come}
use Rattle.moka_table.specs.Table.{Contents, entries, weight_of, stored_write, stored_writes, removal_of}
use Rattle.moka_housekeeper.proofs.Callers.{without-limit}
use Rattle.moka_housekeeper.specs.Maintain.{is_alive, notice_at, rows_of, row_wins, row_parts, IsMaintained, IsMaintainedUpTo}
use Rattle.moka_state.specs.State.{stored_orders}
use Rattle.moka_state.proofs.Views.{view_with, Becomes}

-- At most as many entries are evicted as the limit says, and each is noticed.
module _ {K V : Type 0} {lives : ExpirationPolicy} {is_lru : Bool} {frequency_of : ℕ → ℕ} {capacity : Option ℕ} {at : ℕ} {old new : Contents K V} where
  pub few-noticed : {is_cut : Bool} (limit : ℕ) → IsMaintainedUpTo lives is_lru frequency_of capacity at (Some limit) old new is_cut → length new.notices ≤ length old.notices + limit
  few-noticed limit is =
      let gone : List (ℕ × Row K V) = evicted_in (done (Some limit) (row_parts lives is_lru frequency_of capacity at old)) in
      let few = evicted-done-le (row_parts lives is_lru frequency_of capacity at old) limit in
      let same = length-map gone (notice_at lives at) in
      let both = length-append old.notices (map (notice_at lives at) gone) in
      let more = ap length is.notices in
      omega (arith, few, same, both, more)

  pub few-leave : {is_cut : Bool} (limit : ℕ) → IsMaintainedUpTo lives is_lru frequency_of capacity at (Some limit) old new is_cut → length (entries old) ≤ length (entries new) + limit
  few-leave limit is =
      let ps : List (Part (ℕ × Row K V)) = done (Some limit) (row_parts lives is_lru frequency_of capacity at old) in
      let few = evicted-done-le (row_parts lives is_lru frequency_of capacity at old) limit in
      let all = count-maintenance (λ _. true) weight_of capacity (is_alive lives at) (row_wins is_lru frequency_of) (Some limit) (rows_of old) in
      let gone = ap length (all-pass (evicted_in ps)) in
      let stay = ap length (all-pass (everything (after_parts (rows_of old) ps))) in
      let before = ap length (all-pass (entries old)) in
      let after = ap (λ q. length (everything q)) is.orders in
      omega (arith, few, all, gone, stay, before, after)

-- the write of a row, whatever its number
abbrev pub write-of : {K V : Type 0} → ℕ × Row K V → Write K V
write-of p = stored_write p.1

-- rows weigh what their writes weigh
pub total-stored : {K V : Type 0} (ps : List (ℕ × Row K V)) → total (λ w. w.policy_weight) (stored_writes ps) ≡ total weight_of ps
total-stored = total-by write-of (λ w. w.policy_weight) None

-- Under these settings and lives the same rows are expired at the same moments.
abbrev pub HasLives : {K V : Type 0} → Settings K V → ExpirationPolicy → Type 0
HasLives {K} {V} settings lives =
    ◌≡◌ {A = Row K V → ℕ → Bool} (λ row at. is_expired settings (stored_write row) at) (λ row at. has_come (deadline_of lives row.info) at)

module _ {K V : Type 0} (eq : K → K → Bool) (settings : Settings K V) (lives : ExpirationPolicy) (expired_alike : HasLives settings lives) (contents : Contents K V) (frequency : List ℕ → ℕ → ℕ) (moment number : ℕ) (at : ℕ) where
  abbrev now : ℕ
  now = max moment at

  abbrev lives_now : Write K V → Bool
  lives_now w = is_live settings w now

  abbrev both : Queues (Write K V)
  both = stored_orders contents

  -- the rows are alive whose writes are live
  alive-same : (λ (p : ℕ × Row K V). lives_now (write-of p)) ≡ is_alive lives now
  alive-same = ap (λ (expired : Row K V → ℕ → Bool). λ (p : ℕ × Row K V). not p.1.info.is_hidden && not (expired p.1 now)) expired_alike

  -- the rows win whose writes do
  wins-same : (p : ℕ × Row K V) (victims : List (ℕ × Row K V)) → wins settings (frequency []) (write-of p) (map write-of victims) ≡ row_wins settings.behaviour.is_lru (frequency []) p victims
  wins-same p victims =
      ap (λ n. settings.behaviour.is_lru || nat_le (n + 1) (frequency [] p.1.hash)) (total-by write-of (λ (v : Write K V). frequency [] v.hash) None victims)

  -- the maintenance of the rows, and that of the writes
  abbrev of_rows : List (Part (ℕ × Row K V))
  of_rows = row_parts lives settings.behaviour.is_lru (frequency []) settings.max_capacity now contents

  abbrev of_writes : List (Part (Write K V))
  of_writes = parts (λ w. w.policy_weight) settings.max_capacity lives_now (wins settings (frequency [])) both

  parts-stored : of_writes ≡ map (part_by write-of) of_rows
  parts-stored =
      let Rows : Type 0 = List (ℕ × Row K V) in
      parts-by write-of lives_now (λ (w : Write K V). w.policy_weight) settings.max_capacity (wins settings (frequency [])) (rows_of contents)
      ∙ ap (λ alive. map (part_by write-of) (parts weight_of settings.max_capacity alive (λ (p : ℕ × Row K V) (victims : Rows). wins settings (frequency []) (write-of p) (map write-of victims)) (rows_of contents))) alive-same
      ∙ ap (map (part_by write-of)) (parts-same (λ (p : ℕ × Row K V) (victims : Rows). wins settings (frequency []) (write-of p) (map write-of victims)) (row_wins settings.behaviour.is_lru (frequency [])) wins-same weight_of settings.max_capacity (is_alive lives now) (rows_of contents))

  -- the notice of a row is that of its write's leaving
  notice-same : (p : ℕ × Row K V) → removal_of (notice_at lives now p) ≡ write_removal settings Size now (write-of p)
  notice-same p = ap (λ (expired : Row K V → ℕ → Bool). let r : Removal K V = record { key = (write-of p).key; value = p.1.value; cause = cond p.1.info.is_hidden Explicit (cond (expired p.1 now) Expired Size) } in r) (sym expired_alike)

  notices-same : (ps : List (ℕ × Row K V)) → map removal_of (map (notice_at lives now) ps) ≡ map (write_removal settings Size now) (stored_writes ps)
  notices-same [] = refl
  notices-same (p ∷ ps) = ap (λ l. l ∷ map removal_of (map (notice_at lives now) ps)) (notice-same p) ∙ ap (λ ls. write_removal settings Size now (write-of p) ∷ ls) (notices-same ps)

  module _ (limit : Option ℕ) (new : Contents K V) (is_cut : Bool) (is : IsMaintainedUpTo lives settings.behaviour.is_lru (frequency []) settings.max_capacity now limit contents new is_cut) where
    done-stored : done limit of_writes ≡ map (part_by write-of) (done limit of_rows)
    done-stored = ap (done limit) parts-stored ∙ done-by write-of limit of_rows

    -- the writes that leave are those of the rows
    stored-leave : stored_writes (evicted_in (done limit of_rows)) ≡ evicted_in (done limit of_writes)
    stored-leave = sym (evicted_in-by write-of (done limit of_rows)) ∙ ap evicted_in (sym done-stored)

    orders-maintained : stored_orders new ≡ maintained settings (frequency []) limit now both
    orders-maintained = ap (queues_by write-of) is.orders ∙ sym (after_parts-by write-of (rows_of contents) (done limit of_rows)) ∙ ap (after_parts both) (sym done-stored)

    -- so the view becomes what the event makes of it,
    pub becomes-maintained : Becomes eq (view_with settings contents frequency moment number) (Maintained limit at) (view_with settings new frequency now number)
    becomes-maintained = record {
      settings = refl;
      orders = orders-maintained;
      notices =
          ap (map removal_of) is.notices
          ∙ map-append (removal_of {K = K} {V = V}) contents.notices _
          ∙ ap (λ l. map removal_of contents.notices ++ l) (notices-same (evicted_in (done limit of_rows)) ∙ ap (map (write_removal settings Size now)) stored-leave);
      latest = refl;
      next_number = refl;
      frequency = λ more hash. refl;
    }

    -- and a part is left undone where the limit leaves one of the writes' maintenance
    cut-maintained : is_cut ≡ is_left limit of_writes
    cut-maintained = is.left ∙ sym (ap (is_left limit) parts-stored ∙ is_left-by write-of limit of_rows)

  module _ (new : Contents K V) (is : IsMaintained lives settings.behaviour.is_lru (frequency []) settings.max_capacity now contents new) where
    -- all that is stored is live then
    pub live-maintained : AllByRecursion (λ w. is_live settings w now ≡ true) (stored_writes new.admitted ++ stored_writes new.waiting)
    live-maintained =
        let ExpirationPolicy : Write K V → Type 0 = λ w. is_live settings w now ≡ true in
        let admitted : All ExpirationPolicy (stored_writes new.admitted) = All-same ExpirationPolicy (stored_writes new.admitted) (maintained settings (frequency []) None now both).admitted (ap (λ (q : Queues (Write K V)). q.admitted) (orders-maintained None new false (without-limit is)))
        (All-live-after (λ (w : Write K V). w.policy_weight) settings.max_capacity lives_now (wins settings (frequency [])) both) in
        rw (is.waiting, append-nil (stored_writes new.admitted)) (recursion_from_All ExpirationPolicy (stored_writes new.admitted) admitted)

-- so it is in whatever list the state stands for
pub live-after : {K V E : Type 0} (eq : K → K → Bool) {is_clone : V → V → Type 0} {turns : List (Turn K V E)} (given : Settings K V) (steps : List (AcceptedStep K V E)) (settings : Settings K V) (lives : ExpirationPolicy) → HasLives settings lives
    → (contents : Contents K V) (frequency : List ℕ → ℕ → ℕ) (moment number : ℕ) → StandsFor eq is_clone given (whole (view_with settings contents frequency moment number) turns) steps → (at : ℕ) (new : Contents K V)
    → IsMaintained lives settings.behaviour.is_lru (frequency []) settings.max_capacity (max moment at) contents new
    → AllByRecursion (λ w. is_live given w (max (latest (events_in steps)) at) ≡ true) (stored_writes new.admitted ++ stored_writes new.waiting)
live-after {K} {V} eq given steps settings lives expired_alike contents frequency moment number stands at new is =
    let All_live : Settings K V → ℕ → Type 0 = λ s m. AllByRecursion (λ (w : Write K V). is_live s w (max m at) ≡ true) (stored_writes new.admitted ++ stored_writes new.waiting) in
    subst (λ (s : Settings K V). All_live s (latest (events_in steps))) stands.settings
    (subst (λ (b : Books K V). All_live settings b.latest) stands.books (live-maintained eq settings lives expired_alike contents frequency moment number at new is))

-- A part is left undone where the definitions leave one, in whatever list the state stands for.
pub cut-after : {K V E : Type 0} (eq : K → K → Bool) {is_clone : V → V → Type 0} {turns : List (Turn K V E)} (given : Settings K V) (steps : List (AcceptedStep K V E)) (settings : Settings K V) (lives : ExpirationPolicy) → HasLives settings lives
    → (contents : Contents K V) (frequency : List ℕ → ℕ → ℕ) (moment number : ℕ) → StandsFor eq is_clone given (whole (view_with settings contents frequency moment number) turns) steps → (at : ℕ) (limit : Option ℕ) (new : Contents K V) (is_cut : Bool)
    → IsMaintainedUpTo lives settings.behaviour.is_lru (frequency []) settings.max_capacity (max moment at) limit contents new is_cut
    → is_cut ≡ is_left_at eq given limit at (events_in steps)
cut-after eq given steps settings lives expired_alike contents frequency moment number stands at limit new is_cut is =
    cut-maintained eq settings lives expired_alike contents frequency moment number at limit new is_cut is
    ∙ sym (cut-stands eq given (view_with settings contents frequency moment number) steps stands limit at)

-- what a maintenance leaves stored is within the capacity
pub stored-within : {K V : Type 0} {is_lru : Bool} {frequency_of : ℕ → ℕ} (lives : ExpirationPolicy) (capacity : Option ℕ) (at : ℕ) (old new : Contents K V) → IsMaintained lives is_lru frequency_of capacity at old new → IfSome capacity (λ c. total (λ w. w.policy_weight) (stored_writes new.admitted ++ stored_writes new.waiting) ≤ c)
stored-within {K} {V} {is_lru} {frequency_of} lives capacity at old new is = go capacity is.admitted
  where
    go : (o : Option ℕ) → new.admitted ≡ (after_parts (rows_of old) (row_parts lives is_lru frequency_of o at old)).admitted → IfSome o (λ c. total (λ w. w.policy_weight) (stored_writes new.admitted ++ stored_writes new.waiting) ≤ c)
    go None admitted = tt
    go (Some c) admitted =
        rw (is.waiting, append-nil (stored_writes new.admitted), total-stored new.admitted, admitted)
        (total-after-le weight_of c (is_alive lives at) (row_wins is_lru frequency_of) (rows_of old))
