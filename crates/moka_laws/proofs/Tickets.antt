-- The waits for a turn are the tickets of it that were spent and those that are not, by number and by name.
use Rattle.std.proofs.lemmas.Bool.Decides.{eqb_tells}
use Rattle.std.proofs.Common.{◌≡◌, ◌≢◌, ⊎_elim, ℕ, ◌+◌, ◌≤◌, ◌==◌, Bool, true, if◌then◌else◌, Option, Some, None, List, [], ◌∷◌, refl, sym, ◌∙◌, arith, subst, ◌⊎◌, inl, inr, ◌-◌, false, ◌&&◌, is_some, option_map, ◌++◌, map, ap}
use Rattle.std.proofs.lemmas.Bool.{cond-true, cond-false, eq-eqb, ne_eqb, leb-true, cond_both, and_parts, eqb-true}
use Rattle.moka_model.specs.Lives.{Settings, Write}
use Rattle.moka_model.specs.Events.{Event, Hidden}
use Rattle.moka_model.specs.Numbers.{drawn, next_number}
use Rattle.moka_model.specs.Turns.{End, Ended, IsIn, Move, Opened, Spent, Turn, Waited, ended_with, has_ticket, moved_by, opening, spent, waited_for, AreApart, Name, fits, found, has_ticket_as, is_for, is_open, is_open_as, is_open_for, numbered, same_kind, same_name}
use Rattle.moka_model.specs.Steps.{AcceptedStep, events_in, turns}
use Rattle.moka_model.specs.Calls.{after, Call, Get, ContainsKey, Insert, Invalidate, Remove, InvalidateAll, InvalidateIf, RunPendingTasks, RunPendingTasksUpTo, EntryCount, WeightedSize, TakeNotice, OrInsert, Begin, BeginCompute, Finish, Abandon, Collect, Leave, Accepted, Done, accepted, acceptable, without_move, live_at, new_name, begun, begun_compute, or_inserted, finished, reply_of_finish, put_by, removed_by, kept_by, end_by, is_replacing, abandons, collected, spends, IsLegal}
use Rattle.moka_laws.specs.TurnLaws.{TicketsMatch, spent_in, spent_of, waits_in, waits_of}
use Rattle.moka_model.proofs.Callers.{in_append, in_place, Fits, Was, changed, left, in_numbered, numbered-alone, AllFit, next-grows, turns-below, turns-apart, legal-fit, found-is, same_kind-is}
use Rattle.std.specs.Cmp.{IsEquivalence}
use Rattle.moka_model.specs.declared.turns.Kind.{Kind}
use Rattle.moka_model.specs.declared.turns.Kind.TheVariants.{With, Optionally, Try, Compute}
use Rattle.moka_model.specs.declared.turns.Outcome.{Outcome}
use Rattle.moka_laws.specs.TicketLaws.{Made, AreMade, steps_made, one_if_same, got_by, spent_by, tickets_got, tickets_spent, unspent_of}
use Rattle.moka_model.specs.Turns as turning
use Rattle.moka_model.specs.declared.turns.Op.TheVariants as ops
use Rattle.moka_model.specs.declared.turns.Outcome.TheVariants as outcomes

pub count_same : (a b : ℕ) → a ≡ b → ◌≡◌ {A = ℕ} (if a == b then 1 else 0) 1
count_same a b e = cond-true (a == b) 1 0 (eq-eqb a b e)

pub count_other : (a b : ℕ) → a ≢ b → ◌≡◌ {A = ℕ} (if a == b then 1 else 0) 0
count_other a b e = cond-false (a == b) 1 0 (ne_eqb a b e)

module _ {K V E : Type 0} where
  -- the tickets of a turn match, after these steps with this move as the newest
  abbrev MatchAfter : Option (Move K V E) → List (AcceptedStep K V E) → Turn K V E → Type 0
  MatchAfter m ds t = waits_in t.name.number m + waits_of t.name.number ds ≡ (spent_in t.name.number m + spent_of t.name.number ds) + t.unspent

  abbrev Match : List (AcceptedStep K V E) → Turn K V E → Type 0
  Match ds t = waits_of t.name.number ds ≡ spent_of t.name.number ds + t.unspent

  waited-match : (ds : List (AcceptedStep K V E)) (number : ℕ) (u t : Turn K V E) → Was number waited_for u t → Match ds u → MatchAfter (Some (Waited number)) ds t
  waited-match ds number u t (changed here e) was = let one = count_same number u.name.number (sym here) in subst (MatchAfter (Some (Waited number)) ds) e (omega (arith, one, was))
  waited-match ds number u t (left other e) was = let none = count_other number u.name.number (λ same. other (sym same)) in subst (MatchAfter (Some (Waited number)) ds) e (omega (arith, none, was))

  ended-match : (ds : List (AcceptedStep K V E)) (number : ℕ) (end : End V E) (u t : Turn K V E) → Was number (ended_with end) u t → Match ds u → MatchAfter (Some (Ended number end)) ds t
  ended-match ds number end u t (changed here e) was = subst (MatchAfter (Some (Ended number end)) ds) e (omega (arith, was))
  ended-match ds number end u t (left other e) was = subst (MatchAfter (Some (Ended number end)) ds) e (omega (arith, was))

  spent-match : (ds : List (AcceptedStep K V E)) (number : ℕ) (u t : Turn K V E) → (u.name.number ≡ number → has_ticket u ≡ true) → Was number spent u t → Match ds u → MatchAfter (Some (Spent number)) ds t
  spent-match ds number u t has (changed here e) was = let one = count_same number u.name.number (sym here) in let some = leb-true 1 u.unspent (has here) in subst (MatchAfter (Some (Spent number)) ds) e (omega (arith, one, was, some))
  spent-match ds number u t has (left other e) was = let none = count_other number u.name.number (λ same. other (sym same)) in subst (MatchAfter (Some (Spent number)) ds) e (omega (arith, none, was))

module _ {K V E : Type 0} (eq : K → K → Bool) (settings : Settings K V) where
  -- a number that is not drawn yet is in no move
  abbrev NoneOf : ℕ → List (AcceptedStep K V E) → Type 0
  NoneOf n ds = (waits_of n ds ≡ 0) × (spent_of n ds ≡ 0)

  unmoved-step : (ds : List (AcceptedStep K V E)) (events : List (Event K V)) (m : Option (Move K V E)) → AllFit eq settings ds → Fits eq settings ds events m → (n : ℕ) → next_number settings (events_in ds) ≤ n → NoneOf n ds → (waits_in n m + waits_of n ds ≡ 0) × (spent_in n m + spent_of n ds ≡ 0)
  unmoved-step ds events None fit this n le was = let w = was.0 in let s = was.1 in (omega (arith, w), omega (arith, s))
  unmoved-step ds events (Some (Opened name look kept)) fit this n le was = let w = was.0 in let s = was.1 in (omega (arith, w), omega (arith, s))
  unmoved-step ds events (Some (Ended number end)) fit this n le was = let w = was.0 in let s = was.1 in (omega (arith, w), omega (arith, s))
  unmoved-step ds events (Some (Waited number)) fit this n le was =
      let low = turns-below eq settings ds fit this.0 this.1 in
      let is = this.2 in
      let none = count_other number n (λ same. omega (arith, low, le, is, same)) in
      let w = was.0 in let s = was.1 in (omega (arith, w, none), omega (arith, s))
  unmoved-step ds events (Some (Spent number)) fit this n le was =
      let low = turns-below eq settings ds fit this.0 this.1 in
      let is = this.2 in
      let none = count_other number n (λ same. omega (arith, low, le, is, same)) in
      let w = was.0 in let s = was.1 in (omega (arith, w), omega (arith, s, none))

  unmoved : (ds : List (AcceptedStep K V E)) → AllFit eq settings ds → (n : ℕ) → next_number settings (events_in ds) ≤ n → NoneOf n ds
  unmoved [] fit n le = (refl, refl)
  unmoved (d ∷ ds) fit n le = let more = next-grows settings d.events (events_in ds) in let low : next_number settings (events_in ds) ≤ n = omega (arith, more, le) in unmoved-step ds d.events d.move fit.1 fit.0 n low (unmoved ds fit.1 n low)

  match-step : (ds : List (AcceptedStep K V E)) (events : List (Event K V)) (m : Option (Move K V E)) → AllFit eq settings ds → Fits eq settings ds events m → ((t : Turn K V E) → IsIn t (turns ds) → Match ds t) → (t : Turn K V E) → IsIn t (moved_by m (turns ds)) → MatchAfter m ds t
  match-step ds events None fit this was t is = let it = was t is in omega (arith, it)
  match-step ds events (Some (Opened name look kept)) fit this was t is =
      ⊎_elim
      (λ here. let it = was t here in omega (arith, it))
      (λ last. ⊎_elim
      (λ same. let none = unmoved ds fit name.number (let first = this.0 in omega (arith, first)) in let w = none.0 in let s = none.1 in subst (MatchAfter (Some (Opened name look kept)) ds) same (omega (arith, w, s)))
      (λ none. absurd none) last)
      (in_append t (turns ds) (opening name look kept ∷ []) is)
  match-step ds events (Some (Waited number)) fit this was t is = let it = in_numbered number waited_for t (turns ds) is in waited-match ds number it.0 t it.2 (was it.0 it.1)
  match-step ds events (Some (Ended number end)) fit this was t is = let it = in_numbered number (ended_with end) t (turns ds) is in ended-match ds number end it.0 t it.2 (was it.0 it.1)
  match-step ds events (Some (Spent number)) fit this was t is =
      let it = in_numbered number spent t (turns ds) is in
      spent-match ds number it.0 t (λ here. subst (λ (v : Turn K V E). has_ticket v ≡ true) (numbered-alone (turns ds) (turns-apart eq settings ds fit) this.0 it.0 this.1 it.1 (this.2 ∙ sym here)) this.3) it.2 (was it.0 it.1)

  pub match : (ds : List (AcceptedStep K V E)) → AllFit eq settings ds → (t : Turn K V E) → IsIn t (turns ds) → Match ds t
  match [] fit t is = absurd is
  match (d ∷ ds) fit t is = match-step ds d.events d.move fit.1 fit.0 (match ds fit.1) t is

  pub tickets_match : (ds : List (AcceptedStep K V E)) → AllFit eq settings ds → TicketsMatch ds
  tickets_match ds fit before after t place = match ds fit t (subst (IsIn t) (sym place) (in_place t before after))

  cover-step : (ds : List (AcceptedStep K V E)) (events : List (Event K V)) (m : Option (Move K V E)) → AllFit eq settings ds → Fits eq settings ds events m → (n : ℕ) → spent_of n ds ≤ waits_of n ds → spent_in n m + spent_of n ds ≤ waits_in n m + waits_of n ds
  cover-step ds events None fit this n le = omega (arith, le)
  cover-step ds events (Some (Opened name look kept)) fit this n le = omega (arith, le)
  cover-step ds events (Some (Waited number)) fit this n le = omega (arith, le)
  cover-step ds events (Some (Ended number end)) fit this n le = omega (arith, le)
  cover-step ds events (Some (Spent number)) fit this n le =
      ⊎_elim
      (λ yes. let same = yes.1 in
      let matched : waits_of n ds ≡ spent_of n ds + this.0.unspent = subst (λ k. waits_of k ds ≡ spent_of k ds + this.0.unspent) (this.2 ∙ same) (match ds fit this.0 this.1) in
      let some = leb-true 1 this.0.unspent this.3 in
      let one = count_same number n same in omega (arith, one, matched, some))
      (λ no. let none = count_other number n no.1 in omega (arith, none, le))
      (eqb_tells number n)

  pub waits_cover : (ds : List (AcceptedStep K V E)) → AllFit eq settings ds → (number : ℕ) → spent_of number ds ≤ waits_of number ds
  waits_cover [] fit n = omega arith
  waits_cover (d ∷ ds) fit n = cover-step ds d.events d.move fit.1 fit.0 n (waits_cover ds fit.1 n)

-- 1 for this name, 0 for any other
abbrev one : {K : Type 0} → (K → K → Bool) → Name K → Name K → ℕ
one eq name other = one_if_same eq other name

module _ {K : Type 0} (eq : K → K → Bool) (name : Name K) (laws : IsEquivalence eq) where
  -- the ticket has a key of its own, which is equal
  same-ticket : (a : Name K) (k : K) → eq a.key k ≡ true → one eq name (record a { key = k }) ≡ one eq name a
  same-ticket a k alike = ap (λ b. if a.number == name.number && (same_kind a.kind name.kind && b) then 1 else 0) (sym (laws.congr a.key k name.key alike))

  same-one : (a b : Name K) → same_name eq a b ≡ true → one eq name b ≡ one eq name a
  same-one a b alike =
      let both = and_parts (a.number == b.number) (same_kind a.kind b.kind && eq a.key b.key) alike in
      let rest = and_parts (same_kind a.kind b.kind) (eq a.key b.key) both.1 in
      let number : b.number ≡ a.number = sym (eqb-true a.number b.number both.0) in
      let kind : b.kind ≡ a.kind = sym (same_kind-is a.kind b.kind rest.0) in
      ap (λ n. if n == name.number && (same_kind b.kind name.kind && eq b.key name.key) then 1 else 0) number
      ∙ ap (λ q. if a.number == name.number && (same_kind q name.kind && eq b.key name.key) then 1 else 0) kind
      ∙ ap (λ t. if a.number == name.number && (same_kind a.kind name.kind && t) then 1 else 0) (sym (laws.congr a.key b.key name.key rest.1))

module _ {K V E : Type 0} (eq : K → K → Bool) (name : Name K) where
  abbrev U : List (Turn K V E) → ℕ
  U = unspent_of eq name

  -- the unspent tickets of this name that one turn has
  abbrev own : Turn K V E → ℕ
  own t = if same_name eq t.name name then t.unspent else 0

  -- another turn has none
  opened-same : (ts : List (Turn K V E)) (other : Name K) (shown : Bool) (kept : Option V) → U (ts ++ opening other shown kept ∷ []) ≡ U ts
  opened-same [] other shown kept = cond_both (same_name eq other name) 0 0 (λ n. n + 0 ≡ 0) (λ _. omega arith) (λ _. omega arith)
  opened-same (t ∷ ts) other shown kept = ap (λ n. own t + n) (opened-same ts other shown kept)

  -- an end changes none
  ended-same : (ts : List (Turn K V E)) (number : ℕ) (end : End V E) → U (map (numbered number (ended_with end)) ts) ≡ U ts
  ended-same [] number end = refl
  ended-same (t ∷ ts) number end =
      ap (λ n. n + U (map (numbered number (ended_with end)) ts)) (cond_both (t.name.number == number) (ended_with end t) t (λ u. own u ≡ own t) (λ _. refl) (λ _. refl))
      ∙ ap (λ n. own t + n) (ended-same ts number end)

  -- what has another number is left as it was
  others-same : (number : ℕ) (change : Turn K V E → Turn K V E) (ts : List (Turn K V E)) → ((u : Turn K V E) → IsIn u ts → (u.name.number ≡ number → ⊥)) → U (map (numbered number change) ts) ≡ U ts
  others-same number change [] apart = refl
  others-same number change (t ∷ ts) apart =
      ap (λ n. n + U (map (numbered number change) ts)) (ap own (cond-false (t.name.number == number) (change t) t (ne_eqb t.name.number number (apart t (inl refl)))))
      ∙ ap (λ n. own t + n) (others-same number change ts (λ u is. apart u (inr is)))

  at-first : (change : Turn K V E → Turn K V E) (u : Turn K V E) (us : List (Turn K V E)) → AreApart (u ∷ us) → U (map (numbered u.name.number change) (u ∷ us)) + own u ≡ U (u ∷ us) + own (change u)
  at-first change u us apart =
      let there : own (numbered u.name.number change u) ≡ own (change u) = ap own (cond-true (u.name.number == u.name.number) (change u) u (eq-eqb u.name.number u.name.number refl)) in
      let rest = others-same u.name.number change us (λ v is_in same. apart.0 v is_in (sym same)) in
      omega (arith, there, rest)

  at-later : (change : Turn K V E → Turn K V E) (u : Turn K V E) (us : List (Turn K V E)) (t : Turn K V E) → AreApart (u ∷ us) → IsIn t us → U (map (numbered t.name.number change) us) + own t ≡ U us + own (change t)
      → U (map (numbered t.name.number change) (u ∷ us)) + own t ≡ U (u ∷ us) + own (change t)
  at-later change u us t apart later rest =
      let kept : own (numbered t.name.number change u) ≡ own u = ap own (cond-false (u.name.number == t.name.number) (change u) u (ne_eqb u.name.number t.name.number (apart.0 t later))) in
      omega (arith, kept, rest)

  -- of turns with numbers of their own one is changed
  one-changed : (change : Turn K V E → Turn K V E) (ts : List (Turn K V E)) (t : Turn K V E) → AreApart ts → IsIn t ts → U (map (numbered t.name.number change) ts) + own t ≡ U ts + own (change t)
  one-changed change [] t apart is = absurd is
  one-changed change (u ∷ us) t apart is =
      ⊎_elim
      (λ here. subst (λ v. U (map (numbered v.name.number change) (u ∷ us)) + own v ≡ U (u ∷ us) + own (change v)) here (at-first change u us apart))
      (λ later. at-later change u us t apart later (one-changed change us t apart.1 later)) is

  -- one that waits gets a ticket, of the name of the turn
  waited-more : (t : Turn K V E) → own (waited_for t) ≡ own t + one eq name t.name
  waited-more t = go (same_name eq t.name name)
    where
      go : (b : Bool) → ◌≡◌ {A = ℕ} (if b then t.unspent + 1 else 0) ((if b then t.unspent else 0) + (if b then 1 else 0))
      go true = refl
      go false = refl

  spent-less : (t : Turn K V E) → has_ticket t ≡ true → own (spent t) + one eq name t.name ≡ own t
  spent-less t has = go (same_name eq t.name name)
    where
      go : (b : Bool) → ◌≡◌ {A = ℕ} ((if b then t.unspent - 1 else 0) + (if b then 1 else 0)) (if b then t.unspent else 0)
      go true = let some = leb-true 1 t.unspent has in omega (arith, some)
      go false = omega arith

  module _ (laws : IsEquivalence eq) where
    module _ (settings : Settings K V) (ds : List (AcceptedStep K V E)) (apart : AreApart (turns ds)) where
      -- What a call gets and what was unspent is what it spends and what is unspent then.
      abbrev Matched : Call K V E → Accepted K V E → Type 0
      Matched call it = got_by eq name it.reply + U (turns ds) ≡ spent_by eq name call it.reply + U (moved_by it.step.move (turns ds))

      abbrev IsMatched : Call K V E → Option (Accepted K V E) → Type 0
      IsMatched call None = Unit {0}
      IsMatched call (Some it) = Matched call it

      waits-matched : (t : Turn K V E) (k : K) → IsIn t (turns ds) → eq t.name.key k ≡ true → one eq name (record t.name { key = k }) + U (turns ds) ≡ 0 + U (map (numbered t.name.number waited_for) (turns ds))
      waits-matched t k is alike =
          let moved = one-changed waited_for (turns ds) t apart is in
          let more = waited-more t in
          let ticket = same-ticket eq name laws t.name k alike in
          omega (arith, moved, more, ticket)

      open-key : (kind : Kind) (k : K) (t : Turn K V E) → is_open_for eq kind k t ≡ true → eq t.name.key k ≡ true
      open-key kind k t is = (and_parts (same_kind t.name.kind kind) (eq t.name.key k) (and_parts (is_open t) (is_for eq kind k t) is).1).1

      begun-matched : (k : K) (kind : Kind) (replace : Option Bool) (at : ℕ) (w : Option (Write K V)) (o : Option (Turn K V E)) → found (is_open_for eq kind k) (turns ds) ≡ o
          → got_by eq name (begun eq settings (events_in ds) k kind replace at w o).reply + U (turns ds) ≡ 0 + U (moved_by (begun eq settings (events_in ds) k kind replace at w o).step.move (turns ds))
      begun-matched k kind replace at (Some w) o is = refl
      begun-matched k kind replace at None (Some t) is = let found_it = found-is (is_open_for eq kind k) (turns ds) t is in waits-matched t k found_it.0 (open-key kind k t found_it.1)
      begun-matched k kind replace at None None is = let same = opened-same (turns ds) (new_name eq settings (events_in ds) kind k) false None in omega (arith, same)

      computes-matched : (k : K) (keep : Bool) (at : ℕ) (o : Option (Turn K V E)) → found (is_open_for eq Compute k) (turns ds) ≡ o
          → got_by eq name (begun_compute eq settings (events_in ds) k keep at o).reply + U (turns ds) ≡ 0 + U (moved_by (begun_compute eq settings (events_in ds) k keep at o).step.move (turns ds))
      computes-matched k keep at (Some t) is = let found_it = found-is (is_open_for eq Compute k) (turns ds) t is in waits-matched t k found_it.0 (open-key Compute k t found_it.1)
      computes-matched k keep at None is =
          let live = live_at eq settings k at (events_in ds) in
          let same = opened-same (turns ds) (new_name eq settings (events_in ds) Compute k) (is_some live) (if keep then option_map (λ w. w.value) live else None) in omega (arith, same)

      inserts-matched : (k : K) (v : V) (at : ℕ) (w : Option (Write K V)) → Matched (OrInsert k v at) (or_inserted eq settings (events_in ds) k v at w)
      inserts-matched k v at (Some w) = refl
      inserts-matched k v at None = refl

      put-none : (called : Name K) (v : V) (shown : Bool) → got_by {E = E} eq name (put_by called v shown) ≡ 0
      put-none called v true = refl
      put-none called v false = refl

      removed-none : (called : Name K) (o : Option (Write K V)) → got_by {E = E} eq name (removed_by called o) ≡ 0
      removed-none called None = refl
      removed-none called (Some w) = refl

      kept-none : (called : Name K) (o : Option V) → got_by {E = E} eq name (kept_by called o) ≡ 0
      kept-none called None = refl
      kept-none called (Some v) = refl

      -- a finish gives no ticket, and changes none
      finish-none : (t : Turn K V E) (at : ℕ) (outcome : Outcome V E) (called : Name K) → got_by eq name (reply_of_finish eq settings (events_in ds) t at outcome called) ≡ 0
      finish-none t at (outcomes.Value v) called = refl
      finish-none t at outcomes.Nothing called = refl
      finish-none t at (outcomes.Failed e) called = refl
      finish-none t at (outcomes.Op (ops.Put v)) called = put-none called v t.shown
      finish-none t at (outcomes.Op ops.Remove) called = removed-none called (live_at eq settings called.key at (events_in ds))
      finish-none t at (outcomes.Op ops.Nop) called = kept-none called t.kept

      finish-matched : (called : Name K) (outcome : Outcome V E) (at : ℕ) (t : Turn K V E) → Matched (Finish called outcome at) (finished eq settings (events_in ds) called outcome at t)
      finish-matched called outcome at t =
          let none = finish-none t at outcome called in
          let same = ended-same (turns ds) t.name.number (end_by outcome (is_replacing eq settings (events_in ds) called.key at)) in
          omega (arith, none, same)

      abandon-matched : (called : Name K) (t : Turn K V E) → Matched (Abandon called) (abandons t.name.number)
      abandon-matched called t = let same = ended-same (turns ds) t.name.number turning.Abandoned in omega (arith, same)

      spends-matched : (called : Name K) (t : Turn K V E) → IsIn t (turns ds) × (has_ticket_as eq called t ≡ true) → U (turns ds) ≡ one eq name called + U (map (numbered t.name.number spent) (turns ds))
      spends-matched called t is =
          let both = and_parts (has_ticket t) (same_name eq t.name called) is.1 in
          let moved = one-changed spent (turns ds) t apart is.0 in
          let less = spent-less t both.0 in
          let ticket = same-one eq name laws t.name called both.1 in
          omega (arith, moved, less, ticket)

      collect-matched : (called : Name K) (t : Turn K V E) → IsIn t (turns ds) × (has_ticket_as eq called t ≡ true) → (end : Option (End V E)) → Matched (Collect called) (collected called t.name.number end)
      collect-matched called t is None = refl
      collect-matched called t is (Some (turning.Value v replaced)) = let spends_it = spends-matched called t is in omega (arith, spends_it)
      collect-matched called t is (Some turning.Nothing) = let spends_it = spends-matched called t is in omega (arith, spends_it)
      collect-matched called t is (Some (turning.Failed e)) = let spends_it = spends-matched called t is in omega (arith, spends_it)
      collect-matched called t is (Some turning.Computed) = let spends_it = spends-matched called t is in omega (arith, spends_it)
      collect-matched called t is (Some turning.Abandoned) = let spends_it = spends-matched called t is in omega (arith, spends_it)

      leave-matched : (called : Name K) (t : Turn K V E) → IsIn t (turns ds) × (has_ticket_as eq called t ≡ true) → Matched (Leave called) (spends t.name.number)
      leave-matched called t is = let spends_it = spends-matched called t is in omega (arith, spends_it)

      each-matched : (call : Call K V E) (test : Turn K V E → Bool) (make : Turn K V E → Accepted K V E) → ((t : Turn K V E) → IsIn t (turns ds) × (test t ≡ true) → Matched call (make t))
          → (o : Option (Turn K V E)) → found test (turns ds) ≡ o → IsMatched call (option_map make o)
      each-matched call test make each None is = tt
      each-matched call test make each (Some t) is = each t (found-is test (turns ds) t is)

      call-matched : (call : Call K V E) → IsMatched call (accepted eq settings ds call)
      call-matched (Get k at) = refl
      call-matched (ContainsKey k at) = refl
      call-matched (Insert k v at) = refl
      call-matched (Invalidate k at) = refl
      call-matched (Remove k at) = refl
      call-matched InvalidateAll = refl
      call-matched (InvalidateIf test) = cond_both settings.supports_closures (Some (without_move Done (Hidden test ∷ []))) None (IsMatched (InvalidateIf test)) (λ _. refl) (λ _. tt)
      call-matched (RunPendingTasks at) = refl
      call-matched (RunPendingTasksUpTo limit at) = refl
      call-matched EntryCount = refl
      call-matched WeightedSize = refl
      call-matched TakeNotice = refl
      call-matched (OrInsert k v at) = inserts-matched k v at (live_at eq settings k at (events_in ds))
      call-matched (Begin k With replace at) = begun-matched k With replace at (acceptable replace (live_at eq settings k at (events_in ds))) (found (is_open_for eq With k) (turns ds)) refl
      call-matched (Begin k Optionally replace at) = begun-matched k Optionally replace at (acceptable replace (live_at eq settings k at (events_in ds))) (found (is_open_for eq Optionally k) (turns ds)) refl
      call-matched (Begin k Try replace at) = begun-matched k Try replace at (acceptable replace (live_at eq settings k at (events_in ds))) (found (is_open_for eq Try k) (turns ds)) refl
      call-matched (Begin k Compute replace at) = computes-matched k false at (found (is_open_for eq Compute k) (turns ds)) refl
      call-matched (BeginCompute k keep at) = computes-matched k keep at (found (is_open_for eq Compute k) (turns ds)) refl
      call-matched (Finish called outcome at) =
          cond_both (fits called.kind outcome) (option_map (finished eq settings (events_in ds) called outcome at) (found (is_open_as eq called) (turns ds))) None (IsMatched (Finish called outcome at))
          (λ _. each-matched (Finish called outcome at) (is_open_as eq called) (finished eq settings (events_in ds) called outcome at) (λ t is. finish-matched called outcome at t) (found (is_open_as eq called) (turns ds)) refl)
          (λ _. tt)
      call-matched (Abandon called) = each-matched (Abandon called) (is_open_as eq called) (λ t. abandons t.name.number) (λ t is. abandon-matched called t) (found (is_open_as eq called) (turns ds)) refl
      call-matched (Collect called) = each-matched (Collect called) (has_ticket_as eq called) (λ t. collected called t.name.number t.end) (λ t is. collect-matched called t is t.end) (found (has_ticket_as eq called) (turns ds)) refl
      call-matched (Leave called) = each-matched (Leave called) (has_ticket_as eq called) (λ t. spends t.name.number) (λ t is. leave-matched called t is) (found (has_ticket_as eq called) (turns ds)) refl

module _ {K V E : Type 0} (eq : K → K → Bool) (settings : Settings K V) where
  made-legal : (made : List (Made K V E)) → AreMade eq settings made → IsLegal eq settings (steps_made made)
  made-legal [] are = tt
  made-legal (one ∷ made) are = ((one.call, one.it, are.0, refl), made-legal made are.1)

  pub named_match : IsEquivalence eq → (name : Name K) (made : List (Made K V E)) → AreMade eq settings made → tickets_got eq name made ≡ tickets_spent eq name made + unspent_of eq name (turns (steps_made made))
  named_match laws name [] are = refl
  named_match laws name (one ∷ made) are =
      let ds = steps_made made in
      let apart = turns-apart eq settings ds (legal-fit eq settings ds (made-legal made are.1)) in
      let this = subst (IsMatched eq name laws settings ds apart one.call) are.0 (call-matched eq name laws settings ds apart one.call) in
      let rest = named_match laws name made are.1 in
      omega (arith, this, rest)
