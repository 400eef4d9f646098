-- What stands for a key, by the places of the events that wrote and removed it.
use Rattle.std.proofs.Common.{◌≡◌, ◌↔◌, ◌⊎◌, inl, inr, ⊎_elim, ℕ, max, Bool, true, false, ◌&&◌, ◌||◌, if◌then◌else◌, Option, Some, None, List, [], ◌∷◌, ◌++◌, refl, sym, ap, ◌∙◌, subst, arith, append-nil, is_some}
use Rattle.std.specs.Option.{option_map}
use Rattle.std.proofs.lemmas.Bool.{cond-true, cond_both, cases_Bool, true≢false}
use Rattle.moka_model.specs.Lives.{Settings, Write, is_live, live_one, hit, after_look, after_write, hidden_by}
use Rattle.moka_model.specs.Events.{Event, Looked, TurnedDown, Written, Invalidated, Hidden, Maintained, Passed, Drawn, Taken, latest}
use Rattle.moka_model.specs.Orders.{is_evicted, standing}
use Rattle.moka_model.specs.Steps.{AcceptedStep, events_in}
use Rattle.moka_model.specs.Calls.{Reply, Get, ContainsKey, Found, Contains}
use Rattle.moka_laws.specs.Laws.{reply, writes, ends, removes, IsUnwritten, IsUnremoved, IsUntouched, LastWrite, FirstEnd, LastRemoval, NothingStands, FirstWrite, up_to_write, hits, hides, greatest, IsAsWritten}

module _ {K V : Type 0} (eq : K → K → Bool) (settings : Settings K V) (k : K) where
  -- one more event that does not write or remove the key
  LastWrite-more : (e : Event K V) (h : List (Event K V)) → ends eq settings k e h ≡ false → LastWrite eq settings k h → LastWrite eq settings k (e ∷ h)
  LastWrite-more e h apart last = record {
    later = e ∷ last.later;
    key = last.key;
    value = last.value;
    at = last.at;
    before = last.before;
    place = ap (λ es. e ∷ es) last.place;
    same_key = last.same_key;
    untouched = (subst (λ es. ends eq settings k e es ≡ false) last.place apart, last.untouched);
  }

  -- one more event that does not write the key
  NothingStands-more : (e : Event K V) (h : List (Event K V)) → writes eq k e ≡ false → NothingStands eq settings k h → NothingStands eq settings k (e ∷ h)
  NothingStands-more e h apart (inl unwritten) = inl (apart, unwritten)
  NothingStands-more e h apart (inr gone) = inr (record { later = e ∷ gone.later; event = gone.event; before = gone.before; place = ap (λ es. e ∷ es) gone.place; removes_it = gone.removes_it; unwritten = (apart, gone.unwritten) })

  -- one more event that does not remove the key
  FirstWrite-more : (e : Event K V) (h : List (Event K V)) → removes eq settings k e h ≡ false → FirstWrite eq settings k h → FirstWrite eq settings k (e ∷ h)
  FirstWrite-more e h apart first = record {
    later = e ∷ first.later;
    key = first.key;
    value = first.value;
    at = first.at;
    before = first.before;
    place = ap (λ es. e ∷ es) first.place;
    same_key = first.same_key;
    absent = first.absent;
    kept = (subst (λ es. removes eq settings k e es ≡ false) first.place apart, first.kept);
  }

  -- a removal as the newest event
  LastRemoval-here : (e : Event K V) (h : List (Event K V)) → removes eq settings k e h ≡ true → LastRemoval eq settings k (e ∷ h)
  LastRemoval-here e h removes_it = record { later = []; event = e; before = h; place = refl; removes_it = removes_it; unwritten = tt }

  -- one more event that neither writes nor removes the key
  last-more : (e : Event K V) (h : List (Event K V)) → ends eq settings k e h ≡ false → writes eq k e ≡ false → LastWrite eq settings k h ⊎ NothingStands eq settings k h → LastWrite eq settings k (e ∷ h) ⊎ NothingStands eq settings k (e ∷ h)
  last-more e h apart unwritten was = ⊎_elim (λ last. inl (LastWrite-more e h apart last)) (λ none. inr (NothingStands-more e h unwritten none)) was

  first-more : (e : Event K V) (h : List (Event K V)) → removes eq settings k e h ≡ false → writes eq k e ≡ false → FirstWrite eq settings k h ⊎ NothingStands eq settings k h → FirstWrite eq settings k (e ∷ h) ⊎ NothingStands eq settings k (e ∷ h)
  first-more e h kept unwritten was = ⊎_elim (λ first. inl (FirstWrite-more e h kept first)) (λ none. inr (NothingStands-more e h unwritten none)) was

  -- one more event that may remove the key
  last-removed : (e : Event K V) (h : List (Event K V)) → (removes eq settings k e h ≡ false → ends eq settings k e h ≡ false) → writes eq k e ≡ false → LastWrite eq settings k h ⊎ NothingStands eq settings k h → LastWrite eq settings k (e ∷ h) ⊎ NothingStands eq settings k (e ∷ h)
  last-removed e h alike unwritten was = ⊎_elim (λ gone. inr (inr (LastRemoval-here e h gone))) (λ apart. last-more e h (alike apart) unwritten was) (cases_Bool (removes eq settings k e h))

  first-removed : (e : Event K V) (h : List (Event K V)) → writes eq k e ≡ false → FirstWrite eq settings k h ⊎ NothingStands eq settings k h → FirstWrite eq settings k (e ∷ h) ⊎ NothingStands eq settings k (e ∷ h)
  first-removed e h unwritten was = ⊎_elim (λ gone. inr (inr (LastRemoval-here e h gone))) (λ kept. first-more e h kept unwritten was) (cases_Bool (removes eq settings k e h))

  -- either there is a last write, or nothing stands
  pub last_or_nothing : (h : List (Event K V)) → LastWrite eq settings k h ⊎ NothingStands eq settings k h
  last_or_nothing [] = inr (inl tt)
  last_or_nothing (Looked q at ∷ h) = last-more (Looked q at) h refl refl (last_or_nothing h)
  last_or_nothing (TurnedDown q at ∷ h) = last-more (TurnedDown q at) h refl refl (last_or_nothing h)
  last_or_nothing (Written q v at ∷ h) =
      ⊎_elim
      (λ same. inl (record { later = []; key = q; value = v; at = at; before = h; place = refl; same_key = same; untouched = tt }))
      (λ apart. last-more (Written q v at) h apart apart (last_or_nothing h))
      (cases_Bool (eq q k))
  last_or_nothing (Invalidated q at ∷ h) = last-removed (Invalidated q at) h (λ e. e) refl (last_or_nothing h)
  last_or_nothing (Hidden test ∷ h) = last-more (Hidden test) h refl refl (last_or_nothing h)
  last_or_nothing (Maintained limit at ∷ h) = last-removed (Maintained limit at) h (λ e. e) refl (last_or_nothing h)
  last_or_nothing (Passed at ∷ h) = last-more (Passed at) h refl refl (last_or_nothing h)
  last_or_nothing (Drawn ∷ h) = last-more Drawn h refl refl (last_or_nothing h)
  last_or_nothing (Taken ∷ h) = last-more Taken h refl refl (last_or_nothing h)

  -- either there is a first write, or nothing stands
  pub first_or_nothing : (h : List (Event K V)) → FirstWrite eq settings k h ⊎ NothingStands eq settings k h
  first_or_nothing [] = inr (inl tt)
  first_or_nothing (Looked q at ∷ h) = first-more (Looked q at) h refl refl (first_or_nothing h)
  first_or_nothing (TurnedDown q at ∷ h) = first-more (TurnedDown q at) h refl refl (first_or_nothing h)
  first_or_nothing (Written q v at ∷ h) =
      ⊎_elim
      (λ first. inl (FirstWrite-more (Written q v at) h refl first))
      (λ none. ⊎_elim (λ same. inl (record { later = []; key = q; value = v; at = at; before = h; place = refl; same_key = same; absent = none; kept = tt })) (λ apart. inr (NothingStands-more (Written q v at) h apart none)) (cases_Bool (eq q k)))
      (first_or_nothing h)
  first_or_nothing (Invalidated q at ∷ h) = first-removed (Invalidated q at) h refl (first_or_nothing h)
  first_or_nothing (Hidden test ∷ h) = first-more (Hidden test) h refl refl (first_or_nothing h)
  first_or_nothing (Maintained limit at ∷ h) = first-removed (Maintained limit at) h refl (first_or_nothing h)
  first_or_nothing (Passed at ∷ h) = first-more (Passed at) h refl refl (first_or_nothing h)
  first_or_nothing (Drawn ∷ h) = first-more Drawn h refl refl (first_or_nothing h)
  first_or_nothing (Taken ∷ h) = first-more Taken h refl refl (first_or_nothing h)

module _ {K V : Type 0} (eq : K → K → Bool) (settings : Settings K V) (k : K) where
  -- two places of events that end a key, with nothing later that does, are one place
  place_unique : (later₁ later₂ before₁ before₂ : List (Event K V)) (e₁ e₂ : Event K V) → ends eq settings k e₁ before₁ ≡ true → ends eq settings k e₂ before₂ ≡ true
      → IsUntouched eq settings k later₁ (e₁ ∷ before₁) → IsUntouched eq settings k later₂ (e₂ ∷ before₂)
      → later₁ ++ e₁ ∷ before₁ ≡ later₂ ++ e₂ ∷ before₂ → (later₁ ≡ later₂) × ((e₁ ∷ before₁) ≡ (e₂ ∷ before₂))
  place_unique [] [] before₁ before₂ e₁ e₂ t₁ t₂ u₁ u₂ same = (refl, same)
  place_unique [] (d ∷ later₂) before₁ before₂ e₁ e₂ t₁ t₂ u₁ u₂ same =
      let it : e₁ ≡ d = cc in
      let rest : before₁ ≡ later₂ ++ e₂ ∷ before₂ = cc in
      absurd (true≢false (sym t₁ ∙ ap (λ e. ends eq settings k e before₁) it ∙ ap (ends eq settings k d) rest ∙ u₂.0))
  place_unique (d ∷ later₁) [] before₁ before₂ e₁ e₂ t₁ t₂ u₁ u₂ same =
      let it : e₂ ≡ d = cc in
      let rest : before₂ ≡ later₁ ++ e₁ ∷ before₁ = cc in
      absurd (true≢false (sym t₂ ∙ ap (λ e. ends eq settings k e before₂) it ∙ ap (ends eq settings k d) rest ∙ u₁.0))
  place_unique (d₁ ∷ later₁) (d₂ ∷ later₂) before₁ before₂ e₁ e₂ t₁ t₂ u₁ u₂ same =
      let heads : d₁ ≡ d₂ = cc in
      let rest = place_unique later₁ later₂ before₁ before₂ e₁ e₂ t₁ t₂ u₁.1 u₂.1 (cc) in
      let tails : later₁ ≡ later₂ = rest.0 in
      (cc, rest.1)

  -- there is one place of the last write
  pub LastWrite-one_place : (h : List (Event K V)) (a b : LastWrite eq settings k h) → (a.later ≡ b.later) × (up_to_write a ≡ up_to_write b)
  LastWrite-one_place h a b = place_unique a.later b.later a.before b.before (Written a.key a.value a.at) (Written b.key b.value b.at) a.same_key b.same_key a.untouched b.untouched (sym a.place ∙ b.place)

  module _ (h : List (Event K V)) where
    -- some events leave a key untouched, or there is a first one that writes or removes it
    pub untouched_or_ended : (those : List (Event K V)) → IsUntouched eq settings k those h ⊎ FirstEnd eq settings k those h
    untouched_or_ended [] = inl tt
    untouched_or_ended (e ∷ those) =
        ⊎_elim
        (λ untouched. ⊎_elim
        (λ ended. inr (record { later = []; event = e; before = those; place = refl; ends_it = ended; untouched = untouched }))
        (λ apart. inl (apart, untouched))
        (cases_Bool (ends eq settings k e (those ++ h))))
        (λ first. inr (record { later = e ∷ first.later; event = first.event; before = first.before; place = ap (λ es. e ∷ es) first.place; ends_it = first.ends_it; untouched = first.untouched }))
        (untouched_or_ended those)

    -- none of a row that leaves a key untouched ends it
    untouched_within : (later before : List (Event K V)) (e : Event K V) → IsUntouched eq settings k (later ++ e ∷ before) h → ends eq settings k e (before ++ h) ≡ false
    untouched_within [] before e u = u.0
    untouched_within (d ∷ later) before e u = untouched_within later before e u.1

    -- two first ends of a row are one
    first_end_unique : (later₁ later₂ before₁ before₂ : List (Event K V)) (e₁ e₂ : Event K V) → ends eq settings k e₁ (before₁ ++ h) ≡ true → ends eq settings k e₂ (before₂ ++ h) ≡ true
        → IsUntouched eq settings k before₁ h → IsUntouched eq settings k before₂ h
        → later₁ ++ e₁ ∷ before₁ ≡ later₂ ++ e₂ ∷ before₂ → (later₁ ≡ later₂) × ((e₁ ∷ before₁) ≡ (e₂ ∷ before₂))
    first_end_unique [] [] before₁ before₂ e₁ e₂ t₁ t₂ u₁ u₂ same = (refl, same)
    first_end_unique [] (d ∷ later₂) before₁ before₂ e₁ e₂ t₁ t₂ u₁ u₂ same = let rest : before₁ ≡ later₂ ++ e₂ ∷ before₂ = cc in absurd (true≢false (sym t₂ ∙ untouched_within later₂ before₂ e₂ (subst (λ es. IsUntouched eq settings k es h) rest u₁)))
    first_end_unique (d ∷ later₁) [] before₁ before₂ e₁ e₂ t₁ t₂ u₁ u₂ same = let rest : before₂ ≡ later₁ ++ e₁ ∷ before₁ = cc in absurd (true≢false (sym t₁ ∙ untouched_within later₁ before₁ e₁ (subst (λ es. IsUntouched eq settings k es h) rest u₂)))
    first_end_unique (d₁ ∷ later₁) (d₂ ∷ later₂) before₁ before₂ e₁ e₂ t₁ t₂ u₁ u₂ same =
        let heads : d₁ ≡ d₂ = cc in
        let rest = first_end_unique later₁ later₂ before₁ before₂ e₁ e₂ t₁ t₂ u₁ u₂ (cc) in
        let tails : later₁ ≡ later₂ = rest.0 in
        (cc, rest.1)

    -- there is one place of the first end
    pub FirstEnd-one_place : (those : List (Event K V)) (a b : FirstEnd eq settings k those h) → (a.later ≡ b.later) × ((a.event ∷ a.before) ≡ (b.event ∷ b.before))
    FirstEnd-one_place those a b = first_end_unique a.later b.later a.before b.before a.event b.event a.ends_it b.ends_it a.untouched b.untouched (sym a.place ∙ b.place)

-- a choice between two of the same
if_same : {A : Type 0} (t : Bool) (x : A) → (if t then x else x) ≡ x
if_same true x = refl
if_same false x = refl

module _ {K V : Type 0} (eq : K → K → Bool) (settings : Settings K V) (k : K) where
  -- where nothing stood and nothing was written, nothing stands
  standing_unwritten : (later before : List (Event K V)) → IsUnwritten eq k later → standing eq settings k before ≡ None → standing eq settings k (later ++ before) ≡ None
  standing_unwritten [] before u none = none
  standing_unwritten (Looked q at ∷ later) before u none = rw (standing_unwritten later before u.1 none) (if_same (eq q k) None)
  standing_unwritten (TurnedDown q at ∷ later) before u none = standing_unwritten later before u.1 none
  standing_unwritten (Written q v at ∷ later) before u none = rw (u.0) (standing_unwritten later before u.1 none)
  standing_unwritten (Invalidated q at ∷ later) before u none = rw (standing_unwritten later before u.1 none) (if_same (eq q k) None)
  standing_unwritten (Hidden test ∷ later) before u none = ap (option_map (hidden_by test)) (standing_unwritten later before u.1 none)
  standing_unwritten (Maintained limit at ∷ later) before u none = rw (standing_unwritten later before u.1 none) (if_same (is_evicted eq settings k limit at (later ++ before)) None)
  standing_unwritten (Passed at ∷ later) before u none = standing_unwritten later before u.1 none
  standing_unwritten (Drawn ∷ later) before u none = standing_unwritten later before u.1 none
  standing_unwritten (Taken ∷ later) before u none = standing_unwritten later before u.1 none

  -- where an event removes the key nothing stands
  standing-removed : (e : Event K V) (before : List (Event K V)) → removes eq settings k e before ≡ true → standing eq settings k (e ∷ before) ≡ None
  standing-removed (Looked q at) before gone = absurd (true≢false (sym gone))
  standing-removed (TurnedDown q at) before gone = absurd (true≢false (sym gone))
  standing-removed (Written q v at) before gone = absurd (true≢false (sym gone))
  standing-removed (Invalidated q at) before gone = cond-true (eq q k) None (standing eq settings k before) gone
  standing-removed (Hidden test) before gone = absurd (true≢false (sym gone))
  standing-removed (Maintained limit at) before gone = cond-true (is_evicted eq settings k limit at before) None (standing eq settings k before) gone
  standing-removed (Passed at) before gone = absurd (true≢false (sym gone))
  standing-removed Drawn before gone = absurd (true≢false (sym gone))
  standing-removed Taken before gone = absurd (true≢false (sym gone))

  -- where no write has come, or the last was removed, nothing stands
  pub standing-nothing : (h : List (Event K V)) → NothingStands eq settings k h → standing eq settings k h ≡ None
  standing-nothing h (inl unwritten) = rw append-nil at (standing_unwritten h [] unwritten refl)
  standing-nothing h (inr gone) =
      ap (standing eq settings k) gone.place ∙ standing_unwritten gone.later (gone.event ∷ gone.before) gone.unwritten (standing-removed gone.event gone.before gone.removes_it)

  module _ (v : V) (weight written : ℕ) where
    -- what stands has this value and weight, was written at this moment, used at the greatest of it and the hits, and is
    -- hidden where an event since hid it
    abbrev IsFrom : Option (Write K V) → List ℕ → (K → V → Bool) → Type 0
    IsFrom None used hidden = ⊥
    IsFrom (Some w) used hidden = (w.value ≡ v) × (w.policy_weight ≡ weight) × (w.last_modified ≡ written) × (w.last_accessed ≡ max written (greatest used)) × (w.is_hidden ≡ hidden w.key w.value)

    -- a look at the key, or at another
    IsFrom-look : (t : Bool) (at : ℕ) (o : Option (Write K V)) (used : List ℕ) (hidden : K → V → Bool) → IsFrom o used hidden → IsFrom (if t then option_map (after_look settings at) o else o) (if t && is_some (live_one settings at o) then at ∷ used else used) hidden
    IsFrom-look false at o used hidden from = from
    IsFrom-look true at None used hidden from = absurd from
    IsFrom-look true at (Some w) used hidden from = go (is_live settings w at)
      where
        go : (live : Bool) → IsFrom (Some (if live then hit settings at w else w)) (if is_some (if live then Some w else None) then at ∷ used else used) hidden
        go true = (from.0, from.1, from.2, (let e = from.3 in omega arith), from.4)
        go false = from

    -- a hiding
    IsFrom-hidden : (test : K → V → Bool) (o : Option (Write K V)) (used : List ℕ) (hidden : K → V → Bool) → IsFrom o used hidden → IsFrom (option_map (hidden_by test) o) used (λ key value. hidden key value || test key value)
    IsFrom-hidden test None used hidden from = absurd from
    IsFrom-hidden test (Some w) used hidden from = (from.0, from.1, from.2, from.3, ap (λ t. t || test w.key w.value) from.4)

  -- what stands for a key from a place where it was written on
  standing_from : (q : K) (v : V) (at : ℕ) (before later : List (Event K V)) → eq q k ≡ true → IsUntouched eq settings k later (Written q v at ∷ before)
      → IsFrom v (settings.behaviour.weight q v) (latest (Written q v at ∷ before)) (standing eq settings k (later ++ Written q v at ∷ before)) (hits eq settings k later (Written q v at ∷ before)) (λ key value. hides key value later)
  standing_from q v at before [] same u = rw same (at_write (standing eq settings k before))
    where
      at_write : (o : Option (Write K V)) → IsFrom v (settings.behaviour.weight q v) (latest (Written q v at ∷ before)) (Some (after_write settings q v (latest (Written q v at ∷ before)) o)) [] (λ key value. false)
      at_write None = (refl, refl, refl, omega arith, refl)
      at_write (Some w) = (refl, refl, refl, omega arith, refl)
  standing_from q v at before (Looked p t ∷ later) same u =
      IsFrom-look v (settings.behaviour.weight q v) (latest (Written q v at ∷ before)) (eq p k) (latest (Looked p t ∷ later ++ Written q v at ∷ before)) (standing eq settings k (later ++ Written q v at ∷ before)) (hits eq settings k later (Written q v at ∷ before)) (λ key value. hides key value later) (standing_from q v at before later same u.1)
  standing_from q v at before (TurnedDown p t ∷ later) same u = standing_from q v at before later same u.1
  standing_from q v at before (Written p x t ∷ later) same u = rw (u.0) (standing_from q v at before later same u.1)
  standing_from q v at before (Invalidated p t ∷ later) same u = rw (u.0) (standing_from q v at before later same u.1)
  standing_from q v at before (Hidden test ∷ later) same u = IsFrom-hidden v (settings.behaviour.weight q v) (latest (Written q v at ∷ before)) test (standing eq settings k (later ++ Written q v at ∷ before)) (hits eq settings k later (Written q v at ∷ before)) (λ key value. hides key value later) (standing_from q v at before later same u.1)
  standing_from q v at before (Maintained limit t ∷ later) same u = rw (u.0) (standing_from q v at before later same u.1)
  standing_from q v at before (Passed t ∷ later) same u = standing_from q v at before later same u.1
  standing_from q v at before (Drawn ∷ later) same u = standing_from q v at before later same u.1
  standing_from q v at before (Taken ∷ later) same u = standing_from q v at before later same u.1

  -- so the last write stands
  pub last_write_stands : (h : List (Event K V)) (last : LastWrite eq settings k h) → (w : Write K V) × (standing eq settings k h ≡ Some w) × IsAsWritten last w
  last_write_stands h last = go (standing eq settings k h) refl (rw (last.place) (standing_from last.key last.value last.at last.before last.later last.same_key last.untouched))
    where
      go : (o : Option (Write K V)) → standing eq settings k h ≡ o → IsFrom last.value (settings.behaviour.weight last.key last.value) (latest (up_to_write last)) o (hits eq settings k last.later (up_to_write last)) (λ key value. hides key value last.later) → (w : Write K V) × (standing eq settings k h ≡ Some w) × IsAsWritten last w
      go None is from = absurd from
      go (Some w) is from = (w, is, record { value = from.0; weight = from.1; written = from.2; used = from.3; hidden = from.4 })

  -- and nothing else does
  pub only_the_last_write : (h : List (Event K V)) (w : Write K V) → standing eq settings k h ≡ Some w → (last : LastWrite eq settings k h) × IsAsWritten last w
  only_the_last_write h w stands = ⊎_elim there (λ none. let gone = standing-nothing h none in absurd (cc)) (last_or_nothing eq settings k h)
    where
      there : LastWrite eq settings k h → (last : LastWrite eq settings k h) × IsAsWritten last w
      there last =
          let (u, is, as_written) = last_write_stands h last in
          let same : u ≡ w = cc in
          (last, subst (λ (x : Write K V). IsAsWritten last x) same as_written)

  -- nothing stands exactly where no write has come, or the last was removed
  pub nothing_stands : (h : List (Event K V)) → (standing eq settings k h ≡ None) ↔ NothingStands eq settings k h
  nothing_stands h = (λ none. ⊎_elim (λ last. let stands = last_write_stands h last in let is = stands.1 in absurd (cc)) (λ n. n) (last_or_nothing eq settings k h), standing-nothing h)

  -- the write is stored under this key
  abbrev IsUnder : K → Option (Write K V) → Type 0
  IsUnder key None = ⊥
  IsUnder key (Some w) = w.key ≡ key

  -- a look keeps the stored key
  IsUnder-look : (key : K) (t : Bool) (at : ℕ) (o : Option (Write K V)) → IsUnder key o → IsUnder key (if t then option_map (after_look settings at) o else o)
  IsUnder-look key false at o under = under
  IsUnder-look key true at None under = absurd under
  IsUnder-look key true at (Some w) under = cond_both (is_live settings w at) (hit settings at w) w (λ (u : Write K V). u.key ≡ key) (λ _. under) (λ _. under)

  -- so does a hiding
  IsUnder-hidden : (key : K) (test : K → V → Bool) (o : Option (Write K V)) → IsUnder key o → IsUnder key (option_map (hidden_by test) o)
  IsUnder-hidden key test None under = absurd under
  IsUnder-hidden key test (Some w) under = under

  -- so does a write
  IsUnder-write : (key : K) (t : Bool) (p : K) (x : V) (at : ℕ) (o : Option (Write K V)) → IsUnder key o → IsUnder key (if t then Some (after_write settings p x at o) else o)
  IsUnder-write key false p x at o under = under
  IsUnder-write key true p x at None under = absurd under
  IsUnder-write key true p x at (Some w) under = under

  -- a key is stored under that of the write that found it not stored, until it is removed
  stored_from : (q : K) (v : V) (at : ℕ) (before later : List (Event K V)) → eq q k ≡ true → standing eq settings k before ≡ None → IsUnremoved eq settings k later (Written q v at ∷ before)
      → IsUnder q (standing eq settings k (later ++ Written q v at ∷ before))
  stored_from q v at before [] same none u = rw (same, none) refl
  stored_from q v at before (Looked p t ∷ later) same none u = IsUnder-look q (eq p k) (latest (Looked p t ∷ later ++ Written q v at ∷ before)) (standing eq settings k (later ++ Written q v at ∷ before)) (stored_from q v at before later same none u.1)
  stored_from q v at before (TurnedDown p t ∷ later) same none u = stored_from q v at before later same none u.1
  stored_from q v at before (Written p x t ∷ later) same none u = IsUnder-write q (eq p k) p x (latest (Written p x t ∷ later ++ Written q v at ∷ before)) (standing eq settings k (later ++ Written q v at ∷ before)) (stored_from q v at before later same none u.1)
  stored_from q v at before (Invalidated p t ∷ later) same none u = rw (u.0) (stored_from q v at before later same none u.1)
  stored_from q v at before (Hidden test ∷ later) same none u = IsUnder-hidden q test (standing eq settings k (later ++ Written q v at ∷ before)) (stored_from q v at before later same none u.1)
  stored_from q v at before (Maintained limit t ∷ later) same none u = rw (u.0) (stored_from q v at before later same none u.1)
  stored_from q v at before (Passed t ∷ later) same none u = stored_from q v at before later same none u.1
  stored_from q v at before (Drawn ∷ later) same none u = stored_from q v at before later same none u.1
  stored_from q v at before (Taken ∷ later) same none u = stored_from q v at before later same none u.1

  -- so what stands is stored under the first write's key
  pub stored_under_first_write : (h : List (Event K V)) (first : FirstWrite eq settings k h) → (w : Write K V) × (standing eq settings k h ≡ Some w) × (w.key ≡ first.key)
  stored_under_first_write h first = go (standing eq settings k h) refl (rw (first.place) (stored_from first.key first.value first.at first.before first.later first.same_key (standing-nothing first.before first.absent) first.kept))
    where
      go : (o : Option (Write K V)) → standing eq settings k h ≡ o → IsUnder first.key o → (w : Write K V) × (standing eq settings k h ≡ Some w) × (w.key ≡ first.key)
      go None is under = absurd under
      go (Some w) is under = (w, is, under)

  -- and there is a first write for all that stands
  pub first_write_of : (h : List (Event K V)) (w : Write K V) → standing eq settings k h ≡ Some w → (first : FirstWrite eq settings k h) × (w.key ≡ first.key)
  first_write_of h w stands = ⊎_elim there (λ none. let gone = standing-nothing h none in absurd (cc)) (first_or_nothing eq settings k h)
    where
      there : FirstWrite eq settings k h → (first : FirstWrite eq settings k h) × (w.key ≡ first.key)
      there first =
          let (u, is, under) = stored_under_first_write h first in
          let same : u ≡ w = cc in
          (first, ap (λ (x : Write K V). x.key) (sym same) ∙ under)

  module _ {E : Type 0} (steps : List (AcceptedStep K V E)) (at : ℕ) where
    -- a lookup returns the value of the last write until it is dead
    pub answer_last_write : (last : LastWrite eq settings k (events_in steps)) → (w : Write K V) × IsAsWritten last w
        × (reply eq settings (Get k at) steps ≡ Some (Found (if is_live settings w (max (latest (events_in steps)) at) then Some last.value else None)))
        × (reply eq settings (ContainsKey k at) steps ≡ Some (Contains (is_live settings w (max (latest (events_in steps)) at))))
    answer_last_write last =
        let (w, stands, as_written) = last_write_stands (events_in steps) last in
        (w, as_written, rw stands (found (is_live settings w (max (latest (events_in steps)) at)) w as_written.value), rw stands (contained (is_live settings w (max (latest (events_in steps)) at)) w))
      where
        found : (t : Bool) (w : Write K V) → w.value ≡ last.value → ◌≡◌ {A = Option (Reply K V E)} (Some (Found (option_map (λ (u : Write K V). u.value) (if t then Some w else None)))) (Some (Found (if t then Some last.value else None)))
        found true w value = ap (λ v. Some (Found (Some v))) value
        found false w value = refl

        contained : (t : Bool) (w : Write K V) → ◌≡◌ {A = Option (Reply K V E)} (Some (Contains (is_some (if t then Some w else None)))) (Some (Contains t))
        contained true w = refl
        contained false w = refl

    -- where nothing stands a lookup returns none
    pub reply-nothing : NothingStands eq settings k (events_in steps) → (reply eq settings (Get k at) steps ≡ Some (Found None)) × (reply eq settings (ContainsKey k at) steps ≡ Some (Contains false))
    reply-nothing none = (rw (standing-nothing (events_in steps) none), rw (standing-nothing (events_in steps) none))
