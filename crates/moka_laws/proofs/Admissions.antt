-- What a maintenance does with one write that waits alone.
use Rattle.std.proofs.Common.{◌≡◌, ◌⊎◌, ◌↔◌, inl, inr, ⊎_elim, ℕ, ◌+◌, ◌<◌, ◌≤◌, ◌||◌, Bool, true, false, cond, nat_le, Some, None, List, [], ◌∷◌, ◌++◌, sym, ap, ◌∙◌, append-nil, arith}
use Rattle.std.specs.List.{list_any}
use Rattle.std.specs.Cmp.{IsEquivalence}
use Rattle.std.proofs.lemmas.Bool.{true≢false, cases_Bool, leb-true, leb-false, le-leb, lt-leb, or_left, or_right}
use Rattle.moka_model.specs.Maintenance.{Queues, Part, parts, evicted_in, after_parts}
use Rattle.moka_model.specs.MaintenanceLaws.{queues as two_queues}
use Rattle.moka_model.specs.Lives.{Settings, Write, is_live}
use Rattle.moka_model.specs.Events.{Event, Maintained, latest}
use Rattle.moka_model.specs.Admission.{frequency, wins}
use Rattle.moka_model.specs.Orders.{orders, standing}
use Rattle.moka_model.specs.OrderLaws.{writes_of, is_admitted}
use Rattle.moka_model.specs.SizeLaws.{gone}
use Rattle.moka_laws.specs.AdmissionLaws.{victim_count, victims, others, admitted_weight, frequencies, WaitsAlone}
use Rattle.moka_model.proofs.Callers.{list_any-filtered, alone, admitting, dropping, held-append, held-orders}
use Rattle.moka_laws.proofs.MaintenanceJudged.{parts-too_heavy, parts-room, parts-wins, parts-loses}

-- a test that an element passes finds it behind others
list_any-last : {A : Type 0} (p : A → Bool) (xs : List A) (x : A) → p x ≡ true → list_any p (xs ++ x ∷ []) ≡ true
list_any-last p [] x is = or_left (p x) false is
list_any-last p (y ∷ xs) x is = or_right (p y) (list_any p (xs ++ x ∷ [])) (list_any-last p xs x is)

module _ {K V : Type 0} (eq : K → K → Bool) (settings : Settings K V) (at : ℕ) (h : List (Event K V)) (capacity : ℕ) (w : Write K V) (waits : WaitsAlone eq settings at h capacity w) where
  abbrev q : Queues (Write K V)
  q = orders eq settings h

  abbrev weight_of : Write K V → ℕ
  weight_of u = u.policy_weight

  abbrev lives_now : Write K V → Bool
  lives_now u = is_live settings u (latest (Maintained None at ∷ h))

  abbrev wins_now : Write K V → List (Write K V) → Bool
  wins_now = wins settings (frequency settings h)

  -- the parts of the maintenance
  abbrev parts_of : List (Part (Write K V))
  parts_of = parts weight_of (Some capacity) lives_now wins_now (two_queues q.admitted (w ∷ []))

  -- say what leaves and what stands
  by_parts : (ps : List (Part (Write K V))) → parts_of ≡ ps → (gone eq settings at h ≡ evicted_in ps) × (orders eq settings (Maintained None at ∷ h) ≡ after_parts (two_queues q.admitted (w ∷ [])) ps)
  by_parts ps is =
      let both : q ≡ two_queues q.admitted (w ∷ []) = ap (λ ws. two_queues q.admitted ws) waits.alone in
      let same : parts weight_of settings.max_capacity lives_now wins_now q ≡ ps = ap (λ m. parts weight_of m lives_now wins_now q) waits.capacity_is ∙ ap (parts weight_of (Some capacity) lives_now wins_now) both ∙ is in
      (ap evicted_in same, ap (after_parts q) same ∙ ap (λ r. after_parts r ps) both)

  pub alone-room : w.policy_weight + admitted_weight eq settings h capacity ≤ capacity → (gone eq settings at h ≡ []) × (orders eq settings (Maintained None at ∷ h) ≡ two_queues (q.admitted ++ w ∷ []) [])
  alone-room room = by_parts (admitting 0 q.admitted w [] ∷ []) (parts-room weight_of capacity lives_now wins_now q.admitted w waits.all_live room)

  pub alone-too_heavy : capacity < w.policy_weight → (gone eq settings at h ≡ w ∷ []) × (orders eq settings (Maintained None at ∷ h) ≡ two_queues q.admitted [])
  alone-too_heavy heavy = by_parts (dropping q.admitted w [] ∷ []) (parts-too_heavy weight_of capacity lives_now wins_now q.admitted w waits.all_live waits.within heavy)

  -- where it wins its victims leave
  alone-wins : w.policy_weight ≤ capacity → wins_now w (victims eq settings h capacity w) ≡ true → (gone eq settings at h ≡ victims eq settings h capacity w) × (orders eq settings (Maintained None at ∷ h) ≡ two_queues (others eq settings h capacity w ++ w ∷ []) [])
  alone-wins light wins_it =
      let both = by_parts (admitting (victim_count eq settings h capacity w) q.admitted w [] ∷ []) (parts-wins weight_of capacity lives_now wins_now q.admitted w waits.all_live waits.within light wins_it) in
      (both.0 ∙ append-nil (victims eq settings h capacity w), both.1)

  -- so it does under least recently used
  pub alone-lru : settings.behaviour.is_lru ≡ true → w.policy_weight ≤ capacity → (gone eq settings at h ≡ victims eq settings h capacity w) × (orders eq settings (Maintained None at ∷ h) ≡ two_queues (others eq settings h capacity w ++ w ∷ []) [])
  alone-lru lru light = alone-wins light (or_left settings.behaviour.is_lru (nat_le (frequencies settings h (victims eq settings h capacity w) + 1) (frequency settings h w.hash)) lru)

  -- and under TinyLFU with a greater frequency,
  pub alone-greater : w.policy_weight ≤ capacity → frequencies settings h (victims eq settings h capacity w) < frequency settings h w.hash
      → (gone eq settings at h ≡ victims eq settings h capacity w) × (orders eq settings (Maintained None at ∷ h) ≡ two_queues (others eq settings h capacity w ++ w ∷ []) [])
  alone-greater light greater =
      let theirs : ℕ = frequencies settings h (victims eq settings h capacity w) in
      alone-wins light (or_right settings.behaviour.is_lru (nat_le (theirs + 1) (frequency settings h w.hash)) (le-leb (theirs + 1) (frequency settings h w.hash) (omega arith)))

  -- and with no greater one it leaves itself
  pub alone-loses : settings.behaviour.is_lru ≡ false → capacity < w.policy_weight + admitted_weight eq settings h capacity → frequency settings h w.hash ≤ frequencies settings h (victims eq settings h capacity w)
      → (gone eq settings at h ≡ w ∷ []) × (orders eq settings (Maintained None at ∷ h) ≡ two_queues q.admitted [])
  alone-loses tiny full no_greater =
      let theirs : ℕ = frequencies settings h (victims eq settings h capacity w) in
      let loses_it : wins_now w (victims eq settings h capacity w) ≡ false = ap (λ t. t || nat_le (theirs + 1) (frequency settings h w.hash)) tiny ∙ lt-leb (theirs + 1) (frequency settings h w.hash) (omega arith) in
      by_parts (dropping q.admitted w [] ∷ []) (parts-loses weight_of capacity lives_now wins_now q.admitted w waits.all_live waits.within full loses_it)

  module _ (laws : IsEquivalence eq) where
    -- the key is not admitted before
    not_before : list_any (λ u. eq u.key w.key) q.admitted ≡ false
    not_before =
        let here : writes_of eq w.key q.waiting ≡ w ∷ [] = ap (writes_of eq w.key) waits.alone ∙ ap (λ t. cond t (w ∷ []) []) (laws.refl w.key) in
        let around : writes_of eq w.key q.admitted ++ w ∷ [] ≡ _ = ap (λ ws. writes_of eq w.key q.admitted ++ ws) (sym here) ∙ sym (held-append eq settings w.key q) ∙ held-orders eq settings laws w.key h in
        list_any-filtered (λ u. eq u.key w.key) q.admitted (alone (writes_of eq w.key q.admitted) [] w (standing eq settings w.key h) around).0

    not_after : orders eq settings (Maintained None at ∷ h) ≡ two_queues q.admitted [] → is_admitted eq settings (Maintained None at ∷ h) w.key ≡ false
    not_after is = ap (λ (r : Queues (Write K V)). list_any (λ u. eq u.key w.key) r.admitted) is ∙ not_before

    is_after : (ws : List (Write K V)) → orders eq settings (Maintained None at ∷ h) ≡ two_queues (ws ++ w ∷ []) [] → is_admitted eq settings (Maintained None at ∷ h) w.key ≡ true
    is_after ws is = ap (λ (r : Queues (Write K V)). list_any (λ u. eq u.key w.key) r.admitted) is ∙ list_any-last (λ u. eq u.key w.key) ws w (laws.refl w.key)

    -- so it is admitted just where there is room, or where it has the greater frequency
    pub admitted-exactly : settings.behaviour.is_lru ≡ false
        → (is_admitted eq settings (Maintained None at ∷ h) w.key ≡ true) ↔ ((w.policy_weight + admitted_weight eq settings h capacity ≤ capacity) ⊎ ((w.policy_weight ≤ capacity) × (frequencies settings h (victims eq settings h capacity w) < frequency settings h w.hash)))
    admitted-exactly tiny = (to, from)
      where
        to : is_admitted eq settings (Maintained None at ∷ h) w.key ≡ true → (w.policy_weight + admitted_weight eq settings h capacity ≤ capacity) ⊎ ((w.policy_weight ≤ capacity) × (frequencies settings h (victims eq settings h capacity w) < frequency settings h w.hash))
        to admitted =
            ⊎_elim
            (λ room. inl (leb-true (w.policy_weight + admitted_weight eq settings h capacity) capacity room))
            (λ full.
            let over : capacity < w.policy_weight + admitted_weight eq settings h capacity = leb-false (w.policy_weight + admitted_weight eq settings h capacity) capacity full in
            ⊎_elim
            (λ no_greater. absurd (true≢false (sym admitted ∙ not_after (alone-loses tiny over (leb-true (frequency settings h w.hash) (frequencies settings h (victims eq settings h capacity w)) no_greater)).1)))
            (λ greater.
            ⊎_elim
            (λ light. inr (leb-true w.policy_weight capacity light, leb-false (frequency settings h w.hash) (frequencies settings h (victims eq settings h capacity w)) greater))
            (λ heavy. absurd (true≢false (sym admitted ∙ not_after (alone-too_heavy (leb-false w.policy_weight capacity heavy)).1)))
            (cases_Bool (nat_le w.policy_weight capacity)))
            (cases_Bool (nat_le (frequency settings h w.hash) (frequencies settings h (victims eq settings h capacity w)))))
            (cases_Bool (nat_le (w.policy_weight + admitted_weight eq settings h capacity) capacity))

        from : (w.policy_weight + admitted_weight eq settings h capacity ≤ capacity) ⊎ ((w.policy_weight ≤ capacity) × (frequencies settings h (victims eq settings h capacity w) < frequency settings h w.hash)) → is_admitted eq settings (Maintained None at ∷ h) w.key ≡ true
        from (inl room) = is_after q.admitted (alone-room room).1
        from (inr greater) = is_after (others eq settings h capacity w) (alone-greater greater.0 greater.1).1
