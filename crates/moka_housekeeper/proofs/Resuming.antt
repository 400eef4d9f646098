-- Parts that are done within a limit, one after another. Doing what is left, from the table as it is now, gives what
-- doing all of them gives from the first table.
use Rattle.std.proofs.Common.{◌≡◌, ℕ, ◌+◌, ◌-◌, Bool, true, false, Option, Some, None, List, [], ◌∷◌, ◌++◌, length, map, refl, sym, ap, subst, ◌∙◌, append_assoc, length-append, arith}
use Rattle.std.proofs.lemmas.Bool.{true≢false}
use Rattle.std.proofs.lemmas.List.{append-nil, map-append}
use Rattle.moka_model.specs.declared.notification.Notice.{Notice}
use Rattle.moka_model.specs.Maintenance.{Part, done, is_left, evicted_in, after_parts}
use Rattle.moka_model.proofs.Callers.{left-exactly, done-behind, done-cut, left-behind, evicted_in-append, after_parts-append}
use Rattle.moka_rows.specs.declared.rows.Row.{Row}
use Rattle.moka_table.specs.Table.{Contents}
use Rattle.moka_housekeeper.specs.Maintain.{lets_leave, limit_less, rows_of, DoesParts}

less-less : (limit : Option ℕ) (a b : ℕ) → limit_less (limit_less limit a) b ≡ limit_less limit (a + b)
less-less None a b = refl
less-less (Some limit) a b = ap Some (let same : limit - a - b ≡ limit - (a + b) = omega arith in same)

less-none : (limit : Option ℕ) → limit_less limit 0 ≡ limit
less-none None = refl
less-none (Some limit) = ap Some (let same : limit - 0 ≡ limit = omega arith in same)

module _ {X : Type 0} where
  -- an empty list of parts is done
  done-nothing : (limit : Option ℕ) → (done {X = X} limit [] ≡ []) × (is_left {X = X} limit [] ≡ false)
  done-nothing None = (refl, refl)
  done-nothing (Some limit) = (refl, refl)

  -- a first part that the limit lets is done, and the others go on with less of it
  done-in : (limit : Option ℕ) (p : Part X) (ps : List (Part X)) → lets_leave limit (length p.evicted) ≡ true
      → (done limit (p ∷ ps) ≡ p ∷ done (limit_less limit (length p.evicted)) ps) × (is_left limit (p ∷ ps) ≡ is_left (limit_less limit (length p.evicted)) ps)
  done-in None p ps lets = (refl, refl)
  done-in (Some limit) p ps lets = (rw lets refl, rw lets refl)

  -- one that it does not let ends it
  done-out : (limit : Option ℕ) (p : Part X) (ps : List (Part X)) → lets_leave limit (length p.evicted) ≡ false
      → (done limit (p ∷ ps) ≡ []) × (is_left limit (p ∷ ps) ≡ true)
  done-out None p ps stops = absurd (true≢false stops)
  done-out (Some limit) p ps stops = (rw stops refl, rw stops refl)

  -- after parts that are all done
  all-behind : (limit : Option ℕ) (ps rs : List (Part X)) → is_left limit ps ≡ false
      → (done limit ps ≡ ps) × (done limit (ps ++ rs) ≡ ps ++ done (limit_less limit (length (evicted_in ps))) rs)
      × (is_left limit (ps ++ rs) ≡ is_left (limit_less limit (length (evicted_in ps))) rs)
  all-behind None ps rs all = (refl, refl, refl)
  all-behind (Some limit) ps rs all = ((left-exactly limit ps).0 all, done-behind limit ps rs all, left-behind limit ps rs all)

  -- after parts of which one is left undone
  cut-behind : (limit : Option ℕ) (ps rs : List (Part X)) → is_left limit ps ≡ true
      → (done limit (ps ++ rs) ≡ done limit ps) × (is_left limit (ps ++ rs) ≡ true)
  cut-behind None ps rs cut = absurd (true≢false (sym cut))
  cut-behind (Some limit) ps rs cut = done-cut limit ps rs cut

module _ {K V : Type 0} (notice : ℕ × Row K V → Notice K V) (limit0 : Option ℕ) (ps0 : List (Part (ℕ × Row K V))) (old : Contents K V) where
  -- Doing these parts from this table, within the rest of the limit, gives what doing all gives from the first table.
  pub record Resumes (limit : Option ℕ) (ps : List (Part (ℕ × Row K V))) (table : Contents K V) : Type 0 where
    pub orders : after_parts (rows_of table) (done limit ps) ≡ after_parts (rows_of old) (done limit0 ps0)
    pub notices : table.notices ++ map notice (evicted_in (done limit ps)) ≡ old.notices ++ map notice (evicted_in (done limit0 ps0))
    pub rest_is : limit_less limit (length (evicted_in (done limit ps))) ≡ limit_less limit0 (length (evicted_in (done limit0 ps0)))
    pub left : is_left limit ps ≡ is_left limit0 ps0

  -- where none is left
  pub resumes-end : (limit : Option ℕ) (table : Contents K V) → Resumes limit [] table → DoesParts notice limit0 ps0 old table limit false
  resumes-end limit table on =
      let none = done-nothing {X = ℕ × Row K V} limit in
      record {
        orders = ap (after_parts (rows_of table)) (sym none.0) ∙ on.orders;
        notices = sym (append-nil table.notices) ∙ ap (λ l. table.notices ++ map notice (evicted_in l)) (sym none.0) ∙ on.notices;
        rest_is = sym (less-none limit) ∙ ap (λ l. limit_less limit (length (evicted_in l))) (sym none.0) ∙ on.rest_is;
        left = sym none.1 ∙ on.left;
      }

  module _ (limit : Option ℕ) (p : Part (ℕ × Row K V)) (ps : List (Part (ℕ × Row K V))) (table : Contents K V) (on : Resumes limit (p ∷ ps) table) where
    -- where the limit does not let the first
    pub resumes-cut : lets_leave limit (length p.evicted) ≡ false → DoesParts notice limit0 ps0 old table limit true
    resumes-cut stops =
        let out = done-out limit p ps stops in
        record {
          orders = ap (after_parts (rows_of table)) (sym out.0) ∙ on.orders;
          notices = sym (append-nil table.notices) ∙ ap (λ l. table.notices ++ map notice (evicted_in l)) (sym out.0) ∙ on.notices;
          rest_is = sym (less-none limit) ∙ ap (λ l. limit_less limit (length (evicted_in l))) (sym out.0) ∙ on.rest_is;
          left = sym out.1 ∙ on.left;
        }

    -- where it does, and the first is done
    pub resumes-over : lets_leave limit (length p.evicted) ≡ true → (new : Contents K V) → rows_of new ≡ p.after → new.notices ≡ table.notices ++ map notice p.evicted
        → (rest : Option ℕ) → rest ≡ limit_less limit (length p.evicted) → Resumes rest ps new
    resumes-over lets new after noticed rest is =
        let it = done-in limit p ps lets in
        let less : Option ℕ = limit_less limit (length p.evicted) in
        record {
          orders = ap (λ q. after_parts q (done rest ps)) after ∙ ap (λ l. after_parts p.after (done l ps)) is ∙ ap (after_parts (rows_of table)) (sym it.0) ∙ on.orders;
          notices = ap (λ l. l ++ map notice (evicted_in (done rest ps))) noticed
              ∙ append_assoc table.notices (map notice p.evicted) (map notice (evicted_in (done rest ps)))
              ∙ ap (λ l. table.notices ++ l) (sym (map-append notice p.evicted (evicted_in (done rest ps))))
              ∙ ap (λ l. table.notices ++ map notice (p.evicted ++ evicted_in (done l ps))) is
              ∙ ap (λ l. table.notices ++ map notice (evicted_in l)) (sym it.0) ∙ on.notices;
          rest_is = ap (λ l. limit_less l (length (evicted_in (done l ps)))) is
              ∙ less-less limit (length p.evicted) (length (evicted_in (done less ps)))
              ∙ ap (limit_less limit) (sym (length-append p.evicted (evicted_in (done less ps))))
              ∙ ap (λ l. limit_less limit (length (evicted_in l))) (sym it.0) ∙ on.rest_is;
          left = ap (λ l. is_left l ps) is ∙ sym it.1 ∙ on.left;
        }

  module _ (limit : Option ℕ) (ps rs : List (Part (ℕ × Row K V))) (table : Contents K V) (on : Resumes limit (ps ++ rs) table) (new : Contents K V) (rest : Option ℕ) where
    -- where the first parts are all done
    pub resumes-behind : DoesParts notice limit ps table new rest false → Resumes rest rs new
    resumes-behind did =
        let all = all-behind limit ps rs (sym did.left) in
        let less : Option ℕ = limit_less limit (length (evicted_in ps)) in
        let is : rest ≡ less = did.rest_is ∙ ap (λ l. limit_less limit (length (evicted_in l))) all.0 in
        record {
          orders = ap (λ q. after_parts q (done rest rs)) (did.orders ∙ ap (after_parts (rows_of table)) all.0)
              ∙ ap (λ l. after_parts (after_parts (rows_of table) ps) (done l rs)) is
              ∙ sym (after_parts-append (rows_of table) ps (done less rs))
              ∙ ap (after_parts (rows_of table)) (sym all.1) ∙ on.orders;
          notices = ap (λ l. l ++ map notice (evicted_in (done rest rs))) (did.notices ∙ ap (λ l. table.notices ++ map notice (evicted_in l)) all.0)
              ∙ append_assoc table.notices (map notice (evicted_in ps)) (map notice (evicted_in (done rest rs)))
              ∙ ap (λ l. table.notices ++ l) (sym (map-append notice (evicted_in ps) (evicted_in (done rest rs))))
              ∙ ap (λ l. table.notices ++ map notice l) (sym (evicted_in-append ps (done rest rs)))
              ∙ ap (λ l. table.notices ++ map notice (evicted_in (ps ++ done l rs))) is
              ∙ ap (λ l. table.notices ++ map notice (evicted_in l)) (sym all.1) ∙ on.notices;
          rest_is = ap (λ l. limit_less l (length (evicted_in (done l rs)))) is
              ∙ less-less limit (length (evicted_in ps)) (length (evicted_in (done less rs)))
              ∙ ap (limit_less limit) (sym (length-append (evicted_in ps) (evicted_in (done less rs))))
              ∙ ap (λ l. limit_less limit (length l)) (sym (evicted_in-append ps (done less rs)))
              ∙ ap (λ l. limit_less limit (length (evicted_in l))) (sym all.1) ∙ on.rest_is;
          left = ap (λ l. is_left l rs) is ∙ sym all.2 ∙ on.left;
        }

    -- where one of them is left
    pub resumes-within : DoesParts notice limit ps table new rest true → DoesParts notice limit0 ps0 old new rest true
    resumes-within did =
        let cut = cut-behind limit ps rs (sym did.left) in
        record {
          orders = did.orders ∙ ap (after_parts (rows_of table)) (sym cut.0) ∙ on.orders;
          notices = did.notices ∙ ap (λ l. table.notices ++ map notice (evicted_in l)) (sym cut.0) ∙ on.notices;
          rest_is = did.rest_is ∙ ap (λ l. limit_less limit (length (evicted_in l))) (sym cut.0) ∙ on.rest_is;
          left = sym cut.1 ∙ on.left;
        }

  -- doing the last parts completes the phase
  pub resumes-last : (limit : Option ℕ) (ps : List (Part (ℕ × Row K V))) (table new : Contents K V) (rest : Option ℕ) (is_cut : Bool)
      → Resumes limit ps table → DoesParts notice limit ps table new rest is_cut → DoesParts notice limit0 ps0 old new rest is_cut
  resumes-last limit ps table new rest is_cut on did = record {
    orders = did.orders ∙ on.orders;
    notices = did.notices ∙ on.notices;
    rest_is = did.rest_is ∙ on.rest_is;
    left = did.left ∙ on.left;
  }

-- before any part is done
pub resumes-first : {K V : Type 0} (notice : ℕ × Row K V → Notice K V) (limit : Option ℕ) (ps : List (Part (ℕ × Row K V))) (old : Contents K V) → Resumes notice limit ps old limit ps old
resumes-first notice limit ps old = record { orders = refl; notices = refl; rest_is = refl; left = refl }

-- a phase, with other notices of the rows that it removes
pub does-noticed : {K V : Type 0} (notice other : ℕ × Row K V → Notice K V) (limit : Option ℕ) (ps : List (Part (ℕ × Row K V))) (old new : Contents K V) (rest : Option ℕ) (is_cut : Bool)
    → map notice (evicted_in (done limit ps)) ≡ map other (evicted_in (done limit ps)) → DoesParts notice limit ps old new rest is_cut → DoesParts other limit ps old new rest is_cut
does-noticed notice other limit ps old new rest is_cut same did = record {
  orders = did.orders;
  notices = did.notices ∙ ap (λ l. old.notices ++ l) same;
  rest_is = did.rest_is;
  left = did.left;
}

-- the rows after a phase that is not cut
pub does-after : {K V : Type 0} (notice : ℕ × Row K V → Notice K V) (limit : Option ℕ) (ps : List (Part (ℕ × Row K V))) (old new : Contents K V) (rest : Option ℕ)
    → DoesParts notice limit ps old new rest false → rows_of new ≡ after_parts (rows_of old) ps
does-after notice limit ps old new rest did = did.orders ∙ ap (after_parts (rows_of old)) (all-behind limit ps [] (sym did.left)).0

-- A phase of one part is done where the limit lets it, and else it is cut.
module _ {K V : Type 0} (notice : ℕ × Row K V → Notice K V) (limit : Option ℕ) (p : Part (ℕ × Row K V)) (old : Contents K V) (rest : Option ℕ) where
  pub does-one : lets_leave limit (length p.evicted) ≡ true → rest ≡ limit_less limit (length p.evicted) → (new : Contents K V) → rows_of new ≡ p.after → new.notices ≡ old.notices ++ map notice p.evicted
      → DoesParts notice limit (p ∷ []) old new rest false
  does-one lets is new after noticed =
      resumes-end notice limit (p ∷ []) old rest new (resumes-over notice limit (p ∷ []) old limit p [] old (resumes-first notice limit (p ∷ []) old) lets new after noticed rest is)

  pub does-not : lets_leave limit (length p.evicted) ≡ false → rest ≡ limit → DoesParts notice limit (p ∷ []) old old rest true
  does-not stops is =
      subst (λ l. DoesParts notice limit (p ∷ []) old old l true) (sym is)
      (resumes-cut notice limit (p ∷ []) old limit p [] old (resumes-first notice limit (p ∷ []) old) stops)
