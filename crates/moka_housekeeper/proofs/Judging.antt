-- What a judgement of the waiting rows finds and does, row by row.
use Rattle.std.proofs.Common.{◌≡◌, ℕ, suc, ◌+◌, ◌*◌, ◌≤◌, true, false, Option, Some, None, List, [], ◌∷◌, ◌++◌, length, refl, sym, ap, ◌∙◌, arith, length-append}
use Rattle.std.proofs.lemmas.Bool.{cond-false}
use Rattle.moka_model.specs.Maintenance.{total, fits, front}
use Rattle.moka_model.proofs.Callers.{total-append, front-fits}
use Rattle.moka_rows.specs.declared.rows.Row.{Row}
use Rattle.moka_rows.specs.Rows.{first_number}
use Rattle.moka_table.specs.Table.{weight_of}
use Rattle.moka_housekeeper.specs.Maintain.{is_within, frequencies}
use Rattle.moka_table.proofs.Callers.{Walks, AtCursor, walks-first, walks-on}

module _ {K V : Type 0} where
  -- more fits beside some rows where their weight and it are within the capacity
  pub fits-within : (capacity : Option ℕ) (more : ℕ) (rows : List (ℕ × Row K V)) → fits weight_of capacity more rows ≡ is_within capacity (more + total weight_of rows)
  fits-within None more rows = refl
  fits-within (Some c) more rows = refl

  -- a cursor that is at no row is behind the last
  pub none-left : (rest : List (ℕ × Row K V)) → None ≡ first_number rest → rest ≡ []
  none-left [] e = refl
  none-left (p ∷ ps) e = cc

  module _ (capacity : Option ℕ) (more : ℕ) where
    -- The victims on their way: so many are counted as were passed, and what the rest weighs, and how many of it would
    -- have to leave, is known.
    pub record Frees (rows : List (ℕ × Row K V)) (cursor : Option ℕ) (weight count : ℕ) (passed rest : List (ℕ × Row K V)) : Type 0 where
      pub walks : Walks rows cursor passed rest
      pub counted : count ≡ length passed
      pub weight_is : weight ≡ total weight_of rest
      pub front_is : count + front weight_of capacity more rest ≡ front weight_of capacity more rows

    pub frees-first : (rows : List (ℕ × Row K V)) (cursor : Option ℕ) (weight : ℕ) → cursor ≡ first_number rows → weight ≡ total weight_of rows → Frees rows cursor weight 0 [] rows
    frees-first rows cursor weight first is = record { walks = walks-first rows cursor first; counted = refl; weight_is = is; front_is = omega arith }

    module _ (rows : List (ℕ × Row K V)) (weight count : ℕ) (passed rest : List (ℕ × Row K V)) where
      -- where the rest fits, so many are enough
      pub frees-enough : (cursor : Option ℕ) → Frees rows cursor weight count passed rest → is_within capacity (more + weight) ≡ true → count ≡ front weight_of capacity more rows
      frees-enough cursor frees enough =
          let fit = fits-within capacity more rest ∙ ap (λ w. is_within capacity (more + w)) (sym frees.weight_is) ∙ enough in
          let none = front-fits weight_of capacity more rest fit in
          let whole = frees.front_is in
          omega arith

      -- where all are passed, all have to leave
      pub frees-all : (cursor : Option ℕ) → Frees rows cursor weight count passed rest → length rows ≤ count → length rows ≡ front weight_of capacity more rows
      frees-all cursor frees all = go rest refl
        where
          lengths : length rows ≡ length passed + length rest
          lengths = ap length frees.walks.whole ∙ length-append passed rest

          go : (r : List (ℕ × Row K V)) → rest ≡ r → length rows ≡ front weight_of capacity more rows
          go [] is =
              let none : front weight_of capacity more rest ≡ 0 = ap (front weight_of capacity more) is in
              let whole = frees.front_is in
              let counted = frees.counted in
              let nothing : length rest ≡ 0 = ap length is in
              omega (arith, lengths)
          go (p ∷ ps) is =
              let counted = frees.counted in
              let some : length rest ≡ suc (length ps) = ap length is in
              absurd (omega (arith, lengths))

      -- before that there is one more
      pub frees-more : Frees rows None weight count passed rest → length rows ≤ count
      frees-more frees =
          let nothing : length rest ≡ 0 = ap length (none-left rest frees.walks.cursor_at) in
          let lengths = ap length frees.walks.whole ∙ length-append passed rest in
          let counted = frees.counted in
          omega (arith, lengths)

      module _ (n : ℕ) (frees : Frees rows (Some n) weight count passed rest) (row : Row K V) (next : Option ℕ) (back : List (ℕ × Row K V)) (here : AtCursor rows passed rest n row next back) where
        rest-weighs : total weight_of rest ≡ row.info.policy_weight + total weight_of back
        rest-weighs = ap (total weight_of) here.rest_is

        -- it is no heavier than all that are left
        pub frees-le : row.info.policy_weight ≤ weight
        frees-le = let is = frees.weight_is in omega (arith, rest-weighs)

        -- and it is one more victim where the rest does not fit
        pub frees-on : (weight' : ℕ) → weight' + row.info.policy_weight ≡ weight → is_within capacity (more + weight) ≡ false → Frees rows next weight' (count + 1) (passed ++ (n, row) ∷ []) back
        frees-on weight' is not_enough =
            let no_fit : fits weight_of capacity more ((n, row) ∷ back) ≡ false = ap (fits weight_of capacity more) (sym here.rest_is) ∙ fits-within capacity more rest ∙ ap (λ w. is_within capacity (more + w)) (sym frees.weight_is) ∙ not_enough in
            let one_more : front weight_of capacity more rest ≡ front weight_of capacity more back + 1 = ap (front weight_of capacity more) here.rest_is ∙ cond-false (fits weight_of capacity more ((n, row) ∷ back)) 0 (front weight_of capacity more back + 1) no_fit in
            let longer = length-append passed ((n, row) ∷ []) in
            let counted = frees.counted in
            let weighs = frees.weight_is in
            let whole = frees.front_is in
            record {
              walks = walks-on rows passed rest n row next back here;
              counted = omega (arith, longer);
              weight_is = omega (arith, rest-weighs);
              front_is = omega (arith, one_more);
            }

  module _ (frequency_of : ℕ → ℕ) where
    frequencies-push : (rows : List (ℕ × Row K V)) (p : ℕ × Row K V) → frequencies frequency_of (rows ++ p ∷ []) ≡ frequencies frequency_of rows + frequency_of p.1.hash
    frequencies-push rows p = let parts = total-append (λ (q : ℕ × Row K V). frequency_of q.1.hash) rows (p ∷ []) in omega arith

    -- The frequencies of the first rows on their way: those of the passed are added up, each of them one of 8 bits.
    pub record Adds (rows : List (ℕ × Row K V)) (cursor : Option ℕ) (sum count : ℕ) (passed rest : List (ℕ × Row K V)) : Type 0 where
      pub walks : Walks rows cursor passed rest
      pub counted : count ≡ length passed
      pub sum_is : sum ≡ frequencies frequency_of passed
      pub small : sum ≤ count * 255

    module _ (rows : List (ℕ × Row K V)) (sum count : ℕ) (passed rest : List (ℕ × Row K V)) where
      pub adds-on : (n : ℕ) → Adds rows (Some n) sum count passed rest → (row : Row K V) (next : Option ℕ) (back : List (ℕ × Row K V)) → AtCursor rows passed rest n row next back
          → (more : ℕ) → more ≡ frequency_of row.hash → more ≤ 255 → Adds rows next (sum + more) (count + 1) (passed ++ (n, row) ∷ []) back
      adds-on n adds row next back here more is few =
          let longer = length-append passed ((n, row) ∷ []) in
          let pushed = frequencies-push passed (n, row) in
          let counted = adds.counted in
          let sum_was = adds.sum_is in
          let small = adds.small in
          record {
            walks = walks-on rows passed rest n row next back here;
            counted = omega (arith, longer);
            sum_is = omega (arith, pushed, is);
            small = omega arith;
          }
