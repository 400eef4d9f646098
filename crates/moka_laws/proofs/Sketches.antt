-- Sketches that age.
use Rattle.std.proofs.Common.{◌≡◌, ◌≢◌, ℕ, zero, suc, ◌+◌, ◌*◌, ◌/◌, ◌%◌, ◌<◌, ◌≤◌, Bool, true, false, nat_eq, cond, List, [], ◌∷◌, ◌++◌, length, filter, replicate, min, get_or, reverse, fold, arith, ◌∙◌, ap, sym, refl, length-set, mod-eq_of_lt, add-one, add-zero}
use Rattle.std.proofs.Math.Nat.{add-mod, mul-le-mul_right, le_trans}
use Rattle.std.proofs.lemmas.Bool.{eq-eqb, ne_eqb, eqb-true, eqb-false, cond-true, cond-false, cond_both}
use Rattle.std.proofs.lemmas.List.{length-map, length-replicate, get_or-map, get_or-set_other, get_or-replicate, reverse-append, reverse-reverse, length-reverse, length-append}
use Rattle.std.proofs.lemmas.List.Elements.{filter-append}
use Rattle.std.proofs.lemmas.List.Sums.{fold-append}
use Rattle.moka_policy.specs.Frequency.{Counts, counter_count, halved}
use Rattle.moka_sketch.specs.Sketch.{place, least, none_noted, count_in, counted_at, counted_in_each_row, counted, noted, estimate_after, count_with, count_after}
use Rattle.moka_sketch.proofs.Callers.{place-lt}
use Rattle.moka_laws.proofs.Counters.{counter_count_pos, counted_up, next_remainder, full_remainder, due_together, one_more}

-- a place in a row is before those in the rows behind it
places_apart : (bits i j a b : ℕ) → i < j → place bits i a < place bits j b
places_apart bits i j a b before =
    let positive = counter_count_pos bits in
    let rows : suc i * counter_count bits ≤ j * counter_count bits = mul-le-mul_right (counter_count bits) (omega arith) in
    omega (arith, rows, positive)

-- what one more note makes of the counters of a hash
module _ (bits note hash : ℕ) where
  -- a note in a row before or behind leaves a hash's counter alone
  before_it : (i j : ℕ) (counters : List ℕ) → i < j → get_or (counted_at counters (place bits i note)) (place bits j hash) 0 ≡ get_or counters (place bits j hash) 0
  before_it i j counters before = let apart = places_apart bits i j note hash before in get_or-set_other counters (place bits i note) (place bits j hash) _ 0 (λ same. absurd (omega (arith, same, apart)))

  behind_it : (i j : ℕ) (counters : List ℕ) → j < i → get_or (counted_at counters (place bits i note)) (place bits j hash) 0 ≡ get_or counters (place bits j hash) 0
  behind_it i j counters behind = let apart = places_apart bits j i hash note behind in get_or-set_other counters (place bits i note) (place bits j hash) _ 0 (λ same. absurd (omega (arith, same, apart)))

  -- in its row it counts where both use one counter
  in_row : (row : ℕ) (counters : List ℕ) → row < 4 → length counters ≡ 4 * counter_count bits
      → get_or (counted_at counters (place bits row note)) (place bits row hash) 0 ≡ count_with bits hash row note (get_or counters (place bits row hash) 0)
  in_row row counters in_rows as_many = let within = place-lt bits row note in_rows in counted_up counters (place bits row note) (place bits row hash) (omega (arith, within, as_many))

-- a note counts in each row for the hashes that use its counter there
module _ (bits note hash : ℕ) (counters : List ℕ) (as_many : length counters ≡ 4 * counter_count bits) where
  abbrev one : List ℕ
  one = counted_at counters (place bits 0 note)

  abbrev two : List ℕ
  two = counted_at one (place bits 1 note)

  abbrev three : List ℕ
  three = counted_at two (place bits 2 note)

  one-length : length one ≡ 4 * counter_count bits
  one-length = length-set counters (place bits 0 note) _ ∙ as_many

  two-length : length two ≡ 4 * counter_count bits
  two-length = length-set one (place bits 1 note) _ ∙ one-length

  three-length : length three ≡ 4 * counter_count bits
  three-length = length-set two (place bits 2 note) _ ∙ two-length

  four-length : length (counted_in_each_row bits counters note) ≡ 4 * counter_count bits
  four-length = length-set three (place bits 3 note) _ ∙ three-length

  counted_in : (row : ℕ) → row < 4 → count_in bits (counted_in_each_row bits counters note) hash row ≡ count_with bits hash row note (count_in bits counters hash row)
  counted_in zero _ = behind_it bits note hash 3 0 three (omega arith) ∙ behind_it bits note hash 2 0 two (omega arith) ∙ behind_it bits note hash 1 0 one (omega arith)
      ∙ in_row bits note hash 0 counters (omega arith) as_many
  counted_in (suc zero) _ = behind_it bits note hash 3 1 three (omega arith) ∙ behind_it bits note hash 2 1 two (omega arith) ∙ in_row bits note hash 1 one (omega arith) one-length
      ∙ ap (count_with bits hash 1 note) (before_it bits note hash 0 1 counters (omega arith))
  counted_in (suc (suc zero)) _ = behind_it bits note hash 3 2 three (omega arith) ∙ in_row bits note hash 2 two (omega arith) two-length
      ∙ ap (count_with bits hash 2 note) (before_it bits note hash 1 2 one (omega arith) ∙ before_it bits note hash 0 2 counters (omega arith))
  counted_in (suc (suc (suc zero))) _ = in_row bits note hash 3 three (omega arith) three-length
      ∙ ap (count_with bits hash 3 note) (before_it bits note hash 2 3 two (omega arith) ∙ before_it bits note hash 1 3 one (omega arith) ∙ before_it bits note hash 0 3 counters (omega arith))
  counted_in (suc (suc (suc (suc row)))) in_rows = absurd (omega (arith, in_rows))

-- what a sketch keeps of these notes, the newest first
record Keeps (bits : ℕ) (notes : List ℕ) (counts : Counts) : Type 0 where
  as_many : length counts.counters ≡ 4 * counter_count bits
  since : counts.notes ≡ length notes % (10 * counter_count bits)
  counts_are : (hash row : ℕ) → row < 4 → count_in bits counts.counters hash row ≡ count_after bits hash notes row

-- a sketch at first keeps nothing
keeps_none : (bits : ℕ) → Keeps bits [] (none_noted bits)
keeps_none bits = record {
  as_many = length-replicate (4 * counter_count bits) 0;
  since = sym (mod-eq_of_lt (let positive = counter_count_pos bits in omega (arith, positive)));
  counts_are = λ hash row in_rows. get_or-replicate (4 * counter_count bits) (place bits row hash) 0 0 (place-lt bits row hash in_rows);
}

-- halving halves each counter
count_in-aged : (bits hash row : ℕ) (counts : Counts) (is_due : Bool) → row < 4 → length counts.counters ≡ 4 * counter_count bits
    → count_in bits (cond is_due (halved counts) counts).counters hash row ≡ cond is_due (count_in bits counts.counters hash row / 2) (count_in bits counts.counters hash row)
count_in-aged bits hash row counts true in_rows as_many =
    let within = place-lt bits row hash in_rows in
    get_or-map (λ (count : ℕ). count / 2) counts.counters (place bits row hash) 0 0 (omega (arith, within, as_many))
count_in-aged bits hash row counts false in_rows as_many = refl

-- one more note is kept, where the halving comes when it is due
module _ (bits note : ℕ) (notes : List ℕ) (counts : Counts) (keeps : Keeps bits notes counts) where
  length-counted : length (counted bits counts note).counters ≡ 4 * counter_count bits
  length-counted = four-length bits note note counts.counters keeps.as_many

  counts_are-noted : (hash row : ℕ) → row < 4 → count_in bits (noted bits counts note).counters hash row ≡ count_after bits hash (note ∷ notes) row
  counts_are-noted hash row in_rows =
      let positive : 0 < 10 * counter_count bits = (let some = counter_count_pos bits in omega (arith, some)) in
      let is_due = nat_eq (counts.notes + 1) (10 * counter_count bits) in
      let count = count_with bits hash row note (count_after bits hash notes row) in
      count_in-aged bits hash row (counted bits counts note) is_due in_rows length-counted
      ∙ ap (λ c. cond is_due (c / 2) c) (counted_in bits note hash counts.counters keeps.as_many row in_rows ∙ ap (count_with bits hash row note) (keeps.counts_are hash row in_rows))
      ∙ ap (λ b. cond b (count / 2) count) (sym (due_together (length notes) (10 * counter_count bits) counts.notes positive keeps.since))

  as_many-noted : (is_due : Bool) → length (cond is_due (halved (counted bits counts note)) (counted bits counts note)).counters ≡ 4 * counter_count bits
  as_many-noted true = length-map (counted bits counts note).counters (λ (count : ℕ). count / 2) ∙ length-counted
  as_many-noted false = length-counted

  since-noted : (is_due : Bool) → nat_eq (counts.notes + 1) (10 * counter_count bits) ≡ is_due
      → (cond is_due (halved (counted bits counts note)) (counted bits counts note)).notes ≡ suc (length notes) % (10 * counter_count bits)
  since-noted true due = sym (full_remainder (length notes) (10 * counter_count bits) counts.notes keeps.since (eqb-true _ _ due))
  since-noted false not_due =
      let positive = counter_count_pos bits in
      let since = keeps.since in
      let short = eqb-false _ _ not_due in
      sym (next_remainder (length notes) (10 * counter_count bits) counts.notes keeps.since (omega arith))

  keeps_noted : Keeps bits (note ∷ notes) (noted bits counts note)
  keeps_noted = record { as_many = as_many-noted _; since = since-noted _ refl; counts_are = counts_are-noted }

-- what a sketch keeps after these notes, the newest first
keeps_all : (bits : ℕ) (notes : List ℕ) → Keeps bits notes (fold (noted bits) (none_noted bits) (reverse notes))
keeps_all bits [] = keeps_none bits
keeps_all bits (note ∷ notes) =
    let last : fold (noted bits) (none_noted bits) (reverse (note ∷ notes)) ≡ noted bits (fold (noted bits) (none_noted bits) (reverse notes)) note =
    ap (fold (noted bits) (none_noted bits)) (reverse-append (note ∷ []) notes) ∙ fold-append (noted bits) (none_noted bits) (reverse notes) (note ∷ []) in
    rw last (keeps_noted bits note notes _ (keeps_all bits notes))

-- the least of four that are the same
pub least-same : (f g : ℕ → ℕ) → ((row : ℕ) → row < 4 → f row ≡ g row) → least f ≡ least g
least-same f g same =
    let first = same 0 (omega arith) in
    let second = same 1 (omega arith) in
    let third = same 2 (omega arith) in
    let fourth = same 3 (omega arith) in
    omega (arith, first, second, third, fourth)

-- the estimate after some notes is the least of what its counters keep of them
pub estimate_after-kept : (bits hash : ℕ) (notes : List ℕ) → estimate_after bits (reverse notes) hash ≡ least (count_after bits hash notes)
estimate_after-kept bits hash notes = least-same _ _ ((keeps_all bits notes).counts_are hash)

-- and so in order
estimate_after-least : (bits hash : ℕ) (notes : List ℕ) → estimate_after bits notes hash ≡ least (count_after bits hash (reverse notes))
estimate_after-least bits hash notes = ap (λ ns. estimate_after bits ns hash) (sym (reverse-reverse notes)) ∙ estimate_after-kept bits hash (reverse notes)

estimate_after-next : (bits hash note : ℕ) (notes : List ℕ) → estimate_after bits (notes ++ note ∷ []) hash ≡ least (count_after bits hash (note ∷ reverse notes))
estimate_after-next bits hash note notes = estimate_after-least bits hash (notes ++ note ∷ []) ∙ ap (λ ns. least (count_after bits hash ns)) (reverse-append notes (note ∷ []))

-- a counter keeps at most 15
kept-le : (bits hash row : ℕ) (notes : List ℕ) → count_after bits hash notes row ≤ 15
kept-le bits hash row [] = omega arith
kept-le bits hash row (note ∷ notes) =
    let more : count_with bits hash row note (count_after bits hash notes row) ≤ 15 =
    cond_both (nat_eq (place bits row note) (place bits row hash)) _ _ (λ count. count ≤ 15) (λ _. omega arith) (λ _. kept-le bits hash row notes) in
    cond_both (nat_eq (suc (length notes) % (10 * counter_count bits)) 0) _ _ (λ count. count ≤ 15) (λ _. omega arith) (λ _. more)

pub estimate_after-le : (bits hash : ℕ) (notes : List ℕ) → estimate_after bits notes hash ≤ 15
estimate_after-le bits hash notes =
    let first = kept-le bits hash 0 (reverse notes) in
    rw (estimate_after-least bits hash notes) (omega (arith, first))

-- least of what is raised and of what is halved
lesser-raised : (a b : ℕ) → min (min (a + 1) 15) (min (b + 1) 15) ≡ min (min a b + 1) 15
lesser-raised a b = omega arith

least-raised : (f : ℕ → ℕ) → least (λ row. min (f row + 1) 15) ≡ min (least f + 1) 15
least-raised f = rw (lesser-raised (f 0) (f 1), lesser-raised (f 2) (f 3)) (lesser-raised (min (f 0) (f 1)) (min (f 2) (f 3)))

least-halved : (f : ℕ → ℕ) → least (λ row. f row / 2) ≡ least f / 2
least-halved f = omega arith

-- a note of the hash itself, where no halving is due
module _ (bits hash : ℕ) (notes : List ℕ) where
  uses_its_own : (row count : ℕ) → count_with bits hash row hash count ≡ min (count + 1) 15
  uses_its_own row count = cond-true _ _ _ (eq-eqb (place bits row hash) (place bits row hash) refl)

  raised : nat_eq (suc (length notes) % (10 * counter_count bits)) 0 ≡ false → least (count_after bits hash (hash ∷ notes)) ≡ min (least (count_after bits hash notes) + 1) 15
  raised not_due =
      let before = count_after bits hash notes in
      least-same (count_after bits hash (hash ∷ notes)) (λ row. min (before row + 1) 15) (λ row _.
      let count = count_with bits hash row hash (before row) in
      cond-false _ (count / 2) count not_due ∙ uses_its_own row (before row))
      ∙ least-raised before

  raised_and_halved : nat_eq (suc (length notes) % (10 * counter_count bits)) 0 ≡ true → least (count_after bits hash (hash ∷ notes)) ≡ min (least (count_after bits hash notes) + 1) 15 / 2
  raised_and_halved due =
      let before = count_after bits hash notes in
      least-same (count_after bits hash (hash ∷ notes)) (λ row. min (before row + 1) 15 / 2) (λ row _.
      let count = count_with bits hash row hash (before row) in
      cond-true _ (count / 2) count due ∙ ap (λ count. count / 2) (uses_its_own row (before row)))
      ∙ least-halved (λ row. min (before row + 1) 15) ∙ ap (λ count. count / 2) (least-raised before)

-- a note of any hash lowers none, where no halving is due
least-le : (f g : ℕ → ℕ) → ((row : ℕ) → f row ≤ g row) → least f ≤ least g
least-le f g le =
    let first = le 0 in
    let second = le 1 in
    let third = le 2 in
    let fourth = le 3 in
    omega (arith, first, second, third, fourth)

count_with-le : (bits hash row note count : ℕ) → count ≤ 15 → count ≤ count_with bits hash row note count
count_with-le bits hash row note count few = cond_both (nat_eq (place bits row note) (place bits row hash)) _ _ (λ more. count ≤ more) (λ _. omega (arith, few)) (λ _. omega arith)

not_lowered : (bits hash note : ℕ) (notes : List ℕ) → nat_eq (suc (length notes) % (10 * counter_count bits)) 0 ≡ false → least (count_after bits hash notes) ≤ least (count_after bits hash (note ∷ notes))
not_lowered bits hash note notes not_due = least-le (count_after bits hash notes) (count_after bits hash (note ∷ notes)) (λ row.
    let count = count_after bits hash notes row in
    let more = count_with bits hash row note count in
    let is : count_after bits hash (note ∷ notes) row ≡ more = cond-false _ (more / 2) more not_due in
    rw is (count_with-le bits hash row note count (kept-le bits hash row notes)))

-- whether a halving is due, in the words of the laws
due_after : (bits : ℕ) (notes : List ℕ) → (length notes + 1) % (10 * counter_count bits) ≡ 0 → nat_eq (suc (length (reverse notes)) % (10 * counter_count bits)) 0 ≡ true
due_after bits notes due = eq-eqb _ _ (rw (length-reverse notes) (ap (λ n. n % (10 * counter_count bits)) (sym (add-one (length notes))) ∙ due))

not_due_after : (bits : ℕ) (notes : List ℕ) → (length notes + 1) % (10 * counter_count bits) ≢ 0 → nat_eq (suc (length (reverse notes)) % (10 * counter_count bits)) 0 ≡ false
not_due_after bits notes not_due = ne_eqb _ _ (λ due. not_due (ap (λ n. n % (10 * counter_count bits)) (add-one (length notes) ∙ ap suc (sym (length-reverse notes))) ∙ due))

-- the laws of a note, in order
pub estimate_after-raised : (bits hash : ℕ) (notes : List ℕ) → (length notes + 1) % (10 * counter_count bits) ≢ 0
    → estimate_after bits (notes ++ hash ∷ []) hash ≡ min (estimate_after bits notes hash + 1) 15
estimate_after-raised bits hash notes not_due = estimate_after-next bits hash hash notes ∙ raised bits hash (reverse notes) (not_due_after bits notes not_due)
    ∙ ap (λ least. min (least + 1) 15) (sym (estimate_after-least bits hash notes))

pub estimate_after-halved : (bits hash : ℕ) (notes : List ℕ) → (length notes + 1) % (10 * counter_count bits) ≡ 0
    → estimate_after bits (notes ++ hash ∷ []) hash ≡ min (estimate_after bits notes hash + 1) 15 / 2
estimate_after-halved bits hash notes due = estimate_after-next bits hash hash notes ∙ raised_and_halved bits hash (reverse notes) (due_after bits notes due)
    ∙ ap (λ least. min (least + 1) 15 / 2) (sym (estimate_after-least bits hash notes))

pub estimate_after-not_lowered : (bits hash note : ℕ) (notes : List ℕ) → (length notes + 1) % (10 * counter_count bits) ≢ 0
    → estimate_after bits notes hash ≤ estimate_after bits (notes ++ note ∷ []) hash
estimate_after-not_lowered bits hash note notes not_due =
    rw (estimate_after-least bits hash notes, estimate_after-next bits hash note notes) (not_lowered bits hash note (reverse notes) (not_due_after bits notes not_due))

-- how many pass a test, in either order
count-reverse : (test : ℕ → Bool) (xs : List ℕ) → length (filter test (reverse xs)) ≡ length (filter test xs)
count-reverse test [] = refl
count-reverse test (x ∷ xs) =
    let last : length (filter test (reverse (x ∷ xs))) ≡ length (filter test (reverse xs) ++ filter test (x ∷ [])) =
    ap (λ ys. length (filter test ys)) (reverse-append (x ∷ []) xs) ∙ ap length (filter-append test (reverse xs) (x ∷ [])) in
    last ∙ length-append (filter test (reverse xs)) (filter test (x ∷ [])) ∙ ap (λ n. n + length (filter test (x ∷ []))) (count-reverse test xs) ∙ one_of (test x)
  where
    one_of : (passes : Bool) → length (filter test xs) + length (cond passes (x ∷ []) []) ≡ length (cond passes (x ∷ filter test xs) (filter test xs))
    one_of true = add-one (length (filter test xs))
    one_of false = add-zero (length (filter test xs))

-- no halving is due where fewer came since the last
not_due_since : (m since earlier : ℕ) → earlier % m ≡ 0 → suc since < m → nat_eq (suc (since + earlier) % m) 0 ≡ false
not_due_since m since earlier whole few =
    let together : suc (since + earlier) ≡ suc since + earlier = omega arith in
    let is : suc (since + earlier) % m ≡ suc since = ap (λ n. n % m) together ∙ add-mod (suc since) earlier m ∙ ap (λ rest. (suc since % m + rest) % m) whole ∙ ap (λ n. n % m) (add-zero (suc since % m) ∙ mod-eq_of_lt few) ∙ mod-eq_of_lt few in
    rw is (ne_eqb (suc since) 0 (λ none. absurd (omega (arith, none))))

-- a note of the hash counts in each of its counters
counts_it : (bits hash row note count : ℕ) (found : List ℕ) (is : Bool) → nat_eq note hash ≡ is → count ≤ 15 → min (length found) 15 ≤ count
    → min (length (cond is (note ∷ found) found)) 15 ≤ count_with bits hash row note count
counts_it bits hash row note count found true same few enough =
    let own : count_with bits hash row note count ≡ min (count + 1) 15 = cond-true _ (min (count + 1) 15) count (eq-eqb _ _ (ap (place bits row) (eqb-true _ _ same))) in
    rw own (omega (arith, few, enough))
counts_it bits hash row note count found false _ few enough = le_trans enough (count_with-le bits hash row note count few)

-- a counter keeps at least how often the hash was noted since the last halving, the newest first
kept-at_least : (bits hash row : ℕ) (since earlier : List ℕ) → length earlier % (10 * counter_count bits) ≡ 0 → length since < 10 * counter_count bits
    → min (length (filter (λ note. nat_eq note hash) since)) 15 ≤ count_after bits hash (since ++ earlier) row
kept-at_least bits hash row [] earlier whole few = omega arith
kept-at_least bits hash row (note ∷ since) earlier whole few =
    let count = count_after bits hash (since ++ earlier) row in
    let more = count_with bits hash row note count in
    let not_due : nat_eq (suc (length (since ++ earlier)) % (10 * counter_count bits)) 0 ≡ false = rw (length-append since earlier) (not_due_since (10 * counter_count bits) (length since) (length earlier) whole few) in
    let is : count_after bits hash (note ∷ (since ++ earlier)) row ≡ more = cond-false _ (more / 2) more not_due in
    let enough = kept-at_least bits hash row since earlier whole (omega (arith, few)) in
    rw is (counts_it bits hash row note count (filter (λ n. nat_eq n hash) since) (nat_eq note hash) refl (kept-le bits hash row (since ++ earlier)) enough)

least-ge : (k : ℕ) (f : ℕ → ℕ) → ((row : ℕ) → k ≤ f row) → k ≤ least f
least-ge k f ge =
    let first = ge 0 in
    let second = ge 1 in
    let third = ge 2 in
    let fourth = ge 3 in
    omega (arith, first, second, third, fourth)

-- so is the estimate
pub estimate_after-at_least : (bits hash : ℕ) (earlier since : List ℕ) → length earlier % (10 * counter_count bits) ≡ 0 → length since < 10 * counter_count bits
    → min (length (filter (λ note. nat_eq note hash) since)) 15 ≤ estimate_after bits (earlier ++ since) hash
estimate_after-at_least bits hash earlier since whole few =
    let whole_back : length (reverse earlier) % (10 * counter_count bits) ≡ 0 = rw (length-reverse earlier) whole in
    let few_back : length (reverse since) < 10 * counter_count bits = rw (length-reverse since) few in
    let each : (row : ℕ) → min (length (filter (λ note. nat_eq note hash) since)) 15 ≤ count_after bits hash (reverse since ++ reverse earlier) row = λ row.
    rw (← count-reverse (λ note. nat_eq note hash) since) (kept-at_least bits hash row (reverse since) (reverse earlier) whole_back few_back) in
    rw (estimate_after-least bits hash (earlier ++ since), reverse-append earlier since) (least-ge _ (count_after bits hash (reverse since ++ reverse earlier)) each)

-- before the first halving a counter keeps how many notes used it, up to 15
kept-counts : (bits hash row : ℕ) (notes : List ℕ) → length notes < 10 * counter_count bits
    → count_after bits hash notes row ≡ min (length (filter (λ note. nat_eq (place bits row note) (place bits row hash)) notes)) 15
kept-counts bits hash row [] few = omega arith
kept-counts bits hash row (note ∷ notes) few =
    let uses = nat_eq (place bits row note) (place bits row hash) in
    let count = count_with bits hash row note (count_after bits hash notes row) in
    let not_due : nat_eq (suc (length notes) % (10 * counter_count bits)) 0 ≡ false = rw (mod-eq_of_lt few) (ne_eqb (suc (length notes)) 0 (λ none. absurd (omega (arith, none)))) in
    cond-false _ (count / 2) count not_due
    ∙ one_more bits hash note (filter (λ n. nat_eq (place bits row n) (place bits row hash)) notes) uses (count_after bits hash notes row) (kept-counts bits hash row notes (omega (arith, few)))

pub estimate_after-counts : (bits hash : ℕ) (notes : List ℕ) → length notes < 10 * counter_count bits
    → estimate_after bits notes hash ≡ least (λ row. min (length (filter (λ note. nat_eq (place bits row note) (place bits row hash)) notes)) 15)
estimate_after-counts bits hash notes few =
    let few_back : length (reverse notes) < 10 * counter_count bits = rw (length-reverse notes) few in
    estimate_after-least bits hash notes
    ∙ least-same (count_after bits hash (reverse notes)) (λ row. min (length (filter (λ note. nat_eq (place bits row note) (place bits row hash)) notes)) 15) (λ row _.
    kept-counts bits hash row (reverse notes) few_back ∙ ap (λ n. min n 15) (count-reverse (λ note. nat_eq (place bits row note) (place bits row hash)) notes))

-- where one hash is noted alone, all use its counters
all_pass : (test : ℕ → Bool) (x n : ℕ) → test x ≡ true → length (filter test (replicate n x)) ≡ n
all_pass test x zero passes = refl
all_pass test x (suc n) passes = ap length (cond-true _ (x ∷ filter test (replicate n x)) (filter test (replicate n x)) passes) ∙ ap suc (all_pass test x n passes)

pub estimate_after-alone : (bits hash n : ℕ) → n < 10 * counter_count bits → estimate_after bits (replicate n hash) hash ≡ min n 15
estimate_after-alone bits hash n few =
    let few_notes : length (replicate n hash) < 10 * counter_count bits = rw (length-replicate n hash) few in
    estimate_after-counts bits hash (replicate n hash) few_notes
    ∙ least-same (λ row. min (length (filter (λ note. nat_eq (place bits row note) (place bits row hash)) (replicate n hash))) 15) (λ _. min n 15) (λ row _.
    ap (λ k. min k 15) (all_pass (λ note. nat_eq (place bits row note) (place bits row hash)) hash n (eq-eqb (place bits row hash) (place bits row hash) refl)))
    ∙ least-of_same (min n 15)
  where
    least-of_same : (k : ℕ) → least (λ _. k) ≡ k
    least-of_same k = omega arith
