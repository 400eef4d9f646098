-- How an input falls into lines, and how far a script has come in it.
use Rattle.std.proofs.Common.{suc, ◌≡◌, ◌<◌, ◌-◌, ℕ, Bool, true, false, ◌||◌, cond, eqb, nat_lt, List, [], ◌∷◌, ◌++◌, length, get_or, take, Option, Some, None, IfSome, refl, sym, ap, ◌∙◌, subst, arith, append_assoc}
use Rattle.std.proofs.Math.Bool.{or_assoc, or-false}
use Rattle.std.proofs.lemmas.Bool.{lt-ltb}
use Rattle.std.specs.List.{onto_first}
use Rattle.std.specs.Io.BufRead.{take_through, drop_through, strip_last, first_piece, DropsThrough}
use Rattle.std.specs.Io.KnownBytes.{Appends, IsAtEnd}
use Rattle.std.proofs.lemmas.Grind.{flat_map-append}
use Rattle.std.proofs.lemmas.List.{append-nil}
use Rattle.mokabox_syntax.specs.Command.{command_by_line}
use Rattle.mokabox_interpreter.specs.Script.{CacheSettings, Course, LinePrints, LinesPrint, lines_of, lines_text}
use Rattle.mokabox_interpreter.specs.Session.{CacheData, IsAt, DoesLine}

cond_cons : (test : Bool) (x : ℕ) (a b : List ℕ) → cond test (x ∷ a) (x ∷ b) ≡ x ∷ cond test a b
cond_cons true x a b = refl
cond_cons false x a b = refl

strip_cons : (x y : ℕ) (ys : List ℕ) → strip_last 10 (x ∷ y ∷ ys) ≡ x ∷ strip_last 10 (y ∷ ys)
strip_cons x y ys =
    let n = length ys in
    let more : nat_lt 0 (suc (suc n)) ≡ true = lt-ltb 0 (suc (suc n)) (omega arith) in
    let some : nat_lt 0 (suc n) ≡ true = lt-ltb 0 (suc n) (omega arith) in
    let last : suc (suc n) - 1 ≡ suc n = omega arith in
    let last_of_rest : suc n - 1 ≡ n = omega arith in
    rw (more, some, last, last_of_rest) (cond_cons (eqb (get_or (y ∷ ys) n 0) 10) x (take n (y ∷ ys)) (y ∷ ys))

strip_through : (byte b : ℕ) (bs : List ℕ) → strip_last 10 (byte ∷ take_through 10 (b ∷ bs)) ≡ byte ∷ strip_last 10 (take_through 10 (b ∷ bs))
strip_through byte b bs = either (eqb b 10) where
  either : (test : Bool) → strip_last 10 (byte ∷ cond test (b ∷ []) (b ∷ take_through 10 bs)) ≡ byte ∷ strip_last 10 (cond test (b ∷ []) (b ∷ take_through 10 bs))
  either true = strip_cons byte b []
  either false = strip_cons byte b (take_through 10 bs)

-- the first line, and the lines after it
first_of_some : (byte : ℕ) (bytes : List ℕ) → lines_of (byte ∷ bytes) ≡ first_piece 10 (byte ∷ bytes) ∷ lines_of (drop_through 10 (byte ∷ bytes))
first_of_some byte [] = one (eqb byte 10) refl where
  one : (test : Bool) → eqb byte 10 ≡ test → cond test ([] ∷ []) ((byte ∷ []) ∷ []) ≡ strip_last 10 (cond test (byte ∷ []) (byte ∷ [])) ∷ lines_of (cond test [] [])
  one true e = rw e refl
  one false e = rw e refl
first_of_some byte (b ∷ bs) = more (eqb byte 10) refl (first_of_some b bs) where
  more : (test : Bool) → eqb byte 10 ≡ test → lines_of (b ∷ bs) ≡ first_piece 10 (b ∷ bs) ∷ lines_of (drop_through 10 (b ∷ bs)) → cond test ([] ∷ lines_of (b ∷ bs)) (onto_first byte (lines_of (b ∷ bs))) ≡ strip_last 10 (cond test (byte ∷ []) (byte ∷ take_through 10 (b ∷ bs))) ∷ lines_of (cond test (b ∷ bs) (drop_through 10 (b ∷ bs)))
  more true e later = rw e refl
  more false e later = ap (onto_first byte) later ∙ ap (λ line. line ∷ lines_of (drop_through 10 (b ∷ bs))) (sym (strip_through byte b bs))

pub lines_first : (input : List ℕ) → 0 < length input → lines_of input ≡ first_piece 10 input ∷ lines_of (drop_through 10 input)
lines_first [] some = absurd (omega arith)
lines_first (byte ∷ bytes) some = first_of_some byte bytes

-- How far a script has come: it began before this input, the rest is to be read, these lines were printed so far,
-- and this says whether one was bad.
pub record HasCome (settings : CacheSettings) (before : Course) (input rest : List ℕ) (cache : CacheData) (moment : ℕ) (printed : List (List ℕ)) (bad : Bool) : Type 0 where
  pub after : Course
  pub is_at : IsAt cache moment settings after
  pub goes_on : (more : List (List ℕ)) (bad_more : Bool) → LinesPrint settings after (lines_of rest) more bad_more → LinesPrint settings before (lines_of input) (printed ++ more) (bad || bad_more)

pub begun : (settings : CacheSettings) (before : Course) (input : List ℕ) (cache : CacheData) (moment : ℕ) → IsAt cache moment settings before → HasCome settings before input input cache moment [] false
begun settings before input cache moment is = record { after = before; is_at = is; goes_on = λ more bad_more prints. prints }

-- one line more
one_line_on : (settings : CacheSettings) (before : Course) (input rest line : List ℕ) (cache cache_after : CacheData) (moment moment_after : ℕ) (printed first : List (List ℕ)) (bad bad_first : Bool) (next : Course) (come : HasCome settings before input rest cache moment printed bad) → 0 < length rest → line ≡ first_piece 10 rest → LinePrints settings come.after (command_by_line line) first next bad_first → IsAt cache_after moment_after settings next → HasCome settings before input (drop_through 10 rest) cache_after moment_after (printed ++ first) (bad || bad_first)
one_line_on settings before input rest line cache cache_after moment moment_after printed first bad bad_first next come some is_line prints_first is =
    let lines : lines_of rest ≡ line ∷ lines_of (drop_through 10 rest) = lines_first rest some ∙ ap (λ one. one ∷ lines_of (drop_through 10 rest)) (sym is_line) in
    record {
      after = next;
      is_at = is;
      goes_on = λ more bad_more prints.
          let both : LinesPrint settings come.after (line ∷ lines_of (drop_through 10 rest)) (first ++ more) (bad_first || bad_more) = (first, next, bad_first, more, bad_more, prints_first, prints, refl, refl) in
          let whole : LinesPrint settings before (lines_of input) (printed ++ (first ++ more)) (bad || (bad_first || bad_more)) = come.goes_on (first ++ more) (bad_first || bad_more) (subst (λ ls. LinesPrint settings come.after ls (first ++ more) (bad_first || bad_more)) (sym lines) both) in
          let flat : LinesPrint settings before (lines_of input) ((printed ++ first) ++ more) (bad || (bad_first || bad_more)) = subst (λ ls. LinesPrint settings before (lines_of input) ls (bad || (bad_first || bad_more))) (sym (append_assoc printed first more)) whole in
          subst (λ b. LinesPrint settings before (lines_of input) ((printed ++ first) ++ more) b) (sym (or_assoc bad bad_first bad_more)) flat;
    }

-- at the end of the input
ended : (settings : CacheSettings) (before : Course) (input rest : List ℕ) (cache : CacheData) (moment : ℕ) (printed : List (List ℕ)) (bad : Bool) → HasCome settings before input rest cache moment printed bad → rest ≡ [] → LinesPrint settings before (lines_of input) printed bad
ended settings before input rest cache moment printed bad come empty =
    let all = come.goes_on [] false (subst (λ bytes. LinesPrint settings come.after (lines_of bytes) [] false) (sym empty) (refl, refl)) in
    let lines = subst (λ ls. LinesPrint settings before (lines_of input) ls (bad || false)) (append-nil printed) all in
    subst (λ b. LinesPrint settings before (lines_of input) printed b) (or-false bad) lines

-- what is appended twice is appended together
pub appends-appends : (old mid new : Option (List ℕ)) (first rest : List (List ℕ)) → Appends old mid (lines_text first) → Appends mid new (lines_text rest) → Appends old new (lines_text (first ++ rest))
appends-appends None mid new first rest a b = tt
appends-appends (Some xs) None new first rest a b = absurd a
appends-appends (Some xs) (Some ys) None first rest a b = absurd b
appends-appends (Some xs) (Some ys) (Some zs) first rest a b =
    b ∙ ap (λ bytes. bytes ++ lines_text rest) a ∙ append_assoc xs (lines_text first) (lines_text rest) ∙ ap (λ bytes. xs ++ bytes) (sym (flat_map-append (λ line. line ++ (10 ∷ [])) first rest))

-- How far a run has come: its reader has this left, and its writer holds what was printed.
pub record IsOn (settings : CacheSettings) (before : Course) (input : List ℕ) (known : Option (List ℕ)) (cache : CacheData) (moment : ℕ) (bad : Bool) (held_before held : Option (List ℕ)) : Type 0 where
  pub rest : List ℕ
  pub left : known ≡ Some rest
  pub printed : List (List ℕ)
  pub come : HasCome settings before input rest cache moment printed bad
  pub written : Appends held_before held (lines_text printed)

-- nothing is appended
pub appends_none : (held : Option (List ℕ)) → Appends held held []
appends_none None = tt
appends_none (Some xs) = sym (append-nil xs)

-- The run of the lines after the first has come this far.
pub record IsRunning (known_before known : Option (List ℕ)) (cache_before : CacheData) (moment_before : ℕ) (cache : CacheData) (moment : ℕ) (bad : Bool) (byte : ℕ) (held_before held : Option (List ℕ)) : Type 0 where
  pub ends : byte ≡ 10
  pub on : (settings : CacheSettings) (before : Course) → IsAt cache_before moment_before settings before → IfSome known_before (λ input. IsOn settings before input known cache moment bad held_before held)

pub run_begun : (known held : Option (List ℕ)) (cache : CacheData) (moment byte : ℕ) → byte ≡ 10 → IsRunning known known cache moment cache moment false byte held held
run_begun known held cache moment byte ends = record { ends = ends; on = at_each known } where
  at_each : (k : Option (List ℕ)) (settings : CacheSettings) (before : Course) → IsAt cache moment settings before → IfSome k (λ input. IsOn settings before input k cache moment false held held)
  at_each None settings before is = tt
  at_each (Some input) settings before is = record { rest = input; left = refl; printed = []; come = begun settings before input cache moment is; written = appends_none held }

-- the step of a run, from what its reader's step says
pub run_step : {A : Type 0} (items : A → List ℕ) (known_before known known_after : Option (List ℕ)) (cache_before cache cache_after : CacheData) (moment_before moment moment_after : ℕ) (bad bad_line : Bool) (byte byte_after : ℕ) (held_before held held_after : Option (List ℕ)) (line : A) → IsRunning known_before known cache_before moment_before cache moment bad byte held_before held → byte_after ≡ byte → IfSome known (λ xs. (0 < length xs) × (items line ≡ first_piece byte xs)) → DropsThrough known known_after byte → DoesLine cache moment (items line) bad_line cache_after moment_after held held_after → IsRunning known_before known_after cache_before moment_before cache_after moment_after (bad || bad_line) byte_after held_before held_after
run_step items known_before known known_after cache_before cache cache_after moment_before moment moment_after bad bad_line byte byte_after held_before held held_after line running same_byte gives drops does = record {
  ends = same_byte ∙ running.ends;
  on = λ settings before is. step settings before is known_before (running.on settings before is);
} where
  at_ten : (rest : List ℕ) → known ≡ Some rest → (0 < length rest) × (items line ≡ first_piece 10 rest) × (known_after ≡ Some (drop_through 10 rest))
  at_ten rest left =
      let given : IfSome (Some rest) (λ xs. (0 < length xs) × (items line ≡ first_piece 10 xs)) = subst (λ b. IfSome (Some rest) (λ xs. (0 < length xs) × (items line ≡ first_piece b xs))) running.ends (subst (λ k. IfSome k (λ xs. (0 < length xs) × (items line ≡ first_piece byte xs))) left gives) in
      let after : DropsThrough (Some rest) known_after 10 = subst (λ b. DropsThrough (Some rest) known_after b) running.ends (subst (λ k. DropsThrough k known_after byte) left drops) in
      (given.0, given.1, after)

  step : (settings : CacheSettings) (before : Course) → IsAt cache_before moment_before settings before → (k : Option (List ℕ)) → IfSome k (λ input. IsOn settings before input known cache moment bad held_before held) → IfSome k (λ input. IsOn settings before input known_after cache_after moment_after (bad || bad_line) held_before held_after)
  step settings before is None on = tt
  step settings before is (Some input) on =
      let facts = at_ten on.rest on.left in
      let done = does settings on.come.after on.come.is_at in
      record {
        rest = drop_through 10 on.rest;
        left = facts.2;
        printed = on.printed ++ done.0;
        come = one_line_on settings before input on.rest (items line) cache cache_after moment moment_after on.printed done.0 bad bad_line done.1 on.come facts.0 facts.1 done.2 done.3;
        written = appends-appends held_before held held_after on.printed done.0 on.written done.4;
      }

-- the end of a run
pub run_ended : (known_before known : Option (List ℕ)) (cache_before cache : CacheData) (moment_before moment : ℕ) (bad : Bool) (byte : ℕ) (held_before held : Option (List ℕ)) → IsRunning known_before known cache_before moment_before cache moment bad byte held_before held → IsAtEnd known → (settings : CacheSettings) (before : Course) → IsAt cache_before moment_before settings before → IfSome known_before (λ input. (printed : List (List ℕ)) × LinesPrint settings before (lines_of input) printed bad × Appends held_before held (lines_text printed))
run_ended known_before known cache_before cache moment_before moment bad byte held_before held running at_end settings before is = finish known_before (running.on settings before is) where
  finish : (k : Option (List ℕ)) → IfSome k (λ input. IsOn settings before input known cache moment bad held_before held) → IfSome k (λ input. (printed : List (List ℕ)) × LinesPrint settings before (lines_of input) printed bad × Appends held_before held (lines_text printed))
  finish None on = tt
  finish (Some input) on =
      let empty : on.rest ≡ [] = subst IsAtEnd on.left at_end in
      (on.printed, ended settings before input on.rest cache moment on.printed bad on.come empty, on.written)

-- a line that is written is the line of its text
pub one_written : (old new : Option (List ℕ)) (text : List ℕ) → Appends old new (text ++ (10 ∷ [])) → Appends old new (lines_text (text ∷ []))
one_written old new text h = subst (λ bytes. Appends old new bytes) (sym (append-nil (text ++ (10 ∷ [])))) h

pub if_some : {A : Type 0} (o : Option A) {P : A → Type 0} → ((x : A) → P x) → IfSome o P
if_some None h = tt
if_some (Some x) h = h x

pub or_when_true : (a b : Bool) → a ≡ true → a || b ≡ a
or_when_true true b e = refl
or_when_true false b e = cc

pub or_when_false : (a b : Bool) → a ≡ false → a || b ≡ b
or_when_false true b e = cc
or_when_false false b e = refl
