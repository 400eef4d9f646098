use Rattle.std.proofs.Common.{◌≡◌, ◌<◌, ◌^◌, ℕ, ◌∷◌, ◌++◌, [], List, length, Bool, true, false, cond, Option, Some, None, IfSome, option_map, option_and_then, codes, refl, sym, ap, ◌∙◌, subst, arith, Bor}
use Rattle.std.specs.List.{AllByRecursion, join_with_byte}
use Rattle.std.specs.Fmt.{decimal}
use Rattle.std.specs.Str.{bytes_eq}
use Rattle.std.proofs.lemmas.Option.{option_and_then_some, same_Some}
use Rattle.std.proofs.lemmas.Slice.Eq.{bytes_eq-Decides}
use Rattle.std.proofs.lemmas.List.Splits.{join_with_byte-slice_split}
use Rattle.mokabox_syntax.specs.declared.command.Command.{Command}
use Rattle.mokabox_syntax.specs.declared.command.Command.TheVariants.{At, Insert, Get, Has, Invalidate, Tasks, TasksUpTo, Count, Weight, Notices, Policy, Remove, InvalidateAll, InvalidateIf, Walk, OrInsert, Begin, BeginCompute, Finish, Abandon, Collect, Leave}
use Rattle.mokabox_syntax.specs.declared.turn.TurnOf.{TurnOf}
use Rattle.moka_model.specs.declared.turns.Kind.{Kind}
use Rattle.moka_model.specs.declared.turns.Kind.TheVariants.{With, Optionally, Try, Compute}
use Rattle.mokabox_syntax.specs.Command.{PlainCommand, plain_command, command_fields, replace_fields, line_of, IsExpressible, Reader, insert_of, replace_of, replaces_of, IsNoCompute, begin_by, begin_of, finish_of, turn_words, whole_words, words, command_of, command_by_line}
use Rattle.mokabox_syntax.specs.Fields.{fields_of, first_of, number_of, alone, sole_number_of, sole_text_of, none_empty, texts_of, IsText}
use Rattle.mokabox_syntax.specs.Turn.{kind_word, kind_of, turn_fields, IsNamable, turn_of, sole_turn_of, ending_fields, ending_of}
use Rattle.mokabox_syntax.proofs.NumberLaws.{number_takes, number_again}
use Rattle.mokabox_syntax.proofs.Truth.{mapped}
use Rattle.mokabox_syntax.proofs.FieldLaws.{texts_whole}
use Rattle.mokabox_syntax.proofs.TextLaws.{sole_number_takes, text_again, sole_text_takes}
use Rattle.mokabox_syntax.proofs.TurnLaws.{first_takes, kind_takes, kind_again, kind_field, turn_takes, turn_again, turn_fields_are, alone_is, sole_turn_takes, sole_turn_again, ending_takes, ending_again, ending_fields_are}
use Rattle.mokabox_syntax.proofs.WordLaws.{TakesAs, read_by_takes}
use Rattle.mokabox_syntax.proofs.FieldTexts.{IsField, says_takes, says_again, line_fields, text_field, text_fields, number_field, word_field, is_plain}

-- the fields are those of the command
abbrev IsWritten : List (List ℕ) → PlainCommand → Type 0
IsWritten fields command = (fields ≡ command_fields command) × IsExpressible command

-- what the reader behind a word reads is a command that is written so
abbrev Takes : List ℕ → Reader → Type 0
Takes = TakesAs IsWritten

-- a word with a number behind it
number_behind : (word : List ℕ) (make : ℕ → PlainCommand) → ((n : ℕ) → word ∷ decimal n ∷ [] ≡ command_fields (make n)) → ((n : ℕ) → n < 2 ^ 64 → IsExpressible (make n)) → Takes word (λ rest. option_map make (sole_number_of rest))
number_behind word make spelled sayable rest command each h =
    let read = mapped make (sole_number_of rest) command h in
    let parts = sole_number_takes rest read.0 read.1 in
    let whole : word ∷ rest ≡ command_fields (make read.0) = ap (λ fields. word ∷ fields) parts.0 ∙ spelled read.0 in
    subst (IsWritten (word ∷ rest)) read.2 (whole, sayable read.0 parts.1)

-- a word with a key and a value behind it
insert_takes : (word : List ℕ) (make : ℕ → List ℕ → PlainCommand) → ((n : ℕ) (value : List ℕ) → word ∷ decimal n ∷ value ∷ [] ≡ command_fields (make n value)) → ((n : ℕ) (value : List ℕ) → n < 2 ^ 64 → IsText value → IsExpressible (make n value)) → Takes word (insert_of make)
insert_takes word make spelled sayable [] command each h = cc
insert_takes word make spelled sayable (key ∷ rest) command each h = option_and_then_some (λ number. option_map (make number) (sole_text_of rest)) (number_of key) command h (λ number is_number given.
    let read = mapped (make number) (sole_text_of rest) command given in
    let parts = number_takes key number is_number in
    let value = sole_text_takes rest read.0 each.1 read.1 in
    let whole : word ∷ key ∷ rest ≡ command_fields (make number read.0) = ap (λ field. word ∷ field ∷ rest) parts.0 ∙ ap (λ fields. word ∷ decimal number ∷ fields) value.0 ∙ spelled number read.0 in
    subst (IsWritten (word ∷ key ∷ rest)) read.2 (whole, sayable number read.0 parts.1 value.1))

alone_takes : (word : List ℕ) (command : PlainCommand) → word ∷ [] ≡ command_fields command → IsExpressible command → Takes word (alone command)
alone_takes word command spelled sayable rest given each h =
    let parts = alone_is command rest given h in
    subst (IsWritten (word ∷ rest)) parts.1 (ap (λ fields. word ∷ fields) parts.0 ∙ spelled, sayable)

-- fields none of which is empty are texts
texts_are : (fields : List (List ℕ)) → AllByRecursion IsField fields → none_empty fields ≡ true → AllByRecursion IsText fields
texts_are [] each some = tt
texts_are ([] ∷ more) each some = cc
texts_are ((byte ∷ bytes) ∷ more) each some =
    (record { some = omega arith; spaceless = each.0.spaceless; utf8 = each.0.utf8 }, texts_are more each.1 some)

-- texts are the fields of the text that they make
texts_take : (rest : List (List ℕ)) (values : List ℕ) → AllByRecursion IsField rest → texts_of rest ≡ Some values → (rest ≡ fields_of values) × AllByRecursion IsText (fields_of values)
texts_take [] values each h = cc
texts_take (field ∷ more) values each h = either (none_empty (field ∷ more)) refl h where
  either : (test : Bool) → none_empty (field ∷ more) ≡ test → cond test (Some (join_with_byte 32 (field ∷ more))) None ≡ Some values → (field ∷ more ≡ fields_of values) × AllByRecursion IsText (fields_of values)
  either true e given =
      let whole : field ∷ more ≡ fields_of values = sym (line_fields field more each) ∙ ap fields_of (same_Some (join_with_byte 32 (field ∷ more)) values given) in
      (whole, subst (AllByRecursion IsText) whole (texts_are (field ∷ more) each e))
  either false e given = cc

texts_some : (fields : List (List ℕ)) → AllByRecursion IsText fields → none_empty fields ≡ true
texts_some [] each = refl
texts_some ([] ∷ more) each = absurd (omega (arith, each.0.some))
texts_some ((byte ∷ bytes) ∷ more) each = texts_some more each.1

texts_again : (values : List ℕ) → AllByRecursion IsText (fields_of values) → texts_of (fields_of values) ≡ Some values
texts_again values each = sym (texts_whole values (texts_some (fields_of values) each))

texts_behind : Takes (codes "invalidate-if") (λ rest. option_map InvalidateIf (texts_of rest))
texts_behind rest command each h =
    let read = mapped InvalidateIf (texts_of rest) command h in
    let parts = texts_take rest read.0 each read.1 in
    let whole : codes "invalidate-if" ∷ rest ≡ command_fields (InvalidateIf read.0) = ap (λ fields. codes "invalidate-if" ∷ fields) parts.0 in
    subst (IsWritten (codes "invalidate-if" ∷ rest)) read.2 (whole, parts.1)

replace_takes : (field : List ℕ) (replace : Bool) → replace_of field ≡ Some replace → field ∷ [] ≡ replace_fields (Some replace)
replace_takes field replace h = either (bytes_eq field (codes "replace=yes")) (bytes_eq field (codes "replace=no")) refl refl h where
  said : (one : Bool) → Some one ≡ Some replace → field ∷ [] ≡ replace_fields (Some one) → field ∷ [] ≡ replace_fields (Some replace)
  said one given same = subst (λ r. field ∷ [] ≡ replace_fields (Some r)) (same_Some one replace given) same

  either : (a b : Bool) → bytes_eq field (codes "replace=yes") ≡ a → bytes_eq field (codes "replace=no") ≡ b → cond a (Some true) (cond b (Some false) None) ≡ Some replace → field ∷ [] ≡ replace_fields (Some replace)
  either true b e f given = said true given (ap (λ one. one ∷ []) ((bytes_eq-Decides field (codes "replace=yes")).0 e))
  either false true e f given = said false given (ap (λ one. one ∷ []) ((bytes_eq-Decides field (codes "replace=no")).0 f))
  either false false e f given = cc

replaces_again : (replace : Option Bool) → replaces_of (replace_fields replace) ≡ Some replace
replaces_again None = refl
replaces_again (Some true) = refl
replaces_again (Some false) = refl

-- whether to replace is the one field that is left, where one is
replaces_take : (rest : List (List ℕ)) (replace : Option Bool) → replaces_of rest ≡ Some replace → rest ≡ replace_fields replace
replaces_take [] replace h = ap replace_fields (same_Some None replace h)
replaces_take (field ∷ []) replace h =
    let read = mapped Some (replace_of field) replace h in
    subst (λ r. field ∷ [] ≡ replace_fields r) read.2 (replace_takes field read.0 read.1)
replaces_take (field ∷ other ∷ more) replace h = cc

-- the fields behind a kind and a key
behind_takes : (kind : Kind) (key : ℕ) (rest : List (List ℕ)) (command : PlainCommand) → key < 2 ^ 64 → begin_by kind key rest ≡ Some command → IsWritten (codes "begin" ∷ kind_word kind ∷ decimal key ∷ rest) command
behind_takes kind key rest command small h = at_kind kind h where
  of_kind : (one : Kind) → IsNoCompute one → option_map (Begin one key) (replaces_of rest) ≡ Some command → IsWritten (codes "begin" ∷ kind_word one ∷ decimal key ∷ rest) command
  of_kind one is given =
      let read = mapped (Begin one key) (replaces_of rest) command given in
      let whole : codes "begin" ∷ kind_word one ∷ decimal key ∷ rest ≡ command_fields (Begin one key read.0) = ap (λ l. codes "begin" ∷ kind_word one ∷ decimal key ∷ l) (replaces_take rest read.0 read.1) in
      subst (IsWritten (codes "begin" ∷ kind_word one ∷ decimal key ∷ rest)) read.2 (whole, (is, small))

  at_kind : (one : Kind) → begin_by one key rest ≡ Some command → IsWritten (codes "begin" ∷ kind_word one ∷ decimal key ∷ rest) command
  at_kind With given = of_kind With tt given
  at_kind Optionally given = of_kind Optionally tt given
  at_kind Try given = of_kind Try tt given
  at_kind Compute given =
      let last = alone_is (BeginCompute key) rest command given in
      let whole : codes "begin" ∷ kind_word Compute ∷ decimal key ∷ rest ≡ command_fields (BeginCompute key) = ap (λ l. codes "begin" ∷ kind_word Compute ∷ decimal key ∷ l) last.0 in
      subst (IsWritten (codes "begin" ∷ kind_word Compute ∷ decimal key ∷ rest)) last.1 (whole, small)

begin_takes : Takes (codes "begin") begin_of
begin_takes rest command each h =
    option_and_then_some (λ (kind : Kind × List (List ℕ)). option_and_then (λ (key : ℕ × List (List ℕ)). begin_by kind.0 key.0 key.1) (first_of number_of kind.1)) (first_of kind_of rest) command h (λ kind is_kind given.
    option_and_then_some (λ (key : ℕ × List (List ℕ)). begin_by kind.0 key.0 key.1) (first_of number_of kind.1) command given (λ key is_key last.
    let first = first_takes kind_of rest kind is_kind in
    let second = first_takes number_of kind.1 key is_key in
    let word = kind_takes first.0 kind.0 first.2 in
    let digits = number_takes second.0 key.0 second.2 in
    let keyed : kind.1 ≡ decimal key.0 ∷ key.1 = second.1 ∙ ap (λ d. d ∷ key.1) digits.0 in
    let whole : codes "begin" ∷ rest ≡ codes "begin" ∷ kind_word kind.0 ∷ decimal key.0 ∷ key.1 = ap (λ l. codes "begin" ∷ l) (first.1 ∙ ap (λ w. w ∷ kind.1) word ∙ ap (λ l. kind_word kind.0 ∷ l) keyed) in
    subst (λ fields. IsWritten fields command) (sym whole) (behind_takes kind.0 key.0 key.1 command digits.1 last)))

finish_takes : Takes (codes "finish") finish_of
finish_takes rest command each h = option_and_then_some (λ (named : TurnOf × List (List ℕ)). option_map (Finish named.0) (ending_of named.1)) (turn_of rest) command h (λ named is_named given.
    let read = mapped (Finish named.0) (ending_of named.1) command given in
    let turn = turn_takes rest named is_named in
    let fields : AllByRecursion IsField (turn_fields named.0 ++ named.1) = subst (AllByRecursion IsField) turn.0 each in
    let ending = ending_takes named.1 read.0 fields.1.1.1 read.1 in
    let whole : codes "finish" ∷ rest ≡ command_fields (Finish named.0 read.0) = ap (λ l. codes "finish" ∷ l) (turn.0 ∙ ap (λ l. turn_fields named.0 ++ l) ending.0) in
    subst (IsWritten (codes "finish" ∷ rest)) read.2 (whole, (turn.1, ending.1)))

-- a word with a turn behind it
turn_behind : (word : List ℕ) (make : TurnOf → PlainCommand) → ((turn : TurnOf) → word ∷ turn_fields turn ≡ command_fields (make turn)) → ((turn : TurnOf) → IsNamable turn → IsExpressible (make turn)) → Takes word (λ rest. option_map make (sole_turn_of rest))
turn_behind word make spelled sayable rest command each h =
    let read = mapped make (sole_turn_of rest) command h in
    let parts = sole_turn_takes rest read.0 read.1 in
    let whole : word ∷ rest ≡ command_fields (make read.0) = ap (λ fields. word ∷ fields) parts.0 ∙ spelled read.0 in
    subst (IsWritten (word ∷ rest)) read.2 (whole, sayable read.0 parts.1)

turns_take : AllByRecursion (λ entry. Takes entry.0 entry.1) turn_words
unfolding turn_words
turns_take = (
  begin_takes,
  (
    finish_takes,
    (
      turn_behind (codes "abandon") Abandon (λ turn. refl) (λ turn is. is),
      (turn_behind (codes "collect") Collect (λ turn. refl) (λ turn is. is), (turn_behind (codes "leave") Leave (λ turn. refl) (λ turn is. is), tt)),
    ),
  ),
)

whole_words_take : AllByRecursion (λ entry. Takes entry.0 entry.1) whole_words
unfolding whole_words
whole_words_take = (
  alone_takes (codes "invalidate-all") InvalidateAll refl tt,
  (
    texts_behind,
    (
      alone_takes (codes "tasks") Tasks refl tt,
      (
        number_behind (codes "tasks-up-to") TasksUpTo (λ n. refl) (λ n small. small),
        (
          alone_takes (codes "count") Count refl tt,
          (
            alone_takes (codes "weight") Weight refl tt,
            (
              alone_takes (codes "notices") Notices refl tt,
              (alone_takes (codes "policy") Policy refl tt, (alone_takes (codes "walk") Walk refl tt, turns_take)),
            ),
          ),
        ),
      ),
    ),
  ),
)

words_take : AllByRecursion (λ entry. Takes entry.0 entry.1) words
words_take = (
  number_behind (codes "at") At (λ n. refl) (λ n small. small),
  (
    insert_takes (codes "insert") Insert (λ n value. refl) (λ n value small is. (small, is)),
    (
      insert_takes (codes "or-insert") OrInsert (λ n value. refl) (λ n value small is. (small, is)),
      (
        number_behind (codes "get") Get (λ n. refl) (λ n small. small),
        (
          number_behind (codes "has") Has (λ n. refl) (λ n small. small),
          (
            number_behind (codes "invalidate") Invalidate (λ n. refl) (λ n small. small),
            (number_behind (codes "remove") Remove (λ n. refl) (λ n small. small), whole_words_take),
          ),
        ),
      ),
    ),
  ),
)

-- the fields that are read as a command are the fields that it is written as
command_takes : (fields : List (List ℕ)) (command : PlainCommand) → AllByRecursion IsField fields → command_of fields ≡ Some command → (fields ≡ command_fields command) × IsExpressible command
command_takes [] command each h = cc
command_takes (word ∷ rest) command each h = read_by_takes IsWritten words word words_take rest command each.1 h

begin_again : (kind : Kind) (key : ℕ) (replace : Option Bool) → IsNoCompute kind → key < 2 ^ 64 → begin_of (kind_word kind ∷ decimal key ∷ replace_fields replace) ≡ Some (Begin kind key replace)
begin_again kind key replace is small = rw (kind_again kind, number_again key small) (at_kind kind is ∙ ap (option_map (Begin kind key)) (replaces_again replace)) where
  at_kind : (one : Kind) → IsNoCompute one → begin_by one key (replace_fields replace) ≡ option_map (Begin one key) (replaces_of (replace_fields replace))
  at_kind With no_compute = refl
  at_kind Optionally no_compute = refl
  at_kind Try no_compute = refl
  at_kind Compute no_compute = absurd no_compute

-- the fields that a command is written as are read as that command
command_again : (command : PlainCommand) → IsExpressible command → command_of (command_fields command) ≡ Some command
unfolding turn_words whole_words
command_again (At moment) small = rw (number_again moment small) refl
command_again (Insert key value) parts = rw (number_again key parts.0, text_again value parts.1) refl
command_again (OrInsert key value) parts = rw (number_again key parts.0, text_again value parts.1) refl
command_again (Get key) small = rw (number_again key small) refl
command_again (Has key) small = rw (number_again key small) refl
command_again (Invalidate key) small = rw (number_again key small) refl
command_again (Remove key) small = rw (number_again key small) refl
command_again InvalidateAll sayable = refl
command_again (InvalidateIf values) each = rw (texts_again values each) refl
command_again Tasks sayable = refl
command_again (TasksUpTo limit) small = rw (number_again limit small) refl
command_again Count sayable = refl
command_again Weight sayable = refl
command_again Notices sayable = refl
command_again Policy sayable = refl
command_again Walk sayable = refl
command_again (Begin kind key replace) parts = begin_again kind key replace parts.0 parts.1
command_again (BeginCompute key) small = rw (number_again key small) refl
command_again (Finish turn ending) parts =
    ap (option_and_then (λ (named : TurnOf × List (List ℕ)). option_map (Finish named.0) (ending_of named.1))) (turn_again turn (ending_fields ending) parts.0)
    ∙ ap (option_map (Finish turn)) (ending_again ending parts.1)
command_again (Abandon turn) is = ap (option_map Abandon) (sole_turn_again turn is)
command_again (Collect turn) is = ap (option_map Collect) (sole_turn_again turn is)
command_again (Leave turn) is = ap (option_map Leave) (sole_turn_again turn is)

replace_fields_are : (replace : Option Bool) → AllByRecursion IsField (replace_fields replace)
replace_fields_are None = tt
replace_fields_are (Some true) = (word_field (codes "replace=yes") refl, tt)
replace_fields_are (Some false) = (word_field (codes "replace=no") refl, tt)

number_written : (word : List ℕ) (n : ℕ) → is_plain word ≡ true → n < 2 ^ 64 → AllByRecursion IsField (word ∷ decimal n ∷ [])
number_written word n plain small = (word_field word plain, (number_field n small, tt))

-- what a command is written as are fields, and at least one
command_fields_are : (command : PlainCommand) → IsExpressible command → (0 < length (command_fields command)) × AllByRecursion IsField (command_fields command)
command_fields_are (At moment) small = (omega arith, number_written (codes "at") moment refl small)
command_fields_are (Insert key value) parts = (omega arith, (word_field (codes "insert") refl, (number_field key parts.0, (text_field value parts.1, tt))))
command_fields_are (OrInsert key value) parts = (omega arith, (word_field (codes "or-insert") refl, (number_field key parts.0, (text_field value parts.1, tt))))
command_fields_are (Get key) small = (omega arith, number_written (codes "get") key refl small)
command_fields_are (Has key) small = (omega arith, number_written (codes "has") key refl small)
command_fields_are (Invalidate key) small = (omega arith, number_written (codes "invalidate") key refl small)
command_fields_are (Remove key) small = (omega arith, number_written (codes "remove") key refl small)
command_fields_are InvalidateAll sayable = (omega arith, (word_field (codes "invalidate-all") refl, tt))
command_fields_are (InvalidateIf values) each = (omega arith, (word_field (codes "invalidate-if") refl, text_fields (fields_of values) each))
command_fields_are Tasks sayable = (omega arith, (word_field (codes "tasks") refl, tt))
command_fields_are (TasksUpTo limit) small = (omega arith, number_written (codes "tasks-up-to") limit refl small)
command_fields_are Count sayable = (omega arith, (word_field (codes "count") refl, tt))
command_fields_are Weight sayable = (omega arith, (word_field (codes "weight") refl, tt))
command_fields_are Notices sayable = (omega arith, (word_field (codes "notices") refl, tt))
command_fields_are Policy sayable = (omega arith, (word_field (codes "policy") refl, tt))
command_fields_are Walk sayable = (omega arith, (word_field (codes "walk") refl, tt))
command_fields_are (Begin kind key replace) parts = (omega arith, (word_field (codes "begin") refl, (kind_field kind, (number_field key parts.1, replace_fields_are replace))))
command_fields_are (BeginCompute key) small = (omega arith, (word_field (codes "begin") refl, (kind_field Compute, (number_field key small, tt))))
command_fields_are (Finish turn ending) parts =
    let named = turn_fields_are turn parts.0 in
    (omega arith, (word_field (codes "finish") refl, (named.0, (named.1.0, (named.1.1.0, ending_fields_are ending parts.1)))))
command_fields_are (Abandon turn) is = (omega arith, (word_field (codes "abandon") refl, turn_fields_are turn is))
command_fields_are (Collect turn) is = (omega arith, (word_field (codes "collect") refl, turn_fields_are turn is))
command_fields_are (Leave turn) is = (omega arith, (word_field (codes "leave") refl, turn_fields_are turn is))

-- a line that is read as a command is the one that it is written as
pub line_takes : (line : List ℕ) (command : PlainCommand) → command_by_line line ≡ Some command → (line ≡ line_of command) × IsExpressible command
line_takes line command h =
    let read = says_takes command_of line command h in
    let parts = command_takes (fields_of line) command read.0 read.1 in
    (sym (join_with_byte-slice_split 32 line) ∙ ap (join_with_byte 32) parts.0, parts.1)

-- the line that a command is written as is read as that command
pub line_again : (command : PlainCommand) → IsExpressible command → command_by_line (line_of command) ≡ Some command
line_again command sayable =
    let parts = command_fields_are command sayable in
    says_again command_of (command_fields command) parts.0 parts.1 ∙ command_again command sayable

pub line_found : (line : List ℕ) (r : Option (Command (Bor (List ℕ)))) → option_map plain_command r ≡ command_by_line line → IfSome r (λ c. (line ≡ line_of (plain_command c)) × IsExpressible (plain_command c))
line_found line None h = tt
line_found line (Some command) h = line_takes line (plain_command command) (sym h)
