use Rattle.std.proofs.Common.{◌≡◌, ℕ, ◌∷◌, ◌++◌, [], List, Bool, true, false, cond, Option, Some, None, option_map, option_and_then, codes, refl, ap, ◌∙◌, subst}
use Rattle.std.specs.List.{AllByRecursion}
use Rattle.std.specs.Fmt.{decimal}
use Rattle.std.specs.Str.{bytes_eq}
use Rattle.std.proofs.lemmas.Option.{option_and_then_some, same_Some}
use Rattle.std.proofs.lemmas.Slice.Eq.{bytes_eq-Decides}
use Rattle.moka_model.specs.declared.turns.Kind.{Kind}
use Rattle.moka_model.specs.declared.turns.Kind.TheVariants.{With, Optionally, Try, Compute}
use Rattle.mokabox_syntax.specs.declared.turn.Ending.TheVariants.{Value, Nothing, Failed, Put, Remove, Nop}
use Rattle.mokabox_syntax.specs.declared.turn.TurnOf.{TurnOf}
use Rattle.mokabox_syntax.specs.Fields.{alone, first_of, number_of, sole_text_of, IsText}
use Rattle.mokabox_syntax.specs.Turn.{kind_word, kind_of, turn_fields, IsNamable, turn_of, sole_turn_of, PlainEnding, ending_fields, IsSayable, ending_words, ending_of}
use Rattle.mokabox_syntax.proofs.NumberLaws.{number_takes, number_again}
use Rattle.mokabox_syntax.proofs.Truth.{mapped}
use Rattle.mokabox_syntax.proofs.FieldTexts.{IsField, text_field, number_field, word_field}
use Rattle.mokabox_syntax.proofs.TextLaws.{sole_text_takes, text_again}
use Rattle.mokabox_syntax.proofs.WordLaws.{TakesAs, read_by_takes}

-- what the first field says is what stands there
pub first_takes : {A : Type 0} (read : List ℕ → Option A) (fields : List (List ℕ)) (said : A × List (List ℕ)) → first_of read fields ≡ Some said → (field : List ℕ) × (fields ≡ field ∷ said.1) × (read field ≡ Some said.0)
first_takes read [] said h = cc
first_takes read (field ∷ rest) said h =
    let it = mapped (λ what. (what, rest)) (read field) said h in
    subst (λ q. (one : List ℕ) × (field ∷ rest ≡ one ∷ q.1) × (read one ≡ Some q.0)) it.2 (field, refl, it.1)

pub kind_takes : (word : List ℕ) (kind : Kind) → kind_of word ≡ Some kind → word ≡ kind_word kind
kind_takes word kind h = either (bytes_eq word (codes "with")) (bytes_eq word (codes "optionally")) (bytes_eq word (codes "try")) (bytes_eq word (codes "compute")) refl refl refl refl h where
  said : (one : Kind) → Some one ≡ Some kind → word ≡ kind_word one → word ≡ kind_word kind
  said one given same = subst (λ k. word ≡ kind_word k) (same_Some one kind given) same

  either : (a b c d : Bool) → bytes_eq word (codes "with") ≡ a → bytes_eq word (codes "optionally") ≡ b → bytes_eq word (codes "try") ≡ c → bytes_eq word (codes "compute") ≡ d
      → cond a (Some With) (cond b (Some Optionally) (cond c (Some Try) (cond d (Some Compute) None))) ≡ Some kind → word ≡ kind_word kind
  either true b c d e f g k given = said With given ((bytes_eq-Decides word (codes "with")).0 e)
  either false true c d e f g k given = said Optionally given ((bytes_eq-Decides word (codes "optionally")).0 f)
  either false false true d e f g k given = said Try given ((bytes_eq-Decides word (codes "try")).0 g)
  either false false false true e f g k given = said Compute given ((bytes_eq-Decides word (codes "compute")).0 k)
  either false false false false e f g k given = cc

pub kind_again : (kind : Kind) → kind_of (kind_word kind) ≡ Some kind
kind_again With = refl
kind_again Optionally = refl
kind_again Try = refl
kind_again Compute = refl

pub kind_field : (kind : Kind) → IsField (kind_word kind)
kind_field With = word_field (codes "with") refl
kind_field Optionally = word_field (codes "optionally") refl
kind_field Try = word_field (codes "try") refl
kind_field Compute = word_field (codes "compute") refl

-- the turn that fields name is written so
pub turn_takes : (fields : List (List ℕ)) (named : TurnOf × List (List ℕ)) → turn_of fields ≡ Some named → (fields ≡ turn_fields named.0 ++ named.1) × IsNamable named.0
turn_takes fields named h =
    option_and_then_some (λ kind. option_and_then (λ key. option_map (λ number. (record { kind = kind.0; key = key.0; number = number.0 }, number.1)) (first_of number_of key.1)) (first_of number_of kind.1)) (first_of kind_of fields) named h (λ kind is_kind given.
    option_and_then_some (λ key. option_map (λ number. (record { kind = kind.0; key = key.0; number = number.0 }, number.1)) (first_of number_of key.1)) (first_of number_of kind.1) named given (λ key is_key rest.
    let number = mapped (λ number. (record { kind = kind.0; key = key.0; number = number.0 }, number.1)) (first_of number_of key.1) named rest in
    let first = first_takes kind_of fields kind is_kind in
    let second = first_takes number_of kind.1 key is_key in
    let third = first_takes number_of key.1 number.0 number.1 in
    let word = kind_takes first.0 kind.0 first.2 in
    let digits = number_takes second.0 key.0 second.2 in
    let more = number_takes third.0 number.0.0 third.2 in
    let behind : key.1 ≡ decimal number.0.0 ∷ number.0.1 = third.1 ∙ ap (λ d. d ∷ number.0.1) more.0 in
    let keyed : kind.1 ≡ decimal key.0 ∷ decimal number.0.0 ∷ number.0.1 = second.1 ∙ ap (λ d. d ∷ key.1) digits.0 ∙ ap (λ l. decimal key.0 ∷ l) behind in
    let whole : fields ≡ kind_word kind.0 ∷ decimal key.0 ∷ decimal number.0.0 ∷ number.0.1 = first.1 ∙ ap (λ w. w ∷ kind.1) word ∙ ap (λ l. kind_word kind.0 ∷ l) keyed in
    subst (λ q. (fields ≡ turn_fields q.0 ++ q.1) × IsNamable q.0) number.2 (whole, (digits.1, more.1))))

pub turn_again : (turn : TurnOf) (rest : List (List ℕ)) → IsNamable turn → turn_of (turn_fields turn ++ rest) ≡ Some (turn, rest)
turn_again turn rest is = rw (kind_again turn.kind, number_again turn.key is.0, number_again turn.number is.1) refl

pub turn_fields_are : (turn : TurnOf) → IsNamable turn → AllByRecursion IsField (turn_fields turn)
turn_fields_are turn is = (kind_field turn.kind, (number_field turn.key is.0, (number_field turn.number is.1, tt)))

-- nothing behind it
pub alone_is : {A : Type 0} (what : A) (rest : List (List ℕ)) (said : A) → alone what rest ≡ Some said → (rest ≡ []) × (what ≡ said)
alone_is what [] said h = (refl, same_Some what said h)
alone_is what (field ∷ more) said h = cc

pub sole_turn_takes : (fields : List (List ℕ)) (turn : TurnOf) → sole_turn_of fields ≡ Some turn → (fields ≡ turn_fields turn) × IsNamable turn
sole_turn_takes fields turn h = option_and_then_some (λ (named : TurnOf × List (List ℕ)). alone named.0 named.1) (turn_of fields) turn h (λ named is_named given.
    let last = alone_is named.0 named.1 turn given in
    let parts = turn_takes fields named is_named in
    let whole : fields ≡ turn_fields named.0 = parts.0 ∙ ap (λ rest. turn_fields named.0 ++ rest) last.0 in
    subst (λ one. (fields ≡ turn_fields one) × IsNamable one) last.1 (whole, parts.1))

pub sole_turn_again : (turn : TurnOf) → IsNamable turn → sole_turn_of (turn_fields turn) ≡ Some turn
sole_turn_again turn is = ap (option_and_then (λ (named : TurnOf × List (List ℕ)). alone named.0 named.1)) (turn_again turn [] is)

-- the fields are those of the ending
abbrev IsWritten : List (List ℕ) → PlainEnding → Type 0
IsWritten fields ending = (fields ≡ ending_fields ending) × IsSayable ending

text_behind : (word : List ℕ) (make : List ℕ → PlainEnding) → ((text : List ℕ) → word ∷ text ∷ [] ≡ ending_fields (make text)) → ((text : List ℕ) → IsText text → IsSayable (make text)) → TakesAs IsWritten word (λ rest. option_map make (sole_text_of rest))
text_behind word make spelled sayable rest ending each h =
    let read = mapped make (sole_text_of rest) ending h in
    let parts = sole_text_takes rest read.0 each read.1 in
    let whole : word ∷ rest ≡ ending_fields (make read.0) = ap (λ fields. word ∷ fields) parts.0 ∙ spelled read.0 in
    subst (IsWritten (word ∷ rest)) read.2 (whole, sayable read.0 parts.1)

bare : (word : List ℕ) (ending : PlainEnding) → word ∷ [] ≡ ending_fields ending → IsSayable ending → TakesAs IsWritten word (alone ending)
bare word ending spelled sayable rest given each h =
    let parts = alone_is ending rest given h in
    subst (IsWritten (word ∷ rest)) parts.1 (ap (λ fields. word ∷ fields) parts.0 ∙ spelled, sayable)

endings_take : AllByRecursion (λ entry. TakesAs IsWritten entry.0 entry.1) ending_words
endings_take = (
  text_behind (codes "value") Value (λ text. refl) (λ text is. is),
  (
    bare (codes "nothing") Nothing refl tt,
    (
      text_behind (codes "failed") Failed (λ text. refl) (λ text is. is),
      (text_behind (codes "put") Put (λ text. refl) (λ text is. is), (bare (codes "remove") Remove refl tt, (bare (codes "nop") Nop refl tt, tt))),
    ),
  ),
)

-- the ending that fields write is written so
pub ending_takes : (fields : List (List ℕ)) (ending : PlainEnding) → AllByRecursion IsField fields → ending_of fields ≡ Some ending → (fields ≡ ending_fields ending) × IsSayable ending
ending_takes [] ending each h = cc
ending_takes (word ∷ rest) ending each h = read_by_takes IsWritten ending_words word endings_take rest ending each.1 h

pub ending_again : (ending : PlainEnding) → IsSayable ending → ending_of (ending_fields ending) ≡ Some ending
ending_again (Value value) is = rw (text_again value is) refl
ending_again Nothing is = refl
ending_again (Failed text) is = rw (text_again text is) refl
ending_again (Put value) is = rw (text_again value is) refl
ending_again Remove is = refl
ending_again Nop is = refl

pub ending_fields_are : (ending : PlainEnding) → IsSayable ending → AllByRecursion IsField (ending_fields ending)
ending_fields_are (Value value) is = (word_field (codes "value") refl, (text_field value is, tt))
ending_fields_are Nothing is = (word_field (codes "nothing") refl, tt)
ending_fields_are (Failed text) is = (word_field (codes "failed") refl, (text_field text is, tt))
ending_fields_are (Put value) is = (word_field (codes "put") refl, (text_field value is, tt))
ending_fields_are Remove is = (word_field (codes "remove") refl, tt)
ending_fields_are Nop is = (word_field (codes "nop") refl, tt)
