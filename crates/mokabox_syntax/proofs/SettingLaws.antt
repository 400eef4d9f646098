use Rattle.std.proofs.Common.{suc, ◌≡◌, ◌≢◌, ◌<◌, ◌^◌, ℕ, ◌∷◌, ◌++◌, [], List, length, eqb, get_or, Bool, true, false, cond, Option, Some, None, IfSome, map, option_map, option_and_then, codes, refl, sym, ap, ◌∙◌, subst, arith, Bor, lit<}
use Rattle.std.specs.List.{AllByRecursion, join_with_byte}
use Rattle.std.specs.Fmt.{decimal}
use Rattle.std.specs.Str.{bytes_eq}
use Rattle.std.proofs.lemmas.Bool.{eqb-true, ne_eqb}
use Rattle.std.proofs.lemmas.List.Splits.{join_with_byte-slice_split}
use Rattle.std.proofs.lemmas.Option.{option_and_then_some, same_Some}
use Rattle.std.proofs.lemmas.Slice.Eq.{bytes_eq-Decides}
use Rattle.std.proofs.lemmas.Str.Pattern.{IsSplitOnceResult, split_parts}
use Rattle.mokabox_syntax.specs.declared.settings.Eviction.{Eviction}
use Rattle.mokabox_syntax.specs.declared.settings.Eviction.TheVariants.{Lru, TinyLfu}
use Rattle.mokabox_syntax.specs.declared.settings.Setting.{Setting}
use Rattle.mokabox_syntax.specs.declared.settings.Setting.TheVariants.{TimeToLive, TimeToIdle, FirstNumber, Capacity, InitialCapacity, Segments, Policy, Weigher, Closures, FlushLimit}
use Rattle.mokabox_syntax.specs.declared.settings.Settings.{Settings}
use Rattle.mokabox_syntax.specs.declared.settings.Weighing.{Weighing}
use Rattle.mokabox_syntax.specs.declared.settings.Weighing.TheVariants.{Bytes}
use Rattle.mokabox_syntax.specs.Settings.{eviction_text, eviction_of, weighing_text, weighing_of, setting_text, first_line_of, IsGivable, none_given, with_setting, settings_with_all, settings_together, halves, names, value_by, setting_of, settings_from, settings_of, settings_by}
use Rattle.mokabox_syntax.specs.Fields.{fields_of, number_of}
use Rattle.mokabox_syntax.proofs.Truth.{mapped}
use Rattle.mokabox_syntax.proofs.NumberLaws.{number_takes, number_again}
use Rattle.mokabox_syntax.proofs.FieldTexts.{IsField, says_takes, says_again, number_field, word_field, joined_field}

-- a list without an equals sign has no halves
no_halves : (bytes : List ℕ) → ((i : ℕ) → i < length bytes → get_or bytes i 0 ≢ 61) → None ≡ halves bytes
no_halves [] none = refl
no_halves (byte ∷ bytes) none =
    let first : eqb byte 61 ≡ false = ne_eqb byte 61 (none 0 (omega arith)) in
    let rest : halves bytes ≡ None = sym (no_halves bytes (λ i within. none (suc i) (omega arith))) in
    rw (first, rest) refl

-- the halves round the first equals sign
halves_at : (name value : List ℕ) → ((i : ℕ) → i < length name → get_or name i 0 ≢ 61) → halves (name ++ 61 ∷ value) ≡ Some (name, value)
halves_at [] value none = refl
halves_at (byte ∷ name) value none =
    let first : eqb byte 61 ≡ false = ne_eqb byte 61 (none 0 (omega arith)) in
    let rest : halves (name ++ 61 ∷ value) ≡ Some (name, value) = halves_at name value (λ i within. none (suc i) (omega arith)) in
    rw (first, rest) refl

-- what `split_once` gives at an equals sign
pub split_halves : (field : List ℕ) (r : Option (Bor (List ℕ) × Bor (List ℕ))) → IsSplitOnceResult 61 field r → option_map (λ x. (x.0.now, x.1.now)) r ≡ halves field
split_halves field None h = no_halves field (split_parts 61 field None h (lit< tt))
split_halves field (Some x) h =
    let parts = split_parts 61 field (Some x) h (lit< tt) in
    sym (ap halves parts.0 ∙ halves_at x.0.now x.1.now parts.1)

-- the halves of a field and the equals sign between them are the field
halves_take : (field : List ℕ) (parts : List ℕ × List ℕ) → halves field ≡ Some parts → field ≡ parts.0 ++ 61 ∷ parts.1
halves_take [] parts h = cc
halves_take (byte ∷ bytes) parts h = either (eqb byte 61) refl h (halves_take bytes) where
  either : (test : Bool) → eqb byte 61 ≡ test → cond test (Some ([], bytes)) (option_map (λ rest. (byte ∷ rest.0, rest.1)) (halves bytes)) ≡ Some parts → ((rest : List ℕ × List ℕ) → halves bytes ≡ Some rest → bytes ≡ rest.0 ++ 61 ∷ rest.1) → byte ∷ bytes ≡ parts.0 ++ 61 ∷ parts.1
  either true e given later =
      let same : ([], bytes) ≡ parts = same_Some ([], bytes) parts given in
      subst (λ p. byte ∷ bytes ≡ p.0 ++ 61 ∷ p.1) same (ap (λ b. b ∷ bytes) (eqb-true byte 61 e))
  either false e given later =
      let read = mapped (λ rest. (byte ∷ rest.0, rest.1)) (halves bytes) parts given in
      subst (λ p. byte ∷ bytes ≡ p.0 ++ 61 ∷ p.1) read.2 (ap (λ rest. byte ∷ rest) (later read.0 read.1))

-- what is read of a value is a setting that is written so
abbrev ValueTakes : List ℕ → (List ℕ → Option Setting) → Type 0
ValueTakes name read = (value : List ℕ) (setting : Setting) → read value ≡ Some setting → (name ++ 61 ∷ value ≡ setting_text setting) × IsGivable setting

numbered : (name : List ℕ) (make : ℕ → Setting) → ((n : ℕ) → name ++ 61 ∷ decimal n ≡ setting_text (make n)) → ((n : ℕ) → n < 2 ^ 64 → IsGivable (make n)) → ValueTakes name (λ value. option_map make (number_of value))
numbered name make spelled givable value setting h =
    let read = mapped make (number_of value) setting h in
    let parts = number_takes value read.0 read.1 in
    subst (λ x. (name ++ 61 ∷ value ≡ setting_text x) × IsGivable x) read.2 (ap (λ digits. name ++ 61 ∷ digits) parts.0 ∙ spelled read.0, givable read.0 parts.1)

eviction_takes : (name : List ℕ) (eviction : Eviction) → eviction_of name ≡ Some eviction → name ≡ eviction_text eviction
eviction_takes name eviction h = either (bytes_eq name (codes "lru")) (bytes_eq name (codes "tinylfu")) refl refl h where
  either : (lru tiny : Bool) → bytes_eq name (codes "lru") ≡ lru → bytes_eq name (codes "tinylfu") ≡ tiny → cond lru (Some Lru) (cond tiny (Some TinyLfu) None) ≡ Some eviction → name ≡ eviction_text eviction
  either true tiny e f given = (bytes_eq-Decides name (codes "lru")).0 e ∙ ap eviction_text (same_Some Lru eviction given)
  either false true e f given = (bytes_eq-Decides name (codes "tinylfu")).0 f ∙ ap eviction_text (same_Some TinyLfu eviction given)
  either false false e f given = cc

weighing_takes : (name : List ℕ) (weighing : Weighing) → weighing_of name ≡ Some weighing → name ≡ weighing_text weighing
weighing_takes name Bytes h = either (bytes_eq name (codes "bytes")) refl h where
  either : (test : Bool) → bytes_eq name (codes "bytes") ≡ test → cond test (Some Bytes) None ≡ Some Bytes → name ≡ codes "bytes"
  either true e given = (bytes_eq-Decides name (codes "bytes")).0 e
  either false e given = cc

policy_takes : ValueTakes (codes "policy") (λ value. option_map Policy (eviction_of value))
policy_takes value setting h =
    let read = mapped Policy (eviction_of value) setting h in
    subst (λ x. (codes "policy" ++ 61 ∷ value ≡ setting_text x) × IsGivable x) read.2 (ap (λ name. codes "policy" ++ 61 ∷ name) (eviction_takes value read.0 read.1), tt)

weigher_takes : ValueTakes (codes "weigher") (λ value. option_map Weigher (weighing_of value))
weigher_takes value setting h =
    let read = mapped Weigher (weighing_of value) setting h in
    subst (λ x. (codes "weigher" ++ 61 ∷ value ≡ setting_text x) × IsGivable x) read.2 (ap (λ name. codes "weigher" ++ 61 ∷ name) (weighing_takes value read.0 read.1), tt)

names_take : AllByRecursion (λ entry. ValueTakes entry.0 entry.1) names
names_take = (
  numbered (codes "ttl") TimeToLive (λ n. refl) (λ n small. small),
  (
    numbered (codes "tti") TimeToIdle (λ n. refl) (λ n small. small),
    (
      numbered (codes "first") FirstNumber (λ n. refl) (λ n small. small),
      (
        numbered (codes "capacity") Capacity (λ n. refl) (λ n small. small),
        (
          numbered (codes "initial") InitialCapacity (λ n. refl) (λ n small. small),
          (
            numbered (codes "segments") Segments (λ n. refl) (λ n small. small),
            (
              policy_takes,
              (
                weigher_takes,
                (numbered (codes "flush") FlushLimit (λ n. refl) (λ n small. small), tt),
              ),
            ),
          ),
        ),
      ),
    ),
  ),
)

value_by_takes : (entries : List (List ℕ × (List ℕ → Option Setting))) (name : List ℕ) → AllByRecursion (λ entry. ValueTakes entry.0 entry.1) entries → ValueTakes name (value_by entries name)
value_by_takes [] name take value setting h = cc
value_by_takes (entry ∷ entries) name take value setting h = either (bytes_eq name entry.0) refl h (value_by_takes entries name take.1 value setting) where
  either : (test : Bool) → bytes_eq name entry.0 ≡ test → cond test (entry.1 value) (value_by entries name value) ≡ Some setting → (value_by entries name value ≡ Some setting → (name ++ 61 ∷ value ≡ setting_text setting) × IsGivable setting) → (name ++ 61 ∷ value ≡ setting_text setting) × IsGivable setting
  either true e given later =
      let same : name ≡ entry.0 = (bytes_eq-Decides name entry.0).0 e in
      subst (λ w. (w ++ 61 ∷ value ≡ setting_text setting) × IsGivable setting) (sym same) (take.0 value setting given)
  either false e given later = later given

-- a field that is read as a setting is what it is written as
setting_takes : (field : List ℕ) (setting : Setting) → setting_of field ≡ Some setting → (field ≡ setting_text setting) × IsGivable setting
unfolding setting_of
setting_takes field setting h = either (bytes_eq field (codes "closures")) refl h where
  either : (test : Bool) → bytes_eq field (codes "closures") ≡ test → cond test (Some Closures) (option_and_then (λ parts. value_by names parts.0 parts.1) (halves field)) ≡ Some setting → (field ≡ setting_text setting) × IsGivable setting
  either true e given =
      let same : field ≡ codes "closures" = (bytes_eq-Decides field (codes "closures")).0 e in
      subst (λ x. (field ≡ setting_text x) × IsGivable x) (same_Some Closures setting given) (same, tt)
  either false e given = option_and_then_some (λ parts. value_by names parts.0 parts.1) (halves field) setting given (λ parts cut rest.
      let read = value_by_takes names parts.0 names_take parts.1 setting rest in
      (halves_take field parts cut ∙ read.0, read.1))

-- what a setting is written as is read as that setting
setting_again : (setting : Setting) → IsGivable setting → setting_of (setting_text setting) ≡ Some setting
unfolding setting_of
setting_again (TimeToLive seconds) small = rw (number_again seconds small) refl
setting_again (TimeToIdle seconds) small = rw (number_again seconds small) refl
setting_again (FirstNumber number) small = rw (number_again number small) refl
setting_again (Capacity most) small = rw (number_again most small) refl
setting_again (InitialCapacity count) small = rw (number_again count small) refl
setting_again (Segments count) small = rw (number_again count small) refl
setting_again (Policy Lru) givable = refl
setting_again (Policy TinyLfu) givable = refl
setting_again (Weigher Bytes) givable = refl
setting_again Closures givable = refl
setting_again (FlushLimit most) small = rw (number_again most small) refl

-- the fields that are read as settings are what they are written as
abbrev AreGiven : List (List ℕ) → Settings → Settings → Type 0
AreGiven fields before after = (given : List Setting) × AllByRecursion IsGivable given × (map setting_text given ≡ fields) × (settings_with_all before given ≡ Some after)

settings_take : (fields : List (List ℕ)) (before after : Settings) → settings_from before fields ≡ Some after → AreGiven fields before after
settings_take [] before after h = ([], tt, refl, h)
settings_take (field ∷ fields) before after h =
    option_and_then_some (λ setting. option_and_then (λ now. settings_from now fields) (with_setting before setting)) (setting_of field) after h (λ setting is_setting given.
    option_and_then_some (λ now. settings_from now fields) (with_setting before setting) after given (λ now is_now rest.
    let first = setting_takes field setting is_setting in
    let others = settings_take fields now after rest in
    let texts : map setting_text (setting ∷ others.0) ≡ field ∷ fields = ap (λ text. text ∷ map setting_text others.0) (sym first.0) ∙ ap (λ more. field ∷ more) others.2 in
    let all : settings_with_all before (setting ∷ others.0) ≡ Some after = rw is_now others.3 in
    (setting ∷ others.0, (first.1, others.1), texts, all)))

same_then : {A B : Type 0} (f g : A → Option B) (o : Option A) → ((x : A) → f x ≡ g x) → option_and_then f o ≡ option_and_then g o
same_then f g None same = refl
same_then f g (Some x) same = same x

-- what settings are written as is read as what they say together
settings_again : (given : List Setting) (before : Settings) → AllByRecursion IsGivable given → settings_from before (map setting_text given) ≡ settings_with_all before given
settings_again [] before givable = refl
settings_again (setting ∷ more) before givable =
    let first : setting_of (setting_text setting) ≡ Some setting = setting_again setting givable.0 in
    rw first (same_then (λ now. settings_from now (map setting_text more)) (λ now. settings_with_all now more) (with_setting before setting) (λ now. settings_again more now givable.1))

setting_field : (setting : Setting) → IsGivable setting → IsField (setting_text setting)
setting_field (TimeToLive seconds) small = joined_field (codes "ttl=") (decimal seconds) (word_field (codes "ttl=") refl) (number_field seconds small)
setting_field (TimeToIdle seconds) small = joined_field (codes "tti=") (decimal seconds) (word_field (codes "tti=") refl) (number_field seconds small)
setting_field (FirstNumber number) small = joined_field (codes "first=") (decimal number) (word_field (codes "first=") refl) (number_field number small)
setting_field (Capacity most) small = joined_field (codes "capacity=") (decimal most) (word_field (codes "capacity=") refl) (number_field most small)
setting_field (InitialCapacity count) small = joined_field (codes "initial=") (decimal count) (word_field (codes "initial=") refl) (number_field count small)
setting_field (Segments count) small = joined_field (codes "segments=") (decimal count) (word_field (codes "segments=") refl) (number_field count small)
setting_field (Policy Lru) givable = word_field (codes "policy=lru") refl
setting_field (Policy TinyLfu) givable = word_field (codes "policy=tinylfu") refl
setting_field (Weigher Bytes) givable = word_field (codes "weigher=bytes") refl
setting_field Closures givable = word_field (codes "closures") refl
setting_field (FlushLimit most) small = joined_field (codes "flush=") (decimal most) (word_field (codes "flush=") refl) (number_field most small)

setting_fields : (given : List Setting) → AllByRecursion IsGivable given → AllByRecursion IsField (map setting_text given)
setting_fields [] givable = tt
setting_fields (setting ∷ more) givable = (setting_field setting givable.0, setting_fields more givable.1)

-- the first line that settings are written as is read as what they say together
pub first_again : (given : List Setting) → AllByRecursion IsGivable given → settings_by (first_line_of given) ≡ settings_together given
first_again given givable =
    says_again settings_of (codes "new" ∷ map setting_text given) (omega arith) (word_field (codes "new") refl, setting_fields given givable)
    ∙ settings_again given none_given givable

first_takes : (fields : List (List ℕ)) (settings : Settings) → settings_of fields ≡ Some settings → (given : List Setting) × AllByRecursion IsGivable given × (fields ≡ codes "new" ∷ map setting_text given) × (settings_together given ≡ Some settings)
first_takes [] settings h = cc
first_takes (word ∷ fields) settings h = either (bytes_eq word (codes "new")) refl h where
  either : (test : Bool) → bytes_eq word (codes "new") ≡ test → cond test (settings_from none_given fields) None ≡ Some settings → (given : List Setting) × AllByRecursion IsGivable given × (word ∷ fields ≡ codes "new" ∷ map setting_text given) × (settings_together given ≡ Some settings)
  either true e given =
      let same : word ≡ codes "new" = (bytes_eq-Decides word (codes "new")).0 e in
      let read = settings_take fields none_given settings given in
      (read.0, read.1, ap (λ w. w ∷ fields) same ∙ ap (λ more. codes "new" ∷ more) (sym read.2), read.3)
  either false e given = cc

-- a first line that is read gives settings that say what it was read as
pub first_found : (line : List ℕ) (r : Option Settings) → r ≡ settings_by line → IfSome r (λ settings. (given : List Setting) × AllByRecursion IsGivable given × (line ≡ first_line_of given) × (settings_together given ≡ Some settings))
first_found line None h = tt
first_found line (Some settings) h =
    let read = says_takes settings_of line settings (sym h) in
    let found = first_takes (fields_of line) settings read.1 in
    (found.0, found.1, sym (join_with_byte-slice_split 32 line) ∙ ap (join_with_byte 32) found.2, found.3)
