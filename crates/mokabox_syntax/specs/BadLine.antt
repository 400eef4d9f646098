-- Why a line is bad, by its fields, and how that is reported.
use Rattle.std.specs.Prelude.{ℕ, List, [], ◌∷◌, ◌++◌, Some, codes, unwrap_or, if◌then◌else◌}
use Rattle.std.specs.Fmt.{decimal}
use Rattle.std.specs.Str.{bytes_eq}
use Rattle.mokabox_syntax.specs.Fields.{fields_of, is_one_of, line_reading}
use Rattle.mokabox_syntax.specs.declared.bad_line.Reason.{Reason}
use Rattle.mokabox_syntax.specs.declared.bad_line.Reason.TheVariants.{NotUtf8, EmptyField, NotNew, NoSetting, NoCommand, WrongFields}

-- The words of a reason.
abbrev pub reason_text : Reason → List ℕ
reason_text NotUtf8 = codes "it is not UTF-8"
reason_text EmptyField = codes "a field is empty"
reason_text NotNew = codes "the first line does not begin with the word new"
reason_text NoSetting = codes "a setting is unknown or wrong, or is there twice"
reason_text NoCommand = codes "no command has this name"
reason_text WrongFields = codes "these are not the fields of this command"

-- The report of a bad line, with its end.
abbrev pub report_line : ℕ → Reason → List ℕ
report_line number reason = codes "mokabox: line " ++ (decimal number ++ (codes ": " ++ (reason_text reason ++ (10 ∷ []))))

-- The names of all commands.
abbrev pub command_names : List (List ℕ)
command_names = fields_of (codes "at insert or-insert get has invalidate remove invalidate-all " ++ (
    codes "invalidate-if tasks tasks-up-to count weight notices policy walk " ++ codes "begin finish abandon collect leave"))

-- Why fields are no command, if none of them is empty: by the first of them.
abbrev pub reason_of_name : List (List ℕ) → Reason
reason_of_name [] = NoCommand
reason_of_name (name ∷ rest) = if is_one_of name command_names then WrongFields else NoCommand

-- Why fields are no command.
abbrev pub reason_of_fields : List (List ℕ) → Reason
reason_of_fields fields = if is_one_of [] fields then EmptyField else reason_of_name fields

-- Why a line after the first is no command.
abbrev pub reason_by : List ℕ → Reason
reason_by line = unwrap_or (line_reading (λ fields. Some (reason_of_fields fields)) line) NotUtf8

-- Why fields are no first line, if none of them is empty: by the first of them.
abbrev pub first_reason_of_name : List (List ℕ) → Reason
first_reason_of_name [] = NotNew
first_reason_of_name (name ∷ rest) = if bytes_eq name (codes "new") then NoSetting else NotNew

-- Why fields are no first line.
abbrev pub first_reason_of_fields : List (List ℕ) → Reason
first_reason_of_fields fields = if is_one_of [] fields then EmptyField else first_reason_of_name fields

-- Why a line is no first line.
abbrev pub first_reason_by : List ℕ → Reason
first_reason_by line = unwrap_or (line_reading (λ fields. Some (first_reason_of_fields fields)) line) NotUtf8
