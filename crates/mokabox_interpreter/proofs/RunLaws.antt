-- The steps of a run, as the calls of its reader, its session and its writer say them.
use Rattle.std.proofs.Common.{◌≡◌, ◌<◌, ℕ, Bool, true, false, ◌||◌, List, [], ◌∷◌, length, Option, Some, None, unwrap_or, Result, Ok, IfOk, IfSome, codes, refl, sym, ap, ◌∙◌, subst, inl, inr}
use Rattle.std.specs.Io.BufRead.{drop_through, first_piece, DropsThrough}
use Rattle.std.specs.Io.KnownBytes.{Appends, Keeps}
use Rattle.mokabox_interpreter.proofs.LineLaws.{IsRunning, run_step, or_when_true, or_when_false, lines_first, one_written, appends-appends, if_some}
use Rattle.mokabox_syntax.specs.OutputLine.{written_line}
use Rattle.mokabox_syntax.specs.Command.{PlainCommand, command_by_line}
use Rattle.mokabox_syntax.specs.declared.output_line.OutputLine.TheVariants as outputs
use Rattle.moka_policy.specs.declared.builder_utils.BuildError.{BuildError}
use Rattle.moka_policy.specs.declared.builder_utils.BuildError.TheVariants.{OutOfMemory}
use Rattle.mokabox_syntax.specs.declared.settings.Settings.{Settings}
use Rattle.mokabox_interpreter.specs.Script.{CacheSettings, Course, LinePrints, LinesPrint, FirstPrints, ScriptPrints, lines_of, lines_text, cache_settings, settings_refused, not_built, beginning, status_of}
use Rattle.mokabox_interpreter.specs.Session.{CacheData, IsAt, Prints, DoesLine}
use Rattle.mokabox_syntax.specs.Settings.{settings_by}

-- a bad line is done
pub bad_line_done : (cache : CacheData) (moment : ℕ) (line : List ℕ) (held held_after : Option (List ℕ)) → None ≡ command_by_line line → Appends held held_after (written_line outputs.BadLine) → DoesLine cache moment line true cache moment held held_after
bad_line_done cache moment line held held_after bad written settings before is =
    (codes "bad line" ∷ [], before, subst (λ o. LinePrints settings before o (codes "bad line" ∷ []) before true) bad (refl, refl, refl), is, one_written held held_after (codes "bad line") written)

-- a command is done
pub command_done : (cache cache_after : CacheData) (moment moment_after : ℕ) (line : List ℕ) (command : PlainCommand) (printed : List (List ℕ)) (held held_after : Option (List ℕ)) → Some command ≡ command_by_line line → Prints cache moment command printed cache_after moment_after → Appends held held_after (lines_text printed) → DoesLine cache moment line false cache_after moment_after held held_after
command_done cache cache_after moment moment_after line command printed held held_after is_said prints written settings before is =
    let done = prints settings before is in
    (printed, done.0, subst (λ o. LinePrints settings before o printed done.0 false) is_said (done.1, refl), done.2, written)

-- the next line of a run
next_line : {A E : Type 0} (items : A → List ℕ) (item : Result A E) (line : A) (bytes : List ℕ) (known_before known known_after : Option (List ℕ)) (cache_before cache cache_after : CacheData) (moment_before moment moment_after : ℕ) (bad bad_line : Bool) (byte byte_after : ℕ) (held_before held held_after : Option (List ℕ)) → IsRunning known_before known cache_before moment_before cache moment bad byte held_before held → byte_after ≡ byte → IfOk item (λ x. IfSome known (λ xs. (0 < length xs) × (items x ≡ first_piece byte xs)) × DropsThrough known known_after byte) → item ≡ Ok line → bytes ≡ items line → DoesLine cache moment bytes bad_line cache_after moment_after held held_after → IsRunning known_before known_after cache_before moment_before cache_after moment_after (bad || bad_line) byte_after held_before held_after
next_line items item line bytes known_before known known_after cache_before cache cache_after moment_before moment moment_after bad bad_line byte byte_after held_before held held_after running same_byte piece is_ok same does =
    let parts : IfSome known (λ xs. (0 < length xs) × (items line ≡ first_piece byte xs)) × DropsThrough known known_after byte = subst (λ r. IfOk r (λ x. IfSome known (λ xs. (0 < length xs) × (items x ≡ first_piece byte xs)) × DropsThrough known known_after byte)) is_ok piece in
    let done : DoesLine cache moment (items line) bad_line cache_after moment_after held held_after = subst (λ b. DoesLine cache moment b bad_line cache_after moment_after held held_after) same does in
    run_step items known_before known known_after cache_before cache cache_after moment_before moment moment_after bad bad_line byte byte_after held_before held held_after line running same_byte parts.0 parts.1 done

-- the next line where one was bad before
pub next_after_bad : {A E : Type 0} (items : A → List ℕ) (item : Result A E) (line : A) (bytes : List ℕ) (known_before known known_after : Option (List ℕ)) (cache_before cache cache_after : CacheData) (moment_before moment moment_after : ℕ) (bad bad_line : Bool) (byte byte_after : ℕ) (held_before held held_after : Option (List ℕ)) → IsRunning known_before known cache_before moment_before cache moment bad byte held_before held → byte_after ≡ byte → IfOk item (λ x. IfSome known (λ xs. (0 < length xs) × (items x ≡ first_piece byte xs)) × DropsThrough known known_after byte) → item ≡ Ok line → bytes ≡ items line → DoesLine cache moment bytes bad_line cache_after moment_after held held_after → bad ≡ true → IsRunning known_before known_after cache_before moment_before cache_after moment_after bad byte_after held_before held_after
next_after_bad items item line bytes known_before known known_after cache_before cache cache_after moment_before moment moment_after bad bad_line byte byte_after held_before held held_after running same_byte piece is_ok same does was_bad =
    subst (λ b. IsRunning known_before known_after cache_before moment_before cache_after moment_after b byte_after held_before held_after) (or_when_true bad bad_line was_bad)
    (next_line items item line bytes known_before known known_after cache_before cache cache_after moment_before moment moment_after bad bad_line byte byte_after held_before held held_after running same_byte piece is_ok same does)

-- the next line where none was bad before
pub next_after_good : {A E : Type 0} (items : A → List ℕ) (item : Result A E) (line : A) (bytes : List ℕ) (known_before known known_after : Option (List ℕ)) (cache_before cache cache_after : CacheData) (moment_before moment moment_after : ℕ) (bad bad_line : Bool) (byte byte_after : ℕ) (held_before held held_after : Option (List ℕ)) → IsRunning known_before known cache_before moment_before cache moment bad byte held_before held → byte_after ≡ byte → IfOk item (λ x. IfSome known (λ xs. (0 < length xs) × (items x ≡ first_piece byte xs)) × DropsThrough known known_after byte) → item ≡ Ok line → bytes ≡ items line → DoesLine cache moment bytes bad_line cache_after moment_after held held_after → bad ≡ false → IsRunning known_before known_after cache_before moment_before cache_after moment_after bad_line byte_after held_before held_after
next_after_good items item line bytes known_before known known_after cache_before cache cache_after moment_before moment moment_after bad bad_line byte byte_after held_before held held_after running same_byte piece is_ok same does was_good =
    subst (λ b. IsRunning known_before known_after cache_before moment_before cache_after moment_after b byte_after held_before held_after) (or_when_false bad bad_line was_good)
    (next_line items item line bytes known_before known known_after cache_before cache cache_after moment_before moment moment_after bad bad_line byte byte_after held_before held held_after running same_byte piece is_ok same does)

-- a bad first line
pub first_bad : (settings : Option Settings) (known held held_after : Option (List ℕ)) → settings ≡ None → Appends held held_after (written_line outputs.BadLine) → IfSome known (λ input. (printed : List (List ℕ)) × FirstPrints settings (lines_of input) printed 2 × Appends held held_after (lines_text printed))
first_bad settings known held held_after none written = if_some known (λ input.
    (codes "bad line" ∷ [], subst (λ o. FirstPrints o (lines_of input) (codes "bad line" ∷ []) 2) (sym none) (refl, refl), one_written held held_after (codes "bad line") written))

-- a cache that isn't built
pub first_not_built : (settings : Option Settings) (given : Settings) (refusal : BuildError) (known held held_after : Option (List ℕ)) → settings ≡ Some given → refusal ≡ unwrap_or (settings_refused given) OutOfMemory → Appends held held_after (written_line (outputs.NotBuilt refusal)) → IfSome known (λ input. (printed : List (List ℕ)) × FirstPrints settings (lines_of input) printed 2 × Appends held held_after (lines_text printed))
first_not_built settings given refusal known held held_after some cause written = if_some known (λ input.
    (not_built refusal ∷ [], subst (λ o. FirstPrints o (lines_of input) (not_built refusal ∷ []) 2) (sym some) (inr (ap (λ r. not_built r ∷ []) cause, refl)), one_written held held_after (not_built refusal) written))

-- a first line that is done, and the lines after it
pub first_done : (settings : Option Settings) (given : Settings) (known held held_mid held_after : Option (List ℕ)) (cache : CacheData) (moment : ℕ) (bad : Bool) (code : ℕ) → settings ≡ Some given → settings_refused given ≡ None → IsAt cache moment (cache_settings given) beginning → Appends held held_mid (written_line outputs.Done) → ((cached : CacheSettings) (before : Course) → IsAt cache moment cached before → IfSome known (λ input. (printed : List (List ℕ)) × LinesPrint cached before (lines_of input) printed bad × Appends held_mid held_after (lines_text printed))) → code ≡ status_of bad → IfSome known (λ input. (printed : List (List ℕ)) × FirstPrints settings (lines_of input) printed code × Appends held held_after (lines_text printed))
first_done settings given None held held_mid held_after cache moment bad code some fits begins written rest is_code = tt
first_done settings given (Some input) held held_mid held_after cache moment bad code some fits begins written rest is_code =
    let later = rest (cache_settings given) beginning begins in (
      codes "ok" ∷ later.0,
      subst (λ o. FirstPrints o (lines_of input) (codes "ok" ∷ later.0) code) (sym some) (inl (later.0, bad, fits, refl, later.1, is_code)),
      appends-appends held held_mid held_after (codes "ok" ∷ []) later.0 (one_written held held_mid (codes "ok") written) later.2,
    )

-- what stays is appended no more
appends-preserved : (old mid new : Option (List ℕ)) (bytes : List ℕ) → Appends old mid bytes → Keeps mid new → Appends old new bytes
appends-preserved None mid new bytes a k = tt
appends-preserved (Some xs) None new bytes a k = absurd a
appends-preserved (Some xs) (Some ys) None bytes a k = absurd k
appends-preserved (Some xs) (Some ys) (Some zs) bytes a k = k ∙ a

-- a script with a first line
pub script_done : {A E : Type 0} (items : A → List ℕ) (item : Result A E) (first : A) (bytes : List ℕ) (settings : Option Settings) (all known known_after held held_mid held_after : Option (List ℕ)) (byte code : ℕ) → known ≡ all → byte ≡ 10 → IfOk item (λ x. IfSome known (λ xs. (0 < length xs) × (items x ≡ first_piece byte xs)) × DropsThrough known known_after byte) → item ≡ Ok first → bytes ≡ items first → settings ≡ settings_by bytes → IfSome known_after (λ input. (printed : List (List ℕ)) × FirstPrints settings (lines_of input) printed code × Appends held held_mid (lines_text printed)) → Keeps held_mid held_after → IfSome all (λ input. (printed : List (List ℕ)) × ScriptPrints (lines_of input) printed code × Appends held held_after (lines_text printed))
script_done items item first bytes settings None known known_after held held_mid held_after byte code same ends piece is_ok is_bytes is_settings prints keeps = tt
script_done {A} {E} items item first bytes settings (Some input) known known_after held held_mid held_after byte code same ends piece is_ok is_bytes is_settings prints keeps =
    let parts : IfSome known (λ xs. (0 < length xs) × (items first ≡ first_piece byte xs)) × DropsThrough known known_after byte = subst (λ r. IfOk r (λ x. IfSome known (λ xs. (0 < length xs) × (items x ≡ first_piece byte xs)) × DropsThrough known known_after byte)) is_ok piece in
    let gives : IfSome (Some input) (λ xs. (0 < length xs) × (items first ≡ first_piece 10 xs)) = subst (λ b. IfSome (Some input) (λ xs. (0 < length xs) × (items first ≡ first_piece b xs))) ends (subst (λ k. IfSome k (λ xs. (0 < length xs) × (items first ≡ first_piece byte xs))) same parts.0) in
    let drops : known_after ≡ Some (drop_through 10 input) = subst (λ b. DropsThrough (Some input) known_after b) ends (subst (λ k. DropsThrough k known_after byte) same parts.1) in
    let line : bytes ≡ first_piece 10 input = is_bytes ∙ gives.1 in
    let lines : lines_of input ≡ bytes ∷ lines_of (drop_through 10 input) = lines_first input gives.0 ∙ ap (λ one. one ∷ lines_of (drop_through 10 input)) (sym line) in
    let rest : (printed : List (List ℕ)) × FirstPrints settings (lines_of (drop_through 10 input)) printed code × Appends held held_mid (lines_text printed) = subst (λ k. IfSome k (λ input. (printed : List (List ℕ)) × FirstPrints settings (lines_of input) printed code × Appends held held_mid (lines_text printed))) drops prints in
    let begun : FirstPrints (settings_by bytes) (lines_of (drop_through 10 input)) rest.0 code = subst (λ o. FirstPrints o (lines_of (drop_through 10 input)) rest.0 code) is_settings rest.1 in
    (rest.0, subst (λ ls. ScriptPrints ls rest.0 code) (sym lines) begun, appends-preserved held held_mid held_after (lines_text rest.0) rest.2 keeps)
