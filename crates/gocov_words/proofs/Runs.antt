-- What values of flags and a last word mean for run.
use Rattle.std.proofs.Common.{◌≡◌, ℕ, ◌+◌, ◌<◌, ◌≤◌, nat_lt, true, false, Bool, cond, not, ◌&&◌, List, [], ◌∷◌, length, Bor, Option, Some, None, Ok, Err, IfSome, is_none, option_map, option_and_then, unwrap_or, slice_get, refl, sym, ap, ◌∙◌, subst, arith, codes}
use Rattle.std.specs.Option.{option_or}
use Rattle.std.specs.Str.{IsUtf8}
use Rattle.std.proofs.lemmas.Bool.{false≢true}
use Rattle.std.proofs.lemmas.Bool.Decides.{nat_tests}
use Rattle.cov_outside.specs.declared.mode.Mode.{Mode}
use Rattle.cov_outside.specs.declared.mode.Mode.TheVariants.{Set, Count, Atomic}
use Rattle.gocov_words.specs.declared.heading.CommandName.TheVariants as commands
use Rattle.gocov_words.specs.declared.command.Command.TheVariants.{Run}
use Rattle.gocov_words.specs.declared.fault.WordsFault.TheVariants as faults
use Rattle.gocov_words.specs.declared.flag.Flag.TheVariants as flag
use Rattle.gocov_words.specs.declared.flags.Value.{Value}
use Rattle.gocov_words.specs.declared.flags.Flags.{Flags}
use Rattle.gocov_words.specs.RunRequest.{RunRequest, IsRunRequest}
use Rattle.gocov_words.specs.Texts.{IsName}
use Rattle.gocov_words.specs.Values.{is_filled, mode_named, bool_in, steps_in, most_steps}
use Rattle.gocov_words.specs.Line.{Given, Line}
use Rattle.gocov_words.specs.Rules.{is_good, value_of, index_of, mode_of, serial_of, is_count, clash, broken}
use Rattle.gocov_words.specs.Read.{given_by}
use Rattle.gocov_words.specs.Data.{text_in}
use Rattle.gocov_words.specs.Asked.{mode_in, serial_in, max_steps_in, clash_in, asked_of_run}
use Rattle.gocov_words.specs.Words.{run_request}
use Rattle.gocov_words.proofs.Digits.{steps_within}
use Rattle.gocov_words.proofs.Covers.{past_of, inside_of}
use Rattle.gocov_words.proofs.Verdicts.{texts, line_in, meaning_in, WasRead, misplaced, count_is, usage_is, asked_is, left_is, value_is, at_is, none_is}

-- the flags that don't go together
abbrev apart : Bool → Option ℕ → Option Mode → Bool → Option ℕ
apart no_directory at mode serial = option_or (cond no_directory at None) (cond (is_count mode && not serial) at None)

clash_is : (words : List (Bor (List ℕ))) (flags : Flags) → WasRead commands.Run words flags → clash commands.Run (line_in commands.Run words).flags ≡ clash_in flags.values
clash_is words flags read =
    ap (λ (b : Bool). apart b (index_of (codes "mode") given) (mode_of given) (serial_of given)) (none_is commands.Run words flags read flag.CoverDirectory)
    ∙ (ap (λ (o : Option ℕ). apart (is_none (text_in flags.values.cover_directory)) o (mode_of given) (serial_of given)) (at_is commands.Run words flags read flag.Mode)
    ∙ (ap (λ (o : Option (List ℕ)). apart (is_none (text_in flags.values.cover_directory)) (option_map (λ (v : Value). v.at) flags.values.mode) (option_and_then mode_named o) (serial_of given)) (value_is commands.Run words flags read flag.Mode)
    ∙ ap (λ (o : Option (List ℕ)). apart (is_none (text_in flags.values.cover_directory)) (option_map (λ (v : Value). v.at) flags.values.mode) (mode_in flags.values.mode) (unwrap_or (option_and_then bool_in o) false)) (value_is commands.Run words flags read flag.Serial)))
  where
    given : List Given
    given = (line_in commands.Run words).flags

or_none : {A : Type 0} (o : Option A) → option_or o None ≡ o
or_none None = refl
or_none (Some x) = refl

run_left : (words : List (Bor (List ℕ))) (flags : Flags) → WasRead commands.Run words flags → None ≡ misplaced commands.Run words flags.end
    → broken commands.Run (line_in commands.Run words) (texts words) ≡ option_or (cond (nat_lt (length words) (flags.end + 1)) (Some (length words)) None) (clash_in flags.values)
run_left words flags read placed =
    left_is commands.Run words flags read placed
    ∙ (ap (λ (n : ℕ). option_or (cond (nat_lt n (flags.end + 1)) (Some n) None) (option_or (clash commands.Run (line_in commands.Run words).flags) None)) (count_is words)
    ∙ (ap (λ (o : Option ℕ). option_or (cond (nat_lt (length words) (flags.end + 1)) (Some (length words)) None) o) (or_none (clash commands.Run (line_in commands.Run words).flags))
    ∙ ap (λ (o : Option ℕ). option_or (cond (nat_lt (length words) (flags.end + 1)) (Some (length words)) None) o) (clash_is words flags read)))

beyond : (count end : ℕ) → count ≤ end → nat_lt count (end + 1) ≡ true
beyond count end h = grind (arith, nat_tests)

within : (count end : ℕ) → end < count → nat_lt count (end + 1) ≡ false
within count end h = grind (arith, nat_tests)

pub no_dir : (words : List (Bor (List ℕ))) (flags : Flags) → WasRead commands.Run words flags → None ≡ misplaced commands.Run words flags.end → None ≡ slice_get (texts words) flags.end
    → meaning_in commands.Run words ≡ Err (faults.Usage (length words))
no_dir words flags read placed dir =
    let past = past_of (texts words) flags.end dir in
    usage_is commands.Run words (length words) (run_left words flags read placed
    ∙ ap (λ (b : Bool). option_or (cond b (Some (length words)) None) (clash_in flags.values)) (beyond (length words) flags.end (omega (arith, past, count_is words))))

dir_there : (words : List (Bor (List ℕ))) (flags : Flags) (dir : List ℕ) (o : Option ℕ) → WasRead commands.Run words flags → None ≡ misplaced commands.Run words flags.end → Some dir ≡ slice_get (texts words) flags.end
    → o ≡ clash_in flags.values → broken commands.Run (line_in commands.Run words) (texts words) ≡ o
dir_there words flags dir o read placed has_dir e =
    let inside = inside_of (texts words) flags.end dir has_dir in
    run_left words flags read placed
    ∙ (ap (λ (b : Bool). option_or (cond b (Some (length words)) None) (clash_in flags.values)) (within (length words) flags.end (omega (arith, inside, count_is words)))
    ∙ sym e)

pub clashes : (words : List (Bor (List ℕ))) (flags : Flags) (dir : List ℕ) (i : ℕ) → WasRead commands.Run words flags → None ≡ misplaced commands.Run words flags.end → Some dir ≡ slice_get (texts words) flags.end
    → Some i ≡ clash_in flags.values → meaning_in commands.Run words ≡ Err (faults.Usage i)
clashes words flags dir i read placed has_dir e = usage_is commands.Run words i (dir_there words flags dir (Some i) read placed has_dir e)

-- THE REQUEST

request_is : (words : List (Bor (List ℕ))) (flags : Flags) (dir : List ℕ) → WasRead commands.Run words flags → run_request (line_in commands.Run words).flags dir ≡ asked_of_run flags.values dir
request_is words flags dir read =
    let made : Option (List ℕ) → Option (List ℕ) → Option (List ℕ) → Option (List ℕ) → RunRequest = λ m c s n.
    record { mode = unwrap_or (option_and_then mode_named m) Set; coverdir = c; serial = unwrap_or (option_and_then bool_in s) false; max_steps = unwrap_or (option_and_then steps_in n) 1000000; dir = dir } in
    ap (λ (m : Option (List ℕ)). made m (value_of (codes "coverdir") given) (value_of (codes "serial") given) (value_of (codes "max-steps") given)) (value_is commands.Run words flags read flag.Mode)
    ∙ (ap (λ (c : Option (List ℕ)). made (text_in flags.values.mode) c (value_of (codes "serial") given) (value_of (codes "max-steps") given)) (value_is commands.Run words flags read flag.CoverDirectory)
    ∙ (ap (λ (s : Option (List ℕ)). made (text_in flags.values.mode) (text_in flags.values.cover_directory) s (value_of (codes "max-steps") given)) (value_is commands.Run words flags read flag.Serial)
    ∙ ap (λ (n : Option (List ℕ)). made (text_in flags.values.mode) (text_in flags.values.cover_directory) (text_in flags.values.serial) n) (value_is commands.Run words flags read flag.MaxSteps)))
  where
    given : List Given
    given = (line_in commands.Run words).flags

pub run_is : (words : List (Bor (List ℕ))) (flags : Flags) (found : List ℕ) (mode : Mode) (coverdir : Option (List ℕ)) (serial : Bool) (max_steps : ℕ) (dir : List ℕ) → WasRead commands.Run words flags → None ≡ misplaced commands.Run words flags.end
    → Some found ≡ slice_get (texts words) flags.end → None ≡ clash_in flags.values
    → mode ≡ unwrap_or (mode_in flags.values.mode) Set → coverdir ≡ text_in flags.values.cover_directory → serial ≡ serial_in flags.values.serial → max_steps ≡ max_steps_in flags.values.max_steps → dir ≡ found
    → meaning_in commands.Run words ≡ Ok (Run (record { mode = mode; coverdir = coverdir; serial = serial; max_steps = max_steps; dir = dir }))
run_is words flags found mode coverdir serial max_steps dir read placed has_dir no_clash mode_is coverdir_is serial_is steps_is dir_is =
    let v = flags.values in
    asked_is commands.Run words (dir_there words flags found None read placed has_dir no_clash)
    ∙ (ap (λ (n : ℕ). Ok (Run (run_request line.flags (unwrap_or (slice_get (texts words) n) [])))) read.end
    ∙ (ap (λ (w : Option (List ℕ)). Ok (Run (run_request line.flags (unwrap_or w [])))) (sym has_dir)
    ∙ (ap (λ (r : RunRequest). Ok (Run r)) (request_is words flags found read)
    ∙ (ap (λ (x : Mode). Ok (Run (record { mode = x; coverdir = text_in v.cover_directory; serial = serial_in v.serial; max_steps = max_steps_in v.max_steps; dir = found }))) (sym mode_is)
    ∙ (ap (λ (x : Option (List ℕ)). Ok (Run (record { mode = mode; coverdir = x; serial = serial_in v.serial; max_steps = max_steps_in v.max_steps; dir = found }))) (sym coverdir_is)
    ∙ (ap (λ (x : Bool). Ok (Run (record { mode = mode; coverdir = coverdir; serial = x; max_steps = max_steps_in v.max_steps; dir = found }))) (sym serial_is)
    ∙ (ap (λ (x : ℕ). Ok (Run (record { mode = mode; coverdir = coverdir; serial = serial; max_steps = x; dir = found }))) (sym steps_is)
    ∙ ap (λ (x : List ℕ). Ok (Run (record { mode = mode; coverdir = coverdir; serial = serial; max_steps = max_steps; dir = x }))) (sym dir_is))))))))
  where
    line : Line
    line = line_in commands.Run words

-- ITS RULES

filled_one : (xs : List ℕ) → is_filled xs ≡ true → 0 < length xs
filled_one [] e = absurd (false≢true e)
filled_one (x ∷ xs) e = omega arith

coverdir_good : (o : Option Value) → IfSome (option_map (given_by flag.CoverDirectory) o) (λ g. is_good commands.Run g ≡ true) → IfSome (text_in o) IsUtf8 → IfSome (text_in o) IsName
coverdir_good None good text = tt
coverdir_good (Some v) good text = record { utf8 = text; filled = filled_one v.text.now good }

-- without a directory no mode is asked for
mode_set : (mode directory : Option Value) (serial : Bool) → None ≡ apart (is_none (text_in directory)) (option_map (λ (v : Value). v.at) mode) (mode_in mode) serial
    → text_in directory ≡ None → unwrap_or (mode_in mode) Set ≡ Set
mode_set None directory serial e none = refl
mode_set (Some m) None serial e none = absurd (cc)
mode_set (Some m) (Some d) serial e none = absurd (cc)

counts_serial : (mode : Option Mode) (at : ℕ) (serial no_directory : Bool) → None ≡ apart no_directory (Some at) mode serial → unwrap_or mode Set ≡ Count → serial ≡ true
counts_serial mode at true no_directory e count = refl
counts_serial mode at false true e count = absurd (cc)
counts_serial None at false false e count = absurd (cc)
counts_serial (Some Set) at false false e count = absurd (cc)
counts_serial (Some Count) at false false e count = absurd (cc)
counts_serial (Some Atomic) at false false e count = absurd (cc)

count_serial : (mode : Option Value) (serial no_directory : Bool) → None ≡ apart no_directory (option_map (λ (v : Value). v.at) mode) (mode_in mode) serial
    → unwrap_or (mode_in mode) Set ≡ Count → serial ≡ true
count_serial None serial no_directory e count = absurd (cc)
count_serial (Some m) serial no_directory e count = counts_serial (mode_in (Some m)) m.at serial no_directory e count

steps_good : (o : Option Value) → (1 ≤ max_steps_in o) × (max_steps_in o ≤ most_steps)
steps_good None = (omega arith, omega arith)
steps_good (Some v) = steps_within v.text.now

pub is_run : (words : List (Bor (List ℕ))) (flags : Flags) (mode : Mode) (coverdir : Option (List ℕ)) (serial : Bool) (max_steps : ℕ) (dir : List ℕ) → WasRead commands.Run words flags → None ≡ clash_in flags.values
    → mode ≡ unwrap_or (mode_in flags.values.mode) Set → coverdir ≡ text_in flags.values.cover_directory → serial ≡ serial_in flags.values.serial → max_steps ≡ max_steps_in flags.values.max_steps
    → IfSome coverdir IsUtf8 → IsUtf8 dir → IsRunRequest (record { mode = mode; coverdir = coverdir; serial = serial; max_steps = max_steps; dir = dir })
is_run words flags mode coverdir serial max_steps dir read no_clash mode_is coverdir_is serial_is steps_is coverdir_text dir_text =
    let v = flags.values in
    let IsText : Option (List ℕ) → Type 0 = λ o. IfSome o IsUtf8 in
    let Named : Option (List ℕ) → Type 0 = λ o. IfSome o IsName in
    let steps = steps_good v.max_steps in
    record {
      coverdir = subst Named (sym coverdir_is) (coverdir_good v.cover_directory (read.values flag.CoverDirectory) (subst IsText coverdir_is coverdir_text));
      mode_of_pod = λ none. mode_is ∙ mode_set v.mode v.cover_directory (serial_in v.serial) no_clash (sym coverdir_is ∙ none);
      serial_count = λ count. serial_is ∙ count_serial v.mode (serial_in v.serial) (is_none (text_in v.cover_directory)) no_clash (sym mode_is ∙ count);
      some_steps = omega (arith, steps_is, steps.0);
      few_steps = omega (arith, steps_is, steps.1);
      dir_text = dir_text;
    }
