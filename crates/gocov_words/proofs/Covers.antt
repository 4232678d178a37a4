-- What values of flags and a last word mean for cover.
use Rattle.std.proofs.Common.{◌≡◌, ℕ, ◌+◌, ◌<◌, ◌≤◌, nat_lt, true, false, Bool, cond, ◌||◌, List, [], ◌∷◌, length, Bor, Option, Some, None, Ok, Err, IfSome, is_none, option_map, option_and_then, unwrap_or, slice_get, refl, sym, ap, ◌∙◌, subst, arith, codes, ⊎_elim}
use Rattle.std.specs.Option.{option_or, option_map_or}
use Rattle.std.specs.Str.{IsUtf8, chars}
use Rattle.unicode.proofs.CategoryComputing.{ucd_category}
use Rattle.std.proofs.lemmas.Bool.{false≢true}
use Rattle.std.proofs.lemmas.Bool.Decides.{nat_tests}
use Rattle.std.proofs.lemmas.Option.{slice_get_cases}
use Rattle.cov_outside.specs.declared.mode.Mode.{Mode}
use Rattle.cov_outside.specs.declared.mode.Mode.TheVariants.{Set}
use Rattle.gocov_words.specs.declared.heading.CommandName.TheVariants as commands
use Rattle.gocov_words.specs.declared.command.Command.TheVariants.{Cover}
use Rattle.gocov_words.specs.declared.fault.WordsFault.TheVariants as faults
use Rattle.gocov_words.specs.declared.flag.Flag.TheVariants as flag
use Rattle.gocov_words.specs.declared.flags.Value.{Value}
use Rattle.gocov_words.specs.declared.flags.Flags.{Flags}
use Rattle.gocov_words.specs.CoverRequest.{CoverRequest, IsCoverRequest}
use Rattle.gocov_words.specs.Values.{is_filled, is_variable, is_file_name, mode_named}
use Rattle.gocov_words.specs.Line.{Line}
use Rattle.gocov_words.specs.Rules.{last, is_good, value_of, broken, too_many}
use Rattle.gocov_words.specs.Read.{given_by}
use Rattle.gocov_words.specs.Data.{text_in}
use Rattle.gocov_words.specs.Asked.{mode_in, variable_in, asked_of_cover}
use Rattle.gocov_words.specs.Words.{cover_request}
use Rattle.gocov_words.proofs.Verdicts.{texts, line_in, meaning_in, WasRead, misplaced, count_is, usage_is, asked_is, left_is, value_is, none_is}

-- a word stands at an index, or the words end before it

pub past_of : (words : List (List ℕ)) (i : ℕ) → None ≡ slice_get words i → length words ≤ i
past_of words i e = ⊎_elim (λ h. absurd (cc (h.2))) (λ h. h.0) (slice_get_cases words i).1

pub inside_of : (words : List (List ℕ)) (i : ℕ) (word : List ℕ) → Some word ≡ slice_get words i → i < length words
inside_of words i word e = ⊎_elim (λ h. h.1) (λ h. absurd (cc (h.1))) (slice_get_cases words i).1

abbrev pub lacks : Option Value → Option Value → ℕ → ℕ → Bool
lacks mode out end count = (is_none (text_in mode) || (is_none (text_in out) || false)) || nat_lt count (end + 1)

abbrev pub lacking : Bool → ℕ → Option ℕ
lacking b count = option_or (cond b (Some count) None) None

cover_left : (words : List (Bor (List ℕ))) (flags : Flags) → WasRead commands.Cover words flags → None ≡ misplaced commands.Cover words flags.end
    → broken commands.Cover (line_in commands.Cover words) (texts words) ≡ lacking (lacks flags.values.mode flags.values.output flags.end (length words)) (length words)
cover_left words flags read placed =
    left_is commands.Cover words flags read placed
    ∙ (ap (λ (b : Bool). lacking ((b || (is_none (last (codes "o") (line_in commands.Cover words).flags) || false)) || nat_lt (length (texts words)) (flags.end + 1)) (length (texts words))) (none_is commands.Cover words flags read flag.Mode)
    ∙ (ap (λ (b : Bool). lacking ((is_none (text_in flags.values.mode) || (b || false)) || nat_lt (length (texts words)) (flags.end + 1)) (length (texts words))) (none_is commands.Cover words flags read flag.Output)
    ∙ ap (λ (n : ℕ). lacking (lacks flags.values.mode flags.values.output flags.end n) n) (count_is words)))

pub no_mode : (words : List (Bor (List ℕ))) (flags : Flags) → WasRead commands.Cover words flags → None ≡ misplaced commands.Cover words flags.end
    → flags.values.mode ≡ None → meaning_in commands.Cover words ≡ Err (faults.Usage (length words))
no_mode words flags read placed mode =
    usage_is commands.Cover words (length words) (cover_left words flags read placed ∙ ap (λ (m : Option Value). lacking (lacks m flags.values.output flags.end (length words)) (length words)) mode)

pub no_output : (words : List (Bor (List ℕ))) (flags : Flags) (m : Value) → WasRead commands.Cover words flags → None ≡ misplaced commands.Cover words flags.end
    → flags.values.mode ≡ Some m → flags.values.output ≡ None → meaning_in commands.Cover words ≡ Err (faults.Usage (length words))
no_output words flags m read placed mode output =
    usage_is commands.Cover words (length words) (cover_left words flags read placed
    ∙ (ap (λ (v : Option Value). lacking (lacks v flags.values.output flags.end (length words)) (length words)) mode
    ∙ ap (λ (v : Option Value). lacking (lacks (Some m) v flags.end (length words)) (length words)) output))

both_there : (words : List (Bor (List ℕ))) (flags : Flags) (m o : Value) → WasRead commands.Cover words flags → None ≡ misplaced commands.Cover words flags.end
    → flags.values.mode ≡ Some m → flags.values.output ≡ Some o → broken commands.Cover (line_in commands.Cover words) (texts words) ≡ lacking (nat_lt (length words) (flags.end + 1)) (length words)
both_there words flags m o read placed mode output =
    cover_left words flags read placed
    ∙ (ap (λ (v : Option Value). lacking (lacks v flags.values.output flags.end (length words)) (length words)) mode
    ∙ ap (λ (v : Option Value). lacking (lacks (Some m) v flags.end (length words)) (length words)) output)

beyond : (count end : ℕ) → count ≤ end → nat_lt count (end + 1) ≡ true
beyond count end h = grind (arith, nat_tests)

within : (count end : ℕ) → end < count → nat_lt count (end + 1) ≡ false
within count end h = grind (arith, nat_tests)

pub no_file : (words : List (Bor (List ℕ))) (flags : Flags) (m o : Value) → WasRead commands.Cover words flags → None ≡ misplaced commands.Cover words flags.end
    → flags.values.mode ≡ Some m → flags.values.output ≡ Some o → None ≡ slice_get (texts words) flags.end → meaning_in commands.Cover words ≡ Err (faults.Usage (length words))
no_file words flags m o read placed mode output file =
    let past = past_of (texts words) flags.end file in
    usage_is commands.Cover words (length words) (both_there words flags m o read placed mode output
    ∙ ap (λ (b : Bool). lacking b (length words)) (beyond (length words) flags.end (omega (arith, past, count_is words))))

-- THE REQUEST

request_is : (words : List (Bor (List ℕ))) (flags : Flags) (file : List ℕ) → WasRead commands.Cover words flags → cover_request (line_in commands.Cover words).flags file ≡ asked_of_cover flags.values file
request_is words flags file read =
    let made : Option (List ℕ) → Option (List ℕ) → Option (List ℕ) → CoverRequest = λ m v o. record { mode = unwrap_or (option_and_then mode_named m) Set; var = unwrap_or v (codes "GoCover"); out = unwrap_or o []; file = file } in
    ap (λ (m : Option (List ℕ)). made m (value_of (codes "var") (line_in commands.Cover words).flags) (value_of (codes "o") (line_in commands.Cover words).flags)) (value_is commands.Cover words flags read flag.Mode)
    ∙ (ap (λ (v : Option (List ℕ)). made (text_in flags.values.mode) v (value_of (codes "o") (line_in commands.Cover words).flags)) (value_is commands.Cover words flags read flag.Variable)
    ∙ ap (λ (o : Option (List ℕ)). made (text_in flags.values.mode) (text_in flags.values.variable) o) (value_is commands.Cover words flags read flag.Output))

pub cover_is : (words : List (Bor (List ℕ))) (flags : Flags) (m o : Value) (file : List ℕ) (mode : Mode) (var out path : List ℕ) → WasRead commands.Cover words flags → None ≡ misplaced commands.Cover words flags.end
    → flags.values.mode ≡ Some m → flags.values.output ≡ Some o → Some file ≡ slice_get (texts words) flags.end
    → mode ≡ unwrap_or (mode_in (Some m)) Set → var ≡ variable_in flags.values.variable → out ≡ o.text.now → path ≡ file
    → meaning_in commands.Cover words ≡ Ok (Cover (record { mode = mode; var = var; out = out; file = path }))
cover_is words flags m o file mode var out path read placed has_mode has_output has_file mode_is var_is out_is path_is =
    let inside = inside_of (texts words) flags.end file has_file in
    asked_is commands.Cover words (both_there words flags m o read placed has_mode has_output ∙ ap (λ (b : Bool). lacking b (length words)) (within (length words) flags.end (omega (arith, inside, count_is words))))
    ∙ (ap (λ (n : ℕ). Ok (Cover (cover_request line.flags (unwrap_or (slice_get (texts words) n) [])))) read.end
    ∙ (ap (λ (w : Option (List ℕ)). Ok (Cover (cover_request line.flags (unwrap_or w [])))) (sym has_file)
    ∙ (ap (λ (r : CoverRequest). Ok (Cover r)) (request_is words flags file read)
    ∙ (ap (λ (v : Option Value). Ok (Cover (record { mode = unwrap_or (mode_in v) Set; var = variable_in flags.values.variable; out = unwrap_or (text_in flags.values.output) []; file = file }))) has_mode
    ∙ (ap (λ (v : Option Value). Ok (Cover (record { mode = unwrap_or (mode_in (Some m)) Set; var = variable_in flags.values.variable; out = unwrap_or (text_in v) []; file = file }))) has_output
    ∙ (ap (λ (x : Mode). Ok (Cover (record { mode = x; var = variable_in flags.values.variable; out = o.text.now; file = file }))) (sym mode_is)
    ∙ (ap (λ (x : List ℕ). Ok (Cover (record { mode = mode; var = x; out = o.text.now; file = file }))) (sym var_is)
    ∙ (ap (λ (x : List ℕ). Ok (Cover (record { mode = mode; var = var; out = x; file = file }))) (sym out_is)
    ∙ ap (λ (x : List ℕ). Ok (Cover (record { mode = mode; var = var; out = out; file = x }))) (sym path_is)))))))))
  where
    line : Line
    line = line_in commands.Cover words

-- ITS RULES

filled_one : (xs : List ℕ) → is_filled xs ≡ true → 0 < length xs
filled_one [] e = absurd (false≢true e)
filled_one (x ∷ xs) e = omega arith

go_cover : is_variable (codes "GoCover") ≡ true
unfolding chars ucd_category
go_cover = refl

variable_good : (o : Option Value) → IfSome (option_map (given_by flag.Variable) o) (λ g. is_good commands.Cover g ≡ true) → is_variable (variable_in o) ≡ true
variable_good None good = go_cover
variable_good (Some v) good = good

file_good : (b : Bool) (i : ℕ) (more : Option ℕ) → None ≡ option_or (cond b None (Some i)) more → b ≡ true
file_good true i more e = refl
file_good false i more e = absurd (cc)

pub is_cover : (words : List (Bor (List ℕ))) (flags : Flags) (o : Value) (file : List ℕ) (mode : Mode) (var out path : List ℕ) → WasRead commands.Cover words flags → None ≡ misplaced commands.Cover words flags.end
    → flags.values.output ≡ Some o → Some file ≡ slice_get (texts words) flags.end → var ≡ variable_in flags.values.variable → out ≡ o.text.now → path ≡ file
    → IsUtf8 var → IsUtf8 out → IsUtf8 path → IsCoverRequest (record { mode = mode; var = var; out = out; file = path })
is_cover words flags o file mode var out path read placed has_output has_file var_is out_is path_is var_text out_text path_text =
    let Good : Option Value → Type 0 = λ v. IfSome (option_map (given_by flag.Output) v) (λ g. is_good commands.Cover g ≡ true) in
    let good : is_filled o.text.now ≡ true = subst Good has_output (read.values flag.Output) in
    let Misplaced : Option (List ℕ) → Type 0 = λ w. None ≡ option_or (cond (option_map_or is_file_name w true) None (Some flags.end)) (too_many commands.Cover flags.end (length words)) in
    let named : is_file_name file ≡ true = file_good (is_file_name file) flags.end (too_many commands.Cover flags.end (length words)) (subst Misplaced (sym has_file) placed) in
    record {
      var_text = var_text;
      variable = ap (λ (x : List ℕ). is_variable x) var_is ∙ variable_good flags.values.variable (read.values flag.Variable);
      out = record { utf8 = out_text; filled = filled_one out (ap (λ (x : List ℕ). is_filled x) out_is ∙ good) };
      file_text = path_text;
      file_name = ap (λ (x : List ℕ). is_file_name x) path_is ∙ named;
    }
