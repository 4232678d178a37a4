-- The rules of a line whose flags were read.
use Rattle.std.proofs.Common.{◌≡◌, ℕ, Bool, cond, ◌||◌, List, length, map, Bor, Option, Some, None, Result, Ok, Err, is_none, option_map, option_and_then, refl, sym, ap, ◌∙◌, subst}
use Rattle.std.specs.Option.{option_or}
use Rattle.std.proofs.lemmas.List.{length-map}
use Rattle.gocov_words.specs.declared.heading.CommandName.{CommandName}
use Rattle.gocov_words.specs.declared.command.Command.{Command}
use Rattle.gocov_words.specs.declared.fault.WordsFault.{WordsFault}
use Rattle.gocov_words.specs.declared.fault.WordsFault.TheVariants as faults
use Rattle.gocov_words.specs.declared.flag.Flag.{Flag}
use Rattle.gocov_words.specs.declared.flags.Value.{Value}
use Rattle.gocov_words.specs.declared.flags.Flags.{Flags}
use Rattle.gocov_words.specs.Flags.{flag_name}
use Rattle.gocov_words.specs.Line.{Given, Line, line_of}
use Rattle.gocov_words.specs.Rules.{last, value_of, index_of, bad_word, lacks_value, lacks_flag, lacks_word, too_many, clash, broken}
use Rattle.gocov_words.specs.Read.{field, given_by, HasRead}
use Rattle.gocov_words.specs.Data.{text_in}
use Rattle.gocov_words.specs.Words.{judged, asked, meaning_under, meaning, heading, Refuses}

abbrev pub texts : List (Bor (List ℕ)) → List (List ℕ)
texts words = map (λ (w : Bor (List ℕ)). w.now) words

abbrev pub line_in : CommandName → List (Bor (List ℕ)) → Line
line_in command words = line_of command (texts words)

abbrev pub meaning_in : CommandName → List (Bor (List ℕ)) → Result Command WordsFault
meaning_in command words = meaning_under (Ok command) (texts words)

abbrev pub WasRead : CommandName → List (Bor (List ℕ)) → Flags → Type 0
WasRead command words flags = HasRead command (line_in command words) (length (texts words)) flags

-- the word behind the flags that is bad or one too many
abbrev pub misplaced : CommandName → List (Bor (List ℕ)) → ℕ → Option ℕ
misplaced command words end = option_or (bad_word command end (texts words)) (too_many command end (length words))

pub count_is : (words : List (Bor (List ℕ))) → length (texts words) ≡ length words
count_is words = length-map words (λ (w : Bor (List ℕ)). w.now)

pub opened : (command : CommandName) (words : List (Bor (List ℕ))) → meaning_in command words ≡ judged (broken command (line_in command words) (texts words)) (asked command (line_in command words) (texts words))
unfolding meaning_under
opened command words = refl

-- the meaning of a line that breaks a rule
pub usage_is : (command : CommandName) (words : List (Bor (List ℕ))) (i : ℕ) → broken command (line_in command words) (texts words) ≡ Some i → meaning_in command words ≡ Err (faults.Usage i)
usage_is command words i e = opened command words ∙ ap (λ (o : Option ℕ). judged o (asked command (line_in command words) (texts words))) e

-- the meaning of one that breaks none
pub asked_is : (command : CommandName) (words : List (Bor (List ℕ))) → broken command (line_in command words) (texts words) ≡ None → meaning_in command words ≡ asked command (line_in command words) (texts words)
asked_is command words e = opened command words ∙ ap (λ (o : Option ℕ). judged o (asked command (line_in command words) (texts words))) e

or_assoc : {A : Type 0} (a b c : Option A) → option_or (option_or a b) c ≡ option_or a (option_or b c)
or_assoc None b c = refl
or_assoc (Some x) b c = refl

-- the rules on what is missing, and on flags that don't go together
abbrev pub later : CommandName → List Given → ℕ → ℕ → Option ℕ
later command flags end count = option_or (cond (lacks_flag command flags || lacks_word command end count) (Some count) None) (option_or (clash command flags) None)

abbrev after_flags : CommandName → Line → ℕ → List (List ℕ) → Bool → Option ℕ
after_flags command line end words lacks =
    option_or (bad_word command end words) (option_or (too_many command end (length words)) (option_or (cond (lacks || (lacks_flag command line.flags || lacks_word command end (length words))) (Some (length words)) None) (option_or (clash command line.flags) None)))

read_rules : (command : CommandName) (line : Line) (words : List (List ℕ)) (flags : Flags) → HasRead command line (length words) flags
    → broken command line words ≡ option_or (option_or (bad_word command flags.end words) (too_many command flags.end (length words))) (later command line.flags flags.end (length words))
read_rules command line words flags read =
    ap (λ (o : Option ℕ). option_or o (after_flags command line line.end words (lacks_value line.flags))) read.good
    ∙ (ap (λ (n : ℕ). after_flags command line n words (lacks_value line.flags)) read.end
    ∙ (ap (λ (b : Bool). after_flags command line flags.end words b) read.valued
    ∙ sym (or_assoc (bad_word command flags.end words) (too_many command flags.end (length words)) (later command line.flags flags.end (length words)))))

placed_rules : (command : CommandName) (words : List (Bor (List ℕ))) (flags : Flags) (o : Option ℕ) → WasRead command words flags → o ≡ misplaced command words flags.end
    → broken command (line_in command words) (texts words) ≡ option_or o (later command (line_in command words).flags flags.end (length (texts words)))
placed_rules command words flags o read e =
    read_rules command (line_in command words) (texts words) flags read
    ∙ (ap (λ (n : ℕ). option_or (option_or (bad_word command flags.end (texts words)) (too_many command flags.end n)) (later command (line_in command words).flags flags.end (length (texts words)))) (count_is words)
    ∙ ap (λ (p : Option ℕ). option_or p (later command (line_in command words).flags flags.end (length (texts words)))) (sym e))

-- a word behind the flags is bad, or one too many
pub misplaced_is : (command : CommandName) (words : List (Bor (List ℕ))) (flags : Flags) (i : ℕ) → WasRead command words flags → Some i ≡ misplaced command words flags.end → meaning_in command words ≡ Err (faults.Usage i)
misplaced_is command words flags i read e = usage_is command words i (placed_rules command words flags (Some i) read e)

-- none is
pub left_is : (command : CommandName) (words : List (Bor (List ℕ))) (flags : Flags) → WasRead command words flags → None ≡ misplaced command words flags.end
    → broken command (line_in command words) (texts words) ≡ later command (line_in command words).flags flags.end (length (texts words))
left_is command words flags read e = placed_rules command words flags None read e

-- WHAT THE LAST FLAGS GIVE

value_shown : (f : Flag) (o : Option Value) → option_and_then (λ (g : Given). g.value) (option_map (given_by f) o) ≡ text_in o
value_shown f None = refl
value_shown f (Some v) = refl

at_shown : (f : Flag) (o : Option Value) → option_map (λ (g : Given). g.at) (option_map (given_by f) o) ≡ option_map (λ (v : Value). v.at) o
at_shown f None = refl
at_shown f (Some v) = refl

none_shown : (f : Flag) (o : Option Value) → is_none (option_map (given_by f) o) ≡ is_none (text_in o)
none_shown f None = refl
none_shown f (Some v) = refl

pub value_is : (command : CommandName) (words : List (Bor (List ℕ))) (flags : Flags) → WasRead command words flags → (f : Flag) → value_of (flag_name f) (line_in command words).flags ≡ text_in (field f flags.values)
value_is command words flags read f = ap (λ (o : Option Given). option_and_then (λ (g : Given). g.value) o) (read.lasts f) ∙ value_shown f (field f flags.values)

pub at_is : (command : CommandName) (words : List (Bor (List ℕ))) (flags : Flags) → WasRead command words flags → (f : Flag) → index_of (flag_name f) (line_in command words).flags ≡ option_map (λ (v : Value). v.at) (field f flags.values)
at_is command words flags read f = ap (λ (o : Option Given). option_map (λ (g : Given). g.at) o) (read.lasts f) ∙ at_shown f (field f flags.values)

pub none_is : (command : CommandName) (words : List (Bor (List ℕ))) (flags : Flags) → WasRead command words flags → (f : Flag) → is_none (last (flag_name f) (line_in command words).flags) ≡ is_none (text_in (field f flags.values))
none_is command words flags read f = ap (λ (o : Option Given). is_none o) (read.lasts f) ∙ none_shown f (field f flags.values)

-- THE MEANING OF THE WHOLE LINE

pub refuses : (fault : WordsFault) (there : Result Command WordsFault) → there ≡ Err fault → Refuses fault there
refuses (faults.Usage i) there e = e
refuses (faults.Limit w) there e = e
refuses faults.NoMemory there e = tt

pub of_heading : (words : List (Bor (List ℕ))) (h : Result CommandName WordsFault) → h ≡ heading (texts words) → meaning (texts words) ≡ meaning_under h (texts words)
unfolding meaning
of_heading words h e = ap (λ (o : Result CommandName WordsFault). meaning_under o (texts words)) (sym e)

pub no_heading : (words : List (Bor (List ℕ))) (fault : WordsFault) → (let none : Result CommandName WordsFault = Err fault in none ≡ heading (texts words)) → Refuses fault (meaning (texts words))
unfolding meaning_under
no_heading words fault e = refuses fault (meaning (texts words)) (of_heading words (Err fault) e)

-- the meaning of a line is that of the command that it names

pub named_is : (words : List (Bor (List ℕ))) (h command : CommandName) (there : Result Command WordsFault) → h ≡ command → (let found : Result CommandName WordsFault = Ok h in found ≡ heading (texts words))
    → meaning_in command words ≡ there → meaning (texts words) ≡ there
named_is words h command there same found e =
    of_heading words (Ok h) found ∙ (ap (λ (k : CommandName). meaning_under (Ok k) (texts words)) same ∙ e)

pub named_refuses : (words : List (Bor (List ℕ))) (h command : CommandName) (fault : WordsFault) → h ≡ command → (let found : Result CommandName WordsFault = Ok h in found ≡ heading (texts words))
    → Refuses fault (meaning_in command words) → Refuses fault (meaning (texts words))
named_refuses words h command fault same found e =
    let Refused : Result Command WordsFault → Type 0 = λ there. Refuses fault there in
    subst Refused (sym (named_is words h command (meaning_in command words) same found refl)) e
