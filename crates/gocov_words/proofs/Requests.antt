-- What values of flags mean for covdata.
use Rattle.std.proofs.Common.{◌≡◌, ℕ, ◌<◌, ◌≤◌, nat_lt, true, false, Bool, cond, not, ◌&&◌, ◌||◌, List, [], ◌∷◌, length, get_or, eqb, Bor, Option, option_map, option_and_then, is_none, Some, None, Result, Ok, Err, IfSome, is_some, All, refl, sym, ap, ◌∙◌, subst, arith, codes}
use Rattle.std.specs.Option.{option_or, option_map_or}
use Rattle.std.specs.List.{list_all}
use Rattle.std.specs.Str.{IsUtf8}
use Rattle.std.proofs.lemmas.Bool.{false≢true, eqb-true}
use Rattle.std.proofs.lemmas.List.Splits.{length-slice_split}
use Rattle.std.proofs.lemmas.List.Sums.{AllPass-from_list_all}
use Rattle.std.proofs.lemmas.Bool.Decides.{nat_tests}
use Rattle.cov_outside.specs.Limits.{limit_number}
use Rattle.cov_outside.specs.declared.limit.Which.TheVariants as limits
use Rattle.gocov_words.specs.declared.heading.CommandName.{CommandName}
use Rattle.gocov_words.specs.declared.heading.CommandName.TheVariants as commands
use Rattle.gocov_words.specs.declared.command.Command.{Command}
use Rattle.gocov_words.specs.declared.command.Command.TheVariants.{Covdata}
use Rattle.gocov_words.specs.declared.fault.WordsFault.{WordsFault}
use Rattle.gocov_words.specs.declared.fault.WordsFault.TheVariants as faults
use Rattle.gocov_words.specs.declared.flag.Flag.{Flag}
use Rattle.gocov_words.specs.declared.flag.Flag.TheVariants as flag
use Rattle.gocov_words.specs.declared.flags.Value.{Value}
use Rattle.gocov_words.specs.declared.flags.Values.{Values}
use Rattle.gocov_words.specs.declared.flags.Flags.{Flags}
use Rattle.gocov_words.specs.declared.sub.Sub.{Sub}
use Rattle.gocov_words.specs.declared.sub.Sub.TheVariants as subs
use Rattle.gocov_words.specs.DataRequest.{DataRequest, IsDataRequest}
use Rattle.gocov_words.specs.Texts.{IsName}
use Rattle.gocov_words.specs.Subs.{puts, reports, takes_two}
use Rattle.gocov_words.specs.Values.{is_filled, is_list, pieces}
use Rattle.gocov_words.specs.Line.{Given, Line}
use Rattle.gocov_words.specs.Rules.{last, is_good, lacks_flag, lacks_word, clash}
use Rattle.gocov_words.specs.Read.{shown, given_by, AllGood}
use Rattle.gocov_words.specs.Data.{checked, checked_input, requested, text_in, list_in}
use Rattle.gocov_words.specs.Words.{judged, asked, within_limit}
use Rattle.gocov_words.proofs.Verdicts.{texts, line_in, meaning_in, WasRead, misplaced, count_is, opened, left_is}

-- how the rules on what is missing or given wrongly depend on the last flags of three names

abbrev list_at : Option Given → List (List ℕ)
list_at flag = option_map_or pieces (option_and_then (λ (g : Given). g.value) flag) []

abbrev lacks_of : Sub → Option Given → Option Given → Bool
lacks_of sub input output = is_none input || (puts sub && is_none output)

or_false : (b : Bool) → (b || false) ≡ b
or_false true = refl
or_false false = refl

lacks_is : (sub : Sub) (flags : List Given) → lacks_flag (commands.Covdata sub) flags ≡ lacks_of sub (last (codes "i") flags) (last (codes "o") flags)
lacks_is subs.Textfmt flags = ap (λ (b : Bool). is_none (last (codes "i") flags) || b) (or_false (is_none (last (codes "o") flags)))
lacks_is subs.Percent flags = refl
lacks_is subs.Func flags = refl
lacks_is subs.Pkglist flags = refl
lacks_is subs.Merge flags = ap (λ (b : Bool). is_none (last (codes "i") flags) || b) (or_false (is_none (last (codes "o") flags)))
lacks_is subs.Subtract flags = ap (λ (b : Bool). is_none (last (codes "i") flags) || b) (or_false (is_none (last (codes "o") flags)))
lacks_is subs.Intersect flags = ap (λ (b : Bool). is_none (last (codes "i") flags) || b) (or_false (is_none (last (codes "o") flags)))
lacks_is subs.Debugdump flags = refl

-- what a check of values gives
abbrev pub by_check : Result (Unit {0}) WordsFault → DataRequest → Result Command WordsFault
by_check (Ok u) made = Ok (Covdata made)
by_check (Err fault) made = Err fault

abbrev judged_by : Sub → ℕ → Option Given → Option Given → Option Given → Result Command WordsFault
judged_by sub count input output patterns =
    judged (option_or (cond (lacks_of sub input output) (Some count) None) (option_or (cond (takes_two sub && not (eqb (length (list_at input)) 2)) (option_map (λ (g : Given). g.at) input) None) None))
    (within_limit (record { sub = sub; dirs = list_at input; out = option_and_then (λ (g : Given). g.value) output; pkg = list_at patterns }))

three : (missing : Bool) (other : Bool) (over : Bool) (count at : ℕ) (made : DataRequest)
    → judged (option_or (cond missing (Some count) None) (option_or (cond other (Some at) None) None)) (cond over (Err (faults.Limit limits.Directories)) (Ok (Covdata made)))
    ≡ by_check (cond missing (Err (faults.Usage count)) (cond other (Err (faults.Usage at)) (cond over (Err (faults.Limit limits.Directories)) (Ok tt)))) made
three true other over count at made = refl
three false true over count at made = refl
three false false true count at made = refl
three false false false count at made = refl

by_values : (sub : Sub) (count : ℕ) (values : Values) → judged_by sub count (shown flag.Input values) (shown flag.Output values) (shown flag.Patterns values) ≡ by_check (checked sub values count) (requested sub values)
by_values sub count values = by_options values.input values.output values.patterns
  where
    given : Flag → Option Value → Option Given
    given f value = option_map (given_by f) value

    by_options : (i o p : Option Value) → judged_by sub count (option_map (given_by flag.Input) i) (option_map (given_by flag.Output) o) (option_map (given_by flag.Patterns) p)
        ≡ by_check (checked_input sub i o count) (record { sub = sub; dirs = list_in i; out = text_in o; pkg = list_in p })
    by_options None o p = refl
    by_options (Some i) None None = three (puts sub && true) (takes_two sub && not (eqb (length (pieces i.text.now)) 2)) (nat_lt (limit_number limits.Directories) (length (pieces i.text.now))) count i.at (record { sub = sub; dirs = pieces i.text.now; out = None; pkg = [] })
    by_options (Some i) None (Some p) = three (puts sub && true) (takes_two sub && not (eqb (length (pieces i.text.now)) 2)) (nat_lt (limit_number limits.Directories) (length (pieces i.text.now))) count i.at (record { sub = sub; dirs = pieces i.text.now; out = None; pkg = pieces p.text.now })
    by_options (Some i) (Some o) None = three (puts sub && false) (takes_two sub && not (eqb (length (pieces i.text.now)) 2)) (nat_lt (limit_number limits.Directories) (length (pieces i.text.now))) count i.at (record { sub = sub; dirs = pieces i.text.now; out = Some o.text.now; pkg = [] })
    by_options (Some i) (Some o) (Some p) = three (puts sub && false) (takes_two sub && not (eqb (length (pieces i.text.now)) 2)) (nat_lt (limit_number limits.Directories) (length (pieces i.text.now))) count i.at (record { sub = sub; dirs = pieces i.text.now; out = Some o.text.now; pkg = pieces p.text.now })

by_lasts : (sub : Sub) (line : Line) (words : List (List ℕ)) (count : ℕ)
    → judged (option_or (cond (lacks_flag (commands.Covdata sub) line.flags) (Some count) None) (option_or (clash (commands.Covdata sub) line.flags) None)) (asked (commands.Covdata sub) line words)
    ≡ judged_by sub count (last (codes "i") line.flags) (last (codes "o") line.flags) (last (codes "pkg") line.flags)
by_lasts sub line words count =
    ap (λ (b : Bool). judged (option_or (cond b (Some count) None) (option_or (clash (commands.Covdata sub) line.flags) None)) (asked (commands.Covdata sub) line words)) (lacks_is sub line.flags)

lacks_none : (sub : Sub) (end count : ℕ) → end ≤ count → lacks_word (commands.Covdata sub) end count ≡ false
lacks_none sub end count h = grind (arith, nat_tests)

-- the meaning of a line whose flags were read up to its end
pub checked_is : (sub : Sub) (words : List (Bor (List ℕ))) (flags : Flags) (r : Result (Unit {0}) WordsFault) → WasRead (commands.Covdata sub) words flags → None ≡ misplaced (commands.Covdata sub) words flags.end
    → r ≡ checked sub flags.values (length words) → meaning_in (commands.Covdata sub) words ≡ by_check r (requested sub flags.values)
checked_is sub words flags r read placed e =
    opened c words
    ∙ (ap (λ (o : Option ℕ). judged o (asked c line (texts words))) (left_is c words flags read placed)
    ∙ (ap (λ (b : Bool). judged (option_or (cond (lacks_flag c line.flags || b) (Some (length (texts words))) None) (option_or (clash c line.flags) None)) (asked c line (texts words))) (lacks_none sub flags.end (length (texts words)) read.within)
    ∙ (ap (λ (b : Bool). judged (option_or (cond b (Some (length (texts words))) None) (option_or (clash c line.flags) None)) (asked c line (texts words))) (or_false (lacks_flag c line.flags))
    ∙ (ap (λ (n : ℕ). judged (option_or (cond (lacks_flag c line.flags) (Some n) None) (option_or (clash c line.flags) None)) (asked c line (texts words))) (count_is words)
    ∙ (by_lasts sub line (texts words) (length words)
    ∙ (ap (λ (g : Option Given). judged_by sub (length words) g (last (codes "o") line.flags) (last (codes "pkg") line.flags)) (read.lasts flag.Input)
    ∙ (ap (λ (g : Option Given). judged_by sub (length words) (shown flag.Input flags.values) g (last (codes "pkg") line.flags)) (read.lasts flag.Output)
    ∙ (ap (λ (g : Option Given). judged_by sub (length words) (shown flag.Input flags.values) (shown flag.Output flags.values) g) (read.lasts flag.Patterns)
    ∙ (by_values sub (length words) flags.values
    ∙ ap (λ (o : Result (Unit {0}) WordsFault). by_check o (requested sub flags.values)) (sym e))))))))))
  where
    c : CommandName
    c = commands.Covdata sub

    line : Line
    line = line_in (commands.Covdata sub) words

-- THE RULES OF REQUESTS

filled_one : (xs : List ℕ) → is_filled xs ≡ true → 0 < length xs
filled_one [] e = absurd (false≢true e)
filled_one (x ∷ xs) e = omega arith

named : (xs : List (List ℕ)) → All IsUtf8 xs → list_all is_filled xs ≡ true → All IsName xs
named xs utf8 filled = λ k d h. record { utf8 = utf8 k d h; filled = filled_one (get_or xs k d) (AllPass-from_list_all is_filled xs filled k d h) }

some_piece : (value : List ℕ) → 0 < length (pieces value)
some_piece value = let e = length-slice_split (λ (c : ℕ). eqb c 44) value in omega (arith, e)

output_good : (sub : Sub) (v : Value) → is_good (commands.Covdata sub) (given_by flag.Output v) ≡ true → (puts sub ≡ true) × (is_filled v.text.now ≡ true)
output_good subs.Textfmt v e = (refl, e)
output_good subs.Percent v e = absurd (false≢true e)
output_good subs.Func v e = absurd (false≢true e)
output_good subs.Pkglist v e = absurd (false≢true e)
output_good subs.Merge v e = (refl, e)
output_good subs.Subtract v e = (refl, e)
output_good subs.Intersect v e = (refl, e)
output_good subs.Debugdump v e = absurd (false≢true e)

patterns_good : (sub : Sub) (v : Value) → is_good (commands.Covdata sub) (given_by flag.Patterns v) ≡ true → (reports sub ≡ true) × (is_list v.text.now ≡ true)
patterns_good subs.Textfmt v e = (refl, e)
patterns_good subs.Percent v e = (refl, e)
patterns_good subs.Func v e = (refl, e)
patterns_good subs.Pkglist v e = (refl, e)
patterns_good subs.Merge v e = absurd (false≢true e)
patterns_good subs.Subtract v e = absurd (false≢true e)
patterns_good subs.Intersect v e = absurd (false≢true e)
patterns_good subs.Debugdump v e = (refl, e)

-- what a check that passed says
record Passed (sub : Sub) (dirs : List (List ℕ)) (lacks : Bool) : Type 0 where
  two : takes_two sub ≡ true → length dirs ≡ 2
  few : length dirs ≤ limit_number limits.Directories
  out : lacks ≡ false

passed : (sub : Sub) (dirs : List (List ℕ)) (lacks other over : Bool) (count at : ℕ) → other ≡ (takes_two sub && not (eqb (length dirs) 2)) → over ≡ nat_lt (limit_number limits.Directories) (length dirs)
    → let none : Result (Unit {0}) WordsFault = Ok tt in none ≡ cond lacks (Err (faults.Usage count)) (cond other (Err (faults.Usage at)) (cond over (Err (faults.Limit limits.Directories)) (Ok tt))) → Passed sub dirs lacks
passed sub dirs true other over count at is_other is_over e = absurd (cc)
passed sub dirs false true over count at is_other is_over e = absurd (cc)
passed sub dirs false false true count at is_other is_over e = absurd (cc)
passed sub dirs false false false count at is_other is_over e =
    record { two = λ t. two_of (takes_two sub) (length dirs) t is_other; few = within (limit_number limits.Directories) (length dirs) is_over; out = refl }
  where
    two_of : (b : Bool) (n : ℕ) → b ≡ true → false ≡ (b && not (eqb n 2)) → n ≡ 2
    two_of true n t e = elim (eqb n 2) as (λ b. eqb n 2 ≡ b → false ≡ not b → n ≡ 2) [ true ↦ λ s h. eqb-true n 2 s | false ↦ λ s h. absurd (false≢true h) ] refl e
    two_of false n t e = absurd (false≢true t)

    within : (a b : ℕ) → false ≡ nat_lt a b → b ≤ a
    within a b e = grind (arith, nat_tests)

and_true : (b : Bool) → (b && true) ≡ false → false ≡ b
and_true true e = sym e
and_true false e = refl

output_named : (sub : Sub) (o : Option Value) → IfSome (option_map (given_by flag.Output) o) (λ g. is_good (commands.Covdata sub) g ≡ true) → IfSome (text_in o) IsUtf8 → IfSome (text_in o) IsName
output_named sub None good utf8 = tt
output_named sub (Some o) good utf8 = record { utf8 = utf8; filled = filled_one o.text.now (output_good sub o good).1 }

output_needed : (sub : Sub) (o : Option Value) → IfSome (option_map (given_by flag.Output) o) (λ g. is_good (commands.Covdata sub) g ≡ true) → (puts sub && is_none o) ≡ false → is_some (text_in o) ≡ puts sub
output_needed sub None good lacks = and_true (puts sub) lacks
output_needed sub (Some o) good lacks = sym (output_good sub o good).0

patterns_named : (sub : Sub) (p : Option Value) → IfSome (option_map (given_by flag.Patterns) p) (λ g. is_good (commands.Covdata sub) g ≡ true) → All IsUtf8 (list_in p) → All IsName (list_in p)
patterns_named sub None good utf8 = named [] utf8 refl
patterns_named sub (Some p) good utf8 = named (pieces p.text.now) utf8 (patterns_good sub p good).1

patterns_empty : (sub : Sub) (p : Option Value) → IfSome (option_map (given_by flag.Patterns) p) (λ g. is_good (commands.Covdata sub) g ≡ true) → reports sub ≡ false → list_in p ≡ []
patterns_empty sub None good e = refl
patterns_empty sub (Some p) good e = absurd (false≢true (sym e ∙ (patterns_good sub p good).0))

by_options : (sub : Sub) (i o p : Option Value) (count : ℕ) → IfSome (option_map (given_by flag.Input) i) (λ g. is_good (commands.Covdata sub) g ≡ true)
    → IfSome (option_map (given_by flag.Output) o) (λ g. is_good (commands.Covdata sub) g ≡ true) → IfSome (option_map (given_by flag.Patterns) p) (λ g. is_good (commands.Covdata sub) g ≡ true)
    → (let none : Result (Unit {0}) WordsFault = Ok tt in none ≡ checked_input sub i o count)
    → All IsUtf8 (list_in i) → IfSome (text_in o) IsUtf8 → All IsUtf8 (list_in p) → IsDataRequest (record { sub = sub; dirs = list_in i; out = text_in o; pkg = list_in p })
by_options sub None o p count good_i good_o good_p e utf8_i utf8_o utf8_p = absurd (cc)
by_options sub (Some i) o p count good_i good_o good_p e utf8_i utf8_o utf8_p =
    let dirs = pieces i.text.now in
    let pass = passed sub dirs (puts sub && is_none o) (takes_two sub && not (eqb (length dirs) 2)) (nat_lt (limit_number limits.Directories) (length dirs)) count i.at refl refl e in
    record {
      dirs = named dirs utf8_i good_i;
      some_dir = some_piece i.text.now;
      few_dirs = pass.few;
      two_dirs = pass.two;
      out = output_named sub o good_o utf8_o;
      out_where_needed = output_needed sub o good_o pass.out;
      patterns = patterns_named sub p good_p utf8_p;
      patterns_of_reports = patterns_empty sub p good_p;
    }

-- what is made of good values that passed the check keeps the rules
pub is_request : (sub : Sub) (values : Values) (count : ℕ) (dirs : List (List ℕ)) (out : Option (List ℕ)) (pkg : List (List ℕ)) → AllGood (commands.Covdata sub) values
    → (let none : Result (Unit {0}) WordsFault = Ok tt in none ≡ checked sub values count)
    → dirs ≡ list_in values.input → out ≡ text_in values.output → pkg ≡ list_in values.patterns
    → All IsUtf8 dirs → IfSome out IsUtf8 → All IsUtf8 pkg → IsDataRequest (record { sub = sub; dirs = dirs; out = out; pkg = pkg })
is_request sub values count dirs out pkg good e dirs_are out_is pkg_are dirs_utf8 out_utf8 pkg_utf8 =
    let AllText : List (List ℕ) → Type 0 = λ xs. All IsUtf8 xs in
    let IsText : Option (List ℕ) → Type 0 = λ o. IfSome o IsUtf8 in
    let Dirs : List (List ℕ) → Type 0 = λ xs. IsDataRequest (record { sub = sub; dirs = xs; out = out; pkg = pkg }) in
    let Out : Option (List ℕ) → Type 0 = λ o. IsDataRequest (record { sub = sub; dirs = list_in values.input; out = o; pkg = pkg }) in
    let Pkg : List (List ℕ) → Type 0 = λ xs. IsDataRequest (record { sub = sub; dirs = list_in values.input; out = text_in values.output; pkg = xs }) in
    subst Dirs (sym dirs_are) (subst Out (sym out_is) (subst Pkg (sym pkg_are)
    (by_options sub values.input values.output values.patterns count (good flag.Input) (good flag.Output) (good flag.Patterns) e (subst AllText dirs_are dirs_utf8) (subst IsText out_is out_utf8) (subst AllText pkg_are pkg_utf8))))

pub request_is : (there : Result Command WordsFault) (sub : Sub) (values : Values) (dirs : List (List ℕ)) (out : Option (List ℕ)) (pkg : List (List ℕ)) → there ≡ Ok (Covdata (requested sub values))
    → dirs ≡ list_in values.input → out ≡ text_in values.output → pkg ≡ list_in values.patterns → there ≡ Ok (Covdata (record { sub = sub; dirs = dirs; out = out; pkg = pkg }))
request_is there sub values dirs out pkg e dirs_are out_is pkg_are =
    e ∙ sym (ap (λ (xs : List (List ℕ)). Ok (Covdata (record { sub = sub; dirs = xs; out = out; pkg = pkg }))) dirs_are
    ∙ (ap (λ (o : Option (List ℕ)). Ok (Covdata (record { sub = sub; dirs = list_in values.input; out = o; pkg = pkg }))) out_is
    ∙ ap (λ (xs : List (List ℕ)). Ok (Covdata (record { sub = sub; dirs = list_in values.input; out = text_in values.output; pkg = xs }))) pkg_are))
