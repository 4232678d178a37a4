-- Flags read one after another, against the cut of their line.
use Rattle.std.proofs.Common.{◌≡◌, ℕ, ◌+◌, ◌-◌, ◌≤◌, nat_lt, true, false, Bool, cond, not, ◌||◌, find, option_map, map, Bor, List, length, take, drop, Option, Some, None, IfSome, refl, sym, ap, ◌∙◌, subst, arith}
use Rattle.std.specs.Option.{option_or, option_map_or}
use Rattle.std.specs.Str.{bytes_eq}
use Rattle.std.proofs.lemmas.Bool.Decides.{nat_tests}
use Rattle.std.proofs.lemmas.List.{drop-map, drop-drop, length-map, length-drop, take_rest}
use Rattle.gocov_words.specs.declared.heading.CommandName.{CommandName}
use Rattle.gocov_words.specs.declared.heading.CommandName.TheVariants as commands
use Rattle.gocov_words.specs.declared.flag.Flag.{Flag}
use Rattle.gocov_words.specs.declared.flag.Flag.TheVariants as flag
use Rattle.gocov_words.specs.declared.flags.Value.{Value}
use Rattle.gocov_words.specs.declared.flags.Values.{Values}
use Rattle.gocov_words.specs.declared.front.Front.{Front}
use Rattle.gocov_words.specs.declared.front.Front.TheVariants as fronts
use Rattle.gocov_words.specs.Fronts.{IsFront, IsFrontOf}
use Rattle.gocov_words.specs.Table.{FlagRow, row_named}
use Rattle.gocov_words.specs.Flags.{flag_name, row_of, accepts}
use Rattle.gocov_words.specs.Line.{Given, Line, cut, ended, with_flag}
use Rattle.gocov_words.specs.Rules.{last, bad_flag, is_good, lacks_value, lacks_flag, lacks_word, bad_word, too_many, missing, clash, broken, last_words}
use Rattle.gocov_words.specs.Values.{is_file_name}
use Rattle.std.proofs.lemmas.Option.{slice_get_past}
use Rattle.gocov_words.specs.Read.{shown, given_by, with_value, AllGood, HasRead}

-- The flags up to an index were read: they are good and have values, and the line's other flags are those from there on.
pub record IsReadTo (command : CommandName) (line there : Line) (count at : ℕ) (values : Values) : Type 0 where
  pub within : at ≤ count
  pub good : bad_flag command line.flags ≡ bad_flag command there.flags
  pub valued : lacks_value line.flags ≡ lacks_value there.flags
  pub end : line.end ≡ there.end
  pub lasts : (f : Flag) → last (flag_name f) line.flags ≡ option_or (last (flag_name f) there.flags) (shown f values)
  pub all_good : AllGood command values

abbrev pub none : Values
none = record { input = None; output = None; patterns = None; mode = None; variable = None; cover_directory = None; serial = None; max_steps = None }

or_none : {A : Type 0} (o : Option A) → o ≡ option_or o None
or_none None = refl
or_none (Some x) = refl

shown_none : (f : Flag) → shown f none ≡ None
shown_none flag.Input = refl
shown_none flag.Output = refl
shown_none flag.Patterns = refl
shown_none flag.Mode = refl
shown_none flag.Variable = refl
shown_none flag.CoverDirectory = refl
shown_none flag.Serial = refl
shown_none flag.MaxSteps = refl

good_none : (command : CommandName) → AllGood command none
good_none command flag.Input = tt
good_none command flag.Output = tt
good_none command flag.Patterns = tt
good_none command flag.Mode = tt
good_none command flag.Variable = tt
good_none command flag.CoverDirectory = tt
good_none command flag.Serial = tt
good_none command flag.MaxSteps = tt

pub read_none : (command : CommandName) (line : Line) (count at : ℕ) → at ≤ count → IsReadTo command line line count at none
read_none command line count at within =
    record {
      within = within;
      good = refl;
      valued = refl;
      end = refl;
      lasts = λ f. or_none (last (flag_name f) line.flags) ∙ ap (option_or (last (flag_name f) line.flags)) (sym (shown_none f));
      all_good = good_none command;
    }

or_assoc : {A : Type 0} (a b c : Option A) → option_or (option_or a b) c ≡ option_or a (option_or b c)
or_assoc None b c = refl
or_assoc (Some x) b c = refl

-- a flag that was read is the last of its name
shown_with : (f g : Flag) (values : Values) (value : Value) → option_or (cond (bytes_eq (flag_name f) (flag_name g)) (Some (given_by g value)) None) (shown f values) ≡ shown f (with_value values g value)
shown_with flag.Input flag.Input values value = refl
shown_with flag.Input flag.Output values value = refl
shown_with flag.Input flag.Patterns values value = refl
shown_with flag.Input flag.Mode values value = refl
shown_with flag.Input flag.Variable values value = refl
shown_with flag.Input flag.CoverDirectory values value = refl
shown_with flag.Input flag.Serial values value = refl
shown_with flag.Input flag.MaxSteps values value = refl
shown_with flag.Output flag.Input values value = refl
shown_with flag.Output flag.Output values value = refl
shown_with flag.Output flag.Patterns values value = refl
shown_with flag.Output flag.Mode values value = refl
shown_with flag.Output flag.Variable values value = refl
shown_with flag.Output flag.CoverDirectory values value = refl
shown_with flag.Output flag.Serial values value = refl
shown_with flag.Output flag.MaxSteps values value = refl
shown_with flag.Patterns flag.Input values value = refl
shown_with flag.Patterns flag.Output values value = refl
shown_with flag.Patterns flag.Patterns values value = refl
shown_with flag.Patterns flag.Mode values value = refl
shown_with flag.Patterns flag.Variable values value = refl
shown_with flag.Patterns flag.CoverDirectory values value = refl
shown_with flag.Patterns flag.Serial values value = refl
shown_with flag.Patterns flag.MaxSteps values value = refl
shown_with flag.Mode flag.Input values value = refl
shown_with flag.Mode flag.Output values value = refl
shown_with flag.Mode flag.Patterns values value = refl
shown_with flag.Mode flag.Mode values value = refl
shown_with flag.Mode flag.Variable values value = refl
shown_with flag.Mode flag.CoverDirectory values value = refl
shown_with flag.Mode flag.Serial values value = refl
shown_with flag.Mode flag.MaxSteps values value = refl
shown_with flag.Variable flag.Input values value = refl
shown_with flag.Variable flag.Output values value = refl
shown_with flag.Variable flag.Patterns values value = refl
shown_with flag.Variable flag.Mode values value = refl
shown_with flag.Variable flag.Variable values value = refl
shown_with flag.Variable flag.CoverDirectory values value = refl
shown_with flag.Variable flag.Serial values value = refl
shown_with flag.Variable flag.MaxSteps values value = refl
shown_with flag.CoverDirectory flag.Input values value = refl
shown_with flag.CoverDirectory flag.Output values value = refl
shown_with flag.CoverDirectory flag.Patterns values value = refl
shown_with flag.CoverDirectory flag.Mode values value = refl
shown_with flag.CoverDirectory flag.Variable values value = refl
shown_with flag.CoverDirectory flag.CoverDirectory values value = refl
shown_with flag.CoverDirectory flag.Serial values value = refl
shown_with flag.CoverDirectory flag.MaxSteps values value = refl
shown_with flag.Serial flag.Input values value = refl
shown_with flag.Serial flag.Output values value = refl
shown_with flag.Serial flag.Patterns values value = refl
shown_with flag.Serial flag.Mode values value = refl
shown_with flag.Serial flag.Variable values value = refl
shown_with flag.Serial flag.CoverDirectory values value = refl
shown_with flag.Serial flag.Serial values value = refl
shown_with flag.Serial flag.MaxSteps values value = refl
shown_with flag.MaxSteps flag.Input values value = refl
shown_with flag.MaxSteps flag.Output values value = refl
shown_with flag.MaxSteps flag.Patterns values value = refl
shown_with flag.MaxSteps flag.Mode values value = refl
shown_with flag.MaxSteps flag.Variable values value = refl
shown_with flag.MaxSteps flag.CoverDirectory values value = refl
shown_with flag.MaxSteps flag.Serial values value = refl
shown_with flag.MaxSteps flag.MaxSteps values value = refl

or_good : (command : CommandName) (b : Bool) (x : Given) (o : Option Given) → is_good command x ≡ true → IfSome o (λ g. is_good command g ≡ true) → IfSome (option_or (cond b (Some x) None) o) (λ g. is_good command g ≡ true)
or_good command true x o e h = e
or_good command false x o e h = h

good_with : (command : CommandName) (g : Flag) (values : Values) (value : Value) → AllGood command values → is_good command (given_by g value) ≡ true → AllGood command (with_value values g value)
good_with command g values value h e f =
    let Good : Option Given → Type 0 = λ o. IfSome o (λ given. is_good command given ≡ true) in
    subst Good (shown_with f g values value) (or_good command (bytes_eq (flag_name f) (flag_name g)) (given_by g value) (shown f values) e (h f))

-- what is behind a good flag with a value
good_more : (command : CommandName) (g : Given) (there : Line) → is_good command g ≡ true → bad_flag command (with_flag g there).flags ≡ bad_flag command there.flags
good_more command g there e =
    ap (λ (b : Bool). option_map (λ (flag : Given). flag.at) (cond (not b) (Some g) (find (λ (flag : Given). not (is_good command flag)) there.flags))) e

bad_here : (command : CommandName) (g : Given) (there : Line) → is_good command g ≡ false → bad_flag command (with_flag g there).flags ≡ Some g.at
bad_here command g there e =
    ap (λ (b : Bool). option_map (λ (flag : Given). flag.at) (cond (not b) (Some g) (find (λ (flag : Given). not (is_good command flag)) there.flags))) e

known : (command : CommandName) (f : Flag) (value : Value) → row_named command (flag_name f) ≡ Some (row_of command f) → is_good command (given_by f value) ≡ accepts f value.text.now
known command f value e = ap (λ (o : Option FlagRow). option_map_or (λ (row : FlagRow). row.accepts value.text.now) o false) e

pub read_more : (command : CommandName) (line there behind : Line) (count at next : ℕ) (values : Values) (f : Flag) (value : Value)
    → IsReadTo command line there count at values → row_named command (flag_name f) ≡ Some (row_of command f) → accepts f value.text.now ≡ true
    → there ≡ with_flag (given_by f value) behind → next ≤ count → IsReadTo command line behind count next (with_value values f value)
read_more command line there behind count at next values f value read row accepted e within =
    record {
      within = within;
      good = read.good ∙ (ap (λ (l : Line). bad_flag command l.flags) e ∙ good_more command (given_by f value) behind (known command f value row ∙ accepted));
      valued = read.valued ∙ ap (λ (l : Line). lacks_value l.flags) e;
      end = read.end ∙ ap (λ (l : Line). l.end) e;
      lasts = λ g. read.lasts g ∙ (ap (λ (l : Line). option_or (last (flag_name g) l.flags) (shown g values)) e
          ∙ (or_assoc (last (flag_name g) behind.flags) (cond (bytes_eq (flag_name g) (flag_name f)) (Some (given_by f value)) None) (shown g values)
          ∙ ap (option_or (last (flag_name g) behind.flags)) (shown_with g f values value)));
      all_good = good_with command f values value read.all_good (known command f value row ∙ accepted);
    }

-- where no flag is left
pub read_all : (command : CommandName) (line there : Line) (count at n : ℕ) (values : Values)
    → IsReadTo command line there count at values → there ≡ ended (at + n) → at + n ≤ count → HasRead command line count (record { values = values; end = at + n })
read_all command line there count at n values read e within =
    record {
      good = read.good ∙ ap (λ (l : Line). bad_flag command l.flags) e;
      valued = read.valued ∙ ap (λ (l : Line). lacks_value l.flags) e;
      end = read.end ∙ ap (λ (l : Line). l.end) e;
      within = within;
      lasts = λ f. read.lasts f ∙ ap (λ (l : Line). option_or (last (flag_name f) l.flags) (shown f values)) e;
      values = read.all_good;
    }

-- the rules after the first
abbrev pub after_flags : CommandName → Line → List (List ℕ) → Option ℕ
after_flags command line words =
    option_or (bad_word command line.end words) (option_or (too_many command line.end (length words)) (option_or (missing command line (length words)) (option_or (clash command line.flags) None)))

broken_at : (command : CommandName) (line : Line) (words : List (List ℕ)) (i : ℕ) → bad_flag command line.flags ≡ Some i → broken command line words ≡ Some i
broken_at command line words i e = ap (λ (o : Option ℕ). option_or o (after_flags command line words)) e

-- where the flag is unknown
pub read_unknown : (command : CommandName) (line there : Line) (words : List (List ℕ)) (count at : ℕ) (values : Values)
    → IsReadTo command line there count at values → bad_flag command there.flags ≡ Some at → broken command line words ≡ Some at
read_unknown command line there words count at values read e = broken_at command line words at (read.good ∙ e)

-- where its value is bad
pub read_bad : (command : CommandName) (line there behind : Line) (words : List (List ℕ)) (count : ℕ) (values : Values) (f : Flag) (value : Value)
    → IsReadTo command line there count value.at values → row_named command (flag_name f) ≡ Some (row_of command f) → accepts f value.text.now ≡ false
    → there ≡ with_flag (given_by f value) behind → broken command line words ≡ Some value.at
read_bad command line there behind words count values f value read row refused e =
    read_unknown command line there words count value.at values read (ap (λ (l : Line). bad_flag command l.flags) e ∙ bad_here command (given_by f value) behind (known command f value row ∙ refused))

none_behind : (command : CommandName) (count : ℕ) → nat_lt (count + last_words command) count ≡ false
none_behind commands.Cover count = grind (arith, nat_tests)
none_behind commands.Run count = grind (arith, nat_tests)
none_behind (commands.Covdata sub) count = grind (arith, nat_tests)

no_word : (command : CommandName) (words : List (List ℕ)) → bad_word command (length words) words ≡ None
no_word commands.Cover words = ap (λ (o : Option (List ℕ)). cond (option_map_or is_file_name o true) None (Some (length words))) (slice_get_past words (length words) (omega arith))
no_word commands.Run words = refl
no_word (commands.Covdata sub) words = refl

-- where it is missing behind the last word
pub read_valueless : (command : CommandName) (line there : Line) (words : List (List ℕ)) (count at : ℕ) (values : Values)
    → IsReadTo command line there count at values → bad_flag command there.flags ≡ None → lacks_value there.flags ≡ true → there.end ≡ length words
    → broken command line words ≡ Some (length words)
read_valueless command line there words count at values read good lacks end =
    ap (λ (o : Option ℕ). option_or o (after_flags command line words)) (read.good ∙ good)
    ∙ (ap (λ (n : ℕ). option_or (bad_word command n words) (option_or (too_many command n (length words)) behind)) (read.end ∙ end)
    ∙ (ap (λ (o : Option ℕ). option_or o (option_or (too_many command (length words) (length words)) behind)) (no_word command words)
    ∙ (ap (λ (b : Bool). option_or (cond b (Some (length words + last_words command)) None) behind) (none_behind command (length words))
    ∙ ap (λ (b : Bool). option_or (cond (b || (lacks_flag command line.flags || lacks_word command line.end (length words))) (Some (length words)) None) (option_or (clash command line.flags) None)) (read.valued ∙ lacks))))
  where
    behind : Option ℕ
    behind = option_or (missing command line (length words)) (option_or (clash command line.flags) None)

-- THE STEPS OF THE LOOP: what words begin with, at the index up to which flags were read

abbrev pub texts : List (Bor (List ℕ)) → List (List ℕ)
texts words = map (λ (w : Bor (List ℕ)). w.now) words

abbrev pub IsReadFrom : CommandName → List (Bor (List ℕ)) → ℕ → ℕ → Values → Type 0
IsReadFrom command words from at values =
    IsReadTo command (cut command false from (drop from (texts words))) (cut command false at (drop at (texts words))) (length words) at values

abbrev pub front_line : CommandName → List (Bor (List ℕ)) → ℕ → ℕ → Line
front_line command words at i = cut command false i (texts (drop at words))

abbrev pub IsFrontAt : CommandName → List (Bor (List ℕ)) → ℕ → Front → Type 0
IsFrontAt command words at front = IsFrontOf command (texts (drop at words)) (λ i. front_line command words at i) front

rest_is : (command : CommandName) (words : List (Bor (List ℕ))) (at : ℕ) → cut command false at (drop at (texts words)) ≡ front_line command words at at
rest_is command words at = ap (λ (ws : List (List ℕ)). cut command false at ws) (drop-map (λ (w : Bor (List ℕ)). w.now) at words)

rest_length : (words : List (Bor (List ℕ))) (at : ℕ) → at ≤ length words → at + length (texts (drop at words)) ≡ length words
rest_length words at h = omega (arith, length-map (drop at words) (λ (w : Bor (List ℕ)). w.now), length-drop at words)

more_behind : (words : List (Bor (List ℕ))) (at n : ℕ) → drop n (texts (drop at words)) ≡ drop (at + n) (texts words)
more_behind words at n = ap (drop n) (sym (drop-map (λ (w : Bor (List ℕ)). w.now) at words)) ∙ drop-drop n at (texts words)

pub at_end : (command : CommandName) (words : List (Bor (List ℕ))) (from at n : ℕ) (values : Values) → IsReadFrom command words from at values
    → IsFrontAt command words at (fronts.End n) → HasRead command (cut command false from (drop from (texts words))) (length (texts words)) (record { values = values; end = at + n })
at_end command words from at n values read h =
    let whole = rest_length words at read.within in
    let P : ℕ → Type 0 = λ count. HasRead command (cut command false from (drop from (texts words))) count (record { values = values; end = at + n }) in
    subst P (sym (length-map words (λ (w : Bor (List ℕ)). w.now))) (read_all command _ _ (length words) at n values read (rest_is command words at ∙ h.1 at) (omega (arith, h.0, whole)))

pub at_unknown : (command : CommandName) (words : List (Bor (List ℕ))) (from at : ℕ) (values : Values) → IsReadFrom command words from at values
    → IsFrontAt command words at fronts.Unknown → broken command (cut command false from (drop from (texts words))) (texts words) ≡ Some at
at_unknown command words from at values read h =
    read_unknown command _ _ (texts words) (length words) at values read (ap (λ (l : Line). bad_flag command l.flags) (rest_is command words at) ∙ h at)

pub at_valueless : (command : CommandName) (words : List (Bor (List ℕ))) (from at : ℕ) (values : Values) → IsReadFrom command words from at values
    → IsFrontAt command words at fronts.Valueless → broken command (cut command false from (drop from (texts words))) (texts words) ≡ Some (length words)
at_valueless command words from at values read h =
    let count : length (texts words) ≡ length words = length-map words (λ (w : Bor (List ℕ)). w.now) in
    read_valueless command _ _ (texts words) (length words) at values read
    (ap (λ (l : Line). bad_flag command l.flags) (rest_is command words at) ∙ (h at).0)
    (ap (λ (l : Line). lacks_value l.flags) (rest_is command words at) ∙ (h at).1)
    (ap (λ (l : Line). l.end) (rest_is command words at) ∙ ((h at).2 ∙ (rest_length words at read.within ∙ sym count)))
    ∙ ap (λ (n : ℕ). Some n) count

pub at_bad : (command : CommandName) (words : List (Bor (List ℕ))) (from at n : ℕ) (values : Values) (f : Flag) (text : Bor (List ℕ)) → IsReadFrom command words from at values
    → IsFrontAt command words at (fronts.Flag f text n) → accepts f text.now ≡ false → broken command (cut command false from (drop from (texts words))) (texts words) ≡ Some at
at_bad command words from at n values f text read h refused =
    read_bad command _ _ _ (texts words) (length words) values f (record { at = at; text = text }) read h.2 refused (rest_is command words at ∙ h.3 at)

pub at_flag : (command : CommandName) (words : List (Bor (List ℕ))) (from at n : ℕ) (values : Values) (f : Flag) (text : Bor (List ℕ)) → IsReadFrom command words from at values
    → IsFrontAt command words at (fronts.Flag f text n) → accepts f text.now ≡ true → IsReadFrom command words from (at + n) (with_value values f (record { at = at; text = text }))
at_flag command words from at n values f text read h accepted =
    let whole = rest_length words at read.within in
    read_more command _ _ _ (length words) at (at + n) values f (record { at = at; text = text }) read h.2 accepted
    (rest_is command words at ∙ (h.3 at ∙ ap (λ (ws : List (List ℕ)). with_flag (given_by f (record { at = at; text = text })) (cut command false (at + n) ws)) (more_behind words at n)))
    (omega (arith, h.1, whole))

slice_from : (words : List (Bor (List ℕ))) (at : ℕ) → take (length words - at) (drop at words) ≡ drop at words
slice_from words at = take_rest words at

-- the front of the slice from an index on
pub here : (command : CommandName) (words : List (Bor (List ℕ))) (at : ℕ) (front : Front) → IsFront command (texts (take (length words - at) (drop at words))) front → IsFrontAt command words at front
here command words at front h = let P : List (Bor (List ℕ)) → Type 0 = λ rest. IsFront command (texts rest) front in subst P (slice_from words at) h
