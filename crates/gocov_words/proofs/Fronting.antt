-- The front of words whose first is a flag.
use Rattle.std.proofs.Common.{◌≡◌, ℕ, ◌+◌, ◌<◌, ◌≤◌, false, Bool, cond, is_none, codes, zero, suc, List, [], ◌∷◌, length, take, drop, map, Bor, get_or, eqb, Option, Some, None, refl, sym, ap, ◌∙◌, subst, arith}
use Rattle.std.proofs.lemmas.List.{take_all}
use Rattle.gocov_words.specs.declared.heading.CommandName.{CommandName}
use Rattle.gocov_words.specs.declared.front.Front.{Front}
use Rattle.gocov_words.specs.declared.front.Front.TheVariants as fronts
use Rattle.gocov_words.specs.Flags.{flag_name, row_of, is_boolean}
use Rattle.std.specs.Option.{option_or, option_map_or}
use Rattle.gocov_words.specs.declared.flag.Flag.{Flag}
use Rattle.gocov_words.specs.Table.{FlagRow, row_named}
use Rattle.gocov_words.specs.Word.{flag_text, name_in, value_in}
use Rattle.gocov_words.specs.Line.{Line, first, cut, cut_at, ended, with_flag}
use Rattle.gocov_words.specs.Rules.{bad_flag, lacks_value}
use Rattle.gocov_words.specs.Fronts.{IsFront, IsFlagFront}

-- the cut at a flag
cut_here : (command : CommandName) (at : ℕ) (word : List ℕ) (words : List (List ℕ)) (text : Option (List ℕ)) → flag_text word ≡ text
    → cut command false at (word ∷ words) ≡ cut_at command at text words (λ is_value. cut command is_value (at + 1) words)
cut_here command at word words text e = ap (λ (o : Option (List ℕ)). cut_at command at o words (λ is_value. cut command is_value (at + 1) words)) e

same_behind : (n : ℕ) (a b : List ℕ) (words : List (List ℕ)) → 0 < n → drop n (a ∷ words) ≡ drop n (b ∷ words)
same_behind zero a b words h = absurd (omega arith)
same_behind (suc n) a b words h = refl

by_text : (command : CommandName) (word text : List ℕ) (words : List (List ℕ)) (front : Front) → flag_text word ≡ Some text → 0 < length text
    → IsFlagFront command text words front → IsFront command (word ∷ words) front
by_text command word text words (fronts.End n) e filled h =
    ((h filled).0, λ at. cut_here command at word words (Some text) e ∙ (h filled).1 at)
by_text command word text words fronts.Unknown e filled h =
    λ at. ap (λ (line : Line). bad_flag command line.flags) (cut_here command at word words (Some text) e) ∙ h filled at
by_text command word text words fronts.Valueless e filled h =
    λ at. (
      ap (λ (line : Line). bad_flag command line.flags) (cut_here command at word words (Some text) e) ∙ (h filled at).0,
      ap (λ (line : Line). lacks_value line.flags) (cut_here command at word words (Some text) e) ∙ (h filled at).1,
      ap (λ (line : Line). line.end) (cut_here command at word words (Some text) e) ∙ (h filled at).2,
    )
by_text command word text words (fronts.Flag flag value n) e filled h = (
  (h filled).0,
  (h filled).1,
  (h filled).2,
  λ at. cut_here command at word words (Some text) e ∙ ((h filled).3 at ∙
      ap (λ (behind : List (List ℕ)). with_flag (record { at = at; name = flag_name flag; value = Some value.now }) (cut command false (at + n) behind)) (same_behind n text word words (h filled).0)),
)

filled_length : (text : List ℕ) → eqb (length text) 0 ≡ false → 0 < length text
filled_length [] e = absurd (cc)
filled_length (c ∷ text) e = omega arith

-- no flag, or the dashes that end flags
pub ends_before : (command : CommandName) (word : List ℕ) (words : List (List ℕ)) → flag_text word ≡ None → IsFront command (word ∷ words) (fronts.End 0)
ends_before command word words e = (omega arith, λ at. cut_here command at word words None e ∙ ap ended (sym (omega arith)))

pub by_flag : (command : CommandName) (words : List (Bor (List ℕ))) (d : Bor (List ℕ)) (n : ℕ) (text : List ℕ) (front : Front) → 1 ≤ length words → length words ≤ n + 1 → Some text ≡ flag_text (get_or words 0 d).now → eqb (length text) 0 ≡ false
    → IsFlagFront command text (map (λ (w : Bor (List ℕ)). w.now) (take n (drop 1 words))) front → IsFront command (map (λ (w : Bor (List ℕ)). w.now) words) front
by_flag command [] d n text front some fits e filled h = absurd (omega arith)
by_flag command (w ∷ ws) d n text front some fits e filled h =
    let P : List (Bor (List ℕ)) → Type 0 = λ rest. IsFlagFront command text (map (λ (w : Bor (List ℕ)). w.now) rest) front in
    by_text command w.now text (map (λ (w : Bor (List ℕ)). w.now) ws) front (sym e) (filled_length text filled) (subst P (take_all n ws (omega arith)) h)

-- THE FLAG AT A WORD WHOSE TEXT NAMES IT

-- its value behind =
pub front_own : (command : CommandName) (text : List ℕ) (words : List (List ℕ)) (flag : Flag) (value : Bor (List ℕ)) → Some (row_of command flag) ≡ row_named command (name_in text) → name_in text ≡ flag_name flag
    → Some value.now ≡ value_in text → IsFlagFront command text words (fronts.Flag flag value 1)
front_own command [] words flag value row name own = λ filled. absurd (omega arith)
front_own command (c ∷ text) words flag value row name own =
    λ filled. (
      omega arith,
      omega arith,
      ap (row_named command) (sym name) ∙ sym row,
      λ at.
          ap (λ (o : Option (List ℕ)). with_flag (record { at = at; name = name_in (c ∷ text); value = option_or (option_or o (alone command (c ∷ text))) (first words) }) (cut command (is_none (option_or o (alone command (c ∷ text)))) (at + 1) words)) (sym own)
          ∙ ap (λ (n : List ℕ). with_flag (record { at = at; name = n; value = Some value.now }) (cut command false (at + 1) words)) name,
    )
  where
    alone : CommandName → List ℕ → Option (List ℕ)
    alone command text = cond (option_map_or (λ (row : FlagRow). row.is_boolean) (row_named command (name_in text)) false) (Some (codes "true")) None

-- its value in the next word
pub front_next : (command : CommandName) (text : List ℕ) (word : List ℕ) (words : List (List ℕ)) (flag : Flag) (value : Bor (List ℕ)) → Some (row_of command flag) ≡ row_named command (name_in text) → name_in text ≡ flag_name flag
    → None ≡ value_in text → is_boolean flag ≡ false → value.now ≡ word → IsFlagFront command text (word ∷ words) (fronts.Flag flag value 2)
front_next command [] word words flag value row name own boolean same = λ filled. absurd (omega arith)
front_next command (c ∷ text) word words flag value row name own boolean same =
    λ filled. (
      omega arith,
      omega arith,
      ap (row_named command) (sym name) ∙ sym row,
      λ at.
          ap (λ (o : Option (List ℕ)). with_flag (record { at = at; name = name_in (c ∷ text); value = option_or (option_or o (alone command (c ∷ text))) (Some word) }) (cut command (is_none (option_or o (alone command (c ∷ text)))) (at + 1) (word ∷ words))) (sym own)
          ∙ (ap (λ (o : Option FlagRow). behind (option_map_or (λ (row : FlagRow). row.is_boolean) o false) at) (sym row)
          ∙ (ap (λ (b : Bool). behind b at) boolean
          ∙ (ap (λ (n : ℕ). with_flag (record { at = at; name = name_in (c ∷ text); value = Some word }) (cut command false n words)) (next_at at)
          ∙ (ap (λ (n : List ℕ). with_flag (record { at = at; name = n; value = Some word }) (cut command false (at + 2) words)) name
          ∙ ap (λ (v : List ℕ). with_flag (record { at = at; name = flag_name flag; value = Some v }) (cut command false (at + 2) words)) (sym same))))),
    )
  where
    alone : CommandName → List ℕ → Option (List ℕ)
    alone command text = cond (option_map_or (λ (row : FlagRow). row.is_boolean) (row_named command (name_in text)) false) (Some (codes "true")) None

    behind : Bool → ℕ → Line
    behind b at = with_flag (record { at = at; name = name_in (c ∷ text); value = option_or (cond b (Some (codes "true")) None) (Some word) }) (cut command (is_none (cond b (Some (codes "true")) None)) (at + 1) (word ∷ words))

    next_at : (at : ℕ) → at + 1 + 1 ≡ at + 2
    next_at at = omega arith

pub front_next_in : (command : CommandName) (text : List ℕ) (after : List (Bor (List ℕ))) (d : Bor (List ℕ)) (flag : Flag) → 1 ≤ length after → Some (row_of command flag) ≡ row_named command (name_in text) → name_in text ≡ flag_name flag
    → None ≡ value_in text → is_boolean flag ≡ false → IsFlagFront command text (map (λ (w : Bor (List ℕ)). w.now) after) (fronts.Flag flag (get_or after 0 d) 2)
front_next_in command text [] d flag some row name own boolean = absurd (omega arith)
front_next_in command text (w ∷ ws) d flag some row name own boolean = front_next command text w.now (map (λ (w : Bor (List ℕ)). w.now) ws) flag w row name own boolean refl
