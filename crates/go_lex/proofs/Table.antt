-- Operators are found by the table in which none stands behind one that it begins with.
use Rattle.std.proofs.Common.{◌≡◌, ℕ, zero, suc, ◌+◌, ◌<◌, ◌≤◌, Bool, true, false, ◌&&◌, ◌||◌, not, cond, List, [], ◌∷◌, ◌++◌, length, take, Option, Some, None, refl, sym, ap, subst, ◌∙◌, arith, nat_le, nat_eq}
use Rattle.std.specs.Prelude.{slice_get}
use Rattle.std.specs.List.{starts_with, list_all}
use Rattle.std.proofs.lemmas.Bool.{eqb-true, eq-eqb, leb-true, leb-false}
use Rattle.go_ast.specs.Words.{operators}
use Rattle.go_lex.specs.Scan.{first_of}
use Rattle.go_lex.specs.Operators.{by_front}
use Rattle.go_lex.proofs.Values.{both}
use Rattle.go_lex.proofs.Closes.{not_true, absurd_bool}

abbrev pub same_word : List ℕ → List ℕ → Bool
same_word [] [] = true
same_word [] (c ∷ cs) = false
same_word (b ∷ bs) [] = false
same_word (b ∷ bs) (c ∷ cs) = nat_eq b c && same_word bs cs

pub same_is : (v w : List ℕ) → same_word v w ≡ true → v ≡ w
same_is [] [] e = refl
same_is [] (c ∷ cs) e = absurd cc
same_is (b ∷ bs) [] e = absurd cc
same_is (b ∷ bs) (c ∷ cs) e =
    let two = both (nat_eq b c) (same_word bs cs) e in
    rw (eqb-true b c two.0, same_is bs cs two.1) refl

starts_self : (w r : List ℕ) → starts_with nat_eq (w ++ r) w ≡ true
starts_self [] r = refl
starts_self (b ∷ w) r = rw (eq-eqb b b refl) (starts_self w r)

starts_is : (w text : List ℕ) → starts_with nat_eq text w ≡ true → take (length w) text ≡ w
starts_is [] text e = refl
starts_is (b ∷ w) [] e = absurd cc
starts_is (b ∷ w) (c ∷ text) e =
    let two = both (nat_eq b c) (starts_with nat_eq text w) e in
    let same : b ≡ c = eqb-true b c two.0 in
    rw same (ap (λ (x : List ℕ). c ∷ x) (starts_is w text two.1))

-- what a longer front begins with
starts_less : (w v r : List ℕ) → starts_with nat_eq (v ++ r) w ≡ true → length w ≤ length v → starts_with nat_eq v w ≡ true
starts_less [] v r e le = refl
starts_less (b ∷ w) [] r e le = absurd (omega arith)
starts_less (b ∷ w) (c ∷ v) r e le =
    let two = both (nat_eq b c) (starts_with nat_eq (v ++ r) w) e in
    rw two.0 (starts_less w v r two.1 (omega arith))

abbrev some_pair : ℕ × ℕ → Option (ℕ × ℕ)
some_pair p = Some p

pair_is : (a b : ℕ × ℕ) → some_pair a ≡ some_pair b → a ≡ b
pair_is a b e = cc

-- ---- what is found

abbrev has_place_by : List ℕ → Option (List ℕ) → Bool
has_place_by word None = false
has_place_by word (Some w) = same_word w word

abbrev has_place : ℕ × List ℕ → Bool
has_place entry = has_place_by entry.1 (slice_get operators entry.0)

place_is : (word : List ℕ) (o : Option (List ℕ)) → has_place_by word o ≡ true → o ≡ Some word
place_is word None e = absurd cc
place_is word (Some w) e = rw (same_is w word e) refl

pub record Found (text : List ℕ) (place len : ℕ) : Type 0 where
  pub word : List ℕ
  pub is : slice_get operators place ≡ Some word
  pub long : len ≡ length word
  pub stands : take len text ≡ word

found_in : (table : List (ℕ × List ℕ)) (text : List ℕ) (place len : ℕ) → list_all has_place table ≡ true → first_of table text ≡ Some (place, len) → Found text place len
unfolding first_of
found_in [] text place len ok e = absurd cc
found_in (entry ∷ entries) text place len ok e = go (starts_with nat_eq text entry.1) refl e (found_in entries text place len two.1)
  where
    two : (has_place entry ≡ true) × (list_all has_place entries ≡ true)
    two = both (has_place entry) (list_all has_place entries) ok

    go : (b : Bool) → starts_with nat_eq text entry.1 ≡ b → cond b (Some (entry.0, length entry.1)) (first_of entries text) ≡ Some (place, len) → (first_of entries text ≡ Some (place, len) → Found text place len) → Found text place len
    go true b-is h more =
        let same : (entry.0, length entry.1) ≡ (place, len) = pair_is (entry.0, length entry.1) (place, len) h in
        let p : entry.0 ≡ place = ap (λ (x : ℕ × ℕ). x.0) same in
        let l : length entry.1 ≡ len = ap (λ (x : ℕ × ℕ). x.1) same in
        record {
          word = entry.1;
          is = ap (slice_get operators) (sym p) ∙ place_is entry.1 (slice_get operators entry.0) two.0;
          long = sym l;
          stands = ap (λ (n : ℕ). take n text) (sym l) ∙ starts_is entry.1 text b-is;
        }
    go false b-is h more = more h

pub operator_found : (text : List ℕ) (place len : ℕ) → first_of by_front text ≡ Some (place, len) → Found text place len
operator_found text place len e = found_in by_front text place len refl e

-- ---- what stands there is found

abbrev is_listed : ℕ → List ℕ → List (ℕ × List ℕ) → Bool
is_listed place word [] = false
is_listed place word (entry ∷ entries) = (nat_eq entry.0 place && same_word entry.1 word) || is_listed place word entries

abbrev all_listed : ℕ → List (List ℕ) → Bool
all_listed place [] = true
all_listed place (word ∷ words) = is_listed place word by_front && all_listed (place + 1) words

abbrev is_no_front : List ℕ → ℕ × List ℕ → Bool
is_no_front word entry = not (starts_with nat_eq entry.1 word)

abbrev in_order : List (ℕ × List ℕ) → Bool
in_order [] = true
in_order (entry ∷ entries) = list_all (is_no_front entry.1) entries && in_order entries

pub record Reached (table : List (ℕ × List ℕ)) (place : ℕ) (word rest : List ℕ) : Type 0 where
  pub other : ℕ
  pub len : ℕ
  pub found : first_of table (word ++ rest) ≡ Some (other, len)
  pub long : length word ≤ len
  pub only : len ≡ length word → other ≡ place

pub or_cases : (a b : Bool) → (a || b) ≡ true → a ≡ false → b ≡ true
or_cases true b e f = absurd cc
or_cases false b e f = e

-- a word that is listed has no front among the earlier ones
listed_no_front : (front : List ℕ) (table : List (ℕ × List ℕ)) (place : ℕ) (word : List ℕ) → list_all (is_no_front front) table ≡ true → is_listed place word table ≡ true → starts_with nat_eq word front ≡ false
listed_no_front front [] place word ok e = absurd cc
listed_no_front front (entry ∷ entries) place word ok e = go (nat_eq entry.0 place && same_word entry.1 word) refl (listed_no_front front entries place word two.1)
  where
    two : (is_no_front front entry ≡ true) × (list_all (is_no_front front) entries ≡ true)
    two = both (is_no_front front entry) (list_all (is_no_front front) entries) ok

    go : (b : Bool) → (nat_eq entry.0 place && same_word entry.1 word) ≡ b → (is_listed place word entries ≡ true → starts_with nat_eq word front ≡ false) → starts_with nat_eq word front ≡ false
    go true b-is more =
        let same = same_is entry.1 word (both (nat_eq entry.0 place) (same_word entry.1 word) b-is).1 in
        subst (λ (w : List ℕ). starts_with nat_eq w front ≡ false) same (not_true (starts_with nat_eq entry.1 front) two.0)
    go false b-is more = more (or_cases (nat_eq entry.0 place && same_word entry.1 word) (is_listed place word entries) e b-is)

reached_in : (table : List (ℕ × List ℕ)) (place : ℕ) (word rest : List ℕ) → in_order table ≡ true → is_listed place word table ≡ true → Reached table place word rest
unfolding first_of
reached_in [] place word rest ok e = absurd cc
reached_in (entry ∷ entries) place word rest ok e =
    go (starts_with nat_eq (word ++ rest) entry.1) (nat_eq entry.0 place && same_word entry.1 word) refl refl (reached_in entries place word rest two.1)
  where
    two : (list_all (is_no_front entry.1) entries ≡ true) × (in_order entries ≡ true)
    two = both (list_all (is_no_front entry.1) entries) (in_order entries) ok

    later : (b : Bool) → nat_le (length entry.1) (length word) ≡ b → starts_with nat_eq (word ++ rest) entry.1 ≡ true → is_listed place word entries ≡ true → length word < length entry.1
    later true b-is starts listed =
        let less = starts_less entry.1 word rest starts (leb-true (length entry.1) (length word) b-is) in
        absurd (absurd_bool (starts_with nat_eq word entry.1) less (listed_no_front entry.1 entries place word two.0 listed))
    later false b-is starts listed = leb-false (length entry.1) (length word) b-is

    go : (s h : Bool) → starts_with nat_eq (word ++ rest) entry.1 ≡ s → (nat_eq entry.0 place && same_word entry.1 word) ≡ h → (is_listed place word entries ≡ true → Reached entries place word rest) → Reached (entry ∷ entries) place word rest
    go true true s-is h-is more =
        let here = both (nat_eq entry.0 place) (same_word entry.1 word) h-is in
        let same = same_is entry.1 word here.1 in
        record { other = entry.0; len = length entry.1; found = rw s-is refl; long = rw same (omega arith); only = λ l. eqb-true entry.0 place here.0 }
    go true false s-is h-is more =
        let listed = or_cases (nat_eq entry.0 place && same_word entry.1 word) (is_listed place word entries) e h-is in
        let lt = later (nat_le (length entry.1) (length word)) refl s-is listed in
        record { other = entry.0; len = length entry.1; found = rw s-is refl; long = omega arith; only = λ l. absurd (omega arith) }
    go false true s-is h-is more =
        let same = same_is entry.1 word (both (nat_eq entry.0 place) (same_word entry.1 word) h-is).1 in
        absurd (absurd_bool (starts_with nat_eq (word ++ rest) entry.1) (subst (λ (w : List ℕ). starts_with nat_eq (word ++ rest) w ≡ true) (sym same) (starts_self word rest)) s-is)
    go false false s-is h-is more =
        let r = more (or_cases (nat_eq entry.0 place && same_word entry.1 word) (is_listed place word entries) e h-is) in
        record { other = r.other; len = r.len; found = rw s-is r.found; long = r.long; only = r.only }

listed_at : (words : List (List ℕ)) (from place : ℕ) (word : List ℕ) → all_listed from words ≡ true → slice_get words place ≡ Some word → is_listed (from + place) word by_front ≡ true
listed_at [] from place word ok e = absurd cc
listed_at (w ∷ ws) from zero word ok e =
    let is : w ≡ word = cc in
    let z : from + 0 ≡ from = omega arith in
    rw z (subst (λ (x : List ℕ). is_listed from x by_front ≡ true) is (both (is_listed from w by_front) (all_listed (from + 1) ws) ok).0)
listed_at (w ∷ ws) from (suc place) word ok e =
    let k : from + suc place ≡ from + 1 + place = omega arith in
    rw k (listed_at ws (from + 1) place word (both (is_listed from w by_front) (all_listed (from + 1) ws) ok).1 e)

pub operator_reached : (place : ℕ) (word rest : List ℕ) → slice_get operators place ≡ Some word → Reached by_front place word rest
operator_reached place word rest e =
    let z : 0 + place ≡ place = omega arith in
    reached_in by_front place word rest refl (subst (λ (p : ℕ). is_listed p word by_front ≡ true) z (listed_at operators 0 place word refl e))

-- ---- how operators begin

abbrev pub is_ascii_letter : ℕ → Bool
is_ascii_letter b = nat_eq b 95 || ((nat_le 65 b && nat_le b 90) || (nat_le 97 b && nat_le b 122))
