-- The pieces of the trailer.
use Rattle.std.proofs.Common.{◌≡◌, inl, inr, ℕ, ◌+◌, ◌<◌, ◌^◌, Bool, true, false, List, [], ◌∷◌, ◌++◌, length, take, drop, Option, Some, None, refl, sym, ap, subst, ◌∙◌, arith, append_assoc}
use Rattle.std.specs.Prelude.{codes, decimal, min}
use Rattle.std.specs.List.{list_all, list_any, flat_map, enumerate_from}
use Rattle.std.proofs.lemmas.List.{append-nil, length-take}
use Rattle.std.proofs.lemmas.List.Sums.{count_by-le-length}
use Rattle.std.proofs.lemmas.Nat.{mod_below}
use Rattle.std.proofs.lemmas.Bool.{eqb-true}
use Rattle.go_ast.specs.declared.token.PieceForm.TheVariants as form
use Rattle.go_ast.specs.declared.token.TokenKind.TheVariants as kind
use Rattle.go_ast.specs.Places.{place_at, is_newline}
use Rattle.go_ast.specs.declared.place.Place.{Place}
use Rattle.go_ast.specs.Characters.{AreCharacters}
use Rattle.go_ast.specs.Numbers.{is_decimal}
use Rattle.go_ast.specs.Tokens.{word_kind}
use Rattle.go_ast.specs.Words.{keywords, place_in}
use Rattle.go_ast.specs.Pieces.{Piece, IsLongest, IsWord}
use Rattle.cov_outside.specs.declared.mode.Mode.{Mode}
use Rattle.cov_outside.specs.declared.mode.Mode.TheVariants as mode
use Rattle.cov_cut.specs.declared.unit.Unit.{Unit as CutUnit}
use Rattle.cov_rewrite.specs.Trailer.{hexadecimal, columns, unit_place_line, unit_statements_line, type_text, places_text, statements_text, use_text, trailer}
use Rattle.cov_tokens.specs.Spellings.{Spelling, spelled, name}
use Rattle.cov_tokens.specs.Tables.{type_spellings, places_spellings, statements_spellings, use_spellings, unit_place_spellings, unit_statements_spellings, trailer_spellings, size, triple_size}
use Rattle.cov_tokens.specs.Places.{IsIdentifier}
use Rattle.cov_tokens.proofs.Basics.{both}
use Rattle.cov_tokens.proofs.Stands.{Parts, parted, word_parts, comment_parts}
use Rattle.cov_tokens.proofs.Spelling.{flat, flat_append, semicolon, spelled_in, spelled_in_append, pending_in, pending_in_append}
use Rattle.cov_tokens.proofs.Walk.{Runs}
use Rattle.cov_tokens.proofs.Woven.{runs_append}
use Rattle.cov_tokens.proofs.Chains.{piece, IsFine, chain_divides, chain_all, are_known, word_fine, plain_characters, join_characters}
use Rattle.cov_tokens.proofs.Digits.{numeral, IsNumeral, numeral_parts, are_decimal}
use Rattle.cov_tokens.proofs.Hexadecimal.{hexadecimal_numeral}
use Rattle.cov_tokens.proofs.Puts.{word, sign, space, num}

abbrev pub line : Piece
line = piece form.Line (10 ∷ [])

abbrev tab : Piece
tab = piece form.Blank (9 ∷ [])

abbrev equals : Piece
equals = sign 30 (codes "=")

abbrev left : Piece
left = sign 42 (codes "{")

abbrev right : Piece
right = sign 43 (codes "}")

abbrev opening : Piece
opening = sign 40 (codes "[")

abbrev closing : Piece
closing = sign 41 (codes "]")

abbrev comma : Piece
comma = sign 44 (codes ",")

abbrev colon : Piece
colon = sign 47 (codes ":")

abbrev star : Piece
star = sign 2 (codes "*")

-- ---- pieces that are known

known_runs : (ps : List Piece) → ((b : ℕ) → are_known ps b ≡ true) → Runs ps
known_runs ps h rest = chain_divides ps [] (chain_all ps h []) rest

-- a piece before known ones
led_runs : (p q : Piece) (ps : List Piece) (b : ℕ) (w : List ℕ) → IsFine p → q.bytes ≡ b ∷ w → Parts p.bytes b → ((c : ℕ) → are_known (q ∷ ps) c ≡ true) → Runs (p ∷ q ∷ ps)
led_runs p q ps b w fine e parts h rest =
    chain_divides (p ∷ q ∷ ps) [] (
      fine,
      λ r. subst (IsLongest p.form p.bytes) (sym (ap (λ (x : List ℕ). (x ++ flat ps) ++ r) e)) (parted p.form p.bytes ((w ++ flat ps) ++ r) b fine.has_form parts),
      chain_all (q ∷ ps) h [],
    )
    rest

number_runs : (w : List ℕ) (ps : List Piece) → IsNumeral w → ((c : ℕ) → are_known (comma ∷ ps) c ≡ true) → Runs (num w ∷ comma ∷ ps)
number_runs w ps n h = led_runs (num w) comma ps 44 [] n.fine refl (numeral_parts w 44 n refl) h

size_runs : (w : List ℕ) (ps : List Piece) → IsNumeral w → ((c : ℕ) → are_known (closing ∷ ps) c ≡ true) → Runs (num w ∷ closing ∷ ps)
size_runs w ps n h = led_runs (num w) closing ps 93 [] n.fine refl (numeral_parts w 93 n refl) h

-- ---- the type

abbrev var_front : List Piece
var_front = line ∷ word (codes "var") ∷ space ∷ []

abbrev struct_part : List Piece
struct_part = space ∷ equals ∷ space ∷ word (codes "struct") ∷ space ∷ left ∷ line ∷ tab ∷ word (codes "Count") ∷ space ∷ opening ∷ []

abbrev pos_part : List Piece
pos_part = closing ∷ word (codes "uint32") ∷ line ∷ tab ∷ word (codes "Pos") ∷ space ∷ opening ∷ num (codes "3") ∷ space ∷ star ∷ space ∷ []

abbrev statements_part : List Piece
statements_part = closing ∷ word (codes "uint32") ∷ line ∷ tab ∷ word (codes "NumStmt") ∷ space ∷ opening ∷ []

abbrev type_end : List Piece
type_end = closing ∷ word (codes "uint16") ∷ line ∷ right ∷ left ∷ line ∷ []

abbrev type_pieces : List ℕ → List ℕ → List Piece
type_pieces var n = var_front ++ (word var ∷ struct_part) ++ (num n ∷ pos_part) ++ (num n ∷ statements_part) ++ (num n ∷ type_end)

nine_parts : (a b c d e f g h i : List ℕ) → (((((((a ++ b) ++ c) ++ d) ++ e) ++ f) ++ g) ++ h) ++ i ≡ a ++ (b ++ (c ++ (d ++ (e ++ (f ++ (g ++ (h ++ i)))))))
nine_parts a b c d e f g h i =
    append_assoc (((((((a ++ b) ++ c) ++ d) ++ e) ++ f) ++ g)) h i ∙ append_assoc ((((((a ++ b) ++ c) ++ d) ++ e) ++ f)) g (h ++ i)
    ∙ append_assoc (((((a ++ b) ++ c) ++ d) ++ e)) f (g ++ (h ++ i)) ∙ append_assoc ((((a ++ b) ++ c) ++ d)) e (f ++ (g ++ (h ++ i)))
    ∙ append_assoc (((a ++ b) ++ c)) d (e ++ (f ++ (g ++ (h ++ i)))) ∙ append_assoc ((a ++ b)) c (d ++ (e ++ (f ++ (g ++ (h ++ i)))))
    ∙ append_assoc a b (c ++ (d ++ (e ++ (f ++ (g ++ (h ++ i))))))

five_parts : (a b c d e : List ℕ) → (((a ++ b) ++ c) ++ d) ++ e ≡ a ++ (b ++ (c ++ (d ++ e)))
five_parts a b c d e = append_assoc ((a ++ b) ++ c) d e ∙ append_assoc (a ++ b) c (d ++ e) ∙ append_assoc a b (c ++ (d ++ e))

type_flat : (var : List ℕ) (n : ℕ) → flat (type_pieces var (decimal n)) ≡ type_text var n
type_flat var n =
    sym (nine_parts (codes "\nvar ") var (codes " = struct {\n\tCount [") (decimal n) (codes "]uint32\n\tPos [3 * ") (decimal n) (codes "]uint32\n\tNumStmt [") (decimal n) (codes "]uint16\n}{\n"))

type_runs : (var n : List ℕ) → IsWord var → IsNumeral n → Runs (type_pieces var n)
type_runs var n is-var is-n =
    let a : Runs var_front = known_runs var_front (λ b. refl) in
    let b : Runs (word var ∷ struct_part) = led_runs (word var) space (equals ∷ space ∷ word (codes "struct") ∷ space ∷ left ∷ line ∷ tab ∷ word (codes "Count") ∷ space ∷ opening ∷ []) 32 [] (word_fine var is-var) refl (word_parts var 32 (omega arith) refl is-var) (λ c. refl) in
    let c : Runs (num n ∷ pos_part) = size_runs n (word (codes "uint32") ∷ line ∷ tab ∷ word (codes "Pos") ∷ space ∷ opening ∷ num (codes "3") ∷ space ∷ star ∷ space ∷ []) is-n (λ c. refl) in
    let d : Runs (num n ∷ statements_part) = size_runs n (word (codes "uint32") ∷ line ∷ tab ∷ word (codes "NumStmt") ∷ space ∷ opening ∷ []) is-n (λ c. refl) in
    let e : Runs (num n ∷ type_end) = size_runs n (word (codes "uint16") ∷ line ∷ right ∷ left ∷ line ∷ []) is-n (λ c. refl) in
    runs_append (((var_front ++ (word var ∷ struct_part)) ++ (num n ∷ pos_part)) ++ (num n ∷ statements_part)) (num n ∷ type_end)
    (runs_append ((var_front ++ (word var ∷ struct_part)) ++ (num n ∷ pos_part)) (num n ∷ statements_part)
    (runs_append (var_front ++ (word var ∷ struct_part)) (num n ∷ pos_part) (runs_append var_front (word var ∷ struct_part) a b) c) d) e

abbrev var_rest : List ℕ → List Piece
var_rest n = struct_part ++ (num n ∷ pos_part) ++ (num n ∷ statements_part) ++ (num n ∷ type_end)

type_spelled : (var : List ℕ) (n : ℕ) (b : Bool) → place_in keywords var ≡ None → spelled_in b (type_pieces var (decimal n)) ≡ semicolon b ++ type_spellings var n
type_spelled var n b e = ap (λ (k : Option ℕ). semicolon b ++ (spelled (word_kind (Some 24)) (codes "var") ∷ spelled (word_kind k) var ∷ spelled_in true (var_rest (decimal n)))) e

type_pending : (var n : List ℕ) (b : Bool) → pending_in b (type_pieces var n) ≡ false
type_pending var n b = refl

-- ---- what stands for each unit

-- digits have no newline
digit_line : (b : ℕ) → is_decimal b ≡ true → is_newline b ≡ false
digit_line b d = go (is_newline b) refl
  where
    go : (v : Bool) → is_newline b ≡ v → v ≡ false
    go true e = let f : is_decimal 10 ≡ true = subst (λ (x : ℕ). is_decimal x ≡ true) (eqb-true b 10 e) d in absurd cc
    go false e = refl

digits_line : (w v : List ℕ) → list_all is_decimal w ≡ true → list_any is_newline v ≡ false → list_any is_newline (w ++ v) ≡ false
digits_line [] v h e = e
digits_line (b ∷ w) v h e = let two = both (is_decimal b) (list_all is_decimal w) h in rw (digit_line b two.0) (digits_line w v two.1 e)

decimal_line : (n : ℕ) (v : List ℕ) → n < 2 ^ 64 → list_any is_newline v ≡ false → list_any is_newline (decimal n ++ v) ≡ false
decimal_line n v lt e =
    let a = are_decimal n lt in
    digits_line (decimal n) v (ap (list_all is_decimal) a.is ∙ rw (a.first_is, a.rest_is) refl) e

-- a line comment in a line of its own end
pub comment_runs : (more : List ℕ) → AreCharacters more → list_any is_newline more ≡ false → Runs (piece form.Blank (47 ∷ 47 ∷ more) ∷ line ∷ [])
comment_runs more are h =
    led_runs (piece form.Blank (47 ∷ 47 ∷ more)) line [] 10 []
    (record { characters = join_characters (47 ∷ 47 ∷ []) more (plain_characters (47 ∷ 47 ∷ []) refl) are; meant = tt; has_form = inr (inl (more, refl, h)) })
    refl (comment_parts more) (λ c. refl)

number_end : (i : ℕ) → i < 2 ^ 64 → AreCharacters (decimal i)
number_end i lt = (numeral i lt).fine.characters

-- the places of unit i
abbrev place_pieces : List ℕ → List ℕ → List ℕ → ℕ → List Piece
place_pieces start end columns i =
    (tab ∷ tab ∷ []) ++ ((num start ∷ comma ∷ space ∷ []) ++ ((num end ∷ comma ∷ space ∷ []) ++ ((num columns ∷ comma ∷ space ∷ []) ++ (piece form.Blank (47 ∷ 47 ∷ 32 ∷ 91 ∷ (decimal i ++ 93 ∷ [])) ∷ line ∷ []))))

entry_runs : (w : List ℕ) → IsNumeral w → Runs (num w ∷ comma ∷ space ∷ [])
entry_runs w n = number_runs w (space ∷ []) n (λ c. refl)

tabs_runs : Runs (tab ∷ tab ∷ [])
tabs_runs = known_runs (tab ∷ tab ∷ []) (λ b. refl)

place_runs : (start end columns : List ℕ) (i : ℕ) → i < 2 ^ 64 → IsNumeral start → IsNumeral end → IsNumeral columns → Runs (place_pieces start end columns i)
place_runs start end columns i lt a b c =
    let last : Runs (piece form.Blank (47 ∷ 47 ∷ 32 ∷ 91 ∷ (decimal i ++ 93 ∷ [])) ∷ line ∷ []) =
    comment_runs (32 ∷ 91 ∷ (decimal i ++ 93 ∷ []))
    (join_characters (32 ∷ 91 ∷ []) (decimal i ++ 93 ∷ []) (plain_characters (32 ∷ 91 ∷ []) refl) (join_characters (decimal i) (93 ∷ []) (number_end i lt) (plain_characters (93 ∷ []) refl)))
    (decimal_line i (93 ∷ []) lt refl) in
    let three = runs_append (num columns ∷ comma ∷ space ∷ []) (piece form.Blank (47 ∷ 47 ∷ 32 ∷ 91 ∷ (decimal i ++ 93 ∷ [])) ∷ line ∷ []) (entry_runs columns c) last in
    let two = runs_append (num end ∷ comma ∷ space ∷ []) ((num columns ∷ comma ∷ space ∷ []) ++ (piece form.Blank (47 ∷ 47 ∷ 32 ∷ 91 ∷ (decimal i ++ 93 ∷ [])) ∷ line ∷ [])) (entry_runs end b) three in
    let one = runs_append (num start ∷ comma ∷ space ∷ []) ((num end ∷ comma ∷ space ∷ []) ++ ((num columns ∷ comma ∷ space ∷ []) ++ (piece form.Blank (47 ∷ 47 ∷ 32 ∷ 91 ∷ (decimal i ++ 93 ∷ [])) ∷ line ∷ []))) (entry_runs start a) two in
    runs_append (tab ∷ tab ∷ []) ((num start ∷ comma ∷ space ∷ []) ++ ((num end ∷ comma ∷ space ∷ []) ++ ((num columns ∷ comma ∷ space ∷ []) ++ (piece form.Blank (47 ∷ 47 ∷ 32 ∷ 91 ∷ (decimal i ++ 93 ∷ [])) ∷ line ∷ [])))) tabs_runs one

abbrev start_of : List ℕ → CutUnit → Place
start_of text u = place_at text u.start

abbrev end_of : List ℕ → CutUnit → Place
end_of text u = place_at text u.end

abbrev unit_pieces : List ℕ → ℕ × CutUnit → List Piece
unit_pieces text (i, u) = place_pieces (decimal (start_of text u).line) (decimal (end_of text u).line) (codes "0x" ++ hexadecimal (columns (start_of text u) (end_of text u))) i

unit_flat : (text : List ℕ) (i : ℕ) (u : CutUnit) → flat (unit_pieces text (i, u)) ≡ unit_place_line text (i, u)
unit_flat text i u =
    ap (λ (x : List ℕ). codes "\t\t" ++ (decimal (start_of text u).line ++ (codes ", " ++ (decimal (end_of text u).line ++ (codes ", 0x" ++ (hexadecimal (columns (start_of text u) (end_of text u)) ++ (codes ", // [" ++ x)))))))
    (append_assoc (decimal i) (codes "]") (codes "\n"))
    ∙ sym (nine_parts (codes "\t\t") (decimal (start_of text u).line) (codes ", ") (decimal (end_of text u).line) (codes ", 0x") (hexadecimal (columns (start_of text u) (end_of text u))) (codes ", // [") (decimal i) (codes "]\n"))

line_small : (text : List ℕ) (at : ℕ) → length text < 2 ^ 63 → (place_at text at).line < 2 ^ 64
line_small text at lt =
    let a = count_by-le-length is_newline (take at text) in
    let b = length-take at text in
    omega arith

columns_small : (a b : Place) → columns a b < 2 ^ 64
columns_small a b = let l = mod_below b.column 65536 (omega arith) in let m = mod_below a.column 65536 (omega arith) in omega arith

unit_runs : (text : List ℕ) (i : ℕ) (u : CutUnit) → i < 2 ^ 64 → length text < 2 ^ 63 → Runs (unit_pieces text (i, u))
unit_runs text i u lt short =
    place_runs (decimal (start_of text u).line) (decimal (end_of text u).line) (codes "0x" ++ hexadecimal (columns (start_of text u) (end_of text u))) i lt
    (numeral (start_of text u).line (line_small text u.start short)) (numeral (end_of text u).line (line_small text u.end short))
    (hexadecimal_numeral (columns (start_of text u) (end_of text u)) (columns_small (start_of text u) (end_of text u)))

-- its statements
abbrev count_pieces : ℕ × CutUnit → List Piece
count_pieces (i, u) = (tab ∷ tab ∷ []) ++ ((num (decimal (min u.statements 65535)) ∷ comma ∷ space ∷ []) ++ (piece form.Blank (47 ∷ 47 ∷ 32 ∷ decimal i) ∷ line ∷ []))

count_flat : (i : ℕ) (u : CutUnit) → flat (count_pieces (i, u)) ≡ unit_statements_line (i, u)
count_flat i u = sym (five_parts (codes "\t\t") (decimal (min u.statements 65535)) (codes ", // ") (decimal i) (codes "\n"))

no_line_behind : (n : ℕ) → n < 2 ^ 64 → list_any is_newline (decimal n) ≡ false
no_line_behind n lt = ap (list_any is_newline) (sym (append-nil (decimal n))) ∙ decimal_line n [] lt refl

count_runs : (i : ℕ) (u : CutUnit) → i < 2 ^ 64 → Runs (count_pieces (i, u))
count_runs i u lt =
    let last : Runs (piece form.Blank (47 ∷ 47 ∷ 32 ∷ decimal i) ∷ line ∷ []) =
    comment_runs (32 ∷ decimal i) (join_characters (32 ∷ []) (decimal i) (plain_characters (32 ∷ []) refl) (number_end i lt)) (no_line_behind i lt) in
    let few : min u.statements 65535 < 2 ^ 64 = omega arith in
    let one = runs_append (num (decimal (min u.statements 65535)) ∷ comma ∷ space ∷ []) (piece form.Blank (47 ∷ 47 ∷ 32 ∷ decimal i) ∷ line ∷ []) (entry_runs (decimal (min u.statements 65535)) (numeral (min u.statements 65535) few)) last in
    runs_append (tab ∷ tab ∷ []) ((num (decimal (min u.statements 65535)) ∷ comma ∷ space ∷ []) ++ (piece form.Blank (47 ∷ 47 ∷ 32 ∷ decimal i) ∷ line ∷ [])) tabs_runs one

-- ---- lines for all units

record IsTable (f : ℕ × CutUnit → List Piece) (g : ℕ × CutUnit → List ℕ) (s : ℕ × CutUnit → List Spelling) : Type 0 where
  pub flat_is : (i : ℕ) (u : CutUnit) → flat (f (i, u)) ≡ g (i, u)
  pub runs : (i : ℕ) (u : CutUnit) → i < 2 ^ 64 → Runs (f (i, u))
  pub spelled_is : (i : ℕ) (u : CutUnit) → spelled_in false (f (i, u)) ≡ s (i, u)
  pub pending_is : (i : ℕ) (u : CutUnit) → pending_in false (f (i, u)) ≡ false

module _ (f : ℕ × CutUnit → List Piece) (g : ℕ × CutUnit → List ℕ) (s : ℕ × CutUnit → List Spelling) (t : IsTable f g s) where
  table_flat : (k : ℕ) (units : List CutUnit) → flat (flat_map f (enumerate_from k units)) ≡ flat_map g (enumerate_from k units)
  table_flat k [] = refl
  table_flat k (u ∷ us) =
      flat_append (f (k, u)) (flat_map f (enumerate_from (k + 1) us)) ∙ ap (λ (x : List ℕ). x ++ flat (flat_map f (enumerate_from (k + 1) us))) (t.flat_is k u)
      ∙ ap (λ (x : List ℕ). g (k, u) ++ x) (table_flat (k + 1) us)

  table_runs : (k : ℕ) (units : List CutUnit) → k + length units < 2 ^ 64 → Runs (flat_map f (enumerate_from k units))
  table_runs k [] lt = λ rest. refl
  table_runs k (u ∷ us) lt = runs_append (f (k, u)) (flat_map f (enumerate_from (k + 1) us)) (t.runs k u (omega arith)) (table_runs (k + 1) us (omega arith))

  table_spelled : (k : ℕ) (units : List CutUnit) → spelled_in false (flat_map f (enumerate_from k units)) ≡ flat_map s (enumerate_from k units)
  table_spelled k [] = refl
  table_spelled k (u ∷ us) =
      spelled_in_append false (f (k, u)) (flat_map f (enumerate_from (k + 1) us))
      ∙ ap (λ (x : List Spelling). x ++ spelled_in (pending_in false (f (k, u))) (flat_map f (enumerate_from (k + 1) us))) (t.spelled_is k u)
      ∙ ap (λ (b : Bool). s (k, u) ++ spelled_in b (flat_map f (enumerate_from (k + 1) us))) (t.pending_is k u)
      ∙ ap (λ (x : List Spelling). s (k, u) ++ x) (table_spelled (k + 1) us)

  table_pending : (k : ℕ) (units : List CutUnit) → pending_in false (flat_map f (enumerate_from k units)) ≡ false
  table_pending k [] = refl
  table_pending k (u ∷ us) =
      pending_in_append false (f (k, u)) (flat_map f (enumerate_from (k + 1) us))
      ∙ ap (λ (b : Bool). pending_in b (flat_map f (enumerate_from (k + 1) us))) (t.pending_is k u) ∙ table_pending (k + 1) us

place_table : (text : List ℕ) → length text < 2 ^ 63 → IsTable (unit_pieces text) (unit_place_line text) (unit_place_spellings text)
place_table text short = record { flat_is = unit_flat text; runs = λ i u lt. unit_runs text i u lt short; spelled_is = λ i u. refl; pending_is = λ i u. refl }

count_table : IsTable count_pieces unit_statements_line unit_statements_spellings
count_table = record { flat_is = count_flat; runs = count_runs; spelled_is = λ i u. refl; pending_is = λ i u. refl }

-- ---- the two tables

abbrev pos_front : List Piece
pos_front = tab ∷ word (codes "Pos") ∷ colon ∷ space ∷ opening ∷ num (codes "3") ∷ space ∷ star ∷ space ∷ []

abbrev table_end : List Piece
table_end = tab ∷ right ∷ comma ∷ line ∷ []

abbrev places_pieces : List ℕ → List CutUnit → List Piece
places_pieces text units =
    pos_front ++ ((num (decimal (length units)) ∷ closing ∷ word (codes "uint32") ∷ left ∷ line ∷ []) ++ (flat_map (unit_pieces text) (enumerate_from 0 units) ++ table_end))

places_flat : (text : List ℕ) (units : List CutUnit) → length text < 2 ^ 63 → flat (places_pieces text units) ≡ places_text text units
places_flat text units short =
    ap (λ (x : List ℕ). codes "\tPos: [3 * " ++ (decimal (length units) ++ (codes "]uint32{\n" ++ x)))
    (flat_append (flat_map (unit_pieces text) (enumerate_from 0 units)) table_end ∙ ap (λ (x : List ℕ). x ++ codes "\t},\n") (table_flat (unit_pieces text) (unit_place_line text) (unit_place_spellings text) (place_table text short) 0 units))
    ∙ sym (five_parts (codes "\tPos: [3 * ") (decimal (length units)) (codes "]uint32{\n") (flat_map (unit_place_line text) (enumerate_from 0 units)) (codes "\t},\n"))

places_runs : (text : List ℕ) (units : List CutUnit) → length text < 2 ^ 63 → length units < 2 ^ 64 → Runs (places_pieces text units)
places_runs text units short few =
    let n : List ℕ = decimal (length units) in
    let a : Runs pos_front = known_runs pos_front (λ b. refl) in
    let b : Runs (num n ∷ closing ∷ word (codes "uint32") ∷ left ∷ line ∷ []) = size_runs n (word (codes "uint32") ∷ left ∷ line ∷ []) (numeral (length units) few) (λ c. refl) in
    let c : Runs (flat_map (unit_pieces text) (enumerate_from 0 units)) = table_runs (unit_pieces text) (unit_place_line text) (unit_place_spellings text) (place_table text short) 0 units (omega arith) in
    let d : Runs table_end = known_runs table_end (λ b. refl) in
    runs_append pos_front ((num n ∷ closing ∷ word (codes "uint32") ∷ left ∷ line ∷ []) ++ (flat_map (unit_pieces text) (enumerate_from 0 units) ++ table_end)) a
    (runs_append (num n ∷ closing ∷ word (codes "uint32") ∷ left ∷ line ∷ []) (flat_map (unit_pieces text) (enumerate_from 0 units) ++ table_end) b
    (runs_append (flat_map (unit_pieces text) (enumerate_from 0 units)) table_end c d))

places_spelled : (text : List ℕ) (units : List CutUnit) → length text < 2 ^ 63 → spelled_in false (places_pieces text units) ≡ places_spellings text units
places_spelled text units short =
    ap (λ (x : List Spelling). name (codes "Pos") ∷ spelled (kind.Operator 47) (codes ":") ∷ (triple_size (length units) ++ (name (codes "uint32") ∷ spelled (kind.Operator 42) (codes "{") ∷ x)))
    (spelled_in_append false (flat_map (unit_pieces text) (enumerate_from 0 units)) table_end
    ∙ ap (λ (x : List Spelling). x ++ spelled_in (pending_in false (flat_map (unit_pieces text) (enumerate_from 0 units))) table_end) (table_spelled (unit_pieces text) (unit_place_line text) (unit_place_spellings text) (place_table text short) 0 units))

places_pending : (text : List ℕ) (units : List CutUnit) → pending_in false (places_pieces text units) ≡ false
places_pending text units =
    pending_in_append false pos_front ((num (decimal (length units)) ∷ closing ∷ word (codes "uint32") ∷ left ∷ line ∷ []) ++ (flat_map (unit_pieces text) (enumerate_from 0 units) ++ table_end))
    ∙ pending_in_append false (num (decimal (length units)) ∷ closing ∷ word (codes "uint32") ∷ left ∷ line ∷ []) (flat_map (unit_pieces text) (enumerate_from 0 units) ++ table_end)
    ∙ pending_in_append false (flat_map (unit_pieces text) (enumerate_from 0 units)) table_end

abbrev count_front : List Piece
count_front = tab ∷ word (codes "NumStmt") ∷ colon ∷ space ∷ opening ∷ []

abbrev count_end : List Piece
count_end = tab ∷ right ∷ comma ∷ line ∷ right ∷ line ∷ []

abbrev counts_pieces : List CutUnit → List Piece
counts_pieces units =
    count_front ++ ((num (decimal (length units)) ∷ closing ∷ word (codes "uint16") ∷ left ∷ line ∷ []) ++ (flat_map count_pieces (enumerate_from 0 units) ++ count_end))

counts_flat : (units : List CutUnit) → flat (counts_pieces units) ≡ statements_text units
counts_flat units =
    ap (λ (x : List ℕ). codes "\tNumStmt: [" ++ (decimal (length units) ++ (codes "]uint16{\n" ++ x)))
    (flat_append (flat_map count_pieces (enumerate_from 0 units)) count_end ∙ ap (λ (x : List ℕ). x ++ codes "\t},\n}\n") (table_flat count_pieces unit_statements_line unit_statements_spellings count_table 0 units))
    ∙ sym (five_parts (codes "\tNumStmt: [") (decimal (length units)) (codes "]uint16{\n") (flat_map unit_statements_line (enumerate_from 0 units)) (codes "\t},\n}\n"))

counts_runs : (units : List CutUnit) → length units < 2 ^ 64 → Runs (counts_pieces units)
counts_runs units few =
    let n : List ℕ = decimal (length units) in
    let a : Runs count_front = known_runs count_front (λ b. refl) in
    let b : Runs (num n ∷ closing ∷ word (codes "uint16") ∷ left ∷ line ∷ []) = size_runs n (word (codes "uint16") ∷ left ∷ line ∷ []) (numeral (length units) few) (λ c. refl) in
    let c : Runs (flat_map count_pieces (enumerate_from 0 units)) = table_runs count_pieces unit_statements_line unit_statements_spellings count_table 0 units (omega arith) in
    let d : Runs count_end = known_runs count_end (λ b. refl) in
    runs_append count_front ((num n ∷ closing ∷ word (codes "uint16") ∷ left ∷ line ∷ []) ++ (flat_map count_pieces (enumerate_from 0 units) ++ count_end)) a
    (runs_append (num n ∷ closing ∷ word (codes "uint16") ∷ left ∷ line ∷ []) (flat_map count_pieces (enumerate_from 0 units) ++ count_end) b
    (runs_append (flat_map count_pieces (enumerate_from 0 units)) count_end c d))

counts_spelled : (units : List CutUnit) → spelled_in false (counts_pieces units) ≡ statements_spellings units
counts_spelled units =
    ap (λ (x : List Spelling). name (codes "NumStmt") ∷ spelled (kind.Operator 47) (codes ":") ∷ (size (length units) ++ (name (codes "uint16") ∷ spelled (kind.Operator 42) (codes "{") ∷ x)))
    (spelled_in_append false (flat_map count_pieces (enumerate_from 0 units)) count_end
    ∙ ap (λ (x : List Spelling). x ++ spelled_in (pending_in false (flat_map count_pieces (enumerate_from 0 units))) count_end) (table_spelled count_pieces unit_statements_line unit_statements_spellings count_table 0 units))

counts_pending : (units : List CutUnit) → pending_in false (counts_pieces units) ≡ false
counts_pending units =
    pending_in_append false count_front ((num (decimal (length units)) ∷ closing ∷ word (codes "uint16") ∷ left ∷ line ∷ []) ++ (flat_map count_pieces (enumerate_from 0 units) ++ count_end))
    ∙ pending_in_append false (num (decimal (length units)) ∷ closing ∷ word (codes "uint16") ∷ left ∷ line ∷ []) (flat_map count_pieces (enumerate_from 0 units) ++ count_end)
    ∙ pending_in_append false (flat_map count_pieces (enumerate_from 0 units)) count_end

-- ---- the use of the import

abbrev use_pieces : Mode → List Piece
use_pieces mode.Atomic =
    word (codes "var") ∷ space ∷ word (codes "_") ∷ space ∷ equals ∷ space ∷ word (codes "_cover_atomic_") ∷ sign 46 (codes ".") ∷ word (codes "LoadUint32") ∷ line ∷ []
use_pieces _ = []

use_flat : (m : Mode) → flat (use_pieces m) ≡ use_text m
use_flat mode.Set = refl
use_flat mode.Count = refl
use_flat mode.Atomic = refl

use_runs : (m : Mode) → Runs (use_pieces m)
use_runs mode.Set = λ rest. refl
use_runs mode.Count = λ rest. refl
use_runs mode.Atomic = known_runs (use_pieces mode.Atomic) (λ b. refl)

use_spelled : (m : Mode) → spelled_in false (use_pieces m) ≡ use_spellings m
use_spelled mode.Set = refl
use_spelled mode.Count = refl
use_spelled mode.Atomic = refl

use_pending : (m : Mode) → pending_in false (use_pieces m) ≡ false
use_pending mode.Set = refl
use_pending mode.Count = refl
use_pending mode.Atomic = refl

-- ---- the whole

pub record IsTrailer (var text : List ℕ) (m : Mode) (units : List CutUnit) : Type 0 where
  pub pieces : List Piece
  pub flat_is : flat pieces ≡ trailer text var m units
  pub begins : (more : List ℕ) × (trailer text var m units ≡ 10 ∷ more)
  pub runs : Runs pieces
  pub spelled_is : (b : Bool) → spelled_in b pieces ≡ semicolon b ++ trailer_spellings text var m units
  pub pending_is : (b : Bool) → pending_in b pieces ≡ false

pub the_trailer : (var text : List ℕ) (m : Mode) (units : List CutUnit) → IsIdentifier var → length text < 2 ^ 63 → length units < 2 ^ 64 → IsTrailer var text m units
the_trailer var text m units is short few =
    let n : List ℕ = decimal (length units) in
    record {
      pieces = type_pieces var n ++ (places_pieces text units ++ (counts_pieces units ++ use_pieces m));
      flat_is = whole;
      begins = (drop 1 (flat (type_pieces var (decimal (length units)) ++ (places_pieces text units ++ (counts_pieces units ++ use_pieces m)))), sym whole);
      runs = runs_append (type_pieces var n) (places_pieces text units ++ (counts_pieces units ++ use_pieces m)) (type_runs var n is.0 (numeral (length units) few))
          (runs_append (places_pieces text units) (counts_pieces units ++ use_pieces m) (places_runs text units short few) (runs_append (counts_pieces units) (use_pieces m) (counts_runs units few) (use_runs m)));
      spelled_is = λ x. in_words x;
      pending_is = λ x. pending_in_append x (type_pieces var n) (places_pieces text units ++ (counts_pieces units ++ use_pieces m)) ∙ behind_type;
    }
  where
    rest_flat : flat (places_pieces text units ++ (counts_pieces units ++ use_pieces m)) ≡ places_text text units ++ (statements_text units ++ use_text m)
    rest_flat =
        flat_append (places_pieces text units) (counts_pieces units ++ use_pieces m) ∙ ap (λ (x : List ℕ). x ++ flat (counts_pieces units ++ use_pieces m)) (places_flat text units short)
        ∙ ap (λ (x : List ℕ). places_text text units ++ x) (flat_append (counts_pieces units) (use_pieces m) ∙ ap (λ (x : List ℕ). x ++ flat (use_pieces m)) (counts_flat units) ∙ ap (λ (x : List ℕ). statements_text units ++ x) (use_flat m))

    whole : flat (type_pieces var (decimal (length units)) ++ (places_pieces text units ++ (counts_pieces units ++ use_pieces m))) ≡ trailer text var m units
    whole =
        flat_append (type_pieces var (decimal (length units))) (places_pieces text units ++ (counts_pieces units ++ use_pieces m))
        ∙ ap (λ (x : List ℕ). x ++ flat (places_pieces text units ++ (counts_pieces units ++ use_pieces m))) (type_flat var (length units))
        ∙ ap (λ (x : List ℕ). type_text var (length units) ++ x) rest_flat
        ∙ sym (append_assoc (type_text var (length units) ++ places_text text units) (statements_text units) (use_text m) ∙ append_assoc (type_text var (length units)) (places_text text units) (statements_text units ++ use_text m))

    behind_counts : spelled_in false (counts_pieces units ++ use_pieces m) ≡ statements_spellings units ++ use_spellings m
    behind_counts =
        spelled_in_append false (counts_pieces units) (use_pieces m) ∙ ap (λ (x : List Spelling). x ++ spelled_in (pending_in false (counts_pieces units)) (use_pieces m)) (counts_spelled units)
        ∙ ap (λ (x : Bool). statements_spellings units ++ spelled_in x (use_pieces m)) (counts_pending units) ∙ ap (λ (x : List Spelling). statements_spellings units ++ x) (use_spelled m)

    behind_places : spelled_in false (places_pieces text units ++ (counts_pieces units ++ use_pieces m)) ≡ places_spellings text units ++ (statements_spellings units ++ use_spellings m)
    behind_places =
        spelled_in_append false (places_pieces text units) (counts_pieces units ++ use_pieces m)
        ∙ ap (λ (x : List Spelling). x ++ spelled_in (pending_in false (places_pieces text units)) (counts_pieces units ++ use_pieces m)) (places_spelled text units short)
        ∙ ap (λ (x : Bool). places_spellings text units ++ spelled_in x (counts_pieces units ++ use_pieces m)) (places_pending text units)
        ∙ ap (λ (x : List Spelling). places_spellings text units ++ x) behind_counts

    in_words : (x : Bool) → spelled_in x (type_pieces var (decimal (length units)) ++ (places_pieces text units ++ (counts_pieces units ++ use_pieces m))) ≡ semicolon x ++ trailer_spellings text var m units
    in_words x =
        spelled_in_append x (type_pieces var (decimal (length units))) (places_pieces text units ++ (counts_pieces units ++ use_pieces m))
        ∙ ap (λ (y : List Spelling). y ++ spelled_in false (places_pieces text units ++ (counts_pieces units ++ use_pieces m))) (type_spelled var (length units) x is.1)
        ∙ ap (λ (y : List Spelling). (semicolon x ++ type_spellings var (length units)) ++ y) behind_places
        ∙ append_assoc (semicolon x) (type_spellings var (length units)) (places_spellings text units ++ (statements_spellings units ++ use_spellings m))

    behind_type : pending_in false (places_pieces text units ++ (counts_pieces units ++ use_pieces m)) ≡ false
    behind_type =
        pending_in_append false (places_pieces text units) (counts_pieces units ++ use_pieces m) ∙ ap (λ (x : Bool). pending_in x (counts_pieces units ++ use_pieces m)) (places_pending text units)
        ∙ pending_in_append false (counts_pieces units) (use_pieces m) ∙ ap (λ (x : Bool). pending_in x (use_pieces m)) (counts_pending units) ∙ use_pending m
