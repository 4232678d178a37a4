-- Comments and operators that stand at the front are found, or longer pieces.
use Rattle.std.proofs.Common.{◌≡◌, ◌≢◌, ℕ, zero, suc, ◌+◌, Bool, true, false, ◌&&◌, ◌||◌, not, cond, List, [], ◌∷◌, ◌++◌, length, take, Option, Some, None, refl, sym, ap, subst, ◌∙◌, arith, append_assoc, nat_lt, nat_eq}
use Rattle.std.specs.Prelude.{slice_get}
use Rattle.std.specs.List.{list_all, list_any}
use Rattle.std.proofs.lemmas.List.{length-append, take_at}
use Rattle.std.proofs.lemmas.Bool.{ltb-true}
use Rattle.go_ast.specs.declared.token.PieceForm.{PieceForm}
use Rattle.go_ast.specs.declared.token.PieceForm.TheVariants as form
use Rattle.go_ast.specs.Places.{is_newline}
use Rattle.go_ast.specs.Numbers.{is_decimal}
use Rattle.go_ast.specs.Words.{operators}
use Rattle.go_ast.specs.Pieces.{IsLineComment, IsBlockComment}
use Rattle.go_lex.specs.Scan.{comment_close, first_of}
use Rattle.go_lex.specs.Operators.{by_front}
use Rattle.go_lex.specs.Pieces.{piece_by, other_front, slash_front, block_front, block_by, operator_front, operator_by}
use Rattle.go_lex.specs.Fronts.{IsWordLen}
use Rattle.go_lex.proofs.Values.{both}
use Rattle.go_lex.proofs.Runs.{while_len, while_reaches}
use Rattle.go_lex.proofs.Closes.{not_true, either, close_sound, close_reaches}
use Rattle.go_lex.proofs.Table.{operator_reached, same_word, is_ascii_letter}
use Rattle.go_lex.proofs.Reaches.{Reaches, other_is, slash_is, other_byte, other_47, IsOther}

abbrev pub is_other_byte : ℕ → Bool
is_other_byte b = not (is_newline b)

pub none_all : (bs : List ℕ) → list_any is_newline bs ≡ false → list_all is_other_byte bs ≡ true
none_all [] e = refl
none_all (b ∷ bs) e = let two = either (is_newline b) (list_any is_newline bs) e in rw two.0 (none_all bs two.1)

-- ---- comments

line_comment : (more rest : List ℕ) (word : ℕ) → list_any is_newline more ≡ false → IsWordLen (47 ∷ 47 ∷ (more ++ rest)) word → Reaches form.Blank (47 ∷ 47 ∷ more) (47 ∷ 47 ∷ (more ++ rest)) word
unfolding slash_front
line_comment more rest word none len =
    let n = while_len is_other_byte (47 ∷ (more ++ rest)) in
    let long = while_reaches is_other_byte (47 ∷ more) rest (none_all more none) in
    record {
      other = form.Blank;
      len = 1 + while_len is_other_byte (47 ∷ (more ++ rest));
      found = other_is 47 (47 ∷ (more ++ rest)) word other_47 len ∙ slash_is (47 ∷ (more ++ rest));
      long = omega arith;
      only = λ _. refl;
    }

block_found : (more rest : List ℕ) (v : Bool) → ((before after : List ℕ) → more ++ 42 ∷ [] ≢ before ++ 42 ∷ 47 ∷ after) → list_any is_newline (more ++ 42 ∷ 47 ∷ []) ≡ v → block_front ((more ++ 42 ∷ 47 ∷ []) ++ rest) ≡ (cond v form.Line form.Blank, 2 + length (more ++ 42 ∷ 47 ∷ []))
unfolding block_front
block_found more rest v open' lines =
    let again : (more ++ 42 ∷ 47 ∷ []) ++ rest ≡ more ++ 42 ∷ 47 ∷ rest = append_assoc more (42 ∷ 47 ∷ []) rest in
    let l = length-append more (42 ∷ 47 ∷ []) in
    let k : 0 + length more + 2 ≡ length (more ++ 42 ∷ 47 ∷ []) = omega arith in
    let close : comment_close 0 ((more ++ 42 ∷ 47 ∷ []) ++ rest) ≡ Some (length (more ++ 42 ∷ 47 ∷ [])) = ap (comment_close 0) again ∙ close_reaches more rest 0 open' ∙ ap (λ (n : ℕ). Some n) k in
    let front : take (length (more ++ 42 ∷ 47 ∷ [])) ((more ++ 42 ∷ 47 ∷ []) ++ rest) ≡ more ++ 42 ∷ 47 ∷ [] = take_at (more ++ 42 ∷ 47 ∷ []) rest (length (more ++ 42 ∷ 47 ∷ [])) refl in
    rw (close, front, lines) refl

pub block_is : (bytes : List ℕ) → slash_front (42 ∷ bytes) ≡ Some (block_front bytes)
unfolding slash_front
block_is bytes = refl

some_piece : (a b : PieceForm × ℕ) → a ≡ b → Some a ≡ Some b
some_piece a b e = ap (λ (p : PieceForm × ℕ). Some p) e

block_comment : (more rest : List ℕ) (word : ℕ) (v : Bool) → ((before after : List ℕ) → more ++ 42 ∷ [] ≢ before ++ 42 ∷ 47 ∷ after) → list_any is_newline (more ++ 42 ∷ 47 ∷ []) ≡ v
    → IsWordLen (47 ∷ 42 ∷ ((more ++ 42 ∷ 47 ∷ []) ++ rest)) word → Reaches (cond v form.Line form.Blank) (47 ∷ 42 ∷ (more ++ 42 ∷ 47 ∷ [])) (47 ∷ 42 ∷ ((more ++ 42 ∷ 47 ∷ []) ++ rest)) word
block_comment more rest word v open' lines len = record {
  other = cond v form.Line form.Blank;
  len = 2 + length (more ++ 42 ∷ 47 ∷ []);
  found = other_is 47 (42 ∷ ((more ++ 42 ∷ 47 ∷ []) ++ rest)) word other_47 len ∙ slash_is (42 ∷ ((more ++ 42 ∷ 47 ∷ []) ++ rest)) ∙ block_is ((more ++ 42 ∷ 47 ∷ []) ++ rest)
      ∙ some_piece (block_front ((more ++ 42 ∷ 47 ∷ []) ++ rest)) (cond v form.Line form.Blank, 2 + length (more ++ 42 ∷ 47 ∷ [])) (block_found more rest v open' lines);
  long = omega arith;
  only = λ _. refl;
}

pub line_comment_reaches : (bytes text rest : List ℕ) (word : ℕ) → IsLineComment bytes → text ≡ bytes ++ rest → IsWordLen text word → Reaches form.Blank bytes text word
line_comment_reaches bytes text rest word is e len =
    let text-is : text ≡ 47 ∷ 47 ∷ (is.0 ++ rest) = e ∙ ap (λ (x : List ℕ). x ++ rest) is.1 in
    subst (λ (b : List ℕ). Reaches form.Blank b text word) (sym is.1)
    (subst (λ (t : List ℕ). IsWordLen t word → Reaches form.Blank (47 ∷ 47 ∷ is.0) t word) (sym text-is) (line_comment is.0 rest word is.2) len)

pub block_comment_reaches : (bytes text rest : List ℕ) (word : ℕ) (v : Bool) → IsBlockComment bytes → list_any is_newline bytes ≡ v → text ≡ bytes ++ rest → IsWordLen text word → Reaches (cond v form.Line form.Blank) bytes text word
block_comment_reaches bytes text rest word v is lines e len =
    let text-is : text ≡ 47 ∷ 42 ∷ ((is.0 ++ 42 ∷ 47 ∷ []) ++ rest) = e ∙ ap (λ (x : List ℕ). x ++ rest) is.1 in
    let lines-is : list_any is_newline (is.0 ++ 42 ∷ 47 ∷ []) ≡ v = sym (ap (list_any is_newline) is.1) ∙ lines in
    subst (λ (b : List ℕ). Reaches (cond v form.Line form.Blank) b text word) (sym is.1)
    (subst (λ (t : List ℕ). IsWordLen t word → Reaches (cond v form.Line form.Blank) (47 ∷ 42 ∷ (is.0 ++ 42 ∷ 47 ∷ [])) t word) (sym text-is) (block_comment is.0 rest word v is.2 lines-is) len)

block_by_opening : (rest : List ℕ) (word : ℕ) (o : Option ℕ) → comment_close 0 rest ≡ o → IsWordLen (47 ∷ 42 ∷ rest) word → Reaches form.Opening (47 ∷ 42 ∷ []) (47 ∷ 42 ∷ rest) word
unfolding block_front
block_by_opening rest word None o-is len = record {
  other = form.Opening;
  len = 2;
  found = other_is 47 (42 ∷ rest) word other_47 len ∙ slash_is (42 ∷ rest) ∙ block_is rest ∙ rw o-is refl;
  long = omega arith;
  only = λ _. refl;
}
block_by_opening rest word (Some n) o-is len =
    let long = (close_sound rest 0 n o-is).long in
    record {
      other = (block_by rest (Some n)).0;
      len = 2 + n;
      found = other_is 47 (42 ∷ rest) word other_47 len ∙ slash_is (42 ∷ rest) ∙ block_is rest ∙ rw o-is refl;
      long = omega arith;
      only = λ e. absurd (omega arith);
    }

pub opening_reaches : (bytes text rest : List ℕ) (word : ℕ) → bytes ≡ 47 ∷ 42 ∷ [] → text ≡ bytes ++ rest → IsWordLen text word → Reaches form.Opening bytes text word
opening_reaches bytes text rest word is e len =
    let text-is : text ≡ 47 ∷ 42 ∷ rest = e ∙ ap (λ (x : List ℕ). x ++ rest) is in
    subst (λ (b : List ℕ). Reaches form.Opening b text word) (sym is)
    (subst (λ (t : List ℕ). IsWordLen t word → Reaches form.Opening (47 ∷ 42 ∷ []) t word) (sym text-is) (block_by_opening rest word (comment_close 0 rest) refl) len)

-- ---- operators

abbrev pub is_space : ℕ → Bool
is_space b = nat_eq b 32 || nat_eq b 9 || nat_eq b 13

-- a byte that begins nothing but operators
abbrev pub is_plain : ℕ → Bool
is_plain b =
    nat_lt b 128 && (not (is_ascii_letter b) && (not (nat_eq b 46) && (not (is_decimal b) && (not (is_space b)
    && (not (nat_eq b 10) && (not (nat_eq b 39) && (not (nat_eq b 34) && (not (nat_eq b 96) && not (nat_eq b 47)))))))))

abbrev pub is_plain_word : List ℕ → Bool
is_plain_word [] = false
is_plain_word (b ∷ bs) = is_plain b

abbrev pub is_known : List ℕ → Bool
is_known v = is_plain_word v || (same_word v (46 ∷ []) || (same_word v (46 ∷ 46 ∷ 46 ∷ []) || (same_word v (47 ∷ []) || same_word v (47 ∷ 61 ∷ []))))

pub all_at : (p : List ℕ → Bool) (words : List (List ℕ)) (i : ℕ) (w : List ℕ) → list_all p words ≡ true → slice_get words i ≡ Some w → p w ≡ true
all_at p [] i w ok e = absurd cc
all_at p (v ∷ vs) zero w ok e = let is : v ≡ w = cc in subst (λ (x : List ℕ). p x ≡ true) is (both (p v) (list_all p vs) ok).0
all_at p (v ∷ vs) (suc i) w ok e = all_at p vs i w (both (p v) (list_all p vs) ok).1 e

-- the operator at the front, where operators are sought
pub sought : (place : ℕ) (bytes text rest : List ℕ) (word : ℕ) → slice_get operators place ≡ Some bytes → text ≡ bytes ++ rest → piece_by word text ≡ operator_front text → Reaches (form.Operator place) bytes text word
unfolding operator_front
sought place bytes text rest word is e front =
    let r = operator_reached place bytes rest is in
    record {
      other = form.Operator r.other;
      len = r.len;
      found = front ∙ ap (λ (x : List ℕ). operator_by (first_of by_front x)) e ∙ ap operator_by r.found;
      long = r.long;
      only = λ l. ap form.Operator (r.only l);
    }

pub plain_front : (b : ℕ) (bs : List ℕ) → is_plain b ≡ true → IsOther b × (other_front (b ∷ bs) ≡ operator_front (b ∷ bs))
unfolding other_front
plain_front b bs h =
    let c1 = both (nat_lt b 128) _ h in
    let c2 = both (not (is_ascii_letter b)) _ c1.1 in
    let c3 = both (not (nat_eq b 46)) _ c2.1 in
    let c4 = both (not (is_decimal b)) _ c3.1 in
    let c5 = both (not (is_space b)) _ c4.1 in
    let c6 = both (not (nat_eq b 10)) _ c5.1 in
    let c7 = both (not (nat_eq b 39)) _ c6.1 in
    let c8 = both (not (nat_eq b 34)) _ c7.1 in
    let c9 = both (not (nat_eq b 96)) (not (nat_eq b 47)) c8.1 in (
      other_byte b (ltb-true b 128 c1.0) (not_true (is_ascii_letter b) c2.0) (not_true (nat_eq b 46) c3.0) (not_true (is_decimal b) c4.0),
      rw (not_true (is_space b) c5.0, not_true (nat_eq b 10) c6.0, not_true (nat_eq b 39) c7.0, not_true (nat_eq b 34) c8.0, not_true (nat_eq b 96) c9.0, not_true (nat_eq b 47) c9.1) refl,
    )
