-- The piece at the front is the longest.
use Rattle.std.proofs.Common.{◌≡◌, ℕ, zero, suc, ◌+◌, ◌≤◌, Bool, true, false, ◌||◌, inl, inr, cond, List, [], ◌∷◌, ◌++◌, Option, Some, None, refl, sym, ap, subst, ◌∙◌, arith, nat_eq}
use Rattle.std.specs.Prelude.{slice_get}
use Rattle.std.proofs.lemmas.Bool.{eqb-true}
use Rattle.go_ast.specs.declared.token.PieceForm.{PieceForm}
use Rattle.go_ast.specs.declared.token.PieceForm.TheVariants as form
use Rattle.go_ast.specs.Numbers.{is_decimal}
use Rattle.go_ast.specs.Words.{operators}
use Rattle.go_ast.specs.Pieces.{HasForm}
use Rattle.go_lex.specs.Scan.{number_len, point_len, comment_close}
use Rattle.go_lex.specs.Pieces.{piece_by, other_front, slash_front, block_front, block_by, operator_front}
use Rattle.go_lex.specs.Fronts.{IsWordLen}
use Rattle.go_lex.proofs.Runs.{while_len, while_reaches}
use Rattle.go_lex.proofs.Table.{same_word, same_is}
use Rattle.go_lex.proofs.Letters.{no_word}
use Rattle.go_lex.proofs.Reaches.{Reaches, other_is, slash_is, other_39, other_34, other_47, piece_is, piece_number, word_reaches, number_form_reaches, space_other, space_reaches, line_reaches, between_reaches, rune_front, text_front, raw_form_reaches}
use Rattle.go_lex.proofs.Slashes.{is_plain_word, is_known, plain_front, sought, all_at, is_other_byte, line_comment_reaches, block_comment_reaches, opening_reaches}

-- ---- operators

point_is : (rest : List ℕ) (word : ℕ) → word ≡ 0 → point_len rest ≡ 0 → piece_by word (46 ∷ rest) ≡ operator_front (46 ∷ rest)
unfolding number_len other_front
point_is rest word w p = piece_is word (46 ∷ rest) w p

abbrev two_if : Bool → ℕ
two_if d = cond d 2 0

two_is : (d : Bool) (n : ℕ) → two_if d ≡ suc n → two_if d ≡ 2
two_is true n e = refl
two_is false n e = absurd (omega arith)

point_two : (bytes : List ℕ) (n : ℕ) → point_len bytes ≡ suc n → point_len bytes ≡ 2
point_two [] n e = absurd (omega arith)
point_two (b ∷ bs) n e = two_is (is_decimal b) n e

point_reaches : (place : ℕ) (rest : List ℕ) (word : ℕ) → slice_get operators place ≡ Some (46 ∷ []) → IsWordLen (46 ∷ rest) word → Reaches (form.Operator place) (46 ∷ []) (46 ∷ rest) word
unfolding number_len
point_reaches place rest word is len = go (point_len rest) refl
  where
    none : word ≡ 0
    none = no_word 46 rest word (omega arith) refl len

    go : (n : ℕ) → point_len rest ≡ n → Reaches (form.Operator place) (46 ∷ []) (46 ∷ rest) word
    go zero n-is = sought place (46 ∷ []) (46 ∷ rest) rest word is refl (point_is rest word none n-is)
    go (suc n) n-is =
        let b : number_len (46 ∷ rest) ≡ 2 = point_two rest n n-is in
        record { other = form.Number; len = number_len (46 ∷ rest); found = piece_number word (46 ∷ rest) none (omega arith); long = omega arith; only = λ l. absurd (omega arith) }

block_long : (bytes : List ℕ) (o : Option ℕ) → 2 ≤ (block_by bytes o).1
block_long bytes None = omega arith
block_long bytes (Some n) = omega arith

block_some : (bytes : List ℕ) → 2 ≤ (block_front bytes).1
unfolding block_front
block_some bytes = block_long bytes (comment_close 0 bytes)

slash_reaches : (place : ℕ) (rest : List ℕ) (word : ℕ) → slice_get operators place ≡ Some (47 ∷ []) → IsWordLen (47 ∷ rest) word → Reaches (form.Operator place) (47 ∷ []) (47 ∷ rest) word
unfolding slash_front
slash_reaches place [] word is len = sought place (47 ∷ []) (47 ∷ []) [] word is refl (other_is 47 [] word other_47 len ∙ slash_is [])
slash_reaches place (c ∷ cs) word is len = go (nat_eq c 47) (nat_eq c 42) refl refl
  where
    go : (a b : Bool) → nat_eq c 47 ≡ a → nat_eq c 42 ≡ b → Reaches (form.Operator place) (47 ∷ []) (47 ∷ c ∷ cs) word
    go true b a-is b-is =
        let c-is = eqb-true c 47 a-is in
        let some = while_reaches is_other_byte (c ∷ []) cs (rw c-is refl) in
        record {
          other = form.Blank;
          len = 1 + while_len is_other_byte (c ∷ cs);
          found = other_is 47 (c ∷ cs) word other_47 len ∙ slash_is (c ∷ cs) ∙ rw a-is refl;
          long = omega arith;
          only = λ l. absurd (omega arith);
        }
    go false true a-is b-is =
        let some = block_some cs in
        record {
          other = (block_front cs).0;
          len = (block_front cs).1;
          found = other_is 47 (c ∷ cs) word other_47 len ∙ slash_is (c ∷ cs) ∙ rw (a-is, b-is) refl;
          long = omega arith;
          only = λ l. absurd (omega arith);
        }
    go false false a-is b-is = sought place (47 ∷ []) (47 ∷ c ∷ cs) (c ∷ cs) word is refl (other_is 47 (c ∷ cs) word other_47 len ∙ slash_is (c ∷ cs) ∙ rw (a-is, b-is) refl)

slash_equal : (rest : List ℕ) → slash_front (61 ∷ rest) ≡ operator_front (47 ∷ 61 ∷ rest)
unfolding slash_front
slash_equal rest = refl

points_are : (rest : List ℕ) → number_len (46 ∷ 46 ∷ 46 ∷ rest) ≡ 0
unfolding number_len
points_are rest = refl

points_front : (rest : List ℕ) → other_front (46 ∷ rest) ≡ operator_front (46 ∷ rest)
unfolding other_front
points_front rest = refl

known_reaches : (place : ℕ) (bytes rest : List ℕ) (word : ℕ) → slice_get operators place ≡ Some bytes → is_known bytes ≡ true → IsWordLen (bytes ++ rest) word → Reaches (form.Operator place) bytes (bytes ++ rest) word
known_reaches place bytes rest word is known len = go (is_plain_word bytes) (same_word bytes (46 ∷ [])) (same_word bytes (46 ∷ 46 ∷ 46 ∷ [])) (same_word bytes (47 ∷ [])) (same_word bytes (47 ∷ 61 ∷ [])) refl refl refl refl refl known
  where
    plain : (w : List ℕ) → slice_get operators place ≡ Some w → is_plain_word w ≡ true → IsWordLen (w ++ rest) word → Reaches (form.Operator place) w (w ++ rest) word
    plain [] i e l = absurd cc
    plain (b ∷ bs) i e l =
        let p = plain_front b (bs ++ rest) e in
        sought place (b ∷ bs) (b ∷ (bs ++ rest)) rest word i refl (other_is b (bs ++ rest) word p.0 l ∙ p.1)

    special : (w : List ℕ) → bytes ≡ w → (slice_get operators place ≡ Some w → IsWordLen (w ++ rest) word → Reaches (form.Operator place) w (w ++ rest) word) → Reaches (form.Operator place) bytes (bytes ++ rest) word
    special w e h =
        let P : List ℕ → Type 0 = λ v. slice_get operators place ≡ Some v → IsWordLen (v ++ rest) word → Reaches (form.Operator place) v (v ++ rest) word in
        subst P (sym e) h is len

    go : (a b c d e : Bool) → is_plain_word bytes ≡ a → same_word bytes (46 ∷ []) ≡ b → same_word bytes (46 ∷ 46 ∷ 46 ∷ []) ≡ c → same_word bytes (47 ∷ []) ≡ d → same_word bytes (47 ∷ 61 ∷ []) ≡ e
        → (a || (b || (c || (d || e)))) ≡ true → Reaches (form.Operator place) bytes (bytes ++ rest) word
    go true b c d e a-is b-is c-is d-is e-is k = plain bytes is a-is len
    go false true c d e a-is b-is c-is d-is e-is k = special (46 ∷ []) (same_is bytes (46 ∷ []) b-is) (λ i l. point_reaches place rest word i l)
    go false false true d e a-is b-is c-is d-is e-is k =
        special (46 ∷ 46 ∷ 46 ∷ []) (same_is bytes (46 ∷ 46 ∷ 46 ∷ []) c-is)
        (λ i l. sought place (46 ∷ 46 ∷ 46 ∷ []) (46 ∷ 46 ∷ 46 ∷ rest) rest word i refl (piece_is word (46 ∷ 46 ∷ 46 ∷ rest) (no_word 46 (46 ∷ 46 ∷ rest) word (omega arith) refl l) (points_are rest) ∙ points_front (46 ∷ 46 ∷ rest)))
    go false false false true e a-is b-is c-is d-is e-is k = special (47 ∷ []) (same_is bytes (47 ∷ []) d-is) (λ i l. slash_reaches place rest word i l)
    go false false false false true a-is b-is c-is d-is e-is k =
        special (47 ∷ 61 ∷ []) (same_is bytes (47 ∷ 61 ∷ []) e-is)
        (λ i l. sought place (47 ∷ 61 ∷ []) (47 ∷ 61 ∷ rest) rest word i refl (other_is 47 (61 ∷ rest) word other_47 l ∙ slash_is (61 ∷ rest) ∙ slash_equal rest))
    go false false false false false a-is b-is c-is d-is e-is k = absurd cc

-- ---- each form

pub reaches : (f : PieceForm) (bytes text rest : List ℕ) (word : ℕ) → HasForm f bytes → text ≡ bytes ++ rest → IsWordLen text word → Reaches f bytes text word
reaches form.Blank bytes text rest word (inl p) e len =
    let text-is : text ≡ p.0 ∷ rest = e ∙ ap (λ (x : List ℕ). x ++ rest) p.2 in
    subst (λ (b : List ℕ). Reaches form.Blank b text word) (sym p.2)
    (subst (λ (t : List ℕ). IsWordLen t word → Reaches form.Blank (p.0 ∷ []) t word) (sym text-is) (space_reaches p.0 rest word (space_other p.0 p.1)) len)
reaches form.Blank bytes text rest word (inr (inl is)) e len = line_comment_reaches bytes text rest word is e len
reaches form.Blank bytes text rest word (inr (inr is)) e len = block_comment_reaches bytes text rest word false is.0 is.1 e len
reaches form.Line bytes text rest word (inl is) e len =
    let text-is : text ≡ 10 ∷ rest = e ∙ ap (λ (x : List ℕ). x ++ rest) is in
    subst (λ (b : List ℕ). Reaches form.Line b text word) (sym is)
    (subst (λ (t : List ℕ). IsWordLen t word → Reaches form.Line (10 ∷ []) t word) (sym text-is) (line_reaches rest word) len)
reaches form.Line bytes text rest word (inr is) e len = block_comment_reaches bytes text rest word true is.0 is.1 e len
reaches form.Opening bytes text rest word is e len = opening_reaches bytes text rest word is e len
reaches form.Word bytes text rest word is e len = word_reaches bytes text rest word is e len
reaches form.Number bytes text rest word is e len = number_form_reaches bytes text rest word is e len
reaches form.Rune bytes text rest word is e len = between_reaches form.Rune 39 bytes text rest word other_39 refl rune_front is e len
reaches form.Quoted bytes text rest word is e len = between_reaches form.Quoted 34 bytes text rest word other_34 refl text_front is e len
reaches form.Raw bytes text rest word is e len =
    let text-is : text ≡ 96 ∷ ((is.0 ++ 96 ∷ []) ++ rest) = e ∙ ap (λ (x : List ℕ). x ++ rest) is.2 in
    subst (λ (b : List ℕ). Reaches form.Raw b text word) (sym is.2) (raw_form_reaches is.0 text rest word is.1 text-is len)
reaches (form.Operator place) bytes text rest word is e len =
    subst (λ (t : List ℕ). IsWordLen t word → Reaches (form.Operator place) bytes t word) (sym e) (known_reaches place bytes rest word is (all_at is_known operators place bytes refl is)) len
