-- What is found at the front has its form.
use Rattle.std.proofs.Common.{◌≡◌, ◌≢◌, ℕ, suc, ◌+◌, ◌≤◌, Bool, true, false, ◌||◌, not, inl, inr, cond, List, [], ◌∷◌, ◌++◌, length, take, Option, Some, None, refl, sym, ap, subst, ◌∙◌, arith, append_assoc, nat_lt, nat_eq}
use Rattle.std.specs.List.{list_all, list_any, prefix_len}
use Rattle.std.proofs.lemmas.List.{length-append, length-take, take_at}
use Rattle.std.proofs.lemmas.Bool.{eqb-true, ltb-true}
use Rattle.go_ast.specs.declared.token.PieceForm.{PieceForm}
use Rattle.go_ast.specs.declared.token.PieceForm.TheVariants as form
use Rattle.go_ast.specs.Places.{is_newline}
use Rattle.go_ast.specs.Literals.{is_inside}
use Rattle.go_ast.specs.Words.{operators}
use Rattle.go_ast.specs.Pieces.{HasForm}
use Rattle.go_lex.specs.Scan.{number_len, comment_close, quote_close, raw_close, first_of}
use Rattle.go_lex.specs.Operators.{by_front}
use Rattle.go_lex.specs.Pieces.{piece_by, other_front, slash_front, block_front, block_by, operator_front, operator_by, quoted_by}
use Rattle.go_lex.specs.Fronts.{IsWordLen}
use Rattle.go_lex.proofs.Values.{both}
use Rattle.go_lex.proofs.Runs.{number_sound, while_len, while_is, while_passes, while_within}
use Rattle.go_lex.proofs.Closes.{not_true, close_sound, quote_sound, raw_sound, between_is}
use Rattle.go_lex.proofs.Table.{operator_found}
use Rattle.go_lex.proofs.Slashes.{is_space, is_other_byte, all_at}

pub record IsSound (text : List ℕ) (piece : PieceForm × ℕ) : Type 0 where
  pub has : HasForm piece.0 (take piece.1 text)
  pub some : 1 ≤ piece.1
  pub within : piece.1 ≤ length text

abbrev pub some_piece : PieceForm × ℕ → Option (PieceForm × ℕ)
some_piece p = Some p

pub piece_same : (a b : PieceForm × ℕ) → some_piece a ≡ some_piece b → a ≡ b
piece_same a b e = cc

abbrev has_byte : List ℕ → Bool
has_byte [] = false
has_byte (b ∷ bs) = true

byte_some : (w : List ℕ) → has_byte w ≡ true → 1 ≤ length w
byte_some [] e = absurd cc
byte_some (b ∷ bs) e = omega arith

operator_by_sound : (text : List ℕ) (o : Option (ℕ × ℕ)) (p : PieceForm × ℕ) → first_of by_front text ≡ o → operator_by o ≡ Some p → IsSound text p
operator_by_sound text None p o-is e = absurd cc
operator_by_sound text (Some q) p o-is e =
    let f = operator_found text q.0 q.1 o-is in
    let some = byte_some f.word (all_at has_byte operators q.0 f.word refl f.is) in
    let long = f.long in
    let l = length-take q.1 text in
    let k : length (take q.1 text) ≡ length f.word = ap length f.stands in
    subst (IsSound text) (piece_same (form.Operator q.0, q.1) p e) (record { has = f.is ∙ ap (λ (w : List ℕ). Some w) (sym f.stands); some = omega arith; within = omega arith })

operator_sound : (text : List ℕ) (p : PieceForm × ℕ) → operator_front text ≡ Some p → IsSound text p
unfolding operator_front
operator_sound text p e = operator_by_sound text (first_of by_front text) p refl e

-- the front of a literal
front_is : (quote : ℕ) (bytes body after : List ℕ) (len : ℕ) → bytes ≡ body ++ quote ∷ after → len ≡ 0 + length body + 1 → (take (1 + len) (quote ∷ bytes) ≡ quote ∷ (body ++ quote ∷ [])) × (1 + len ≤ length (quote ∷ bytes))
front_is quote bytes body after len e l =
    let a = append_assoc body (quote ∷ []) after in
    let k = length-append body (quote ∷ []) in
    let m : 1 + len ≡ suc len = omega arith in
    let n = length-append body (quote ∷ after) in
    let b : length bytes ≡ length (body ++ quote ∷ after) = ap length e in (
      ap (λ (i : ℕ). take i (quote ∷ bytes)) m ∙ ap (λ (x : List ℕ). quote ∷ x) (ap (take len) (e ∙ sym a) ∙ take_at (body ++ quote ∷ []) after len (omega arith)),
      omega arith,
    )

quoted_sound : (f : PieceForm) (quote : ℕ) (bytes : List ℕ) (o : Option ℕ) (p : PieceForm × ℕ) → quote_close quote false 0 bytes ≡ o → ((body : List ℕ) → is_inside quote false body ≡ true → HasForm f (quote ∷ (body ++ quote ∷ []))) → quoted_by f o ≡ Some p → IsSound (quote ∷ bytes) p
quoted_sound f quote bytes None p o-is has e = absurd cc
quoted_sound f quote bytes (Some len) p o-is has e =
    let q = quote_sound quote false bytes 0 len o-is in
    let front = front_is quote bytes q.body q.after len q.is q.long in
    subst (IsSound (quote ∷ bytes)) (piece_same (f, 1 + len) p e) (record { has = subst (HasForm f) (sym front.0) (has q.body q.inside); some = omega arith; within = front.1 })

raw_by_sound : (bytes : List ℕ) (o : Option ℕ) (p : PieceForm × ℕ) → raw_close 0 bytes ≡ o → quoted_by form.Raw o ≡ Some p → IsSound (96 ∷ bytes) p
raw_by_sound bytes None p o-is e = absurd cc
raw_by_sound bytes (Some len) p o-is e =
    let r = raw_sound bytes 0 len o-is in
    let front = front_is 96 bytes r.body r.after len r.is r.long in
    subst (IsSound (96 ∷ bytes)) (piece_same (form.Raw, 1 + len) p e) (record { has = subst (HasForm form.Raw) (sym front.0) (r.body, r.none, refl); some = omega arith; within = front.1 })

all_none : (bs : List ℕ) → list_all is_other_byte bs ≡ true → list_any is_newline bs ≡ false
all_none [] e = refl
all_none (b ∷ bs) e = let two = both (not (is_newline b)) (list_all is_other_byte bs) e in rw (not_true (is_newline b) two.0) (all_none bs two.1)

line_sound : (bytes : List ℕ) → IsSound (47 ∷ 47 ∷ bytes) (form.Blank, 1 + while_len is_other_byte (47 ∷ bytes))
line_sound bytes =
    let a = while_is is_other_byte (47 ∷ bytes) in
    let b = while_is is_other_byte bytes in
    let c : prefix_len is_other_byte (47 ∷ bytes) ≡ 1 + prefix_len is_other_byte bytes = refl in
    let n : 1 + while_len is_other_byte (47 ∷ bytes) ≡ suc (suc (while_len is_other_byte bytes)) = omega arith in
    let w = while_within is_other_byte bytes in
    record {
      has = subst (λ (i : ℕ). HasForm form.Blank (take i (47 ∷ 47 ∷ bytes))) (sym n) (inr (inl (take (while_len is_other_byte bytes) bytes, refl, all_none (take (while_len is_other_byte bytes) bytes) (while_passes is_other_byte bytes))));
      some = omega arith;
      within = omega arith;
    }

comment_form : (more : List ℕ) (v : Bool) → ((before after : List ℕ) → more ++ 42 ∷ [] ≢ before ++ 42 ∷ 47 ∷ after) → list_any is_newline (more ++ 42 ∷ 47 ∷ []) ≡ v → HasForm (cond v form.Line form.Blank) (47 ∷ 42 ∷ (more ++ 42 ∷ 47 ∷ []))
comment_form more true open' lines = inr ((more, refl, open'), lines)
comment_form more false open' lines = inr (inr ((more, refl, open'), lines))

closed_sound : (bytes more after : List ℕ) (len : ℕ) (v : Bool) → bytes ≡ more ++ 42 ∷ 47 ∷ after → len ≡ 0 + length more + 2 → ((before end : List ℕ) → more ++ 42 ∷ [] ≢ before ++ 42 ∷ 47 ∷ end) → list_any is_newline (take len bytes) ≡ v → IsSound (47 ∷ 42 ∷ bytes) (cond v form.Line form.Blank, 2 + len)
closed_sound bytes more after len v e long open' lines =
    let a = append_assoc more (42 ∷ 47 ∷ []) after in
    let k = length-append more (42 ∷ 47 ∷ []) in
    let j = length-append more (42 ∷ 47 ∷ after) in
    let b : length bytes ≡ length (more ++ 42 ∷ 47 ∷ after) = ap length e in
    let front : take len bytes ≡ more ++ 42 ∷ 47 ∷ [] = ap (take len) (e ∙ sym a) ∙ take_at (more ++ 42 ∷ 47 ∷ []) after len (omega arith) in
    let n : 2 + len ≡ suc (suc len) = omega arith in
    let whole : take (2 + len) (47 ∷ 42 ∷ bytes) ≡ 47 ∷ 42 ∷ (more ++ 42 ∷ 47 ∷ []) = ap (λ (i : ℕ). take i (47 ∷ 42 ∷ bytes)) n ∙ ap (λ (x : List ℕ). 47 ∷ 42 ∷ x) front in
    record {
      has = subst (HasForm (cond v form.Line form.Blank)) (sym whole) (comment_form more v open' (sym (ap (list_any is_newline) front) ∙ lines));
      some = omega arith;
      within = omega arith;
    }

block_sound : (bytes : List ℕ) → IsSound (47 ∷ 42 ∷ bytes) (block_front bytes)
unfolding block_front
block_sound bytes = go (comment_close 0 bytes) refl
  where
    go : (o : Option ℕ) → comment_close 0 bytes ≡ o → IsSound (47 ∷ 42 ∷ bytes) (block_by bytes o)
    go None o-is = record { has = refl; some = omega arith; within = omega arith }
    go (Some len) o-is =
        let c = close_sound bytes 0 len o-is in
        closed_sound bytes c.more c.after len (list_any is_newline (take len bytes)) c.is c.long c.first refl

slash_sound : (bytes : List ℕ) (p : PieceForm × ℕ) → slash_front bytes ≡ Some p → IsSound (47 ∷ bytes) p
unfolding slash_front
slash_sound [] p e = operator_sound (47 ∷ []) p e
slash_sound (c ∷ cs) p e = go (nat_eq c 47) (nat_eq c 42) refl refl e
  where
    go : (a b : Bool) → nat_eq c 47 ≡ a → nat_eq c 42 ≡ b → cond a (some_piece (form.Blank, 1 + while_len is_other_byte (c ∷ cs))) (cond b (some_piece (block_front cs)) (operator_front (47 ∷ c ∷ cs))) ≡ some_piece p → IsSound (47 ∷ c ∷ cs) p
    go true b a-is b-is h =
        let P : ℕ → Type 0 = λ x. IsSound (47 ∷ x ∷ cs) (form.Blank, 1 + while_len is_other_byte (x ∷ cs)) in
        subst (IsSound (47 ∷ c ∷ cs)) (piece_same (form.Blank, 1 + while_len is_other_byte (c ∷ cs)) p h) (subst P (sym (eqb-true c 47 a-is)) (line_sound cs))
    go false true a-is b-is h =
        let P : ℕ → Type 0 = λ x. IsSound (47 ∷ x ∷ cs) (block_front cs) in
        subst (IsSound (47 ∷ c ∷ cs)) (piece_same (block_front cs) p h) (subst P (sym (eqb-true c 42 b-is)) (block_sound cs))
    go false false a-is b-is h = operator_sound (47 ∷ c ∷ cs) p h

space_any : (b : ℕ) → is_space b ≡ true → list_any (λ c. nat_eq b c) (32 ∷ 9 ∷ 13 ∷ []) ≡ true
space_any b e = go (nat_eq b 32) (nat_eq b 9) (nat_eq b 13) e
  where
    go : (x y z : Bool) → (x || y || z) ≡ true → (x || (y || (z || false))) ≡ true
    go true y z h = refl
    go false true z h = refl
    go false false true h = refl
    go false false false h = absurd cc

other_sound : (text : List ℕ) (p : PieceForm × ℕ) → other_front text ≡ Some p → IsSound text p
unfolding other_front
other_sound [] p e = absurd cc
other_sound (b ∷ bs) p e = go (is_space b) (nat_eq b 10) (nat_eq b 39) (nat_eq b 34) (nat_eq b 96) (nat_eq b 47) refl refl refl refl refl refl e
  where
    at : (c : ℕ) → nat_eq b c ≡ true → IsSound (c ∷ bs) p → IsSound (b ∷ bs) p
    at c is s = subst (λ (x : ℕ). IsSound (x ∷ bs) p) (sym (eqb-true b c is)) s

    go : (s n r q w l : Bool) → is_space b ≡ s → nat_eq b 10 ≡ n → nat_eq b 39 ≡ r → nat_eq b 34 ≡ q → nat_eq b 96 ≡ w → nat_eq b 47 ≡ l
        → cond s (some_piece (form.Blank, 1)) (cond n (some_piece (form.Line, 1)) (cond r (quoted_by form.Rune (quote_close 39 false 0 bs)) (cond q (quoted_by form.Quoted (quote_close 34 false 0 bs)) (cond w (quoted_by form.Raw (raw_close 0 bs)) (cond l (slash_front bs) (operator_front (b ∷ bs))))))) ≡ some_piece p
        → IsSound (b ∷ bs) p
    go true n r q w l s-is n-is r-is q-is w-is l-is h = subst (IsSound (b ∷ bs)) (piece_same (form.Blank, 1) p h) (record { has = inl (b, space_any b s-is, refl); some = omega arith; within = omega arith })
    go false true r q w l s-is n-is r-is q-is w-is l-is h = subst (IsSound (b ∷ bs)) (piece_same (form.Line, 1) p h) (record { has = inl (ap (λ (x : ℕ). x ∷ []) (eqb-true b 10 n-is)); some = omega arith; within = omega arith })
    go false false true q w l s-is n-is r-is q-is w-is l-is h = at 39 r-is (quoted_sound form.Rune 39 bs (quote_close 39 false 0 bs) p refl (λ body inside. between_is 39 body inside) h)
    go false false false true w l s-is n-is r-is q-is w-is l-is h = at 34 q-is (quoted_sound form.Quoted 34 bs (quote_close 34 false 0 bs) p refl (λ body inside. between_is 34 body inside) h)
    go false false false false true l s-is n-is r-is q-is w-is l-is h = at 96 w-is (raw_by_sound bs (raw_close 0 bs) p refl h)
    go false false false false false true s-is n-is r-is q-is w-is l-is h = at 47 l-is (slash_sound bs p h)
    go false false false false false false s-is n-is r-is q-is w-is l-is h = operator_sound (b ∷ bs) p h

pub sound : (text : List ℕ) (word : ℕ) (p : PieceForm × ℕ) → IsWordLen text word → piece_by word text ≡ Some p → IsSound text p
sound text word p len e = go (nat_lt 0 word) (nat_lt 0 (number_len text)) refl refl e
  where
    go : (a b : Bool) → nat_lt 0 word ≡ a → nat_lt 0 (number_len text) ≡ b → cond a (some_piece (form.Word, word)) (cond b (some_piece (form.Number, number_len text)) (other_front text)) ≡ some_piece p → IsSound text p
    go true b a-is b-is h = let some = ltb-true 0 word a-is in subst (IsSound text) (piece_same (form.Word, word) p h) (record { has = len.word some; some = some; within = len.within })
    go false true a-is b-is h =
        let some = ltb-true 0 (number_len text) b-is in
        let s = number_sound text some in
        subst (IsSound text) (piece_same (form.Number, number_len text) p h) (record { has = s.0; some = some; within = s.1 })
    go false false a-is b-is h = other_sound text p h
