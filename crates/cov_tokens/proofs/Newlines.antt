-- Each piece stays the longest before a newline.
use Rattle.std.proofs.Common.{◌≡◌, inl, inr, ℕ, ◌≤◌, true, false, List, [], ◌∷◌, ◌++◌, length, refl, sym, ap, subst, ◌∙◌, arith, append_assoc}
use Rattle.std.specs.Prelude.{encode_utf8}
use Rattle.std.specs.List.{list_any}
use Rattle.std.specs.Str.{encode_utf8_all}
use Rattle.std.proofs.lemmas.List.{length-append, append-nil}
use Rattle.std.proofs.lemmas.Str.{encode_ascii}
use Rattle.go_ast.specs.declared.token.PieceForm.{PieceForm}
use Rattle.go_ast.specs.declared.token.PieceForm.TheVariants as form
use Rattle.go_ast.specs.Places.{is_newline}
use Rattle.go_ast.specs.Characters.{AreCharacters}
use Rattle.go_ast.specs.Literals.{inner}
use Rattle.go_ast.specs.Numbers.{is_number_end, is_decimal}
use Rattle.go_ast.specs.Pieces.{HasForm, IsLongest, IsMeant, IsWord, IsNumber}
use Rattle.cov_tokens.proofs.Basics.{either, clash, cons_is}
use Rattle.cov_tokens.proofs.Firsts.{is_sign, is_ascii_word, form_some, operator_signs, word_ascii, run_first}
use Rattle.cov_tokens.proofs.Beyond.{Beyond, one_more, letters, points, beyond}
use Rattle.cov_tokens.proofs.Local.{chars_go_on}
use Rattle.cov_tokens.proofs.Stands.{Parts, parted, is_number_byte, number_bytes, letter_behind, all_among}

last_is : (v w : List ℕ) (a b : ℕ) → v ++ a ∷ [] ≡ w ++ b ∷ [] → a ≡ b
last_is [] [] a b e = cc
last_is [] (y ∷ w) a b e = let l : 1 ≡ length (y ∷ (w ++ b ∷ [])) = ap length e in let m = length-append w (b ∷ []) in absurd (omega arith)
last_is (x ∷ v) [] a b e = let l : length (x ∷ (v ++ a ∷ [])) ≡ 1 = ap length e in let m = length-append v (a ∷ []) in absurd (omega arith)
last_is (x ∷ v) (y ∷ w) a b e = last_is v w a b (cons_is x y (v ++ a ∷ []) (w ++ b ∷ []) e).1

newline_inside : (x : ℕ) (w : List ℕ) (more : List ℕ) → x ∷ (w ++ 10 ∷ []) ≡ 47 ∷ 47 ∷ more → list_any is_newline more ≡ false → ⊥
newline_inside x [] more e h = let one = cons_is x 47 (10 ∷ []) (47 ∷ more) e in let two = (cons_is 10 47 [] more one.1).0 in absurd (omega arith)
newline_inside x (y ∷ w) more e h =
    let one = cons_is x 47 (y ∷ (w ++ 10 ∷ [])) (47 ∷ more) e in
    let two = (cons_is y 47 (w ++ 10 ∷ []) more one.1).1 in
    there w (ap (list_any is_newline) two ∙ h)
  where
    there : (v : List ℕ) → list_any is_newline (v ++ 10 ∷ []) ≡ false → ⊥
    there [] g = absurd cc
    there (z ∷ v) g = there v (either (is_newline z) (list_any is_newline (v ++ 10 ∷ [])) g).1

ends_else : (w v : List ℕ) (k : ℕ) → w ++ 10 ∷ [] ≡ v ++ k ∷ [] → (10 ≡ k → ⊥) → ⊥
ends_else w v k e ne = ne (last_is w v 10 k e)

word_line : (w v : List ℕ) → 1 ≤ length w → AreCharacters w → IsWord (w ++ 10 ∷ v) → ⊥
word_line w v some are is = go are.0 are.2
  where
    go : (ws : List ℕ) → w ≡ encode_utf8_all ws → ⊥
    go [] e = let l = ap length e in absurd (omega arith)
    go (c ∷ ws) e =
        let split : encode_utf8_all (is.0 ∷ is.1) ++ [] ≡ encode_utf8_all (c ∷ ws) ++ (encode_utf8 10 ++ v) =
        append-nil (encode_utf8_all (is.0 ∷ is.1)) ∙ sym is.5 ∙ ap (λ (x : List ℕ). x ++ 10 ∷ v) e ∙ ap (λ (x : List ℕ). encode_utf8_all (c ∷ ws) ++ (x ++ v)) (sym (encode_ascii 10 (omega arith))) in
        let a : length w ≡ length (encode_utf8_all (c ∷ ws)) = ap length e in
        let l : length (w ++ 10 ∷ v) ≡ length (encode_utf8_all (is.0 ∷ is.1)) = ap length is.5 in
        let m = length-append w (10 ∷ v) in
        let on = chars_go_on (c ∷ ws) (is.0 ∷ is.1) 10 [] v split (omega arith) in
        clash (is_ascii_word 10) (sym (word_ascii 10 (omega arith)) ∙ letter_behind c is.0 10 ws is.1 on.0 on.1 is.4) refl

number_line : (x : ℕ) (w : List ℕ) → IsNumber (x ∷ (w ++ 10 ∷ [])) → ⊥
number_line x w (inl run) = clash (is_number_byte 10) (all_among is_number_byte w [] 10 (number_bytes x (w ++ 10 ∷ []) (run_first x (w ++ 10 ∷ []) run) (inl run))) refl
number_line x w (inr (inl p)) = let e = last_is (x ∷ w) p.0 10 p.1 p.4 in clash (is_number_end 10) (subst (λ (y : ℕ). is_number_end y ≡ true) (sym e) p.3) refl
number_line x w (inr (inr p)) = let e = last_is (x ∷ w) (46 ∷ []) 10 p.0 p.2 in clash (is_decimal 10) (subst (λ (y : ℕ). is_decimal y ≡ true) (sym e) p.1) refl

no_newline : (f : PieceForm) (x : ℕ) (w : List ℕ) → AreCharacters (x ∷ w) → HasForm f (x ∷ (w ++ 10 ∷ [])) → ⊥
no_newline form.Blank x w are (inl p) = let l = ap length p.2 in let m = length-append w (10 ∷ []) in absurd (omega arith)
no_newline form.Blank x w are (inr (inl p)) = newline_inside x w p.0 p.1 p.2
no_newline form.Blank x w are (inr (inr p)) = ends_else (x ∷ w) (47 ∷ 42 ∷ (p.0.0 ++ 42 ∷ [])) 47 (p.0.1 ∙ ap (λ (y : List ℕ). 47 ∷ 42 ∷ y) (sym (append_assoc p.0.0 (42 ∷ []) (47 ∷ [])))) (λ e. omega arith)
no_newline form.Line x w are (inl e) = let l = ap length e in let m = length-append w (10 ∷ []) in absurd (omega arith)
no_newline form.Line x w are (inr p) = ends_else (x ∷ w) (47 ∷ 42 ∷ (p.0.0 ++ 42 ∷ [])) 47 (p.0.1 ∙ ap (λ (y : List ℕ). 47 ∷ 42 ∷ y) (sym (append_assoc p.0.0 (42 ∷ []) (47 ∷ [])))) (λ e. omega arith)
no_newline form.Opening x w are e = ends_else (x ∷ w) (47 ∷ []) 42 e (λ k. omega arith)
no_newline form.Word x w are is = word_line (x ∷ w) [] (omega arith) are is
no_newline form.Number x w are is = number_line x w is
no_newline form.Rune x w are p = ends_else (x ∷ w) (39 ∷ inner (x ∷ (w ++ 10 ∷ []))) 39 p.1 (λ k. omega arith)
no_newline form.Quoted x w are p = ends_else (x ∷ w) (34 ∷ inner (x ∷ (w ++ 10 ∷ []))) 34 p.1 (λ k. omega arith)
no_newline form.Raw x w are p = ends_else (x ∷ w) (96 ∷ p.0) 96 p.2 (λ k. omega arith)
no_newline (form.Operator place) x w are e = clash (is_sign 10) (all_among is_sign w [] 10 (operator_signs place x (w ++ 10 ∷ []) e).1) refl

newline_parts : (f : PieceForm) (w : List ℕ) → HasForm f w → IsMeant f w → AreCharacters w → Parts w 10
newline_parts f [] is meant are other u p = let some = form_some f [] is in absurd (omega arith)
newline_parts f (x ∷ w) is meant are other u p = go (beyond f other (x ∷ w) u 10 is meant p)
  where
    go : Beyond (x ∷ w) 10 u → ⊥
    go (one_more o has) = no_newline o x w are has
    go (letters word) = word_line (x ∷ w) u (omega arith) are word
    go (points w-is b-is u-is) = omega arith

pub before_newline : (f : PieceForm) (w r : List ℕ) → HasForm f w → IsMeant f w → AreCharacters w → IsLongest f w (10 ∷ r)
before_newline f w r is meant are = parted f w r 10 is (newline_parts f w is meant are)
