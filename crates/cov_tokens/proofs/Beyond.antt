-- Where a longer piece stands, one that is longer by one byte stands, but for words and the three points.
use Rattle.std.proofs.Common.{◌≡◌, inl, inr, ℕ, zero, suc, ◌<◌, ◌≤◌, Bool, true, false, ◌&&◌, ◌||◌, not, cond, List, [], ◌∷◌, ◌++◌, length, Some, refl, sym, ap, subst, ◌∙◌, arith, append_assoc, nat_eq}
use Rattle.std.specs.Prelude.{slice_get}
use Rattle.std.specs.List.{list_all, list_any, starts_with}
use Rattle.std.proofs.lemmas.List.{length-append}
use Rattle.std.proofs.lemmas.Bool.{eqb-true, eq-eqb}
use Rattle.go_ast.specs.declared.token.PieceForm.{PieceForm}
use Rattle.go_ast.specs.declared.token.PieceForm.TheVariants as form
use Rattle.go_ast.specs.Places.{is_newline}
use Rattle.go_ast.specs.Numbers.{is_decimal, is_x, is_o, is_b, is_decimal_or_line, is_hex_or_line, is_run, is_run_after_zero}
use Rattle.go_ast.specs.Literals.{inner, is_inside}
use Rattle.go_ast.specs.Words.{operators}
use Rattle.go_ast.specs.Pieces.{HasForm, IsWord, IsNumber, IsLineComment, IsBlockComment, IsBetween, IsMeant}
use Rattle.cov_tokens.proofs.Basics.{both, either, clash, not_true, cons_is, cons_both, cut_last, all_front, any_front}
use Rattle.cov_tokens.proofs.Firsts.{first_byte, form_some, all_at}

-- what is known of a longer piece, by its next byte and the bytes behind it
pub data Beyond (w : List ℕ) (b : ℕ) (u : List ℕ) : Type 0 where
  one_more : (f : PieceForm) → HasForm f (w ++ b ∷ []) → Beyond w b u
  letters : IsWord (w ++ b ∷ u) → Beyond w b u
  points : w ≡ 46 ∷ [] → b ≡ 46 → u ≡ 46 ∷ [] → Beyond w b u

-- the longer piece is the one
itself : (f : PieceForm) (w u : List ℕ) (b : ℕ) → HasForm f (w ++ b ∷ u) → length u < 1 → Beyond w b u
itself f w [] b is lt = one_more f is
itself f w (c ∷ u) b is lt = absurd (omega arith)

too_long : (w u v : List ℕ) (b : ℕ) → 1 ≤ length w → w ++ b ∷ u ≡ v → length v < 2 → ⊥
too_long w u v b some e lt =
    let l = length-append w (b ∷ u) in
    let k : length (w ++ b ∷ u) ≡ length v = ap length e in
    absurd (omega arith)

-- ---- comments

line_beyond : (w u : List ℕ) (b : ℕ) → 1 ≤ length w → IsLineComment (w ++ b ∷ u) → Beyond w b u
line_beyond [] u b some is = absurd (omega arith)
line_beyond (x ∷ []) u b some is =
    let one = cons_is x 47 (b ∷ u) (47 ∷ is.0) is.1 in
    let two = cons_is b 47 u is.0 one.1 in
    one_more form.Blank (inr (inl ([], cons_both x 47 (b ∷ []) (47 ∷ []) one.0 (cons_both b 47 [] [] two.0 refl), refl)))
line_beyond (x ∷ y ∷ w) u b some is =
    let one = cons_is x 47 (y ∷ (w ++ b ∷ u)) (47 ∷ is.0) is.1 in
    let two = cons_is y 47 (w ++ b ∷ u) is.0 one.1 in
    let whole : (w ++ b ∷ []) ++ u ≡ is.0 = append_assoc w (b ∷ []) u ∙ two.1 in
    let front : list_any is_newline (w ++ b ∷ []) ≡ false = any_front is_newline (w ++ b ∷ []) u (ap (list_any is_newline) whole ∙ is.2) in
    one_more form.Blank (inr (inl (w ++ b ∷ [], cons_both x 47 (y ∷ (w ++ b ∷ [])) (47 ∷ (w ++ b ∷ [])) one.0 (cons_both y 47 (w ++ b ∷ []) (w ++ b ∷ []) two.0 refl), front)))

abbrev pub opens_no_comment : List ℕ → Bool
opens_no_comment w = not (starts_with nat_eq w (47 ∷ 42 ∷ []))

-- nothing stands behind the end of a comment within it
pub closed_once : (w u : List ℕ) (b : ℕ) → IsBlockComment w → IsBlockComment (w ++ b ∷ u) → ⊥
closed_once w u b is long =
    let e : 47 ∷ 42 ∷ (long.0 ++ 42 ∷ 47 ∷ []) ≡ (47 ∷ 42 ∷ (is.0 ++ 42 ∷ 47 ∷ [])) ++ b ∷ u = sym long.1 ∙ ap (λ (x : List ℕ). x ++ b ∷ u) is.1 in
    let one = cons_is 47 47 (42 ∷ (long.0 ++ 42 ∷ 47 ∷ [])) (42 ∷ ((is.0 ++ 42 ∷ 47 ∷ []) ++ b ∷ u)) e in
    let two = cons_is 42 42 (long.0 ++ 42 ∷ 47 ∷ []) ((is.0 ++ 42 ∷ 47 ∷ []) ++ b ∷ u) one.1 in
    let cut = cut_last (is.0 ++ 42 ∷ 47 ∷ []) (long.0 ++ 42 ∷ []) 47 b u (append_assoc long.0 (42 ∷ []) (47 ∷ []) ∙ two.1) in
    long.2 is.0 cut.0 (cut.1 ∙ append_assoc is.0 (42 ∷ 47 ∷ []) cut.0)

second_star : (f : PieceForm) (w u : List ℕ) (b : ℕ) → HasForm f (47 ∷ 42 ∷ w) → IsMeant f (47 ∷ 42 ∷ w) → IsBlockComment (47 ∷ 42 ∷ (w ++ b ∷ u)) → ⊥
second_star form.Blank w u b (inl p) meant long = let l = ap length p.2 in absurd (omega arith)
second_star form.Blank w u b (inr (inl p)) meant long =
    let one = cons_is 47 47 (42 ∷ w) (47 ∷ p.0) p.1 in
    let two = cons_is 42 47 w p.0 one.1 in
    let e = two.0 in
    absurd (omega arith)
second_star form.Blank w u b (inr (inr p)) meant long = closed_once (47 ∷ 42 ∷ w) u b p.0 long
second_star form.Line w u b (inl e) meant long = let l = ap length e in absurd (omega arith)
second_star form.Line w u b (inr p) meant long = closed_once (47 ∷ 42 ∷ w) u b p.0 long
second_star form.Opening w u b is meant long = meant
second_star form.Word w u b is meant long = let h : false ≡ true = first_byte form.Word 47 (42 ∷ w) is in absurd cc
second_star form.Number w u b is meant long = let h : false ≡ true = first_byte form.Number 47 (42 ∷ w) is in absurd cc
second_star form.Rune w u b is meant long = let h : false ≡ true = first_byte form.Rune 47 (42 ∷ w) is in absurd cc
second_star form.Quoted w u b is meant long = let h : false ≡ true = first_byte form.Quoted 47 (42 ∷ w) is in absurd cc
second_star form.Raw w u b is meant long = let h : false ≡ true = first_byte form.Raw 47 (42 ∷ w) is in absurd cc
second_star (form.Operator place) w u b is meant long = let h : false ≡ true = all_at opens_no_comment operators place (47 ∷ 42 ∷ w) refl is in absurd cc

block_beyond : (f : PieceForm) (w u : List ℕ) (b : ℕ) → HasForm f w → IsMeant f w → IsBlockComment (w ++ b ∷ u) → Beyond w b u
block_beyond f [] u b is meant long = let some = form_some f [] is in absurd (omega arith)
block_beyond f (x ∷ []) u b is meant long =
    let one = cons_is x 47 (b ∷ u) (42 ∷ (long.0 ++ 42 ∷ 47 ∷ [])) long.1 in
    let two = cons_is b 42 u (long.0 ++ 42 ∷ 47 ∷ []) one.1 in
    one_more form.Opening (cons_both x 47 (b ∷ []) (42 ∷ []) one.0 (cons_both b 42 [] [] two.0 refl))
block_beyond f (x ∷ y ∷ w) u b is meant long =
    let one = cons_is x 47 (y ∷ (w ++ b ∷ u)) (42 ∷ (long.0 ++ 42 ∷ 47 ∷ [])) long.1 in
    let two = cons_is y 42 (w ++ b ∷ u) (long.0 ++ 42 ∷ 47 ∷ []) one.1 in
    let front : x ∷ y ∷ w ≡ 47 ∷ 42 ∷ w = cons_both x 47 (y ∷ w) (42 ∷ w) one.0 (cons_both y 42 w w two.0 refl) in
    absurd (second_star f w u b (subst (HasForm f) front is) (subst (IsMeant f) front meant) (subst (λ (v : List ℕ). IsBlockComment (v ++ b ∷ u)) front long))

-- ---- numbers

after_zero_front : (v u : List ℕ) → is_run_after_zero (v ++ u) ≡ true → is_run_after_zero v ≡ true
after_zero_front [] u e = refl
after_zero_front (x ∷ v) u e = go (is_x x) refl e
  where
    go : (h : Bool) → is_x x ≡ h → cond h (list_all is_hex_or_line (v ++ u)) ((is_o x || is_b x || is_decimal_or_line x) && list_all is_decimal_or_line (v ++ u)) ≡ true → is_run_after_zero (x ∷ v) ≡ true
    go true h-is g = rw h-is (all_front is_hex_or_line v u g)
    go false h-is g =
        let two = both (is_o x || is_b x || is_decimal_or_line x) (list_all is_decimal_or_line (v ++ u)) g in
        rw (h-is, two.0) (all_front is_decimal_or_line v u two.1)

pub run_front : (x : ℕ) (v u : List ℕ) → is_run (x ∷ (v ++ u)) ≡ true → is_run (x ∷ v) ≡ true
run_front x v u e = go (nat_eq x 48) refl e
  where
    go : (z : Bool) → nat_eq x 48 ≡ z → cond z (is_run_after_zero (v ++ u)) (is_decimal x && list_all is_decimal_or_line (v ++ u)) ≡ true → is_run (x ∷ v) ≡ true
    go true z-is g = rw z-is (after_zero_front v u g)
    go false z-is g = let two = both (is_decimal x) (list_all is_decimal_or_line (v ++ u)) g in rw (z-is, two.0) (all_front is_decimal_or_line v u two.1)

run_beyond : (w u rest : List ℕ) (b : ℕ) → 1 ≤ length w → is_run (w ++ b ∷ rest) ≡ true → Beyond w b u
run_beyond [] u rest b some is = absurd (omega arith)
run_beyond (x ∷ w) u rest b some is =
    one_more form.Number (inl (run_front x (w ++ b ∷ []) rest (ap (λ (v : List ℕ). is_run (x ∷ v)) (append_assoc w (b ∷ []) rest) ∙ is)))

number_beyond : (w u : List ℕ) (b : ℕ) → 1 ≤ length w → IsNumber (w ++ b ∷ u) → Beyond w b u
number_beyond w u b some (inl run) = run_beyond w u u b some run
number_beyond w [] b some (inr (inl p)) = one_more form.Number (inr (inl p))
number_beyond w (c ∷ u) b some (inr (inl p)) =
    let cut = cut_last (w ++ b ∷ []) p.0 p.1 c u (sym p.4 ∙ sym (append_assoc w (b ∷ []) (c ∷ u))) in
    run_beyond w (c ∷ u) cut.0 b some (ap is_run (sym (append_assoc w (b ∷ []) cut.0) ∙ sym cut.1) ∙ p.2)
number_beyond w u b some (inr (inr p)) =
    let l = length-append w (b ∷ u) in
    let k = ap length p.2 in
    itself form.Number w u b (inr (inr p)) (omega arith)

-- ---- literals

inside_closed : (quote : ℕ) (escaped : Bool) (v u : List ℕ) → is_inside quote escaped v ≡ true → is_inside quote escaped (v ++ quote ∷ u) ≡ true → ⊥
inside_closed quote true [] u e h = absurd cc
inside_closed quote false [] u e h =
    let one = both (not (nat_eq quote 10)) (not (nat_eq quote quote) && is_inside quote (nat_eq quote 92) u) h in
    let two = both (not (nat_eq quote quote)) (is_inside quote (nat_eq quote 92) u) one.1 in
    absurd (clash (nat_eq quote quote) (eq-eqb quote quote refl) (not_true (nat_eq quote quote) two.0))
inside_closed quote true (x ∷ v) u e h =
    inside_closed quote false v u (both (not (nat_eq x 10)) (is_inside quote false v) e).1 (both (not (nat_eq x 10)) (is_inside quote false (v ++ quote ∷ u)) h).1
inside_closed quote false (x ∷ v) u e h =
    let one = both (not (nat_eq x 10)) (not (nat_eq x quote) && is_inside quote (nat_eq x 92) v) e in
    let two = both (not (nat_eq x 10)) (not (nat_eq x quote) && is_inside quote (nat_eq x 92) (v ++ quote ∷ u)) h in
    inside_closed quote (nat_eq x 92) v u (both (not (nat_eq x quote)) (is_inside quote (nat_eq x 92) v) one.1).1 (both (not (nat_eq x quote)) (is_inside quote (nat_eq x 92) (v ++ quote ∷ u)) two.1).1

-- a body in a longer one, by what stands around them
longer_body : (quote : ℕ) (v body u : List ℕ) (b : ℕ) → quote ∷ (body ++ quote ∷ []) ≡ (quote ∷ (v ++ quote ∷ [])) ++ b ∷ u → (more : List ℕ) × (body ≡ v ++ quote ∷ more)
longer_body quote v body u b e =
    let one = cons_is quote quote (body ++ quote ∷ []) ((v ++ quote ∷ []) ++ b ∷ u) e in
    let cut = cut_last (v ++ quote ∷ []) body quote b u one.1 in
    (cut.0, cut.1 ∙ append_assoc v (quote ∷ []) cut.0)

pub quoted_once : (quote : ℕ) (w u : List ℕ) (b : ℕ) → IsBetween quote w → IsBetween quote (w ++ b ∷ u) → ⊥
quoted_once quote w u b is long =
    let body = longer_body quote (inner w) (inner (w ++ b ∷ u)) u b (sym long.1 ∙ ap (λ (x : List ℕ). x ++ b ∷ u) is.1) in
    inside_closed quote false (inner w) body.0 is.0 (ap (is_inside quote false) (sym body.1) ∙ long.0)

any_there : (v u : List ℕ) → list_any (λ b. nat_eq b 96) (v ++ 96 ∷ u) ≡ false → ⊥
any_there [] u e = absurd cc
any_there (x ∷ v) u e = any_there v u (either (nat_eq x 96) (list_any (λ b. nat_eq b 96) (v ++ 96 ∷ u)) e).1

raw_once : (w u : List ℕ) (b : ℕ) → HasForm form.Raw w → HasForm form.Raw (w ++ b ∷ u) → ⊥
raw_once w u b is long =
    let body = longer_body 96 is.0 long.0 u b (sym long.2 ∙ ap (λ (x : List ℕ). x ++ b ∷ u) is.2) in
    any_there is.0 body.0 (ap (list_any (λ b. nat_eq b 96)) (sym body.1) ∙ long.1)

rune_starts : (f : PieceForm) (w u : List ℕ) (b : ℕ) → HasForm f (39 ∷ w) → IsBetween 39 (39 ∷ (w ++ b ∷ u)) → ⊥
rune_starts form.Rune w u b is long = quoted_once 39 (39 ∷ w) u b is long
rune_starts form.Blank w u b is long = let h : false ≡ true = first_byte form.Blank 39 w is in absurd cc
rune_starts form.Line w u b is long = let h : false ≡ true = first_byte form.Line 39 w is in absurd cc
rune_starts form.Opening w u b is long = let h : false ≡ true = first_byte form.Opening 39 w is in absurd cc
rune_starts form.Word w u b is long = let h : false ≡ true = first_byte form.Word 39 w is in absurd cc
rune_starts form.Number w u b is long = let h : false ≡ true = first_byte form.Number 39 w is in absurd cc
rune_starts form.Quoted w u b is long = let h : false ≡ true = first_byte form.Quoted 39 w is in absurd cc
rune_starts form.Raw w u b is long = let h : false ≡ true = first_byte form.Raw 39 w is in absurd cc
rune_starts (form.Operator place) w u b is long = let h : false ≡ true = first_byte (form.Operator place) 39 w is in absurd cc

text_starts : (f : PieceForm) (w u : List ℕ) (b : ℕ) → HasForm f (34 ∷ w) → IsBetween 34 (34 ∷ (w ++ b ∷ u)) → ⊥
text_starts form.Quoted w u b is long = quoted_once 34 (34 ∷ w) u b is long
text_starts form.Blank w u b is long = let h : false ≡ true = first_byte form.Blank 34 w is in absurd cc
text_starts form.Line w u b is long = let h : false ≡ true = first_byte form.Line 34 w is in absurd cc
text_starts form.Opening w u b is long = let h : false ≡ true = first_byte form.Opening 34 w is in absurd cc
text_starts form.Word w u b is long = let h : false ≡ true = first_byte form.Word 34 w is in absurd cc
text_starts form.Number w u b is long = let h : false ≡ true = first_byte form.Number 34 w is in absurd cc
text_starts form.Rune w u b is long = let h : false ≡ true = first_byte form.Rune 34 w is in absurd cc
text_starts form.Raw w u b is long = let h : false ≡ true = first_byte form.Raw 34 w is in absurd cc
text_starts (form.Operator place) w u b is long = let h : false ≡ true = first_byte (form.Operator place) 34 w is in absurd cc

raw_starts : (f : PieceForm) (w u : List ℕ) (b : ℕ) → HasForm f (96 ∷ w) → HasForm form.Raw (96 ∷ (w ++ b ∷ u)) → ⊥
raw_starts form.Raw w u b is long = raw_once (96 ∷ w) u b is long
raw_starts form.Blank w u b is long = let h : false ≡ true = first_byte form.Blank 96 w is in absurd cc
raw_starts form.Line w u b is long = let h : false ≡ true = first_byte form.Line 96 w is in absurd cc
raw_starts form.Opening w u b is long = let h : false ≡ true = first_byte form.Opening 96 w is in absurd cc
raw_starts form.Word w u b is long = let h : false ≡ true = first_byte form.Word 96 w is in absurd cc
raw_starts form.Number w u b is long = let h : false ≡ true = first_byte form.Number 96 w is in absurd cc
raw_starts form.Rune w u b is long = let h : false ≡ true = first_byte form.Rune 96 w is in absurd cc
raw_starts form.Quoted w u b is long = let h : false ≡ true = first_byte form.Quoted 96 w is in absurd cc
raw_starts (form.Operator place) w u b is long = let h : false ≡ true = first_byte (form.Operator place) 96 w is in absurd cc

-- the piece begins as the longer one does
rune_beyond : (f : PieceForm) (w u : List ℕ) (b : ℕ) → HasForm f w → IsBetween 39 (w ++ b ∷ u) → ⊥
rune_beyond f [] u b is long = let some = form_some f [] is in absurd (omega arith)
rune_beyond f (x ∷ w) u b is long =
    let e : x ≡ 39 = (cons_is x 39 (w ++ b ∷ u) (inner (x ∷ (w ++ b ∷ u)) ++ 39 ∷ []) long.1).0 in
    rune_starts f w u b (subst (λ (y : ℕ). HasForm f (y ∷ w)) e is) (subst (λ (y : ℕ). IsBetween 39 (y ∷ (w ++ b ∷ u))) e long)

text_beyond : (f : PieceForm) (w u : List ℕ) (b : ℕ) → HasForm f w → IsBetween 34 (w ++ b ∷ u) → ⊥
text_beyond f [] u b is long = let some = form_some f [] is in absurd (omega arith)
text_beyond f (x ∷ w) u b is long =
    let e : x ≡ 34 = (cons_is x 34 (w ++ b ∷ u) (inner (x ∷ (w ++ b ∷ u)) ++ 34 ∷ []) long.1).0 in
    text_starts f w u b (subst (λ (y : ℕ). HasForm f (y ∷ w)) e is) (subst (λ (y : ℕ). IsBetween 34 (y ∷ (w ++ b ∷ u))) e long)

raw_beyond : (f : PieceForm) (w u : List ℕ) (b : ℕ) → HasForm f w → HasForm form.Raw (w ++ b ∷ u) → ⊥
raw_beyond f [] u b is long = let some = form_some f [] is in absurd (omega arith)
raw_beyond f (x ∷ w) u b is long =
    let e : x ≡ 96 = (cons_is x 96 (w ++ b ∷ u) (long.0 ++ 96 ∷ []) long.2).0 in
    raw_starts f w u b (subst (λ (y : ℕ). HasForm f (y ∷ w)) e is) (subst (λ (y : ℕ). HasForm form.Raw (y ∷ (w ++ b ∷ u))) e long)

-- ---- operators

abbrev same_word : List ℕ → List ℕ → Bool
same_word [] [] = true
same_word [] (c ∷ cs) = false
same_word (b ∷ bs) [] = false
same_word (b ∷ bs) (c ∷ cs) = nat_eq b c && same_word bs cs

same_word_is : (v w : List ℕ) → same_word v w ≡ true → v ≡ w
same_word_is [] [] e = refl
same_word_is [] (c ∷ cs) e = absurd cc
same_word_is (b ∷ bs) [] e = absurd cc
same_word_is (b ∷ bs) (c ∷ cs) e = let two = both (nat_eq b c) (same_word bs cs) e in cons_both b c bs cs (eqb-true b c two.0) (same_word_is bs cs two.1)

some_place : (table : List (List ℕ)) (w : List ℕ) → list_any (λ v. same_word v w) table ≡ true → (place : ℕ) × (slice_get table place ≡ Some w)
some_place [] w e = absurd cc
some_place (v ∷ table) w e = go (same_word v w) refl (some_place table w) e
  where
    go : (a : Bool) → same_word v w ≡ a → (list_any (λ x. same_word x w) table ≡ true → (place : ℕ) × (slice_get table place ≡ Some w)) → (a || list_any (λ x. same_word x w) table) ≡ true
        → (place : ℕ) × (slice_get (v ∷ table) place ≡ Some w)
    go true a-is more h = (zero, ap (λ (x : List ℕ). Some x) (same_word_is v w a-is))
    go false a-is more h = let found = more h in (suc found.0, found.1)

-- a word of three bytes goes on from one of two, or is the three points; none is longer
abbrev goes_on_well : List ℕ → Bool
goes_on_well (x ∷ y ∷ z ∷ []) = list_any (λ v. same_word v (x ∷ y ∷ [])) operators || (nat_eq x 46 && (nat_eq y 46 && nat_eq z 46))
goes_on_well (x ∷ y ∷ z ∷ a ∷ more) = false
goes_on_well _ = true

operator_beyond : (place : ℕ) (w u : List ℕ) (b : ℕ) → 1 ≤ length w → slice_get operators place ≡ Some (w ++ b ∷ u) → Beyond w b u
operator_beyond place [] u b some e = absurd (omega arith)
operator_beyond place (x ∷ w) [] b some e = one_more (form.Operator place) e
operator_beyond place (x ∷ []) (c ∷ []) b some e = go (list_any (λ v. same_word v (x ∷ b ∷ [])) operators) refl (all_at goes_on_well operators place (x ∷ b ∷ c ∷ []) refl e)
  where
    go : (a : Bool) → list_any (λ v. same_word v (x ∷ b ∷ [])) operators ≡ a → (a || (nat_eq x 46 && (nat_eq b 46 && nat_eq c 46))) ≡ true → Beyond (x ∷ []) b (c ∷ [])
    go true a-is h = let found = some_place operators (x ∷ b ∷ []) a-is in one_more (form.Operator found.0) found.1
    go false a-is h =
        let one = both (nat_eq x 46) (nat_eq b 46 && nat_eq c 46) h in
        let two = both (nat_eq b 46) (nat_eq c 46) one.1 in
        points (ap (λ (y : ℕ). y ∷ []) (eqb-true x 46 one.0)) (eqb-true b 46 two.0) (ap (λ (y : ℕ). y ∷ []) (eqb-true c 46 two.1))
operator_beyond place (x ∷ []) (c ∷ d ∷ u) b some e = let h : false ≡ true = all_at goes_on_well operators place (x ∷ b ∷ c ∷ d ∷ u) refl e in absurd cc
operator_beyond place (x ∷ y ∷ []) (c ∷ u) b some e = let h : false ≡ true = all_at goes_on_well operators place (x ∷ y ∷ b ∷ c ∷ u) refl e in absurd cc
operator_beyond place (x ∷ y ∷ z ∷ []) (c ∷ u) b some e = let h : false ≡ true = all_at goes_on_well operators place (x ∷ y ∷ z ∷ b ∷ c ∷ u) refl e in absurd cc
operator_beyond place (x ∷ y ∷ z ∷ a ∷ w) (c ∷ u) b some e = let h : false ≡ true = all_at goes_on_well operators place (x ∷ y ∷ z ∷ a ∷ (w ++ b ∷ c ∷ u)) refl e in absurd cc

-- ---- all forms

pub beyond : (f other : PieceForm) (w u : List ℕ) (b : ℕ) → HasForm f w → IsMeant f w → HasForm other (w ++ b ∷ u) → Beyond w b u
beyond f form.Blank w u b is meant (inl p) = absurd (too_long w u (p.0 ∷ []) b (form_some f w is) p.2 (omega arith))
beyond f form.Blank w u b is meant (inr (inl p)) = line_beyond w u b (form_some f w is) p
beyond f form.Blank w u b is meant (inr (inr p)) = block_beyond f w u b is meant p.0
beyond f form.Line w u b is meant (inl e) = absurd (too_long w u (10 ∷ []) b (form_some f w is) e (omega arith))
beyond f form.Line w u b is meant (inr p) = block_beyond f w u b is meant p.0
beyond f form.Opening w u b is meant e =
    let l = length-append w (b ∷ u) in
    let k = ap length e in
    let some = form_some f w is in
    itself form.Opening w u b e (omega arith)
beyond f form.Word w u b is meant p = letters p
beyond f form.Number w u b is meant p = number_beyond w u b (form_some f w is) p
beyond f form.Rune w u b is meant p = absurd (rune_beyond f w u b is p)
beyond f form.Quoted w u b is meant p = absurd (text_beyond f w u b is p)
beyond f form.Raw w u b is meant p = absurd (raw_beyond f w u b is p)
beyond f (form.Operator place) w u b is meant e = operator_beyond place w u b (form_some f w is) e
