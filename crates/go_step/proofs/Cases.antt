-- Case expressions of the clauses of a `switch`, by their numbers.
use Rattle.std.proofs.Common.{◌≡◌, ℕ, zero, suc, ◌+◌, ◌-◌, ◌<◌, ◌≤◌, List, [], ◌∷◌, ◌++◌, map, length, drop, Option, Some, None, option_map, slice_get, refl, sym, ap, ◌∙◌, arith}
use Rattle.std.proofs.lemmas.Option.{slice_get-map, slice_get_within, get_or_from_slice_get}
use Rattle.std.proofs.Math.Seq.{drop-cons}
use Rattle.go_meaning.specs.declared.expr.Expr.{Expr}
use Rattle.go_meaning.specs.declared.node.CaseClause.{CaseClause}
use Rattle.go_meaning.specs.Acts.{cases, values_of}

get_left : {A : Type 0} (xs ys : List A) (k : ℕ) → k < length xs → slice_get (xs ++ ys) k ≡ slice_get xs k
get_left [] ys k h = absurd (omega arith)
get_left (x ∷ xs) ys zero h = refl
get_left (x ∷ xs) ys (suc k) h = get_left xs ys k (omega arith)

get_right : {A : Type 0} (xs ys : List A) (k : ℕ) → length xs ≤ k → slice_get (xs ++ ys) k ≡ slice_get ys (k - length xs)
get_right [] ys k h = let e : k - 0 ≡ k = omega arith in rw e refl
get_right (x ∷ xs) ys zero h = absurd (omega arith)
get_right (x ∷ xs) ys (suc k) h = let e : suc k - length (x ∷ xs) ≡ k - length xs = omega arith in rw e (get_right xs ys k (omega arith))

-- a case expression with the list of its clause
abbrev pub pair : ℕ → Expr → Expr × ℕ
pair n e = (e, n)

length_pairs : (n : ℕ) (es : List Expr) → length (map (pair n) es) ≡ length es
length_pairs n [] = refl
length_pairs n (e ∷ es) = ap suc (length_pairs n es)

pub case_here : (c : CaseClause) (cs : List CaseClause) (k : ℕ) (e : Expr) → slice_get (values_of c.values) k ≡ Some e → slice_get (cases (c ∷ cs)) k ≡ Some (pair c.list e)
case_here c cs k e h =
    let within : k < length (values_of c.values) = slice_get_within (values_of c.values) k e h in
    get_left (map (pair c.list) (values_of c.values)) (cases cs) k (omega (arith, within, length_pairs c.list (values_of c.values)))
    ∙ slice_get-map (pair c.list) (values_of c.values) k
    ∙ ap (option_map (pair c.list)) h

pub case_past : (c : CaseClause) (cs : List CaseClause) (k : ℕ) → length (values_of c.values) ≤ k → slice_get (cases (c ∷ cs)) k ≡ slice_get (cases cs) (k - length (values_of c.values))
case_past c cs k h =
    get_right (map (pair c.list) (values_of c.values)) (cases cs) k (omega (arith, h, length_pairs c.list (values_of c.values)))
    ∙ ap (λ n. slice_get (cases cs) (k - n)) (length_pairs c.list (values_of c.values))

drop_at : (cs : List CaseClause) (i : ℕ) (c : CaseClause) → slice_get cs i ≡ Some c → drop i cs ≡ c ∷ drop (i + 1) cs
drop_at cs i c h = let next : i + 1 ≡ suc i = omega arith in rw next (drop-cons cs i c (slice_get_within cs i c h) ∙ ap (λ d. d ∷ drop (suc i) cs) (get_or_from_slice_get cs i c c h))

pub case_found : (cs : List CaseClause) (i k n : ℕ) (c : CaseClause) (e : Expr) → slice_get cs i ≡ Some c → slice_get (values_of c.values) k ≡ Some e → slice_get (cases (drop i cs)) k ≡ slice_get (cases cs) n → Some (pair c.list e) ≡ slice_get (cases cs) n
case_found cs i k n c e at here same = sym (ap (λ l. slice_get (cases l) k) (drop_at cs i c at) ∙ case_here c (drop (i + 1) cs) k e here) ∙ same

pub case_later : (cs : List CaseClause) (i k n : ℕ) (c : CaseClause) → slice_get cs i ≡ Some c → length (values_of c.values) ≤ k → slice_get (cases (drop i cs)) k ≡ slice_get (cases cs) n → slice_get (cases (drop (i + 1) cs)) (k - length (values_of c.values)) ≡ slice_get (cases cs) n
case_later cs i k n c at past same = sym (ap (λ l. slice_get (cases l) k) (drop_at cs i c at) ∙ case_past c (drop (i + 1) cs) k past) ∙ same
