-- The texts of the files of packages, and places in them.
use Rattle.std.proofs.Common.{◌≡◌, ℕ, zero, suc, ◌+◌, ◌<◌, ◌≤◌, ◌^◌, List, [], ◌∷◌, length, take, drop, get_or, refl, sym, ap, ◌∙◌, subst, arith}
use Rattle.std.specs.Prelude.{All, count_by, min, not, sum_by, slice_get, unwrap_or}
use Rattle.std.proofs.lemmas.List.{take_min}
use Rattle.std.proofs.lemmas.List.Elements.{All-head, All-tail}
use Rattle.std.proofs.lemmas.List.Sums.{sum_by_more}
use Rattle.std.specs.List.{suffix_len}
use Rattle.go_ast.specs.Places.{is_newline, place_at}
use Rattle.go_ast.specs.declared.place.Place.{Place}

drop_more : {A : Type 0} (xs : List A) (m n : ℕ) → drop n (drop m xs) ≡ drop (m + n) xs
drop_more xs zero n = let k : 0 + n ≡ n = omega arith in ap (λ (j : ℕ). drop j xs) (sym k)
drop_more [] (suc m) zero = let k : suc m + 0 ≡ suc m = omega arith in rw k refl
drop_more [] (suc m) (suc n) = let k : suc m + suc n ≡ suc (m + suc n) = omega arith in rw k refl
drop_more (x ∷ xs) (suc m) n = let k : suc m + n ≡ suc (m + n) = omega arith in drop_more xs m n ∙ ap (λ (j : ℕ). drop j (x ∷ xs)) (sym k)

-- what is left behind one more
pub behind_more : {A B : Type 0} (f : A → ℕ) (ps : List A) (i n : ℕ) (p : A) (texts left : List B) → i < length ps → p ≡ get_or ps i p → left ≡ drop (sum_by f (take i ps)) texts → n ≡ f p → drop n left ≡ drop (sum_by f (take (i + 1) ps)) texts
behind_more f ps i n p texts left lt is before many =
    let same : n ≡ f (get_or ps i p) = many ∙ ap f is in
    let sum = ap (λ m. sum_by f (take i ps) + m) same ∙ sym (sum_by_more f ps i p lt) in
    ap (drop n) before ∙ drop_more texts (sum_by f (take i ps)) n ∙ ap (λ m. drop m texts) sum

abbrev IsShort : List ℕ → Type 0
IsShort text = length text ≤ 4194304

short_at : (texts : List (List ℕ)) (m k : ℕ) → All IsShort texts → length (unwrap_or (slice_get (drop m texts) k) []) ≤ 2 ^ 31
short_at [] zero k all = omega arith
short_at [] (suc m) k all = omega arith
short_at (t ∷ ts) zero zero all = let le = All-head IsShort t ts all in omega arith
short_at (t ∷ ts) zero (suc k) all = short_at ts zero k (All-tail IsShort t ts all)
short_at (t ∷ ts) (suc m) k all = short_at ts m k (All-tail IsShort t ts all)

-- no text is too long for a place
pub short_text : (texts : List (List ℕ)) (m k : ℕ) (text : List ℕ) → All (λ (t : List ℕ). length t ≤ 4194304) texts → text ≡ unwrap_or (slice_get (drop m texts) k) [] → length text ≤ 2 ^ 31
short_text texts m k text all is =
    let Short : List ℕ → Type 0 = λ t. length t ≤ 2 ^ 31 in
    subst Short (sym is) (short_at texts m k all)

-- the place behind these bytes
abbrev place_behind : List ℕ → Place
place_behind before = record { line = 1 + count_by is_newline before; column = 1 + suffix_len (λ byte. not (is_newline byte)) before }

-- an offset past the end has the place of the end
pub place_within : (text : List ℕ) (offset : ℕ) → place_at text (min offset (length text)) ≡ place_at text offset
place_within text offset = ap place_behind (take_min offset text)
