-- Where comments and literals close.
use Rattle.std.proofs.Common.{◌≡◌, ◌≢◌, ℕ, ◌+◌, ◌-◌, Bool, true, false, ◌&&◌, ◌||◌, not, cond, List, [], ◌∷◌, ◌++◌, length, Some, None, refl, sym, ap, subst, ◌∙◌, arith, nat_eq}
use Rattle.std.specs.List.{list_any, starts_with}
use Rattle.std.proofs.lemmas.List.{length-append, take_at}
use Rattle.std.proofs.lemmas.Bool.{eqb-true, eq-eqb}
use Rattle.go_ast.specs.Literals.{inner, is_inside}
use Rattle.go_ast.specs.Pieces.{IsBetween}
use Rattle.go_lex.specs.Scan.{comment_close, quote_close, raw_close}
use Rattle.go_lex.proofs.Values.{both}
use Rattle.go_lex.proofs.Items.{some_nat, some_is}

pub not_true : (b : Bool) → not b ≡ true → b ≡ false
not_true true e = absurd cc
not_true false e = refl

pub cons_head : (a b : ℕ) (x y : List ℕ) → a ∷ x ≡ b ∷ y → a ≡ b
cons_head a b x y e = cc

pub cons_tail : (a b : ℕ) (x y : List ℕ) → a ∷ x ≡ b ∷ y → x ≡ y
cons_tail a b x y e = cc

cons_both : (a b : ℕ) (x y : List ℕ) → a ≡ b → x ≡ y → a ∷ x ≡ b ∷ y
cons_both a b x y e f = cc

pub absurd_bool : (b : Bool) → b ≡ true → b ≡ false → ⊥
absurd_bool true t f = absurd cc
absurd_bool false t f = absurd cc

-- ---- comments

-- no `*/` ends in the bytes or in a star behind them
abbrev pub IsOpen : List ℕ → Type 0
IsOpen more = (before after : List ℕ) → more ++ 42 ∷ [] ≢ before ++ 42 ∷ 47 ∷ after

pub record IsClosed (bytes : List ℕ) (from len : ℕ) : Type 0 where
  pub more : List ℕ
  pub after : List ℕ
  pub is : bytes ≡ more ++ 42 ∷ 47 ∷ after
  pub long : len ≡ from + length more + 2
  pub first : IsOpen more

short : (x : ℕ) (xs after : List ℕ) → 42 ∷ [] ≡ x ∷ (xs ++ 42 ∷ 47 ∷ after) → ⊥
short x [] after e = absurd cc
short x (y ∷ ys) after e = absurd cc

star_open : IsOpen []
star_open [] after e = absurd cc
star_open (x ∷ xs) after e = short x xs after e

abbrev closes_here : ℕ → List ℕ → Bool
closes_here b bs = nat_eq b 42 && starts_with nat_eq bs (47 ∷ [])

here_is : (b : ℕ) (bs : List ℕ) → closes_here b bs ≡ true → (after : List ℕ) × (b ∷ bs ≡ 42 ∷ 47 ∷ after)
here_is b [] h = let two = both (nat_eq b 42) false h in absurd cc
here_is b (c ∷ cs) h =
    let two = both (nat_eq b 42) (nat_eq 47 c && true) h in
    let three = both (nat_eq 47 c) true two.1 in
    (cs, rw (eqb-true b 42 two.0, sym (eqb-true 47 c three.0)) refl)

closes_is : (b : ℕ) (bs : List ℕ) → b ≡ 42 → starts_with nat_eq bs (47 ∷ []) ≡ true → closes_here b bs ≡ true
closes_is b bs is h = rw (eq-eqb b 42 is) h

star_slash : (end : List ℕ) → 42 ∷ [] ≡ 47 ∷ end → ⊥
star_slash end h = absurd_bool (nat_eq 42 47) (eq-eqb 42 47 (cons_head 42 47 [] end h)) refl

slash_first : (m after end : List ℕ) → m ++ 42 ∷ [] ≡ 47 ∷ end → starts_with nat_eq (m ++ 42 ∷ 47 ∷ after) (47 ∷ []) ≡ true
slash_first [] after end h = absurd (star_slash end h)
slash_first (x ∷ xs) after end h = rw (eq-eqb 47 x (sym (cons_head x 47 (xs ++ 42 ∷ []) end h))) refl

-- what doesn't close at a byte is open with it in front
open_more : (b : ℕ) (more after : List ℕ) → closes_here b (more ++ 42 ∷ 47 ∷ after) ≡ false → IsOpen more → IsOpen (b ∷ more)
open_more b more after isnt open' [] end h =
    let is = cons_head b 42 (more ++ 42 ∷ []) (47 ∷ end) h in
    let tail = cons_tail b 42 (more ++ 42 ∷ []) (47 ∷ end) h in
    absurd_bool (closes_here b (more ++ 42 ∷ 47 ∷ after)) (closes_is b (more ++ 42 ∷ 47 ∷ after) is (slash_first more after end tail)) isnt
open_more b more after isnt open' (y ∷ ys) end h = open' ys end (cons_tail b y (more ++ 42 ∷ []) (ys ++ 42 ∷ 47 ∷ end) h)

pub close_sound : (bytes : List ℕ) (from len : ℕ) → comment_close from bytes ≡ Some len → IsClosed bytes from len
unfolding comment_close
close_sound [] from len e = absurd cc
close_sound (b ∷ bs) from len e = go (closes_here b bs) refl e (close_sound bs (from + 1) len)
  where
    go : (v : Bool) → closes_here b bs ≡ v → cond v (Some (from + 2)) (comment_close (from + 1) bs) ≡ Some len → (comment_close (from + 1) bs ≡ Some len → IsClosed bs (from + 1) len) → IsClosed (b ∷ bs) from len
    go true v-is h more =
        let is : from + 2 ≡ len = some_is (from + 2) len h in
        let found = here_is b bs v-is in
        record { more = []; after = found.0; is = found.1; long = omega arith; first = star_open }
    go false v-is h more =
        let c = more h in
        let long = c.long in
        record {
          more = b ∷ c.more;
          after = c.after;
          is = ap (λ (x : List ℕ). b ∷ x) c.is;
          long = omega arith;
          first = open_more b c.more c.after (subst (λ (x : List ℕ). closes_here b x ≡ false) c.is v-is) c.first;
        }

-- what is open with a byte in front is open, and doesn't close at it
open_less : (b : ℕ) (more : List ℕ) → IsOpen (b ∷ more) → IsOpen more
open_less b more open' before after e = open' (b ∷ before) after (ap (λ (x : List ℕ). b ∷ x) e)

open_isnt : (b : ℕ) (more after : List ℕ) → IsOpen (b ∷ more) → closes_here b (more ++ 42 ∷ 47 ∷ after) ≡ false
open_isnt b more after open' = go (closes_here b (more ++ 42 ∷ 47 ∷ after)) refl
  where
    from_front : (m : List ℕ) → starts_with nat_eq (m ++ 42 ∷ 47 ∷ after) (47 ∷ []) ≡ true → (end : List ℕ) × (m ++ 42 ∷ [] ≡ 47 ∷ end)
    from_front [] h = absurd cc
    from_front (x ∷ xs) h = let two = both (nat_eq 47 x) true h in (xs ++ 42 ∷ [], ap (λ (y : ℕ). y ∷ (xs ++ 42 ∷ [])) (sym (eqb-true 47 x two.0)))

    go : (v : Bool) → closes_here b (more ++ 42 ∷ 47 ∷ after) ≡ v → v ≡ false
    go true v-is =
        let two = both (nat_eq b 42) (starts_with nat_eq (more ++ 42 ∷ 47 ∷ after) (47 ∷ [])) v-is in
        let tail = from_front more two.1 in
        absurd (open' [] tail.0 (cons_both b 42 (more ++ 42 ∷ []) (47 ∷ tail.0) (eqb-true b 42 two.0) tail.1))
    go false v-is = refl

pub close_reaches : (more after : List ℕ) (from : ℕ) → IsOpen more → comment_close from (more ++ 42 ∷ 47 ∷ after) ≡ Some (from + length more + 2)
unfolding comment_close
close_reaches [] after from open' = let k : from + 2 ≡ from + 0 + 2 = omega arith in ap some_nat k
close_reaches (b ∷ more) after from open' =
    let isnt = open_isnt b more after open' in
    let rest = close_reaches more after (from + 1) (open_less b more open') in
    let k : from + 1 + length more + 2 ≡ from + length (b ∷ more) + 2 = omega arith in
    rw isnt (rest ∙ ap some_nat k)

-- ---- literals

pub record IsQuoted (quote : ℕ) (escaped : Bool) (bytes : List ℕ) (from len : ℕ) : Type 0 where
  pub body : List ℕ
  pub after : List ℕ
  pub is : bytes ≡ body ++ quote ∷ after
  pub inside : is_inside quote escaped body ≡ true
  pub long : len ≡ from + length body + 1

pub quote_sound : (quote : ℕ) (escaped : Bool) (bytes : List ℕ) (from len : ℕ) → quote_close quote escaped from bytes ≡ Some len → IsQuoted quote escaped bytes from len
unfolding quote_close
quote_sound quote escaped [] from len e = absurd cc
quote_sound quote escaped (b ∷ bs) from len e = go (nat_eq b 10) escaped (nat_eq b quote) refl refl refl e (quote_sound quote false bs (from + 1) len) (quote_sound quote (nat_eq b 92) bs (from + 1) len)
  where
    more : (esc next : Bool) → nat_eq b 10 ≡ false → (esc ≡ true → next ≡ false) → (esc ≡ false → (nat_eq b quote ≡ false) × (next ≡ nat_eq b 92)) → IsQuoted quote next bs (from + 1) len → IsQuoted quote esc (b ∷ bs) from len
    more true next n-is t f q =
        let inside = q.inside in
        let long = q.long in
        record { body = b ∷ q.body; after = q.after; is = ap (λ (x : List ℕ). b ∷ x) q.is; inside = rw n-is (subst (λ (v : Bool). is_inside quote v q.body ≡ true) (t refl) inside); long = omega arith }
    more false next n-is t f q =
        let inside = q.inside in
        let long = q.long in
        let two = f refl in
        record { body = b ∷ q.body; after = q.after; is = ap (λ (x : List ℕ). b ∷ x) q.is; inside = rw (n-is, two.0) (subst (λ (v : Bool). is_inside quote v q.body ≡ true) two.1 inside); long = omega arith }

    go : (n esc q : Bool) → nat_eq b 10 ≡ n → escaped ≡ esc → nat_eq b quote ≡ q
        → cond n None (cond esc (quote_close quote false (from + 1) bs) (cond q (Some (from + 1)) (quote_close quote (nat_eq b 92) (from + 1) bs))) ≡ Some len
        → (quote_close quote false (from + 1) bs ≡ Some len → IsQuoted quote false bs (from + 1) len)
        → (quote_close quote (nat_eq b 92) (from + 1) bs ≡ Some len → IsQuoted quote (nat_eq b 92) bs (from + 1) len)
        → IsQuoted quote escaped (b ∷ bs) from len
    go true esc q n-is e-is q-is h h1 h2 = absurd cc
    go false true q n-is e-is q-is h h1 h2 = subst (λ (v : Bool). IsQuoted quote v (b ∷ bs) from len) (sym e-is) (more true false n-is (λ t. refl) (λ f. absurd cc) (h1 h))
    go false false true n-is e-is q-is h h1 h2 =
        let is : from + 1 ≡ len = some_is (from + 1) len h in
        subst (λ (v : Bool). IsQuoted quote v (b ∷ bs) from len) (sym e-is) (record { body = []; after = bs; is = ap (λ (x : ℕ). x ∷ bs) (eqb-true b quote q-is); inside = refl; long = omega arith })
    go false false false n-is e-is q-is h h1 h2 = subst (λ (v : Bool). IsQuoted quote v (b ∷ bs) from len) (sym e-is) (more false (nat_eq b 92) n-is (λ t. absurd cc) (λ f. (q-is, refl)) (h2 h))

pub quote_reaches : (quote : ℕ) (body after : List ℕ) (escaped : Bool) (from : ℕ) → nat_eq quote 10 ≡ false → is_inside quote escaped body ≡ true → quote_close quote escaped from (body ++ quote ∷ after) ≡ Some (from + length body + 1)
unfolding quote_close
quote_reaches quote [] after true from n h = absurd cc
quote_reaches quote [] after false from n h = let k : from + 1 ≡ from + 0 + 1 = omega arith in rw (n, eq-eqb quote quote refl) (ap some_nat k)
quote_reaches quote (b ∷ body) after true from n h =
    let two = both (not (nat_eq b 10)) (is_inside quote false body) h in
    let rest = quote_reaches quote body after false (from + 1) n two.1 in
    let k : from + 1 + length body + 1 ≡ from + length (b ∷ body) + 1 = omega arith in
    rw (not_true (nat_eq b 10) two.0) (rest ∙ ap some_nat k)
quote_reaches quote (b ∷ body) after false from n h =
    let two = both (not (nat_eq b 10)) (not (nat_eq b quote) && is_inside quote (nat_eq b 92) body) h in
    let three = both (not (nat_eq b quote)) (is_inside quote (nat_eq b 92) body) two.1 in
    let rest = quote_reaches quote body after (nat_eq b 92) (from + 1) n three.1 in
    let k : from + 1 + length body + 1 ≡ from + length (b ∷ body) + 1 = omega arith in
    rw (not_true (nat_eq b 10) two.0, not_true (nat_eq b quote) three.0) (rest ∙ ap some_nat k)

-- the bytes between two quotes
pub inner_is : (a b : ℕ) (body : List ℕ) → inner (a ∷ (body ++ b ∷ [])) ≡ body
inner_is a b body = let l = length-append body (b ∷ []) in take_at body (b ∷ []) (length (a ∷ (body ++ b ∷ [])) - 2) (omega arith)

pub between_is : (quote : ℕ) (body : List ℕ) → is_inside quote false body ≡ true → IsBetween quote (quote ∷ (body ++ quote ∷ []))
between_is quote body inside = (rw (inner_is quote quote body) inside, ap (λ (x : List ℕ). quote ∷ (x ++ quote ∷ [])) (sym (inner_is quote quote body)))

-- ---- raw literals

pub record IsRaw (bytes : List ℕ) (from len : ℕ) : Type 0 where
  pub body : List ℕ
  pub after : List ℕ
  pub is : bytes ≡ body ++ 96 ∷ after
  pub none : list_any (λ b. nat_eq b 96) body ≡ false
  pub long : len ≡ from + length body + 1

pub raw_sound : (bytes : List ℕ) (from len : ℕ) → raw_close from bytes ≡ Some len → IsRaw bytes from len
unfolding raw_close
raw_sound [] from len e = absurd cc
raw_sound (b ∷ bs) from len e = go (nat_eq b 96) refl e (raw_sound bs (from + 1) len)
  where
    go : (v : Bool) → nat_eq b 96 ≡ v → cond v (Some (from + 1)) (raw_close (from + 1) bs) ≡ Some len → (raw_close (from + 1) bs ≡ Some len → IsRaw bs (from + 1) len) → IsRaw (b ∷ bs) from len
    go true v-is h more =
        let is : from + 1 ≡ len = some_is (from + 1) len h in
        record { body = []; after = bs; is = ap (λ (x : ℕ). x ∷ bs) (eqb-true b 96 v-is); none = refl; long = omega arith }
    go false v-is h more =
        let r = more h in
        let long = r.long in
        record { body = b ∷ r.body; after = r.after; is = ap (λ (x : List ℕ). b ∷ x) r.is; none = rw v-is r.none; long = omega arith }

pub either : (a b : Bool) → (a || b) ≡ false → (a ≡ false) × (b ≡ false)
either true b e = absurd cc
either false b e = (refl, e)

pub raw_reaches : (body after : List ℕ) (from : ℕ) → list_any (λ b. nat_eq b 96) body ≡ false → raw_close from (body ++ 96 ∷ after) ≡ Some (from + length body + 1)
unfolding raw_close
raw_reaches [] after from h = let k : from + 1 ≡ from + 0 + 1 = omega arith in ap some_nat k
raw_reaches (b ∷ body) after from h =
    let two = either (nat_eq b 96) (list_any (λ b'. nat_eq b' 96) body) h in
    let rest = raw_reaches body after (from + 1) two.1 in
    let k : from + 1 + length body + 1 ≡ from + length (b ∷ body) + 1 = omega arith in
    rw two.0 (rest ∙ ap some_nat k)
