-- Escapes and items of literals.
use Rattle.std.proofs.Common.{◌≡◌, ◌≢◌, ℕ, suc, ◌+◌, ◌-◌, ◌<◌, ◌≤◌, Bool, true, false, ◌&&◌, inr, cond, List, [], ◌∷◌, ◌++◌, length, take, drop, get_or, Option, Some, None, refl, sym, ap, subst, ◌∙◌, arith, nat_eq, nat_le}
use Rattle.std.specs.Prelude.{MatchOption}
use Rattle.std.proofs.lemmas.List.{length-append, take_at, take-append-drop, length-take}
use Rattle.std.proofs.lemmas.Bool.{eqb-true, eq-eqb, leb-true, le-leb}
use Rattle.go_ast.specs.Numbers.{is_octal}
use Rattle.go_ast.specs.Literals.{escape_len, is_meant, is_escape, IsBadEscape, IsItem, AreItems}
use Rattle.go_lex.specs.Scan.{escape_front, IsItemAt}
use Rattle.go_lex.proofs.Values.{both}

-- one more item
pub items_more : (quote : ℕ) (items : List (List ℕ)) (bytes rest more item : List ℕ) → AreItems quote items bytes rest → IsItem quote item → rest ≡ item ++ more → AreItems quote (items ++ item ∷ []) bytes more
items_more quote [] bytes rest more item are is e = (more, are ∙ e, is, refl)
items_more quote (i ∷ is) bytes rest more item are it e = (are.0, are.1, are.2, items_more quote is are.0 rest more item are.3 it e)

-- an escape at the front
pub record IsEscapeFront (quote : ℕ) (bytes : List ℕ) (len : ℕ) : Type 0 where
  pub is : is_escape quote (take len bytes) ≡ true
  pub some : 2 ≤ len
  pub within : len ≤ length bytes

escape_min : (b : ℕ) → 2 ≤ escape_len b
escape_min b = go (nat_eq b 120) (nat_eq b 117) (nat_eq b 85) (is_octal b)
  where
    go : (x u w o : Bool) → 2 ≤ cond x 4 (cond u 6 (cond w 10 (cond o 4 2)))
    go true u w o = omega arith
    go false true w o = omega arith
    go false false true o = omega arith
    go false false false true = omega arith
    go false false false false = omega arith

abbrev pub some_nat : ℕ → Option ℕ
some_nat n = Some n

pub some_is : (a b : ℕ) → some_nat a ≡ some_nat b → a ≡ b
some_is a b e = cc

-- the escape that is found is one
pub escape_sound : (quote : ℕ) (bytes : List ℕ) (len : ℕ) → escape_front quote bytes ≡ Some len → IsEscapeFront quote bytes len
escape_sound quote [] len e = absurd cc
escape_sound quote (slash ∷ []) len e = absurd cc
escape_sound quote (slash ∷ byte ∷ digits) len e = go (nat_eq slash 92) (nat_le (escape_len byte) (2 + length digits)) (is_meant quote byte (take (escape_len byte - 2) digits)) refl refl refl e
  where
    go : (s f m : Bool) → nat_eq slash 92 ≡ s → nat_le (escape_len byte) (2 + length digits) ≡ f → is_meant quote byte (take (escape_len byte - 2) digits) ≡ m → cond (s && (f && m)) (Some (escape_len byte)) None ≡ Some len → IsEscapeFront quote (slash ∷ byte ∷ digits) len
    go true true true s-is f-is m-is h =
        let is : escape_len byte ≡ len = some_is (escape_len byte) len h in
        let min = escape_min byte in
        let fits = leb-true (escape_len byte) (2 + length digits) f-is in
        let n : escape_len byte ≡ suc (suc (escape_len byte - 2)) = omega arith in
        let l = length-take (escape_len byte - 2) digits in
        let long : 2 + length (take (escape_len byte - 2) digits) ≡ escape_len byte = omega arith in
        let front : take (escape_len byte) (slash ∷ byte ∷ digits) ≡ slash ∷ byte ∷ take (escape_len byte - 2) digits = ap (λ (k : ℕ). take k (slash ∷ byte ∷ digits)) n in
        let escape : is_escape quote (slash ∷ byte ∷ take (escape_len byte - 2) digits) ≡ true = rw (s-is, eq-eqb (2 + length (take (escape_len byte - 2) digits)) (escape_len byte) long, m-is) refl in
        subst (IsEscapeFront quote (slash ∷ byte ∷ digits)) is (record { is = ap (is_escape quote) front ∙ escape; some = min; within = omega arith })
    go false f m s-is f-is m-is h = absurd cc
    go true false m s-is f-is m-is h = absurd cc
    go true true false s-is f-is m-is h = absurd cc

-- an escape that stands there is found
pub escape_reaches : (quote : ℕ) (escape rest : List ℕ) → is_escape quote escape ≡ true → escape_front quote (escape ++ rest) ≡ Some (length escape)
escape_reaches quote [] rest e = absurd cc
escape_reaches quote (slash ∷ []) rest e = absurd cc
escape_reaches quote (slash ∷ byte ∷ digits) rest e =
    let one = both (nat_eq slash 92) (nat_eq (2 + length digits) (escape_len byte) && is_meant quote byte digits) e in
    let two = both (nat_eq (2 + length digits) (escape_len byte)) (is_meant quote byte digits) one.1 in
    let long : 2 + length digits ≡ escape_len byte = eqb-true (2 + length digits) (escape_len byte) two.0 in
    let l = length-append digits rest in
    let fits : nat_le (escape_len byte) (2 + length (digits ++ rest)) ≡ true = le-leb (escape_len byte) (2 + length (digits ++ rest)) (omega arith) in
    let front : take (escape_len byte - 2) (digits ++ rest) ≡ digits = take_at digits rest (escape_len byte - 2) (omega arith) in
    let same : escape_len byte ≡ length (slash ∷ byte ∷ digits) = omega arith in
    rw (one.0, fits, front, two.1) (ap some_nat same)

-- where no escape is found none begins
pub no_escape : (quote : ℕ) (bytes escape more : List ℕ) → escape_front quote bytes ≡ None → is_escape quote escape ≡ true → bytes ≢ escape ++ more
no_escape quote bytes escape more e is same = let found = escape_reaches quote escape more is in let none : escape_front quote (escape ++ more) ≡ None = subst (λ (bs : List ℕ). escape_front quote bs ≡ None) same e in absurd cc

pub bad_escape : (quote : ℕ) (bytes : List ℕ) → 0 < length bytes → get_or bytes 0 0 ≡ 92 → escape_front quote bytes ≡ None → IsBadEscape quote bytes
bad_escape quote [] some e none = absurd (omega arith)
bad_escape quote (b ∷ bs) some e none = record { slash = (bs, ap (λ (x : ℕ). x ∷ bs) e); none = λ escape more is same. no_escape quote (b ∷ bs) escape more none is same }

pub item_found : (quote len : ℕ) (bytes : List ℕ) → escape_front quote bytes ≡ Some len → IsItemAt quote bytes len
item_found quote len bytes e =
    let f = escape_sound quote bytes len e in
    let some = f.some in
    record { item = inr f.is; some = omega arith; within = f.within }

pub item_or_bad : (quote : ℕ) (bytes : List ℕ) (o : Option ℕ) → 0 < length bytes → get_or bytes 0 0 ≡ 92 → o ≡ escape_front quote bytes → MatchOption o (IsBadEscape quote bytes) (IsItemAt quote bytes)
item_or_bad quote bytes None some e is = bad_escape quote bytes some e (sym is)
item_or_bad quote bytes (Some len) some e is = item_found quote len bytes (sym is)

-- one more item, by its length
pub items_more_at : (quote : ℕ) (bytes rest more : List ℕ) (len : ℕ) → ((items : List (List ℕ)) × AreItems quote items bytes rest) → IsItemAt quote rest len → more ≡ drop len rest → (items : List (List ℕ)) × AreItems quote items bytes more
items_more_at quote bytes rest more len are is e =
    (are.0 ++ take len rest ∷ [], items_more quote are.0 bytes rest more (take len rest) are.1 is.item (sym (take-append-drop len rest) ∙ ap (λ (x : List ℕ). take len rest ++ x) (sym e)))
