-- Values of literals.
use Rattle.std.proofs.Common.{◌≡◌, ◌≢◌, ℕ, zero, suc, ◌+◌, ◌-◌, ◌<◌, ◌≤◌, Bool, true, false, ◌&&◌, List, [], ◌∷◌, ◌++◌, length, take, drop, get_or, inl, inr, refl, sym, ap, subst, ◌∙◌, arith, nat_eq, not, ◌==◌}
use Rattle.std.proofs.lemmas.Bool.{eqb-true}
use Rattle.std.proofs.Math.Seq.{drop-append_seam}
use Rattle.std.proofs.lemmas.List.{length-append, take_at, append-nil, take_rest}
use Rattle.std.specs.Prelude.{encode_utf8}
use Rattle.std.specs.List.{list_all, slice_range}
use Rattle.std.specs.Prelude.{filter}
use Rattle.std.proofs.lemmas.Bool.Decides.{nat_tests}
use Rattle.std.specs.Char.{digit_value}
use Rattle.std.specs.Str.{IsUtf8, chars}
use Rattle.std.proofs.lemmas.Str.{IsUtf8-encode, length-encode, len_utf8_bounds, inside_one}
use Rattle.go_ast.specs.Numbers.{is_hex, value_from}
use Rattle.go_ast.specs.Literals.{inner, is_escape, is_meant, escape_len, IsItem, AreItems, IsQuotedBody, IsRuneBody}
use Rattle.go_grammar.specs.Values.{unescape_from, escape_bytes, escape_value, first_of, rune_of, text_value}
use Rattle.go_parse.specs.Placed.{IsEscape, IsTextLiteral}

both : (a b : Bool) → (a && b) ≡ true → (a ≡ true) × (b ≡ true)
both true b e = (refl, e)
both false b e = absurd cc

-- ---- what stands between double quotes

-- bytes that are passed
skipped : (n : ℕ) (bytes : List ℕ) → unescape_from n bytes ≡ unescape_from 0 (drop n bytes)
skipped zero bytes = refl
skipped (suc n) [] = refl
skipped (suc n) (b ∷ bs) = skipped n bs

-- the parts of an escape
pub record Parts (quote : ℕ) (byte : ℕ) (digits : List ℕ) : Type 0 where
  pub long : 2 + length digits ≡ escape_len byte
  pub meant : is_meant quote byte digits ≡ true

pub parts : (quote byte : ℕ) (digits : List ℕ) → is_escape quote (92 ∷ byte ∷ digits) ≡ true → Parts quote byte digits
parts quote byte digits e =
    let two = both (nat_eq (2 + length digits) (escape_len byte)) (is_meant quote byte digits) e in
    record { long = eqb-true (2 + length digits) (escape_len byte) two.0; meant = two.1 }

-- a byte that is no backslash, at the front
pub plain_rest : (bytes : List ℕ) → 0 < length bytes → get_or bytes 0 0 ≢ 92 → IsQuotedBody bytes → IsQuotedBody (drop 1 bytes)
plain_rest [] some ne q = absurd (omega arith)
plain_rest (b ∷ bs) some ne ([], e) = absurd cc
plain_rest (b ∷ bs) some ne (item ∷ items, (more, e, is, are)) = go item is e
  where
    go : (i : List ℕ) → IsItem 34 i → b ∷ bs ≡ i ++ more → IsQuotedBody bs
    go [] (inl p) h = absurd cc
    go [] (inr p) h = absurd cc
    go (x ∷ []) (inl p) h = let same : bs ≡ more = cc in (items, subst (λ (l : List ℕ). AreItems 34 items l []) (sym same) are)
    go (x ∷ []) (inr p) h = absurd cc
    go (x ∷ y ∷ ys) (inl p) h = absurd cc
    go (x ∷ y ∷ ys) (inr p) h = let f : b ≡ x = cc in let s : x ≡ 92 = eqb-true x 92 (both (nat_eq x 92) (nat_eq (2 + length ys) (escape_len y) && is_meant 34 y ys) p).0 in absurd (ne (f ∙ s))

pub plain_value : (bytes : List ℕ) → 0 < length bytes → get_or bytes 0 0 ≢ 92 → unescape_from 0 bytes ≡ get_or bytes 0 0 ∷ unescape_from 0 (drop 1 bytes)
plain_value [] some ne = absurd (omega arith)
plain_value (b ∷ bs) some ne = go (nat_eq b 92) refl
  where
    go : (t : Bool) → nat_eq b 92 ≡ t → unescape_from 0 (b ∷ bs) ≡ b ∷ unescape_from 0 bs
    go true e = absurd (ne (eqb-true b 92 e))
    go false e = rw e refl

-- an escape at the front
pub record IsEscapeFront (bytes : List ℕ) (len : ℕ) : Type 0 where
  pub two : 2 ≤ len
  pub within : len ≤ length bytes
  pub escape : IsEscape (get_or bytes 1 0) (slice_range bytes 2 len)
  pub rest : IsQuotedBody (drop len bytes)
  pub value : unescape_from 0 bytes ≡ escape_bytes (get_or bytes 1 0) (slice_range bytes 2 len) ++ unescape_from 0 (drop len bytes)

front_parts : (byte : ℕ) (digits more : List ℕ) → is_escape 34 (92 ∷ byte ∷ digits) ≡ true → IsQuotedBody more → (n : ℕ) → n ≡ length digits → escape_len byte ≡ suc (suc n) → IsEscapeFront (92 ∷ byte ∷ (digits ++ more)) (escape_len byte)
front_parts byte digits more e q n is long =
    let l = length-append digits more in
    let m : escape_len byte - 2 ≡ length digits = omega arith in
    let k : escape_len byte - 1 ≡ suc (length digits) = omega arith in
    let t : take (escape_len byte - 2) (digits ++ more) ≡ digits = take_at digits more (escape_len byte - 2) (omega arith) in
    let d : drop (escape_len byte) (92 ∷ byte ∷ (digits ++ more)) ≡ more = ap (λ (x : ℕ). drop x (92 ∷ byte ∷ (digits ++ more))) (long ∙ ap (λ (x : ℕ). suc (suc x)) is) ∙ drop-append_seam digits more in
    record {
      two = omega arith;
      within = omega arith;
      escape = (34, ap (λ (x : List ℕ). is_escape 34 (92 ∷ byte ∷ x)) t ∙ e);
      rest = subst IsQuotedBody (sym d) q;
      value = ap (λ (x : List ℕ). escape_bytes byte (take (escape_len byte - 2) (digits ++ more)) ++ x) (skipped (escape_len byte - 1) (byte ∷ (digits ++ more)) ∙ ap (λ (x : ℕ). unescape_from 0 (drop x (byte ∷ (digits ++ more)))) k ∙ ap (unescape_from 0) (drop-append_seam digits more ∙ sym d));
    }

pub escape_front : (bytes : List ℕ) (len : ℕ) → len ≡ escape_len (get_or bytes 1 0) → 0 < length bytes → get_or bytes 0 0 ≡ 92 → IsQuotedBody bytes → IsEscapeFront bytes len
escape_front [] len is some e q = absurd (omega arith)
escape_front (b ∷ bs) len is some s ([], e) = absurd cc
escape_front (b ∷ bs) len long some s (item ∷ items, (more, e, is, are)) = go item is e
  where
    go : (i : List ℕ) → IsItem 34 i → b ∷ bs ≡ i ++ more → IsEscapeFront (b ∷ bs) len
    go [] (inl p) h = absurd cc
    go [] (inr p) h = absurd cc
    go (x ∷ []) (inl p) h = let f : x ≡ 92 = cc in let g : x ≡ p.0 = cc in absurd (p.2 (sym g ∙ f))
    go (x ∷ []) (inr p) h = absurd cc
    go (x ∷ y ∷ ys) (inl p) h = absurd cc
    go (x ∷ y ∷ ys) (inr p) h =
        let f : x ≡ 92 = cc in
        let w : b ∷ bs ≡ 92 ∷ y ∷ (ys ++ more) = h ∙ ap (λ (v : ℕ). v ∷ y ∷ (ys ++ more)) f in
        let p' : is_escape 34 (92 ∷ y ∷ ys) ≡ true = subst (λ (v : ℕ). is_escape 34 (v ∷ y ∷ ys) ≡ true) f p in
        let l = (parts 34 y ys p').long in
        let n : len ≡ escape_len y = long ∙ ap (λ (v : List ℕ). escape_len (get_or v 1 0)) w in
        let there : IsEscapeFront (92 ∷ y ∷ (ys ++ more)) (escape_len y) = front_parts y ys more p' (items, are) (length ys) refl (omega arith) in
        let here : IsEscapeFront (b ∷ bs) (escape_len y) = subst (λ (v : List ℕ). IsEscapeFront v (escape_len y)) (sym w) there in
        subst (IsEscapeFront (b ∷ bs)) (sym n) here

hex_small : (b : ℕ) → is_hex b ≡ true → digit_value b < 16
hex_small b h = grind (arith, nat_tests)

-- two hexadecimal digits are worth a byte
pub hex_byte : (digits : List ℕ) → IsEscape 120 digits → value_from 16 0 digits < 256
hex_byte digits (quote, e) = go digits (parts quote 120 digits e).long (parts quote 120 digits e).meant
  where
    go : (ds : List ℕ) → 2 + length ds ≡ 4 → list_all is_hex ds ≡ true → value_from 16 0 ds < 256
    go [] l m = omega arith
    go (x ∷ []) l m = absurd (omega arith)
    go (x ∷ y ∷ z ∷ zs) l m = absurd (omega arith)
    go (x ∷ y ∷ []) l m =
        let one = both (is_hex x) (list_all is_hex (y ∷ [])) m in
        let two = both (is_hex y) (list_all is_hex []) one.1 in
        let a = hex_small x one.0 in
        let b = hex_small y two.0 in
        omega arith

-- ---- runes

pub rune_some : (body : List ℕ) → IsRuneBody body → 0 < length body
rune_some body (inl (c, scalar, ne, is)) = let l = length-encode c in let b = (len_utf8_bounds c).0 in let k = ap length is in omega arith
rune_some [] (inr p) = absurd cc
rune_some (b ∷ bs) (inr p) = omega arith

pub rune_text : (body : List ℕ) → get_or body 0 0 ≢ 92 → IsRuneBody body → IsUtf8 body
rune_text body ne (inl (c, scalar, n, is)) = subst IsUtf8 (sym is) (IsUtf8-encode c scalar)
rune_text [] ne (inr p) = absurd cc
rune_text (b ∷ []) ne (inr p) = absurd cc
rune_text (b ∷ y ∷ ys) ne (inr p) = absurd (ne (eqb-true b 92 (both (nat_eq b 92) (nat_eq (2 + length ys) (escape_len y) && is_meant 39 y ys) p).0))

pub record IsRuneEscape (body : List ℕ) : Type 0 where
  pub two : 2 ≤ length body
  pub escape : IsEscape (get_or body 1 0) (take (length body - 2) (drop 2 body))
  pub value : rune_of body ≡ escape_value (get_or body 1 0) (take (length body - 2) (drop 2 body))

pub rune_escape : (body : List ℕ) → get_or body 0 0 ≡ 92 → IsRuneBody body → IsRuneEscape body
rune_escape body e (inl (c, scalar, ne, is)) =
    let l = length-encode c in
    let b = (len_utf8_bounds c).0 in
    let same : c ≡ get_or body 0 0 = inside_one c [] body 0 (is ∙ sym (append-nil (encode_utf8 c))) (omega arith) (rw e (omega arith)) in
    absurd (ne (same ∙ e))
rune_escape [] e (inr p) = absurd cc
rune_escape (b ∷ []) e (inr p) = absurd cc
rune_escape (b ∷ y ∷ ys) e (inr p) =
    let whole : take (length (b ∷ y ∷ ys) - 2) ys ≡ ys = take_rest (b ∷ y ∷ ys) 2 in
    let here : IsEscape y ys = (39, subst (λ (v : ℕ). is_escape 39 (v ∷ y ∷ ys) ≡ true) e p) in
    let value : rune_of (b ∷ y ∷ ys) ≡ escape_value y ys = rw e refl in
    record { two = omega arith; escape = subst (IsEscape y) (sym whole) here; value = value ∙ ap (escape_value y) (sym whole) }

pub rune_character : (body : List ℕ) → 0 < length body → get_or body 0 0 ≢ 92 → rune_of body ≡ first_of (chars body)
rune_character [] some ne = absurd (omega arith)
rune_character (b ∷ bs) some ne = go (nat_eq b 92) refl
  where
    go : (t : Bool) → nat_eq b 92 ≡ t → rune_of (b ∷ bs) ≡ first_of (chars (b ∷ bs))
    go true e = absurd (ne (eqb-true b 92 e))
    go false e = rw e refl

-- ---- texts

pub text_some : (bytes : List ℕ) → IsTextLiteral bytes → 0 < length bytes
text_some [] (inl (more, e)) = absurd cc
text_some [] (inr (more, e, q)) = absurd cc
text_some (b ∷ bs) h = omega arith

pub text_raw : (bytes : List ℕ) → get_or bytes 0 0 ≡ 96 → text_value bytes ≡ filter (λ b. not (b == 13)) (inner bytes)
text_raw [] e = absurd (omega arith)
text_raw (b ∷ bs) e = rw e refl

pub text_quoted : (bytes : List ℕ) → get_or bytes 0 0 ≢ 96 → text_value bytes ≡ unescape_from 0 (inner bytes)
text_quoted [] ne = refl
text_quoted (b ∷ bs) ne = go (nat_eq b 96) refl
  where
    go : (t : Bool) → nat_eq b 96 ≡ t → text_value (b ∷ bs) ≡ unescape_from 0 (inner (b ∷ bs))
    go true e = absurd (ne (eqb-true b 96 e))
    go false e = rw e refl

pub quoted_body : (bytes : List ℕ) → get_or bytes 0 0 ≢ 96 → IsTextLiteral bytes → IsQuotedBody (inner bytes)
quoted_body bytes ne (inl (more, e)) = absurd (ne (ap (λ (v : List ℕ). get_or v 0 0) e))
quoted_body bytes ne (inr (more, e, q)) = q
