-- What is meant isn't flawed, and a flaw is one.
use Rattle.std.proofs.Common.{◌≡◌, ◌≢◌, ℕ, ◌<◌, ◌≤◌, Bool, true, false, inl, inr, List, [], ◌∷◌, ◌++◌, length, take, drop, refl, sym, ap, subst, ◌∙◌, arith, nat_eq, ◌||◌}
use Rattle.std.specs.Prelude.{encode_utf8}
use Rattle.std.proofs.lemmas.List.{append-nil, length-append, take_at, drop_at}
use Rattle.std.proofs.lemmas.Str.{char_from_byte}
use Rattle.std.proofs.lemmas.Bool.{eqb-true}
use Rattle.go_ast.specs.declared.token.PieceForm.{PieceForm}
use Rattle.go_ast.specs.declared.token.PieceForm.TheVariants as form
use Rattle.go_ast.specs.declared.kind.LexKind.{LexKind}
use Rattle.go_ast.specs.declared.kind.LexKind.TheVariants as fault
use Rattle.go_ast.specs.Characters.{BeginsWith}
use Rattle.go_ast.specs.Numbers.{is_int}
use Rattle.go_ast.specs.Literals.{inner, is_escape, IsBadEscape, IsItem, AreItems, IsQuotedBody, HasBadEscape, IsRuneBody, IsNoneOrMany}
use Rattle.go_ast.specs.Pieces.{IsLongest, IsMeant}
use Rattle.go_ast.specs.Faults.{is_quote, IsStop, IsFlaw, IsBreak}
use Rattle.go_lex.specs.Scan.{escape_front}
use Rattle.go_lex.proofs.Values.{both}
use Rattle.go_lex.proofs.Closes.{cons_head, absurd_bool}
use Rattle.go_lex.proofs.Items.{escape_reaches, some_is}
use Rattle.go_lex.proofs.Characters.{encode_len}
use Rattle.go_lex.proofs.Cut.{same_piece, stuck_none}

-- ---- items

-- an escape begins with a backslash
pub escape_slash : (quote b : ℕ) (bs : List ℕ) → is_escape quote (b ∷ bs) ≡ true → b ≡ 92
escape_slash quote b [] e = absurd cc
escape_slash quote b (c ∷ cs) e = eqb-true b 92 (both (nat_eq b 92) _ e).0

pub escape_long : (quote : ℕ) (escape : List ℕ) → is_escape quote escape ≡ true → 2 ≤ length escape
escape_long quote [] e = absurd cc
escape_long quote (b ∷ []) e = absurd cc
escape_long quote (b ∷ c ∷ cs) e = omega arith

-- one escape stands at a place
pub same_escape : (quote : ℕ) (v w r s : List ℕ) → is_escape quote v ≡ true → is_escape quote w ≡ true → v ++ r ≡ w ++ s → length v ≡ length w
same_escape quote v w r s ev ew e =
    let a = escape_reaches quote v r ev in
    let b = escape_reaches quote w s ew in
    some_is (length v) (length w) (sym a ∙ ap (escape_front quote) e ∙ b)

pub same_front : (v w r s : List ℕ) → length v ≡ length w → v ++ r ≡ w ++ s → (v ≡ w) × (r ≡ s)
same_front v w r s len e = (
  sym (take_at v r (length v) refl) ∙ ap (take (length v)) e ∙ take_at w s (length v) (sym len),
  sym (drop_at v r (length v) refl) ∙ ap (drop (length v)) e ∙ drop_at w s (length v) (sym len),
)

one_byte : (b : ℕ) (r : List ℕ) (w s : List ℕ) (quote : ℕ) → b ≢ 92 → is_escape quote w ≡ true → b ∷ r ≡ w ++ s → ⊥
one_byte b r [] s quote ne ew e = absurd cc
one_byte b r (c ∷ cs) s quote ne ew e = ne (cons_head b c r (cs ++ s) e ∙ escape_slash quote c cs ew)

pub same_item : (quote : ℕ) (v w r s : List ℕ) → IsItem quote v → IsItem quote w → v ++ r ≡ w ++ s → (v ≡ w) × (r ≡ s)
same_item quote v w r s (inl a) (inl b) e = same_front v w r s (ap length a.1 ∙ sym (ap length b.1)) e
same_item quote v w r s (inl a) (inr b) e = absurd (one_byte a.0 r w s quote a.2 b (sym (ap (λ (x : List ℕ). x ++ r) a.1) ∙ e))
same_item quote v w r s (inr a) (inl b) e = absurd (one_byte b.0 s v r quote b.2 a (sym (ap (λ (x : List ℕ). x ++ s) b.1) ∙ sym e))
same_item quote v w r s (inr a) (inr b) e = same_front v w r s (same_escape quote v w r s a b e) e

item_some : (quote : ℕ) (item : List ℕ) → IsItem quote item → 1 ≤ length item
item_some quote item (inl a) = let k : length item ≡ length (a.0 ∷ []) = ap length a.1 in omega arith
item_some quote item (inr a) = let l = escape_long quote item a in omega arith

-- no item begins with a bad escape
item_not_bad : (quote : ℕ) (item more rest : List ℕ) → IsItem quote item → IsBadEscape quote rest → rest ≡ item ++ more → ⊥
item_not_bad quote item more rest (inl a) bad e = a.2 (cons_head a.0 92 more bad.slash.0 (sym (ap (λ (x : List ℕ). x ++ more) a.1) ∙ sym e ∙ bad.slash.1))
item_not_bad quote item more rest (inr a) bad e = bad.none item more a e

empty_not_bad : (quote : ℕ) → IsBadEscape quote [] → ⊥
empty_not_bad quote bad = go bad.slash.1
  where
    go : [] ≡ 92 ∷ bad.slash.0 → ⊥
    go e = absurd cc

-- items that end at a bad escape end there alone
pub same_rest : (quote : ℕ) (is js : List (List ℕ)) (bytes r s : List ℕ) → AreItems quote is bytes r → AreItems quote js bytes s → ((item more : List ℕ) → IsItem quote item → r ≡ item ++ more → ⊥) → ((item more : List ℕ) → IsItem quote item → s ≡ item ++ more → ⊥) → r ≡ s
same_rest quote [] [] bytes r s a b nr ns = sym a ∙ b
same_rest quote [] (j ∷ js) bytes r s a b nr ns = absurd (nr j b.0 b.2 (sym a ∙ b.1))
same_rest quote (i ∷ is) [] bytes r s a b nr ns = absurd (ns i a.0 a.2 (sym b ∙ a.1))
same_rest quote (i ∷ is) (j ∷ js) bytes r s a b nr ns =
    let same = same_item quote i j a.0 b.0 a.2 b.2 (sym a.1 ∙ b.1) in
    same_rest quote is js a.0 r s a.3 (subst (λ (x : List ℕ). AreItems quote js x s) (sym same.1) b.3) nr ns

empty_item : (quote : ℕ) (item more : List ℕ) → IsItem quote item → [] ≡ item ++ more → ⊥
empty_item quote item more is e = let some = item_some quote item is in let l = length-append item more in let k : 0 ≡ length (item ++ more) = ap length e in absurd (omega arith)

pub quoted_not_bad : (body : List ℕ) (at : ℕ) → IsQuotedBody body → HasBadEscape body at → ⊥
quoted_not_bad body at good bad =
    let same : [] ≡ bad.1 = same_rest 34 good.0 bad.0 body [] bad.1 good.1 bad.2 (λ item more is e. empty_item 34 item more is e) (λ item more is e. item_not_bad 34 item more bad.1 is bad.3 e) in
    empty_not_bad 34 (subst (IsBadEscape 34) (sym same) bad.3)

pub same_bad : (body : List ℕ) (at other : ℕ) → HasBadEscape body at → HasBadEscape body other → at ≡ other
same_bad body at other a b =
    let same : a.1 ≡ b.1 = same_rest 34 a.0 b.0 body a.1 b.1 a.2 b.2 (λ item more is e. item_not_bad 34 item more a.1 is a.3 e) (λ item more is e. item_not_bad 34 item more b.1 is b.3 e) in
    let k : length a.1 ≡ length b.1 = ap length same in
    let x = a.4 in
    let y = b.4 in
    omega arith

-- ---- runes

-- a character that begins with a backslash is one
slash_character : (c : ℕ) (more : List ℕ) → encode_utf8 c ≡ 92 ∷ more → c ≡ 92
slash_character c more e = char_from_byte (92 ∷ more) [] c (sym e ∙ sym (append-nil (encode_utf8 c))) (omega arith) (omega arith)

encode_some : (c : ℕ) → encode_utf8 c ≡ [] → ⊥
encode_some c e = let some = (encode_len c).0 in let k : length (encode_utf8 c) ≡ 0 = ap length e in absurd (omega arith)

escape_not_character : (c : ℕ) (escape more : List ℕ) → c ≢ 92 → is_escape 39 escape ≡ true → encode_utf8 c ≡ escape ++ more → ⊥
escape_not_character c [] more ne is e = absurd cc
escape_not_character c (b ∷ bs) more ne is e = ne (slash_character c (bs ++ more) (e ∙ ap (λ (x : ℕ). x ∷ (bs ++ more)) (escape_slash 39 b bs is)))

pub rune_not_many : (body : List ℕ) → IsRuneBody body → IsNoneOrMany body → ⊥
rune_not_many body (inl r) (inl m) = encode_some r.0 (sym r.3 ∙ m)
rune_not_many body (inl r) (inr (inl m)) = escape_not_character r.0 m.0 m.1 r.2 m.2 (sym r.3 ∙ m.4)
rune_not_many body (inl r) (inr (inr m)) = m.5 r.0 r.1 r.3
rune_not_many body (inr r) (inl m) = go (subst (λ (b : List ℕ). is_escape 39 b ≡ true) m r)
  where
    go : is_escape 39 [] ≡ true → ⊥
    go e = absurd cc
rune_not_many body (inr r) (inr (inl m)) =
    let same = same_escape 39 body m.0 [] m.1 r m.2 (append-nil body ∙ m.4) in
    let l = length-append m.0 m.1 in
    let k : length body ≡ length (m.0 ++ m.1) = ap length m.4 in
    m.3 (no_length m.1 (omega arith))
  where
    no_length : (xs : List ℕ) → length xs ≡ 0 → xs ≡ []
    no_length [] e = refl
    no_length (x ∷ xs) e = absurd (omega arith)
rune_not_many body (inr r) (inr (inr m)) = one_byte m.0 m.1 body [] 39 m.2 r (sym m.4 ∙ sym (append-nil body))

pub rune_not_bad : (body : List ℕ) → IsRuneBody body → IsBadEscape 39 body → ⊥
rune_not_bad body (inl r) bad = r.2 (slash_character r.0 bad.slash.0 (sym r.3 ∙ bad.slash.1))
rune_not_bad body (inr r) bad = bad.none body [] r (sym (append-nil body))

pub many_not_bad : (body : List ℕ) → IsNoneOrMany body → IsBadEscape 39 body → ⊥
many_not_bad body (inl m) bad = empty_not_bad 39 (subst (IsBadEscape 39) m bad)
many_not_bad body (inr (inl m)) bad = bad.none m.0 m.1 m.2 m.4
many_not_bad body (inr (inr m)) bad = m.2 (cons_head m.0 92 m.1 bad.slash.0 (sym m.4 ∙ bad.slash.1))

-- ---- flaws

pub meant_not_flawed : (f : PieceForm) (bytes : List ℕ) (at : ℕ) (kind : LexKind) → IsMeant f bytes → IsFlaw f bytes at kind → ⊥
meant_not_flawed form.Opening bytes at kind m l = m
meant_not_flawed form.Number bytes at kind m l = absurd_bool (is_int bytes) m l.2
meant_not_flawed form.Rune bytes at kind m (inl l) = rune_not_many (inner bytes) m l.2
meant_not_flawed form.Rune bytes at kind m (inr l) = rune_not_bad (inner bytes) m l.2
meant_not_flawed form.Quoted bytes at kind m l = quoted_not_bad (inner bytes) at m l.1
meant_not_flawed form.Blank bytes at kind m l = l
meant_not_flawed form.Line bytes at kind m l = l
meant_not_flawed form.Word bytes at kind m l = l
meant_not_flawed form.Raw bytes at kind m l = l
meant_not_flawed (form.Operator place) bytes at kind m l = l

pub same_flaw : (f : PieceForm) (bytes : List ℕ) (at other : ℕ) (kind other_kind : LexKind) → IsFlaw f bytes at kind → IsFlaw f bytes other other_kind → (at ≡ other) × (kind ≡ other_kind)
same_flaw form.Opening bytes at other kind other_kind a b = (a.0 ∙ sym b.0, a.1 ∙ sym b.1)
same_flaw form.Number bytes at other kind other_kind a b = (a.0 ∙ sym b.0, a.1 ∙ sym b.1)
same_flaw form.Rune bytes at other kind other_kind (inl a) (inl b) = (a.0 ∙ sym b.0, a.1 ∙ sym b.1)
same_flaw form.Rune bytes at other kind other_kind (inl a) (inr b) = absurd (many_not_bad (inner bytes) a.2 b.2)
same_flaw form.Rune bytes at other kind other_kind (inr a) (inl b) = absurd (many_not_bad (inner bytes) b.2 a.2)
same_flaw form.Rune bytes at other kind other_kind (inr a) (inr b) = (a.0 ∙ sym b.0, a.1 ∙ sym b.1)
same_flaw form.Quoted bytes at other kind other_kind a b = (same_bad (inner bytes) at other a.1 b.1, a.0 ∙ sym b.0)
same_flaw form.Blank bytes at other kind other_kind a b = absurd a
same_flaw form.Line bytes at other kind other_kind a b = absurd a
same_flaw form.Word bytes at other kind other_kind a b = absurd a
same_flaw form.Raw bytes at other kind other_kind a b = absurd a
same_flaw (form.Operator place) bytes at other kind other_kind a b = absurd a

-- ---- stops

-- the character that a text begins with, where its first byte is a quote
quote_character : (rest more : List ℕ) (c q : ℕ) → q < 128 → BeginsWith rest c → rest ≡ q ∷ more → c ≡ q
quote_character rest more c q lt begins e = char_from_byte (q ∷ more) begins.0 c (sym e ∙ begins.2) lt (omega arith)

quote_text : (q : ℕ) → (nat_eq q 34 || nat_eq q 96) ≡ true → (q < 128) × (is_quote q ≡ true) × (q ≢ 39)
quote_text q e = go (nat_eq q 34) (nat_eq q 96) refl refl e
  where
    is : (k : ℕ) → q ≡ k → (k < 128) × (is_quote k ≡ true) × (k ≢ 39) → (q < 128) × (is_quote q ≡ true) × (q ≢ 39)
    is k same h = subst (λ (x : ℕ). (x < 128) × (is_quote x ≡ true) × (x ≢ 39)) (sym same) h

    go : (a b : Bool) → nat_eq q 34 ≡ a → nat_eq q 96 ≡ b → (a || b) ≡ true → (q < 128) × (is_quote q ≡ true) × (q ≢ 39)
    go true b a-is b-is h = is 34 (eqb-true q 34 a-is) (omega arith, refl, λ x. absurd (omega arith))
    go false true a-is b-is h = is 96 (eqb-true q 96 b-is) (omega arith, refl, λ x. absurd (omega arith))
    go false false a-is b-is h = absurd cc

character_no_rune : (rest more : List ℕ) (c : ℕ) → is_quote c ≡ false → BeginsWith rest c → rest ≡ 39 ∷ more → ⊥
character_no_rune rest more c isnt begins e = absurd_bool (is_quote c) (subst (λ (x : ℕ). is_quote x ≡ true) (sym (quote_character rest more c 39 (omega arith) begins e)) refl) isnt

character_no_text : (rest more : List ℕ) (c q : ℕ) → is_quote c ≡ false → BeginsWith rest c → (nat_eq q 34 || nat_eq q 96) ≡ true → rest ≡ q ∷ more → ⊥
character_no_text rest more c q isnt begins is e =
    let t = quote_text q is in
    absurd_bool (is_quote c) (subst (λ (x : ℕ). is_quote x ≡ true) (sym (quote_character rest more c q t.0 begins e)) t.1) isnt

rune_no_text : (rest more others : List ℕ) (q : ℕ) → rest ≡ 39 ∷ more → (nat_eq q 34 || nat_eq q 96) ≡ true → rest ≡ q ∷ others → ⊥
rune_no_text rest more others q a is b = (quote_text q is).2 (cons_head q 39 others more (sym b ∙ a))

pub same_stop : (rest : List ℕ) (kind other : LexKind) → IsStop rest kind → IsStop rest other → kind ≡ other
same_stop rest fault.BadCharacter fault.BadCharacter a b = refl
same_stop rest fault.BadCharacter fault.BadRune a b = absurd (character_no_rune rest b.0 a.0 a.1 a.2 b.1)
same_stop rest fault.BadCharacter fault.BadText a b = absurd (character_no_text rest b.1 a.0 b.0 a.1 a.2 b.2 b.3)
same_stop rest fault.BadCharacter fault.BadUtf8 a b = absurd b
same_stop rest fault.BadCharacter fault.BadComment a b = absurd b
same_stop rest fault.BadCharacter fault.BadNumber a b = absurd b
same_stop rest fault.BadCharacter fault.BadEscape a b = absurd b
same_stop rest fault.BadRune fault.BadRune a b = refl
same_stop rest fault.BadRune fault.BadCharacter a b = absurd (character_no_rune rest a.0 b.0 b.1 b.2 a.1)
same_stop rest fault.BadRune fault.BadText a b = absurd (rune_no_text rest a.0 b.1 b.0 a.1 b.2 b.3)
same_stop rest fault.BadRune fault.BadUtf8 a b = absurd b
same_stop rest fault.BadRune fault.BadComment a b = absurd b
same_stop rest fault.BadRune fault.BadNumber a b = absurd b
same_stop rest fault.BadRune fault.BadEscape a b = absurd b
same_stop rest fault.BadText fault.BadText a b = refl
same_stop rest fault.BadText fault.BadCharacter a b = absurd (character_no_text rest a.1 b.0 a.0 b.1 b.2 a.2 a.3)
same_stop rest fault.BadText fault.BadRune a b = absurd (rune_no_text rest b.0 a.1 a.0 b.1 a.2 a.3)
same_stop rest fault.BadText fault.BadUtf8 a b = absurd b
same_stop rest fault.BadText fault.BadComment a b = absurd b
same_stop rest fault.BadText fault.BadNumber a b = absurd b
same_stop rest fault.BadText fault.BadEscape a b = absurd b
same_stop rest fault.BadUtf8 other a b = absurd a
same_stop rest fault.BadComment other a b = absurd a
same_stop rest fault.BadNumber other a b = absurd a
same_stop rest fault.BadEscape other a b = absurd a

-- ---- breaks

pub same_break : (rest : List ℕ) (at other : ℕ) (kind other_kind : LexKind) → IsBreak rest at kind → IsBreak rest other other_kind → (at ≡ other) × (kind ≡ other_kind)
same_break rest at other kind other_kind (inl a) (inl b) = (a.1 ∙ sym b.1, same_stop rest kind other_kind a.2 b.2)
same_break rest at other kind other_kind (inl a) (inr b) = absurd (stuck_none b.0 b.1 b.2 rest a.0 b.4 b.3)
same_break rest at other kind other_kind (inr a) (inl b) = absurd (stuck_none a.0 a.1 a.2 rest b.0 a.4 a.3)
same_break rest at other kind other_kind (inr a) (inr b) =
    let same = same_piece b.0 a.0 b.1 a.1 b.2 a.2 b.4 a.4 (sym b.3 ∙ a.3) in
    same_flaw a.0 a.1 at other kind other_kind a.5
    (subst (λ (f : PieceForm). IsFlaw f a.1 other other_kind) same.form (subst (λ (x : List ℕ). IsFlaw b.0 x other other_kind) same.bytes_same b.5))

-- where a meant piece stands nothing breaks
pub meant_no_break : (f : PieceForm) (bytes more rest : List ℕ) (at : ℕ) (kind : LexKind) → rest ≡ bytes ++ more → IsLongest f bytes more → IsMeant f bytes → IsBreak rest at kind → ⊥
meant_no_break f bytes more rest at kind e l m (inl a) = stuck_none f bytes more rest a.0 l e
meant_no_break f bytes more rest at kind e l m (inr a) =
    let same = same_piece a.0 f a.1 bytes a.2 more a.4 l (sym a.3 ∙ e) in
    meant_not_flawed f bytes at kind m
    (subst (λ (g : PieceForm). IsFlaw g bytes at kind) same.form (subst (λ (x : List ℕ). IsFlaw a.0 x at kind) same.bytes_same a.5))
