-- The first fault of a text stands where its division ends.
use Rattle.std.proofs.Common.{◌≡◌, ℕ, ◌+◌, ◌≤◌, true, inl, inr, List, [], ◌∷◌, ◌++◌, length, refl, sym, ap, subst, ◌∙◌, arith, append_assoc}
use Rattle.std.specs.Prelude.{encode_utf8}
use Rattle.std.specs.List.{AllByRecursion}
use Rattle.std.specs.Str.{encode_utf8_all}
use Rattle.std.specs.Char.{IsScalar}
use Rattle.std.proofs.lemmas.List.{append-nil, length-append}
use Rattle.std.proofs.lemmas.Str.{encode_same}
use Rattle.go_ast.specs.declared.token.PieceForm.{PieceForm}
use Rattle.go_ast.specs.declared.token.PieceForm.TheVariants as form
use Rattle.go_ast.specs.declared.kind.LexKind.{LexKind}
use Rattle.go_ast.specs.declared.kind.LexKind.TheVariants as fault
use Rattle.go_ast.specs.Characters.{is_banned, BeginsWith, IsSourceCharacter, AreCharacters}
use Rattle.go_ast.specs.Faults.{IsBadCharacter, HasBadCharacter, IsFlaw, row}
use Rattle.go_lex.specs.Verdicts.{IsFirstBad, IsBefore}
use Rattle.go_lex.proofs.Closes.{absurd_bool}
use Rattle.go_lex.proofs.Characters.{encode_len}

-- ---- bad characters

one_character : (rest : List ℕ) (c d : ℕ) (after : List ℕ) → rest ≡ encode_utf8 c ++ after → BeginsWith rest d → c ≡ d
one_character rest c d after e b = (encode_same c d after b.0 (sym e ∙ b.2)).0

-- where a character stands that a source may have there is no bad one
not_bad_here : (rest : List ℕ) (c : ℕ) (after : List ℕ) (kind : LexKind) → IsSourceCharacter c → rest ≡ encode_utf8 c ++ after → IsBadCharacter rest kind → ⊥
not_bad_here rest c after fault.BadUtf8 is e bad = bad.1 c after is.0 e
not_bad_here rest c after fault.BadCharacter is e bad = absurd_bool (is_banned c) (subst (λ (x : ℕ). is_banned x ≡ true) (sym (one_character rest c bad.0 after e bad.2)) bad.1) is.1
not_bad_here rest c after fault.BadComment is e bad = bad
not_bad_here rest c after fault.BadNumber is e bad = bad
not_bad_here rest c after fault.BadRune is e bad = bad
not_bad_here rest c after fault.BadText is e bad = bad
not_bad_here rest c after fault.BadEscape is e bad = bad

empty_not_bad : (kind : LexKind) → IsBadCharacter [] kind → ⊥
empty_not_bad fault.BadUtf8 bad = bad.0 refl
empty_not_bad fault.BadCharacter bad =
    let l = length-append (encode_utf8 bad.0) bad.2.0 in
    let k : 0 ≡ length (encode_utf8 bad.0 ++ bad.2.0) = ap length bad.2.2 in
    let s = (encode_len bad.0).0 in
    absurd (omega arith)
empty_not_bad fault.BadComment bad = bad
empty_not_bad fault.BadNumber bad = bad
empty_not_bad fault.BadRune bad = bad
empty_not_bad fault.BadText bad = bad
empty_not_bad fault.BadEscape bad = bad

-- a bad character behind good ones
pub record IsBehind (rest : List ℕ) (from at : ℕ) (kind : LexKind) : Type 0 where
  pub near : ℕ
  pub place : at ≡ from + near
  pub bad : HasBadCharacter rest near kind

pub bad_behind : (cs ds rest r bytes : List ℕ) (kind : LexKind) → AllByRecursion IsSourceCharacter cs → AllByRecursion IsScalar ds → bytes ≡ encode_utf8_all cs ++ rest → bytes ≡ encode_utf8_all ds ++ r → IsBadCharacter r kind → IsBehind rest (length (encode_utf8_all cs)) (length (encode_utf8_all ds)) kind
bad_behind [] ds rest r bytes kind good all e f bad = record { near = length (encode_utf8_all ds); place = omega arith; bad = (ds, r, all, sym e ∙ f, refl, bad) }
bad_behind (c ∷ cs) [] rest r bytes kind good all e f bad = absurd (not_bad_here r c (encode_utf8_all cs ++ rest) kind good.0 (sym f ∙ e ∙ append_assoc (encode_utf8 c) (encode_utf8_all cs) rest) bad)
bad_behind (c ∷ cs) (d ∷ ds) rest r bytes kind good all e f bad =
    let one = encode_same c d (encode_utf8_all cs ++ rest) (encode_utf8_all ds ++ r) (sym (append_assoc (encode_utf8 c) (encode_utf8_all cs) rest) ∙ sym e ∙ f ∙ append_assoc (encode_utf8 d) (encode_utf8_all ds) r) in
    let b = bad_behind cs ds rest r (encode_utf8_all cs ++ rest) kind good.1 all.1 refl one.1 bad in
    let l = length-append (encode_utf8 c) (encode_utf8_all cs) in
    let m = length-append (encode_utf8 d) (encode_utf8_all ds) in
    let k : length (encode_utf8 c) ≡ length (encode_utf8 d) = ap (λ (x : ℕ). length (encode_utf8 x)) one.0 in
    let place = b.place in
    record { near = b.near; place = omega arith; bad = b.bad }

pub behind : (cs rest bytes : List ℕ) (at : ℕ) (kind : LexKind) → AllByRecursion IsSourceCharacter cs → bytes ≡ encode_utf8_all cs ++ rest → HasBadCharacter bytes at kind → IsBehind rest (length (encode_utf8_all cs)) at kind
behind cs rest bytes at kind good e bad =
    let b = bad_behind cs bad.0 rest bad.1 bytes kind good bad.2 e bad.3 bad.5 in
    let place = b.place in
    let same = bad.4 in
    record { near = b.near; place = omega arith; bad = b.bad }

-- characters that a source may have hold no bad one
pub no_bad : (bytes : List ℕ) (at : ℕ) (kind : LexKind) → AreCharacters bytes → HasBadCharacter bytes at kind → ⊥
no_bad bytes at kind are bad =
    let b = (behind are.0 [] bytes at kind are.1 (are.2 ∙ sym (append-nil (encode_utf8_all are.0))) bad).bad in
    none b.0 b.1 b.3 b.5
  where
    none : (ds r : List ℕ) → [] ≡ encode_utf8_all ds ++ r → IsBadCharacter r kind → ⊥
    none [] r e h = empty_not_bad kind (subst (λ (x : List ℕ). IsBadCharacter x kind) (sym e) h)
    none (d ∷ ds) r e h =
        let l = length-append (encode_utf8 d) (encode_utf8_all ds) in
        let m = length-append (encode_utf8_all (d ∷ ds)) r in
        let k : 0 ≡ length (encode_utf8_all (d ∷ ds) ++ r) = ap length e in
        let s = (encode_len d).0 in
        absurd (omega arith)

pub scalars_of : (cs : List ℕ) → AllByRecursion IsSourceCharacter cs → AllByRecursion IsScalar cs
scalars_of [] all = tt
scalars_of (c ∷ cs) all = (all.0.0, scalars_of cs all.1)

pub has_first : (bytes : List ℕ) (at : ℕ) (kind : LexKind) → IsFirstBad bytes at kind → HasBadCharacter bytes at kind
has_first bytes at kind b = (b.0, b.1, scalars_of b.0 b.2, b.3, b.4, b.5)

same_bad_kind : (rest : List ℕ) (kind other : LexKind) → IsBadCharacter rest kind → IsBadCharacter rest other → kind ≡ other
same_bad_kind rest fault.BadUtf8 fault.BadUtf8 a b = refl
same_bad_kind rest fault.BadUtf8 fault.BadCharacter a b = absurd (a.1 b.0 b.2.0 b.2.1 b.2.2)
same_bad_kind rest fault.BadUtf8 fault.BadComment a b = absurd b
same_bad_kind rest fault.BadUtf8 fault.BadNumber a b = absurd b
same_bad_kind rest fault.BadUtf8 fault.BadRune a b = absurd b
same_bad_kind rest fault.BadUtf8 fault.BadText a b = absurd b
same_bad_kind rest fault.BadUtf8 fault.BadEscape a b = absurd b
same_bad_kind rest fault.BadCharacter fault.BadCharacter a b = refl
same_bad_kind rest fault.BadCharacter fault.BadUtf8 a b = absurd (b.1 a.0 a.2.0 a.2.1 a.2.2)
same_bad_kind rest fault.BadCharacter fault.BadComment a b = absurd b
same_bad_kind rest fault.BadCharacter fault.BadNumber a b = absurd b
same_bad_kind rest fault.BadCharacter fault.BadRune a b = absurd b
same_bad_kind rest fault.BadCharacter fault.BadText a b = absurd b
same_bad_kind rest fault.BadCharacter fault.BadEscape a b = absurd b
same_bad_kind rest fault.BadComment other a b = absurd a
same_bad_kind rest fault.BadNumber other a b = absurd a
same_bad_kind rest fault.BadRune other a b = absurd a
same_bad_kind rest fault.BadText other a b = absurd a
same_bad_kind rest fault.BadEscape other a b = absurd a

pub same_row : (kind other : LexKind) → kind ≡ other → row kind ≤ row other
same_row kind other e = let k : row kind ≡ row other = ap row e in omega arith

-- the first bad character comes before any
pub first_bad_before : (bytes : List ℕ) (at other : ℕ) (kind other_kind : LexKind) → IsFirstBad bytes at kind → HasBadCharacter bytes other other_kind → IsBefore at kind other other_kind
first_bad_before bytes at other kind other_kind b h =
    let n = behind b.0 b.1 bytes other other_kind b.2 b.3 h in
    let place = n.place in
    let same = b.4 in
    go n.near (omega arith) n.bad.0 n.bad.1 n.bad.3 n.bad.4 n.bad.5
  where
    go : (near : ℕ) → other ≡ at + near → (ds r : List ℕ) → b.1 ≡ encode_utf8_all ds ++ r → near ≡ length (encode_utf8_all ds) → IsBadCharacter r other_kind → IsBefore at kind other other_kind
    go near place [] r e k bad = inr (omega arith, same_row kind other_kind (same_bad_kind r kind other_kind (subst (λ (x : List ℕ). IsBadCharacter x kind) e b.5) bad))
    go near place (d ∷ ds) r e k bad =
        let l = length-append (encode_utf8 d) (encode_utf8_all ds) in
        let s = (encode_len d).0 in
        inl (omega arith)

-- ---- rows

pub bad_row : (rest : List ℕ) (kind : LexKind) → IsBadCharacter rest kind → row kind ≤ 1
bad_row rest fault.BadUtf8 bad = omega arith
bad_row rest fault.BadCharacter bad = omega arith
bad_row rest fault.BadComment bad = absurd bad
bad_row rest fault.BadNumber bad = absurd bad
bad_row rest fault.BadRune bad = absurd bad
bad_row rest fault.BadText bad = absurd bad
bad_row rest fault.BadEscape bad = absurd bad

kind_row : (kind k : LexKind) → kind ≡ k → 2 ≤ row k → 2 ≤ row kind
kind_row kind k e le = let same : row kind ≡ row k = ap row e in omega arith

pub flaw_row : (f : PieceForm) (bytes : List ℕ) (at : ℕ) (kind : LexKind) → IsFlaw f bytes at kind → 2 ≤ row kind
flaw_row form.Opening bytes at kind l = kind_row kind fault.BadComment l.1 (omega arith)
flaw_row form.Number bytes at kind l = kind_row kind fault.BadNumber l.1 (omega arith)
flaw_row form.Rune bytes at kind (inl l) = kind_row kind fault.BadRune l.1 (omega arith)
flaw_row form.Rune bytes at kind (inr l) = kind_row kind fault.BadEscape l.1 (omega arith)
flaw_row form.Quoted bytes at kind l = kind_row kind fault.BadEscape l.0 (omega arith)
flaw_row form.Blank bytes at kind l = absurd l
flaw_row form.Line bytes at kind l = absurd l
flaw_row form.Word bytes at kind l = absurd l
flaw_row form.Raw bytes at kind l = absurd l
flaw_row (form.Operator place) bytes at kind l = absurd l
