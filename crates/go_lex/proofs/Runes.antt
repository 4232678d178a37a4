-- What stands between single quotes, and what is wrong with a piece.
use Rattle.std.proofs.Common.{◌≡◌, ◌≢◌, ℕ, ◌<◌, ◌≤◌, true, inl, inr, List, [], ◌∷◌, ◌++◌, length, take, drop, get_or, Option, Some, None, refl, sym, ap, subst, ◌∙◌, arith}
use Rattle.std.specs.Prelude.{encode_utf8, MatchOption}
use Rattle.std.specs.List.{AllByRecursion}
use Rattle.std.specs.Str.{encode_utf8_all, StartsWithNoChar}
use Rattle.std.specs.Char.{IsScalar}
use Rattle.std.proofs.lemmas.List.{append-nil, length-append, take-append-drop, length-drop}
use Rattle.std.proofs.lemmas.Str.{encode_same, encode_ascii, inside_one, length-encode, len_utf8_ascii}
use Rattle.go_ast.specs.declared.token.PieceForm.{PieceForm}
use Rattle.go_ast.specs.declared.token.PieceForm.TheVariants as form
use Rattle.go_ast.specs.declared.kind.LexKind.{LexKind}
use Rattle.go_ast.specs.declared.kind.LexKind.TheVariants as fault
use Rattle.go_ast.specs.Characters.{AreCharacters, IsSourceCharacter}
use Rattle.go_ast.specs.Literals.{inner, is_escape, IsQuotedBody, IsRuneBody, IsNoneOrMany}
use Rattle.go_ast.specs.Pieces.{HasForm, IsBetween}
use Rattle.go_ast.specs.Faults.{IsFlaw}
use Rattle.go_lex.specs.Scan.{escape_front}
use Rattle.go_lex.specs.Fronts.{IsCharacterAt}
use Rattle.go_lex.specs.Verdicts.{IsFirstBad, IsRuneFlaw, IsUnflawedRune, IsUnflawed, IsFaultIn}
use Rattle.go_lex.proofs.Items.{escape_sound}
use Rattle.go_lex.proofs.Characters.{encode_len}
use Rattle.go_lex.proofs.Words.{same_character}
use Rattle.go_lex.proofs.Flaws.{rune_not_many, rune_not_bad, quoted_not_bad, same_flaw, escape_long}

unflawed_good : (body : List ℕ) → IsRuneBody body → IsUnflawedRune body
unflawed_good body good = record { meant = λ _. good; none = λ at kind f. no_flaw body at kind good f }
  where
    no_flaw : (b : List ℕ) (at : ℕ) (kind : LexKind) → IsRuneBody b → IsRuneFlaw b at kind → ⊥
    no_flaw b at kind g (inl f) = rune_not_many b g f.2
    no_flaw b at kind g (inr f) = rune_not_bad b g f.2

-- one character
pub unflawed_character : (body : List ℕ) (c len : ℕ) → IsCharacterAt body c len → len ≡ length body → get_or body 0 0 ≢ 92 → IsUnflawedRune body
unflawed_character body c len at whole first =
    let none : drop len body ≡ [] = no_length (drop len body) (let d = length-drop len body in omega arith) in
    let is : body ≡ encode_utf8 c = at.is ∙ ap (λ (x : List ℕ). encode_utf8 c ++ x) none ∙ append-nil (encode_utf8 c) in
    unflawed_good body (inl (c, at.scalar, λ e. first (slash e is), is))
  where
    no_length : (xs : List ℕ) → length xs ≡ 0 → xs ≡ []
    no_length [] e = refl
    no_length (x ∷ xs) e = absurd (omega arith)

    slash : c ≡ 92 → body ≡ encode_utf8 c → get_or body 0 0 ≡ 92
    slash e is = ap (λ (x : List ℕ). get_or x 0 0) (is ∙ ap encode_utf8 e ∙ encode_ascii 92 (omega arith))

-- a byte alone that begins no character
lone_byte : (b : ℕ) → StartsWithNoChar (b ∷ []) → AreCharacters (39 ∷ b ∷ 39 ∷ []) → ⊥
lone_byte b none are = go are.0 are.1 are.2
  where
    two : (cs : List ℕ) → AllByRecursion IsSourceCharacter cs → b ∷ 39 ∷ [] ≡ encode_utf8_all cs → ⊥
    two [] all e = absurd cc
    two (c ∷ cs) all e =
        let l = length-append (encode_utf8 c) (encode_utf8_all cs) in
        let k : 2 ≡ length (encode_utf8 c ++ encode_utf8_all cs) = ap length e in
        by (encode_utf8 c) refl (encode_len c).0 e
      where
        wide : 1 < length (encode_utf8 c) → ⊥
        wide lt =
            let is : c ≡ 39 = inside_one c (encode_utf8_all cs) (b ∷ 39 ∷ []) 1 e lt (omega arith) in
            let one = len_utf8_ascii c (rw is (omega arith)) in
            let len = length-encode c in
            omega arith

        by : (w : List ℕ) → encode_utf8 c ≡ w → 1 ≤ length (encode_utf8 c) → b ∷ 39 ∷ [] ≡ encode_utf8 c ++ encode_utf8_all cs → ⊥
        by [] w-is some h = let z : length (encode_utf8 c) ≡ 0 = ap length w-is in absurd (omega arith)
        by (x ∷ []) w-is some h =
            let front : b ∷ 39 ∷ [] ≡ x ∷ encode_utf8_all cs = h ∙ ap (λ (v : List ℕ). v ++ encode_utf8_all cs) w-is in
            none c [] all.0.0 (head b x (39 ∷ []) (encode_utf8_all cs) front ∙ sym (append-nil (encode_utf8 c) ∙ w-is))
          where
            head : (p q : ℕ) (r s : List ℕ) → p ∷ r ≡ q ∷ s → p ∷ [] ≡ q ∷ []
            head p q r s e' = cc
        by (x ∷ y ∷ ys) w-is some h = let z : length (encode_utf8 c) ≡ length (x ∷ y ∷ ys) = ap length w-is in wide (omega arith)

    go : (cs : List ℕ) → AllByRecursion IsSourceCharacter cs → 39 ∷ b ∷ 39 ∷ [] ≡ encode_utf8_all cs → ⊥
    go [] all e = absurd cc
    go (c ∷ cs) all e =
        let a = encode_ascii 39 (omega arith) in
        let one = encode_same 39 c (b ∷ 39 ∷ []) (encode_utf8_all cs) (ap (λ (x : List ℕ). x ++ b ∷ 39 ∷ []) a ∙ e) in
        two cs all.1 one.1

pub unflawed_lone : (body : List ℕ) → StartsWithNoChar body → length body ≡ 1 → get_or body 0 0 ≢ 92 → IsUnflawedRune body
unflawed_lone [] none one first = absurd (omega arith)
unflawed_lone (b ∷ c ∷ cs) none one first = absurd (omega arith)
unflawed_lone (b ∷ []) none one first = record { meant = λ are. absurd (lone_byte b none are); none = λ at kind f. no_flaw at kind f }
  where
    many : IsNoneOrMany (b ∷ []) → ⊥
    many (inl e) = absurd cc
    many (inr (inl m)) =
        let long = escape_long 39 m.0 m.2 in
        let l = length-append m.0 m.1 in
        let k : length (b ∷ []) ≡ length (m.0 ++ m.1) = ap length m.4 in
        absurd (omega arith)
    many (inr (inr m)) = m.3 (tail b m.0 m.1 m.4)
      where
        tail : (p q : ℕ) (r : List ℕ) → p ∷ [] ≡ q ∷ r → r ≡ []
        tail p q r e = cc

    no_flaw : (at : ℕ) (kind : LexKind) → IsRuneFlaw (b ∷ []) at kind → ⊥
    no_flaw at kind (inl f) = many f.2
    no_flaw at kind (inr f) = first (ap (λ (x : List ℕ). get_or x 0 0) f.2.slash.1)

-- more than one character
pub many_characters : (body : List ℕ) → 2 ≤ length body → get_or body 0 0 ≢ 92 → ((c : ℕ) → IsScalar c → body ≢ encode_utf8 c) → IsRuneFlaw body 0 fault.BadRune
many_characters [] le first none = absurd (omega arith)
many_characters (b ∷ []) le first none = absurd (omega arith)
many_characters (b ∷ c ∷ cs) le first none = inl (refl, refl, inr (inr (b, c ∷ cs, first, (λ e. absurd cc), refl, none)))

pub many_behind : (body : List ℕ) (c len : ℕ) → IsCharacterAt body c len → len ≢ length body → get_or body 0 0 ≢ 92 → IsRuneFlaw body 0 fault.BadRune
many_behind body c len at ne first =
    let some = (encode_len c).0 in
    let long = at.long in
    let within = at.within in
    many_characters body (omega arith) first
    (λ d is e.
    let same = same_character body c d len at ([], is, e ∙ sym (append-nil (encode_utf8 d))) in
    let k : length body ≡ length (encode_utf8 d) = ap length e in
    let l : length (encode_utf8 c) ≡ length (encode_utf8 d) = ap (λ (x : ℕ). length (encode_utf8 x)) same in
    ne (omega arith))

pub many_no_character : (body : List ℕ) → StartsWithNoChar body → 0 < length body → length body ≢ 1 → get_or body 0 0 ≢ 92 → IsRuneFlaw body 0 fault.BadRune
many_no_character body none some ne first = many_characters body (omega arith) first (λ c is e. none c [] is (e ∙ sym (append-nil (encode_utf8 c))))

-- a good escape, alone or with more behind it
pub escape_and_more : (body : List ℕ) (len : ℕ) → escape_front 39 body ≡ Some len → len < length body → IsRuneFlaw body 0 fault.BadRune
escape_and_more body len e lt =
    let f = escape_sound 39 body len e in
    inl (refl, refl, inr (inl (take len body, drop len body, f.is, (λ none. let d = length-drop len body in let k : length (drop len body) ≡ 0 = ap length none in absurd (omega arith)), sym (take-append-drop len body))))

pub escape_alone : (body : List ℕ) (len : ℕ) → escape_front 39 body ≡ Some len → length body ≤ len → IsUnflawedRune body
escape_alone body len e le =
    let f = escape_sound 39 body len e in
    let within = f.within in
    let same : len ≡ length body = omega arith in
    let whole : take len body ≡ body = ap (λ (n : ℕ). take n body) same ∙ take_all body in
    unflawed_good body (inr (subst (λ (x : List ℕ). is_escape 39 x ≡ true) whole f.is))
  where
    take_all : (xs : List ℕ) → take (length xs) xs ≡ xs
    take_all [] = refl
    take_all (x ∷ xs) = ap (λ (y : List ℕ). x ∷ y) (take_all xs)

-- ---- pieces

rune_unflawed : (piece : List ℕ) → IsBetween 39 piece → IsUnflawedRune (inner piece) → IsUnflawed form.Rune piece
rune_unflawed piece is u = record { meant = λ are. u.meant (subst AreCharacters is.1 are); none = λ at kind f. u.none at kind f }

pub rune_by : (piece body : List ℕ) (o : Option (ℕ × LexKind)) → IsBetween 39 piece → body ≡ inner piece → MatchOption o (IsUnflawedRune body) (λ p. IsRuneFlaw body p.0 p.1) → MatchOption o (IsUnflawed form.Rune piece) (λ p. IsFlaw form.Rune piece p.0 p.1)
rune_by piece body None is e u = rune_unflawed piece is (subst IsUnflawedRune e u)
rune_by piece body (Some p) is e f = subst (λ (b : List ℕ). IsRuneFlaw b p.0 p.1) e f

pub quoted_unflawed : (piece body : List ℕ) → body ≡ inner piece → IsQuotedBody body → IsUnflawed form.Quoted piece
quoted_unflawed piece body e good = let good' : IsQuotedBody (inner piece) = subst IsQuotedBody e good in record { meant = λ _. good'; none = λ at kind f. quoted_not_bad (inner piece) at good' f.1 }

-- the bad character where no flaw stands before it
pub bad_first : (f : PieceForm) (piece : List ℕ) (bad flaw : ℕ × LexKind) → IsFirstBad piece bad.0 bad.1 → IsFlaw f piece flaw.0 flaw.1 → bad.0 ≤ flaw.0 → IsFaultIn f piece bad.0 bad.1
bad_first f piece bad flaw b l le = inl (b, λ other kind m. let same = (same_flaw f piece flaw.0 other flaw.1 kind l m).0 in omega arith)

pub flaw_first : (f : PieceForm) (piece : List ℕ) (bad flaw : ℕ × LexKind) → IsFirstBad piece bad.0 bad.1 → IsFlaw f piece flaw.0 flaw.1 → flaw.0 < bad.0 → IsFaultIn f piece flaw.0 flaw.1
flaw_first f piece bad flaw b l lt = inr (l, inr (bad.0, bad.1, b, lt))

pub rune_form : (f : PieceForm) (piece body : List ℕ) (o : Option (ℕ × LexKind)) → f ≡ form.Rune → HasForm f piece → body ≡ inner piece → MatchOption o (IsUnflawedRune body) (λ p. IsRuneFlaw body p.0 p.1) → MatchOption o (IsUnflawed f piece) (λ p. IsFlaw f piece p.0 p.1)
rune_form f piece body o is has e u =
    let P : PieceForm → Type 0 = λ g. HasForm g piece → MatchOption o (IsUnflawed g piece) (λ p. IsFlaw g piece p.0 p.1) in
    subst P (sym is) (λ h. rune_by piece body o h e u) has

pub quoted_form : (f : PieceForm) (piece body : List ℕ) → f ≡ form.Quoted → body ≡ inner piece → IsQuotedBody body → IsUnflawed f piece
quoted_form f piece body is e good = subst (λ g. IsUnflawed g piece) (sym is) (quoted_unflawed piece body e good)
