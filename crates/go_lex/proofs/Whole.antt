-- The whole text: its fault is the first, and its token list is one.
use Rattle.std.proofs.Common.{◌≡◌, ◌≢◌, ℕ, ◌+◌, Bool, true, ◌⊎◌, inl, inr, cond, List, [], ◌∷◌, ◌++◌, length, take, drop, Option, Some, None, refl, sym, ap, subst, ◌∙◌, arith, append_assoc, nat_eq}
use Rattle.std.specs.List.{AllByRecursion}
use Rattle.std.specs.Str.{encode_utf8_all}
use Rattle.std.specs.Char.{IsScalar}
use Rattle.std.proofs.lemmas.List.{append-nil, length-append, take-append-drop, length-take}
use Rattle.std.proofs.lemmas.Str.{encodes-append}
use Rattle.go_ast.specs.declared.token.PieceForm.{PieceForm}
use Rattle.go_ast.specs.declared.token.Token.{Token}
use Rattle.go_ast.specs.declared.span.Span.{Span}
use Rattle.std.proofs.lemmas.Bool.{eqb-true}
use Rattle.go_ast.specs.declared.kind.LexKind.{LexKind}
use Rattle.go_ast.specs.declared.kind.LexKind.TheVariants as fault
use Rattle.go_ast.specs.Characters.{AreCharacters, IsSourceCharacter}
use Rattle.go_ast.specs.Pieces.{Piece, Divides, HasForm, IsLongest, IsMeant}
use Rattle.go_ast.specs.Tokens.{HasTokens, tokens_from, tokens_by, needed_after, inserted}
use Rattle.go_ast.specs.Faults.{HasBadCharacter, IsBreak, HasFault, IsFault, row}
use Rattle.go_lex.specs.Fronts.{FollowsCharacters}
use Rattle.go_lex.specs.Pieces.{IsPieceAt}
use Rattle.go_lex.specs.Verdicts.{IsBefore, IsFirstBreak, IsFaultIn, IsStopOrBad, IsGoodPiece, IsReadTo}
use Rattle.go_lex.proofs.Cut.{same_piece, piece_some, longest_at, none_stuck}
use Rattle.go_lex.proofs.Sound.{sound}
use Rattle.go_lex.proofs.Flaws.{meant_no_break}
use Rattle.go_lex.proofs.Breaks.{behind, no_bad, scalars_of}
use Rattle.go_lex.proofs.First.{divides_characters, first_in_piece, first_at_stop}

-- no good piece stands there
abbrev pub Ends : List ℕ → Type 0
Ends rest = (f : PieceForm) (bytes more : List ℕ) → rest ≡ bytes ++ more → IsLongest f bytes more → AreCharacters bytes → IsMeant f bytes → ⊥

-- divisions that end, end alike
pub same_end : (text rest after : List ℕ) (ps qs : List Piece) → Divides text ps rest → Divides text qs after → Ends rest → Ends after → rest ≡ after
same_end text rest after [] [] a b ends others = sym a ∙ b
same_end text rest after [] (q ∷ qs) a b ends others = absurd (ends q.form q.bytes b.0 (sym a ∙ b.1) b.2 b.3 b.4)
same_end text rest after (p ∷ ps) [] a b ends others = absurd (others p.form p.bytes a.0 (sym b ∙ a.1) a.2 a.3 a.4)
same_end text rest after (p ∷ ps) (q ∷ qs) a b ends others =
    let same = same_piece q.form p.form q.bytes p.bytes b.0 a.0 b.2 a.2 (sym b.1 ∙ a.1) in
    same_end a.0 rest after ps qs a.5 (subst (λ (x : List ℕ). Divides x qs after) same.rest_same b.5) ends others

empty_ends : Ends []
empty_ends f bytes more e l are meant =
    let some = piece_some f bytes l.has_form in
    let n = length-append bytes more in
    let k : 0 ≡ length (bytes ++ more) = ap length e in
    absurd (omega arith)

break_ends : (rest : List ℕ) (at : ℕ) (kind : LexKind) → IsBreak rest at kind → Ends rest
break_ends rest at kind b f bytes more e l are meant = meant_no_break f bytes more rest at kind e l meant b

-- a break isn't at the end of the text
break_some : (at : ℕ) (kind : LexKind) → IsBreak [] at kind → ⊥
break_some at kind (inl b) = b.0.some refl
break_some at kind (inr b) =
    let some = piece_some b.0 b.1 b.4.has_form in
    let n = length-append b.1 b.2 in
    let k : 0 ≡ length (b.1 ++ b.2) = ap length b.3 in
    absurd (omega arith)

-- a text with tokens has no fault
pub tokens_no_fault : (text : List ℕ) (tokens : List Token) (at : ℕ) (kind : LexKind) → HasTokens text tokens → HasFault text at kind → ⊥
tokens_no_fault text tokens at kind has (inl bad) =
    let follows = divides_characters text [] has.0 has.1 in
    no_bad text at kind (follows.0, follows.1, follows.2 ∙ append-nil (encode_utf8_all follows.0)) bad
tokens_no_fault text tokens at kind has (inr b) =
    let same : [] ≡ b.1 = same_end text [] b.1 has.0 b.0 has.1 b.3 empty_ends (break_ends b.1 b.2 kind b.4) in
    break_some b.2 kind (subst (λ (x : List ℕ). IsBreak x b.2 kind) (sym same) b.4)

-- one division comes to the end
same_pieces : (text : List ℕ) (ps qs : List Piece) → Divides text ps [] → Divides text qs [] → ps ≡ qs
same_pieces text [] [] a b = refl
same_pieces text [] (q ∷ qs) a b = absurd (empty_ends q.form q.bytes b.0 (sym a ∙ b.1) b.2 b.3 b.4)
same_pieces text (p ∷ ps) [] a b = absurd (empty_ends p.form p.bytes a.0 (sym b ∙ a.1) a.2 a.3 a.4)
same_pieces text (p ∷ ps) (q ∷ qs) a b =
    let same = same_piece q.form p.form q.bytes p.bytes b.0 a.0 b.2 a.2 (sym b.1 ∙ a.1) in
    let more = same_pieces a.0 ps qs a.5 (subst (λ (x : List ℕ). Divides x qs []) same.rest_same b.5) in
    same_cons p q ps qs (sym same.form) (sym same.bytes_same) more
  where
    same_cons : (p q : Piece) (ps qs : List Piece) → p.form ≡ q.form → p.bytes ≡ q.bytes → ps ≡ qs → p ∷ ps ≡ q ∷ qs
    same_cons p q ps qs f b m = ap (λ (x : PieceForm). record { form = x; bytes = p.bytes } ∷ ps) f ∙ ap (λ (x : List ℕ). record { form = q.form; bytes = x } ∷ ps) b ∙ ap (λ (x : List Piece). q ∷ x) m

-- a text has at most one token list
pub one_token_list : (text : List ℕ) (tokens others : List Token) → HasTokens text tokens → HasTokens text others → tokens ≡ others
one_token_list text tokens others a b = a.2 ∙ ap (tokens_from 0 None) (same_pieces text a.0 b.0 a.1 b.1) ∙ sym b.2

-- ---- the fault of the text

shift : (start at other : ℕ) (kind other_kind : LexKind) → IsBefore at kind other other_kind → IsBefore (start + at) kind (start + other) other_kind
shift start at other kind other_kind (inl h) = inl (omega arith)
shift start at other kind other_kind (inr h) = let same = h.0 in inr (omega arith, h.1)

all_both : (P : ℕ → Type 0) (xs ys : List ℕ) → AllByRecursion P xs → AllByRecursion P ys → AllByRecursion P (xs ++ ys)
all_both P [] ys a b = b
all_both P (x ∷ xs) ys a b = (a.0, all_both P xs ys a.1 b)

-- a bad character behind good ones, seen from the start
bad_from : (text rest cs : List ℕ) (start at : ℕ) (kind : LexKind) → AllByRecursion IsSourceCharacter cs → text ≡ encode_utf8_all cs ++ rest → start ≡ length (encode_utf8_all cs) → HasBadCharacter rest at kind → HasBadCharacter text (start + at) kind
bad_from text rest cs start at kind all e place bad =
    let l = length-append (encode_utf8_all cs) (encode_utf8_all bad.0) in
    let k : length (encode_utf8_all (cs ++ bad.0)) ≡ length (encode_utf8_all cs ++ encode_utf8_all bad.0) = ap length (encodes-append cs bad.0) in
    let near = bad.4 in (
      cs ++ bad.0,
      bad.1,
      all_both IsScalar cs bad.0 (scalars_of cs all) bad.2,
      e ∙ ap (λ (x : List ℕ). encode_utf8_all cs ++ x) bad.3 ∙ sym (append_assoc (encode_utf8_all cs) (encode_utf8_all bad.0) bad.1) ∙ ap (λ (x : List ℕ). x ++ bad.1) (sym (encodes-append cs bad.0)),
      omega arith,
      bad.5,
    )

pub fault_is : (text rest : List ℕ) (pieces : List Piece) (start near at : ℕ) (kind : LexKind) → Divides text pieces rest → start + length rest ≡ length text → at ≡ start + near → IsFirstBreak rest near kind → IsFault text at kind
fault_is text rest pieces start near at kind d place at-is first = subst (λ (n : ℕ). IsFault text n kind) (sym at-is) (record { has = has first.has; first = before })
  where
    follows : FollowsCharacters text rest
    follows = divides_characters text rest pieces d

    start-is : start ≡ length (encode_utf8_all follows.0)
    start-is = let l = length-append (encode_utf8_all follows.0) rest in let k : length text ≡ length (encode_utf8_all follows.0 ++ rest) = ap length follows.2 in omega arith

    has : HasBadCharacter rest near kind ⊎ IsBreak rest near kind → HasFault text (start + near) kind
    has (inl bad) = inl (bad_from text rest follows.0 start near kind follows.1 follows.2 start-is bad)
    has (inr b) = inr (pieces, rest, near, d, b, omega arith)

    before : (other : ℕ) (other_kind : LexKind) → HasFault text other other_kind → IsBefore (start + near) kind other other_kind
    before other other_kind (inl bad) =
        let b = behind follows.0 rest text other other_kind follows.1 follows.2 bad in
        let p : start + b.near ≡ other = (let q = b.place in let s = start-is in omega arith) in
        subst (λ (n : ℕ). IsBefore (start + near) kind n other_kind) p (shift start near b.near kind other_kind (first.before_bad b.near other_kind b.bad))
    before other other_kind (inr b) =
        let same : rest ≡ b.1 = same_end text rest b.1 pieces b.0 d b.3 first.stops (break_ends b.1 b.2 other_kind b.4) in
        let q = b.5 in
        let k : length rest ≡ length b.1 = ap length same in
        let p : start + b.2 ≡ other = omega arith in
        subst (λ (n : ℕ). IsBefore (start + near) kind n other_kind) p (shift start near b.2 kind other_kind (first.before_break b.2 other_kind (subst (λ (x : List ℕ). IsBreak x b.2 other_kind) (sym same) b.4)))

abbrev kind_at : ℕ → LexKind
kind_at n =
    cond (nat_eq n 0) fault.BadUtf8
    (cond (nat_eq n 1) fault.BadCharacter
    (cond (nat_eq n 2) fault.BadComment
    (cond (nat_eq n 3) fault.BadNumber (cond (nat_eq n 4) fault.BadRune (cond (nat_eq n 5) fault.BadText fault.BadEscape)))))

kind_back : (kind : LexKind) → kind_at (row kind) ≡ kind
kind_back fault.BadUtf8 = refl
kind_back fault.BadCharacter = refl
kind_back fault.BadComment = refl
kind_back fault.BadNumber = refl
kind_back fault.BadRune = refl
kind_back fault.BadText = refl
kind_back fault.BadEscape = refl

-- a text has at most one fault
pub one_fault : (text : List ℕ) (at other : ℕ) (kind other_kind : LexKind) → IsFault text at kind → IsFault text other other_kind → (at ≡ other) × (kind ≡ other_kind)
one_fault text at other kind other_kind a b = go (a.first other other_kind b.has) (b.first at kind a.has)
  where
    go : IsBefore at kind other other_kind → IsBefore other other_kind at kind → (at ≡ other) × (kind ≡ other_kind)
    go (inl h) (inl k) = absurd (omega arith)
    go (inl h) (inr k) = let s = k.0 in absurd (omega arith)
    go (inr h) (inl k) = let s = h.0 in absurd (omega arith)
    go (inr h) (inr k) = let l = h.1 in let m = k.1 in let rows : row kind ≡ row other_kind = omega arith in (h.0, sym (kind_back kind) ∙ ap kind_at rows ∙ kind_back other_kind)

-- ---- reading on

divides_more : (text rest more : List ℕ) (pieces : List Piece) (f : PieceForm) (bytes : List ℕ) → Divides text pieces rest → rest ≡ bytes ++ more → IsLongest f bytes more → AreCharacters bytes → IsMeant f bytes → Divides text (pieces ++ record { form = f; bytes = bytes } ∷ []) more
divides_more text rest more [] f bytes d e l are meant = (more, d ∙ e, l, are, meant, refl)
divides_more text rest more (p ∷ ps) f bytes d e l are meant = (d.0, d.1, d.2, d.3, d.4, divides_more d.0 rest more ps f bytes d.5 e l are meant)

pub read_more : (text rest piece more : List ℕ) (tokens others : List Token) (start end len : ℕ) (needed after : Option ℕ) (f : PieceForm)
    → IsReadTo text tokens rest start needed → IsGoodPiece rest f len → piece ≡ take len rest → more ≡ drop len rest → end ≡ start + len → others ≡ tokens ++ tokens_by f piece start end needed → after ≡ needed_after f piece end needed → IsReadTo text others more end after
read_more text rest piece more tokens others start end len needed after f read good p-is m-is end-is others-is after-is =
    let whole : rest ≡ piece ++ more = sym (take-append-drop len rest) ∙ ap (λ (x : List ℕ). x ++ drop len rest) (sym p-is) ∙ ap (λ (x : List ℕ). piece ++ x) (sym m-is) in
    let longest : IsLongest f piece more = subst (λ (x : List ℕ). IsLongest f x more) (sym p-is) (subst (λ (x : List ℕ). IsLongest f (take len rest) x) (sym m-is) good.longest) in
    let are : AreCharacters piece = subst AreCharacters (sym p-is) good.characters in
    let meant : IsMeant f piece = subst (IsMeant f) (sym p-is) good.meant in
    let one : Piece = record { form = f; bytes = piece } in
    let l = length-take len rest in
    let k : length piece ≡ length (take len rest) = ap length p-is in
    let within = good.within in
    let long : start + length piece ≡ end = omega arith in (
      read.0 ++ record { form = f; bytes = piece } ∷ [],
      divides_more text rest more read.0 f piece read.1 whole longest are meant,
      λ rest_pieces.
          ap (tokens_from 0 None) (append_assoc read.0 (record { form = f; bytes = piece } ∷ []) rest_pieces) ∙ read.2 (record { form = f; bytes = piece } ∷ rest_pieces)
          ∙ ap (λ (n : ℕ). tokens ++ (tokens_by f piece start n needed ++ tokens_from n (needed_after f piece n needed) rest_pieces)) long
          ∙ sym (append_assoc tokens (tokens_by f piece start end needed) (tokens_from end (needed_after f piece end needed) rest_pieces))
          ∙ ap (λ (x : List Token). x ++ tokens_from end (needed_after f piece end needed) rest_pieces) (sym others-is)
          ∙ ap (λ (x : Option ℕ). others ++ tokens_from end x rest_pieces) (sym after-is),
    )

pub read_all : (text rest : List ℕ) (tokens others : List Token) (start : ℕ) (needed : Option ℕ) → IsReadTo text tokens rest start needed → rest ≡ [] → others ≡ tokens ++ inserted needed → HasTokens text others
read_all text rest tokens others start needed read none others-is =
    (read.0, subst (Divides text read.0) none read.1, others-is ∙ sym (read.2 []) ∙ ap (tokens_from 0 None) (append-nil read.0))

pub read_none : (text : List ℕ) → IsReadTo text [] text 0 None
read_none text = ([], refl, λ more. refl)

-- what is found at the front is good, or the text doesn't go on there
pub good_piece : (text : List ℕ) (f : PieceForm) (len : ℕ) → IsPieceAt text (Some (f, len)) → AreCharacters (take len text) → IsMeant f (take len text) → IsGoodPiece text f len
good_piece text f len at are meant =
    let s = sound text at.word (f, len) at.word_is (sym at.is) in
    record { longest = longest_at text at.word (f, len) at.word_is (sym at.is); characters = are; meant = meant; some = s.some; within = s.within }

pub has_form_at : (text : List ℕ) (f : PieceForm) (len : ℕ) → IsPieceAt text (Some (f, len)) → HasForm f (take len text)
has_form_at text f len at = (sound text at.word (f, len) at.word_is (sym at.is)).has

pub broken_piece : (text : List ℕ) (f : PieceForm) (len near : ℕ) (kind : LexKind) → IsPieceAt text (Some (f, len)) → IsFaultIn f (take len text) near kind → IsFirstBreak text near kind
broken_piece text f len near kind at is =
    first_in_piece f (take len text) (drop len text) text near kind (sym (take-append-drop len text)) (longest_at text at.word (f, len) at.word_is (sym at.is)) is

pub broken_stop : (text : List ℕ) (kind : LexKind) → text ≢ [] → IsPieceAt text None → IsStopOrBad text kind → IsFirstBreak text 0 kind
broken_stop text kind some at is = first_at_stop text kind (none_stuck text at.word some at.word_is (sym at.is)) is

-- the same with a span
pub read_span : (text rest piece more : List ℕ) (tokens others : List Token) (start len : ℕ) (needed after : Option ℕ) (f : PieceForm) (span : Span)
    → IsReadTo text tokens rest start needed → IsGoodPiece rest f len → piece ≡ take len rest → more ≡ drop len rest → span ≡ record { start = start; end = start + len } → others ≡ tokens ++ tokens_by f piece span.start span.end needed
    → after ≡ needed_after f piece span.end needed → IsReadTo text others more (start + len) after
read_span text rest piece more tokens others start len needed after f span read good p-is m-is s-is others-is after-is =
    let s : span.start ≡ start = ap (λ (x : Span). x.start) s-is in
    let e : span.end ≡ start + len = ap (λ (x : Span). x.end) s-is in
    read_more text rest piece more tokens others start (start + len) len needed after f read good p-is m-is refl
    (others-is ∙ ap (λ (n : ℕ). tokens ++ tokens_by f piece n span.end needed) s ∙ ap (λ (n : ℕ). tokens ++ tokens_by f piece start n needed) e)
    (after-is ∙ ap (λ (n : ℕ). needed_after f piece n needed) e)

pub nothing_left : (rest : List ℕ) (b : Bool) → b ≡ nat_eq (length rest) 0 → b ≡ true → rest ≡ []
nothing_left [] b e t = refl
nothing_left (x ∷ xs) b e t = let z = eqb-true (length (x ∷ xs)) 0 (sym e ∙ t) in absurd (omega arith)
