-- Places among tokens are places among pieces.
use Rattle.std.proofs.Common.{◌≡◌, ◌≢◌, ◌⊎◌, inl, inr, ℕ, ◌+◌, ◌≤◌, Bool, true, false, ◌||◌, cond, List, [], ◌∷◌, ◌++◌, length, Option, Some, None, refl, sym, ap, subst, ◌∙◌, arith, append_assoc, nat_eq}
use Rattle.std.specs.Prelude.{slice_get}
use Rattle.std.specs.List.{list_any}
use Rattle.std.proofs.lemmas.Bool.{eqb-true}
use Rattle.std.proofs.lemmas.List.{length-append}
use Rattle.go_ast.specs.declared.token.PieceForm.{PieceForm}
use Rattle.go_ast.specs.declared.token.PieceForm.TheVariants as form
use Rattle.go_ast.specs.declared.token.TokenKind.{TokenKind}
use Rattle.go_ast.specs.declared.token.TokenKind.TheVariants as kind
use Rattle.go_ast.specs.declared.token.Token.{Token}
use Rattle.go_ast.specs.Places.{is_newline}
use Rattle.go_ast.specs.Words.{keywords, operators, place_in}
use Rattle.go_ast.specs.Pieces.{Piece, Divides, HasForm, IsLongest, IsMeant, IsLineComment}
use Rattle.go_ast.specs.Tokens.{kind_of, word_kind, ends_line, token, inserted, token_of, tokens_by, needed_behind, needed_after, tokens_from}
use Rattle.cov_tokens.proofs.Basics.{either}
use Rattle.cov_tokens.proofs.Firsts.{starts, first_byte, form_some, some_is}
use Rattle.cov_tokens.proofs.Stands.{IsFirm, firm, gap_parts, is_gap, block_parts, is_closed_sign}
use Rattle.cov_tokens.proofs.Chains.{closed_firm}

-- at a boundary of the pieces there this is so
abbrev pub Sited : (Option ℕ → Option Piece → ℕ → Type 0) → Option ℕ → Option Piece → ℕ → List Piece → ℕ → Type 0
Sited P o last at [] x = (x ≡ at) × P o last at
Sited P o last at (p ∷ ps) x = ((x ≡ at) × P o last at) ⊎ Sited P (needed_after p.form p.bytes (at + length p.bytes) o) (Some p) (at + length p.bytes) ps x

pub sited_here : (P : Option ℕ → Option Piece → ℕ → Type 0) (o : Option ℕ) (last : Option Piece) (at : ℕ) (ps : List Piece) (x : ℕ) → x ≡ at → P o last at → Sited P o last at ps x
sited_here P o last at [] x e h = (e, h)
sited_here P o last at (p ∷ ps) x e h = inl (e, h)

pub sited_from : (P : Option ℕ → Option Piece → ℕ → Type 0) (o : Option ℕ) (last : Option Piece) (at : ℕ) (ps : List Piece) (x : ℕ) → Sited P o last at ps x → at ≤ x
sited_from P o last at [] x s = let e = s.0 in omega arith
sited_from P o last at (p ∷ ps) x (inl s) = let e = s.0 in omega arith
sited_from P o last at (p ∷ ps) x (inr s) = let l = sited_from P (needed_after p.form p.bytes (at + length p.bytes) o) (Some p) (at + length p.bytes) ps x s in omega arith

pub sited_weaker : (P Q : Option ℕ → Option Piece → ℕ → Type 0) → ((o : Option ℕ) (last : Option Piece) (at : ℕ) → P o last at → Q o last at) → (o : Option ℕ) (last : Option Piece) (at : ℕ) (ps : List Piece) (x : ℕ) → Sited P o last at ps x → Sited Q o last at ps x
sited_weaker P Q w o last at [] x s = (s.0, w o last at s.1)
sited_weaker P Q w o last at (p ∷ ps) x (inl s) = inl (s.0, w o last at s.1)
sited_weaker P Q w o last at (p ∷ ps) x (inr s) = inr (sited_weaker P Q w (needed_after p.form p.bytes (at + length p.bytes) o) (Some p) (at + length p.bytes) ps x s)

-- ---- tokens of one piece

pub tokens_are : (a b : Token) (x y : List Token) → a ∷ x ≡ b ∷ y → (a ≡ b) × (x ≡ y)
tokens_are a b x y e = (cc, cc)

pub no_end : (ts us : List Token) (t : Token) → [] ≡ ts ++ t ∷ us → ⊥
no_end [] us t e = absurd cc
no_end (x ∷ ts) us t e = absurd cc

pub peel : (C : Type 0) (front rest ts us : List Token) (t : Token) → length front ≤ 1 → front ++ rest ≡ ts ++ t ∷ us
    → (front ≡ t ∷ [] → rest ≡ us → C) → ((more : List Token) → rest ≡ more ++ t ∷ us → C) → C
peel C [] rest ts us t l e here later = later ts e
peel C (f ∷ []) rest [] us t l e here later = let i = tokens_are f t rest us e in here (ap (λ (x : Token). x ∷ []) i.0) i.1
peel C (f ∷ []) rest (x ∷ ts) us t l e here later = later ts (tokens_are f x rest (ts ++ t ∷ us) e).1
peel C (f ∷ (g ∷ fs)) rest ts us t l e here later = absurd (omega arith)

one_inserted : (o : Option ℕ) → length (inserted o) ≤ 1
one_inserted None = omega arith
one_inserted (Some a) = omega arith

one_of : (k : Option TokenKind) (at end : ℕ) → length (token_of k at end) ≤ 1
one_of None at end = omega arith
one_of (Some k) at end = omega arith

pub one_by : (f : PieceForm) (bytes : List ℕ) (at end : ℕ) (o : Option ℕ) → length (tokens_by f bytes at end o) ≤ 1
one_by form.Line bytes at end o = one_inserted o
one_by form.Blank bytes at end o = one_of (kind_of form.Blank bytes) at end
one_by form.Opening bytes at end o = one_of (kind_of form.Opening bytes) at end
one_by form.Word bytes at end o = one_of (kind_of form.Word bytes) at end
one_by form.Number bytes at end o = one_of (kind_of form.Number bytes) at end
one_by form.Rune bytes at end o = one_of (kind_of form.Rune bytes) at end
one_by form.Quoted bytes at end o = one_of (kind_of form.Quoted bytes) at end
one_by form.Raw bytes at end o = one_of (kind_of form.Raw bytes) at end
one_by (form.Operator place) bytes at end o = one_of (kind_of (form.Operator place) bytes) at end

-- a piece that is a token
pub record IsOwn (f : PieceForm) (bytes : List ℕ) (start end : ℕ) (o : Option ℕ) (t : Token) : Type 0 where
  pub kind_is : kind_of f bytes ≡ Some t.kind
  pub start_is : t.span.start ≡ start
  pub end_is : t.span.end ≡ end
  pub needed : needed_after f bytes end o ≡ (cond (ends_line t.kind) (Some end) None)

some_kind : TokenKind → Option TokenKind
some_kind k = Some k

own_of : (f : PieceForm) (bytes : List ℕ) (start end : ℕ) (o : Option ℕ) (t : Token) → ((x : ℕ) → needed_after f bytes x o ≡ needed_behind (kind_of f bytes) x o) → (k : Option TokenKind) → kind_of f bytes ≡ k → token_of k start end ≡ t ∷ [] → IsOwn f bytes start end o t
own_of f bytes start end o t same None e h = absurd cc
own_of f bytes start end o t same (Some k) e h =
    let one = tokens_are (token k start end) t [] [] h in
    let k-is : k ≡ t.kind = ap (λ (x : Token). x.kind) one.0 in
    record {
      kind_is = e ∙ ap (λ (x : TokenKind). Some x) k-is;
      start_is = sym (ap (λ (x : Token). x.span.start) one.0);
      end_is = sym (ap (λ (x : Token). x.span.end) one.0);
      needed = same end ∙ ap (λ (x : Option TokenKind). needed_behind x end o) e ∙ ap (λ (x : TokenKind). cond (ends_line x) (Some end) None) k-is;
    }

pub inserted_kind : (o : Option ℕ) (t : Token) (us : List Token) → inserted o ≡ t ∷ us → t.kind ≡ kind.Operator 45
inserted_kind None t us e = absurd cc
inserted_kind (Some x) t us e = sym (ap (λ (y : Token). y.kind) (tokens_are (token (kind.Operator 45) x x) t [] us e).0)

pub own : (f : PieceForm) (bytes : List ℕ) (start end : ℕ) (o : Option ℕ) (t : Token) → t.kind ≢ kind.Operator 45 → tokens_by f bytes start end o ≡ t ∷ [] → IsOwn f bytes start end o t
own form.Line bytes start end o t ne e = absurd (ne (inserted_kind o t [] e))
own form.Blank bytes start end o t ne e = own_of form.Blank bytes start end o t (λ x. refl) (kind_of form.Blank bytes) refl e
own form.Opening bytes start end o t ne e = own_of form.Opening bytes start end o t (λ x. refl) (kind_of form.Opening bytes) refl e
own form.Word bytes start end o t ne e = own_of form.Word bytes start end o t (λ x. refl) (kind_of form.Word bytes) refl e
own form.Number bytes start end o t ne e = own_of form.Number bytes start end o t (λ x. refl) (kind_of form.Number bytes) refl e
own form.Rune bytes start end o t ne e = own_of form.Rune bytes start end o t (λ x. refl) (kind_of form.Rune bytes) refl e
own form.Quoted bytes start end o t ne e = own_of form.Quoted bytes start end o t (λ x. refl) (kind_of form.Quoted bytes) refl e
own form.Raw bytes start end o t ne e = own_of form.Raw bytes start end o t (λ x. refl) (kind_of form.Raw bytes) refl e
own (form.Operator place) bytes start end o t ne e = own_of (form.Operator place) bytes start end o t (λ x. refl) (kind_of (form.Operator place) bytes) refl e

-- ---- directly behind a token

pub record Behind (k : TokenKind) (o : Option ℕ) (last : Option Piece) (at : ℕ) : Type 0 where
  pub piece : Piece
  pub last_is : last ≡ Some piece
  pub has_form : HasForm piece.form piece.bytes
  pub kind_is : kind_of piece.form piece.bytes ≡ Some k
  pub needed : o ≡ cond (ends_line k) (Some at) None

pub behind : (k : TokenKind) → k ≢ kind.Operator 45 → (ps : List Piece) (at : ℕ) (o : Option ℕ) (last : Option Piece) (src : List ℕ) (ts : List Token) (t : Token) (us : List Token) → Divides src ps [] → tokens_from at o ps ≡ ts ++ t ∷ us → t.kind ≡ k
    → Sited (Behind k) o last at ps t.span.end
behind k ne [] at o last src [] t us d e is = absurd (ne (sym is ∙ inserted_kind o t us e))
behind k ne [] at None last src (x ∷ ts) t us d e is = absurd cc
behind k ne [] at (Some a) last src (x ∷ ts) t us d e is = absurd (no_end ts us t (tokens_are (token (kind.Operator 45) a a) x [] (ts ++ t ∷ us) e).1)
behind k ne (p ∷ ps) at o last src ts t us d e is =
    let end : ℕ = at + length p.bytes in
    let next : Option ℕ = needed_after p.form p.bytes end o in
    peel (Sited (Behind k) o last at (p ∷ ps) t.span.end) (tokens_by p.form p.bytes at end o) (tokens_from end next ps) ts us t (one_by p.form p.bytes at end o) e
    (λ f r.
    let i = own p.form p.bytes at end o t (λ h. ne (sym is ∙ h)) f in
    inr (sited_here (Behind k) next (Some p) end ps t.span.end i.end_is
    (record { piece = p; last_is = refl; has_form = d.2.has_form; kind_is = i.kind_is ∙ ap (λ (x : TokenKind). Some x) is; needed = i.needed ∙ ap (λ (x : TokenKind). cond (ends_line x) (Some end) None) is })))
    (λ more r. inr (behind k ne ps end next (Some p) d.0 more t us d.5 r is))

-- ---- directly before a token that follows a semicolon

pub record Later (o : Option ℕ) (last : Option Piece) (at : ℕ) : Type 0 where
  pub piece : Piece
  pub last_is : last ≡ Some piece
  pub is_firm : IsFirm piece.form piece.bytes
  pub needed : o ≡ None

-- nothing can grow out of the piece, but where it is a line comment the line's end follows
pub data Ends (p : Piece) (src : List ℕ) : Type 0 where
  firmly : IsFirm p.form p.bytes → Ends p src
  comment : IsLineComment p.bytes → IsLongest p.form p.bytes src → Ends p src

space_gap : (b : ℕ) → list_any (λ c. nat_eq b c) (32 ∷ 9 ∷ 13 ∷ []) ≡ true → is_gap b ≡ true
space_gap b e = go (nat_eq b 32) (nat_eq b 9) (nat_eq b 13) refl refl refl e
  where
    go : (x y z : Bool) → nat_eq b 32 ≡ x → nat_eq b 9 ≡ y → nat_eq b 13 ≡ z → (x || (y || (z || false))) ≡ true → is_gap b ≡ true
    go true y z x-is y-is z-is h = rw (eqb-true b 32 x-is) refl
    go false true z x-is y-is z-is h = rw (eqb-true b 9 y-is) refl
    go false false true x-is y-is z-is h = rw (eqb-true b 13 z-is) refl
    go false false false x-is y-is z-is h = absurd cc

blank_ends : (w src : List ℕ) → HasForm form.Blank w → IsLongest form.Blank w src → Ends (record { form = form.Blank; bytes = w }) src
blank_ends w src (inl p) l =
    firmly (firm form.Blank w (inl p) (λ b. subst (λ (x : List ℕ). (other : PieceForm) (u : List ℕ) → HasForm other (x ++ b ∷ u) → ⊥) (sym p.2) (gap_parts p.0 b (space_gap p.0 p.1))))
blank_ends w src (inr (inl p)) l = comment p l
blank_ends w src (inr (inr p)) l = firmly (firm form.Blank w (inr (inr p)) (λ b. block_parts w b p.0))

line_ends : (w src : List ℕ) → HasForm form.Line w → Ends (record { form = form.Line; bytes = w }) src
line_ends w src (inl e) = firmly (firm form.Line w (inl e) (λ b. subst (λ (x : List ℕ). (other : PieceForm) (u : List ℕ) → HasForm other (x ++ b ∷ u) → ⊥) (sym e) (gap_parts 10 b refl)))
line_ends w src (inr p) = firmly (firm form.Line w (inr p) (λ b. block_parts w b p.0))

any_join : (p : ℕ → Bool) (xs : List ℕ) (b : ℕ) → list_any p xs ≡ false → p b ≡ false → list_any p (xs ++ b ∷ []) ≡ false
any_join p [] b e f = rw f refl
any_join p (x ∷ xs) b e f = let two = either (p x) (list_any p xs) e in rw two.0 (any_join p xs b two.1 f)

-- a line comment goes up to a newline
comment_end : (f : PieceForm) (w : List ℕ) (b : ℕ) (more : List ℕ) → IsLineComment w → IsLongest f w (b ∷ more) → b ≡ 10
comment_end f w b more is l = go (nat_eq b 10) refl
  where
    go : (v : Bool) → nat_eq b 10 ≡ v → b ≡ 10
    go true v-is = eqb-true b 10 v-is
    go false v-is =
        let has : HasForm form.Blank (w ++ b ∷ []) = inr (inl (is.0 ++ b ∷ [], ap (λ (x : List ℕ). x ++ b ∷ []) is.1, any_join is_newline is.0 b is.2 v-is)) in
        let most = l.longest form.Blank (w ++ b ∷ []) more has (sym (append_assoc w (b ∷ []) more)) in
        let len = length-append w (b ∷ []) in
        absurd (omega arith)

no_token_line : (f : PieceForm) (k : TokenKind) (bytes w : List ℕ) → kind_of f bytes ≡ Some k → starts f 10 ≡ true → ⊥
no_token_line form.Line k bytes w e h = absurd cc
no_token_line form.Blank k bytes w e h = absurd cc
no_token_line form.Opening k bytes w e h = absurd cc
no_token_line form.Word k bytes w e h = absurd cc
no_token_line form.Number k bytes w e h = absurd cc
no_token_line form.Rune k bytes w e h = absurd cc
no_token_line form.Quoted k bytes w e h = absurd cc
no_token_line form.Raw k bytes w e h = absurd cc
no_token_line (form.Operator place) k bytes w e h = absurd cc

-- before a token
firm_before : (p : Piece) (f : PieceForm) (k : TokenKind) (bytes src more : List ℕ) → Ends p src → src ≡ bytes ++ more → HasForm f bytes → kind_of f bytes ≡ Some k → IsFirm p.form p.bytes
firm_before p f k bytes src more (firmly h) e is k-is = h
firm_before p f k [] src more (comment c l) e is k-is = let some = form_some f [] is in absurd (omega arith)
firm_before p f k (b ∷ bytes) src more (comment c l) e is k-is =
    let b-is = comment_end p.form p.bytes b (bytes ++ more) c (subst (IsLongest p.form p.bytes) e l) in
    absurd (no_token_line f k (b ∷ bytes) bytes k-is (subst (λ (x : ℕ). starts f x ≡ true) b-is (first_byte f b bytes is)))

-- does a piece give a token of its own
abbrev is_token : Option TokenKind → Bool
is_token None = false
is_token (Some k) = true

-- what a piece is between a semicolon and the next token: a gap, or that token
data Between (q : Piece) (at end : ℕ) (src : List ℕ) (t : Token) (rest : Option ℕ → List Token) : Type 0 where
  a_gap : Ends q src → needed_after q.form q.bytes end None ≡ None → (us : List Token) → rest None ≡ t ∷ us → Between q at end src t rest
  a_token : kind_of q.form q.bytes ≡ Some t.kind → t.span.start ≡ at → Between q at end src t rest

token_between : (q : Piece) (at end : ℕ) (src : List ℕ) (t : Token) (us : List Token) (rest : Option ℕ → List Token) (k : TokenKind) (more : List Token) → kind_of q.form q.bytes ≡ Some k → token k at end ∷ more ≡ t ∷ us → Between q at end src t rest
token_between q at end src t us rest k more k-is e =
    let one = tokens_are (token k at end) t more us e in
    a_token (k-is ∙ ap (λ (x : Token). Some (x.kind)) one.0) (sym (ap (λ (x : Token). x.span.start) one.0))

between : (f : PieceForm) (w : List ℕ) (at end : ℕ) (src : List ℕ) (t : Token) (us : List Token) (rest : Option ℕ → List Token) → IsLongest f w src → IsMeant f w
    → tokens_by f w at end None ++ rest (needed_after f w end None) ≡ t ∷ us → Between (record { form = f; bytes = w }) at end src t rest
between form.Blank w at end src t us rest l meant e = a_gap (blank_ends w src l.has_form l) refl us e
between form.Line w at end src t us rest l meant e = a_gap (line_ends w src l.has_form) refl us e
between form.Opening w at end src t us rest l meant e = absurd meant
between form.Word w at end src t us rest l meant e = token_between (record { form = form.Word; bytes = w }) at end src t us rest (word_kind (place_in keywords w)) (rest (needed_after form.Word w end None)) refl e
between form.Number w at end src t us rest l meant e = token_between (record { form = form.Number; bytes = w }) at end src t us rest kind.Int (rest (needed_after form.Number w end None)) refl e
between form.Rune w at end src t us rest l meant e = token_between (record { form = form.Rune; bytes = w }) at end src t us rest kind.Rune (rest (needed_after form.Rune w end None)) refl e
between form.Quoted w at end src t us rest l meant e = token_between (record { form = form.Quoted; bytes = w }) at end src t us rest kind.Text (rest (needed_after form.Quoted w end None)) refl e
between form.Raw w at end src t us rest l meant e = token_between (record { form = form.Raw; bytes = w }) at end src t us rest kind.Text (rest (needed_after form.Raw w end None)) refl e
between (form.Operator place) w at end src t us rest l meant e =
    token_between (record { form = form.Operator place; bytes = w }) at end src t us rest (kind.Operator place) (rest (needed_after (form.Operator place) w end None)) refl e

next_token : (ps : List Piece) (at : ℕ) (p : Piece) (src : List ℕ) (t : Token) (us : List Token) → Divides src ps [] → Ends p src → tokens_from at None ps ≡ t ∷ us → Sited Later None (Some p) at ps t.span.start
next_token [] at p src t us d a e = absurd cc
next_token (q ∷ ps) at p src t us d a e =
    go (between q.form q.bytes at (at + length q.bytes) d.0 t us (λ o. tokens_from (at + length q.bytes) o ps) d.2 d.4 e) (λ a' vs e'. next_token ps (at + length q.bytes) q d.0 t vs d.5 a' e')
  where
    go : Between q at (at + length q.bytes) d.0 t (λ o. tokens_from (at + length q.bytes) o ps) → (Ends q d.0 → (vs : List Token) → tokens_from (at + length q.bytes) None ps ≡ t ∷ vs → Sited Later None (Some q) (at + length q.bytes) ps t.span.start)
        → Sited Later None (Some p) at (q ∷ ps) t.span.start
    go (a_gap a' n vs e') more = inr (subst (λ (x : Option ℕ). Sited Later x (Some q) (at + length q.bytes) ps t.span.start) (sym n) (more a' vs e'))
    go (a_token k-is s-is) more = inl (s-is, record { piece = p; last_is = refl; is_firm = firm_before p q.form t.kind q.bytes src d.0 a d.1 d.2.has_form k-is; needed = refl })

-- the semicolon itself
semicolon_firm : (w : List ℕ) (place : ℕ) → place ≡ 45 → slice_get operators place ≡ Some w → IsFirm (form.Operator place) w
semicolon_firm w place p-is e =
    let w-is : 59 ∷ [] ≡ w = some_is (59 ∷ []) w (sym (ap (slice_get operators) p-is) ∙ e) in
    closed_firm place w e (subst (λ (x : List ℕ). is_closed_sign x ≡ true) w-is refl)

operator_is : (a b : ℕ) → kind.Operator a ≡ kind.Operator b → a ≡ b
operator_is a b e = cc

word_no_operator : (o : Option ℕ) (place : ℕ) → word_kind o ≡ kind.Operator place → ⊥
word_no_operator None place e = absurd cc
word_no_operator (Some k) place e = absurd cc

-- a piece whose token is a semicolon, or a line's end that gives one
after_semicolon : (f : PieceForm) (w : List ℕ) (at end : ℕ) (o : Option ℕ) (src : List ℕ) (s : Token) → s.kind ≡ kind.Operator 45 → HasForm f w → tokens_by f w at end o ≡ s ∷ [] → Ends (record { form = f; bytes = w }) src × (needed_after f w end o ≡ None)
after_semicolon form.Blank w at end o src s k is e = absurd cc
after_semicolon form.Line w at end o src s k is e = (line_ends w src is, refl)
after_semicolon form.Opening w at end o src s k is e = absurd cc
after_semicolon form.Word w at end o src s k is e =
    let one = ap (λ (x : Token). x.kind) (tokens_are (token (word_kind (place_in keywords w)) at end) s [] [] e).0 in
    absurd (word_no_operator (place_in keywords w) 45 (one ∙ k))
after_semicolon form.Number w at end o src s k is e = let one : kind.Int ≡ kind.Operator 45 = ap (λ (x : Token). x.kind) (tokens_are (token kind.Int at end) s [] [] e).0 ∙ k in absurd cc
after_semicolon form.Rune w at end o src s k is e = let one : kind.Rune ≡ kind.Operator 45 = ap (λ (x : Token). x.kind) (tokens_are (token kind.Rune at end) s [] [] e).0 ∙ k in absurd cc
after_semicolon form.Quoted w at end o src s k is e = let one : kind.Text ≡ kind.Operator 45 = ap (λ (x : Token). x.kind) (tokens_are (token kind.Text at end) s [] [] e).0 ∙ k in absurd cc
after_semicolon form.Raw w at end o src s k is e = let one : kind.Text ≡ kind.Operator 45 = ap (λ (x : Token). x.kind) (tokens_are (token kind.Text at end) s [] [] e).0 ∙ k in absurd cc
after_semicolon (form.Operator place) w at end o src s k is e =
    let one : kind.Operator place ≡ kind.Operator 45 = ap (λ (x : Token). x.kind) (tokens_are (token (kind.Operator place) at end) s [] [] e).0 ∙ k in
    (firmly (semicolon_firm w place (operator_is place 45 one) is), ap (λ (x : TokenKind). cond (ends_line x) (Some end) None) one)

pub later : (ps : List Piece) (at : ℕ) (o : Option ℕ) (last : Option Piece) (src : List ℕ) (ts : List Token) (s t : Token) (us : List Token) → Divides src ps [] → tokens_from at o ps ≡ ts ++ s ∷ t ∷ us → s.kind ≡ kind.Operator 45
    → Sited Later o last at ps t.span.start
later [] at None last src ts s t us d e is = absurd (no_end ts (t ∷ us) s e)
later [] at (Some a) last src [] s t us d e is = let two = (tokens_are (token (kind.Operator 45) a a) s [] (t ∷ us) e).1 in absurd cc
later [] at (Some a) last src (x ∷ ts) s t us d e is = absurd (no_end ts (t ∷ us) s (tokens_are (token (kind.Operator 45) a a) x [] (ts ++ s ∷ t ∷ us) e).1)
later (p ∷ ps) at o last src ts s t us d e is =
    let end : ℕ = at + length p.bytes in
    let next : Option ℕ = needed_after p.form p.bytes end o in
    peel (Sited Later o last at (p ∷ ps) t.span.start) (tokens_by p.form p.bytes at end o) (tokens_from end next ps) ts (t ∷ us) s (one_by p.form p.bytes at end o) e
    (λ f r.
    let i = after_semicolon p.form p.bytes at end o d.0 s is d.2.has_form f in
    inr (subst (λ (x : Option ℕ). Sited Later x (Some p) end ps t.span.start) (sym i.1)
    (next_token ps end p d.0 t us d.5 i.0 (subst (λ (x : Option ℕ). tokens_from end x ps ≡ t ∷ us) i.1 r))))
    (λ more r. inr (later ps end next (Some p) d.0 more s t us d.5 r is))
