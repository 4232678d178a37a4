-- Pieces in their places fit.
use Rattle.std.proofs.Common.{◌≡◌, ◌≢◌, ◌⊎◌, inl, inr, ℕ, ◌<◌, true, List, [], ◌∷◌, ◌++◌, Option, Some, None, refl, sym, ap, subst, ◌∙◌, arith, append_assoc}
use Rattle.std.specs.Prelude.{codes, decimal, slice_get}
use Rattle.go_ast.specs.declared.token.PieceForm.{PieceForm}
use Rattle.go_ast.specs.declared.token.PieceForm.TheVariants as form
use Rattle.go_ast.specs.declared.token.TokenKind.{TokenKind}
use Rattle.go_ast.specs.declared.token.TokenKind.TheVariants as kind
use Rattle.go_ast.specs.declared.token.Token.{Token}
use Rattle.go_ast.specs.Words.{operators, keywords, place_in}
use Rattle.go_ast.specs.Tokens.{word_kind, kind_of, tokens_from}
use Rattle.go_ast.specs.Pieces.{Piece, Divides, HasForm, IsLongest, IsWord}
use Rattle.go_grammar.specs.Terminals as t
use Rattle.cov_outside.specs.declared.mode.Mode.{Mode}
use Rattle.cov_outside.specs.declared.mode.Mode.TheVariants as mode
use Rattle.cov_rewrite.specs.declared.piece.Addition.{Addition}
use Rattle.cov_rewrite.specs.declared.piece.Addition.TheVariants as addition
use Rattle.cov_rewrite.specs.Additions.{counter_begin, counter_end, addition_text}
use Rattle.cov_tokens.specs.Places.{IsBehind, IsLater, IsPlace, IsIdentifier}
use Rattle.cov_tokens.proofs.Firsts.{some_is}
use Rattle.cov_tokens.proofs.Stands.{StandsBefore, IsFirm, Parts, parted, sign_before, word_parts, is_closed_sign}
use Rattle.cov_tokens.proofs.Walk.{Stands}
use Rattle.cov_tokens.proofs.Chains.{closed_firm}
use Rattle.cov_tokens.proofs.Reach.{Sited, sited_weaker, Behind, behind, Later, later}
use Rattle.cov_tokens.proofs.Puts.{sign_before_word, counter_parts}

-- ---- what a place is good for

-- a semicolon is needed there where what is put in leaves one needed
abbrev pub IsCalm : Addition → Option ℕ → ℕ → Type 0
IsCalm addition.Import o at = o ≡ Some at
IsCalm addition.RightBrace o at = o ≡ Some at
IsCalm addition.LeftBrace o at = o ≡ None
IsCalm (addition.Counter i) o at = o ≡ None

-- and the piece before stands before it, or a left brace comes first
abbrev pub Good : List ℕ → Mode → Option Addition → Addition → Option ℕ → Option Piece → ℕ → Type 0
Good var m first a o last at = IsCalm a o at × (Stands last (addition_text var m a) ⊎ ((i : ℕ) × (a ≡ addition.Counter i) × (first ≡ Some addition.LeftBrace)))

some_place : ℕ → Option ℕ
some_place x = Some x

-- ---- kinds of pieces

word_of_kind : (f : PieceForm) (w : List ℕ) (k : TokenKind) → kind_of f w ≡ Some k → HasForm f w → ((place : ℕ) → k ≡ kind.Operator place → ⊥) → k ≢ kind.Int → k ≢ kind.Rune → k ≢ kind.Text → IsWord w
word_of_kind form.Word w k e is no-op no-int no-rune no-text = is
word_of_kind form.Blank w k e is no-op no-int no-rune no-text = absurd cc
word_of_kind form.Line w k e is no-op no-int no-rune no-text = absurd cc
word_of_kind form.Opening w k e is no-op no-int no-rune no-text = absurd cc
word_of_kind form.Number w k e is no-op no-int no-rune no-text = absurd (no-int cc)
word_of_kind form.Rune w k e is no-op no-int no-rune no-text = absurd (no-rune cc)
word_of_kind form.Quoted w k e is no-op no-int no-rune no-text = absurd (no-text cc)
word_of_kind form.Raw w k e is no-op no-int no-rune no-text = absurd (no-text cc)
word_of_kind (form.Operator place) w k e is no-op no-int no-rune no-text = absurd (no-op place cc)

word_kind_not : (o : Option ℕ) (place : ℕ) → word_kind o ≡ kind.Operator place → ⊥
word_kind_not None place e = absurd cc
word_kind_not (Some k) place e = absurd cc

abbrev pub some_kind : TokenKind → Option TokenKind
some_kind k = Some k

pub same_some : (a b : TokenKind) → some_kind a ≡ some_kind b → a ≡ b
same_some a b e = cc

-- a piece that is an operator
pub record IsSign (f : PieceForm) (w : List ℕ) (place : ℕ) : Type 0 where
  pub form_is : f ≡ form.Operator place
  pub bytes_are : slice_get operators place ≡ Some w

pub operator_is : (a b : ℕ) → kind.Operator a ≡ kind.Operator b → a ≡ b
operator_is a b e = cc

pub sign_of_kind : (f : PieceForm) (w : List ℕ) (place : ℕ) → kind_of f w ≡ Some (kind.Operator place) → HasForm f w → IsSign f w place
sign_of_kind (form.Operator other) w place e is =
    let same = operator_is other place (same_some (kind.Operator other) (kind.Operator place) e) in
    record { form_is = ap (λ (x : ℕ). form.Operator x) same; bytes_are = ap (slice_get operators) (sym same) ∙ is }
sign_of_kind form.Word w place e is = absurd (word_kind_not (place_in keywords w) place (same_some (word_kind (place_in keywords w)) (kind.Operator place) e))
sign_of_kind form.Blank w place e is = absurd cc
sign_of_kind form.Line w place e is = absurd cc
sign_of_kind form.Opening w place e is = absurd cc
sign_of_kind form.Number w place e is = absurd cc
sign_of_kind form.Rune w place e is = absurd cc
sign_of_kind form.Quoted w place e is = absurd cc
sign_of_kind form.Raw w place e is = absurd cc

-- a piece that is an operator of these bytes
pub sign_bytes : (f : PieceForm) (w v : List ℕ) (place : ℕ) → IsSign f w place → slice_get operators place ≡ Some v → w ≡ v
sign_bytes f w v place s e = some_is w v (sym s.bytes_are ∙ e)

firm_sign : (p : Piece) (v : List ℕ) (place : ℕ) → kind_of p.form p.bytes ≡ Some (kind.Operator place) → HasForm p.form p.bytes → slice_get operators place ≡ Some v → is_closed_sign v ≡ true → IsFirm p.form p.bytes
firm_sign p v place k is e closed =
    let s = sign_of_kind p.form p.bytes place k is in
    let w-is = sign_bytes p.form p.bytes v place s e in
    subst (λ (f : PieceForm). IsFirm f p.bytes) (sym s.form_is) (closed_firm place p.bytes s.bytes_are (subst (λ (x : List ℕ). is_closed_sign x ≡ true) (sym w-is) closed))

stands_by : (last : Option Piece) (p : Piece) (v : List ℕ) → last ≡ Some p → StandsBefore p.form p.bytes v → Stands last v
stands_by last p v e s = subst (λ (x : Option Piece). Stands x v) (sym e) s

firm_stands : (last : Option Piece) (p : Piece) (v : List ℕ) → last ≡ Some p → IsFirm p.form p.bytes → Stands last v
firm_stands last p v e firm = stands_by last p v e (λ r. firm (v ++ r))

word_stands : (p : Piece) (b : ℕ) (v : List ℕ) → IsWord p.bytes → HasForm p.form p.bytes → Parts p.bytes b → StandsBefore p.form p.bytes (b ∷ v)
word_stands p b v w is parts = λ r. parted p.form p.bytes (v ++ r) b is parts

module _ (var : List ℕ) (is : IsIdentifier var) (m : Mode) (first : Option Addition) where
  -- an import directly behind a name
  behind_name : (o : Option ℕ) (last : Option Piece) (at : ℕ) → Behind kind.Name o last at → Good var m first addition.Import o last at
  behind_name o last at b =
      let w = word_of_kind b.piece.form b.piece.bytes kind.Name b.kind_is b.has_form (λ p e. absurd cc) (λ e. absurd cc) (λ e. absurd cc) (λ e. absurd cc) in
      (b.needed, inl (stands_by last b.piece (addition_text var m addition.Import) b.last_is (word_stands b.piece 59 (codes " import _cover_atomic_ \"sync/atomic\"") w b.has_form (word_parts b.piece.bytes 59 (omega arith) refl w))))

  behind_else : (o : Option ℕ) (last : Option Piece) (at : ℕ) → Behind t.else_word o last at → Good var m first addition.LeftBrace o last at
  behind_else o last at b =
      let w = word_of_kind b.piece.form b.piece.bytes t.else_word b.kind_is b.has_form (λ p e. absurd cc) (λ e. absurd cc) (λ e. absurd cc) (λ e. absurd cc) in
      (b.needed, inl (stands_by last b.piece (addition_text var m addition.LeftBrace) b.last_is (word_stands b.piece 123 (codes " ") w b.has_form (word_parts b.piece.bytes 123 (omega arith) refl w))))

  behind_right : (o : Option ℕ) (last : Option Piece) (at : ℕ) → Behind t.right_brace o last at → Good var m first addition.RightBrace o last at
  behind_right o last at b =
      (b.needed, inl (firm_stands last b.piece (addition_text var m addition.RightBrace) b.last_is (firm_sign b.piece (codes "}") 43 b.kind_is b.has_form refl refl)))

  counter_left : (i : ℕ) (o : Option ℕ) (last : Option Piece) (at : ℕ) → Behind t.left_brace o last at → Good var m first (addition.Counter i) o last at
  counter_left i o last at b = (b.needed, inl (firm_stands last b.piece (addition_text var m (addition.Counter i)) b.last_is (firm_sign b.piece (codes "{") 42 b.kind_is b.has_form refl refl)))

  counter_later : (i : ℕ) (o : Option ℕ) (last : Option Piece) (at : ℕ) → Later o last at → Good var m first (addition.Counter i) o last at
  counter_later i o last at b = (b.needed, inl (firm_stands last b.piece (addition_text var m (addition.Counter i)) b.last_is b.is_firm))

  counter_else : (i : ℕ) → first ≡ Some addition.LeftBrace → (o : Option ℕ) (last : Option Piece) (at : ℕ) → Behind t.else_word o last at → Good var m first (addition.Counter i) o last at
  counter_else i f o last at b = (b.needed, inr (i, refl, f))

  -- a colon before a counter
  colon_before : (k : Mode) (i : ℕ) (r : List ℕ) → IsLongest (form.Operator 47) (codes ":") (addition_text var k (addition.Counter i) ++ r)
  colon_before k i r = subst (λ (x : List ℕ). IsLongest (form.Operator 47) (codes ":") (x ++ r)) (sym (counter_parts var k i)) (by k)
    where
      by : (k' : Mode) → IsLongest (form.Operator 47) (codes ":") ((counter_begin k' ++ (var ++ (codes ".Count[" ++ (decimal i ++ counter_end k')))) ++ r)
      by mode.Set = subst (IsLongest (form.Operator 47) (codes ":")) (sym (append_assoc var (codes ".Count[" ++ (decimal i ++ counter_end mode.Set)) r)) (sign_before_word 47 58 var ((codes ".Count[" ++ (decimal i ++ counter_end mode.Set)) ++ r) refl refl refl is.0)
      by mode.Count = subst (IsLongest (form.Operator 47) (codes ":")) (sym (append_assoc var (codes ".Count[" ++ (decimal i ++ counter_end mode.Count)) r)) (sign_before_word 47 58 var ((codes ".Count[" ++ (decimal i ++ counter_end mode.Count)) ++ r) refl refl refl is.0)
      by mode.Atomic = parted (form.Operator 47) (codes ":") (codes "cover_atomic_.AddUint32(&" ++ ((var ++ (codes ".Count[" ++ (decimal i ++ counter_end mode.Atomic))) ++ r)) 95 refl (sign_before 58 95 refl refl refl refl)

  counter_colon : (i : ℕ) (o : Option ℕ) (last : Option Piece) (at : ℕ) → Behind t.colon o last at → Good var m first (addition.Counter i) o last at
  counter_colon i o last at b =
      let s = sign_of_kind b.piece.form b.piece.bytes 47 b.kind_is b.has_form in
      let w-is = sign_bytes b.piece.form b.piece.bytes (codes ":") 47 s refl in
      let colon : StandsBefore b.piece.form b.piece.bytes (addition_text var m (addition.Counter i)) =
      subst (λ (f : PieceForm). StandsBefore f b.piece.bytes (addition_text var m (addition.Counter i))) (sym s.form_is)
      (subst (λ (x : List ℕ). StandsBefore (form.Operator 47) x (addition_text var m (addition.Counter i))) (sym w-is) (colon_before m i)) in
      (b.needed, inl (stands_by last b.piece (addition_text var m (addition.Counter i)) b.last_is colon))

-- ---- from the tokens

module _ (var : List ℕ) (is : IsIdentifier var) (m : Mode) (text : List ℕ) (ps : List Piece) (divides : Divides text ps []) (tokens : List Token) (tokens_are : tokens ≡ tokens_from 0 None ps) where
  from_behind : (P : Option ℕ → Option Piece → ℕ → Type 0) (k : TokenKind) (at : ℕ) → k ≢ kind.Operator 45 → IsBehind tokens k at → ((o : Option ℕ) (last : Option Piece) (x : ℕ) → Behind k o last x → P o last x) → Sited P None None 0 ps at
  from_behind P k at ne b w =
      sited_weaker (Behind k) P w None None 0 ps at
      (subst (Sited (Behind k) None None 0 ps) b.end (behind k ne ps 0 None None text b.before b.token b.behind divides (sym tokens_are ∙ b.is) b.kind_is))

  from_later : (P : Option ℕ → Option Piece → ℕ → Type 0) (at : ℕ) → IsLater tokens at → ((o : Option ℕ) (last : Option Piece) (x : ℕ) → Later o last x → P o last x) → Sited P None None 0 ps at
  from_later P at b w =
      sited_weaker Later P w None None 0 ps at
      (subst (Sited Later None None 0 ps) b.start (later ps 0 None None text b.before b.semicolon b.token b.behind divides (sym tokens_are ∙ b.is) b.semicolon_is))

  pub in_place : (first : Option Addition) (a : Addition) (at : ℕ) → IsPlace tokens first a at → Sited (Good var m first a) None None 0 ps at
  in_place first addition.Import at p = from_behind (Good var m first addition.Import) kind.Name at (λ e. absurd cc) p (behind_name var is m first)
  in_place first addition.LeftBrace at p = from_behind (Good var m first addition.LeftBrace) t.else_word at (λ e. absurd cc) p (behind_else var is m first)
  in_place first addition.RightBrace at p = from_behind (Good var m first addition.RightBrace) t.right_brace at (λ e. absurd (not_45 43 (omega arith) e)) p (behind_right var is m first)
    where
      not_45 : (n : ℕ) → n < 45 → kind.Operator n ≡ kind.Operator 45 → ⊥
      not_45 n lt e = let same = operator_is n 45 e in omega arith
  in_place first (addition.Counter i) at (inl p) = from_behind (Good var m first (addition.Counter i)) t.left_brace at (λ e. let same = operator_is 42 45 e in omega arith) p (counter_left var is m first i)
  in_place first (addition.Counter i) at (inr (inl p)) = from_behind (Good var m first (addition.Counter i)) t.colon at (λ e. let same = operator_is 47 45 e in omega arith) p (counter_colon var is m first i)
  in_place first (addition.Counter i) at (inr (inr (inl p))) = from_later (Good var m first (addition.Counter i)) at p (counter_later var is m first i)
  in_place first (addition.Counter i) at (inr (inr (inr p))) = from_behind (Good var m first (addition.Counter i)) t.else_word at (λ e. absurd cc) p.0 (counter_else var is m first i p.1)
