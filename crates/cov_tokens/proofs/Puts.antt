-- The pieces of what is put in.
use Rattle.std.proofs.Common.{◌≡◌, inl, ℕ, ◌<◌, ◌^◌, Bool, true, false, not, List, [], ◌∷◌, ◌++◌, Option, Some, refl, sym, ap, subst, ◌∙◌, arith, append_assoc, nat_eq}
use Rattle.std.specs.Prelude.{codes, decimal, slice_get, map}
use Rattle.std.specs.List.{list_all}
use Rattle.go_ast.specs.declared.token.PieceForm.TheVariants as form
use Rattle.go_ast.specs.Literals.{AreItems}
use Rattle.go_ast.specs.Numbers.{is_decimal}
use Rattle.go_ast.specs.Words.{operators}
use Rattle.go_ast.specs.Tokens.{word_kind}
use Rattle.go_ast.specs.Pieces.{Piece, IsLongest, IsWord}
use Rattle.cov_outside.specs.declared.mode.Mode.{Mode}
use Rattle.cov_outside.specs.declared.mode.Mode.TheVariants as mode
use Rattle.cov_rewrite.specs.declared.piece.Addition.{Addition}
use Rattle.cov_rewrite.specs.declared.piece.Addition.TheVariants as addition
use Rattle.cov_rewrite.specs.Additions.{counter_begin, counter_end, counter_text, addition_text}
use Rattle.cov_tokens.specs.Spellings.{spelled}
use Rattle.cov_tokens.specs.Counters.{addition_spellings, counter_front}
use Rattle.cov_tokens.specs.Places.{IsIdentifier, IsSmall}
use Rattle.cov_tokens.proofs.Basics.{clash, cons_is, both, not_true}
use Rattle.cov_tokens.proofs.Firsts.{is_sign, starts, word_first, form_some}
use Rattle.cov_tokens.proofs.Stands.{parted, firm, sign_before, sign_of_word, word_no_decimal, word_parts, text_parts}
use Rattle.cov_tokens.proofs.Spelling.{flat, spelled_in, pending_in}
use Rattle.cov_tokens.proofs.Walk.{Runs, NoPoint}
use Rattle.cov_tokens.proofs.Chains.{piece, IsFine, Chain, chain_divides, chain_append, chain_all, word_fine, plain_characters}
use Rattle.cov_tokens.proofs.Digits.{numeral, IsNumeral, numeral_parts}

abbrev pub word : List ℕ → Piece
word w = piece form.Word w

abbrev pub sign : ℕ → List ℕ → Piece
sign place w = piece (form.Operator place) w

abbrev pub space : Piece
space = piece form.Blank (32 ∷ [])

abbrev pub num : List ℕ → Piece
num w = piece form.Number w

abbrev pub front_pieces : Mode → List Piece
front_pieces mode.Atomic = word (codes "_cover_atomic_") ∷ sign 46 (codes ".") ∷ word (codes "AddUint32") ∷ sign 38 (codes "(") ∷ []
front_pieces _ = []

abbrev pub amp_pieces : Mode → List Piece
amp_pieces mode.Atomic = sign 5 (codes "&") ∷ []
amp_pieces _ = []

abbrev pub slot_pieces : List Piece
slot_pieces = sign 46 (codes ".") ∷ word (codes "Count") ∷ sign 40 (codes "[") ∷ []

abbrev pub back_pieces : Mode → List Piece
back_pieces mode.Set = sign 41 (codes "]") ∷ space ∷ sign 30 (codes "=") ∷ space ∷ num (codes "1") ∷ sign 45 (codes ";") ∷ []
back_pieces mode.Count = sign 41 (codes "]") ∷ sign 25 (codes "++") ∷ sign 45 (codes ";") ∷ []
back_pieces mode.Atomic = sign 41 (codes "]") ∷ sign 44 (codes ",") ∷ space ∷ num (codes "1") ∷ sign 39 (codes ")") ∷ sign 45 (codes ";") ∷ []

abbrev pub import_front : List Piece
import_front = sign 45 (codes ";") ∷ space ∷ word (codes "import") ∷ space ∷ word (codes "_cover_atomic_") ∷ space ∷ []

abbrev pub import_path : Piece
import_path = piece form.Quoted (codes "\"sync/atomic\"")

abbrev pub addition_pieces : List ℕ → Mode → Addition → List Piece
addition_pieces var m addition.Import = import_front ++ import_path ∷ []
addition_pieces var m addition.LeftBrace = sign 42 (codes "{") ∷ space ∷ []
addition_pieces var m addition.RightBrace = sign 43 (codes "}") ∷ []
addition_pieces var m (addition.Counter i) = front_pieces m ++ (amp_pieces m ++ (word var ∷ (slot_pieces ++ num (decimal i) ∷ back_pieces m)))

-- ---- their bytes

five_parts : (a b c d e : List ℕ) → (((a ++ b) ++ c) ++ d) ++ e ≡ a ++ (b ++ (c ++ (d ++ e)))
five_parts a b c d e = append_assoc ((a ++ b) ++ c) d e ∙ append_assoc (a ++ b) c (d ++ e) ∙ append_assoc a b (c ++ (d ++ e))

-- a counter's text by its parts
pub counter_parts : (var : List ℕ) (m : Mode) (i : ℕ) → counter_text var m i ≡ counter_begin m ++ (var ++ (codes ".Count[" ++ (decimal i ++ counter_end m)))
counter_parts var m i = five_parts (counter_begin m) var (codes ".Count[") (decimal i) (counter_end m)

pub addition_flat : (var : List ℕ) (m : Mode) (a : Addition) → flat (addition_pieces var m a) ≡ addition_text var m a
addition_flat var m addition.Import = refl
addition_flat var m addition.LeftBrace = refl
addition_flat var m addition.RightBrace = refl
addition_flat var mode.Set (addition.Counter i) = sym (counter_parts var mode.Set i)
addition_flat var mode.Count (addition.Counter i) = sym (counter_parts var mode.Count i)
addition_flat var mode.Atomic (addition.Counter i) = sym (counter_parts var mode.Atomic i)

-- ---- each is the longest before the next

path_items : (bs : List ℕ) → list_all (λ b. not (nat_eq b 92)) bs ≡ true → AreItems 34 (map (λ b. b ∷ []) bs) bs []
path_items [] h = refl
path_items (b ∷ bs) h =
    let two = both (not (nat_eq b 92)) (list_all (λ c. not (nat_eq c 92)) bs) h in
    (bs, refl, inl (b, refl, λ e. clash (nat_eq 92 92) refl (subst (λ (x : ℕ). nat_eq x 92 ≡ false) e (not_true (nat_eq b 92) two.0))), path_items bs two.1)

path_fine : IsFine import_path
path_fine = record {
  characters = plain_characters (codes "\"sync/atomic\"") refl;
  meant = (map (λ b. b ∷ []) (codes "sync/atomic"), path_items (codes "sync/atomic") refl);
  has_form = (refl, refl);
}

path_chain : Chain (import_path ∷ []) []
path_chain = (path_fine, λ rest. firm form.Quoted (codes "\"sync/atomic\"") path_fine.has_form (λ b. text_parts (codes "sync/atomic\"") b path_fine.has_form) rest, tt)

front_chain : (m : Mode) (v : List ℕ) → Chain (front_pieces m) v
front_chain mode.Set v = tt
front_chain mode.Count v = tt
front_chain mode.Atomic v = chain_all (front_pieces mode.Atomic) (λ b. refl) v

back_chain : (m : Mode) → Chain (back_pieces m) []
back_chain mode.Set = chain_all (back_pieces mode.Set) (λ b. refl) []
back_chain mode.Count = chain_all (back_pieces mode.Count) (λ b. refl) []
back_chain mode.Atomic = chain_all (back_pieces mode.Atomic) (λ b. refl) []

-- a sign of one byte before a word
pub sign_before_word : (place x : ℕ) (w r : List ℕ) → slice_get operators place ≡ Some (x ∷ []) → is_sign x ≡ true → nat_eq x 47 ≡ false → IsWord w → IsLongest (form.Operator place) (x ∷ []) (w ++ r)
sign_before_word place x [] r is s n w-is = let some = form_some form.Word [] w-is in absurd (omega arith)
sign_before_word place x (b ∷ w) r is s n w-is =
    let first = word_first b w w-is in
    parted (form.Operator place) (x ∷ []) (w ++ r) b is (sign_before x b s n (sign_of_word b first) (not_decimal b first))
  where
    not_decimal : (c : ℕ) → starts form.Word c ≡ true → is_decimal c ≡ false
    not_decimal c h = go (is_decimal c) refl
      where
        go : (v : Bool) → is_decimal c ≡ v → v ≡ false
        go true e = absurd (word_no_decimal c h e)
        go false e = refl

module _ (var : List ℕ) (is : IsIdentifier var) where
  amp_chain : (m : Mode) (v : List ℕ) → Chain (amp_pieces m) (var ++ v)
  amp_chain mode.Set v = tt
  amp_chain mode.Count v = tt
  amp_chain mode.Atomic v = (
    record { characters = plain_characters (codes "&") refl; meant = tt; has_form = refl },
    λ rest. subst (IsLongest (form.Operator 5) (codes "&")) (sym (append_assoc var v rest)) (sign_before_word 5 38 var (v ++ rest) refl refl refl is.0),
    tt,
  )

  number_chain : (m : Mode) (i : ℕ) → i < 2 ^ 64 → Chain (num (decimal i) ∷ back_pieces m) []
  number_chain m i lt = (n.fine, λ rest. longest m rest, back_chain m)
    where
      n : IsNumeral (decimal i)
      n = numeral i lt

      longest : (k : Mode) (rest : List ℕ) → IsLongest form.Number (decimal i) (flat (back_pieces k) ++ rest)
      longest mode.Set rest = parted form.Number (decimal i) (codes " = 1;" ++ rest) 93 n.fine.has_form (numeral_parts (decimal i) 93 n refl)
      longest mode.Count rest = parted form.Number (decimal i) (codes "++;" ++ rest) 93 n.fine.has_form (numeral_parts (decimal i) 93 n refl)
      longest mode.Atomic rest = parted form.Number (decimal i) (codes ", 1);" ++ rest) 93 n.fine.has_form (numeral_parts (decimal i) 93 n refl)

  slot_chain : (m : Mode) (i : ℕ) → i < 2 ^ 64 → Chain (word var ∷ (slot_pieces ++ num (decimal i) ∷ back_pieces m)) []
  slot_chain m i lt = (
    word_fine var is.0,
    λ rest. parted form.Word var (codes "Count[" ++ (flat (num (decimal i) ∷ back_pieces m) ++ rest)) 46 is.0 (word_parts var 46 (omega arith) refl is.0),
    chain_append slot_pieces (num (decimal i) ∷ back_pieces m) [] (chain_all slot_pieces (λ b. refl) (flat (num (decimal i) ∷ back_pieces m) ++ [])) (number_chain m i lt),
  )

  pub addition_chain : (m : Mode) (a : Addition) → IsSmall a → Chain (addition_pieces var m a) []
  addition_chain m addition.Import lt = chain_append import_front (import_path ∷ []) [] (chain_all import_front (λ b. refl) (flat (import_path ∷ []) ++ [])) path_chain
  addition_chain m addition.LeftBrace lt = chain_all (addition_pieces var m addition.LeftBrace) (λ b. refl) []
  addition_chain m addition.RightBrace lt = chain_all (addition_pieces var m addition.RightBrace) (λ b. refl) []
  addition_chain m (addition.Counter i) lt =
      let tail : List Piece = word var ∷ (slot_pieces ++ num (decimal i) ∷ back_pieces m) in
      let bytes : List ℕ = flat (slot_pieces ++ num (decimal i) ∷ back_pieces m) in
      let amp : Chain (amp_pieces m) (flat tail ++ []) = subst (Chain (amp_pieces m)) (sym (append_assoc var bytes [])) (amp_chain m (bytes ++ [])) in
      chain_append (front_pieces m) (amp_pieces m ++ tail) [] (front_chain m (flat (amp_pieces m ++ tail) ++ [])) (chain_append (amp_pieces m) tail [] amp (slot_chain m i lt))

  pub addition_runs : (m : Mode) (a : Addition) → IsSmall a → Runs (addition_pieces var m a)
  addition_runs m a lt rest = chain_divides (addition_pieces var m a) [] (addition_chain m a lt) rest

  -- ---- their spellings

  pub addition_spelled : (m : Mode) (a : Addition) (b : Bool) → spelled_in b (addition_pieces var m a) ≡ addition_spellings var m a
  addition_spelled m addition.Import b = refl
  addition_spelled m addition.LeftBrace b = refl
  addition_spelled m addition.RightBrace b = refl
  addition_spelled mode.Set (addition.Counter i) b = ap (λ (k : Option ℕ). spelled (word_kind k) var ∷ (spelled_in true (slot_pieces ++ num (decimal i) ∷ back_pieces mode.Set))) is.1
  addition_spelled mode.Count (addition.Counter i) b = ap (λ (k : Option ℕ). spelled (word_kind k) var ∷ (spelled_in true (slot_pieces ++ num (decimal i) ∷ back_pieces mode.Count))) is.1
  addition_spelled mode.Atomic (addition.Counter i) b =
      ap (λ (k : Option ℕ). counter_front mode.Atomic ++ spelled (word_kind k) var ∷ (spelled_in true (slot_pieces ++ num (decimal i) ∷ back_pieces mode.Atomic))) is.1

  -- ---- whether a semicolon is needed behind them

  abbrev pub needs : Addition → Bool
  needs addition.Import = true
  needs addition.RightBrace = true
  needs addition.LeftBrace = false
  needs (addition.Counter i) = false

  pub addition_pending : (m : Mode) (a : Addition) (b : Bool) → pending_in b (addition_pieces var m a) ≡ needs a
  addition_pending m addition.Import b = refl
  addition_pending m addition.LeftBrace b = refl
  addition_pending m addition.RightBrace b = refl
  addition_pending mode.Set (addition.Counter i) b = refl
  addition_pending mode.Count (addition.Counter i) b = refl
  addition_pending mode.Atomic (addition.Counter i) b = refl

  -- ---- none begins with a point

  word_point : NoPoint var
  word_point more e =
      let h : starts form.Word 46 ≡ true = word_first 46 more (subst IsWord e is.0) in
      absurd cc

  var_front : (w v more : List ℕ) → IsWord w → w ++ v ≡ 46 ∷ more → ⊥
  var_front [] v more w-is e = let some = form_some form.Word [] w-is in absurd (omega arith)
  var_front (b ∷ w) v more w-is e =
      let h : starts form.Word 46 ≡ true = subst (λ (x : ℕ). starts form.Word x ≡ true) (cons_is b 46 (w ++ v) more e).0 (word_first b w w-is) in
      absurd cc

  head_not : (b : ℕ) (v more : List ℕ) → nat_eq b 46 ≡ false → b ∷ v ≡ 46 ∷ more → ⊥
  head_not b v more n e = clash (nat_eq 46 46) refl (subst (λ (x : ℕ). nat_eq x 46 ≡ false) (cons_is b 46 v more e).0 n)

  pub addition_point : (m : Mode) (a : Addition) (v more : List ℕ) → addition_text var m a ++ v ≡ 46 ∷ more → ⊥
  addition_point m addition.Import v more e = head_not 59 (codes " import _cover_atomic_ \"sync/atomic\"" ++ v) more refl e
  addition_point m addition.LeftBrace v more e = head_not 123 (codes " " ++ v) more refl e
  addition_point m addition.RightBrace v more e = head_not 125 v more refl e
  addition_point m (addition.Counter i) v more e = counter_point m (sym (ap (λ (x : List ℕ). x ++ v) (counter_parts var m i)) ∙ e)
    where
      counter_point : (k : Mode) → (counter_begin k ++ (var ++ (codes ".Count[" ++ (decimal i ++ counter_end k)))) ++ v ≡ 46 ∷ more → ⊥
      counter_point mode.Set h = var_front var ((codes ".Count[" ++ (decimal i ++ codes "] = 1;")) ++ v) more is.0 (sym (append_assoc var (codes ".Count[" ++ (decimal i ++ codes "] = 1;")) v) ∙ h)
      counter_point mode.Count h = var_front var ((codes ".Count[" ++ (decimal i ++ codes "]++;")) ++ v) more is.0 (sym (append_assoc var (codes ".Count[" ++ (decimal i ++ codes "]++;")) v) ∙ h)
      counter_point mode.Atomic h = head_not 95 (codes "cover_atomic_.AddUint32(&" ++ ((var ++ (codes ".Count[" ++ (decimal i ++ codes "], 1);"))) ++ v)) more refl h
