-- Pieces that are written one after the other.
use Rattle.std.proofs.Common.{◌≡◌, ℕ, ◌+◌, ◌<◌, ◌≤◌, List, [], ◌∷◌, ◌++◌, length, take, drop, get_or, Option, Some, None, Bor, refl, sym, ap, ◌∙◌, arith, append_assoc, length-append, subst, Result, Ok, Err}
use Rattle.std.specs.Prelude.{OnErr}
use Rattle.std.specs.List.{flat_map}
use Rattle.std.specs.Io.KnownBytes.{append_known}
use Rattle.std.proofs.lemmas.Grind.{flat_map-append}
use Rattle.std.proofs.lemmas.List.{take_more, take-append-drop, append-nil, take-append-le, get_or_default}
use Rattle.std.proofs.Math.Seq.{take-append-add, take-append_seam}
use Rattle.cov_outside.specs.Faults.{HasPrefix}

abbrev pub Piece : Type 0
Piece = Bor (List ℕ)

abbrev pub text_of : List Piece → List ℕ
text_of pieces = flat_map (λ (p : Piece). p.now) pieces

pub appended : (known : Option (List ℕ)) (a b : List ℕ) → append_known (append_known known a) b ≡ append_known known (a ++ b)
appended None a b = refl
appended (Some bytes) a b = ap (λ (t : List ℕ). Some t) (append_assoc bytes a b)

pub nothing : (known : Option (List ℕ)) → known ≡ append_known known []
nothing None = refl
nothing (Some bytes) = ap (λ (t : List ℕ). Some t) (sym (append-nil bytes))

one : (p : Piece) → text_of (p ∷ []) ≡ p.now
one p = append-nil p.now

-- the pieces up to one more
up_to : (pieces : List Piece) (i : ℕ) (p : Piece) → i < length pieces → p ≡ get_or pieces i p → text_of (take (i + 1) pieces) ≡ text_of (take i pieces) ++ p.now
up_to pieces i p lt is =
    ap text_of (take_more pieces i p lt) ∙ flat_map-append (λ (q : Piece). q.now) (take i pieces) (get_or pieces i p ∷ [])
    ∙ ap (λ (t : List ℕ). text_of (take i pieces) ++ t) (ap (λ (q : Piece). text_of (q ∷ [])) (sym is) ∙ one p)

pub one_more : (pieces : List Piece) (i : ℕ) (p : Piece) (known now later : Option (List ℕ)) → i < length pieces → p ≡ get_or pieces i p
    → now ≡ append_known known (text_of (take i pieces)) → later ≡ append_known now p.now → later ≡ append_known known (text_of (take (i + 1) pieces))
one_more pieces i p known now later lt is n l = l ∙ ap (λ (k : Option (List ℕ)). append_known k p.now) n ∙ appended known (text_of (take i pieces)) p.now ∙ ap (append_known known) (sym (up_to pieces i p lt is))

-- a front of the next piece is a front of all
pub cut_off : (pieces : List Piece) (i : ℕ) (p : Piece) (known now later : Option (List ℕ)) → i < length pieces → p ≡ get_or pieces i p
    → now ≡ append_known known (text_of (take i pieces)) → HasPrefix now later p.now → HasPrefix known later (text_of pieces)
cut_off pieces i p known now later lt is n (k, within, had) =
    let a = text_of (take i pieces) in
    let rest = text_of (drop (i + 1) pieces) in
    let whole : text_of pieces ≡ (a ++ p.now) ++ rest =
    ap text_of (sym (take-append-drop (i + 1) pieces)) ∙ flat_map-append (λ (q : Piece). q.now) (take (i + 1) pieces) (drop (i + 1) pieces) ∙ ap (λ (t : List ℕ). t ++ rest) (up_to pieces i p lt is) in
    let front : take (length a + k) ((a ++ p.now) ++ rest) ≡ a ++ take k p.now =
    ap (take (length a + k)) (append_assoc a p.now rest) ∙ take-append-add a (p.now ++ rest) k ∙ ap (λ (t : List ℕ). a ++ t) (take-append-le k p.now rest within) in (
      length a + k,
      subst (λ (t : List ℕ). length a + k ≤ length t) (sym whole) (omega (arith, length-append a p.now, length-append (a ++ p.now) rest)),
      had ∙ ap (λ (o : Option (List ℕ)). append_known o (take k p.now)) n ∙ appended known a (take k p.now) ∙ ap (append_known known) (sym (ap (take (length a + k)) whole ∙ front)),
    )

pub on_err : {T E P : Type 0} (r : Result T E) → P → OnErr r P
on_err (Ok x) p = tt
on_err (Err e) p = p

-- the same, for a piece that is read with another in its place past the end
pub cut_off_at : (pieces : List Piece) (i : ℕ) (d : Piece) (known now later : Option (List ℕ)) → i < length pieces
    → now ≡ append_known known (text_of (take i pieces)) → HasPrefix now later (get_or pieces i d).now → HasPrefix known later (text_of pieces)
cut_off_at pieces i d known now later lt = cut_off pieces i (get_or pieces i d) known now later lt (get_or_default pieces i d (get_or pieces i d) lt)

-- the whole is a front
pub whole : (known later : Option (List ℕ)) (text : List ℕ) → later ≡ append_known known text → HasPrefix known later text
whole known later text e =
    let all : take (length text) text ≡ text = ap (take (length text)) (sym (append-nil text)) ∙ take-append_seam text [] in
    (length text, omega arith, e ∙ ap (append_known known) (sym all))
