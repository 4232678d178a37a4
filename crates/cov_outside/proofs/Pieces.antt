-- A file that is read piece by piece.
use Rattle.std.proofs.Common.{◌≡◌, ℕ, ◌+◌, List, ◌++◌, length, take, drop, Option, Some, None, refl, sym, ap, ◌∙◌}
use Rattle.std.specs.Io.KnownBytes.{append_known}
use Rattle.std.proofs.Common.{take-add, append_assoc}
use Rattle.cov_outside.specs.Tree.{Tree}
use Rattle.std.specs.FinMap as map

-- these bytes are the front of the content
abbrev pub IsFront : Option (List ℕ) → List ℕ → Type 0
IsFront None front = Unit {0}
IsFront (Some bytes) front = front ≡ take (length front) bytes

-- the same, where a tree is told
abbrev pub IsFrontIn : Option Tree → List ℕ → List ℕ → Type 0
IsFrontIn None path front = Unit {0}
IsFrontIn (Some t) path front = IsFront (map.get t path) front

-- two pieces of a text, one after the other
pub written_more : (known now later : Option (List ℕ)) (text rest : List ℕ) (n m : ℕ) → later ≡ append_known now (take m rest) → rest ≡ drop n text → now ≡ append_known known (take n text)
    → later ≡ append_known known (take (n + m) text)
written_more None now later text rest n m e r f = rw (e, f) refl
written_more (Some bytes) now later text rest n m e r f = rw (e, f, r) (ap (λ (bs : List ℕ). Some bs) (append_assoc bytes (take n text) (take m (drop n text)) ∙ ap (λ (t : List ℕ). bytes ++ t) (sym (take-add n m text))))
