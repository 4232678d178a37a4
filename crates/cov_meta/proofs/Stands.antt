-- What was written stands in the bytes.
use Rattle.std.proofs.Common.{◌≡◌, ℕ, ◌+◌, ◌*◌, ◌<◌, ◌^◌, List, [], ◌∷◌, ◌++◌, length, take, drop, flat_map, All, refl, sym, ap, subst, ◌∙◌, arith, append_assoc, length-append}
use Rattle.std.proofs.lemmas.List.{drop-drop}
use Rattle.std.proofs.lemmas.List.Elements.{All-head, All-tail}
use Rattle.std.proofs.Math.Seq.{take-append_seam, drop-append_seam}
use Rattle.byteorder.specs.Endian.{little_bytes}
use Rattle.cov_bytes.specs.Writing.{uleb_of}
use Rattle.cov_bytes.specs.Laws.{NumbersAreRead, WrittenIsShortest, FixedAreRead, TablesAreRead}
use Rattle.cov_meta.specs.Spelling.{Holds, IsFixed, IsUleb, InTurn}
use Rattle.cov_meta.proofs.SpelledNumbers.{fixed_spells, uleb_spells}

-- what the base crate says of its own spellings
pub record BaseLaws : Type 0 where
  pub fixed : FixedAreRead
  pub read : NumbersAreRead
  pub written : WrittenIsShortest
  pub tables : TablesAreRead

pub behind : (bytes front rest : List ℕ) (at next : ℕ) → next ≡ at + length front → drop at bytes ≡ front ++ rest → drop next bytes ≡ rest
behind bytes front rest at next e here = ap (λ (k : ℕ). drop k bytes) e ∙ sym (drop-drop (length front) at bytes) ∙ ap (drop (length front)) here ∙ drop-append_seam front rest

pub holds : (bytes piece rest : List ℕ) (at : ℕ) → drop at bytes ≡ piece ++ rest → Holds bytes at piece
holds bytes piece rest at here = ap (take (length piece)) here ∙ take-append_seam piece rest

pub four : BaseLaws → (bytes rest : List ℕ) (at n next : ℕ) → next ≡ at + 4 → n < 2 ^ 32 → drop at bytes ≡ little_bytes 4 n ++ rest → IsFixed 4 bytes at n next
four laws bytes rest at n next e lt here = subst (λ k. IsFixed 4 bytes at n k) (sym e) (fixed_spells 4 bytes at n (at + 4) (laws.fixed.four bytes rest at n lt here))

pub eight : BaseLaws → (bytes rest : List ℕ) (at n next : ℕ) → next ≡ at + 8 → n < 2 ^ 64 → drop at bytes ≡ little_bytes 8 n ++ rest → IsFixed 8 bytes at n next
eight laws bytes rest at n next e lt here = subst (λ k. IsFixed 8 bytes at n k) (sym e) (fixed_spells 8 bytes at n (at + 8) (laws.fixed.eight bytes rest at n lt here))

pub uleb : BaseLaws → (bytes rest : List ℕ) (at n : ℕ) → n < 2 ^ 32 → drop at bytes ≡ uleb_of n ++ rest → IsUleb bytes at n (at + length (uleb_of n))
uleb laws bytes rest at n lt here = uleb_spells bytes at n (at + length (uleb_of n)) (laws.read bytes rest (uleb_of n) at n (laws.written n lt).0 here)

-- several numbers in turn
pub ulebs : BaseLaws → (bytes : List ℕ) (ns rest : List ℕ) (at next : ℕ) → All (λ n. n < 2 ^ 32) ns → next ≡ at + length (flat_map uleb_of ns) → drop at bytes ≡ flat_map uleb_of ns ++ rest → InTurn (IsUleb bytes) at ns next
ulebs laws bytes [] rest at next small e here = omega arith
ulebs laws bytes (n ∷ ns) rest at next small e here =
    let parts : drop at bytes ≡ uleb_of n ++ (flat_map uleb_of ns ++ rest) = here ∙ append_assoc (uleb_of n) (flat_map uleb_of ns) rest in (
      at + length (uleb_of n),
      uleb laws bytes (flat_map uleb_of ns ++ rest) at n (All-head (λ n. n < 2 ^ 32) n ns small) parts,
      ulebs laws bytes ns rest (at + length (uleb_of n)) next (All-tail (λ n. n < 2 ^ 32) n ns small) (omega (arith, length-append (uleb_of n) (flat_map uleb_of ns)))
          (behind bytes (uleb_of n) (flat_map uleb_of ns ++ rest) at (at + length (uleb_of n)) refl parts),
    )

pub fours : BaseLaws → (bytes : List ℕ) (ns rest : List ℕ) (at next : ℕ) → All (λ n. n < 2 ^ 32) ns → next ≡ at + 4 * length ns → drop at bytes ≡ flat_map (little_bytes 4) ns ++ rest → InTurn (IsFixed 4 bytes) at ns next
fours laws bytes [] rest at next small e here = omega arith
fours laws bytes (n ∷ ns) rest at next small e here =
    let parts : drop at bytes ≡ little_bytes 4 n ++ (flat_map (little_bytes 4) ns ++ rest) = here ∙ append_assoc (little_bytes 4 n) (flat_map (little_bytes 4) ns) rest in (
      at + 4,
      four laws bytes (flat_map (little_bytes 4) ns ++ rest) at n (at + 4) refl (All-head (λ n. n < 2 ^ 32) n ns small) parts,
      fours laws bytes ns rest (at + 4) next (All-tail (λ n. n < 2 ^ 32) n ns small) (omega arith) (behind bytes (little_bytes 4 n) (flat_map (little_bytes 4) ns ++ rest) at (at + 4) refl parts),
    )

pub eights : BaseLaws → (bytes : List ℕ) (ns rest : List ℕ) (at next : ℕ) → All (λ n. n < 2 ^ 64) ns → next ≡ at + 8 * length ns → drop at bytes ≡ flat_map (little_bytes 8) ns ++ rest → InTurn (IsFixed 8 bytes) at ns next
eights laws bytes [] rest at next small e here = omega arith
eights laws bytes (n ∷ ns) rest at next small e here =
    let parts : drop at bytes ≡ little_bytes 8 n ++ (flat_map (little_bytes 8) ns ++ rest) = here ∙ append_assoc (little_bytes 8 n) (flat_map (little_bytes 8) ns) rest in (
      at + 8,
      eight laws bytes (flat_map (little_bytes 8) ns ++ rest) at n (at + 8) refl (All-head (λ n. n < 2 ^ 64) n ns small) parts,
      eights laws bytes ns rest (at + 8) next (All-tail (λ n. n < 2 ^ 64) n ns small) (omega arith) (behind bytes (little_bytes 8 n) (flat_map (little_bytes 8) ns ++ rest) at (at + 8) refl parts),
    )
