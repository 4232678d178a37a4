-- What a line says, byte by byte.
use Rattle.std.proofs.Common.{◌≡◌, ℕ, zero, suc, ◌<◌, Bool, true, false, cond, List, [], ◌∷◌, ◌++◌, length, take, drop, refl, ap, arith}
use Rattle.std.specs.Prelude.{nat_eq, codes}
use Rattle.std.specs.List.{starts_with}
use Rattle.go_load.specs.GoMod.{before_comment}

-- a comment begins here
pub comment_here : (line : List ℕ) → starts_with nat_eq line (codes "//") ≡ true → before_comment line ≡ []
comment_here [] e = refl
comment_here (c ∷ cs) e = ap (λ (b : Bool). cond b [] (c ∷ before_comment cs)) e

-- none begins at a byte
pub comment_later : (line : List ℕ) (i : ℕ) → i < length line → starts_with nat_eq (drop i line) (codes "//") ≡ false
    → take i line ++ before_comment (drop i line) ≡ take (suc i) line ++ before_comment (drop (suc i) line)
comment_later [] i lt none = absurd (omega arith)
comment_later (c ∷ cs) zero lt none = ap (λ (b : Bool). cond b [] (c ∷ before_comment cs)) none
comment_later (c ∷ cs) (suc i) lt none = ap (λ (t : List ℕ). c ∷ t) (comment_later cs i (omega arith) none)
