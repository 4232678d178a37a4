-- Texts that are appended one after another.
use Rattle.std.proofs.Common.{◌≡◌, ◌++◌, List, [], ℕ, Result, Ok, Err, ap, ◌∙◌, append_assoc}
use Rattle.std.specs.Prelude.{OnOk}
use Rattle.std.specs.declared.alloc.AllocError.{AllocError}

-- what is appended, by another name
pub by_name : (old new bytes text : List ℕ) → new ≡ old ++ bytes → bytes ≡ text → new ≡ old ++ text
by_name old new bytes text e h = e ∙ ap (λ (t : List ℕ). old ++ t) h

pub four_parts : (old a b c d p q r s : List ℕ) → a ≡ old ++ p → b ≡ a ++ q → c ≡ b ++ r → d ≡ c ++ s → d ≡ old ++ (((p ++ q) ++ r) ++ s)
four_parts old a b c d p q r s e f g h = rw (h, g, f, e) (simp append_assoc)

pub five_parts : (old a b c d e p q r s t : List ℕ) → a ≡ old ++ p → b ≡ a ++ q → c ≡ b ++ r → d ≡ c ++ s → e ≡ d ++ t → e ≡ old ++ ((((p ++ q) ++ r) ++ s) ++ t)
five_parts old a b c d e p q r s t f g h i j = rw (j, i, h, g, f) (simp append_assoc)

pub nine_parts : (old a b c d e f g h i p q r s t u v w x : List ℕ)
    → a ≡ old ++ p → b ≡ a ++ q → c ≡ b ++ r → d ≡ c ++ s → e ≡ d ++ t → f ≡ e ++ u → g ≡ f ++ v → h ≡ g ++ w → i ≡ h ++ x
    → i ≡ old ++ ((((((((p ++ q) ++ r) ++ s) ++ t) ++ u) ++ v) ++ w) ++ x)
nine_parts old a b c d e f g h i p q r s t u v w x k l m n o y z aa bb = rw (bb, aa, z, y, o, n, m, l, k) (simp append_assoc)

pub renamed : (r : Result (Unit {0}) AllocError) (old new some same : List ℕ) → some ≡ same → OnOk r (new ≡ old ++ some) → OnOk r (new ≡ old ++ same)
renamed (Ok u) old new some same e f = f ∙ ap (λ l. old ++ l) e
renamed (Err u) old new some same e f = tt

pub three_parts : (a b c p q r : List ℕ) → a ≡ [] ++ p → b ≡ a ++ q → c ≡ b ++ r → c ≡ (p ++ q) ++ r
three_parts a b c p q r e f g = g ∙ ap (λ t. t ++ r) (f ∙ ap (λ t. t ++ q) e)
