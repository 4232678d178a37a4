-- Entries that rise strictly, by their places.
use Rattle.std.proofs.Common.{◌≡◌, ℕ, ◌<◌, zero, suc, Bool, true, false, T, ◌&&◌, List, [], ◌∷◌, Some, refl, ap, ◌∙◌, arith}
use Rattle.std.specs.Prelude.{slice_get}
use Rattle.std.specs.FinMap as finmap
use Rattle.std.specs.FinMap.Entries.{below_all}
use Rattle.std.specs.Ordering.{is_lt}
use Rattle.std.specs.declared.cmp.Ordering.{Ordering}
use Rattle.std.specs.declared.cmp.Ordering.TheVariants.{Less, Equal, Greater}

parts : (a b : Bool) → T (a && b) → T a × T b
parts true b p = (tt, p)
parts false b p = absurd p

is_less : (o : Ordering) → T (is_lt o) → o ≡ Less
is_less Less p = refl
is_less Equal p = absurd p
is_less Greater p = absurd p

module _ {K X : Type 0} (R : K → K → Ordering) where
  below_at : (k : K) (es : List (K × X)) (i : ℕ) (b : K × X) → T (below_all R k es) → Some b ≡ slice_get es i → R k b.0 ≡ Less
  below_at k [] i b h at = cc
  below_at k (e ∷ es) zero b h at = let same : b ≡ e = cc in ap (λ (x : K × X). R k x.0) same ∙ is_less _ (parts _ _ h).0
  below_at k (e ∷ es) (suc i) b h at = below_at k es i b (parts _ _ h).1 at

  pub rising : (es : List (K × X)) (i j : ℕ) (a b : K × X) → T (finmap.is_sorted R es) → Some a ≡ slice_get es i → Some b ≡ slice_get es j → i < j → R a.0 b.0 ≡ Less
  rising [] i j a b s p q h = cc
  rising (e ∷ es) zero zero a b s p q h = absurd (omega arith)
  rising (e ∷ es) zero (suc j) a b s p q h = let same : a ≡ e = cc in ap (λ (x : K × X). R x.0 b.0) same ∙ below_at e.0 es j b (parts _ _ s).0 q
  rising (e ∷ es) (suc i) zero a b s p q h = absurd (omega arith)
  rising (e ∷ es) (suc i) (suc j) a b s p q h = rising es i j a b (parts _ _ s).1 p q (omega arith)
