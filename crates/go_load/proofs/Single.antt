-- Steps that have one outcome.
use Rattle.std.proofs.Common.{◌≡◌, ℕ, zero, suc, inl, inr, ◌⊎◌, List, [], ◌∷◌, Some, Result, Ok, Err, refl, sym, ap, subst, ◌∙◌}
use Rattle.cov_outside.specs.Tree.{Tree}
use Rattle.go_ast.specs.Places.{place_at}
use Rattle.go_load.specs.GoMod as go_mod
use Rattle.go_load.specs.Homes.{HomeAt, go_mod_path, home_from}
use Rattle.go_load.specs.Outcome.{IsSingle, ReadsOne}
use Rattle.go_load.specs.Packages.{EachOf, FromNames, FromText, PackageAt, SourceIn, package_of, path_in, text_at}
use Rattle.go_load.specs.Readings.{Reading}
use Rattle.go_load.specs.Refusals.{Is, Outcomes, Then}
use Rattle.go_load.specs.declared.contents.Home.{Home}
use Rattle.go_load.specs.declared.contents.Source.{Source}
use Rattle.go_load.specs.declared.reader.ReadFault.TheVariants as faults
use Rattle.go_load.specs.declared.refusal.LoadRefusal.{LoadRefusal}
use Rattle.go_load.specs.declared.refusal.LoadRefusal.TheVariants as refusals

-- ---- one outcome

pub ok_one : {A : Type 0} (there : Outcomes A) → IsSingle there → (x y : A) → there (Ok x) → there (Ok y) → x ≡ y
ok_one there one x y a b = let is = one (Ok x) (Ok y) a b in cc

pub err_one : {A : Type 0} (there : Outcomes A) → IsSingle there → (d e : LoadRefusal) → there (Err d) → there (Err e) → d ≡ e
err_one there one d e a b = let is = one (Err d) (Err e) a b in cc

pub never_both : {A : Type 0} (there : Outcomes A) → IsSingle there → (x : A) (e : LoadRefusal) → there (Ok x) → there (Err e) → ⊥
never_both there one x e a b = let is = one (Ok x) (Err e) a b in cc

pub is_one : {A : Type 0} (r : Result A LoadRefusal) → IsSingle (Is r)
is_one r x y a b = a ∙ sym b

pub then_one : {A B : Type 0} (first : Outcomes A) (next : A → Outcomes B) → IsSingle first → ((x : A) → first (Ok x) → IsSingle (next x)) → IsSingle (Then first next)
then_one first next one more (Ok y) (Ok z) (u, p, a) (v, q, b) =
    let same : u ≡ v = ok_one first one u v p q in
    more v q (Ok y) (Ok z) (subst (λ w. next w (Ok y)) same a) b
then_one first next one more (Ok y) (Err e) (u, p, a) (inl q) = absurd (never_both first one u e p q)
then_one first next one more (Ok y) (Err e) (u, p, a) (inr (v, q, b)) =
    let same : u ≡ v = ok_one first one u v p q in
    more v q (Ok y) (Err e) (subst (λ w. next w (Ok y)) same a) b
then_one first next one more (Err d) (Ok z) (inl p) (v, q, b) = absurd (never_both first one v d q p)
then_one first next one more (Err d) (Ok z) (inr (u, p, a)) (v, q, b) =
    let same : u ≡ v = ok_one first one u v p q in
    more v q (Err d) (Ok z) (subst (λ w. next w (Err d)) same a) b
then_one first next one more (Err d) (Err e) (inl p) (inl q) = let same : d ≡ e = err_one first one d e p q in ap (λ x. Err x) same
then_one first next one more (Err d) (Err e) (inl p) (inr (v, q, b)) = absurd (never_both first one v d q p)
then_one first next one more (Err d) (Err e) (inr (u, p, a)) (inl q) = absurd (never_both first one u e p q)
then_one first next one more (Err d) (Err e) (inr (u, p, a)) (inr (v, q, b)) =
    let same : u ≡ v = ok_one first one u v p q in
    more v q (Err d) (Err e) (subst (λ w. next w (Err d)) same a) b

-- ---- many steps

pub some_same : {A : Type 0} (x y : A) → Some x ≡ Some y → x ≡ y
some_same x y is = cc

-- what the first of many steps and the rest come to
each_first : {A B : Type 0} (step : A → Outcomes B) (x : A) (xs : List A) (e : LoadRefusal) → EachOf step (x ∷ xs) (Err e) → step x (Err e) ⊎ ((y : B) × step x (Ok y) × EachOf step xs (Err e))
each_first step x xs e (zero, x', ys, at, front, this) = inl (subst (λ z. step z (Err e)) (some_same x' x (sym at)) this)
each_first step x xs e (suc k, x', [], at, front, this) = absurd front
each_first step x xs e (suc k, x', y ∷ ys, at, front, this) = inr (y, front.0, (k, x', ys, at, front.1, this))

pub each_one : {A B : Type 0} (step : A → Outcomes B) (one : (x : A) → IsSingle (step x)) (xs : List A) → IsSingle (EachOf step xs)
each_one step one [] (Ok []) (Ok []) p q = refl
each_one step one [] (Ok []) (Ok (y ∷ ys)) p q = absurd q
each_one step one [] (Ok (y ∷ ys)) s p q = absurd p
each_one step one [] (Ok []) (Err e) p (k, x, ys, at, front, this) = cc
each_one step one [] (Err e) s (k, x, ys, at, front, this) q = cc
each_one step one (x ∷ xs) (Ok []) s p q = absurd p
each_one step one (x ∷ xs) (Ok (y ∷ ys)) (Ok []) p q = absurd q
each_one step one (x ∷ xs) (Ok (y ∷ ys)) (Ok (z ∷ zs)) p q =
    let first : y ≡ z = ok_one (step x) (one x) y z p.0 q.0 in
    let rest : ys ≡ zs = ok_one (EachOf step xs) (each_one step one xs) ys zs p.1 q.1 in
    cc
each_one step one (x ∷ xs) (Ok (y ∷ ys)) (Err e) p q =
    elim (each_first step x xs e q) [
      | inl this ↦ absurd (never_both (step x) (one x) y e p.0 this)
      | inr later ↦ absurd (never_both (EachOf step xs) (each_one step one xs) ys e p.1 later.2)
    ]
each_one step one (x ∷ xs) (Err d) (Ok []) p q = absurd q
each_one step one (x ∷ xs) (Err d) (Ok (z ∷ zs)) p q =
    elim (each_first step x xs d p) [
      | inl this ↦ absurd (never_both (step x) (one x) z d q.0 this)
      | inr later ↦ absurd (never_both (EachOf step xs) (each_one step one xs) zs d q.1 later.2)
    ]
each_one step one (x ∷ xs) (Err d) (Err e) p q =
    elim (each_first step x xs d p) [
      | inl this ↦ elim (each_first step x xs e q) [
        | inl that ↦ ap (λ y. Err y) (err_one (step x) (one x) d e this that)
        | inr later ↦ absurd (never_both (step x) (one x) later.0 d later.1 this)
      ]
      | inr later ↦ elim (each_first step x xs e q) [
        | inl that ↦ absurd (never_both (step x) (one x) later.0 e later.1 that)
        | inr also ↦ each_one step one xs (Err d) (Err e) later.2 also.2
      ]
    ]

-- ---- a source file

source_same : (r s : Source) → r.tree ≡ s.tree → r.name ≡ s.name → r.text ≡ s.text → r ≡ s
source_same r s tree name text i = record { name = name i; tree = tree i; text = text i }

module _ (gives : Reading) (reads_one : ReadsOne gives) where
  text_one : (path name text : List ℕ) → IsSingle (FromText gives path name text)
  text_one path name text (Ok r) (Ok s) p q =
      let trees = reads_one text (Ok r.tree) (Ok s.tree) tt tt p.0 q.0 in
      let tree : r.tree ≡ s.tree = cc in
      ap (λ x. Ok x) (source_same r s tree (p.1 ∙ sym q.1) (p.2 ∙ sym q.2))
  text_one path name text (Ok r) (Err (refusals.Source p' place kind)) p q = let is = reads_one text (Ok r.tree) (Err (faults.At q.0 kind)) tt tt p.0 q.1 in cc
  text_one path name text (Ok r) (Err (refusals.Limit which)) p q = let is = reads_one text (Ok r.tree) (Err (faults.Limit which)) tt tt p.0 q in cc
  text_one path name text (Err (refusals.Source p' place kind)) (Ok s) p q = let is = reads_one text (Ok s.tree) (Err (faults.At p.0 kind)) tt tt q.0 p.1 in cc
  text_one path name text (Err (refusals.Limit which)) (Ok s) p q = let is = reads_one text (Ok s.tree) (Err (faults.Limit which)) tt tt q.0 p in cc
  text_one path name text (Err (refusals.Source p' place kind)) (Err (refusals.Source q' place' kind')) p q =
      let is = reads_one text (Err (faults.At p.0 kind)) (Err (faults.At q.0 kind')) tt tt p.1 q.1 in
      let kinds : kind ≡ kind' = cc in
      let offsets : p.0 ≡ q.0 = cc in
      let paths : p' ≡ q' = p.2 ∙ sym q.2 in
      let places : place ≡ place' = p.3 ∙ ap (place_at text) offsets ∙ sym q.3 in
      cc
  text_one path name text (Err (refusals.Source p' place kind)) (Err (refusals.Limit which)) p q = let is = reads_one text (Err (faults.At p.0 kind)) (Err (faults.Limit which)) tt tt p.1 q in cc
  text_one path name text (Err (refusals.Limit which)) (Err (refusals.Source q' place kind)) p q = let is = reads_one text (Err (faults.At q.0 kind)) (Err (faults.Limit which)) tt tt q.1 p in cc
  text_one path name text (Err (refusals.Limit which)) (Err (refusals.Limit which')) p q =
      let is = reads_one text (Err (faults.Limit which)) (Err (faults.Limit which')) tt tt p q in
      let same : which ≡ which' = cc in
      cc
  text_one path name text (Err (refusals.Load p' kind)) s p q = absurd p
  text_one path name text (Err (refusals.Missing p')) s p q = absurd p
  text_one path name text (Err refusals.Read) s p q = absurd p
  text_one path name text (Err refusals.NoMemory) s p q = absurd p
  text_one path name text r (Err (refusals.Load p' kind)) p q = absurd q
  text_one path name text r (Err (refusals.Missing p')) p q = absurd q
  text_one path name text r (Err refusals.Read) p q = absurd q
  text_one path name text r (Err refusals.NoMemory) p q = absurd q

  source_one : (t : Tree) (dir name : List ℕ) → IsSingle (SourceIn gives t dir name)
  source_one t dir name = then_one (Is (text_at t (path_in dir name))) (FromText gives (path_in dir name) name) (is_one (text_at t (path_in dir name))) (λ text p. text_one (path_in dir name) name text)

  -- ---- a package

  names_one : (t : Tree) (home : Home) (path : List ℕ) (names : List (List ℕ)) → IsSingle (FromNames gives t home path names)
  names_one t home path [] = is_one _
  names_one t home path (name ∷ names) = then_one _ (λ sources. Is (package_of home path sources)) (each_one _ (λ n. source_one t _ n) (name ∷ names)) (λ sources p. is_one (package_of home path sources))

  pub package_one : (t : Tree) (home : Home) (path : List ℕ) → IsSingle (PackageAt gives t home path)
  package_one t home path = names_one t home path _

-- ---- the module

pub home_one : (t : Tree) (dir : List ℕ) → IsSingle (HomeAt t dir)
home_one t dir = then_one (Is (text_at t (go_mod_path dir))) (λ text. Is (home_from dir (go_mod.path_in text))) (is_one (text_at t (go_mod_path dir))) (λ text p. is_one (home_from dir (go_mod.path_in text)))
