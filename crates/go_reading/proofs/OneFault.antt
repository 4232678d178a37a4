-- Tokens have one fault at most, and none where they spell a file.
use Rattle.std.proofs.Common.{◌≡◌, Bool, true, false, ℕ, ◌+◌, ◌-◌, ◌≤◌, ◌<◌, List, ◌++◌, length, take, drop, nat_lt, refl, sym, ap, subst, ◌∙◌, append_assoc, arith}
use Rattle.std.proofs.lemmas.Bool.{ltb-true, ltb-false}
use Rattle.std.proofs.lemmas.List.{take-append-drop}
use Rattle.std.proofs.Math.Seq.{take-add}
use Rattle.go_ast.specs.declared.file.File.{File}
use Rattle.go_grammar.specs.Words.{Word}
use Rattle.go_grammar.specs.declared.form.Form.{Form as TextForm}
use Rattle.go_grammar.specs.Files.{SpellsWithin}
use Rattle.go_grammar.specs.Verdicts.{BeginsWithin}
use Rattle.go_reading.specs.declared.fault.Fault.{Fault}
use Rattle.go_reading.specs.declared.fault.Fault.TheVariants.{Unexpected, TooDeep, TooMany, Exhausted}
use Rattle.go_reading.specs.Outcomes.{IsFaultAt, TreeHasNoFault, OneFault}

module _ (form : TextForm) where
  -- what begins with more tokens begins with fewer
  fewer_begin : (most depth i j : ℕ) (ts : List Word) → i ≤ j → BeginsWithin form most depth (take j ts) → BeginsWithin form most depth (take i ts)
  fewer_begin most depth i j ts le b =
      let e : i + (j - i) ≡ j = omega arith in
      let m = take (j - i) (drop i ts) in
      let two : take j ts ≡ take i ts ++ m = ap (λ (k : ℕ). take k ts) (sym e) ∙ take-add i (j - i) ts in
      let s : SpellsWithin form most depth b.1 (take j ts ++ b.0) = b.2 in
      (m ++ b.0, b.1, rw (two, append_assoc) at s)

  -- a file begins with its first tokens
  begun : (most depth i : ℕ) (ts : List Word) (file : File) → SpellsWithin form most depth file ts → BeginsWithin form most depth (take i ts)
  begun most depth i ts file s = (drop i ts, file, subst (SpellsWithin form most depth file) (sym (take-append-drop i ts)) s)

  -- a fault says that no text within the limits goes on with its token
  none_within : (most depth i : ℕ) (ts : List Word) (f : Fault) → IsFaultAt form most depth ts i f → i < length ts → BeginsWithin form most depth (take (i + 1) ts) → ⊥
  none_within most depth i ts Unexpected u lt b = u.token lt (b.0, b.1, (most, depth, b.2))
  none_within most depth i ts TooDeep u lt b = u.none most b
  none_within most depth i ts TooMany u lt b = u.none depth b
  none_within most depth i ts Exhausted u lt b = u

  before_it : (most depth i : ℕ) (ts : List Word) (f : Fault) → IsFaultAt form most depth ts i f → (i ≤ length ts) × BeginsWithin form most depth (take i ts)
  before_it most depth i ts Unexpected u = (u.within, u.before)
  before_it most depth i ts TooDeep u = (let l = u.within in omega arith, u.before)
  before_it most depth i ts TooMany u = (let l = u.within in omega arith, u.before)
  before_it most depth i ts Exhausted u = absurd u

  pub tree_has_no_fault : TreeHasNoFault form
  tree_has_no_fault most depth i ts file Unexpected s u = by (nat_lt i (length ts)) refl
    where
      by : (b : Bool) → nat_lt i (length ts) ≡ b → ⊥
      by true e = none_within most depth i ts Unexpected u (ltb-true i (length ts) e) (begun most depth (i + 1) ts file s)
      by false e = let a = ltb-false i (length ts) e in let l = u.within in u.end (omega arith) file (most, depth, s)
  tree_has_no_fault most depth i ts file TooDeep s u = none_within most depth i ts TooDeep u u.within (begun most depth (i + 1) ts file s)
  tree_has_no_fault most depth i ts file TooMany s u = none_within most depth i ts TooMany u u.within (begun most depth (i + 1) ts file s)
  tree_has_no_fault most depth i ts file Exhausted s u = u

  -- of two faults neither stands before the other
  not_before : (most depth i j : ℕ) (ts : List Word) (f g : Fault) → IsFaultAt form most depth ts i f → IsFaultAt form most depth ts j g → i < j → ⊥
  not_before most depth i j ts f g u v lt =
      let b = before_it most depth j ts g v in
      let l = b.0 in
      none_within most depth i ts f u (omega arith) (fewer_begin most depth (i + 1) j ts (omega arith) b.1)

  same_place : (most depth i : ℕ) (ts : List Word) (f g : Fault) → IsFaultAt form most depth ts i f → IsFaultAt form most depth ts i g → f ≡ g
  same_place most depth i ts Unexpected Unexpected u v = refl
  same_place most depth i ts Unexpected TooDeep u v = absurd (u.token v.within (v.token.1.0, v.token.1.1, (most, v.token.0, v.token.1.2)))
  same_place most depth i ts Unexpected TooMany u v = absurd (u.token v.within v.token)
  same_place most depth i ts TooDeep Unexpected u v = absurd (v.token u.within (u.token.1.0, u.token.1.1, (most, u.token.0, u.token.1.2)))
  same_place most depth i ts TooDeep TooDeep u v = refl
  same_place most depth i ts TooDeep TooMany u v = absurd (v.none u.token.0 u.token.1)
  same_place most depth i ts TooMany Unexpected u v = absurd (v.token u.within u.token)
  same_place most depth i ts TooMany TooDeep u v = absurd (u.none v.token.0 v.token.1)
  same_place most depth i ts TooMany TooMany u v = refl
  same_place most depth i ts Exhausted g u v = absurd u
  same_place most depth i ts f Exhausted u v = absurd v

  pub one_fault : OneFault form
  one_fault most depth i j ts f g u v = by (nat_lt i j) (nat_lt j i) refl refl
    where
      by : (a b : Bool) → nat_lt i j ≡ a → nat_lt j i ≡ b → (i ≡ j) × (f ≡ g)
      by true b p q = absurd (not_before most depth i j ts f g u v (ltb-true i j p))
      by false true p q = absurd (not_before most depth j i ts g f v u (ltb-true j i q))
      by false false p q =
          let a = ltb-false i j p in
          let b = ltb-false j i q in
          let e : i ≡ j = omega arith in
          (e, same_place most depth i ts f g u (subst (λ (k : ℕ). IsFaultAt form most depth ts k g) (sym e) v))
