-- What functions add is a program.
use Rattle.std.proofs.Common.{◌≡◌, ℕ, suc, ◌+◌, ◌<◌, ◌≤◌, Bool, true, false, cond, List, [], ◌∷◌, ◌++◌, length, map, Option, Some, None, refl, sym, ap, ap₂, ◌∙◌, subst, arith}
use Rattle.std.specs.Prelude.{slice_get, flat_map, nat_lt}
use Rattle.std.specs.Option.{MatchOption}
use Rattle.std.specs.List.{range_with_len}
use Rattle.go_meaning.specs.declared.node.Node.{Node}
use Rattle.go_meaning.specs.declared.program.Function.{Function}
use Rattle.go_meaning.specs.Programs.{Parts, list_at, form_of, form_at, no_function, owner_from, owner_of}
use Rattle.go_meaning.specs.Lists.{Nest, one, within, cutting_order}
use Rattle.go_meaning.specs.WellFormed.{IsStatement}
use Rattle.go_bounds.specs.Known.{Each}
use Rattle.go_bounds.specs.Pieces.{IsSound, AreSound, Stand, FunctionsStand}
use Rattle.go_bounds.specs.Laws.{FunctionsMakeProgram}
use Rattle.go_bounds.proofs.Naming.{Perhaps, each_append, each_get, each_more}
use Rattle.go_bounds.proofs.Pieces.{stand_le}

-- ---- numbers that run from one up to another

abbrev Runs : ℕ → List ℕ → ℕ → Type 0
Runs a [] b = a ≡ b
Runs a (x ∷ xs) b = (x ≡ a) × Runs (suc a) xs b

runs_join : (a : ℕ) (xs : List ℕ) (b : ℕ) (ys : List ℕ) (c : ℕ) → Runs a xs b → Runs b ys c → Runs a (xs ++ ys) c
runs_join a [] b ys c h k = subst (λ n. Runs n ys c) (sym h) k
runs_join a (x ∷ xs) b ys c h k = (h.0, runs_join (suc a) xs b ys c h.1 k)

runs_length : (a : ℕ) (xs : List ℕ) (b : ℕ) → Runs a xs b → a + length xs ≡ b
runs_length a [] b h = omega (arith, h)
runs_length a (x ∷ xs) b h = omega (arith, runs_length (suc a) xs b h.1)

runs_range : (a : ℕ) (xs : List ℕ) (b : ℕ) → Runs a xs b → xs ≡ range_with_len a (length xs)
runs_range a [] b h = refl
runs_range a (x ∷ xs) b h =
    let next : suc a ≡ a + 1 = omega arith in
    ap₂ (λ y ys. y ∷ ys) h.0 (runs_range (suc a) xs b h.1 ∙ ap (λ n. range_with_len n (length xs)) next)

module _ (P : Parts) where
  numbers : (S a : ℕ) (ns : List Nest) (b : ℕ) → Stand P S a ns b → Runs a (map (λ (n : Nest). n.list) ns) b
  numbers S a [] b h = h
  numbers S a (n ∷ ns) b h = (h.0, numbers S (suc a) ns b h.2)

  map_join : (ns ms : List Nest) → map (λ (n : Nest). n.list) (ns ++ ms) ≡ map (λ (n : Nest). n.list) ns ++ map (λ (n : Nest). n.list) ms
  map_join [] ms = refl
  map_join (n ∷ ns) ms = ap (λ l. n.list ∷ l) (map_join ns ms)

  abbrev nests_of : Function → List Nest
  nests_of f = one (within P (length P.lists)) 0 f.body

  all_numbers : (fs : List Function) (a b : ℕ) → FunctionsStand P a fs b → Runs a (map (λ (n : Nest). n.list) (flat_map nests_of fs)) b
  all_numbers [] a b h = h
  all_numbers (f ∷ fs) a b h =
      subst (λ xs. Runs a xs b) (sym (map_join (nests_of f) (flat_map nests_of fs)))
      (runs_join a (map (λ (n : Nest). n.list) (nests_of f)) h.0 (map (λ (n : Nest). n.list) (flat_map nests_of fs)) b (numbers f.slots a (nests_of f) h.0 h.2) (all_numbers fs h.0 b h.3))

  -- ---- whose a list is

  record IsIn (S a b : ℕ) (n : Nest) : Type 0 where
    from : a ≤ n.list
    to : n.list < b
    sound : AreSound P S n.marks (list_at P n.list)

  all_in : (S a : ℕ) (ns : List Nest) (b : ℕ) → Stand P S a ns b → Each (IsIn S a b) ns
  all_in S a [] b h = tt
  all_in S a (n ∷ ns) b h =
      let le : suc a ≤ b = stand_le P S (suc a) ns b h.2 in
      (record { from = omega (arith, h.0); to = omega (arith, h.0); sound = h.1 }, each_more (IsIn S (suc a) b) (IsIn S a b) (λ m k. record { from = omega (arith, k.from); to = k.to; sound = k.sound }) ns (all_in S (suc a) ns b h.2))

  functions_le : (fs : List Function) (a b : ℕ) → FunctionsStand P a fs b → a ≤ b
  functions_le [] a b h = omega (arith, h)
  functions_le (f ∷ fs) a b h = omega (arith, stand_le P f.slots a (nests_of f) h.0 h.2, functions_le fs h.0 b h.3)

  -- what is in the lists of its owner
  abbrev Owned : Function → List Function → Nest → Type 0
  Owned g fs n = AreSound P (owner_from g fs n.list).slots n.marks (list_at P n.list)

  not_before : (g f : Function) (fs : List Function) (n : Nest) → f.body ≤ n.list → owner_from g (f ∷ fs) n.list ≡ owner_from f fs n.list
  not_before g f fs n le = by (nat_lt n.list f.body) refl
    where
      by : (b : Bool) → nat_lt n.list f.body ≡ b → cond b g (owner_from f fs n.list) ≡ owner_from f fs n.list
      by true e = absurd (omega (arith, borrow.Author.Tests.ltb-true n.list f.body e))
      by false e = refl

  before : (f : Function) (fs : List Function) (n : Nest) (a b : ℕ) → FunctionsStand P a fs b → n.list < a → owner_from f fs n.list ≡ f
  before f [] n a b h lt = refl
  before f (g ∷ gs) n a b h lt = by (nat_lt n.list g.body) refl
    where
      by : (t : Bool) → nat_lt n.list g.body ≡ t → cond t f (owner_from g gs n.list) ≡ f
      by true e = refl
      by false e = absurd (omega (arith, borrow.Author.Tests.ltb-false n.list g.body e, h.2.0))

  pub all_owned : (g : Function) (fs : List Function) (a b : ℕ) → FunctionsStand P a fs b → Each (λ n. (a ≤ n.list) × Owned g fs n) (flat_map nests_of fs)
  all_owned g [] a b h = tt
  all_owned g (f ∷ fs) a b h =
      let le : a ≤ h.0 = stand_le P f.slots a (nests_of f) h.0 h.2 in
      each_append (λ n. (a ≤ n.list) × Owned g (f ∷ fs) n) (nests_of f) (flat_map nests_of fs)
      (each_more (IsIn f.slots a h.0) (λ n. (a ≤ n.list) × Owned g (f ∷ fs) n) (λ n k. (k.from, mine n k)) (nests_of f) (all_in f.slots a (nests_of f) h.0 h.2))
      (each_more (λ n. (h.0 ≤ n.list) × Owned f fs n) (λ n. (a ≤ n.list) × Owned g (f ∷ fs) n) (λ n k. (omega (arith, le, k.0), theirs le n k)) (flat_map nests_of fs) (all_owned f fs h.0 b h.3))
    where
      mine : (n : Nest) → IsIn f.slots a h.0 n → Owned g (f ∷ fs) n
      mine n k =
          let owner : owner_from g (f ∷ fs) n.list ≡ f = not_before g f fs n (omega (arith, h.2.0, k.from)) ∙ before f fs n h.0 b h.3 k.to in
          subst (λ (o : Function). AreSound P o.slots n.marks (list_at P n.list)) (sym owner) k.sound

      theirs : a ≤ h.0 → (n : Nest) → (h.0 ≤ n.list) × Owned f fs n → Owned g (f ∷ fs) n
      theirs le n k = subst (λ (o : Function). AreSound P o.slots n.marks (list_at P n.list)) (sym (not_before g f fs n (omega (arith, h.2.0, le, k.0)))) k.1

  all_params : (fs : List Function) (a b : ℕ) → FunctionsStand P a fs b → Each (λ (f : Function). f.params ≤ f.slots) fs
  all_params [] a b h = tt
  all_params (f ∷ fs) a b h = (h.1, all_params fs h.0 b h.3)

  -- ---- looked up

  matched : {A : Type 0} (T : A → Type 0) (o : Option A) → Perhaps T o → MatchOption o (Unit {0}) T
  matched T None h = tt
  matched T (Some x) h = h

  form_matched : (at : Nest) (o : Option Node) → Perhaps (λ (s : Node). IsSound P (owner_of P at.list).slots at.marks s.form) o → MatchOption (form_of o) (Unit {0}) (IsStatement P at)
  form_matched at None h = tt
  form_matched at (Some s) h = record { uses = h.uses; within = h.within }

  statement : (at : Nest) (i : ℕ) → Owned no_function P.functions at → MatchOption (form_at P at.list i) (Unit {0}) (IsStatement P at)
  statement at i h = form_matched at (slice_get (list_at P at.list) i) (each_get (λ (s : Node). IsSound P (owner_of P at.list).slots at.marks s.form) (list_at P at.list) i h)

pub functions_make_program : FunctionsMakeProgram
functions_make_program P h main packages =
    let runs = all_numbers P P.functions 0 (length P.lists) h in
    let long : length (map (λ (n : Nest). n.list) (cutting_order P)) ≡ length P.lists = omega (arith, runs_length 0 (map (λ (n : Nest). n.list) (cutting_order P)) (length P.lists) runs) in
    record {
      ordered = runs_range 0 (map (λ (n : Nest). n.list) (cutting_order P)) (length P.lists) runs ∙ ap (λ n. range_with_len 0 n) long;
      statements = λ k i. matched P (λ at. MatchOption (form_at P at.list i) (Unit {0}) (IsStatement P at)) (slice_get (cutting_order P) k)
          (each_get (λ at. MatchOption (form_at P at.list i) (Unit {0}) (IsStatement P at)) (cutting_order P) k
          (each_more (λ at. (0 ≤ at.list) × Owned P no_function P.functions at) (λ at. MatchOption (form_at P at.list i) (Unit {0}) (IsStatement P at)) (λ at o. statement P at i o.1) (cutting_order P) (all_owned P no_function P.functions 0 (length P.lists) h)));
      params = λ f. matched P (λ (g : Function). g.params ≤ g.slots) (slice_get P.functions f) (each_get (λ (g : Function). g.params ≤ g.slots) P.functions f (all_params P P.functions 0 (length P.lists) h));
      main = main;
      packages = packages;
    }
