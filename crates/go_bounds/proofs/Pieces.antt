-- Pieces of a program's lists, joined.
use Rattle.std.proofs.Common.{◌≡◌, ℕ, zero, suc, ◌+◌, ◌≤◌, List, [], ◌∷◌, ◌++◌, length, map, refl, sym, ◌∙◌, subst, arith}
use Rattle.std.specs.Prelude.{flat_map}
use Rattle.go_meaning.specs.declared.node.Node.{Node}
use Rattle.go_meaning.specs.declared.node.NodeForm.{NodeForm}
use Rattle.go_meaning.specs.Programs.{Parts, list_at}
use Rattle.go_meaning.specs.Lists.{Nest, Walk, nest, one, clauses, nested_in, within}
use Rattle.go_bounds.specs.Pieces.{IsSound, AreSound, Stand}

module _ (P : Parts) (slots : ℕ) where
  pub stand_le : (a : ℕ) (ns : List Nest) (b : ℕ) → Stand P slots a ns b → a ≤ b
  stand_le a [] b h = omega (arith, h)
  stand_le a (n ∷ ns) b h = omega (arith, stand_le (suc a) ns b h.2)

  pub stand_length : (a : ℕ) (ns : List Nest) (b : ℕ) → Stand P slots a ns b → a + length ns ≡ b
  stand_length a [] b h = omega (arith, h)
  stand_length a (n ∷ ns) b h = omega (arith, stand_length (suc a) ns b h.2)

  pub stand_join : (a : ℕ) (ns : List Nest) (b : ℕ) (ms : List Nest) (c : ℕ) → Stand P slots a ns b → Stand P slots b ms c → Stand P slots a (ns ++ ms) c
  stand_join a [] b ms c h k = subst (λ n. Stand P slots n ms c) (sym h) k
  stand_join a (n ∷ ns) b ms c h k = (h.0, h.1, stand_join (suc a) ns b ms c h.2 k)

  -- the lists that are nested in a list of statements
  abbrev pub nested : Walk → ℕ → List Node → List Nest
  nested w m ns = flat_map (λ (s : Node). nested_in w m s.form) ns

  -- what a form, a list and a numbered list add, from one number up to another
  pub record FormStands (m : ℕ) (x : NodeForm) (a b : ℕ) : Type 0 where
    pub sound : IsSound P slots m x
    pub nests : (d : ℕ) → b ≤ a + d → Stand P slots a (nested_in (within P d) m x) b

  pub record ListStands (m : ℕ) (ns : List Node) (a b : ℕ) : Type 0 where
    pub sound : AreSound P slots m ns
    pub nests : (d : ℕ) → b ≤ a + d → Stand P slots a (nested (within P d) m ns) b

  pub record BlockStands (m l a b : ℕ) : Type 0 where
    pub nests : (d : ℕ) → b ≤ a + d → Stand P slots a (one (within P d) m l) b

  pub list_none : (m a b : ℕ) → a ≡ b → ListStands m [] a b
  list_none m a b e = record { sound = tt; nests = λ d h. e }

  pub form_le : (m : ℕ) (x : NodeForm) (a b : ℕ) → FormStands m x a b → a ≤ b
  form_le m x a b h = stand_le a _ b (h.nests b (omega arith))

  pub list_le : (m : ℕ) (ns : List Node) (a b : ℕ) → ListStands m ns a b → a ≤ b
  list_le m ns a b h = stand_le a _ b (h.nests b (omega arith))

  pub list_more : (m : ℕ) (n : Node) (ns : List Node) (a b c : ℕ) → FormStands m n.form a b → ListStands m ns b c → ListStands m (n ∷ ns) a c
  list_more m n ns a b c h k = record {
    sound = (h.sound, k.sound);
    nests = λ d le.
        let first : a ≤ b = form_le m n.form a b h in
        let last : b ≤ c = list_le m ns b c k in
        stand_join a (nested_in (within P d) m n.form) b (nested (within P d) m ns) c (h.nests d (omega arith)) (k.nests d (omega arith));
  }

  -- a list under the next number
  pub block_stands : (m l a b : ℕ) → l ≡ a → ListStands m (list_at P l) (suc a) b → BlockStands m l a b
  block_stands m l a b e h = record { nests = by }
    where
      by : (d : ℕ) → b ≤ a + d → Stand P slots a (one (within P d) m l) b
      by zero le = let more : suc a ≤ b = list_le m (list_at P l) (suc a) b h in absurd (omega arith)
      by (suc d) le = (e, h.sound, h.nests d (omega arith))

  -- ---- clauses

  -- lists with numbers from one on, and what is nested in them
  pub record ClausesStand (m : ℕ) (ls : List ℕ) (l to a b : ℕ) : Type 0 where
    pub numbers : Stand P slots l (map (nest m) ls) to
    pub nests : (d : ℕ) → b ≤ a + d → Stand P slots a (flat_map (within P (suc d) m) ls) b

  pub clauses_none : (m l a b to : ℕ) → l ≡ to → a ≡ b → ClausesStand m [] l to a b
  clauses_none m l a b to e f = record { numbers = e; nests = λ d h. f }

  pub clauses_le : (m : ℕ) (ls : List ℕ) (l to a b : ℕ) → ClausesStand m ls l to a b → a ≤ b
  clauses_le m ls l to a b h = stand_le a _ b (h.nests b (omega arith))

  pub clauses_more : (m l l' : ℕ) (ls : List ℕ) (to a b c : ℕ) → l' ≡ suc l → ListStands m (list_at P l) a b → ClausesStand m ls l' to b c → ClausesStand m (l ∷ ls) l to a c
  clauses_more m l l' ls to a b c e h k = record {
    numbers = (refl, h.sound, subst (λ n. Stand P slots n (map (nest m) ls) to) e k.numbers);
    nests = λ d le.
        let first : a ≤ b = list_le m (list_at P l) a b h in
        let last : b ≤ c = clauses_le m ls l' to b c k in
        stand_join a (within P (suc d) m l) b (flat_map (within P (suc d) m) ls) c (h.nests d (omega arith)) (k.nests d (omega arith));
  }

  pub clauses_join : (m : ℕ) (ls : List ℕ) (l to b : ℕ) → ClausesStand m ls l to to b → (d : ℕ) → b ≤ l + d → Stand P slots l (clauses (within P d) m ls) b
  clauses_join m [] l to b h d le = h.numbers ∙ h.nests b (omega arith)
  clauses_join m (x ∷ ls) l to b h zero le =
      let more : suc l ≤ to = stand_le (suc l) _ to h.numbers.2 in
      let last : to ≤ b = clauses_le m (x ∷ ls) l to to b h in
      absurd (omega arith)
  clauses_join m (x ∷ ls) l to b h (suc d) le =
      let more : suc l ≤ to = stand_le (suc l) _ to h.numbers.2 in
      stand_join l (map (nest m) (x ∷ ls)) to (flat_map (within P (suc d) m) (x ∷ ls)) b h.numbers (h.nests d (omega arith))
