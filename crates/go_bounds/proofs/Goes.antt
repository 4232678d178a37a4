-- Steps of checking that make lists.
use Rattle.std.proofs.Common.{◌≡◌, ℕ, suc, ◌+◌, ◌<◌, ◌≤◌, List, [], ◌∷◌, ◌++◌, length, take, ap, ◌∙◌, arith, length-append, length-take, replicate}
use Rattle.std.proofs.lemmas.List.{get_or_append_left, length-replicate}
use Rattle.std.specs.Prelude.{slice_index_or}
use Rattle.go_meaning.specs.declared.node.Node.{Node}
use Rattle.go_meaning.specs.Programs.{Parts, list_at}
use Rattle.go_types.specs.declared.walk.Enclosing.{Enclosing}
use Rattle.go_types.specs.declared.walk.Walk.{Walk}
use Rattle.go_types.specs.Walking.{opened, closed}
use Rattle.go_bounds.proofs.Calm.{Ready, Calm, closed_ready, IsAround, around_refl, around_trans, around_closed}

-- what a state holds under a number
abbrev pub held_at : Walk → ℕ → List Node
held_at s n = slice_index_or s.lists n []

-- the program has the lists that checking has made from a number on, and as many slots as it has declared
pub record Ends (P : Parts) (slots from : ℕ) (t : Walk) : Type 0 where
  pub declared : length t.declared ≤ slots
  pub bound : length t.lists ≤ length P.lists
  pub lists : (n : ℕ) → from ≤ n → n < length t.lists → list_at P n ≡ held_at t n

module _ (P : Parts) (first : ℕ) where
  -- from one state to another: lists are added, and those before stay, but for those of some numbers
  pub record Goes (marks lo hi : ℕ) (s t : Walk) : Type 0 where
    pub ready : Ready P first marks t
    pub slots : length s.declared ≤ length t.declared
    pub lists : length s.lists ≤ length t.lists
    pub names : IsAround s.names t.names
    pub kept : (n : ℕ) → n < length s.lists → (lo ≤ n → n < hi → ⊥) → held_at t n ≡ held_at s n

  pub goes_calm : (marks : ℕ) (s t : Walk) → Calm P first marks s t → Goes marks 0 0 s t
  goes_calm marks s t h = record {
    ready = h.ready;
    slots = h.slots;
    lists = omega (arith, ap length h.lists);
    names = h.names;
    kept = λ n l k. ap (λ ls. slice_index_or ls n []) h.lists;
  }

  pub goes_trans : (marks lo hi : ℕ) (s t u : Walk) → Goes marks lo hi s t → Goes marks lo hi t u → Goes marks lo hi s u
  goes_trans marks lo hi s t u h k = record {
    ready = k.ready;
    slots = omega (arith, h.slots, k.slots);
    lists = omega (arith, h.lists, k.lists);
    names = around_trans s.names t.names u.names h.names k.names;
    kept = λ n l x. k.kept n (omega (arith, h.lists)) x ∙ h.kept n l x;
  }

  -- but for more numbers
  pub goes_wider : (marks lo hi lo' hi' : ℕ) (s t : Walk) → lo' ≤ lo → hi ≤ hi' → Goes marks lo hi s t → Goes marks lo' hi' s t
  goes_wider marks lo hi lo' hi' s t a b h = record { ready = h.ready; slots = h.slots; lists = h.lists; names = h.names; kept = λ n l x. h.kept n l (λ p q. x (omega arith) (omega arith)) }

  pub goes_none : (marks lo hi : ℕ) (s t : Walk) → Goes marks 0 0 s t → Goes marks lo hi s t
  goes_none marks lo hi s t h = record { ready = h.ready; slots = h.slots; lists = h.lists; names = h.names; kept = λ n l x. h.kept n l (λ p q. absurd (omega arith)) }

  -- numbers that aren't there yet are no exception
  pub goes_all : (marks lo hi : ℕ) (s t : Walk) → length s.lists ≤ lo → Goes marks lo hi s t → Goes marks 0 0 s t
  goes_all marks lo hi s t a h = record { ready = h.ready; slots = h.slots; lists = h.lists; names = h.names; kept = λ n l x. h.kept n l (λ p q. omega arith) }

  -- ---- what the program has

  -- what it has at the end it has before
  pub ends_before : (slots a lo hi marks : ℕ) (t u : Walk) → hi ≤ a → Goes marks lo hi t u → Ends P slots a u → Ends P slots a t
  ends_before slots a lo hi marks t u le h e = record {
    declared = omega (arith, h.slots, e.declared);
    bound = omega (arith, h.lists, e.bound);
    lists = λ n p q. e.lists n p (omega (arith, h.lists)) ∙ h.kept n q (λ v w. omega arith);
  }

  pub ends_after : (slots a b : ℕ) (t : Walk) → a ≤ b → Ends P slots a t → Ends P slots b t
  ends_after slots a b t le e = record { declared = e.declared; bound = e.bound; lists = λ n p q. e.lists n (omega arith) q }

  -- ---- new lists

  pub goes_made : (marks n : ℕ) (s : Walk) → Ready P first marks s → Goes marks 0 0 s (record s { lists = s.lists ++ replicate n [] })
  goes_made marks n s r = record {
    ready = record { known = r.known; unit = r.unit; around = r.around };
    slots = omega arith;
    lists = omega (arith, length-append s.lists (replicate n []));
    names = around_refl s.names;
    kept = λ k l x. get_or_append_left s.lists (replicate n []) [] k l;
  }

  pub made_length : (n : ℕ) (s : Walk) → length (s.lists ++ replicate n []) ≡ length s.lists + n
  made_length n s = length-append s.lists (replicate n []) ∙ ap (λ k. length s.lists + k) (length-replicate n [])

  -- ---- scopes and statements around

  pub goes_scoped : (marks lo hi : ℕ) (s t : Walk) → Goes marks lo hi (opened s) t → Goes marks lo hi s (closed s t)
  goes_scoped marks lo hi s t h = record { ready = closed_ready P first marks s t h.ready; slots = h.slots; lists = h.lists; names = around_closed s.names t.names h.names; kept = h.kept }

  abbrev pub inside : Walk → Enclosing → Walk
  inside s e = record s { around = s.around ++ e ∷ [] }

  abbrev pub outside : Walk → Walk → Walk
  outside s t = record t { around = take (length s.around) t.around }

  pub inside_ready : (marks : ℕ) (s : Walk) (e : Enclosing) → Ready P first marks s → Ready P first (suc marks) (inside s e)
  inside_ready marks s e r = record { known = r.known; unit = r.unit; around = omega (arith, length-append s.around (e ∷ []), r.around) }

  pub goes_outside : (marks lo hi : ℕ) (s : Walk) (e : Enclosing) (t : Walk) → Ready P first marks s → Goes (suc marks) lo hi (inside s e) t → Goes marks lo hi s (outside s t)
  goes_outside marks lo hi s e t r h = record {
    ready = record { known = h.ready.known; unit = h.ready.unit; around = omega (arith, length-take (length s.around) t.around, r.around, h.ready.around) };
    slots = h.slots;
    lists = h.lists;
    names = h.names;
    kept = h.kept;
  }
