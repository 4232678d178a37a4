-- A reader that is good and reads what is derived answers the tree or the first fault.
use Rattle.std.proofs.Common.{◌≡◌, ℕ, suc, ◌+◌, ◌-◌, ◌≤◌, ◌<◌, List, [], ◌∷◌, ◌++◌, length, take, Result, Ok, Err, refl, sym, ap, subst, ◌∙◌, append_assoc, arith}
use Rattle.std.proofs.lemmas.List.{length-append, take_at}
use Rattle.go_grammar.specs.Words.{Word}
use Rattle.go_reading.specs.declared.fault.Fault.{Fault}
use Rattle.go_reading.specs.declared.fault.Fault.TheVariants.{Unexpected, TooDeep, TooMany, Exhausted}
use Rattle.go_reading.specs.Input.{Outcome, Reader}
use Rattle.go_reading.proofs.Good.{Room, ◌⊑◌, room, Form, At, Good, Rises, first}

abbrev good_of : {A : Type 0} → A → Result A Fault
good_of x = Ok x

abbrev bad_of : {A : Type 0} → Fault → Result A Fault
bad_of f = Err f

ok_is : {A : Type 0} (x y : A) → good_of x ≡ good_of y → x ≡ y
ok_is x y e = cc

pub not_ok : {A : Type 0} (f : Fault) (x : A) → bad_of {A = A} f ≡ good_of x → ⊥
not_ok f x e = cc

-- the outcomes that stay with more room, as long as one limit stays
abbrev None' : Fault → Type 0
None' f = ⊥

abbrev Strange : Fault → Type 0
Strange Unexpected = Unit {0}
Strange TooDeep = ⊥
Strange TooMany = ⊥
Strange Exhausted = ⊥

abbrev Deep : Fault → Type 0
Deep Unexpected = ⊥
Deep TooDeep = Unit {0}
Deep TooMany = ⊥
Deep Exhausted = ⊥

abbrev Many : Fault → Type 0
Many Unexpected = ⊥
Many TooDeep = ⊥
Many TooMany = Unit {0}
Many Exhausted = ⊥

-- some text in the room begins with these tokens
abbrev pub BeginsIn : {A : Type 0} → Form A → Room → List Word → Type 0
BeginsIn {A} R b ts = (more : List Word) × (x : A) × R b x (ts ++ more)

-- what stands before what is left
unfoldable pub before : List Word → List Word → List Word
before ts rest = take (length ts - length rest) ts

place : (ts front rest : List Word) → ts ≡ front ++ rest → length ts - length rest ≡ length front
place ts front rest e = let l = length-append front rest in let m : length ts ≡ length (front ++ rest) = ap length e in omega arith

front_is : (ts front rest : List Word) → ts ≡ front ++ rest → front ≡ before ts rest
unfolding before
front_is ts front rest e = rw (place ts front rest e, e) (sym (take_at front rest (length front) refl))

upto_is : (ts front r : List Word) (t : Word) → ts ≡ front ++ t ∷ r → take (length ts - length (t ∷ r) + 1) ts ≡ front ++ t ∷ []
upto_is ts front r t e =
    let l = length-append front (t ∷ []) in
    let parts : ts ≡ (front ++ t ∷ []) ++ r = e ∙ sym (append_assoc front (t ∷ []) r) in
    rw (place ts front (t ∷ r) e, parts) (take_at (front ++ t ∷ []) r (length front + 1) (omega arith))

module _ {A : Type 0} (R : Form A) (top : ℕ → Room → Reader A)
    (good : (K : Fault → Type 0) (never : K Exhausted → ⊥) (n n' : ℕ) → 1 ≤ n → n ≤ n' → (d d' : Room) → d ⊑ d' → (K TooDeep → d.0 ≡ d'.0) → (K TooMany → d.1 ≡ d'.1) → 1 ≤ d.0 → (ts : List Word) → Good n d K R (top n d) (top n' d') ts)
    (reads : (n : ℕ) (d : Room) → 1 ≤ d.0 → (x : A) (w : List Word) → R d x w → length w < n → top n d w ≡ (Ok x, []))
    (rises : Rises R) (n : ℕ) (turns : 1 ≤ n) (d : Room) (some : 1 ≤ d.0) where
  AtTop : (K : Fault → Type 0) (n' : ℕ) (d' : Room) (ts : List Word) → Outcome A → Type 0
  AtTop K n' d' ts o = At n d K R (top n' d') ts o.0 o.1

  at_top : (K : Fault → Type 0) (never : K Exhausted → ⊥) (n' : ℕ) → n ≤ n' → (d' : Room) → d ⊑ d' → (K TooDeep → d.0 ≡ d'.0) → (K TooMany → d.1 ≡ d'.1) → (ts : List Word) (o : Outcome A) → top n d ts ≡ o → AtTop K n' d' ts o
  unfolding AtTop
  at_top K never n' len d' led deep many ts o e = subst (AtTop K n' d' ts) e (good K never n n' turns len d d' led deep many some ts)

  plain_at : (ts : List Word) (o : Outcome A) → top n d ts ≡ o → AtTop None' n d ts o
  plain_at ts o e = at_top None' (λ b. b) n (omega arith) d (room d) (λ b. absurd b) (λ b. absurd b) ts o e

  pub parts : (ts rest : List Word) (v : Result A Fault) → top n d ts ≡ (v, rest) → ts ≡ before ts rest ++ rest
  unfolding AtTop
  parts ts rest v o =
      let a : At n d None' R (top n d) ts v rest = plain_at ts (v, rest) o in
      a.cut ∙ ap (λ (w : List Word). w ++ rest) (front_is ts a.front rest a.cut)

  -- with more room, as far as the outcome allows it, and more turns, a text that goes on so isn't read
  not_read : (K : Fault → Type 0) (never : K Exhausted → ⊥) (f : Fault) → K f → (d' : Room) → d ⊑ d' → (K TooDeep → d.0 ≡ d'.0) → (K TooMany → d.1 ≡ d'.1) → (ts rest : List Word) → top n d ts ≡ (Err f, rest)
      → (r : List Word) → first r ≡ first rest → (x : A) → R d' x (before ts rest ++ r) → ⊥
  unfolding AtTop
  not_read K never f stays d' led deep many ts rest o r is x s =
      let text = before ts rest ++ r in
      let n' = n + (length text + 1) in
      let a : At n d K R (top n' d') ts (Err f) rest = at_top K never n' (omega arith) d' led deep many ts (Err f, rest) o in
      let strange : top n' d' text ≡ (Err f, r) = subst (λ (w : List Word). top n' d' (w ++ r) ≡ (Err f, r)) (front_is ts a.front rest a.cut) (a.same stays r is) in
      let fine : top n' d' text ≡ (Ok x, []) = reads n' d' (let l = led.0 in omega arith) x text s (omega arith) in
      not_ok f x (ap (λ (o : Outcome A). o.0) (sym strange ∙ fine))

  -- what was taken begins a text in the room
  pub begun : (ts rest : List Word) (f : Fault) → top n d ts ≡ (Err f, rest) → BeginsIn R d (before ts rest)
  unfolding AtTop
  begun ts rest f o =
      let a : At n d None' R (top n d) ts (Err f) rest = plain_at ts (Err f, rest) o in
      (a.means.0, a.means.1, subst (λ (w : List Word). R d a.means.1 (w ++ a.means.0)) (front_is ts a.front rest a.cut) a.means.2)

  -- a text that begins with what was taken and the next token, as a text behind what was taken
  behind : (ts rest : List Word) (v : Result A Fault) → top n d ts ≡ (v, rest) → (t : Word) (r : List Word) → rest ≡ t ∷ r → take (length ts - length rest + 1) ts ≡ before ts rest ++ t ∷ []
  behind ts rest v o t r e =
      let p = parts ts rest v o in
      let len : length rest ≡ suc (length r) = ap length e in
      let cut : ts ≡ before ts rest ++ t ∷ r = p ∙ ap (λ (w : List Word). before ts rest ++ w) e in
      ap (λ (i : ℕ). take (length ts - i + 1) ts) len ∙ upto_is ts (before ts rest) r t cut

  pub fits : (ts rest : List Word) (v : Result A Fault) → top n d ts ≡ (v, rest) → length rest ≤ length ts
  fits ts rest v o =
      let p = parts ts rest v o in
      let l : length ts ≡ length (before ts rest ++ rest) = ap length p in
      let la = length-append (before ts rest) rest in
      omega arith

  pub inside : (ts rest : List Word) (v : Result A Fault) → top n d ts ≡ (v, rest) → (t : Word) (r : List Word) → rest ≡ t ∷ r → length ts - length rest < length ts
  inside ts rest v o t r e =
      let f = fits ts rest v o in
      let len : length rest ≡ suc (length r) = ap length e in
      omega arith

  -- where no text goes on, none does in any room
  pub none_goes_on : (ts rest : List Word) → top n d ts ≡ (Err Unexpected, rest) → (t : Word) (r : List Word) → rest ≡ t ∷ r → (b : Room) → BeginsIn R b (take (length ts - length rest + 1) ts) → ⊥
  none_goes_on ts rest o t r e b g =
      let up : R (d.0 + b.0, d.1 + b.1) g.1 (before ts rest ++ (t ∷ g.0)) =
      rises b (d.0 + b.0, d.1 + b.1) (omega arith, omega arith) g.1 (before ts rest ++ (t ∷ g.0)) (rw append_assoc at (subst (λ (w : List Word). R b g.1 (w ++ g.0)) (behind ts rest (Err Unexpected) o t r e) g.2)) in
      not_read Strange (λ x. x) Unexpected tt (d.0 + b.0, d.1 + b.1) (omega arith, omega arith) (λ x. absurd x) (λ x. absurd x) ts rest o (t ∷ g.0) (ap first (sym e)) g.1 up

  -- where the text ends too early, it is none in any room
  pub none_ends : (ts : List Word) → top n d ts ≡ (Err Unexpected, []) → (b : Room) (x : A) → R b x ts → ⊥
  none_ends ts o b x s =
      let is : ts ≡ before ts [] ++ [] = parts ts [] (Err Unexpected) o in
      let up : R (d.0 + b.0, d.1 + b.1) x (before ts [] ++ []) = rises b (d.0 + b.0, d.1 + b.1) (omega arith, omega arith) x (before ts [] ++ []) (subst (R b x) is s) in
      not_read Strange (λ x. x) Unexpected tt (d.0 + b.0, d.1 + b.1) (omega arith, omega arith) (λ x. absurd x) (λ x. absurd x) ts [] o [] refl x up

  -- where the depth is passed, there is a next token; a deeper text goes on with it, and none in the depth does
  pub deep_next : (ts rest : List Word) → top n d ts ≡ (Err TooDeep, rest) → (t : Word) × (r : List Word) × (rest ≡ t ∷ r)
  unfolding AtTop
  deep_next ts rest o =
      let a : At n d None' R (top n d) ts (Err TooDeep) rest = plain_at ts (Err TooDeep, rest) o in
      let m = a.means.3 in
      (m.1, m.3, m.6)

  pub deep_goes_on : (ts rest : List Word) → top n d ts ≡ (Err TooDeep, rest) → (h : ℕ) × BeginsIn R (h, d.1) (take (length ts - length rest + 1) ts)
  unfolding AtTop
  deep_goes_on ts rest o =
      let a : At n d None' R (top n d) ts (Err TooDeep) rest = plain_at ts (Err TooDeep, rest) o in
      let m = a.means.3 in
      let go : R (m.0, d.1) m.4 (before ts rest ++ (m.1 ∷ m.2)) = subst (λ (w : List Word). R (m.0, d.1) m.4 (w ++ m.1 ∷ m.2)) (front_is ts a.front rest a.cut) m.7 in
      let went : R (m.0, d.1) m.4 ((before ts rest ++ m.1 ∷ []) ++ m.2) = rw append_assoc go in
      (m.0, (m.2, m.4, subst (λ (w : List Word). R (m.0, d.1) m.4 (w ++ m.2)) (sym (behind ts rest (Err TooDeep) o m.1 m.3 m.6)) went))

  pub none_so_deep : (ts rest : List Word) → top n d ts ≡ (Err TooDeep, rest) → (c : ℕ) → BeginsIn R (d.0, c) (take (length ts - length rest + 1) ts) → ⊥
  none_so_deep ts rest o c g =
      let x = deep_next ts rest o in
      let up : R (d.0, d.1 + c) g.1 (before ts rest ++ (x.0 ∷ g.0)) =
      rises (d.0, c) (d.0, d.1 + c) (omega arith, omega arith) g.1 (before ts rest ++ (x.0 ∷ g.0)) (rw append_assoc at (subst (λ (w : List Word). R (d.0, c) g.1 (w ++ g.0)) (behind ts rest (Err TooDeep) o x.0 x.1 x.2) g.2)) in
      not_read Deep (λ x. x) TooDeep tt (d.0, d.1 + c) (omega arith, omega arith) (λ x. refl) (λ x. absurd x) ts rest o (x.0 ∷ g.0) (ap first (sym x.2)) g.1 up

  -- the same of the clauses
  pub many_next : (ts rest : List Word) → top n d ts ≡ (Err TooMany, rest) → (t : Word) × (r : List Word) × (rest ≡ t ∷ r)
  unfolding AtTop
  many_next ts rest o =
      let a : At n d None' R (top n d) ts (Err TooMany) rest = plain_at ts (Err TooMany, rest) o in
      let m = a.means.3 in
      (m.1, m.3, m.6)

  pub many_goes_on : (ts rest : List Word) → top n d ts ≡ (Err TooMany, rest) → (b : Room) × BeginsIn R b (take (length ts - length rest + 1) ts)
  unfolding AtTop
  many_goes_on ts rest o =
      let a : At n d None' R (top n d) ts (Err TooMany) rest = plain_at ts (Err TooMany, rest) o in
      let m = a.means.3 in
      let go : R m.0 m.4 (before ts rest ++ (m.1 ∷ m.2)) = subst (λ (w : List Word). R m.0 m.4 (w ++ m.1 ∷ m.2)) (front_is ts a.front rest a.cut) m.7 in
      let went : R m.0 m.4 ((before ts rest ++ m.1 ∷ []) ++ m.2) = rw append_assoc go in
      (m.0, (m.2, m.4, subst (λ (w : List Word). R m.0 m.4 (w ++ m.2)) (sym (behind ts rest (Err TooMany) o m.1 m.3 m.6)) went))

  pub none_so_few : (ts rest : List Word) → top n d ts ≡ (Err TooMany, rest) → (c : ℕ) → BeginsIn R (c, d.1) (take (length ts - length rest + 1) ts) → ⊥
  none_so_few ts rest o c g =
      let x = many_next ts rest o in
      let up : R (d.0 + c, d.1) g.1 (before ts rest ++ (x.0 ∷ g.0)) =
      rises (c, d.1) (d.0 + c, d.1) (omega arith, omega arith) g.1 (before ts rest ++ (x.0 ∷ g.0)) (rw append_assoc at (subst (λ (w : List Word). R (c, d.1) g.1 (w ++ g.0)) (behind ts rest (Err TooMany) o x.0 x.1 x.2) g.2)) in
      not_read Many (λ x. x) TooMany tt (d.0 + c, d.1) (omega arith, omega arith) (λ x. absurd x) (λ x. refl) ts rest o (x.0 ∷ g.0) (ap first (sym x.2)) g.1 up

  pub not_exhausted : (ts rest : List Word) → length ts < n → top n d ts ≡ (Err Exhausted, rest) → ⊥
  unfolding AtTop
  not_exhausted ts rest lt o =
      let a : At n d None' R (top n d) ts (Err Exhausted) rest = plain_at ts (Err Exhausted, rest) o in
      a.enough lt refl

  -- what is answered is spelled by the tokens before what is left
  pub found : (ts rest : List Word) (x : A) → top n d ts ≡ (Ok x, rest) → R d x (before ts rest)
  unfolding AtTop
  found ts rest x o =
      let a : At n d None' R (top n d) ts (Ok x) rest = plain_at ts (Ok x, rest) o in
      subst (R d x) (front_is ts a.front rest a.cut) a.means

  -- a list of tokens spells one tree at most
  pub one_tree : (ts : List Word) (x y : A) → R d x ts → R d y ts → length ts < n → x ≡ y
  one_tree ts x y rx ry lt = ok_is x y (ap (λ (o : Outcome A). o.0) (sym (reads n d some x ts rx lt) ∙ reads n d some y ts ry lt))
