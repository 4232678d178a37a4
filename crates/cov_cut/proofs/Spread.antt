-- Tokens that stand one behind another in a part of a text.
use Rattle.std.proofs.Common.{◌≡◌, ℕ, ◌+◌, ◌<◌, ◌≤◌, ◌==◌, Bool, true, false, List, [], ◌∷◌, ◌++◌, refl, sym, ap, ◌∙◌, subst, arith}
use Rattle.go_ast.specs.declared.token.TokenKind.{TokenKind}
use Rattle.go_ast.specs.declared.token.TokenKind.TheVariants as kind
use Rattle.go_grammar.specs.Words.{Word}

-- `;` alone may be empty
abbrev pub is_semicolon : TokenKind → Bool
is_semicolon (kind.Operator place) = place == 45
is_semicolon _ = false

abbrev pub is_word : TokenKind → Bool
is_word kind.Name = true
is_word (kind.Keyword place) = true
is_word _ = false

pub record IsSized (t : Word) : Type 0 where
  pub forward : t.span.start ≤ t.span.end
  pub some : is_semicolon t.kind ≡ false → t.span.start < t.span.end

-- where the next token may start: behind a semicolon that is inserted stands a newline
abbrev next_by : Bool → Word → ℕ
next_by true t = t.span.start + 1
next_by false t = t.span.end

abbrev pub next : Word → ℕ
next t = next_by (is_semicolon t.kind) t

-- two words have a byte between them
abbrev pub Parted : Word → List Word → Type 0
Parted t [] = Unit {0}
Parted t (u ∷ w) = is_word t.kind ≡ true → is_word u.kind ≡ true → t.span.end < u.span.start

-- from an offset up to another
abbrev pub Spread : ℕ → ℕ → List Word → Type 0
Spread low high [] = low ≤ high
Spread low high (t ∷ w) = (low ≤ t.span.start) × IsSized t × Parted t w × Spread (next t) high w

parted_front : (t : Word) (u v : List Word) → Parted t (u ++ v) → Parted t u
parted_front t [] v h = tt
parted_front t (x ∷ u) v h = h

next_behind : (b : Bool) (t : Word) → is_semicolon t.kind ≡ b → IsSized t → t.span.start < next t
next_behind true t e s = subst (λ c. t.span.start < next_by c t) (sym e) (omega arith)
next_behind false t e s = subst (λ c. t.span.start < next_by c t) (sym e) (s.some e)

pub next_after : (t : Word) → IsSized t → t.span.start < next t
next_after t s = next_behind (is_semicolon t.kind) t refl s

next_by_upto : (b : Bool) (t : Word) → t.span.start < t.span.end → next_by b t ≤ t.span.end
next_by_upto true t h = omega arith
next_by_upto false t h = omega arith

pub next_upto : (t : Word) → t.span.start < t.span.end → next t ≤ t.span.end
next_upto t h = next_by_upto (is_semicolon t.kind) t h

pub spread_le : (low high : ℕ) (w : List Word) → Spread low high w → low ≤ high
spread_le low high [] h = h
spread_le low high (t ∷ w) h = let first : low ≤ t.span.start = h.0 in let more : t.span.start < next t = next_after t h.1 in let rest : next t ≤ high = spread_le (next t) high w h.3 in omega arith

-- a part up to an offset, and a part from there
pub record Halves (low high : ℕ) (u v : List Word) : Type 0 where
  pub mid : ℕ
  pub front : Spread low mid u
  pub back : Spread mid high v

pub halves : (u v : List Word) (low high : ℕ) → Spread low high (u ++ v) → Halves low high u v
halves [] v low high h = record { mid = low; front = let r : low ≤ low = omega arith in r; back = h }
halves (t ∷ u) v low high h =
    let r = halves u v (next t) high h.3 in
    record { mid = r.mid; front = (h.0, h.1, parted_front t u v h.2, r.front); back = r.back }

-- ---- one token

-- a token that isn't empty
pub record Token (low high : ℕ) (t : Word) (w : List Word) : Type 0 where
  pub from : low ≤ t.span.start
  pub some : t.span.start < t.span.end
  pub upto : t.span.end ≤ high
  pub rest : Spread t.span.end high w

pub opened : (k : TokenKind) (low high : ℕ) (t : Word) (w : List Word) → is_semicolon k ≡ false → t.kind ≡ k → Spread low high (t ∷ w) → Token low high t w
opened k low high t w full e h =
    let not_semicolon : is_semicolon t.kind ≡ false = ap is_semicolon e ∙ full in
    let rest : Spread t.span.end high w = subst (λ b. Spread (next_by b t) high w) not_semicolon h.3 in
    record { from = h.0; some = h.1.some not_semicolon; upto = spread_le t.span.end high w rest; rest = rest }

-- a semicolon
pub record Semicolon (low high : ℕ) (t : Word) (w : List Word) : Type 0 where
  pub from : low ≤ t.span.start
  pub upto : t.span.start < high
  pub rest : Spread (t.span.start + 1) high w

pub passed : (low high : ℕ) (t : Word) (w : List Word) → t.kind ≡ kind.Operator 45 → Spread low high (t ∷ w) → Semicolon low high t w
passed low high t w e h =
    let rest : Spread (t.span.start + 1) high w = subst (λ b. Spread (next_by b t) high w) (ap is_semicolon e) h.3 in
    let le : t.span.start + 1 ≤ high = spread_le (t.span.start + 1) high w rest in
    record { from = h.0; upto = omega arith; rest = rest }

-- ---- trees

-- a tree's span in a part of a text
pub record Between (low high start end : ℕ) : Type 0 where
  pub from : low ≤ start
  pub some : start < end
  pub upto : end ≤ high

-- an offset where something ends
pub record EndsIn (low high end : ℕ) : Type 0 where
  pub behind : low < end
  pub upto : end ≤ high

-- an offset where something starts
pub record StartsIn (low high start : ℕ) : Type 0 where
  pub from : low ≤ start
  pub before : start < high
