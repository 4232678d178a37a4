-- Statements by their first token.
use Rattle.std.proofs.Common.{◌≡◌, refl, ℕ, ◌||◌, Bool, true, false, if◌then◌else◌, List, [], ◌∷◌, Some, Ok, Err}
use Rattle.go_ast.specs.declared.block.Stmt.{Stmt}
use Rattle.go_grammar.specs.Terminals as k
use Rattle.go_grammar.specs.Words.{Word}
use Rattle.go_reading.specs.Input.{Reader, Tall, Outcome, ◌>>=◌, peek, pure, if_kind, kind_of, go_on}
use Rattle.go_reading.specs.Kinds.{is}
use Rattle.go_reading.specs.Stmts.{block, breakable, stmt_in, nested_stmt, plain_stmt}
use Rattle.go_parse.specs.Parts.{Worded, leaves, worded, or_else, stmt_at, if_at, breakable_at, begins_breakable}
use Rattle.go_grammar.specs.Blocks.{source}

-- ---- one reader of several steps, cut in two

-- what is read in one step is read in two
pub in_two : {A B C : Type 0} (x : Outcome A) (f : A → Reader B) (g : B → Reader C) (h : A → Reader C)
    → ((a : A) (ts : List Word) → h a ts ≡ (f a >>= g) ts) → go_on x.0 x.1 h ≡ go_on (go_on x.0 x.1 f).0 (go_on x.0 x.1 f).1 g
in_two (Ok a, rest) f g h e = e a rest
in_two (Err fault, rest) f g h e = refl

pub choose : {A B : Type 0} (b : Bool) (p q : Reader B) (p' q' : Reader A) (f : A → Reader B) (ts : List Word)
    → p ts ≡ (p' >>= f) ts → q ts ≡ (q' >>= f) ts → (if b then p else q) ts ≡ ((if b then p' else q') >>= f) ts
choose true p q p' q' f ts e g = e
choose false p q p' q' f ts e g = g

-- ---- a statement that has a word of its own, or another

abbrev by_words : Worded → Reader (Tall Stmt) → Reader (Tall Stmt)
by_words [] p = p
by_words (e ∷ es) p = peek >>= if_kind e.0 e.1 (by_words es p)

some_of : (x : Outcome (Tall Stmt)) (p : Reader (Tall Stmt)) → x ≡ go_on (go_on x.0 x.1 (λ a. pure (Some a))).0 (go_on x.0 x.1 (λ a. pure (Some a))).1 (or_else p)
some_of (Ok a, rest) p = refl
some_of (Err fault, rest) p = refl

by_word : (es : Worded) (p : Reader (Tall Stmt)) (ts : List Word) → by_words es p ts ≡ (worded es >>= or_else p) ts
by_word [] p ts = refl
by_word (e ∷ es) p ts = choose (is (kind_of ts) e.0) e.1 (by_words es p) (e.1 >>= λ x. pure (Some x)) (worded es) (or_else p) ts (some_of (e.1 ts) p) (by_word es p ts)

-- ---- statements

pub with_brace : (n m d : ℕ) (ts : List Word) → is (kind_of ts) k.left_brace ≡ true → stmt_at n m d ts ≡ nested_stmt n d (block source n m d) ts
unfolding stmt_at stmt_in
with_brace n m d ts brace = rw brace refl

pub with_if : (n m d : ℕ) (ts : List Word) → is (kind_of ts) k.left_brace ≡ false → is (kind_of ts) k.if_word ≡ true → stmt_at n m d ts ≡ if_at n m d ts
unfolding stmt_at stmt_in
with_if n m d ts brace word = rw (brace, word) refl

-- the same reader whether the test holds or not
either_way : (a : Bool) (p q : Reader (Tall Stmt)) (ts : List Word) → (a ≡ false → q ts ≡ p ts) → (if a then p else q) ts ≡ p ts
either_way true p q ts e = refl
either_way false p q ts e = e refl

one_of : (a b c : Bool) → (a || b || c) ≡ true → a ≡ false → b ≡ false → c ≡ false → ⊥
one_of true b c some x y z = absurd cc
one_of false true c some x y z = absurd cc
one_of false false true some x y z = absurd cc
one_of false false false some x y z = absurd cc

none_of : (a b c : Bool) → (a || b || c) ≡ false → (a ≡ false) × (b ≡ false) × (c ≡ false)
none_of true b c none = absurd cc
none_of false true c none = absurd cc
none_of false false true none = absurd cc
none_of false false false none = (refl, refl, refl)

pub with_breakable : (n m d : ℕ) (ts : List Word) → is (kind_of ts) k.left_brace ≡ false → is (kind_of ts) k.if_word ≡ false → begins_breakable (kind_of ts) ≡ true
    → stmt_at n m d ts ≡ breakable_at n m d ts
unfolding stmt_at stmt_in leaves
with_breakable n m d ts brace word begins =
    let p = breakable_at n m d in
    let rest = by_words (leaves n d) (plain_stmt n d (breakable source n m d)) in
    rw (brace, word) (either_way (is (kind_of ts) k.for_word) p (peek >>= if_kind k.switch_word p (peek >>= if_kind k.select_word p rest)) ts
    (λ no_for. either_way (is (kind_of ts) k.switch_word) p (peek >>= if_kind k.select_word p rest) ts
    (λ no_switch. either_way (is (kind_of ts) k.select_word) p rest ts
    (λ no_select. absurd (one_of (is (kind_of ts) k.for_word) (is (kind_of ts) k.switch_word) (is (kind_of ts) k.select_word) begins no_for no_switch no_select)))))

pub with_other : (n m d : ℕ) (ts : List Word) → is (kind_of ts) k.left_brace ≡ false → is (kind_of ts) k.if_word ≡ false → begins_breakable (kind_of ts) ≡ false
    → stmt_at n m d ts ≡ (worded (leaves n d) >>= or_else (plain_stmt n d (breakable source n m d))) ts
unfolding stmt_at stmt_in leaves
with_other n m d ts brace word begins =
    let none = none_of (is (kind_of ts) k.for_word) (is (kind_of ts) k.switch_word) (is (kind_of ts) k.select_word) begins in
    let no_for : is (kind_of ts) k.for_word ≡ false = none.0 in
    let no_switch : is (kind_of ts) k.switch_word ≡ false = none.1 in
    let no_select : is (kind_of ts) k.select_word ≡ false = none.2 in
    rw (brace, word, no_for, no_switch, no_select) (by_word (leaves n d) (plain_stmt n d (breakable source n m d)) ts)
