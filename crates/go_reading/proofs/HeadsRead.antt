-- What the grammar derives between `if` or `switch` and a `{` is read.
use Rattle.std.proofs.Common.{◌≡◌, ◌⊎◌, inl, inr, ℕ, zero, suc, ◌+◌, ◌-◌, ◌≤◌, ◌<◌, max, Bool, true, false, List, [], ◌∷◌, ◌++◌, Option, Some, None, length, Ok, refl, sym, ◌∙◌, append_assoc, arith}
use Rattle.std.proofs.lemmas.List.{length-append}
use Rattle.std.proofs.lemmas.Bool.{le-ltb}
use Rattle.go_ast.specs.declared.token.TokenKind.{TokenKind}
use Rattle.go_ast.specs.declared.token.TokenKind.TheVariants as kind
use Rattle.go_ast.specs.declared.expr.Expr.{Expr}
use Rattle.go_ast.specs.declared.block.Target.{Target}
use Rattle.go_ast.specs.declared.block.Stmt.{Stmt}
use Rattle.go_grammar.specs.Words.{Word}
use Rattle.go_grammar.specs.Terminals as t
use Rattle.go_grammar.specs.Lists.{IsRow, one_item, more_items}
use Rattle.go_grammar.specs.Exprs.{IsExpr, IsMaybe, no_expr, some_expr}
use Rattle.go_grammar.specs.Simple.{IsTarget, plain_target, member_target, IsSimple, evaluated, sent as sent', raised, lowered, updated as updated', assigned as assigned', defined as defined'}
use Rattle.go_grammar.specs.Blocks.{IsFirst, no_first, some_first}
use Rattle.go_reading.specs.declared.lead.Lead.{Lead}
use Rattle.go_reading.specs.declared.lead.Lead.TheVariants as l
use Rattle.go_reading.specs.Kinds.{is, begins}
use Rattle.go_reading.specs.Input.{Tall, ◌>>=◌, kind_of, expect_as}
use Rattle.go_reading.specs.Exprs.{expr}
use Rattle.go_reading.specs.Simple.{eval_stmt, lead}
use Rattle.go_reading.specs.Stmts.{maybe_before, after_first, header_by, header, maybe_header}
use Rattle.go_reading.proofs.ExprsGood.{tall, leveled}
use Rattle.go_reading.proofs.RowsRead.{sees, kind_is}
use Rattle.go_reading.proofs.Ends.{ends_by, plain_left_brace, begins_expr, not_begun}
use Rattle.go_reading.proofs.ExprsRead.{expr_read}
use Rattle.go_reading.proofs.BareGood.{regroup}
use Rattle.go_reading.proofs.SimpleRead.{StmtEnds, stmt_ends, last_semicolon, last_left_brace, led_read, lead_other, row_targets, begun_not}

-- ---- what a simple statement begins with

name_begins : (o : Option TokenKind) → o ≡ Some kind.Name → begins o ≡ true
unfolding begins
name_begins o e = rw e refl

target_begins : (h : ℕ) (g : Target) (u : List Word) → IsTarget h g u → (rest : List Word) → begins (kind_of (u ++ rest)) ≡ true
target_begins _ _ _ (plain_target n k) rest = name_begins (Some n.kind) (kind_is n rest kind.Name k)
target_begins _ _ _ (member_target p d n kp kd kn) rest = name_begins (Some p.kind) (kind_is p (d ∷ n ∷ rest) kind.Name kp)

row_begins : (h : ℕ) (gs : List Target) (u : List Word) → IsRow t.comma IsTarget h gs u → (rest : List Word) → begins (kind_of (u ++ rest)) ≡ true
row_begins _ _ _ (one_item h g w i) rest = target_begins h g w i rest
row_begins _ _ _ (more_items a h h' g gs w v i k r) rest = rw append_assoc (target_begins h g w i (a ∷ v ++ rest))

pub simple_begins : (h : ℕ) (x : Stmt) (w : List Word) → IsSimple h x w → (rest : List Word) → begins (kind_of (w ++ rest)) ≡ true
simple_begins _ _ _ (evaluated l' h x w i) rest = begins_expr l' h x w i rest
simple_begins _ _ _ (sent' a la lb h h' x y u v i k j) rest = rw append_assoc (begins_expr la h x u i (a ∷ v ++ rest))
simple_begins _ _ _ (raised a g u i k) rest = rw append_assoc (target_begins 0 g u i (a ∷ rest))
simple_begins _ _ _ (lowered a g u i k) rest = rw append_assoc (target_begins 0 g u i (a ∷ rest))
simple_begins _ _ _ (updated' a o l' h g y u v i k j) rest = rw append_assoc (target_begins 0 g u i (a ∷ v ++ rest))
simple_begins _ _ _ (assigned' a h gs es u v i k j) rest = rw append_assoc (row_begins 0 gs u i (a ∷ v ++ rest))
simple_begins _ _ _ (defined' a h ns es u v i k j) rest = let p = row_targets 0 ns u i in rw append_assoc (row_begins 0 p.0 u p.1 (a ∷ v ++ rest))

pub brace_no : begins (Some t.left_brace) ≡ false
unfolding begins
brace_no = refl

-- ---- pieces

module _ (n d : ℕ) where
  after_test : (tests : Bool) (first : Stmt) (h : ℕ) (a : Word) (e : Expr) (h' : ℕ) (r rest : List Word) → a.kind ≡ t.semicolon → is (kind_of r) t.left_brace ≡ false → expr n d 1 r ≡ (Ok (e, h'), rest)
      → after_first n d tests first h (a ∷ r) ≡ (Ok (record { first = Some first; test = Some e }, max h h'), rest)
  unfolding after_first maybe_before expect_as
  after_test true first h a e h' r rest k no' i = rw (sees a r t.semicolon k, i) refl
  after_test false first h a e h' r rest k no' i = rw (sees a r t.semicolon k, no', i) refl

  after_none : (first : Stmt) (h : ℕ) (a : Word) (rest : List Word) → a.kind ≡ t.semicolon → kind_of rest ≡ Some t.left_brace → after_first n d false first h (a ∷ rest) ≡ (Ok (record { first = Some first; test = None }, max h 0), rest)
  unfolding after_first maybe_before expect_as
  after_none first h a rest k over = rw (sees a rest t.semicolon k, over) refl

  -- the first statement
  by_first : (tests : Bool) (first : Stmt) (h : ℕ) (y : Tall Lead) → h ≤ d → ((y ≡ (l.Stmt first, h)) ⊎ ((a : Tall Expr) × (y ≡ (l.Expr a.0, a.1)) × (first ≡ eval_stmt a.0) × (h ≡ a.1 + 1))) → (a : Word) (r : List Word) → a.kind ≡ t.semicolon
      → header_by n d tests y (a ∷ r) ≡ after_first n d tests first h (a ∷ r)
  by_first tests first h y le (inl i) a r k = rw i refl
  by_first tests first h y le (inr i) a r k = rw (i.1, i.2, i.3) (rw (sees a r t.semicolon k, le-ltb d (i.0.1 + 1) (let e = i.3 in omega arith)) refl)

  by_test : (tests : Bool) (e : Expr) (h : ℕ) (rest : List Word) → kind_of rest ≡ Some t.left_brace → header_by n d tests (l.Expr e, h) rest ≡ (Ok (record { first = None; test = Some e }, max 0 h), rest)
  by_test tests e h rest over = rw over refl

header_split : (n c : ℕ) (tests : Bool) (ts : List Word) → header n (suc c) tests ts ≡ ((expr n (suc c) 1 >>= lead n c false) >>= header_by n (suc c) tests) ts
unfolding header
header_split n c tests ts = let one : suc c - 1 ≡ c = omega arith in rw one (sym (regroup (expr n (suc c) 1) (lead n c false) (header_by n (suc c) tests) ts))

brace_sign : (rest : List Word) → kind_of rest ≡ Some t.left_brace → StmtEnds rest
brace_sign rest over = stmt_ends rest t.left_brace over last_left_brace

module _ (n c : ℕ) (tests : Bool) where
  with_first : (h : ℕ) (first : Stmt) (w : List Word) → IsSimple h first w → h ≤ suc c → length w < n → (a : Word) (r : List Word) → a.kind ≡ t.semicolon → header n (suc c) tests (w ++ a ∷ r) ≡ after_first n (suc c) tests first h (a ∷ r)
  with_first h first w i le long a r k =
      let q = led_read n (suc c) c false (omega arith) (omega arith) h first w i le long (a ∷ r) (stmt_ends (a ∷ r) t.semicolon (kind_is a r t.semicolon k) last_semicolon) in
      header_split n c tests (w ++ a ∷ r) ∙ rw q.reads (by_first n (suc c) tests first h q.lead_is le q.is a r k)

  header_some : (i : ℕ) (o : Option Stmt) (u : List Word) → IsFirst i o u → (l' j : ℕ) (e : Expr) (v : List Word) → IsExpr l' j e v → i ≤ suc c → j ≤ suc c → length u < n → length v < n → (rest : List Word) → kind_of rest ≡ Some t.left_brace
      → header n (suc c) tests (u ++ (v ++ rest)) ≡ (Ok (record { first = o; test = Some e }, max i j), rest)
  header_some _ _ _ no_first l' j e v x li lj lu lv rest over =
      let r = expr_read n (suc c) l' j e v x lj lv 1 (leveled l' j e v x) (omega arith) rest (ends_by 1 rest t.left_brace over plain_left_brace) in
      header_split n c tests (v ++ rest) ∙ rw r (rw (lead_other n c false (e, j) rest ((brace_sign rest over).sign)) (by_test n (suc c) tests e j rest over))
  header_some _ _ _ (some_first a i s w y k) l' j e v x li lj lu lv rest over =
      let len = length-append w (a ∷ []) in
      rw append_assoc (with_first i s w y li (omega arith) a (v ++ rest) k
      ∙ after_test n (suc c) tests s i a e j (v ++ rest) rest k (not_begun l' j e v x t.left_brace brace_no rest) (expr_read n (suc c) l' j e v x lj lv 1 (leveled l' j e v x) (omega arith) rest (ends_by 1 rest t.left_brace over plain_left_brace)))

pub header_read : (n d : ℕ) (tests : Bool) → (i : ℕ) (o : Option Stmt) (u : List Word) → IsFirst i o u → (l' j : ℕ) (e : Expr) (v : List Word) → IsExpr l' j e v → i ≤ d → j ≤ d → length u < n → length v < n → (rest : List Word) → kind_of rest ≡ Some t.left_brace
    → header n d tests (u ++ (v ++ rest)) ≡ (Ok (record { first = o; test = Some e }, max i j), rest)
header_read n zero tests i o u f l' j e v x li lj lu lv rest over = let some = tall l' j e v x in absurd (omega arith)
header_read n (suc c) tests i o u f l' j e v x li lj lu lv rest over = header_some n c tests i o u f l' j e v x li lj lu lv rest over

-- ---- the same of a `switch`

begun_header : (n d : ℕ) (ts : List Word) → 1 ≤ d → begins (kind_of ts) ≡ true → maybe_header n d ts ≡ header n d false ts
unfolding maybe_header
begun_header n d ts some b = rw (begun_not (kind_of ts) t.left_brace b brace_no, b, le-ltb d 1 some) refl

no_header : (n d : ℕ) (rest : List Word) → kind_of rest ≡ Some t.left_brace → maybe_header n d rest ≡ (Ok (record { first = None; test = None }, 0), rest)
unfolding maybe_header
no_header n d rest over = rw over refl

pub simple_tall : (h : ℕ) (x : Stmt) (w : List Word) → IsSimple h x w → 1 ≤ h
simple_tall _ _ _ (evaluated l' h x w i) = omega arith
simple_tall _ _ _ (sent' a la lb h h' x y u v i k j) = omega arith
simple_tall _ _ _ (raised a g u i k) = omega arith
simple_tall _ _ _ (lowered a g u i k) = omega arith
simple_tall _ _ _ (updated' a o l' h g y u v i k j) = omega arith
simple_tall _ _ _ (assigned' a h gs es u v i k j) = omega arith
simple_tall _ _ _ (defined' a h ns es u v i k j) = omega arith

first_begins : (i : ℕ) (o : Option Stmt) (u : List Word) → IsFirst i o u → (l' j : ℕ) (e : Expr) (v : List Word) → IsExpr l' j e v → (rest : List Word) → begins (kind_of (u ++ (v ++ rest))) ≡ true
first_begins _ _ _ no_first l' j e v x rest = begins_expr l' j e v x rest
first_begins _ _ _ (some_first a i s w y k) l' j e v x rest = rw append_assoc (simple_begins i s w y (a ∷ (v ++ rest)))

pub maybe_header_read : (n d : ℕ) → (i : ℕ) (o : Option Stmt) (u : List Word) → IsFirst i o u → (j : ℕ) (tag : Option Expr) (v : List Word) → IsMaybe j tag v → i ≤ d → j ≤ d → length u < n → length v < n → (rest : List Word) → kind_of rest ≡ Some t.left_brace
    → maybe_header n d (u ++ (v ++ rest)) ≡ (Ok (record { first = o; test = tag }, max i j), rest)
maybe_header_read n d i o u f _ _ _ (some_expr l' j e v x) li lj lu lv rest over =
    let some = tall l' j e v x in
    begun_header n d (u ++ (v ++ rest)) (omega arith) (first_begins i o u f l' j e v x rest) ∙ header_read n d false i o u f l' j e v x li lj lu lv rest over
maybe_header_read n d _ _ _ no_first _ _ _ no_expr li lj lu lv rest over = no_header n d rest over
maybe_header_read n zero _ _ _ (some_first a i s w y k) _ _ _ no_expr li lj lu lv rest over = let some = simple_tall i s w y in absurd (omega arith)
maybe_header_read n (suc c) _ _ _ (some_first a i s w y k) _ _ _ no_expr li lj lu lv rest over =
    let len = length-append w (a ∷ []) in
    rw append_assoc (begun_header n (suc c) (w ++ a ∷ rest) (omega arith) (simple_begins i s w y (a ∷ rest)) ∙ with_first n c false i s w y li (omega arith) a rest k ∙ after_none n (suc c) s i a rest k over)
