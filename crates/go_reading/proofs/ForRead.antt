-- What the grammar derives between `for` and a `{` is read.
use Rattle.std.proofs.Common.{◌≡◌, ◌⊎◌, inl, inr, ℕ, zero, suc, ◌+◌, ◌-◌, ◌≤◌, ◌<◌, max, true, false, List, [], ◌∷◌, ◌++◌, Option, Some, None, length, Ok, refl, sym, subst, ◌∙◌, append_assoc, arith}
use Rattle.std.proofs.lemmas.List.{length-append}
use Rattle.std.proofs.lemmas.Bool.{le-ltb}
use Rattle.go_ast.specs.declared.name.Name.{Name}
use Rattle.go_ast.specs.declared.token.TokenKind.{TokenKind}
use Rattle.go_ast.specs.declared.expr.Expr.{Expr}
use Rattle.go_ast.specs.declared.block.Target.{Target}
use Rattle.go_ast.specs.declared.block.Stmt.{Stmt}
use Rattle.go_grammar.specs.Words.{Word}
use Rattle.go_grammar.specs.Terminals as t
use Rattle.go_grammar.specs.Lists.{IsRow, one_item, more_items}
use Rattle.go_grammar.specs.Exprs.{IsExpr, IsMaybe, no_expr, some_expr}
use Rattle.go_grammar.specs.Simple.{IsTarget, plain_target, member_target}
use Rattle.go_grammar.specs.Blocks.{IsMaybeSimple, no_simple, some_simple, IsRangeNames, no_names, range_names}
use Rattle.go_reading.specs.declared.lead.Lead.{Lead}
use Rattle.go_reading.specs.declared.lead.Lead.TheVariants as l
use Rattle.go_reading.specs.declared.sign.Sign.TheVariants as s
use Rattle.go_reading.specs.declared.header.ForHead.{ForHead}
use Rattle.go_reading.specs.declared.header.ForHead.TheVariants as f
use Rattle.go_reading.specs.Kinds.{is, begins, sign_of}
use Rattle.go_reading.specs.Input.{Tall, ◌>>=◌, kind_of, take_as, expect_as}
use Rattle.go_reading.specs.Exprs.{expr}
use Rattle.go_reading.specs.Simple.{target_of, plain_of, plains_of, eval_stmt, lead, simple, targets_from, defined}
use Rattle.go_reading.specs.Stmts.{maybe_before, range_head, last_part, parts_head, for_by, for_head}
use Rattle.go_reading.proofs.ExprsGood.{leveled}
use Rattle.go_reading.proofs.RowsRead.{sees, kind_is, is_other}
use Rattle.go_reading.proofs.Ends.{ends_by, plain_left_brace, plain_semicolon, plain_comma, plain_define, begins_expr}
use Rattle.go_reading.proofs.ExprsRead.{expr_read}
use Rattle.go_reading.proofs.BareGood.{regroup}
use Rattle.go_reading.proofs.SimpleRead.{stmt_ends, last_semicolon, last_left_brace, led_read, lead_other, lead_define, from_read, given_define, target_front, name_alone, names_of, sign_at, sign_comma, sign_define, row_targets, begun_not, simple_read}
use Rattle.go_reading.proofs.HeadsRead.{simple_begins, brace_no}
use Rattle.go_reading.proofs.StmtForms.{IsForHead, test_is, parts_are, range_is}

semicolon_no : begins (Some t.semicolon) ≡ false
unfolding begins
semicolon_no = refl

range_no : begins (Some t.range_word) ≡ false
unfolding begins
range_no = refl

-- ---- the parts behind the first `;`

none_before : (n d : ℕ) (close : TokenKind) (ts : List Word) → kind_of ts ≡ Some close → is (kind_of ts) close ≡ true → maybe_before n d close ts ≡ (Ok (None, 0), ts)
unfolding maybe_before
none_before n d close ts e i = rw i refl

some_before : (n d : ℕ) (close : TokenKind) (x : Expr) (h : ℕ) (ts rest : List Word) → is (kind_of ts) close ≡ false → expr n d 1 ts ≡ (Ok (x, h), rest) → maybe_before n d close ts ≡ (Ok (Some x, h), rest)
unfolding maybe_before
some_before n d close x h ts rest no' i = rw (no', i) refl

test_read : (n d : ℕ) (j : ℕ) (test : Option Expr) (v : List Word) → IsMaybe j test v → j ≤ d → length v < n → (a : Word) (rest : List Word) → a.kind ≡ t.semicolon → maybe_before n d t.semicolon (v ++ a ∷ rest) ≡ (Ok (test, j), a ∷ rest)
test_read n d _ _ _ no_expr le long a rest k = none_before n d t.semicolon (a ∷ rest) (kind_is a rest t.semicolon k) (sees a rest t.semicolon k)
test_read n d _ _ _ (some_expr l' h e v x) le long a rest k =
    some_before n d t.semicolon e h (v ++ a ∷ rest) (a ∷ rest) (begun_not (kind_of (v ++ a ∷ rest)) t.semicolon (begins_expr l' h e v x (a ∷ rest)) semicolon_no)
    (expr_read n d l' h e v x le long 1 (leveled l' h e v x) (omega arith) (a ∷ rest) (ends_by 1 (a ∷ rest) t.semicolon (kind_is a rest t.semicolon k) plain_semicolon))

last_none : (n d : ℕ) (rest : List Word) → kind_of rest ≡ Some t.left_brace → last_part n d rest ≡ (Ok (None, 0), rest)
unfolding last_part
last_none n d rest over = rw over refl

last_some : (n c : ℕ) (x : Stmt) (h : ℕ) (ts rest : List Word) → is (kind_of ts) t.left_brace ≡ false → h ≤ suc c → simple n c ts ≡ (Ok (x, h), rest) → kind_of rest ≡ Some t.left_brace → last_part n (suc c) ts ≡ (Ok (Some x, h), rest)
unfolding last_part
last_some n c x h ts rest no' le i over = let one : suc c - 1 ≡ c = omega arith in rw (no', one, i) (rw (over, le-ltb (suc c) h le) refl)

last_read : (n c : ℕ) (m : ℕ) (last : Option Stmt) (w : List Word) → IsMaybeSimple m last w → m ≤ suc c → length w < n → (rest : List Word) → kind_of rest ≡ Some t.left_brace → last_part n (suc c) (w ++ rest) ≡ (Ok (last, m), rest)
last_read n c _ _ _ no_simple le long rest over = last_none n (suc c) rest over
last_read n c _ _ _ (some_simple h x w i) le long rest over =
    last_some n c x h (w ++ rest) rest (begun_not (kind_of (w ++ rest)) t.left_brace (simple_begins h x w i rest) brace_no) le (simple_read n c h x w i le long rest (stmt_ends rest t.left_brace over last_left_brace)) over

parts_step : (n d : ℕ) (first last : Option Stmt) (test : Option Expr) (i j m : ℕ) (a b : Word) (v r rest : List Word) → a.kind ≡ t.semicolon → maybe_before n d t.semicolon (v ++ b ∷ r) ≡ (Ok (test, j), b ∷ r) → b.kind ≡ t.semicolon → last_part n d r ≡ (Ok (last, m), rest)
    → parts_head n d first i (a ∷ (v ++ b ∷ r)) ≡ (Ok (f.Parts first test last, max (max i j) m), rest)
unfolding parts_head expect_as
parts_step n d first last test i j m a b v r rest ka x kb y = rw (sees a (v ++ b ∷ r) t.semicolon ka, x, sees b r t.semicolon kb, y) refl

parts_read : (n c : ℕ) (first : Option Stmt) (i j m : ℕ) (last : Option Stmt) (test : Option Expr) (a b : Word) (v w rest : List Word) → a.kind ≡ t.semicolon → IsMaybe j test v → b.kind ≡ t.semicolon → IsMaybeSimple m last w → j ≤ suc c → m ≤ suc c → length v < n → length w < n → kind_of rest ≡ Some t.left_brace
    → parts_head n (suc c) first i (a ∷ (v ++ b ∷ (w ++ rest))) ≡ (Ok (f.Parts first test last, max (max i j) m), rest)
parts_read n c first i j m last test a b v w rest ka x kb y lj lm lv lw over =
    parts_step n (suc c) first last test i j m a b v (w ++ rest) rest ka (test_read n (suc c) j test v x lj lv b (w ++ rest) kb) kb (last_read n c m last w y lm lw rest over)

range_read : (n d : ℕ) (ns : List Name) (r : Word) (l' h : ℕ) (over : Expr) (v : List Word) → r.kind ≡ t.range_word → IsExpr l' h over v → h ≤ d → length v < n → (rest : List Word) → kind_of rest ≡ Some t.left_brace → range_head n d ns (r ∷ (v ++ rest)) ≡ (Ok (f.Range ns over, h), rest)
unfolding range_head expect_as
range_read n d ns r l' h over v k x le long rest end =
    rw (sees r (v ++ rest) t.range_word k, expr_read n d l' h over v x le long 1 (leveled l' h over v x) (omega arith) rest (ends_by 1 rest t.left_brace end plain_left_brace)) refl

-- ---- which kind of head

head_none : (n d : ℕ) (rest : List Word) → kind_of rest ≡ Some t.left_brace → for_head n d rest ≡ (Ok (f.Test None, 0), rest)
unfolding for_head
head_none n d rest over = rw over refl

head_range : (n d : ℕ) (r : Word) (ts : List Word) → r.kind ≡ t.range_word → for_head n d (r ∷ ts) ≡ range_head n d [] (r ∷ ts)
unfolding for_head
head_range n d r ts k = rw (is_other (kind_of (r ∷ ts)) t.range_word t.left_brace (kind_is r ts t.range_word k) refl, sees r ts t.range_word k) refl

head_parts : (n d : ℕ) (a : Word) (ts : List Word) → a.kind ≡ t.semicolon → for_head n d (a ∷ ts) ≡ parts_head n d None 0 (a ∷ ts)
unfolding for_head
head_parts n d a ts k = rw (is_other (kind_of (a ∷ ts)) t.semicolon t.left_brace (kind_is a ts t.semicolon k) refl, is_other (kind_of (a ∷ ts)) t.semicolon t.range_word (kind_is a ts t.semicolon k) refl, sees a ts t.semicolon k) refl

head_begun : (n c : ℕ) (ts : List Word) → begins (kind_of ts) ≡ true → for_head n (suc c) ts ≡ ((expr n (suc c) 1 >>= lead n c true) >>= for_by n (suc c)) ts
unfolding for_head
head_begun n c ts b =
    let one : suc c - 1 ≡ c = omega arith in
    rw (begun_not (kind_of ts) t.left_brace b brace_no, begun_not (kind_of ts) t.range_word b range_no, begun_not (kind_of ts) t.semicolon b semicolon_no, one) (sym (regroup (expr n (suc c) 1) (lead n c true) (for_by n (suc c)) ts))

by_first : (n d : ℕ) (first : Stmt) (h : ℕ) (y : Tall Lead) → h ≤ d → ((y ≡ (l.Stmt first, h)) ⊎ ((a : Tall Expr) × (y ≡ (l.Expr a.0, a.1)) × (first ≡ eval_stmt a.0) × (h ≡ a.1 + 1))) → (a : Word) (r : List Word) → a.kind ≡ t.semicolon
    → for_by n d y (a ∷ r) ≡ parts_head n d (Some first) h (a ∷ r)
by_first n d first h y le (inl i) a r k = rw i refl
by_first n d first h y le (inr i) a r k = rw (i.1, i.2, i.3) (rw (sees a r t.semicolon k, le-ltb d (i.0.1 + 1) (let e = i.3 in omega arith)) refl)

by_test : (n d : ℕ) (e : Expr) (h : ℕ) (rest : List Word) → kind_of rest ≡ Some t.left_brace → for_by n d (l.Expr e, h) rest ≡ (Ok (f.Test (Some e), h), rest)
by_test n d e h rest over = rw over refl

-- ---- the names of a range

defined_range : (n c : ℕ) (ns : List Name) (a r : Word) (ts : List Word) → r.kind ≡ t.range_word → defined n c true ns (a ∷ r ∷ ts) ≡ (Ok (l.Range ns, 0), r ∷ ts)
unfolding defined take_as
defined_range n c ns a r ts k = rw (sees r ts t.range_word k) refl

range_comma : (n c : ℕ) (x : Tall Expr) (g : Target) → target_of x.0 ≡ Some g → (nm : Name) → plain_of g ≡ Some nm → (a : Word) (r : List Word) → sign_of (Some a.kind) ≡ s.Comma → lead n c true x (a ∷ r) ≡ targets_from n c true n (g ∷ []) r
unfolding lead take_as
range_comma n c x g is' nm p a r e = rw (e, is', p) refl

range_names_read : (n c : ℕ) (h : ℕ) (gs : List Target) (u : List Word) → IsRow t.comma IsTarget h gs u → h ≡ 0 → (ns : List Name) → plains_of gs ≡ Some ns → length u < n → (a r : Word) (ts : List Word) → a.kind ≡ t.define → r.kind ≡ t.range_word
    → (expr n (suc c) 1 >>= lead n c true) (u ++ a ∷ r ∷ ts) ≡ (Ok (l.Range ns, 0), r ∷ ts)
range_names_read n c _ _ _ (one_item h g w i) z ns e long a r ts ka kr =
    let p = target_front n (suc c) (omega arith) g w (subst (λ (q : ℕ). IsTarget q g w) z i) long (a ∷ r ∷ ts) (ends_by 1 (a ∷ r ∷ ts) t.define (kind_is a (r ∷ ts) t.define ka) plain_define) in
    let q = name_alone g ns e in
    rw p.1 (lead_define n c true p.0 g p.2 q.0 q.1 a (r ∷ ts) (sign_at a t.define s.Define ka sign_define) ∙ subst (λ (z : List Name). defined n c true z (a ∷ r ∷ ts) ≡ (Ok (l.Range ns, 0), r ∷ ts)) q.2 (defined_range n c ns a r ts kr))
range_names_read n c _ _ _ (more_items b h h' g gs w v i k j) z ns e long a r ts ka kr =
    let len = length-append w (b ∷ v) in
    let p = target_front n (suc c) (omega arith) g w (subst (λ (q : ℕ). IsTarget q g w) (let m : h ≤ max h h' = omega arith in omega arith) i) (omega arith) (b ∷ (v ++ a ∷ r ∷ ts)) (ends_by 1 (b ∷ (v ++ a ∷ r ∷ ts)) t.comma (kind_is b (v ++ a ∷ r ∷ ts) t.comma k) plain_comma) in
    let q = names_of n c true g gs ns e in
    rw append_assoc (rw p.1 (range_comma n c p.0 g p.2 q.0.0 q.0.1 b (v ++ a ∷ r ∷ ts) (sign_at b t.comma s.Comma k sign_comma)
    ∙ from_read n c true n h' gs v j (inr q.1) (omega arith) (g ∷ []) (a ∷ r ∷ ts) (is_other (kind_of (a ∷ r ∷ ts)) t.define t.point (kind_is a (r ∷ ts) t.define ka) refl) (is_other (kind_of (a ∷ r ∷ ts)) t.define t.comma (kind_is a (r ∷ ts) t.define ka) refl)
    ∙ given_define n c true (g ∷ gs) ns e a (r ∷ ts) ka ∙ defined_range n c ns a r ts kr))

-- ---- the whole head

target_begins : (h : ℕ) (g : Target) (u : List Word) → IsTarget h g u → (rest : List Word) → begins (kind_of (u ++ rest)) ≡ true
unfolding begins
target_begins _ _ _ (plain_target n k) rest = rw k refl
target_begins _ _ _ (member_target p d n kp kd kn) rest = rw kp refl

row_begins : (h : ℕ) (gs : List Target) (u : List Word) → IsRow t.comma IsTarget h gs u → (rest : List Word) → begins (kind_of (u ++ rest)) ≡ true
row_begins _ _ _ (one_item h g w i) rest = target_begins h g w i rest
row_begins _ _ _ (more_items a h h' g gs w v i k r) rest = rw append_assoc (target_begins h g w i (a ∷ v ++ rest))

test_head : (n c : ℕ) (h : ℕ) (o : Option Expr) (w : List Word) → IsMaybe h o w → h ≤ suc c → length w < n → (rest : List Word) → kind_of rest ≡ Some t.left_brace → for_head n (suc c) (w ++ rest) ≡ (Ok (f.Test o, h), rest)
test_head n c _ _ _ no_expr le long rest over = head_none n (suc c) rest over
test_head n c _ _ _ (some_expr l' h e w x) le long rest over =
    let r = expr_read n (suc c) l' h e w x le long 1 (leveled l' h e w x) (omega arith) rest (ends_by 1 rest t.left_brace over plain_left_brace) in
    head_begun n c (w ++ rest) (begins_expr l' h e w x rest) ∙ rw r (rw (lead_other n c true (e, h) rest ((stmt_ends rest t.left_brace over last_left_brace).sign)) (by_test n (suc c) e h rest over))

first_head : (n c : ℕ) (i : ℕ) (first : Option Stmt) (u : List Word) → IsMaybeSimple i first u → i ≤ suc c → length u < n → (a : Word) (r : List Word) → a.kind ≡ t.semicolon → for_head n (suc c) (u ++ a ∷ r) ≡ parts_head n (suc c) first i (a ∷ r)
first_head n c _ _ _ no_simple le long a r k = head_parts n (suc c) a r k
first_head n c _ _ _ (some_simple h x w i) le long a r k =
    let q = led_read n (suc c) c true (omega arith) (omega arith) h x w i le long (a ∷ r) (stmt_ends (a ∷ r) t.semicolon (kind_is a r t.semicolon k) last_semicolon) in
    head_begun n c (w ++ a ∷ r) (simple_begins h x w i (a ∷ r)) ∙ rw q.reads (by_first n (suc c) x h q.lead_is le q.is a r k)

range_front : (n c : ℕ) (ns : List Name) (u : List Word) → IsRangeNames ns u → length u < n → (r : Word) (ts : List Word) → r.kind ≡ t.range_word → for_head n (suc c) (u ++ r ∷ ts) ≡ range_head n (suc c) ns (r ∷ ts)
range_front n c _ _ no_names long r ts k = head_range n (suc c) r ts k
range_front n c _ _ (range_names a ns w i ka) long r ts k =
    let len = length-append w (a ∷ []) in
    let p = row_targets 0 ns w i in
    rw append_assoc (head_begun n c (w ++ a ∷ r ∷ ts) (row_begins 0 p.0 w p.1 (a ∷ r ∷ ts)) ∙ rw (range_names_read n c 0 p.0 w p.1 refl ns p.2 (omega arith) a r ts ka k) refl)

head_in : (n c : ℕ) (h : ℕ) (x : ForHead) (w : List Word) → IsForHead h x w → h ≤ suc c → length w < n → (rest : List Word) → kind_of rest ≡ Some t.left_brace → for_head n (suc c) (w ++ rest) ≡ (Ok (x, h), rest)
head_in n c _ _ _ (test_is h o w i) le long rest over = test_head n c h o w i le long rest over
head_in n c _ _ _ (parts_are a b i j m first last test u v w x ka y kb z) le long rest over =
    let len = length-append u (a ∷ (v ++ b ∷ w)) in
    let len' = length-append v (b ∷ w) in
    rw (append_assoc, append_assoc) (first_head n c i first u x (omega arith) (omega arith) a (v ++ b ∷ (w ++ rest)) ka ∙ parts_read n c first i j m last test a b v w rest ka y kb z (omega arith) (omega arith) (omega arith) (omega arith) over)
head_in n c _ _ _ (range_is r l' h ns over' u v x k y) le long rest over =
    let len = length-append u (r ∷ v) in
    rw append_assoc (range_front n c ns u x (omega arith) r (v ++ rest) k ∙ range_read n (suc c) ns r l' h over' v k y le (omega arith) rest over)

pub for_head_read : (n d : ℕ) → 1 ≤ d → (h : ℕ) (x : ForHead) (w : List Word) → IsForHead h x w → h ≤ d → length w < n → (rest : List Word) → kind_of rest ≡ Some t.left_brace → for_head n d (w ++ rest) ≡ (Ok (x, h), rest)
for_head_read n zero some h x w i le long rest over = absurd (omega arith)
for_head_read n (suc c) some h x w i le long rest over = head_in n c h x w i le long rest over
