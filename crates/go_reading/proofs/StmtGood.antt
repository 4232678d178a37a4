-- The readers of all statements and of blocks are good.
use Rattle.std.proofs.Common.{◌≡◌, ◌≢◌, ◌⊎◌, inl, inr, ◌||◌, ℕ, zero, suc, ◌+◌, ◌≤◌, Bool, true, false, List, [], ◌∷◌, ◌++◌, Option, Some, None, Result, Err, refl, ap, ◌∙◌, arith}
use Rattle.std.proofs.lemmas.Bool.{le-ltb}
use Rattle.go_ast.specs.declared.token.TokenKind.{TokenKind}
use Rattle.go_ast.specs.declared.token.TokenKind.TheVariants as kind
use Rattle.go_ast.specs.declared.block.Stmt.{Stmt}
use Rattle.go_ast.specs.declared.block.StmtForm.TheVariants as statement
use Rattle.go_grammar.specs.Words.{Word}
use Rattle.go_grammar.specs.Terminals as t
use Rattle.go_grammar.specs.Trees.{stmt_node, expr_start, expr_end}
use Rattle.go_grammar.specs.Simple.{evaluated}
use Rattle.go_grammar.specs.Blocks.{simple, branch, breakable}
use Rattle.go_reading.specs.declared.fault.Fault.{Fault}
use Rattle.go_reading.specs.declared.fault.Fault.TheVariants.{Unexpected, TooDeep, TooMany, Exhausted}
use Rattle.go_reading.specs.declared.header.Braced.{Braced}
use Rattle.go_reading.specs.Kinds.{begins, is_one_of, starts, begins_stmt}
use Rattle.go_reading.specs.Input.{Reader, Tall, ◌>>=◌, take_span, kind_of, limited}
use Rattle.go_reading.specs.Stmts.{least, no_level, or_counter, plain_stmt, header, if_by, if_in, select_in, breakable_in, nested_stmt, const_stmt, var_stmt, return_stmt, break_stmt, continue_stmt, fallthrough_stmt, go_stmt, defer_stmt, stmt_in, stmt, block, breakable as break_at, if_ as if_at, hidden}
use Rattle.go_reading.proofs.Good.{Room, ◌⊑◌, up, Good, good_refuse, weaker, good_limited, choice, a_word, some_is, shift}
use Rattle.go_reading.proofs.Rows.{some_not_none}
use Rattle.go_reading.proofs.BlockForm.{BlockOf, BlockGood}
use Rattle.go_reading.proofs.Loose.{StmtIn, Loose}
use Rattle.go_reading.specs.Counters.{Small}
use Rattle.go_reading.specs.Input.{too_deep, refuse}
use Rattle.go_reading.proofs.BareGood.{either, reread, good_deep}
use Rattle.go_reading.proofs.StmtAt.{at_value, at_none}
use Rattle.go_reading.proofs.OrGood.{Lasting, lasting_never, Parts, Counting, counting_or_not, or_good, a_counter}
use Rattle.go_reading.proofs.Started.{StartsStmt, started, started_by}
use Rattle.go_reading.proofs.Alike.{good_eq}
use Rattle.go_reading.proofs.StmtsGood.{loose, a_return, block_in_good}
use Rattle.go_reading.proofs.Begun.{begun_expr}
use Rattle.go_reading.proofs.PlainGood.{BreakOf, plain_in}
use Rattle.go_reading.proofs.HeadsGood.{header_good}
use Rattle.go_reading.proofs.CommsGood.{case_head_good}
use Rattle.go_reading.proofs.BreaksGood.{breakable_in_good}
use Rattle.go_reading.proofs.IfGood.{IfOf, HiddenOf, short_if, short_if_is, if_inner_good}
use Rattle.go_reading.proofs.LeafGood.{const_stmt_good, var_stmt_good, return_stmt_good, break_stmt_good, continue_stmt_good, fallthrough_stmt_good, go_stmt_good, defer_stmt_good, nested_stmt_good}
use Rattle.go_grammar.specs.declared.form.Form.{Form as TextForm}

module _ (form : TextForm) where
  -- each token that a statement may begin with begins one
  pub started_all : (a : Word) → begins_stmt (Some a.kind) ≡ true → StartsStmt form a
  unfolding begins_stmt
  started_all a e = go (begins (Some a.kind)) refl e
    where
      go : (b : Bool) → begins (Some a.kind) ≡ b → (b || is_one_of starts (Some a.kind)) ≡ true → StartsStmt form a
      go true f g = let x = begun_expr a f in ((stmt_node (expr_start x.0.0) (expr_end x.0.0) (statement.Eval x.0.0), x.0.1 + 1), x.1, λ m. simple (x.0.1 + 1) (stmt_node (expr_start x.0.0) (expr_end x.0.0) (statement.Eval x.0.0)) (a ∷ x.1) (evaluated x.2.0 x.0.1 x.0.0 (a ∷ x.1) x.2.1))
      go false f g = started_by form starts (started form) a g

  -- the law of the reader of a select, over that of statements
  abbrev pub SelectGood : (Fault → Type 0) → Type 0
  SelectGood K = (n n' : ℕ) → 1 ≤ n → n ≤ n' → (d d' : Room) → d ⊑ d' → (K TooDeep → d.0 ≡ d'.0) → (K TooMany → d.1 ≡ d'.1) → (st st' : Reader (Tall Stmt)) → (least form ≤ d.0 → (ts : List Word) → Good n d K (Loose form) st st' ts)
      → (ts : List Word) → kind_of ts ≡ Some t.select_word → Good n d K (λ b. BreakOf form (up b)) (select_in form n d.1 d.0 st) (select_in form n' d'.1 d'.0 st') ts

  passes : {A : Type 0} (c : ℕ) → 1 ≤ c → (p : Reader A) (ts : List Word) → limited c 1 p ts ≡ p ts
  passes c some p ts = rw (le-ltb c 1 some) refl

  module _ (K : Fault → Type 0) (never : K Exhausted → ⊥) (select_good : SelectGood K) (n n' : ℕ) (turns : 1 ≤ n) (len : n ≤ n') where
    break_loose : (b : Room) (x : Tall Stmt) (w : List Word) → BreakOf form b x w → Loose form b x w
    break_loose b x w s = loose form b x w (breakable x.1 x.0 w s.0, s.1)

    module _ (d d' : Room) (led : d ⊑ d') (deep : K TooDeep → d.0 ≡ d'.0) (bl bl' : Reader (Tall Braced)) (block_good : 1 ≤ d.0 → (ts : List Word) → Good n d K (BlockOf form) bl bl' ts)
        (hi hi' : Reader (Tall Stmt)) (hidden_good : 3 ≤ d.0 → (ts : List Word) → kind_of ts ≡ Some t.if_word → Good n d K (HiddenOf form) hi hi' ts) where
      if_in_good : (ts : List Word) → kind_of ts ≡ Some t.if_word → Good n d K (λ b. StmtIn form (up b)) (if_in n d.0 bl hi) (if_in n' d'.0 bl' hi') ts
      unfolding if_in
      if_in_good ts is = good_limited n K (λ b. StmtIn form (up b)) d d' 1 _ _ ts led deep (some_not_none (kind_of ts) t.if_word is) (λ b db. a_return form (up b) (omega arith))
          (λ c dc some a ea. ((short_if form a, 2), a_word kind.Name ∷ a_word t.left_brace ∷ a_word t.right_brace ∷ [], (branch 2 (short_if form a) (a ∷ a_word kind.Name ∷ a_word t.left_brace ∷ a_word t.right_brace ∷ []) (short_if_is form a (some_is a.kind t.if_word (ea ∙ is)) c.1), omega arith)))
          (λ some. weaker n d K (λ b. IfOf form (up b)) (λ b. StmtIn form (up b)) _ _ _ _ (λ b db x w s. (branch x.1 x.0 w s.0, s.1))
          (if_inner_good form K n n' d d' led deep some bl bl' (block_good some) hi hi' hidden_good (λ r. header_good K never n n' len d d' led deep some true r) ts is))

      -- the same where a level is left
      if_left_good : 1 ≤ d.0 → (ts : List Word) → kind_of ts ≡ Some t.if_word → Good n d K (λ b. IfOf form (up b)) (if_in n d.0 bl hi) (if_in n' d'.0 bl' hi') ts
      unfolding if_in
      if_left_good some ts is =
          good_eq n d K (λ b. IfOf form (up b))
          (take_span >>= λ start. header n d.0 true >>= λ x. if_by n d.0 bl start x.0 x.1 hi x.0.test) (if_in n d.0 bl hi)
          (take_span >>= λ start. header n' d'.0 true >>= λ x. if_by n' d'.0 bl' start x.0 x.1 hi' x.0.test) (if_in n' d'.0 bl' hi') ts
          (passes d.0 some _ ts) (λ r. passes d'.0 (let l = led.0 in omega arith) _ r)
          (if_inner_good form K n n' d d' led deep some bl bl' (block_good some) hi hi' hidden_good (λ r. header_good K never n n' len d d' led deep some true r) ts is)

    module _ (d d' : Room) (led : d ⊑ d') (deep : K TooDeep → d.0 ≡ d'.0) (bl bl' : Reader (Tall Braced)) (block_good : 1 ≤ d.0 → (ts : List Word) → Good n d K (BlockOf form) bl bl' ts)
        (br br' : Reader (Tall Stmt)) (branch_good : (ts : List Word) → kind_of ts ≡ Some t.if_word → Good n d K (λ b. StmtIn form (up b)) br br' ts)
        (bk bk' : Reader (Tall Stmt)) (bk_good : (ts : List Word) → Good n d K (λ b. BreakOf form (up b)) bk bk' ts)
        (lb lb' : Reader (Tall Stmt)) (lb_good : 1 ≤ d.0 → (ts : List Word) → Good n d K (BreakOf form) lb lb' ts) where
      lift : (p q : Reader (Tall Stmt)) (ts : List Word) → Good n d K (λ b. StmtIn form (up b)) p q ts → Good n (up d) K (Loose form) p q ts
      lift p q ts a = weaker n (up d) K (StmtIn form) (Loose form) _ _ _ _ (λ b db x w s. loose form b x w s) (shift n d K (StmtIn form) q ts _ _ a)

      lift_break : (ts : List Word) → Good n (up d) K (Loose form) bk bk' ts
      lift_break ts = weaker n (up d) K (BreakOf form) (Loose form) _ _ _ _ (λ b db x w s. break_loose b x w s) (shift n d K (BreakOf form) bk' ts _ _ (bk_good ts))

      stmt_in_good : (ts : List Word) → Good n (up d) K (Loose form) (stmt_in n d.0 bl br bk lb) (stmt_in n' d'.0 bl' br' bk' lb') ts
      unfolding stmt_in
      stmt_in_good ts =
          choice n (up d) K (Loose form) t.left_brace _ _ _ _ ts (λ is. lift (nested_stmt n d.0 bl) (nested_stmt n' d'.0 bl') ts (nested_stmt_good form K never n n' len d d' led deep bl bl' block_good ts is))
          (λ _. choice n (up d) K (Loose form) t.if_word _ _ _ _ ts (λ is. lift br br' ts (branch_good ts is))
          (λ _. choice n (up d) K (Loose form) t.for_word _ _ _ _ ts (λ is. lift_break ts)
          (λ _. choice n (up d) K (Loose form) t.switch_word _ _ _ _ ts (λ is. lift_break ts)
          (λ _. choice n (up d) K (Loose form) t.select_word _ _ _ _ ts (λ is. lift_break ts)
          (λ _. choice n (up d) K (Loose form) t.const_word _ _ _ _ ts (λ is. lift (const_stmt n d.0) (const_stmt n' d'.0) ts (const_stmt_good form K never n n' len d d' led deep ts is))
          (λ _. choice n (up d) K (Loose form) t.var_word _ _ _ _ ts (λ is. lift (var_stmt n d.0) (var_stmt n' d'.0) ts (var_stmt_good form K never n n' len d d' led deep ts is))
          (λ _. choice n (up d) K (Loose form) t.return_word _ _ _ _ ts (λ is. lift (return_stmt n d.0) (return_stmt n' d'.0) ts (return_stmt_good form K never n n' len d d' led deep ts is))
          (λ _. choice n (up d) K (Loose form) t.break_word _ _ _ _ ts (λ is. lift break_stmt break_stmt ts (break_stmt_good form K never n n' len d d' led deep ts is))
          (λ _. choice n (up d) K (Loose form) t.continue_word _ _ _ _ ts (λ is. lift continue_stmt continue_stmt ts (continue_stmt_good form K never n n' len d d' led deep ts is))
          (λ _. choice n (up d) K (Loose form) t.fallthrough_word _ _ _ _ ts (λ is. lift fallthrough_stmt fallthrough_stmt ts (fallthrough_stmt_good form K never n n' len d d' led deep ts is))
          (λ _. choice n (up d) K (Loose form) t.go_word _ _ _ _ ts (λ is. lift (go_stmt n d.0) (go_stmt n' d'.0) ts (go_stmt_good form K never n n' len d d' led deep ts is))
          (λ _. choice n (up d) K (Loose form) t.defer_word _ _ _ _ ts (λ is. lift (defer_stmt n d.0) (defer_stmt n' d'.0) ts (defer_stmt_good form K never n n' len d d' led deep ts is))
          (λ _. plain_in form K never n n' len turns d.0 d'.0 d.1 d'.1 led deep lb lb' lb_good ts)))))))))))))

  -- ---- where no level is left

  no_level_parts : Parts no_level
  unfolding no_level begins_stmt begins
  no_level_parts text o =
      let k : kind_of text ≡ Some kind.Name = ap kind_of o.both ∙ o.named o.back in
      (Err TooDeep, text, rw k refl, inl refl)

  some_start : (o : Option TokenKind) → begins_stmt o ≡ true → o ≢ None
  unfolding begins_stmt begins
  some_start None b n = cc
  some_start (Some k) b n = cc

  no_level_good : Counting form → (K : Fault → Type 0) (n m : ℕ) (q : Reader (Tall Stmt)) → (K TooDeep → (r : List Word) → begins_stmt (kind_of r) ≡ true → q r ≡ (Err TooDeep, r)) → ((r : List Word) → begins_stmt (kind_of r) ≡ false → q r ≡ (Err Unexpected, r))
      → (ts : List Word) → Good n (0, m) K (Loose form) no_level q ts
  unfolding no_level
  no_level_good c K n m q deep other ts = either n (0, m) K (Loose form) (begins_stmt (kind_of ts)) too_deep refuse q ts
      (λ b. good_deep n (0, m) K (Loose form) q ts (some_start (kind_of ts) b) (λ s r k. deep s r (rw k b)) (λ e le. a_counter form c e)
      (λ a e. let x = started_all a (ap begins_stmt e ∙ b) in (x.0.1, x.0, x.1, omega arith, (x.2 m, inl (inl (omega arith))))))
      (λ b. reread n (0, m) K (Loose form) q refuse ts _ _ (λ r k. other r (rw k b)) (good_refuse n (0, m) K (Loose form) ts (λ e le. a_counter form c e)))

  -- ---- the readers of other statements

  other_at : ℕ → ℕ → ℕ → Reader (Tall Stmt)
  other_at n m c = stmt_in n c (block form n m c) (if_in n c (block form n m c) (hidden form n m c)) (breakable_in form n m c (stmt form n m c) (block form n m c)) (break_at form n m c)

  name_begins : (o : Option TokenKind) → o ≡ Some kind.Name → begins o ≡ true
  unfolding begins
  name_begins o e = rw e refl

  other_plain : (n m c : ℕ) (ts : List Word) → kind_of ts ≡ Some kind.Name → other_at n m c ts ≡ plain_stmt n c (break_at form n m c) ts
  unfolding other_at
  other_plain n m c ts k = at_value n c (block form n m c) (if_in n c (block form n m c) (hidden form n m c)) (breakable_in form n m c (stmt form n m c) (block form n m c)) (break_at form n m c) ts (name_begins (kind_of ts) k)

  other_none : (n m c : ℕ) (ts : List Word) → begins_stmt (kind_of ts) ≡ false → other_at n m c ts ≡ (Err Unexpected, ts)
  unfolding other_at
  other_none n m c ts b = at_none n c (block form n m c) (if_in n c (block form n m c) (hidden form n m c)) (breakable_in form n m c (stmt form n m c) (block form n m c)) (break_at form n m c) ts b

  other_parts : (n m c : ℕ) → 7 ≤ n → Parts (other_at (suc n) m c)
  other_parts n m c long text o = by c refl
    where
      named : kind_of text ≡ Some kind.Name
      named = ap kind_of o.both ∙ o.named o.back

      start : other_at (suc n) m c text ≡ plain_stmt (suc n) c (break_at form (suc n) m c) (o.front ++ o.token ∷ o.back)
      start = other_plain (suc n) m c text named ∙ ap (plain_stmt (suc n) c (break_at form (suc n) m c)) o.both

      low : c ≤ 1 → (v : Result (Tall Stmt) Fault) × (rest : List Word) × (other_at (suc n) m c text ≡ (v, rest)) × ((v ≡ Err TooDeep) ⊎ (rest ≡ o.token ∷ o.back))
      low le = let g = o.low n c (break_at form (suc n) m c) o.back long le in (Err TooDeep, g.0, start ∙ g.1, inl refl)

      by : (e : ℕ) → c ≡ e → (v : Result (Tall Stmt) Fault) × (rest : List Word) × (other_at (suc n) m c text ≡ (v, rest)) × ((v ≡ Err TooDeep) ⊎ (rest ≡ o.token ∷ o.back))
      by zero is = low (omega arith)
      by (suc zero) is = low (omega arith)
      by (suc (suc e)) is =
          let g = o.high n e (break_at form (suc n) m c) o.back long in
          let there : plain_stmt (suc n) c (break_at form (suc n) m c) (o.front ++ o.token ∷ o.back) ≡ (g.0, o.token ∷ o.back) = ap (λ (z : ℕ). plain_stmt (suc n) z (break_at form (suc n) m c) (o.front ++ o.token ∷ o.back)) is ∙ g.1 in
          (g.0, o.token ∷ o.back, start ∙ there, inr refl)

  -- the laws at a depth
  record Level (K : Fault → Type 0) (n n' c c' m m' : ℕ) : Type 0 where
    stmts : least form ≤ c → (ts : List Word) → Good n (c, m) K (Loose form) (stmt form n m c) (stmt form n' m' c') ts
    blocks : 1 ≤ c → (ts : List Word) → Good n (c, m) K (BlockOf form) (block form n m c) (block form n' m' c') ts
    breaks : 1 ≤ c → (ts : List Word) → Good n (c, m) K (BreakOf form) (break_at form n m c) (break_at form n' m' c') ts
    ifs : 2 ≤ c → (ts : List Word) → kind_of ts ≡ Some t.if_word → Good n (c, m) K (IfOf form) (if_at form n m c) (if_at form n' m' c') ts
    hiddens : 3 ≤ c → (ts : List Word) → kind_of ts ≡ Some t.if_word → Good n (c, m) K (HiddenOf form) (hidden form n m c) (hidden form n' m' c') ts

  module _ (small : Small form) (select_good : (K : Fault → Type 0) → (K Exhausted → ⊥) → SelectGood K) where
    breaks_in : (K : Fault → Type 0) (never : K Exhausted → ⊥) (n n' : ℕ) (turns : 1 ≤ n) (len : n ≤ n') (c c' m m' : ℕ) → (c, m) ⊑ (c', m') → (K TooDeep → c ≡ c') → (K TooMany → m ≡ m') → Level K n n' c c' m m'
        → (ts : List Word) → Good n (c, m) K (λ b. BreakOf form (up b)) (breakable_in form n m c (stmt form n m c) (block form n m c)) (breakable_in form n' m' c' (stmt form n' m' c') (block form n' m' c')) ts
    breaks_in K never n n' turns len c c' m m' led deep many below =
        (breakable_in_good form) K never n n' len turns (c, m) (c', m') led deep (stmt form n m c) (stmt form n' m' c') below.stmts (block form n m c) (block form n' m' c') below.blocks m m' started_all
        (case_head_good K never n n' len (c, m) (c', m') led deep) (select_good K never n n' turns len (c, m) (c', m') led deep many (stmt form n m c) (stmt form n' m' c') below.stmts)

    inner_good : (K : Fault → Type 0) (never : K Exhausted → ⊥) (n n' : ℕ) (turns : 1 ≤ n) (len : n ≤ n') (c c' m m' : ℕ) → (c, m) ⊑ (c', m') → (K TooDeep → c ≡ c') → (K TooMany → m ≡ m') → Level K n n' c c' m m'
        → (ts : List Word) → Good n (suc c, m) K (Loose form) (other_at n m c) (other_at n' m' c') ts
    unfolding other_at
    inner_good K never n n' turns len c c' m m' led deep many below ts =
        stmt_in_good K never (select_good K never) n n' turns len (c, m) (c', m') led deep (block form n m c) (block form n' m' c') below.blocks
        (if_in n c (block form n m c) (hidden form n m c)) (if_in n' c' (block form n' m' c') (hidden form n' m' c')) (if_in_good K never (select_good K never) n n' turns len (c, m) (c', m') led deep (block form n m c) (block form n' m' c') below.blocks (hidden form n m c) (hidden form n' m' c') below.hiddens)
        (breakable_in form n m c (stmt form n m c) (block form n m c)) (breakable_in form n' m' c' (stmt form n' m' c') (block form n' m' c')) (breaks_in K never n n' turns len c c' m m' led deep many below) (break_at form n m c) (break_at form n' m' c') below.breaks ts

    counts_at : (K : Fault → Type 0) (n m : ℕ) (q : Reader (Tall Stmt)) → (K Exhausted → ⊥) → Counting form → (K TooDeep → (r : List Word) → begins_stmt (kind_of r) ≡ true → q r ≡ (Err TooDeep, r)) → ((r : List Word) → begins_stmt (kind_of r) ≡ false → q r ≡ (Err Unexpected, r))
        → (ts : List Word) → Good n (0, m) K (Loose form) (or_counter form no_level) (or_counter form q) ts
    unfolding no_level
    counts_at K n m q never c deep other ts =
        or_good form small K never n (0, m) no_level q no_level no_level_parts (no_level_good c K n m q deep other)
        (no_level_good c Lasting n m no_level (λ s r b. rw b refl) (λ r b. rw b refl)) ts

    counting_at : least form ≤ 0 → Counting form
    counting_at some = go (counting_or_not form)
      where
        go : Counting form ⊎ ((least form ≡ 1) × ((o : Reader (Tall Stmt)) (r : List Word) → or_counter form o r ≡ o r)) → Counting form
        go (inl c) = c
        go (inr i) = let l = i.0 in absurd (omega arith)

    levels : (c : ℕ) (K : Fault → Type 0) (never : K Exhausted → ⊥) (n n' : ℕ) (turns : 1 ≤ n) (len : n ≤ n') (c' m m' : ℕ) → (c, m) ⊑ (c', m') → (K TooDeep → c ≡ c') → (K TooMany → m ≡ m') → Level K n n' c c' m m'
    unfolding stmt other_at no_level
    levels zero K never n n' turns len zero m m' led deep many = record {
      stmts = λ some. counts_at K n m no_level never (counting_at some) (λ s r b. rw b refl) (λ r b. rw b refl);
      blocks = λ some. absurd (omega arith);
      breaks = λ some. absurd (omega arith);
      ifs = λ some. absurd (omega arith);
      hiddens = λ some. absurd (omega arith);
    }
    levels zero K never n n' turns len (suc c') m m' led deep many = record {
      stmts = λ some. counts_at K n m (other_at n' m' c') never (counting_at some) (λ s r b. let e : 0 ≡ suc c' = deep s in absurd (omega arith)) (λ r b. other_none n' m' c' r b);
      blocks = λ some. absurd (omega arith);
      breaks = λ some. absurd (omega arith);
      ifs = λ some. absurd (omega arith);
      hiddens = λ some. absurd (omega arith);
    }
    levels (suc c) K never n n' turns len zero m m' led deep many = let l : suc c ≤ 0 = led.0 in absurd (omega arith)
    levels (suc c) K never n n' turns len (suc c') m m' led deep many =
        let less : (c, m) ⊑ (c', m') = (let l : suc c ≤ suc c' = led.0 in omega arith, led.1) in
        let eq : K TooDeep → c ≡ c' = λ s. let f : suc c ≡ suc c' = deep s in omega arith in
        let below : Level K n n' c c' m m' = levels c K never n n' turns len c' m m' less eq many in
        let far_below : Level Lasting n (suc (n + 7)) c c m m = levels c Lasting (lasting_never form) n (suc (n + 7)) turns (omega arith) c m m (omega arith, omega arith) (λ s. refl) (λ s. refl) in
        let breaks = breaks_in K never n n' turns len c c' m m' less eq many below in
        record {
          stmts = λ some ts. or_good form small K never n (suc c, m) (other_at n m c) (other_at n' m' c') (other_at (suc (n + 7)) m c) (other_parts (n + 7) m c (omega arith)) (inner_good K never n n' turns len c c' m m' less eq many below)
              (inner_good Lasting (lasting_never form) n (suc (n + 7)) turns (omega arith) c c m m (omega arith, omega arith) (λ s. refl) (λ s. refl) far_below) ts;
          blocks = λ some ts. shift n (c, m) K (BlockOf form) _ ts _ _ (block_in_good form K never n n' len (c, m) (c', m') less eq (stmt form n m c) (stmt form n' m' c') below.stmts started_all ts);
          breaks = λ some ts. shift n (c, m) K (BreakOf form) _ ts _ _ (breaks ts);
          ifs = λ two ts is. shift n (c, m) K (IfOf form) _ ts _ _ (if_left_good K never (select_good K never) n n' turns len (c, m) (c', m') less eq (block form n m c) (block form n' m' c') below.blocks (hidden form n m c) (hidden form n' m' c') below.hiddens (omega arith) ts is);
          hiddens = λ three ts is. shift n (c, m) K (HiddenOf form) _ ts _ _ (weaker n (c, m) K (IfOf form) (λ b. HiddenOf form (up b)) _ _ _ _ (λ b db x w s. (s.0, let h = s.1 in omega arith)) (below.ifs (omega arith) ts is));
        }

    -- the law of the reader of blocks, over that of the reader of a select
    pub block_good : (K : Fault → Type 0) → (K Exhausted → ⊥) → BlockGood form K
    block_good K never n n' turns len d d' led deep many some ts = (levels d.0 K never n n' turns len d'.0 d.1 d'.1 led deep many).blocks some ts
