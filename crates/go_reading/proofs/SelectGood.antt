-- The reader of a select is good, if that of statements is.
use Rattle.std.proofs.Common.{◌≡◌, ◌||◌, ◌&&◌, ℕ, zero, suc, ◌+◌, ◌≤◌, max, Bool, true, false, cond, List, [], ◌∷◌, ◌++◌, Some, length, Err, refl, sym, ◌∙◌, append_assoc, arith, nat_le, if◌then◌else◌}
use Rattle.std.proofs.lemmas.List.{append-nil, length-append}
use Rattle.std.proofs.lemmas.Bool.{leb-false}
use Rattle.go_ast.specs.declared.span.Span.{Span}
use Rattle.go_ast.specs.declared.token.TokenKind.{TokenKind}
use Rattle.go_ast.specs.declared.token.TokenKind.TheVariants as kind
use Rattle.go_ast.specs.declared.block.Stmt.{Stmt}
use Rattle.go_ast.specs.declared.block.StmtForm.TheVariants as statement
use Rattle.go_ast.specs.declared.block.Comm.{Comm}
use Rattle.go_ast.specs.declared.block.Comm.TheVariants as comm
use Rattle.go_ast.specs.declared.block.CommClause.{CommClause}
use Rattle.go_grammar.specs.Words.{Word}
use Rattle.go_grammar.specs.Terminals as t
use Rattle.go_grammar.specs.Trees.{stmt_node, comm_node}
use Rattle.go_grammar.specs.Simple.{take_}
use Rattle.go_grammar.specs.Blocks.{select, IsComms, no_comms, more_comms, IsCommClause, comm_case, comm_default, IsList, no_stmts}
use Rattle.go_reading.specs.declared.fault.Fault.{Fault}
use Rattle.go_reading.specs.declared.fault.Fault.TheVariants.{TooDeep, TooMany, Exhausted}
use Rattle.go_reading.specs.Kinds.{is}
use Rattle.go_reading.specs.Input.{Reader, Tall, ◌>>=◌, pure, fail, peek, kind_of, span_of}
use Rattle.go_reading.specs.Stmts.{least, begins_clause, comm_head, list, comms_from, select_in}
use Rattle.go_reading.proofs.Good.{Room, ◌⊑◌, up, Form, Good, Filled, Rises, seq_less, weaker, fewer, good_pure, by_test, take_then, expect_then, IsTaken, a_word, same_is}
use Rattle.go_reading.proofs.Rows.{Within, within_rises}
use Rattle.go_reading.proofs.ExprsGood.{an_expr, is_an_expr}
use Rattle.go_reading.proofs.Clauses.{comms_rise}
use Rattle.go_reading.proofs.Loose.{Loose}
use Rattle.go_reading.proofs.StmtForms.{IsCommHead, comm_is, none_is}
use Rattle.go_reading.proofs.Full.{full_at, good_full}
use Rattle.go_reading.proofs.Alike.{bind_assoc, good_eq, good_out_of_turns, go_on_eq}
use Rattle.go_reading.proofs.StmtsGood.{BodyOf, list_then_good}
use Rattle.go_reading.proofs.ListEnds.{EndsClause, at_brace, at_case, at_default, ends_clause}
use Rattle.go_reading.proofs.CommsGood.{comm_head_good}
use Rattle.go_reading.proofs.PlainGood.{BreakOf}
use Rattle.go_reading.proofs.StmtGood.{SelectGood, started_all}
use Rattle.go_grammar.specs.declared.form.Form.{Form as TextForm}

module _ (form : TextForm) where
  one_longer : (found : List CommClause) (c : CommClause) → length (found ++ c ∷ []) ≡ length found + 1
  one_longer found c = length-append found (c ∷ [])

  -- ---- what stands before the brace that closes a select

  module _ {B : Type 0} (Fin : Tall (List CommClause) → Form B) where
    -- the clauses so far, and those in w, no more than may be, and what closes them
    record CommsFrom (found : List CommClause) (h : ℕ) (b : Room) (z : B) (w : List Word) : Type 0 where
      items : List CommClause
      tall : ℕ
      front : List Word
      back : List Word
      all : IsComms form b.1 tall items front
      few : length (found ++ items) ≤ b.1
      both : w ≡ front ++ back
      closes : Fin (found ++ items, max h tall) b z back
      fits : tall ≤ b.0

    abbrev Clause : List CommClause → ℕ → Tall (Comm × ℕ) → Tall (List Stmt) → Form B
    Clause found h x y = CommsFrom (found ++ comm_node x.0.0 x.0.1 y.0 ∷ []) (max h (max x.1 y.1))

    comms_from_rise : ((y : Tall (List CommClause)) → Rises (Fin y)) → (found : List CommClause) (h : ℕ) → Rises (CommsFrom found h)
    comms_from_rise rises found h b c le z w s = record {
      items = s.items;
      tall = s.tall;
      front = s.front;
      back = s.back;
      all = comms_rise form b.1 c.1 le.1 s.tall s.items s.front s.all;
      few = let f = s.few in let l = le.1 in omega arith;
      both = s.both;
      closes = rises (found ++ s.items, max h s.tall) b c le z s.back s.closes;
      fits = let f = s.fits in let l = le.0 in omega arith;
    }

    none_from : (found : List CommClause) (h : ℕ) (b : Room) (z : B) (w : List Word) → length found ≤ b.1 → Fin (found, h) b z w → CommsFrom found h b z w
    none_from found h b z w few i =
        let m : max h 0 ≡ h = omega arith in
        record { items = []; tall = 0; front = []; back = w; all = no_comms; few = rw append-nil few; both = refl; closes = rw (append-nil, m) i; fits = omega arith }

    -- a head, a list and what follows
    clause_is : (b : Room) (x : Tall (Comm × ℕ)) (y : Tall (List Stmt)) (u v : List Word) → IsCommHead x.1 x.0 u → IsList form b.1 y.1 y.0 v → IsCommClause form b.1 (max x.1 y.1) (comm_node x.0.0 x.0.1 y.0) (u ++ v)
    clause_is b x y u v i j = go x.1 x.0 u i
      where
        go : (h : ℕ) (p : Comm × ℕ) (u : List Word) → IsCommHead h p u → IsCommClause form b.1 (max h y.1) (comm_node p.0 p.1 y.0) (u ++ v)
        go _ _ _ (comm_is k c h m w kk is' kc) = rw append_assoc (comm_case k c h y.1 m y.0 w v kk is' kc j)
        go _ _ _ (none_is k c kk kc) = let m : max 0 y.1 ≡ y.1 = omega arith in rw m (comm_default k c y.1 y.0 v kk kc j)

    more_from : (found : List CommClause) (h : ℕ) (b : Room) (x : Tall (Comm × ℕ)) (z : B) (u w : List Word) → Within IsCommHead b x u → BodyOf form true (Clause found h x) b z w → CommsFrom found h b z (u ++ w)
    more_from found h b x z u w iu body =
        let r = body.closes in
        let y = body.y in
        let m : max (max h (max x.1 y.1)) r.tall ≡ max h (max (max x.1 y.1) r.tall) = omega arith in
        let a : (found ++ comm_node x.0.0 x.0.1 y.0 ∷ []) ++ r.items ≡ found ++ (comm_node x.0.0 x.0.1 y.0 ∷ r.items) = append_assoc found (comm_node x.0.0 x.0.1 y.0 ∷ []) r.items in
        record {
          items = comm_node x.0.0 x.0.1 y.0 ∷ r.items;
          tall = max (max x.1 y.1) r.tall;
          front = (u ++ body.front) ++ r.front;
          back = r.back;
          all = more_comms (max x.1 y.1) r.tall (comm_node x.0.0 x.0.1 y.0) r.items (u ++ body.front) r.front (clause_is b x y u body.front iu.0 body.from.0) r.all;
          few = rw (sym a) r.few;
          both = rw (body.both, r.both) (simp append_assoc);
          closes = rw (sym a, sym m) r.closes;
          fits = let f1 = iu.1 in let f2 = body.from.1 in let f3 = r.fits in omega arith;
        }

  -- ---- the loop over clauses

  comms_eq : {B : Type 0} (n m c : ℕ) (u : Reader (Tall Stmt)) (k : ℕ) (found : List CommClause) (h : ℕ) (fin : Tall (List CommClause) → Reader B) (ts : List Word)
      → (comms_from form n c u m (suc k) found h >>= fin) ts
      ≡ (peek >>= λ kind. if begins_clause kind then (peek >>= λ kind. if nat_le m (length found) && begins_clause kind then fail TooMany else (comm_head n c >>= λ x. list form n c u true (nat_le m (length found + 1)) >>= λ xs. (comms_from form n c u m k (found ++ comm_node x.0.0 x.0.1 xs.0 ∷ []) (max h (max x.1 xs.1)) >>= fin))) else fin (found, h)) ts
  unfolding comms_from
  comms_eq {B} n m c u k found h fin ts = at_kind (begins_clause (kind_of ts)) (nat_le m (length found)) refl
    where
      full : Bool
      full = nat_le m (length found + 1)

      more : Tall (Comm × ℕ) → Tall (List Stmt) → Reader (Tall (List CommClause))
      more x xs = comms_from form n c u m k (found ++ comm_node x.0.0 x.0.1 xs.0 ∷ []) (max h (max x.1 xs.1))

      at_kind : (b f : Bool) → begins_clause (kind_of ts) ≡ b → ((cond b (cond f (fail TooMany) (comm_head n c >>= λ x. list form n c u true full >>= λ xs. more x xs)) (pure (found, h))) >>= fin) ts
          ≡ (cond b (peek >>= λ kind. if f && begins_clause kind then fail TooMany else (comm_head n c >>= λ x. list form n c u true full >>= λ xs. (more x xs >>= fin))) (fin (found, h))) ts
      at_kind true true e = rw e refl
      at_kind true false e =
          bind_assoc (comm_head n c ts).0 (comm_head n c ts).1 (λ x. list form n c u true full >>= λ xs. more x xs) fin
          ∙ go_on_eq (comm_head n c ts).0 (comm_head n c ts).1 (λ x. (list form n c u true full >>= λ xs. more x xs) >>= fin) (λ x. list form n c u true full >>= λ xs. (more x xs >>= fin))
          (λ x r. bind_assoc (list form n c u true full r).0 (list form n c u true full r).1 (more x) fin)
      at_kind false f e = refl

  head_some : (b : Room) (x : Tall (Comm × ℕ)) (w : List Word) → Within IsCommHead b x w → 1 ≤ length w
  head_some b x w i = go x.1 x.0 w i.0
    where
      go : (h : ℕ) (p : Comm × ℕ) (w : List Word) → IsCommHead h p w → 1 ≤ length w
      go _ _ _ (comm_is k c h m w kk is' kc) = omega arith
      go _ _ _ (none_is k c kk kc) = omega arith

  comms_zero : {B : Type 0} (n m c : ℕ) (u : Reader (Tall Stmt)) (found : List CommClause) (h : ℕ) (fin : Tall (List CommClause) → Reader B) (ts : List Word) → (comms_from form n c u m zero found h >>= fin) ts ≡ (Err Exhausted, ts)
  unfolding comms_from
  comms_zero n m c u found h fin ts = refl

  -- a token that begins a clause
  data BeginsClause (k : TokenKind) : Type 0 where
    case_begins : k ≡ t.case_word → BeginsClause k
    default_begins : k ≡ t.default_word → BeginsClause k

  begins_which : (k : TokenKind) → begins_clause (Some k) ≡ true → BeginsClause k
  begins_which k e = go (is (Some k) t.case_word) (is (Some k) t.default_word) refl refl e
    where
      go : (a b : Bool) → is (Some k) t.case_word ≡ a → is (Some k) t.default_word ≡ b → (a || b) ≡ true → BeginsClause k
      go true b p q f = case_begins (same_is k t.case_word p)
      go false true p q f = default_begins (same_is k t.default_word q)
      go false false p q f = absurd cc

  -- where a clause begins and that is no fault, one more may come
  room_left : (m i : ℕ) (b : Bool) → b ≡ true → (nat_le m i && b) ≡ false → i + 1 ≤ m
  room_left m i b e f = go (nat_le m i) b refl e f
    where
      go : (a b : Bool) → nat_le m i ≡ a → b ≡ true → (a && b) ≡ false → i + 1 ≤ m
      go false b p e f = let l = leb-false m i p in omega arith
      go true true p e f = absurd cc
      go true false p e f = absurd cc

  module _ {B : Type 0} (Fin : Tall (List CommClause) → Form B) (K : Fault → Type 0) (never : K Exhausted → ⊥) (n n' : ℕ) (len : n ≤ n') (d d' : Room) (led : d ⊑ d') (deep : K TooDeep → d.0 ≡ d'.0) (many : K TooMany → d.1 ≡ d'.1)
      (st st' : Reader (Tall Stmt)) (stmt_good : least form ≤ d.0 → (ts : List Word) → Good n d K (Loose form) st st' ts)
      (fin fin' : Tall (List CommClause) → Reader B) (rises : (y : Tall (List CommClause)) → Rises (Fin y))
      (fin_good : (y : Tall (List CommClause)) (r : List Word) → Good n d K (Fin y) (fin y) (fin' y) r)
      (fin_far : (y : Tall (List CommClause)) (a : Word) → a.kind ≡ t.right_brace → (b : Room) → (z : B) × (w : List Word) × Fin y b z (a ∷ w))
      (fin_some : (y : Tall (List CommClause)) (c : Room) → Filled c (Fin y)) where
    comms_filled : (found : List CommClause) (h : ℕ) (c : Room) → length found ≤ c.1 → Filled c (CommsFrom Fin found h)
    comms_filled found h c few = let e = fin_some (found, h) c in (e.0, e.1, none_from Fin found h c e.0 e.1 few e.2)

    one_more_from : (found : List CommClause) (h : ℕ) (b : Room) (x : Tall (Comm × ℕ)) (u : List Word) → length found + 1 ≤ b.1 → Within IsCommHead b x u → (e : Filled b (Fin (found ++ comm_node x.0.0 x.0.1 [] ∷ [], max h (max x.1 0)))) → CommsFrom Fin found h b e.0 (u ++ e.1)
    one_more_from found h b x u few i e =
        let l = one_longer found (comm_node x.0.0 x.0.1 []) in
        more_from Fin found h b x e.0 u e.1 i (record { y = ([], 0); front = []; back = e.1; from = (no_stmts, omega arith); both = refl; closes = none_from Fin (found ++ comm_node x.0.0 x.0.1 [] ∷ []) (max h (max x.1 0)) b e.0 e.1 (omega arith) e.2 })

    -- a clause that begins with the token, in room for it
    begun_far : (found : List CommClause) (h : ℕ) (a : Word) → BeginsClause a.kind → (b : Room) → length found + 1 ≤ b.1 → 1 ≤ b.0 → (z : B) × (w : List Word) × CommsFrom Fin found h b z (a ∷ w)
    begun_far found h a (case_begins e) b few some =
        let c = a_word t.colon in
        let x : Tall (Comm × ℕ) = ((comm.Take [] an_expr, c.span.start), 1) in
        let g = fin_some (found ++ comm_node x.0.0 x.0.1 [] ∷ [], max h (max x.1 0)) b in (
          g.0,
          a_word t.arrow ∷ a_word kind.Name ∷ c ∷ g.1,
          one_more_from found h b x (a ∷ (a_word t.arrow ∷ a_word kind.Name ∷ c ∷ [])) few
              (comm_is a c 1 (comm.Take [] an_expr) (a_word t.arrow ∷ a_word kind.Name ∷ []) e (take_ (a_word t.arrow) 7 1 an_expr (a_word kind.Name ∷ []) refl is_an_expr (omega arith)) refl, some) g,
        )
    begun_far found h a (default_begins e) b few some =
        let c = a_word t.colon in
        let x : Tall (Comm × ℕ) = ((comm.Default, c.span.start), 0) in
        let g = fin_some (found ++ comm_node x.0.0 x.0.1 [] ∷ [], max h (max x.1 0)) b in
        (g.0, c ∷ g.1, one_more_from found h b x (a ∷ c ∷ []) few (none_is a c e refl, omega arith) g)

    -- and past the limit
    many_far : (found : List CommClause) (h : ℕ) (a : Word) → begins_clause (Some a.kind) ≡ true → (b : Room) × (z : B) × (w : List Word) × (d ⊑ b) × CommsFrom Fin found h b z (a ∷ w)
    many_far found h a e =
        let b : Room = (d.0 + 1, d.1 + (length found + 1)) in
        let g = begun_far found h a (begins_which a.kind e) b (omega arith) (omega arith) in
        (b, g.0, g.1, (omega arith, omega arith), g.2)

    -- at the end of a list, where a clause may come if one begins
    clause_far : (found : List CommClause) (h : ℕ) → length found ≤ d.1 → (a : Word) → EndsClause a.kind → (nat_le d.1 (length found) && begins_clause (Some a.kind)) ≡ false → (k : ℕ) × (z : B) × (w : List Word) × (d.0 ≤ k) × CommsFrom Fin found h (k, d.1) z (a ∷ w)
    clause_far found h few a (at_brace e) none = let g = fin_far (found, h) a e d in (d.0, g.0, g.1, omega arith, none_from Fin found h d g.0 (a ∷ g.1) few g.2)
    clause_far found h few a (at_case e) none =
        let k = d.0 + 1 in
        let g = begun_far found h a (case_begins e) (k, d.1) (room_left d.1 (length found) (begins_clause (Some a.kind)) (rw e refl) none) (omega arith) in
        (k, g.0, g.1, omega arith, g.2)
    clause_far found h few a (at_default e) none =
        let k = d.0 + 1 in
        let g = begun_far found h a (default_begins e) (k, d.1) (room_left d.1 (length found) (begins_clause (Some a.kind)) (rw e refl) none) (omega arith) in
        (k, g.0, g.1, omega arith, g.2)

    comms_then_good : (k k' : ℕ) → k ≤ n → k ≤ k' → (found : List CommClause) → length found ≤ d.1 → (h : ℕ) (ts : List Word) → Good k d K (CommsFrom Fin found h) (comms_from form n d.0 st d.1 k found h >>= fin) (comms_from form n' d'.0 st' d'.1 k' found h >>= fin') ts
    comms_then_good zero k' kn kk found few h ts =
        good_out_of_turns d K (CommsFrom Fin found h) (comms_from form n d.0 st d.1 zero found h >>= fin) (comms_from form n' d'.0 st' d'.1 k' found h >>= fin') ts never (λ c dc. comms_filled found h c (let l = dc.1 in omega arith)) (comms_zero n d.1 d.0 st found h fin ts)
    comms_then_good (suc k) zero kn kk found few h ts = absurd (omega arith)
    comms_then_good (suc k) (suc k') kn kk found few h ts =
        good_eq (suc k) d K (CommsFrom Fin found h)
        (peek >>= λ kind. if begins_clause kind then (peek >>= λ kind. if nat_le d.1 (length found) && begins_clause kind then fail TooMany else (comm_head n d.0 >>= λ x. list form n d.0 st true (nat_le d.1 (length found + 1)) >>= λ xs. (comms_from form n d.0 st d.1 k (found ++ comm_node x.0.0 x.0.1 xs.0 ∷ []) (max h (max x.1 xs.1)) >>= fin))) else fin (found, h)) (comms_from form n d.0 st d.1 (suc k) found h >>= fin)
        (peek >>= λ kind. if begins_clause kind then (peek >>= λ kind. if nat_le d'.1 (length found) && begins_clause kind then fail TooMany else (comm_head n' d'.0 >>= λ x. list form n' d'.0 st' true (nat_le d'.1 (length found + 1)) >>= λ xs. (comms_from form n' d'.0 st' d'.1 k' (found ++ comm_node x.0.0 x.0.1 xs.0 ∷ []) (max h (max x.1 xs.1)) >>= fin'))) else fin' (found, h)) (comms_from form n' d'.0 st' d'.1 (suc k') found h >>= fin') ts
        (comms_eq n d.1 d.0 st k found h fin ts) (λ r. comms_eq n' d'.1 d'.0 st' k' found h fin' r)
        (by_test (suc k) d K _ begins_clause _ _ _ _ ts
        (λ here. good_full (suc k) K _ d _ _ (full_at K d.1 d'.1 led.1 many (length found)) _ _ ts (λ c dc. comms_filled found h c (let l = dc.1 in omega arith)) (λ all a ea begins. many_far found h a begins) (λ some.
        let left : length found + 1 ≤ d.1 = room_left d.1 (length found) (begins_clause (kind_of ts)) here some in
        seq_less (suc k) k d K (Within IsCommHead) _ (comm_head n' d'.0) _ _ ts _ _ (omega arith) head_some (within_rises IsCommHead) (fewer n (suc k) d K _ _ _ _ _ kn (comm_head_good K never n n' len d d' led deep ts here)) (λ x _ r.
        weaker k d K (BodyOf form true (Clause Fin found h x)) _ _ _ _ _ (λ b db z w a u iu. more_from Fin found h b x z u w iu a)
        (list_then_good form true (Clause Fin found h x) K never n n' len d d' led deep st st' stmt_good (started_all form) (nat_le d.1 (length found + 1)) (nat_le d'.1 (length found + 1)) (full_at K d.1 d'.1 led.1 many (length found + 1)) k (omega arith)
        (λ xs. comms_from form n d.0 st d.1 k (found ++ comm_node x.0.0 x.0.1 xs.0 ∷ []) (max h (max x.1 xs.1)) >>= fin)
        (λ xs. comms_from form n' d'.0 st' d'.1 k' (found ++ comm_node x.0.0 x.0.1 xs.0 ∷ []) (max h (max x.1 xs.1)) >>= fin')
        (λ y. comms_from_rise Fin rises (found ++ comm_node x.0.0 x.0.1 y.0 ∷ []) (max h (max x.1 y.1)))
        (λ y r2 e. comms_then_good k k' (omega arith) (omega arith) (found ++ comm_node x.0.0 x.0.1 y.0 ∷ []) (let l = one_longer found (comm_node x.0.0 x.0.1 y.0) in omega arith) (max h (max x.1 y.1)) r2)
        (λ y a e few'. let l = one_longer found (comm_node x.0.0 x.0.1 y.0) in clause_far (found ++ comm_node x.0.0 x.0.1 y.0 ∷ []) (max h (max x.1 y.1)) (omega arith) a (ends_clause a.kind e) (rw l few'))
        (λ y a all begins. many_far (found ++ comm_node x.0.0 x.0.1 y.0 ∷ []) (max h (max x.1 y.1)) a begins)
        (λ y c dc. comms_filled (found ++ comm_node x.0.0 x.0.1 y.0 ∷ []) (max h (max x.1 y.1)) c (let l = one_longer found (comm_node x.0.0 x.0.1 y.0) in let l1 = dc.1 in omega arith)) r))))
        (λ other. weaker (suc k) d K (Fin (found, h)) _ _ _ _ _ (λ b db z w i. none_from Fin found h b z w (let l = db.1 in omega arith) i) (fewer n (suc k) d K _ _ _ _ _ kn (fin_good (found, h) ts))))

  -- ---- select

  -- the brace that closes a select behind its clauses
  abbrev Closes : Span → Span → Tall (List CommClause) → Form (Tall Stmt)
  Closes start left y b z w = (a : Word) × (w ≡ a ∷ []) × (a.kind ≡ t.right_brace) × (z ≡ (stmt_node start.start a.span.end (statement.Select left.start y.0), y.1 + 1))

  closed : Span → Span → Tall (List CommClause) → Word → Tall Stmt
  closed start left y a = (stmt_node start.start a.span.end (statement.Select left.start y.0), y.1 + 1)

  select_is : (b : Room) (start left : Span) (z : Tall Stmt) (u s w : List Word) → IsTaken t.select_word span_of b start u → IsTaken t.left_brace span_of b left s → CommsFrom (Closes start left) [] 0 b z w → BreakOf form (up b) z (u ++ (s ++ w))
  select_is b start left z u s w iu is c =
      let e = c.closes in
      let m : max 0 c.tall ≡ c.tall = omega arith in
      let f = c.fits in
      rw (iu.1, is.1, c.both, e.1, e.3, iu.3, is.3, m) (select iu.0 is.0 e.0 c.tall c.items c.front iu.2 is.2 c.all c.few e.2, omega arith)

  pub select_good : (K : Fault → Type 0) → (K Exhausted → ⊥) → SelectGood form K
  unfolding select_in closed
  select_good K never n n' turns len d d' led deep many st st' stmt_good ts is = take_then n n d K _ t.select_word span_of _ _ ts (omega arith) is (λ start r.
      expect_then n d K _ t.left_brace span_of _ _ r (λ left r2.
      weaker n d K (CommsFrom (Closes start left) [] 0) _ _ _ _ _ (λ b db z w c s is' u iu. select_is b start left z u s w iu is' c)
      (comms_then_good (Closes start left) K never n n' len d d' led deep many st st' stmt_good _ _ (λ y b c le z w i. i)
      (λ y r3. expect_then n d K _ t.right_brace span_of _ _ r3 (λ right r4. good_pure n d K _ _ r4 (λ b db u iu. (iu.0, rw append-nil iu.1, iu.2, rw iu.3 refl))))
      (λ y a e b. (closed start left y a, [], (a, refl, e, refl)))
      (λ y c. (closed start left y (a_word t.right_brace), a_word t.right_brace ∷ [], (a_word t.right_brace, refl, refl, refl))) n n' (omega arith) len [] (omega arith) 0 r2)))
