-- Lists with separators, of anything, are good if their items are.
use Rattle.std.proofs.Common.{◌≡◌, ◌≢◌, ◌⊎◌, inl, inr, ℕ, zero, suc, ◌+◌, ◌≤◌, max, List, [], ◌∷◌, ◌++◌, Option, Some, None, refl, sym, ap, ◌∙◌, append_assoc, arith}
use Rattle.std.proofs.lemmas.List.{append-nil}
use Rattle.go_ast.specs.declared.span.Span.{Span}
use Rattle.go_ast.specs.declared.token.TokenKind.{TokenKind}
use Rattle.go_grammar.specs.Words.{Word}
use Rattle.go_grammar.specs.Terminals as t
use Rattle.go_grammar.specs.Lists.{IsRow, one_item, more_items, MayBe, IsGroup, single, no_group, group}
use Rattle.go_reading.specs.declared.fault.Fault.{Fault}
use Rattle.go_reading.specs.declared.fault.Fault.TheVariants.{TooDeep, Exhausted}
use Rattle.go_reading.specs.Input.{Reader, Tall, kind_of, span_of}
use Rattle.go_reading.specs.Lists.{row_from, list_from, list_of, group_list, group_of}
use Rattle.go_reading.proofs.Good.{Room, ◌⊑◌, Form, Good, Filled, Rises, seq, weaker, fewer, good_pure, good_refuse, good_exhausted, good_far, choice, take_then, expect_then, IsTaken, a_word, some_is}

-- the items so far, and those in w
pub record RowFrom {A : Type 0} (Row : ℕ → List A → List Word → Type 0) (found : List A) (h : ℕ) (b : Room) (y : Tall (List A)) (w : List Word) : Type 0 where
  pub items : List A
  pub tall : ℕ
  pub value : y ≡ (found ++ items, max h tall)
  pub row : Row tall items w
  pub fits : tall ≤ b.0

-- the same, and a separator behind them, or none
pub record ListFrom {A : Type 0} (sep : TokenKind) (Row : ℕ → List A → List Word → Type 0) (found : List A) (h : ℕ) (b : Room) (y : Tall (List A)) (w : List Word) : Type 0 where
  pub items : List A
  pub tall : ℕ
  pub text : List Word
  pub last : List Word
  pub value : y ≡ (found ++ items, max h tall)
  pub row : Row tall items text
  pub may : MayBe sep last
  pub both : w ≡ text ++ last
  pub fits : tall ≤ b.0

pub row_rises : {A : Type 0} (Row : ℕ → List A → List Word → Type 0) (found : List A) (h : ℕ) → Rises (RowFrom Row found h)
row_rises Row found h b c le y w s = record { items = s.items; tall = s.tall; value = s.value; row = s.row; fits = let f = s.fits in let l = le.0 in omega arith }

-- a row, or none: what a list in brackets holds
pub record ListOf {A : Type 0} (sep : TokenKind) (Row : ℕ → List A → List Word → Type 0) (b : Room) (y : Tall (List A)) (w : List Word) : Type 0 where
  pub is : ((w ≡ []) × (y ≡ ([], 0))) ⊎ ListFrom sep Row [] 0 b y w

pub list_from_rises : {A : Type 0} (sep : TokenKind) (Row : ℕ → List A → List Word → Type 0) (found : List A) (h : ℕ) → Rises (ListFrom sep Row found h)
list_from_rises sep Row found h b c le y w s =
    record { items = s.items; tall = s.tall; text = s.text; last = s.last; value = s.value; row = s.row; may = s.may; both = s.both; fits = let f = s.fits in let l = le.0 in omega arith }

pub list_of_rises : {A : Type 0} (sep : TokenKind) (Row : ℕ → List A → List Word → Type 0) → Rises (ListOf sep Row)
list_of_rises sep Row b c le y w s = record { is = go s.is }
  where
    go : (((w ≡ []) × (y ≡ ([], 0))) ⊎ ListFrom sep Row [] 0 b y w) → ((w ≡ []) × (y ≡ ([], 0))) ⊎ ListFrom sep Row [] 0 c y w
    go (inl e) = inl e
    go (inr l) = inr (list_from_rises sep Row [] 0 b c le y w l)

-- a value of a height in the room
abbrev pub Within : {A : Type 0} → (ℕ → A → List Word → Type 0) → Form (Tall A)
Within Item b x w = Item x.1 x.0 w × (x.1 ≤ b.0)

pub within_rises : {A : Type 0} (Item : ℕ → A → List Word → Type 0) → Rises (Within Item)
within_rises Item b c le x w s = (s.0, let f = s.1 in let l = le.0 in omega arith)

-- Item and Row are relations of the grammar, each with its own data; one and more are Row's rules
module _ {A : Type 0} (sep close : TokenKind) (Item : ℕ → A → List Word → Type 0) (Row : ℕ → List A → List Word → Type 0)
    (one : (h : ℕ) (x : A) (w : List Word) → Item h x w → Row h (x ∷ []) w)
    (more : (t : Word) (h h' : ℕ) (x : A) (xs : List A) (w v : List Word) → Item h x w → t.kind ≡ sep → Row h' xs v → Row (max h h') (x ∷ xs) (w ++ t ∷ v)) where
  list_end : (found : List A) (h : ℕ) (b : Room) (x : Tall A) (u c : List Word) → Within Item b x u → MayBe sep c → ListFrom sep Row found h b (found ++ x.0 ∷ [], max h x.1) (u ++ c)
  list_end found h b x u c s may = record { items = x.0 ∷ []; tall = x.1; text = u; last = c; value = refl; row = one x.1 x.0 u s.0; may = may; both = refl; fits = s.1 }

  list_more : (found : List A) (h : ℕ) (b : Room) (x : Tall A) (y : Tall (List A)) (u v : List Word) (t : Word) → Within Item b x u → t.kind ≡ sep → ListFrom sep Row (found ++ x.0 ∷ []) (max h x.1) b y v → ListFrom sep Row found h b y (u ++ t ∷ v)
  list_more found h b x y u v t s e r =
      let m : max (max h x.1) r.tall ≡ max h (max x.1 r.tall) = omega arith in
      let low = s.1 in
      let low' = r.fits in
      record {
        items = x.0 ∷ r.items;
        tall = max x.1 r.tall;
        text = u ++ t ∷ r.text;
        last = r.last;
        value = r.value ∙ rw (append_assoc, m) refl;
        row = more t x.1 r.tall x.0 r.items u r.text s.0 e r.row;
        may = r.may;
        both = rw (append_assoc, r.both) refl;
        fits = omega arith;
      }

  row_end : (found : List A) (h : ℕ) (b : Room) (x : Tall A) (u : List Word) → Within Item b x u → RowFrom Row found h b (found ++ x.0 ∷ [], max h x.1) u
  row_end found h b x u s = record { items = x.0 ∷ []; tall = x.1; value = refl; row = one x.1 x.0 u s.0; fits = s.1 }

  row_more : (found : List A) (h : ℕ) (b : Room) (x : Tall A) (y : Tall (List A)) (u v : List Word) (t : Word) → Within Item b x u → t.kind ≡ sep → RowFrom Row (found ++ x.0 ∷ []) (max h x.1) b y v → RowFrom Row found h b y (u ++ t ∷ v)
  row_more found h b x y u v t s e r =
      let m : max (max h x.1) r.tall ≡ max h (max x.1 r.tall) = omega arith in
      let low = s.1 in
      let low' = r.fits in
      record {
        items = x.0 ∷ r.items;
        tall = max x.1 r.tall;
        value = r.value ∙ rw (append_assoc, m) refl;
        row = more t x.1 r.tall x.0 r.items u v s.0 e r.row;
        fits = omega arith;
      }

  module _ (K : Fault → Type 0) (never : K Exhausted → ⊥) (n : ℕ) (d : Room) (item item' : Reader (Tall A)) (item_good : (ts : List Word) → Good n d K (Within Item) item item' ts) where
    pub row_good : (t t' : ℕ) → t ≤ n → t ≤ t' → (found : List A) (h : ℕ) (ts : List Word) → Good t d K (RowFrom Row found h) (row_from sep item t found h) (row_from sep item' t' found h) ts
    unfolding row_from
    row_good zero t' ln le found h ts = good_exhausted d K (RowFrom Row found h) _ ts never (λ b db.
        let f = (item_good ts).filled b db in ((found ++ f.0.0 ∷ [], max h f.0.1), f.1, row_end found h b f.0 f.1 f.2))
    row_good (suc t) zero ln le found h ts = absurd (omega arith)
    row_good (suc t) (suc t') ln le found h ts =
        seq (suc t) d K (Within Item) (RowFrom Row found h) item' _ _ ts _ _ (within_rises Item) (fewer n (suc t) d K _ _ _ _ _ ln (item_good ts)) (λ x _ r.
        choice (suc t) d K _ sep _ _ _ _ r
        (λ here. take_then (suc t) t d K _ sep span_of _ _ r (omega arith) here (λ sp r'.
        weaker t d K (RowFrom Row (found ++ x.0 ∷ []) (max h x.1)) _ _ _ _ _ (λ b db y w a c ic u iu. rw ic.1 (row_more found h b x y u w ic.0 iu ic.2 a)) (row_good t t' (omega arith) (omega arith) (found ++ x.0 ∷ []) (max h x.1) r')))
        (λ other. good_pure (suc t) d K _ _ r (λ b db u iu. rw append-nil (row_end found h b x u iu))))

    pub list_good : (t t' : ℕ) → t ≤ n → t ≤ t' → (found : List A) (h : ℕ) (ts : List Word) → Good t d K (ListFrom sep Row found h) (list_from sep close item t found h) (list_from sep close item' t' found h) ts
    unfolding list_from
    list_good zero t' ln le found h ts = good_exhausted d K (ListFrom sep Row found h) _ ts never (λ b db.
        let f = (item_good ts).filled b db in ((found ++ f.0.0 ∷ [], max h f.0.1), f.1 ++ [], list_end found h b f.0 f.1 [] f.2 tt))
    list_good (suc t) zero ln le found h ts = absurd (omega arith)
    list_good (suc t) (suc t') ln le found h ts =
        seq (suc t) d K (Within Item) (ListFrom sep Row found h) item' _ _ ts _ _ (within_rises Item) (fewer n (suc t) d K _ _ _ _ _ ln (item_good ts)) (λ x _ r.
        choice (suc t) d K _ sep _ _ _ _ r
        (λ here. take_then (suc t) t d K _ sep span_of _ _ r (omega arith) here (λ sp r'.
        choice t d K _ close _ _ _ _ r'
        (λ over. good_pure t d K _ _ r' (λ b db c ic u iu. list_end found h b x u (c ++ []) iu (rw ic.1 (ic.2, refl))))
        (λ other. weaker t d K (ListFrom sep Row (found ++ x.0 ∷ []) (max h x.1)) _ _ _ _ _ (λ b db y w a c ic u iu. rw ic.1 (list_more found h b x y u w ic.0 iu ic.2 a)) (list_good t t' (omega arith) (omega arith) (found ++ x.0 ∷ []) (max h x.1) r'))))
        (λ other. good_pure (suc t) d K _ _ r (λ b db u iu. list_end found h b x u [] iu tt)))

    pub list_of_good : (n' : ℕ) → n ≤ n' → (ts : List Word) → Good n d K (ListOf sep Row) (list_of sep close item n) (list_of sep close item' n') ts
    unfolding list_of
    list_of_good n' len ts = choice n d K (ListOf sep Row) close _ _ _ _ ts
        (λ over. good_pure n d K _ _ ts (λ b db. record { is = inl (refl, refl) }))
        (λ other. weaker n d K (ListFrom sep Row [] 0) (ListOf sep Row) _ _ _ _ (λ b db y w l. record { is = inr l }) (list_good n n' (omega arith) len [] 0 ts))

-- ---- groups

-- an item, or items in parentheses, and where that ends
abbrev pub GroupOf : {A : Type 0} → (ℕ → A → List Word → Type 0) → (A → ℕ) → Form (Tall (List A × ℕ))
GroupOf Item end_of b y w = IsGroup Item end_of y.1 y.0.0 y.0.1 w × (y.1 ≤ b.0)

pub group_rises : {A : Type 0} (Item : ℕ → A → List Word → Type 0) (end_of : A → ℕ) → Rises (GroupOf Item end_of)
group_rises Item end_of b c le x w s = (s.0, let f = s.1 in let l = le.0 in omega arith)

-- a token of a kind begins an item
abbrev pub Begun : {A : Type 0} → (ℕ → A → List Word → Type 0) → TokenKind → Type 0
Begun {A} Item first = (t : Word) → t.kind ≡ first → (x : Tall A) × (w : List Word) × Item x.1 x.0 (t ∷ w)

empty_group : {A : Type 0} (Item : ℕ → A → List Word → Type 0) (end_of : A → ℕ) (b : Room) → Filled b (GroupOf Item end_of)
empty_group Item end_of b = let l = a_word t.left_parenthesis in let r = a_word t.right_parenthesis in ((([], r.span.end), 0), l ∷ r ∷ [], (no_group l r refl refl, omega arith))

pub some_not_none : (o : Option TokenKind) (k : TokenKind) → o ≡ Some k → o ≢ None
some_not_none o k e n = cc

in_group : {A : Type 0} (Item : ℕ → A → List Word → Type 0) (end_of : A → ℕ) (b : Room) (xs : Tall (List A)) (end : ℕ) (u w v : List Word) (sp : Span)
    → IsTaken t.left_parenthesis span_of b sp u → ListOf t.semicolon (IsRow t.semicolon Item) b xs w → (r : Word) → v ≡ r ∷ [] → r.kind ≡ t.right_parenthesis → end ≡ r.span.end
    → GroupOf Item end_of b ((xs.0, end), xs.1) (u ++ (w ++ (v ++ [])))
in_group Item end_of b xs end u w v sp iu iw r iv kr ie = go iw.is
  where
    go : (((w ≡ []) × (xs ≡ ([], 0))) ⊎ ListFrom t.semicolon (IsRow t.semicolon Item) [] 0 b xs w) → GroupOf Item end_of b ((xs.0, end), xs.1) (u ++ (w ++ (v ++ [])))
    go (inl e) = rw (iu.1, e.0, e.1, iv, ie) (no_group iu.0 r iu.2 kr, omega arith)
    go (inr l) =
        let m : max 0 l.tall ≡ l.tall = omega arith in
        rw (iu.1, l.both, l.value, iv, ie, m, append_assoc) (group iu.0 r l.tall l.items l.text l.last iu.2 l.row l.may kr, l.fits)

module _ {A : Type 0} (Item : ℕ → A → List Word → Type 0) (end_of : A → ℕ) (start : TokenKind) (begun : Begun Item start)
    (K : Fault → Type 0) (never : K Exhausted → ⊥) (n n' : ℕ) (len : n ≤ n') (d d' : Room) (led : d ⊑ d') (deep : K TooDeep → d.0 ≡ d'.0) (item item' : Reader (Tall A)) (item_good : 1 ≤ d.0 → (ts : List Word) → Good n d K (Within Item) item item' ts) where
  group_list_good : (ts : List Word) → Good n d K (ListOf t.semicolon (IsRow t.semicolon Item)) (group_list start d.0 item n) (group_list start d'.0 item' n') ts
  unfolding group_list
  group_list_good ts = choice n d K (ListOf t.semicolon (IsRow t.semicolon Item)) t.right_parenthesis _ _ _ _ ts
      (λ over. good_pure n d K _ _ ts (λ b db. record { is = inl (refl, refl) }))
      (λ other. choice n d K _ start _ _ _ _ ts
      (λ here. good_far n K _ d d' 1 _ _ ts led deep (some_not_none (kind_of ts) start here) (λ b db. (([], 0), [], record { is = inl (refl, refl) }))
      (λ x e. let y = begun x (some_is x.kind start (e ∙ here)) in
      (d.0 + y.0.1, ([] ++ y.0.0 ∷ [], max 0 y.0.1), y.1, omega arith, record { is = inr (record { items = y.0.0 ∷ []; tall = y.0.1; text = x ∷ y.1; last = []; value = refl; row = one_item y.0.1 y.0.0 (x ∷ y.1) y.2; may = tt; both = sym (append-nil (x ∷ y.1)); fits = omega arith }) }))
      (λ some. weaker n d K (ListFrom t.semicolon (IsRow t.semicolon Item) [] 0) _ _ _ _ _ (λ b db y w l. record { is = inr l })
      (list_good t.semicolon t.right_parenthesis Item (IsRow t.semicolon Item) (λ h x w i. one_item h x w i) (λ s h h' x xs w v i e j. more_items s h h' x xs w v i e j) K never n d item item' (item_good some) n n' (omega arith) len [] 0 ts)))
      (λ there. good_refuse n d K _ ts (λ b db. (([], 0), [], record { is = inl (refl, refl) }))))

  pub group_good : (ts : List Word) → Good n d K (GroupOf Item end_of) (group_of start d.0 item end_of n) (group_of start d'.0 item' end_of n') ts
  unfolding group_of
  group_good ts = choice n d K (GroupOf Item end_of) t.left_parenthesis _ _ _ _ ts
      (λ open'. take_then n n d K _ t.left_parenthesis span_of _ _ ts (omega arith) open' (λ sp r.
      seq n d K (ListOf t.semicolon (IsRow t.semicolon Item)) _ _ _ _ r _ _ (list_of_rises t.semicolon (IsRow t.semicolon Item)) (group_list_good r) (λ xs _ r2.
      expect_then n d K _ t.right_parenthesis span_of _ _ r2 (λ fin r3.
      good_pure n d K _ _ r3 (λ b db v iv w iw u iu. in_group Item end_of b xs fin.end u w v sp iu iw iv.0 iv.1 iv.2 (ap (λ (s : Span). s.end) iv.3))))))
      (λ other. choice n d K _ start _ _ _ _ ts
      (λ here. good_far n K _ d d' 1 _ _ ts led deep (some_not_none (kind_of ts) start here) (λ b db. empty_group Item end_of b)
      (λ x e. let y = begun x (some_is x.kind start (e ∙ here)) in
      (d.0 + y.0.1, ((y.0.0 ∷ [], end_of y.0.0), y.0.1), y.1, omega arith, (single y.0.1 y.0.0 (x ∷ y.1) y.2, omega arith)))
      (λ some. seq n d K (Within Item) _ item' _ _ ts _ _ (within_rises Item) (item_good some ts) (λ x _ r. good_pure n d K _ _ r (λ b db u iu. rw append-nil (single x.1 x.0 u iu.0, iu.1)))))
      (λ there. good_refuse n d K _ ts (λ b db. empty_group Item end_of b)))
