-- Lists with separators are read, if their items are.
use Rattle.std.proofs.Common.{◌≡◌, ℕ, zero, suc, ◌≤◌, ◌<◌, max, true, false, List, [], ◌∷◌, ◌++◌, Option, Some, length, Ok, refl, ap, ◌∙◌, append_assoc, arith}
use Rattle.std.proofs.lemmas.List.{length-append}
use Rattle.std.proofs.lemmas.Bool.{le-ltb}
use Rattle.go_ast.specs.declared.token.TokenKind.{TokenKind}
use Rattle.go_grammar.specs.Words.{Word}
use Rattle.go_grammar.specs.Terminals as t
use Rattle.go_grammar.specs.Lists.{IsRow, one_item, more_items, MayBe, IsGroup, single, no_group, group}
use Rattle.go_reading.specs.Kinds.{same, is}
use Rattle.go_reading.specs.Input.{Reader, Tall, kind_of, take_as, expect_as}
use Rattle.go_reading.specs.Lists.{row_from, list_from, list_of, group_list, group_of}
use Rattle.go_reading.proofs.Good.{is_self}

pub is_other : (a : Option TokenKind) (k b : TokenKind) → a ≡ Some k → same k b ≡ false → is a b ≡ false
is_other a k b e f = rw e f

pub sees : (s : Word) (v : List Word) (k : TokenKind) → s.kind ≡ k → is (kind_of (s ∷ v)) k ≡ true
sees s v k e = is_self (Some s.kind) k (ap (λ (x : TokenKind). Some x) e)

pub kind_is : (s : Word) (v : List Word) (k : TokenKind) → s.kind ≡ k → kind_of (s ∷ v) ≡ Some k
kind_is s v k e = ap (λ (x : TokenKind). Some x) e

row_last : {A : Type 0} (sep : TokenKind) (item : Reader (Tall A)) (k : ℕ) (found : List A) (h0 h : ℕ) (x : A) (ts rest : List Word) → item ts ≡ (Ok (x, h), rest) → is (kind_of rest) sep ≡ false
    → row_from sep item (suc k) found h0 ts ≡ (Ok (found ++ x ∷ [], max h0 h), rest)
unfolding row_from
row_last sep item k found h0 h x ts rest r other = rw (r, other) refl

row_next : {A : Type 0} (sep : TokenKind) (item : Reader (Tall A)) (k : ℕ) (found : List A) (h0 h : ℕ) (x : A) (s : Word) (ts rest : List Word) → item ts ≡ (Ok (x, h), s ∷ rest) → s.kind ≡ sep
    → row_from sep item (suc k) found h0 ts ≡ row_from sep item k (found ++ x ∷ []) (max h0 h) rest
unfolding row_from take_as
row_next sep item k found h0 h x s ts rest r e = rw (r, sees s rest sep e) refl

-- how the items are read that are no higher and no longer
abbrev pub ItemReads : {A : Type 0} → (ℕ → A → List Word → Type 0) → Reader (Tall A) → (List Word → Type 0) → ℕ → ℕ → Type 0
ItemReads {A} Item item Fine high long = (h : ℕ) (x : A) (w : List Word) → Item h x w → h ≤ high → length w < long → (rest : List Word) → Fine rest → item (w ++ rest) ≡ (Ok (x, h), rest)

pub row_reads : {A : Type 0} (sep : TokenKind) (Item : ℕ → A → List Word → Type 0) (item : Reader (Tall A)) (Fine : List Word → Type 0) (high long : ℕ) → ItemReads Item item Fine high long
    → ((s : Word) (v : List Word) → s.kind ≡ sep → Fine (s ∷ v)) → (h : ℕ) (xs : List A) (w : List Word) → IsRow sep Item h xs w → h ≤ high → length w < long → (k : ℕ) → length w < k → (found : List A) (h0 : ℕ) (rest : List Word)
    → Fine rest → is (kind_of rest) sep ≡ false → row_from sep item k found h0 (w ++ rest) ≡ (Ok (found ++ xs, max h0 h), rest)
row_reads sep Item item Fine high long reads fine _ _ _ (one_item h x w i) hh hl zero lt found h0 rest f other = absurd (omega arith)
row_reads sep Item item Fine high long reads fine _ _ _ (one_item h x w i) hh hl (suc k) lt found h0 rest f other = row_last sep item k found h0 h x (w ++ rest) rest (reads h x w i hh hl rest f) other
row_reads sep Item item Fine high long reads fine _ _ _ (more_items s h h' x xs w v i e j) hh hl zero lt found h0 rest f other = absurd (omega arith)
row_reads sep Item item Fine high long reads fine _ _ _ (more_items s h h' x xs w v i e j) hh hl (suc k) lt found h0 rest f other =
    let len = length-append w (s ∷ v) in
    let head : item (w ++ (s ∷ (v ++ rest))) ≡ (Ok (x, h), s ∷ (v ++ rest)) = reads h x w i (omega arith) (omega arith) (s ∷ (v ++ rest)) (fine s (v ++ rest) e) in
    let m : max (max h0 h) h' ≡ max h0 (max h h') = omega arith in
    rw append_assoc (row_next sep item k found h0 h x s (w ++ (s ∷ (v ++ rest))) (v ++ rest) head e
    ∙ row_reads sep Item item Fine high long reads fine h' xs v j (omega arith) (omega arith) k (omega arith) (found ++ x ∷ []) (max h0 h) rest f other ∙ rw (append_assoc, m) refl)

-- ---- lists that a separator may end

list_last : {A : Type 0} (sep close : TokenKind) (item : Reader (Tall A)) (k : ℕ) (found : List A) (h0 h : ℕ) (x : A) (ts rest : List Word) → item ts ≡ (Ok (x, h), rest) → is (kind_of rest) sep ≡ false
    → list_from sep close item (suc k) found h0 ts ≡ (Ok (found ++ x ∷ [], max h0 h), rest)
unfolding list_from
list_last sep close item k found h0 h x ts rest r other = rw (r, other) refl

list_sep_last : {A : Type 0} (sep close : TokenKind) (item : Reader (Tall A)) (k : ℕ) (found : List A) (h0 h : ℕ) (x : A) (s : Word) (ts rest : List Word) → item ts ≡ (Ok (x, h), s ∷ rest) → s.kind ≡ sep → is (kind_of rest) close ≡ true
    → list_from sep close item (suc k) found h0 ts ≡ (Ok (found ++ x ∷ [], max h0 h), rest)
unfolding list_from take_as
list_sep_last sep close item k found h0 h x s ts rest r e over = rw (r, sees s rest sep e, over) refl

list_next : {A : Type 0} (sep close : TokenKind) (item : Reader (Tall A)) (k : ℕ) (found : List A) (h0 h : ℕ) (x : A) (s : Word) (ts rest : List Word) → item ts ≡ (Ok (x, h), s ∷ rest) → s.kind ≡ sep → is (kind_of rest) close ≡ false
    → list_from sep close item (suc k) found h0 ts ≡ list_from sep close item k (found ++ x ∷ []) (max h0 h) rest
unfolding list_from take_as
list_next sep close item k found h0 h x s ts rest r e other = rw (r, sees s rest sep e, other) refl

-- an item doesn't begin as the list ends
abbrev pub Begins : {A : Type 0} → (ℕ → A → List Word → Type 0) → TokenKind → Type 0
Begins {A} Item close = (h : ℕ) (x : A) (w : List Word) → Item h x w → (rest : List Word) → is (kind_of (w ++ rest)) close ≡ false

row_begins : {A : Type 0} (sep close : TokenKind) (Item : ℕ → A → List Word → Type 0) → Begins Item close → (h : ℕ) (xs : List A) (w : List Word) → IsRow sep Item h xs w → (rest : List Word) → is (kind_of (w ++ rest)) close ≡ false
row_begins sep close Item begins _ _ _ (one_item h x w i) rest = begins h x w i rest
row_begins sep close Item begins _ _ _ (more_items s h h' x xs w v i e j) rest = rw append_assoc (begins h x w i (s ∷ v ++ rest))

pub list_reads : {A : Type 0} (sep close : TokenKind) → same close sep ≡ false → (Item : ℕ → A → List Word → Type 0) (item : Reader (Tall A)) (Fine : List Word → Type 0) (high long : ℕ) → ItemReads Item item Fine high long
    → ((s : Word) (v : List Word) → s.kind ≡ sep → Fine (s ∷ v)) → ((rest : List Word) → kind_of rest ≡ Some close → Fine rest) → Begins Item close
    → (h : ℕ) (xs : List A) (w : List Word) → IsRow sep Item h xs w → h ≤ high → length w < long → (k : ℕ) → length w < k → (found : List A) (h0 : ℕ) (c rest : List Word)
    → MayBe sep c → kind_of rest ≡ Some close → list_from sep close item k found h0 (w ++ (c ++ rest)) ≡ (Ok (found ++ xs, max h0 h), rest)
list_reads sep close differ Item item Fine high long reads fine fine' begins _ _ _ (one_item h x w i) hh hl zero lt found h0 c rest may over = absurd (omega arith)
list_reads sep close differ Item item Fine high long reads fine fine' begins _ _ _ (one_item h x w i) hh hl (suc k) lt found h0 [] rest may over =
    list_last sep close item k found h0 h x (w ++ rest) rest (reads h x w i hh hl rest (fine' rest over)) (is_other (kind_of rest) close sep over differ)
list_reads sep close differ Item item Fine high long reads fine fine' begins _ _ _ (one_item h x w i) hh hl (suc k) lt found h0 (s ∷ ss) rest may over =
    let is-one : s ∷ ss ++ rest ≡ s ∷ rest = ap (λ (ys : List Word). s ∷ (ys ++ rest)) may.1 in
    rw is-one (list_sep_last sep close item k found h0 h x s (w ++ s ∷ rest) rest (reads h x w i hh hl (s ∷ rest) (fine s rest may.0)) may.0 (is_self (kind_of rest) close over))
list_reads sep close differ Item item Fine high long reads fine fine' begins _ _ _ (more_items s h h' x xs w v i e j) hh hl zero lt found h0 c rest may over = absurd (omega arith)
list_reads sep close differ Item item Fine high long reads fine fine' begins _ _ _ (more_items s h h' x xs w v i e j) hh hl (suc k) lt found h0 c rest may over =
    let len = length-append w (s ∷ v) in
    let head : item (w ++ (s ∷ (v ++ (c ++ rest)))) ≡ (Ok (x, h), s ∷ (v ++ (c ++ rest))) = reads h x w i (omega arith) (omega arith) (s ∷ (v ++ (c ++ rest))) (fine s (v ++ (c ++ rest)) e) in
    let m : max (max h0 h) h' ≡ max h0 (max h h') = omega arith in
    rw append_assoc (list_next sep close item k found h0 h x s (w ++ (s ∷ (v ++ (c ++ rest)))) (v ++ (c ++ rest)) head e (row_begins sep close Item begins h' xs v j (c ++ rest))
    ∙ list_reads sep close differ Item item Fine high long reads fine fine' begins h' xs v j (omega arith) (omega arith) k (omega arith) (found ++ x ∷ []) (max h0 h) c rest may over ∙ rw (append_assoc, m) refl)

pub none_reads : {A : Type 0} (sep close : TokenKind) (item : Reader (Tall A)) (n : ℕ) (rest : List Word) → kind_of rest ≡ Some close → list_of sep close item n rest ≡ (Ok ([], 0), rest)
unfolding list_of
none_reads sep close item n rest over = rw (is_self (kind_of rest) close over) refl

pub list_of_reads : {A : Type 0} (sep close : TokenKind) → same close sep ≡ false → (Item : ℕ → A → List Word → Type 0) (item : Reader (Tall A)) (Fine : List Word → Type 0) (high long : ℕ) → ItemReads Item item Fine high long
    → ((s : Word) (v : List Word) → s.kind ≡ sep → Fine (s ∷ v)) → ((rest : List Word) → kind_of rest ≡ Some close → Fine rest) → Begins Item close
    → (h : ℕ) (xs : List A) (w : List Word) → IsRow sep Item h xs w → h ≤ high → length w < long → (n : ℕ) → length w < n → (c rest : List Word)
    → MayBe sep c → kind_of rest ≡ Some close → list_of sep close item n (w ++ (c ++ rest)) ≡ (Ok (xs, h), rest)
unfolding list_of
list_of_reads sep close differ Item item Fine high long reads fine fine' begins h xs w i hh hl n lt c rest may over =
    let m : max 0 h ≡ h = omega arith in
    rw (row_begins sep close Item begins h xs w i (c ++ rest)) (list_reads sep close differ Item item Fine high long reads fine fine' begins h xs w i hh hl n lt [] 0 c rest may over ∙ rw m refl)

-- ---- groups

single_reads : {A : Type 0} (start : TokenKind) → same start t.left_parenthesis ≡ false → (d : ℕ) (item : Reader (Tall A)) (end_of : A → ℕ) (n h : ℕ) (x : A) (ts rest : List Word) → 1 ≤ d → kind_of ts ≡ Some start → item ts ≡ (Ok (x, h), rest)
    → group_of start d item end_of n ts ≡ (Ok ((x ∷ [], end_of x), h), rest)
unfolding group_of
single_reads start differ d item end_of n h x ts rest some is r = rw (is_other (kind_of ts) start t.left_parenthesis is differ, is_self (kind_of ts) start is, le-ltb d 1 some, r) refl

no_group_reads : {A : Type 0} (start : TokenKind) (d : ℕ) (item : Reader (Tall A)) (end_of : A → ℕ) (n : ℕ) (l r : Word) (rest : List Word) → l.kind ≡ t.left_parenthesis → r.kind ≡ t.right_parenthesis
    → group_of start d item end_of n (l ∷ r ∷ rest) ≡ (Ok (([], r.span.end), 0), rest)
unfolding group_of group_list take_as expect_as
no_group_reads start d item end_of n l r rest kl kr = rw (sees l (r ∷ rest) t.left_parenthesis kl, sees r rest t.right_parenthesis kr, sees r rest t.right_parenthesis kr) refl

group_step : {A : Type 0} (start : TokenKind) → same start t.right_parenthesis ≡ false → (d : ℕ) (item : Reader (Tall A)) (end_of : A → ℕ) (n h : ℕ) (xs : List A) (l r : Word) (ts rest : List Word) → 1 ≤ d → l.kind ≡ t.left_parenthesis → r.kind ≡ t.right_parenthesis → kind_of ts ≡ Some start
    → list_from t.semicolon t.right_parenthesis item n [] 0 ts ≡ (Ok (xs, h), r ∷ rest) → group_of start d item end_of n (l ∷ ts) ≡ (Ok ((xs, r.span.end), h), rest)
unfolding group_of group_list take_as expect_as
group_step start differ d item end_of n h xs l r ts rest some kl kr is f =
    rw (sees l ts t.left_parenthesis kl, is_other (kind_of ts) start t.right_parenthesis is differ, is_self (kind_of ts) start is, le-ltb d 1 some, f, sees r rest t.right_parenthesis kr) refl

-- each item begins with a token of a kind
abbrev pub BeginsBy : {A : Type 0} → (ℕ → A → List Word → Type 0) → TokenKind → Type 0
BeginsBy {A} Item start = (h : ℕ) (x : A) (w : List Word) → Item h x w → (rest : List Word) → kind_of (w ++ rest) ≡ Some start

row_begins_by : {A : Type 0} (sep start : TokenKind) (Item : ℕ → A → List Word → Type 0) → BeginsBy Item start → (h : ℕ) (xs : List A) (w : List Word) → IsRow sep Item h xs w → (rest : List Word) → kind_of (w ++ rest) ≡ Some start
row_begins_by sep start Item begins _ _ _ (one_item h x w i) rest = begins h x w i rest
row_begins_by sep start Item begins _ _ _ (more_items s h h' x xs w v i e j) rest = rw append_assoc (begins h x w i (s ∷ v ++ rest))

row_some : {A : Type 0} (sep : TokenKind) (Item : ℕ → A → List Word → Type 0) (d : ℕ) → ((h : ℕ) (x : A) (w : List Word) → Item h x w → h ≤ d → 1 ≤ d) → (h : ℕ) (xs : List A) (w : List Word) → IsRow sep Item h xs w → h ≤ d → 1 ≤ d
row_some sep Item d some _ _ _ (one_item h x w i) le = some h x w i le
row_some sep Item d some _ _ _ (more_items s h h' x xs w v i e j) le = some h x w i (omega arith)

pub group_reads : {A : Type 0} (start : TokenKind) → same start t.left_parenthesis ≡ false → same start t.right_parenthesis ≡ false → (Item : ℕ → A → List Word → Type 0) (item : Reader (Tall A)) (end_of : A → ℕ) (Fine : List Word → Type 0) (d n : ℕ)
    → ItemReads Item item Fine d n → ((s : Word) (v : List Word) → s.kind ≡ t.semicolon → Fine (s ∷ v)) → ((rest : List Word) → kind_of rest ≡ Some t.right_parenthesis → Fine rest) → BeginsBy Item start → ((h : ℕ) (x : A) (w : List Word) → Item h x w → h ≤ d → 1 ≤ d)
    → (h : ℕ) (xs : List A) (end : ℕ) (w : List Word) → IsGroup Item end_of h xs end w → h ≤ d → length w < n → (rest : List Word) → Fine rest → group_of start d item end_of n (w ++ rest) ≡ (Ok ((xs, end), h), rest)
group_reads start dl dr Item item end_of Fine d n reads fine fine' begins some _ _ _ _ (single h x w i) hh lt rest f =
    single_reads start dl d item end_of n h x (w ++ rest) rest (some h x w i hh) (begins h x w i rest) (reads h x w i hh (omega arith) rest f)
group_reads start dl dr Item item end_of Fine d n reads fine fine' begins some _ _ _ _ (no_group l r kl kr) hh lt rest f = no_group_reads start d item end_of n l r rest kl kr
group_reads start dl dr Item item end_of Fine d n reads fine fine' begins some _ _ _ _ (group l r h xs w s kl i may kr) hh lt rest f =
    let len = length-append w (s ++ r ∷ []) in
    let m : max 0 h ≡ h = omega arith in
    let inner : list_from t.semicolon t.right_parenthesis item n [] 0 (w ++ (s ++ r ∷ rest)) ≡ (Ok (xs, h), r ∷ rest) =
    list_reads t.semicolon t.right_parenthesis refl Item item Fine d n reads fine fine' (λ h' x' w' i' rest'. is_other (kind_of (w' ++ rest')) start t.right_parenthesis (begins h' x' w' i' rest') dr) h xs w i hh (omega arith) n (omega arith) [] 0 s (r ∷ rest) may (kind_is r rest t.right_parenthesis kr) ∙ rw m refl in
    rw (append_assoc, append_assoc) (group_step start dr d item end_of n h xs l r (w ++ (s ++ r ∷ rest)) rest (row_some t.semicolon Item d some h xs w i hh) kl kr (row_begins_by t.semicolon start Item begins h xs w i (s ++ r ∷ rest)) inner)
