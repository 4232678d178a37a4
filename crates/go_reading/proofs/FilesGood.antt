-- The readers of files are good.
use Rattle.std.proofs.Common.{◌≡◌, ℕ, zero, suc, ◌≤◌, max, List, [], ◌∷◌, ◌++◌, Option, Some, None, Err, refl, sym, subst, ◌∙◌, append_assoc, arith}
use Rattle.std.proofs.lemmas.List.{append-nil}
use Rattle.go_ast.specs.declared.span.Span.{Span}
use Rattle.go_ast.specs.declared.name.Name.{Name}
use Rattle.go_ast.specs.declared.token.TokenKind.{TokenKind}
use Rattle.go_ast.specs.declared.token.TokenKind.TheVariants as kind
use Rattle.go_ast.specs.declared.file.Import.{Import}
use Rattle.go_ast.specs.declared.file.File.{File}
use Rattle.go_ast.specs.declared.decl.Decl.{Decl}
use Rattle.go_grammar.specs.Words.{Word}
use Rattle.go_grammar.specs.Terminals as t
use Rattle.go_grammar.specs.Lists.{IsRow, one_item, more_items, IsGroup, single, no_group, group}
use Rattle.go_grammar.specs.declared.form.Form.{Form as TextForm}
use Rattle.go_grammar.specs.declared.form.Form.TheVariants as text_form
use Rattle.go_grammar.specs.Patterns.{Pattern, AllFit}
use Rattle.go_grammar.specs.Covering.{atomic_import, trailer}
use Rattle.go_grammar.specs.Blocks.{source}
use Rattle.go_grammar.specs.Files.{IsPath, path as path', IsImports, no_imports, more_imports, IsDecls, no_decls, more_decls, IsFile, source_file, covered_file}
use Rattle.go_reading.specs.declared.fault.Fault.{Fault}
use Rattle.go_reading.specs.declared.fault.Fault.TheVariants.{Unexpected, TooDeep, TooMany, Exhausted}
use Rattle.go_reading.specs.Input.{Reader, Tall, ◌>>=◌, ◌>>◌, pure, peek, expect, kind_of, span_of, named_of}
use Rattle.go_reading.specs.Decls.{declaration}
use Rattle.go_reading.specs.Files.{import_of, path, paths, imports_from, decls_by, ended_by, at_end, trailer_front, behind_front, or_trailer, trailer_rest, import_piece, units, decls_from, file}
use Rattle.go_reading.specs.Counters.{expect_all}
use Rattle.go_reading.proofs.FitGood.{AllOf, all_rise, expect_all_good, fit_append, fit_words, all_words}
use Rattle.go_reading.proofs.OrGood.{Lasting}
use Rattle.go_reading.proofs.TrailerGood.{struct_ends, EndOr, end_or_rises, or_trailer_good}
use Rattle.go_reading.proofs.Good.{Room, ◌⊑◌, room, Form, Good, Filled, Rises, Rest, good_refuse, seq, weaker, fewer, good_pure, good_exhausted, peeked, choice, take_then, expect_then, expect_less, IsTaken}
use Rattle.go_reading.proofs.Rows.{Within, GroupOf, group_rises, Begun, group_good}
use Rattle.go_reading.proofs.Clauses.{decls_rise, file_rises}
use Rattle.go_reading.proofs.BlockForm.{BlockGood}
use Rattle.go_reading.proofs.DeclsGood.{DeclOf, decl_of_rises, declaration_good}

-- ---- imports

begun_path : Begun IsPath kind.Text
begun_path n k = ((import_of n, 0), [], path' n k)

flat_path : (h : ℕ) (x : Import) (w : List Word) → IsPath h x w → h ≡ 0
flat_path _ _ _ (path' n k) = refl

flat_row : (h : ℕ) (xs : List Import) (w : List Word) → IsRow t.semicolon IsPath h xs w → h ≡ 0
flat_row _ _ _ (one_item h x w i) = flat_path h x w i
flat_row _ _ _ (more_items s h h' x xs w v i k j) = let a = flat_path h x w i in let b = flat_row h' xs v j in omega arith

flat_group : (h : ℕ) (xs : List Import) (end : ℕ) (w : List Word) → IsGroup IsPath (λ i. 0) h xs end w → h ≡ 0
flat_group _ _ _ _ (single h x w i) = flat_path h x w i
flat_group _ _ _ _ (no_group l r kl kr) = refl
flat_group _ _ _ _ (group l r h xs w s kl i may kr) = flat_row h xs w i

abbrev pub PathsOf : Form (List Import)
PathsOf b is w = (end : ℕ) × IsGroup IsPath (λ i. 0) 0 is end w

paths_rise : Rises PathsOf
paths_rise b c le x w s = s

-- the imports so far, and those in w
pub record ImportsFrom (found : List Import) (b : Room) (y : List Import) (w : List Word) : Type 0 where
  pub items : List Import
  pub value : y ≡ found ++ items
  pub all : IsImports items w

imports_rise : (found : List Import) → Rises (ImportsFrom found)
imports_rise found b c le y w s = record { items = s.items; value = s.value; all = s.all }

import_more : (found is : List Import) (b : Room) (y : List Import) (sp sp' : Span) (u v w z : List Word) → IsTaken t.import_word span_of b sp u → PathsOf b is v → IsTaken t.semicolon span_of b sp' w → ImportsFrom (found ++ is) b y z → ImportsFrom found b y (u ++ (v ++ (w ++ z)))
import_more found is b y sp sp' u v w z iu iv iw r = record { items = is ++ r.items; value = r.value ∙ append_assoc found is r.items; all = rw (iu.1, iw.1) (more_imports iu.0 iw.0 iv.0 is r.items v z iu.2 iv.1 iw.2 r.all) }

module _ (form : TextForm) where
  -- the declarations so far, and those in w
  pub record DeclsFrom (found : List Decl) (h : ℕ) (b : Room) (y : Tall (List Decl)) (w : List Word) : Type 0 where
    pub items : List Decl
    pub tall : ℕ
    pub value : y ≡ (found ++ items, max h tall)
    pub all : IsDecls form b.1 tall items w
    pub fits : tall ≤ b.0

  decls_from_rise : (found : List Decl) (h : ℕ) → Rises (DeclsFrom found h)
  decls_from_rise found h b c le y w s = record { items = s.items; tall = s.tall; value = s.value; all = decls_rise form b.1 c.1 le.1 s.tall s.items w s.all; fits = let f = s.fits in let l = le.0 in omega arith }

  decls_end : (found : List Decl) (h : ℕ) (b : Room) → DeclsFrom found h b (found, h) []
  decls_end found h b = let m : max h 0 ≡ h = omega arith in record { items = []; tall = 0; value = rw (m, append-nil) refl; all = no_decls; fits = omega arith }

  decls_more : (found : List Decl) (h : ℕ) (b : Room) (x : Tall Decl) (y : Tall (List Decl)) (sp : Span) (u v w : List Word) → DeclOf form b x u → IsTaken t.semicolon span_of b sp v → DeclsFrom (found ++ x.0 ∷ []) (max h x.1) b y w → DeclsFrom found h b y (u ++ (v ++ w))
  decls_more found h b x y sp u v w iu iv r =
      let m : max (max h x.1) r.tall ≡ max h (max x.1 r.tall) = omega arith in
      let low = iu.1 in
      let low' = r.fits in
      record { items = x.0 ∷ r.items; tall = max x.1 r.tall; value = r.value ∙ rw (append_assoc, m) refl; all = rw iv.1 (more_decls iv.0 x.1 r.tall x.0 r.items u w iu.0 iv.2 r.all); fits = omega arith }

  -- a file in the room
  abbrev pub FileOf : Form (Tall File)
  FileOf b y w = IsFile form b.1 y.1 y.0 w × (y.1 ≤ b.0)

  pub file_of_rises : Rises FileOf
  file_of_rises b c le y w s = (file_rises form b.1 c.1 le.1 y.1 y.0 w s.0, let f = s.1 in let l = le.0 in omega arith)

-- ---- what a covered text has besides

abbrev pub piece_of : TextForm → List Pattern
piece_of text_form.Source = []
piece_of (text_form.Covered var mode count) = atomic_import mode

abbrev pub EndsOf : TextForm → List Word → Type 0
EndsOf text_form.Source w = w ≡ []
EndsOf (text_form.Covered var mode count) w = AllFit (trailer var mode count) w

-- the declarations so far, those in w, and what ends them
pub record DeclsOf (form : TextForm) (found : List Decl) (h : ℕ) (b : Room) (y : Tall (List Decl)) (w : List Word) : Type 0 where
  pub front : List Word
  pub back : List Word
  pub from : DeclsFrom form found h b y front
  pub both : w ≡ front ++ back
  pub ends : EndsOf form back

decls_of_rise : (form : TextForm) (found : List Decl) (h : ℕ) → Rises (DeclsOf form found h)
decls_of_rise form found h b c le y w s = record { front = s.front; back = s.back; from = decls_from_rise form found h b c le y s.front s.from; both = s.both; ends = s.ends }

decls_of_end : (form : TextForm) (found : List Decl) (h : ℕ) (b : Room) (w : List Word) → EndsOf form w → DeclsOf form found h b (found, h) w
decls_of_end form found h b w e = record { front = []; back = w; from = decls_end form found h b; both = refl; ends = e }

decls_of_more : (form : TextForm) (found : List Decl) (h : ℕ) (b : Room) (x : Tall Decl) (y : Tall (List Decl)) (sp : Span) (u v w : List Word) → DeclOf form b x u → IsTaken t.semicolon span_of b sp v → DeclsOf form (found ++ x.0 ∷ []) (max h x.1) b y w → DeclsOf form found h b y (u ++ (v ++ w))
decls_of_more form found h b x y sp u v w iu iv r = record { front = u ++ (v ++ r.front); back = r.back; from = decls_more form found h b x y sp u v r.front iu iv r.from; both = rw r.both (simp append_assoc); ends = r.ends }

no_words : (w : List Word) → AllFit [] w → w ≡ []
no_words [] i = refl
no_words (a ∷ w) i = absurd i

file_is : (form : TextForm) (b : Room) (x : Name × ℕ) (is : List Import) (ds : Tall (List Decl)) (sp sp' : Span) (k n s p u v : List Word) → IsTaken t.package_word span_of b sp k → IsTaken kind.Name named_of b x n → IsTaken t.semicolon span_of b sp' s → AllFit (piece_of form) p → ImportsFrom [] b is u → DeclsOf form [] 0 b ds v
    → FileOf form b (record { «package» = x.0; imports = is; decls = ds.0; counts = units form }, ds.1) (k ++ (n ++ (s ++ (p ++ (u ++ (v ++ []))))))
file_is text_form.Source b x is ds sp sp' k n s p u v ik iname js ip iu iv =
    let f = iv.from in
    let m : max 0 f.tall ≡ f.tall = omega arith in
    let none : p ≡ [] = no_words p ip in
    rw (append-nil, ik.1, iname.1, iname.3, js.1, iu.value, f.value, m, none, iv.both, iv.ends, append-nil) (source_file ik.0 iname.0 js.0 f.tall iu.items f.items u iv.front refl ik.2 iname.2 js.2 iu.all f.all, f.fits)
file_is (text_form.Covered var mode count) b x is ds sp sp' k n s p u v ik iname js ip iu iv =
    let f = iv.from in
    let m : max 0 f.tall ≡ f.tall = omega arith in
    rw (append-nil, ik.1, iname.1, iname.3, js.1, iu.value, f.value, m, iv.both) (covered_file ik.0 iname.0 js.0 f.tall iu.items f.items var mode count p u iv.front iv.back refl ik.2 iname.2 js.2 ip iu.all f.all iv.ends, f.fits)

an_end : (form : TextForm) (found : List Decl) (h : ℕ) (b : Room) → Filled b (DeclsOf form found h)
an_end text_form.Source found h b = ((found, h), [], decls_of_end source found h b [] refl)
an_end (text_form.Covered var mode count) found h b = ((found, h), fit_words (trailer var mode count), decls_of_end (text_form.Covered var mode count) found h b (fit_words (trailer var mode count)) (all_words (trailer var mode count)))

module _ (form : TextForm) (K : Fault → Type 0) (never : K Exhausted → ⊥) (n n' : ℕ) (len : n ≤ n') (d d' : Room) (led : d ⊑ d') (deep : K TooDeep → d.0 ≡ d'.0) (many : K TooMany → d.1 ≡ d'.1) (some : 1 ≤ d.0) (turns : 1 ≤ n) (block_good : (K' : Fault → Type 0) → (K' Exhausted → ⊥) → BlockGood form K') where
  path_good : 1 ≤ d.0 → (ts : List Word) → Good n d K (Within IsPath) path path ts
  path_good _ ts = expect_then n d K _ kind.Text import_of _ _ ts (λ x r. good_pure n d K _ _ r (λ b db u iu. rw (append-nil, iu.1, iu.3) (path' iu.0 iu.2, omega arith)))

  paths_good : (ts : List Word) → Good n d K PathsOf (paths n d.0) (paths n' d'.0) ts
  unfolding paths
  paths_good ts = seq n d K (GroupOf IsPath (λ i. 0)) PathsOf _ _ _ ts _ _ (group_rises IsPath (λ i. 0)) (group_good IsPath (λ i. 0) kind.Text begun_path K never n n' len d d' led deep path path path_good ts) (λ xs _ r.
      good_pure n d K _ _ r (λ b db u iu. rw append-nil (xs.0.1, subst (λ (h : ℕ). IsGroup IsPath (λ i. 0) h xs.0.0 xs.0.1 u) (flat_group xs.1 xs.0.0 xs.0.1 u iu.0) iu.0)))

  imports_good : (k k' : ℕ) → k ≤ n → k ≤ k' → (found : List Import) (ts : List Word) → Good k d K (ImportsFrom found) (imports_from n d.0 k found) (imports_from n' d'.0 k' found) ts
  unfolding imports_from
  imports_good zero k' ln le found ts = good_exhausted d K (ImportsFrom found) _ ts never (λ b db. (found, [], record { items = []; value = sym (append-nil found); all = no_imports }))
  imports_good (suc k) zero ln le found ts = absurd (omega arith)
  imports_good (suc k) (suc k') ln le found ts = choice (suc k) d K (ImportsFrom found) t.import_word _ _ _ _ ts
      (λ here. take_then (suc k) k d K _ t.import_word span_of _ _ ts (omega arith) here (λ sp r.
      seq k d K PathsOf _ (paths n' d'.0) _ _ r _ _ paths_rise (fewer n k d K _ _ _ _ _ (omega arith) (paths_good r)) (λ is _ r2.
      expect_then k d K _ t.semicolon span_of _ _ r2 (λ sp' r3.
      weaker k d K (ImportsFrom (found ++ is)) _ _ _ _ _ (λ b db y z a w iw v iv u iu. import_more found is b y sp sp' u v w z iu iv iw a) (imports_good k k' (omega arith) (omega arith) (found ++ is) r3)))))
      (λ other. good_pure (suc k) d K _ _ ts (λ b db. record { items = []; value = sym (append-nil found); all = no_imports }))

  decl_at : (ts : List Word) → Good n d K (DeclOf form) (declaration form n d.1 d.0) (declaration form n' d'.1 d'.0) ts
  decl_at ts = declaration_good form K never n n' len d d' led deep some turns many (block_good K never) ts

  decl_far : (ts : List Word) → Good n d Lasting (DeclOf form) (declaration form n d.1 d.0) (declaration form (suc n) d.1 d.0) ts
  decl_far ts = declaration_good form Lasting (λ s. s) n (suc n) (omega arith) d d (room d) (λ s. refl) some turns (λ s. refl) (block_good Lasting (λ s. s)) ts

  decl_ends : (c : ℕ) → 1 ≤ c → (k v e s : Word) → k.kind ≡ t.var_word → v.kind ≡ kind.Name → e.kind ≡ t.assign → s.kind ≡ t.struct_word → declaration form (suc n) d.1 c (k ∷ v ∷ e ∷ s ∷ []) ≡ (Err Unexpected, s ∷ [])
  decl_ends zero some k v e s kk kv ke ks = absurd (omega arith)
  decl_ends (suc c) some k v e s kk kv ke ks = struct_ends form n d.1 c k v e s [] kk kv ke ks

  -- behind a declaration
  more_good : (k k' : ℕ) (found : List Decl) (h : ℕ) (x : Tall Decl) (r : List Word) → ((ts : List Word) → Good k d K (DeclsOf form (found ++ x.0 ∷ []) (max h x.1)) (decls_from form n d.1 d.0 k (found ++ x.0 ∷ []) (max h x.1)) (decls_from form n' d'.1 d'.0 k' (found ++ x.0 ∷ []) (max h x.1)) ts)
      → Good (suc k) d K (λ b y w. (u : List Word) → DeclOf form b x u → DeclsOf form found h b y (u ++ w)) (expect t.semicolon >> decls_from form n d.1 d.0 k (found ++ x.0 ∷ []) (max h x.1)) (expect t.semicolon >> decls_from form n' d'.1 d'.0 k' (found ++ x.0 ∷ []) (max h x.1)) r
  more_good k k' found h x r again = expect_less (suc k) k d K _ t.semicolon span_of _ _ r (omega arith) (λ sp r2.
      weaker k d K (DeclsOf form (found ++ x.0 ∷ []) (max h x.1)) _ _ _ _ _ (λ b db y w a v iv u iu. decls_of_more form found h b x y sp u v w iu iv a) (again r2))

  by_end : (k : ℕ) (R : Form (Tall (List Decl))) (p p' q q' : Reader (Tall (List Decl))) (ts : List Word) (o : Option TokenKind) → kind_of ts ≡ o → Good k d K R p p' ts → Good k d K R q q' ts → Good k d K R (decls_by p q o) (decls_by p' q' o) ts
  by_end k R p p' q q' ts None e a b = a
  by_end k R p p' q q' ts (Some x) e a b = b

  end_good : (N : ℕ) (R : Form (Tall (List Decl))) (x : Tall (List Decl)) (r : List Word) → ((b : Room) → R b x []) → Good N d K R (peek >>= at_end x) (peek >>= at_end x) r
  end_good N R x r ends = peeked N d K R (at_end x) r _ _ (by_kind (kind_of r))
    where
      by_kind : (o : Option TokenKind) → Good N d K R (at_end x o) (at_end x o) r
      by_kind None = good_pure N d K R x r (λ b db. ends b)
      by_kind (Some k) = good_refuse N d K R r (λ b db. (x, [], ends b))

module _ (K : Fault → Type 0) (never : K Exhausted → ⊥) (n n' : ℕ) (len : n ≤ n') (d d' : Room) (led : d ⊑ d') (deep : K TooDeep → d.0 ≡ d'.0) (many : K TooMany → d.1 ≡ d'.1) (some : 1 ≤ d.0) (turns : 1 ≤ n) where
  Blocks : TextForm → Type 1
  Blocks form = (K' : Fault → Type 0) → (K' Exhausted → ⊥) → BlockGood form K'

  decls_good : (form : TextForm) → Blocks form → (k k' : ℕ) → k ≤ n → k ≤ k' → (found : List Decl) (h : ℕ) (ts : List Word) → Good k d K (DeclsOf form found h) (decls_from form n d.1 d.0 k found h) (decls_from form n' d'.1 d'.0 k' found h) ts
  unfolding decls_from trailer_rest Blocks
  decls_good form bg zero k' ln le found h ts = good_exhausted d K (DeclsOf form found h) _ ts never (λ b db. an_end form found h b)
  decls_good form bg (suc k) zero ln le found h ts = absurd (omega arith)
  decls_good text_form.Source bg (suc k) (suc k') ln le found h ts =
      peeked (suc k) d K (DeclsOf source found h) (decls_by (pure (found, h)) (declaration source n' d'.1 d'.0 >>= λ x. expect t.semicolon >> decls_from source n' d'.1 d'.0 k' (found ++ x.0 ∷ []) (max h x.1))) ts _ _ (by_end source K never n n' len d d' led deep many some turns bg (suc k) (DeclsOf source found h) _ _ _ _ ts (kind_of ts) refl
      (good_pure (suc k) d K _ _ ts (λ b db. decls_of_end source found h b [] refl))
      (seq (suc k) d K (DeclOf source) _ (declaration source n' d'.1 d'.0) _ _ ts _ _ (decl_of_rises source) (fewer n (suc k) d K _ _ _ _ _ ln (decl_at source K never n n' len d d' led deep many some turns bg ts)) (λ x _ r.
      more_good source K never n n' len d d' led deep many some turns bg k k' found h x r (λ ts'. decls_good source bg k k' (omega arith) (omega arith) (found ++ x.0 ∷ []) (max h x.1) ts'))))
  decls_good (text_form.Covered var mode count) bg (suc k) (suc k') ln le found h ts =
      seq (suc k) d K (EndOr var (DeclOf (text_form.Covered var mode count))) (DeclsOf (text_form.Covered var mode count) found h) (or_trailer var (declaration (text_form.Covered var mode count) n' d'.1 d'.0)) _ _ ts _ _ (end_or_rises var (DeclOf (text_form.Covered var mode count)) (decl_of_rises (text_form.Covered var mode count)))
      (or_trailer_good var (DeclOf (text_form.Covered var mode count)) K never (suc k) d (declaration (text_form.Covered var mode count) n d.1 d.0) (declaration (text_form.Covered var mode count) n' d'.1 d'.0) (declaration (text_form.Covered var mode count) (suc n) d.1 d.0)
      (λ r. fewer n (suc k) d K _ _ _ _ _ ln (decl_at (text_form.Covered var mode count) K never n n' len d d' led deep many some turns bg r))
      (λ r. fewer n (suc k) d Lasting _ _ _ _ _ ln (decl_far (text_form.Covered var mode count) K never n n' len d d' led deep many some turns bg r))
      (decl_ends (text_form.Covered var mode count) K never n n' len d d' led deep many some turns bg d.0 some) ts)
      (λ o _ r. behind (λ found' h' ts'. decls_good (text_form.Covered var mode count) bg k k' (omega arith) (omega arith) found' h' ts') o r)
    where
      behind : ((found' : List Decl) (h' : ℕ) (ts' : List Word) → Good k d K (DeclsOf (text_form.Covered var mode count) found' h') (decls_from (text_form.Covered var mode count) n d.1 d.0 k found' h') (decls_from (text_form.Covered var mode count) n' d'.1 d'.0 k' found' h') ts') → (o : Option (Tall Decl)) (r : List Word) → Good (suc k) d K (Rest (EndOr var (DeclOf (text_form.Covered var mode count))) (DeclsOf (text_form.Covered var mode count) found h) o)
          (ended_by (trailer_rest var mode count (found, h)) (λ x. expect t.semicolon >> decls_from (text_form.Covered var mode count) n d.1 d.0 k (found ++ x.0 ∷ []) (max h x.1)) o)
          (ended_by (trailer_rest var mode count (found, h)) (λ x. expect t.semicolon >> decls_from (text_form.Covered var mode count) n' d'.1 d'.0 k' (found ++ x.0 ∷ []) (max h x.1)) o) r
      behind again None r = seq (suc k) d K (AllOf (behind_front (trailer var mode count)) 0) _ (expect_all (behind_front (trailer var mode count)) 0) _ _ r _ _ (all_rise (behind_front (trailer var mode count)) 0) (expect_all_good (suc k) d K (behind_front (trailer var mode count)) 0 r) (λ e _ r2.
          end_good (text_form.Covered var mode count) K never n n' len d d' led deep many some turns bg (suc k) _ (found, h) r2 (λ b u iu v iv. rw append-nil (decls_of_end (text_form.Covered var mode count) found h b (v ++ u) (fit_append (trailer_front var) (behind_front (trailer var mode count)) v u iv iu.0))))
      behind again (Some x) r = more_good (text_form.Covered var mode count) K never n n' len d d' led deep many some turns bg k k' found h x r (λ ts'. again (found ++ x.0 ∷ []) (max h x.1) ts')

  piece_good : (form : TextForm) (ts : List Word) → Good n d K (AllOf (piece_of form) 0) (import_piece form) (import_piece form) ts
  piece_good text_form.Source ts = good_pure n d K _ _ ts (λ b db. (tt, refl))
  piece_good (text_form.Covered var mode count) ts = expect_all_good n d K (atomic_import mode) 0 ts

  pub file_good : (form : TextForm) → ((K' : Fault → Type 0) → (K' Exhausted → ⊥) → BlockGood form K') → (ts : List Word) → Good n d K (FileOf form) (file form n d.1 d.0) (file form n' d'.1 d'.0) ts
  unfolding file Blocks
  file_good form bg ts = expect_then n d K _ t.package_word span_of _ _ ts (λ sp r.
      expect_then n d K _ kind.Name named_of _ _ r (λ x r2.
      expect_then n d K _ t.semicolon span_of _ _ r2 (λ sp' r3.
      seq n d K (AllOf (piece_of form) 0) _ (import_piece form) _ _ r3 _ _ (all_rise (piece_of form) 0) (piece_good form r3) (λ e _ r4.
      seq n d K (ImportsFrom []) _ (imports_from n' d'.0 n' []) _ _ r4 _ _ (imports_rise []) (imports_good form K never n n' len d d' led deep many some turns bg n n' (omega arith) len [] r4) (λ is _ r5.
      seq n d K (DeclsOf form [] 0) _ (decls_from form n' d'.1 d'.0 n' [] 0) _ _ r5 _ _ (decls_of_rise form [] 0) (decls_good form bg n n' (omega arith) len [] 0 r5) (λ ds _ r6.
      good_pure n d K _ _ r6 (λ b db v iv u iu p ip s is' a ia k ik. file_is form b x is ds sp sp' k a s p u v ik ia is' ip.0 iu iv)))))))
