-- Files that the grammar derives are read.
use Rattle.std.proofs.Common.{◌≡◌, ℕ, zero, suc, ◌≤◌, ◌<◌, max, false, List, [], ◌∷◌, ◌++◌, Some, length, Ok, refl, sym, ap, subst, ◌∙◌, append_assoc, arith}
use Rattle.std.proofs.lemmas.List.{append-nil, length-append}
use Rattle.go_ast.specs.declared.token.TokenKind.{TokenKind}
use Rattle.go_ast.specs.declared.token.TokenKind.TheVariants as kind
use Rattle.go_ast.specs.declared.file.Import.{Import}
use Rattle.go_ast.specs.declared.file.File.{File}
use Rattle.go_ast.specs.declared.decl.Decl.{Decl}
use Rattle.go_grammar.specs.Words.{Word}
use Rattle.go_grammar.specs.Terminals as t
use Rattle.go_grammar.specs.Trees.{name_of}
use Rattle.go_grammar.specs.Lists.{IsGroup}
use Rattle.go_grammar.specs.declared.form.CounterForm.{CounterForm}
use Rattle.go_grammar.specs.declared.form.Form.{Form as TextForm}
use Rattle.go_grammar.specs.declared.form.Form.TheVariants as text_form
use Rattle.go_grammar.specs.Patterns.{AllFit}
use Rattle.go_grammar.specs.Covering.{atomic_import, trailer}
use Rattle.go_grammar.specs.Blocks.{source, covered}
use Rattle.go_grammar.specs.Decls.{IsDecl, constants, variables, function}
use Rattle.go_grammar.specs.Files.{IsPath, path as path', IsImports, no_imports, more_imports, IsDecls, no_decls, more_decls, IsFile, source_file, covered_file}
use Rattle.go_reading.specs.Kinds.{same, is}
use Rattle.go_reading.specs.Input.{Reader, Tall, ◌>>◌, expect, kind_of, take_as, expect_as}
use Rattle.go_reading.specs.Decls.{declaration}
use Rattle.go_reading.specs.Files.{path, paths, imports_from, trailer_front, behind_front, trailer_rest, import_piece, units, decls_in, decls_from, file}
use Rattle.go_reading.proofs.RowsRead.{sees, kind_is, is_other, group_reads}
use Rattle.go_reading.proofs.BlockForm.{BlockRead}
use Rattle.go_reading.specs.Counters.{expect_all}
use Rattle.go_reading.proofs.FitGood.{end_of}
use Rattle.go_reading.proofs.FitRead.{all_read, fit_split}
use Rattle.go_reading.proofs.FilesGood.{piece_of, EndsOf}
use Rattle.go_reading.proofs.TrailerGood.{or_front, or_item, no_front}
use Rattle.go_reading.proofs.DeclsRead.{decl_read}

-- ---- imports

path_read : (h : ℕ) (x : Import) (w : List Word) → IsPath h x w → (rest : List Word) → path (w ++ rest) ≡ (Ok (x, h), rest)
unfolding expect_as
path_read _ _ _ (path' n k) rest = rw (sees n rest kind.Text k) refl

path_begins : (h : ℕ) (x : Import) (w : List Word) → IsPath h x w → (rest : List Word) → kind_of (w ++ rest) ≡ Some kind.Text
path_begins _ _ _ (path' n k) rest = kind_is n rest kind.Text k

paths_read : (n d : ℕ) → 1 ≤ d → (end : ℕ) (is : List Import) (w : List Word) → IsGroup IsPath (λ i. 0) 0 is end w → length w < n → (rest : List Word) → paths n d (w ++ rest) ≡ (Ok is, rest)
unfolding paths
paths_read n d some end is w i long rest =
    rw (group_reads kind.Text refl refl IsPath path (λ i. 0) (λ r. Unit {0}) d n (λ h x u j hh hl r f. path_read h x u j r) (λ s v e. tt) (λ r e. tt) path_begins (λ h x u j le. some) 0 is end w i (omega arith) long rest tt) refl

imports_stop : (n d k : ℕ) (found : List Import) (rest : List Word) → 0 < k → is (kind_of rest) t.import_word ≡ false → imports_from n d k found rest ≡ (Ok found, rest)
unfolding imports_from
imports_stop n d zero found rest some other = absurd (omega arith)
imports_stop n d (suc k) found rest some other = rw other refl

imports_step : (n d k : ℕ) (found is : List Import) (a s : Word) (ts rest : List Word) → a.kind ≡ t.import_word → paths n d ts ≡ (Ok is, s ∷ rest) → s.kind ≡ t.semicolon → imports_from n d (suc k) found (a ∷ ts) ≡ imports_from n d k (found ++ is) rest
unfolding imports_from take_as expect_as
imports_step n d k found is a s ts rest ka r ks = rw (sees a ts t.import_word ka, r, sees s rest t.semicolon ks) refl

-- no import comes next
abbrev NoImport : List Word → Type 0
NoImport rest = is (kind_of rest) t.import_word ≡ false

imports_read : (n d : ℕ) → 1 ≤ d → (xs : List Import) (w : List Word) → IsImports xs w → length w < n → (k : ℕ) → length w < k → (found : List Import) (rest : List Word) → NoImport rest → imports_from n d k found (w ++ rest) ≡ (Ok (found ++ xs), rest)
imports_read n d some _ _ no_imports long k lt found rest other = imports_stop n d k found rest (omega arith) other ∙ rw append-nil refl
imports_read n d some _ _ (more_imports a s end is js w v ka i ks j) long zero lt found rest other = absurd (omega arith)
imports_read n d some _ _ (more_imports a s end is js w v ka i ks j) long (suc k) lt found rest other =
    let len = length-append w (s ∷ v) in
    rw append_assoc (imports_step n d k found is a s (w ++ s ∷ (v ++ rest)) (v ++ rest) ka (paths_read n d some end is w i (omega arith) (s ∷ (v ++ rest))) ks ∙ imports_read n d some js v j (omega arith) k (omega arith) (found ++ is) rest other ∙ rw append_assoc refl)

-- ---- declarations

-- the trailer is read up to the end
trailer_stop : (var : List ℕ) (mode : CounterForm) (count : ℕ) (found : Tall (List Decl)) (w : List Word) → AllFit (trailer var mode count) w → (item : Reader (Tall Decl)) (more : Tall Decl → Reader (Tall (List Decl))) → decls_in (text_form.Covered var mode count) item found more w ≡ (Ok found, [])
unfolding trailer_rest
trailer_stop var mode count found w fit item more =
    let s = fit_split (trailer_front var) (behind_front (trailer var mode count)) w fit in
    let one : expect_all (trailer_front var) 0 (s.front ++ s.back) ≡ (Ok (end_of 0 s.front), s.back) = all_read (trailer_front var) s.front s.first 0 s.back in
    let two : expect_all (behind_front (trailer var mode count)) 0 s.back ≡ (Ok (end_of 0 s.back), []) = ap (expect_all (behind_front (trailer var mode count)) 0) (sym (append-nil s.back)) ∙ all_read (behind_front (trailer var mode count)) s.back s.second 0 [] in
    ap (decls_in (text_form.Covered var mode count) item found more) s.both ∙ rw (or_front var item (s.front ++ s.back) (end_of 0 s.front) s.back one) (rw two refl)

decls_stop : (form : TextForm) (n m d k : ℕ) (found : List Decl) (h : ℕ) (w : List Word) → EndsOf form w → 0 < k → decls_from form n m d k found h w ≡ (Ok (found, h), [])
unfolding decls_from
decls_stop form n m d zero found h w e some = absurd (omega arith)
decls_stop text_form.Source n m d (suc k) found h w e some = rw e refl
decls_stop (text_form.Covered var mode count) n m d (suc k) found h w e some = trailer_stop var mode count (found, h) w e (declaration (text_form.Covered var mode count) n m d) (λ x. expect t.semicolon >> decls_from (text_form.Covered var mode count) n m d k (found ++ x.0 ∷ []) (max h x.1))

decls_step : (form : TextForm) (n m d k : ℕ) → 1 ≤ n → 1 ≤ d → (found : List Decl) (h h' : ℕ) (x : Decl) (s : Word) (ts rest : List Word) → (o : TokenKind) → kind_of ts ≡ Some o → declaration form n m d ts ≡ (Ok (x, h'), s ∷ rest) → s.kind ≡ t.semicolon
    → decls_from form n m d (suc k) found h ts ≡ decls_from form n m d k (found ++ x ∷ []) (max h h') rest
unfolding decls_from expect_as
decls_step text_form.Source n m d k ln ld found h h' x s ts rest o e r ks = rw (e, r, sees s rest t.semicolon ks) refl
decls_step (text_form.Covered var mode count) n m d k ln ld found h h' x s ts rest o e r ks =
    rw (or_item var (declaration (text_form.Covered var mode count) n m d) ts (x, h') (s ∷ rest) r (λ end w is. no_front (text_form.Covered var mode count) n m d ln ld var ts (x, h') (s ∷ rest) r end w is), sees s rest t.semicolon ks) refl

module _ (form : TextForm) where
  decl_begins : (m h : ℕ) (x : Decl) (w : List Word) → IsDecl form m h x w → (rest : List Word) → (o : TokenKind) × (kind_of (w ++ rest) ≡ Some o) × (same o t.import_word ≡ false)
  decl_begins m _ _ _ (constants k h end cs w e i) rest = (t.const_word, kind_is k (w ++ rest) t.const_word e, refl)
  decl_begins m _ _ _ (variables k h end vs w e i) rest = (t.var_word, kind_is k (w ++ rest) t.var_word e, refl)
  decl_begins m _ _ _ (function k n a b i j p end ps rs x u v w kk kn ka ip kb ir ix) rest = (t.func_word, kind_is k (n ∷ a ∷ (u ++ b ∷ (v ++ w)) ++ rest) t.func_word kk, refl)

  decls_read : BlockRead form → (n m d h : ℕ) → 1 ≤ d → (xs : List Decl) (w : List Word) → IsDecls form m h xs w → (z : List Word) → EndsOf form z → h ≤ d → length w < n → (k : ℕ) → length w < k → (found : List Decl) (h0 : ℕ) → decls_from form n m d k found h0 (w ++ z) ≡ (Ok (found ++ xs, max h0 h), [])
  decls_read reads n m d _ ld _ _ no_decls z ends le long k lt found h0 = let q : max h0 0 ≡ h0 = omega arith in decls_stop form n m d k found h0 z ends (omega arith) ∙ rw (append-nil, q) refl
  decls_read reads n m d _ ld _ _ (more_decls s h h' x xs w v i ks j) z ends le long zero lt found h0 = absurd (omega arith)
  decls_read reads n m d _ ld _ _ (more_decls s h h' x xs w v i ks j) z ends le long (suc k) lt found h0 =
      let len = length-append w (s ∷ v) in
      let b = decl_begins m h x w i (s ∷ (v ++ z)) in
      let q : max (max h0 h) h' ≡ max h0 (max h h') = omega arith in
      rw append_assoc (decls_step form n m d k (omega arith) ld found h0 h x s (w ++ s ∷ (v ++ z)) (v ++ z) b.0 b.1 (decl_read form reads n m d h x w i (omega arith) (omega arith) (s ∷ (v ++ z)) (kind_is s (v ++ z) t.semicolon ks)) ks
      ∙ decls_read reads n m d h' ld xs v j z ends (omega arith) (omega arith) k (omega arith) (found ++ x ∷ []) (max h0 h) ∙ rw (append_assoc, q) refl)

no_import_end : (form : TextForm) (z : List Word) → EndsOf form z → NoImport z
no_import_end text_form.Source z e = rw e refl
no_import_end (text_form.Covered var mode count) [] e = refl
no_import_end (text_form.Covered var mode count) (a ∷ z) e = is_other (kind_of (a ∷ z)) t.var_word t.import_word (kind_is a z t.var_word e.0.0) refl

no_import_at : (form : TextForm) (m h : ℕ) (xs : List Decl) (w : List Word) → IsDecls form m h xs w → (z : List Word) → EndsOf form z → NoImport (w ++ z)
no_import_at form m _ _ _ no_decls z e = no_import_end form z e
no_import_at form m _ _ _ (more_decls s h h' x xs w v i ks j) z e = let b = decl_begins form m h x w i (s ∷ (v ++ z)) in rw append_assoc (is_other (kind_of (w ++ s ∷ (v ++ z))) b.0 t.import_word b.1 b.2)

piece_read : (form : TextForm) (p rest : List Word) → AllFit (piece_of form) p → (e : ℕ) × (import_piece form (p ++ rest) ≡ (Ok e, rest))
piece_read text_form.Source [] rest f = (0, refl)
piece_read text_form.Source (a ∷ p) rest f = absurd f
piece_read (text_form.Covered var mode count) p rest f = (end_of 0 p, all_read (atomic_import mode) p f 0 rest)

file_step : (form : TextForm) (n m d h : ℕ) (k a s : Word) (e : ℕ) (is : List Import) (ds : List Decl) (ts vs us rest : List Word) → k.kind ≡ t.package_word → a.kind ≡ kind.Name → s.kind ≡ t.semicolon → import_piece form ts ≡ (Ok e, vs) → imports_from n d n [] vs ≡ (Ok is, us) → decls_from form n m d n [] 0 us ≡ (Ok (ds, h), rest)
    → file form n m d (k ∷ a ∷ s ∷ ts) ≡ (Ok (record { «package» = name_of a; imports = is; decls = ds; counts = units form }, h), rest)
unfolding file expect_as
file_step form n m d h k a s e is ds ts vs us rest kk ka ks p r q = rw (sees k (a ∷ s ∷ ts) t.package_word kk, sees a (s ∷ ts) kind.Name ka, sees s ts t.semicolon ks, p, r, q) refl

parts_read : (form : TextForm) → BlockRead form → (n m d : ℕ) → 1 ≤ d → (k a s : Word) (h : ℕ) (is : List Import) (ds : List Decl) (p u v z : List Word) → k.kind ≡ t.package_word → a.kind ≡ kind.Name → s.kind ≡ t.semicolon → AllFit (piece_of form) p → IsImports is u → IsDecls form m h ds v → EndsOf form z
    → h ≤ d → length (k ∷ a ∷ s ∷ (p ++ (u ++ (v ++ z)))) < n → file form n m d (k ∷ a ∷ s ∷ (p ++ (u ++ (v ++ z)))) ≡ (Ok (record { «package» = name_of a; imports = is; decls = ds; counts = units form }, h), [])
parts_read form reads n m d some k a s h is ds p u v z kk ka ks fp i j e le long =
    let l1 = length-append p (u ++ (v ++ z)) in
    let l2 = length-append u (v ++ z) in
    let l3 = length-append v z in
    let q : max 0 h ≡ h = omega arith in
    let g = piece_read form p (u ++ (v ++ z)) fp in
    file_step form n m d h k a s g.0 is ds (p ++ (u ++ (v ++ z))) (u ++ (v ++ z)) (v ++ z) [] kk ka ks g.1 (imports_read n d some is u i (omega arith) n (omega arith) [] (v ++ z) (no_import_at form m h ds v j z e)) (decls_read form reads n m d h some ds v j z e le (omega arith) n (omega arith) [] 0 ∙ rw q refl)

pub file_read : (form : TextForm) → BlockRead form → (n m d : ℕ) → 1 ≤ d → (h : ℕ) (x : File) (w : List Word) → IsFile form m h x w → h ≤ d → length w < n → file form n m d w ≡ (Ok (x, h), [])
file_read form reads n m d some _ _ _ (source_file k a s h is ds u v e kk ka ks i j) le long = go form e reads j
  where
    go : (f : TextForm) → f ≡ source → (BlockRead f) → IsDecls f m h ds v → file f n m d (k ∷ a ∷ s ∷ (u ++ v)) ≡ (Ok (record { «package» = name_of a; imports = is; decls = ds; counts = 0 }, h), [])
    go f e reads j = subst (λ (g : TextForm). BlockRead g → IsDecls g m h ds v → file g n m d (k ∷ a ∷ s ∷ (u ++ v)) ≡ (Ok (record { «package» = name_of a; imports = is; decls = ds; counts = 0 }, h), [])) (sym e)
        (λ reads j. ap (λ (z : List Word). file source n m d (k ∷ a ∷ s ∷ (u ++ z))) (sym (append-nil v)) ∙ parts_read source reads n m d some k a s h is ds [] u v [] kk ka ks tt i j refl le (rw append-nil long)) reads j
file_read form reads n m d some _ _ _ (covered_file k a s h is ds var mode count p u v w e kk ka ks fp i j fw) le long = go form e reads j
  where
    go : (f : TextForm) → f ≡ covered var mode count → (BlockRead f) → IsDecls f m h ds v → file f n m d (k ∷ a ∷ s ∷ (p ++ (u ++ (v ++ w)))) ≡ (Ok (record { «package» = name_of a; imports = is; decls = ds; counts = count }, h), [])
    go f e reads j = subst (λ (g : TextForm). BlockRead g → IsDecls g m h ds v → file g n m d (k ∷ a ∷ s ∷ (p ++ (u ++ (v ++ w)))) ≡ (Ok (record { «package» = name_of a; imports = is; decls = ds; counts = count }, h), [])) (sym e)
        (λ reads j. parts_read (covered var mode count) reads n m d some k a s h is ds p u v w kk ka ks fp i j fw le long) reads j
