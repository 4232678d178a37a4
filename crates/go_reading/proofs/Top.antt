-- The reader of files finds the tree or the first fault.
use Rattle.std.proofs.Common.{◌≡◌, ℕ, zero, suc, ◌+◌, ◌-◌, ◌≤◌, ◌<◌, max, List, [], ◌∷◌, ◌++◌, length, take, Option, Some, None, Result, Ok, Err, refl, sym, ap, subst, ◌∙◌, arith}
use Rattle.std.proofs.lemmas.List.{append-nil}
use Rattle.go_ast.specs.declared.token.TokenKind.TheVariants as kind
use Rattle.go_ast.specs.declared.decl.Decl.{Decl}
use Rattle.go_ast.specs.declared.file.File.{File}
use Rattle.go_grammar.specs.Words.{Word}
use Rattle.go_grammar.specs.Terminals as t
use Rattle.go_ast.specs.declared.token.TokenKind.{TokenKind}
use Rattle.go_grammar.specs.declared.form.Form.{Form as TextForm}
use Rattle.go_grammar.specs.declared.form.Form.TheVariants as text_form
use Rattle.go_grammar.specs.Covering.{trailer}
use Rattle.go_reading.specs.Counters.{expect_all}
use Rattle.go_grammar.specs.Files.{SpellsWithin}
use Rattle.go_grammar.specs.Verdicts.{BeginsWithin, IsUnexpected, IsTooDeep, IsTooMany}
use Rattle.go_reading.specs.declared.fault.Fault.{Fault}
use Rattle.go_reading.specs.declared.fault.Fault.TheVariants.{Unexpected, TooDeep, TooMany, Exhausted}
use Rattle.go_reading.specs.Input.{Outcome, Reader, Tall, go_on, ◌>>◌, expect, kind_of, expect_as, span_of, named_of}
use Rattle.go_reading.specs.Decls.{declaration}
use Rattle.go_reading.specs.Files.{imports_from, at_end, behind_front, or_trailer, trailer_rest, ended_by, import_piece, decls_from, file}
use Rattle.go_reading.specs.Outcomes.{IsFaultAt, IsOutcome, ReadsFiles, SpellsOne}
use Rattle.go_reading.proofs.Good.{Room, ◌⊑◌, Good}
use Rattle.go_reading.proofs.BlockForm.{BlockGood, BlockRead}
use Rattle.go_reading.proofs.FilesGood.{FileOf, file_of_rises, file_good}
use Rattle.go_reading.proofs.FilesRead.{file_read}
use Rattle.go_reading.proofs.First as first
use Rattle.go_reading.proofs.First.{BeginsIn, before, not_ok}

-- ---- declarations are read up to the end

step_ok : {A B : Type 0} (v : Result A Fault) (rest : List Word) (f : A → Reader B) (y : B) (r : List Word) → go_on v rest f ≡ (Ok y, r) → (x : A) × (v ≡ Ok x) × (f x rest ≡ (Ok y, r))
step_ok (Ok x) rest f y r e = (x, refl, e)
step_ok {A} {B} (Err g) rest f y r e = absurd (not_ok {A = B} g y (ap (λ (o : Outcome B). o.0) e))

by_end : (x : Tall (List Decl)) (ts : List Word) (o : Option TokenKind) → kind_of ts ≡ o → (y : Tall (List Decl)) (r : List Word) → at_end x o ts ≡ (Ok y, r) → r ≡ []
by_end x [] None k y r e = sym (ap (λ (o : Outcome (Tall (List Decl))). o.1) e)
by_end x (s ∷ ss) None k y r e = absurd cc
by_end x ts (Some o) k y r e = absurd (not_ok Unexpected y (ap (λ (z : Outcome (Tall (List Decl))). z.0) e))

again_ends : (form : TextForm) (n m d k : ℕ) (found : List Decl) (h : ℕ) (x : Tall Decl) (ts : List Word) → ((ts' : List Word) (found' : List Decl) (h' : ℕ) (y : Tall (List Decl)) (r : List Word) → decls_from form n m d k found' h' ts' ≡ (Ok y, r) → r ≡ []) → (y : Tall (List Decl)) (r : List Word)
    → (expect t.semicolon >> decls_from form n m d k (found ++ x.0 ∷ []) (max h x.1)) ts ≡ (Ok y, r) → r ≡ []
again_ends form n m d k found h x ts again y r e =
    let b = step_ok (expect_as span_of t.semicolon ts).0 (expect_as span_of t.semicolon ts).1 _ y r e in
    again (expect_as span_of t.semicolon ts).1 (found ++ x.0 ∷ []) (max h x.1) y r b.2

ends_by : (form : TextForm) (n m d k : ℕ) (found : List Decl) (h : ℕ) (ts : List Word) → ((ts' : List Word) (found' : List Decl) (h' : ℕ) (y : Tall (List Decl)) (r : List Word) → decls_from form n m d k found' h' ts' ≡ (Ok y, r) → r ≡ []) → (y : Tall (List Decl)) (r : List Word) → decls_from form n m d (suc k) found h ts ≡ (Ok y, r) → r ≡ []
unfolding decls_from trailer_rest
ends_by text_form.Source n m d k found h [] again y r e = sym (ap (λ (o : Outcome (Tall (List Decl))). o.1) e)
ends_by text_form.Source n m d k found h (s ∷ ss) again y r e =
    let a = step_ok (declaration text_form.Source n m d (s ∷ ss)).0 (declaration text_form.Source n m d (s ∷ ss)).1 _ y r e in
    again_ends text_form.Source n m d k found h a.0 (declaration text_form.Source n m d (s ∷ ss)).1 again y r a.2
ends_by (text_form.Covered var mode count) n m d k found h ts again y r e =
    let o : Reader (Option (Tall Decl)) = or_trailer var (declaration (text_form.Covered var mode count) n m d) in
    let a = step_ok (or_trailer var (declaration (text_form.Covered var mode count) n m d) ts).0 (or_trailer var (declaration (text_form.Covered var mode count) n m d) ts).1 _ y r e in
    by a.0 a.2
  where
    by : (o : Option (Tall Decl)) → ended_by (trailer_rest var mode count (found, h)) (λ x. expect t.semicolon >> decls_from (text_form.Covered var mode count) n m d k (found ++ x.0 ∷ []) (max h x.1)) o (or_trailer var (declaration (text_form.Covered var mode count) n m d) ts).1 ≡ (Ok y, r) → r ≡ []
    by None e =
        let ts1 = (or_trailer var (declaration (text_form.Covered var mode count) n m d) ts).1 in
        let b = step_ok (expect_all (behind_front (trailer var mode count)) 0 ts1).0 (expect_all (behind_front (trailer var mode count)) 0 ts1).1 _ y r e in
        by_end (found, h) (expect_all (behind_front (trailer var mode count)) 0 ts1).1 (kind_of (expect_all (behind_front (trailer var mode count)) 0 ts1).1) refl y r b.2
    by (Some x) e = again_ends (text_form.Covered var mode count) n m d k found h x (or_trailer var (declaration (text_form.Covered var mode count) n m d) ts).1 again y r e

no_turns : (form : TextForm) (n m d : ℕ) (found : List Decl) (h : ℕ) (ts : List Word) (y : Tall (List Decl)) (r : List Word) → decls_from form n m d zero found h ts ≡ (Ok y, r) → r ≡ []
unfolding decls_from
no_turns form n m d found h ts y r e = absurd (not_ok Exhausted y (ap (λ (o : Outcome (Tall (List Decl))). o.0) e))

decls_end : (form : TextForm) (n m d k : ℕ) (found : List Decl) (h : ℕ) (ts : List Word) (y : Tall (List Decl)) (r : List Word) → decls_from form n m d k found h ts ≡ (Ok y, r) → r ≡ []
decls_end form n m d zero found h ts y r e = no_turns form n m d found h ts y r e
decls_end form n m d (suc k) found h ts y r e = ends_by form n m d k found h ts (λ ts' found' h' y' r' e'. decls_end form n m d k found' h' ts' y' r' e') y r e

decls_left : (form : TextForm) (n m d : ℕ) (ts : List Word) (y : Tall (List Decl)) → (decls_from form n m d n [] 0 ts).0 ≡ Ok y → (decls_from form n m d n [] 0 ts).1 ≡ []
decls_left form n m d ts y e = decls_end form n m d n [] 0 ts y (decls_from form n m d n [] 0 ts).1 (ap (λ (v : Result (Tall (List Decl)) Fault). (v, (decls_from form n m d n [] 0 ts).1)) e)

file_ends : (form : TextForm) (n m d : ℕ) (ts : List Word) (x : Tall File) (r : List Word) → file form n m d ts ≡ (Ok x, r) → r ≡ []
unfolding file
file_ends form n m d ts x r e =
    let a = step_ok (expect_as span_of t.package_word ts).0 (expect_as span_of t.package_word ts).1 _ x r e in
    let r1 = (expect_as span_of t.package_word ts).1 in
    let b = step_ok (expect_as named_of kind.Name r1).0 (expect_as named_of kind.Name r1).1 _ x r a.2 in
    let r2 = (expect_as named_of kind.Name r1).1 in
    let c = step_ok (expect_as span_of t.semicolon r2).0 (expect_as span_of t.semicolon r2).1 _ x r b.2 in
    let r3 = (expect_as span_of t.semicolon r2).1 in
    let p = step_ok (import_piece form r3).0 (import_piece form r3).1 _ x r c.2 in
    let r4 = (import_piece form r3).1 in
    let g = step_ok (imports_from n d n [] r4).0 (imports_from n d n [] r4).1 _ x r p.2 in
    let r5 = (imports_from n d n [] r4).1 in
    let i = step_ok (decls_from form n m d n [] 0 r5).0 (decls_from form n m d n [] 0 r5).1 _ x r g.2 in
    sym (ap (λ (o : Outcome (Tall File)). o.1) i.2) ∙ decls_left form n m d r5 i.0 i.1

module _ (form : TextForm) where
  -- ---- the room of a file is its two limits

  to_begins : (b : Room) (ts : List Word) → BeginsIn (FileOf form) b ts → BeginsWithin form b.1 b.0 ts
  to_begins b ts g = (g.0, g.1.0, (g.1.1, g.2.0, g.2.1))

  of_begins : (b : Room) (ts : List Word) → BeginsWithin form b.1 b.0 ts → BeginsIn (FileOf form) b ts
  of_begins b ts g = (g.0, (g.1, g.2.0), (g.2.1, g.2.2))

  module _ (block_good : (K : Fault → Type 0) → (K Exhausted → ⊥) → BlockGood form K) (block_read : (BlockRead form)) where
    top : ℕ → Room → Reader (Tall File)
    top n d = file form n d.1 d.0

    good : (K : Fault → Type 0) (never : K Exhausted → ⊥) (n n' : ℕ) → 1 ≤ n → n ≤ n' → (d d' : Room) → d ⊑ d' → (K TooDeep → d.0 ≡ d'.0) → (K TooMany → d.1 ≡ d'.1) → 1 ≤ d.0 → (ts : List Word) → Good n d K (FileOf form) (top n d) (top n' d') ts
    unfolding top
    good K never n n' turns len d d' led deep many some ts = file_good K never n n' len d d' led deep many some turns form block_good ts

    reads : (n : ℕ) (d : Room) → 1 ≤ d.0 → (x : Tall File) (w : List Word) → FileOf form d x w → length w < n → top n d w ≡ (Ok x, [])
    unfolding top
    reads n d some x w i long = file_read form block_read n d.1 d.0 some x.1 x.0 w i.0 i.1 long

    module _ (n : ℕ) (turns : 1 ≤ n) (d : Room) (some : 1 ≤ d.0) (ts rest : List Word) where
      unexpected_at : (r : List Word) → rest ≡ r → top n d ts ≡ (Err Unexpected, rest) → IsUnexpected form d.1 d.0 ts (length ts - length rest)
      unfolding before
      unexpected_at [] none o =
          let zero-left : length rest ≡ 0 = ap length none in
          let o' : top n d ts ≡ (Err Unexpected, []) = o ∙ ap (λ (w : List Word). (Err Unexpected, w)) none in
          record {
            within = omega arith;
            before = to_begins d (take (length ts - length rest) ts) (first.begun (FileOf form) top good reads (file_of_rises form) n turns d some ts rest Unexpected o);
            token = λ lt. absurd (omega arith);
            end = λ at x s. first.none_ends (FileOf form) top good reads (file_of_rises form) n turns d some ts o' (s.1, s.0) (x, s.2.0) (s.2.1, s.2.2);
          }
      unexpected_at (t ∷ r) e o =
          let lt = first.inside (FileOf form) top good reads (file_of_rises form) n turns d some ts rest (Err Unexpected) o t r e in
          record {
            within = omega arith;
            before = to_begins d (take (length ts - length rest) ts) (first.begun (FileOf form) top good reads (file_of_rises form) n turns d some ts rest Unexpected o);
            token = λ _ g. first.none_goes_on (FileOf form) top good reads (file_of_rises form) n turns d some ts rest o t r e (g.2.1, g.2.0) (of_begins (g.2.1, g.2.0) (take (length ts - length rest + 1) ts) (g.0, g.1, g.2.2));
            end = λ at. absurd (omega arith);
          }

      too_deep_at : top n d ts ≡ (Err TooDeep, rest) → IsTooDeep form d.1 d.0 ts (length ts - length rest)
      unfolding before
      too_deep_at o =
          let x = first.deep_next (FileOf form) top good reads (file_of_rises form) n turns d some ts rest o in
          let g = first.deep_goes_on (FileOf form) top good reads (file_of_rises form) n turns d some ts rest o in
          record {
            within = first.inside (FileOf form) top good reads (file_of_rises form) n turns d some ts rest (Err TooDeep) o x.0 x.1 x.2;
            before = to_begins d (take (length ts - length rest) ts) (first.begun (FileOf form) top good reads (file_of_rises form) n turns d some ts rest TooDeep o);
            token = (g.0, to_begins (g.0, d.1) (take (length ts - length rest + 1) ts) g.1);
            none = λ c b. first.none_so_deep (FileOf form) top good reads (file_of_rises form) n turns d some ts rest o c (of_begins (d.0, c) (take (length ts - length rest + 1) ts) b);
          }

      too_many_at : top n d ts ≡ (Err TooMany, rest) → IsTooMany form d.1 d.0 ts (length ts - length rest)
      unfolding before
      too_many_at o =
          let x = first.many_next (FileOf form) top good reads (file_of_rises form) n turns d some ts rest o in
          let g = first.many_goes_on (FileOf form) top good reads (file_of_rises form) n turns d some ts rest o in
          let b = to_begins g.0 (take (length ts - length rest + 1) ts) g.1 in
          record {
            within = first.inside (FileOf form) top good reads (file_of_rises form) n turns d some ts rest (Err TooMany) o x.0 x.1 x.2;
            before = to_begins d (take (length ts - length rest) ts) (first.begun (FileOf form) top good reads (file_of_rises form) n turns d some ts rest TooMany o);
            token = (b.0, b.1, (g.0.1, g.0.0, b.2));
            none = λ c b. first.none_so_few (FileOf form) top good reads (file_of_rises form) n turns d some ts rest o c (of_begins (c, d.1) (take (length ts - length rest + 1) ts) b);
          }

      spelled_at : (x : Tall File) → top n d ts ≡ (Ok x, rest) → SpellsWithin form d.1 d.0 x.0 ts
      unfolding top
      spelled_at x o =
          let none : rest ≡ [] = file_ends form n d.1 d.0 ts x rest o in
          let is : ts ≡ before ts rest = first.parts (FileOf form) top good reads (file_of_rises form) n turns d some ts rest (Ok x) o ∙ ap (λ (r : List Word). before ts rest ++ r) none ∙ append-nil (before ts rest) in
          let f = subst (FileOf form d x) (sym is) (first.found (FileOf form) top good reads (file_of_rises form) n turns d some ts rest x o) in
          (x.1, f.0, f.1)

      fault_at : length ts < n → (f : Fault) → top n d ts ≡ (Err f, rest) → IsFaultAt form d.1 d.0 ts (length ts - length rest) f
      fault_at lt Unexpected o = unexpected_at rest refl o
      fault_at lt TooDeep o = too_deep_at o
      fault_at lt TooMany o = too_many_at o
      fault_at lt Exhausted o = absurd (first.not_exhausted (FileOf form) top good reads (file_of_rises form) n turns d some ts rest lt o)

      outcome_at : length ts < n → (v : Result (Tall File) Fault) → top n d ts ≡ (v, rest) → IsOutcome form d.1 d.0 ts v rest
      outcome_at lt (Ok x) o = spelled_at x o
      outcome_at lt (Err f) o = (first.fits (FileOf form) top good reads (file_of_rises form) n turns d some ts rest (Err f) o, fault_at lt f o)

    pub reads_files : ReadsFiles form
    unfolding top
    reads_files n m d ts some lt = outcome_at n (omega arith) (d, m) some ts (file form n m d ts).1 lt (file form n m d ts).0 refl

    pub spells_one : SpellsOne form
    spells_one ts x y sx sy =
        let m = sx.0 + sy.0 in
        let d = suc (sx.1 + sy.1) in
        let rx : FileOf form (d, m) (x, sx.2.0) ts = file_of_rises form (sx.1, sx.0) (d, m) (omega arith, omega arith) (x, sx.2.0) ts (sx.2.1, sx.2.2) in
        let ry : FileOf form (d, m) (y, sy.2.0) ts = file_of_rises form (sy.1, sy.0) (d, m) (omega arith, omega arith) (y, sy.2.0) ts (sy.2.1, sy.2.2) in
        ap (λ (z : Tall File). z.0) (first.one_tree (FileOf form) top good reads (file_of_rises form) (suc (length ts)) (omega arith) (d, m) (omega arith) ts (x, sx.2.0) (y, sy.2.0) rx ry (omega arith))
