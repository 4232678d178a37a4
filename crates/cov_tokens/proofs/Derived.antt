-- The pieces of a source's tree stand in their places among the source's tokens.
use Rattle.std.proofs.Common.{◌≡◌, ◌≢◌, ◌⊎◌, inl, inr, ℕ, ◌+◌, Bool, true, false, cond, List, [], ◌∷◌, ◌++◌, length, Option, Some, None, refl, sym, ap, ◌∙◌, subst, append_assoc, arith, nat_eq}
use Rattle.std.specs.Prelude.{All, map, slice_get, slice_range}
use Rattle.std.specs.List.{flat_map, enumerate_from}
use Rattle.std.proofs.lemmas.List.{append-nil, length-append}
use Rattle.std.proofs.lemmas.List.Elements.{All-nil, All-cons, All-append}
use Rattle.std.proofs.lemmas.Bool.{eqb-true, eq-eqb}
use Rattle.go_ast.specs.declared.token.TokenKind.{TokenKind}
use Rattle.go_ast.specs.declared.token.TokenKind.TheVariants as kind
use Rattle.go_ast.specs.declared.token.Token.{Token}
use Rattle.go_ast.specs.declared.span.Span.{Span}
use Rattle.go_ast.specs.declared.name.Name.{Name}
use Rattle.go_ast.specs.declared.file.File.{File}
use Rattle.go_ast.specs.declared.decl.Decl.{Decl}
use Rattle.go_ast.specs.declared.decl.Func.{Func}
use Rattle.go_ast.specs.Words.{operators}
use Rattle.go_ast.specs.Pieces.{Piece, Divides, HasForm}
use Rattle.go_ast.specs.Tokens.{kind_of, token, needed_after, tokens_from, HasTokens, tokens_by}
use Rattle.go_grammar.specs.Words.{Word, word_of, words_of}
use Rattle.go_grammar.specs.Terminals as t
use Rattle.go_grammar.specs.Blocks.{source}
use Rattle.go_grammar.specs.Trees.{name_of}
use Rattle.go_grammar.specs.Decls as d
use Rattle.go_grammar.specs.Decls.{IsDecl}
use Rattle.go_grammar.specs.Files as f
use Rattle.go_grammar.specs.Files.{IsFile, IsDecls, SpellsWithin}
use Rattle.cov_outside.specs.declared.mode.Mode.{Mode}
use Rattle.cov_outside.specs.declared.mode.Mode.TheVariants as mode
use Rattle.cov_cut.specs.declared.unit.Unit.{Unit as CutUnit}
use Rattle.cov_cut.specs.Outline.{no_list, lists_along}
use Rattle.cov_cut.specs.Outlining.{Braced, body}
use Rattle.cov_cut.specs.Layers.{block_layer}
use Rattle.cov_cut.specs.Units.{cut_in, is_cut, func_lists}
use Rattle.cov_cut.specs.Counted.{all_units, else_ifs_of}
use Rattle.cov_rewrite.specs.declared.piece.Addition.{Addition}
use Rattle.cov_rewrite.specs.declared.piece.Addition.TheVariants as addition
use Rattle.cov_rewrite.specs.declared.piece.Piece.{Piece as Put}
use Rattle.cov_rewrite.specs.Additions.{name_end, imports, left_braces, right_braces, counters, numbered_counter, pieces}
use Rattle.cov_tokens.specs.Places.{IsBehind, IsLater, IsPlace, leads, AreInPlaces}
use Rattle.cov_tokens.proofs.Firsts.{form_some}
use Rattle.cov_tokens.proofs.Spelling.{flat, its_bytes}
use Rattle.cov_tokens.proofs.Walk.{divides_flat}
use Rattle.cov_tokens.proofs.Reach.{Sited, sited_from, Behind, behind, tokens_are, no_end, peel, one_by, own, inserted_kind}
use Rattle.cov_tokens.proofs.Places.{sign_of_kind, sign_bytes, operator_is, same_some}
use Rattle.cov_tokens.proofs.Layered.{block_is}
use Rattle.cov_tokens.proofs.Sites.{WordBehind, WordLater, Within, Short, AllSited, tail_within, front_within, back_within, word_behind, along_listed, BlockSited, body_sited, block_site}
use Rattle.cov_tokens.proofs.Counting.{HasStart, CounterSite, AllCounters, AllBraces, FuncsSited, funcs_counters, funcs_braces}

-- ---- a token's bytes

pub record Written (text : List ℕ) (t : Token) : Type 0 where
  pub piece : Piece
  pub has_form : HasForm piece.form piece.bytes
  pub kind_is : kind_of piece.form piece.bytes ≡ Some t.kind
  pub end : t.span.end ≡ t.span.start + length piece.bytes
  pub bytes : slice_range text t.span.start t.span.end ≡ piece.bytes

written : (ps : List Piece) (text pre src : List ℕ) (at : ℕ) (o : Option ℕ) (ts : List Token) (t : Token) (us : List Token) → Divides src ps [] → text ≡ pre ++ flat ps → at ≡ length pre → tokens_from at o ps ≡ ts ++ t ∷ us → t.kind ≢ kind.Operator 45 → Written text t
written [] text pre src at o [] t us d e l h ne = absurd (ne (inserted_kind o t us h))
written [] text pre src at None (x ∷ ts) t us d e l h ne = absurd cc
written [] text pre src at (Some a) (x ∷ ts) t us d e l h ne = absurd (no_end ts us t (tokens_are (token (kind.Operator 45) a a) x [] (ts ++ t ∷ us) h).1)
written (p ∷ ps) text pre src at o ts t us d e l h ne =
    let end : ℕ = at + length p.bytes in
    let next : Option ℕ = needed_after p.form p.bytes end o in
    let k = length-append pre p.bytes in
    peel (Written text t) (tokens_by p.form p.bytes at end o) (tokens_from end next ps) ts us t (one_by p.form p.bytes at end o) h
    (λ f r.
    let i = own p.form p.bytes at end o t ne f in
    let start-is = i.start_is in
    let end-is = i.end_is in
    record {
      piece = p;
      has_form = d.2.has_form;
      kind_is = i.kind_is;
      end = omega arith;
      bytes = ap (λ (x : ℕ). slice_range text x t.span.end) start-is ∙ ap (slice_range text at) end-is ∙ its_bytes text pre p.bytes (flat ps) at e l;
    })
    (λ more r. written ps text (pre ++ p.bytes) d.0 end next more t us d.5 (e ∙ sym (append_assoc pre p.bytes (flat ps))) (omega arith) r ne)

-- ---- words and tokens

record Split (text : List ℕ) (tokens : List Token) (before : List Word) (w : Word) (behind : List Word) : Type 0 where
  front : List Token
  token : Token
  back : List Token
  is : tokens ≡ front ++ token ∷ back
  word_is : w ≡ word_of text token
  back_is : behind ≡ words_of text back

word_cons : (a b : Word) (x y : List Word) → a ∷ x ≡ b ∷ y → (a ≡ b) × (x ≡ y)
word_cons a b x y e = (cc, cc)

split : (text : List ℕ) (tokens : List Token) (before : List Word) (w : Word) (behind : List Word) → words_of text tokens ≡ before ++ w ∷ behind → Split text tokens before w behind
split text [] [] w behind e = absurd cc
split text [] (b ∷ before) w behind e = absurd cc
split text (x ∷ tokens) [] w behind e =
    let two = word_cons (word_of text x) w (words_of text tokens) behind e in
    record { front = []; token = x; back = tokens; is = refl; word_is = sym two.0; back_is = sym two.1 }
split text (x ∷ tokens) (b ∷ before) w behind e =
    let two = word_cons (word_of text x) b (words_of text tokens) (before ++ w ∷ behind) e in
    let s = split text tokens before w behind two.1 in
    record { front = x ∷ s.front; token = s.token; back = s.back; is = ap (λ (y : List Token). x ∷ y) s.is; word_is = s.word_is; back_is = s.back_is }

record Next (text : List ℕ) (tokens : List Token) (w : Word) : Type 0 where
  token : Token
  back : List Token
  is : tokens ≡ token ∷ back
  word_is : w ≡ word_of text token

next_of : (text : List ℕ) (tokens : List Token) (w : Word) (behind : List Word) → words_of text tokens ≡ w ∷ behind → Next text tokens w
next_of text [] w behind e = absurd cc
next_of text (x ∷ tokens) w behind e = record { token = x; back = tokens; is = refl; word_is = sym (word_cons (word_of text x) w (words_of text tokens) behind e).0 }

abbrev some_piece : Piece → Option Piece
some_piece p = Some p

same_piece : (a b : Piece) → some_piece a ≡ some_piece b → a ≡ b
same_piece a b e = cc

name_no_sign : kind.Name ≡ kind.Operator 45 → ⊥
name_no_sign e = absurd cc

keyword_no_sign : (a b : ℕ) → kind.Keyword a ≡ kind.Operator b → ⊥
keyword_no_sign a b e = absurd cc

keyword_no_name : (a : ℕ) → kind.Keyword a ≡ kind.Name → ⊥
keyword_no_name a e = absurd cc

clash_eq : (b : Bool) → b ≡ true → b ≡ false → ⊥
clash_eq true e f = absurd cc
clash_eq false e f = absurd cc

-- the first piece at an offset among two lists
leads_behind : (xs ys : List Put) (at : ℕ) → leads xs at ≡ None → leads (xs ++ ys) at ≡ leads ys at
leads_behind [] ys at e = refl
leads_behind (x ∷ xs) ys at e = go (nat_eq x.at at) refl e (leads_behind xs ys at)
  where
    go : (b : Bool) → nat_eq x.at at ≡ b → cond b (Some x.addition) (leads xs at) ≡ None → (leads xs at ≡ None → leads (xs ++ ys) at ≡ leads ys at) → cond b (Some x.addition) (leads (xs ++ ys) at) ≡ leads ys at
    go true b-is h more = absurd cc
    go false b-is h more = more h

leads_front : (xs ys : List Put) (at : ℕ) (a : Addition) → leads xs at ≡ Some a → leads (xs ++ ys) at ≡ Some a
leads_front [] ys at a e = absurd cc
leads_front (x ∷ xs) ys at a e = go (nat_eq x.at at) refl e (leads_front xs ys at a)
  where
    go : (b : Bool) → nat_eq x.at at ≡ b → cond b (Some x.addition) (leads xs at) ≡ Some a → (leads xs at ≡ Some a → leads (xs ++ ys) at ≡ Some a) → cond b (Some x.addition) (leads (xs ++ ys) at) ≡ Some a
    go true b-is h more = h
    go false b-is h more = more h

func_lists_are : (x : Func) → func_lists x ≡ lists_along (body (block_layer x.body) no_list)
unfolding func_lists
func_lists_are x = ap (λ (l : Braced). lists_along (body l no_list)) (block_is x.body)

module _ (text : List ℕ) (tokens : List Token) (has : HasTokens text tokens) where
  token_behind : (k : TokenKind) (at : ℕ) → WordBehind (words_of text tokens) k at → IsBehind tokens k at
  token_behind k at b =
      let s = split text tokens b.before b.word b.behind b.is in
      record {
        before = s.front;
        token = s.token;
        behind = s.back;
        is = s.is;
        kind_is = ap (λ (x : Word). x.kind) (sym s.word_is) ∙ b.kind_is;
        end = ap (λ (x : Word). x.span.end) (sym s.word_is) ∙ b.end;
      }

  token_later : (at : ℕ) → WordLater (words_of text tokens) at → IsLater tokens at
  token_later at b =
      let s = split text tokens b.before b.semicolon (b.word ∷ b.behind) b.is in
      let r = next_of text s.back b.word b.behind (sym s.back_is) in
      record {
        before = s.front;
        semicolon = s.token;
        token = r.token;
        behind = r.back;
        is = s.is ∙ ap (λ (x : List Token). s.front ++ s.token ∷ x) r.is;
        semicolon_is = ap (λ (x : Word). x.kind) (sym s.word_is) ∙ b.semicolon_is;
        start = ap (λ (x : Word). x.span.start) (sym r.word_is) ∙ b.start;
      }

  token_written : (before : List Word) (w : Word) (behind : List Word) → words_of text tokens ≡ before ++ w ∷ behind → w.kind ≢ kind.Operator 45 → (x : Token) × (w ≡ word_of text x) × Written text x
  token_written before w behind e ne =
      let s = split text tokens before w behind e in (
        s.token,
        s.word_is,
        written has.0 text [] text 0 None s.front s.token s.back has.1 (divides_flat has.0 text [] has.1 ∙ append-nil (flat has.0)) refl (sym has.2 ∙ s.is) (λ k. ne (ap (λ (x : Word). x.kind) s.word_is ∙ k)),
      )

  one_byte : (w : Word) (x : Token) (place b : ℕ) → slice_get operators place ≡ Some (b ∷ []) → w.kind ≡ kind.Operator place → w ≡ word_of text x → Written text x → w.span.end ≡ w.span.start + 1
  one_byte w x place b e k w-is r =
      let k-is : x.kind ≡ kind.Operator place = ap (λ (y : Word). y.kind) (sym w-is) ∙ k in
      let s = sign_of_kind r.piece.form r.piece.bytes place (r.kind_is ∙ ap (λ (y : TokenKind). Some y) k-is) r.has_form in
      let len : length r.piece.bytes ≡ 1 = ap length (sign_bytes r.piece.form r.piece.bytes (b ∷ []) place s e) in
      let end = r.end in
      let same : x.span.end ≡ x.span.start + 1 = omega arith in
      ap (λ (y : Word). y.span.end) w-is ∙ same ∙ ap (λ (y : Word). y.span.start + 1) (sym w-is)

  short : Short (words_of text tokens)
  short before w behind e (inl k) =
      let r = token_written before w behind e (λ j. let same = operator_is 42 45 (sym k ∙ j) in omega arith) in
      one_byte w r.0 42 123 refl k r.1 r.2
  short before w behind e (inr k) =
      let r = token_written before w behind e (λ j. let same = operator_is 47 45 (sym k ∙ j) in omega arith) in
      one_byte w r.0 47 58 refl k r.1 r.2

  -- ---- no two tokens of other kinds end at one offset

  record Same (P Q : Option ℕ → Option Piece → ℕ → Type 0) : Type 0 where
    o : Option ℕ
    last : Option Piece
    at : ℕ
    one : P o last at
    two : Q o last at

  same_site : (P Q : Option ℕ → Option Piece → ℕ → Type 0) (ps : List Piece) (src : List ℕ) (o : Option ℕ) (last : Option Piece) (at x : ℕ) → Divides src ps [] → Sited P o last at ps x → Sited Q o last at ps x → Same P Q
  same_site P Q [] src o last at x d s r = record { o = o; last = last; at = at; one = s.1; two = r.1 }
  same_site P Q (p ∷ ps) src o last at x d (inl s) (inl r) = record { o = o; last = last; at = at; one = s.1; two = r.1 }
  same_site P Q (p ∷ ps) src o last at x d (inl s) (inr r) =
      let e = s.0 in
      let from = sited_from Q (needed_after p.form p.bytes (at + length p.bytes) o) (Some p) (at + length p.bytes) ps x r in
      let some = form_some p.form p.bytes d.2.has_form in
      absurd (omega arith)
  same_site P Q (p ∷ ps) src o last at x d (inr s) (inl r) =
      let e = r.0 in
      let from = sited_from P (needed_after p.form p.bytes (at + length p.bytes) o) (Some p) (at + length p.bytes) ps x s in
      let some = form_some p.form p.bytes d.2.has_form in
      absurd (omega arith)
  same_site P Q (p ∷ ps) src o last at x d (inr s) (inr r) = same_site P Q ps d.0 (needed_after p.form p.bytes (at + length p.bytes) o) (Some p) (at + length p.bytes) x d.5 s r

  site_of : (k : TokenKind) (at : ℕ) → k ≢ kind.Operator 45 → IsBehind tokens k at → Sited (Behind k) None None 0 has.0 at
  site_of k at ne b = subst (Sited (Behind k) None None 0 has.0) b.end (behind k ne has.0 0 None None text b.before b.token b.behind has.1 (sym has.2 ∙ b.is) b.kind_is)

  same_kind : (j k : TokenKind) (at : ℕ) → j ≢ kind.Operator 45 → k ≢ kind.Operator 45 → IsBehind tokens j at → IsBehind tokens k at → j ≡ k
  same_kind j k at nj nk a b =
      let s = same_site (Behind j) (Behind k) has.0 text None None 0 at has.1 (site_of j at nj a) (site_of k at nk b) in
      let one = s.one in
      let two = s.two in
      let p : one.piece ≡ two.piece = same_piece one.piece two.piece (sym one.last_is ∙ two.last_is) in
      same_some j k (sym one.kind_is ∙ ap (λ (x : Piece). kind_of x.form x.bytes) p ∙ two.kind_is)

  else_no_brace : (at : ℕ) → IsBehind tokens t.else_word at → IsBehind tokens t.right_brace at → ⊥
  else_no_brace at a b = keyword_no_sign 7 43 (same_kind t.else_word t.right_brace at (λ e. keyword_no_sign 7 45 e) (λ e. let same = operator_is 43 45 e in omega arith) a b)

  else_no_name : (at : ℕ) → IsBehind tokens t.else_word at → IsBehind tokens kind.Name at → ⊥
  else_no_name at a b = keyword_no_name 7 (same_kind t.else_word kind.Name at (λ e. keyword_no_sign 7 45 e) name_no_sign a b)

  -- ---- the tree

  func_sited : (x : Func) → BlockSited (words_of text tokens) (block_layer x.body) → AllSited (words_of text tokens) (func_lists x)
  func_sited x b = subst (AllSited (words_of text tokens)) (sym (func_lists_are x)) (along_listed (words_of text tokens) (body (block_layer x.body) no_list) (body_sited (words_of text tokens) (block_layer x.body) no_list b tt))

  cut_sited : (b : Bool) (x : Func) (xs : List Func) → AllSited (words_of text tokens) (func_lists x) → FuncsSited (words_of text tokens) xs → FuncsSited (words_of text tokens) (cond b (x ∷ []) [] ++ xs)
  cut_sited true x xs a s = (a, s)
  cut_sited false x xs a s = s

  decl_sited : (most h : ℕ) (x : Decl) (w : List Word) (xs : List Func) → IsDecl source most h x w → Within (words_of text tokens) w → FuncsSited (words_of text tokens) xs → FuncsSited (words_of text tokens) (cut_in x ++ xs)
  decl_sited most h x w xs (d.constants k i end cs v e specs) o s = s
  decl_sited most h x w xs (d.variables k i end vs v e specs) o s = s
  decl_sited most h x w xs (d.function k n a b i j m end ps rs block u v z e e' f takes f' gives inner) o s =
      let whole : List Word = words_of text tokens in
      let c = tail_within (words_of text tokens) a (u ++ b ∷ (v ++ z)) (tail_within (words_of text tokens) n (a ∷ (u ++ b ∷ (v ++ z))) (tail_within (words_of text tokens) k (n ∷ a ∷ (u ++ b ∷ (v ++ z))) o)) in
      let q = back_within (words_of text tokens) v z (tail_within (words_of text tokens) b (v ++ z) (back_within (words_of text tokens) u (b ∷ (v ++ z)) c)) in
      let x : Func = record { name = name_of n; params = ps; results = rs; body = block; span = record { start = k.span.start; end = end } } in
      cut_sited (is_cut x) x xs (func_sited x (block_site (words_of text tokens) short most m block end z inner q)) s

  decls_sited : (most h : ℕ) (xs : List Decl) (w : List Word) → IsDecls source most h xs w → Within (words_of text tokens) w → FuncsSited (words_of text tokens) (flat_map cut_in xs)
  decls_sited most h xs w f.no_decls o = tt
  decls_sited most h xs w (f.more_decls c i j x ys u v inner e more) o =
      decl_sited most i x u (flat_map cut_in ys) inner (front_within (words_of text tokens) u (c ∷ v) o)
      (decls_sited most j ys v more (tail_within (words_of text tokens) c v (back_within (words_of text tokens) u (c ∷ v) o)))

  -- ---- the pieces

  pub record FileSited (file : File) : Type 0 where
    pub name : IsBehind tokens kind.Name (name_end file.«package»)
    pub funcs : FuncsSited (words_of text tokens) (flat_map cut_in file.decls)

  file_sited : (most h : ℕ) (file : File) (w : List Word) → IsFile source most h file w → words_of text tokens ≡ w → FileSited file
  file_sited most h file w (f.source_file k n c i is ds u v form e e' e'' group decls) same =
      let r = token_written (k ∷ []) n (c ∷ (u ++ v)) same (λ j. name_no_sign (sym e' ∙ j)) in
      let end = r.2.end in
      let len : length n.bytes ≡ length r.2.piece.bytes = ap (λ (y : Word). length y.bytes) r.1 ∙ ap length r.2.bytes in
      let start-is : n.span.start ≡ r.0.span.start = ap (λ (y : Word). y.span.start) r.1 in
      let end-is : n.span.end ≡ r.0.span.end = ap (λ (y : Word). y.span.end) r.1 in
      let at : n.span.end ≡ n.span.start + length n.bytes = omega arith in
      let whole : Within (words_of text tokens) (k ∷ n ∷ c ∷ (u ++ v)) = record { before = []; behind = []; is = same ∙ sym (append-nil (k ∷ n ∷ c ∷ (u ++ v))) } in
      let q = tail_within (words_of text tokens) n (c ∷ (u ++ v)) (tail_within (words_of text tokens) k (n ∷ c ∷ (u ++ v)) whole) in
      record {
        name = subst (IsBehind tokens kind.Name) at (token_behind kind.Name n.span.end (word_behind (words_of text tokens) n (c ∷ (u ++ v)) kind.Name e' (tail_within (words_of text tokens) k (n ∷ c ∷ (u ++ v)) whole)));
        funcs = decls_sited most i ds v decls (back_within (words_of text tokens) u v (tail_within (words_of text tokens) c (u ++ v) q));
      }
  file_sited most h file w (f.covered_file k n c i is ds var mode count p u v z form e e' e'' first group decls last) same = absurd cc

  -- ---- each piece in its place

  braces_of : (file : File) → FileSited file → AllBraces (words_of text tokens) (else_ifs_of file) (else_ifs_of file)
  braces_of file s = funcs_braces (words_of text tokens) (else_ifs_of file) (flat_map cut_in file.decls) s.funcs

  no_imports : (m : Mode) (name : Name) (at : ℕ) → name_end name ≢ at → leads (imports m name) at ≡ None
  no_imports mode.Set name at ne = refl
  no_imports mode.Count name at ne = refl
  no_imports mode.Atomic name at ne = go (nat_eq (name_end name) at) refl
    where
      go : (b : Bool) → nat_eq (name_end name) at ≡ b → cond b (Some addition.Import) None ≡ None
      go true e = absurd (ne (eqb-true (name_end name) at e))
      go false e = refl

  no_rights : (spans : List Span) (all : List Span) (at : ℕ) → AllBraces (words_of text tokens) all spans → IsBehind tokens t.else_word at → leads (right_braces spans) at ≡ None
  no_rights [] all at a b = refl
  no_rights (s ∷ ss) all at a b = go (nat_eq s.end at) refl (no_rights ss all at a.1 b)
    where
      go : (v : Bool) → nat_eq s.end at ≡ v → leads (right_braces ss) at ≡ None → cond v (Some addition.RightBrace) (leads (right_braces ss) at) ≡ None
      go true e more = absurd (else_no_brace at b (subst (IsBehind tokens t.right_brace) (eqb-true s.end at e) (token_behind t.right_brace s.end a.0.1)))
      go false e more = more

  left_leads : (spans : List Span) (at : ℕ) → HasStart at spans → leads (left_braces spans) at ≡ Some addition.LeftBrace
  left_leads [] at h = absurd h
  left_leads (s ∷ ss) at h = go (nat_eq s.start at) refl h (left_leads ss at)
    where
      go : (v : Bool) → nat_eq s.start at ≡ v → ((s.start ≡ at) ⊎ HasStart at ss) → (HasStart at ss → leads (left_braces ss) at ≡ Some addition.LeftBrace) → cond v (Some addition.LeftBrace) (leads (left_braces ss) at) ≡ Some addition.LeftBrace
      go true e k more = refl
      go false e (inl k) more = absurd (clash_eq (nat_eq s.start at) (eq-eqb s.start at k) e)
      go false e (inr k) more = more k

  -- behind an `else` that an `if` follows a left brace comes first
  brace_leads : (file : File) (m : Mode) (at : ℕ) → FileSited file → IsBehind tokens t.else_word at → HasStart at (else_ifs_of file) → leads (pieces m file) at ≡ Some addition.LeftBrace
  brace_leads file m at s b h =
      let spans : List Span = else_ifs_of file in
      let none-i = no_imports m file.«package» at (λ e. else_no_name at b (subst (IsBehind tokens kind.Name) e s.name)) in
      let none-r = no_rights (else_ifs_of file) (else_ifs_of file) at (braces_of file s) b in
      let some-l = left_leads (else_ifs_of file) at h in
      leads_front ((imports m file.«package» ++ right_braces (else_ifs_of file)) ++ left_braces (else_ifs_of file)) (counters (all_units file)) at addition.LeftBrace
      (leads_behind (imports m file.«package» ++ right_braces (else_ifs_of file)) (left_braces (else_ifs_of file)) at (leads_behind (imports m file.«package») (right_braces (else_ifs_of file)) at none-i ∙ none-r) ∙ some-l)

  in_counter : (file : File) (m : Mode) (i at : ℕ) → FileSited file → CounterSite (words_of text tokens) (else_ifs_of file) at → IsPlace tokens (leads (pieces m file) at) (addition.Counter i) at
  in_counter file m i at s (inl b) = inl (token_behind t.left_brace at b)
  in_counter file m i at s (inr (inl b)) = inr (inl (token_behind t.colon at b))
  in_counter file m i at s (inr (inr (inl b))) = inr (inr (inl (token_later at b)))
  in_counter file m i at s (inr (inr (inr b))) = inr (inr (inr (token_behind t.else_word at b.0, brace_leads file m at s (token_behind t.else_word at b.0) b.1)))

  abbrev PlacedIn : Mode → File → Put → Type 0
  PlacedIn m file p = IsPlace tokens (leads (pieces m file) p.at) p.addition p.at

  imports_placed : (m : Mode) (file : File) (k : Mode) → FileSited file → All (PlacedIn m file) (imports k file.«package»)
  imports_placed m file mode.Set s = All-nil (PlacedIn m file)
  imports_placed m file mode.Count s = All-nil (PlacedIn m file)
  imports_placed m file mode.Atomic s = All-cons (PlacedIn m file) (record { at = name_end file.«package»; addition = addition.Import }) [] s.name (All-nil (PlacedIn m file))

  rights_placed : (m : Mode) (file : File) (spans all : List Span) → AllBraces (words_of text tokens) all spans → All (PlacedIn m file) (right_braces spans)
  rights_placed m file [] all a = All-nil (PlacedIn m file)
  rights_placed m file (x ∷ xs) all a = All-cons (PlacedIn m file) (record { at = x.end; addition = addition.RightBrace }) (right_braces xs) (token_behind t.right_brace x.end a.0.1) (rights_placed m file xs all a.1)

  lefts_placed : (m : Mode) (file : File) (spans all : List Span) → AllBraces (words_of text tokens) all spans → All (PlacedIn m file) (left_braces spans)
  lefts_placed m file [] all a = All-nil (PlacedIn m file)
  lefts_placed m file (x ∷ xs) all a = All-cons (PlacedIn m file) (record { at = x.start; addition = addition.LeftBrace }) (left_braces xs) (token_behind t.else_word x.start a.0.0) (lefts_placed m file xs all a.1)

  counters_placed : (m : Mode) (file : File) (k : ℕ) (units : List CutUnit) → FileSited file → AllCounters (words_of text tokens) (else_ifs_of file) units → All (PlacedIn m file) (map numbered_counter (enumerate_from k units))
  counters_placed m file k [] s a = All-nil (PlacedIn m file)
  counters_placed m file k (u ∷ us) s a =
      All-cons (PlacedIn m file) (numbered_counter (k, u)) (map numbered_counter (enumerate_from (k + 1) us)) (in_counter file m k u.insert s a.0) (counters_placed m file (k + 1) us s a.1)

  pub pieces_placed : (m : Mode) (file : File) → FileSited file → AreInPlaces tokens (pieces m file)
  pieces_placed m file s =
      All-append (PlacedIn m file) ((imports m file.«package» ++ right_braces (else_ifs_of file)) ++ left_braces (else_ifs_of file)) (counters (all_units file))
      (All-append (PlacedIn m file) (imports m file.«package» ++ right_braces (else_ifs_of file)) (left_braces (else_ifs_of file))
      (All-append (PlacedIn m file) (imports m file.«package») (right_braces (else_ifs_of file)) (imports_placed m file m s) (rights_placed m file (else_ifs_of file) (else_ifs_of file) (braces_of file s)))
      (lefts_placed m file (else_ifs_of file) (else_ifs_of file) (braces_of file s)))
      (counters_placed m file 0 (all_units file) s (funcs_counters (words_of text tokens) (else_ifs_of file) (flat_map cut_in file.decls) s.funcs (λ at h. h)))

pub placed : (most depth : ℕ) (text : List ℕ) (tokens : List Token) (m : Mode) (file : File) → HasTokens text tokens → SpellsWithin source most depth file (words_of text tokens) → AreInPlaces tokens (pieces m file)
placed most depth text tokens m file has spells = pieces_placed text tokens has m file (file_sited text tokens has most spells.0 file (words_of text tokens) spells.1 refl)
