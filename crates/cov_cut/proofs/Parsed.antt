-- A file that a source's tokens spell is placed, and stands in the text.
use Rattle.std.proofs.Common.{◌≡◌, ℕ, ◌+◌, ◌-◌, ◌<◌, ◌≤◌, Bool, true, false, cond, List, [], ◌∷◌, ◌++◌, refl, sym, ap, ◌∙◌, subst, length, take, drop, arith}
use Rattle.std.specs.Prelude.{All, slice_range}
use Rattle.std.specs.List.{flat_map}
use Rattle.std.proofs.lemmas.List.{length-take, length-drop}
use Rattle.go_ast.specs.declared.token.TokenKind.TheVariants as kind
use Rattle.go_ast.specs.declared.token.Token.{Token}
use Rattle.go_ast.specs.declared.file.File.{File}
use Rattle.go_ast.specs.declared.decl.Decl.{Decl}
use Rattle.go_ast.specs.declared.decl.Func.{Func}
use Rattle.go_ast.specs.Tokens.{HasTokens}
use Rattle.go_grammar.specs.Words.{Word, word_of, words_of}
use Rattle.go_grammar.specs.Terminals as t
use Rattle.go_grammar.specs.Blocks.{source}
use Rattle.go_grammar.specs.Trees.{name_of}
use Rattle.go_grammar.specs.Decls as d
use Rattle.go_grammar.specs.Decls.{IsDecl}
use Rattle.go_grammar.specs.Files as f
use Rattle.go_grammar.specs.Files.{IsFile, IsDecls, SpellsWithin}
use Rattle.cov_cut.specs.Outline.{no_list}
use Rattle.cov_cut.specs.Outlining.{Braced, body}
use Rattle.cov_cut.specs.Layers.{block_layer}
use Rattle.cov_cut.specs.Units.{cut_in, is_cut}
use Rattle.cov_cut.specs.Placement.{AreLists, IsFunc, AreFuncs, IsPlaced}
use Rattle.cov_cut.proofs.Opened.{block_is}
use Rattle.cov_cut.proofs.Placed.{Each, each_all}
use Rattle.cov_cut.proofs.Spread.{Spread, spread_le, halves, opened, passed}
use Rattle.cov_cut.proofs.BlockSpans.{block_in, body_lists}
use Rattle.cov_cut.proofs.TokenSpread.{tokens_spread}

-- ---- functions

record FuncPlaced (low high : ℕ) (x : Func) : Type 0 where
  from : low ≤ x.span.start
  some : x.span.start < x.span.end
  upto : x.span.end ≤ high
  is : IsFunc x

-- functions from an offset on that end up to another
record FuncsPlaced (base high : ℕ) (xs : List Func) : Type 0 where
  are : AreFuncs base xs
  ends : Each (λ x. x.span.end ≤ high) xs

cut_first : (b : Bool) (x : Func) (xs : List Func) (base low high top : ℕ) → base ≤ low → high ≤ top → FuncPlaced low high x → ((base' : ℕ) → base' ≤ high → FuncsPlaced base' top xs) → FuncsPlaced base top (cond b (x ∷ []) [] ++ xs)
cut_first true x xs base low high top le up p rest =
    let from : low ≤ x.span.start = p.from in
    let upto : x.span.end ≤ high = p.upto in
    let more = rest x.span.end p.upto in
    record { are = (omega arith, p.is, more.are); ends = (omega arith, more.ends) }
cut_first false x xs base low high top le up p rest =
    let from : low ≤ x.span.start = p.from in
    let some : x.span.start < x.span.end = p.some in
    let upto : x.span.end ≤ high = p.upto in
    rest base (omega arith)

module _ (most : ℕ) where
  decl_in : (h : ℕ) (x : Decl) (w : List Word) → IsDecl source most h x w → (xs : List Func) (base low high top : ℕ) → base ≤ low → high ≤ top → Spread low high w
      → ((base' : ℕ) → base' ≤ high → FuncsPlaced base' top xs) → FuncsPlaced base top (cut_in x ++ xs)
  decl_in h x w (d.constants k i end cs v e specs) xs base low high top le up s rest = rest base (let m = spread_le low high (k ∷ v) s in omega arith)
  decl_in h x w (d.variables k i end vs v e specs) xs base low high top le up s rest = rest base (let m = spread_le low high (k ∷ v) s in omega arith)
  decl_in h x w (d.function k n a b i j m end ps rs block u v z e e' f takes f' gives inner) xs base low high top le up s rest =
      let p = opened t.func_word low high k (n ∷ a ∷ (u ++ b ∷ (v ++ z))) refl e s in
      let q = opened kind.Name k.span.end high n (a ∷ (u ++ b ∷ (v ++ z))) refl e' p.rest in
      let r = opened t.left_parenthesis n.span.end high a (u ++ b ∷ (v ++ z)) refl f q.rest in
      let c = halves u (b ∷ (v ++ z)) a.span.end high r.rest in
      let o = opened t.right_parenthesis c.mid high b (v ++ z) refl f' c.back in
      let g = halves v z b.span.end high o.rest in
      let y = block_in most m block end z inner g.mid high g.back in
      let before : a.span.end ≤ c.mid = spread_le a.span.end c.mid u c.front in
      let between : b.span.end ≤ g.mid = spread_le b.span.end g.mid v g.front in
      let left : g.mid ≤ (block_layer block).left = y.from in
      let wide : (block_layer block).left < (block_layer block).right = y.wide in
      let ends : (block_layer block).right < end = y.ends in
      let lists : AreLists k.span.start end (body (block_layer block) no_list) = body_lists k.span.start g.mid high end end (block_layer block) no_list (omega arith) (omega arith) y tt in
      let x : Func = record { name = name_of n; params = ps; results = rs; body = block; span = record { start = k.span.start; end = end } } in
      cut_first (is_cut x) x xs base low high top le up
      (record { from = p.from; some = omega arith; upto = y.upto; is = subst (λ (l : Braced). AreLists k.span.start end (body l no_list)) (sym (block_is block)) lists }) rest

  decls_in : (h : ℕ) (xs : List Decl) (w : List Word) → IsDecls source most h xs w → (base low top : ℕ) → base ≤ low → Spread low (top + 1) w → FuncsPlaced base top (flat_map cut_in xs)
  decls_in h xs w f.no_decls base low top le s = record { are = tt; ends = tt }
  decls_in h xs w (f.more_decls c i j x ys u v inner e more) base low top le s =
      let p = halves u (c ∷ v) low (top + 1) s in
      let q = passed p.mid (top + 1) c v e p.back in
      let from : p.mid ≤ c.span.start = q.from in
      let upto : c.span.start < top + 1 = q.upto in
      decl_in i x u inner (flat_map cut_in ys) base low p.mid top le (omega arith) p.front (λ base' le'. decls_in j ys v more base' (c.span.start + 1) top (omega arith) q.rest)

-- ---- files

-- what is known of a parsed file
pub record Parsed (text : List ℕ) (file : File) : Type 0 where
  pub placed : IsPlaced file
  pub ends : All (λ x. x.span.end ≤ length text) (flat_map cut_in file.decls)
  pub name : file.«package».at + length file.«package».text ≤ length text

-- the second of some words
second : (text : List ℕ) (tokens : List Token) (k n : Word) (w : List Word) → k ∷ n ∷ w ≡ words_of text tokens → (x : Token) × (n ≡ word_of text x)
second text [] k n w e = absurd cc
second text (x ∷ []) k n w e = absurd cc
second text (x ∷ y ∷ more) k n w e = (y, cc)

word_length : (text : List ℕ) (x : Token) (n : Word) → n ≡ word_of text x → n.span.start ≤ n.span.end → n.span.end ≤ length text → n.span.start + length n.bytes ≡ n.span.end
word_length text x n e le up =
    let same : n.bytes ≡ slice_range text n.span.start n.span.end =
    ap (λ (y : Word). y.bytes) e ∙ ap (λ (y : Word). slice_range text y.span.start y.span.end) (sym e) in
    let l : length n.bytes ≡ length (take (n.span.end - n.span.start) (drop n.span.start text)) = ap length same in
    let k = length-take (n.span.end - n.span.start) (drop n.span.start text) in
    let m = length-drop n.span.start text in
    omega arith

file_in : (most h : ℕ) (text : List ℕ) (tokens : List Token) (file : File) (w : List Word) → IsFile source most h file w → w ≡ words_of text tokens → Spread 0 (length text + 1) w → Parsed text file
file_in most h text tokens file w (f.source_file k n c i is ds u v form e e' e'' group decls) same s =
    let high : ℕ = length text + 1 in
    let p = opened t.package_word 0 high k (n ∷ c ∷ (u ++ v)) refl e s in
    let q = opened kind.Name k.span.end high n (c ∷ (u ++ v)) refl e' p.rest in
    let r = passed n.span.end high c (u ++ v) e'' q.rest in
    let g = halves u v (c.span.start + 1) high r.rest in
    let funcs = decls_in most i ds v decls 0 g.mid (length text) (omega arith) g.back in
    let behind : n.span.end ≤ c.span.start = r.from in
    let before : c.span.start < length text + 1 = r.upto in
    let forward : n.span.start < n.span.end = q.some in
    let x = second text tokens k n (c ∷ (u ++ v)) same in
    let long : n.span.start + length n.bytes ≡ n.span.end = word_length text x.0 n x.1 (omega arith) (omega arith) in
    record { placed = funcs.are; ends = each_all (λ x. x.span.end ≤ length text) (flat_map cut_in ds) funcs.ends; name = omega arith }
file_in most h text tokens file w (f.covered_file k n c i is ds var mode count p u v z form e e' e'' first group decls last) same s = absurd cc

pub parsed : (most depth : ℕ) (text : List ℕ) (tokens : List Token) (file : File) → HasTokens text tokens → SpellsWithin source most depth file (words_of text tokens) → Parsed text file
parsed most depth text tokens file has spells = file_in most spells.0 text tokens file (words_of text tokens) spells.1 refl (tokens_spread text tokens has)
