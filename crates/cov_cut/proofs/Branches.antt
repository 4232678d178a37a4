-- The `if`s behind `else`, one part of a tree after another.
use Rattle.std.proofs.Common.{◌≡◌, ℕ, List, [], ◌∷◌, ◌++◌, Result, Ok, Err, refl, sym, ap, ◌∙◌, append_assoc, Bool, true, false, length, get_or, drop, ◌+◌, ◌<◌}
use Rattle.std.specs.Prelude.{OnOk}
use Rattle.std.proofs.lemmas.Grind.{flat_map-append}
use Rattle.std.proofs.lemmas.List.{append-nil}
use Rattle.std.specs.declared.alloc.AllocError.{AllocError}
use Rattle.go_ast.specs.declared.span.Span.{Span}
use Rattle.go_ast.specs.declared.block.Stmt.{Stmt}
use Rattle.go_ast.specs.declared.block.Block.{out-Block}
use Rattle.go_ast.specs.declared.block.Other.{Other, out-Other}
use Rattle.cov_cut.specs.Outline.{braces, Lists, no_list, next_list, Listing, heads, lists_among, lists_behind, lists_along}
use Rattle.cov_cut.specs.Outlining.{Clause, body, clause_lists, other_kind}
use Rattle.cov_cut.specs.Layers.{outlines, block_layer, other_layer}
use Rattle.cov_cut.specs.Counted.{else_if_span, else_ifs_in}
use Rattle.std.specs.List.{flat_map}
use Rattle.go_ast.specs.declared.decl.Decl.{Decl}
use Rattle.go_ast.specs.declared.decl.Decl.TheVariants as decl
use Rattle.go_ast.specs.declared.decl.Func.{Func}
use Rattle.cov_cut.specs.Units.{func_lists, cut_in, is_cut}
use Rattle.cov_cut.proofs.Walks.{drop_at, func_lists_are}
use Rattle.cov_cut.proofs.Files.{func_cut}

pub found_both : (xs ys : List Listing) → else_ifs_in (xs ++ ys) ≡ else_ifs_in xs ++ else_ifs_in ys
found_both xs ys = flat_map-append (λ l. else_if_span l.kind) xs ys

-- two parts, appended one after the other
pub appended_spans : (r : Result (Unit {0}) AllocError) (old middle new first rest total : List Span)
    → middle ≡ old ++ first → OnOk r (new ≡ middle ++ rest) → total ≡ first ++ rest → OnOk r (new ≡ old ++ total)
appended_spans (Ok u) old middle new first rest total f g e = g ∙ ap (λ l. l ++ rest) f ∙ append_assoc old first rest ∙ ap (λ l. old ++ l) (sym e)
appended_spans (Err u) old middle new first rest total f g e = tt

-- what is appended, by another name
pub renamed : (r : Result (Unit {0}) AllocError) (old new some same : List Span) → some ≡ same → OnOk r (new ≡ old ++ some) → OnOk r (new ≡ old ++ same)
renamed (Ok u) old new some same e f = f ∙ ap (λ l. old ++ l) e
renamed (Err u) old new some same e f = tt

module _ {A : Type 0} (all : List A → List Listing) (one : A → List Listing) (cons : (x : A) (xs : List A) → all (x ∷ xs) ≡ one x ++ all xs) where
  pub found_step : (xs : List A) (i : ℕ) (x : A) (old new done : List Span) → i < length xs → x ≡ get_or xs i x
      → old ++ else_ifs_in (all (drop i xs)) ≡ done → new ≡ old ++ else_ifs_in (one x) → new ++ else_ifs_in (all (drop (i + 1) xs)) ≡ done
  found_step xs i x old new done h e before step =
      ap (λ l. l ++ else_ifs_in (all (drop (i + 1) xs))) step
      ∙ append_assoc old (else_ifs_in (one x)) (else_ifs_in (all (drop (i + 1) xs)))
      ∙ ap (λ l. old ++ l) (sym (ap else_ifs_in (ap all (drop_at xs i x h e) ∙ cons x (drop (i + 1) xs)) ∙ found_both (one x) (all (drop (i + 1) xs))))
      ∙ before

-- a list between braces has those of its statements
pub found_braces : (left right : ℕ) (list : List Stmt) (more : Lists)
    → else_ifs_in (lists_along (next_list (braces left right) (outlines list) more)) ≡ else_ifs_in (lists_among (outlines list)) ++ else_ifs_in (lists_along more)
found_braces left right list more = found_both (lists_among (outlines list)) (lists_along more)

pub found_block : (left right : ℕ) (list : List Stmt) → else_ifs_in (lists_along (next_list (braces left right) (outlines list) no_list)) ≡ else_ifs_in (lists_among (outlines list))
found_block left right list = ap else_ifs_in (append-nil (lists_among (outlines list)))

abbrev after_list : Bool → Other → List Span
after_list true o = record { start = (out-Other o).after; end = (out-Block (out-Other o).block).right } ∷ []
after_list false o = []

by_hidden : (h : Bool) (o : Other) → else_if_span (other_kind (out-Other o).after (block_layer (out-Other o).block) h) ≡ after_list h o
by_hidden true o = refl
by_hidden false o = refl

-- what follows an `else`: itself if it is an `if`, and those of its statements
pub found_other : (o : Other) (h : Bool) → (out-Block (out-Other o).block).hidden ≡ h
    → else_ifs_in (lists_along (other_layer o)) ≡ after_list h o ++ else_ifs_in (lists_among (outlines (out-Block (out-Other o).block).list))
found_other o h e =
    ap (λ l. else_if_span (other_kind (out-Other o).after (block_layer (out-Other o).block) (out-Block (out-Other o).block).hidden) ++ else_ifs_in l) (append-nil (lists_among (outlines (out-Block (out-Other o).block).list)))
    ∙ ap (λ b. else_if_span (other_kind (out-Other o).after (block_layer (out-Other o).block) b) ++ else_ifs_in (lists_among (outlines (out-Block (out-Other o).block).list))) e
    ∙ ap (λ l. l ++ else_ifs_in (lists_among (outlines (out-Block (out-Other o).block).list))) (by_hidden h o)

-- the places of clauses are none
pub found_heads : (cs : List Clause) → else_ifs_in (heads (clause_lists cs)) ≡ []
found_heads [] = refl
found_heads (c ∷ cs) = found_heads cs

pub found_together : (cs : List Clause) → else_ifs_in (lists_behind (clause_lists cs)) ≡ else_ifs_in (heads (clause_lists cs) ++ lists_behind (clause_lists cs))
found_together cs =
    sym (found_both (heads (clause_lists cs)) (lists_behind (clause_lists cs)) ∙ ap (λ l. l ++ else_ifs_in (lists_behind (clause_lists cs))) (found_heads cs))

-- a function that is cut
pub found_func : (d : Decl) (f : Func) (b : Bool) → d ≡ decl.Func f → b ≡ is_cut f → b ≡ true
    → else_ifs_in (lists_along (body (block_layer f.body) no_list)) ≡ else_ifs_in (flat_map func_lists (cut_in d))
found_func d f b e g h =
    ap else_ifs_in (sym (func_lists_are f) ∙ sym (append-nil (func_lists f))) ∙ ap (λ fs. else_ifs_in (flat_map func_lists fs)) (sym (func_cut d f b e g h))
