-- The offset of a fault of lexing is at most the length of its text.
use Rattle.std.proofs.Common.{ℕ, ◌-◌, ◌≤◌, List, length, drop, inl, inr, ap, ◌∙◌, arith, length-append}
use Rattle.std.proofs.lemmas.List.{length-take, length-drop}
use Rattle.std.specs.Str.{encode_utf8_all}
use Rattle.go_ast.specs.declared.token.PieceForm.{PieceForm}
use Rattle.go_ast.specs.declared.token.PieceForm.TheVariants as form
use Rattle.go_ast.specs.declared.kind.LexKind.{LexKind}
use Rattle.go_ast.specs.Literals.{inner, IsBadEscape}
use Rattle.go_ast.specs.Faults.{HasFault, IsFlaw, IsBreak}

bad_escape_some : (quote : ℕ) (bytes : List ℕ) → IsBadEscape quote bytes → 1 ≤ length bytes
bad_escape_some quote bytes h = let e = ap length h.slash.1 in omega arith

inner_less : (bytes : List ℕ) → length (inner bytes) ≤ length bytes
inner_less bytes = let t = length-take (length bytes - 2) (drop 1 bytes) in let d = length-drop 1 bytes in omega arith

flaw_within : (f : PieceForm) (bytes : List ℕ) (at : ℕ) (kind : LexKind) → IsFlaw f bytes at kind → at ≤ length bytes
flaw_within form.Opening bytes at kind h = let e = h.0 in omega arith
flaw_within form.Number bytes at kind h = let e = h.0 in omega arith
flaw_within form.Rune bytes at kind (inl h) = let e = h.0 in omega arith
flaw_within form.Rune bytes at kind (inr h) = let e = h.0 in let some = bad_escape_some 39 (inner bytes) h.2 in let less = inner_less bytes in omega arith
flaw_within form.Quoted bytes at kind h = let e = h.1.4 in let some = bad_escape_some 34 h.1.1 h.1.3 in let less = inner_less bytes in omega arith
flaw_within form.Blank bytes at kind h = absurd h
flaw_within form.Line bytes at kind h = absurd h
flaw_within form.Word bytes at kind h = absurd h
flaw_within form.Raw bytes at kind h = absurd h
flaw_within (form.Operator place) bytes at kind h = absurd h

break_within : (rest : List ℕ) (at : ℕ) (kind : LexKind) → IsBreak rest at kind → at ≤ length rest
break_within rest at kind (inl h) = let e = h.1 in omega arith
break_within rest at kind (inr h) =
    let w = flaw_within h.0 h.1 at kind h.5 in
    let l = ap length h.3 ∙ length-append h.1 h.2 in
    omega arith

pub has_within : (text : List ℕ) (at : ℕ) (kind : LexKind) → HasFault text at kind → at ≤ length text
has_within text at kind (inl h) =
    let e = h.4 in
    let l = ap length h.3 ∙ length-append (encode_utf8_all h.0) h.1 in
    omega arith
has_within text at kind (inr h) =
    let w = break_within h.1 h.2 kind h.4 in
    let e = h.5 in
    omega arith
