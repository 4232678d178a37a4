-- The offset of a fault is at most the length of its text.
use Rattle.std.proofs.Common.{ℕ, zero, suc, ◌-◌, ◌≤◌, List, [], ◌∷◌, length, drop, inl, inr, ap, ◌∙◌, arith, length-append}
use Rattle.std.proofs.lemmas.List.{length-take, length-drop}
use Rattle.std.specs.Str.{encode_utf8_all}
use Rattle.go_ast.specs.declared.token.Token.{Token}
use Rattle.go_ast.specs.declared.token.PieceForm.{PieceForm}
use Rattle.go_ast.specs.declared.token.PieceForm.TheVariants as form
use Rattle.go_ast.specs.declared.kind.LexKind.{LexKind}
use Rattle.go_ast.specs.Tokens.{HasTokens}
use Rattle.go_ast.specs.Literals.{inner, IsBadEscape}
use Rattle.go_ast.specs.Faults.{HasFault, IsFlaw, IsBreak}
use Rattle.go_parse.specs.declared.fault.SourceFault.{SourceFault}
use Rattle.go_parse.specs.declared.fault.SourceFault.TheVariants as fault
use Rattle.go_parse.specs.declared.fault.WhichSource.TheVariants as limit
use Rattle.go_parse.specs.Placed.{ArePlaced}
use Rattle.go_parse.specs.Answers.{offset_at, IsFaultOf, IsLexFault, Fails, IsWithin}
use Rattle.go_parse.proofs.Placing.{tokens_placed}

-- ---- tokens

offset_within : (text : List ℕ) (tokens : List Token) (i : ℕ) → ArePlaced text tokens → offset_at text tokens i ≤ length text
offset_within text [] i are = omega arith
offset_within text (t ∷ ts) zero are = let o = are.0.ordered in let w = are.0.within in omega arith
offset_within text (t ∷ ts) (suc i) are = offset_within text ts i are.1

pub fault_within : (text : List ℕ) (tokens : List Token) (e : SourceFault) → HasTokens text tokens → IsFaultOf text tokens e → IsWithin (length text) e
fault_within text tokens (fault.At offset kind) t h = let w = offset_within text tokens h.1.0 (tokens_placed text tokens t) in let e = h.1.2 in omega arith
fault_within text tokens (fault.Limit limit.Depth) t h = tt
fault_within text tokens (fault.Limit limit.SelectClauses) t h = tt
fault_within text tokens fault.NoMemory t h = tt

-- ---- lexical faults

bad_escape_some : (quote : ℕ) (bytes : List ℕ) → IsBadEscape quote bytes → 1 ≤ length bytes
bad_escape_some quote bytes h = let e = ap length h.slash.1 in omega arith

inner_less : (bytes : List ℕ) → length (inner bytes) ≤ length bytes
inner_less bytes = let t = length-take (length bytes - 2) (drop 1 bytes) in let d = length-drop 1 bytes in omega arith

flaw_within : (f : PieceForm) (bytes : List ℕ) (at : ℕ) (kind : LexKind) → IsFlaw f bytes at kind → at ≤ length bytes
flaw_within form.Opening bytes at kind h = let e = h.0 in omega arith
flaw_within form.Number bytes at kind h = let e = h.0 in omega arith
flaw_within form.Rune bytes at kind (inl h) = let e = h.0 in omega arith
flaw_within form.Rune bytes at kind (inr h) = let e = h.0 in let some = bad_escape_some 39 (inner bytes) h.2 in let less = inner_less bytes in omega arith
flaw_within form.Quoted bytes at kind h = let e = h.1.4 in let some = bad_escape_some 34 h.1.1 h.1.3 in let less = inner_less bytes in omega arith
flaw_within form.Blank bytes at kind h = absurd h
flaw_within form.Line bytes at kind h = absurd h
flaw_within form.Word bytes at kind h = absurd h
flaw_within form.Raw bytes at kind h = absurd h
flaw_within (form.Operator place) bytes at kind h = absurd h

break_within : (rest : List ℕ) (at : ℕ) (kind : LexKind) → IsBreak rest at kind → at ≤ length rest
break_within rest at kind (inl h) = let e = h.1 in omega arith
break_within rest at kind (inr h) =
    let w = flaw_within h.0 h.1 at kind h.5 in
    let l = ap length h.3 ∙ length-append h.1 h.2 in
    omega arith

has_within : (text : List ℕ) (at : ℕ) (kind : LexKind) → HasFault text at kind → at ≤ length text
has_within text at kind (inl h) =
    let e = h.4 in
    let l = ap length h.3 ∙ length-append (encode_utf8_all h.0) h.1 in
    omega arith
has_within text at kind (inr h) =
    let w = break_within h.1 h.2 kind h.4 in
    let e = h.5 in
    omega arith

lexical_within : (text : List ℕ) (e : SourceFault) → IsLexFault text e → IsWithin (length text) e
lexical_within text (fault.At offset kind) h = has_within text offset h.0 h.2.has
lexical_within text (fault.Limit which) h = absurd h
lexical_within text fault.NoMemory h = tt

pub fails_within : (text : List ℕ) (e : SourceFault) → Fails text e → IsWithin (length text) e
fails_within text e (inl h) = lexical_within text e h
fails_within text e (inr h) = fault_within text h.0 e h.1 h.2
