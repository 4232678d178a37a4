-- The pieces of a tree that stands in a text.
use Rattle.std.proofs.Common.{◌≡◌, ℕ, ◌+◌, ◌≤◌, List, [], ◌∷◌, ◌++◌, sym, subst, ap₂, length, map}
use Rattle.std.specs.Prelude.{All}
use Rattle.std.specs.List.{enumerate_from}
use Rattle.std.proofs.lemmas.List.Elements.{All-nil, All-cons, All-append, All-map, All-head, All-tail}
use Rattle.go_ast.specs.declared.span.Span.{Span}
use Rattle.go_ast.specs.declared.name.Name.{Name}
use Rattle.go_ast.specs.declared.file.File.{File}
use Rattle.cov_outside.specs.declared.mode.Mode.{Mode}
use Rattle.cov_outside.specs.declared.mode.Mode.TheVariants as mode
use Rattle.cov_cut.specs.declared.unit.Unit.{Unit as CutUnit}
use Rattle.cov_cut.specs.Counted.{all_units, else_ifs_of}
use Rattle.cov_rewrite.specs.declared.piece.Piece.{Piece}
use Rattle.cov_rewrite.specs.declared.piece.Addition.TheVariants as addition
use Rattle.cov_rewrite.specs.Additions.{name_end, imports, left_braces, right_braces, numbered_counter, counters, pieces}
use Rattle.cov_rewrite.specs.Covered.{StandsIn}

abbrev pub UpTo : ℕ → Piece → Type 0
UpTo high p = p.at ≤ high

import_within : (m : Mode) (name : Name) (high : ℕ) → name_end name ≤ high → All (UpTo high) (imports m name)
import_within mode.Set name high le = All-nil (UpTo high)
import_within mode.Count name high le = All-nil (UpTo high)
import_within mode.Atomic name high le = All-cons (UpTo high) (record { at = name_end name; addition = addition.Import }) [] le (All-nil (UpTo high))

numbered_within : (n : ℕ) (us : List CutUnit) (high : ℕ) → All (λ u. u.insert ≤ high) us → All (UpTo high) (map numbered_counter (enumerate_from n us))
numbered_within n [] high h = All-nil (UpTo high)
numbered_within n (u ∷ us) high h =
    All-cons (UpTo high) (numbered_counter (n, u)) (map numbered_counter (enumerate_from (n + 1) us)) (All-head (λ v. v.insert ≤ high) u us h)
    (numbered_within (n + 1) us high (All-tail (λ v. v.insert ≤ high) u us h))

pub pieces_within : (m : Mode) (text : List ℕ) (file : File) → StandsIn text file → All (UpTo (length text)) (pieces m file)
pieces_within m text file stands =
    let high : ℕ = length text in
    let es : List Span = else_ifs_of file in
    let us : List CutUnit = all_units file in
    let ends : All (UpTo high) (right_braces es) = All-map (UpTo high) (λ s. record { at = s.end; addition = addition.RightBrace }) es (λ k d lt. (stands.else_ifs k d lt).1) in
    let starts : All (UpTo high) (left_braces es) = All-map (UpTo high) (λ s. record { at = s.start; addition = addition.LeftBrace }) es (λ k d lt. (stands.else_ifs k d lt).0) in
    All-append (UpTo high) (imports m file.«package» ++ right_braces es ++ left_braces es) (counters us)
    (All-append (UpTo high) (imports m file.«package» ++ right_braces es) (left_braces es)
    (All-append (UpTo high) (imports m file.«package») (right_braces es) (import_within m file.«package» high stands.name) ends) starts)
    (numbered_within 0 us high (λ k d lt. (stands.units k d lt).2))

-- by the lists that a program has found
pub pieces_are : (m : Mode) (file : File) (es : List Span) (us : List CutUnit) → es ≡ else_ifs_of file → us ≡ all_units file
    → imports m file.«package» ++ right_braces es ++ left_braces es ++ counters us ≡ pieces m file
pieces_are m file es us e f =
    ap₂ (λ (x : List Span) (y : List CutUnit). imports m file.«package» ++ right_braces x ++ left_braces x ++ counters y) e f

pub units_within : (text : List ℕ) (file : File) (us : List CutUnit) → us ≡ all_units file → StandsIn text file → All (λ u. (u.start ≤ length text) × (u.end ≤ length text)) us
units_within text file us e stands =
    let Q : CutUnit → Type 0 = λ u. (u.start ≤ length text) × (u.end ≤ length text) in
    subst (All Q) (sym e) (λ k d lt. let h = stands.units k d lt in (h.0, h.1))
