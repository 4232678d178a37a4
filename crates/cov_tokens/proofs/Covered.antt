-- The tokens of a covered text.
use Rattle.std.proofs.Common.{◌≡◌, ℕ, ◌+◌, ◌<◌, ◌^◌, Bool, false, List, [], ◌∷◌, ◌++◌, length, None, refl, sym, ap, subst, ◌∙◌, arith, append_assoc}
use Rattle.std.specs.Prelude.{codes, map}
use Rattle.std.specs.List.{list_any, enumerate_from}
use Rattle.std.proofs.lemmas.List.{append-nil}
use Rattle.std.proofs.lemmas.List.Elements.{All-nil, All-cons, All-append}
use Rattle.go_ast.specs.declared.token.PieceForm.TheVariants as form
use Rattle.go_ast.specs.declared.token.Token.{Token}
use Rattle.go_ast.specs.declared.span.Span.{Span}
use Rattle.go_ast.specs.declared.name.Name.{Name}
use Rattle.go_ast.specs.declared.file.File.{File}
use Rattle.go_ast.specs.Places.{is_newline}
use Rattle.go_ast.specs.Tokens.{tokens_from, HasTokens}
use Rattle.go_ast.specs.Pieces.{Piece, Divides}
use Rattle.cov_outside.specs.declared.mode.Mode.{Mode}
use Rattle.cov_outside.specs.declared.mode.Mode.TheVariants as mode
use Rattle.cov_cut.specs.declared.unit.Unit.{Unit as CutUnit}
use Rattle.cov_cut.specs.Counted.{all_units, else_ifs_of}
use Rattle.cov_rewrite.specs.declared.piece.Piece.{Piece as Put}
use Rattle.cov_rewrite.specs.declared.piece.Addition.TheVariants as addition
use Rattle.cov_rewrite.specs.Additions.{name_end, imports, left_braces, right_braces, counters, numbered_counter, pieces}
use Rattle.cov_rewrite.specs.Weaving.{woven}
use Rattle.cov_rewrite.specs.Trailer.{trailer}
use Rattle.cov_rewrite.specs.Covered.{line_directive, covered}
use Rattle.cov_tokens.specs.Spellings.{Spelling, HasSpellings}
use Rattle.cov_tokens.specs.Tables.{trailer_spellings}
use Rattle.cov_tokens.specs.Covering.{covered_spellings}
use Rattle.cov_tokens.specs.Places.{AreInPlaces, IsIdentifier, IsOneLine, IsSmall, AreSmall}
use Rattle.cov_tokens.proofs.Basics.{either}
use Rattle.cov_tokens.proofs.Spelling.{flat, semicolon, spelled_in, pending_in, spelled_all, spelled_all_append, tokens_spelled}
use Rattle.cov_tokens.proofs.Walk.{Runs, line, divides_flat, divides_join}
use Rattle.cov_tokens.proofs.Chains.{piece, plain_characters, join_characters}
use Rattle.cov_tokens.proofs.Woven.{Covers, woven_covers}
use Rattle.cov_tokens.proofs.Trailers.{IsTrailer, the_trailer, comment_runs}

-- ---- the numbers of units

abbrev Small : Put → Type 0
Small p = IsSmall p.addition

imports_small : (m : Mode) (name : Name) → AreSmall (imports m name)
imports_small mode.Set name = All-nil Small
imports_small mode.Count name = All-nil Small
imports_small mode.Atomic name = All-cons Small (record { at = name_end name; addition = addition.Import }) [] tt (All-nil Small)

rights_small : (spans : List Span) → AreSmall (right_braces spans)
rights_small [] = All-nil Small
rights_small (s ∷ ss) = All-cons Small (record { at = s.end; addition = addition.RightBrace }) (right_braces ss) tt (rights_small ss)

lefts_small : (spans : List Span) → AreSmall (left_braces spans)
lefts_small [] = All-nil Small
lefts_small (s ∷ ss) = All-cons Small (record { at = s.start; addition = addition.LeftBrace }) (left_braces ss) tt (lefts_small ss)

counters_small : (k : ℕ) (units : List CutUnit) → k + length units < 2 ^ 64 → AreSmall (map numbered_counter (enumerate_from k units))
counters_small k [] lt = All-nil Small
counters_small k (u ∷ us) lt = All-cons Small (numbered_counter (k, u)) (map numbered_counter (enumerate_from (k + 1) us)) (omega arith) (counters_small (k + 1) us (omega arith))

all_small : (m : Mode) (file : File) → length (all_units file) < 2 ^ 64 → AreSmall (pieces m file)
all_small m file lt =
    All-append Small ((imports m file.«package» ++ right_braces (else_ifs_of file)) ++ left_braces (else_ifs_of file)) (counters (all_units file))
    (All-append Small (imports m file.«package» ++ right_braces (else_ifs_of file)) (left_braces (else_ifs_of file))
    (All-append Small (imports m file.«package») (right_braces (else_ifs_of file)) (imports_small m file.«package») (rights_small (else_ifs_of file))) (lefts_small (else_ifs_of file)))
    (counters_small 0 (all_units file) (omega arith))

-- ---- the first line

any_join : (p : ℕ → Bool) (v w : List ℕ) → list_any p v ≡ false → list_any p w ≡ false → list_any p (v ++ w) ≡ false
any_join p [] w e f = f
any_join p (x ∷ v) w e f = let two = either (p x) (list_any p v) e in rw two.0 (any_join p v w two.1 f)

abbrev directive_pieces : List ℕ → List Piece
directive_pieces name = piece form.Blank (47 ∷ 47 ∷ (codes "line " ++ (name ++ codes ":1:1"))) ∷ piece form.Line (10 ∷ []) ∷ []

directive_flat : (name : List ℕ) → flat (directive_pieces name) ≡ line_directive name
directive_flat name = ap (λ (x : List ℕ). codes "//line " ++ x) (append_assoc name (codes ":1:1") (codes "\n"))

directive_runs : (name : List ℕ) → IsOneLine name → Runs (directive_pieces name)
directive_runs name is =
    comment_runs (codes "line " ++ (name ++ codes ":1:1"))
    (join_characters (codes "line ") (name ++ codes ":1:1") (plain_characters (codes "line ") refl) (join_characters name (codes ":1:1") is.0 (plain_characters (codes ":1:1") refl)))
    (any_join is_newline name (codes ":1:1") is.1 refl)

-- ---- the whole

pub covered_spelled : (text name var : List ℕ) (m : Mode) (file : File) (tokens : List Token) → IsIdentifier var → IsOneLine name → length text < 2 ^ 63 → length (all_units file) < 2 ^ 64 → HasTokens text tokens → AreInPlaces tokens (pieces m file)
    → HasSpellings (covered text file name var m) (covered_spellings text tokens file var m)
covered_spelled text name var m file tokens is one short few has placed =
    (tokens_from 0 None (d ++ (c.pieces ++ t.pieces)), (d ++ (c.pieces ++ t.pieces), divides, refl), tokens_spelled (d ++ (c.pieces ++ t.pieces)) (covered text file name var m) [] 0 None whole_flat refl ∙ words)
  where
    d : List Piece
    d = directive_pieces name

    t : IsTrailer var text m (all_units file)
    t = the_trailer var text m (all_units file) is short few

    c : Covers var is m (pieces m file) text tokens (trailer text var m (all_units file))
    c = woven_covers var is m (pieces m file) text tokens (trailer text var m (all_units file)) (line t.begins.0 t.begins.1) has placed (all_small m file few)

    last : Divides (trailer text var m (all_units file)) t.pieces []
    last = subst (λ (x : List ℕ). Divides x t.pieces []) (append-nil (flat t.pieces) ∙ t.flat_is) (t.runs [])

    behind : Divides (woven var m (pieces m file) text ++ trailer text var m (all_units file)) (c.pieces ++ t.pieces) []
    behind = divides_join c.pieces t.pieces (woven var m (pieces m file) text ++ trailer text var m (all_units file)) (trailer text var m (all_units file)) [] c.divides last

    bytes : flat (directive_pieces name) ++ (woven var m (pieces m file) text ++ trailer text var m (all_units file)) ≡ covered text file name var m
    bytes =
        ap (λ (x : List ℕ). x ++ (woven var m (pieces m file) text ++ trailer text var m (all_units file))) (directive_flat name)
        ∙ sym (append_assoc (line_directive name) (woven var m (pieces m file) text) (trailer text var m (all_units file)))

    divides : Divides (covered text file name var m) (directive_pieces name ++ (c.pieces ++ t.pieces)) []
    divides =
        subst (λ (x : List ℕ). Divides x (directive_pieces name ++ (c.pieces ++ t.pieces)) []) bytes
        (divides_join (directive_pieces name) (c.pieces ++ t.pieces) (flat (directive_pieces name) ++ (woven var m (pieces m file) text ++ trailer text var m (all_units file))) (woven var m (pieces m file) text ++ trailer text var m (all_units file)) [] (directive_runs name one (woven var m (pieces m file) text ++ trailer text var m (all_units file))) behind)

    whole_flat : covered text file name var m ≡ flat (directive_pieces name ++ (c.pieces ++ t.pieces))
    whole_flat = divides_flat (directive_pieces name ++ (c.pieces ++ t.pieces)) (covered text file name var m) [] divides ∙ append-nil (flat (directive_pieces name ++ (c.pieces ++ t.pieces)))

    trailer_words : (b : Bool) → spelled_all b t.pieces ≡ semicolon b ++ trailer_spellings text var m (all_units file)
    trailer_words b =
        ap (λ (x : List Spelling). x ++ semicolon (pending_in b t.pieces)) (t.spelled_is b)
        ∙ ap (λ (x : Bool). (semicolon b ++ trailer_spellings text var m (all_units file)) ++ semicolon x) (t.pending_is b)
        ∙ append-nil (semicolon b ++ trailer_spellings text var m (all_units file))

    words : spelled_all false (directive_pieces name ++ (c.pieces ++ t.pieces)) ≡ covered_spellings text tokens file var m
    words =
        spelled_all_append false c.pieces t.pieces ∙ ap (λ (x : List Spelling). spelled_in false c.pieces ++ x) (trailer_words (pending_in false c.pieces))
        ∙ sym (append_assoc (spelled_in false c.pieces) (semicolon (pending_in false c.pieces)) (trailer_spellings text var m (all_units file)))
        ∙ ap (λ (x : List Spelling). x ++ trailer_spellings text var m (all_units file)) c.spelled
