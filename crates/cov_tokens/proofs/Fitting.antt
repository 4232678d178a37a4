-- What is put in fits the grammar of covered texts.
use Rattle.std.proofs.Common.{◌≡◌, ℕ, ◌+◌, List, [], ◌∷◌, ◌++◌, length, refl, sym, subst, append_assoc}
use Rattle.std.specs.Prelude.{codes, decimal}
use Rattle.std.specs.List.{flat_map, enumerate_from}
use Rattle.std.specs.Fmt.{digits}
use Rattle.go_grammar.specs.Words.{Word}
use Rattle.go_grammar.specs.Patterns.{Pattern, any, IsSpelled, AllFit}
use Rattle.go_grammar.specs.Terminals as t
use Rattle.go_grammar.specs.Covering as covering
use Rattle.go_grammar.specs.Covering.{repeated}
use Rattle.cov_outside.specs.declared.mode.Mode.{Mode}
use Rattle.cov_outside.specs.declared.mode.Mode.TheVariants as mode
use Rattle.cov_cut.specs.declared.unit.Unit.{Unit as CutUnit}
use Rattle.cov_rewrite.specs.declared.piece.Addition.TheVariants as addition
use Rattle.cov_tokens.specs.Spellings.{Spelling, spelled, line_end}
use Rattle.cov_tokens.specs.Counters.{addition_spellings, atomic_import}
use Rattle.cov_tokens.specs.Tables.{statements_spellings, use_spellings, unit_place_spellings, unit_statements_spellings, trailer_spellings}
use Rattle.cov_tokens.specs.Grammar.{form_of, spellings_in}

-- a pattern and a word without its place
abbrev FitsOne : Pattern → Spelling → Type 0
FitsOne p s = (s.kind ≡ p.kind) × IsSpelled p.bytes s.bytes

abbrev pub FitAll : List Pattern → List Spelling → Type 0
FitAll [] [] = Unit {0}
FitAll [] (s ∷ ss) = ⊥
FitAll (p ∷ ps) [] = ⊥
FitAll (p ∷ ps) (s ∷ ss) = FitsOne p s × FitAll ps ss

pub fit_words : (ps : List Pattern) (ws : List Word) → FitAll ps (spellings_in ws) → AllFit ps ws
fit_words [] [] f = tt
fit_words [] (w ∷ ws) f = f
fit_words (p ∷ ps) [] f = f
fit_words (p ∷ ps) (w ∷ ws) f = (f.0, fit_words ps ws f.1)

fit_two : (ps qs : List Pattern) (ss ts : List Spelling) → FitAll ps ss → FitAll qs ts → FitAll (ps ++ qs) (ss ++ ts)
fit_two [] qs [] ts f h = h
fit_two [] qs (s ∷ ss) ts f h = absurd f
fit_two (p ∷ ps) qs [] ts f h = absurd f
fit_two (p ∷ ps) qs (s ∷ ss) ts f h = (f.0, fit_two ps qs ss ts f.1 h)

one_is : codes "1" ≡ decimal 1
unfolding digits
one_is = refl

three_is : codes "3" ≡ decimal 3
unfolding digits
three_is = refl

-- ---- the counters and the import

pub counter_fits : (var : List ℕ) (m : Mode) (i : ℕ) → FitAll (covering.counter var (form_of m) i ++ any t.semicolon ∷ []) (addition_spellings var m (addition.Counter i))
counter_fits var mode.Set i = ((refl, refl), ((refl, tt), ((refl, refl), ((refl, tt), ((refl, refl), ((refl, tt), ((refl, tt), ((refl, one_is), ((refl, tt), tt)))))))))
counter_fits var mode.Count i = ((refl, refl), ((refl, tt), ((refl, refl), ((refl, tt), ((refl, refl), ((refl, tt), ((refl, tt), ((refl, tt), tt))))))))
counter_fits var mode.Atomic i = ((refl, refl), ((refl, tt), ((refl, refl), ((refl, tt), ((refl, tt), ((refl, refl), ((refl, tt), ((refl, refl), ((refl, tt), ((refl, refl), ((refl, tt), ((refl, tt), ((refl, one_is), ((refl, tt), ((refl, tt), tt)))))))))))))))

-- with the semicolon behind the package's name
pub import_fits : (end : Spelling) → end.kind ≡ t.semicolon → FitAll (any t.semicolon ∷ covering.atomic_import (form_of mode.Atomic)) (atomic_import ++ end ∷ [])
import_fits end e = ((refl, tt), ((refl, tt), ((refl, refl), ((refl, refl), ((e, tt), tt)))))

-- ---- the trailer

place_fits : (text : List ℕ) (i : ℕ) (u : CutUnit) → FitAll (covering.entry ++ (covering.entry ++ covering.entry)) (unit_place_spellings text (i, u))
place_fits text i u = ((refl, tt), ((refl, tt), ((refl, tt), ((refl, tt), ((refl, tt), ((refl, tt), tt))))))

count_fits : (i : ℕ) (u : CutUnit) → FitAll covering.entry (unit_statements_spellings (i, u))
count_fits i u = ((refl, tt), ((refl, tt), tt))

places_fit : (text : List ℕ) (k : ℕ) (units : List CutUnit) → FitAll (repeated (length units) (covering.entry ++ (covering.entry ++ covering.entry))) (flat_map (unit_place_spellings text) (enumerate_from k units))
places_fit text k [] = tt
places_fit text k (u ∷ us) = fit_two (covering.entry ++ (covering.entry ++ covering.entry)) (repeated (length us) (covering.entry ++ (covering.entry ++ covering.entry))) (unit_place_spellings text (k, u)) (flat_map (unit_place_spellings text) (enumerate_from (k + 1) us)) (place_fits text k u) (places_fit text (k + 1) us)

counts_fit : (k : ℕ) (units : List CutUnit) → FitAll (repeated (length units) covering.entry) (flat_map unit_statements_spellings (enumerate_from k units))
counts_fit k [] = tt
counts_fit k (u ∷ us) = fit_two covering.entry (repeated (length us) covering.entry) (unit_statements_spellings (k, u)) (flat_map unit_statements_spellings (enumerate_from (k + 1) us)) (count_fits k u) (counts_fit (k + 1) us)

use_fits : (m : Mode) → FitAll (covering.atomic_use (form_of m)) (use_spellings m)
use_fits mode.Set = tt
use_fits mode.Count = tt
use_fits mode.Atomic = ((refl, tt), ((refl, refl), ((refl, tt), ((refl, refl), ((refl, tt), ((refl, refl), ((refl, tt), tt)))))))

-- lists in the middle
fit_middle : (ps xs us : List Pattern) (ss ys vs : List Spelling) → FitAll ps ss → FitAll (xs ++ us) (ys ++ vs) → FitAll ((ps ++ xs) ++ us) ((ss ++ ys) ++ vs)
fit_middle ps xs us ss ys vs f h =
    subst (λ (x : List Pattern). FitAll x ((ss ++ ys) ++ vs)) (sym (append_assoc ps xs us))
    (subst (FitAll (ps ++ (xs ++ us))) (sym (append_assoc ss ys vs)) (fit_two ps (xs ++ us) ss (ys ++ vs) f h))

abbrev table_end : List Pattern
table_end = any t.right_brace ∷ any t.comma ∷ any t.right_brace ∷ any t.semicolon ∷ []

counts_behind : (m : Mode) (units : List CutUnit)
    → FitAll ((repeated (length units) covering.entry ++ table_end) ++ covering.atomic_use (form_of m))
    ((flat_map unit_statements_spellings (enumerate_from 0 units) ++ spelled t.right_brace (codes "}") ∷ spelled t.comma (codes ",") ∷ spelled t.right_brace (codes "}") ∷ line_end ∷ []) ++ use_spellings m)
counts_behind m units =
    fit_middle (repeated (length units) covering.entry) table_end (covering.atomic_use (form_of m)) (flat_map unit_statements_spellings (enumerate_from 0 units))
    (spelled t.right_brace (codes "}") ∷ spelled t.comma (codes ",") ∷ spelled t.right_brace (codes "}") ∷ line_end ∷ []) (use_spellings m) (counts_fit 0 units) ((refl, tt), ((refl, tt), ((refl, tt), ((refl, tt), use_fits m))))

abbrev counts_table : ℕ → List Pattern
counts_table n =
    any t.right_brace ∷ any t.comma ∷ covering.name (codes "NumStmt") ∷ any t.colon ∷ (covering.array n (codes "uint16") ++ any t.left_brace ∷ (repeated n covering.entry ++ table_end))

places_behind : (text : List ℕ) (m : Mode) (units : List CutUnit)
    → FitAll ((repeated (length units) (covering.entry ++ (covering.entry ++ covering.entry)) ++ counts_table (length units)) ++ covering.atomic_use (form_of m))
    ((flat_map (unit_place_spellings text) (enumerate_from 0 units) ++ spelled t.right_brace (codes "}") ∷ spelled t.comma (codes ",") ∷ []) ++ (statements_spellings units ++ use_spellings m))
places_behind text m units =
    fit_middle (repeated (length units) (covering.entry ++ (covering.entry ++ covering.entry))) (counts_table (length units)) (covering.atomic_use (form_of m)) (flat_map (unit_place_spellings text) (enumerate_from 0 units))
    (spelled t.right_brace (codes "}") ∷ spelled t.comma (codes ",") ∷ []) (statements_spellings units ++ use_spellings m) (places_fit text 0 units)
    ((refl, tt), ((refl, tt), ((refl, refl), ((refl, tt), ((refl, tt), ((refl, refl), ((refl, tt), ((refl, refl), ((refl, tt), counts_behind m units)))))))))

pub trailer_fits : (var text : List ℕ) (m : Mode) (units : List CutUnit) → FitAll (covering.trailer var (form_of m) (length units)) (trailer_spellings text var m units)
trailer_fits var text m units =
    ((refl, tt), ((refl, refl), ((refl, tt), ((refl, tt), ((refl, tt), ((refl, refl), ((refl, tt), ((refl, refl), ((refl, tt), ((refl, refl), ((refl, tt), ((refl, refl), ((refl, tt), ((refl, three_is), ((refl, tt), ((refl, refl), ((refl, tt), ((refl, refl), ((refl, tt), ((refl, refl), ((refl, tt), ((refl, refl), ((refl, tt), ((refl, refl), ((refl, tt), ((refl, tt), ((refl, tt), ((refl, refl), ((refl, tt), ((refl, tt), ((refl, three_is), ((refl, tt), ((refl, refl), ((refl, tt), ((refl, refl), ((refl, tt), places_behind text m units))))))))))))))))))))))))))))))))))))
