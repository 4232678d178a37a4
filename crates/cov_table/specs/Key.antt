-- What a count is kept for: a unit by its package, file, function and places.
use Rattle.std.specs.Prelude.{ℕ, Bool, List, refl}
use Rattle.std.specs.declared.cmp.Ordering.{Ordering}
use Rattle.std.specs.Ordering.{nat_cmp, bool_cmp, on, then_cmp}
use Rattle.std.specs.Cmp.Lexicographic.{slice_cmp}
use Rattle.std.specs.Coded.{Coded, code_by, coded×, coded_ℕ, coded_bool, coded_list}

pub record Key : Type 0 where
  pub package_path : List ℕ
  pub file : List ℕ
  pub function : List ℕ
  pub literal : Bool
  pub start_line : ℕ
  pub start_column : ℕ
  pub end_line : ℕ
  pub end_column : ℕ
  pub statements : ℕ

-- texts by their bytes
abbrev pub text_cmp : List ℕ → List ℕ → Ordering
text_cmp = slice_cmp nat_cmp

-- by lines, then columns, then statements
abbrev pub place_cmp : Key → Key → Ordering
place_cmp =
    then_cmp (on (λ k. k.start_line) nat_cmp) (then_cmp (on (λ k. k.end_line) nat_cmp) (then_cmp (on (λ k. k.start_column) nat_cmp) (then_cmp (on (λ k. k.end_column) nat_cmp) (on (λ k. k.statements) nat_cmp))))

-- by package path and file, then places, then function name and literal flag
abbrev pub key_cmp : Key → Key → Ordering
key_cmp =
    then_cmp (on (λ k. k.package_path) text_cmp) (then_cmp (on (λ k. k.file) text_cmp) (then_cmp place_cmp (then_cmp (on (λ k. k.function) text_cmp) (on (λ k. k.literal) bool_cmp))))

-- a key is stored as its texts, flag and numbers
abbrev pub key_code : Coded Key
key_code =
    code_by ((List ℕ × (List ℕ × (List ℕ × Bool))) × (ℕ × (ℕ × (ℕ × (ℕ × ℕ)))))
    (coded× (coded× (coded_list coded_ℕ) (coded× (coded_list coded_ℕ) (coded× (coded_list coded_ℕ) coded_bool))) (coded× coded_ℕ (coded× coded_ℕ (coded× coded_ℕ (coded× coded_ℕ coded_ℕ)))))
    (λ k. ((k.package_path, (k.file, (k.function, k.literal))), (k.start_line, (k.start_column, (k.end_line, (k.end_column, k.statements))))))
    (λ p. record { package_path = p.0.0; file = p.0.1.0; function = p.0.1.1.0; literal = p.0.1.1.1; start_line = p.1.0; start_column = p.1.1.0; end_line = p.1.1.1.0; end_column = p.1.1.1.1.0; statements = p.1.1.1.1.1 })
    (λ _. refl)
