use Rattle.std.proofs.Common.{◌≡◌, ℕ, ◌≤◌, Bool, false, List, [], ◌∷◌, length, codes, sum_by, All, refl, sym, ap, subst, ◌∙◌, arith, lit≤}
use Rattle.std.proofs.lemmas.List.Elements.{All-nil, All-cons}
use Rattle.cov_outside.specs.declared.mode.Mode.{Mode}
use Rattle.cov_outside.specs.declared.mode.Mode.TheVariants.{Set}
use Rattle.cov_meta.specs.declared.meta.MetaUnit.{MetaUnit}
use Rattle.cov_meta.specs.declared.meta.MetaPackage.{MetaPackage}
use Rattle.cov_meta.specs.declared.meta.Meta.{Meta}
use Rattle.cov_meta.specs.Written.{KeepsLimits, texts_of}
use Rattle.cov_meta.proofs.write.tests.one_function.Goals as goal

abbrev one : Mode → Bool → List MetaUnit → Meta
one mode literal units = record {
  mode = mode;
  packages = record {
    name = codes "main";
    path = codes "example.com/m";
    «module» = codes "example.com/m";
    functions = record { name = codes "main"; file = codes "example.com/m/main.go"; literal = literal; units = units } ∷ [];
  } ∷ [];
}

abbrev texts : List (List ℕ)
texts = codes "main" ∷ codes "example.com/m" ∷ codes "example.com/m/main.go" ∷ []

abbrev package_of : Bool → List MetaUnit → MetaPackage
package_of literal units = record {
  name = codes "main";
  path = codes "example.com/m";
  «module» = codes "example.com/m";
  functions = record { name = codes "main"; file = codes "example.com/m/main.go"; literal = literal; units = units } ∷ [];
}

texts_are : (literal : Bool) (units : List MetaUnit) → texts_of (package_of literal units) ≡ texts
unfolding texts_of
texts_are literal units = refl

short : All (λ t. length t ≤ 2048) texts
short =
    All-cons (λ t. length t ≤ 2048) (codes "main") (codes "example.com/m" ∷ codes "example.com/m/main.go" ∷ []) (lit≤ tt)
    (All-cons (λ t. length t ≤ 2048) (codes "example.com/m") (codes "example.com/m/main.go" ∷ []) (lit≤ tt) (All-cons (λ t. length t ≤ 2048) (codes "example.com/m/main.go") [] (lit≤ tt) (All-nil (λ t. length t ≤ 2048))))

one_keeps : (mode : Mode) (literal : Bool) (units : List MetaUnit) → length units ≡ 3 → KeepsLimits (one mode literal units)
unfolding texts_of
one_keeps mode literal units three =
    let count : sum_by (λ p. length (texts_of p)) (package_of literal units ∷ []) ≡ 3 = ap length (texts_are literal units) in
    let bytes : sum_by (λ p. sum_by length (texts_of p)) (package_of literal units ∷ []) ≡ 38 = ap (sum_by length) (texts_are literal units) in
    record {
      few_packages = lit≤ tt;
      few_functions = lit≤ tt;
      few_units = omega (arith, three);
      few_texts = omega (arith, count);
      few_text_bytes = omega (arith, bytes);
      short_texts = All-cons (λ p. All (λ t. length t ≤ 2048) (texts_of p)) (package_of literal units) [] (subst (All (λ t. length t ≤ 2048)) (sym (texts_are literal units)) short) (All-nil (λ p. All (λ t. length t ≤ 2048) (texts_of p)));
    }

pub returns : goal.returns
returns c =
    let three : length c.from_vec.result ≡ 3 = omega (arith, ap length (c.from_vec.ensures ∙ c.in_ok-units.ensures.items)) in
    rw (c.in_ok-push-2.ensures.ok, c.new-packages.ensures, c.in_ok-push.ensures.ok, c.new-functions.ensures, c.in_ok-of.ensures, c.in_ok-of-2.ensures, c.in_ok-of-3.ensures, c.in_ok-of-4.ensures, c.in_ok-of-5.ensures)
    (one_keeps Set false c.from_vec.result three)
