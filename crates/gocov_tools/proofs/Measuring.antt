-- What a measured meta value keeps.
use Rattle.std.proofs.Common.{◌≡◌, ℕ, ◌+◌, ◌-◌, ◌^◌, ◌<◌, ◌≤◌, min, List, [], ◌∷◌, ◌++◌, length, take, get_or, All, Bool, true, false, Result, Ok, Err, refl, sym, ap, ◌∙◌, subst, arith, cond, ◌&&◌, lit<}
use Rattle.std.specs.Prelude.{sum_by, nat_le, nat_lt, if◌then◌else◌, OnOk}
use Rattle.std.specs.List.{list_all}
use Rattle.std.proofs.lemmas.Bool.Decides.{nat_tests}
use Rattle.std.proofs.lemmas.List.{take_more}
use Rattle.std.proofs.lemmas.List.Elements.{All-nil, All-cons}
use Rattle.std.proofs.lemmas.List.Folds.{list_all-append}
use Rattle.std.proofs.lemmas.List.Sums.{sum_by_push}
use Rattle.cov_bytes.specs.Many.{◌>>=◌}
use Rattle.cov_outside.specs.Limits.{limit_number}
use Rattle.cov_outside.specs.declared.limit.Which.{Which}
use Rattle.cov_outside.specs.declared.limit.Which.TheVariants as limits
use Rattle.cov_meta.specs.declared.meta.Meta.{Meta}
use Rattle.cov_meta.specs.declared.meta.MetaPackage.{MetaPackage}
use Rattle.cov_meta.specs.Written.{KeepsLimits, texts_of}
use Rattle.gocov_tools.specs.Measure.{measured, is_short, has_short_texts, short_names, names_within, judged, saturated, AreTotals, function_count, text_count, text_bytes}
use Rattle.gocov_tools.specs.Reading.{units_of}
use Rattle.gocov_tools.specs.Refusals.{within, Decides}
use Rattle.gocov_tools.specs.declared.refusal.Refusal.{Refusal}
use Rattle.gocov_tools.specs.declared.refusal.Refusal.TheVariants as refusals
use Rattle.gocov_tools.specs.declared.measure.Totals.{Totals}
use Rattle.gocov_tools.proofs.DecodedModes.{bind_ok}

is_within : (which : Which) (n m : ℕ) → within which n ≡ Ok m → n ≤ limit_number which
is_within which n m e = either (nat_lt (limit_number which) n) refl e
  where
    either : (b : Bool) → nat_lt (limit_number which) n ≡ b → (let r : Result ℕ Refusal = if b then Err (refusals.Limit which) else Ok n in r ≡ Ok m) → n ≤ limit_number which
    either true t e = absurd (cc)
    either false t e = grind (arith, nat_tests)

short_text : (t : List ℕ) → is_short t ≡ true → length t ≤ 2048
short_text t e = grind (arith, nat_tests)

both : (a b : Bool) → (a && b) ≡ true → (a ≡ true) × (b ≡ true)
both true b e = (refl, e)
both false b e = absurd (cc)

all_short : (ts : List (List ℕ)) → list_all is_short ts ≡ true → All (λ t. length t ≤ 2048) ts
all_short [] e = All-nil (λ (t : List ℕ). length t ≤ 2048)
all_short (t ∷ ts) e = let p = both (is_short t) (list_all is_short ts) e in All-cons (λ (s : List ℕ). length s ≤ 2048) t ts (short_text t p.0) (all_short ts p.1)

packages_short : (ps : List MetaPackage) → list_all has_short_texts ps ≡ true → All (λ p. All (λ t. length t ≤ 2048) (texts_of p)) ps
packages_short [] e = All-nil (λ (p : MetaPackage). All (λ t. length t ≤ 2048) (texts_of p))
packages_short (p ∷ ps) e = let q = both (has_short_texts p) (list_all has_short_texts ps) e in All-cons (λ (r : MetaPackage). All (λ t. length t ≤ 2048) (texts_of r)) p ps (all_short (texts_of p) q.0) (packages_short ps q.1)

names_short : (meta : Meta) → short_names meta ≡ Ok tt → list_all has_short_texts meta.packages ≡ true
names_short meta e = either (list_all has_short_texts meta.packages) e
  where
    either : (b : Bool) → (let r : Result (Unit {0}) Refusal = if b then Ok tt else Err (refusals.Limit limits.NameBytes) in r ≡ Ok tt) → b ≡ true
    either true e = refl
    either false e = absurd (cc)

pub keeps_limits : (meta : Meta) → measured meta ≡ Ok tt → KeepsLimits meta
unfolding measured
keeps_limits meta e =
    let a = bind_ok (within limits.Packages (length meta.packages)) _ tt e in
    let b = bind_ok (within limits.Functions (sum_by function_count meta.packages)) _ tt a.2 in
    let u = bind_ok (within limits.Units (units_of meta)) _ tt b.2 in
    let t = bind_ok (within limits.Strings (sum_by text_count meta.packages)) _ tt u.2 in
    let n = bind_ok (short_names meta) _ tt t.2 in
    let s = bind_ok (within limits.StringBytes (sum_by text_bytes meta.packages)) _ tt n.2 in
    record {
      few_packages = is_within limits.Packages _ _ a.1;
      few_functions = is_within limits.Functions _ _ b.1;
      few_units = is_within limits.Units _ _ u.1;
      few_texts = is_within limits.Strings _ _ t.1;
      few_text_bytes = is_within limits.StringBytes _ _ s.1;
      short_texts = packages_short meta.packages (names_short meta n.1);
    }

-- ---- totals as far as 64 bits go

small_limit : (which : Which) → limit_number which < 2 ^ 64 - 1
small_limit limits.SourceBytes = lit< tt
small_limit limits.DataBytes = lit< tt
small_limit limits.Packages = lit< tt
small_limit limits.Units = lit< tt
small_limit limits.Functions = lit< tt
small_limit limits.Strings = lit< tt
small_limit limits.NameBytes = lit< tt
small_limit limits.StringBytes = lit< tt
small_limit limits.Directories = lit< tt
small_limit limits.DataFiles = lit< tt
small_limit limits.SelectClauses = lit< tt
small_limit limits.Depth = lit< tt

same_test : (limit n : ℕ) → limit < 2 ^ 64 - 1 → nat_lt limit (saturated n) ≡ nat_lt limit n
same_test limit n small = grind (arith, nat_tests)

on : {B : Type 0} (b : Bool) (which : Which) (n m : ℕ) (k : Result B Refusal)
    → ((let r : Result ℕ Refusal = if b then Err (refusals.Limit which) else Ok n in r) >>= λ _. k) ≡ ((let r : Result ℕ Refusal = if b then Err (refusals.Limit which) else Ok m in r) >>= λ _. k)
on true which n m k = refl
on false which n m k = refl

next : {B : Type 0} (which : Which) (n m : ℕ) (k later : Result B Refusal) → m ≡ saturated n → k ≡ later → (within which m >>= λ _. k) ≡ (within which n >>= λ _. later)
next {B} which n m k later e same =
    ap (λ (b : Bool). (let r : Result ℕ Refusal = if b then Err (refusals.Limit which) else Ok m in r) >>= λ _. k) (ap (nat_lt (limit_number which)) e ∙ same_test (limit_number which) n (small_limit which))
    ∙ on (nat_lt (limit_number which) n) which m n k ∙ ap (λ (r : Result B Refusal). within which n >>= λ _. r) same

pub judged_is : (meta : Meta) (packages units : ℕ) (totals : Totals) → packages ≡ saturated (length meta.packages) → units ≡ saturated (units_of meta) → AreTotals meta.packages totals → judged packages units totals ≡ measured meta
unfolding judged measured
judged_is meta packages units totals p u t =
    next limits.Packages _ _ _ _ p (
    next limits.Functions _ _ _ _ t.functions (
    next limits.Units _ _ _ _ u (
    next limits.Strings _ _ _ _ t.texts (
    ap (λ (b : Bool). names_within b >>= λ _. within limits.StringBytes totals.bytes >>= λ _. Ok tt) t.short
    ∙ ap (λ (r : Result (Unit {0}) Refusal). short_names meta >>= λ _. r) (next limits.StringBytes _ _ _ _ t.bytes refl)
    )
    )
    )
    )

-- ---- what a call said

pub told : (result : Result (Unit {0}) Refusal) (there : Result (Unit {0}) Refusal) (meta : Meta) → there ≡ measured meta → Decides (λ (_ : Unit {0}). tt) result there → Decides (λ (_ : Unit {0}). tt) result (measured meta)
told result there meta e h = subst (λ (r : Result (Unit {0}) Refusal). Decides (λ (_ : Unit {0}). tt) result r) e h

pub kept : (result : Result (Unit {0}) Refusal) (meta : Meta) → Decides (λ (_ : Unit {0}). tt) result (measured meta) → OnOk result (KeepsLimits meta)
kept (Ok x) meta h = keeps_limits meta h
kept (Err e) meta h = tt
