-- The order of keys is total, and tells any two keys apart.
use Rattle.std.proofs.Common.{◌≡◌, true, false, refl}
use Rattle.std.specs.FinMap as finmap
use Rattle.std.specs.declared.cmp.Ordering.{Ordering}
use Rattle.std.specs.declared.cmp.Ordering.TheVariants.{Less, Equal, Greater}
use Rattle.std.specs.Ordering.{bool_cmp, ordering_then}
use Rattle.std.specs.Cmp.{IsTotalOrder, then_total, on_total, nat_cmp_total, bool_cmp_total}
use Rattle.std.specs.Cmp.Lexicographic.{nat_list_cmp_total}
use Rattle.cov_table.specs.Key.{text_cmp, place_cmp, key_cmp}

pub place_total : IsTotalOrder place_cmp
place_total =
    then_total (on_total (λ k. k.start_line) nat_cmp_total) (then_total (on_total (λ k. k.end_line) nat_cmp_total) (then_total (on_total (λ k. k.start_column) nat_cmp_total) (then_total (on_total (λ k. k.end_column) nat_cmp_total) (on_total (λ k. k.statements) nat_cmp_total))))

pub key_total : IsTotalOrder key_cmp
key_total =
    then_total (on_total (λ k. k.package_path) nat_list_cmp_total) (then_total (on_total (λ k. k.file) nat_list_cmp_total) (then_total place_total (then_total (on_total (λ k. k.function) nat_list_cmp_total) (on_total (λ k. k.literal) bool_cmp_total))))

pub text_same : finmap.IsAntisymmetric text_cmp
text_same = finmap.slice_cmp-IsAntisymmetric finmap.nat_cmp-IsAntisymmetric

flag_same : finmap.IsAntisymmetric bool_cmp
flag_same false false e = refl
flag_same false true e = cc
flag_same true false e = cc
flag_same true true e = refl

both_equal : (a b : Ordering) → ordering_then a b ≡ Equal → (a ≡ Equal) × (b ≡ Equal)
both_equal Equal b h = (refl, h)
both_equal Less b h = cc
both_equal Greater b h = cc

pub key_same : finmap.IsAntisymmetric key_cmp
key_same x y h =
    let p = both_equal _ _ h in
    let q = both_equal _ _ p.1 in
    let r = both_equal _ _ q.1 in
    let t = both_equal _ _ r.1 in
    let lines = both_equal _ _ r.0 in
    let ends = both_equal _ _ lines.1 in
    let columns = both_equal _ _ ends.1 in
    let sizes = both_equal _ _ columns.1 in
    let package_path : x.package_path ≡ y.package_path = text_same _ _ p.0 in
    let file : x.file ≡ y.file = text_same _ _ q.0 in
    let start_line : x.start_line ≡ y.start_line = finmap.nat_cmp-IsAntisymmetric _ _ lines.0 in
    let end_line : x.end_line ≡ y.end_line = finmap.nat_cmp-IsAntisymmetric _ _ ends.0 in
    let start_column : x.start_column ≡ y.start_column = finmap.nat_cmp-IsAntisymmetric _ _ columns.0 in
    let end_column : x.end_column ≡ y.end_column = finmap.nat_cmp-IsAntisymmetric _ _ sizes.0 in
    let statements : x.statements ≡ y.statements = finmap.nat_cmp-IsAntisymmetric _ _ sizes.1 in
    let function : x.function ≡ y.function = text_same _ _ t.0 in
    let literal : x.literal ≡ y.literal = flag_same _ _ t.1 in
    λ i. record { package_path = package_path i; file = file i; function = function i; literal = literal i; start_line = start_line i; start_column = start_column i; end_line = end_line i; end_column = end_column i; statements = statements i }
