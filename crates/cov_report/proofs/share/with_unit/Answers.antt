use Rattle.std.proofs.Common.{◌≡◌, ℕ, ◌+◌, false, true, rules, ap, sym, ◌∙◌, arith, add-zero}
use Rattle.std.specs.Prelude.{◌==◌, if◌then◌else◌}
use Rattle.std.specs.Str.{bytes_eq}
use Rattle.std.specs.declared.cmp.Ordering.TheVariants.{Less, Equal}
use Rattle.cov_table.specs.Key.{Key, text_cmp}
use Rattle.cov_table.specs.Unit.{unit_entry}
use Rattle.cov_report.proofs.Sharing.{same_path, other_path, sum_none, sum_one}
use Rattle.cov_report.proofs.share.with_unit.Goals as goal

abbrev statements : Key × ℕ → ℕ
statements u = u.0.statements

abbrev covered : Key × ℕ → ℕ
covered u = if u.1 == 0 then 0 else u.0.statements

pub returns-in-Less : goal.returns-in-Less
returns-in-Less c =
    let path = c.args.path.now in
    let less : text_cmp c.args.unit.now.package_path.now path ≡ Less = search rules in
    let apart : bytes_eq path c.args.unit.now.package_path.now ≡ false = other_path _ path Less less (λ e. cc) in
    let s : ℕ = c.args.share.statements in
    let n : ℕ = c.args.share.covered in
    record {
      found = (λ e. cc, sym (add-zero s) ∙ ap (λ (m : ℕ). s + m) (sym (sum_none statements path (unit_entry c.args.unit.now) apart)), sym (add-zero n) ∙ ap (λ (m : ℕ). n + m) (sym (sum_none covered path (unit_entry c.args.unit.now) apart)));
      small = (omega arith, omega arith);
    }

pub returns-in-Equal : goal.returns-in-Equal
returns-in-Equal c =
    let path = c.args.path.now in
    let equal : text_cmp c.args.unit.now.package_path.now path ≡ Equal = search rules in
    let same : bytes_eq path c.args.unit.now.package_path.now ≡ true = same_path _ path equal in
    let s : ℕ = c.args.share.statements in
    let n : ℕ = c.args.share.covered in
    record {
      found = (λ e. cc, ap (λ (m : ℕ). s + m) (c.from-in-Equal.ensures ∙ sym (sum_one statements path (unit_entry c.args.unit.now) same)), ap (λ (m : ℕ). n + m) (c.from.ensures ∙ c.ran.ensures ∙ sym (sum_one covered path (unit_entry c.args.unit.now) same)));
      small = (omega arith, omega arith);
    }
