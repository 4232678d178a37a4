-- Path, name and module path of a package.
use Rattle.std.specs.Prelude.{ℕ, List}
use Rattle.cov_table.specs.declared.packages.Package.{Package}

abbrev pub named_package : Package → List ℕ × (List ℕ × List ℕ)
named_package p = (p.path.now, (p.name.now, p.module.now))
