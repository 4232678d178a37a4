-- How many variables of a package are values, mutexes and wait groups.
use Rattle.std.proofs.Common.{Bool, true, ◌≡◌, ◌+◌, List, [], ◌∷◌, ◌++◌, refl, arith}
use Rattle.std.specs.Prelude.{count_by}
use Rattle.std.proofs.lemmas.List.Sums.{sum_by-append}
use Rattle.go_ast.specs.declared.name.Name.{Name}
use Rattle.go_meaning.specs.declared.program.Global.{Global}
use Rattle.go_meaning.specs.declared.program.Global.TheVariants as global
use Rattle.go_meaning.specs.WellFormed.{is_value, is_mutex, is_group}
use Rattle.go_types.specs.Operands.{zero_value}
use Rattle.go_types.specs.declared.types.ValueType.{ValueType}
use Rattle.go_types.specs.declared.names.Shared.{Shared}
use Rattle.go_types.specs.declared.names.Shared.TheVariants as shared'
use Rattle.go_packages.specs.declared.draft.Globals.{Globals}
use Rattle.go_packages.specs.declared.draft.Draft.{Draft}
use Rattle.go_packages.specs.Variables.{with_value, with_mutex, with_group, share, zero}

count_push : (p : Global → Bool) (gs : List Global) (g : Global) → count_by p (gs ++ g ∷ []) ≡ count_by p gs + count_by p (g ∷ [])
count_push p gs g = sum_by-append _ gs (g ∷ [])

pub record Counted (g : Globals) : Type 0 where
  pub values : g.values ≡ count_by is_value g.all
  pub mutexes : g.mutexes ≡ count_by is_mutex g.all
  pub groups : g.groups ≡ count_by is_group g.all

pub mutex_counted : (n : Name) (s : Draft) → Counted s.globals → Counted (with_mutex n s).globals
mutex_counted n s h = record {
  values = omega (arith, h.values, count_push is_value s.globals.all global.Mutex);
  mutexes = omega (arith, h.mutexes, count_push is_mutex s.globals.all global.Mutex);
  groups = omega (arith, h.groups, count_push is_group s.globals.all global.Mutex);
}

pub group_counted : (n : Name) (s : Draft) → Counted s.globals → Counted (with_group n s).globals
group_counted n s h = record {
  values = omega (arith, h.values, count_push is_value s.globals.all global.Group);
  mutexes = omega (arith, h.mutexes, count_push is_mutex s.globals.all global.Group);
  groups = omega (arith, h.groups, count_push is_group s.globals.all global.Group);
}

pub value_counted : (n : Name) (t : ValueType) (g : Global) (s : Draft) → is_value g ≡ true → Counted s.globals → Counted (with_value n t g s).globals
value_counted n t (global.Value v) s e h = record {
  values = omega (arith, h.values, count_push is_value s.globals.all (global.Value v));
  mutexes = omega (arith, h.mutexes, count_push is_mutex s.globals.all (global.Value v));
  groups = omega (arith, h.groups, count_push is_group s.globals.all (global.Value v));
}
value_counted n t (global.Make v k) s e h = record {
  values = omega (arith, h.values, count_push is_value s.globals.all (global.Make v k));
  mutexes = omega (arith, h.mutexes, count_push is_mutex s.globals.all (global.Make v k));
  groups = omega (arith, h.groups, count_push is_group s.globals.all (global.Make v k));
}
value_counted n t global.Mutex s e h = cc
value_counted n t global.Group s e h = cc

pub share_counted : (x : Shared) (ns : List Name) (s : Draft) → Counted s.globals → Counted (share x ns s).globals
share_counted x [] s h = h
share_counted shared'.Mutex (n ∷ ns) s h = share_counted shared'.Mutex ns (with_mutex n s) (mutex_counted n s h)
share_counted shared'.Group (n ∷ ns) s h = share_counted shared'.Group ns (with_group n s) (group_counted n s h)

pub zero_counted : (t : ValueType) (ns : List Name) (s : Draft) → Counted s.globals → Counted (zero t ns s).globals
zero_counted t [] s h = h
zero_counted t (n ∷ ns) s h = zero_counted t ns (with_value n t (global.Value (zero_value t)) s) (value_counted n t (global.Value (zero_value t)) s refl h)
