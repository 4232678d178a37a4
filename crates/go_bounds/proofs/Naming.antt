-- What names mean is there.
use Rattle.std.proofs.Common.{ℕ, zero, suc, Bool, true, false, cond, List, [], ◌∷◌, ◌++◌, take, reverse, Option, Some, None}
use mathlib.Core.List.{reverse_aux}
use Rattle.std.specs.Prelude.{slice_get, find as find', option_map, unwrap_or, bytes_eq}
use Rattle.go_ast.specs.declared.name.Name.{Name}
use Rattle.go_ast.specs.declared.kind.SourceKind.TheVariants.{Undeclared, NotExported}
use Rattle.go_meaning.specs.declared.expr.Variable.TheVariants.{Slot, Global as Package}
use Rattle.go_meaning.specs.declared.expr.Variable.{Variable}
use Rattle.go_meaning.specs.Programs.{Parts}
use Rattle.go_types.specs.declared.names.Meaning.{Meaning}
use Rattle.go_types.specs.declared.names.Meaning.TheVariants as meaning
use Rattle.go_types.specs.declared.names.Binding.{Binding}
use Rattle.go_types.specs.declared.names.Names.{Names}
use Rattle.go_types.specs.declared.names.Imported.{Imported}
use Rattle.go_types.specs.declared.names.Imported.TheVariants as imported
use Rattle.go_types.specs.declared.names.Standard.{Standard}
use Rattle.go_types.specs.declared.names.Standard.TheVariants.{Fmt, Os, Strconv, Sync}
use Rattle.go_types.specs.declared.known.Known.{Known}
use Rattle.go_types.specs.Names.{either, last_bound, last_named, of_table, known, table, predeclared, names_of, find, found_at, meaning_of, read, use_import, standard, exported, imported_name, mutex_methods, group_methods, member_in, member}
pub use Rattle.go_bounds.specs.Known.{Perhaps}
use Rattle.go_bounds.specs.Known.{AreNamed, Each, IsMeant, AreBound, AreKnown}
use Rattle.go_bounds.proofs.Sure.{Sure, Finds, sure_ok, sure_err, sure_if, finds_then, finds_pure, finds_lift, finds_fail}

-- ---- lists

pub each_append : {A : Type 0} (T : A → Type 0) (xs ys : List A) → Each T xs → Each T ys → Each T (xs ++ ys)
each_append T [] ys h k = k
each_append T (x ∷ xs) ys h k = (h.0, each_append T xs ys h.1 k)

pub each_take : {A : Type 0} (T : A → Type 0) (n : ℕ) (xs : List A) → Each T xs → Each T (take n xs)
each_take T zero xs h = tt
each_take T (suc n) [] h = tt
each_take T (suc n) (x ∷ xs) h = (h.0, each_take T n xs h.1)

pub each_get : {A : Type 0} (T : A → Type 0) (xs : List A) (n : ℕ) → Each T xs → Perhaps T (slice_get xs n)
each_get T [] n h = tt
each_get T (x ∷ xs) zero h = h.0
each_get T (x ∷ xs) (suc n) h = each_get T xs n h.1

pub each_more : {A : Type 0} (T U : A → Type 0) → ((x : A) → T x → U x) → (xs : List A) → Each T xs → Each U xs
each_more T U f [] h = tt
each_more T U f (x ∷ xs) h = (f x h.0, each_more T U f xs h.1)

each_onto : {A : Type 0} (T : A → Type 0) (xs ys : List A) → Each T xs → Each T ys → Each T (reverse_aux xs ys)
each_onto T [] ys h k = k
each_onto T (x ∷ xs) ys h k = each_onto T xs (x ∷ ys) h.1 (h.0, k)

each_found : {A : Type 0} (T : A → Type 0) (t : A → Bool) (xs : List A) → Each T xs → Perhaps T (find' t xs)
each_found T t [] h = tt
each_found T t (x ∷ xs) h = by (t x) (each_found T t xs h.1)
  where
    by : (b : Bool) → Perhaps T (find' t xs) → Perhaps T (cond b (Some x) (find' t xs))
    by true k = h.0
    by false k = k

module _ (P : Parts) (slots : ℕ) where
  abbrev M : Meaning → Type 0
  M = IsMeant P slots

  -- ---- bindings

  bound_meant : (o : Option Binding) → Perhaps (λ (b : Binding). M b.meaning) o → Perhaps M (option_map (λ (b : Binding). b.meaning) o)
  bound_meant None h = tt
  bound_meant (Some b) h = h

  pub last_meant : (name : List ℕ) (bs : List Binding) → AreBound P slots bs → Perhaps M (last_named name bs)
  last_meant name bs h =
      bound_meant (last_bound name bs) (each_found (λ (b : Binding). M b.meaning) (λ (b : Binding). bytes_eq b.name name) (reverse bs) (each_onto (λ (b : Binding). M b.meaning) bs [] h tt))

  either_meant : (a b : Option Meaning) → Perhaps M a → Perhaps M b → Perhaps M (either a b)
  either_meant None b h k = k
  either_meant (Some m) b h k = h

  table_meant : (es : List (List ℕ × Known)) (name : List ℕ) → Each (λ (e : List ℕ × Known). M (known e.1)) es → Perhaps M (option_map known (of_table es name))
  table_meant [] name h = tt
  table_meant (e ∷ es) name h = by (bytes_eq e.0 name) (table_meant es name h.1)
    where
      by : (b : Bool) → Perhaps M (option_map known (of_table es name)) → Perhaps M (option_map known (cond b (Some e.1) (of_table es name)))
      by true k = h.0
      by false k = k

  predeclared_meant : (name : List ℕ) → Perhaps M (option_map known (predeclared name))
  unfolding predeclared
  predeclared_meant name = table_meant table name (tt, (tt, (tt, (tt, (tt, (tt, (tt, (tt, (tt, (tt, (tt, (tt, (tt, (tt, (tt, (tt, (tt, (tt, (tt, (tt, (tt, (tt, tt))))))))))))))))))))))

  module _ (names : Names) (k : AreKnown P slots names) where
    find_meant : (name : List ℕ) → Perhaps M (find names name)
    find_meant name = either_meant _ _ (last_meant name names.locals k.locals) (either_meant _ _ (k.own name) (predeclared_meant name))

    pub found_sure : (at : ℕ) (o : Option Meaning) → Perhaps M o → Sure (found_at at o) M
    found_sure at None h = sure_err at Undeclared
    found_sure at (Some m) h = sure_ok m h

    pub meaning_sure : (n : Name) → Sure (meaning_of names n) M
    unfolding meaning_of
    meaning_sure n = found_sure n.at (find names n.text) (find_meant n.text)

    package_named : (o : Option (List Binding)) → Perhaps (AreNamed P slots) o → AreNamed P slots (unwrap_or o [])
    package_named None h name = tt
    package_named (Some bs) h name = h name

    names_named : (p : ℕ) → AreNamed P slots (names_of names p)
    names_named p = package_named (slice_get names.packages p) (each_get (AreNamed P slots) names.packages p k.packages)

    exported_sure : (n : Name) (o : Option Meaning) → Perhaps M o → Sure (exported n o) M
    exported_sure n None h = sure_err n.at Undeclared
    exported_sure n (Some m) h = sure_if _ (sure_ok m h) (sure_err n.at NotExported)

    standard_meant : (s : Standard) (name : List ℕ) → Perhaps M (option_map known (of_table (standard s) name))
    standard_meant Fmt name = table_meant (standard Fmt) name (tt, tt)
    standard_meant Os name = table_meant (standard Os) name (tt, tt)
    standard_meant Strconv name = table_meant (standard Strconv) name (tt, tt)
    standard_meant Sync name = table_meant (standard Sync) name (tt, (tt, tt))

    imported_sure : (n : Name) (o : Option Imported) → Sure (imported_name names n o) M
    imported_sure n (Some (imported.Standard s)) = found_sure n.at _ (standard_meant s n.text)
    imported_sure n (Some (imported.Package p)) = exported_sure n _ (names_named p n.text)
    imported_sure n None = sure_err n.at Undeclared

    pub finds_read : (x : Variable) → Finds (read x) (λ u. Unit {0})
    finds_read (Slot n) = record { sure = λ m. sure_ok _ tt }
    finds_read (Package n) = finds_pure tt tt

    finds_import : (n : ℕ) → Finds (use_import n) (λ u. Unit {0})
    finds_import n = record { sure = λ m. sure_ok _ tt }

    member_finds : (n : Name) (m : Meaning) → M m → Finds (member_in names n m) M
    member_finds n (meaning.Import i) h = finds_then (finds_import i) (λ u v. finds_lift (imported_sure n (slice_get names.imports i)))
    member_finds n (meaning.Mutex m) h = finds_lift (found_sure n.at _ (table_meant (mutex_methods m) n.text (h, (h, tt))))
    member_finds n (meaning.Group g) h = finds_lift (found_sure n.at _ (table_meant (group_methods g) n.text (h, (h, (h, tt)))))
    member_finds n m h = finds_fail n.at Undeclared

    pub finds_member : (first n : Name) → Finds (member names first n) M
    unfolding member
    finds_member first n = finds_then (finds_lift (meaning_sure first)) (member_finds n)
