-- Names and written types that are accepted mean what the rules say.
use Rattle.std.proofs.Common.{◌≡◌, ℕ, zero, suc, Bool, true, false, cond, List, [], ◌∷◌, ◌++◌, Option, Some, None, Ok, refl, sym, ap, ◌∙◌, subst}
use Rattle.std.specs.Prelude.{slice_get, slice_set, option_map, reverse, unwrap_or, bytes_eq, find as find'}
use Rattle.std.specs.List.{list_all}
use Rattle.std.proofs.lemmas.Bool.{and_parts, and_from}
use Rattle.std.proofs.lemmas.List.{reverse-append}
use Rattle.std.proofs.lemmas.List.Folds.{list_all-append}
use Rattle.std.proofs.lemmas.Option.{none-some, same_Some}
use Rattle.go_ast.specs.declared.kind.SourceKind.TheVariants as source
use Rattle.go_ast.specs.declared.name.Name.{Name}
use Rattle.go_ast.specs.declared.expr.TypeExpr.{TypeExpr, roll-TypeExpr}
use Rattle.go_ast.specs.declared.expr.TypeForm.{TypeForm, roll-TypeForm, out-TypeForm, out-roll-TypeForm}
use Rattle.go_ast.specs.declared.expr.TypeForm.TheOpen.{TypeForm-F, TypeExpr-F}
use Rattle.go_ast.specs.declared.expr.TypeForm.TheFolds.{ind-TypeExpr, map-TypeForm, map-TypeExpr}
use Rattle.go_types.specs.declared.types.ValueType.{ValueType}
use Rattle.go_types.specs.declared.known.Known.{Known}
use Rattle.go_types.specs.declared.known.Known.TheVariants as knowns
use Rattle.go_types.specs.declared.names.Binding.{Binding}
use Rattle.go_types.specs.declared.names.Meaning.{Meaning}
use Rattle.go_types.specs.declared.names.Meaning.TheVariants as meaning
use Rattle.go_types.specs.declared.names.Imported.{Imported}
use Rattle.go_types.specs.declared.names.Imported.TheVariants as imported
use Rattle.go_types.specs.declared.names.Names.{Names}
use Rattle.go_types.specs.declared.names.Marks.{Marks}
use Rattle.go_types.specs.declared.operand.Term.TheVariants as term
use Rattle.go_types.specs.declared.operand.Operand.{Operand}
use Rattle.go_types.specs.declared.operand.Operand.TheVariants as operand
use Rattle.go_types.specs.Checking.{Checked, lift}
use Rattle.go_types.specs.Names.{find, either, predeclared, last_bound, found_at, meaning_of, member, member_in, imported_name, exported, is_exported, last_named, names_of, of_table, standard, known, mutex_methods, group_methods, read}
use Rattle.go_types.specs.Expressions.{type_meant, type_layer, type_of, channel_of, noted}
use Rattle.go_typing.specs.Sorts.{sort_of, sort_meant}
use Rattle.go_typing.specs.Typing as typing
use Rattle.go_typing.specs.Typing.{IsMember, of_library, of_package, of_mutex, of_group, type_shape, IsType}
use Rattle.go_typing.specs.Laws.{means_its_kind, binds_its_kind, ConstantsAreOfKind, AcceptedIsType}
use Rattle.go_typing.proofs.Basics.{same_ok, no_fault, ok_then, ok_if, lifted}
use Rattle.go_typing.proofs.Layers.{type_of_is}
use Rattle.go_typing.proofs.Values.{operand_fits}

-- ---- what names mean

found_some : (at : ℕ) (o : Option Meaning) (x : Meaning) → found_at at o ≡ Ok x → o ≡ Some x
found_some at (Some y) x e = ap Some (same_ok y x e)
found_some at None x e = no_fault _ x e

pub meaning_found : (ns : Names) (n : Name) (x : Meaning) → meaning_of ns n ≡ Ok x → find ns n.text ≡ Some x
unfolding meaning_of
meaning_found ns n x e = found_some n.at (find ns n.text) x e

known_kind : (x : Known) → means_its_kind (known x) ≡ true
known_kind (knowns.Type b) = refl
known_kind (knowns.Flag b) = refl
known_kind knowns.Nil = refl
known_kind (knowns.Callee c) = refl
known_kind (knowns.Shared s) = refl

table_found : (P : Meaning → Type 0) (at : ℕ) (o : Option Known) (x : Meaning) → found_at at (option_map known o) ≡ Ok x → ((k : Known) → o ≡ Some k → P (known k)) → P x
table_found P at None x e h = no_fault _ x e
table_found P at (Some k) x e h = subst P (same_ok (known k) x e) (h k refl)

exported_found : (n : Name) (o : Option Meaning) (x : Meaning) → exported n o ≡ Ok x → (o ≡ Some x) × (is_exported n.text ≡ true)
exported_found n None x e = no_fault _ x e
exported_found n (Some y) x e = let p = ok_if (is_exported n.text) (Ok y) n.at source.NotExported x e in (ap Some (same_ok y x p.1), p.0)

import_found : (ns : Names) (p n : Name) (i : ℕ) (o : Option Imported) (x : Meaning) → find ns p.text ≡ Some (meaning.Import i) → slice_get ns.imports i ≡ o → imported_name ns n o ≡ Ok x → IsMember ns p n x
import_found ns p n i (Some (imported.Standard s)) x f g e = table_found (IsMember ns p n) n.at (of_table (standard s) n.text) x e (λ k h. of_library p n i s k f g h)
import_found ns p n i (Some (imported.Package q)) x f g e = let h = exported_found n (last_named n.text (names_of ns q)) x e in of_package p n i q x f g h.0 h.1
import_found ns p n i None x f g e = no_fault _ x e

in_found : (ns : Names) (p n : Name) (y x : Meaning) (old new : Marks) → find ns p.text ≡ Some y → member_in ns n y old ≡ Ok (x, new) → IsMember ns p n x
in_found ns p n (meaning.Import i) x old new f e = import_found ns p n i (slice_get ns.imports i) x f refl (lifted (imported_name ns n (slice_get ns.imports i)) (record old { used = slice_set old.used i true }) x new e)
in_found ns p n (meaning.Mutex m) x old new f e = table_found (IsMember ns p n) n.at (of_table (mutex_methods m) n.text) x (lifted _ old x new e) (λ k h. of_mutex p n m k f h)
in_found ns p n (meaning.Group g) x old new f e = table_found (IsMember ns p n) n.at (of_table (group_methods g) n.text) x (lifted _ old x new e) (λ k h. of_group p n g k f h)
in_found ns p n y x old new f e = no_fault _ (x, new) e

pub member_found : (ns : Names) (p n : Name) (x : Meaning) (old new : Marks) → member ns p n old ≡ Ok (x, new) → IsMember ns p n x
unfolding member
member_found ns p n x old new e =
    let q = ok_then (lift (meaning_of ns p) old) (λ r. member_in ns n r.0 r.1) (x, new) e in
    in_found ns p n q.0.0 x q.0.1 new (meaning_found ns p q.0.0 (lifted (meaning_of ns p) old q.0.0 q.0.1 q.1)) q.2

-- ---- constants are of their kinds

first_passes : {X : Type 0} (q : X → Bool) (b : Bool) (y x : X) (o : Option X) → q y ≡ true → (o ≡ Some x → q x ≡ true) → cond b (Some y) o ≡ Some x → q x ≡ true
first_passes q true y x o h k e = subst (λ z. q z ≡ true) (same_Some y x e) h
first_passes q false y x o h k e = k e

found_passes : {X : Type 0} (p q : X → Bool) (xs : List X) (x : X) → list_all q xs ≡ true → find' p xs ≡ Some x → q x ≡ true
found_passes p q [] x h e = absurd (none-some x e)
found_passes p q (y ∷ ys) x h e =
    let r = and_parts (q y) (list_all q ys) h in
    first_passes q (p y) y x (find' p ys) r.0 (found_passes p q ys x r.1) e

all_reversed : {X : Type 0} (q : X → Bool) (xs : List X) → list_all q xs ≡ true → list_all q (reverse xs) ≡ true
all_reversed q [] h = refl
all_reversed q (x ∷ xs) h =
    let p = and_parts (q x) (list_all q xs) h in
    let k : list_all q (reverse xs ++ reverse (x ∷ [])) ≡ true = list_all-append q (reverse xs) (reverse (x ∷ [])) ∙ and_from _ _ (all_reversed q xs p.1) (and_from _ _ p.0 refl) in
    ap (list_all q) (reverse-append (x ∷ []) xs) ∙ k

last_kind : (name : List ℕ) (bs : List Binding) (x : Meaning) → list_all binds_its_kind bs ≡ true → last_named name bs ≡ Some x → means_its_kind x ≡ true
last_kind name bs x h e = go (last_bound name bs) refl e
  where
    go : (o : Option Binding) → last_bound name bs ≡ o → option_map (λ (b : Binding). b.meaning) o ≡ Some x → means_its_kind x ≡ true
    go None f e = absurd (none-some x e)
    go (Some b) f e = subst (λ y. means_its_kind y ≡ true) (same_Some b.meaning x e) (found_passes (λ (b : Binding). bytes_eq b.name name) binds_its_kind (reverse bs) b (all_reversed binds_its_kind bs h) f)

either_kind : (o other : Option Meaning) (x : Meaning) → ((y : Meaning) → o ≡ Some y → means_its_kind y ≡ true) → ((y : Meaning) → other ≡ Some y → means_its_kind y ≡ true) → either o other ≡ Some x → means_its_kind x ≡ true
either_kind (Some y) other x h k e = subst (λ z. means_its_kind z ≡ true) (same_Some y x e) (h y refl)
either_kind None other x h k e = k x e

known_option : (o : Option Known) (x : Meaning) → option_map known o ≡ Some x → means_its_kind x ≡ true
known_option None x e = absurd (none-some x e)
known_option (Some k) x e = subst (λ z. means_its_kind z ≡ true) (same_Some (known k) x e) (known_kind k)

pub name_kind : (ns : Names) (name : List ℕ) (x : Meaning) → ConstantsAreOfKind ns → find ns name ≡ Some x → means_its_kind x ≡ true
name_kind ns name x kinds e =
    either_kind (last_named name ns.locals) _ x (λ y f. last_kind name ns.locals y kinds.around f)
    (λ y f. either_kind (last_named name ns.own) (option_map known (predeclared name)) y (λ z g. last_kind name ns.own z kinds.own g) (λ z g. known_option (predeclared name) z g) f) e

at_package : (ps : List (List Binding)) (q : ℕ) → list_all (list_all binds_its_kind) ps ≡ true → list_all binds_its_kind (unwrap_or (slice_get ps q) []) ≡ true
at_package [] q h = refl
at_package (p ∷ ps) zero h = (and_parts (list_all binds_its_kind p) _ h).0
at_package (p ∷ ps) (suc q) h = at_package ps q (and_parts (list_all binds_its_kind p) _ h).1

in_package : (ns : Names) (q : ℕ) (name : List ℕ) (x : Meaning) → ConstantsAreOfKind ns → last_named name (names_of ns q) ≡ Some x → means_its_kind x ≡ true
in_package ns q name x kinds e = last_kind name (names_of ns q) x (at_package ns.packages q kinds.packages) e

pub member_kind : (ns : Names) (p n : Name) (x : Meaning) → ConstantsAreOfKind ns → IsMember ns p n x → means_its_kind x ≡ true
member_kind ns _ _ _ kinds (of_library p n i s x a b c) = known_kind x
member_kind ns _ _ _ kinds (of_package p n i q x a b c d) = in_package ns q n.text x kinds c
member_kind ns _ _ _ kinds (of_mutex p n m x a c) = known_kind x
member_kind ns _ _ _ kinds (of_group p n g x a c) = known_kind x

-- ---- operands that are names

abbrev Notes : Meaning → Operand → Type 0
Notes x o = (sort_meant x ≡ sort_of o) × (operand_fits o ≡ true)

pure_found : (x : Meaning) (a o : Operand) (old new : Marks) → ◌≡◌ {A = Checked (Operand × Marks)} (Ok (a, old)) (Ok (o, new)) → Notes x a → Notes x o
pure_found x a o old new e h = subst (Notes x) (ap (λ (p : Operand × Marks). p.0) (same_ok (a, old) (o, new) e)) h

pub noted_found : (x : Meaning) (o : Operand) (old new : Marks) → means_its_kind x ≡ true → noted x old ≡ Ok (o, new) → Notes x o
noted_found (meaning.Constant k c) o old new h e = pure_found (meaning.Constant k c) (operand.Term (term.Constant k c)) o old new e (refl, h)
noted_found meaning.Nil o old new h e = pure_found meaning.Nil (operand.Term term.Nil) o old new e (refl, refl)
noted_found (meaning.Variable v t) o old new h e =
    let p = ok_then (read v old) _ (o, new) e in
    pure_found (meaning.Variable v t) _ o p.0.1 new p.2 (refl, refl)
noted_found (meaning.Type t) o old new h e = pure_found (meaning.Type t) (operand.Type t) o old new e (refl, refl)
noted_found (meaning.Callee c) o old new h e = pure_found (meaning.Callee c) (operand.Callee c) o old new e (refl, refl)
noted_found (meaning.Mutex m) o old new h e = pure_found (meaning.Mutex m) operand.Other o old new e (refl, refl)
noted_found (meaning.Group g) o old new h e = pure_found (meaning.Group g) operand.Other o old new e (refl, refl)
noted_found (meaning.Shared s) o old new h e = pure_found (meaning.Shared s) operand.Other o old new e (refl, refl)
noted_found (meaning.Import i) o old new h e = pure_found (meaning.Import i) operand.Other o old new e (refl, refl)

-- ---- written types

type_is : (at : ℕ) (x : Meaning) (t : ValueType) → type_meant at x ≡ Ok t → x ≡ meaning.Type t
type_is at (meaning.Type u) t e = ap meaning.Type (same_ok u t e)
type_is at x t e = no_fault _ t e

abbrev TypeClaim : TypeExpr → Type 0
TypeClaim e = (ns : Names) (old new : Marks) (t : ValueType) → type_of e ns old ≡ Ok (t, new) → IsType ns (type_shape e) t

abbrev FormClaim : TypeForm → Type 0
FormClaim f = (ns : Names) (old new : Marks) (t : ValueType) → type_layer TypeExpr type_of (out-TypeForm f) ns old ≡ Ok (t, new) → IsType ns (out-TypeForm f) t

-- a layer whose parts were found
abbrev KnownForm : Type 0
KnownForm = (f : TypeForm) × FormClaim f

abbrev KnownType : Type 0
KnownType = (e : TypeExpr) × TypeClaim e

abbrev plain_form : TypeForm-F KnownForm KnownType → TypeForm-F TypeForm TypeExpr
plain_form y = map-TypeForm KnownForm KnownType TypeForm TypeExpr (λ f. f.0) (λ e. e.0) y

type_layer_found : (y : TypeForm-F KnownForm KnownType) (ns : Names) (old new : Marks) (t : ValueType) → type_layer TypeExpr type_of (plain_form y) ns old ≡ Ok (t, new) → IsType ns (plain_form y) t
type_layer_found (TypeForm-F.Plain n) ns old new t e =
    let p = ok_then (lift (meaning_of ns n) old) _ (t, new) e in
    let x = meaning_found ns n p.0.0 (lifted (meaning_of ns n) old p.0.0 p.0.1 p.1) in
    let i = type_is n.at p.0.0 t (lifted (type_meant n.at p.0.0) p.0.1 t new p.2) in
    typing.plain n t (x ∙ ap Some i)
type_layer_found (TypeForm-F.Member q n) ns old new t e =
    let p = ok_then (member ns q n old) _ (t, new) e in
    let x = member_found ns q n p.0.0 old p.0.1 p.1 in
    let i = type_is q.at p.0.0 t (lifted (type_meant q.at p.0.0) p.0.1 t new p.2) in
    typing.member q n t (subst (IsMember ns q n) i x)
type_layer_found (TypeForm-F.Chan k) ns old new t e =
    let p = ok_then (type_of k.0 ns old) _ (t, new) e in
    let h = k.1 ns old p.0.1 p.0.0 p.1 in
    subst (IsType ns (TypeForm-F.Chan k.0)) (ap (λ (r : ValueType × Marks). r.0) (same_ok (channel_of p.0.0, p.0.1) (t, new) p.2)) (typing.channel k.0 p.0.0 h)

form_known : (x : TypeForm-F TypeForm TypeExpr) (y : TypeForm-F KnownForm KnownType) → plain_form y ≡ x → FormClaim (roll-TypeForm x)
form_known x y is ns old new t =
    subst (λ z. type_layer TypeExpr type_of z ns old ≡ Ok (t, new) → IsType ns z t) (is ∙ sym (out-roll-TypeForm x)) (type_layer_found y ns old new t)

type_known : (x : TypeExpr-F TypeForm TypeExpr) (y : TypeExpr-F KnownForm KnownType) → map-TypeExpr KnownForm KnownType TypeForm TypeExpr (λ f. f.0) (λ e. e.0) y ≡ x → TypeClaim (roll-TypeExpr x)
type_known x y is ns old new t e =
    let h : FormClaim x.form = subst FormClaim (ap (λ (z : TypeExpr-F TypeForm TypeExpr). z.form) is) y.form.1 in
    h ns old new t (sym (ap (λ (f : Marks → Checked (ValueType × Marks)). f old) (type_of_is (roll-TypeExpr x) ns)) ∙ e)

pub type_found : (e : TypeExpr) (ns : Names) (old new : Marks) (t : ValueType) → type_of e ns old ≡ Ok (t, new) → IsType ns (type_shape e) t
type_found e = ind-TypeExpr FormClaim TypeClaim form_known type_known e

pub accepted_types : AcceptedIsType
accepted_types ns e old new t h = type_found e ns old new t h
