-- Whether an entry fits, from what look-ups gave.
use Rattle.std.proofs.Common.{◌≡◌, ◌≢◌, ℕ, ◌<◌, ◌≤◌, ◌^◌, List, length, Some, None, Ok, Err, refl, subst, All}
use Rattle.std.specs.Prelude.{slice_get, slice_index_or}
use Rattle.std.proofs.lemmas.Bool.{eq-eqb, ne_eqb}
use Rattle.std.proofs.lemmas.Option.{slice_get_read, slice_get_past, get_or_from_slice_get, slice_get_within}
use Rattle.std.proofs.lemmas.List.Elements.{All-get_or}
use Rattle.cov_outside.specs.declared.data_kind.DataKind.TheVariants as kinds
use Rattle.cov_meta.specs.declared.meta.Meta.{Meta}
use Rattle.cov_meta.specs.declared.meta.MetaPackage.{MetaPackage}
use Rattle.cov_meta.specs.declared.meta.MetaFunction.{MetaFunction}
use Rattle.cov_counter.specs.declared.entry.Entry.{Entry}
use Rattle.cov_pods.specs.Fits.{fits, HasShortParts}

-- an item that was looked up
pub looked_up : {X : Type 0} (xs ys : List X) (i : ℕ) (x : X) → xs ≡ ys → i < length xs → ((d : X) → x ≡ slice_index_or xs i d) → slice_get ys i ≡ Some x
looked_up {X = X} xs ys i x same lt is = subst (λ (zs : List X). slice_get zs i ≡ Some x) same (slice_get_read xs (length xs) i x refl lt (is x))

pub not_there : {X : Type 0} (xs ys : List X) (i : ℕ) → xs ≡ ys → length xs ≤ i → slice_get ys i ≡ None
not_there {X = X} xs ys i same le = subst (λ (zs : List X). slice_get zs i ≡ None) same (slice_get_past xs i le)

pub bad_package : (meta : Meta) (e : Entry) (n : ℕ) → slice_get meta.packages e.«package» ≡ None → n ≡ length meta.packages → Err (kinds.BadPackage e.«package» n) ≡ fits meta e
unfolding fits
bad_package meta e n none count = rw (none, count) refl

pub bad_function : (meta : Meta) (e : Entry) (p : MetaPackage) (n : ℕ) → slice_get meta.packages e.«package» ≡ Some p → slice_get p.functions e.function ≡ None → n ≡ length p.functions
    → Err (kinds.BadFunction e.function n) ≡ fits meta e
unfolding fits
bad_function meta e p n found none count = rw (found, none, count) refl

pub bad_count : (meta : Meta) (e : Entry) (p : MetaPackage) (f : MetaFunction) (have want : ℕ) → slice_get meta.packages e.«package» ≡ Some p → slice_get p.functions e.function ≡ Some f
    → length e.counts ≢ length f.units → have ≡ length e.counts → want ≡ length f.units → Err (kinds.BadCount have want) ≡ fits meta e
unfolding fits
bad_count meta e p f have want found function ne h w = rw (found, function, ne_eqb (length e.counts) (length f.units) ne, h, w) refl

pub good : (meta : Meta) (e : Entry) (p : MetaPackage) (f : MetaFunction) → slice_get meta.packages e.«package» ≡ Some p → slice_get p.functions e.function ≡ Some f → length e.counts ≡ length f.units
    → fits meta e ≡ Ok tt
unfolding fits
good meta e p f found function same = rw (found, function, eq-eqb (length e.counts) (length f.units) same) refl

-- all lengths are short
pub short_functions : (meta : Meta) (i : ℕ) (p : MetaPackage) → HasShortParts meta → slice_get meta.packages i ≡ Some p → length p.functions < 2 ^ 32
short_functions meta i p short found =
    let F : MetaPackage → Type 0 = λ (p : MetaPackage). length p.functions < 2 ^ 32 in
    subst F (get_or_from_slice_get meta.packages i p p found) (All-get_or F meta.packages i p (slice_get_within meta.packages i p found) short.few_functions)

pub short_units : (meta : Meta) (i j : ℕ) (p : MetaPackage) (f : MetaFunction) → HasShortParts meta → slice_get meta.packages i ≡ Some p → slice_get p.functions j ≡ Some f → length f.units < 2 ^ 32
short_units meta i j p f short found function =
    let U : MetaFunction → Type 0 = λ (f : MetaFunction). length f.units < 2 ^ 32 in
    let F : MetaPackage → Type 0 = λ (p : MetaPackage). All U p.functions in
    let all : F p = subst F (get_or_from_slice_get meta.packages i p p found) (All-get_or F meta.packages i p (slice_get_within meta.packages i p found) short.few_units) in
    subst U (get_or_from_slice_get p.functions j f f function) (All-get_or U p.functions j f (slice_get_within p.functions j f function) all)
