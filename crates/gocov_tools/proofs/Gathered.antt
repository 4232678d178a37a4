-- Texts and totals that are gathered one after the other.
use Rattle.std.proofs.Common.{◌≡◌, ◌≢◌, ℕ, ◌+◌, ◌-◌, ◌^◌, ◌<◌, ◌≤◌, min, List, [], ◌∷◌, ◌++◌, length, take, get_or, Bool, true, false, ◌&&◌, refl, sym, ap, ◌∙◌, arith, cond}
use Rattle.std.specs.Prelude.{sum_by, flat_map, fold, if◌then◌else◌}
use Rattle.std.specs.List.{list_any, list_all}
use Rattle.std.specs.Str.{bytes_eq}
use Rattle.std.proofs.lemmas.List.{take_more, length_push}
use Rattle.std.proofs.lemmas.List.Concat.{flat_map-append}
use Rattle.std.proofs.lemmas.List.Folds.{list_all-append}
use Rattle.std.proofs.lemmas.List.Sums.{sum_by_push, fold-append}
use Rattle.cov_bytes.specs.Intern.{with_text}
use Rattle.cov_meta.specs.declared.meta.MetaFunction.{MetaFunction}
use Rattle.cov_meta.specs.declared.meta.MetaPackage.{MetaPackage}
use Rattle.cov_meta.specs.Written.{with_texts, function_texts, texts_of}
use Rattle.gocov_tools.specs.Measure.{saturated, is_short, has_short_texts, function_count, text_count, text_bytes, AreTotals, AddsPackage}
use Rattle.gocov_tools.specs.Texts.{AreMeasured}
use Rattle.gocov_tools.specs.declared.measure.Totals.{Totals}
use Rattle.gocov_tools.specs.declared.package_texts.Texts.{Texts}

-- ---- one text

either : (b : Bool) (table : List (List ℕ)) (text : List ℕ) → length (if b then table else table ++ text ∷ []) ≢ length table → (if b then table else table ++ text ∷ []) ≡ table ++ text ∷ []
either true table text h = absurd (h refl)
either false table text h = refl

or_same : (b : Bool) (table : List (List ℕ)) (text : List ℕ) → length (if b then table else table ++ text ∷ []) ≡ length table → (if b then table else table ++ text ∷ []) ≡ table
or_same true table text h = refl
or_same false table text h = absurd (omega (arith, length_push table text))

-- a text that made the table longer is its last
pub new_text : (table : List (List ℕ)) (text : List ℕ) → length (with_text table text) ≢ length table → with_text table text ≡ table ++ text ∷ []
new_text table text h = either (list_any (bytes_eq text) table) table text h

pub old_text : (table : List (List ℕ)) (text : List ℕ) → length (with_text table text) ≡ length table → with_text table text ≡ table
old_text table text h = or_same (list_any (bytes_eq text) table) table text h

pub more_bytes : (table : List (List ℕ)) (text : List ℕ) (bytes new : ℕ) → bytes ≡ saturated (sum_by length table) → new ≡ min (bytes + length text) (2 ^ 64 - 1) → new ≡ saturated (sum_by length (table ++ text ∷ []))
more_bytes table text bytes new h n = let s = sum_by_push length table text in omega (arith, s)

and_true : (b : Bool) → (b && true) ≡ b
and_true true = refl
and_true false = refl

pub more_short : {X : Type 0} (p : X → Bool) (xs : List X) (x : X) (short new : Bool) → short ≡ list_all p xs → new ≡ (short && p x) → new ≡ list_all p (xs ++ x ∷ [])
more_short p xs x short new h n = n ∙ ap (λ (b : Bool). b && p x) h ∙ sym (list_all-append p xs (x ∷ []) ∙ ap (λ (b : Bool). list_all p xs && b) (and_true (p x)))

-- a text that was there already changes nothing
pub still_measured : (old new : Texts) (text : List ℕ) → AreMeasured old → new.table ≡ with_text old.table text → length new.table ≡ length old.table → new.bytes ≡ old.bytes → new.short ≡ old.short → AreMeasured new
still_measured old new text m is len bytes short =
    let same : new.table ≡ old.table = is ∙ old_text old.table text (ap length (sym is) ∙ len) in
    record { bytes = bytes ∙ m.bytes ∙ ap (λ (t : List (List ℕ)). saturated (sum_by length t)) (sym same); short = short ∙ m.short ∙ ap (list_all is_short) (sym same) }

pub now_measured : (old new : Texts) (text : List ℕ) → AreMeasured old → new.table ≡ with_text old.table text → length new.table ≢ length old.table → new.bytes ≡ min (old.bytes + length text) (2 ^ 64 - 1)
    → new.short ≡ (old.short && is_short text) → AreMeasured new
now_measured old new text m is len bytes short =
    let more : new.table ≡ old.table ++ text ∷ [] = is ∙ new_text old.table text (λ e. len (ap length is ∙ e)) in
    record {
      bytes = more_bytes old.table text old.bytes new.bytes m.bytes bytes ∙ ap (λ (t : List (List ℕ)). saturated (sum_by length t)) (sym more);
      short = more_short is_short old.table text old.short new.short m.short short ∙ ap (list_all is_short) (sym more);
    }

-- ---- functions

pub more_functions : (table new : List (List ℕ)) (fs : List MetaFunction) (i : ℕ) (f : MetaFunction) (before : List (List ℕ)) → i < length fs → f ≡ get_or fs i f → before ≡ with_texts table (flat_map function_texts (take i fs))
    → new ≡ with_text (with_text before f.name) f.file → new ≡ with_texts table (flat_map function_texts (take (i + 1) fs))
more_functions table new fs i f before lt is h n =
    n ∙ ap (λ (ts : List (List ℕ)). with_text (with_text ts f.name) f.file) h
    ∙ sym (
    ap (with_texts table) (ap (flat_map function_texts) (take_more fs i f lt ∙ ap (λ (g : MetaFunction). take i fs ++ g ∷ []) (sym is)) ∙ flat_map-append function_texts (take i fs) (f ∷ []))
    ∙ fold-append with_text table (flat_map function_texts (take i fs)) (f.name ∷ f.file ∷ [])
    )

-- all texts of a package, one after the other
pub all_texts : (p : MetaPackage) (start a b c d : List (List ℕ)) (name path unit : List ℕ) (fs : List MetaFunction) → start ≡ [] → name ≡ p.name → path ≡ p.path → unit ≡ p.«module» → fs ≡ p.functions
    → a ≡ with_text start name → b ≡ with_text a path → c ≡ with_text b unit → d ≡ with_texts c (flat_map function_texts fs) → d ≡ texts_of p
unfolding texts_of
all_texts p start a b c d name path unit fs s n q m f e g h k =
    let three : c ≡ with_text (with_text (with_text [] name) path) unit =
    h ∙ ap (λ (t : List (List ℕ)). with_text t unit) (g ∙ ap (λ (t : List (List ℕ)). with_text t path) (e ∙ ap (λ (t : List (List ℕ)). with_text t name) s)) in
    let named : with_text (with_text (with_text [] name) path) unit ≡ with_text (with_text (with_text [] p.name) p.path) p.«module» = rw (n, q, m) refl in
    k ∙ ap (λ (t : List (List ℕ)). with_texts t (flat_map function_texts fs)) (three ∙ named)
    ∙ ap (λ (gs : List MetaFunction). with_texts (with_text (with_text (with_text [] p.name) p.path) p.«module») (flat_map function_texts gs)) f

-- ---- packages

add_up : (s c n m : ℕ) → n ≡ saturated s → m ≡ saturated (n + c) → m ≡ saturated (s + c)
add_up s c n m h k = omega arith

pub more_packages : (ps : List MetaPackage) (i : ℕ) (p : MetaPackage) (totals new : Totals) → i < length ps → p ≡ get_or ps i p → AreTotals (take i ps) totals → AddsPackage totals p new → AreTotals (take (i + 1) ps) new
more_packages ps i p totals new lt is t a =
    let next : take (i + 1) ps ≡ take i ps ++ p ∷ [] = take_more ps i p lt ∙ ap (λ (q : MetaPackage). take i ps ++ q ∷ []) (sym is) in
    record {
      functions = add_up _ _ _ _ t.functions a.functions ∙ ap saturated (sym (ap (sum_by function_count) next ∙ sum_by_push function_count (take i ps) p));
      texts = add_up _ _ _ _ t.texts a.texts ∙ ap saturated (sym (ap (sum_by text_count) next ∙ sum_by_push text_count (take i ps) p));
      bytes = add_up _ _ _ _ t.bytes a.bytes ∙ ap saturated (sym (ap (sum_by text_bytes) next ∙ sum_by_push text_bytes (take i ps) p));
      short = more_short has_short_texts (take i ps) p totals.short new.short t.short a.short ∙ ap (list_all has_short_texts) (sym next);
    }
