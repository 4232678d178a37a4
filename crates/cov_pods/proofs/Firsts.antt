-- The first files of each hash, where one more file comes.
use Rattle.std.proofs.Common.{◌≡◌, Bool, true, false, cond, not, ◌||◌, List, [], ◌∷◌, ◌++◌, All, refl, sym, ap, ◌∙◌, ⊎_elim}
use Rattle.std.specs.Prelude.{filter}
use Rattle.std.specs.List.{list_any}
use Rattle.std.specs.Str.{bytes_eq}
use Rattle.std.specs.Cmp.Lexicographic.{nat_list_eq_equiv}
use Rattle.std.proofs.lemmas.Bool.{cases_Bool, not-true}
use Rattle.std.proofs.lemmas.List.{append-nil}
use Rattle.std.proofs.lemmas.List.Elements.{filter-append, filter_passes, All-weaker, All-filter}
use Rattle.std.proofs.lemmas.Map.Views.{any-filter_same}
use Rattle.cov_pods.specs.Pods.{Found, firsts}

-- whether the hash of a file is among those of others
abbrev pub is_met : Found → List Found → Bool
is_met g fs = list_any (λ m. bytes_eq g.hash m.hash) fs

abbrev differs : Found → Found → Bool
differs f g = not (bytes_eq g.hash f.hash)

-- a file with another hash is met among all files where it is met among those that differ from one
met_apart : (f g : Found) (fs : List Found) → bytes_eq g.hash f.hash ≡ false → is_met g (filter (differs f) fs) ≡ is_met g fs
met_apart f g fs other =
    any-filter_same (λ m. bytes_eq g.hash m.hash) (differs f) true
    (λ m same. ap not (sym (nat_list_eq_equiv.congr g.hash m.hash f.hash same) ∙ other))
    fs

kept : (f g : Found) (fs : List Found) (met : Bool) → bytes_eq g.hash f.hash ≡ true → filter (differs f) (cond met fs (fs ++ g ∷ [])) ≡ filter (differs f) fs
kept f g fs true same = refl
kept f g fs false same =
    filter-append (differs f) fs (g ∷ [])
    ∙ ap (λ (b : Bool). filter (differs f) fs ++ cond (not b) (g ∷ []) []) same
    ∙ append-nil (filter (differs f) fs)

added : (f g : Found) (fs : List Found) (met : Bool) → bytes_eq g.hash f.hash ≡ false
    → f ∷ filter (differs f) (cond met fs (fs ++ g ∷ [])) ≡ cond met (f ∷ filter (differs f) fs) ((f ∷ filter (differs f) fs) ++ g ∷ [])
added f g fs true other = refl
added f g fs false other =
    ap (λ (t : List Found). f ∷ t)
    (filter-append (differs f) fs (g ∷ []) ∙ ap (λ (b : Bool). filter (differs f) fs ++ cond (not b) (g ∷ []) []) other)

-- one more file is a first one where its hash is new
pub firsts_push : (fs : List Found) (g : Found) → firsts (fs ++ g ∷ []) ≡ cond (is_met g (firsts fs)) (firsts fs) (firsts fs ++ g ∷ [])
firsts_push [] g = refl
firsts_push (f ∷ fs) g =
    ap (λ (t : List Found). f ∷ filter (differs f) t) (firsts_push fs g)
    ∙ ⊎_elim
    (λ same.
    ap (λ (t : List Found). f ∷ t) (kept f g (firsts fs) (is_met g (firsts fs)) same)
    ∙ ap (λ (b : Bool). cond (b || is_met g (filter (differs f) (firsts fs))) (firsts (f ∷ fs)) (firsts (f ∷ fs) ++ g ∷ [])) (sym same))
    (λ other.
    added f g (firsts fs) (is_met g (firsts fs)) other
    ∙ ap (λ (b : Bool). cond b (firsts (f ∷ fs)) (firsts (f ∷ fs) ++ g ∷ [])) (sym (met_apart f g (firsts fs) other))
    ∙ ap (λ (b : Bool). cond (b || is_met g (filter (differs f) (firsts fs))) (firsts (f ∷ fs)) (firsts (f ∷ fs) ++ g ∷ [])) (sym other))
    (cases_Bool (bytes_eq g.hash f.hash))

-- no hash stands twice
abbrev pub AreApart : List Found → Type 0
AreApart [] = Unit {0}
AreApart (f ∷ fs) = All (λ g. bytes_eq g.hash f.hash ≡ false) fs × AreApart fs

apart_filter : (p : Found → Bool) (fs : List Found) → AreApart fs → AreApart (filter p fs)
apart_filter p [] h = tt
apart_filter p (f ∷ fs) h =
    elim (p f) as (λ b. AreApart (cond b (f ∷ filter p fs) (filter p fs))) [
      | true ↦ (All-filter p (λ g. bytes_eq g.hash f.hash ≡ false) fs h.0, apart_filter p fs h.1)
      | false ↦ apart_filter p fs h.1
    ]

pub firsts_apart : (fs : List Found) → AreApart (firsts fs)
firsts_apart [] = tt
firsts_apart (f ∷ fs) = (
  All-weaker (λ g. differs f g ≡ true) (λ g. bytes_eq g.hash f.hash ≡ false) (λ g e. not-true (bytes_eq g.hash f.hash) e) (filter (differs f) (firsts fs)) (filter_passes (differs f) (firsts fs)),
  apart_filter (differs f) (firsts fs) (firsts_apart fs),
)
