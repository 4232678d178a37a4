-- What value a key has where the first stays.
use Rattle.std.proofs.Common.{◌≡◌, Bool, true, false, cond, List, [], ◌∷◌, ◌++◌, Option, Some, None, is_some, refl, sym, ap, ◌∙◌}
use Rattle.std.specs.Option.{option_or}
use Rattle.std.specs.FinMap as finmap
use Rattle.std.specs.Cmp.{IsTotalOrder}
use Rattle.std.specs.Ordering.{eq_by_cmp}
use Rattle.std.specs.declared.cmp.Ordering.{Ordering}
use Rattle.cov_table.specs.Firsts.{with_first, with_firsts}
use Rattle.cov_table.proofs.Counting.{tied}

first_or : {X : Type 0} (a : Option X) (b : Bool) (x : X) (f : Option X) → option_or (option_or a (cond b (Some x) None)) f ≡ option_or a (cond b (Some x) f)
first_or None true x f = refl
first_or None false x f = refl
first_or (Some y) b x f = refl

or_none : {X : Type 0} (a : Option X) → a ≡ option_or a None
or_none None = refl
or_none (Some x) = refl

or_some : {X : Type 0} (a b : Option X) → is_some a ≡ true → a ≡ option_or a b
or_some None b h = cc
or_some (Some x) b h = refl

is_none : {X : Type 0} (a : Option X) → is_some a ≡ false → a ≡ None
is_none None h = refl
is_none (Some x) h = cc

module _ {K X : Type 0} (R : K → K → Ordering) where
  pub find_append : (q : K) (es fs : List (K × X)) → finmap.find R q (es ++ fs) ≡ option_or (finmap.find R q es) (finmap.find R q fs)
  find_append q [] fs = refl
  find_append q (e ∷ es) fs =
      elim (eq_by_cmp R q e.0) as (λ b. cond b (Some e.1) (finmap.find R q (es ++ fs)) ≡ option_or (cond b (Some e.1) (finmap.find R q es)) (finmap.find R q fs)) [ true ↦ refl | false ↦ find_append q es fs ]

module _ {K X : Type 0} {R : K → K → Ordering} where
  module _ (o : IsTotalOrder R) where
    get_first : (m : finmap.FinMap R X) (k : K) (x : X) (q : K) → finmap.get (with_first m k x) q ≡ option_or (finmap.get m q) (cond (eq_by_cmp R q k) (Some x) None)
    get_first m k x q =
        elim (finmap.contains_key m k) as (λ b. finmap.contains_key m k ≡ b → finmap.get (cond b m (finmap.insert m k x)) q ≡ option_or (finmap.get m q) (cond (eq_by_cmp R q k) (Some x) None)) [
          | true ↦ λ there.
              elim (eq_by_cmp R q k) as (λ b. eq_by_cmp R q k ≡ b → finmap.get m q ≡ option_or (finmap.get m q) (cond b (Some x) None)) [
                | true ↦ λ t. or_some (finmap.get m q) (Some x) (ap is_some (sym (finmap.get_tied o m q k (tied _ t))) ∙ there)
                | false ↦ λ t. or_none (finmap.get m q)
              ] refl
          | false ↦ λ there.
              finmap.get-insert o m k x q
              ∙ elim (eq_by_cmp R q k) as (λ b. eq_by_cmp R q k ≡ b → cond b (Some x) (finmap.get m q) ≡ option_or (finmap.get m q) (cond b (Some x) None)) [
                | true ↦ λ t. ap (λ a. option_or a (Some x)) (sym (sym (finmap.get_tied o m q k (tied _ t)) ∙ is_none (finmap.get m k) there))
                | false ↦ λ t. or_none (finmap.get m q)
              ] refl
        ] refl

    -- the value that is there, else the first of those that come
    pub get_firsts : (m : finmap.FinMap R X) (es : List (K × X)) (q : K) → finmap.get (with_firsts m es) q ≡ option_or (finmap.get m q) (finmap.find R q es)
    get_firsts m [] q = or_none (finmap.get m q)
    get_firsts m (e ∷ es) q =
        get_firsts (with_first m e.0 e.1) es q
        ∙ ap (λ a. option_or a (finmap.find R q es)) (get_first m e.0 e.1 q)
        ∙ first_or (finmap.get m q) (eq_by_cmp R q e.0) e.1 (finmap.find R q es)

    pub firsts_added : finmap.IsAntisymmetric R → (es fs : List (K × X)) → finmap.from_entries (es ++ fs) ≡ with_firsts (finmap.from_entries {R = R} es) fs
    firsts_added same es fs =
        finmap.same_map o same _ _ (λ q. finmap.get-from_entries o (es ++ fs) q
        ∙ find_append R q es fs
        ∙ ap (λ a. option_or a (finmap.find R q fs)) (sym (finmap.get-from_entries o es q))
        ∙ sym (get_firsts (finmap.from_entries es) fs q))
