-- The reader of the trailer's front, or of something else, is good.
use Rattle.std.proofs.Common.{◌≡◌, ℕ, zero, suc, ◌≤◌, ◌<◌, Bool, true, false, List, [], ◌∷◌, ◌++◌, length, Option, Some, None, Result, Ok, Err, refl, sym, ap, subst, ◌∙◌, arith, nat_le}
use Rattle.std.proofs.lemmas.List.{append-nil}
use Rattle.std.proofs.lemmas.Bool.{le-ltb, leb-true, leb-false}
use Rattle.go_ast.specs.declared.token.TokenKind.{TokenKind}
use Rattle.go_ast.specs.declared.token.TokenKind.TheVariants as kind
use Rattle.go_ast.specs.declared.decl.Decl.{Decl}
use Rattle.go_grammar.specs.declared.form.Form.{Form as TextForm}
use Rattle.go_ast.specs.declared.name.Name.{Name}
use Rattle.go_grammar.specs.Trees.{name_of}
use Rattle.go_grammar.specs.Words.{Word}
use Rattle.go_grammar.specs.Terminals as t
use Rattle.go_grammar.specs.Patterns.{any, AllFit}
use Rattle.go_grammar.specs.Covering.{name}
use Rattle.go_reading.specs.declared.fault.Fault.{Fault}
use Rattle.go_reading.specs.declared.fault.Fault.TheVariants.{Unexpected, TooDeep, TooMany, Exhausted}
use Rattle.go_reading.specs.Kinds.{is, begins, begins_type}
use Rattle.go_reading.specs.Lists.{row_from, group_of}
use Rattle.go_reading.specs.Types.{names, maybe_type}
use Rattle.go_reading.specs.Exprs.{exprs}
use Rattle.go_reading.specs.Specs.{var_spec, vars, values_of}
use Rattle.go_reading.specs.Decls.{declaration}
use Rattle.go_reading.specs.Counters.{expect_all}
use Rattle.go_reading.specs.Files.{trailer_front, front_by, or_trailer}
use Rattle.go_reading.specs.Input.{Outcome, Reader, Tall, go_on, ◌>>=◌, pure, kind_of, take_as, expect_as}
use Rattle.go_reading.proofs.Good.{Stable, Room, Form, At, Good, Rises, Filled, first, first_append}
use Rattle.go_reading.proofs.OverGood.{tails, later_cut, joined}
use Rattle.go_reading.proofs.FitGood.{AllOf, end_of, expect_all_good}
use Rattle.go_reading.proofs.FitRead.{all_read}
use Rattle.go_reading.proofs.RowsRead.{sees, kind_is, is_other}
use Rattle.go_reading.proofs.BareGood.{unbegun}
use Rattle.go_reading.proofs.Alike.{good_map}
use Rattle.go_reading.proofs.OrGood.{Lasting}
use Rattle.go_reading.proofs.Own.{fit_cons}

-- ---- no declaration goes on with the front of the trailer

struct_no : (s : Word) (r : List Word) → s.kind ≡ t.struct_word → begins (kind_of (s ∷ r)) ≡ false
unfolding begins
struct_no s r k = rw k refl

assign_no_type : (o : Option TokenKind) → o ≡ Some t.assign → begins_type o ≡ false
unfolding begins_type
assign_no_type o e = rw e refl

names_one : (n : ℕ) (v e : Word) (r : List Word) → v.kind ≡ kind.Name → e.kind ≡ t.assign → (ns : List Name) × (names (suc n) (v ∷ e ∷ r) ≡ (Ok ns, e ∷ r))
unfolding names row_from expect_as
names_one n v e r kv ke = (name_of v ∷ [], rw (sees v (e ∷ r) kind.Name kv, is_other (kind_of (e ∷ r)) t.assign t.comma (kind_is e r t.assign ke) refl) refl)

exprs_none : (n d : ℕ) (s : Word) (r : List Word) → s.kind ≡ t.struct_word → exprs (suc n) (suc d) (s ∷ r) ≡ (Err Unexpected, s ∷ r)
unfolding exprs row_from
exprs_none n d s r k = rw (unbegun (suc n) d (s ∷ r) (struct_no s r k)) refl

maybe_none : (d : ℕ) (e : Word) (r : List Word) → e.kind ≡ t.assign → maybe_type d (e ∷ r) ≡ (Ok (None, 0), e ∷ r)
unfolding maybe_type
maybe_none d e r ke = rw (assign_no_type (kind_of (e ∷ r)) (kind_is e r t.assign ke)) refl

spec_none : (n d : ℕ) (v e s : Word) (r : List Word) → v.kind ≡ kind.Name → e.kind ≡ t.assign → s.kind ≡ t.struct_word → var_spec (suc n) (suc d) (v ∷ e ∷ s ∷ r) ≡ (Err Unexpected, s ∷ r)
unfolding var_spec values_of expect_as
spec_none n d v e s r kv ke ks =
    let a = names_one n v e (s ∷ r) kv ke in
    rw (a.1, maybe_none (suc d) e (s ∷ r) ke, sees e (s ∷ r) t.assign ke, exprs_none n d s r ks) refl

vars_none : (n d : ℕ) (v e s : Word) (r : List Word) → v.kind ≡ kind.Name → e.kind ≡ t.assign → s.kind ≡ t.struct_word → vars (suc n) (suc d) (v ∷ e ∷ s ∷ r) ≡ (Err Unexpected, s ∷ r)
unfolding vars group_of
vars_none n d v e s r kv ke ks =
    rw (is_other (kind_of (v ∷ e ∷ s ∷ r)) kind.Name t.left_parenthesis (kind_is v (e ∷ s ∷ r) kind.Name kv) refl, sees v (e ∷ s ∷ r) kind.Name kv, le-ltb (suc d) 1 (omega arith), spec_none n d v e s r kv ke ks) refl

pub struct_ends : (form : TextForm) (n m d : ℕ) (k v e s : Word) (r : List Word) → k.kind ≡ t.var_word → v.kind ≡ kind.Name → e.kind ≡ t.assign → s.kind ≡ t.struct_word → declaration form (suc n) m (suc d) (k ∷ v ∷ e ∷ s ∷ r) ≡ (Err Unexpected, s ∷ r)
unfolding declaration take_as
struct_ends form n m d k v e s r kk kv ke ks =
    rw (is_other (kind_of (k ∷ v ∷ e ∷ s ∷ r)) t.var_word t.const_word (kind_is k (v ∷ e ∷ s ∷ r) t.var_word kk) refl, sees k (v ∷ e ∷ s ∷ r) t.var_word kk, vars_none n d v e s r kv ke ks) refl

-- ---- the front, or something else

module _ {A : Type 0} (var : List ℕ) (R : Form A) where
  abbrev pub EndOr : Form (Option A)
  EndOr b None w = AllFit (trailer_front var) w
  EndOr b (Some x) w = R b x w

  pub end_or_rises : Rises R → Rises EndOr
  end_or_rises rises b c le None w i = i
  end_or_rises rises b c le (Some x) w i = rises b c le x w i

  with_some : Reader A → Reader (Option A)
  with_some o = o >>= λ x. pure (Some x)

  or_at_ok : (o : Reader A) (ts : List Word) (e : ℕ) (rest : List Word) → expect_all (trailer_front var) 0 ts ≡ (Ok e, rest) → or_trailer var o ts ≡ (Ok None, rest)
  unfolding or_trailer
  or_at_ok o ts e rest is = rw is refl

  or_at_err : (o : Reader A) (ts : List Word) (f : Fault) (rest : List Word) → expect_all (trailer_front var) 0 ts ≡ (Err f, rest) → or_trailer var o ts ≡ with_some o ts
  unfolding or_trailer with_some
  or_at_err o ts f rest is = rw is refl

  module _ (K : Fault → Type 0) (never : K Exhausted → ⊥) (n : ℕ) (d : Room) (p q big : Reader A) (p_good : (ts : List Word) → Good n d K R p q ts) (big_good : (ts : List Word) → Good n d Lasting R p big ts)
      (big_ends : (k v e s : Word) → k.kind ≡ t.var_word → v.kind ≡ kind.Name → e.kind ≡ t.assign → s.kind ≡ t.struct_word → big (k ∷ v ∷ e ∷ s ∷ []) ≡ (Err Unexpected, s ∷ [])) where
    Front : List Word → Result ℕ Fault → List Word → Type 0
    Front ts v rest = At n d (λ _. Unit {0}) (AllOf (trailer_front var) 0) (expect_all (trailer_front var) 0) ts v rest

    module _ (ts : List Word) (e : Fault) (rest : List Word) (is : expect_all (trailer_front var) 0 ts ≡ (Err e, rest)) (f : Front ts (Err e) rest) where
      -- what else is read isn't broken off before
      clash : (v : Result A Fault) (behind : List Word) → Stable Lasting v → At n d Lasting R big ts v behind → length rest < length behind → ⊥
      unfolding Front
      clash v behind st g lt =
          let z = later_cut g.front f.front behind rest (sym g.cut ∙ f.cut) (omega arith) in
          by z.0 z.1 z.2
        where
          by : (z : List Word) → f.front ≡ g.front ++ z → behind ≡ z ++ rest → ⊥
          by [] fe be = let l : length behind ≡ length rest = ap length be in omega arith
          by (y ∷ ys) fe be =
              let m = f.means in
              let more = m.0 in
              let fit = m.2.0 in
              let k = fit_cons (any t.var_word) (name var ∷ any t.assign ∷ any t.struct_word ∷ []) (f.front ++ more) fit in
              let x = fit_cons (name var) (any t.assign ∷ any t.struct_word ∷ []) k.1 k.4 in
              let a = fit_cons (any t.assign) (any t.struct_word ∷ []) x.1 x.4 in
              let s = fit_cons (any t.struct_word) [] a.1 a.4 in
              let none : s.1 ≡ [] = no_more s.1 s.4 in
              let text : f.front ++ more ≡ k.0 ∷ x.0 ∷ a.0 ∷ s.0 ∷ [] = k.2 ∙ ap (λ (w : List Word). k.0 ∷ w) (x.2 ∙ ap (λ (w : List Word). x.0 ∷ w) (a.2 ∙ ap (λ (w : List Word). a.0 ∷ w) (s.2 ∙ ap (λ (w : List Word). s.0 ∷ w) none))) in
              let whole : f.front ++ more ≡ g.front ++ (y ∷ (ys ++ more)) = joined f.front g.front (y ∷ ys) more (y ∷ (ys ++ more)) fe refl in
              let b1 : big (f.front ++ more) ≡ (v, y ∷ (ys ++ more)) = ap big whole ∙ g.same st (y ∷ (ys ++ more)) (sym (ap first be)) in
              let b2 : big (f.front ++ more) ≡ (Err Unexpected, s.0 ∷ []) = ap big text ∙ big_ends k.0 x.0 a.0 s.0 k.3.0 x.3.0 a.3.0 s.3.0 in
              let tail : ys ++ more ≡ [] = tails y s.0 (ys ++ more) [] (ap (λ (o : Outcome A). o.1) (sym b1 ∙ b2)) in
              let gone : more ≡ [] = no_tail ys more tail in
              let cut : ts ≡ f.front ++ rest = f.cut in
              let fit2 : AllFit (trailer_front var) f.front = subst (AllFit (trailer_front var)) (ap (λ (w : List Word). f.front ++ w) gone ∙ append-nil f.front) fit in
              not_err (end_of 0 f.front) e (ap (λ (o : Outcome ℕ). o.0) (sym (ap (expect_all (trailer_front var) 0) cut ∙ all_read (trailer_front var) f.front fit2 0 rest) ∙ is))
            where
              no_more : (w : List Word) → AllFit [] w → w ≡ []
              no_more [] i = refl
              no_more (b ∷ w) i = absurd i

              no_tail : (u w : List Word) → u ++ w ≡ [] → w ≡ []
              no_tail [] w e = e
              no_tail (b ∷ u) w e = absurd cc

              number_of : ℕ → Result ℕ Fault
              number_of i = Ok i

              not_err : (i : ℕ) (g : Fault) → number_of i ≡ Err g → ⊥
              not_err i g e = cc

      short : (v : Result A Fault) (behind : List Word) → At n d Lasting R big ts v behind → length rest < length behind → v ≡ Err Exhausted
      short (Ok x) behind g lt = absurd (clash (Ok x) behind tt g lt)
      short (Err Unexpected) behind g lt = absurd (clash (Err Unexpected) behind tt g lt)
      short (Err TooDeep) behind g lt = absurd (clash (Err TooDeep) behind tt g lt)
      short (Err TooMany) behind g lt = absurd (clash (Err TooMany) behind tt g lt)
      short (Err Exhausted) behind g lt = refl

      finish : (v : Result (Option A) Fault) (behind : List Word) → At n d K EndOr (with_some q) ts v behind → length behind ≤ length rest → At n d K EndOr (or_trailer var q) ts v behind
      unfolding Front
      finish v behind g le =
          let z = later_cut f.front g.front rest behind (sym f.cut ∙ g.cut) le in
          record {
            front = g.front;
            cut = g.cut;
            same = λ s r k.
                let whole : g.front ++ r ≡ f.front ++ (z.0 ++ r) = joined g.front f.front z.0 r (z.0 ++ r) z.1 refl in
                let broke : expect_all (trailer_front var) 0 (f.front ++ (z.0 ++ r)) ≡ (Err e, z.0 ++ r) = f.same tt (z.0 ++ r) (first_append z.0 r behind k ∙ ap first (sym z.2)) in
                or_at_err q (g.front ++ r) e (z.0 ++ r) (ap (expect_all (trailer_front var) 0) whole ∙ broke) ∙ g.same s r k;
            means = g.means;
            filled = g.filled;
            enough = g.enough;
          }

      out_of_turns : (behind : List Word) → At n d K EndOr (with_some q) ts (Err Exhausted) behind → At n d K EndOr (or_trailer var q) ts (Err Exhausted) behind
      out_of_turns behind g = record { front = g.front; cut = g.cut; same = λ s. absurd (never s); means = g.means; filled = g.filled; enough = g.enough }

      mapped : (v : Result A Fault) (behind : List Word) → At n d K R q ts v behind → At n d K EndOr (with_some q) ts (go_on v behind (λ x. pure (Some x))).0 (go_on v behind (λ x. pure (Some x))).1
      unfolding with_some
      mapped v behind g = good_map n d K R EndOr (λ x. Some x) q ts v behind (λ b x w i. i) g

      else_by : (v : Result A Fault) (behind : List Word) → At n d K R q ts v behind → At n d Lasting R big ts v behind → (b : Bool) → nat_le (length behind) (length rest) ≡ b → At n d K EndOr (or_trailer var q) ts (go_on v behind (λ x. pure (Some x))).0 (go_on v behind (λ x. pure (Some x))).1
      else_by (Ok x) behind g h true l = finish (Ok (Some x)) behind (mapped (Ok x) behind g) (leb-true (length behind) (length rest) l)
      else_by (Err y) behind g h true l = finish (Err y) behind (mapped (Err y) behind g) (leb-true (length behind) (length rest) l)
      else_by (Ok x) behind g h false l = let z = short (Ok x) behind h (leb-false (length behind) (length rest) l) in absurd cc
      else_by (Err Exhausted) behind g h false l = out_of_turns behind (mapped (Err Exhausted) behind g)
      else_by (Err Unexpected) behind g h false l = let z = short (Err Unexpected) behind h (leb-false (length behind) (length rest) l) in absurd cc
      else_by (Err TooDeep) behind g h false l = let z = short (Err TooDeep) behind h (leb-false (length behind) (length rest) l) in absurd cc
      else_by (Err TooMany) behind g h false l = let z = short (Err TooMany) behind h (leb-false (length behind) (length rest) l) in absurd cc

    some_filled : (b : Room) → Filled b R → Filled b EndOr
    some_filled b g = (Some g.0, g.1, g.2)

    by_front : (ts : List Word) (v : Result ℕ Fault) (rest : List Word) → expect_all (trailer_front var) 0 ts ≡ (v, rest) → Front ts v rest → Good n d K EndOr (or_trailer var p) (or_trailer var q) ts
    unfolding Front with_some
    by_front ts (Ok e) rest is f =
        let P : Outcome (Option A) → Type 0 = λ o. At n d K EndOr (or_trailer var q) ts o.0 o.1 in
        subst P (sym (or_at_ok p ts e rest is)) (record {
          front = f.front;
          cut = f.cut;
          same = λ s r k. or_at_ok q (f.front ++ r) e r (f.same tt r k);
          means = f.means.0;
          filled = λ b le. some_filled b ((p_good ts).filled b le);
          enough = λ lt x. cc;
        })
    by_front ts (Err e) rest is f =
        let P : Outcome (Option A) → Type 0 = λ o. At n d K EndOr (or_trailer var q) ts o.0 o.1 in
        subst P (sym (or_at_err p ts e rest is)) (else_by ts e rest is f (p ts).0 (p ts).1 (p_good ts) (big_good ts) (nat_le (length (p ts).1) (length rest)) refl)

    pub or_trailer_good : (ts : List Word) → Good n d K EndOr (or_trailer var p) (or_trailer var q) ts
    unfolding Front
    or_trailer_good ts = by_front ts (expect_all (trailer_front var) 0 ts).0 (expect_all (trailer_front var) 0 ts).1 refl (expect_all_good n d (λ _. Unit {0}) (trailer_front var) 0 ts)

-- ---- what is read

pub or_front : {A : Type 0} (var : List ℕ) (o : Reader A) (ts : List Word) (e : ℕ) (rest : List Word) → expect_all (trailer_front var) 0 ts ≡ (Ok e, rest) → or_trailer var o ts ≡ (Ok None, rest)
unfolding or_trailer
or_front var o ts e rest is = rw is refl

pub or_item : {A : Type 0} (var : List ℕ) (o : Reader A) (ts : List Word) (x : A) (rest : List Word) → o ts ≡ (Ok x, rest) → ((e : ℕ) (r : List Word) → expect_all (trailer_front var) 0 ts ≡ (Ok e, r) → ⊥) → or_trailer var o ts ≡ (Ok (Some x), rest)
unfolding or_trailer
or_item {A} var o ts x rest reads none = by (expect_all (trailer_front var) 0 ts).0 (expect_all (trailer_front var) 0 ts).1 refl
  where
    by : (v : Result ℕ Fault) (r : List Word) → expect_all (trailer_front var) 0 ts ≡ (v, r) → front_by (o >>= λ y. pure (Some y)) ts v r ≡ (Ok (Some x), rest)
    by (Ok e) r is = absurd (none e r is)
    by (Err f) r is = rw reads refl

pub no_front : (form : TextForm) (n m d : ℕ) → 1 ≤ n → 1 ≤ d → (var : List ℕ) (ts : List Word) (x : Tall Decl) (rest : List Word) → declaration form n m d ts ≡ (Ok x, rest) → (e : ℕ) (r : List Word) → expect_all (trailer_front var) 0 ts ≡ (Ok e, r) → ⊥
no_front form zero m d ln ld var ts x rest reads e r is = absurd (omega arith)
no_front form (suc n) m zero ln ld var ts x rest reads e r is = absurd (omega arith)
no_front form (suc n) m (suc d) ln ld var ts x rest reads e r is =
    let P : Outcome ℕ → Type 0 = λ o. At 0 (0, 0) (λ _. Unit {0}) (AllOf (trailer_front var) 0) (expect_all (trailer_front var) 0) ts o.0 o.1 in
    let f : At 0 (0, 0) (λ _. Unit {0}) (AllOf (trailer_front var) 0) (expect_all (trailer_front var) 0) ts (Ok e) r = subst P is (expect_all_good 0 (0, 0) (λ _. Unit {0}) (trailer_front var) 0 ts) in
    let k = fit_cons (any t.var_word) (name var ∷ any t.assign ∷ any t.struct_word ∷ []) f.front f.means.0 in
    let v = fit_cons (name var) (any t.assign ∷ any t.struct_word ∷ []) k.1 k.4 in
    let a = fit_cons (any t.assign) (any t.struct_word ∷ []) v.1 v.4 in
    let s = fit_cons (any t.struct_word) [] a.1 a.4 in
    let text : ts ≡ k.0 ∷ v.0 ∷ a.0 ∷ s.0 ∷ (s.1 ++ r) = f.cut ∙ ap (λ (w : List Word). w ++ r) (k.2 ∙ ap (λ (w : List Word). k.0 ∷ w) (v.2 ∙ ap (λ (w : List Word). v.0 ∷ w) (a.2 ∙ ap (λ (w : List Word). a.0 ∷ w) s.2))) in
    ok_or (ap (λ (o : Outcome (Tall Decl)). o.0) (sym reads ∙ ap (declaration form (suc n) m (suc d)) text ∙ struct_ends form n m d k.0 v.0 a.0 s.0 (s.1 ++ r) k.3.0 v.3.0 a.3.0 s.3.0))
  where
    given : Tall Decl → Result (Tall Decl) Fault
    given y = Ok y

    ok_or : given x ≡ Err Unexpected → ⊥
    ok_or e = cc
