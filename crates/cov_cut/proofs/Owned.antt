-- The function in whose body a list stands, by how many functions begin up to it.
use Rattle.std.proofs.Common.{◌≡◌, ℕ, zero, suc, ◌-◌, ◌<◌, ◌≤◌, true, false, List, [], ◌∷◌, length, get_or, refl, sym, ap, ◌∙◌, arith, nat_lt}
use Rattle.std.specs.Prelude.{if◌then◌else◌, not, bytes_eq, codes}
use Rattle.std.proofs.lemmas.Bool.Decides.{nat_tests}
use Rattle.std.proofs.lemmas.List.{get_or_default}
use Rattle.go_meaning.specs.declared.program.Function.{Function}
use Rattle.go_meaning.specs.Programs.{no_function, owner_from}
use Rattle.cov_cut.specs.Owners.{HaveBegun, is_cut}

last_of : Function → List Function → ℕ → Function
last_of d fs zero = d
last_of d [] (suc f) = d
last_of d (g ∷ gs) (suc f) = last_of g gs f

last_is : (d : Function) (fs : List Function) (f : ℕ) → f < length fs → last_of d fs (suc f) ≡ get_or fs f d
unfolding last_of
last_is d [] f lt = absurd (omega (arith, lt))
last_is d (g ∷ gs) zero lt = refl
last_is d (g ∷ gs) (suc f) lt = last_is g gs f (omega (arith, lt)) ∙ get_or_default gs f g d (omega (arith, lt))

below : (n b : ℕ) → n < b → nat_lt n b ≡ true
below n b lt = grind (arith, nat_tests)

not_below : (n b : ℕ) → b ≤ n → nat_lt n b ≡ false
not_below n b le = grind (arith, nat_tests)

owner_is : (d : Function) (fs : List Function) (f n : ℕ) → HaveBegun fs f n → owner_from d fs n ≡ last_of d fs f
unfolding last_of
owner_is d [] zero n h = refl
owner_is d [] (suc f) n h = refl
owner_is d (g ∷ gs) zero n h = ap (λ b. if b then d else owner_from g gs n) (below n g.body (h.next g (omega arith)))
owner_is d (g ∷ gs) (suc f) n h =
    let rest : HaveBegun gs f n = record {
      within = omega (arith, h.within);
      begun = λ i e lt. h.begun (suc i) e (omega (arith, lt));
      next = λ e lt. h.next e (omega (arith, lt));
    } in
    ap (λ b. if b then d else owner_from g gs n) (not_below n g.body (h.begun 0 g (omega arith))) ∙ owner_is g gs f n rest

pub first_owner : (fs : List Function) (n : ℕ) → HaveBegun fs 0 n → true ≡ is_cut fs n
unfolding last_of
first_owner fs n h = sym (ap (λ (o : Function). not (bytes_eq o.name (codes "_"))) (owner_is no_function fs 0 n h))

pub later_owner : (fs : List Function) (f n : ℕ) → 0 < f → HaveBegun fs f n → not (bytes_eq (get_or fs (f - 1) no_function).name (codes "_")) ≡ is_cut fs n
later_owner fs zero n some h = absurd (omega (arith, some))
later_owner fs (suc f) n some h =
    let one_less : suc f - 1 ≡ f = omega arith in
    ap (λ k. not (bytes_eq (get_or fs k no_function).name (codes "_"))) one_less
    ∙ ap (λ (o : Function). not (bytes_eq o.name (codes "_"))) (sym (last_is no_function fs f (omega (arith, h.within))) ∙ sym (owner_is no_function fs (suc f) n h))
