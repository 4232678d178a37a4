-- A look-up of texts after one more was noted.
use Rattle.std.proofs.Common.{◌≡◌, ℕ, ◌+◌, ◌≤◌, Bool, true, false, cond, eqb, ltb, List, [], ◌∷◌, ◌++◌, length, take, Option, Some, None, refl, sym, ap, ◌∙◌, ⊎_elim, is_some, arith}
use Rattle.std.specs.Prelude.{position}
use Rattle.std.specs.List.{position_or_len, list_any}
use Rattle.std.specs.Option.{option_or}
use Rattle.std.specs.Str.{bytes_eq}
use Rattle.std.specs.Cmp.Lexicographic.{nat_list_eq_equiv, bytes_decides}
use Rattle.std.specs.Map.{KeepsOthers, lookup}
use Rattle.std.proofs.lemmas.Bool.{cases_Bool, false≢true}
use Rattle.std.proofs.lemmas.Bool.Decides.{nat_tests}
use Rattle.std.proofs.lemmas.List.Folds.{position_or_len_push}
use Rattle.std.proofs.lemmas.List.{length_push}
use Rattle.std.proofs.Math.Seq.{take-length}
use Rattle.cov_bytes.specs.Intern.{FindsFirst, index_of, with_text}

position_within : {X : Type 0} (p : X → Bool) (xs : List X) → position_or_len p xs ≤ length xs
position_within p [] = omega arith
position_within p (x ∷ xs) = let rest = position_within p xs in grind (arith, nat_tests)

length_more : {X : Type 0} (xs : List X) (y : X) → length (xs ++ y ∷ []) ≡ length xs + 1
length_more xs y = length_push xs y

-- the first place of what passes, where one more element stands at the end
pub position_push : {X : Type 0} (p : X → Bool) (xs : List X) (y : X) → position p (xs ++ y ∷ []) ≡ option_or (position p xs) (cond (p y) (Some (length xs)) None)
position_push p xs y =
    let place = position_or_len_push p xs y in
    let n = length_more xs y in
    let le = position_within p xs in
    elim (p y) as (λ b. position_or_len p (xs ++ y ∷ []) ≡ cond (eqb (position_or_len p xs) (length xs)) (length xs + cond b 0 1) (position_or_len p xs) → position p (xs ++ y ∷ []) ≡ option_or (position p xs) (cond b (Some (length xs)) None)) [
      | true ↦ λ e. grind (arith, nat_tests)
      | false ↦ λ e. grind (arith, nat_tests)
    ] place

not_second : {X : Type 0} (o : Option X) (x : X) → is_some o ≡ true → option_or o (Some x) ≡ o
not_second None x h = absurd (false≢true h)
not_second (Some y) x h = refl

is_none : {X : Type 0} (o : Option X) → is_some o ≡ false → o ≡ None
is_none None h = refl
is_none (Some x) h = absurd (false≢true (sym h))

second : {X : Type 0} (o : Option X) → option_or o None ≡ o
second None = refl
second (Some x) = refl

apart : (text q key : List ℕ) → bytes_eq q text ≡ false → bytes_eq text key ≡ true → bytes_eq q key ≡ false
apart text q key n y = ap (bytes_eq q) (sym ((bytes_decides text key).0 y)) ∙ n

module _ {K : Type 0} (bytes_of : K → List ℕ) where
  abbrev find : List (K × ℕ) → List ℕ → Option ℕ
  find entries q = lookup (λ k. bytes_eq q (bytes_of k)) entries

  -- a text that is found already changes nothing
  pub seen : (entries : List (K × ℕ)) (texts : List (List ℕ)) (text : List ℕ) → is_some (find entries text) ≡ true → FindsFirst bytes_of entries texts → FindsFirst bytes_of entries (texts ++ text ∷ [])
  seen entries texts text there h q =
      ⊎_elim
      (λ y. h q ∙ sym (position_push (bytes_eq q) texts text ∙ ap (λ (b : Bool). option_or (position (bytes_eq q) texts) (cond b (Some (length texts)) None)) y
      ∙ not_second (position (bytes_eq q) texts) (length texts) (ap is_some (sym (h q)) ∙ ap (λ (t : List ℕ). is_some (find entries t)) ((bytes_decides q text).0 y) ∙ there)))
      (λ n. h q ∙ sym (position_push (bytes_eq q) texts text ∙ ap (λ (b : Bool). option_or (position (bytes_eq q) texts) (cond b (Some (length texts)) None)) n ∙ second (position (bytes_eq q) texts)))
      (cases_Bool (bytes_eq q text))

  -- a text that isn't found is noted with the number of texts before it
  pub noted : (old new : List (K × ℕ)) (texts : List (List ℕ)) (text key : List ℕ) (i : ℕ) → key ≡ text → is_some (find old text) ≡ false
      → KeepsOthers (λ x y. bytes_eq (bytes_of x) (bytes_of y)) (λ k. bytes_eq key (bytes_of k)) old new → find new key ≡ Some i → length texts ≡ i → FindsFirst bytes_of old texts
      → FindsFirst bytes_of new (texts ++ text ∷ [])
  unfolding KeepsOthers
  noted old new texts text key i is absent keeps here len h q =
      ⊎_elim
      (λ y.
      let same : q ≡ text = (bytes_decides q text).0 y in
      let found : find new q ≡ Some i = ap (find new) (same ∙ sym is) ∙ here in
      let none : position (bytes_eq q) texts ≡ None = is_none _ (ap is_some (sym (h q)) ∙ ap (λ (t : List ℕ). is_some (find old t)) same ∙ absent) in
      found ∙ ap (λ (n : ℕ). Some n) (sym len) ∙ sym (position_push (bytes_eq q) texts text ∙ ap (λ (b : Bool). option_or (position (bytes_eq q) texts) (cond b (Some (length texts)) None)) y ∙ ap (λ (o : Option ℕ). option_or o (Some (length texts))) none))
      (λ n.
      let other : find new q ≡ find old q = keeps (λ k. bytes_eq q (bytes_of k)) (λ x y. nat_list_eq_equiv.congr q (bytes_of x) (bytes_of y)) (λ k y. apart text q (bytes_of k) n (ap (λ (t : List ℕ). bytes_eq t (bytes_of k)) (sym is) ∙ y)) in
      other ∙ h q ∙ sym (position_push (bytes_eq q) texts text ∙ ap (λ (b : Bool). option_or (position (bytes_eq q) texts) (cond b (Some (length texts)) None)) n ∙ second (position (bytes_eq q) texts)))
      (cases_Bool (bytes_eq q text))

list_any_is : {X : Type 0} (p : X → Bool) (xs : List X) → list_any p xs ≡ ltb (position_or_len p xs) (length xs)
list_any_is p [] = refl
list_any_is p (x ∷ xs) = let rest = list_any_is p xs in grind (arith, nat_tests)

-- the number of a text that is found, and the texts then
pub old_text : (texts : List (List ℕ)) (text : List ℕ) (i : ℕ) → position (bytes_eq text) texts ≡ Some i → (i ≡ index_of texts text) × (with_text texts text ≡ texts)
old_text texts text i h = let any = list_any_is (bytes_eq text) texts in (grind (arith, nat_tests), grind (arith, nat_tests))

-- the same of a new one
pub new_text : (texts : List (List ℕ)) (text : List ℕ) → position (bytes_eq text) texts ≡ None → (length texts ≡ index_of texts text) × (with_text texts text ≡ texts ++ text ∷ [])
new_text texts text h = let any = list_any_is (bytes_eq text) texts in let le = position_within (bytes_eq text) texts in (grind (arith, nat_tests), grind (arith, nat_tests))

-- where the look-up knows all the texts, it answers the first place
pub looked_up : {K : Type 0} (bytes_of : K → List ℕ) (entries : List (K × ℕ)) (texts all : List (List ℕ)) (known : ℕ) (text : List ℕ) (r : Option ℕ)
    → r ≡ lookup (λ k. bytes_eq text (bytes_of k)) entries → FindsFirst bytes_of entries (take known all) → known ≡ length all → all ≡ texts → position (bytes_eq text) texts ≡ r
looked_up bytes_of entries texts all known text r e h len same =
    let whole : take known all ≡ texts = ap (λ (n : ℕ). take n all) len ∙ take-length all ∙ same in
    sym (e ∙ h text ∙ ap (position (bytes_eq text)) whole)
