-- The groups of units, where one more unit comes.
use Rattle.std.proofs.Common.{zero, suc, ◌≡◌, ℕ, ◌+◌, Bool, true, false, cond, not, ◌||◌, List, [], ◌∷◌, ◌++◌, All, map, get_or, refl, sym, ap, subst, ◌∙◌, append-nil, arith}
use Rattle.std.specs.Prelude.{slice_set}
use Rattle.std.specs.List.{list_any, position_or_len}
use Rattle.std.proofs.lemmas.List.{map-append}
use Rattle.std.proofs.lemmas.List.Elements.{filter-append, All-head, All-tail}
use Rattle.std.proofs.Math.ListN.{get_or-map}
use Rattle.indexmap.specs.IndexSet.{insert_key}
use Rattle.cov_table.specs.declared.group.FunctionName.{FunctionName}
use Rattle.cov_table.specs.declared.group.Group.{Group}
use Rattle.cov_table.specs.Key.{Key}
use Rattle.cov_table.specs.Functions.{units_with, first_units}
use Rattle.cov_table.specs.Grouping.{Function, function_of, is_function, named_function, group_entry, Grouped}
use Rattle.cov_table.proofs.FirstUnits.{together, together_equiv, met_first, first_units_push, AreApart, first_units_apart}

abbrev pub Entries : Type 0
Entries = (Key × ℕ) × List (Key × ℕ)

abbrev pub with_unit : Key × ℕ → Entries → Entries
with_unit u g = (g.0, g.1 ++ u ∷ [])

abbrev group : List (Key × ℕ) → Key × ℕ → Entries
group units v = (v, units_with v.0 units)

none_with : (u : Key × ℕ) (units : List (Key × ℕ)) → list_any (together u) units ≡ false → units_with u.0 units ≡ []
none_with u [] h = refl
none_with u (v ∷ units) h =
    elim (together u v) as (λ b. (b || list_any (together u) units) ≡ false → cond b (v ∷ units_with u.0 units) (units_with u.0 units) ≡ []) [
      | true ↦ λ e. cc
      | false ↦ λ e. none_with u units e
    ] h

module _ (units : List (Key × ℕ)) (u : Key × ℕ) where
  group_same : (v : Key × ℕ) → together v u ≡ true → group (units ++ u ∷ []) v ≡ with_unit u (group units v)
  group_same v same = let e = filter-append (together v) units (u ∷ []) ∙ ap (λ b. units_with v.0 units ++ cond b (u ∷ []) []) same in λ i. (v, e i)

  group_other : (v : Key × ℕ) → together v u ≡ false → group (units ++ u ∷ []) v ≡ group units v
  group_other v other = let e = filter-append (together v) units (u ∷ []) ∙ ap (λ b. units_with v.0 units ++ cond b (u ∷ []) []) other ∙ append-nil (units_with v.0 units) in λ i. (v, e i)

  others : (v : Key × ℕ) (firsts : List (Key × ℕ)) → together v u ≡ true → All (λ w. together v w ≡ false) firsts → map (group units) firsts ≡ map (group (units ++ u ∷ [])) firsts
  others v [] same apart = refl
  others v (w ∷ firsts) same apart =
      let other : together w u ≡ false = together_equiv.symm w u ∙ sym (together_equiv.congr v u w same) ∙ All-head (λ w. together v w ≡ false) w firsts apart in
      let here : group units w ≡ group (units ++ u ∷ []) w = sym (group_other w other) in
      let rest : map (group units) firsts ≡ map (group (units ++ u ∷ [])) firsts = others v firsts same (All-tail (λ w. together v w ≡ false) w firsts apart) in
      λ i. here i ∷ rest i

  -- the group of the unit's function gets the unit, and the others stay
  changed : (firsts : List (Key × ℕ)) (n : ℕ) (y d : Entries) → AreApart firsts → list_any (together u) firsts ≡ true → n ≡ position_or_len (together u) firsts → y ≡ with_unit u (get_or (map (group units) firsts) n d)
      → slice_set (map (group units) firsts) n y ≡ map (group (units ++ u ∷ [])) firsts
  changed [] n y d apart met at is = cc
  changed (v ∷ firsts) zero y d apart met at is = by (together u v) refl at
    where
      by : (b : Bool) → together u v ≡ b → 0 ≡ cond (not b) (1 + position_or_len (together u) firsts) 0 → y ∷ map (group units) firsts ≡ group (units ++ u ∷ []) v ∷ map (group (units ++ u ∷ [])) firsts
      by true e at =
          let same : together v u ≡ true = together_equiv.symm v u ∙ e in
          let here : y ≡ group (units ++ u ∷ []) v = is ∙ sym (group_same v same) in
          let rest : map (group units) firsts ≡ map (group (units ++ u ∷ [])) firsts = others v firsts same apart.0 in
          λ i. here i ∷ rest i
      by false e at = absurd (omega arith)
  changed (v ∷ firsts) (suc n) y d apart met at is = by (together u v) refl at (λ there place. changed firsts n y d apart.1 there place is)
    where
      by : (b : Bool) → together u v ≡ b → suc n ≡ cond (not b) (1 + position_or_len (together u) firsts) 0
          → (list_any (together u) firsts ≡ true → n ≡ position_or_len (together u) firsts → slice_set (map (group units) firsts) n y ≡ map (group (units ++ u ∷ [])) firsts)
          → group units v ∷ slice_set (map (group units) firsts) n y ≡ group (units ++ u ∷ []) v ∷ map (group (units ++ u ∷ [])) firsts
      by true e at later = absurd (omega arith)
      by false e at later =
          let here : group units v ≡ group (units ++ u ∷ []) v = sym (group_other v (together_equiv.symm v u ∙ e)) in
          let rest : slice_set (map (group units) firsts) n y ≡ map (group (units ++ u ∷ [])) firsts = later (ap (λ b. b || list_any (together u) firsts) (sym e) ∙ met) (omega arith) in
          λ i. here i ∷ rest i

-- ---- names and places by what they stand for

any_map : {X Y : Type 0} (p : Y → Bool) (f : X → Y) (xs : List X) → list_any p (map f xs) ≡ list_any (λ x. p (f x)) xs
any_map p f [] = refl
any_map p f (x ∷ xs) = ap (λ b. p (f x) || b) (any_map p f xs)

position_map : {X Y : Type 0} (p : Y → Bool) (f : X → Y) (xs : List X) → position_or_len p (map f xs) ≡ position_or_len (λ x. p (f x)) xs
position_map p f [] = refl
position_map p f (x ∷ xs) = ap (λ n. cond (not (p (f x))) (1 + n) 0) (position_map p f xs)

position_push : {X : Type 0} (p : X → Bool) (xs : List X) (x : X) → p x ≡ true → position_or_len p (xs ++ x ∷ []) ≡ position_or_len p xs
position_push p [] x h = ap (λ b. cond (not b) (1 + 0) 0) h
position_push p (y ∷ xs) x h = ap (λ n. cond (not (p y)) (1 + n) 0) (position_push p xs x h)

any_push : {X : Type 0} (p : X → Bool) (xs : List X) (x : X) → p x ≡ true → list_any p (xs ++ x ∷ []) ≡ true
any_push p [] x h = ap (λ b. b || false) h
any_push p (y ∷ xs) x h = ap (λ b. p y || b) (any_push p xs x h) ∙ elim (p y) as (λ b. (b || true) ≡ true) [ true ↦ refl | false ↦ refl ]

map_set : {X Y : Type 0} (f : X → Y) (xs : List X) (n : ℕ) (y : X) → map f (slice_set xs n y) ≡ slice_set (map f xs) n (f y)
map_set f [] n y = refl
map_set f (x ∷ xs) zero y = refl
map_set {X} {Y} f (x ∷ xs) (suc n) y = ap (λ (t : List Y). f x ∷ t) (map_set f xs n y)

firsts_of : (units firsts : List (Key × ℕ)) → map (λ (g : Entries). function_of g.0.0) (map (group units) firsts) ≡ map (λ u. function_of u.0) firsts
firsts_of units [] = refl
firsts_of units (v ∷ firsts) = ap (λ (t : List Function). function_of v.0 ∷ t) (firsts_of units firsts)

abbrev is_name : FunctionName → FunctionName → Bool
is_name a b = is_function (named_function a) (named_function b)

-- ---- one more row

module _ (texts : List (List ℕ)) (names : List FunctionName) (groups : List Group) (units : List (Key × ℕ)) (grouped : Grouped texts names groups units) (name : FunctionName) (u : Key × ℕ) (named : named_function name ≡ function_of u.0) where
  abbrev firsts : List (Key × ℕ)
  firsts = first_units units

  met_is : list_any (is_name name) names ≡ list_any (together u) (first_units units)
  met_is =
      sym (any_map (is_function (named_function name)) named_function names)
      ∙ (λ i. list_any (is_function (named i)) (grouped.names_are i))
      ∙ any_map (is_function (function_of u.0)) (λ (v : Key × ℕ). function_of v.0) (first_units units)

  place_is : position_or_len (is_name name) names ≡ position_or_len (together u) (first_units units)
  place_is =
      sym (position_map (is_function (named_function name)) named_function names)
      ∙ (λ i. position_or_len (is_function (named i)) (grouped.names_are i))
      ∙ position_map (is_function (function_of u.0)) (λ (v : Key × ℕ). function_of v.0) (first_units units)

  pub add_one : (names' : List FunctionName) (middle : List Group) (n : ℕ) (new y d : Group) (is_new : Bool) → names' ≡ insert_key is_name names name → n ≡ position_or_len (is_name name) names → is_new ≡ not (list_any (is_name name) names)
      → (is_new ≡ true → (middle ≡ groups ++ new ∷ []) × (group_entry texts new ≡ (u, []))) → (is_new ≡ false → middle ≡ groups) → group_entry texts y ≡ with_unit u (group_entry texts (get_or middle n d))
      → Grouped texts names' (slice_set middle n y) (units ++ u ∷ [])
  add_one names' middle n new y d is_new keys at fresh there old changes = by (list_any (together u) units) refl
    where
      by : (b : Bool) → list_any (together u) units ≡ b → Grouped texts names' (slice_set middle n y) (units ++ u ∷ [])
      by true e =
          let met : list_any (is_name name) names ≡ true = met_is ∙ met_first u units ∙ e in
          let all : first_units (units ++ u ∷ []) ≡ firsts = first_units_push units u ∙ ap (λ b. firsts ++ cond b [] (u ∷ [])) e ∙ append-nil firsts in
          let here : middle ≡ groups = old (fresh ∙ ap not met) in
          let entries : map (group_entry texts) middle ≡ map (group units) firsts = ap (map (group_entry texts)) here ∙ grouped.groups_are in
          record {
            names_are = ap (map named_function) (keys ∙ ap (λ b. cond b names (names ++ name ∷ [])) met) ∙ grouped.names_are ∙ ap (map (λ (v : Key × ℕ). function_of v.0)) (sym all);
            groups_are =
                map_set (group_entry texts) middle n y
                ∙ ap (λ (t : List Entries). slice_set t n (group_entry texts y)) entries
                ∙ changed units u firsts n (group_entry texts y) (group_entry texts d) (first_units_apart units) (met_first u units ∙ e) (at ∙ place_is)
                (changes ∙ ap (with_unit u) (sym (get_or-map (group_entry texts) middle n d) ∙ ap (λ (t : List Entries). get_or t n (group_entry texts d)) entries))
                ∙ ap (map (group (units ++ u ∷ []))) (sym all);
          }
      by false e =
          let met : list_any (is_name name) names ≡ false = met_is ∙ met_first u units ∙ e in
          let all : first_units (units ++ u ∷ []) ≡ firsts ++ u ∷ [] = first_units_push units u ∙ ap (λ b. firsts ++ cond b [] (u ∷ [])) e in
          let here : middle ≡ groups ++ new ∷ [] = (there (fresh ∙ ap not met)).0 in
          let last : group_entry texts new ≡ group units u = (there (fresh ∙ ap not met)).1 ∙ (λ i. (u, sym (none_with u units e) i)) in
          let entries : map (group_entry texts) middle ≡ map (group units) (firsts ++ u ∷ []) =
          ap (map (group_entry texts)) here ∙ map-append (group_entry texts) groups (new ∷ []) ∙ (λ i. grouped.groups_are i ++ last i ∷ []) ∙ sym (map-append (group units) firsts (u ∷ [])) in
          record {
            names_are =
                ap (map named_function) (keys ∙ ap (λ b. cond b names (names ++ name ∷ [])) met)
                ∙ map-append named_function names (name ∷ [])
                ∙ (λ i. grouped.names_are i ++ named i ∷ [])
                ∙ sym (map-append (λ (v : Key × ℕ). function_of v.0) firsts (u ∷ []))
                ∙ ap (map (λ (v : Key × ℕ). function_of v.0)) (sym all);
            groups_are =
                map_set (group_entry texts) middle n y
                ∙ ap (λ (t : List Entries). slice_set t n (group_entry texts y)) entries
                ∙ changed units u (firsts ++ u ∷ []) n (group_entry texts y) (group_entry texts d) (subst AreApart all (first_units_apart (units ++ u ∷ []))) (any_push (together u) firsts u (together_equiv.refl u)) (at ∙ place_is ∙ sym (position_push (together u) firsts u (together_equiv.refl u)))
                (changes ∙ ap (with_unit u) (sym (get_or-map (group_entry texts) middle n d) ∙ ap (λ (t : List Entries). get_or t n (group_entry texts d)) entries))
                ∙ ap (map (group (units ++ u ∷ []))) (sym all);
          }
