-- Lists that get their counters one after the other.
use Rattle.std.proofs.Common.{◌≡◌, ℕ, suc, ◌+◌, ◌<◌, Bool, List, [], ◌∷◌, ◌++◌, length, drop, get_or, sym, ap, ◌∙◌, arith, append_assoc}
use Rattle.std.proofs.lemmas.List.{drop_more}
use Rattle.go_meaning.specs.declared.node.Node.{Node}
use Rattle.go_meaning.specs.declared.program.Function.{Function}
use Rattle.go_meaning.specs.Programs.{Parts}
use Rattle.go_meaning.specs.Units.{counted, counted_in, counted_lists, units_in, units_of}
use Rattle.cov_cut.specs.Owners.{AllBegun, HaveBegun, is_cut}

module _ (cut : ℕ → Bool) (lists : List (List Node)) (k : ℕ) (list : List Node) (lt : k < length lists) (is : list ≡ get_or lists k list) where
  rest_is : drop k lists ≡ list ∷ drop (k + 1) lists
  rest_is = drop_more lists k list lt ∙ ap (λ l. l ∷ drop (k + 1) lists) (sym is)

  next_number : suc k ≡ k + 1
  next_number = omega arith

  pub lists_step : (u v : ℕ) (done more whole : List (List Node)) → v ≡ u + units_in (cut k) list → more ≡ done ++ counted_in (cut k) u list ∷ [] → done ++ counted_lists cut u k (drop k lists) ≡ whole
      → more ++ counted_lists cut v (k + 1) (drop (k + 1) lists) ≡ whole
  lists_step u v done more whole next put so_far =
      let one = counted_in (cut k) u list in
      let rest = counted_lists cut (u + units_in (cut k) list) (k + 1) (drop (k + 1) lists) in
      let parts : counted_lists cut u k (drop k lists) ≡ one ∷ rest =
      ap (counted_lists cut u k) rest_is ∙ ap (λ n. one ∷ counted_lists cut (u + units_in (cut k) list) n (drop (k + 1) lists)) next_number in
      ap (λ n. more ++ counted_lists cut n (k + 1) (drop (k + 1) lists)) next ∙ ap (λ ls. ls ++ rest) put ∙ append_assoc done (one ∷ []) rest ∙ ap (λ ls. done ++ ls) (sym parts) ∙ so_far

  units_parts : units_of cut k (drop k lists) ≡ units_in (cut k) list + units_of cut (k + 1) (drop (k + 1) lists)
  units_parts = ap (units_of cut k) rest_is ∙ ap (λ n. units_in (cut k) list + units_of cut n (drop (k + 1) lists)) next_number

  pub units_step : (u v total : ℕ) → v ≡ u + units_in (cut k) list → u + units_of cut k (drop k lists) ≡ total → v + units_of cut (k + 1) (drop (k + 1) lists) ≡ total
  units_step u v total next so_far = let parts = units_parts in omega (arith, next, so_far, parts)

  -- there is room for the units of this list
  pub units_fit : (u total n : ℕ) → total < n → u + units_of cut k (drop k lists) ≡ total → u + units_in (cut k) list < n
  units_fit u total n few so_far = let parts = units_parts in omega (arith, few, so_far, parts)

pub begun_next : (functions : List Function) (count k : ℕ) → HaveBegun functions count k → AllBegun functions count (k + 1)
begun_next functions count k have = record { within = have.within; begun = λ i d lt. let le = have.begun i d lt in omega (arith, le) }

pub none_begun : (functions : List Function) (k : ℕ) → AllBegun functions 0 k
none_begun functions k = record { within = omega arith; begun = λ i d lt. absurd (omega (arith, lt)) }

-- the counted program, part by part
pub counted_is : (P Q : Parts) → Q.packages ≡ P.packages → Q.functions ≡ P.functions → Q.lists ≡ counted_lists (is_cut P.functions) 0 0 P.lists → Q.globals ≡ P.globals → Q.units ≡ units_of (is_cut P.functions) 0 P.lists → Q.main ≡ P.main → Q ≡ counted P
unfolding counted
counted_is P Q packages functions lists globals units main i = record { packages = packages i; functions = functions i; lists = lists i; globals = globals i; units = units i; main = main i }
