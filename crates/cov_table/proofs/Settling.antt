-- What sorting and combining keep, and what stands there then.
use Rattle.std.proofs.Common.{suc, zero, ◌≡◌, ℕ, ◌+◌, ◌-◌, ◌<◌, ◌≤◌, min, false, T, List, [], ◌∷◌, ◌++◌, map, sym, ap, subst, ◌∙◌, length, take, drop, get_or, arith, append_assoc}
use Rattle.std.proofs.lemmas.Grind.{common_steps}
use Rattle.std.proofs.lemmas.List.{map-append}
use Rattle.std.specs.List.{All}
use Rattle.std.specs.List.Sorted.{IsPermutation}
use Rattle.std.proofs.lemmas.List.Sorted.{IsPermutation-map, All-permutation}
use Rattle.std.specs.FinMap as finmap
use Rattle.std.specs.Ordering.{is_lt, is_eq, ordering_reverse}
use Rattle.std.specs.declared.cmp.Ordering.{Ordering}
use Rattle.std.specs.declared.cmp.Ordering.TheVariants.{Less, Equal, Greater}
use Rattle.cov_table.specs.declared.row.Row.{Row}
use Rattle.cov_table.specs.Key.{Key, key_cmp}
use Rattle.cov_table.specs.Counts.{with_counts}
use Rattle.cov_table.specs.Rows.{row_key, row_entry, counts_up_to, Within, AllWithin, Rises}
use Rattle.cov_table.proofs.Zips.{drop_step}
use Rattle.cov_table.proofs.Keys.{key_total, key_same}
use Rattle.cov_table.proofs.Counting.{sum_up_to, counts_permutation, counts_merge, counts_capped, counts_after}
use Rattle.cov_table.proofs.Walk.{Bounded, no_entries, rises_push, rises_key, entries_counts}
use Rattle.cov_table.proofs.Pool.{within_push}

pub rows_permutation : (most : ℕ) (texts : List (List ℕ)) (xs ys : List Row) → IsPermutation xs ys → counts_up_to most texts ys ≡ counts_up_to most texts xs
rows_permutation most texts xs ys p = counts_permutation key_total most key_same finmap.empty (map (row_entry texts) xs) (map (row_entry texts) ys) (IsPermutation-map (row_entry texts) xs ys p)

-- ---- numbers within the pool

pub all_from : (n : ℕ) (rows : List Row) → AllWithin n rows → All (Within n) rows
all_from n [] w k d h = absurd (omega arith)
all_from n (r ∷ rows) w zero d h = w.0
all_from n (r ∷ rows) w (suc k) d h = all_from n rows w.1 k d (omega arith)

all_to : (n : ℕ) (rows : List Row) → All (Within n) rows → AllWithin n rows
all_to n [] a = tt
all_to n (r ∷ rows) a = (a 0 r (omega arith), all_to n rows (λ k d h. a (suc k) d (omega arith)))

pub within_permutation : (n : ℕ) (xs ys : List Row) → IsPermutation xs ys → AllWithin n xs → AllWithin n ys
within_permutation n xs ys p w = all_to n ys (All-permutation (Within n) xs ys p (all_from n xs w))

-- ---- rows before the one that is held, the held one, and those that are left

rows_after : (most : ℕ) (texts : List (List ℕ)) (out xs ys : List Row) → counts_up_to most texts xs ≡ counts_up_to most texts ys → counts_up_to most texts (out ++ xs) ≡ counts_up_to most texts (out ++ ys)
rows_after most texts out xs ys h =
    ap (with_counts (sum_up_to most) finmap.empty) (map-append (row_entry texts) out xs)
    ∙ counts_after (sum_up_to most) finmap.empty (map (row_entry texts) out) (map (row_entry texts) xs) (map (row_entry texts) ys) h
    ∙ ap (with_counts (sum_up_to most) finmap.empty) (sym (map-append (row_entry texts) out ys))

entry_is : (x y : Key) (m n : ℕ) → x ≡ y → m ≡ n → ◌≡◌ {A = Key × ℕ} (x, m) (y, n)
entry_is x y m n p q = λ i. (p i, q i)

pub held_first : (most : ℕ) (texts : List (List ℕ)) (row held : Row) (rest : List Row) → held ≡ record row { count = min (0 + row.count) most } → counts_up_to most texts (held ∷ rest) ≡ counts_up_to most texts (row ∷ rest)
held_first most texts row held rest e =
    ap (λ (r : Row). counts_up_to most texts (r ∷ rest)) e
    ∙ counts_capped key_total most key_same finmap.empty (row_key texts row) row.count (map (row_entry texts) rest)

pub keep_step : (most : ℕ) (texts : List (List ℕ)) (out here : List Row) (held row next : Row) (xs : List Row) (i : ℕ) (d : Row) → i < length xs → row ≡ get_or xs i d → here ≡ out ++ held ∷ [] → next ≡ record row { count = min (0 + row.count) most }
    → counts_up_to most texts (here ++ next ∷ drop (i + 1) xs) ≡ counts_up_to most texts (out ++ held ∷ drop i xs)
keep_step most texts out here held row next xs i d h at e capped =
    rows_after most texts here (next ∷ drop (i + 1) xs) (row ∷ drop (i + 1) xs) (held_first most texts row next (drop (i + 1) xs) capped)
    ∙ ap (λ (t : List Row). counts_up_to most texts (t ++ row ∷ drop (i + 1) xs)) e
    ∙ ap (counts_up_to most texts) (append_assoc out (held ∷ []) (row ∷ drop (i + 1) xs))
    ∙ ap (λ (t : List Row). counts_up_to most texts (out ++ held ∷ t)) (sym (drop_step xs i row d h at))

pub merge_step : (most : ℕ) (texts : List (List ℕ)) (out : List Row) (held here row : Row) (xs : List Row) (i : ℕ) (d : Row) → i < length xs → row ≡ get_or xs i d → here ≡ record held { count = min (held.count + row.count) most }
    → key_cmp (row_key texts held) (row_key texts row) ≡ Equal → counts_up_to most texts (out ++ here ∷ drop (i + 1) xs) ≡ counts_up_to most texts (out ++ held ∷ drop i xs)
merge_step most texts out held here row xs i d h at e tied =
    let same : row_key texts held ≡ row_key texts row = key_same _ _ tied in
    rows_after most texts out (here ∷ drop (i + 1) xs) (held ∷ row ∷ drop (i + 1) xs)
    (ap (λ (r : Row). counts_up_to most texts (r ∷ drop (i + 1) xs)) e
    ∙ counts_merge key_total most key_same finmap.empty (row_key texts held) held.count row.count (map (row_entry texts) (drop (i + 1) xs))
    ∙ ap (λ (k : Key). with_counts (sum_up_to most) finmap.empty (row_entry texts held ∷ (k, row.count) ∷ map (row_entry texts) (drop (i + 1) xs))) same)
    ∙ ap (λ (t : List Row). counts_up_to most texts (out ++ held ∷ t)) (sym (drop_step xs i row d h at))

-- ---- the order

pub rise_push : (texts : List (List ℕ)) (out here : List Row) (held row : Row) → here ≡ out ++ held ∷ [] → key_cmp (row_key texts held) (row_key texts row) ≡ Less → Rises texts (out ++ held ∷ []) → Rises texts (here ++ row ∷ [])
rise_push texts out here held row e l h =
    let front : map (row_entry texts) (out ++ held ∷ []) ≡ map (row_entry texts) out ++ row_entry texts held ∷ [] = map-append (row_entry texts) out (held ∷ []) in
    let whole : map (row_entry texts) (here ++ row ∷ []) ≡ (map (row_entry texts) out ++ row_entry texts held ∷ []) ++ row_entry texts row ∷ [] =
    map-append (row_entry texts) here (row ∷ []) ∙ ap (λ (t : List (Key × ℕ)). t ++ row_entry texts row ∷ []) (ap (map (row_entry texts)) e ∙ front) in
    subst (λ (t : List (Key × ℕ)). T (finmap.is_sorted key_cmp t)) (sym whole) (rises_push key_cmp key_total (map (row_entry texts) out) (row_entry texts held) (row_entry texts row) l (subst (λ (t : List (Key × ℕ)). T (finmap.is_sorted key_cmp t)) front h))

pub rise_key : (texts : List (List ℕ)) (out : List Row) (held here : Row) → row_key texts held ≡ row_key texts here → Rises texts (out ++ held ∷ []) → Rises texts (out ++ here ∷ [])
rise_key texts out held here e h =
    subst (λ (t : List (Key × ℕ)). T (finmap.is_sorted key_cmp t)) (sym (map-append (row_entry texts) out (here ∷ []))) (rises_key key_cmp (map (row_entry texts) out) (row_entry texts held) (row_entry texts here) e
    (subst (λ (t : List (Key × ℕ)). T (finmap.is_sorted key_cmp t)) (map-append (row_entry texts) out (held ∷ [])) h))

pub turned : (x y : Key) → is_lt (key_cmp y x) ≡ false → is_eq (key_cmp x y) ≡ false → key_cmp x y ≡ Less
turned x y h e = go (key_cmp x y) (key_cmp y x) (key_total.antisymm x y) h e
  where
    go : (a b : Ordering) → a ≡ ordering_reverse b → is_lt b ≡ false → is_eq a ≡ false → a ≡ Less
    go a Less p h e = cc
    go a Equal p h e = absurd (subst T (ap is_eq (sym p) ∙ e) tt)
    go a Greater p h e = p

-- ---- the greatest count

abbrev pub Under : ℕ → List Row → Type 0
Under most [] = Unit {0}
Under most (r ∷ rows) = (r.count ≤ most) × Under most rows

pub under_push : (most : ℕ) (rows : List Row) (r : Row) → Under most rows → r.count ≤ most → Under most (rows ++ r ∷ [])
under_push most [] r u h = (h, tt)
under_push most (x ∷ rows) r u h = (u.0, under_push most rows r u.1 h)

pub bounded : (most : ℕ) (texts : List (List ℕ)) (rows : List Row) → Under most rows → Bounded most (map (row_entry texts) rows)
bounded most texts [] u = tt
bounded most texts (r ∷ rows) u = (u.0, bounded most texts rows u.1)

-- rows that rise, with counts up to the greatest, are the entries
pub entries_are : (most : ℕ) (texts : List (List ℕ)) (rows : List Row) → Rises texts rows → Under most rows → finmap.entries (counts_up_to most texts rows) ≡ map (row_entry texts) rows
entries_are most texts rows r u = entries_counts most key_total (map (row_entry texts) rows) r (bounded most texts rows u)

-- ---- the first row and the rest

abbrev pub zero_row : Row
zero_row = record { package_path = 0; file = 0; function = 0; literal = false; start_line = 0; start_column = 0; end_line = 0; end_column = 0; statements = 0; count = 0 }

pub within_next : (n : ℕ) (out here rows : List Row) (held row next : Row) (k : ℕ) (d : Row) → here ≡ out ++ held ∷ [] → row ≡ get_or rows k d → next ≡ record row { count = next.count } → k < length rows → AllWithin n rows → AllWithin n (out ++ held ∷ []) → AllWithin n (here ++ next ∷ [])
within_next n out here rows held row next k d e is same h w v =
    within_push n here next (subst (AllWithin n) (sym e) v) (subst (Within n) (sym same) (subst (Within n) (sym is) (all_from n rows w k d h)))

pub within_change : (n : ℕ) (out : List Row) (a b : Row) → b ≡ record a { count = b.count } → AllWithin n (out ++ a ∷ []) → AllWithin n (out ++ b ∷ [])
within_change n [] a b e w = (subst (Within n) (sym e) w.0, tt)
within_change n (x ∷ out) a b e w = (w.0, within_change n out a b e w.1)

pub under_change : (most : ℕ) (out : List Row) (a b : Row) → b.count ≤ most → Under most (out ++ a ∷ []) → Under most (out ++ b ∷ [])
under_change most [] a b h u = (h, tt)
under_change most (x ∷ out) a b h u = (u.0, under_change most out a b h u.1)

pub rest_at : (rows : List Row) (i : ℕ) (d : Row) → i < length (take (length rows - 1) (drop 1 rows)) → get_or (take (length rows - 1) (drop 1 rows)) i d ≡ get_or rows (i + 1) d
rest_at rows i d h = grind (arith, common_steps)

pub rest_within : (rows : List Row) (i : ℕ) → i < length (take (length rows - 1) (drop 1 rows)) → i + 1 < length rows
rest_within rows i h = grind (arith, common_steps)

pub nothing_is : (most : ℕ) (texts : List (List ℕ)) (none rows : List Row) → none ≡ [] → length rows < 1 → map (row_entry texts) none ≡ finmap.entries (counts_up_to most texts rows)
nothing_is most texts none [] e h = ap (map (row_entry texts)) e ∙ sym (no_entries key_cmp)
nothing_is most texts none (r ∷ rows) e h = absurd (omega arith)
