-- No two counters of a placed file are put at one offset.
use Rattle.std.proofs.Common.{◌≡◌, ℕ, ◌+◌, ◌-◌, ◌==◌, ◌≤◌, ◌<◌, Bool, true, false, cond, List, [], ◌∷◌, ◌++◌, length, map, refl, sym, ap, subst, ◌∙◌, arith, inl, inr, ◌⊎◌}
use Rattle.std.specs.List.{flat_map}
use Rattle.cov_cut.specs.declared.frame.Frame.{Frame}
use Rattle.cov_cut.specs.declared.unit.Unit.{Unit as CutUnit}
use Rattle.cov_cut.specs.Outline.{Mark, Kind, braces, else_braces, else_if, clause, Node, node, mark_of, Nodes, no_node, next_node, Lists, no_list, next_list, marks, Listing, heads, lists_in, lists_among, lists_behind, lists_along}
use Rattle.cov_cut.specs.Units.{frame, segments, put_before, start_of, boundary_of, first_end, later_unit, unit, segment_units, list_units, listing_units, units_in, func_lists, func_units, cut_in, units_of}
use Rattle.cov_cut.specs.Placement.{AreMarks, IsBetween, first_offset, last_offset, last_stop, list_stop, IsNode, AreNodes, AreLists, IsFunc, AreFuncs, IsPlaced}
use Rattle.cov_cut.proofs.Placed.{Each, each_all}
use Rattle.std.specs.Prelude.{◌≢◌, AllPairs}
use Rattle.std.proofs.lemmas.List.Kept.{AllPairs-cons}
use Rattle.go_ast.specs.declared.file.File.{File}
use Rattle.go_ast.specs.declared.decl.Func.{Func}
use Rattle.cov_cut.specs.Outlining.{block_outline, body}

-- ---- lists of offsets

abbrev pub Differ : ℕ → ℕ → Type 0
Differ a b = a ≡ b → ⊥

abbrev pub Cross : List ℕ → List ℕ → Type 0
Cross xs ys = Each (λ a. Each (Differ a) ys) xs

abbrev pub Pairs : List ℕ → Type 0
Pairs [] = Unit {0}
Pairs (a ∷ xs) = Each (Differ a) xs × Pairs xs

pub both : {X : Type 0} (P : X → Type 0) (xs ys : List X) → Each P xs → Each P ys → Each P (xs ++ ys)
both P [] ys h k = k
both P (x ∷ xs) ys h k = (h.0, both P xs ys h.1 k)

pub weaker : {X : Type 0} (P Q : X → Type 0) → ((x : X) → P x → Q x) → (xs : List X) → Each P xs → Each Q xs
weaker P Q w [] h = tt
weaker P Q w (x ∷ xs) h = (w x h.0, weaker P Q w xs h.1)

pairs_both : (xs ys : List ℕ) → Pairs xs → Pairs ys → Cross xs ys → Pairs (xs ++ ys)
pairs_both [] ys h k c = k
pairs_both (a ∷ xs) ys h k c = (both (Differ a) xs ys h.0 c.0, pairs_both xs ys h.1 k c.1)

pub cross_right : (xs ys zs : List ℕ) → Cross xs ys → Cross xs zs → Cross xs (ys ++ zs)
cross_right [] ys zs h k = tt
cross_right (a ∷ xs) ys zs h k = (both (Differ a) ys zs h.0 k.0, cross_right xs ys zs h.1 k.1)

-- between two offsets, with a third as a bound besides
pub record In (low stop high a : ℕ) : Type 0 where
  pub above : low < a
  pub upto : a ≤ stop
  pub below : a < high

later_differs : (b low stop high : ℕ) (a : ℕ) → a ≤ b → b ≤ low → (ys : List ℕ) → Each (In low stop high) ys → Each (Differ a) ys
later_differs b low stop high a h k ys f = weaker (In low stop high) (Differ a) (λ y i e. let above : low < y = i.above in absurd (omega arith)) ys f

-- all of one list before all of another
cross_before : (low stop high low' stop' high' : ℕ) → stop ≤ low' → (xs ys : List ℕ) → Each (In low stop high) xs → Each (In low' stop' high') ys → Cross xs ys
cross_before low stop high low' stop' high' h xs ys f g =
    weaker (In low stop high) (λ a. Each (Differ a) ys) (λ a i. let upto : a ≤ stop = i.upto in later_differs stop low' stop' high' a upto h ys g) xs f

earlier_differs : (low stop high a : ℕ) → stop < a → (ys : List ℕ) → Each (In low stop high) ys → Each (Differ a) ys
earlier_differs low stop high a h ys f = weaker (In low stop high) (Differ a) (λ y i e. let upto : y ≤ stop = i.upto in absurd (omega arith)) ys f

cross_after : (low stop high low' stop' high' : ℕ) → stop' ≤ low → (xs ys : List ℕ) → Each (In low stop high) xs → Each (In low' stop' high') ys → Cross xs ys
cross_after low stop high low' stop' high' h xs ys f g =
    weaker (In low stop high) (λ a. Each (Differ a) ys) (λ a i. let above : low < a = i.above in earlier_differs low' stop' high' a (omega arith) ys g) xs f

-- ---- offsets of counters

abbrev pub inserts : List CutUnit → List ℕ
inserts = map (λ u. u.insert)

abbrev pub own : Kind → List Mark → List ℕ
own k ms = inserts (list_units (frame k) ms)

abbrev pub inserts_in : List Listing → List ℕ
inserts_in ls = inserts (units_in ls)

pub two_inserts : (us vs : List CutUnit) → inserts (us ++ vs) ≡ inserts us ++ inserts vs
two_inserts [] vs = refl
two_inserts (u ∷ us) vs = ap (λ l. u.insert ∷ l) (two_inserts us vs)

units_two : (xs ys : List Listing) → units_in (xs ++ ys) ≡ units_in xs ++ units_in ys
units_two [] ys = refl
units_two (x ∷ xs) ys = ap (λ l. listing_units x ++ l) (units_two xs ys) ∙ sym (assoc (listing_units x) (units_in xs) (units_in ys)) where
  assoc : (us vs ws : List CutUnit) → (us ++ vs) ++ ws ≡ us ++ (vs ++ ws)
  assoc [] vs ws = refl
  assoc (u ∷ us) vs ws = ap (λ l. u ∷ l) (assoc us vs ws)

pub in_two : (xs ys : List Listing) → inserts_in (xs ++ ys) ≡ inserts_in xs ++ inserts_in ys
in_two xs ys = ap inserts (units_two xs ys) ∙ two_inserts (units_in xs) (units_in ys)

pub in_cons : (k : Kind) (ms : List Mark) (ys : List Listing) → inserts_in (record { kind = k; statements = ms } ∷ ys) ≡ own k ms ++ inserts_in ys
in_cons k ms ys = two_inserts (list_units (frame k) ms) (units_in ys)

-- what a segment gives is at most one counter
one_by : (P : ℕ → Type 0) (b : Bool) (u : CutUnit) → P u.insert → Each P (inserts (cond b [] (u ∷ [])))
one_by P true u h = tt
one_by P false u h = (h, tt)

one_of : (P : ℕ → Type 0) (start end insert n : ℕ) → P insert → Each P (inserts (unit start end insert n))
one_of P start end insert n h = one_by P (start == end) (record { start = start; end = end; insert = insert; statements = n }) h

later_of : (P : ℕ → Type 0) (segs : List (List Mark)) → Each (λ s. P (start_of s)) segs → Each P (inserts (flat_map later_unit segs))
later_of P [] h = tt
later_of P (s ∷ more) h =
    subst (Each P) (sym (two_inserts (later_unit s) (flat_map later_unit more)))
    (both P (inserts (later_unit s)) (inserts (flat_map later_unit more)) (one_of P (start_of s) (boundary_of s) (start_of s) (length s) h.0) (later_of P more h.1))

tail_of : {X : Type 0} → List X → List X
tail_of [] = []
tail_of (x ∷ xs) = xs

-- what holds of the list's insertion offset and of the starts of its statements holds of its counters
pub own_of : (P : ℕ → Type 0) (f : Frame) (segs : List (List Mark)) → P f.insert → Each (λ s. P (start_of s)) segs → Each P (inserts (segment_units f segs))
own_of P f [] h g = (h, tt)
own_of P f (s ∷ more) h g =
    subst (Each P) (sym (two_inserts (unit f.start (first_end f s) f.insert (length s)) (flat_map later_unit more)))
    (both P (inserts (unit f.start (first_end f s) f.insert (length s))) (inserts (flat_map later_unit more)) (one_of P f.start (first_end f s) f.insert (length s) h) (later_of P more g.1))

starts_put : (P : ℕ → Type 0) (m : Mark) (segs : List (List Mark)) → P m.start → Each (λ s. P (start_of s)) segs → Each (λ s. P (start_of s)) (put_before m segs)
starts_put P m [] h g = (h, tt)
starts_put P m (s ∷ more) h g = (h, g.1)

starts_by : (P : ℕ → Type 0) (b : Bool) (m : Mark) (segs : List (List Mark)) → P m.start → Each (λ s. P (start_of s)) segs → Each (λ s. P (start_of s)) (cond b ((m ∷ []) ∷ segs) (put_before m segs))
starts_by P true m segs h g = (h, g)
starts_by P false m segs h g = starts_put P m segs h g

pub starts_of : (P : ℕ → Type 0) (ms : List Mark) → Each (λ m. P m.start) ms → Each (λ s. P (start_of s)) (segments ms)
starts_of P [] h = tt
starts_of P (m ∷ ms) h = starts_by P m.breaks m (segments ms) h.0 (starts_of P ms h.1)

-- ---- the counters of one list differ

-- segments start one behind the other
abbrev pub Ascend : ℕ → List (List Mark) → Type 0
Ascend low [] = Unit {0}
Ascend low (s ∷ more) = (low ≤ start_of s) × Ascend (start_of s + 1) more

ascend_lower : (low high : ℕ) → low ≤ high → (segs : List (List Mark)) → Ascend high segs → Ascend low segs
ascend_lower low high h [] g = tt
ascend_lower low high h (s ∷ more) g = let first : high ≤ start_of s = g.0 in (omega arith, g.1)

ascend_put : (low : ℕ) (m : Mark) (segs : List (List Mark)) → low ≤ m.start → m.start < m.stop → Ascend (m.stop + 1) segs → Ascend low (put_before m segs)
ascend_put low m [] h k g = (h, tt)
ascend_put low m (s ∷ more) h k g = let first : m.stop + 1 ≤ start_of s = g.0 in (h, ascend_lower (m.start + 1) (start_of s + 1) (omega arith) more g.1)

ascend_by : (b : Bool) (low : ℕ) (m : Mark) (segs : List (List Mark)) → low ≤ m.start → m.start < m.stop → Ascend (m.stop + 1) segs → Ascend low (cond b ((m ∷ []) ∷ segs) (put_before m segs))
ascend_by true low m segs h k g = (h, ascend_lower (m.start + 1) (m.stop + 1) (omega arith) segs g)
ascend_by false low m segs h k g = ascend_put low m segs h k g

ascends : (low high : ℕ) (ms : List Mark) → AreMarks low high ms → Ascend low (segments ms)
ascends low high [] h = tt
ascends low high (m ∷ ms) h = ascend_by m.breaks low m (segments ms) h.0 h.1.some (ascends (m.stop + 1) high ms h.3)

ascend_above : (low a : ℕ) → a < low → (segs : List (List Mark)) → Ascend low segs → Each (λ s. Differ a (start_of s)) segs
ascend_above low a h [] g = tt
ascend_above low a h (s ∷ more) g = let first : low ≤ start_of s = g.0 in (λ e. absurd (omega arith), ascend_above (start_of s + 1) a (omega arith) more g.1)

pairs_by : (b : Bool) (u : CutUnit) → Pairs (inserts (cond b [] (u ∷ [])))
pairs_by true u = tt
pairs_by false u = (tt, tt)

pairs_one : (start end insert n : ℕ) → Pairs (inserts (unit start end insert n))
pairs_one start end insert n = pairs_by (start == end) (record { start = start; end = end; insert = insert; statements = n })

pairs_later : (low : ℕ) (segs : List (List Mark)) → Ascend low segs → Pairs (inserts (flat_map later_unit segs))
pairs_later low [] g = tt
pairs_later low (s ∷ more) g =
    subst Pairs (sym (two_inserts (later_unit s) (flat_map later_unit more)))
    (pairs_both (inserts (later_unit s)) (inserts (flat_map later_unit more)) (pairs_one (start_of s) (boundary_of s) (start_of s) (length s)) (pairs_later (start_of s + 1) more g.1)
    (one_of (λ a. Each (Differ a) (inserts (flat_map later_unit more))) (start_of s) (boundary_of s) (start_of s) (length s)
    (later_of (Differ (start_of s)) more (ascend_above (start_of s + 1) (start_of s) (omega arith) more g.1))))

pairs_own : (f : Frame) (low : ℕ) (segs : List (List Mark)) → f.insert ≤ low → Ascend low segs → Pairs (inserts (segment_units f segs))
pairs_own f low [] h g = (tt, tt)
pairs_own f low (s ∷ more) h g =
    let first : low ≤ start_of s = g.0 in
    subst Pairs (sym (two_inserts (unit f.start (first_end f s) f.insert (length s)) (flat_map later_unit more)))
    (pairs_both (inserts (unit f.start (first_end f s) f.insert (length s))) (inserts (flat_map later_unit more)) (pairs_one f.start (first_end f s) f.insert (length s)) (pairs_later (start_of s + 1) more g.1)
    (one_of (λ a. Each (Differ a) (inserts (flat_map later_unit more))) f.start (first_end f s) f.insert (length s)
    (later_of (Differ f.insert) more (ascend_above (start_of s + 1) f.insert (omega arith) more g.1))))

-- ---- where statements and what is in them stand

pub record Inner (low high stop a : ℕ) : Type 0 where
  pub from : low ≤ a
  pub below : a < high
  pub upto : a ≤ stop

pub last_le : (base low high : ℕ) (ms : List Mark) → AreMarks low high ms → base ≤ low → base ≤ last_stop base ms
last_le base low high [] h k = omega arith
last_le base low high (m ∷ ms) h k =
    let first : low ≤ m.start = h.0 in
    let some : m.start < m.stop = h.1.some in
    let rest : m.stop ≤ last_stop m.stop ms = last_le m.stop (m.stop + 1) high ms h.3 (omega arith) in
    omega arith

inner_lower : (low low' high stop a : ℕ) → low ≤ low' → Inner low' high stop a → Inner low high stop a
inner_lower low low' high stop a h i = let from : low' ≤ a = i.from in record { from = omega arith; below = i.below; upto = i.upto }

pub inner_starts : (base low high : ℕ) (ms : List Mark) → AreMarks low high ms → Each (λ m. Inner low high (last_stop base ms) m.start) ms
inner_starts base low high [] h = tt
inner_starts base low high (m ∷ ms) h =
    let first : low ≤ m.start = h.0 in
    let some : m.start < m.stop = h.1.some in
    let within : m.stop ≤ high = h.2 in
    let rest : m.stop ≤ last_stop m.stop ms = last_le m.stop (m.stop + 1) high ms h.3 (omega arith) in (
      record { from = first; below = omega arith; upto = omega arith },
      weaker (λ n. Inner (m.stop + 1) high (last_stop m.stop ms) n.start) (λ n. Inner low high (last_stop m.stop ms) n.start) (λ n. inner_lower low (m.stop + 1) high (last_stop m.stop ms) n.start (omega arith)) ms
          (inner_starts m.stop (m.stop + 1) high ms h.3),
    )

-- strictly in a statement
pub record Between (start stop a : ℕ) : Type 0 where
  pub after : start < a
  pub before : a < stop

pub record NodeFacts (n : Node) : Type 0 where
  pub within : Each (Between (mark_of n).start (mark_of n).stop) (inserts_in (lists_in n))
  pub apart : Pairs (inserts_in (lists_in n))

abbrev pub NodesFacts : Nodes → Type 0
NodesFacts no_node = Unit {0}
NodesFacts (next_node n ns) = NodeFacts n × NodesFacts ns

pub nodes_inner : (base low high : ℕ) (ns : Nodes) → AreMarks low high (marks ns) → NodesFacts ns → Each (Inner low high (last_stop base (marks ns))) (inserts_in (lists_among ns))
nodes_inner base low high no_node h f = tt
nodes_inner base low high (next_node n ns) h f =
    let m = mark_of n in
    let first : low ≤ (mark_of n).start = h.0 in
    let some : (mark_of n).start < (mark_of n).stop = h.1.some in
    let within : (mark_of n).stop ≤ high = h.2 in
    let rest : (mark_of n).stop ≤ last_stop (mark_of n).stop (marks ns) = last_le m.stop (m.stop + 1) high (marks ns) h.3 (omega arith) in
    subst (Each (Inner low high (last_stop m.stop (marks ns)))) (sym (in_two (lists_in n) (lists_among ns)))
    (both (Inner low high (last_stop m.stop (marks ns))) (inserts_in (lists_in n)) (inserts_in (lists_among ns))
    (weaker (Between m.start m.stop) (Inner low high (last_stop m.stop (marks ns)))
    (λ a b. let after : (mark_of n).start < a = b.after in let before : a < (mark_of n).stop = b.before in record { from = omega arith; below = omega arith; upto = omega arith })
    (inserts_in (lists_in n)) f.0.within)
    (weaker (Inner (m.stop + 1) high (last_stop m.stop (marks ns))) (Inner low high (last_stop m.stop (marks ns))) (λ a. inner_lower low (m.stop + 1) high (last_stop m.stop (marks ns)) a (omega arith))
    (inserts_in (lists_among ns)) (nodes_inner m.stop (m.stop + 1) high ns h.3 f.1)))

nodes_apart : (low high : ℕ) (ns : Nodes) → AreMarks low high (marks ns) → NodesFacts ns → Pairs (inserts_in (lists_among ns))
nodes_apart low high no_node h f = tt
nodes_apart low high (next_node n ns) h f =
    let m = mark_of n in
    subst Pairs (sym (in_two (lists_in n) (lists_among ns)))
    (pairs_both (inserts_in (lists_in n)) (inserts_in (lists_among ns)) f.0.apart (nodes_apart (m.stop + 1) high ns h.3 f.1)
    (cross_before m.start m.stop m.stop m.stop (last_stop m.stop (marks ns)) high (omega arith) (inserts_in (lists_in n)) (inserts_in (lists_among ns))
    (weaker (Between m.start m.stop) (In m.start m.stop m.stop)
    (λ a b. let before : a < (mark_of n).stop = b.before in record { above = b.after; upto = omega arith; below = before })
    (inserts_in (lists_in n)) f.0.within)
    (weaker (Inner (m.stop + 1) high (last_stop m.stop (marks ns))) (In m.stop (last_stop m.stop (marks ns)) high)
    (λ a i. let from : (mark_of n).stop + 1 ≤ a = i.from in record { above = omega arith; upto = i.upto; below = i.below })
    (inserts_in (lists_among ns)) (nodes_inner m.stop (m.stop + 1) high ns h.3 f.1))))

-- not strictly in a statement
abbrev pub Outside : ℕ → Mark → Type 0
Outside a m = (a ≤ m.start) ⊎ (m.stop < a)

pub before_all : (a low high : ℕ) (ms : List Mark) → a ≤ low → AreMarks low high ms → Each (Outside a) ms
before_all a low high [] k h = tt
before_all a low high (m ∷ ms) k h =
    let first : low ≤ m.start = h.0 in
    let some : m.start < m.stop = h.1.some in
    (inl (omega arith), before_all a (m.stop + 1) high ms (omega arith) h.3)

each_and : {X : Type 0} (P Q R : X → Type 0) → ((x : X) → P x → Q x → R x) → (xs : List X) → Each P xs → Each Q xs → Each R xs
each_and P Q R w [] h k = tt
each_and P Q R w (x ∷ xs) h k = (w x h.0 k.0, each_and P Q R w xs h.1 k.1)

pub starts_outside : (low high : ℕ) (ms : List Mark) → AreMarks low high ms → Each (λ n. Each (Outside n.start) ms) ms
starts_outside low high [] h = tt
starts_outside low high (m ∷ ms) h =
    let some : m.start < m.stop = h.1.some in (
      (inl (omega arith), before_all m.start (m.stop + 1) high ms (omega arith) h.3),
      each_and (λ n. Inner (m.stop + 1) high (last_stop m.stop ms) n.start) (λ n. Each (Outside n.start) ms) (λ n. Each (Outside n.start) (m ∷ ms))
          (λ n i o. let from : m.stop + 1 ≤ n.start = i.from in (inr (omega arith), o)) ms
          (inner_starts m.stop (m.stop + 1) high ms h.3) (starts_outside (m.stop + 1) high ms h.3),
    )

outside_by : (a : ℕ) (m : Mark) → Outside a m → (xs : List ℕ) → Each (Between m.start m.stop) xs → Each (Differ a) xs
outside_by a m (inl h) xs f = weaker (Between m.start m.stop) (Differ a) (λ x b e. let after : m.start < x = b.after in absurd (omega arith)) xs f
outside_by a m (inr h) xs f = weaker (Between m.start m.stop) (Differ a) (λ x b e. let before : x < m.stop = b.before in absurd (omega arith)) xs f

outside_nodes : (a : ℕ) (ns : Nodes) → Each (Outside a) (marks ns) → NodesFacts ns → Each (Differ a) (inserts_in (lists_among ns))
outside_nodes a no_node h f = tt
outside_nodes a (next_node n ns) h f =
    subst (Each (Differ a)) (sym (in_two (lists_in n) (lists_among ns)))
    (both (Differ a) (inserts_in (lists_in n)) (inserts_in (lists_among ns)) (outside_by a (mark_of n) h.0 (inserts_in (lists_in n)) f.0.within) (outside_nodes a ns h.1 f.1))

-- ---- one list with what is in its statements

pub inner_in : (low high : ℕ) (k : Kind) (ms : List Mark) (a : ℕ) → IsBetween low high k → Inner (first_offset k) (last_offset high k) (last_stop (first_offset k) ms) a → In low (list_stop k ms) high a
inner_in low high (braces left right) ms a h i = let from : left + 1 ≤ a = i.from in let below : a < right = i.below in record { above = omega arith; upto = omega arith; below = omega arith }
inner_in low high (else_braces after left right) ms a h i = let from : left + 1 ≤ a = i.from in let below : a < right = i.below in record { above = omega arith; upto = omega arith; below = omega arith }
inner_in low high (else_if after right) ms a h i = let from : after + 1 ≤ a = i.from in let below : a < right = i.below in record { above = omega arith; upto = omega arith; below = omega arith }
inner_in low high (clause colon) ms a h i = let from : colon + 1 ≤ a = i.from in let below : a < high - 1 = i.below in record { above = omega arith; upto = i.upto; below = omega arith }

pub insert_in : (low high : ℕ) (k : Kind) (ms : List Mark) → IsBetween low high k → AreMarks (first_offset k) (last_offset high k) ms → In low (list_stop k ms) high (frame k).insert
insert_in low high (braces left right) ms h marked = record { above = omega arith; upto = omega arith; below = omega arith }
insert_in low high (else_braces after left right) ms h marked = record { above = omega arith; upto = omega arith; below = omega arith }
insert_in low high (else_if after right) ms h marked = record { above = omega arith; upto = omega arith; below = omega arith }
insert_in low high (clause colon) ms h marked = record { above = omega arith; upto = last_le (colon + 1) (colon + 1) (high - 1) ms marked (omega arith); below = omega arith }

pub insert_first : (k : Kind) → (frame k).insert ≤ first_offset k
insert_first (braces left right) = omega arith
insert_first (else_braces after left right) = omega arith
insert_first (else_if after right) = omega arith
insert_first (clause colon) = omega arith

pub record ListFacts (low stop high : ℕ) (k : Kind) (ns : Nodes) : Type 0 where
  pub own_in : Each (In low stop high) (own k (marks ns))
  pub nested_in : Each (In low stop high) (inserts_in (lists_among ns))
  pub own_apart : Pairs (own k (marks ns))
  pub nested_apart : Pairs (inserts_in (lists_among ns))
  pub crossed : Cross (own k (marks ns)) (inserts_in (lists_among ns))

pub list_facts : (low high : ℕ) (k : Kind) (ns : Nodes) → IsBetween low high k → AreMarks (first_offset k) (last_offset high k) (marks ns) → NodesFacts ns → ListFacts low (list_stop k (marks ns)) high k ns
list_facts low high k ns h marked f =
    let ms = marks ns in
    record {
      own_in = own_of (In low (list_stop k ms) high) (frame k) (segments ms) (insert_in low high k ms h marked)
          (starts_of (In low (list_stop k ms) high) ms
          (weaker (λ (m : Mark). Inner (first_offset k) (last_offset high k) (last_stop (first_offset k) (marks ns)) m.start) (λ (m : Mark). In low (list_stop k (marks ns)) high m.start) (λ m. inner_in low high k ms m.start h) ms
          (inner_starts (first_offset k) (first_offset k) (last_offset high k) ms marked)));
      nested_in = weaker (Inner (first_offset k) (last_offset high k) (last_stop (first_offset k) ms)) (In low (list_stop k ms) high) (λ a. inner_in low high k ms a h) (inserts_in (lists_among ns))
          (nodes_inner (first_offset k) (first_offset k) (last_offset high k) ns marked f);
      own_apart = pairs_own (frame k) (first_offset k) (segments ms) (insert_first k) (ascends (first_offset k) (last_offset high k) ms marked);
      nested_apart = nodes_apart (first_offset k) (last_offset high k) ns marked f;
      crossed = own_of (λ (a : ℕ). Each (Differ a) (inserts_in (lists_among ns))) (frame k) (segments ms)
          (outside_nodes (frame k).insert ns (before_all (frame k).insert (first_offset k) (last_offset high k) ms (insert_first k) marked) f)
          (starts_of (λ (a : ℕ). Each (Differ a) (inserts_in (lists_among ns))) ms
          (weaker (λ (m : Mark). Each (Outside m.start) (marks ns)) (λ (m : Mark). Each (Differ m.start) (inserts_in (lists_among ns))) (λ m o. outside_nodes m.start ns o f) ms (starts_outside (first_offset k) (last_offset high k) ms marked)));
    }

-- ---- several lists

pub in_lower : (low low' high a : ℕ) → low ≤ low' → In low' high high a → In low high high a
in_lower low low' high a h i = let above : low' < a = i.above in record { above = omega arith; upto = i.upto; below = i.below }

in_wider : (low stop high a : ℕ) → In low stop high a → In low high high a
in_wider low stop high a i = let below : a < high = i.below in record { above = i.above; upto = omega arith; below = below }

pub record Together (low high : ℕ) (ls : Lists) : Type 0 where
  pub heads_in : Each (In low high high) (inserts_in (heads ls))
  pub behind_in : Each (In low high high) (inserts_in (lists_behind ls))
  pub heads_apart : Pairs (inserts_in (heads ls))
  pub behind_apart : Pairs (inserts_in (lists_behind ls))
  pub crossed : Cross (inserts_in (heads ls)) (inserts_in (lists_behind ls))

pub record Along (low high : ℕ) (ls : Lists) : Type 0 where
  pub all_in : Each (In low high high) (inserts_in (lists_along ls))
  pub apart : Pairs (inserts_in (lists_along ls))

together_step : (low high : ℕ) (k : Kind) (ns : Nodes) (more : Lists) → IsBetween low high k → AreMarks (first_offset k) (last_offset high k) (marks ns) → NodesFacts ns
    → Together (list_stop k (marks ns)) high more → Together low high (next_list k ns more)
together_step low high k ns more h marked f rest =
    let stop = list_stop k (marks ns) in
    let l = list_facts low high k ns h marked f in
    let i = insert_in low high k (marks ns) h marked in
    let above : low < (frame k).insert = i.above in
    let upto : (frame k).insert ≤ list_stop k (marks ns) = i.upto in
    let o = own k (marks ns) in
    let n = inserts_in (lists_among ns) in
    let hs = inserts_in (heads more) in
    let bs = inserts_in (lists_behind more) in
    let first = in_cons k (marks ns) (heads more) in
    let second = in_two (lists_among ns) (lists_behind more) in
    let lower : (xs : List ℕ) → Each (In stop high high) xs → Each (In low high high) xs = λ xs g. weaker (In stop high high) (In low high high) (λ a. in_lower low stop high a (omega arith)) xs g in
    let wider : (xs : List ℕ) → Each (In low stop high) xs → Each (In low high high) xs = λ xs g. weaker (In low stop high) (In low high high) (in_wider low stop high) xs g in
    let first_apart : (xs ys : List ℕ) → Each (In low stop high) xs → Each (In stop high high) ys → Cross xs ys = cross_before low stop high stop high high (omega arith) in
    record {
      heads_in = subst (Each (In low high high)) (sym first) (both (In low high high) o hs (wider o l.own_in) (lower hs rest.heads_in));
      behind_in = subst (Each (In low high high)) (sym second) (both (In low high high) n bs (wider n l.nested_in) (lower bs rest.behind_in));
      heads_apart = subst Pairs (sym first) (pairs_both o hs l.own_apart rest.heads_apart (first_apart o hs l.own_in rest.heads_in));
      behind_apart = subst Pairs (sym second) (pairs_both n bs l.nested_apart rest.behind_apart (first_apart n bs l.nested_in rest.behind_in));
      crossed = subst (λ x. Cross x (inserts_in (lists_among ns ++ lists_behind more))) (sym first) (subst (Cross (own k (marks ns) ++ inserts_in (heads more))) (sym second)
          (both (λ a. Each (Differ a) (inserts_in (lists_among ns) ++ inserts_in (lists_behind more))) o hs
          (cross_right o n bs l.crossed (first_apart o bs l.own_in rest.behind_in))
          (cross_right hs n bs (cross_after stop high high low stop high (omega arith) hs n rest.heads_in l.nested_in) rest.crossed)));
    }

along_step : (low high : ℕ) (k : Kind) (ns : Nodes) (more : Lists) → IsBetween low high k → AreMarks (first_offset k) (last_offset high k) (marks ns) → NodesFacts ns
    → Along (list_stop k (marks ns)) high more → Along low high (next_list k ns more)
along_step low high k ns more h marked f rest =
    let stop = list_stop k (marks ns) in
    let l = list_facts low high k ns h marked f in
    let i = insert_in low high k (marks ns) h marked in
    let above : low < (frame k).insert = i.above in
    let upto : (frame k).insert ≤ list_stop k (marks ns) = i.upto in
    let o = own k (marks ns) in
    let n = inserts_in (lists_among ns) in
    let r = inserts_in (lists_along more) in
    let same : inserts_in (lists_along (next_list k ns more)) ≡ own k (marks ns) ++ (inserts_in (lists_among ns) ++ inserts_in (lists_along more)) =
    in_cons k (marks ns) (lists_among ns ++ lists_along more) ∙ ap (λ x. own k (marks ns) ++ x) (in_two (lists_among ns) (lists_along more)) in
    let lower : (xs : List ℕ) → Each (In stop high high) xs → Each (In low high high) xs = λ xs g. weaker (In stop high high) (In low high high) (λ a. in_lower low stop high a (omega arith)) xs g in
    let wider : (xs : List ℕ) → Each (In low stop high) xs → Each (In low high high) xs = λ xs g. weaker (In low stop high) (In low high high) (in_wider low stop high) xs g in
    let first_apart : (xs ys : List ℕ) → Each (In low stop high) xs → Each (In stop high high) ys → Cross xs ys = cross_before low stop high stop high high (omega arith) in
    record {
      all_in = subst (Each (In low high high)) (sym same) (both (In low high high) o (n ++ r) (wider o l.own_in) (both (In low high high) n r (wider n l.nested_in) (lower r rest.all_in)));
      apart = subst Pairs (sym same)
          (pairs_both o (n ++ r) l.own_apart
          (pairs_both n r l.nested_apart rest.apart (first_apart n r l.nested_in rest.all_in))
          (cross_right o n r l.crossed (first_apart o r l.own_in rest.all_in)));
    }

in_between : (start stop : ℕ) (xs : List ℕ) → Each (In start stop stop) xs → Each (Between start stop) xs
in_between start stop xs h = weaker (In start stop stop) (Between start stop) (λ a i. record { after = i.above; before = i.below }) xs h

mutual
  pub node_facts : (n : Node) → IsNode n → NodeFacts n
  node_facts (node m true inside) h =
      let t = together_facts m.start m.stop inside h in
      let same = in_two (heads inside) (lists_behind inside) in
      record {
        within = subst (Each (Between m.start m.stop)) (sym same)
            (both (Between m.start m.stop) (inserts_in (heads inside)) (inserts_in (lists_behind inside))
            (in_between m.start m.stop (inserts_in (heads inside)) t.heads_in) (in_between m.start m.stop (inserts_in (lists_behind inside)) t.behind_in));
        apart = subst Pairs (sym same) (pairs_both (inserts_in (heads inside)) (inserts_in (lists_behind inside)) t.heads_apart t.behind_apart t.crossed);
      }
  node_facts (node m false inside) h =
      let a = along_facts m.start m.stop inside h in
      record { within = in_between m.start m.stop (inserts_in (lists_along inside)) a.all_in; apart = a.apart }

  pub nodes_facts : (ns : Nodes) → AreNodes ns → NodesFacts ns
  nodes_facts no_node h = tt
  nodes_facts (next_node n ns) h = (node_facts n h.0, nodes_facts ns h.1)

  pub together_facts : (low high : ℕ) (ls : Lists) → AreLists low high ls → Together low high ls
  together_facts low high no_list h = record { heads_in = tt; behind_in = tt; heads_apart = tt; behind_apart = tt; crossed = tt }
  together_facts low high (next_list k ns more) h =
      together_step low high k ns more h.0 h.1 (nodes_facts ns h.2) (together_facts (list_stop k (marks ns)) high more h.3)

  pub along_facts : (low high : ℕ) (ls : Lists) → AreLists low high ls → Along low high ls
  along_facts low high no_list h = record { all_in = tt; apart = tt }
  along_facts low high (next_list k ns more) h =
      along_step low high k ns more h.0 h.1 (nodes_facts ns h.2) (along_facts (list_stop k (marks ns)) high more h.3)

-- ---- functions and files

abbrev pub file_inserts : List Func → List ℕ
file_inserts fs = inserts (flat_map (λ f. f.units) (map func_units fs))

func_along : (f : Func) → IsFunc f → Along f.span.start f.span.end (body (block_outline f.body) no_list)
func_along f h = along_facts f.span.start f.span.end (body (block_outline f.body) no_list) h

pub func_in : (f : Func) → IsFunc f → Each (In f.span.start f.span.end f.span.end) (inserts (func_units f).units)
unfolding func_lists
func_in f h = (func_along f h).all_in

func_apart : (f : Func) → IsFunc f → Pairs (inserts (func_units f).units)
unfolding func_lists
func_apart f h = (func_along f h).apart

above_lower : (low high : ℕ) → low ≤ high → (xs : List ℕ) → Each (λ a. high < a) xs → Each (λ a. low < a) xs
above_lower low high h xs g = weaker (λ a. high < a) (λ a. low < a) (λ a k. omega arith) xs g

pub span_some : (f : Func) → IsFunc f → f.span.start ≤ f.span.end
span_some f h = let a : f.span.start ≤ (block_outline f.body).left = h.0.0 in let b : (block_outline f.body).left < (block_outline f.body).right = h.0.1 in let c : (block_outline f.body).right < f.span.end = h.0.2 in omega arith

pub funcs_above : (low : ℕ) (fs : List Func) → AreFuncs low fs → Each (λ a. low < a) (file_inserts fs)
funcs_above low [] h = tt
funcs_above low (f ∷ fs) h =
    let from : low ≤ f.span.start = h.0 in
    let some : f.span.start ≤ f.span.end = span_some f h.1 in
    subst (Each (λ a. low < a)) (sym (two_inserts (func_units f).units (flat_map (λ g. g.units) (map func_units fs))))
    (both (λ a. low < a) (inserts (func_units f).units) (file_inserts fs)
    (weaker (In f.span.start f.span.end f.span.end) (λ a. low < a) (λ a i. let above : f.span.start < a = i.above in omega arith) (inserts (func_units f).units) (func_in f h.1))
    (above_lower low f.span.end (omega arith) (file_inserts fs) (funcs_above f.span.end fs h.2)))

funcs_apart : (low : ℕ) (fs : List Func) → AreFuncs low fs → Pairs (file_inserts fs)
funcs_apart low [] h = tt
funcs_apart low (f ∷ fs) h =
    subst Pairs (sym (two_inserts (func_units f).units (flat_map (λ g. g.units) (map func_units fs))))
    (pairs_both (inserts (func_units f).units) (file_inserts fs) (func_apart f h.1) (funcs_apart f.span.end fs h.2)
    (weaker (In f.span.start f.span.end f.span.end) (λ a. Each (Differ a) (file_inserts fs))
    (λ a i. weaker (λ b. f.span.end < b) (Differ a) (λ b above e. let below : a < f.span.end = i.below in absurd (omega arith)) (file_inserts fs) (funcs_above f.span.end fs h.2))
    (inserts (func_units f).units) (func_in f h.1)))

differ_units : (u : CutUnit) (us : List CutUnit) → Each (Differ u.insert) (inserts us) → Each (λ v. u.insert ≢ v.insert) us
differ_units u [] h = tt
differ_units u (v ∷ us) h = (h.0, differ_units u us h.1)

pairs_units : (us : List CutUnit) → Pairs (inserts us) → AllPairs (λ u v. u.insert ≢ v.insert) us
pairs_units [] h = λ i j d lt within. absurd (omega arith)
pairs_units (u ∷ us) h = AllPairs-cons (λ u v. u.insert ≢ v.insert) u us (each_all (λ v. u.insert ≢ v.insert) us (differ_units u us h.0)) (pairs_units us h.1)

pub file_apart : (file : File) → IsPlaced file → AllPairs (λ u v. u.insert ≢ v.insert) (flat_map (λ f. f.units) (units_of file))
file_apart file h = pairs_units (flat_map (λ f. f.units) (units_of file)) (funcs_apart 0 (flat_map cut_in file.decls) h)
