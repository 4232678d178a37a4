-- A text with pieces put in, up to the next piece.
use Rattle.std.proofs.Common.{◌≡◌, ◌≢◌, ℕ, zero, suc, ◌+◌, ◌-◌, ◌<◌, ◌≤◌, ◌==◌, Bool, true, false, cond, List, [], ◌∷◌, ◌++◌, refl, sym, ap, subst, ◌∙◌, append_assoc, length, take, drop, get_or, arith, eq-eqb}
use Rattle.std.specs.List.{flat_map, filter}
use Rattle.std.specs.List.Sorted.{ties, IsNonDecreasingBy, IsStableByKey}
use Rattle.std.specs.Ordering.{is_lt, nat_cmp}
use Rattle.std.proofs.Math.ListN.{drop_of_length-le}
use Rattle.std.proofs.lemmas.List.{drop-drop, length-drop}
use Rattle.std.proofs.lemmas.Grind.{common_steps}
use Rattle.cov_rewrite.specs.declared.piece.Addition.TheVariants as addition
use Rattle.cov_rewrite.proofs.Rows.{drop_at, take_all, turned}
use Rattle.cov_outside.specs.declared.mode.Mode.{Mode}
use Rattle.cov_rewrite.specs.declared.piece.Piece.{Piece}
use Rattle.cov_rewrite.specs.Additions.{addition_text}
use Rattle.cov_rewrite.specs.Weaving.{text_at, woven_from, woven}
use Rattle.cov_rewrite.specs.Ascending.{Ascends}

-- ---- what is put in by offsets

pub agree : (f g : ℕ → List ℕ) (at : ℕ) (text : List ℕ) → ((o : ℕ) → at ≤ o → f o ≡ g o) → woven_from f at text ≡ woven_from g at text
agree f g at [] h = h at (omega arith)
agree f g at (b ∷ bs) h =
    ap (λ x. x ++ b ∷ woven_from f (at + 1) bs) (h at (omega arith))
    ∙ ap (λ x. g at ++ b ∷ x) (agree f g (at + 1) bs (λ o le. h o (omega arith)))

-- nothing is put in before an offset
pub skip : (f : ℕ → List ℕ) (at n : ℕ) (text : List ℕ) → n ≤ length text → ((o : ℕ) → at ≤ o → o < at + n → f o ≡ []) → woven_from f at text ≡ take n text ++ woven_from f (at + n) (drop n text)
skip f at zero text le h = ap (λ (k : ℕ). woven_from f k text) (let e : at ≡ at + 0 = omega arith in e)
skip f at (suc n) [] le h = absurd (omega arith)
skip f at (suc n) (b ∷ bs) le h =
    ap (λ x. x ++ b ∷ woven_from f (at + 1) bs) (h at (omega arith) (omega arith))
    ∙ ap (λ x. b ∷ x) (skip f (at + 1) n bs (omega arith) (λ o le lt. h o (omega arith) (omega arith)))
    ∙ ap (λ (k : ℕ). b ∷ (take n bs ++ woven_from f k (drop n bs))) (let e : at + 1 + n ≡ at + suc n = omega arith in e)

-- what is put in first at an offset
pub front : (f g : ℕ → List ℕ) (at : ℕ) (text a : List ℕ) → f at ≡ a ++ g at → ((o : ℕ) → at < o → f o ≡ g o) → woven_from f at text ≡ a ++ woven_from g at text
front f g at [] a e h = e
front f g at (b ∷ bs) a e h =
    ap (λ x. x ++ b ∷ woven_from f (at + 1) bs) e
    ∙ ap (λ x. (a ++ g at) ++ b ∷ x) (agree f g (at + 1) bs (λ o le. h o (omega arith)))
    ∙ append_assoc a (g at) (b ∷ woven_from g (at + 1) bs)

-- ---- pieces

same_number : (n : ℕ) → (n == n) ≡ true
same_number n = eq-eqb n n refl

other_number : (m n : ℕ) → m ≢ n → (m == n) ≡ false
other_number m n h = grind (arith, h)

module _ (var : List ℕ) (m : Mode) where
  pub none_before : (from : ℕ) (ps : List Piece) → Ascends from ps → (o : ℕ) → o < from → text_at var m ps o ≡ []
  none_before from [] up o lt = refl
  none_before from (p ∷ ps) up o lt =
      ap (λ b. flat_map (λ q. addition_text var m q.addition) (cond b (p ∷ filter (λ q. q.at == o) ps) (filter (λ q. q.at == o) ps))) (other_number p.at o (λ e. let a = up.0 in absurd (omega arith)))
      ∙ none_before p.at ps up.1 o (let a = up.0 in omega arith)

  at_first : (p : Piece) (ps : List Piece) → text_at var m (p ∷ ps) p.at ≡ addition_text var m p.addition ++ text_at var m ps p.at
  at_first p ps =
      ap (λ b. flat_map (λ q. addition_text var m q.addition) (cond b (p ∷ filter (λ q. q.at == p.at) ps) (filter (λ q. q.at == p.at) ps))) (same_number p.at)

  past_first : (p : Piece) (ps : List Piece) (o : ℕ) → p.at < o → text_at var m (p ∷ ps) o ≡ text_at var m ps o
  past_first p ps o lt =
      ap (λ b. flat_map (λ q. addition_text var m q.addition) (cond b (p ∷ filter (λ q. q.at == o) ps) (filter (λ q. q.at == o) ps))) (other_number p.at o (λ e. absurd (omega arith)))

  -- from an offset up to the first piece and with it
  pub up_to_first : (p : Piece) (ps : List Piece) (at : ℕ) (text : List ℕ) → at ≤ p.at → p.at ≤ at + length text → Ascends p.at ps
      → woven_from (text_at var m (p ∷ ps)) at text ≡ take (p.at - at) text ++ (addition_text var m p.addition ++ woven_from (text_at var m ps) p.at (drop (p.at - at) text))
  up_to_first p ps at text low high up =
      skip (text_at var m (p ∷ ps)) at (p.at - at) text (omega arith) (λ o le lt. none_before p.at (p ∷ ps) (let r : p.at ≤ p.at = omega arith in (r, up)) o (omega arith))
      ∙ ap (λ (k : ℕ). take (p.at - at) text ++ woven_from (text_at var m (p ∷ ps)) k (drop (p.at - at) text)) (let e : at + (p.at - at) ≡ p.at = omega arith in e)
      ∙ ap (λ x. take (p.at - at) text ++ x) (front (text_at var m (p ∷ ps)) (text_at var m ps) p.at (drop (p.at - at) text) (addition_text var m p.addition) (at_first p ps) (λ o lt. past_first p ps o lt))

  -- behind the last piece
  pub after_last : (at : ℕ) (text : List ℕ) → woven_from (text_at var m []) at text ≡ text
  after_last at [] = refl
  after_last at (b ∷ bs) = ap (λ x. b ∷ x) (after_last (at + 1) bs)

  -- the turn of a loop over pieces in order
  pub weave_step : (pieces : List Piece) (i : ℕ) (p : Piece) (at : ℕ) (text old mid new done : List ℕ) → i < length pieces → p ≡ get_or pieces i p → at ≤ length text → p.at ≤ length text → Ascends at (drop i pieces)
      → old ++ woven_from (text_at var m (drop i pieces)) at (drop at text) ≡ done → mid ≡ old ++ take (p.at - at) (drop at text) → new ≡ mid ++ addition_text var m p.addition
      → new ++ woven_from (text_at var m (drop (i + 1) pieces)) p.at (drop p.at text) ≡ done
  weave_step pieces i p at text old mid new done lt same here there up before first second =
      let rest = drop (i + 1) pieces in
      let cut : drop i pieces ≡ p ∷ rest = drop_at pieces i p lt same in
      let order : Ascends at (p ∷ rest) = subst (Ascends at) cut up in
      let low : at ≤ p.at = order.0 in
      let behind : drop (p.at - at) (drop at text) ≡ drop p.at text = drop-drop (p.at - at) at text ∙ ap (λ (k : ℕ). drop k text) (let e : at + (p.at - at) ≡ p.at = omega arith in e) in
      let long : p.at ≤ at + length (drop at text) = omega (arith, length-drop at text) in
      turned mid new (addition_text var m p.addition) (woven_from (text_at var m rest) p.at (drop p.at text)) (addition_text var m p.addition ++ woven_from (text_at var m rest) p.at (drop p.at text)) done
      (turned old mid (take (p.at - at) (drop at text)) (addition_text var m p.addition ++ woven_from (text_at var m rest) p.at (drop p.at text)) (woven_from (text_at var m (drop i pieces)) at (drop at text)) done before
      (ap (λ ps. woven_from (text_at var m ps) at (drop at text)) cut
      ∙ up_to_first p rest at (drop at text) low long order.1
      ∙ ap (λ t. take (p.at - at) (drop at text) ++ (addition_text var m p.addition ++ woven_from (text_at var m rest) p.at t)) behind)
      first)
      refl second

  pub order_step : (pieces : List Piece) (i : ℕ) (p : Piece) (at : ℕ) → i < length pieces → p ≡ get_or pieces i p → Ascends at (drop i pieces) → (at ≤ p.at) × Ascends p.at (drop (i + 1) pieces)
  order_step pieces i p at lt same up = subst (Ascends at) (drop_at pieces i p lt same) up

  -- the end of such a loop
  pub weave_end : (pieces : List Piece) (i at : ℕ) (text old new done : List ℕ) → length pieces ≤ i → at ≤ length text → old ++ woven_from (text_at var m (drop i pieces)) at (drop at text) ≡ done
      → new ≡ old ++ take (length text - at) (drop at text) → new ≡ done
  weave_end pieces i at text old new done le here before last =
      last
      ∙ ap (λ t. old ++ t) (take_all (drop at text) (length text - at) (omega (arith, length-drop at text)) ∙ sym (ap (λ ps. woven_from (text_at var m ps) at (drop at text)) (drop_of_length-le pieces {i = i} le) ∙ after_last at (drop at text)))
      ∙ before

-- ---- the same pieces in the order of their offsets

abbrev pub at_of : Piece → ℕ
at_of p = p.at

pub rising : (ps : List Piece) (at : ℕ) → IsNonDecreasingBy at_of ps → ((d : Piece) → 0 < length ps → at ≤ at_of (get_or ps 0 d)) → Ascends at ps
rising [] at up first = tt
rising (p ∷ ps) at up first = (first p (omega arith), rising ps p.at (λ i j d le lt. up (suc i) (suc j) d (omega arith) (omega arith)) (λ d lt. up 0 1 d (omega arith) (omega arith)))

ties_at : (x : Piece) (p : Piece) → ties (λ y z. is_lt (nat_cmp (at_of y) (at_of z))) x p ≡ (p.at == x.at)
ties_at x p = grind (arith, common_steps)

pub same_texts : (var : List ℕ) (m : Mode) (old new : List Piece) → IsStableByKey at_of nat_cmp old new → (o : ℕ) → text_at var m new o ≡ text_at var m old o
same_texts var m old new stable o =
    let x : Piece = record { at = o; addition = addition.LeftBrace } in
    let f : (ps : List Piece) → filter (ties (λ y z. is_lt (nat_cmp (at_of y) (at_of z))) x) ps ≡ filter (λ q. q.at == o) ps = λ ps. ap (λ (t : Piece → Bool). filter t ps) (λ j p. ties_at x p j) in
    ap (flat_map (λ q. addition_text var m q.addition)) (sym (f new) ∙ stable x ∙ f old)

pub same_woven : (var : List ℕ) (m : Mode) (old new : List Piece) (text : List ℕ) → IsStableByKey at_of nat_cmp old new → woven var m new text ≡ woven var m old text
same_woven var m old new text stable = agree (text_at var m new) (text_at var m old) 0 text (λ o le. same_texts var m old new stable o)
