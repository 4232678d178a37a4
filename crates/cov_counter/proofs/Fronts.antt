-- A file that is read piece by piece, up to a limit.
use Rattle.std.proofs.Common.{◌≡◌, ℕ, ◌+◌, ◌-◌, ◌<◌, ◌≤◌, List, [], ◌∷◌, ◌++◌, zero, suc, length, take, drop, Option, Some, None, true, false, refl, sym, ap, ◌∙◌, arith, take-add, length-append, Ok, IfSome}
use Rattle.std.proofs.lemmas.List.{take_all, length-take, length-take-le, length-drop}
use Rattle.std.proofs.lemmas.Bool.{le-ltb, lt-ltb}
use Rattle.cov_outside.specs.Tree.{Tree, ReadsAt}
use Rattle.std.specs.FinMap as map
use Rattle.cov_counter.specs.File.{Known, known}
use Rattle.cov_counter.specs.Outside.{file_at}

-- these bytes are the front of the content
abbrev pub IsFront : Option (List ℕ) → List ℕ → Type 0
IsFront None front = Unit {0}
IsFront (Some content) front = front ≡ take (length front) content

-- the same, where a tree is told
abbrev pub IsFrontIn : Option Tree → List ℕ → List ℕ → Type 0
IsFrontIn None path front = Unit {0}
IsFrontIn (Some t) path front = IsFront (map.get t path) front

take-take-le : (m n : ℕ) (xs : List ℕ) → m ≤ n → take m (take n xs) ≡ take m xs
take-take-le zero n xs le = refl
take-take-le (suc m) zero xs le = absurd (omega arith)
take-take-le (suc m) (suc n) [] le = refl
take-take-le (suc m) (suc n) (x ∷ xs) le = ap (λ (ys : List ℕ). x ∷ ys) (take-take-le m n xs (omega arith))

-- the end was reached
pub known_whole : (content front : List ℕ) → front ≡ take (length front) content → length front ≤ 268435456 → length content ≤ length front
    → known content ≡ (record { bytes = front; more = false })
unfolding known
known_whole content front f le end =
    let whole : take 268435456 content ≡ front = take_all 268435456 content (omega arith) ∙ sym (f ∙ take_all (length front) content end) in
    rw (whole, le-ltb 268435456 (length content) (omega arith)) refl

-- the limit was passed
pub known_part : (content front buf : List ℕ) (at n : ℕ) → front ≡ take at content → at ≤ 268435456 → 268435456 - at < n → n ≤ length buf → take n buf ≡ take n (drop at content)
    → known content ≡ record { bytes = front ++ take (268435456 - at) buf; more = true }
unfolding known
known_part content front buf at n f le over fits read =
    let room : ℕ = 268435456 - at in
    let sum : 268435456 ≡ at + (268435456 - at) = omega arith in
    let piece : take (268435456 - at) (drop at content) ≡ take (268435456 - at) buf =
    sym (take-take-le (268435456 - at) n (drop at content) (omega arith)) ∙ ap (λ (ys : List ℕ). take (268435456 - at) ys) (sym read) ∙ take-take-le (268435456 - at) n buf (omega arith) in
    let all : take 268435456 content ≡ front ++ take (268435456 - at) buf =
    ap (λ (k : ℕ). take k content) sum ∙ take-add at (268435456 - at) content ∙ ap (λ (ys : List ℕ). ys ++ take (268435456 - at) (drop at content)) (sym f) ∙ ap (λ (ys : List ℕ). front ++ ys) piece in
    let long : 268435456 < length content = omega (arith, ap length read, length-take n buf, length-take n (drop at content), length-drop at content) in
    rw (all, lt-ltb 268435456 (length content) long) refl

-- ---- where a tree is told

some-none : {A : Type 0} (n : ℕ) → Some n ≡ None → A
some-none n e = cc

pub told_whole : (tree old : Option Tree) (path front buf : List ℕ) (at n : ℕ) (found : Option ℕ) → tree ≡ old → IsFrontIn tree path front → length front ≤ 268435456 → 0 < length buf
    → IfSome tree (λ t. ReadsAt (map.get t path) at buf found) → at ≡ length front → found ≡ Some n → n ≡ 0 → IfSome old (λ t. file_at (map.get t path) ≡ Ok (record { bytes = front; more = false }))
told_whole tree None path front buf at n found same is le some read ea ef en = tt
told_whole tree (Some t) path front buf at n found same is le some read ea ef en = whole (map.get t path) (rw same at is) (rw (same, ea, ef, en) at read)
  where
    whole : (there : Option (List ℕ)) → IsFront there front → ReadsAt there (length front) buf (Some 0) → file_at there ≡ Ok (record { bytes = front; more = false })
    whole None f h = some-none 0 h
    whole (Some content) f h = ap (λ (k : Known). Ok k) (known_whole content front f le (h.1 refl some))

pub told_part : (tree old : Option Tree) (path front buf : List ℕ) (at n : ℕ) (found : Option ℕ) → tree ≡ old → IsFrontIn tree path front → length front ≤ 268435456 → 268435456 - length front < n → n ≤ length buf
    → IfSome tree (λ t. ReadsAt (map.get t path) at buf found) → at ≡ length front → found ≡ Some n
    → IfSome old (λ t. file_at (map.get t path) ≡ Ok (record { bytes = front ++ take (268435456 - at) buf; more = true }))
told_part tree None path front buf at n found same is le over fits read ea ef = tt
told_part tree (Some t) path front buf at n found same is le over fits read ea ef = rw ea (part (map.get t path) (rw same at is) (rw (same, ea, ef) at read))
  where
    part : (there : Option (List ℕ)) → IsFront there front → ReadsAt there (length front) buf (Some n) → file_at there ≡ Ok (record { bytes = front ++ take (268435456 - length front) buf; more = true })
    part None f h = some-none n h
    part (Some content) f h = ap (λ (k : Known). Ok k) (known_part content front buf (length front) n f le over fits h.0)

pub front_more : (tree new : Option Tree) (path front buf : List ℕ) (at n : ℕ) (found : Option ℕ) → new ≡ tree → IsFrontIn tree path front → n ≤ length buf
    → IfSome tree (λ t. ReadsAt (map.get t path) at buf found) → at ≡ length front → found ≡ Some n → IsFrontIn new path (front ++ take n buf)
front_more None new path front buf at n found same is fits read ea ef = rw same tt
front_more (Some t) new path front buf at n found same is fits read ea ef = rw same (more (map.get t path) is (rw (ea, ef) at read))
  where
    more : (there : Option (List ℕ)) → IsFront there front → ReadsAt there (length front) buf (Some n) → IsFront there (front ++ take n buf)
    more None f h = tt
    more (Some content) f h =
        let len : length (front ++ take n buf) ≡ length front + n = length-append front (take n buf) ∙ ap (λ (k : ℕ). length front + k) (length-take-le n buf fits) in
        let all : front ++ take n buf ≡ take (length front + n) content = ap (λ (ys : List ℕ). ys ++ take n buf) f ∙ ap (λ (ys : List ℕ). take (length front) content ++ ys) h.0 ∙ sym (take-add (length front) n content) in
        all ∙ ap (λ (k : ℕ). take k content) (sym len)
