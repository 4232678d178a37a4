-- A text whose pieces have others put in before them.
use Rattle.std.proofs.Common.{◌≡◌, ◌≢◌, ◌⊎◌, inl, inr, ℕ, ◌+◌, ◌<◌, ◌≤◌, List, [], ◌∷◌, ◌++◌, length, Option, Some, None, refl, sym, ap, subst, ◌∙◌, arith, append_assoc}
use Rattle.std.proofs.lemmas.List.{length-append}
use Rattle.go_ast.specs.declared.token.PieceForm.{PieceForm}
use Rattle.go_ast.specs.Characters.{AreCharacters}
use Rattle.go_ast.specs.Pieces.{Piece, Divides, IsLongest, IsMeant}
use Rattle.go_ast.specs.Tokens.{needed_after}
use Rattle.cov_tokens.specs.Local.{ArePointedAlike}
use Rattle.cov_tokens.proofs.Basics.{cons_is}
use Rattle.cov_tokens.proofs.Firsts.{form_some}
use Rattle.cov_tokens.proofs.Local.{local}
use Rattle.cov_tokens.proofs.Stands.{StandsBefore}
use Rattle.cov_tokens.proofs.Newlines.{before_newline}
use Rattle.cov_tokens.proofs.Spelling.{flat, flat_append, is_some, pending_in}

-- ---- divisions

pub divides_flat : (ps : List Piece) (text rest : List ℕ) → Divides text ps rest → text ≡ flat ps ++ rest
divides_flat [] text rest d = d
divides_flat (p ∷ ps) text rest d = d.1 ∙ ap (λ (x : List ℕ). p.bytes ++ x) (divides_flat ps d.0 rest d.5) ∙ sym (append_assoc p.bytes (flat ps) rest)

pub divides_join : (ps qs : List Piece) (text mid rest : List ℕ) → Divides text ps mid → Divides mid qs rest → Divides text (ps ++ qs) rest
divides_join [] qs text mid rest d e = subst (λ (x : List ℕ). Divides x qs rest) (sym d) e
divides_join (p ∷ ps) qs text mid rest d e = (d.0, d.1, d.2, d.3, d.4, divides_join ps qs d.0 mid rest d.5 e)

-- what is put in divides so, whatever follows
abbrev pub Runs : List Piece → Type 0
Runs ps = (rest : List ℕ) → Divides (flat ps ++ rest) ps rest

-- ---- the walk

-- the pieces from an offset on, with what is put in there and behind
abbrev pub covering : (ℕ → List Piece) → ℕ → List Piece → List Piece
covering put at [] = put at
covering put at (p ∷ ps) = put at ++ p ∷ covering put (at + length p.bytes) ps

abbrev pub Stands : Option Piece → List ℕ → Type 0
Stands None v = ⊥
Stands (Some p) v = StandsBefore p.form p.bytes v

-- what is put in behind a piece: nothing, or what that stands before, and whether a semicolon is needed stays as it was
abbrev pub Fits : (ℕ → List Piece) → Option ℕ → Option Piece → ℕ → Type 0
Fits put o last at = (put at ≡ []) ⊎ (Stands last (flat (put at)) × (pending_in (is_some o) (put at) ≡ is_some o) × ((o ≡ None) ⊎ (o ≡ Some at)))

abbrev pub AllFit : (ℕ → List Piece) → Option ℕ → Option Piece → ℕ → List Piece → Type 0
AllFit put o last at [] = Fits put o last at
AllFit put o last at (p ∷ ps) =
    Fits put o last at × ((x : ℕ) → at < x → x < at + length p.bytes → put x ≡ []) × AllFit put (needed_after p.form p.bytes (at + length p.bytes) o) (Some p) (at + length p.bytes) ps

pub fits_first : (put : ℕ → List Piece) (o : Option ℕ) (last : Option Piece) (at : ℕ) (ps : List Piece) → AllFit put o last at ps → Fits put o last at
fits_first put o last at [] f = f
fits_first put o last at (p ∷ ps) f = f.0

-- no point stands first
abbrev pub NoPoint : List ℕ → Type 0
NoPoint v = (more : List ℕ) → v ≡ 46 ∷ more → ⊥

-- what stands behind the whole: nothing, or a newline and more
pub data Tail (tail : List ℕ) : Type 0 where
  nothing : tail ≡ [] → Tail tail
  line : (more : List ℕ) → tail ≡ 10 ∷ more → Tail tail

tail_point : (tail : List ℕ) → Tail tail → NoPoint tail
tail_point tail (nothing e) more h = let k : [] ≡ 46 ∷ more = sym e ∙ h in absurd cc
tail_point tail (line rest e) more h = let k = (cons_is 10 46 rest more (sym e ∙ h)).0 in absurd (omega arith)

tail_after : (f : PieceForm) (w tail : List ℕ) → Tail tail → IsLongest f w [] → IsMeant f w → AreCharacters w → IsLongest f w tail
tail_after f w tail (nothing e) l meant are = subst (IsLongest f w) (sym e) l
tail_after f w tail (line more e) l meant are = subst (IsLongest f w) (sym e) (before_newline f w more l.has_form meant are)

some_bytes : (w : List ℕ) → 1 ≤ length w → w ≢ []
some_bytes [] h e = omega arith
some_bytes (b ∷ w) h e = let k = ap length e in omega arith

-- both begin with the same bytes
same_front : (w x y : List ℕ) → w ≢ [] → ArePointedAlike (w ++ x) (w ++ y)
same_front [] x y some more e = absurd (some refl)
same_front (b ∷ w) x y some more e = (w ++ x, ap (λ (c : ℕ). c ∷ (w ++ x)) (cons_is b 46 (w ++ y) more e).0)

no_point_front : (v y : List ℕ) → v ≢ [] → NoPoint v → NoPoint (v ++ y)
no_point_front [] y some none more e = some refl
no_point_front (b ∷ v) y some none more e = none v (ap (λ (c : ℕ). c ∷ v) (cons_is b 46 (v ++ y) more e).0)

module _ (put : ℕ → List Piece) (runs : (x : ℕ) → Runs (put x)) (points : (x : ℕ) → NoPoint (flat (put x))) (tail : List ℕ) (ends : Tail tail) where
  -- the bytes of the walk with what stands behind it
  abbrev bytes_from : ℕ → List Piece → List ℕ
  bytes_from at ps = flat (covering put at ps) ++ tail

  bytes_step : (at : ℕ) (p : Piece) (ps : List Piece) → bytes_from at (p ∷ ps) ≡ flat (put at) ++ (p.bytes ++ bytes_from (at + length p.bytes) ps)
  bytes_step at p ps =
      ap (λ (x : List ℕ). x ++ tail) (flat_append (put at) (p ∷ covering put (at + length p.bytes) ps))
      ∙ append_assoc (flat (put at)) (p.bytes ++ flat (covering put (at + length p.bytes) ps)) tail
      ∙ ap (λ (x : List ℕ). flat (put at) ++ x) (append_assoc p.bytes (flat (covering put (at + length p.bytes) ps)) tail)

  -- a piece stands before what is put in behind it and more
  stands_put : (p : Piece) (at : ℕ) (ps : List Piece) → StandsBefore p.form p.bytes (flat (put at)) → IsLongest p.form p.bytes (bytes_from at ps)
  stands_put p at [] s = s tail
  stands_put p at (q ∷ ps) s = subst (IsLongest p.form p.bytes) (sym (bytes_step at q ps)) (s (q.bytes ++ bytes_from (at + length q.bytes) ps))

  -- behind nothing that is put in stands what begins as the source does
  alike_bare : (at : ℕ) (ps : List Piece) (text : List ℕ) → Divides text ps [] → put at ≡ [] → ArePointedAlike text (bytes_from at ps)
  alike_bare at [] text d e = λ more h. absurd (tail_point tail ends more (ap (λ (v : List Piece). flat v ++ tail) (sym e) ∙ h))
  alike_bare at (p ∷ ps) text d e =
      let some : p.bytes ≢ [] = some_bytes p.bytes (form_some p.form p.bytes d.2.has_form) in
      let y : bytes_from at (p ∷ ps) ≡ p.bytes ++ bytes_from (at + length p.bytes) ps = bytes_step at p ps ∙ ap (λ (v : List Piece). flat v ++ (p.bytes ++ bytes_from (at + length p.bytes) ps)) e in
      λ more h.
      let same = same_front p.bytes d.0 (bytes_from (at + length p.bytes) ps) some more (sym y ∙ h) in
      (same.0, d.1 ∙ same.1)

  -- and what is put in doesn't begin with a point
  alike_put : (at : ℕ) (ps : List Piece) (text : List ℕ) → flat (put at) ≢ [] → ArePointedAlike text (bytes_from at ps)
  alike_put at [] text some more h = absurd (no_point_front (flat (put at)) tail some (points at) more h)
  alike_put at (p ∷ ps) text some more h =
      absurd (no_point_front (flat (put at)) (p.bytes ++ bytes_from (at + length p.bytes) ps) some (points at) more (sym (bytes_step at p ps) ∙ h))

  alike : (at : ℕ) (ps : List Piece) (text : List ℕ) → Divides text ps [] → (v : List Piece) → put at ≡ v → ((q : Piece) (qs : List Piece) → put at ≡ q ∷ qs → flat (put at) ≢ []) → ArePointedAlike text (bytes_from at ps)
  alike at ps text d [] e some = alike_bare at ps text d e
  alike at ps text d (q ∷ qs) e some = alike_put at ps text (some q qs e)

  -- a piece that is put in has bytes
  put_some : (at : ℕ) (q : Piece) (qs : List Piece) → put at ≡ q ∷ qs → flat (put at) ≢ []
  put_some at q qs e h =
      let d : Divides (flat (q ∷ qs) ++ []) (q ∷ qs) [] = subst Runs e (runs at) [] in
      let some = form_some q.form q.bytes d.2.has_form in
      let l = length-append q.bytes (flat qs) in
      let k : length (flat (q ∷ qs)) ≡ 0 = ap (λ (v : List Piece). length (flat v)) (sym e) ∙ ap length h in
      absurd (omega arith)

  -- a piece is the longest before what follows it in the covered text
  stays : (p : Piece) (at : ℕ) (o : Option ℕ) (ps : List Piece) (text : List ℕ) → IsLongest p.form p.bytes text → AreCharacters p.bytes → IsMeant p.form p.bytes → Divides text ps [] → AllFit put o (Some p) at ps → IsLongest p.form p.bytes (bytes_from at ps)
  stays p at o [] text l are meant d (inl e) =
      subst (IsLongest p.form p.bytes) (ap (λ (v : List Piece). flat v ++ tail) (sym e)) (tail_after p.form p.bytes tail ends (subst (IsLongest p.form p.bytes) d l) meant are)
  stays p at o [] text l are meant d (inr f) = stands_put p at [] f.0
  stays p at o (q ∷ ps) text l are meant d ((inl e), inside, f) =
      let some : q.bytes ≢ [] = some_bytes q.bytes (form_some q.form q.bytes d.2.has_form) in
      let end : ℕ = at + length q.bytes in
      let y : bytes_from at (q ∷ ps) ≡ q.bytes ++ bytes_from end ps = bytes_step at q ps ∙ ap (λ (v : List Piece). flat v ++ (q.bytes ++ bytes_from end ps)) e in
      subst (IsLongest p.form p.bytes) (sym y)
      (local p.form p.bytes q.bytes d.0 (bytes_from end ps) are meant d.3 some (alike end ps d.0 d.5 (put end) refl (put_some end)) (subst (IsLongest p.form p.bytes) d.1 l))
  stays p at o (q ∷ ps) text l are meant d ((inr f), inside, g) = stands_put p at (q ∷ ps) f.0

  -- the covered text divides into the source's pieces and those put in
  pub covers : (ps : List Piece) (at : ℕ) (o : Option ℕ) (last : Option Piece) (text : List ℕ) → Divides text ps [] → AllFit put o last at ps → Divides (bytes_from at ps) (covering put at ps) tail
  covers [] at o last text d f = runs at tail
  covers (p ∷ ps) at o last text d f =
      let end : ℕ = at + length p.bytes in
      let more = covers ps end (needed_after p.form p.bytes end o) (Some p) d.0 d.5 f.2 in
      let l = stays p end (needed_after p.form p.bytes end o) ps d.0 d.2 d.3 d.4 d.5 f.2 in
      let behind : Divides (p.bytes ++ bytes_from end ps) (p ∷ covering put end ps) tail = (bytes_from end ps, refl, l, d.3, d.4, more) in
      subst (λ (x : List ℕ). Divides x (put at ++ p ∷ covering put end ps) tail) (sym (bytes_step at p ps))
      (divides_join (put at) (p ∷ covering put end ps) (flat (put at) ++ (p.bytes ++ bytes_from end ps)) (p.bytes ++ bytes_from end ps) tail (runs at (p.bytes ++ bytes_from end ps)) behind)
