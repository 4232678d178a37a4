-- The spellings of a text whose pieces have others put in before them.
use Rattle.std.proofs.Common.{◌≡◌, ◌⊎◌, inl, inr, ℕ, zero, suc, ◌+◌, ◌-◌, ◌<◌, ◌≤◌, Bool, true, false, cond, List, [], ◌∷◌, ◌++◌, length, Option, Some, None, refl, sym, ap, subst, ◌∙◌, arith, append_assoc}
use Rattle.std.proofs.lemmas.List.{length-append, append-nil}
use Rattle.go_ast.specs.declared.token.PieceForm.{PieceForm}
use Rattle.go_ast.specs.declared.token.PieceForm.TheVariants as form
use Rattle.go_ast.specs.declared.token.TokenKind.{TokenKind}
use Rattle.go_ast.specs.declared.token.TokenKind.TheVariants as kind
use Rattle.go_ast.specs.declared.token.Token.{Token}
use Rattle.go_ast.specs.Pieces.{Piece, Divides}
use Rattle.go_ast.specs.Tokens.{kind_of, ends_line, token, inserted, token_of, tokens_by, needed_behind, needed_after, tokens_from}
use Rattle.cov_tokens.specs.Spellings.{Spelling, spelled, spelling_of}
use Rattle.cov_tokens.specs.Joining.{put_along, spelled_from}
use Rattle.cov_tokens.proofs.Firsts.{form_some}
use Rattle.cov_tokens.proofs.Spelling.{flat, is_some, semicolon, one_spelling, spelling_by, pending, spelled_in, pending_in, spelled_all, spelled_all_append, after_pending, its_bytes, no_bytes}
use Rattle.cov_tokens.proofs.Walk.{covering, Fits, AllFit}

-- a semicolon is needed nowhere, or not before an offset
abbrev pub NeededFrom : Option ℕ → ℕ → Type 0
NeededFrom None low = Unit {0}
NeededFrom (Some x) low = low ≤ x

-- the first token starts no earlier, and there is one or the text ends no earlier
abbrev pub StartFrom : List Token → ℕ → ℕ → Type 0
StartFrom [] low end = low ≤ end
StartFrom (t ∷ ts) low end = low ≤ t.span.start

needed_by : (k : Option TokenKind) (end low : ℕ) (o : Option ℕ) → low ≤ end → NeededFrom o low → NeededFrom (needed_behind k end o) low
needed_by None end low o le n = n
needed_by (Some k) end low o le n = go (ends_line k)
  where
    go : (b : Bool) → NeededFrom (cond b (Some end) None) low
    go true = le
    go false = tt

needed_from : (f : PieceForm) (bytes : List ℕ) (end low : ℕ) (o : Option ℕ) → low ≤ end → NeededFrom o low → NeededFrom (needed_after f bytes end o) low
needed_from form.Line bytes end low o le n = tt
needed_from form.Blank bytes end low o le n = needed_by (kind_of form.Blank bytes) end low o le n
needed_from form.Opening bytes end low o le n = needed_by (kind_of form.Opening bytes) end low o le n
needed_from form.Word bytes end low o le n = needed_by (kind_of form.Word bytes) end low o le n
needed_from form.Number bytes end low o le n = needed_by (kind_of form.Number bytes) end low o le n
needed_from form.Rune bytes end low o le n = needed_by (kind_of form.Rune bytes) end low o le n
needed_from form.Quoted bytes end low o le n = needed_by (kind_of form.Quoted bytes) end low o le n
needed_from form.Raw bytes end low o le n = needed_by (kind_of form.Raw bytes) end low o le n
needed_from (form.Operator place) bytes end low o le n = needed_by (kind_of (form.Operator place) bytes) end low o le n

inserted_start : (o : Option ℕ) (ts : List Token) (low end : ℕ) → NeededFrom o low → StartFrom ts low end → StartFrom (inserted o ++ ts) low end
inserted_start None ts low end n s = s
inserted_start (Some x) ts low end n s = n

token_start : (k : Option TokenKind) (ts : List Token) (start end low last : ℕ) → low ≤ start → StartFrom ts low last → StartFrom (token_of k start end ++ ts) low last
token_start None ts start end low last le s = s
token_start (Some k) ts start end low last le s = le

by_start : (f : PieceForm) (bytes : List ℕ) (ts : List Token) (start end low last : ℕ) (o : Option ℕ) → low ≤ start → NeededFrom o low → StartFrom ts low last → StartFrom (tokens_by f bytes start end o ++ ts) low last
by_start form.Line bytes ts start end low last o le n s = inserted_start o ts low last n s
by_start form.Blank bytes ts start end low last o le n s = token_start (kind_of form.Blank bytes) ts start end low last le s
by_start form.Opening bytes ts start end low last o le n s = token_start (kind_of form.Opening bytes) ts start end low last le s
by_start form.Word bytes ts start end low last o le n s = token_start (kind_of form.Word bytes) ts start end low last le s
by_start form.Number bytes ts start end low last o le n s = token_start (kind_of form.Number bytes) ts start end low last le s
by_start form.Rune bytes ts start end low last o le n s = token_start (kind_of form.Rune bytes) ts start end low last le s
by_start form.Quoted bytes ts start end low last o le n s = token_start (kind_of form.Quoted bytes) ts start end low last le s
by_start form.Raw bytes ts start end low last o le n s = token_start (kind_of form.Raw bytes) ts start end low last le s
by_start (form.Operator place) bytes ts start end low last o le n s = token_start (kind_of (form.Operator place) bytes) ts start end low last le s

last_start : (o : Option ℕ) (low end : ℕ) → low ≤ end → NeededFrom o low → StartFrom (inserted o) low end
last_start None low end le n = le
last_start (Some x) low end le n = n

start_from : (ps : List Piece) (at low end : ℕ) (o : Option ℕ) → low ≤ at → at + length (flat ps) ≡ end → NeededFrom o low → StartFrom (tokens_from at o ps) low end
start_from [] at low end o le e n = last_start o low end (omega arith) n
start_from (p ∷ ps) at low end o le e n =
    let l = length-append p.bytes (flat ps) in
    by_start p.form p.bytes (tokens_from (at + length p.bytes) (needed_after p.form p.bytes (at + length p.bytes) o) ps) at (at + length p.bytes) low end o le n
    (start_from ps (at + length p.bytes) low end (needed_after p.form p.bytes (at + length p.bytes) o) (omega arith) (omega arith) (needed_from p.form p.bytes (at + length p.bytes) low o (omega arith) n))

-- ---- what is put in along offsets

module _ (put : ℕ → List Spelling) where
  -- nothing is put in from one offset on and below another
  abbrev pub Bare : ℕ → ℕ → Type 0
  Bare low high = (x : ℕ) → low ≤ x → x < high → put x ≡ []

  pub along_bare : (n at : ℕ) → Bare at (at + n) → put_along put at n ≡ []
  along_bare zero at h = refl
  along_bare (suc n) at h =
      ap (λ (v : List Spelling). v ++ put_along put (at + 1) n) (h at (omega arith) (omega arith)) ∙ along_bare n (at + 1) (λ x l m. h x (omega arith) (omega arith))

  pub along_split : (m n at : ℕ) → put_along put at (m + n) ≡ put_along put at m ++ put_along put (at + m) n
  along_split zero n at = let k : at + 0 ≡ at = omega arith in let j : 0 + n ≡ n = omega arith in ap (put_along put at) j ∙ ap (λ (x : ℕ). put_along put x n) (sym k)
  along_split (suc m) n at =
      let k : suc m + n ≡ suc (m + n) = omega arith in
      let j : at + 1 + m ≡ at + suc m = omega arith in
      ap (put_along put at) k ∙ ap (λ (v : List Spelling). put at ++ v) (along_split m n (at + 1) ∙ ap (λ (x : ℕ). put_along put (at + 1) m ++ put_along put x n) j)
      ∙ sym (append_assoc (put at) (put_along put (at + 1) m) (put_along put (at + suc m) n))

  -- from a bare offset up to another, then that
  along_to : (low at stop : ℕ) → low ≤ at → at ≤ stop → Bare low at → put_along put low ((stop + 1) - low) ≡ put at ++ put_along put (at + 1) ((stop + 1) - (at + 1))
  along_to low at stop le le' h =
      let k : (stop + 1) - low ≡ (at - low) + suc (stop - at) = omega arith in
      let m : low + (at - low) ≡ at = omega arith in
      let n : stop - at ≡ (stop + 1) - (at + 1) = omega arith in
      ap (put_along put low) k ∙ along_split (at - low) (suc (stop - at)) low
      ∙ ap (λ (v : List Spelling). v ++ put_along put (low + (at - low)) (suc (stop - at))) (along_bare (at - low) low (λ x l q. h x l (omega arith)))
      ∙ ap (λ (x : ℕ). put_along put x (suc (stop - at))) m
      ∙ ap (λ (x : ℕ). put at ++ put_along put (at + 1) x) n

  module _ (text : List ℕ) where
    -- what is put in at an offset comes before all tokens that don't start earlier
    pub advance : (ts : List Token) (low at : ℕ) → low ≤ at → Bare low at → StartFrom ts at (length text) → spelled_from text put low ts ≡ put at ++ spelled_from text put (at + 1) ts
    advance [] low at le h s = along_to low at (length text) le s h
    advance (t ∷ ts) low at le h s =
        ap (λ (v : List Spelling). v ++ spelling_of text t ∷ spelled_from text put (t.span.start + 1) ts) (along_to low at t.span.start le s h)
        ∙ append_assoc (put at) (put_along put (at + 1) ((t.span.start + 1) - (at + 1))) (spelling_of text t ∷ spelled_from text put (t.span.start + 1) ts)

    -- a token before which nothing is put in
    pub take_token : (k : TokenKind) (start end low : ℕ) (bytes : List ℕ) (ts : List Token) → Bare low (start + 1) → spelling_of text (token k start end) ≡ spelled k bytes
        → spelled_from text put low (token k start end ∷ ts) ≡ spelled k bytes ∷ spelled_from text put (start + 1) ts
    take_token k start end low bytes ts h e =
        ap (λ (v : List Spelling). v ++ spelling_of text (token k start end) ∷ spelled_from text put (start + 1) ts) (along_bare ((start + 1) - low) low (λ x l m. h x l (omega arith)))
        ∙ ap (λ (v : Spelling). v ∷ spelled_from text put (start + 1) ts) e

-- a semicolon that is still to come is needed at an offset behind which nothing is put in
abbrev pub After : (ℕ → List Spelling) → Option ℕ → ℕ → Type 0
After put None at = Unit {0}
After put (Some x) at = (x ≤ at) × Bare put (x + 1) at

abbrev pub NeededUpTo : Option ℕ → ℕ → Type 0
NeededUpTo None at = Unit {0}
NeededUpTo (Some x) at = x ≤ at

record Stepped (text : List ℕ) (put : ℕ → List Spelling) (low at high : ℕ) (ts : List Token) : Type 0 where
  pub next : ℕ
  pub is : spelled_from text put low ts ≡ put at ++ spelled_from text put next ts
  pub below : next ≤ at + 1
  pub bare : Bare put next high

record Taken (text : List ℕ) (put : ℕ → List Spelling) (low end : ℕ) (front ts : List Token) (words : List Spelling) : Type 0 where
  pub next : ℕ
  pub is : spelled_from text put low (front ++ ts) ≡ words ++ spelled_from text put next ts
  pub below : next ≤ end
  pub bare : Bare put next end

module _ (put : ℕ → List Piece) (puts : ℕ → List Spelling) (agree : (b : Bool) (x : ℕ) → spelled_in b (put x) ≡ puts x) (text : List ℕ) where
  puts_none : (x : ℕ) → put x ≡ [] → puts x ≡ []
  puts_none x e = sym (agree true x) ∙ ap (spelled_in true) e

  bare_on : (low at high : ℕ) → Bare puts low at → puts at ≡ [] → Bare puts (at + 1) high → Bare puts low high
  bare_on low at high h e g x le lt = go (below_at x at)
    where
      below_at : (m n : ℕ) → (m < n) ⊎ (m ≡ n) ⊎ (n < m)
      below_at zero zero = inr (inl refl)
      below_at zero (suc n) = inl (omega arith)
      below_at (suc m) zero = inr (inr (omega arith))
      below_at (suc m) (suc n) = by (below_at m n)
        where
          by : ((m < n) ⊎ (m ≡ n) ⊎ (n < m)) → (suc m < suc n) ⊎ (suc m ≡ suc n) ⊎ (suc n < suc m)
          by (inl l) = inl (omega arith)
          by (inr (inl l)) = inr (inl (omega arith))
          by (inr (inr l)) = inr (inr (omega arith))

      go : ((x < at) ⊎ (x ≡ at) ⊎ (at < x)) → puts x ≡ []
      go (inl l) = h x le l
      go (inr (inl l)) = ap puts l ∙ e
      go (inr (inr l)) = g x (omega arith) lt

  step : (o : Option ℕ) (last : Option Piece) (low at high : ℕ) (ts : List Token) → Fits put o last at → low ≤ at → Bare puts low at → Bare puts (at + 1) high
      → ((o ≡ None) ⊎ (o ≡ Some at) → StartFrom ts at (length text)) → Stepped text puts low at high ts
  step o last low at high ts (inl e) le h g s = record {
    next = low;
    is = ap (λ (v : List Spelling). v ++ spelled_from text puts low ts) (sym (puts_none at e));
    below = omega arith;
    bare = bare_on low at high h (puts_none at e) g;
  }
  step o last low at high ts (inr f) le h g s = record {
    next = at + 1;
    is = advance puts text ts low at le h (s f.2);
    below = omega arith;
    bare = g;
  }

  nothing_taken : (low end : ℕ) (ts : List Token) → low ≤ end → Bare puts low end → Taken text puts low end [] ts []
  nothing_taken low end ts le h = record { next = low; is = refl; below = le; bare = h }

  token_taken : (k : Option TokenKind) (bytes : List ℕ) (at end low : ℕ) (ts : List Token) → at < end → low ≤ at + 1 → Bare puts low end → Bare puts (at + 1) end → ((j : TokenKind) → spelling_of text (token j at end) ≡ spelled j bytes)
      → Taken text puts low end (token_of k at end) ts (one_spelling k bytes)
  token_taken None bytes at end low ts lt le h g e = nothing_taken low end ts (omega arith) h
  token_taken (Some k) bytes at end low ts lt le h g e = record {
    next = at + 1;
    is = take_token puts text k at end low bytes ts (λ x l m. h x l (omega arith)) (e k);
    below = omega arith;
    bare = g;
  }

  line_taken : (o : Option ℕ) (at end low : ℕ) (ts : List Token) → at < end → low ≤ at + 1 → Bare puts low end → After puts o end → NeededUpTo o at → Taken text puts low end (inserted o) ts (semicolon (is_some o))
  line_taken None at end low ts lt le h a n = nothing_taken low end ts (omega arith) h
  line_taken (Some x) at end low ts lt le h a n = record {
    next = x + 1;
    is = take_token puts text (kind.Operator 45) x x low [] ts (λ y l m. h y l (omega arith)) (ap (spelled (kind.Operator 45)) (no_bytes text x));
    below = omega arith;
    bare = a.1;
  }

  by_taken : (f : PieceForm) (o : Option ℕ) (bytes : List ℕ) (at end low : ℕ) (ts : List Token) → at < end → low ≤ at + 1 → Bare puts low end → Bare puts (at + 1) end → After puts o end → NeededUpTo o at
      → ((j : TokenKind) → spelling_of text (token j at end) ≡ spelled j bytes) → Taken text puts low end (tokens_by f bytes at end o) ts (spelling_by f bytes (is_some o))
  by_taken form.Line o bytes at end low ts lt le h g a n e = line_taken o at end low ts lt le h a n
  by_taken form.Blank o bytes at end low ts lt le h g a n e = token_taken (kind_of form.Blank bytes) bytes at end low ts lt le h g e
  by_taken form.Opening o bytes at end low ts lt le h g a n e = token_taken (kind_of form.Opening bytes) bytes at end low ts lt le h g e
  by_taken form.Word o bytes at end low ts lt le h g a n e = token_taken (kind_of form.Word bytes) bytes at end low ts lt le h g e
  by_taken form.Number o bytes at end low ts lt le h g a n e = token_taken (kind_of form.Number bytes) bytes at end low ts lt le h g e
  by_taken form.Rune o bytes at end low ts lt le h g a n e = token_taken (kind_of form.Rune bytes) bytes at end low ts lt le h g e
  by_taken form.Quoted o bytes at end low ts lt le h g a n e = token_taken (kind_of form.Quoted bytes) bytes at end low ts lt le h g e
  by_taken form.Raw o bytes at end low ts lt le h g a n e = token_taken (kind_of form.Raw bytes) bytes at end low ts lt le h g e
  by_taken (form.Operator place) o bytes at end low ts lt le h g a n e = token_taken (kind_of (form.Operator place) bytes) bytes at end low ts lt le h g e

  -- behind a boundary the semicolon to come still has nothing put in behind it
  after_on : (o : Option ℕ) (last : Option Piece) (at end : ℕ) → at < end → Fits put o last at → After puts o at → Bare puts (at + 1) end → After puts o end × NeededUpTo o at
  after_on None last at end lt f a g = (tt, tt)
  after_on (Some x) last at end lt (inl e) a g = let le = a.0 in ((omega arith, bare_on (x + 1) at end a.1 (puts_none at e) g), a.0)
  after_on (Some x) last at end lt (inr f) a g = at_there f.2
    where
      at_there : ((Some x ≡ None) ⊎ (Some x ≡ Some at)) → After puts (Some x) end × NeededUpTo (Some x) at
      at_there (inl e) = absurd cc
      at_there (inr e) = let is : x ≡ at = cc in ((omega arith, subst (λ (y : ℕ). Bare puts (y + 1) end) (sym is) g), omega arith)

  after_behind : (k : Option TokenKind) (end : ℕ) (o : Option ℕ) → After puts o end → After puts (needed_behind k end o) end
  after_behind None end o a = a
  after_behind (Some k) end o a = go (ends_line k)
    where
      go : (b : Bool) → After puts (cond b (Some end) None) end
      go true = (omega arith, λ x l m. absurd (omega arith))
      go false = tt

  after_next : (f : PieceForm) (bytes : List ℕ) (at end : ℕ) (o : Option ℕ) → After puts o end → After puts (needed_after f bytes end o) end
  after_next form.Line bytes at end o a = tt
  after_next form.Blank bytes at end o a = after_behind (kind_of form.Blank bytes) end o a
  after_next form.Opening bytes at end o a = after_behind (kind_of form.Opening bytes) end o a
  after_next form.Word bytes at end o a = after_behind (kind_of form.Word bytes) end o a
  after_next form.Number bytes at end o a = after_behind (kind_of form.Number bytes) end o a
  after_next form.Rune bytes at end o a = after_behind (kind_of form.Rune bytes) end o a
  after_next form.Quoted bytes at end o a = after_behind (kind_of form.Quoted bytes) end o a
  after_next form.Raw bytes at end o a = after_behind (kind_of form.Raw bytes) end o a
  after_next (form.Operator place) bytes at end o a = after_behind (kind_of (form.Operator place) bytes) end o a

  start_at : (o : Option ℕ) (ps : List Piece) (at : ℕ) → at + length (flat ps) ≡ length text → ((o ≡ None) ⊎ (o ≡ Some at)) → StartFrom (tokens_from at o ps) at (length text)
  start_at o ps at e (inl n) = start_from ps at at (length text) o (omega arith) e (subst (λ (x : Option ℕ). NeededFrom x at) (sym n) tt)
  start_at o ps at e (inr n) = start_from ps at at (length text) o (omega arith) e (subst (λ (x : Option ℕ). NeededFrom x at) (sym n) (refl_le at))
    where
      refl_le : (n : ℕ) → n ≤ n
      refl_le n = omega arith

  calm : (o : Option ℕ) (last : Option Piece) (at : ℕ) → Fits put o last at → pending_in (is_some o) (put at) ≡ is_some o
  calm o last at (inl e) = ap (pending_in (is_some o)) e
  calm o last at (inr f) = f.1

  -- the spellings of what is put in, and then of what follows
  front : (o : Option ℕ) (last : Option Piece) (at : ℕ) (qs : List Piece) → Fits put o last at → spelled_all (is_some o) (put at ++ qs) ≡ puts at ++ spelled_all (is_some o) qs
  front o last at qs f =
      spelled_all_append (is_some o) (put at) qs ∙ ap (λ (v : List Spelling). v ++ spelled_all (pending_in (is_some o) (put at)) qs) (agree (is_some o) at)
      ∙ ap (λ (b : Bool). puts at ++ spelled_all b qs) (calm o last at f)

  end_bare : (low at : ℕ) → length text ≡ at → low ≤ at + 1 → Bare puts low (at + 1) → spelled_from text puts low [] ≡ []
  end_bare low at e le h = along_bare puts ((length text + 1) - low) low (λ x l m. h x l (omega arith))

  one_behind : (at : ℕ) → Bare puts (at + 1) (at + 1)
  one_behind at x l m = absurd (omega arith)

  pub spells : (ps : List Piece) (at : ℕ) (o : Option ℕ) (last : Option Piece) (low : ℕ) (pre src : List ℕ) → Divides src ps [] → text ≡ pre ++ flat ps → at ≡ length pre → low ≤ at → Bare puts low at → After puts o at → AllFit put o last at ps
      → spelled_all (is_some o) (covering put at ps) ≡ spelled_from text puts low (tokens_from at o ps)
  spells [] at o last low pre src d e l le h a f =
      let len : length text ≡ at = ap length e ∙ length-append pre [] ∙ omega arith in
      let zero_more : at + length (flat []) ≡ length text = omega arith in
      let s = step o last low at (at + 1) (inserted o ++ []) f le h (one_behind at) (λ n. subst (λ (ts : List Token). StartFrom ts at (length text)) (sym (append-nil (inserted o))) (start_at o [] at zero_more n)) in
      let on = after_on o last at (at + 1) (omega arith) f a (one_behind at) in
      let t = line_taken o at (at + 1) s.next [] (omega arith) s.below s.bare on.0 on.1 in
      let last_empty : spelled_from text puts t.next [] ≡ [] = end_bare t.next at len t.below t.bare in
      ap (spelled_all (is_some o)) (sym (append-nil (put at))) ∙ front o last at [] f
      ∙ ap (λ (v : List Spelling). puts at ++ v) (sym (append-nil (semicolon (is_some o))) ∙ ap (λ (v : List Spelling). semicolon (is_some o) ++ v) (sym last_empty) ∙ sym t.is)
      ∙ sym s.is ∙ ap (spelled_from text puts low) (append-nil (inserted o))
  spells (p ∷ ps) at o last low pre src d e l le h a f =
      let end : ℕ = at + length p.bytes in
      let next : Option ℕ = needed_after p.form p.bytes end o in
      let b : Bool = is_some o in
      let some = form_some p.form p.bytes d.2.has_form in
      let inside : Bare puts (at + 1) end = λ x l' m. puts_none x (f.1 x (omega arith) m) in
      let len : at + length (flat (p ∷ ps)) ≡ length text = sym (ap length e ∙ length-append pre (flat (p ∷ ps)) ∙ omega arith) in
      let rest : List Token = tokens_from end next ps in
      let s = step o last low at end (tokens_by p.form p.bytes at end o ++ rest) f.0 le h inside (start_at o (p ∷ ps) at len) in
      let on = after_on o last at end (omega arith) f.0 a inside in
      let bytes_are : (j : TokenKind) → spelling_of text (token j at end) ≡ spelled j p.bytes = λ j. ap (spelled j) (its_bytes text pre p.bytes (flat ps) at e l) in
      let t = by_taken p.form o p.bytes at end s.next rest (omega arith) s.below s.bare inside on.0 on.1 bytes_are in
      let k = length-append pre p.bytes in
      let a' : After puts next end = after_next p.form p.bytes at end o on.0 in
      let more = spells ps end next (Some p) t.next (pre ++ p.bytes) d.0 d.5 (e ∙ sym (append_assoc pre p.bytes (flat ps))) (omega arith) t.below t.bare a' f.2 in
      front o last at (p ∷ covering put end ps) f.0
      ∙ ap (λ (v : List Spelling). puts at ++ v)
      (append_assoc (spelling_by p.form p.bytes b) (spelled_in (pending p.form p.bytes b) (covering put end ps)) (semicolon (pending_in (pending p.form p.bytes b) (covering put end ps)))
      ∙ ap (λ (v : List Spelling). spelling_by p.form p.bytes b ++ v) (ap (λ (x : Bool). spelled_all x (covering put end ps)) (sym (after_pending p.form p.bytes end o)) ∙ more)
      ∙ sym t.is)
      ∙ sym s.is
