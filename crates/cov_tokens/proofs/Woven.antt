-- A source with pieces put in.
use Rattle.std.proofs.Common.{◌≡◌, ◌≢◌, ◌⊎◌, inl, inr, ℕ, ◌+◌, ◌<◌, ◌≤◌, Bool, true, false, cond, List, [], ◌∷◌, ◌++◌, length, Option, Some, None, refl, sym, ap, subst, ◌∙◌, arith, append_assoc, nat_eq, get_or}
use Rattle.std.specs.Prelude.{All}
use Rattle.std.specs.List.{flat_map, filter}
use Rattle.std.proofs.lemmas.List.{append-nil}
use Rattle.std.proofs.lemmas.List.Elements.{All-head, All-tail}
use Rattle.std.proofs.lemmas.Bool.{eqb-true}
use Rattle.go_ast.specs.declared.token.Token.{Token}
use Rattle.go_ast.specs.Tokens.{needed_after, tokens_from, HasTokens}
use Rattle.go_ast.specs.Pieces.{Piece, Divides, IsLongest}
use Rattle.cov_outside.specs.declared.mode.Mode.{Mode}
use Rattle.cov_rewrite.specs.declared.piece.Addition.{Addition}
use Rattle.cov_rewrite.specs.declared.piece.Addition.TheVariants as addition
use Rattle.cov_rewrite.specs.declared.piece.Piece.{Piece as Put}
use Rattle.cov_rewrite.specs.Additions.{addition_text}
use Rattle.cov_rewrite.specs.Weaving.{text_at, woven_from, woven}
use Rattle.cov_tokens.specs.Spellings.{Spelling, HasSpellings}
use Rattle.cov_tokens.specs.Joining.{spelled_from}
use Rattle.cov_tokens.specs.Counters.{addition_spellings}
use Rattle.cov_tokens.specs.Covering.{spellings_at, woven_spellings}
use Rattle.cov_tokens.specs.Places.{leads, AreInPlaces, IsIdentifier, IsSmall, AreSmall}
use Rattle.cov_tokens.proofs.Firsts.{form_some}
use Rattle.cov_tokens.proofs.Spelling.{flat, flat_append, is_some, spelled_in, spelled_in_append, pending_in, pending_in_append, spelled_all, tokens_spelled}
use Rattle.cov_tokens.proofs.Walk.{covering, Fits, AllFit, Stands, Runs, NoPoint, Tail, nothing, covers, divides_flat, divides_join}
use Rattle.cov_tokens.proofs.Joined.{spells}
use Rattle.cov_tokens.proofs.Reach.{Sited, sited_from}
use Rattle.cov_tokens.proofs.Puts.{addition_pieces, addition_flat, addition_runs, addition_spelled, addition_pending, addition_point, needs}
use Rattle.cov_tokens.proofs.Places.{IsCalm, Good, in_place}

-- ---- each of a list

abbrev pub Every : (Put → Type 0) → List Put → Type 0
Every P [] = Unit {0}
Every P (q ∷ qs) = P q × Every P qs

every_of : (P : Put → Type 0) (qs : List Put) → All P qs → Every P qs
every_of P [] a = tt
every_of P (q ∷ qs) a = (All-head P q qs a, every_of P qs (All-tail P q qs a))

every_weaker : (P Q : Put → Type 0) → ((q : Put) → P q → Q q) → (qs : List Put) → Every P qs → Every Q qs
every_weaker P Q w [] e = tt
every_weaker P Q w (q ∷ qs) e = (w q e.0, every_weaker P Q w qs e.1)

every_filter : (P : Put → Type 0) (test : Put → Bool) (qs : List Put) → Every P qs → Every P (filter test qs)
every_filter P test [] e = tt
every_filter P test (q ∷ qs) e = go (test q) (every_filter P test qs e.1)
  where
    go : (b : Bool) → Every P (filter test qs) → Every P (cond b (q ∷ filter test qs) (filter test qs))
    go true more = (e.0, more)
    go false more = more

-- the pieces at an offset
abbrev at_offset : ℕ → Put → Bool
at_offset x q = nat_eq q.at x

every_there : (x : ℕ) (qs : List Put) → Every (λ q. q.at ≡ x) (filter (at_offset x) qs)
every_there x [] = tt
every_there x (q ∷ qs) = go (at_offset x q) refl (every_there x qs)
  where
    go : (b : Bool) → at_offset x q ≡ b → Every (λ r. r.at ≡ x) (filter (at_offset x) qs) → Every (λ r. r.at ≡ x) (cond b (q ∷ filter (at_offset x) qs) (filter (at_offset x) qs))
    go true e more = (eqb-true q.at x e, more)
    go false e more = more

none_there : (x : ℕ) (qs : List Put) → Every (λ q. q.at ≢ x) qs → filter (at_offset x) qs ≡ []
none_there x [] e = refl
none_there x (q ∷ qs) e = go (at_offset x q) refl (none_there x qs e.1)
  where
    go : (b : Bool) → at_offset x q ≡ b → filter (at_offset x) qs ≡ [] → cond b (q ∷ filter (at_offset x) qs) (filter (at_offset x) qs) ≡ []
    go true b-is more = absurd (e.0 (eqb-true q.at x b-is))
    go false b-is more = more

-- the first of them
abbrev some_addition : Addition → Option Addition
some_addition a = Some a

leads_first : (x : ℕ) (qs : List Put) (q : Put) (more : List Put) → filter (at_offset x) qs ≡ q ∷ more → leads qs x ≡ Some q.addition
leads_first x [] q more e = absurd cc
leads_first x (r ∷ qs) q more e = go (at_offset x r) refl e (leads_first x qs q more)
  where
    go : (b : Bool) → at_offset x r ≡ b → cond b (r ∷ filter (at_offset x) qs) (filter (at_offset x) qs) ≡ q ∷ more → (filter (at_offset x) qs ≡ q ∷ more → leads qs x ≡ Some q.addition) → cond b (Some r.addition) (leads qs x) ≡ Some q.addition
    go true b-is h again = let same : r ≡ q = cc in ap (λ (p : Put). Some p.addition) same
    go false b-is h again = again h

both_every : (P Q : Put → Type 0) (qs : List Put) → Every P qs → Every Q qs → Every (λ q. P q × Q q) qs
both_every P Q [] e f = tt
both_every P Q (q ∷ qs) e f = ((e.0, f.0), both_every P Q qs e.1 f.1)

pub runs_append : (a b : List Piece) → Runs a → Runs b → Runs (a ++ b)
runs_append a b r s rest =
    subst (λ (x : List ℕ). Divides x (a ++ b) rest) (sym (ap (λ (x : List ℕ). x ++ rest) (flat_append a b) ∙ append_assoc (flat a) (flat b) rest))
    (divides_join a b (flat a ++ (flat b ++ rest)) (flat b ++ rest) rest (r (flat b ++ rest)) (s rest))

stands_more : (last : Option Piece) (v w : List ℕ) → Stands last v → Stands last (v ++ w)
stands_more None v w s = s
stands_more (Some p) v w s = λ r. subst (IsLongest p.form p.bytes) (sym (append_assoc v w r)) (s (w ++ r))

-- ---- what is put in at an offset

brace_first : (a : Addition) (i : ℕ) → a ≡ addition.Counter i → some_addition a ≡ some_addition addition.LeftBrace → ⊥
brace_first addition.Import i e f = absurd cc
brace_first addition.LeftBrace i e f = absurd cc
brace_first addition.RightBrace i e f = absurd cc
brace_first (addition.Counter j) i e f = absurd cc

module _ (var : List ℕ) (is : IsIdentifier var) (m : Mode) where
  abbrev pub pieces_in : List Put → List Piece
  pieces_in qs = flat_map (λ q. addition_pieces var m q.addition) qs

  in_flat : (qs : List Put) → flat (pieces_in qs) ≡ flat_map (λ q. addition_text var m q.addition) qs
  in_flat [] = refl
  in_flat (q ∷ qs) =
      flat_append (addition_pieces var m q.addition) (pieces_in qs) ∙ ap (λ (x : List ℕ). x ++ flat (pieces_in qs)) (addition_flat var m q.addition)
      ∙ ap (λ (x : List ℕ). addition_text var m q.addition ++ x) (in_flat qs)

  in_runs : (qs : List Put) → Every (λ q. IsSmall q.addition) qs → Runs (pieces_in qs)
  in_runs [] e = λ rest. refl
  in_runs (q ∷ qs) e = runs_append (addition_pieces var m q.addition) (pieces_in qs) (addition_runs var is m q.addition e.0) (in_runs qs e.1)

  in_point : (qs : List Put) → NoPoint (flat (pieces_in qs))
  in_point [] more e = absurd cc
  in_point (q ∷ qs) more e = addition_point var is m q.addition (flat_map (λ r. addition_text var m r.addition) qs) more (sym (in_flat (q ∷ qs)) ∙ e)

  in_spelled : (qs : List Put) (b : Bool) → spelled_in b (pieces_in qs) ≡ flat_map (λ q. addition_spellings var m q.addition) qs
  in_spelled [] b = refl
  in_spelled (q ∷ qs) b =
      spelled_in_append b (addition_pieces var m q.addition) (pieces_in qs)
      ∙ ap (λ (x : List Spelling). x ++ spelled_in (pending_in b (addition_pieces var m q.addition)) (pieces_in qs)) (addition_spelled var is m q.addition b)
      ∙ ap (λ (x : List Spelling). addition_spellings var m q.addition ++ x) (in_spelled qs (pending_in b (addition_pieces var m q.addition)))

  calm_needs : (a : Addition) (o : Option ℕ) (at : ℕ) → IsCalm a o at → needs var is a ≡ is_some o
  calm_needs addition.Import o at c = ap is_some (sym c)
  calm_needs addition.RightBrace o at c = ap is_some (sym c)
  calm_needs addition.LeftBrace o at c = ap is_some (sym c)
  calm_needs (addition.Counter i) o at c = ap is_some (sym c)

  in_calm : (o : Option ℕ) (at : ℕ) (qs : List Put) → Every (λ q. IsCalm q.addition o at) qs → pending_in (is_some o) (pieces_in qs) ≡ is_some o
  in_calm o at [] e = refl
  in_calm o at (q ∷ qs) e =
      pending_in_append (is_some o) (addition_pieces var m q.addition) (pieces_in qs)
      ∙ ap (λ (b : Bool). pending_in b (pieces_in qs)) (addition_pending var is m q.addition (is_some o) ∙ calm_needs q.addition o at e.0)
      ∙ in_calm o at qs e.1

  calm_at : (a : Addition) (o : Option ℕ) (at : ℕ) → IsCalm a o at → (o ≡ None) ⊎ (o ≡ Some at)
  calm_at addition.Import o at c = inr c
  calm_at addition.RightBrace o at c = inr c
  calm_at addition.LeftBrace o at c = inl c
  calm_at (addition.Counter i) o at c = inl c

  -- the first of them stands there by itself
  first_stands : (q : Put) (first : Option Addition) (o : Option ℕ) (last : Option Piece) (at : ℕ) → first ≡ Some q.addition → Good var m first q.addition o last at → Stands last (addition_text var m q.addition)
  first_stands q first o last at f (c, (inl s)) = s
  first_stands q first o last at f (c, (inr p)) = absurd (brace_first q.addition p.0 p.1 (sym f ∙ p.2))

  module _ (all : List Put) where
    abbrev pub put_at : ℕ → List Piece
    put_at x = pieces_in (filter (at_offset x) all)

    abbrev GoodAt : Put → Option ℕ → Option Piece → ℕ → Type 0
    GoodAt q = Good var m (leads all q.at) q.addition

    -- each piece is behind, or has its place in what is still to come
    abbrev pub Placed : Option ℕ → Option Piece → ℕ → List Piece → Type 0
    Placed o last at ps = Every (λ q. (q.at < at) ⊎ Sited (GoodAt q) o last at ps q.at) all

    placed_next : (p : Piece) (ps : List Piece) (o : Option ℕ) (last : Option Piece) (at : ℕ) → 1 ≤ length p.bytes → Placed o last at (p ∷ ps) → Placed (needed_after p.form p.bytes (at + length p.bytes) o) (Some p) (at + length p.bytes) ps
    placed_next p ps o last at some placed = every_weaker (λ q. (q.at < at) ⊎ Sited (GoodAt q) o last at (p ∷ ps) q.at) (λ q. (q.at < at + length p.bytes) ⊎ Sited (GoodAt q) (needed_after p.form p.bytes (at + length p.bytes) o) (Some p) (at + length p.bytes) ps q.at) next all placed
      where
        next : (q : Put) → (q.at < at) ⊎ Sited (GoodAt q) o last at (p ∷ ps) q.at → (q.at < at + length p.bytes) ⊎ Sited (GoodAt q) (needed_after p.form p.bytes (at + length p.bytes) o) (Some p) (at + length p.bytes) ps q.at
        next q (inl lt) = inl (omega arith)
        next q (inr (inl h)) = let e = h.0 in inl (omega arith)
        next q (inr (inr s)) = inr s

    good_here : (ps : List Piece) (o : Option ℕ) (last : Option Piece) (at : ℕ) (text : List ℕ) → Divides text ps [] → Placed o last at ps → Every (λ q. q.at ≡ at → GoodAt q o last at) all
    good_here [] o last at text d placed = every_weaker (λ q. (q.at < at) ⊎ Sited (GoodAt q) o last at [] q.at) (λ q. q.at ≡ at → GoodAt q o last at) here all placed
      where
        here : (q : Put) → (q.at < at) ⊎ Sited (GoodAt q) o last at [] q.at → q.at ≡ at → GoodAt q o last at
        here q (inl lt) e = absurd (omega arith)
        here q (inr s) e = s.1
    good_here (p ∷ ps) o last at text d placed = every_weaker (λ q. (q.at < at) ⊎ Sited (GoodAt q) o last at (p ∷ ps) q.at) (λ q. q.at ≡ at → GoodAt q o last at) here all placed
      where
        here : (q : Put) → (q.at < at) ⊎ Sited (GoodAt q) o last at (p ∷ ps) q.at → q.at ≡ at → GoodAt q o last at
        here q (inl lt) e = absurd (omega arith)
        here q (inr (inl h)) e = h.1
        here q (inr (inr s)) e =
            let from = sited_from (GoodAt q) (needed_after p.form p.bytes (at + length p.bytes) o) (Some p) (at + length p.bytes) ps q.at s in
            let some = form_some p.form p.bytes d.2.has_form in
            absurd (omega arith)

    -- what is put in at a boundary fits
    fits_by : (o : Option ℕ) (last : Option Piece) (at : ℕ) (here : List Put) → filter (at_offset at) all ≡ here → Every (λ q. GoodAt q o last at) here → Every (λ q. q.at ≡ at) here → Fits put_at o last at
    fits_by o last at [] e good there = inl (ap pieces_in e)
    fits_by o last at (q ∷ here) e good there =
        let lead : leads all q.at ≡ Some q.addition = ap (leads all) there.0 ∙ leads_first at all q here e in
        let stands = first_stands q (leads all q.at) o last at lead good.0 in
        let calm : Every (λ r. IsCalm r.addition o at) (q ∷ here) = every_weaker (λ r. GoodAt r o last at) (λ r. IsCalm r.addition o at) (λ r g. g.0) (q ∷ here) good in
        let whole : addition_text var m q.addition ++ flat_map (λ r. addition_text var m r.addition) here ≡ flat (put_at at) = sym (in_flat (q ∷ here)) ∙ ap (λ (x : List Put). flat (pieces_in x)) (sym e) in
        inr (
          subst (Stands last) whole (stands_more last (addition_text var m q.addition) (flat_map (λ r. addition_text var m r.addition) here) stands),
          ap (λ (x : List Put). pending_in (is_some o) (pieces_in x)) e ∙ in_calm o at (q ∷ here) calm,
          calm_at q.addition o at calm.0,
        )

    apply_here : (o : Option ℕ) (last : Option Piece) (at : ℕ) (here : List Put) → Every (λ q. q.at ≡ at → GoodAt q o last at) here → Every (λ q. q.at ≡ at) here → Every (λ q. GoodAt q o last at) here
    apply_here o last at [] f e = tt
    apply_here o last at (q ∷ here) f e = (f.0 e.0, apply_here o last at here f.1 e.1)

    fits_here : (ps : List Piece) (o : Option ℕ) (last : Option Piece) (at : ℕ) (text : List ℕ) → Divides text ps [] → Placed o last at ps → Fits put_at o last at
    fits_here ps o last at text d placed =
        let there = every_there at all in
        let good = every_filter (λ q. q.at ≡ at → GoodAt q o last at) (at_offset at) all (good_here ps o last at text d placed) in
        fits_by o last at (filter (at_offset at) all) refl (apply_here o last at (filter (at_offset at) all) good there) there

    none_inside : (p : Piece) (ps : List Piece) (o : Option ℕ) (last : Option Piece) (at : ℕ) → Placed o last at (p ∷ ps) → (x : ℕ) → at < x → x < at + length p.bytes → put_at x ≡ []
    none_inside p ps o last at placed x low high =
        ap pieces_in (none_there x all (every_weaker (λ q. (q.at < at) ⊎ Sited (GoodAt q) o last at (p ∷ ps) q.at) (λ q. q.at ≢ x) other all placed))
      where
        other : (q : Put) → (q.at < at) ⊎ Sited (GoodAt q) o last at (p ∷ ps) q.at → q.at ≢ x
        other q (inl lt) e = omega arith
        other q (inr (inl h)) e = let k = h.0 in omega arith
        other q (inr (inr s)) e = let k = sited_from (GoodAt q) (needed_after p.form p.bytes (at + length p.bytes) o) (Some p) (at + length p.bytes) ps q.at s in omega arith

    pub all_fit : (ps : List Piece) (o : Option ℕ) (last : Option Piece) (at : ℕ) (text : List ℕ) → Divides text ps [] → Placed o last at ps → AllFit put_at o last at ps
    all_fit [] o last at text d placed = fits_here [] o last at text d placed
    all_fit (p ∷ ps) o last at text d placed = (
      fits_here (p ∷ ps) o last at text d placed,
      none_inside p ps o last at placed,
      all_fit ps (needed_after p.form p.bytes (at + length p.bytes) o) (Some p) (at + length p.bytes) d.0 d.5 (placed_next p ps o last at (form_some p.form p.bytes d.2.has_form) placed),
    )

    -- ---- the bytes

    text_is : (x : ℕ) → flat (put_at x) ≡ text_at var m all x
    text_is x = in_flat (filter (at_offset x) all)

    skip : (bytes rest : List ℕ) (at : ℕ) → ((x : ℕ) → at ≤ x → x < at + length bytes → put_at x ≡ []) → woven_from (text_at var m all) at (bytes ++ rest) ≡ bytes ++ woven_from (text_at var m all) (at + length bytes) rest
    skip [] rest at h = let k : at ≡ at + 0 = omega arith in ap (λ (x : ℕ). woven_from (text_at var m all) x rest) k
    skip (b ∷ bytes) rest at h =
        let here : text_at var m all at ≡ [] = sym (text_is at) ∙ ap flat (h at (omega arith) (omega arith)) in
        let k : at + 1 + length bytes ≡ at + length (b ∷ bytes) = omega arith in
        ap (λ (x : List ℕ). x ++ b ∷ woven_from (text_at var m all) (at + 1) (bytes ++ rest)) here
        ∙ ap (λ (x : List ℕ). b ∷ x) (skip bytes rest (at + 1) (λ x l u. h x (omega arith) (omega arith)))
        ∙ ap (λ (x : ℕ). b ∷ (bytes ++ woven_from (text_at var m all) x rest)) k

    one_piece : (bytes rest : List ℕ) (at : ℕ) → 1 ≤ length bytes → ((x : ℕ) → at < x → x < at + length bytes → put_at x ≡ [])
        → woven_from (text_at var m all) at (bytes ++ rest) ≡ flat (put_at at) ++ (bytes ++ woven_from (text_at var m all) (at + length bytes) rest)
    one_piece [] rest at some h = absurd (omega arith)
    one_piece (b ∷ bytes) rest at some h =
        let k : at + 1 + length bytes ≡ at + length (b ∷ bytes) = omega arith in
        ap (λ (x : List ℕ). x ++ b ∷ woven_from (text_at var m all) (at + 1) (bytes ++ rest)) (sym (text_is at))
        ∙ ap (λ (x : List ℕ). flat (put_at at) ++ b ∷ x) (skip bytes rest (at + 1) (λ x l u. h x (omega arith) (omega arith)))
        ∙ ap (λ (x : ℕ). flat (put_at at) ++ b ∷ (bytes ++ woven_from (text_at var m all) x rest)) k

    pub weaves : (ps : List Piece) (at : ℕ) (o : Option ℕ) (last : Option Piece) (text : List ℕ) → Divides text ps [] → AllFit put_at o last at ps → woven_from (text_at var m all) at text ≡ flat (covering put_at at ps)
    weaves [] at o last text d f = ap (woven_from (text_at var m all) at) d ∙ sym (text_is at)
    weaves (p ∷ ps) at o last text d f =
        let end : ℕ = at + length p.bytes in
        let more = weaves ps end (needed_after p.form p.bytes end o) (Some p) d.0 d.5 f.2 in
        ap (woven_from (text_at var m all) at) d.1 ∙ one_piece p.bytes d.0 at (form_some p.form p.bytes d.2.has_form) f.1
        ∙ ap (λ (x : List ℕ). flat (put_at at) ++ (p.bytes ++ x)) more ∙ sym (flat_append (put_at at) (p ∷ covering put_at end ps))

    -- ---- the whole

    -- the pieces of the covered text, up to the trailer
    pub record Covers (text : List ℕ) (tokens : List Token) (tail : List ℕ) : Type 0 where
      pub pieces : List Piece
      pub divides : Divides (woven var m all text ++ tail) pieces tail
      pub spelled : spelled_all false pieces ≡ woven_spellings var m all text tokens
      pub flat_is : flat pieces ≡ woven var m all text

    pub woven_covers : (text : List ℕ) (tokens : List Token) (tail : List ℕ) → Tail tail → HasTokens text tokens → AreInPlaces tokens all → AreSmall all → Covers text tokens tail
    woven_covers text tokens tail ends has placed small =
        let ps : List Piece = has.0 in
        let sites : Placed None None 0 ps = every_of (λ q. (q.at < 0) ⊎ Sited (GoodAt q) None None 0 ps q.at) all (λ k d lt. inr (in_place var is m text ps has.1 tokens has.2 (leads all (get_or all k d).at) (get_or all k d).addition (get_or all k d).at (placed k d lt))) in
        let fit = all_fit ps None None 0 text has.1 sites in
        let bytes = weaves ps 0 None None text has.1 fit in
        let smalls = every_of (λ q. IsSmall q.addition) all small in
        let runs : (x : ℕ) → Runs (put_at x) = λ x. in_runs (filter (at_offset x) all) (every_filter (λ q. IsSmall q.addition) (at_offset x) all smalls) in
        let divides = covers put_at runs (λ x. in_point (filter (at_offset x) all)) tail ends ps 0 None None text has.1 fit in
        let whole : text ≡ flat ps = divides_flat ps text [] has.1 ∙ append-nil (flat ps) in
        record {
          pieces = covering put_at 0 ps;
          divides = subst (λ (x : List ℕ). Divides (x ++ tail) (covering put_at 0 ps) tail) (sym bytes) divides;
          spelled = spells put_at (spellings_at var m all) (λ b x. in_spelled (filter (at_offset x) all) b) text ps 0 None None 0 [] text has.1 whole refl (omega arith) (λ x l u. absurd (omega arith)) tt fit
              ∙ ap (spelled_from text (spellings_at var m all) 0) (sym has.2);
          flat_is = sym bytes;
        }

    pub woven_spelled : (text : List ℕ) (tokens : List Token) → HasTokens text tokens → AreInPlaces tokens all → AreSmall all → HasSpellings (woven var m all text) (woven_spellings var m all text tokens)
    woven_spelled text tokens has placed small =
        let c = woven_covers text tokens [] (nothing refl) has placed small in
        let d : Divides (woven var m all text) c.pieces [] = subst (λ (x : List ℕ). Divides x c.pieces []) (append-nil (woven var m all text)) c.divides in
        (tokens_from 0 None c.pieces, (c.pieces, d, refl), tokens_spelled c.pieces (woven var m all text) [] 0 None (sym c.flat_is) refl ∙ c.spelled)
