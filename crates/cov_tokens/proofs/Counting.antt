-- Counters and braces stand in their places among the tokens of a source.
use Rattle.std.proofs.Common.{◌≡◌, ◌⊎◌, inl, inr, ℕ, Bool, true, false, cond, List, [], ◌∷◌, ◌++◌, length, refl, sym, ap, ◌∙◌, subst, map, append_assoc, nat_eq}
use Rattle.std.specs.List.{flat_map}
use Rattle.go_ast.specs.declared.decl.Func.{Func}
use Rattle.go_ast.specs.declared.span.Span.{Span}
use Rattle.go_grammar.specs.Words.{Word}
use Rattle.go_grammar.specs.Terminals as t
use Rattle.cov_cut.specs.declared.frame.Frame.{Frame}
use Rattle.cov_cut.specs.declared.unit.Unit.{Unit as CutUnit}
use Rattle.cov_cut.specs.Outline.{Mark, Kind, braces, else_braces, else_if, clause, Listing}
use Rattle.cov_cut.specs.Units.{frame, put_before, segments, boundary_of, first_end, unit, later_unit, segment_units, listing_units, units_in, func_lists, func_units}
use Rattle.cov_cut.specs.Counted.{else_if_span, else_ifs_in}
use Rattle.cov_tokens.proofs.Sites.{WordBehind, WordLater, SiteOf, AllLater, MarksLater, ListingSited, AllSited}

-- a span that starts there is among them
abbrev pub HasStart : ℕ → List Span → Type 0
HasStart at [] = ⊥
HasStart at (s ∷ ss) = (s.start ≡ at) ⊎ HasStart at ss

start_front : (at : ℕ) (ss ts : List Span) → HasStart at ss → HasStart at (ss ++ ts)
start_front at (s ∷ ss) ts (inl e) = inl e
start_front at (s ∷ ss) ts (inr h) = inr (start_front at ss ts h)
start_front at [] ts h = absurd h

start_back : (at : ℕ) (ss ts : List Span) → HasStart at ts → HasStart at (ss ++ ts)
start_back at [] ts h = h
start_back at (s ∷ ss) ts h = inr (start_back at ss ts h)

-- the lists of functions stand among the words
abbrev pub FuncsSited : List Word → List Func → Type 0
FuncsSited whole [] = Unit {0}
FuncsSited whole (f ∷ fs) = AllSited whole (func_lists f) × FuncsSited whole fs

module _ (whole : List Word) (spans : List Span) where
  -- where a counter may be put in
  abbrev pub CounterSite : ℕ → Type 0
  CounterSite at = WordBehind whole t.left_brace at ⊎ WordBehind whole t.colon at ⊎ WordLater whole at ⊎ (WordBehind whole t.else_word at × HasStart at spans)

  abbrev pub AllCounters : List CutUnit → Type 0
  AllCounters [] = Unit {0}
  AllCounters (u ∷ us) = CounterSite u.insert × AllCounters us

  counters_two : (us vs : List CutUnit) → AllCounters us → AllCounters vs → AllCounters (us ++ vs)
  counters_two [] vs a b = b
  counters_two (u ∷ us) vs a b = (a.0, counters_two us vs a.1 b)

  one_counter : (start end insert statements : ℕ) → CounterSite insert → AllCounters (unit start end insert statements)
  one_counter start end insert statements h = go (nat_eq start end)
    where
      go : (b : Bool) → AllCounters (cond b [] (record { start = start; end = end; insert = insert; statements = statements } ∷ []))
      go true = tt
      go false = (h, tt)

  -- segments that begin with later statements
  abbrev LaterSegment : List Mark → Type 0
  LaterSegment [] = ⊥
  LaterSegment (m ∷ ms) = WordLater whole m.start

  abbrev LaterSegments : List (List Mark) → Type 0
  LaterSegments [] = Unit {0}
  LaterSegments (s ∷ ss) = LaterSegment s × LaterSegments ss

  put_later : (m : Mark) (ss : List (List Mark)) → WordLater whole m.start → LaterSegments ss → LaterSegments (put_before m ss)
  put_later m [] a s = (a, tt)
  put_later m (s ∷ ss) a b = (a, b.1)

  segments_later : (ms : List Mark) → AllLater whole ms → LaterSegments (segments ms)
  segments_later [] a = tt
  segments_later (m ∷ ms) a = go m.breaks (segments_later ms a.1)
    where
      go : (b : Bool) → LaterSegments (segments ms) → LaterSegments (cond b ((m ∷ []) ∷ segments ms) (put_before m (segments ms)))
      go true more = (a.0, more)
      go false more = put_later m (segments ms) a.0 more

  abbrev BehindFirst : List (List Mark) → Type 0
  BehindFirst [] = Unit {0}
  BehindFirst (s ∷ ss) = LaterSegments ss

  put_first : (m : Mark) (ss : List (List Mark)) → LaterSegments ss → BehindFirst (put_before m ss)
  put_first m [] s = tt
  put_first m (s ∷ ss) b = b.1

  segments_behind : (ms : List Mark) → MarksLater whole ms → BehindFirst (segments ms)
  segments_behind [] a = tt
  segments_behind (m ∷ ms) a = go m.breaks (segments_later ms a)
    where
      go : (b : Bool) → LaterSegments (segments ms) → BehindFirst (cond b ((m ∷ []) ∷ segments ms) (put_before m (segments ms)))
      go true more = more
      go false more = put_first m (segments ms) more

  later_counter : (s : List Mark) → LaterSegment s → AllCounters (later_unit s)
  later_counter [] h = absurd h
  later_counter (m ∷ ms) h = one_counter m.start (boundary_of (m ∷ ms)) m.start (length (m ∷ ms)) (inr (inr (inl h)))

  later_counters : (ss : List (List Mark)) → LaterSegments ss → AllCounters (flat_map later_unit ss)
  later_counters [] h = tt
  later_counters (s ∷ ss) h = counters_two (later_unit s) (flat_map later_unit ss) (later_counter s h.0) (later_counters ss h.1)

  segment_counters : (f : Frame) (ss : List (List Mark)) → CounterSite f.insert → BehindFirst ss → AllCounters (segment_units f ss)
  segment_counters f [] h b = (h, tt)
  segment_counters f (s ∷ ss) h b =
      counters_two (unit f.start (first_end f s) f.insert (length s)) (flat_map later_unit ss) (one_counter f.start (first_end f s) f.insert (length s) h) (later_counters ss b)

  -- the spans of a list's `if` are among all
  abbrev SpanIn : Kind → Type 0
  SpanIn (else_if after right) = HasStart after spans
  SpanIn _ = Unit {0}

  kind_counter : (k : Kind) → SiteOf whole k → SpanIn k → CounterSite (frame k).insert
  kind_counter (braces left right) s h = inl s
  kind_counter (else_braces after left right) s h = inl s
  kind_counter (else_if after right) s h = inr (inr (inr (s.0, h)))
  kind_counter (clause colon) s h = inr (inl s)

  abbrev SpansIn : List Listing → Type 0
  SpansIn [] = Unit {0}
  SpansIn (l ∷ ls) = SpanIn l.kind × SpansIn ls

  listing_counters : (l : Listing) → ListingSited whole l → SpanIn l.kind → AllCounters (listing_units l)
  listing_counters l s h = segment_counters (frame l.kind) (segments l.statements) (kind_counter l.kind s.site h) (segments_behind l.statements s.later)

  listings_counters : (ls : List Listing) → AllSited whole ls → SpansIn ls → AllCounters (units_in ls)
  listings_counters [] s h = tt
  listings_counters (l ∷ ls) s h = counters_two (listing_units l) (units_in ls) (listing_counters l s.0 h.0) (listings_counters ls s.1 h.1)

  spans_by : (k : Kind) (more : List Span) → ((at : ℕ) → HasStart at (else_if_span k ++ more) → HasStart at spans) → SpanIn k
  spans_by (braces left right) more h = tt
  spans_by (else_braces after left right) more h = tt
  spans_by (else_if after right) more h = h after (inl refl)
  spans_by (clause colon) more h = tt

  spans_in : (ls : List Listing) → ((at : ℕ) → HasStart at (else_ifs_in ls) → HasStart at spans) → SpansIn ls
  spans_in [] h = tt
  spans_in (l ∷ ls) h = (spans_by l.kind (else_ifs_in ls) h, spans_in ls (λ at s. h at (start_back at (else_if_span l.kind) (else_ifs_in ls) s)))

  -- ---- all functions

  else_two : (ls ms : List Listing) → else_ifs_in (ls ++ ms) ≡ else_ifs_in ls ++ else_ifs_in ms
  else_two [] ms = refl
  else_two (l ∷ ls) ms = ap (λ (x : List Span). else_if_span l.kind ++ x) (else_two ls ms) ∙ sym (append_assoc (else_if_span l.kind) (else_ifs_in ls) (else_ifs_in ms))

  pub funcs_counters : (fs : List Func) → FuncsSited whole fs → ((at : ℕ) → HasStart at (else_ifs_in (flat_map func_lists fs)) → HasStart at spans) → AllCounters (flat_map (λ f. f.units) (map func_units fs))
  funcs_counters [] s h = tt
  funcs_counters (f ∷ fs) s h =
      let two = else_two (func_lists f) (flat_map func_lists fs) in
      counters_two (units_in (func_lists f)) (flat_map (λ g. g.units) (map func_units fs))
      (listings_counters (func_lists f) s.0 (spans_in (func_lists f) (λ at a. h at (subst (HasStart at) (sym two) (start_front at (else_ifs_in (func_lists f)) (else_ifs_in (flat_map func_lists fs)) a)))))
      (funcs_counters fs s.1 (λ at a. h at (subst (HasStart at) (sym two) (start_back at (else_ifs_in (func_lists f)) (else_ifs_in (flat_map func_lists fs)) a))))

  -- ---- the braces

  abbrev pub AllBraces : List Span → Type 0
  AllBraces [] = Unit {0}
  AllBraces (s ∷ ss) = (WordBehind whole t.else_word s.start × WordBehind whole t.right_brace s.end) × AllBraces ss

  braces_two : (ss ts : List Span) → AllBraces ss → AllBraces ts → AllBraces (ss ++ ts)
  braces_two [] ts a b = b
  braces_two (s ∷ ss) ts a b = (a.0, braces_two ss ts a.1 b)

  kind_braces : (k : Kind) → SiteOf whole k → AllBraces (else_if_span k)
  kind_braces (braces left right) s = tt
  kind_braces (else_braces after left right) s = tt
  kind_braces (else_if after right) s = (s, tt)
  kind_braces (clause colon) s = tt

  listings_braces : (ls : List Listing) → AllSited whole ls → AllBraces (else_ifs_in ls)
  listings_braces [] s = tt
  listings_braces (l ∷ ls) s = braces_two (else_if_span l.kind) (else_ifs_in ls) (kind_braces l.kind s.0.site) (listings_braces ls s.1)

  pub funcs_braces : (fs : List Func) → FuncsSited whole fs → AllBraces (else_ifs_in (flat_map func_lists fs))
  funcs_braces [] s = tt
  funcs_braces (f ∷ fs) s =
      subst AllBraces (sym (else_two (func_lists f) (flat_map func_lists fs)))
      (braces_two (else_ifs_in (func_lists f)) (else_ifs_in (flat_map func_lists fs)) (listings_braces (func_lists f) s.0) (funcs_braces fs s.1))
