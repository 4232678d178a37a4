-- Lists of statements and events without counters, one item after the other.
use Rattle.std.proofs.Common.{◌≡◌, ℕ, ◌+◌, ◌<◌, Bool, true, false, cond, List, [], ◌∷◌, ◌++◌, length, take, get_or, refl, sym, ap, ◌∙◌}
use Rattle.std.proofs.lemmas.List.{take_more, append-nil}
use Rattle.go_meaning.specs.declared.node.Node.{Node}
use Rattle.go_meaning.specs.declared.event.Event.{Event}
use Rattle.go_meaning.specs.declared.event.Event.TheVariants.{Step, Count}
use Rattle.go_meaning.specs.Erasing.{is_count, drop_counts, erase_events}

-- ---- statements

dropped : Bool → Node → List Node
dropped b n = cond b [] (n ∷ [])

drop_first : (b : Bool) (n : Node) (rest last : List Node) → cond b (rest ++ last) (n ∷ (rest ++ last)) ≡ cond b rest (n ∷ rest) ++ last
drop_first true n rest last = refl
drop_first false n rest last = refl

drop_push : (ns : List Node) (n : Node) → drop_counts (ns ++ n ∷ []) ≡ drop_counts ns ++ dropped (is_count n.form) n
unfolding dropped
drop_push [] n = refl
drop_push (m ∷ ns) n =
    ap (λ rest. cond (is_count m.form) rest (m ∷ rest)) (drop_push ns n) ∙ drop_first (is_count m.form) m (drop_counts ns) (cond (is_count n.form) [] (n ∷ []))

pub drop_more : (ns : List Node) (i : ℕ) (n : Node) (b : Bool) → i < length ns → n ≡ get_or ns i n → is_count n.form ≡ b → drop_counts (take (i + 1) ns) ≡ drop_counts (take i ns) ++ cond b [] (n ∷ [])
unfolding dropped
drop_more ns i n b lt is counts =
    ap drop_counts (take_more ns i n lt ∙ ap (λ m. take i ns ++ m ∷ []) (sym is)) ∙ drop_push (take i ns) n ∙ ap (λ c. drop_counts (take i ns) ++ cond c [] (n ∷ [])) counts

-- ---- events

kept : Event → List Event
kept (Step g k p q) = Step g k p q ∷ []
kept (Count g u) = []

erase_push : (es : List Event) (e : Event) → erase_events (es ++ e ∷ []) ≡ erase_events es ++ kept e
unfolding kept
erase_push [] (Step g k p q) = refl
erase_push [] (Count g u) = refl
erase_push (Step g k p q ∷ es) e = ap (λ rest. Step g k p q ∷ rest) (erase_push es e)
erase_push (Count g u ∷ es) e = erase_push es e

pub events_step : (es : List Event) (i g k p q : ℕ) → i < length es → Step g k p q ≡ get_or es i (Step g k p q) → erase_events (take (i + 1) es) ≡ erase_events (take i es) ++ Step g k p q ∷ []
unfolding kept
events_step es i g k p q lt is = ap erase_events (take_more es i (Step g k p q) lt ∙ ap (λ e. take i es ++ e ∷ []) (sym is)) ∙ erase_push (take i es) (Step g k p q)

pub events_count : (es : List Event) (i g u : ℕ) → i < length es → Count g u ≡ get_or es i (Count g u) → erase_events (take (i + 1) es) ≡ erase_events (take i es)
unfolding kept
events_count es i g u lt is =
    ap erase_events (take_more es i (Count g u) lt ∙ ap (λ e. take i es ++ e ∷ []) (sym is)) ∙ erase_push (take i es) (Count g u) ∙ append-nil (erase_events (take i es))
