-- Tokens that are known one by one, and counters, are read.
use Rattle.std.proofs.Common.{◌≡◌, ℕ, ◌≤◌, ◌<◌, ◌^◌, true, List, [], ◌∷◌, ◌++◌, Some, Ok, refl, ap, ◌∙◌, append_assoc, decimal}
use Rattle.go_ast.specs.declared.token.TokenKind.TheVariants as kind
use Rattle.go_ast.specs.declared.block.StmtForm.TheVariants as statement
use Rattle.go_grammar.specs.declared.form.CounterForm.{CounterForm}
use Rattle.go_grammar.specs.Words.{Word}
use Rattle.go_grammar.specs.Patterns.{Pattern, Fits, AllFit}
use Rattle.go_grammar.specs.Covering.{number, counter}
use Rattle.go_grammar.specs.Blocks.{last_end}
use Rattle.go_grammar.specs.Trees.{stmt_node}
use Rattle.go_reading.specs.Counters.{fits, expect_fit, expect_all, expect_index, first_fit, before_index, behind_index, counter_stmt}
use Rattle.go_reading.proofs.Good.{is_self}
use Rattle.go_reading.proofs.FitGood.{end_of, is_spelled_self, index_complete, counter_parts, last_is, end_append, behind_end}

pub fits_is : (p : Pattern) (w : Word) (ws : List Word) → Fits p w → fits p (w ∷ ws) ≡ true
fits_is p w ws f = rw (is_self (Some w.kind) p.kind (ap (λ k. Some k) f.0), is_spelled_self p.bytes w.bytes f.1) refl

pub fit_read : (p : Pattern) (w : Word) (rest : List Word) → Fits p w → expect_fit p (w ∷ rest) ≡ (Ok w, rest)
unfolding expect_fit
fit_read p w rest f = rw (fits_is p w rest f) refl

pub all_read : (ps : List Pattern) (w : List Word) → AllFit ps w → (end : ℕ) (rest : List Word) → expect_all ps end (w ++ rest) ≡ (Ok (end_of end w), rest)
unfolding expect_all
all_read [] [] f end rest = refl
all_read [] (a ∷ w) f end rest = absurd f
all_read (p ∷ ps) [] f end rest = absurd f
all_read (p ∷ ps) (a ∷ w) f end rest = rw (fit_read p a (w ++ rest) f.0) (all_read ps w f.1 a.span.end rest)

pub index_read : (count i : ℕ) → i < count → count ≤ 2 ^ 32 → (w : Word) (rest : List Word) → w.kind ≡ kind.Int → w.bytes ≡ decimal i → expect_index count (w ∷ rest) ≡ (Ok i, rest)
unfolding expect_index
index_read count i lt le w rest k b = rw (k, b, index_complete count i lt le) refl

-- tokens that fit some patterns and then others
pub record Split (ps qs : List Pattern) (w : List Word) : Type 0 where
  pub front : List Word
  pub back : List Word
  pub both : w ≡ front ++ back
  pub first : AllFit ps front
  pub second : AllFit qs back

pub fit_split : (ps qs : List Pattern) (w : List Word) → AllFit (ps ++ qs) w → Split ps qs w
fit_split [] qs w f = record { front = []; back = w; both = refl; first = tt; second = f }
fit_split (p ∷ ps) qs [] f = absurd f
fit_split (p ∷ ps) qs (a ∷ w) f = let s = fit_split ps qs w f.1 in record { front = a ∷ s.front; back = s.back; both = ap (λ (v : List Word). a ∷ v) s.both; first = (f.0, s.first); second = s.second }

counter_step : (var : List ℕ) (mode : CounterForm) (count i : ℕ) → i < count → count ≤ 2 ^ 32 → (a n : Word) (u v rest : List Word) → Fits (first_fit var mode) a → AllFit (before_index var mode) u → n.kind ≡ kind.Int → n.bytes ≡ decimal i → AllFit (behind_index mode) v
    → counter_stmt var mode count (a ∷ (u ++ n ∷ (v ++ rest))) ≡ (Ok (stmt_node a.span.start (end_of 0 v) (statement.Count i)), rest)
unfolding counter_stmt
counter_step var mode count i lt le a n u v rest fa fu kn bn fv =
    rw (fit_read (first_fit var mode) a (u ++ n ∷ (v ++ rest)) fa, all_read (before_index var mode) u fu 0 (n ∷ (v ++ rest)), index_read count i lt le n (v ++ rest) kn bn, all_read (behind_index mode) v fv 0 rest) refl

-- the counter of each unit is read
pub counter_read : (var : List ℕ) (mode : CounterForm) (count i : ℕ) → i < count → count ≤ 2 ^ 32 → (a : Word) (w rest : List Word) → AllFit (counter var mode i) (a ∷ w)
    → counter_stmt var mode count (a ∷ (w ++ rest)) ≡ (Ok (stmt_node a.span.start (last_end a w) (statement.Count i)), rest)
counter_read var mode count i lt le a w rest f = by (rw (counter_parts var mode i) at f)
  where
    by : AllFit (first_fit var mode ∷ (before_index var mode ++ number i ∷ behind_index mode)) (a ∷ w) → counter_stmt var mode count (a ∷ (w ++ rest)) ≡ (Ok (stmt_node a.span.start (last_end a w) (statement.Count i)), rest)
    by g =
        let s = fit_split (before_index var mode) (number i ∷ behind_index mode) w g.1 in
        parts g.0 s.front s.back s.both s.first s.second
      where
        parts : Fits (first_fit var mode) a → (u v : List Word) → w ≡ u ++ v → AllFit (before_index var mode) u → AllFit (number i ∷ behind_index mode) v → counter_stmt var mode count (a ∷ (w ++ rest)) ≡ (Ok (stmt_node a.span.start (last_end a w) (statement.Count i)), rest)
        parts fa u [] e fu fv = absurd fv
        parts fa u (n ∷ v) e fu fv =
            let end : last_end a w ≡ end_of 0 v = ap (last_end a) e ∙ last_is a (u ++ n ∷ v) ∙ end_append a.span.end u (n ∷ v) ∙ behind_end mode v fv.1 n.span.end 0 in
            let text : w ++ rest ≡ u ++ n ∷ (v ++ rest) = ap (λ (z : List Word). z ++ rest) e ∙ append_assoc u (n ∷ v) rest in
            rw (end, text) (counter_step var mode count i lt le a n u v rest fa fu fv.0.0 fv.0.1 fv.1)
