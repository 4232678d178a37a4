-- What follows dashes in a word.
use Rattle.std.proofs.Common.{◌≡◌, ◌≢◌, ◌+◌, ℕ, true, false, cond, eqb, List, [], ◌∷◌, length, drop, Option, Some, None, MatchOption, Bor, unwrap_or, refl, sym, ap, ◌∙◌, lit<, arith}
use Rattle.std.proofs.lemmas.Bool.{eqb-true}
use Rattle.std.proofs.lemmas.Str.Pattern.{strip_prefix_char}
use Rattle.std.specs.Option.{option_copied}
use Rattle.std.specs.Str.Pattern.{FindsCharPrefix}
use Rattle.gocov_words.specs.Word.{after_dash, after_dashes, flag_text}

behind : (rest : List ℕ) → after_dash (45 ∷ rest) ≡ Some rest
behind rest = refl

lacks : (word : List ℕ) → ((rest : List ℕ) → word ≢ 45 ∷ rest) → after_dash word ≡ None
lacks [] h = refl
lacks (c ∷ word) h =
    elim (eqb c 45) as (λ b. eqb c 45 ≡ b → cond b (Some word) None ≡ None) [
      | true ↦ λ e. absurd (h word (ap (λ (x : ℕ). x ∷ word) (eqb-true c 45 e)))
      | false ↦ λ e. refl
    ] refl

by_char : (word : List ℕ) (r : Option (Bor (List ℕ))) → MatchOption r ((rest : List ℕ) → word ≢ 45 ∷ rest) (λ x. word ≡ 45 ∷ x.now) → option_copied r ≡ after_dash word
by_char word None h = sym (lacks word h)
by_char word (Some x) h = sym (ap after_dash h)

-- what the call of strip_prefix at a dash gives
pub stripped : (word : List ℕ) (r : Option (Bor (List ℕ))) → MatchOption r (FindsCharPrefix 45 word None) (λ x. (n : ℕ) × FindsCharPrefix 45 word (Some n) × (x.now ≡ drop n word) × (length x.now + n ≡ length word))
    → option_copied r ≡ after_dash word
stripped word r h = by_char word r (strip_prefix_char 45 word r h (lit< tt))

-- a word without a dash is no flag
pub no_dash : (word : List ℕ) (r : Option (Bor (List ℕ))) → option_copied r ≡ after_dash word → r ≡ None → None ≡ flag_text word
no_dash word r h e = ap after_dashes (sym (ap option_copied e) ∙ h)

-- nor is one dash alone
pub one_dash : (word : List ℕ) (text : List ℕ) → Some text ≡ after_dash word → length text ≡ 0 → None ≡ flag_text word
one_dash word [] h e = ap after_dashes h
one_dash word (c ∷ text) h e = absurd (omega arith)

-- behind one dash may stand a second
pub dashes : (word text : List ℕ) (r : Option (Bor (List ℕ))) (u text' : Bor (List ℕ)) → Some text ≡ after_dash word → text'.now ≡ text → eqb (length text) 0 ≡ false → option_copied r ≡ after_dash text → u ≡ unwrap_or r text' → Some u.now ≡ flag_text word
dashes word [] r u text' h same filled second e = absurd (cc)
dashes word (c ∷ text) None u text' h same filled second e =
    ap (λ (t : Bor (List ℕ)). Some t.now) e ∙ (ap (λ (t : List ℕ). Some t) same ∙ (ap (λ (o : Option (List ℕ)). Some (unwrap_or o (c ∷ text))) second ∙ ap after_dashes h))
dashes word (c ∷ text) (Some x) u text' h same filled second e =
    ap (λ (t : Bor (List ℕ)). Some t.now) e ∙ (ap (λ (o : Option (List ℕ)). Some (unwrap_or o (c ∷ text))) second ∙ ap after_dashes h)
