-- The division of a text is local.
use Rattle.std.proofs.Common.{◌≡◌, ◌≢◌, ℕ, ◌<◌, ◌≤◌, true, List, [], ◌∷◌, ◌++◌, length, refl, sym, ap, subst, ◌∙◌, arith, append_assoc}
use Rattle.std.specs.Prelude.{encode_utf8}
use Rattle.std.specs.List.{AllByRecursion}
use Rattle.std.specs.Str.{encode_utf8_all}
use Rattle.std.specs.Char.{IsScalar}
use Rattle.std.proofs.lemmas.List.{length-append, append-nil}
use Rattle.std.proofs.lemmas.Str.{encode_same, encodes-append}
use Rattle.go_ast.specs.declared.token.PieceForm.{PieceForm}
use Rattle.go_ast.specs.declared.token.PieceForm.TheVariants as form
use Rattle.go_ast.specs.Characters.{is_letter_or_digit, AreCharacters}
use Rattle.go_ast.specs.Pieces.{HasForm, IsLongest, IsMeant, IsWord}
use Rattle.cov_tokens.specs.Local.{ArePointedAlike}
use Rattle.cov_tokens.proofs.Basics.{GoesOn, goes_on, by_cases, cons_is, encode_some, every_front}
use Rattle.cov_tokens.proofs.Firsts.{form_some}
use Rattle.cov_tokens.proofs.Beyond.{Beyond, one_more, letters, points, beyond}

abbrev pub IsLetterOrDigit : ℕ → Type 0
IsLetterOrDigit d = IsScalar d × (is_letter_or_digit d ≡ true)

-- characters that go on behind others go on with the next one
pub chars_go_on : (ws cs : List ℕ) (e : ℕ) (after z : List ℕ) → encode_utf8_all cs ++ after ≡ encode_utf8_all ws ++ (encode_utf8 e ++ z) → length (encode_utf8_all ws) < length (encode_utf8_all cs)
    → (ds : List ℕ) × (cs ≡ ws ++ e ∷ ds)
chars_go_on ws [] e after z h lt = absurd (omega arith)
chars_go_on [] (c ∷ cs) e after z h lt =
    let one = encode_same c e (encode_utf8_all cs ++ after) z (sym (append_assoc (encode_utf8 c) (encode_utf8_all cs) after) ∙ h) in
    (cs, ap (λ (x : ℕ). x ∷ cs) one.0)
chars_go_on (w ∷ ws) (c ∷ cs) e after z h lt =
    let one = encode_same c w (encode_utf8_all cs ++ after) (encode_utf8_all ws ++ (encode_utf8 e ++ z)) (sym (append_assoc (encode_utf8 c) (encode_utf8_all cs) after) ∙ h ∙ append_assoc (encode_utf8 w) (encode_utf8_all ws) (encode_utf8 e ++ z)) in
    let l = length-append (encode_utf8 w) (encode_utf8_all ws) in
    let m = length-append (encode_utf8 c) (encode_utf8_all cs) in
    let k : length (encode_utf8 c) ≡ length (encode_utf8 w) = ap (λ (x : ℕ). length (encode_utf8 x)) one.0 in
    let more = chars_go_on ws cs e after z one.1 (omega arith) in
    (more.0, ap (λ (x : List ℕ). c ∷ x) more.1 ∙ ap (λ (x : ℕ). x ∷ (ws ++ e ∷ more.0)) one.0)

-- the front of a word with one more character
front_word : (w bytes : List ℕ) (ws ds : List ℕ) (e : ℕ) → 1 ≤ length w → w ≡ encode_utf8_all ws → (is : IsWord bytes) → is.0 ∷ is.1 ≡ ws ++ e ∷ ds → IsWord (w ++ encode_utf8 e)
front_word w bytes [] ds e some w-is is same = let l = ap length w-is in absurd (omega arith)
front_word w bytes (x ∷ ws) ds e some w-is is same =
    let two = cons_is is.0 x is.1 (ws ++ e ∷ ds) same in
    let all : AllByRecursion IsLetterOrDigit ((ws ++ e ∷ []) ++ ds) = subst (AllByRecursion IsLetterOrDigit) (two.1 ∙ sym (append_assoc ws (e ∷ []) ds)) is.4 in
    let whole : w ++ encode_utf8 e ≡ encode_utf8_all ((x ∷ ws) ++ e ∷ []) = ap (λ (v : List ℕ). v ++ encode_utf8 e) w-is ∙ ap (λ (v : List ℕ). encode_utf8_all (x ∷ ws) ++ v) (sym (append-nil (encode_utf8 e))) ∙ sym (encodes-append (x ∷ ws) (e ∷ [])) in
    (is.0, ws ++ e ∷ [], is.2, is.3, every_front IsLetterOrDigit (ws ++ e ∷ []) ds all, whole ∙ ap (λ (y : ℕ). encode_utf8_all (y ∷ (ws ++ e ∷ []))) (sym two.0))

-- no word goes on behind the longest piece
word_stays : (f : PieceForm) (w others after y : List ℕ) (v x : List ℕ) → AreCharacters w → AreCharacters v → v ≢ [] → IsLongest f w (v ++ x) → IsWord others → w ++ (v ++ y) ≡ others ++ after → length w < length others → ⊥
word_stays f w others after y v x w-are v-are v-some l is e lt = go v-are.0 v-are.2
  where
    go : (es : List ℕ) → v ≡ encode_utf8_all es → ⊥
    go [] v-is = v-some v-is
    go (d ∷ ds) v-is =
        let split : encode_utf8_all (is.0 ∷ is.1) ++ after ≡ encode_utf8_all w-are.0 ++ (encode_utf8 d ++ (encode_utf8_all ds ++ y)) =
        ap (λ (z : List ℕ). z ++ after) (sym is.5) ∙ sym e ∙ ap (λ (z : List ℕ). z ++ (v ++ y)) w-are.2 ∙ ap (λ (z : List ℕ). encode_utf8_all w-are.0 ++ (z ++ y)) v-is ∙ ap (λ (z : List ℕ). encode_utf8_all w-are.0 ++ z) (append_assoc (encode_utf8 d) (encode_utf8_all ds) y) in
        let a : length w ≡ length (encode_utf8_all w-are.0) = ap length w-are.2 in
        let b : length others ≡ length (encode_utf8_all (is.0 ∷ is.1)) = ap length is.5 in
        let on = chars_go_on w-are.0 (is.0 ∷ is.1) d after (encode_utf8_all ds ++ y) split (omega arith) in
        let longer = front_word w others w-are.0 on.0 d (form_some f w l.has_form) w-are.2 is on.1 in
        let same : w ++ (v ++ x) ≡ (w ++ encode_utf8 d) ++ (encode_utf8_all ds ++ x) =
        ap (λ (z : List ℕ). w ++ (z ++ x)) v-is ∙ ap (λ (z : List ℕ). w ++ z) (append_assoc (encode_utf8 d) (encode_utf8_all ds) x) ∙ sym (append_assoc w (encode_utf8 d) (encode_utf8_all ds ++ x)) in
        let most = l.longest form.Word (w ++ encode_utf8 d) (encode_utf8_all ds ++ x) longer same in
        let k = length-append w (encode_utf8 d) in
        let some = encode_some d in
        absurd (omega arith)

-- nor do points
points_stay : (f : PieceForm) (w after y v x : List ℕ) (b : ℕ) (v' : List ℕ) → v ≡ b ∷ v' → ArePointedAlike x y → IsLongest f w (v ++ x) → w ≡ 46 ∷ [] → b ≡ 46 → v' ++ y ≡ 46 ∷ after → ⊥
points_stay f w after y v x b v' v-is alike l w-is b-is e = go v' refl
  where
    stop : (end : List ℕ) → w ++ (v ++ x) ≡ 46 ∷ 46 ∷ 46 ∷ end → ⊥
    stop end h =
        let most = l.longest (form.Operator 37) (46 ∷ 46 ∷ 46 ∷ []) end refl h in
        let k = ap length w-is in
        absurd (omega arith)

    whole : (z : List ℕ) → v' ++ x ≡ z → w ++ (v ++ x) ≡ 46 ∷ 46 ∷ z
    whole z h = ap (λ (q : List ℕ). q ++ (v ++ x)) w-is ∙ ap (λ (q : List ℕ). 46 ∷ (q ++ x)) v-is ∙ ap (λ (q : ℕ). 46 ∷ q ∷ (v' ++ x)) b-is ∙ ap (λ (q : List ℕ). 46 ∷ 46 ∷ q) h

    go : (q : List ℕ) → v' ≡ q → ⊥
    go [] q-is =
        let y-is : y ≡ 46 ∷ after = ap (λ (z : List ℕ). z ++ y) (sym q-is) ∙ e in
        let x-is = alike after y-is in
        stop x-is.0 (whole (46 ∷ x-is.0) (ap (λ (z : List ℕ). z ++ x) q-is ∙ x-is.1))
    go (c ∷ q) q-is =
        let c-is : c ≡ 46 = (cons_is c 46 (q ++ y) after (ap (λ (z : List ℕ). z ++ y) (sym q-is) ∙ e)).0 in
        stop (q ++ x) (whole (46 ∷ (q ++ x)) (ap (λ (z : List ℕ). z ++ x) q-is ∙ ap (λ (z : ℕ). z ∷ (q ++ x)) c-is))

tail_same : (w : List ℕ) (b : ℕ) (r u after : List ℕ) → w ++ b ∷ r ≡ (w ++ b ∷ u) ++ after → r ≡ u ++ after
tail_same [] b r u after e = (cons_is b b r (u ++ after) e).1
tail_same (x ∷ w) b r u after e = tail_same w b r u after (cons_is x x (w ++ b ∷ r) ((w ++ b ∷ u) ++ after) e).1

-- the longest piece stays the longest before the characters behind it
pub local : (f : PieceForm) (w v x y : List ℕ) → AreCharacters w → IsMeant f w → AreCharacters v → v ≢ [] → ArePointedAlike x y → IsLongest f w (v ++ x) → IsLongest f w (v ++ y)
local f w v x y w-are meant v-are v-some alike l = record {
  has_form = l.has_form;
  longest = λ other others after is e. by_cases (length others) (length w) (λ lt. go v refl other others after is e lt);
}
  where
    go : (q : List ℕ) → v ≡ q → (other : PieceForm) (others after : List ℕ) → HasForm other others → w ++ (v ++ y) ≡ others ++ after → length w < length others → ⊥
    go [] q-is other others after is e lt = v-some q-is
    go (b ∷ v') q-is other others after is e lt = by (beyond f other w g.more b l.has_form meant (subst (HasForm other) g.is is))
      where
        e' : w ++ b ∷ (v' ++ y) ≡ others ++ after
        e' = ap (λ (z : List ℕ). w ++ (z ++ y)) (sym q-is) ∙ e

        g : GoesOn w others b
        g = goes_on w others (v' ++ y) after b e' lt

        by : Beyond w b g.more → ⊥
        by (one_more o has) =
            let same : w ++ (v ++ x) ≡ (w ++ b ∷ []) ++ (v' ++ x) = ap (λ (z : List ℕ). w ++ (z ++ x)) q-is ∙ sym (append_assoc w (b ∷ []) (v' ++ x)) in
            let most = l.longest o (w ++ b ∷ []) (v' ++ x) has same in
            let k = length-append w (b ∷ []) in
            absurd (omega arith)
        by (letters word) = word_stays f w others after y v x w-are v-are v-some l (subst IsWord (sym g.is) word) e lt
        by (points w-is b-is u-is) =
            let tail : v' ++ y ≡ g.more ++ after = tail_same w b (v' ++ y) g.more after (e' ∙ ap (λ (z : List ℕ). z ++ after) g.is) in
            points_stay f w after y v x b v' q-is alike l w-is b-is (tail ∙ ap (λ (z : List ℕ). z ++ after) u-is)
