-- Texts keep their numbers while others join them.
use Rattle.std.proofs.Common.{◌≡◌, ℕ, suc, ◌+◌, ◌<◌, ◌≤◌, Bool, true, false, ltb, All, List, [], ◌∷◌, ◌++◌, length, take, drop, get_or, Some, refl, sym, ap, ◌∙◌, ⊎_elim, arith}
use Rattle.std.specs.Prelude.{flat_map, slice_get}
use Rattle.std.specs.List.{position_or_len, list_any}
use Rattle.std.specs.Str.{bytes_eq}
use Rattle.std.specs.Cmp.Lexicographic.{bytes_decides}
use Rattle.std.proofs.lemmas.Bool.{cases_Bool, cases_lt}
use Rattle.std.proofs.lemmas.Bool.Decides.{nat_tests}
use Rattle.std.proofs.lemmas.List.{take-append-drop, take_more, length_push}
use Rattle.std.proofs.lemmas.List.Sums.{fold-append}
use Rattle.std.proofs.lemmas.List.Folds.{position_or_len_push}
use Rattle.std.proofs.lemmas.List.Elements.{All-nil, All-cons}
use Rattle.std.proofs.lemmas.Grind.{flat_map-append}
use Rattle.cov_bytes.specs.Intern.{index_of, with_text}
use Rattle.cov_bytes.specs.Writing.{uleb_of}
use Rattle.cov_meta.specs.declared.meta.MetaFunction.{MetaFunction}
use Rattle.cov_meta.specs.Written.{with_texts, function_texts, record_text, record_numbers}

-- the text is among them
abbrev pub Has : List (List ℕ) → List ℕ → Type 0
Has texts text = index_of texts text < length texts

list_any_is : {X : Type 0} (p : X → Bool) (xs : List X) → list_any p xs ≡ ltb (position_or_len p xs) (length xs)
list_any_is p [] = refl
list_any_is p (x ∷ xs) = let rest = list_any_is p xs in grind (arith, nat_tests)

index_within : (texts : List (List ℕ)) (text : List ℕ) → index_of texts text ≤ length texts
index_within [] text = omega arith
index_within (t ∷ texts) text = let rest = index_within texts text in grind (arith, nat_tests)

old_text : (texts : List (List ℕ)) (text : List ℕ) → Has texts text → with_text texts text ≡ texts
old_text texts text has = let any = list_any_is (bytes_eq text) texts in grind (arith, nat_tests)

new_text : (texts : List (List ℕ)) (text : List ℕ) → length texts ≤ index_of texts text → with_text texts text ≡ texts ++ text ∷ []
new_text texts text none = let any = list_any_is (bytes_eq text) texts in grind (arith, nat_tests)

itself : (text : List ℕ) → bytes_eq text text ≡ true
itself text = (bytes_decides text text).1 refl

-- what is among them keeps its number
kept_push : (texts : List (List ℕ)) (text other : List ℕ) → Has texts text → index_of (texts ++ other ∷ []) text ≡ index_of texts text
kept_push texts text other has = let e = position_or_len_push (bytes_eq text) texts other in grind (arith, nat_tests)

pub kept : (texts : List (List ℕ)) (text other : List ℕ) → Has texts text → index_of (with_text texts other) text ≡ index_of texts text
kept texts text other has =
    ⊎_elim
    (λ old. ap (λ (ts : List (List ℕ)). index_of ts text) (old_text texts other old))
    (λ new. ap (λ (ts : List (List ℕ)). index_of ts text) (new_text texts other new) ∙ kept_push texts text other has)
    (cases_lt (index_of texts other) (length texts))

grown : (texts : List (List ℕ)) (other : List ℕ) → (length texts ≤ length (with_text texts other)) × (length (with_text texts other) ≤ length texts + 1)
grown texts other =
    ⊎_elim
    (λ old. let e = ap length (old_text texts other old) in (omega arith, omega arith))
    (λ new. let e : length (with_text texts other) ≡ length texts + 1 = ap length (new_text texts other new) ∙ length_push texts other in (omega arith, omega arith))
    (cases_lt (index_of texts other) (length texts))

pub length_with_text : (texts : List (List ℕ)) (other : List ℕ) → length (with_text texts other) ≤ length texts + 1
length_with_text texts other = (grown texts other).1

pub still : (texts : List (List ℕ)) (text other : List ℕ) → Has texts text → Has (with_text texts other) text
still texts text other has = omega (arith, kept texts text other has, (grown texts other).0)

-- a text that joins them is among them, with the number that it had or that was next
pub joined : (texts : List (List ℕ)) (text : List ℕ) → (index_of (with_text texts text) text ≡ index_of texts text) × Has (with_text texts text) text
joined texts text =
    ⊎_elim
    (λ old. let e = kept texts text text old in (e, still texts text text old))
    (λ new.
    let e : index_of (texts ++ text ∷ []) text ≡ index_of texts text =
    let p = position_or_len_push (bytes_eq text) texts text in let s = itself text in let w = index_within texts text in grind (arith, nat_tests) in
    let same = new_text texts text new in
    let i : index_of (with_text texts text) text ≡ index_of texts text = ap (λ (ts : List (List ℕ)). index_of ts text) same ∙ e in
    (i, omega (arith, i, index_within texts text, ap length same, length_push texts text)))
    (cases_lt (index_of texts text) (length texts))

-- ---- several texts

pub kept_all : (texts others : List (List ℕ)) (text : List ℕ) → Has texts text → (index_of (with_texts texts others) text ≡ index_of texts text) × Has (with_texts texts others) text
kept_all texts [] text has = (refl, has)
kept_all texts (other ∷ others) text has =
    let rest = kept_all (with_text texts other) others text (still texts text other has) in
    (rest.0 ∙ kept texts text other has, rest.1)

-- a function's two texts among those of all functions
pub with_function : (start : List (List ℕ)) (fs : List MetaFunction) (i : ℕ) (f : MetaFunction) → i < length fs → f ≡ get_or fs i f
    → with_texts start (flat_map function_texts (take (i + 1) fs)) ≡ with_text (with_text (with_texts start (flat_map function_texts (take i fs))) f.name) f.file
with_function start fs i f lt is =
    let more : flat_map function_texts (take (i + 1) fs) ≡ flat_map function_texts (take i fs) ++ function_texts f = ap (flat_map function_texts) (take_more fs i f lt ∙ ap (λ (g : MetaFunction). take i fs ++ g ∷ []) (sym is)) ∙ flat_map-append function_texts (take i fs) (f ∷ []) in
    ap (with_texts start) more ∙ fold-append with_text start (flat_map function_texts (take i fs)) (function_texts f)

pub with_rest : (start : List (List ℕ)) (fs : List MetaFunction) (i : ℕ) → with_texts start (flat_map function_texts fs) ≡ with_texts (with_texts start (flat_map function_texts (take i fs))) (flat_map function_texts (drop i fs))
with_rest start fs i =
    ap (λ (gs : List MetaFunction). with_texts start (flat_map function_texts gs)) (sym (take-append-drop i fs)) ∙ ap (with_texts start) (flat_map-append function_texts (take i fs) (drop i fs))
    ∙ fold-append with_text start (flat_map function_texts (take i fs)) (flat_map function_texts (drop i fs))

-- the numbers of a function's texts when they join are those at the end
pub record_same : (start now : List (List ℕ)) (fs : List MetaFunction) (i name file : ℕ) (f : MetaFunction) → i < length fs → f ≡ get_or fs i f → now ≡ with_texts start (flat_map function_texts (take i fs))
    → name ≡ index_of now f.name → file ≡ index_of (with_text now f.name) f.file
    → (name ≡ index_of (with_texts start (flat_map function_texts fs)) f.name) × (file ≡ index_of (with_texts start (flat_map function_texts fs)) f.file)
record_same start now fs i name file f lt is is_now is_name is_file =
    let after = with_text (with_text now f.name) f.file in
    let rest = flat_map function_texts (drop (i + 1) fs) in
    let whole : with_texts start (flat_map function_texts fs) ≡ with_texts (with_text (with_text now f.name) f.file) (flat_map function_texts (drop (i + 1) fs)) =
    with_rest start fs (i + 1) ∙ ap (λ (ts : List (List ℕ)). with_texts ts (flat_map function_texts (drop (i + 1) fs))) (with_function start fs i f lt is ∙ ap (λ (ts : List (List ℕ)). with_text (with_text ts f.name) f.file) (sym is_now)) in
    let j = joined now f.name in
    let k = kept (with_text now f.name) f.name f.file j.1 in
    let name_there = kept_all (with_text (with_text now f.name) f.file) (flat_map function_texts (drop (i + 1) fs)) f.name (still (with_text now f.name) f.name f.file j.1) in
    let m = joined (with_text now f.name) f.file in
    let file_there = kept_all (with_text (with_text now f.name) f.file) (flat_map function_texts (drop (i + 1) fs)) f.file m.1 in (
      is_name ∙ sym (ap (λ (ts : List (List ℕ)). index_of ts f.name) whole ∙ name_there.0 ∙ k ∙ j.0),
      is_file ∙ sym (ap (λ (ts : List (List ℕ)). index_of ts f.file) whole ∙ file_there.0 ∙ m.0),
    )

-- the record that is written is the one with the numbers at the end
pub record_is : (start now : List (List ℕ)) (fs : List MetaFunction) (i name file : ℕ) (f : MetaFunction) → i < length fs → f ≡ get_or fs i f → now ≡ with_texts start (flat_map function_texts (take i fs))
    → name ≡ index_of now f.name → file ≡ index_of (with_text now f.name) f.file
    → flat_map uleb_of (record_numbers name file f) ≡ record_text (with_texts start (flat_map function_texts fs)) f
unfolding record_text
record_is start now fs i name file f lt is is_now is_name is_file =
    let same = record_same start now fs i name file f lt is is_now is_name is_file in
    ap (λ (n : ℕ). flat_map uleb_of (record_numbers n file f)) same.0 ∙ ap (λ (n : ℕ). flat_map uleb_of (record_numbers (index_of (with_texts start (flat_map function_texts fs)) f.name) n f)) same.1

-- ---- look-ups

index_here : (texts : List (List ℕ)) (t text : List ℕ) → bytes_eq text t ≡ true → index_of (t ∷ texts) text ≡ 0
index_here texts t text e = grind (arith, nat_tests)

index_next : (texts : List (List ℕ)) (t text : List ℕ) → bytes_eq text t ≡ false → index_of (t ∷ texts) text ≡ suc (index_of texts text)
index_next texts t text e = grind (arith, nat_tests)

-- a number's text
pub text_at_index : (texts : List (List ℕ)) (text : List ℕ) → Has texts text → slice_get texts (index_of texts text) ≡ Some text
text_at_index [] text has = absurd (omega arith)
text_at_index (t ∷ texts) text has =
    ⊎_elim
    (λ same. ap (slice_get (t ∷ texts)) (index_here texts t text same) ∙ ap (λ (x : List ℕ). Some x) (sym ((bytes_decides text t).0 same)))
    (λ other. ap (slice_get (t ∷ texts)) (index_next texts t text other) ∙ text_at_index texts text (omega (arith, index_next texts t text other)))
    (cases_Bool (bytes_eq text t))

-- both texts of a function
abbrev pub HasBoth : List (List ℕ) → MetaFunction → Type 0
HasBoth texts f = Has texts f.name × Has texts f.file

pub functions_have : (start : List (List ℕ)) (fs : List MetaFunction) → All (HasBoth (with_texts start (flat_map function_texts fs))) fs
functions_have start [] = All-nil (HasBoth start)
functions_have start (f ∷ fs) =
    let next = with_text (with_text start f.name) f.file in
    let name_there = (kept_all (with_text (with_text start f.name) f.file) (flat_map function_texts fs) f.name (still (with_text start f.name) f.name f.file (joined start f.name).1)).1 in
    let file_there = (kept_all (with_text (with_text start f.name) f.file) (flat_map function_texts fs) f.file (joined (with_text start f.name) f.file).1).1 in
    All-cons (HasBoth (with_texts (with_text (with_text start f.name) f.file) (flat_map function_texts fs))) f fs (name_there, file_there) (functions_have (with_text (with_text start f.name) f.file) fs)
