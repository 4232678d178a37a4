-- What is written is spelled.
use Rattle.std.proofs.Common.{◌≡◌, ℕ, zero, suc, ◌+◌, ◌-◌, ◌^◌, ◌<◌, ◌≤◌, List, [], ◌∷◌, ◌++◌, length, take, drop, refl, sym, ap, ◌∙◌, subst, arith, append_assoc, length-append, length-drop, inr, lit<}
use Rattle.std.specs.Prelude.{All, replicate}
use Rattle.std.specs.List.{flat_map}
use Rattle.std.proofs.Math.Seq.{drop-append_seam, take-append_seam}
use Rattle.std.proofs.lemmas.List.{drop-take}
use Rattle.byteorder.specs.Endian.{little_bytes}
use Rattle.cov_bytes.specs.Writing.{uleb_of, groups_of}
use Rattle.cov_bytes.specs.Laws.{NumbersAreRead, NumbersAreSpelled, WrittenIsShortest, FixedAreRead}
use Rattle.cov_counter.specs.declared.entry.Entry.{Entry}
use Rattle.cov_counter.specs.Spelling.{IsPiece, IsLittle, IsGroups, IsNumber, InTurn, IsParts, IsHead, IsEntry, IsEntryAt, IsRest, entry_numbers}
use Rattle.cov_counter.specs.Text.{magic_text, head_text, entry_text, footer_text, counter_text, written_head, placed, CanBeWritten, WrittenIsSpelled}
use Rattle.cov_counter.proofs.Fields.{little_spells, groups_spells}

-- what is known of numbers
pub record Laws : Type 0 where
  pub read : NumbersAreRead
  pub spelled : NumbersAreSpelled
  pub written : WrittenIsShortest
  pub fixed : FixedAreRead

-- ---- where the bytes from an offset on begin with a piece

drop-none : (m : ℕ) → drop {A = ℕ} m [] ≡ []
drop-none zero = refl
drop-none (suc m) = refl

drop-add : (n m : ℕ) (xs : List ℕ) → drop (n + m) xs ≡ drop m (drop n xs)
drop-add zero m xs = ap (λ (k : ℕ). drop k xs) (omega arith)
drop-add (suc n) m [] = drop-none (suc n + m) ∙ sym (drop-none m)
drop-add (suc n) m (x ∷ xs) = let one : suc n + m ≡ suc (n + m) = omega arith in ap (λ (k : ℕ). drop k (x ∷ xs)) one ∙ drop-add n m xs

all-first : {X : Type 0} (P : X → Type 0) (x : X) (xs : List X) → All P (x ∷ xs) → P x
all-first P x xs h = h 0 x (omega arith)

all-rest : {X : Type 0} (P : X → Type 0) (x : X) (xs : List X) → All P (x ∷ xs) → All P xs
all-rest P x xs h = λ k d lt. h (suc k) d (omega arith)

-- the bytes behind it
behind : (bytes piece rest : List ℕ) (at : ℕ) → drop at bytes ≡ piece ++ rest → drop (at + length piece) bytes ≡ rest
behind bytes piece rest at e = drop-add at (length piece) bytes ∙ ap (drop (length piece)) e ∙ drop-append_seam piece rest

-- how many bytes there are
enough : (bytes piece rest : List ℕ) (at : ℕ) → drop at bytes ≡ piece ++ rest → 0 < length piece → at + length piece ≤ length bytes
enough bytes piece rest at e some = omega (arith, ap length e, length-append piece rest, length-drop at bytes)

piece_stands : (bytes piece rest : List ℕ) (at : ℕ) → drop at bytes ≡ piece ++ rest → 0 < length piece → IsPiece bytes at piece (at + length piece)
piece_stands bytes piece rest at e some = record { next_is = refl; whole = enough bytes piece rest at e some; there = ap (take (length piece)) e ∙ take-append_seam piece rest }

four_stands : Laws → (bytes rest : List ℕ) (at n : ℕ) → n < 2 ^ 32 → drop at bytes ≡ little_bytes 4 n ++ rest → IsLittle 4 bytes at n (at + 4)
four_stands laws bytes rest at n lt e = little_spells 4 bytes at (n, at + 4) (laws.fixed.four bytes rest at n lt e)

eight_stands : Laws → (bytes rest : List ℕ) (at n : ℕ) → n < 2 ^ 64 → drop at bytes ≡ little_bytes 8 n ++ rest → IsLittle 8 bytes at n (at + 8)
eight_stands laws bytes rest at n lt e = little_spells 8 bytes at (n, at + 8) (laws.fixed.eight bytes rest at n lt e)

uleb_stands : Laws → (bytes rest : List ℕ) (at n : ℕ) → n < 2 ^ 32 → drop at bytes ≡ uleb_of n ++ rest → IsGroups bytes at n (at + length (uleb_of n))
uleb_stands laws bytes rest at n lt e = groups_spells laws.spelled bytes at (n, at + length (uleb_of n)) (laws.read bytes rest (uleb_of n) at n (laws.written n lt).0 e)

-- ---- entries

numbers_stand : Laws → (hash : List ℕ) (es : List Entry) (bytes ns rest : List ℕ) (at : ℕ) → All (λ n. n < 2 ^ 32) ns → drop at bytes ≡ flat_map uleb_of ns ++ rest
    → InTurn (IsNumber (written_head hash es) bytes) at ns (at + length (flat_map uleb_of ns))
numbers_stand laws hash es bytes [] rest at small e = omega arith
numbers_stand laws hash es bytes (n ∷ ns) rest at small e =
    let here : drop at bytes ≡ uleb_of n ++ (flat_map uleb_of ns ++ rest) = e ∙ append_assoc (uleb_of n) (flat_map uleb_of ns) rest in
    let others = numbers_stand laws hash es bytes ns rest (at + length (uleb_of n)) (all-rest (λ m. m < 2 ^ 32) n ns small) (behind bytes (uleb_of n) (flat_map uleb_of ns ++ rest) at here) in
    let end : at + length (uleb_of n) + length (flat_map uleb_of ns) ≡ at + length (uleb_of n ++ flat_map uleb_of ns) = omega (arith, length-append (uleb_of n) (flat_map uleb_of ns)) in
    (at + length (uleb_of n), uleb_stands laws bytes (flat_map uleb_of ns ++ rest) at n (all-first (λ m. m < 2 ^ 32) n ns small) here, subst (λ (m : ℕ). InTurn (IsNumber (written_head hash es) bytes) (at + length (uleb_of n)) ns m) end others)

entry_stands : Laws → (hash : List ℕ) (es : List Entry) (bytes : List ℕ) (entry : Entry) (rest : List ℕ) (at : ℕ) → CanBeWritten entry → drop at bytes ≡ entry_text entry ++ rest
    → IsEntry (written_head hash es) bytes at entry (at + length (entry_text entry))
unfolding entry_text
entry_stands laws hash es bytes entry rest at can e = record { few = can.few; numbers_are = numbers_stand laws hash es bytes (entry_numbers entry) rest at can.small e }

entries_stand : Laws → (hash : List ℕ) (all : List Entry) (bytes : List ℕ) (es : List Entry) (rest : List ℕ) (at : ℕ) → All CanBeWritten es → drop at bytes ≡ flat_map entry_text es ++ rest
    → InTurn (IsEntryAt (written_head hash all) bytes) at (placed at es) (at + length (flat_map entry_text es))
entries_stand laws hash all bytes [] rest at can e = omega arith
entries_stand laws hash all bytes (entry ∷ es) rest at can e =
    let here : drop at bytes ≡ entry_text entry ++ (flat_map entry_text es ++ rest) = e ∙ append_assoc (entry_text entry) (flat_map entry_text es) rest in
    let others = entries_stand laws hash all bytes es rest (at + length (entry_text entry)) (all-rest CanBeWritten entry es can) (behind bytes (entry_text entry) (flat_map entry_text es ++ rest) at here) in
    let end : at + length (entry_text entry) + length (flat_map entry_text es) ≡ at + length (entry_text entry ++ flat_map entry_text es) = omega (arith, length-append (entry_text entry) (flat_map entry_text es)) in
    (at + length (entry_text entry), (refl, entry_stands laws hash all bytes entry (flat_map entry_text es ++ rest) at (all-first CanBeWritten entry es can) here), subst (λ (m : ℕ). InTurn (IsEntryAt (written_head hash all) bytes) (at + length (entry_text entry)) (placed (at + length (entry_text entry)) es) m) end others)

-- ---- the end

rest_stands : Laws → (bytes : List ℕ) (at : ℕ) → drop at bytes ≡ footer_text → IsRest bytes at
unfolding footer_text magic_text
rest_stands laws bytes at e =
    let unused : List ℕ = replicate 4 0 in
    let size : length bytes - at ≡ 16 = sym (length-drop at bytes) ∙ ap length e in
    let none : at + 0 ≡ at = omega arith in
    let eight : drop (at + 8) bytes ≡ little_bytes 4 1 ++ unused = drop-add at 8 bytes ∙ ap (drop 8) e in
    let first : IsLittle 4 bytes at 0x6d776300 (at + 4) = four_stands laws bytes (unused ++ (little_bytes 4 1 ++ unused)) at 0x6d776300 (lit< tt) e in
    let second : IsLittle 4 bytes (at + 8) 1 (at + 8 + 4) = four_stands laws bytes unused (at + 8) 1 (lit< tt) eight in
    let twelve : at + 8 + 4 ≡ at + 12 = omega arith in
    record {
      zeros = 0;
      few = omega arith;
      end_is = omega (arith, size);
      zeros_stand = none;
      magic = subst (λ (n : ℕ). IsLittle 4 bytes n 0x6d776300 (n + 4)) (sym none) first;
      segments = subst (λ (n : ℕ). IsLittle 4 bytes (n + 8) 1 (n + 12)) (sym none) (subst (λ (n : ℕ). IsLittle 4 bytes (at + 8) 1 n) twelve second);
    }

-- ---- the header

form : List ℕ
form = 2 ∷ 0 ∷ replicate 6 0

parts_stand : Laws → (bytes rest : List ℕ) → drop 40 bytes ≡ little_bytes 4 1 ++ (little_bytes 4 3 ++ (replicate 4 0 ++ rest)) → IsParts bytes 40 0 52
unfolding uleb_of groups_of
parts_stand laws bytes rest e =
    let lengths : drop 44 bytes ≡ little_bytes 4 3 ++ (replicate 4 0 ++ rest) = behind bytes (little_bytes 4 1) (little_bytes 4 3 ++ (replicate 4 0 ++ rest)) 40 e in
    let both : drop 48 bytes ≡ replicate 4 0 ++ rest = behind bytes (little_bytes 4 3) (replicate 4 0 ++ rest) 44 lengths in
    let one : List ℕ = 0 ∷ [] in
    let three : List ℕ = 0 ∷ 0 ∷ 0 ∷ [] in
    let args : drop 49 bytes ≡ three ++ rest = behind bytes one (three ++ rest) 48 both in
    let fits : 52 ≤ length bytes = enough bytes (replicate 4 0) rest 48 both (lit< tt) in
    let table_part : drop 48 (take 49 bytes) ≡ uleb_of 0 ++ [] = drop-take 48 1 bytes ∙ ap (take 1) both in
    let args_part : drop 49 (take 52 bytes) ≡ uleb_of 0 ++ (0 ∷ 0 ∷ []) = drop-take 49 3 bytes ∙ ap (take 3) args in
    record {
      table = 1;
      args = 3;
      strings = 0;
      table_stands = four_stands laws bytes (little_bytes 4 3 ++ (replicate 4 0 ++ rest)) 40 1 (lit< tt) e;
      args_stand = four_stands laws bytes (replicate 4 0 ++ rest) 44 3 (lit< tt) lengths;
      table_is = record { begin = 49; behind = 49; count_is = uleb_stands laws (take 49 bytes) [] 48 0 (lit< tt) table_part; strings_are = refl };
      args_are = record { begin = 50; behind = 50; count_is = uleb_stands laws (take 52 bytes) (0 ∷ 0 ∷ []) 49 0 (lit< tt) args_part; pairs_are = refl };
      next_is = refl;
      whole = fits;
    }

head_stands : Laws → (bytes hash rest : List ℕ) (es : List Entry) → length hash ≡ 16 → length es < 2 ^ 64 → bytes ≡ head_text hash (length es) ++ rest → IsHead bytes (written_head hash es) 52
unfolding head_text magic_text form
head_stands laws bytes hash rest es len few e =
    let lengths : List ℕ = little_bytes 4 1 ++ (little_bytes 4 3 ++ (replicate 4 0 ++ rest)) in
    let counted : List ℕ = little_bytes 8 (length es) ++ lengths in
    let formed : List ℕ = form ++ counted in
    let at0 : drop 0 bytes ≡ little_bytes 4 0x6d776300 ++ (little_bytes 4 1 ++ (hash ++ formed)) = e ∙ simp append_assoc in
    let at4 : drop 4 bytes ≡ little_bytes 4 1 ++ (hash ++ formed) = behind bytes (little_bytes 4 0x6d776300) (little_bytes 4 1 ++ (hash ++ formed)) 0 at0 in
    let at8 : drop 8 bytes ≡ hash ++ formed = behind bytes (little_bytes 4 1) (hash ++ formed) 4 at4 in
    let end : 8 + length hash ≡ 24 = omega (arith, len) in
    let at24 : drop 24 bytes ≡ form ++ counted = ap (λ (n : ℕ). drop n bytes) (sym end) ∙ behind bytes hash formed 8 at8 in
    let two : List ℕ = 2 ∷ [] in
    let no : List ℕ = 0 ∷ [] in
    let at25 : drop 25 bytes ≡ no ++ (replicate 6 0 ++ counted) = behind bytes two (0 ∷ (replicate 6 0 ++ counted)) 24 at24 in
    let at32 : drop 32 bytes ≡ little_bytes 8 (length es) ++ lengths = behind bytes form counted 24 at24 in
    let at40 : drop 40 bytes ≡ lengths = behind bytes (little_bytes 8 (length es)) lengths 32 at32 in
    record {
      magic = four_stands laws bytes (little_bytes 4 1 ++ (hash ++ formed)) 0 0x6d776300 (lit< tt) at0;
      version = four_stands laws bytes (hash ++ formed) 4 1 (lit< tt) at4;
      hash_whole = len;
      hash_stands = subst (λ (n : ℕ). IsPiece bytes 8 hash n) end (piece_stands bytes hash formed 8 at8 (omega (arith, len)));
      flavour_stands = piece_stands bytes two (0 ∷ (replicate 6 0 ++ counted)) 24 at24 (lit< tt);
      flavour_is = inr refl;
      flag_stands = piece_stands bytes no (replicate 6 0 ++ counted) 25 at25 (lit< tt);
      entries_stand = eight_stands laws bytes lengths 32 (length es) few at32;
      parts_are = parts_stand laws bytes rest at40;
    }

-- ---- the file

length-placed : (at : ℕ) (es : List Entry) → length (placed at es) ≡ length es
length-placed at [] = refl
length-placed at (e ∷ es) = ap suc (length-placed (at + length (entry_text e)) es)

length-head : (hash : List ℕ) (n : ℕ) → length hash ≡ 16 → length (head_text hash n) ≡ 52
unfolding head_text magic_text
length-head hash n len =
    let last : List ℕ = little_bytes 8 n ++ (little_bytes 4 1 ++ (little_bytes 4 3 ++ replicate 4 0)) in
    let tail : List ℕ = (2 ∷ 0 ∷ replicate 6 0) ++ last in
    let size : length (hash ++ tail) ≡ length hash + 28 = length-append hash tail in
    omega (arith, size, len)

pub written_is_spelled : Laws → WrittenIsSpelled
unfolding counter_text
written_is_spelled laws hash entries len few can small =
    let rest : List ℕ = flat_map entry_text entries ++ footer_text in
    let bytes : List ℕ = head_text hash (length entries) ++ rest in
    let at52 : drop 52 bytes ≡ rest = ap (λ (n : ℕ). drop n bytes) (sym (length-head hash (length entries) len)) ∙ drop-append_seam (head_text hash (length entries)) rest in
    record {
      first = 52;
      behind = 52 + length (flat_map entry_text entries);
      small = small;
      head_is = head_stands laws bytes hash rest entries len few refl;
      count_is = length-placed 52 entries;
      entries_are = entries_stand laws hash entries bytes entries footer_text 52 can at52;
      rest_is = rest_stands laws bytes (52 + length (flat_map entry_text entries)) (behind bytes (flat_map entry_text entries) footer_text 52 at52);
    }
