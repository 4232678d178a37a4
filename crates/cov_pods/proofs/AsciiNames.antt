-- A name that has the form of a meta or counter name is ASCII, and so UTF-8.
use Rattle.std.proofs.Common.{◌≡◌, ℕ, ◌+◌, ◌-◌, ◌<◌, Bool, true, false, cond, ◌&&◌, List, [], ◌∷◌, ◌++◌, Option, Some, None, IsSome, length, take, drop, get_or, nat_eq, refl, sym, subst, arith}
use Rattle.std.specs.Prelude.{codes, nat_lt}
use Rattle.std.specs.List.{list_all, starts_with, before_first, after_first, position_or_len}
use Rattle.std.specs.Str.{IsUtf8, IsAscii}
use Rattle.std.proofs.lemmas.Bool.{eqb-true}
use Rattle.std.proofs.lemmas.Bool.Decides.{nat_tests}
use borrow.Author.Tests.{ltb-true}
use Rattle.std.proofs.lemmas.List.{take-append-drop, drop-drop, length-drop}
use Rattle.std.proofs.lemmas.List.Sums.{split_at_first, passes_at_first}
use Rattle.std.proofs.lemmas.Slice.Eq.{starts_is}
use Rattle.std.proofs.lemmas.Str.{IsUtf8-from_ascii, IsAscii-append}
use Rattle.std.proofs.lemmas.Str.Ascii.{IsAscii-nil, IsAscii-cons}
use Rattle.std.proofs.lemmas.Bool.Decides.{Decides-eqb}
use Rattle.cov_pods.specs.Names.{is_digit, is_hash_digit, is_hash, is_number, is_dot, is_stamp, meta_hash, stamped_hash, counter_hash}

both : (a b : Bool) → (a && b) ≡ true → (a ≡ true) × (b ≡ true)
both true b h = (refl, h)
both false b h = cc

-- a choice that is there was made
chosen : {A : Type 0} (b : Bool) (o : Option A) → IsSome (cond b o None) → (b ≡ true) × IsSome o
chosen true o h = (refl, h)
chosen false o h = cc

digit : (c : ℕ) → is_digit c ≡ true → c < 128
digit c h = grind (arith, nat_tests)

hash_digit : (c : ℕ) → is_hash_digit c ≡ true → c < 128
hash_digit c h = grind (arith, nat_tests)

all_ascii : (p : ℕ → Bool) → ((c : ℕ) → p c ≡ true → c < 128) → (xs : List ℕ) → list_all p xs ≡ true → IsAscii xs
all_ascii p small [] h = IsAscii-nil
all_ascii p small (x ∷ xs) h = let b = both _ _ h in IsAscii-cons x xs (small x b.0) (all_ascii p small xs b.1)

-- a word that is written out
written_ascii : (word : List ℕ) → list_all (λ c. nat_lt c 128) word ≡ true → IsAscii word
written_ascii word h = all_ascii (λ c. nat_lt c 128) (λ c e. ltb-true c 128 e) word h

number_ascii : (bytes : List ℕ) → is_number bytes ≡ true → IsAscii bytes
number_ascii bytes h = all_ascii is_digit digit bytes (both _ _ (both _ _ h).1).1

hash_ascii : (bytes : List ℕ) → is_hash bytes ≡ true → IsAscii bytes
hash_ascii bytes h = all_ascii is_hash_digit hash_digit bytes (both _ _ h).1

begins : (s p : List ℕ) → starts_with nat_eq s p ≡ true → s ≡ p ++ drop (length p) s
begins s p h = (starts_is Decides-eqb s p (starts_with nat_eq s p) refl).0 h

word_ascii : (s p : List ℕ) → starts_with nat_eq s p ≡ true → IsAscii p → IsAscii (drop (length p) s) → IsAscii s
word_ascii s p h w r = subst IsAscii (sym (begins s p h)) (IsAscii-append p (drop (length p) s) w r)

meta_ascii : (name : List ℕ) → IsSome (meta_hash name) → IsAscii name
meta_ascii name h =
    let b = both _ _ (chosen _ (Some (drop 8 name)) h).0 in
    word_ascii name (codes "covmeta.") b.0 (written_ascii (codes "covmeta.") refl) (hash_ascii (drop 8 name) b.1)

-- a text with a dot between two parts that are ASCII
dotted_ascii : (bytes : List ℕ) → IsAscii (before_first is_dot bytes) → IsAscii (after_first is_dot bytes) → 0 < length (after_first is_dot bytes) → IsAscii bytes
dotted_ascii bytes front back some =
    let at = position_or_len is_dot bytes in
    let len : length (after_first is_dot bytes) ≡ length bytes - (at + 1) = length-drop (at + 1) bytes in
    let within : at < length bytes = omega (arith, len, some) in
    let dot : get_or bytes at 0 ≡ 46 = eqb-true (get_or bytes at 0) 46 (passes_at_first is_dot bytes 0 within) in
    subst IsAscii (sym (split_at_first is_dot bytes 0 within))
    (IsAscii-append (before_first is_dot bytes) (get_or bytes at 0 ∷ after_first is_dot bytes) front (IsAscii-cons (get_or bytes at 0) (after_first is_dot bytes) (omega (arith, dot)) back))

stamp_ascii : (bytes : List ℕ) → is_stamp bytes ≡ true → IsAscii bytes
stamp_ascii bytes h =
    let parts = both _ _ h in
    let some : 0 < length (after_first is_dot bytes) = ltb-true 0 (length (after_first is_dot bytes)) (both _ _ parts.1).0 in
    dotted_ascii bytes (number_ascii (before_first is_dot bytes) parts.0) (number_ascii (after_first is_dot bytes) parts.1) some

stamped_ascii : (rest : List ℕ) → IsSome (stamped_hash rest) → IsAscii rest
stamped_ascii rest h =
    let parts = both _ _ (chosen _ (Some (take 32 rest)) h).0 in
    let behind = both _ _ parts.1 in
    let stamp : IsAscii (drop 1 (drop 32 rest)) = subst IsAscii (sym (drop-drop 1 32 rest)) (stamp_ascii (drop 33 rest) behind.1) in
    subst IsAscii (take-append-drop 32 rest) (IsAscii-append (take 32 rest) (drop 32 rest) (hash_ascii (take 32 rest) parts.0) (word_ascii (drop 32 rest) (codes ".") behind.0 (written_ascii (codes ".") refl) stamp))

counter_ascii : (name : List ℕ) → IsSome (counter_hash name) → IsAscii name
counter_ascii name h =
    let c = chosen _ (stamped_hash (drop 12 name)) h in
    word_ascii name (codes "covcounters.") c.0 (written_ascii (codes "covcounters.") refl) (stamped_ascii (drop 12 name) c.1)

pub meta_name_utf8 : (name : List ℕ) → IsSome (meta_hash name) → IsUtf8 name
meta_name_utf8 name h = IsUtf8-from_ascii name (meta_ascii name h)

pub counter_name_utf8 : (name : List ℕ) → IsSome (counter_hash name) → IsUtf8 name
counter_name_utf8 name h = IsUtf8-from_ascii name (counter_ascii name h)
