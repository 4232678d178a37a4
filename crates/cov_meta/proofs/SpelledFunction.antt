-- Reading a function's record and its spelling.
use Rattle.std.proofs.Common.{◌≡◌, ℕ, ◌≤◌, List, [], ◌∷◌, ◌++◌, length, Option, Some, None, Result, Ok, refl, sym, ap, ◌∙◌, subst}
use Rattle.std.specs.Prelude.{Bool, flat_map, slice_get, nat_lt}
use Rattle.std.proofs.lemmas.Bool.{ltb-false, le-ltb}
use Rattle.cov_outside.specs.declared.limit.Which.TheVariants.{Units}
use Rattle.cov_bytes.specs.Reading.{uleb_at}
use Rattle.cov_bytes.specs.Many.{many}
use Rattle.cov_meta.specs.declared.fault.MetaFault.{MetaFault}
use Rattle.cov_meta.specs.declared.fault.MetaFault.TheVariants.{Limit}
use Rattle.cov_meta.specs.declared.meta.Place2.{Place2}
use Rattle.cov_meta.specs.declared.meta.MetaUnit.{MetaUnit}
use Rattle.cov_meta.specs.declared.meta.MetaFunction.{MetaFunction}
use Rattle.cov_meta.specs.Fault.{field}
use Rattle.cov_meta.specs.Function.{place_at, unit_at, named, text_at, count_at, function_at}
use Rattle.cov_meta.specs.Spelling.{InTurn, IsUleb, IsFunction, unit_numbers}
use Rattle.cov_meta.proofs.Bind.{bind_ok, field_ok, same_ok, passed}
use Rattle.cov_meta.proofs.SpelledNumbers.{uleb_spells, uleb_reads}
use Rattle.cov_meta.proofs.Turns.{many_spells, many_reads, turns_split, turns_join, turns_flat, turns_parts}

-- a number that was read as a field
number : (bytes : List ℕ) (at : ℕ) (x : ℕ × ℕ) → field (uleb_at bytes at) ≡ Ok x → IsUleb bytes at x.0 x.1
number bytes at x e = uleb_spells bytes at x.0 x.1 (field_ok (uleb_at bytes at) x e)

abbrev place_numbers : Place2 → List ℕ
place_numbers p = p.line ∷ p.column ∷ []

place_spells : (bytes : List ℕ) (at : ℕ) (p : Place2) (next : ℕ) → place_at bytes at ≡ Ok (p, next) → InTurn (IsUleb bytes) at (place_numbers p) next
unfolding place_at
place_spells bytes at p next e =
    let line = bind_ok (field (uleb_at bytes at)) _ _ e in
    let column = bind_ok (field (uleb_at bytes line.0.1)) _ _ line.2 in
    subst (λ (y : Place2 × ℕ). InTurn (IsUleb bytes) at (place_numbers y.0) y.1) (same_ok _ _ column.2)
    (line.0.1, number bytes at line.0 line.1, (column.0.1, number bytes line.0.1 column.0 column.1, refl))

place_reads : (bytes : List ℕ) (at : ℕ) (p : Place2) (next : ℕ) → InTurn (IsUleb bytes) at (place_numbers p) next → place_at bytes at ≡ Ok (p, next)
unfolding place_at
place_reads bytes at p next t =
    rw (uleb_reads bytes at p.line t.0 t.1, uleb_reads bytes t.0 p.column t.2.0 t.2.1, t.2.2) refl

unit_spells : (bytes : List ℕ) (at : ℕ) (u : MetaUnit) (next : ℕ) → unit_at bytes at ≡ Ok (u, next) → InTurn (IsUleb bytes) at (unit_numbers u) next
unfolding unit_at
unit_spells bytes at u next e =
    let start = bind_ok (place_at bytes at) _ _ e in
    let end = bind_ok (place_at bytes start.0.1) _ _ start.2 in
    let statements = bind_ok (field (uleb_at bytes end.0.1)) _ _ end.2 in
    let s = place_spells bytes at start.0.0 start.0.1 start.1 in
    let t = place_spells bytes start.0.1 end.0.0 end.0.1 end.1 in
    let n = number bytes end.0.1 statements.0 statements.1 in
    subst (λ (y : MetaUnit × ℕ). InTurn (IsUleb bytes) at (unit_numbers y.0) y.1) (same_ok _ _ statements.2)
    (turns_join (IsUleb bytes) at (place_numbers start.0.0) (place_numbers end.0.0 ++ statements.0.0 ∷ []) start.0.1 statements.0.1 s
    (turns_join (IsUleb bytes) start.0.1 (place_numbers end.0.0) (statements.0.0 ∷ []) end.0.1 statements.0.1 t (statements.0.1, n, refl)))

unit_reads : (bytes : List ℕ) (at : ℕ) (u : MetaUnit) (next : ℕ) → InTurn (IsUleb bytes) at (unit_numbers u) next → unit_at bytes at ≡ Ok (u, next)
unfolding unit_at
unit_reads bytes at u next t =
    let start = place_reads bytes at u.start t.2.0 (t.0, t.1, (t.2.0, t.2.1, refl)) in
    let four = t.2.2 in
    let end = place_reads bytes t.2.0 u.end four.2.0 (four.0, four.1, (four.2.0, four.2.1, refl)) in
    let five = four.2.2 in
    rw (start, end, uleb_reads bytes four.2.0 u.statements five.0 five.1, five.2) refl

named_ok : (found : Option (List ℕ)) (index count at : ℕ) (text : List ℕ) → named found index count at ≡ Ok text → found ≡ Some text
named_ok (Some x) index count at text e = ap Some (same_ok x text e)
named_ok None index count at text e = absurd (cc)

pub named_reads : (texts : List (List ℕ)) (index at : ℕ) (text : List ℕ) → slice_get texts index ≡ Some text → named (slice_get texts index) index (length texts) at ≡ Ok text
named_reads texts index at text e = rw e refl

pub named_spells : (texts : List (List ℕ)) (index at : ℕ) (text : List ℕ) → named (slice_get texts index) index (length texts) at ≡ Ok text → slice_get texts index ≡ Some text
named_spells texts index at text e = named_ok (slice_get texts index) index (length texts) at text e

text_spells : (texts : List (List ℕ)) (bytes : List ℕ) (at : ℕ) (text : List ℕ) (next : ℕ) → text_at texts bytes at ≡ Ok (text, next)
    → (index : ℕ) × IsUleb bytes at index next × (slice_get texts index ≡ Some text)
unfolding text_at
text_spells texts bytes at text next e =
    let index = bind_ok (field (uleb_at bytes at)) _ _ e in
    let found = bind_ok (named (slice_get texts index.0.0) index.0.0 (length texts) at) _ _ index.2 in
    subst (λ (y : List ℕ × ℕ). (index : ℕ) × IsUleb bytes at index y.1 × (slice_get texts index ≡ Some y.0)) (same_ok _ _ found.2)
    (index.0.0, number bytes at index.0 index.1, named_spells texts index.0.0 at found.0 found.1)

text_reads : (texts : List (List ℕ)) (bytes : List ℕ) (at index : ℕ) (text : List ℕ) (next : ℕ) → IsUleb bytes at index next → slice_get texts index ≡ Some text → text_at texts bytes at ≡ Ok (text, next)
unfolding text_at
text_reads texts bytes at index text next u e = rw (uleb_reads bytes at index next u, e) refl

count_spells : (units : ℕ) (bytes : List ℕ) (at : ℕ) (x : ℕ × ℕ) → count_at units bytes at ≡ Ok x → IsUleb bytes at x.0 x.1 × (x.0 ≤ units)
unfolding count_at
count_spells units bytes at x e =
    let count = bind_ok (field (uleb_at bytes at)) _ _ e in
    let test = passed (nat_lt units count.0.0) (Limit Units) (Ok count.0) x count.2 in
    subst (λ (y : ℕ × ℕ). IsUleb bytes at y.0 y.1 × (y.0 ≤ units)) (same_ok count.0 x test.1) (number bytes at count.0 count.1, ltb-false units count.0.0 test.0)

count_reads : (units : ℕ) (bytes : List ℕ) (at value next : ℕ) → IsUleb bytes at value next → value ≤ units → count_at units bytes at ≡ Ok (value, next)
unfolding count_at
count_reads units bytes at value next u le = rw (uleb_reads bytes at value next u, le-ltb units value le) refl

-- a record that was read is spelled, and has no more units than may still come
pub function_spells : (texts : List (List ℕ)) (units : ℕ) (bytes : List ℕ) (at : ℕ) (f : MetaFunction) (next : ℕ) → function_at texts units bytes at ≡ Ok (f, next)
    → IsFunction texts bytes at f × (length f.units ≤ units)
unfolding function_at
function_spells texts units bytes at f next e =
    let count = bind_ok (count_at units bytes at) _ _ e in
    let name = bind_ok (text_at texts bytes count.0.1) _ _ count.2 in
    let file = bind_ok (text_at texts bytes name.0.1) _ _ name.2 in
    let list = bind_ok (many (unit_at bytes) count.0.0 file.0.1) _ _ file.2 in
    let flag = bind_ok (field (uleb_at bytes list.0.1)) _ _ list.2 in
    let counted = count_spells units bytes at count.0 count.1 in
    let named_name = text_spells texts bytes count.0.1 name.0.0 name.0.1 name.1 in
    let named_file = text_spells texts bytes name.0.1 file.0.0 file.0.1 file.1 in
    let all = many_spells (unit_at bytes) (λ i u j. InTurn (IsUleb bytes) i (unit_numbers u) j) (unit_spells bytes) count.0.0 file.0.1 list.0.0 list.0.1 list.1 in
    let flat = turns_flat (IsUleb bytes) unit_numbers file.0.1 list.0.0 list.0.1 all.1 in
    let last = number bytes list.0.1 flag.0 flag.1 in
    let tail = turns_join (IsUleb bytes) file.0.1 (flat_map unit_numbers list.0.0) (flag.0.0 ∷ []) list.0.1 flag.0.1 flat (flag.0.1, last, refl) in
    let first : IsUleb bytes at (length list.0.0) count.0.1 = subst (λ (n : ℕ). IsUleb bytes at n count.0.1) (sym all.0) counted.0 in
    subst (λ (y : MetaFunction × ℕ). IsFunction texts bytes at y.0 × (length y.0.units ≤ units)) (same_ok _ _ flag.2) (
      record {
        name_number = named_name.0;
        file_number = named_file.0;
        flag = flag.0.0;
        next = flag.0.1;
        numbers_stand = (count.0.1, first, (name.0.1, named_name.1, (file.0.1, named_file.1, tail)));
        name_is = named_name.2;
        file_is = named_file.2;
        literal_is = refl;
      },
      rw all.0 counted.1,
    )

-- a record that is spelled and has no more units than may still come is read
pub function_reads : (texts : List (List ℕ)) (units : ℕ) (bytes : List ℕ) (at : ℕ) (f : MetaFunction) (s : IsFunction texts bytes at f) → length f.units ≤ units
    → function_at texts units bytes at ≡ Ok (f, s.next)
unfolding function_at
function_reads texts units bytes at f s le =
    let t = s.numbers_stand in
    let name = t.2 in
    let file = name.2 in
    let parts = turns_split (IsUleb bytes) file.0 (flat_map unit_numbers f.units) (s.flag ∷ []) s.next file.2 in
    let apart = turns_parts (IsUleb bytes) unit_numbers file.0 f.units parts.0 parts.1 in
    let all = many_reads (unit_at bytes) (λ i u j. InTurn (IsUleb bytes) i (unit_numbers u) j) (unit_reads bytes) file.0 f.units parts.0 apart in
    let flag = parts.2 in
    rw (count_reads units bytes at (length f.units) t.0 t.1 le, text_reads texts bytes t.0 s.name_number f.name name.0 name.1 s.name_is, text_reads texts bytes name.0 s.file_number f.file file.0 file.1 s.file_is, all, uleb_reads bytes parts.0 s.flag flag.0 flag.1)
    (let made : Bool → ℕ → Result (MetaFunction × ℕ) MetaFault = λ literal next. Ok (record { name = f.name; file = f.file; literal = literal; units = f.units }, next) in
    ap (λ (b : Bool). made b flag.0) (sym s.literal_is) ∙ ap (λ (n : ℕ). made f.literal n) (sym flag.2))
