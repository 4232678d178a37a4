-- Reading a whole file and its spelling.
use Rattle.std.proofs.Common.{◌≡◌, ℕ, ◌≤◌, List, length, Some, Ok, refl, sym, ap, ◌∙◌, subst}
use Rattle.std.specs.Prelude.{false}
use Rattle.std.proofs.lemmas.Bool.{ltb-false, le-ltb}
use Rattle.std.proofs.lemmas.List.{take_all}
use Rattle.cov_bytes.specs.Laws.{NumbersAreRead, NumbersAreSpelled}
use Rattle.cov_bytes.specs.Many.{◌>>=◌, many}
use Rattle.cov_counter.specs.declared.head.Head.{Head}
use Rattle.cov_counter.specs.declared.entry.Entry.{Entry}
use Rattle.cov_counter.specs.File.{known}
use Rattle.cov_counter.specs.Head.{head_at}
use Rattle.cov_counter.specs.Entry.{entry_at}
use Rattle.cov_counter.specs.Rest.{behind_rest}
use Rattle.cov_counter.specs.Reader.{start_of, entry_of, end_of, turn_of, whole_of}
use Rattle.cov_counter.specs.Spelling.{InTurn, IsHead, IsEntryAt, IsRest, Spells}
use Rattle.cov_counter.proofs.Bind.{bind_ok, same_ok}
use Rattle.cov_counter.proofs.SpelledHead.{head_spells, head_reads}
use Rattle.cov_counter.proofs.SpelledEntry.{entry_spells, entry_reads}
use Rattle.cov_counter.proofs.SpelledRest.{rest_spells, rest_reads}
use Rattle.cov_counter.proofs.Turns.{many_spells, many_reads}

-- a file that has no more bytes than may be read
whole_small : (bytes : List ℕ) → (known bytes).more ≡ false → (length bytes ≤ 268435456) × ((known bytes).bytes ≡ bytes)
unfolding known
whole_small bytes e = let le = ltb-false 268435456 (length bytes) e in (le, take_all 268435456 bytes le)

known_small : (bytes : List ℕ) → length bytes ≤ 268435456 → ((known bytes).more ≡ false) × ((known bytes).bytes ≡ bytes)
unfolding known
known_small bytes le = (le-ltb 268435456 (length bytes) le, take_all 268435456 bytes le)

turn_spells : NumbersAreSpelled → (head : Head) (bytes : List ℕ) (at : ℕ) (x : (ℕ × Entry) × ℕ) → turn_of head (Some bytes) at ≡ Ok x → IsEntryAt head (known bytes).bytes at x.0 x.1
unfolding turn_of entry_of
turn_spells law head bytes at x e =
    let entry = bind_ok (entry_at head (known bytes) at) _ x e in
    let found : (ℕ × Entry) × ℕ = ((at, entry.0.0), entry.0.1) in
    subst (λ (y : (ℕ × Entry) × ℕ). IsEntryAt head (known bytes).bytes at y.0 y.1) (same_ok found x entry.2) (refl, entry_spells law head (known bytes) at entry.0 entry.1)

turn_reads : NumbersAreRead → (head : Head) (bytes : List ℕ) (at : ℕ) (x : ℕ × Entry) (next : ℕ) → IsEntryAt head (known bytes).bytes at x next → turn_of head (Some bytes) at ≡ Ok (x, next)
unfolding turn_of entry_of
turn_reads law head bytes at x next is =
    let here : (ℕ × Entry) = (at, x.1) in
    rw (entry_reads law head (known bytes) at x.1 next is.1) (ap (λ (o : ℕ). Ok ((o, x.1), next)) (sym is.0))

-- what is read is spelled
pub read_is_spelled : NumbersAreSpelled → (bytes : List ℕ) (head : Head) (entries : List (ℕ × Entry)) → whole_of (Some bytes) ≡ Ok (head, entries) → Spells bytes head entries
unfolding whole_of start_of end_of
read_is_spelled law bytes head entries e =
    let first = bind_ok (head_at (known bytes) 0) _ (head, entries) e in
    let turns = bind_ok (many (turn_of first.0.0 (Some bytes)) first.0.0.entries first.0.1) _ (head, entries) first.2 in
    let end = bind_ok (behind_rest (known bytes) turns.0.1 >>= λ (n : ℕ). Ok tt) _ (head, entries) turns.2 in
    let last = bind_ok (behind_rest (known bytes) turns.0.1) _ tt end.1 in
    let found : Head × List (ℕ × Entry) = (first.0.0, turns.0.0) in
    let one = head_spells law (known bytes) first.0 first.1 in
    let two = many_spells (turn_of first.0.0 (Some bytes)) (IsEntryAt first.0.0 (known bytes).bytes) (turn_spells law first.0.0 bytes) first.0.0.entries first.0.1 turns.0 turns.1 in
    let three = rest_spells (known bytes) turns.0.1 last.0 last.1 in
    let whole = whole_small bytes three.0 in
    subst (λ (y : Head × List (ℕ × Entry)). Spells bytes y.0 y.1) (same_ok found (head, entries) end.2)
    (record {
      first = first.0.1;
      behind = turns.0.1;
      small = whole.0;
      head_is = subst (λ (bs : List ℕ). IsHead bs first.0.0 first.0.1) whole.1 one;
      count_is = two.0;
      entries_are = subst (λ (bs : List ℕ). InTurn (IsEntryAt first.0.0 bs) first.0.1 turns.0.0 turns.0.1) whole.1 two.1;
      rest_is = subst (λ (bs : List ℕ). IsRest bs turns.0.1) whole.1 three.1;
    })

-- what is spelled is read
pub spelled_is_read : NumbersAreRead → (bytes : List ℕ) (head : Head) (entries : List (ℕ × Entry)) → Spells bytes head entries → whole_of (Some bytes) ≡ Ok (head, entries)
unfolding whole_of start_of end_of
spelled_is_read law bytes head entries s =
    let small = known_small bytes s.small in
    let one = head_reads law (known bytes) head s.first (subst (λ (bs : List ℕ). IsHead bs head s.first) (sym small.1) s.head_is) in
    let two = many_reads (turn_of head (Some bytes)) (IsEntryAt head (known bytes).bytes) (turn_reads law head bytes) s.first entries s.behind (subst (λ (bs : List ℕ). InTurn (IsEntryAt head bs) s.first entries s.behind) (sym small.1) s.entries_are) in
    let counted : many (turn_of head (Some bytes)) head.entries s.first ≡ Ok (entries, s.behind) = subst (λ (n : ℕ). many (turn_of head (Some bytes)) n s.first ≡ Ok (entries, s.behind)) s.count_is two in
    let three = rest_reads (known bytes) s.behind small.0 (subst (λ (bs : List ℕ). IsRest bs s.behind) (sym small.1) s.rest_is) in
    rw (one, counted, three.1) refl

-- no bytes spell two values
pub one_value : NumbersAreRead → (bytes : List ℕ) (head other : Head) (entries others : List (ℕ × Entry)) → Spells bytes head entries → Spells bytes other others → (head ≡ other) × (entries ≡ others)
one_value law bytes head other entries others s t =
    let this : Head × List (ℕ × Entry) = (head, entries) in
    let that : Head × List (ℕ × Entry) = (other, others) in
    let same : this ≡ that = same_ok this that (sym (spelled_is_read law bytes head entries s) ∙ spelled_is_read law bytes other others t) in
    (ap (λ (p : Head × List (ℕ × Entry)). p.0) same, ap (λ (p : Head × List (ℕ × Entry)). p.1) same)
