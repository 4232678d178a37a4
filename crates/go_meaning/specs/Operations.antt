-- What an operation does: `Do` of the table of items. Go specification, "Operators", "Built-in functions".
use Rattle.std.specs.Prelude.{ℕ, zero, suc, ◌+◌, Bool, true, false, not, ℤ, pos, negsuc, ◌+ℤ◌, neg_ℤ, List, [], length, reverse, take, slice_get, nat_le, Option, Some, None, Result, Ok, Err, codes, if◌then◌else◌}
use Rattle.std.specs.Fmt.{signed_decimal}
use Rattle.go_value.specs.declared.int.Int.{Int}
use Rattle.go_value.specs.declared.kind.Kind.TheVariants.{I64, U8}
use Rattle.go_value.specs.declared.fault.ValueFault.{ValueFault}
use Rattle.go_value.specs.declared.fault.ValueFault.TheVariants.{DivideByZero, NegativeShift}
use Rattle.go_value.specs.declared.fault.TextFault.{TextFault}
use Rattle.go_value.specs.declared.fault.TextFault.TheVariants as faults
use Rattle.go_value.specs.declared.fault.OutOfRange.{OutOfRange}
use Rattle.go_value.specs.Integers.{value_of, wrap}
use Rattle.go_value.specs.Bits.{complement}
use Rattle.go_value.specs.Operations.{int_result}
use Rattle.go_value.specs.Texts.{byte_at, cut, joined}
use Rattle.go_meaning.specs.declared.value.Value.{Value}
use Rattle.go_meaning.specs.declared.value.Value.TheVariants as value
use Rattle.go_meaning.specs.declared.value.Channel.{Channel}
use Rattle.go_meaning.specs.declared.expr.Op.{Op}
use Rattle.go_meaning.specs.declared.expr.Op.TheVariants as op
use Rattle.go_meaning.specs.declared.event.End.TheVariants as ends
use Rattle.go_meaning.specs.declared.act.Act.{Act}
use Rattle.go_meaning.specs.declared.act.Act.TheVariants.{Stuck, Waits, Replaces, Pushes, Panics, Stops, Ends, Prints, Locks, Sets, Makes, Closes}
use Rattle.go_meaning.specs.declared.config.Config.{Config}
use Rattle.go_meaning.specs.Values.{compare, shown, line_of, spelled}

-- ---- operands by their kinds; a missing one, or one of another kind, is met in no checked program

unfoldable pub on_value : Option Value → (Value → Act) → Act
on_value None f = Stuck
on_value (Some v) f = f v

unfoldable pub on_flag : Option Value → (Bool → Act) → Act
on_flag (Some (value.Flag b)) f = f b
on_flag o f = Stuck

unfoldable pub on_number : Option Value → (Int → Act) → Act
on_number (Some (value.Number i)) f = f i
on_number o f = Stuck

unfoldable pub on_text : Option Value → (List ℕ → Act) → Act
on_text (Some (value.Text s)) f = f s
on_text o f = Stuck

unfoldable pub on_channel : Option Value → (Option ℕ → Act) → Act
on_channel (Some (value.Channel o)) f = f o
on_channel o f = Stuck

-- the operand that lies under so many others
abbrev pub top : ℕ → List Value → Option Value
top n st = slice_get st n

-- ---- integers, texts and flags

abbrev pub number : ℤ → Value
number z = value.Number (wrap I64 z)

abbrev pub byte : ℕ → Value
byte b = value.Number (wrap U8 (pos b))

unfoldable pub calculated : Result Int ValueFault → Act
calculated (Ok i) = Pushes 2 (value.Number i)
calculated (Err DivideByZero) = Panics (codes "runtime error: integer divide by zero")
calculated (Err NegativeShift) = Panics (codes "runtime error: negative shift amount")

unfoldable pub compared : Option Bool → Act
compared None = Stuck
compared (Some b) = Pushes 2 (value.Flag b)

unfoldable pub indexed : Result ℕ OutOfRange → Act
indexed (Ok b) = Pushes 2 (byte b)
indexed (Err e) = Panics (codes "runtime error: index out of range")

-- a text that takes the place of so many values
unfoldable pub a_text : ℕ → Result (List ℕ) TextFault → Act
a_text pops (Ok s) = Pushes pops (value.Text s)
a_text pops (Err faults.OutOfRange) = Panics (codes "runtime error: slice bounds out of range")
a_text pops (Err faults.StringLimit) = Stops ends.StringLimit
a_text pops (Err faults.NoMemory) = Stuck

-- a bound that is left out is 0 or the length
unfoldable pub cut_text : Bool → Bool → List Value → Act
cut_text true true st = on_number (top 0 st) (λ j. on_number (top 1 st) (λ i. on_text (top 2 st) (λ s. a_text 3 (cut s (value_of i) (value_of j)))))
cut_text true false st = on_number (top 0 st) (λ i. on_text (top 1 st) (λ s. a_text 2 (cut s (value_of i) (pos (length s)))))
cut_text false true st = on_number (top 0 st) (λ j. on_text (top 1 st) (λ s. a_text 2 (cut s (pos 0) (value_of j))))
cut_text false false st = on_text (top 0 st) (λ s. a_text 1 (cut s (pos 0) (pos (length s))))

-- ---- channels

abbrev pub channel_at : Config → Option ℕ → Option Channel
channel_at c None = None
channel_at c (Some k) = slice_get c.channels k

-- a number of the channel, or 0 of `nil`
abbrev pub of_channel : Config → Option ℕ → (Channel → ℕ) → ℕ
of_channel c o f = elim (channel_at c o) as (λ _. ℕ) [ None ↦ 0 | Some ch ↦ f ch ]

unfoldable pub measured : Config → Value → Act
measured c (value.Text s) = Pushes 1 (number (pos (length s)))
measured c (value.Channel o) = Pushes 1 (number (pos (of_channel c o (λ ch. length ch.values))))
measured c v = Stuck

unfoldable pub made : Value → ℤ → Act
made v (pos n) = Makes 1 v n
made v (negsuc n) = Panics (codes "makechan: size out of range")

unfoldable pub closed_by : ℕ → Option Channel → Act
closed_by k None = Stuck
closed_by k (Some ch) = if ch.closed then Panics (codes "close of closed channel") else Closes k

unfoldable pub closed : Config → Option ℕ → Act
closed c None = Panics (codes "close of nil channel")
closed c (Some k) = closed_by k (slice_get c.channels k)

-- ---- output

abbrev pub output_limit : ℕ
output_limit = 16777216

unfoldable pub written : Config → ℕ → List ℕ → Act
written c pops text = if nat_le (length c.output + length text) output_limit then Prints pops text else Stops ends.OutputLimit

unfoldable pub printed : Config → ℕ → List Value → Act
printed c n st = if nat_le n (length st) then written c n (line_of (reverse (take n st))) else Stuck

-- ---- mutexes and wait groups

unfoldable pub locked : ℕ → Option Bool → Act
locked m None = Stuck
locked m (Some true) = Waits
locked m (Some false) = Locks m true

unfoldable pub unlocked : ℕ → Option Bool → Act
unlocked m None = Stuck
unlocked m (Some true) = Locks m false
unlocked m (Some false) = Ends 0 (ends.Fatal (codes "sync: unlock of unlocked mutex"))

unfoldable pub set_number : ℕ → ℕ → ℤ → Act
set_number pops g (pos n) = if nat_le n 2147483647 then Sets pops g n else Panics (codes "sync: negative WaitGroup counter")
set_number pops g (negsuc n) = Panics (codes "sync: negative WaitGroup counter")

-- the number of a wait group goes up by z
unfoldable pub added : ℕ → ℕ → Option ℕ → ℤ → Act
added pops g None z = Stuck
added pops g (Some n) z = set_number pops g (pos n +ℤ z)

unfoldable pub waited : Option ℕ → Act
waited None = Stuck
waited (Some zero) = Replaces 0 []
waited (Some (suc n)) = Waits

-- ---- each operation, where its operands lie on top, the last of them first

unfoldable pub apply : Config → Op → List Value → Act
apply c (op.Arithmetic o) st = on_number (top 0 st) (λ b. on_number (top 1 st) (λ a. calculated (int_result o a b)))
apply c op.Join st = on_text (top 0 st) (λ b. on_text (top 1 st) (λ a. a_text 2 (joined a b)))
apply c (op.Compare r) st = on_value (top 0 st) (λ b. on_value (top 1 st) (λ a. compared (compare r a b)))
apply c op.Not st = on_flag (top 0 st) (λ b. Pushes 1 (value.Flag (not b)))
apply c op.Plus st = on_number (top 0 st) (λ a. Pushes 1 (value.Number a))
apply c op.Minus st = on_number (top 0 st) (λ a. Pushes 1 (value.Number (wrap a.kind (neg_ℤ (value_of a)))))
apply c op.Flip st = on_number (top 0 st) (λ a. Pushes 1 (value.Number (wrap a.kind (complement (value_of a)))))
apply c (op.Convert kind) st = on_number (top 0 st) (λ a. Pushes 1 (value.Number (wrap kind (value_of a))))
apply c op.Spell st = on_number (top 0 st) (λ a. Pushes 1 (value.Text (spelled (value_of a))))
apply c op.Keep st = on_value (top 0 st) (λ v. Pushes 1 v)
apply c op.Index st = on_number (top 0 st) (λ i. on_text (top 1 st) (λ s. indexed (byte_at s (value_of i))))
apply c (op.Cut low high) st = cut_text low high st
apply c op.Len st = on_value (top 0 st) (measured c)
apply c op.Cap st = on_channel (top 0 st) (λ o. Pushes 1 (number (pos (of_channel c o (λ ch. ch.capacity)))))
apply c (op.Make v true) st = on_number (top 0 st) (λ n. made v (value_of n))
apply c (op.Make v false) st = Makes 0 v 0
apply c op.Close st = on_channel (top 0 st) (closed c)
apply c (op.Println n) st = printed c n st
apply c op.Panic st = on_value (top 0 st) (λ v. Panics (shown v))
apply c op.Exit st = on_number (top 0 st) (λ n. Ends 1 (ends.Exit (value_of n)))
apply c op.Itoa st = on_number (top 0 st) (λ n. Pushes 1 (value.Text (signed_decimal (value_of n))))
apply c (op.Lock m) st = locked m (slice_get c.mutexes m)
apply c (op.Unlock m) st = unlocked m (slice_get c.mutexes m)
apply c (op.Add g) st = on_number (top 0 st) (λ n. added 1 g (slice_get c.groups g) (value_of n))
apply c (op.Done g) st = added 0 g (slice_get c.groups g) (negsuc 0)
apply c (op.Wait g) st = waited (slice_get c.groups g)
