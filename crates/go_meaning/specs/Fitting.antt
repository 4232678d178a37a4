-- What an act asks of its frame and of the configuration: its operands are there, and what it changes.
use Rattle.std.specs.Prelude.{◌+◌, ◌<◌, ◌≤◌, List, length}
use Rattle.go_meaning.specs.declared.value.Value.{Value}
use Rattle.go_meaning.specs.declared.item.Item.{Item}
use Rattle.go_meaning.specs.declared.act.Act.{Act}
use Rattle.go_meaning.specs.declared.act.Act.TheVariants as act
use Rattle.go_meaning.specs.declared.config.Config.{Config}
use Rattle.go_meaning.specs.Programs.{Parts}
use Rattle.go_meaning.specs.Operations.{output_limit}
use Rattle.go_meaning.specs.Acts.{Slots, act_of}

unfoldable pub IsFitting : Act → Config → List Value → Type 0
IsFitting (act.Replaces n items) c st = n ≤ length st
IsFitting (act.Pushes n v) c st = n ≤ length st
IsFitting (act.Assigns t ts) c st = length ts < length st
IsFitting (act.Advances o at r code next items) c st = 2 ≤ length st
IsFitting (act.Returns n) c st = n ≤ length st
IsFitting (act.Ends n e) c st = n ≤ length st
IsFitting (act.Prints n text) c st = (n ≤ length st) × (length c.output + length text ≤ output_limit)
IsFitting (act.Locks m b) c st = m < length c.mutexes
IsFitting (act.Sets n g k) c st = (n ≤ length st) × (g < length c.groups) × (k ≤ 2147483647)
IsFitting (act.Makes n v capacity) c st = n ≤ length st
IsFitting (act.Closes k) c st = (1 ≤ length st) × (k < length c.channels)
IsFitting a c st = Unit {0}

abbrev pub ActsFit : Type 0
ActsFit = (P : Parts) (c : Config) (it : Item) (slots : Slots) (st : List Value) → IsFitting (act_of P c it slots st) c st
