-- Packages in load order, or the least cycle.
use Rattle.go_load.specs.Graph.{Rows, IsLoadOrder, IsLeastCycle}
use Rattle.go_load.specs.declared.sorting.Arranged.{Arranged}
use Rattle.go_load.specs.declared.sorting.Arranged.TheVariants.{InOrder, Cyclic}

abbrev pub IsArranged : Rows → Arranged → Type 0
IsArranged graph (InOrder order) = IsLoadOrder graph order.items
IsArranged graph (Cyclic cycle) = IsLeastCycle graph cycle.items
