-- Kinds of operations and items.
use Rattle.go_meaning.specs.declared.expr.Op.{Op}
use Rattle.go_meaning.specs.declared.expr.Op.TheVariants as op
use Rattle.go_meaning.specs.declared.item.Item.{Item}
use Rattle.go_meaning.specs.declared.item.Item.TheVariants as item

-- the operations that change more than a frame's stack, or end its work
abbrev pub IsEffect : Op → Type 0
IsEffect (op.Arithmetic o) = ⊥
IsEffect op.Join = ⊥
IsEffect (op.Compare r) = ⊥
IsEffect op.Not = ⊥
IsEffect op.Plus = ⊥
IsEffect op.Minus = ⊥
IsEffect op.Flip = ⊥
IsEffect (op.Convert kind) = ⊥
IsEffect op.Spell = ⊥
IsEffect op.Keep = ⊥
IsEffect op.Index = ⊥
IsEffect (op.Cut low high) = ⊥
IsEffect op.Len = ⊥
IsEffect op.Cap = ⊥
IsEffect op.Itoa = ⊥
IsEffect o = Unit {0}

-- the items that look at no statement of a program
abbrev pub IsPlain : Item → Type 0
IsPlain (item.Run n i) = ⊥
IsPlain (item.Loop n i) = ⊥
IsPlain (item.Test n i) = ⊥
IsPlain (item.Next n i) = ⊥
IsPlain (item.Each n i) = ⊥
IsPlain (item.Match n i k) = ⊥
IsPlain (item.Compare n i k) = ⊥
IsPlain (item.Pull n i) = ⊥
IsPlain (item.Pick n i) = ⊥
IsPlain it = Unit {0}
