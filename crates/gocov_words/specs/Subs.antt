-- The commands of covdata.
use Rattle.std.specs.Prelude.{ℕ, Bool, true, false, List, [], ◌∷◌, codes}
use Rattle.gocov_words.specs.declared.sub.Sub.{Sub}
use Rattle.gocov_words.specs.declared.sub.Sub.TheVariants.{Textfmt, Percent, Func, Pkglist, Merge, Subtract, Intersect, Debugdump}

abbrev pub subs : List Sub
subs = Textfmt ∷ Percent ∷ Func ∷ Pkglist ∷ Merge ∷ Subtract ∷ Intersect ∷ Debugdump ∷ []

-- the word that names it
abbrev pub sub_name : Sub → List ℕ
sub_name Textfmt = codes "textfmt"
sub_name Percent = codes "percent"
sub_name Func = codes "func"
sub_name Pkglist = codes "pkglist"
sub_name Merge = codes "merge"
sub_name Subtract = codes "subtract"
sub_name Intersect = codes "intersect"
sub_name Debugdump = codes "debugdump"

-- it puts files, so it needs -o, which no other knows
abbrev pub puts : Sub → Bool
puts Textfmt = true
puts Percent = false
puts Func = false
puts Pkglist = false
puts Merge = true
puts Subtract = true
puts Intersect = true
puts Debugdump = false

-- it is a report on packages, so it knows -pkg
abbrev pub reports : Sub → Bool
reports Textfmt = true
reports Percent = true
reports Func = true
reports Pkglist = true
reports Merge = false
reports Subtract = false
reports Intersect = false
reports Debugdump = true

-- it takes exactly two directories
abbrev pub takes_two : Sub → Bool
takes_two Textfmt = false
takes_two Percent = false
takes_two Func = false
takes_two Pkglist = false
takes_two Merge = false
takes_two Subtract = true
takes_two Intersect = true
takes_two Debugdump = false
