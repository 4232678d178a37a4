-- Import paths, and the directories of packages.
use Rattle.std.specs.Prelude.{ℕ, Bool, false, ◌&&◌, ◌||◌, not, List, [], ◌∷◌, ◌++◌, length, take, drop, nat_eq, ◌==◌, codes}
use Rattle.std.specs.List.{list_all, slice_split}
use Rattle.std.specs.Cmp.Lexicographic.{pointwise}
use Rattle.std.specs.Str.{is_utf8}

abbrev pub same : List ℕ → List ℕ → Bool
same a b = pointwise nat_eq a b

-- one of the packages of the standard library, whatever the module is called
abbrev pub is_standard : List ℕ → Bool
is_standard path = same path (codes "fmt") || (same path (codes "os") || (same path (codes "strconv") || same path (codes "sync")))

-- not empty, `.` or `..`
abbrev pub is_element : List ℕ → Bool
is_element name = not (length name == 0) && (not (same name (codes ".")) && not (same name (codes "..")))

abbrev pub is_slash : ℕ → Bool
is_slash c = c == 47

-- elements with slashes between them
abbrev pub are_elements : List ℕ → Bool
are_elements rest = list_all is_element (slice_split is_slash rest)

-- a slash, and elements in UTF-8 with slashes between them
abbrev pub leads_below : List ℕ → Bool
leads_below [] = false
leads_below (c ∷ rest) = is_slash c && (is_utf8 rest && are_elements rest)

-- the module path, a slash and elements
abbrev pub is_below : List ℕ → List ℕ → Bool
is_below modules path = same (take (length modules) path) modules && leads_below (drop (length modules) path)

-- the path of a package of the module
abbrev pub is_own : List ℕ → List ℕ → Bool
is_own modules path = not (is_standard path) && (same path modules || is_below modules path)

-- an import that there may be
abbrev pub is_known : List ℕ → List ℕ → Bool
is_known modules path = is_standard path || is_own modules path

-- the directory of a package of the module: what follows the module path, behind the module's directory
abbrev pub dir_of : List ℕ → List ℕ → List ℕ → List ℕ
dir_of root modules path = root ++ drop (length modules) path
