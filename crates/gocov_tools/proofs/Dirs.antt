-- Directories that are listed one after the other.
use Rattle.std.proofs.Common.{◌≡◌, ℕ, ◌+◌, ◌<◌, List, [], ◌∷◌, ◌++◌, length, take, map, get_or, Option, sym, ap, subst, ◌∙◌}
use Rattle.std.specs.Prelude.{IfSome}
use Rattle.std.proofs.lemmas.List.{map_more}
use Rattle.cov_outside.specs.Tree.{Tree}
use Rattle.cov_pods.specs.declared.pod.DirNames.{DirNames}
use Rattle.gocov_tools.specs.Listing.{dir_in}
use Rattle.gocov_tools.proofs.Known.{some_both}

pub one_more : (o now : Option Tree) (dirs : List (List ℕ)) (i : ℕ) (dir : List ℕ) (names later : List DirNames) (listed : DirNames) → now ≡ o → i < length dirs → dir ≡ get_or dirs i dir → later ≡ names ++ listed ∷ []
    → IfSome o (λ t. names ≡ map (dir_in t) (take i dirs)) → IfSome now (λ t. listed ≡ dir_in t dir) → IfSome o (λ t. later ≡ map (dir_in t) (take (i + 1) dirs))
one_more o now dirs i dir names later listed same lt is push so_far told = some_both _ _ _ o more so_far (subst (λ (x : Option Tree). IfSome x (λ t. listed ≡ dir_in t dir)) same told)
  where
    more : (t : Tree) → names ≡ map (dir_in t) (take i dirs) → listed ≡ dir_in t dir → later ≡ map (dir_in t) (take (i + 1) dirs)
    more t n l =
        push ∙ ap (λ (ns : List DirNames). ns ++ listed ∷ []) n ∙ ap (λ (d : DirNames). map (dir_in t) (take i dirs) ++ d ∷ []) (l ∙ ap (dir_in t) is) ∙ sym (map_more (dir_in t) dirs i dir lt)
