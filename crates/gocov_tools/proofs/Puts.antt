-- Files that are put one after the other.
use Rattle.std.proofs.Common.{◌≡◌, ℕ, ◌+◌, ◌<◌, ◌≤◌, List, [], ◌∷◌, ◌++◌, length, take, get_or, Option, Some, None, refl, sym, ap, subst, ◌∙◌, arith}
use Rattle.std.specs.Prelude.{IfSome, option_map, slice_get}
use Rattle.std.specs.FinMap as map
use Rattle.std.proofs.lemmas.List.{take_more, take_all}
use Rattle.std.proofs.lemmas.Option.{slice_get_read}
use Rattle.cov_outside.specs.Tree.{Tree, SameElsewhere}
use Rattle.gocov_tools.specs.Outcome.{Put, with_puts, PutsUpTo, PutFails}

-- ---- the tree after some puts

one_more : (t : Tree) (puts : List Put) (put : Put) → with_puts t (puts ++ put ∷ []) ≡ map.insert (with_puts t puts) put.0 put.1
one_more t [] put = refl
one_more t (p ∷ puts) put = one_more (map.insert t p.0 p.1) puts put

up_to : (t : Tree) (puts : List Put) (i : ℕ) (put : Put) → i < length puts → put ≡ get_or puts i put → with_puts t (take (i + 1) puts) ≡ map.insert (with_puts t (take i puts)) put.0 put.1
up_to t puts i put lt is = ap (with_puts t) (take_more puts i put lt ∙ ap (λ (p : Put). take i puts ++ p ∷ []) (sym is)) ∙ one_more t (take i puts) put

-- the tree that is told once the first puts stand
abbrev pub after : Option Tree → List Put → ℕ → Option Tree
after tree puts i = option_map (λ t. with_puts t (take i puts)) tree

pub none_yet : (tree : Option Tree) (puts : List Put) → tree ≡ after tree puts 0
none_yet None puts = refl
none_yet (Some t) puts = refl

pub next_put : (tree now later : Option Tree) (puts : List Put) (i : ℕ) (put : Put) → i < length puts → put ≡ get_or puts i put → now ≡ after tree puts i
    → later ≡ option_map (λ t. map.insert t put.0 put.1) now → later ≡ after tree puts (i + 1)
next_put None now later puts i put lt is n l = l ∙ ap (option_map (λ (t : Tree). map.insert t put.0 put.1)) n
next_put (Some t) now later puts i put lt is n l = l ∙ ap (option_map (λ (t : Tree). map.insert t put.0 put.1)) n ∙ ap (λ (m : Tree). Some m) (sym (up_to t puts i put lt is))

pub all_put : (tree now : Option Tree) (puts : List Put) (i : ℕ) → length puts ≤ i → now ≡ after tree puts i → now ≡ option_map (λ t. with_puts t puts) tree
all_put None now puts i le n = n
all_put (Some t) now puts i le n = n ∙ ap (λ (ps : List Put). Some (with_puts t ps)) (take_all i puts le)

-- ---- a put that failed

pub put_failed : (tree now later : Option Tree) (puts : List Put) (i : ℕ) (put : Put) → i < length puts → put ≡ get_or puts i put → now ≡ after tree puts i
    → SameElsewhere put.0 now later → IfSome tree (λ t. PutFails puts t later)
put_failed None now later puts i put lt is n s = tt
put_failed (Some t) now later puts i put lt is n s = (i, put, slice_get_read puts (length puts) i put refl lt is, subst (λ (o : Option Tree). SameElsewhere put.0 o later) n s)

pub put_stopped : (tree now later : Option Tree) (puts : List Put) (i : ℕ) → i < length puts → now ≡ after tree puts i → later ≡ now → IfSome tree (λ t. PutsUpTo puts t later)
put_stopped None now later puts i lt n s = tt
put_stopped (Some t) now later puts i lt n s = (i, omega arith, s ∙ n)

-- ---- nothing was put

pub none_failed : (tree later : Option Tree) (puts : List Put) → 0 < length puts → later ≡ tree → IfSome tree (λ t. PutFails puts t later)
none_failed None later puts lt s = tt
none_failed (Some t) later [] lt s = absurd (omega arith)
none_failed (Some t) later (p ∷ puts) lt s = (0, p, refl, subst (λ (o : Option Tree). SameElsewhere p.0 (Some t) o) (sym s) (λ q differs. refl))

pub none_stopped : (tree later : Option Tree) (puts : List Put) → later ≡ tree → IfSome tree (λ t. PutsUpTo puts t later)
none_stopped None later puts s = tt
none_stopped (Some t) later puts s = (0, omega arith, s)
