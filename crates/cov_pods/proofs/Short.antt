-- Names that are too short.
use Rattle.std.proofs.Common.{◌≡◌, ℕ, ◌≤◌, Bool, true, false, cond, ◌&&◌, List, [], length, drop, take, Some, None, refl, sym, ap, ◌∙◌}
use Rattle.std.proofs.lemmas.List.{drop_all}
use Rattle.std.specs.Prelude.{nat_eq, codes}
use Rattle.std.specs.List.{starts_with}
use Rattle.cov_pods.specs.Names.{is_hash, is_stamp, stamped_hash}

fails : (a b : Bool) (hash : List ℕ) → None ≡ cond (a && (false && b)) (Some hash) None
fails true b hash = refl
fails false b hash = refl

-- nothing stands behind 32 bytes
nothing : (rest : List ℕ) → length rest ≤ 32 → drop 32 rest ≡ []
nothing rest h = drop_all 32 rest h

pub too_short : (rest : List ℕ) → length rest ≤ 32 → None ≡ stamped_hash rest
too_short rest h =
    fails (is_hash (take 32 rest)) (is_stamp (drop 33 rest)) (take 32 rest)
    ∙ ap (λ (t : List ℕ). cond (is_hash (take 32 rest) && (starts_with nat_eq t (codes ".") && is_stamp (drop 33 rest))) (Some (take 32 rest)) None) (sym (nothing rest h))
