-- A `go.mod` with one more line.
use Rattle.std.proofs.Common.{◌≡◌, ℕ, ◌+◌, Bool, true, false, cond, ◌&&◌, ◌||◌, List, ◌∷◌, ◌++◌, length, Option, Some, None, refl, ap, ◌∙◌, arith}
use Rattle.std.specs.Prelude.{is_some, nat_le}
use Rattle.std.specs.List.{list_all, filter_map, cons_option}
use Rattle.std.specs.Option.{option_to_list, option_or}
use Rattle.go_load.specs.GoMod.{is_good, go_word, module_word, the_only}
use Rattle.go_load.specs.GoModLines.{path_behind}

one_module : {A : Type 0} (given word : Option A) (mods : List A) → (is_some word && is_some given) ≡ false → the_only (option_to_list given ++ cons_option word mods) ≡ the_only (option_to_list (option_or word given) ++ mods)
one_module None None mods apart = refl
one_module None (Some w) mods apart = refl
one_module (Some g) None mods apart = refl
one_module (Some g) (Some w) mods apart = cc

one_version : {A : Type 0} (version : Bool) (g : Option A) (gos : List A) → (is_some g && version) ≡ false → cond version 1 0 + length (cons_option g gos) ≡ cond (is_some g || version) 1 0 + length gos
one_version version None gos apart = refl
one_version false (Some x) gos apart = omega arith
one_version true (Some x) gos apart = cc

pub next_line : (given word : Option (List ℕ)) (version g : Bool) (line : List ℕ) → module_word line ≡ word → is_some (go_word line) ≡ g → is_good line ≡ true → (is_some word && is_some given) ≡ false → (g && version) ≡ false → (more : List (List ℕ))
    → path_behind given version (line ∷ more) ≡ path_behind (option_or word given) (g || version) more
next_line given word version g line is_word is_go good apart once more =
    let mods = filter_map module_word more in
    let gos = filter_map go_word more in
    let all : Bool = list_all is_good more in
    let modules : the_only (option_to_list given ++ cons_option (module_word line) mods) ≡ the_only (option_to_list (option_or word given) ++ mods) =
    ap (λ (w : Option (List ℕ)). the_only (option_to_list given ++ cons_option w mods)) is_word ∙ one_module given word mods apart in
    let versions : cond version 1 0 + length (cons_option (go_word line) gos) ≡ cond (g || version) 1 0 + length gos =
    one_version version (go_word line) gos (ap (λ (b : Bool). b && version) is_go ∙ once) ∙ ap (λ (b : Bool). cond (b || version) 1 0 + length gos) is_go in
    ap (λ (b : Bool). cond ((b && all) && nat_le (cond version 1 0 + length (cons_option (go_word line) gos)) 1) (the_only (option_to_list given ++ cons_option (module_word line) mods)) None) good
    ∙ ap (λ (n : ℕ). cond (all && nat_le n 1) (the_only (option_to_list given ++ cons_option (module_word line) mods)) None) versions
    ∙ ap (λ (o : Option (List ℕ)). cond (all && nat_le (cond (g || version) 1 0 + length gos) 1) o None) modules
