-- Whether a name is exported, by its first character.
use Rattle.std.proofs.Common.{◌≡◌, ℕ, List, ◌∷◌, ◌++◌, Bool, true, false, refl, ap, ◌∙◌}
use Rattle.std.specs.Prelude.{encode_utf8, ◌&&◌}
use Rattle.std.specs.Str.{IsUtf8, is_utf8, chars}
use Rattle.std.proofs.lemmas.Str.{IsUtf8-from_is_utf8, is_utf8-from_IsUtf8, chars_past_char}
use Rattle.unicode.specs.GeneralCategory.{general_category}
use Rattle.go_types.specs.Names.{is_upper, begins_upper, is_exported}

pub exported_first : (name rest : List ℕ) (c : ℕ) → IsUtf8 name → name ≡ encode_utf8 c ++ rest → is_exported name ≡ is_upper (general_category c)
unfolding is_exported
exported_first name rest c text split =
    ap (λ b. b && begins_upper (chars name)) (is_utf8-from_IsUtf8 name text) ∙ ap begins_upper (chars_past_char name rest c text split)

by_test : (b : Bool) (c : Bool) → (b ≡ true → ⊥) → (b && c) ≡ false
by_test true c h = absurd (h refl)
by_test false c h = refl

pub exported_text : (name : List ℕ) → (IsUtf8 name → ⊥) → is_exported name ≡ false
unfolding is_exported
exported_text name none = by_test (is_utf8 name) (begins_upper (chars name)) (λ e. none (IsUtf8-from_is_utf8 name e))
