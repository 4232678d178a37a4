-- What the names of a package mean while its variables are being checked: the last binding of a name counts.
use Rattle.std.proofs.Common.{◌≡◌, ℕ, Bool, true, false, cond, List, [], ◌∷◌, ◌++◌, reverse, Some, refl, sym, ap, ◌∙◌, subst, inl, inr, ◌⊎◌}
use Rattle.std.specs.Prelude.{find as find', option_map, bytes_eq}
use Rattle.std.proofs.lemmas.List.{reverse-append}
use Rattle.std.proofs.lemmas.Slice.Eq.{bytes_eq-Decides}
use Rattle.go_ast.specs.declared.name.Name.{Name}
use Rattle.go_meaning.specs.Programs.{Parts}
use Rattle.go_types.specs.declared.names.Meaning.{Meaning}
use Rattle.go_types.specs.declared.names.Binding.{Binding}
use Rattle.go_types.specs.Names.{last_named}
use Rattle.go_types.specs.Scopes.{is_blank}
use Rattle.go_packages.specs.Outlines.{with_name}
use Rattle.go_bounds.specs.Known.{Perhaps, IsMeant, AreNamed}

bytes_same : (a b : List ℕ) → bytes_eq a b ≡ true → a ≡ b
bytes_same a b e = (bytes_eq-Decides a b).0 e

last_push : (name : List ℕ) (bs : List Binding) (b : Binding) → last_named name (bs ++ b ∷ []) ≡ cond (bytes_eq b.name name) (Some b.meaning) (last_named name bs)
last_push name bs b =
    ap (λ xs. option_map (λ (b : Binding). b.meaning) (find' (λ (b : Binding). bytes_eq b.name name) xs)) (reverse-append bs (b ∷ [])) ∙ by (bytes_eq b.name name)
  where
    by : (t : Bool) → option_map (λ (b : Binding). b.meaning) (cond t (Some b) (find' (λ (b : Binding). bytes_eq b.name name) (reverse bs))) ≡ cond t (Some b.meaning) (last_named name bs)
    by true = refl
    by false = refl

-- a name is one of some
abbrev pub In : List ℕ → List Name → Type 0
In name [] = ⊥
In name (n ∷ ns) = (bytes_eq n.text name ≡ true) ⊎ In name ns

pub in_left : (name : List ℕ) (ns ms : List Name) → In name ns → In name (ns ++ ms)
in_left name [] ms h = absurd h
in_left name (n ∷ ns) ms (inl e) = inl e
in_left name (n ∷ ns) ms (inr h) = inr (in_left name ns ms h)

pub in_right : (name : List ℕ) (ns ms : List Name) → In name ms → In name (ns ++ ms)
in_right name [] ms h = h
in_right name (n ∷ ns) ms h = inr (in_right name ns ms h)

-- whatever a name means is there, but for names of variables that aren't checked so far
abbrev pub Except : Parts → List Name → List Binding → Type 0
Except P ns bs = (name : List ℕ) → Perhaps (IsMeant P 0) (last_named name bs) ⊎ ((is_blank name ≡ false) × In name ns)

module _ (P : Parts) where
  pub except_none : (bs : List Binding) → Except P [] bs → AreNamed P 0 bs
  except_none bs h name = by (h name)
    where
      by : Perhaps (IsMeant P 0) (last_named name bs) ⊎ ((is_blank name ≡ false) × ⊥) → Perhaps (IsMeant P 0) (last_named name bs)
      by (inl k) = k
      by (inr k) = absurd k.1

  pub except_more : (ns ms : List Name) (bs : List Binding) → ((name : List ℕ) → In name ns → In name ms) → Except P ns bs → Except P ms bs
  except_more ns ms bs f h name = by (h name)
    where
      by : Perhaps (IsMeant P 0) (last_named name bs) ⊎ ((is_blank name ≡ false) × In name ns) → Perhaps (IsMeant P 0) (last_named name bs) ⊎ ((is_blank name ≡ false) × In name ms)
      by (inl k) = inl k
      by (inr k) = inr (k.0, f name k.1)

  -- a name that means what is there
  pub except_good : (ns : List Name) (n : Name) (m : Meaning) (bs : List Binding) → IsMeant P 0 m → Except P ns bs → Except P ns (with_name n m bs)
  except_good ns n m bs good h = by (is_blank n.text)
    where
      here : (name : List ℕ) (t : Bool) → Perhaps (IsMeant P 0) (cond t (Some m) (last_named name bs)) ⊎ ((is_blank name ≡ false) × In name ns)
      here name true = inl good
      here name false = h name

      by : (t : Bool) → Except P ns (cond t bs (bs ++ record { name = n.text; meaning = m } ∷ []))
      by true name = h name
      by false name = subst (λ o. Perhaps (IsMeant P 0) o ⊎ ((is_blank name ≡ false) × In name ns)) (sym (last_push name bs (record { name = n.text; meaning = m }))) (here name (bytes_eq n.text name))

  -- a name that isn't known so far
  pub except_open : (ns : List Name) (n : Name) (m : Meaning) (bs : List Binding) → In n.text ns → Except P ns bs → Except P ns (with_name n m bs)
  except_open ns n m bs is h = by (is_blank n.text) refl
    where
      here : is_blank n.text ≡ false → (name : List ℕ) (t : Bool) → bytes_eq n.text name ≡ t → Perhaps (IsMeant P 0) (cond t (Some m) (last_named name bs)) ⊎ ((is_blank name ≡ false) × In name ns)
      here e name true f = inr (subst (λ x. is_blank x ≡ false) (bytes_same n.text name f) e, subst (λ x. In x ns) (bytes_same n.text name f) is)
      here e name false f = h name

      by : (t : Bool) → is_blank n.text ≡ t → Except P ns (cond t bs (bs ++ record { name = n.text; meaning = m } ∷ []))
      by true e name = h name
      by false e name = subst (λ o. Perhaps (IsMeant P 0) o ⊎ ((is_blank name ≡ false) × In name ns)) (sym (last_push name bs (record { name = n.text; meaning = m }))) (here e name (bytes_eq n.text name) refl)

  -- a name that becomes known
  pub except_known : (ns : List Name) (n : Name) (m : Meaning) (bs : List Binding) → IsMeant P 0 m → Except P (n ∷ ns) bs → Except P ns (with_name n m bs)
  except_known ns n m bs good h = by (is_blank n.text) refl
    where
      blank : is_blank n.text ≡ true → (name : List ℕ) → Perhaps (IsMeant P 0) (last_named name bs) ⊎ ((is_blank name ≡ false) × In name (n ∷ ns)) → Perhaps (IsMeant P 0) (last_named name bs) ⊎ ((is_blank name ≡ false) × In name ns)
      blank e name (inl k) = inl k
      blank e name (inr (b, inl f)) = (let same : is_blank name ≡ true = subst (λ x. is_blank x ≡ true) (bytes_same n.text name f) e in cc)
      blank e name (inr (b, inr k)) = inr (b, k)

      other : (name : List ℕ) → bytes_eq n.text name ≡ false → Perhaps (IsMeant P 0) (last_named name bs) ⊎ ((is_blank name ≡ false) × In name (n ∷ ns)) → Perhaps (IsMeant P 0) (last_named name bs) ⊎ ((is_blank name ≡ false) × In name ns)
      other name e (inl k) = inl k
      other name e (inr (b, inl f)) = cc
      other name e (inr (b, inr k)) = inr (b, k)

      here : (name : List ℕ) (t : Bool) → bytes_eq n.text name ≡ t → Perhaps (IsMeant P 0) (cond t (Some m) (last_named name bs)) ⊎ ((is_blank name ≡ false) × In name ns)
      here name true f = inl good
      here name false f = other name f (h name)

      by : (t : Bool) → is_blank n.text ≡ t → Except P ns (cond t bs (bs ++ record { name = n.text; meaning = m } ∷ []))
      by true e name = blank e name (h name)
      by false e name = subst (λ o. Perhaps (IsMeant P 0) o ⊎ ((is_blank name ≡ false) × In name ns)) (sym (last_push name bs (record { name = n.text; meaning = m }))) (here name (bytes_eq n.text name) refl)
