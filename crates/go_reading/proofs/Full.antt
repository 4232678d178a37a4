-- Where no further clause of a select may come.
use Rattle.std.proofs.Common.{◌≡◌, ◌&&◌, ℕ, ◌≤◌, ◌<◌, Bool, true, false, List, [], ◌∷◌, Some, Result, Err, refl, sym, ap, ◌∙◌, arith, nat_le, if◌then◌else◌}
use Rattle.std.proofs.lemmas.Bool.{leb-true, leb-false}
use Rattle.go_grammar.specs.Words.{Word}
use Rattle.go_reading.specs.declared.fault.Fault.{Fault}
use Rattle.go_reading.specs.declared.fault.Fault.TheVariants.{TooMany}
use Rattle.go_reading.specs.Input.{Reader, ◌>>=◌, fail, peek, kind_of}
use Rattle.go_reading.specs.Stmts.{begins_clause}
use Rattle.go_reading.proofs.Good.{Room, ◌⊑◌, room, Form, At, Good, Filled, peeked, same_kind}

-- whether a clause may be the last, in a room and in more room
pub record Flags (K : Fault → Type 0) (full full' : Bool) : Type 0 where
  pub fewer : full ≡ false → full' ≡ false
  pub many : K TooMany → full ≡ full'

pub never_full : (K : Fault → Type 0) → Flags K false false
never_full K = record { fewer = λ e. refl; many = λ s. refl }

pub full_at : (K : Fault → Type 0) (m m' : ℕ) → m ≤ m' → (K TooMany → m ≡ m') → (k : ℕ) → Flags K (nat_le m k) (nat_le m' k)
full_at K m m' le many k = record { fewer = λ e. let a = leb-false m k e in let b : k < m' = omega arith in below (nat_le m' k) refl b; many = λ s. ap (λ (j : ℕ). nat_le j k) (many s) }
  where
    below : (b : Bool) → nat_le m' k ≡ b → k < m' → nat_le m' k ≡ false
    below true e lt = let a = leb-true m' k e in absurd (omega arith)
    below false e lt = e

-- at a clause that may not come the number is passed
pub good_full : {A : Type 0} (N : ℕ) (K : Fault → Type 0) (R : Form A) (d : Room) (full full' : Bool) → Flags K full full' → (p q : Reader A) (ts : List Word) → ((c : Room) → d ⊑ c → Filled c R)
    → (full ≡ true → (a : Word) → Some a.kind ≡ kind_of ts → begins_clause (Some a.kind) ≡ true → (b : Room) × (y : A) × (w : List Word) × (d ⊑ b) × R b y (a ∷ w))
    → ((full && begins_clause (kind_of ts)) ≡ false → Good N d K R p q ts)
    → Good N d K R (peek >>= λ kind. if full && begins_clause kind then fail TooMany else p) (peek >>= λ kind. if full' && begins_clause kind then fail TooMany else q) ts
good_full N K R d false false flags p q ts fill far a = a refl
good_full N K R d false true flags p q ts fill far a = absurd (let e = flags.fewer refl in cc)
good_full {A = A} N K R d true full' flags p q ts fill far a = by (begins_clause (kind_of ts)) refl
  where
    too_many : (ts : List Word) → begins_clause (kind_of ts) ≡ true → ((c : Room) → d ⊑ c → Filled c R) → ((a : Word) → Some a.kind ≡ kind_of ts → (b : Room) × (y : A) × (w : List Word) × (d ⊑ b) × R b y (a ∷ w))
        → At N d K R (peek >>= λ kind. if full' && begins_clause kind then fail TooMany else q) ts (Err TooMany) ts
    too_many [] e fill far = absurd cc
    too_many (a ∷ ts) e fill far =
        let m = fill d (room d) in
        let g = far a refl in
        record {
          front = [];
          cut = refl;
          same = λ s r k. let f : true ≡ full' = flags.many s in rw (sym f, same_kind r (a ∷ ts) k, e) refl;
          means = (m.1, m.0, m.2, (g.0, a, g.2, ts, g.1, g.3, refl, g.4));
          filled = fill;
          enough = λ lt x. cc;
        }

    others : (f : Bool) (ts : List Word) (v : Result A Fault) (rest : List Word) → begins_clause (kind_of ts) ≡ false → At N d K R q ts v rest → At N d K R (if f && begins_clause (kind_of ts) then fail TooMany else q) ts v rest
    others false ts v rest e x = x
    others true ts v rest e x = rw e x

    by : (c : Bool) → begins_clause (kind_of ts) ≡ c → At N d K R (peek >>= λ kind. if full' && begins_clause kind then fail TooMany else q) ts ((if c then fail TooMany else p) ts).0 ((if c then fail TooMany else p) ts).1
    by true e = too_many ts e fill (λ b eb. far refl b eb (ap begins_clause eb ∙ e))
    by false e = peeked N d K R (λ kind. if full' && begins_clause kind then fail TooMany else q) ts (p ts).1 (p ts).0 (others full' ts (p ts).0 (p ts).1 e (a e))
