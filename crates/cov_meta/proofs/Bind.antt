-- What a sequence of readings did where it succeeded.
use Rattle.std.proofs.Common.{◌≡◌, Result, Ok, Err, refl, ap}
use Rattle.std.specs.Prelude.{Bool, true, false, if◌then◌else◌}
use Rattle.cov_bytes.specs.declared.cursor.CutFault.{CutFault}
use Rattle.cov_bytes.specs.declared.text_limits.TableFault.{TableFault}
use Rattle.cov_bytes.specs.Many.{◌>>=◌}
use Rattle.cov_bytes.specs.Table.{cut}
use Rattle.cov_meta.specs.Fault.{field, table}

-- what was read
abbrev pub value_or : {A E : Type 0} → A → Result A E → A
value_or d (Ok x) = x
value_or d (Err e) = d

pub same_ok : {A E : Type 0} (x y : A) → (let r : Result A E = Ok x in r ≡ Ok y) → x ≡ y
same_ok x y e = ap (value_or x) e

pub bind_ok : {A B E : Type 0} (r : Result A E) (f : A → Result B E) (y : B) → (r >>= f) ≡ Ok y → (x : A) × (r ≡ Ok x) × (f x ≡ Ok y)
bind_ok (Ok x) f y e = (x, refl, e)
bind_ok (Err d) f y e = absurd (cc)

pub field_ok : {A : Type 0} (r : Result A CutFault) (x : A) → field r ≡ Ok x → r ≡ Ok x
field_ok (Ok y) x e = ap Ok (same_ok y x e)
field_ok (Err f) x e = absurd (cc)

pub cut_ok : {A : Type 0} (r : Result A CutFault) (x : A) → cut r ≡ Ok x → r ≡ Ok x
cut_ok (Ok y) x e = ap Ok (same_ok y x e)
cut_ok (Err f) x e = absurd (cc)

pub table_ok : {A : Type 0} (r : Result A TableFault) (x : A) → table r ≡ Ok x → r ≡ Ok x
table_ok (Ok y) x e = ap Ok (same_ok y x e)
table_ok (Err f) x e = absurd (cc)

-- a test that would have given a fault
pub passed : {A E : Type 0} (b : Bool) (f : E) (r : Result A E) (x : A) → (if b then Err f else r) ≡ Ok x → (b ≡ false) × (r ≡ Ok x)
passed true f r x e = absurd (cc)
passed false f r x e = (refl, e)

pub chosen : {A E : Type 0} (b : Bool) (f : E) (r : Result A E) (x : A) → (if b then r else Err f) ≡ Ok x → (b ≡ true) × (r ≡ Ok x)
chosen true f r x e = (refl, e)
chosen false f r x e = absurd (cc)
