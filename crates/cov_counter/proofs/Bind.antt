-- What a sequence of readings did where it succeeded.
use Rattle.std.proofs.Common.{◌≡◌, Result, Ok, Err, refl, ap}
use Rattle.std.specs.Prelude.{Bool, true, false, if◌then◌else◌}
use Rattle.cov_bytes.specs.declared.cursor.CutFault.{CutFault}
use Rattle.cov_counter.specs.declared.fault.CounterFault.{CounterFault}
use Rattle.cov_bytes.specs.Many.{◌>>=◌}
use Rattle.cov_counter.specs.File.{Known, field}

-- what was read
abbrev pub value_or : {A E : Type 0} → A → Result A E → A
value_or d (Ok x) = x
value_or d (Err e) = d

pub same_ok : {A E : Type 0} (x y : A) → (let r : Result A E = Ok x in r ≡ Ok y) → x ≡ y
same_ok x y e = ap (value_or x) e

pub bind_ok : {A B E : Type 0} (r : Result A E) (f : A → Result B E) (y : B) → (r >>= f) ≡ Ok y → (x : A) × (r ≡ Ok x) × (f x ≡ Ok y)
bind_ok (Ok x) f y e = (x, refl, e)
bind_ok (Err d) f y e = absurd (cc)

pub field_ok : {A : Type 0} (file : Known) (r : Result A CutFault) (x : A) → field file r ≡ Ok x → r ≡ Ok x
field_ok file (Ok y) x e = ap Ok (same_ok y x e)
field_ok file (Err f) x e = absurd (cc)

pub field_bind : {A B : Type 0} (file : Known) (r : Result A CutFault) (f : A → Result B CounterFault) (y : B) → (field file r >>= f) ≡ Ok y → (x : A) × (r ≡ Ok x) × (f x ≡ Ok y)
field_bind file (Ok x) f y e = (x, refl, e)
field_bind file (Err d) f y e = absurd (cc)

-- a test that gave no fault
pub chosen : {A E : Type 0} (b : Bool) (f : E) (r : Result A E) (x : A) → (if b then r else Err f) ≡ Ok x → (b ≡ true) × (r ≡ Ok x)
chosen true f r x e = (refl, e)
chosen false f r x e = absurd (cc)

pub passed : {A E : Type 0} (b : Bool) (f : E) (r : Result A E) (x : A) → (if b then Err f else r) ≡ Ok x → (b ≡ false) × (r ≡ Ok x)
passed true f r x e = absurd (cc)
passed false f r x e = (refl, e)
