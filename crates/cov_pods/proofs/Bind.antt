-- What a sequence of readings did where it succeeded.
use Rattle.std.proofs.Common.{◌≡◌, Result, Ok, Err, refl}
use Rattle.cov_bytes.specs.Many.{◌>>=◌}

pub same_ok : {A E : Type 0} (x y : A) → (let r : Result A E = Ok x in r ≡ Ok y) → x ≡ y
same_ok x y e = cc

pub bind_ok : {A B E : Type 0} (r : Result A E) (f : A → Result B E) (y : B) → (r >>= f) ≡ Ok y → (x : A) × (r ≡ Ok x) × (f x ≡ Ok y)
bind_ok (Ok x) f y e = (x, refl, e)
bind_ok (Err d) f y e = absurd (cc)
