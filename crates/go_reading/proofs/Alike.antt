-- Readers that are written in another form.
use Rattle.std.proofs.Common.{◌≡◌, ℕ, Bool, true, false, cond, List, ◌∷◌, ◌++◌, Result, Ok, Err, refl, sym, ap, subst, ◌∙◌}
use Rattle.go_grammar.specs.Words.{Word}
use Rattle.go_reading.specs.declared.fault.Fault.{Fault}
use Rattle.go_reading.specs.declared.fault.Fault.TheVariants.{Unexpected, TooDeep, TooMany, Exhausted}
use Rattle.go_reading.specs.Input.{Outcome, Reader, go_on, ◌>>=◌, pure, fail}
use Rattle.go_reading.proofs.Good.{Room, ◌⊑◌, Form, At, Good, Passed, Filled, good_exhausted, err_is}

pub bind_assoc : {A B C : Type 0} (v : Result A Fault) (rest : List Word) (f' : A → Reader B) (g : B → Reader C) → go_on (go_on v rest f').0 (go_on v rest f').1 g ≡ go_on v rest (λ x. f' x >>= g)
bind_assoc (Ok x) rest f' g = refl
bind_assoc (Err e) rest f' g = refl

pub if_bind : {A B : Type 0} (b : Bool) (p q : Reader A) (g : A → Reader B) (ts : List Word) → ((cond b p q) >>= g) ts ≡ (cond b (p >>= g) (q >>= g)) ts
if_bind true p q g ts = refl
if_bind false p q g ts = refl

pub limited_bind : {A B : Type 0} (b : Bool) (p : Reader A) (g : A → Reader B) (ts : List Word) → ((cond b (fail TooDeep) p) >>= g) ts ≡ (cond b (fail TooDeep) (p >>= g)) ts
limited_bind true p g ts = refl
limited_bind false p g ts = refl

pub at_eq : {A : Type 0} (N : ℕ) (d : Room) (K : Fault → Type 0) (R : Form A) (q q' : Reader A) (ts : List Word) (v : Result A Fault) (rest : List Word) → ((r : List Word) → q' r ≡ q r) → At N d K R q ts v rest → At N d K R q' ts v rest
at_eq N d K R q q' ts v rest e a = record { front = a.front; cut = a.cut; same = λ s r k. e (a.front ++ r) ∙ a.same s r k; means = a.means; filled = a.filled; enough = a.enough }

pub good_eq : {A : Type 0} (N : ℕ) (d : Room) (K : Fault → Type 0) (R : Form A) (p p' q q' : Reader A) (ts : List Word) → p' ts ≡ p ts → ((r : List Word) → q' r ≡ q r) → Good N d K R p q ts → Good N d K R p' q' ts
good_eq {A} N d K R p p' q q' ts e f' a =
    let P : Outcome A → Type 0 = λ o. At N d K R q' ts o.0 o.1 in
    subst P (sym e) (at_eq N d K R q q' ts (p ts).0 (p ts).1 f' a)

-- a reader without turns
pub good_out_of_turns : {A : Type 0} (d : Room) (K : Fault → Type 0) (R : Form A) (p q : Reader A) (ts : List Word) → (K Exhausted → ⊥) → ((b : Room) → d ⊑ b → Filled b R) → p ts ≡ (Err Exhausted, ts) → Good 0 d K R p q ts
good_out_of_turns {A} d K R p q ts never fill e =
    let P : Outcome A → Type 0 = λ o. At 0 d K R q ts o.0 o.1 in
    subst P (sym e) (good_exhausted d K R q ts never fill)

pub go_on_eq : {A B : Type 0} (v : Result A Fault) (rest : List Word) (f' g : A → Reader B) → ((x : A) (r : List Word) → f' x r ≡ g x r) → go_on v rest f' ≡ go_on v rest g
go_on_eq (Ok x) rest f' g e = e x rest
go_on_eq (Err y) rest f' g e = refl

passed_map : {A B : Type 0} (g : A → B) (R : Form A) (S : Form B) (d : Room) → ((b : Room) (x : A) (w : List Word) → R b x w → S b (g x) w) → (f : Fault) (front rest : List Word) → Passed f d R front rest → Passed f d S front rest
passed_map g R S d h Unexpected front rest p = tt
passed_map g R S d h TooDeep front rest p = (p.0, p.1, p.2, p.3, g p.4, p.5, p.6, h (p.0, d.1) p.4 (front ++ p.1 ∷ p.2) p.7)
passed_map g R S d h TooMany front rest p = (p.0, p.1, p.2, p.3, g p.4, p.5, p.6, h p.0 p.4 (front ++ p.1 ∷ p.2) p.7)
passed_map g R S d h Exhausted front rest p = tt

-- a value that is made of another
pub good_map : {A B : Type 0} (N : ℕ) (d : Room) (K : Fault → Type 0) (R : Form A) (S : Form B) (g : A → B) (q : Reader A) (ts : List Word) (v : Result A Fault) (rest : List Word)
    → ((b : Room) (x : A) (w : List Word) → R b x w → S b (g x) w) → At N d K R q ts v rest → At N d K S (q >>= λ x. pure (g x)) ts (go_on v rest (λ x. pure (g x))).0 (go_on v rest (λ x. pure (g x))).1
good_map N d K R S g q ts (Ok x) rest h a = record {
  front = a.front;
  cut = a.cut;
  same = λ st r e. rw (a.same tt r e) refl;
  means = h d x a.front a.means;
  filled = λ b le. let f = a.filled b le in (g f.0, f.1, h b f.0 f.1 f.2);
  enough = λ lt x. cc;
}
good_map N d K R S g q ts (Err f) rest h a = record {
  front = a.front;
  cut = a.cut;
  same = λ st r e. rw (a.same st r e) refl;
  means = (a.means.0, g a.means.1, h d a.means.1 (a.front ++ a.means.0) a.means.2, passed_map g R S d h f a.front rest a.means.3);
  filled = λ b le. let f = a.filled b le in (g f.0, f.1, h b f.0 f.1 f.2);
  enough = λ lt x. a.enough lt (ap Err (err_is f Exhausted x));
}
