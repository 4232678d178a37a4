-- What each reader of a rule keeps: what it took, how it goes on on other texts, and what its outcome means.
use Rattle.std.proofs.Common.{◌≡◌, ◌≢◌, ℕ, zero, suc, ◌+◌, ◌≤◌, ◌<◌, Bool, true, false, cond, List, [], ◌∷◌, ◌++◌, Option, Some, None, Result, Ok, Err, refl, sym, ap, subst, ◌∙◌, append_assoc, arith, length, nat_lt, if◌then◌else◌}
use Rattle.std.proofs.lemmas.List.{length-append}
use Rattle.std.proofs.lemmas.Bool.{ltb-false, le-ltb, eqb-true, eq-eqb}
use Rattle.go_ast.specs.declared.token.TokenKind.{TokenKind}
use Rattle.go_ast.specs.declared.token.TokenKind.TheVariants as kind
use Rattle.go_grammar.specs.Words.{Word}
use Rattle.go_reading.specs.declared.fault.Fault.{Fault}
use Rattle.go_reading.specs.declared.fault.Fault.TheVariants.{Unexpected, TooDeep, TooMany, Exhausted}
use Rattle.go_reading.specs.Kinds.{same, is}
use Rattle.go_reading.specs.Input.{Outcome, Reader, go_on, ◌>>=◌, pure, fail, refuse, peek, take_as, expect_as, kind_of, head, next, if_kind, limited}

-- ---- rooms: how many levels there may be, and how many clauses of a select

abbrev pub Room : Type 0
Room = ℕ × ℕ

infix 5 ◌⊑◌
abbrev pub ◌⊑◌ : Room → Room → Type 0
d ⊑ b = (d.0 ≤ b.0) × (d.1 ≤ b.1)

pub room : (d : Room) → d ⊑ d
room d = (omega arith, omega arith)

pub room_in : (a b c : Room) → a ⊑ b → b ⊑ c → a ⊑ c
room_in a b c h k = (omega arith, omega arith)

-- a level more
abbrev pub up : Room → Room
up b = (suc b.0, b.1)

-- ---- outcomes

-- whether an outcome is also that of a reader with more room
abbrev pub Stable : (Fault → Type 0) → {A : Type 0} → Result A Fault → Type 0
Stable K (Ok x) = Unit {0}
Stable K (Err f) = K f

-- a form: what spells a value in a room
abbrev pub Form : Type 0 → Type 1
Form A = Room → A → List Word → Type 0

-- where a limit is passed, the token there may still come
abbrev pub Passed : Fault → {A : Type 0} → Room → Form A → List Word → List Word → Type 0
Passed Unexpected d R front rest = Unit {0}
Passed TooDeep {A} d R front rest = (b : ℕ) × (t : Word) × (m r : List Word) × (x : A) × (d.0 ≤ b) × (rest ≡ t ∷ r) × R (b, d.1) x (front ++ t ∷ m)
Passed TooMany {A} d R front rest = (b : Room) × (t : Word) × (m r : List Word) × (x : A) × (d ⊑ b) × (rest ≡ t ∷ r) × R b x (front ++ t ∷ m)
Passed Exhausted d R front rest = Unit {0}

-- a value is spelled by what was taken; at a fault what was taken can be completed, within the room
abbrev pub Means : {A : Type 0} → Room → Form A → List Word → Result A Fault → List Word → Type 0
Means d R front (Ok x) rest = R d x front
Means {A} d R front (Err f) rest = (more : List Word) × (x : A) × R d x (front ++ more) × Passed f d R front rest

-- something has the form
abbrev pub Filled : {A : Type 0} → Room → Form A → Type 0
Filled {A} d R = (x : A) × (w : List Word) × R d x w

-- the next token, if there is one
abbrev pub first : List Word → Option Word
first [] = None
first (t ∷ ts) = Some t

abbrev pub kind_by : Option Word → Option TokenKind
kind_by None = None
kind_by (Some t) = Some t.kind

pub kind_first : (ts : List Word) → kind_of ts ≡ kind_by (first ts)
kind_first [] = refl
kind_first (t ∷ ts) = refl

pub same_kind : (r rest : List Word) → first r ≡ first rest → kind_of r ≡ kind_of rest
same_kind r rest e = kind_first r ∙ ap kind_by e ∙ sym (kind_first rest)

pub record At (N : ℕ) (d : Room) (K : Fault → Type 0) {A : Type 0} (R : Form A) (q : Reader A) (ts : List Word) (v : Result A Fault) (rest : List Word) : Type 0 where
  pub front : List Word
  pub cut : ts ≡ front ++ rest
  pub same : Stable K v → (r : List Word) → first r ≡ first rest → q (front ++ r) ≡ (v, r)
  pub means : Means d R front v rest
  pub filled : (b : Room) → d ⊑ b → Filled b R
  -- the turns are enough for fewer than N tokens
  pub enough : length ts < N → v ≢ Err Exhausted

abbrev pub Good : ℕ → Room → (Fault → Type 0) → {A : Type 0} → Form A → Reader A → Reader A → List Word → Type 0
Good N d K R p q ts = At N d K R q ts (p ts).0 (p ts).1

-- what is left of R behind an L with the value x
abbrev pub Rest : {A B : Type 0} → Form A → Form B → A → Form B
Rest L R x b y w = (u : List Word) → L b x u → R b y (u ++ w)

-- some text spells it
abbrev pub Spelled : {A : Type 0} → Room → Form A → A → Type 0
Spelled d L x = (b : Room) × (u : List Word) × (d ⊑ b) × L b x u

-- what has the form has it in more room
abbrev pub Rises : {A : Type 0} → Form A → Type 0
Rises {A} L = (b c : Room) → b ⊑ c → (x : A) (w : List Word) → L b x w → L c x w

pub first_append : (front r rest : List Word) → first r ≡ first rest → first (front ++ r) ≡ first (front ++ rest)
first_append [] r rest e = e
first_append (t ∷ ts) r rest e = refl

-- ---- the steps

abbrev pub fault : {B : Type 0} → Fault → Result B Fault
fault e = Err e

pub err_is : {B : Type 0} (e f : Fault) → fault {B = B} e ≡ fault f → e ≡ f
err_is e f h = cc

passed_then : {A B : Type 0} (L : Form A) (R : Form B) (d : Room) → Rises L → (x : A) (front : List Word) → L d x front → (f : Fault) (front' rest : List Word) → Passed f d (Rest L R x) front' rest → Passed f d R (front ++ front') rest
passed_then L R d rises x front l Unexpected front' rest p = tt
passed_then L R d rises x front l TooDeep front' rest p = (p.0, p.1, p.2, p.3, p.4, p.5, p.6, rw append_assoc (p.7 front (rises d (p.0, d.1) (p.5, omega arith) x front l)))
passed_then L R d rises x front l TooMany front' rest p = (p.0, p.1, p.2, p.3, p.4, p.5, p.6, rw append_assoc (p.7 front (rises d p.0 p.5 x front l)))
passed_then L R d rises x front l Exhausted front' rest p = tt

means_then : {A B : Type 0} (L : Form A) (R : Form B) (d : Room) → Rises L → (x : A) (front : List Word) → L d x front
    → (v : Result B Fault) (front' rest : List Word) → Means d (Rest L R x) front' v rest → Means d R (front ++ front') v rest
means_then L R d rises x front l (Ok y) front' rest m = m front l
means_then L R d rises x front l (Err e) front' rest m = (m.0, m.1, rw append_assoc (m.2 front l), passed_then L R d rises x front l e front' rest m.3)

pub shorter : (ts front rest : List Word) → ts ≡ front ++ rest → length rest ≤ length ts
shorter ts front rest e = let l = length-append front rest in let m : length ts ≡ length (front ++ rest) = ap length e in omega arith

-- at the token that passes a limit something of the form may begin, and go on
passed_first : {A B : Type 0} (L : Form A) (R : Form B) (d : Room) → ((b : Room) → d ⊑ b → (x : A) → Spelled d L x → Filled b (Rest L R x)) → (f : Fault) (front rest : List Word) → Passed f d L front rest → Passed f d R front rest
passed_first L R d fill Unexpected front rest p = tt
passed_first L R d fill TooDeep front rest p =
    let le : d ⊑ (p.0, d.1) = (p.5, omega arith) in
    let more = fill (p.0, d.1) le p.4 ((p.0, d.1), front ++ p.1 ∷ p.2, le, p.7) in
    (p.0, p.1, p.2 ++ more.1, p.3, more.0, p.5, p.6, rw append_assoc at (more.2 (front ++ p.1 ∷ p.2) p.7))
passed_first L R d fill TooMany front rest p =
    let more = fill p.0 p.5 p.4 (p.0, front ++ p.1 ∷ p.2, p.5, p.7) in
    (p.0, p.1, p.2 ++ more.1, p.3, more.0, p.5, p.6, rw append_assoc at (more.2 (front ++ p.1 ∷ p.2) p.7))
passed_first L R d fill Exhausted front rest p = tt

filled_then : {A B : Type 0} (L : Form A) (R : Form B) (b : Room) → (l : Filled b L) → Filled b (Rest L R l.0) → Filled b R
filled_then L R b l c = (c.0, l.1 ++ c.1, c.2 l.1 l.2)

bind_at : {A B : Type 0} (N N' : ℕ) (d : Room) (K : Fault → Type 0) (L : Form A) (R : Form B) (q : Reader A) (f g : A → Reader B) (ts rest : List Word) (v : Result A Fault)
    → Rises L → ((x : A) → v ≡ Ok x → length ts < N → length rest < N') → At N d K L q ts v rest → ((x : A) → Spelled d L x → Good N' d K (Rest L R x) (f x) (g x) rest)
    → At N d K R (q >>= g) ts (go_on v rest f).0 (go_on v rest f).1
bind_at N N' d K L R q f g ts rest (Ok x) rises fits a c =
    let s = c x (d, a.front, room d, a.means) in
    record {
      front = a.front ++ s.front;
      cut = a.cut ∙ ap (λ (w : List Word). a.front ++ w) s.cut ∙ sym (append_assoc a.front s.front (f x rest).1);
      same = λ st r e.
          let k = first_append s.front r (f x rest).1 e in
          let one : q (a.front ++ (s.front ++ r)) ≡ (Ok x, s.front ++ r) = a.same tt (s.front ++ r) (k ∙ ap first (sym s.cut)) in
          rw (append_assoc, one) (s.same st r e);
      means = means_then L R d rises x a.front a.means (f x rest).0 s.front (f x rest).1 s.means;
      filled = λ b le. let l = a.filled b le in filled_then L R b l ((c l.0 (b, l.1, le, l.2)).filled b le);
      enough = λ lt. s.enough (fits x refl lt);
    }
bind_at N N' d K L R q f g ts rest (Err e) rises fits a c =
    let m = a.means in
    let more = (c m.1 (d, a.front ++ m.0, room d, m.2)).filled d (room d) in
    record {
      front = a.front;
      cut = a.cut;
      same = λ s r k. rw (a.same s r k) refl;
      means = (m.0 ++ more.1, more.0, rw append_assoc at (more.2 (a.front ++ m.0) m.2), passed_first L R d (λ b le y l. (c y l).filled b le) e a.front rest m.3);
      filled = λ b le. let l = a.filled b le in filled_then L R b l ((c l.0 (b, l.1, le, l.2)).filled b le);
      enough = λ lt x. a.enough lt (ap Err (err_is e Exhausted x));
    }

means_weaker : {A : Type 0} (L M : Form A) (d : Room) → ((b : Room) → d ⊑ b → (x : A) (w : List Word) → L b x w → M b x w) → (front : List Word) (v : Result A Fault) (rest : List Word) → Means d L front v rest → Means d M front v rest
means_weaker L M d h front (Ok x) rest m = h d (room d) x front m
means_weaker L M d h front (Err Unexpected) rest m = (m.0, m.1, h d (room d) m.1 (front ++ m.0) m.2, tt)
means_weaker L M d h front (Err TooDeep) rest m = (m.0, m.1, h d (room d) m.1 (front ++ m.0) m.2, (m.3.0, m.3.1, m.3.2, m.3.3, m.3.4, m.3.5, m.3.6, h (m.3.0, d.1) (m.3.5, omega arith) m.3.4 (front ++ m.3.1 ∷ m.3.2) m.3.7))
means_weaker L M d h front (Err TooMany) rest m = (m.0, m.1, h d (room d) m.1 (front ++ m.0) m.2, (m.3.0, m.3.1, m.3.2, m.3.3, m.3.4, m.3.5, m.3.6, h m.3.0 m.3.5 m.3.4 (front ++ m.3.1 ∷ m.3.2) m.3.7))
means_weaker L M d h front (Err Exhausted) rest m = (m.0, m.1, h d (room d) m.1 (front ++ m.0) m.2, tt)

pub weaker : {A : Type 0} (N : ℕ) (d : Room) (K : Fault → Type 0) (L M : Form A) (q : Reader A) (ts : List Word) (v : Result A Fault) (rest : List Word)
    → ((b : Room) → d ⊑ b → (x : A) (w : List Word) → L b x w → M b x w) → At N d K L q ts v rest → At N d K M q ts v rest
weaker N d K L M q ts v rest h a = record {
  front = a.front;
  cut = a.cut;
  same = a.same;
  means = means_weaker L M d h a.front v rest a.means;
  filled = λ b le. ((a.filled b le).0, (a.filled b le).1, h b le (a.filled b le).0 (a.filled b le).1 (a.filled b le).2);
  enough = a.enough;
}

pub fewer : {A : Type 0} (N N' : ℕ) (d : Room) (K : Fault → Type 0) (R : Form A) (q : Reader A) (ts : List Word) (v : Result A Fault) (rest : List Word) → N' ≤ N → At N d K R q ts v rest → At N' d K R q ts v rest
fewer N N' d K R q ts v rest le a = record { front = a.front; cut = a.cut; same = a.same; means = a.means; filled = a.filled; enough = λ lt. a.enough (omega arith) }

pub seq : {A B : Type 0} (N : ℕ) (d : Room) (K : Fault → Type 0) (L : Form A) (R : Form B) (q : Reader A) (f g : A → Reader B) (ts rest : List Word) (v : Result A Fault)
    → Rises L → At N d K L q ts v rest → ((x : A) → Spelled d L x → (r : List Word) → Good N d K (Rest L R x) (f x) (g x) r)
    → At N d K R (q >>= g) ts (go_on v rest f).0 (go_on v rest f).1
seq N d K L R q f g ts rest v rises a c = bind_at N N d K L R q f g ts rest v rises (λ x is lt. let s = shorter ts a.front rest a.cut in omega arith) a (λ x l. c x l rest)

means_ok : {A : Type 0} (d : Room) (L : Form A) (front : List Word) (v : Result A Fault) (rest : List Word) (x : A) → v ≡ Ok x → Means d L front v rest → L d x front
means_ok d L front v rest x is m = rw is at m

-- N may fall by one behind what has a token
pub seq_less : {A B : Type 0} (N N' : ℕ) (d : Room) (K : Fault → Type 0) (L : Form A) (R : Form B) (q : Reader A) (f g : A → Reader B) (ts rest : List Word) (v : Result A Fault)
    → N ≤ suc N' → ((b : Room) (x : A) (u : List Word) → L b x u → 1 ≤ length u) → Rises L → At N d K L q ts v rest → ((x : A) → Spelled d L x → (r : List Word) → Good N' d K (Rest L R x) (f x) (g x) r)
    → At N d K R (q >>= g) ts (go_on v rest f).0 (go_on v rest f).1
seq_less N N' d K L R q f g ts rest v le some rises a c =
    bind_at N N' d K L R q f g ts rest v rises (λ x is lt.
    let p = some d x a.front (means_ok d L a.front v rest x is a.means) in
    let l = length-append a.front rest in
    let m : length ts ≡ length (a.front ++ rest) = ap length a.cut in
    omega arith) a (λ x l. c x l rest)

pub good_pure : {A : Type 0} (N : ℕ) (d : Room) (K : Fault → Type 0) (R : Form A) (x : A) (ts : List Word) → ((b : Room) → d ⊑ b → R b x []) → Good N d K R (pure x) (pure x) ts
good_pure N d K R x ts l = record { front = []; cut = refl; same = λ s r e. refl; means = l d (room d); filled = λ b le. (x, [], l b le); enough = λ lt x. cc }

pub good_refuse : {A : Type 0} (N : ℕ) (d : Room) (K : Fault → Type 0) (R : Form A) (ts : List Word) → ((b : Room) → d ⊑ b → Filled b R) → Good N d K R refuse refuse ts
good_refuse N d K R ts fill = let m = fill d (room d) in record { front = []; cut = refl; same = λ s r e. refl; means = (m.1, m.0, m.2, tt); filled = fill; enough = λ lt x. cc }

pub good_exhausted : {A : Type 0} (d : Room) (K : Fault → Type 0) (R : Form A) (q : Reader A) (ts : List Word) → (K Exhausted → ⊥) → ((b : Room) → d ⊑ b → Filled b R) → Good 0 d K R (fail Exhausted) q ts
good_exhausted d K R q ts never fill = let m = fill d (room d) in record { front = []; cut = refl; same = λ s r e. absurd (never s); means = (m.1, m.0, m.2, tt); filled = fill; enough = λ lt. absurd (omega arith) }

pub peeked : {A : Type 0} (N : ℕ) (d : Room) (K : Fault → Type 0) (R : Form A) (g : Option TokenKind → Reader A) (ts rest : List Word) (v : Result A Fault)
    → At N d K R (g (kind_of ts)) ts v rest → At N d K R (peek >>= g) ts v rest
peeked N d K R g ts rest v a = record {
  front = a.front;
  cut = a.cut;
  same = λ s r e.
      let k : kind_of (a.front ++ r) ≡ kind_of ts = same_kind (a.front ++ r) ts (first_append a.front r rest e ∙ ap first (sym a.cut)) in
      rw k (a.same s r e);
  means = a.means;
  filled = a.filled;
  enough = a.enough;
}

pub good_if : {A : Type 0} (N : ℕ) (d : Room) (K : Fault → Type 0) (R : Form A) (b : Bool) (p p' q q' : Reader A) (ts : List Word)
    → (b ≡ true → Good N d K R p q ts) → (b ≡ false → Good N d K R p' q' ts) → Good N d K R (cond b p p') (cond b q q') ts
good_if N d K R true p p' q q' ts here there = here refl
good_if N d K R false p p' q q' ts here there = there refl

-- a choice by a test of the next kind
pub by_test : {A : Type 0} (N : ℕ) (d : Room) (K : Fault → Type 0) (R : Form A) (test : Option TokenKind → Bool) (p p' q q' : Reader A) (ts : List Word)
    → (test (kind_of ts) ≡ true → Good N d K R p q ts) → (test (kind_of ts) ≡ false → Good N d K R p' q' ts)
    → Good N d K R (peek >>= λ kind. if test kind then p else p') (peek >>= λ kind. if test kind then q else q') ts
by_test N d K R test p p' q q' ts here there =
    let a = good_if N d K R (test (kind_of ts)) p p' q q' ts here there in
    peeked N d K R (λ kind. if test kind then q else q') ts ((peek >>= λ kind. if test kind then p else p') ts).1 ((peek >>= λ kind. if test kind then p else p') ts).0 a

-- ---- kinds

pub same_is : (a b : TokenKind) → same a b ≡ true → a ≡ b
same_is kind.Name kind.Name e = refl
same_is kind.Int kind.Int e = refl
same_is kind.Rune kind.Rune e = refl
same_is kind.Text kind.Text e = refl
same_is (kind.Keyword a) (kind.Keyword b) e = ap kind.Keyword (eqb-true a b e)
same_is (kind.Operator a) (kind.Operator b) e = ap kind.Operator (eqb-true a b e)
same_is _ _ e = absurd cc

pub same_self : (a : TokenKind) → same a a ≡ true
same_self kind.Name = refl
same_self kind.Int = refl
same_self kind.Rune = refl
same_self kind.Text = refl
same_self (kind.Keyword a) = eq-eqb a a refl
same_self (kind.Operator a) = eq-eqb a a refl

pub is_is : (a : Option TokenKind) (b : TokenKind) → is a b ≡ true → a ≡ Some b
is_is None b e = absurd cc
is_is (Some a) b e = ap Some (same_is a b e)

pub is_self : (a : Option TokenKind) (b : TokenKind) → a ≡ Some b → is a b ≡ true
is_self a b e = rw e (same_self b)

pub choice : {A : Type 0} (N : ℕ) (d : Room) (K : Fault → Type 0) (R : Form A) (wanted : TokenKind) (p p' q q' : Reader A) (ts : List Word)
    → (kind_of ts ≡ Some wanted → Good N d K R p q ts) → (is (kind_of ts) wanted ≡ false → Good N d K R p' q' ts)
    → Good N d K R (peek >>= if_kind wanted p p') (peek >>= if_kind wanted q q') ts
choice N d K R wanted p p' q q' ts here there =
    let a = good_if N d K R (is (kind_of ts) wanted) p p' q q' ts (λ e. here (is_is (kind_of ts) wanted e)) there in
    peeked N d K R (if_kind wanted q q') ts ((peek >>= if_kind wanted p p') ts).1 ((peek >>= if_kind wanted p p') ts).0 a

-- ---- a token

-- what is made of a token of the kind that was seen
abbrev pub IsTaken : {A : Type 0} → TokenKind → (Word → A) → Form A
IsTaken wanted f b x w = (t : Word) × (w ≡ t ∷ []) × (t.kind ≡ wanted) × (x ≡ f t)

pub taken_rises : {A : Type 0} (wanted : TokenKind) (f : Word → A) → Rises (IsTaken wanted f)
taken_rises wanted f b c le s w i = i

abbrev pub a_word : TokenKind → Word
a_word kind = record { kind = kind; bytes = []; span = record { start = 0; end = 0 } }

filled_token : {A : Type 0} (wanted : TokenKind) (f : Word → A) (b : Room) → Filled b (IsTaken wanted f)
filled_token wanted f b = (f (a_word wanted), a_word wanted ∷ [], (a_word wanted, refl, refl, refl))

abbrev some_kind : TokenKind → Option TokenKind
some_kind k = Some k

pub some_is : (a b : TokenKind) → some_kind a ≡ some_kind b → a ≡ b
some_is a b e = cc

good_take : {A : Type 0} (N : ℕ) (d : Room) (K : Fault → Type 0) (wanted : TokenKind) (f : Word → A) (ts : List Word) → kind_of ts ≡ Some wanted → Good N d K (IsTaken wanted f) (take_as f) (take_as f) ts
unfolding take_as
good_take N d K wanted f [] e = absurd cc
good_take N d K wanted f (t ∷ ts) e = record { front = t ∷ []; cut = refl; same = λ s r k. refl; means = (t, refl, some_is t.kind wanted e, refl); filled = λ b le. filled_token wanted f b; enough = λ lt x. cc }

next_shorter : (ts : List Word) (wanted : TokenKind) (N N' : ℕ) → kind_of ts ≡ Some wanted → N ≤ suc N' → length ts < N → length (next ts) < N'
next_shorter [] wanted N N' e le lt = absurd cc
next_shorter (t ∷ ts) wanted N N' e le lt = omega arith

-- N may fall by one behind a token
pub take_then : {A B : Type 0} (N N' : ℕ) (d : Room) (K : Fault → Type 0) (R : Form B) (wanted : TokenKind) (m : Word → A) (f g : A → Reader B) (ts : List Word) → N ≤ suc N' → kind_of ts ≡ Some wanted
    → ((x : A) (r : List Word) → Good N' d K (Rest (IsTaken wanted m) R x) (f x) (g x) r) → Good N d K R (take_as m >>= f) (take_as m >>= g) ts
unfolding take_as
take_then N N' d K R wanted m f g ts le e c =
    bind_at N N' d K (IsTaken wanted m) R (take_as m) f g ts (take_as m ts).1 (take_as m ts).0 (taken_rises wanted m) (λ x is. next_shorter ts wanted N N' e le) (good_take N d K wanted m ts e) (λ x l. c x (take_as m ts).1)

-- ---- a token that is expected

abbrev expect_if : {A : Type 0} → (Word → A) → Bool → List Word → Outcome A
expect_if f b ts = cond b (Ok (f (head ts)), next ts) (Err Unexpected, ts)

expect_at : {A : Type 0} (N : ℕ) (d : Room) (K : Fault → Type 0) (wanted : TokenKind) (f : Word → A) (ts : List Word) (b : Bool) → is (kind_of ts) wanted ≡ b
    → At N d K (IsTaken wanted f) (expect_as f wanted) ts (expect_if f b ts).0 (expect_if f b ts).1
unfolding expect_as
expect_at N d K wanted f ts false e = record {
  front = [];
  cut = refl;
  same = λ s r k. rw (same_kind r ts k, e) refl;
  means = (a_word wanted ∷ [], f (a_word wanted), (a_word wanted, refl, refl, refl), tt);
  filled = λ b le. filled_token wanted f b;
  enough = λ lt x. cc;
}
expect_at N d K wanted f [] true e = absurd cc
expect_at N d K wanted f (t ∷ ts) true e = record {
  front = t ∷ [];
  cut = refl;
  same = λ s r k. rw e refl;
  means = (t, refl, same_is t.kind wanted e, refl);
  filled = λ b le. filled_token wanted f b;
  enough = λ lt x. cc;
}

pub good_expect : {A : Type 0} (N : ℕ) (d : Room) (K : Fault → Type 0) (wanted : TokenKind) (f : Word → A) (ts : List Word) → Good N d K (IsTaken wanted f) (expect_as f wanted) (expect_as f wanted) ts
unfolding expect_as
good_expect N d K wanted f ts = expect_at N d K wanted f ts (is (kind_of ts) wanted) refl

-- the same, and what follows
pub expect_then : {A B : Type 0} (N : ℕ) (d : Room) (K : Fault → Type 0) (R : Form B) (wanted : TokenKind) (m : Word → A) (f g : A → Reader B) (ts : List Word)
    → ((x : A) (r : List Word) → Good N d K (Rest (IsTaken wanted m) R x) (f x) (g x) r) → Good N d K R (expect_as m wanted >>= f) (expect_as m wanted >>= g) ts
expect_then N d K R wanted m f g ts c =
    seq N d K (IsTaken wanted m) R (expect_as m wanted) f g ts (expect_as m wanted ts).1 (expect_as m wanted ts).0 (taken_rises wanted m) (good_expect N d K wanted m ts) (λ x l r. c x r)

taken_some : {A : Type 0} (wanted : TokenKind) (f : Word → A) (b : Room) (x : A) (u : List Word) → IsTaken wanted f b x u → 1 ≤ length u
taken_some wanted f b x u i = rw i.1 (omega arith)

-- the same, where N falls by one
pub expect_less : {A B : Type 0} (N N' : ℕ) (d : Room) (K : Fault → Type 0) (R : Form B) (wanted : TokenKind) (m : Word → A) (f g : A → Reader B) (ts : List Word) → N ≤ suc N'
    → ((x : A) (r : List Word) → Good N' d K (Rest (IsTaken wanted m) R x) (f x) (g x) r) → Good N d K R (expect_as m wanted >>= f) (expect_as m wanted >>= g) ts
expect_less N N' d K R wanted m f g ts le c =
    seq_less N N' d K (IsTaken wanted m) R (expect_as m wanted) f g ts (expect_as m wanted ts).1 (expect_as m wanted ts).0 le (taken_some wanted m) (taken_rises wanted m) (good_expect N d K wanted m ts) (λ x l r. c x r)

-- ---- the limit of depth: with more levels the same, where the outcome isn't that too few were there

-- the completion beyond the limit may have any height
far_at : {A : Type 0} (N : ℕ) (K : Fault → Type 0) (R : Form A) (d d' : Room) (h : ℕ) (p q : Reader A) (ts : List Word) (b : Bool) → nat_lt d.0 h ≡ b → d ⊑ d' → (K TooDeep → d.0 ≡ d'.0) → kind_of ts ≢ None
    → ((c : Room) → d ⊑ c → Filled c R) → ((t : Word) → Some t.kind ≡ kind_of ts → (c : ℕ) × (y : A) × (w : List Word) × (d.0 ≤ c) × R (c, d.1) y (t ∷ w)) → (h ≤ d.0 → Good N d K R p q ts)
    → At N d K R (limited d'.0 h q) ts ((if b then fail TooDeep else p) ts).0 ((if b then fail TooDeep else p) ts).1
far_at N K R d d' h p q [] true e le deep some fill goes a = absurd (some refl)
far_at N K R d d' h p q (t ∷ ts) true e le deep some fill goes a =
    let m = fill d (room d) in
    let far = goes t refl in
    record {
      front = [];
      cut = refl;
      same = λ s r k. let e' : nat_lt d'.0 h ≡ true = subst (λ (n : ℕ). nat_lt n h ≡ true) (deep s) e in rw e' refl;
      means = (m.1, m.0, m.2, (far.0, t, far.2, ts, far.1, far.3, refl, far.4));
      filled = fill;
      enough = λ lt x. cc;
    }
far_at N K R d d' h p q ts false e le deep some fill goes a =
    let small : h ≤ d.0 = ltb-false d.0 h e in
    let e' : nat_lt d'.0 h ≡ false = le-ltb d'.0 h (omega arith) in
    rw e' (a small)

pub good_far : {A : Type 0} (N : ℕ) (K : Fault → Type 0) (R : Form A) (d d' : Room) (h : ℕ) (p q : Reader A) (ts : List Word) → d ⊑ d' → (K TooDeep → d.0 ≡ d'.0) → kind_of ts ≢ None
    → ((c : Room) → d ⊑ c → Filled c R) → ((t : Word) → Some t.kind ≡ kind_of ts → (c : ℕ) × (y : A) × (w : List Word) × (d.0 ≤ c) × R (c, d.1) y (t ∷ w)) → (h ≤ d.0 → Good N d K R p q ts)
    → Good N d K R (limited d.0 h p) (limited d'.0 h q) ts
good_far N K R d d' h p q ts le deep some fill goes a = far_at N K R d d' h p q ts (nat_lt d.0 h) refl le deep some fill goes a

-- the same, where what completes beyond the limit is known at each height that is enough
pub good_limited : {A : Type 0} (N : ℕ) (K : Fault → Type 0) (R : Form A) (d d' : Room) (h : ℕ) (p q : Reader A) (ts : List Word) → d ⊑ d' → (K TooDeep → d.0 ≡ d'.0) → kind_of ts ≢ None
    → ((c : Room) → d ⊑ c → Filled c R) → ((c : Room) → d ⊑ c → h ≤ c.0 → (t : Word) → Some t.kind ≡ kind_of ts → (y : A) × (w : List Word) × R c y (t ∷ w)) → (h ≤ d.0 → Good N d K R p q ts)
    → Good N d K R (limited d.0 h p) (limited d'.0 h q) ts
good_limited N K R d d' h p q ts le deep some fill goes a =
    good_far N K R d d' h p q ts le deep some fill (λ t e. let g = goes (d.0 + h, d.1) (omega arith, omega arith) (omega arith) t e in (d.0 + h, g.0, g.1, omega arith, g.2)) a

-- ---- one level higher up

shift_filled : {A : Type 0} (d : Room) (R : Form A) → ((b : Room) → d ⊑ b → Filled b (λ c. R (up c))) → (b : Room) → up d ⊑ b → Filled b R
shift_filled d R f (zero, m) le = let l : suc d.0 ≤ 0 = le.0 in absurd (omega arith)
shift_filled d R f (suc b, m) le = f (b, m) (let l : suc d.0 ≤ suc b = le.0 in omega arith, le.1)

pub shift : {A : Type 0} (N : ℕ) (d : Room) (K : Fault → Type 0) (R : Form A) (q : Reader A) (ts : List Word) (v : Result A Fault) (rest : List Word) → At N d K (λ b. R (up b)) q ts v rest → At N (up d) K R q ts v rest
shift N d K R q ts (Ok x) rest a = record { front = a.front; cut = a.cut; same = a.same; means = a.means; filled = shift_filled d R a.filled; enough = a.enough }
shift N d K R q ts (Err Unexpected) rest a = record { front = a.front; cut = a.cut; same = a.same; means = a.means; filled = shift_filled d R a.filled; enough = a.enough }
shift N d K R q ts (Err TooDeep) rest a =
    let m = a.means in
    let p = m.3 in
    record { front = a.front; cut = a.cut; same = a.same; means = (m.0, m.1, m.2, (suc p.0, p.1, p.2, p.3, p.4, (let le = p.5 in omega arith), p.6, p.7)); filled = shift_filled d R a.filled; enough = a.enough }
shift N d K R q ts (Err TooMany) rest a =
    let m = a.means in
    let p = m.3 in
    record { front = a.front; cut = a.cut; same = a.same; means = (m.0, m.1, m.2, (up p.0, p.1, p.2, p.3, p.4, (let le = p.5.0 in omega arith, p.5.1), p.6, p.7)); filled = shift_filled d R a.filled; enough = a.enough }
shift N d K R q ts (Err Exhausted) rest a = record { front = a.front; cut = a.cut; same = a.same; means = a.means; filled = shift_filled d R a.filled; enough = a.enough }
