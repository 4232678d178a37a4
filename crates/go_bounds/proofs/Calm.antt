-- Steps of checking that make no list.
use Rattle.std.proofs.Common.{Option, Some, None, ◌≡◌, ℕ, ◌+◌, ◌≤◌, Bool, true, false, cond, List, [], ◌∷◌, ◌++◌, length, take, refl, sym, ap, ◌∙◌, subst, arith, length-append, append_assoc, append-nil}
use Rattle.go_ast.specs.declared.kind.SourceKind.{SourceKind}
use Rattle.go_ast.specs.declared.kind.SourceKind.TheVariants as source
use Rattle.go_ast.specs.declared.name.Name.{Name}
use Rattle.go_meaning.specs.Programs.{Parts}
use Rattle.go_meaning.specs.WellFormed.{variable, IsThere}
use Rattle.go_types.specs.declared.names.Callee.{Callee}
use Rattle.go_types.specs.declared.names.Callee.TheVariants as callee
use Rattle.go_types.specs.declared.names.Meaning.{Meaning}
use Rattle.go_types.specs.declared.names.Meaning.TheVariants as meaning
use Rattle.go_types.specs.declared.names.Binding.{Binding}
use Rattle.go_types.specs.declared.names.Names.{Names}
use Rattle.go_types.specs.declared.walk.Walk.{Walk}
use Rattle.go_types.specs.Checking.{Checked, Checking}
use Rattle.go_types.specs.Walking.{Walking, ◌>>>◌, done, as_walking, stop, here, opened, closed, scoped, bind}
use Rattle.go_types.specs.Scopes.{new_slot}
use Rattle.go_types.specs.Names.{last_named}
use Rattle.go_bounds.specs.Known.{Perhaps, AreNamed, IsMeant, IsCallable, AreBound, AreKnown}
use Rattle.go_bounds.proofs.Sure.{Sure, Finds, sure_ok, sure_err, sure_then, sure_if, sure_more}
use Rattle.go_bounds.proofs.Uses.{use_stays}
use Rattle.go_bounds.proofs.Naming.{each_more, each_append, each_take}

-- ---- more slots take nothing away

module _ (P : Parts) (s t : ℕ) (h : s ≤ t) where
  callable_stays : (c : Callee) → IsCallable P s c → IsCallable P t c
  callable_stays (callee.Function f) a = a
  callable_stays (callee.Lock m) a = a
  callable_stays (callee.Unlock m) a = a
  callable_stays (callee.Add g) a = a
  callable_stays (callee.Done g) a = a
  callable_stays (callee.Wait g) a = a
  callable_stays c a = tt

  pub meant_stays : (m : Meaning) → IsMeant P s m → IsMeant P t m
  meant_stays (meaning.Variable x u) a = use_stays P s t h (variable x) a
  meant_stays (meaning.Mutex m) a = a
  meant_stays (meaning.Group g) a = a
  meant_stays (meaning.Callee c) a = callable_stays c a
  meant_stays m a = tt

  bound_stays : (bs : List Binding) → AreBound P s bs → AreBound P t bs
  bound_stays bs = each_more (λ (b : Binding). IsMeant P s b.meaning) (λ (b : Binding). IsMeant P t b.meaning) (λ b a. meant_stays b.meaning a) bs

  pub perhaps_stays : (o : Option Meaning) → Perhaps (IsMeant P s) o → Perhaps (IsMeant P t) o
  perhaps_stays None a = tt
  perhaps_stays (Some m) a = meant_stays m a

  named_stays : (bs : List Binding) → AreNamed P s bs → AreNamed P t bs
  named_stays bs a name = perhaps_stays (last_named name bs) (a name)

  pub known_stays : (names : Names) → AreKnown P s names → AreKnown P t names
  known_stays names k = record {
    packages = each_more (AreNamed P s) (AreNamed P t) named_stays names.packages k.packages;
    own = named_stays names.own k.own;
    locals = bound_stays names.locals k.locals;
  }

-- ---- names around a place stay

-- names at a place around, and those that are declared behind it
pub record IsAround (ns ms : Names) : Type 0 where
  pub rest : List Binding
  pub are : ms ≡ record ns { locals = ns.locals ++ rest }

pub around_refl : (ns : Names) → IsAround ns ns
around_refl ns = record { rest = []; are = ap (λ bs. record ns { locals = bs }) (sym (append-nil ns.locals)) }

pub around_trans : (ns ms ks : Names) → IsAround ns ms → IsAround ms ks → IsAround ns ks
around_trans ns ms ks h k = record { rest = h.rest ++ k.rest; are = joined }
  where
    joined : ks ≡ record ns { locals = ns.locals ++ (h.rest ++ k.rest) }
    joined = subst (λ (n : Names). ks ≡ record n { locals = n.locals ++ k.rest }) h.are k.are ∙ ap (λ bs. record ns { locals = bs }) (append_assoc ns.locals h.rest k.rest)

take_around : (xs ys : List Binding) → take (length xs) (xs ++ ys) ≡ xs
take_around [] ys = refl
take_around (x ∷ xs) ys = ap (λ l. x ∷ l) (take_around xs ys)

pub closed_names : (ns ms : Names) → IsAround ns ms → record ms { locals = take (length ns.locals) ms.locals } ≡ ns
closed_names ns ms h = ap (λ (n : Names). record n { locals = take (length ns.locals) n.locals }) h.are ∙ ap (λ bs. record ns { locals = bs }) (take_around ns.locals h.rest)

pub around_closed : (ns ms : Names) → IsAround ns ms → IsAround ns (record ms { locals = take (length ns.locals) ms.locals })
around_closed ns ms h = subst (IsAround ns) (sym (closed_names ns ms h)) (around_refl ns)

module _ (P : Parts) (first : ℕ) where
  -- what names mean is there, the file's first unit has its number, and so many statements stand around
  pub record Ready (marks : ℕ) (s : Walk) : Type 0 where
    pub known : AreKnown P (length s.declared) s.names
    pub unit : s.first_unit ≡ first
    pub around : length s.around ≡ marks

  module _ (marks : ℕ) where
    pub record Calm (s t : Walk) : Type 0 where
      pub ready : Ready marks t
      pub slots : length s.declared ≤ length t.declared
      pub lists : t.lists ≡ s.lists
      pub names : IsAround s.names t.names

    pub calm_trans : (s t u : Walk) → Calm s t → Calm t u → Calm s u
    calm_trans s t u h k = record { ready = k.ready; slots = omega (arith, h.slots, k.slots); lists = k.lists ∙ h.lists; names = around_trans s.names t.names u.names h.names k.names }

    -- where so many slots are declared it makes no list, and of what it answers something holds with the slots that are declared then
    pub record Calms {A : Type 0} (n : ℕ) (p : Walking A) (Q : ℕ → A → Type 0) : Type 0 where
      pub calms : (s : Walk) → Ready marks s → n ≤ length s.declared → Sure (p s) (λ r. Calm s r.1 × Q (length r.1.declared) r.0)

    pub calm_then : {A B : Type 0} {n : ℕ} {p : Walking A} {f : A → Walking B} {Q : ℕ → A → Type 0} {R : ℕ → B → Type 0} → Calms n p Q → ((a : A) (m : ℕ) → n ≤ m → Q m a → Calms m (f a) R) → Calms n (p >>> f) R
    calm_then {n = n} h k = record {
      calms = λ s r le.
          sure_then (h.calms s r le) (λ x q.
          sure_more ((k x.0 (length x.1.declared) (omega (arith, q.0.slots, le)) q.1).calms x.1 q.0.ready (omega arith)) (λ y w. (calm_trans s x.1 y.1 q.0 w.0, w.1)));
    }

    pub calm_done : {A : Type 0} {n : ℕ} {Q : ℕ → A → Type 0} (a : A) → ((m : ℕ) → n ≤ m → Q m a) → Calms n (done a) Q
    calm_done a k = record { calms = λ s r le. sure_ok (a, s) (record { ready = r; slots = omega arith; lists = refl; names = around_refl s.names }, k (length s.declared) le) }

    pub calm_pure : {A : Type 0} {n : ℕ} {Q : ℕ → A → Type 0} {r : Checked A} → ((m : ℕ) → n ≤ m → Sure r (Q m)) → Calms n (as_walking r) Q
    calm_pure k = record { calms = λ s r le. sure_then (k (length s.declared) le) (λ a q. sure_ok (a, s) (record { ready = r; slots = omega arith; lists = refl; names = around_refl s.names }, q)) }

    pub calm_stop : {A : Type 0} {n : ℕ} {Q : ℕ → A → Type 0} (at : ℕ) (kind : SourceKind) → Calms n (stop {A = A} at kind) Q
    calm_stop at kind = record { calms = λ s r le. sure_err at kind }

    pub calm_here : {A : Type 0} {n : ℕ} {Q : ℕ → A → Type 0} {p : Names → Checking A} → ((m : ℕ) → n ≤ m → (names : Names) → AreKnown P m names → Finds (p names) (Q m)) → Calms n (here p) Q
    calm_here k = record {
      calms = λ s r le.
          sure_then ((k (length s.declared) le s.names r.known).sure s.marks) (λ x q.
          sure_ok _ (record { ready = record { known = r.known; unit = r.unit; around = r.around }; slots = omega arith; lists = refl; names = around_refl s.names }, q));
    }

    pub calm_if : {A : Type 0} {n : ℕ} {Q : ℕ → A → Type 0} (b : Bool) {p q : Walking A} → Calms n p Q → Calms n q Q → Calms n (cond b p q) Q
    calm_if true h k = h
    calm_if false h k = k

    pub calm_more : {A : Type 0} {n : ℕ} {Q R : ℕ → A → Type 0} {p : Walking A} → Calms n p Q → ((m : ℕ) (a : A) → n ≤ m → Q m a → R m a) → Calms n p R
    calm_more h k = record { calms = λ s r le. sure_more (h.calms s r le) (λ x q. (q.0, k _ x.0 (omega (arith, q.0.slots, le)) q.1)) }

    pub calm_later : {A : Type 0} {n : ℕ} {Q : ℕ → A → Type 0} {p : Walking A} (m : ℕ) → n ≤ m → Calms n p Q → Calms m p Q
    calm_later m h k = record { calms = λ s r le. k.calms s r (omega arith) }

    -- ---- declarations

    pub calm_bind : (n : ℕ) (name : Name) (m : Meaning) → ((k : ℕ) → n ≤ k → IsMeant P k m) → Calms n (bind name m) (λ k u. Unit {0})
    calm_bind n name m h = record {
      calms = λ s r le.
          sure_if _ (sure_err name.at source.Redeclared)
          (sure_ok _ (
            record {
              ready = record {
                known = record { packages = r.known.packages; own = r.known.own; locals = each_append (λ (b : Binding). IsMeant P (length s.declared) b.meaning) s.names.locals _ r.known.locals (h (length s.declared) le, tt) };
                unit = r.unit;
                around = r.around;
              };
              slots = omega arith;
              lists = refl;
              names = record { rest = record { name = name.text; meaning = m } ∷ []; are = refl };
            },
            tt,
          ));
    }

    pub calm_slot : (n at : ℕ) → Calms n (new_slot at) (λ k x. IsThere P k (variable x))
    calm_slot n at = record {
      calms = λ s r le.
          let more : length (s.declared ++ at ∷ []) ≡ length s.declared + 1 = length-append s.declared (at ∷ []) in
          sure_ok _ (
            record {
              ready = record { known = known_stays P (length s.declared) (length (s.declared ++ at ∷ [])) (omega arith) s.names r.known; unit = r.unit; around = r.around };
              slots = omega arith;
              lists = refl;
              names = around_refl s.names;
            },
            omega arith,
          );
    }

    -- ---- scopes

    pub closed_ready : (s t : Walk) → Ready marks t → Ready marks (closed s t)
    closed_ready s t r = record {
      known = record { packages = r.known.packages; own = r.known.own; locals = each_take (λ (b : Binding). IsMeant P (length t.declared) b.meaning) (length s.names.locals) t.names.locals r.known.locals };
      unit = r.unit;
      around = r.around;
    }

    pub opened_ready : (s : Walk) → Ready marks s → Ready marks (opened s)
    opened_ready s r = record { known = r.known; unit = r.unit; around = r.around }

    pub calm_scoped : {A : Type 0} {n : ℕ} {Q : ℕ → A → Type 0} {p : Walking A} → Calms n p Q → Calms n (scoped p) Q
    calm_scoped h = record {
      calms = λ s r le.
          sure_then (h.calms (opened s) (opened_ready s r) le) (λ x q.
          sure_ok _ (record { ready = closed_ready s x.1 q.0.ready; slots = q.0.slots; lists = q.0.lists; names = around_closed s.names x.1.names q.0.names }, q.1));
    }
