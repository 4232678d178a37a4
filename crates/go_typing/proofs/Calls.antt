-- Indices, conversions and calls that are accepted take their operands.
use Rattle.std.proofs.Common.{◌≡◌, ℕ, Bool, true, false, cond, List, [], ◌∷◌, map, Option, Some, None, Ok, refl, sym, ap, ◌∙◌, subst, arith}
use Rattle.std.specs.Prelude.{pos, ◌||◌, not, length, slice_get, unwrap_or, ◌==◌}
use Rattle.std.proofs.lemmas.Option.{none-some, cond_some}
use Rattle.std.proofs.lemmas.Bool.{eqb-true}
use Rattle.go_ast.specs.declared.kind.SourceKind.TheVariants as source
use Rattle.go_meaning.specs.declared.expr.Expr.{Expr}
use Rattle.go_meaning.specs.declared.expr.Expr.TheVariants as expr
use Rattle.go_meaning.specs.declared.expr.Op.{Op}
use Rattle.go_meaning.specs.declared.expr.Op.TheVariants as op
use Rattle.go_types.specs.declared.types.Basic.TheVariants as basic
use Rattle.go_types.specs.declared.types.ValueType.{ValueType}
use Rattle.go_types.specs.declared.kinds.OperandKind.{OperandKind}
use Rattle.go_types.specs.declared.kinds.OperandKind.TheVariants.{Typed, Untyped as Bare, Nil}
use Rattle.go_types.specs.declared.conversion.Conversion.{Conversion}
use Rattle.go_types.specs.declared.constant.Constant.{Constant}
use Rattle.go_types.specs.declared.constant.Constant.TheVariants as constants
use Rattle.go_types.specs.declared.names.Callee.{Callee}
use Rattle.go_types.specs.declared.names.Callee.TheVariants as callees
use Rattle.go_types.specs.declared.names.Signature.{Signature}
use Rattle.go_types.specs.declared.names.Names.{Names}
use Rattle.go_types.specs.declared.operand.Term.{Term}
use Rattle.go_types.specs.declared.operand.Term.TheVariants.{Constant as Fixed, Nil as Nothing, Value as Computed}
use Rattle.go_types.specs.declared.operand.Operand.{Operand}
use Rattle.go_types.specs.declared.operand.Operand.TheVariants as operand
use Rattle.go_types.specs.declared.operand.Argument.{Argument}
use Rattle.go_types.specs.Types as types
use Rattle.go_types.specs.Kinds.{is_assignable, is_integer, is_text, is_flag}
use Rattle.go_types.specs.Operators.{conversion_to}
use Rattle.go_types.specs.Checking.{Checked, and_then}
use Rattle.go_types.specs.Constants.{converted}
use Rattle.go_types.specs.Operands.{kind_of, kind_at, fitted, into, in_own_type, or_wrong, place, text_at, index, place_if, cut, converted_term, convert, channel_of, channel, measurable, len_of, cap_of, itoa_of, is_printable, printable, printables, passed, nothing, no_arguments, only, does, results, called, no_signature, called_by, call, term}
use Rattle.go_typing.specs.Sorts.{Value, computed, typed, Sort, value, value_found, sort_of}
use Rattle.go_typing.specs.Sorts as sorts
use Rattle.go_typing.specs.Rules as rules
use Rattle.go_typing.specs.Rules.{IsAssignable, IsChannel, IsPrintable, ArePrintable, ArePassed, IsConvertible, given, signature_of, Gives}
use Rattle.go_typing.specs.Laws.{is_of_kind}
use Rattle.go_typing.proofs.Basics.{not_both, same_ok, no_fault, ok_then, ok_if, ok_unless, right_of}
use Rattle.go_typing.proofs.Agreement.{assignable_from}
use Rattle.go_typing.proofs.Values.{term_fits, operand_fits, integer_no_text, flag_no_text, constant_found, conversion_found}
use Rattle.go_typing.proofs.Operators.{argument, kind_is}

-- ---- operands that are used

-- what is said of the kind of a term, said of what it is
pub of_term : (P : OperandKind → Type 0) (s : Term) → P (kind_of s) → P (value_found s).kind
of_term P s h = subst P (sym (kind_is s)) h

abbrev kind_found : Argument → OperandKind
kind_found a = (value_found a.term).kind

pub into_found : (t : ValueType) (a : Argument) (x : Expr) → into t a ≡ Ok x → IsAssignable t (kind_found a)
into_found t a x e =
    let p = ok_if (is_assignable t (kind_at a)) (fitted a.at t a.term) a.at source.WrongType x e in
    of_term (IsAssignable t) a.term (assignable_from t (kind_at a) p.0)

pub channel_kind : (k : OperandKind) (t : ValueType) → channel_of k ≡ Some t → IsChannel k
channel_kind (Typed u) t e = rules.channel u (cond_some (types.is_channel u) u t e).0
channel_kind (Bare u) t e = absurd (none-some t e)
channel_kind Nil t e = absurd (none-some t e)

channel_found : (a : Argument) (x : Expr) → channel a ≡ Ok x → IsChannel (kind_found a)
channel_found a x e =
    let p = ok_then (or_wrong a.at (channel_of (kind_at a))) _ x e in
    of_term IsChannel a.term (channel_kind (kind_at a) p.0 (right_of a.at (channel_of (kind_at a)) p.0 p.1))

printable_kind : (k : OperandKind) → is_printable k ≡ true → IsPrintable k
printable_kind k e = go (is_integer k) (is_text k) (is_flag k) refl refl refl e
  where
    go : (x y z : Bool) → is_integer k ≡ x → is_text k ≡ y → is_flag k ≡ z → (x || (y || z)) ≡ true → IsPrintable k
    go true y z f g h e = rules.number k f
    go false true z f g h e = rules.text k g
    go false false true f g h e = rules.flag k h
    go false false false f g h e = not_both false e refl

printable_found : (a : Argument) (x : Expr) → printable a ≡ Ok x → IsPrintable (kind_found a)
printable_found a x e =
    let p = ok_if (is_printable (kind_at a)) (in_own_type a) a.at source.WrongType x e in
    of_term IsPrintable a.term (printable_kind (kind_at a) p.0)

text_found : (at : ℕ) (a : Argument) (x : Expr) → text_at at a ≡ Ok x → is_text (kind_found a) ≡ true
text_found at a x e =
    let p = ok_if (is_text (kind_at a)) (fitted a.at types.text a.term) at source.WrongType x e in
    of_term (λ k. is_text k ≡ true) a.term p.0

place_found : (a : Argument) (x : Expr) → place a ≡ Ok x → is_integer (kind_found a) ≡ true
unfolding place
place_found a x e =
    let p = ok_unless (not (is_integer (kind_at a))) _ a.at source.WrongType x e in
    of_term (λ k. is_integer k ≡ true) a.term (go (is_integer (kind_at a)) p.0)
  where
    go : (b : Bool) → not b ≡ false → b ≡ true
    go true h = refl
    go false h = sym h

-- ---- indices and parts of strings

abbrev as_typed : ValueType → Term → Type 0
as_typed t r = (value_found r ≡ typed t) × (term_fits r ≡ true)

gives_typed : (t : ValueType) (x : Expr) (r : Term) → ◌≡◌ {A = Checked Term} (Ok (Computed t x)) (Ok r) → as_typed t r
gives_typed t x r e = subst (as_typed t) (same_ok (Computed t x) r e) (refl, refl)

pub index_found : (at : ℕ) (s i : Argument) (r : Term) → index at s i ≡ Ok r → (is_text (kind_found s) ≡ true) × (is_integer (kind_found i) ≡ true) × as_typed (types.basic basic.Uint8) r
unfolding index
index_found at s i r e =
    let p = ok_then (text_at at s) _ r e in
    let q = ok_then (place i) _ r p.2 in
    (text_found at s p.0 p.1, place_found i q.0 q.1, gives_typed _ _ r q.2)

abbrev pub IsPlace : Option Argument → Type 0
IsPlace None = Unit {0}
IsPlace (Some a) = is_integer (kind_found a) ≡ true

pub place_if_found : (o : Option Argument) (xs : List Expr) → place_if o ≡ Ok xs → IsPlace o
place_if_found None xs e = tt
place_if_found (Some a) xs e = let p = ok_then (place a) _ xs e in place_found a p.0 p.1

pub cut_found : (at : ℕ) (s : Argument) (low high : Option Argument) (r : Term) → cut at s low high ≡ Ok r → (is_text (kind_found s) ≡ true) × IsPlace low × IsPlace high × as_typed types.text r
unfolding cut
cut_found at s low high r e =
    let p = ok_then (text_at at s) _ r e in
    let q = ok_then (place_if low) _ r p.2 in
    let z = ok_then (place_if high) _ r q.2 in
    (text_found at s p.0 p.1, place_if_found low q.0 q.1, place_if_found high z.0 z.1, gives_typed _ _ r z.2)

-- ---- conversions

abbrev pub as_converted : ValueType → Value → Term → Type 0
as_converted t v r = (value_found r ≡ record { constant = v.constant; kind = Typed t }) × (term_fits r ≡ true)

pub convert_found : (at : ℕ) (t : ValueType) (a : Argument) (r : Term) → term_fits a.term ≡ true → convert at t a ≡ Ok r → IsConvertible t (kind_found a) × as_converted t (value_found a.term) r
unfolding convert
convert_found at t a r fs e =
    let p = ok_then (or_wrong at (conversion_to t (kind_at a))) _ r e in
    let c = conversion_found t (kind_at a) p.0 (right_of at (conversion_to t (kind_at a)) p.0 p.1) in
    (of_term (IsConvertible t) a.term c.0, go p.0 a.term fs c.1 p.2)
  where
    go : (how : Conversion) (s : Term) → term_fits s ≡ true → ((i : ℕ) (c d : Constant) → is_of_kind (kind_of s) c ≡ true → converted i how t c ≡ Ok d → is_of_kind (Typed t) d ≡ true)
        → converted_term at how t s ≡ Ok r → as_converted t (value_found s) r
    go how (Fixed k c) fs h e =
        let p = ok_then (converted at how t c) (λ d. Ok (Fixed (Typed t) d)) r e in
        subst (as_converted t (value_found (Fixed k c))) (same_ok (Fixed (Typed t) p.0) r p.2) (refl, h at c p.0 fs p.1)
    go how Nothing fs h e = gives_typed t _ r e
    go how (Computed u x) fs h e = gives_typed t _ r e

-- ---- calls

pub data AllFit : List Argument → Type 0 where
  none : AllFit []
  more : (a : Argument) (as' : List Argument) → term_fits a.term ≡ true → AllFit as' → AllFit (a ∷ as')

abbrev pub value_at : Argument → Value
value_at a = value_found a.term

-- a call of c is of the sort that was found
abbrev pub GivesTo : Names → Callee → List Argument → Operand → Type 0
GivesTo ns c as' o = Gives ns c (map value_at as') (sort_of o) × (operand_fits o ≡ true)

only_found : {A : Type 0} (at : ℕ) (as' : List Argument) (f : Argument → Checked A) (x : A) → and_then (only at as') f ≡ Ok x → (a : Argument) × (a ∷ [] ≡ as') × (f a ≡ Ok x)
only_found at [] f x e = no_fault _ x e
only_found at (a ∷ []) f x e = (a, refl, e)
only_found at (a ∷ b ∷ as') f x e = no_fault _ x e

only_fits : (a : Argument) → AllFit (a ∷ []) → term_fits a.term ≡ true
only_fits a (more _ _ f _) = f

-- a call with one value
with_one : (ns : Names) (c : Callee) (at : ℕ) (as' : List Argument) (f : Argument → Checked Operand) (o : Operand) → AllFit as' → and_then (only at as') f ≡ Ok o
    → ((a : Argument) → term_fits a.term ≡ true → f a ≡ Ok o → GivesTo ns c (a ∷ []) o) → GivesTo ns c as' o
with_one ns c at as' f o fs e h =
    let p = only_found at as' f o e in
    let F : AllFit (p.0 ∷ []) = subst AllFit (sym p.1) fs in
    subst (λ l. GivesTo ns c l o) p.1 (h p.0 (only_fits p.0 F) p.2)

-- a call that gives a value
as_term : (ns : Names) (c : Callee) (as' : List Argument) (r : Checked Term) (o : Operand) → term r ≡ Ok o → ((t : Term) → r ≡ Ok t → GivesTo ns c as' (operand.Term t)) → GivesTo ns c as' o
as_term ns c as' r o e h =
    let p = ok_then r (λ t. Ok (operand.Term t)) o e in
    subst (GivesTo ns c as') (same_ok (operand.Term p.0) o p.2) (h p.0 p.1)

-- a call that gives nothing
as_nothing : (ns : Names) (c : Callee) (as' : List Argument) (x : Expr) (o : Operand) → Gives ns c (map value_at as') (sorts.results []) → ◌≡◌ {A = Checked Operand} (Ok (nothing x)) (Ok o) → GivesTo ns c as' o
as_nothing ns c as' x o g e = subst (GivesTo ns c as') (same_ok (nothing x) o e) (g, refl)

does_nothing : (ns : Names) (c : Callee) (p : Op) (a : Argument) (r : Checked Expr) (o : Operand) → does p r ≡ Ok o → ((x : Expr) → r ≡ Ok x → Gives ns c (value_at a ∷ []) (sorts.results [])) → GivesTo ns c (a ∷ []) o
does_nothing ns c p a r o e h =
    let q = ok_then r (λ x. Ok (nothing (expr.Apply p (x ∷ [])))) o e in
    as_nothing ns c (a ∷ []) _ o (h q.0 q.1) q.2

without : (ns : Names) (c : Callee) (at : ℕ) (as' : List Argument) (x : Expr) (o : Operand) → Gives ns c [] (sorts.results []) → no_arguments at as' x ≡ Ok o → GivesTo ns c as' o
without ns c at [] x o g e = as_nothing ns c [] x o g e
without ns c at (a ∷ as') x o g e = no_fault _ o e

-- ---- the length of a string or a channel

abbrev LengthOf : Names → Term → Term → Type 0
LengthOf ns s r = Gives ns callees.Len (value_found s ∷ []) (value (value_found r)) × (term_fits r ≡ true)

int_computed : (x : Expr) (r : Term) (P : Term → Type 0) → P (Computed types.int x) → ◌≡◌ {A = Checked Term} (Ok (Computed types.int x)) (Ok r) → P r
int_computed x r P h e = subst P (same_ok (Computed types.int x) r e) h

-- a channel, where the kind is none of strings
of_channel : (ns : Names) (i : ℕ) (s r : Term) → is_text (kind_of s) ≡ false → and_then (measurable (argument i s)) (λ x. Ok (Computed types.int (expr.Apply op.Len (x ∷ [])))) ≡ Ok r → LengthOf ns s r
of_channel ns i s r n e =
    let p = ok_then (measurable (argument i s)) (λ x. Ok (Computed types.int (expr.Apply op.Len (x ∷ [])))) r e in
    let q : channel (argument i s) ≡ Ok p.0 = subst (λ b. cond b (fitted i types.text s) (channel (argument i s)) ≡ Ok p.0) n p.1 in
    int_computed _ r (LengthOf ns s) (rules.buffered (value_found s) (channel_found (argument i s) p.0 q), refl) p.2

-- a string that isn't constant, or a channel
of_computed : (ns : Names) (i : ℕ) (s r : Term) → (value_found s).constant ≡ false → and_then (measurable (argument i s)) (λ x. Ok (Computed types.int (expr.Apply op.Len (x ∷ [])))) ≡ Ok r → LengthOf ns s r
of_computed ns i s r c e = go (is_text (kind_of s)) refl
  where
    go : (b : Bool) → is_text (kind_of s) ≡ b → LengthOf ns s r
    go false h = of_channel ns i s r h e
    go true h =
        let p = ok_then (measurable (argument i s)) (λ x. Ok (Computed types.int (expr.Apply op.Len (x ∷ [])))) r e in
        let g : Gives ns callees.Len (value_found s ∷ []) (value (typed types.int)) =
        subst (λ b. Gives ns callees.Len (value_found s ∷ []) (value (record { constant = b; kind = Typed types.int }))) c (rules.length (value_found s) (of_term (λ k. is_text k ≡ true) s h)) in
        int_computed _ r (LengthOf ns s) (g, refl) p.2

length_found : (ns : Names) (i : ℕ) (s r : Term) → term_fits s ≡ true → len_of i s ≡ Ok r → LengthOf ns s r
length_found ns i (Fixed k (constants.Text x)) r fs e =
    let z : Constant = constants.Number (pos (length x)) in
    let p = constant_found i (Typed types.int) (Ok z) r e in
    subst (LengthOf ns (Fixed k (constants.Text x))) p.2 (rules.length (sorts.constant k) fs, subst (λ c. is_of_kind (Typed types.int) c ≡ true) (same_ok z p.0 p.1) refl)
length_found ns i (Fixed k (constants.Number z)) r fs e = of_channel ns i (Fixed k (constants.Number z)) r (integer_no_text k fs) e
length_found ns i (Fixed k (constants.Flag b)) r fs e = of_channel ns i (Fixed k (constants.Flag b)) r (flag_no_text k fs) e
length_found ns i Nothing r fs e = of_computed ns i Nothing r refl e
length_found ns i (Computed t x) r fs e = of_computed ns i (Computed t x) r refl e

-- ---- calls of functions

passed_found : (ts : List ValueType) (as' : List Argument) (xs : List Expr) → length as' ≡ length ts → passed ts as' ≡ Ok xs → ArePassed ts (map value_at as')
passed_found [] [] xs n e = rules.none
passed_found (t ∷ ts) (a ∷ as') xs n e =
    let p = ok_then (into t a) _ xs e in
    let q = ok_then (passed ts as') _ xs p.2 in
    rules.more t ts (value_at a) (map value_at as') (into_found t a p.0 p.1) (passed_found ts as' q.0 (omega (arith, n)) q.1)
passed_found [] (a ∷ as') xs n e = absurd (omega (arith, n))
passed_found (t ∷ ts) [] xs n e = absurd (omega (arith, n))

results_are : (rs : List ValueType) (x : Expr) → (sort_of (results rs x) ≡ given rs) × (operand_fits (results rs x) ≡ true)
results_are [] x = (refl, refl)
results_are (t ∷ []) x = (refl, refl)
results_are (t ∷ u ∷ ts) x = (refl, refl)

called_found : (ns : Names) (at f : ℕ) (s : Signature) (as' : List Argument) (o : Operand) → s ≡ signature_of ns f → called at f s as' ≡ Ok o → GivesTo ns (callees.Function f) as' o
called_found ns at f s as' o is e =
    let p = ok_if (length as' == length s.params) (and_then (passed s.params as') (λ xs. Ok (results s.results (expr.Call f xs)))) at source.WrongCount o e in
    let q = ok_then (passed s.params as') (λ xs. Ok (results s.results (expr.Call f xs))) o p.1 in
    let g : ArePassed (signature_of ns f).params (map value_at as') = subst (λ (x : Signature). ArePassed x.params (map value_at as')) is (passed_found s.params as' q.0 (eqb-true _ _ p.0) q.1) in
    let z = results s.results (expr.Call f q.0) in
    let r = results_are s.results (expr.Call f q.0) in
    let h : given (signature_of ns f).results ≡ sort_of z = ap (λ (x : Signature). given x.results) (sym is) ∙ sym r.0 in
    subst (GivesTo ns (callees.Function f) as') (same_ok z o q.2) (subst (Gives ns (callees.Function f) (map value_at as')) h (rules.function f (map value_at as') g), r.1)

function_found : (ns : Names) (at f : ℕ) (s : Option Signature) (as' : List Argument) (o : Operand) → slice_get ns.signatures f ≡ s → called_by at f s as' ≡ Ok o → GivesTo ns (callees.Function f) as' o
function_found ns at f (Some s) as' o is e = called_found ns at f s as' o (ap (λ x. unwrap_or x no_signature) (sym is)) e
function_found ns at f None as' o is e = called_found ns at f no_signature as' o (ap (λ x. unwrap_or x no_signature) (sym is)) e

printed_found : (as' : List Argument) (xs : List Expr) → printables as' ≡ Ok xs → ArePrintable (map value_at as')
printed_found [] xs e = rules.none
printed_found (a ∷ as') xs e =
    let p = ok_then (printable a) _ xs e in
    let q = ok_then (printables as') _ xs p.2 in
    rules.more (value_at a) (map value_at as') (printable_found a p.0 p.1) (printed_found as' q.0 q.1)

pub call_found : (ns : Names) (at : ℕ) (c : Callee) (as' : List Argument) (o : Operand) → AllFit as' → call ns.signatures at c as' ≡ Ok o → GivesTo ns c as' o
call_found ns at (callees.Function f) as' o fs e = function_found ns at f (slice_get ns.signatures f) as' o refl e
call_found ns at callees.Len as' o fs e =
    with_one ns callees.Len at as' _ o fs e (λ a f g. as_term ns callees.Len (a ∷ []) (len_of a.at a.term) o g (λ t h. length_found ns a.at a.term t f h))
call_found ns at callees.Cap as' o fs e =
    with_one ns callees.Cap at as' _ o fs e (λ a f g. as_term ns callees.Cap (a ∷ []) (cap_of a) o g (λ t h.
    let p = ok_then (channel a) _ t h in
    subst (λ (r : Term). GivesTo ns callees.Cap (a ∷ []) (operand.Term r)) (same_ok _ t p.2) (rules.capacity (value_at a) (channel_found a p.0 p.1), refl)))
call_found ns at callees.Itoa as' o fs e =
    with_one ns callees.Itoa at as' _ o fs e (λ a f g. as_term ns callees.Itoa (a ∷ []) (itoa_of a) o g (λ t h.
    let p = ok_then (into types.int a) _ t h in
    subst (λ (r : Term). GivesTo ns callees.Itoa (a ∷ []) (operand.Term r)) (same_ok _ t p.2) (rules.spelled (value_at a) (into_found types.int a p.0 p.1), refl)))
call_found ns at callees.Make as' o fs e = no_fault _ o e
call_found ns at callees.Println as' o fs e =
    let p = ok_then (printables as') _ o e in
    as_nothing ns callees.Println as' _ o (rules.printed (map value_at as') (printed_found as' p.0 p.1)) p.2
call_found ns at (callees.Lock m) as' o fs e = without ns (callees.Lock m) at as' _ o (rules.locked m) e
call_found ns at (callees.Unlock m) as' o fs e = without ns (callees.Unlock m) at as' _ o (rules.unlocked m) e
call_found ns at (callees.Done g) as' o fs e = without ns (callees.Done g) at as' _ o (rules.done g) e
call_found ns at (callees.Wait g) as' o fs e = without ns (callees.Wait g) at as' _ o (rules.waited g) e
call_found ns at callees.Close as' o fs e =
    with_one ns callees.Close at as' _ o fs e (λ a f g. does_nothing ns callees.Close op.Close a (channel a) o g (λ x h. rules.closed (value_at a) (channel_found a x h)))
call_found ns at callees.Panic as' o fs e =
    with_one ns callees.Panic at as' _ o fs e (λ a f g. does_nothing ns callees.Panic op.Panic a (printable a) o g (λ x h. rules.panics (value_at a) (printable_found a x h)))
call_found ns at callees.Exit as' o fs e =
    with_one ns callees.Exit at as' _ o fs e (λ a f g. does_nothing ns callees.Exit op.Exit a (into types.int a) o g (λ x h. rules.exits (value_at a) (into_found types.int a x h)))
call_found ns at (callees.Add w) as' o fs e =
    with_one ns (callees.Add w) at as' _ o fs e (λ a f g. does_nothing ns (callees.Add w) (op.Add w) a (into types.int a) o g (λ x h. rules.added w (value_at a) (into_found types.int a x h)))
