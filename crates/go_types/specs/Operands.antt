-- The rules of operators and calls on operands that were checked, with the code of what they compute. Each fault stands
-- at the offset of the smallest expression that breaks its rule. Go specification, "Operators", "Shifts" under
-- "Arithmetic operators", "Index expressions", "Simple slice expressions", "Conversions", "Built-in functions".
use Rattle.std.specs.Prelude.{ℕ, pos, Bool, true, false, not, ◌&&◌, ◌||◌, List, [], ◌∷◌, ◌++◌, length, Option, Some, None, is_some, Ok, slice_get, ◌==◌, nat_lt, if◌then◌else◌}
use Rattle.std.specs.Option.{option_to_list}
use Rattle.go_ast.specs.declared.kind.SourceKind.TheVariants as source
use Rattle.go_ast.specs.declared.expr.UnaryOp.{UnaryOp}
use Rattle.go_ast.specs.declared.expr.UnaryOp.TheVariants as unary'
use Rattle.go_meaning.specs.declared.expr.Expr.{Expr}
use Rattle.go_meaning.specs.declared.expr.Expr.TheVariants as expr
use Rattle.go_meaning.specs.declared.expr.Op.{Op}
use Rattle.go_meaning.specs.declared.expr.Op.TheVariants as op
use Rattle.go_meaning.specs.declared.value.Value.{Value}
use Rattle.go_meaning.specs.declared.value.Value.TheVariants as value'
use Rattle.go_value.specs.declared.operation.IntOp.{IntOp}
use Rattle.go_value.specs.declared.operation.IntOp.TheVariants as int
use Rattle.go_value.specs.Operations.{is_division, is_shift}
use Rattle.go_value.specs.Integers.{wrap}
use Rattle.go_value.specs.declared.kind.Kind.{Kind}
use Rattle.go_types.specs.declared.types.Basic.TheVariants as basic'
use Rattle.go_types.specs.declared.types.ValueType.{ValueType}
use Rattle.go_types.specs.declared.kinds.Untyped.TheVariants as untyped
use Rattle.go_types.specs.declared.kinds.OperandKind.{OperandKind}
use Rattle.go_types.specs.declared.kinds.OperandKind.TheVariants as kind
use Rattle.go_types.specs.declared.operator.Operator.{Operator}
use Rattle.go_types.specs.declared.operator.Operator.TheVariants.{Arithmetic, Compare, Both, Either}
use Rattle.go_types.specs.declared.conversion.Conversion.{Conversion}
use Rattle.go_types.specs.declared.conversion.Conversion.TheVariants.{Convert, Spell, Keep}
use Rattle.go_types.specs.declared.constant.Constant.{Constant}
use Rattle.go_types.specs.declared.constant.Constant.TheVariants as constant
use Rattle.go_types.specs.declared.names.Callee.{Callee}
use Rattle.go_types.specs.declared.names.Callee.TheVariants as callee
use Rattle.go_types.specs.declared.names.Signature.{Signature}
use Rattle.go_types.specs.declared.operand.Term.{Term}
use Rattle.go_types.specs.declared.operand.Term.TheVariants.{Constant as Fixed, Nil, Value as Computed}
use Rattle.go_types.specs.declared.operand.Operand.{Operand}
use Rattle.go_types.specs.declared.operand.Operand.TheVariants as operand
use Rattle.go_types.specs.declared.operand.Part.{Part}
use Rattle.go_types.specs.declared.operand.Argument.{Argument}
use Rattle.go_types.specs.Types as types
use Rattle.go_types.specs.Kinds.{common, default_type, is_assignable, is_integer, is_text, is_flag}
use Rattle.go_types.specs.Operators.{is_for, result_kind, shift_kind, unary_kind, conversion_to}
use Rattle.go_types.specs.Checking.{Checked, and_then, fault}
use Rattle.go_types.specs.Constants.{is_negative, is_zero, value_in, within, binary_constant, unary_constant, converted}

-- ---- terms

abbrev pub kind_of : Term → OperandKind
kind_of (Fixed k c) = k
kind_of Nil = kind.Nil
kind_of (Computed t e) = kind.Typed t

abbrev pub kind_at : Argument → OperandKind
kind_at a = kind_of a.term

-- the type that a kind has or takes of its own accord; `nil` has none
abbrev pub own_type : OperandKind → ValueType
own_type (kind.Typed t) = t
own_type (kind.Untyped u) = default_type u
own_type kind.Nil = types.int

abbrev pub nil : Expr
nil = expr.Value (value'.Channel None)

-- the code of a term in a type that it can take, if a constant fits it
abbrev pub fitted : ℕ → ValueType → Term → Checked Expr
fitted at t (Fixed k c) = and_then (within at (kind.Typed t) c) (λ d. Ok (expr.Value (value_in t d)))
fitted at t Nil = Ok nil
fitted at t (Computed s e) = Ok e

abbrev pub wrong : {A : Type 0} → Argument → Checked A
wrong a = fault a.at source.WrongType

-- a value takes the type that its place asks for
abbrev pub into : ValueType → Argument → Checked Expr
into t a = if is_assignable t (kind_at a) then fitted a.at t a.term else wrong a

-- a value where nothing asks for a type
abbrev pub in_own_type : Argument → Checked Expr
in_own_type a = fitted a.at (own_type (kind_at a)) a.term

abbrev pub or_wrong : {A : Type 0} → ℕ → Option A → Checked A
or_wrong at (Some x) = Ok x
or_wrong at None = fault at source.WrongType

abbrev pub is_negative_constant : Term → Bool
is_negative_constant (Fixed k c) = is_negative c
is_negative_constant t = false

abbrev pub is_zero_constant : Term → Bool
is_zero_constant (Fixed k c) = is_zero c
is_zero_constant t = false

-- An operand is a value: a call gives one result, and a function, a type or a package is none.
abbrev pub valued : ℕ → Operand → Checked Argument
valued at (operand.Term t) = Ok (record { at = at; term = t })
valued at (operand.Results ts e) = fault at source.WrongCount
valued at o = fault at source.WrongType

abbrev pub value : Part → Checked Argument
value p = valued p.at p.operand

abbrev pub valued_part : Part → Checked Part
valued_part p = and_then (value p) (λ a. Ok (record { at = a.at; operand = operand.Term a.term }))

-- ---- binary operators

abbrev pub divides : Operator → Bool
divides (Arithmetic i) = is_division i
divides o = false

abbrev pub shifts : Operator → Bool
shifts (Arithmetic i) = is_shift i
shifts o = false

-- what an operator does with operands of a type
abbrev pub operation : Operator → ValueType → Expr → Expr → Expr
operation (Arithmetic int.Add) t x y = expr.Apply (if types.is_text t then op.Join else op.Arithmetic int.Add) (x ∷ y ∷ [])
operation (Arithmetic i) t x y = expr.Apply (op.Arithmetic i) (x ∷ y ∷ [])
operation (Compare r) t x y = expr.Apply (op.Compare r) (x ∷ y ∷ [])
operation Both t x y = expr.And x y
operation Either t x y = expr.Or x y

abbrev pub constant_at : ℕ → OperandKind → Checked Constant → Checked Term
constant_at at k r = and_then r (λ c. and_then (within at k c) (λ d. Ok (Fixed k d)))

-- both operands have the type, where they are constant they fit it, and a constant divisor isn't 0
abbrev pub computed : ℕ → Operator → ValueType → Argument → Argument → Checked Term
computed at o t a b =
    and_then (fitted a.at t a.term) (λ x.
    and_then (fitted b.at t b.term) (λ y.
    if divides o && is_zero_constant b.term then fault at source.ConstDivide
    else Ok (Computed (own_type (result_kind o (kind.Typed t))) (operation o t x y))))

abbrev pub constants : ℕ → Operator → OperandKind → ℕ → Constant → ℕ → Constant → Checked Term
constants at o k i c j d =
    and_then (within i k c) (λ c.
    and_then (within j k d) (λ d.
    constant_at at (result_kind o k) (binary_constant at o c d)))

-- an operator on two operands of one kind
abbrev pub of_kind : ℕ → Operator → OperandKind → ℕ → Term → ℕ → Term → Checked Term
of_kind at o k i (Fixed p c) j (Fixed q d) = constants at o k i c j d
of_kind at o k i s j t = computed at o (own_type k) (record { at = i; term = s }) (record { at = j; term = t })

abbrev pub plain : ℕ → Operator → Argument → Argument → Checked Term
plain at o a b =
    and_then (or_wrong at (common (kind_at a) (kind_at b))) (λ k.
    if is_for o k then of_kind at o k a.at a.term b.at b.term else fault at source.WrongType)

-- the count of a shift that isn't constant: an untyped one takes its own type
abbrev pub shifted : Operator → ValueType → Argument → Argument → Checked Term
shifted o t a b = and_then (in_own_type b) (λ y. and_then (fitted a.at t a.term) (λ x. Ok (Computed t (operation o t x y))))

abbrev pub shift_by : ℕ → Operator → Argument → OperandKind → Argument → Checked Term
shift_by at o a (kind.Typed t) b = shifted o t a b
shift_by at o a k b = fault at source.UntypedShift

abbrev pub shift_of : ℕ → Operator → ℕ → Term → ℕ → Term → Checked Term
shift_of at o i (Fixed k c) j (Fixed l d) = constant_at at k (binary_constant at o c d)
shift_of at o i s j t = shift_by at o (record { at = i; term = s }) (kind_of s) (record { at = j; term = t })

abbrev pub shift : ℕ → Operator → Argument → Argument → Checked Term
shift at o a b =
    if not (is_some (shift_kind (kind_at a) (kind_at b))) then fault at source.WrongType
    else (if is_negative_constant b.term then fault b.at source.ConstRange
    else shift_of at o a.at a.term b.at b.term)

unfoldable pub binary : ℕ → Operator → Argument → Argument → Checked Term
binary at o a b = if shifts o then shift at o a b else plain at o a b

-- ---- unary operators

abbrev pub before : UnaryOp → Expr → Expr
before unary'.Plus x = expr.Apply op.Plus (x ∷ [])
before unary'.Minus x = expr.Apply op.Minus (x ∷ [])
before unary'.Not x = expr.Apply op.Not (x ∷ [])
before unary'.Flip x = expr.Apply op.Flip (x ∷ [])
before unary'.Receive x = expr.Receive x

abbrev pub unary_of : ℕ → UnaryOp → OperandKind → Term → Checked Term
unary_of at o k (Fixed l c) = constant_at at k (unary_constant at o l c)
unary_of at o k Nil = fault at source.WrongType
unary_of at o k (Computed t e) = Ok (Computed (own_type k) (before o e))

unfoldable pub unary : ℕ → UnaryOp → Argument → Checked Term
unary at o a = and_then (or_wrong at (unary_kind o (kind_at a))) (λ k. unary_of at o k a.term)

-- ---- indices, cuts and sizes

abbrev pub place_type : OperandKind → ValueType
place_type (kind.Typed t) = t
place_type k = types.int

-- an index, a bound or a size: an integer that isn't a negative constant; an untyped one takes `int`
unfoldable pub place : Argument → Checked Expr
place a =
    if not (is_integer (kind_at a)) then wrong a
    else (if is_negative_constant a.term then fault a.at source.ConstRange
    else fitted a.at (place_type (kind_at a)) a.term)

-- a string
abbrev pub text_at : ℕ → Argument → Checked Expr
text_at at a = if is_text (kind_at a) then fitted a.at types.text a.term else fault at source.WrongType

unfoldable pub index : ℕ → Argument → Argument → Checked Term
index at s i = and_then (text_at at s) (λ x. and_then (place i) (λ y. Ok (Computed (types.basic basic'.Uint8) (expr.Apply op.Index (x ∷ y ∷ [])))))

abbrev pub place_if : Option Argument → Checked (List Expr)
place_if None = Ok []
place_if (Some a) = and_then (place a) (λ x. Ok (x ∷ []))

-- a part of a string, with the bounds that are given
unfoldable pub cut : ℕ → Argument → Option Argument → Option Argument → Checked Term
cut at s low high =
    and_then (text_at at s) (λ x.
    and_then (place_if low) (λ i.
    and_then (place_if high) (λ j.
    Ok (Computed types.text (expr.Apply (op.Cut (is_some low) (is_some high)) (x ∷ i ++ j))))))

-- ---- calls

abbrev pub op_of : Conversion → Op
op_of (Convert k) = op.Convert k
op_of Spell = op.Spell
op_of Keep = op.Keep

abbrev pub converted_term : ℕ → Conversion → ValueType → Term → Checked Term
converted_term at how t (Fixed k c) = and_then (converted at how t c) (λ d. Ok (Fixed (kind.Typed t) d))
converted_term at how t Nil = Ok (Computed t (expr.Apply (op_of how) (nil ∷ [])))
converted_term at how t (Computed s e) = Ok (Computed t (expr.Apply (op_of how) (e ∷ [])))

unfoldable pub convert : ℕ → ValueType → Argument → Checked Term
convert at t a = and_then (or_wrong at (conversion_to t (kind_at a))) (λ how. converted_term at how t a.term)

-- a channel; `nil` alone is none
abbrev pub channel_of : OperandKind → Option ValueType
channel_of (kind.Typed t) = if types.is_channel t then Some t else None
channel_of k = None

abbrev pub channel : Argument → Checked Expr
channel a = and_then (or_wrong a.at (channel_of (kind_at a))) (λ t. fitted a.at t a.term)

-- a string or a channel
abbrev pub measurable : Argument → Checked Expr
measurable a = if is_text (kind_at a) then fitted a.at types.text a.term else channel a

-- `len` of a constant string is constant
abbrev pub len_of : ℕ → Term → Checked Term
len_of at (Fixed k (constant.Text s)) = constant_at at (kind.Typed types.int) (Ok (constant.Number (pos (length s))))
len_of at t = and_then (measurable (record { at = at; term = t })) (λ x. Ok (Computed types.int (expr.Apply op.Len (x ∷ []))))

abbrev pub cap_of : Argument → Checked Term
cap_of a = and_then (channel a) (λ x. Ok (Computed types.int (expr.Apply op.Cap (x ∷ []))))

abbrev pub itoa_of : Argument → Checked Term
itoa_of a = and_then (into types.int a) (λ x. Ok (Computed types.text (expr.Apply op.Itoa (x ∷ []))))

abbrev pub is_printable : OperandKind → Bool
is_printable k = is_integer k || (is_text k || is_flag k)

-- a value of type bool, integer or string
abbrev pub printable : Argument → Checked Expr
printable a = if is_printable (kind_at a) then in_own_type a else wrong a

abbrev pub printables : List Argument → Checked (List Expr)
printables [] = Ok []
printables (a ∷ as') = and_then (printable a) (λ x. and_then (printables as') (λ xs. Ok (x ∷ xs)))

-- each value takes the type of its parameter
abbrev pub passed : List ValueType → List Argument → Checked (List Expr)
passed ts [] = Ok []
passed [] (a ∷ as') = Ok []
passed (t ∷ ts) (a ∷ as') = and_then (into t a) (λ x. and_then (passed ts as') (λ xs. Ok (x ∷ xs)))

-- a call that gives nothing
abbrev pub nothing : Expr → Operand
nothing e = operand.Results [] e

abbrev pub no_arguments : ℕ → List Argument → Expr → Checked Operand
no_arguments at [] e = Ok (nothing e)
no_arguments at (a ∷ as') e = fault at source.WrongCount

-- the one argument that a call has to have
abbrev pub only : ℕ → List Argument → Checked Argument
only at [] = fault at source.WrongCount
only at (a ∷ []) = Ok a
only at (a ∷ b ∷ as') = fault at source.WrongCount

abbrev pub term : Checked Term → Checked Operand
term r = and_then r (λ t. Ok (operand.Term t))

-- an operation on one operand that gives nothing
abbrev pub does : Op → Checked Expr → Checked Operand
does o r = and_then r (λ x. Ok (nothing (expr.Apply o (x ∷ []))))

-- a call of a function gives a value, or nothing, or several results
abbrev pub results : List ValueType → Expr → Operand
results (t ∷ []) e = operand.Term (Computed t e)
results ts e = operand.Results ts e

abbrev pub called : ℕ → ℕ → Signature → List Argument → Checked Operand
called at f s as' =
    if length as' == length s.params then and_then (passed s.params as') (λ xs. Ok (results s.results (expr.Call f xs)))
    else fault at source.WrongCount

abbrev pub no_signature : Signature
no_signature = record { params = []; results = [] }

abbrev pub called_by : ℕ → ℕ → Option Signature → List Argument → Checked Operand
called_by at f (Some s) as' = called at f s as'
called_by at f None as' = called at f no_signature as'

-- `close`, `panic`, `os.Exit` and `Add` of a wait group
abbrev pub call_effect : ℕ → Callee → List Argument → Checked Operand
call_effect at callee.Close as' = and_then (only at as') (λ a. does op.Close (channel a))
call_effect at callee.Panic as' = and_then (only at as') (λ a. does op.Panic (printable a))
call_effect at callee.Exit as' = and_then (only at as') (λ a. does op.Exit (into types.int a))
call_effect at (callee.Add g) as' = and_then (only at as') (λ a. does (op.Add g) (into types.int a))
call_effect at c as' = fault at source.WrongType

-- `fmt.Println`
abbrev pub print : List Argument → Checked Operand
print as' = and_then (printables as') (λ xs. Ok (nothing (expr.Apply (op.Println (length as')) xs)))

-- A call of a function or a method; first comes the offset of what is called. The first operand of `make` is a type.
abbrev pub call : List Signature → ℕ → Callee → List Argument → Checked Operand
call ss at (callee.Function f) as' = called_by at f (slice_get ss f) as'
call ss at callee.Len as' = and_then (only at as') (λ a. term (len_of a.at a.term))
call ss at callee.Cap as' = and_then (only at as') (λ a. term (cap_of a))
call ss at callee.Itoa as' = and_then (only at as') (λ a. term (itoa_of a))
call ss at callee.Make as' = fault at source.WrongType
call ss at callee.Println as' = print as'
call ss at (callee.Lock m) as' = no_arguments at as' (expr.Apply (op.Lock m) [])
call ss at (callee.Unlock m) as' = no_arguments at as' (expr.Apply (op.Unlock m) [])
call ss at (callee.Done g) as' = no_arguments at as' (expr.Apply (op.Done g) [])
call ss at (callee.Wait g) as' = no_arguments at as' (expr.Apply (op.Wait g) [])
call ss at c as' = call_effect at c as'

-- a conversion: first come its offset and that of the type
abbrev pub call_type : ℕ → ℕ → ValueType → List Argument → Checked Operand
call_type at callee t as' = and_then (only callee as') (λ a. term (convert at t a))

-- the value that a variable of a type begins with
abbrev pub zero_number : Option Kind → Value
zero_number None = value'.Flag false
zero_number (Some k) = value'.Number (wrap k (pos 0))

unfoldable pub zero_value : ValueType → Value
zero_value t =
    if types.is_channel t then value'.Channel None
    else (if types.is_text t then value'.Text [] else zero_number (types.kind_of t))

-- `make` of a channel, with a size or without
abbrev pub made_type : Operand → Option ValueType
made_type (operand.Type t) = if types.is_channel t then Some t else None
made_type o = None

unfoldable pub made : Part → Option Argument → Checked Term
made p size =
    and_then (or_wrong p.at (made_type p.operand)) (λ t.
    and_then (place_if size) (λ xs.
    Ok (Computed t (expr.Apply (op.Make (zero_value (types.element t)) (is_some size)) xs))))

-- first comes the offset of `make`; the size was found to be a value
abbrev pub make : ℕ → List Part → Checked Term
make at [] = fault at source.WrongCount
make at (p ∷ []) = made p None
make at (p ∷ q ∷ []) = and_then (value q) (λ a. made p (Some a))
make at (p ∷ q ∷ r ∷ ps) = fault at source.WrongCount
