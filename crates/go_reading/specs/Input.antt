-- What a parser reads from, and the steps that every rule is made of.
use Rattle.std.specs.Prelude.{◌≡◌, ℕ, if◌then◌else◌, nat_lt, List, [], ◌∷◌, Option, Some, None, Result, Ok, Err}
use Rattle.go_ast.specs.declared.span.Span.{Span}
use Rattle.go_ast.specs.declared.name.Name.{Name}
use Rattle.go_ast.specs.declared.token.TokenKind.{TokenKind}
use Rattle.go_ast.specs.declared.token.TokenKind.TheVariants as kind
use Rattle.go_grammar.specs.Words.{Word}
use Rattle.go_grammar.specs.Trees.{name_of}
use Rattle.go_reading.specs.declared.fault.Fault.{Fault}
use Rattle.go_reading.specs.declared.fault.Fault.TheVariants.{Unexpected, TooDeep}
use Rattle.go_reading.specs.declared.fault.ParseError.{ParseError}
use Rattle.go_reading.specs.declared.fault.ParseError.TheVariants as errors
use Rattle.go_reading.specs.Kinds.{is}

-- the token behind the end
abbrev pub no_word : Word
no_word = record { kind = kind.Name; bytes = []; span = record { start = 0; end = 0 } }

abbrev pub head : List Word → Word
head [] = no_word
head (w ∷ ws) = w

abbrev pub next : List Word → List Word
next [] = []
next (w ∷ ws) = ws

-- the kind of the next token, or `None` at the end
abbrev pub kind_of : List Word → Option TokenKind
kind_of [] = None
kind_of (w ∷ ws) = Some w.kind

-- ---- readers: a value or a fault, and the tokens from there on

abbrev pub Outcome : Type 0 → Type 0
Outcome A = Result A Fault × List Word

abbrev pub Reader : Type 0 → Type 0
Reader A = List Word → Outcome A

abbrev pub go_on : {A B : Type 0} → Result A Fault → List Word → (A → Reader B) → Outcome B
go_on (Ok x) rest f = f x rest
go_on (Err e) rest f = (Err e, rest)

infixl 10 ◌>>=◌
abbrev pub ◌>>=◌ : {A B : Type 0} → Reader A → (A → Reader B) → Reader B
p >>= f = λ ts. go_on (p ts).0 (p ts).1 f

infixl 10 ◌>>◌
abbrev pub ◌>>◌ : {A B : Type 0} → Reader A → Reader B → Reader B
p >> q = p >>= (λ _. q)

abbrev pub pure : {A : Type 0} → A → Reader A
pure a = λ ts. (Ok a, ts)

abbrev pub fail : {A : Type 0} → Fault → Reader A
fail e = λ ts. (Err e, ts)

abbrev pub refuse : {A : Type 0} → Reader A
refuse = fail Unexpected

abbrev pub too_deep : {A : Type 0} → Reader A
too_deep = fail TooDeep

abbrev pub peek : Reader (Option TokenKind)
peek = λ ts. (Ok (kind_of ts), ts)

-- takes the token, and makes a value of it
unfoldable pub take_as : {A : Type 0} → (Word → A) → Reader A
take_as f = λ ts. (Ok (f (head ts)), next ts)

abbrev pub span_of : Word → Span
span_of word = word.span

abbrev pub take_span : Reader Span
take_span = take_as span_of

-- a name, and the offset of its end
abbrev pub named_of : Word → Name × ℕ
named_of word = (name_of word, word.span.end)

abbrev pub take_name : Reader (Name × ℕ)
take_name = take_as named_of

unfoldable pub expect_as : {A : Type 0} → (Word → A) → TokenKind → Reader A
expect_as f wanted = λ ts. if is (kind_of ts) wanted then (Ok (f (head ts)), next ts) else (Err Unexpected, ts)

abbrev pub expect : TokenKind → Reader Span
expect = expect_as span_of

abbrev pub expect_name : Reader (Name × ℕ)
expect_name = expect_as named_of kind.Name

abbrev pub if_kind : {A : Type 0} → TokenKind → Reader A → Reader A → Option TokenKind → Reader A
if_kind wanted p q kind = if is kind wanted then p else q

-- where fewer levels may be than are needed
abbrev pub limited : {A : Type 0} → ℕ → ℕ → Reader A → Reader A
limited d h p = if nat_lt d h then too_deep else p

-- a value and its height
abbrev pub Tall : Type 0 → Type 0
Tall A = A × ℕ

-- ---- what a function that reads ensures: the reader's outcome, unless memory fails

abbrev pub Fails : {A : Type 0} → Outcome A → ParseError → List Word → Type 0
Fails outcome errors.Memory new = Unit {0}
Fails outcome (errors.Fault e) new = outcome ≡ (Err e, new)

abbrev pub Reads : {A : Type 0} → Outcome A → Result A ParseError → List Word → Type 0
Reads outcome (Ok a) new = outcome ≡ (Ok a, new)
Reads outcome (Err e) new = Fails outcome e new
