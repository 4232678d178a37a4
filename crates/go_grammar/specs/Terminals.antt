-- The kinds of tokens by name. A keyword or an operator has its place in the list of keywords or operators as its number;
-- the law `terminals` says that each of these is the place of its spelling.
use Rattle.go_ast.specs.declared.token.TokenKind.{TokenKind}
use Rattle.go_ast.specs.declared.token.TokenKind.TheVariants as kind

-- ---- keywords

abbrev pub break_word : TokenKind
break_word = kind.Keyword 0

abbrev pub case_word : TokenKind
case_word = kind.Keyword 1

abbrev pub chan_word : TokenKind
chan_word = kind.Keyword 2

abbrev pub const_word : TokenKind
const_word = kind.Keyword 3

abbrev pub continue_word : TokenKind
continue_word = kind.Keyword 4

abbrev pub default_word : TokenKind
default_word = kind.Keyword 5

abbrev pub defer_word : TokenKind
defer_word = kind.Keyword 6

abbrev pub else_word : TokenKind
else_word = kind.Keyword 7

abbrev pub fallthrough_word : TokenKind
fallthrough_word = kind.Keyword 8

abbrev pub for_word : TokenKind
for_word = kind.Keyword 9

abbrev pub func_word : TokenKind
func_word = kind.Keyword 10

abbrev pub go_word : TokenKind
go_word = kind.Keyword 11

abbrev pub if_word : TokenKind
if_word = kind.Keyword 13

abbrev pub import_word : TokenKind
import_word = kind.Keyword 14

abbrev pub package_word : TokenKind
package_word = kind.Keyword 17

abbrev pub range_word : TokenKind
range_word = kind.Keyword 18

abbrev pub return_word : TokenKind
return_word = kind.Keyword 19

abbrev pub select_word : TokenKind
select_word = kind.Keyword 20

abbrev pub struct_word : TokenKind
struct_word = kind.Keyword 21

abbrev pub switch_word : TokenKind
switch_word = kind.Keyword 22

abbrev pub var_word : TokenKind
var_word = kind.Keyword 24

-- ---- operators

abbrev pub plus : TokenKind
plus = kind.Operator 0

abbrev pub minus : TokenKind
minus = kind.Operator 1

abbrev pub star : TokenKind
star = kind.Operator 2

abbrev pub slash : TokenKind
slash = kind.Operator 3

abbrev pub percent : TokenKind
percent = kind.Operator 4

abbrev pub ampersand : TokenKind
ampersand = kind.Operator 5

abbrev pub bar : TokenKind
bar = kind.Operator 6

abbrev pub caret : TokenKind
caret = kind.Operator 7

abbrev pub shift_left : TokenKind
shift_left = kind.Operator 8

abbrev pub shift_right : TokenKind
shift_right = kind.Operator 9

abbrev pub and_not : TokenKind
and_not = kind.Operator 10

abbrev pub plus_assign : TokenKind
plus_assign = kind.Operator 11

abbrev pub minus_assign : TokenKind
minus_assign = kind.Operator 12

abbrev pub star_assign : TokenKind
star_assign = kind.Operator 13

abbrev pub slash_assign : TokenKind
slash_assign = kind.Operator 14

abbrev pub percent_assign : TokenKind
percent_assign = kind.Operator 15

abbrev pub ampersand_assign : TokenKind
ampersand_assign = kind.Operator 16

abbrev pub bar_assign : TokenKind
bar_assign = kind.Operator 17

abbrev pub caret_assign : TokenKind
caret_assign = kind.Operator 18

abbrev pub shift_left_assign : TokenKind
shift_left_assign = kind.Operator 19

abbrev pub shift_right_assign : TokenKind
shift_right_assign = kind.Operator 20

abbrev pub and_not_assign : TokenKind
and_not_assign = kind.Operator 21

abbrev pub both : TokenKind
both = kind.Operator 22

abbrev pub either : TokenKind
either = kind.Operator 23

abbrev pub arrow : TokenKind
arrow = kind.Operator 24

abbrev pub increment : TokenKind
increment = kind.Operator 25

abbrev pub decrement : TokenKind
decrement = kind.Operator 26

abbrev pub equal : TokenKind
equal = kind.Operator 27

abbrev pub less : TokenKind
less = kind.Operator 28

abbrev pub greater : TokenKind
greater = kind.Operator 29

abbrev pub assign : TokenKind
assign = kind.Operator 30

abbrev pub bang : TokenKind
bang = kind.Operator 31

abbrev pub not_equal : TokenKind
not_equal = kind.Operator 33

abbrev pub less_equal : TokenKind
less_equal = kind.Operator 34

abbrev pub greater_equal : TokenKind
greater_equal = kind.Operator 35

abbrev pub define : TokenKind
define = kind.Operator 36

abbrev pub left_parenthesis : TokenKind
left_parenthesis = kind.Operator 38

abbrev pub right_parenthesis : TokenKind
right_parenthesis = kind.Operator 39

abbrev pub left_bracket : TokenKind
left_bracket = kind.Operator 40

abbrev pub right_bracket : TokenKind
right_bracket = kind.Operator 41

abbrev pub left_brace : TokenKind
left_brace = kind.Operator 42

abbrev pub right_brace : TokenKind
right_brace = kind.Operator 43

abbrev pub comma : TokenKind
comma = kind.Operator 44

abbrev pub semicolon : TokenKind
semicolon = kind.Operator 45

abbrev pub point : TokenKind
point = kind.Operator 46

abbrev pub colon : TokenKind
colon = kind.Operator 47
