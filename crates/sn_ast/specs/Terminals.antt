-- Where a token stands, and what it can be in the grammar.
use Rattle.std.specs.Prelude.{ℕ, true, false, Option, Some, None}
use Rattle.sn_ast.specs.declared.label.LabelAt.{LabelAt}
use Rattle.sn_ast.specs.declared.tag_expr.Operator.TheVariants.{Add, Sub, Mul, Div, Rem, Lt, Le, Gt, Ge, Eq, Ne}
use Rattle.sn_ast.specs.declared.terminal.Bracket.{Bracket}
use Rattle.sn_ast.specs.declared.terminal.Bracket.TheVariants.{Paren, Brace, Square}
use Rattle.sn_ast.specs.declared.terminal.Infix.{Infix}
use Rattle.sn_ast.specs.declared.terminal.Infix.TheVariants.{Product, Sum, Comparison, Conjunction, Disjunction}
use Rattle.sn_ast.specs.declared.terminal.Link.{Link}
use Rattle.sn_ast.specs.declared.terminal.Link.TheVariants.{Branch, Star as StarLink, Split, Place}
use Rattle.sn_ast.specs.declared.terminal.Sign.{Sign}
use Rattle.sn_ast.specs.declared.terminal.Sign.TheVariants.{Minus as Negative, Not}
use Rattle.sn_ast.specs.declared.terminal.Symbol.{Symbol}
use Rattle.sn_ast.specs.declared.terminal.Symbol.TheVariants.{Equal, NotEqual, Less, LessEqual, Greater, GreaterEqual, Plus, Minus, Star, Slash, Percent, AndAnd, BarBar, Bar, Bang, BangBang, StarStar, At, CloseParen, CloseBrace, CloseBracket}
use Rattle.sn_ast.specs.declared.terminal.Terminal.{Terminal}
use Rattle.sn_ast.specs.declared.terminal.Terminal.TheVariants as terminal

abbrev pub place_of : Terminal → ℕ
place_of (terminal.Name name) = name.at
place_of (terminal.Tag name) = name.at
place_of (terminal.Number value at) = at
place_of (terminal.Literal text at) = at
place_of (terminal.Keyword keyword at) = at
place_of (terminal.Symbol symbol at) = at

-- what a symbol is between two operands, in the order of how tight it binds
abbrev pub infix_of : Symbol → Option Infix
infix_of Star = Some (Product Mul)
infix_of Slash = Some (Product Div)
infix_of Percent = Some (Product Rem)
infix_of Plus = Some (Sum Add)
infix_of Minus = Some (Sum Sub)
infix_of Less = Some (Comparison Lt)
infix_of LessEqual = Some (Comparison Le)
infix_of Greater = Some (Comparison Gt)
infix_of GreaterEqual = Some (Comparison Ge)
infix_of Equal = Some (Comparison Eq)
infix_of NotEqual = Some (Comparison Ne)
infix_of AndAnd = Some Conjunction
infix_of BarBar = Some Disjunction
infix_of symbol = None

-- what a symbol is before an operand
abbrev pub sign_of : Symbol → Option Sign
sign_of Minus = Some Negative
sign_of Bang = Some Not
sign_of symbol = None

-- what a symbol is after a part of a network: the doubled one is deterministic, and one places it
abbrev pub link_of : Symbol → Option Link
link_of BarBar = Some (Branch true)
link_of Bar = Some (Branch false)
link_of StarStar = Some (StarLink true)
link_of Star = Some (StarLink false)
link_of BangBang = Some (Split true)
link_of Bang = Some (Split false)
link_of At = Some Place
link_of symbol = None

-- a name is the label of a field, and a tag that of a tag
abbrev pub label_of : Terminal → Option LabelAt
label_of (terminal.Name name) = Some (record { tag = false; name = name })
label_of (terminal.Tag name) = Some (record { tag = true; name = name })
label_of token = None

-- the symbol that closes a bracket
abbrev pub closing : Bracket → Symbol
closing Paren = CloseParen
closing Brace = CloseBrace
closing Square = CloseBracket
