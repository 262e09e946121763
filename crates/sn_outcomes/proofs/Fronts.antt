-- What may follow a part of a source, by the first of the tokens that follow.
use Rattle.std.proofs.Common.{◌≡◌, ℕ, List, [], ◌∷◌, Option, Some, None, sym, subst}
use Rattle.sn_ast.specs.Terminals.{infix_of, link_of, place_of}
use Rattle.sn_ast.specs.declared.terminal.Infix.{Infix}
use Rattle.sn_ast.specs.declared.terminal.Infix.TheVariants as kind
use Rattle.sn_ast.specs.declared.terminal.Keyword.TheVariants.{If}
use Rattle.sn_ast.specs.declared.terminal.Link.{Link}
use Rattle.sn_ast.specs.declared.terminal.Link.TheVariants as link
use Rattle.sn_ast.specs.declared.terminal.Symbol.{Symbol as SomeSymbol}
use Rattle.sn_ast.specs.declared.terminal.Symbol.TheVariants as symbol
use Rattle.sn_ast.specs.declared.terminal.Terminal.{Terminal}
use Rattle.sn_ast.specs.declared.terminal.Terminal.TheVariants.{Keyword, Symbol}

-- how tight an operator binds
abbrev pub infix_rank : Infix → ℕ
infix_rank kind.Disjunction = 2
infix_rank kind.Conjunction = 3
infix_rank (kind.Comparison op) = 4
infix_rank (kind.Sum op) = 5
infix_rank (kind.Product op) = 6

-- what else may go on from an expression, from a sequence, or from an item
abbrev other_rank : SomeSymbol → ℕ
other_rank symbol.Question = 1
other_rank symbol.Assign = 1
other_rank symbol.Semicolon = 1
other_rank symbol.OpenParen = 7
other_rank s = 0

abbrev pub symbol_rank : SomeSymbol → Option Infix → ℕ
symbol_rank s (Some i) = infix_rank i
symbol_rank s None = other_rank s

-- how tight the first token binds to an expression before it; 0 where it does not
abbrev pub rank : List Terminal → ℕ
rank [] = 0
rank (Symbol s at ∷ ts) = symbol_rank s (infix_of s)
rank (x ∷ ts) = 0

abbrev pub link_rank : Link → ℕ
link_rank (link.Branch det) = 1
link_rank (link.Star det) = 3
link_rank (link.Split det) = 3
link_rank link.Place = 3

abbrev other_link : SomeSymbol → ℕ
other_link symbol.Dots = 2
other_link s = 0

abbrev pub symbol_link : SomeSymbol → Option Link → ℕ
symbol_link s (Some l) = link_rank l
symbol_link s None = other_link s

-- the same of a network before it
abbrev pub net_rank : List Terminal → ℕ
net_rank [] = 0
net_rank (Symbol s at ∷ ts) = symbol_link s (link_of s)
net_rank (Keyword If at ∷ ts) = 3
net_rank (x ∷ ts) = 0

-- the same of a type or a signature before it
abbrev pub type_rank : List Terminal → ℕ
type_rank (Symbol symbol.Bar at ∷ ts) = 2
type_rank (Symbol symbol.Arrow at ∷ ts) = 1
type_rank ts = 0

-- the parts of a list of tokens
abbrev pub behind : List Terminal → List Terminal
behind [] = []
behind (x ∷ ts) = ts

abbrev pub front_place : List Terminal → ℕ
front_place [] = 0
front_place (x ∷ ts) = place_of x

abbrev pub front_infix : List Terminal → Option Infix
front_infix [] = None
front_infix (Symbol s at ∷ ts) = infix_of s
front_infix (x ∷ ts) = None

-- what goes on from equal things and equal tokens
pub along : {X : Type 0} (R : X → List Terminal → Type 0) {x y : X} {us vs : List Terminal} → x ≡ y → us ≡ vs → R y vs → R x us
along {X} R p q d = subst (λ (z : X × List Terminal). R z.0 z.1) (λ i. (sym p i, sym q i)) d
