use Rattle.std.proofs.Common.{◌≡◌, rules}
use Rattle.sn_ast.specs.declared.terminal.Symbol.TheVariants.{Semicolon}
use Rattle.sn_parser.proofs.Steps.{ending_from, ending_to, leads, no_ending}
use Rattle.sn_ast.specs.declared.terminal.Terminal.TheVariants.{Symbol}
use Rattle.sn_parser.specs.Residual.{AfterTypeSig}
use Rattle.sn_parser.specs.Scopes.{after_declaration}
use Rattle.sn_parser.proofs.type_decl.sig_ended.Goals as goal

pub returns-then-ne : goal.returns-then-ne
returns-then-ne c = λ at w all. no_ending _ (search rules)

pub returns : goal.returns
returns c = λ at.
    let a = c.args in
    let i : a.symbol ≡ Semicolon = search rules in
    leads (AfterTypeSig a.around.done a.around.nets a.name a.sig) (Symbol a.symbol at) (after_declaration a.around a.name.at c.leaf.result) c.finish.result c.finish.ensures
    (λ w all. rw (i, c.leaf.ensures) (ending_from, ending_to))
