use Rattle.std.proofs.Common.{◌≡◌, ◌++◌, map, ap, subst, ◌∙◌}
use Rattle.std.proofs.lemmas.Result.{on_ok_weaker}
use Rattle.std.specs.Prelude.{OnOk}
use Rattle.sn_net.specs.Cell.{CellState, cell_emits, cell_next, new_cell}
use Rattle.sn_net.specs.Item.{Rec}
use Rattle.sn_pass.specs.Flowing.{flows}
use Rattle.sn_pass.specs.Keeping.{Keeping, state_or}
use Rattle.sn_pass.specs.States.{held}
use Rattle.sn_pass.specs.declared.kept.Kept.{Kept}
use Rattle.sn_pass.proofs.leaf.offer_record.Goals as goal

pub returns-clause-gives : goal.returns-clause-gives
returns-clause-gives c =
    subst (λ (h : CellState). OnOk c.offer-offered.result (map flows c.offer-offered.new.out ≡ map flows c.args.out.now ++ cell_emits c.args.place c.args.patterns.now h (Rec c.args.taken)))
    (c.in_ok-holding.ensures ∙ ap (λ (k : Kept). state_or (new_cell c.args.patterns.now) (held k)) c.replace.ensures.value) c.offer-offered.ensures.gives

pub returns-clause-keeps : goal.returns-clause-keeps
returns-clause-keeps c =
    on_ok_weaker c.offer-offered.result
    (λ next. ap (λ (k : Keeping CellState). state_or (new_cell c.args.patterns.now) k) c.keep_cell.ensures ∙ next
    ∙ ap (λ (h : CellState). cell_next c.args.patterns.now h (Rec c.args.taken)) (c.in_ok-holding.ensures ∙ ap (λ (k : Kept). state_or (new_cell c.args.patterns.now) (held k)) c.replace.ensures.value))
    c.offer-offered.ensures.keeps
