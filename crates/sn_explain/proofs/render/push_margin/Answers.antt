use Rattle.std.proofs.Common.{◌++◌, ◌∷◌, [], ◌∙◌, ap, sym, take, append_assoc}
use Rattle.sn_explain.specs.Rendered.{margin}
use Rattle.sn_explain.proofs.Digits.{margin_more}
use Rattle.sn_explain.proofs.render.push_margin.Goals as goal

pub loop-digit-preserved : goal.loop-digit-preserved
loop-digit-preserved c =
    c.in_ok-extend_from_slice.ensures.ok
    ∙ ap (λ text. text ++ 32 ∷ []) c.loop-digit.invariant
    ∙ append_assoc c.args.out.now (margin (take c.loop-digit._digit-index c.args.digits.now)) (32 ∷ [])
    ∙ ap (λ blanks. c.args.out.now ++ blanks) (sym (margin_more c.args.digits.now c.loop-digit._digit-index c.loop-digit-test.true))
