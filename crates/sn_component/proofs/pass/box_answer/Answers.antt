use Rattle.std.proofs.Common.{rules, ◌≡◌, ◌<◌, List, length, Some, slice_get, sym, ◌∙◌, subst}
use Rattle.std.proofs.lemmas.Option.{same_Some, slice_get_within}
use Rattle.sn_record.specs.Record.{Matches}
use Rattle.sn_net.specs.Face.{variant_of}
use Rattle.sn_net.specs.declared.expr.BoxProgram.{BoxProgram}
use Rattle.sn_model.specs.Run.{boxes_of, fuel_of}
use Rattle.sn_component.proofs.Passing.{box_gives, box_met}
use Rattle.sn_component.proofs.pass.box_answer.Goals as goal

pub at-program-requires : goal.at-program-requires
at-program-requires g c =
    let (program, there, matches) = box_met (boxes_of c.args.run.now) (fuel_of c.args.run.now) c.args.place c.args.number c.args.r.now c.requires in
    subst (λ (bs : List BoxProgram). c.args.number < length bs) (sym c.boxes.ensures) (slice_get_within (boxes_of c.args.run.now) c.args.number program there)

pub returns : goal.returns
returns g c =
    let (program, there, matches) = box_met (boxes_of c.args.run.now) (fuel_of c.args.run.now) c.args.place c.args.number c.args.r.now c.requires in
    let at : slice_get (boxes_of c.args.run.now) c.args.number ≡ Some c.at-program.result.now = search rules in
    let same : program ≡ c.at-program.result.now = same_Some program c.at-program.result.now (sym there ∙ at) in
    box_gives (boxes_of c.args.run.now) (fuel_of c.args.run.now) c.args.place c.args.number c.at-program.result.now c.args.r.now c.call-items.result at
    (subst (λ (b : BoxProgram). Matches c.args.r.now (variant_of b.input)) same matches) (search rules)
