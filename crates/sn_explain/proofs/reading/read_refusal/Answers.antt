use Rattle.std.proofs.Common.{◌++◌, ◌∙◌, ap}
use Rattle.std.proofs.lemmas.Slice.Eq.{strip_prefix_is}
use Rattle.std.proofs.lemmas.Bool.Decides.{Decides-eqb}
use Rattle.sn_explain.proofs.Told.{told}
use Rattle.sn_explain.proofs.reading.read_refusal.Goals as goal

pub returns-in-Some : goal.returns-in-Some
returns-in-Some c =
    let spelled = rw c.in-Some.is at (strip_prefix_is Decides-eqb c.args.line.now c.words.result.now c.strip_prefix.result c.strip_prefix.ensures.cases) in
    told c.args.line.now c.in-Some.rest.now _ c.read_rest.result (spelled ∙ ap (λ words. words ++ c.in-Some.rest.now) c.words.ensures)
    c.read_rest.ensures.kind c.read_rest.ensures.number
