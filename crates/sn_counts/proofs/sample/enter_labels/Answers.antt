use Rattle.std.proofs.Common.{[], ◌∷◌, codes, refl, sym, ap, ◌∙◌, subst}
use Rattle.std.proofs.lemmas.Result.{err_from_is_err_and}
use Rattle.sn_names.specs.Names.{entered}
use Rattle.sn_sample.specs.Records.{HasLabels}
use Rattle.sn_counts.proofs.Sampling.{labels_held, not_entered}
use Rattle.sn_counts.proofs.sample.enter_labels.Goals as goal

pub returns-in_err-number_of-clause-refused : goal.returns-in_err-number_of-clause-refused
returns-in_err-number_of-clause-refused c =
    let p = err_from_is_err_and c.from_residual.result c.from_residual.ensures.1 in
    rw (p.1, p.2) (not_entered c.args.names.now c.args.names.now (codes "k" ∷ codes "n" ∷ []) (codes "v") c.number_of.result c.in_err-number_of.field-0.0 refl c.in_err-number_of.was c.number_of.ensures.too_many)

pub returns-clause-held : goal.returns-clause-held
returns-clause-held c =
    let first = c.in_ok-number_of.ensures.ok in
    let second = c.in_ok-number_of-2.ensures.ok ∙ ap (λ names. entered names (codes "k")) first in
    let all = c.in_ok-number_of-3.ensures.ok ∙ ap (λ names. entered names (codes "n")) second in
    subst HasLabels (sym all) (labels_held c.args.names.now)
