use Rattle.std.proofs.Common.{sym, subst, map, ◌++◌, ◌∷◌}
use Rattle.sn_streams.specs.Trees.{Allows, passing, with_own}
use Rattle.sn_net.specs.declared.net.Merge.TheVariants.{Free}
use Rattle.sn_net.specs.Cell.{Passing}
use Rattle.sn_net.specs.Dispatchers.{Network, branch_child, replica_child, router}
use Rattle.sn_net.specs.Route.{choice_key, of_record, split_key}
use Rattle.sn_model.specs.Meaning.{tree}
use Rattle.sn_model.proofs.Forms.{tree-Choice, tree-Split}
use Rattle.sn_model.proofs.Neighbours.{turned}
use Rattle.sn_model.proofs.laws.neighbours_may_change_places.Goals as goal

pub returns-clause-choice : goal.returns-clause-choice
returns-clause-choice c = λ s place branches faces x y before behind others yss apart h.
    let r = router place (of_record (choice_key faces)) in
    let after : Network → Type 0 = λ t. Allows t ((before ++ y ∷ x ∷ behind) ∷ others) yss in
    let earlier : Network → Type 0 = λ t. Allows t ((before ++ x ∷ y ∷ behind) ∷ others) yss in
    subst after (sym (tree-Choice s place Free branches faces))
    (turned r x y apart (with_own r Passing (branch_child (map (tree s) branches) (passing r Passing))) before behind others yss
    (subst earlier (tree-Choice s place Free branches faces) h))

pub returns-clause-split : goal.returns-clause-split
returns-clause-split c = λ s place body id x y before behind others yss apart h.
    let r = router place (of_record (split_key id)) in
    let after : Network → Type 0 = λ t. Allows t ((before ++ y ∷ x ∷ behind) ∷ others) yss in
    let earlier : Network → Type 0 = λ t. Allows t ((before ++ x ∷ y ∷ behind) ∷ others) yss in
    subst after (sym (tree-Split s place Free body id))
    (turned r x y apart (with_own r Passing (replica_child (tree s body) (passing r Passing))) before behind others yss
    (subst earlier (tree-Split s place Free body id) h))
