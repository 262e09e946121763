use Rattle.std.proofs.Common.{[], ap, ◌∙◌}
use Rattle.sn_net.specs.declared.net.Merge.TheVariants.{Free}
use Rattle.sn_net.specs.Face.{is_numbered}
use Rattle.sn_net.proofs.Variants.{numbered-Choice, numbered-Split}
use Rattle.sn_tests.proofs.net.split_of.Goals as goal

pub returns : goal.returns
returns g c =
    let boxed = rw c.expect.ensures at c.new-2.ensures in
    numbered-Split [] 0 Free c.expect.result 1 ∙ ap (is_numbered []) boxed ∙ numbered-Choice [] 0 Free c.sinks.result c.new.result ∙ c.sinks.ensures
