use Rattle.std.proofs.Common.{rules, sym, ◌∙◌}
use Rattle.std.specs.FinMap.{same_entries_map}
use Rattle.sn_record.proofs.Compared.{in_all}
use Rattle.sn_record.proofs.same.is_same_record.Goals as goal

pub returns : goal.returns
returns c = (
  λ _. same_entries_map _ _ (sym c.as_slice-entries.ensures.entries ∙ in_all _ _ c.loop-i.i (search rules) c.if-entries-others.false c.loop-i.invariant ∙ c.as_slice-others.ensures.entries),
  λ _. search rules,
)
