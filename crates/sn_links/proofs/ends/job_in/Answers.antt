use Rattle.std.proofs.Common.{subst, sym}
use Rattle.sn_wire.specs.Format.{SpellsJob}
use Rattle.sn_links.proofs.Links.{never_bad}
use Rattle.sn_links.proofs.ends.job_in.Goals as goal

pub unreachable-requires : goal.unreachable-requires
unreachable-requires c =
    never_bad SpellsJob _ c.requires.0 _ c.in-Err-Bad.field-0-is (subst (λ bytes. SpellsJob bytes c.requires.0) (sym c.as_slice.ensures) c.requires.1) c.in-Err-Bad.ensures

pub returns-in-Ok-clause-only : goal.returns-in-Ok-clause-only
returns-in-Ok-clause-only c = λ other spells. c.in-Ok.ensures.1 other (subst (λ bytes. SpellsJob bytes other) (sym c.as_slice.ensures) spells)
