use Rattle.std.proofs.Common.{◌≡◌, ◌-◌, ◌+◌, sym, ◌∙◌, subst, drop, true, arith}
use Rattle.std.specs.List.{list_all}
use Rattle.sn_record.specs.Fits.{is_bound}
use Rattle.sn_record.proofs.Fitting.{bound_before}
use Rattle.sn_record.proofs.fits.are_bound.Goals as goal

-- src/fits.rt:26:1
pub returns-else-is_binding : goal.returns-else-is_binding
returns-else-is_binding g c =
    let i = c.loop-left.left - 1 in
    let same : c.loop-left.left ≡ i + 1 = omega (arith, c.loop-left-test.true) in
    sym (bound_before c.args.set.now c.args.entries.now i c.index-entries-left.result (omega (arith, c.loop-left-test.true, c.loop-left.invariant.within)) c.requires
    (sym c.is_binding.ensures ∙ c.if-is_binding.false)
    (subst (λ n. list_all (λ e. is_bound c.args.set.now e.0) (drop n c.args.entries.now) ≡ true) same c.loop-left.invariant.bound))
