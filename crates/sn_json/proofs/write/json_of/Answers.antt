use Rattle.std.proofs.Common.{arith, ap, sym, ◌∙◌}
use Rattle.std.proofs.lemmas.List.{drop_all}
use Rattle.std.specs.FinMap.{entries, len-entries}
use Rattle.serde_json.specs.View.{members_view}
use Rattle.sn_json.specs.Writing.{members_of}
use Rattle.sn_json.proofs.Written.{entry_at, put_before}
use Rattle.sn_json.proofs.write.json_of.Goals as goal

pub put_entry-requires-clause-named : goal.put_entry-requires-clause-named
put_entry-requires-clause-named c = (entry_at _ _ c.requires _ _ c.at.ensures.entry).key

pub put_entry-requires-clause-printable : goal.put_entry-requires-clause-printable
put_entry-requires-clause-printable c = (entry_at _ _ c.requires _ _ c.at.ensures.entry).printable

pub loop-i-init : goal.loop-i-init
loop-i-init c =
    let count = c.len-i.ensures ∙ len-entries c.args.shown.now in (
      omega (arith, count),
      ap members_view c.new-members.ensures.empty ∙ sym (ap (members_of c.args.names.now) (drop_all c.len-i.result (entries c.args.shown.now) (omega (arith, count)))),
    )

pub at-requires : goal.at-requires
at-requires c =
    let count = len-entries c.args.shown.now in
    omega (arith, count, c.loop-i.invariant.0, c.loop-i-test.true)

pub loop-i-preserved : goal.loop-i-preserved
loop-i-preserved c = (
  omega (arith, c.loop-i.invariant.0),
  put_before _ _ _ _ c.loop-i-test.true c.at.ensures.entry _ _ c.in_ok-put_entry.ensures c.loop-i.invariant.1,
)
