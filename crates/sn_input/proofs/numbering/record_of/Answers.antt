use Rattle.std.proofs.Common.{◌≡◌, ◌∙◌, ◌∷◌, [], ◌++◌, append_assoc, refl, arith}
use Rattle.std.specs.Vec.Iter.{into_iter_items}
use Rattle.std.proofs.lemmas.Result.{err_from_is_err_and}
use Rattle.sn_names.specs.Names.{entered, label_number}
use Rattle.sn_input.specs.Numbered.{with_entries}
use Rattle.sn_input.specs.Steps.{Fits}
use Rattle.sn_input.proofs.Numbers.{names_more, number_stays, lacks_names, made_more, front_all, numbered_fit}
use Rattle.sn_input.proofs.numbering.record_of.Goals as goal

pub loop-entry-init : goal.loop-entry-init
loop-entry-init c = record {
  all = refl;
  names = refl;
  few = omega (arith, c.count.ensures.number, c.count.ensures.most);
  made = c.in_ok-made.ensures.made;
}

pub returns-in_err-id-clause-refused : goal.returns-in_err-id-clause-refused
returns-in_err-id-clause-refused c =
    let at = c.loop-entry in
    let p = err_from_is_err_and c.from_residual-in_err-id.result c.from_residual-in_err-id.ensures.1 in
    let steps : into_iter_items at.entry-iterator ≡ c.in-Some.entry ∷ into_iter_items c.next.new.self = c.in-Some.ensures.steps.0 in
    let whole = c.into_iter-entry-iterator.ensures.into_iter_gives.0 ∙ c.into_vec-entry-items.ensures in
    let all : at.yielded ++ c.in-Some.entry ∷ into_iter_items c.next.new.self ≡ c.args.entries = (rw (← steps) at.invariant.all) ∙ whole in
    let lacks = rw c.as_slice.ensures at c.in_err-id.ensures.refused in
    rw (p.1, p.2) (lacks_names c.args.names.now c.args.entries at.yielded _ c.in-Some.entry all at.names (at.invariant.names) _ lacks)

pub loop-entry-preserved : goal.loop-entry-preserved
loop-entry-preserved c =
    let at = c.loop-entry in
    let start = c.args.names.now in
    let entries = into_iter_items c.into_iter-entry-iterator.result in
    let steps : into_iter_items at.entry-iterator ≡ c.in-Some.entry ∷ into_iter_items c.next.new.self = c.in-Some.ensures.steps.0 in
    let all : at.yielded ++ c.in-Some.entry ∷ into_iter_items c.next.new.self ≡ entries = rw (← steps) at.invariant.all in
    let grown : c.number_of.new.names ≡ entered at.names c.in-Some.entry.label.name = rw c.as_slice.ensures at c.in_ok-id.ensures.entered in
    let number : c.in_ok-id.id ≡ label_number c.number_of.new.names c.in-Some.entry.label.name = rw c.as_slice.ensures at c.in_ok-id.ensures.number in
    record {
      all = append_assoc at.yielded (c.in-Some.entry ∷ []) _ ∙ all;
      names = names_more start entries at.yielded _ c.in-Some.entry all at.names at.invariant.names _ grown;
      few = c.in_ok-id.ensures.few;
      made = made_more start entries at.yielded _ c.in-Some.entry all at.made.items c.push.new.entries.items c.in_ok-id.id at.invariant.made
          (number_stays start entries at.yielded _ c.in-Some.entry all at.names at.invariant.names _ c.in_ok-id.id grown number) c.in_ok-push.ensures.pushed;
    }

pub made_of-requires : goal.made_of-requires
made_of-requires c =
    let at = c.loop-entry in
    let whole = c.into_iter-entry-iterator.ensures.into_iter_gives.0 ∙ c.into_vec-entry-items.ensures in
    numbered_fit (with_entries c.args.names.now (into_iter_items c.into_iter-entry-iterator.result)) at.yielded at.made.items at.invariant.made
    (front_all Fits at.yielded (into_iter_items at.entry-iterator) c.args.entries (at.invariant.all ∙ whole) c.requires)
