use Rattle.std.proofs.Common.{◌≡◌, List, [], ◌∷◌, ◌++◌, map, refl, sym, ap, subst, ◌∙◌, arith}
use Rattle.std.proofs.lemmas.List.{nil_from_length}
use Rattle.std.proofs.lemmas.Result.{err_from_is_err_and}
use Rattle.std.specs.Vec.Iter.{into_iter_items}
use Rattle.sn_io.specs.Causes.{Rose}
use Rattle.sn_io.specs.Told.{AppendsPrefix}
use Rattle.sn_io.proofs.Told.{appended_none, prefix_none}
use Rattle.sn_record.specs.Record.{Entries}
use Rattle.sn_net.specs.Item.{Rec, modelled}
use Rattle.sn_model.specs.Meaning.{one_list}
use Rattle.sn_model.specs.Run.{boxes_of, net_of, setting_of}
use Rattle.sn_once.specs.Rest.{IsOf, rest_of}
use Rattle.sn_once.specs.declared.once.Once.{Once}
use Rattle.sn_output.specs.Printed.{printed}
use Rattle.sn_load.specs.Load.{AreTypedRecords}
use Rattle.sn_plain.proofs.Printing.{not_ended}
use Rattle.sn_plain.proofs.Running.{begun, closed_ended, closed_printed, cut, ended_none, first_typed, held_so_far, printed_all, rest_typed, some_ended, still_going, stream_so_far}
use Rattle.sn_plain.proofs.transcript.print_run.Goals as goal

pub returns-in_err-once-clause-stopped : goal.returns-in_err-once-clause-stopped
returns-in_err-once-clause-stopped g c =
    let p = err_from_is_err_and c.from_residual.result c.from_residual.ensures.1 in
    rw (p.1, p.2) (prefix_none (g.O.Sink.held c.args.out.now) (printed c.args.names.now (one_list (setting_of c.args.run.now) (net_of c.args.run.now) (map Rec c.args.records))))

pub loop-record-init : goal.loop-record-init
loop-record-init g c =
    let all : into_iter_items c.into_iter-record-iterator.result ≡ c.args.records = c.into_iter-record-iterator.ensures.into_iter_gives.0 ∙ c.into_vec-record-items.ensures in
    record {
      before = [];
      made_by = c.in_ok-once.ensures.run;
      so_far = sym (c.in_ok-once.ensures.rest (map Rec c.args.records)) ∙ ap (λ (rs : List Entries). rest_of c.in_ok-once.once (map Rec rs)) (sym all);
      going = refl;
      held = sym (appended_none (g.O.Sink.held c.args.out.now));
      typed = subst (AreTypedRecords (boxes_of c.args.run.now) (net_of c.args.run.now)) (sym all) c.requires;
      later = omega arith;
    }

pub feed-requires-clause-made_by : goal.feed-requires-clause-made_by
feed-requires-clause-made_by g c = subst (λ engine. IsOf engine c.args.run.now) (sym c.into_inner.ensures) c.loop-record.invariant.made_by

pub feed-requires-clause-typed : goal.feed-requires-clause-typed
feed-requires-clause-typed g c =
    first_typed (boxes_of c.args.run.now) (net_of c.args.run.now) (into_iter_items c.loop-record.record-iterator) (into_iter_items c.next.new.self) c.in-Some.record c.in-Some.ensures.steps.0 c.loop-record.invariant.typed

pub returns-in_err-next-clause-stopped : goal.returns-in_err-next-clause-stopped
returns-in_err-next-clause-stopped g c =
    let p = err_from_is_err_and c.from_residual-in_err-next.result c.from_residual-in_err-next.ensures.1 in
    let at = c.loop-record.invariant in
    let stream = one_list (setting_of c.args.run.now) (net_of c.args.run.now) (map Rec c.args.records) in
    let rest = rest_of c.loop-record.engine.value (map Rec (into_iter_items c.loop-record.record-iterator)) in
    let first = g.O.Sink.held c.args.out.now in
    let now = g.O.Sink.held c.loop-record.out in
    rw (p.1, p.2) (begun c.args.names.now stream at.before rest at.going at.so_far first now at.held)

pub returns-in_err-text-clause-stopped : goal.returns-in_err-text-clause-stopped
returns-in_err-text-clause-stopped g c =
    let p = err_from_is_err_and c.from_residual-in_err-text.result c.from_residual-in_err-text.ensures.1 in
    let at = c.loop-record.invariant in
    let stream = one_list (setting_of c.args.run.now) (net_of c.args.run.now) (map Rec c.args.records) in
    let rest = rest_of c.loop-record.engine.value (map Rec (into_iter_items c.loop-record.record-iterator)) in
    let first = g.O.Sink.held c.args.out.now in
    let now = g.O.Sink.held c.loop-record.out in
    rw (p.1, p.2) (begun c.args.names.now stream at.before rest at.going at.so_far first now at.held)

pub returns-in_err-write_whole-clause-stopped : goal.returns-in_err-write_whole-clause-stopped
returns-in_err-write_whole-clause-stopped g c =
    let p = err_from_is_err_and c.from_residual-in_err-write_whole.result c.from_residual-in_err-write_whole.ensures.1 in
    let at = c.loop-record.invariant in
    let stream = one_list (setting_of c.args.run.now) (net_of c.args.run.now) (map Rec c.args.records) in
    let rest = rest_of c.loop-record.engine.value (map Rec (into_iter_items c.loop-record.record-iterator)) in
    let first = g.O.Sink.held c.args.out.now in
    let now = g.O.Sink.held c.loop-record.out in
    let left = map Rec (into_iter_items c.next.new.self) in
    let later = rest_of c.in_ok-next.next left in
    let fed : rest ≡ map modelled c.in_ok-next.given ++ later =
    ap (λ (rs : List Entries). rest_of c.loop-record.engine.value (map Rec rs)) c.in-Some.ensures.steps.0
    ∙ ap (λ (engine : Once). rest_of engine (map Rec (c.in-Some.record ∷ into_iter_items c.next.new.self))) (sym c.into_inner.ensures) ∙ c.in_ok-next.ensures.given left in
    let shown = c.in_ok-text.ensures in
    let after = g.O.Sink.held c.write_whole.new.sink in
    let part : AppendsPrefix now after c.in_ok-text.field-0.text = rw c.as_slice.ensures at c.in_err-write_whole.ensures.part in
    let rose : Rose (g.O.Sink.faults c.args.out.now) (g.O.Sink.faults c.write_whole.new.sink) = omega (arith, at.later, c.in_err-write_whole.ensures.cause.failed) in
    rw (p.1, p.2) (rose, cut c.args.names.now stream at.before rest at.going at.so_far first now at.held c.in_ok-next.given later fed c.in_ok-text.field-0.text c.in_ok-text.field-0.fault shown.text shown.fault after part)

pub returns-then-is_some-clause-ended : goal.returns-then-is_some-clause-ended
returns-then-is_some-clause-ended g c =
    let at = c.loop-record.invariant in
    let stream = one_list (setting_of c.args.run.now) (net_of c.args.run.now) (map Rec c.args.records) in
    let rest = rest_of c.loop-record.engine.value (map Rec (into_iter_items c.loop-record.record-iterator)) in
    let first = g.O.Sink.held c.args.out.now in
    let now = g.O.Sink.held c.loop-record.out in
    let left = map Rec (into_iter_items c.next.new.self) in
    let later = rest_of c.in_ok-next.next left in
    let fed : rest ≡ map modelled c.in_ok-next.given ++ later =
    ap (λ (rs : List Entries). rest_of c.loop-record.engine.value (map Rec rs)) c.in-Some.ensures.steps.0
    ∙ ap (λ (engine : Once). rest_of engine (map Rec (c.in-Some.record ∷ into_iter_items c.next.new.self))) (sym c.into_inner.ensures) ∙ c.in_ok-next.ensures.given left in
    let shown = c.in_ok-text.ensures in
    let some = some_ended c.in_ok-text.field-0.fault (sym c.is_some.ensures ∙ c.if-is_some.true) in
    closed_ended c.args.names.now stream at.before rest at.going at.so_far first now at.held c.in_ok-next.given later fed c.in_ok-text.field-0.text c.in_ok-text.field-0.fault shown.text shown.fault some.0 some.1

pub returns-then-is_some-clause-whole : goal.returns-then-is_some-clause-whole
returns-then-is_some-clause-whole g c =
    let at = c.loop-record.invariant in
    let stream = one_list (setting_of c.args.run.now) (net_of c.args.run.now) (map Rec c.args.records) in
    let rest = rest_of c.loop-record.engine.value (map Rec (into_iter_items c.loop-record.record-iterator)) in
    let first = g.O.Sink.held c.args.out.now in
    let now = g.O.Sink.held c.loop-record.out in
    let left = map Rec (into_iter_items c.next.new.self) in
    let later = rest_of c.in_ok-next.next left in
    let fed : rest ≡ map modelled c.in_ok-next.given ++ later =
    ap (λ (rs : List Entries). rest_of c.loop-record.engine.value (map Rec rs)) c.in-Some.ensures.steps.0
    ∙ ap (λ (engine : Once). rest_of engine (map Rec (c.in-Some.record ∷ into_iter_items c.next.new.self))) (sym c.into_inner.ensures) ∙ c.in_ok-next.ensures.given left in
    let shown = c.in_ok-text.ensures in
    let some = some_ended c.in_ok-text.field-0.fault (sym c.is_some.ensures ∙ c.if-is_some.true) in
    let wrote = rw c.as_slice.ensures at c.in_ok-write_whole.ensures.whole in
    closed_printed c.args.names.now stream at.before rest at.going at.so_far first now at.held c.in_ok-next.given later fed c.in_ok-text.field-0.text c.in_ok-text.field-0.fault shown.text shown.fault (g.O.Sink.held c.write_whole.new.sink) some.0 wrote some.1

pub loop-record-preserved : goal.loop-record-preserved
loop-record-preserved g c =
    let at = c.loop-record.invariant in
    let stream = one_list (setting_of c.args.run.now) (net_of c.args.run.now) (map Rec c.args.records) in
    let rest = rest_of c.loop-record.engine.value (map Rec (into_iter_items c.loop-record.record-iterator)) in
    let first = g.O.Sink.held c.args.out.now in
    let now = g.O.Sink.held c.loop-record.out in
    let left = map Rec (into_iter_items c.next.new.self) in
    let later = rest_of c.in_ok-next.next left in
    let fed : rest ≡ map modelled c.in_ok-next.given ++ later =
    ap (λ (rs : List Entries). rest_of c.loop-record.engine.value (map Rec rs)) c.in-Some.ensures.steps.0
    ∙ ap (λ (engine : Once). rest_of engine (map Rec (c.in-Some.record ∷ into_iter_items c.next.new.self))) (sym c.into_inner.ensures) ∙ c.in_ok-next.ensures.given left in
    let shown = c.in_ok-text.ensures in
    let none = not_ended c.in_ok-text.field-0.fault (sym c.is_some.ensures ∙ c.if-is_some.false) in
    let wrote = rw c.as_slice.ensures at c.in_ok-write_whole.ensures.whole in
    record {
      before = at.before ++ c.in_ok-next.given;
      made_by = c.in_ok-next.ensures.kept;
      so_far = stream_so_far c.args.names.now stream at.before rest at.going at.so_far first now at.held c.in_ok-next.given later fed c.in_ok-text.field-0.text c.in_ok-text.field-0.fault shown.text shown.fault none;
      going = still_going c.args.names.now stream at.before rest at.going at.so_far first now at.held c.in_ok-next.given later fed c.in_ok-text.field-0.text c.in_ok-text.field-0.fault shown.text shown.fault none;
      held = held_so_far c.args.names.now stream at.before rest at.going at.so_far first now at.held c.in_ok-next.given later fed c.in_ok-text.field-0.text c.in_ok-text.field-0.fault shown.text shown.fault none (g.O.Sink.held c.write_whole.new.sink) wrote;
      typed = rest_typed (boxes_of c.args.run.now) (net_of c.args.run.now) (into_iter_items c.loop-record.record-iterator) (into_iter_items c.next.new.self) c.in-Some.record c.in-Some.ensures.steps.0 at.typed;
      later = omega (arith, at.later, c.in_ok-write_whole.ensures.cause.later);
    }

pub returns-clause-ended : goal.returns-clause-ended
returns-clause-ended g c =
    let at = c.loop-record.invariant in
    let stream = one_list (setting_of c.args.run.now) (net_of c.args.run.now) (map Rec c.args.records) in
    let rest = rest_of c.loop-record.engine.value (map Rec (into_iter_items c.loop-record.record-iterator)) in
    let first = g.O.Sink.held c.args.out.now in
    let now = g.O.Sink.held c.loop-record.out in
    let none : into_iter_items c.loop-record.record-iterator ≡ [] = nil_from_length (into_iter_items c.loop-record.record-iterator) (sym c.loop-record.record-iterator.rest.ok.0 ∙ c.in-None.ensures.steps.0) in
    ended_none c.args.names.now stream at.before rest at.going at.so_far first now at.held (ap (λ (rs : List Entries). rest_of c.loop-record.engine.value (map Rec rs)) none)

pub returns-clause-whole : goal.returns-clause-whole
returns-clause-whole g c =
    let at = c.loop-record.invariant in
    let stream = one_list (setting_of c.args.run.now) (net_of c.args.run.now) (map Rec c.args.records) in
    let rest = rest_of c.loop-record.engine.value (map Rec (into_iter_items c.loop-record.record-iterator)) in
    let first = g.O.Sink.held c.args.out.now in
    let now = g.O.Sink.held c.loop-record.out in
    let none : into_iter_items c.loop-record.record-iterator ≡ [] = nil_from_length (into_iter_items c.loop-record.record-iterator) (sym c.loop-record.record-iterator.rest.ok.0 ∙ c.in-None.ensures.steps.0) in
    printed_all c.args.names.now stream at.before rest at.going at.so_far first now at.held (ap (λ (rs : List Entries). rest_of c.loop-record.engine.value (map Rec rs)) none)
