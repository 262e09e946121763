use Rattle.std.proofs.Common.{◌≡◌, Ok, subst, sym}
use Rattle.std.specs.List.{All}
use Rattle.std.proofs.lemmas.List.Elements.{All-push}
use Rattle.sn_input.specs.Steps.{Fits}
use Rattle.serde_json.specs.View.{members_view, view}
use Rattle.sn_json.specs.Keys.{label_of}
use Rattle.sn_json.specs.Reading.{entries_in, entry_of, value_of}
use Rattle.sn_json.proofs.OneByOne.{behind, entry_read}
use Rattle.sn_json.proofs.read.read_members.Goals as goal

pub loop-key-preserved : goal.loop-key-preserved
loop-key-preserved c =
    let appended = c.in_ok-append.ensures.ok in
    let entry = subst (λ k. entry_of k (label_of k) (value_of (view c.in-Some.json.now)) ≡ Ok c.in_ok-entry.entry) c.as_str.ensures.value c.in_ok-entry.ensures.entry in (
      subst (λ done. entries_in (members_view c.into_iter-key-iterator.result) ≡ behind done (entries_in (members_view c.next.new.self))) (sym appended)
          (entry_read _ _ _ _ _ _ _ c.loop-key.invariant.0 c.in-Some.ensures.steps entry),
      subst (All Fits) (sym appended) (All-push Fits _ _ c.loop-key.invariant.1 c.in_ok-entry.ensures.fits),
    )
