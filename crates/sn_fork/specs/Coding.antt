-- By which a proof tells two forks apart.
use Rattle.std.specs.Prelude.{◌≡◌, ◌⊎◌, ℕ, ℤ, List}
use Rattle.std.proofs.Common.{refl}
use mathlib.Core.Logic.{inl, inr}
use base.Stored.{coded_unit}
use Rattle.std.specs.Coded.{Coded, code_by, coded×, coded⊎, coded_list, coded_ℕ, coded_ℤ}
use Rattle.sn_streams.specs.Keys.{Key, Own, Branch, Inside, Value}
use Rattle.sn_model.specs.contracts.run.Run as run
use Rattle.sn_model.specs.declared.run.Run.{Run}
use Rattle.sn_model.specs.contracts.step.Step as step
use Rattle.sn_model.specs.declared.step.Step.{Step}
use Rattle.sn_dispatch.specs.contracts.det_fork.Decision as decision
use Rattle.sn_dispatch.specs.declared.det_fork.Decision.{Decision}
use Rattle.sn_stream.specs.Coding.{end_code}
use Rattle.sn_stream.specs.Ends.{End}
use Rattle.sn_stream.specs.contracts.item.StreamItem as item
use Rattle.sn_stream.specs.declared.item.StreamItem.{StreamItem}
use Rattle.sn_fork.specs.Seen.{ChildSeen, Forking}

-- past the children, to the body of a star, to a branch, or to a replica
abbrev pub Parts : Type 0
Parts = (Unit {0} ⊎ Unit {0}) ⊎ (ℕ ⊎ ℤ)

abbrev pub parts_of_key : Key → Parts
parts_of_key Own = inl (inl tt)
parts_of_key Inside = inl (inr tt)
parts_of_key (Branch i) = inr (inl i)
parts_of_key (Value n) = inr (inr n)

abbrev pub key_of_parts : Parts → Key
key_of_parts (inl (inl _)) = Own
key_of_parts (inl (inr _)) = Inside
key_of_parts (inr (inl i)) = Branch i
key_of_parts (inr (inr n)) = Value n

pub same_key : (k : Key) → key_of_parts (parts_of_key k) ≡ k
same_key Own = refl
same_key Inside = refl
same_key (Branch i) = refl
same_key (Value n) = refl

abbrev pub key_code : Coded Key
key_code = code_by Parts (coded⊎ (coded⊎ coded_unit coded_unit) (coded⊎ coded_ℕ coded_ℤ)) parts_of_key key_of_parts same_key

abbrev pub child_code : Coded ChildSeen
child_code =
    code_by (Key × (End × (List StreamItem × End))) (coded× key_code (coded× end_code (coded× (coded_list item.the_row.coded) end_code)))
    (λ c. (c.key, (c.to, (c.held, c.from)))) (λ p. record { key = p.0; to = p.1.0; held = p.1.1.0; from = p.1.1.1 }) (λ _. refl)

abbrev pub forking_code : Coded Forking
forking_code =
    code_by (Run × (List ℕ × (ℕ × (List Step × (End × (List StreamItem × (List Decision × (List ChildSeen × (End × List StreamItem)))))))))
    (coded× run.the_row.coded (coded× (coded_list coded_ℕ) (coded× coded_ℕ (coded× (coded_list step.the_row.coded) (coded× end_code (coded× (coded_list item.the_row.coded)
    (coded× (coded_list decision.the_row.coded) (coded× (coded_list child_code) (coded× end_code (coded_list item.the_row.coded))))))))))
    (λ f. (f.run, (f.path, (f.left, (f.steps, (f.input, (f.waiting, (f.decisions, (f.children, (f.output, f.held))))))))))
    (λ p. record {
      run = p.0;
      path = p.1.0;
      left = p.1.1.0;
      steps = p.1.1.1.0;
      input = p.1.1.1.1.0;
      waiting = p.1.1.1.1.1.0;
      decisions = p.1.1.1.1.1.1.0;
      children = p.1.1.1.1.1.1.1.0;
      output = p.1.1.1.1.1.1.1.1.0;
      held = p.1.1.1.1.1.1.1.1.1;
    })
    (λ _. refl)
