-- Dispatchers: where a choice, the tap of a star or a split sends an item.
use Rattle.std.specs.Prelude.{◌==◌, ℕ, ℤ, pos, Bool, false, if◌then◌else◌, List, [], ◌∷◌, Option, None, Some, Result, Ok, Err, unwrap_or}
use Rattle.std.specs.List.{position}
use Rattle.std.specs.Option.{option_map, option_and_then}
use Rattle.std.specs.Ordering.{int_eq}
use Rattle.std.specs.FinMap.{get}
use Rattle.sn_record.specs.LabelSet.{Labels}
use Rattle.sn_record.specs.Record.{Entries, is_match, greater, score}
use Rattle.sn_record.specs.declared.value.Value.{Value}
use Rattle.sn_tagexpr.specs.declared.expr.TagExpr.{TagExpr}
use Rattle.sn_tagexpr.specs.declared.fault.ExprFault.{ExprFault}
use Rattle.sn_tagexpr.specs.Evaluation.{worth}
use Rattle.sn_net.specs.declared.net.Net.{Net}
use Rattle.sn_net.specs.declared.net.Net.TheOpen.{Net-F}
use Rattle.sn_net.specs.declared.routing.Key.{Key}
use Rattle.sn_net.specs.declared.routing.Key.TheVariants as key
use Rattle.sn_net.specs.Answer.{fault_at, number_at, tag_number}
use Rattle.sn_net.specs.Filter.{tag}
use Rattle.sn_net.specs.Item.{ModelItem, Rec, Fault, Stuck}

-- the greatest score of the record against the faces, if it matches a variant of any
abbrev pub best_score : List (List Labels) → Entries → Option ℕ
best_score [] r = None
best_score (face ∷ faces) r = greater (score face r) (best_score faces r)

-- the record's score against the face is n
abbrev pub scores : Entries → ℕ → List Labels → Bool
scores r n face = unwrap_or (option_map (λ size. size == n) (score face r)) false

-- the place of the leftmost face against which the record has the greatest score
abbrev pub best_branch : List (List Labels) → Entries → Option ℕ
best_branch faces r = option_and_then (λ n. position (scores r n) faces) (best_score faces r)

-- a branch, or none
abbrev pub branch_key : Option ℕ → Key
branch_key None = key.Stuck
branch_key (Some i) = key.Branch i

-- A choice sends a record to the branch whose face it matches best, of equals to the leftmost. `faces` are those of its branches.
abbrev pub choice_key : List (List Labels) → Entries → Key
choice_key faces r = branch_key (best_branch faces r)

-- a guard that is 0 keeps a record inside, and one that faults makes a fault of it, at the star's place
abbrev pub guarded : ℕ → Result ℤ ExprFault → Key
guarded place (Ok n) = if int_eq n (pos 0) then key.Inside else key.Bypass
guarded place (Err fault) = key.Broken (fault_at place fault)

-- without a guard, what matches the exit leaves
abbrev pub exit_key : ℕ → Option TagExpr → Entries → Key
exit_key place None r = key.Bypass
exit_key place (Some guard) r = guarded place (worth (tag_number r) guard)

-- The tap of a star lets a record out that matches the exit, where its guard agrees, and sends any other inside.
abbrev pub tap_key : ℕ → Labels → Option TagExpr → Entries → Key
tap_key place exit guard r = if is_match r exit then exit_key place guard r else key.Inside

-- the replica for a value of the tag, or none without the tag
abbrev pub replica_key : Option Value → Key
replica_key None = key.Stuck
replica_key (Some value) = key.Value (number_at (Some value))

-- A split sends a record to the replica for its tag's value.
abbrev pub split_key : ℕ → Entries → Key
split_key id r = replica_key (get r (tag id))

-- the key of a record at a network that is a choice, a star or a split. At other networks there is nothing to choose
abbrev pub record_key : Net-F Net → Entries → Key
record_key (Net-F.Choice place merge branches faces) r = choice_key faces r
record_key (Net-F.Star place merge body exit guard) r = tap_key place exit guard r
record_key (Net-F.Split place merge body id) r = split_key id r
record_key other r = key.Bypass

-- what is no record passes by
abbrev pub of_record : (Entries → Key) → ModelItem → Key
of_record key_of (Rec r) = key_of r
of_record key_of (Fault fault) = key.Bypass
of_record key_of (Stuck place) = key.Bypass

-- the key of an item
abbrev pub key_at : Net-F Net → ModelItem → Key
key_at net = of_record (record_key net)
