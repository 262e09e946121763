use Rattle.std.proofs.Common.{◌≡◌, ℕ, true, false, List, sym}
use Rattle.std.specs.Prelude.{Option, None, Some}
use mathlib.Core.List.{IsPrefix}
use Rattle.sn_record.specs.declared.item.Fault.{Fault as FaultAt}
use Rattle.sn_net.specs.Item.{ModelItem}
use Rattle.sn_io.specs.Told.{AppendsPrefix}
use Rattle.sn_io.proofs.Told.{prefix_none}
use Rattle.sn_output.specs.Printed.{printed}
use Rattle.sn_model.specs.Run.{MayGive, given, input_of, net_of, setting_of}
use Rattle.sn_model.specs.declared.run.Run.{Run}
use Rattle.sn_model.proofs.Lists.{one_list-allowed}
use Rattle.sn_stream.specs.declared.item.StreamItem.{StreamItem}
use Rattle.sn_crew.specs.Root.{HasWritten, items_among}
use Rattle.sn_crew.proofs.Allowed.{fault_end, fault_text, part_of_all, whole_end, whole_text}
use Rattle.sn_printing.specs.Farmed.{HasPrinted}

allowed : (run : Run) → MayGive run (given run)
allowed run = one_list-allowed (setting_of run) (net_of run) (input_of run)

module _ (names : List (List ℕ)) (run : Run) where
  -- nothing was written
  pub unwritten : (held : Option (List ℕ)) → ∥ ((ys : List ModelItem) × MayGive run ys × AppendsPrefix held held (printed names ys)) ∥₁
  unwritten held = ∣ (given run, allowed run, prefix_none held (printed names (given run))) ∣₁

  module _ (entries : List StreamItem) (before now : Option (List ℕ)) where
    pub crew_part : IsPrefix (items_among entries) (given run) → AppendsPrefix before now (printed names (items_among entries))
        → ∥ ((ys : List ModelItem) × MayGive run ys × AppendsPrefix before now (printed names ys)) ∥₁
    crew_part begins part = ∣ (given run, allowed run, part_of_all names (given run) entries before now begins part) ∣₁

    pub crew_whole : items_among entries ≡ given run → HasWritten names entries before now true None → HasPrinted names run None before now
    crew_whole is written = record {
      text = printed names (items_among entries);
      all = written.all;
      stream = ∣ (given run, allowed run, whole_text names (given run) entries before now is, sym (whole_end names (given run) entries before now is written)) ∣₁;
    }

    pub crew_faulted : (fault : FaultAt) → IsPrefix (items_among entries) (given run) → HasWritten names entries before now false (Some fault) → HasPrinted names run (Some fault) before now
    crew_faulted fault begins written = record {
      text = printed names (items_among entries);
      all = written.all;
      stream = ∣ (given run, allowed run, fault_text names (given run) entries before now fault begins written, sym (fault_end names (given run) entries before now fault begins written)) ∣₁;
    }
