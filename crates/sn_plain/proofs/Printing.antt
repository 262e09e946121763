-- What is printed of items that come one after another.
use Rattle.std.proofs.Common.{◌≡◌, ℕ, List, [], ◌∷◌, ◌++◌, map, refl, sym, ap, ap₂, ◌∙◌, subst, append-nil, append_assoc}
use Rattle.std.specs.Prelude.{true, false, Option, None, Some, is_some}
use Rattle.sn_record.specs.declared.item.Fault.{Fault}
use Rattle.sn_record.specs.declared.item.Item.{Item}
use Rattle.sn_record.specs.declared.item.Item.TheVariants as item
use Rattle.sn_record.specs.Record.{Entries}
use Rattle.sn_net.specs.Item.{modelled}
use Rattle.sn_output.specs.Line.{line}
use Rattle.sn_output.specs.Printed.{printed, ending}
use Rattle.sn_plain.specs.Shown.{Shows}
use Rattle.sn_plain.specs.declared.transcript.Transcript.{Transcript}

module _ (names : List (List ℕ)) where
  -- items behind some that no fault ends
  printed_on : (before more : List Item) → ending (map modelled before) ≡ None → printed names (map modelled (before ++ more)) ≡ printed names (map modelled before) ++ printed names (map modelled more)
  printed_on [] more none = refl
  printed_on (item.Rec r ∷ before) more none =
      ap (λ bytes. line names r ++ bytes) (printed_on before more none) ∙ sym (append_assoc (line names r) (printed names (map modelled before)) (printed names (map modelled more)))
  printed_on (item.Fault fault ∷ before) more none = cc

  -- items behind a fault
  printed_ended : (before more : List Item) (fault : Fault) → ending (map modelled before) ≡ Some fault → printed names (map modelled (before ++ more)) ≡ printed names (map modelled before)
  printed_ended [] more fault some = cc
  printed_ended (item.Rec r ∷ before) more fault some = ap (λ bytes. line names r ++ bytes) (printed_ended before more fault some)
  printed_ended (item.Fault at ∷ before) more fault some = refl

ending_on : (before more : List Item) → ending (map modelled before) ≡ None → ending (map modelled (before ++ more)) ≡ ending (map modelled more)
ending_on [] more none = refl
ending_on (item.Rec r ∷ before) more none = ending_on before more none
ending_on (item.Fault fault ∷ before) more none = cc

ending_ended : (before more : List Item) (fault : Fault) → ending (map modelled before) ≡ Some fault → ending (map modelled (before ++ more)) ≡ Some fault
ending_ended [] more fault some = cc
ending_ended (item.Rec r ∷ before) more fault some = ending_ended before more fault some
ending_ended (item.Fault at ∷ before) more fault some = some

module _ (names : List (List ℕ)) (before : List Item) (old new : Transcript) (shows : Shows names (map modelled before) old) where
  -- nothing is added behind a fault
  ended_by : (more : List Item) (ended : Option Fault) → old.fault ≡ ended → is_some ended ≡ true → Shows names (map modelled (before ++ more)) old
  ended_by more None is some = cc
  ended_by more (Some fault) is some =
      let by = sym shows.fault ∙ is in
      record { text = shows.text ∙ sym (printed_ended names before more fault by); fault = is ∙ sym (ending_ended before more fault by) }

  pub behind_fault : (more : List Item) → is_some old.fault ≡ true → Shows names (map modelled (before ++ more)) old
  behind_fault more some = ended_by more old.fault refl some

  -- the line of a record is added
  pub record_added : (r : Entries) → old.fault ≡ None → new.text ≡ old.text ++ line names r → new.fault ≡ old.fault → Shows names (map modelled (before ++ item.Rec r ∷ [])) new
  record_added r none text same =
      let on = sym shows.fault ∙ none in
      record {
        text =
            text ∙ ap₂ (λ bytes more. bytes ++ more) shows.text (sym (append-nil (line names r)))
            ∙ sym (printed_on names before (item.Rec r ∷ []) on);
        fault = same ∙ none ∙ sym (ending_on before (item.Rec r ∷ []) on);
      }

  -- a fault ends the stream
  pub fault_added : (fault : Fault) → old.fault ≡ None → new.text ≡ old.text → new.fault ≡ Some fault → Shows names (map modelled (before ++ item.Fault fault ∷ [])) new
  fault_added fault none text is =
      let on = sym shows.fault ∙ none in
      record {
        text = text ∙ shows.text ∙ sym (append-nil (printed names (map modelled before))) ∙ sym (printed_on names before (item.Fault fault ∷ []) on);
        fault = is ∙ sym (ending_on before (item.Fault fault ∷ []) on);
      }

-- no fault ended it yet
pub not_ended : (ended : Option Fault) → is_some ended ≡ false → ended ≡ None
not_ended None is = refl
not_ended (Some fault) is = cc

-- one item more
pub added_more : (names : List (List ℕ)) (before yielded : List Item) (x : Item) (new : Transcript)
    → Shows names (map modelled ((before ++ yielded) ++ x ∷ [])) new → Shows names (map modelled (before ++ (yielded ++ x ∷ []))) new
added_more names before yielded x new shows = subst (λ (items : List Item). Shows names (map modelled items) new) (append_assoc before yielded (x ∷ [])) shows
