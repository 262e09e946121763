-- Records of the input type of an accepted claim, and items, are typed for its net.
use Rattle.std.proofs.Common.{◌≡◌, IsTrue, List, [], ◌∷◌, ◌++◌, map, sym, ap, ◌∙◌, subst, append_assoc}
use Rattle.std.specs.List.{All}
use Rattle.std.proofs.lemmas.List.{map-append}
use Rattle.std.proofs.lemmas.List.Elements.{All-map, All-weaker}
use Rattle.std.proofs.lemmas.List.Folds.{Any-from_list_any}
use Rattle.sn_record.specs.Record.{Entries, is_match}
use Rattle.sn_record.proofs.Scores.{is_match-Matches}
use Rattle.sn_record.specs.declared.item.Item.{Item}
use Rattle.sn_record.specs.declared.item.Item.TheVariants as item
use Rattle.sn_net.specs.declared.expr.BoxProgram.{BoxProgram}
use Rattle.sn_net.specs.declared.net.Net.{Net}
use Rattle.sn_net.specs.declared.net.Claim.{Claim}
use Rattle.sn_net.specs.Item.{ModelItem, Rec, modelled}
use Rattle.sn_typing.specs.Typed.{IsTyped, labels_of}
use Rattle.sn_typing.specs.Outline.{outline}
use Rattle.sn_typing.specs.Accepted.{IsAccepted}
use Rattle.sn_typing.proofs.MoreLabels.{more_labels}
use Rattle.sn_typing.proofs.Subsets.{matched_labels}
use Rattle.sn_model.specs.Typed.{AreTyped}
use Rattle.sn_load.specs.Load.{AreTypedRecords}
use Rattle.sn_pieces.specs.Lines.{is_of_type}

-- records of the input type of an accepted claim are typed for its net
module _ (boxes : List BoxProgram) (claim : Claim) (accepted : IsAccepted boxes claim) where
  pub one_typed : (r : Entries) → IsTrue (is_of_type claim.input r) → IsTyped boxes claim.net (Rec r)
  one_typed r is =
      let found = Any-from_list_any (is_match r) claim.input is in
      let v = found.1 in
      (more_labels (outline boxes claim.net) v (labels_of r) (matched_labels r v ((is_match-Matches r v).0 found.4)) (accepted.safe v (found.0, found.2, found.3))).0

  pub records_typed : (records : List Entries) → All (λ r. IsTrue (is_of_type claim.input r)) records → AreTypedRecords boxes claim.net records
  records_typed records all = ∣ All-map (IsTyped boxes claim.net) Rec records (All-weaker (λ r. IsTrue (is_of_type claim.input r)) (λ r. IsTyped boxes claim.net (Rec r)) one_typed records all) ∣₁

-- one record more is an item
pub one_more : (items : List Item) (r : Entries) (left : List Entries) → map modelled (items ++ item.Rec r ∷ []) ++ map Rec left ≡ map modelled items ++ map Rec (r ∷ left)
one_more items r left = ap (λ xs. xs ++ map Rec left) (map-append modelled items (item.Rec r ∷ [])) ∙ append_assoc (map modelled items) (Rec r ∷ []) (map Rec left)

-- typed records are typed items
pub items_typed : (boxes : List BoxProgram) (net : Net) (records : List Entries) (items : List Item) → map modelled items ≡ map Rec records → AreTypedRecords boxes net records → AreTyped boxes net items
items_typed boxes net records items are typed = subst (λ (xs : List ModelItem). ∥ All (IsTyped boxes net) xs ∥₁) (sym are) typed
