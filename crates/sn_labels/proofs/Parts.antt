-- The labels of a part of a network are labels of the network.
use Rattle.std.proofs.Common.{◌≡◌, ℕ, zero, suc, Bool, IsTrue, List, [], ◌∷◌, map, Option, None, Some, refl, sym, ap, ◌∙◌, subst}
use Rattle.std.specs.Prelude.{slice_get}
use Rattle.std.specs.List.{list_any}
use Rattle.std.specs.Option.{option_and_then, option_map}
use Rattle.sn_record.specs.declared.label.Label.{Label}
use Rattle.sn_record.specs.LabelSet.{contains}
use Rattle.sn_net.specs.declared.net.Net.{Net}
use Rattle.sn_net.specs.declared.net.Net.TheFolds.{fold_out-Net, map-Net}
use Rattle.sn_net.specs.declared.net.Net.TheOpen.{Net-F}
use Rattle.sn_net.specs.declared.net.Net.TheViews.{out-Net}
use Rattle.sn_net.specs.Filter.{tag}
use Rattle.sn_view.specs.Parts.{part_at, part_below}
use Rattle.sn_labels.specs.Labels.{is_label, is_of_level, is_of_net}
use Rattle.sn_labels.proofs.Records.{or_first, or_second}

module _ (l : Label) where
  -- one level of a network, with whether each part has the label
  abbrev pub is_of_form : Net-F Net → Bool
  is_of_form form = is_of_level l (map-Net _ _ (λ part. is_of_net part l) form)

  one_level : (net : Net) → is_of_net net l ≡ is_of_form (out-Net net)
  one_level net = fold_out-Net Bool (is_of_level l) net

  of_branch : (branches : List Net) (i : ℕ) (part : Net) → slice_get branches i ≡ Some part → IsTrue (is_of_net part l) → IsTrue (list_any (λ branch. branch) (map (λ branch. is_of_net branch l) branches))
  of_branch [] i part at there = cc
  of_branch (branch ∷ branches) zero part at there =
      let same : branch ≡ part = cc in
      or_first (is_of_net branch l) _ (subst (λ (p : Net). IsTrue (is_of_net p l)) (sym same) there)
  of_branch (branch ∷ branches) (suc i) part at there = or_second (is_of_net branch l) _ (of_branch branches i part at there)

  of_part_below : (form : Net-F Net) (i : ℕ) (part : Net) → part_below form i ≡ Some part → IsTrue (is_of_net part l) → IsTrue (is_of_form form)
  of_part_below (Net-F.Box place number) i part at there = cc
  of_part_below (Net-F.Filter filter) i part at there = cc
  of_part_below (Net-F.Sync place patterns) i part at there = cc
  of_part_below (Net-F.Serial left right) zero part at there =
      let same : left ≡ part = cc in or_first (is_of_net left l) (is_of_net right l) (subst (λ (p : Net). IsTrue (is_of_net p l)) (sym same) there)
  of_part_below (Net-F.Serial left right) (suc zero) part at there =
      let same : right ≡ part = cc in or_second (is_of_net left l) (is_of_net right l) (subst (λ (p : Net). IsTrue (is_of_net p l)) (sym same) there)
  of_part_below (Net-F.Serial left right) (suc (suc i)) part at there = cc
  of_part_below (Net-F.Choice place merge branches faces) i part at there = of_branch branches i part at there
  of_part_below (Net-F.Star place merge body exit guard) zero part at there =
      let same : body ≡ part = cc in or_first (is_of_net body l) (contains exit l) (subst (λ (p : Net). IsTrue (is_of_net p l)) (sym same) there)
  of_part_below (Net-F.Star place merge body exit guard) (suc i) part at there = cc
  of_part_below (Net-F.Split place merge body id) zero part at there =
      let same : body ≡ part = cc in or_first (is_of_net body l) (is_label (tag id) l) (subst (λ (p : Net). IsTrue (is_of_net p l)) (sym same) there)
  of_part_below (Net-F.Split place merge body id) (suc i) part at there = cc

  of_part : (net : Net) (path : List ℕ) (part : Net) → part_at net path ≡ Some part → IsTrue (is_of_net part l) → IsTrue (is_of_net net l)
  of_part net [] part at there = let same : net ≡ part = cc in subst (λ (p : Net). IsTrue (is_of_net p l)) (sym same) there
  of_part net (i ∷ path) part at there = below (part_below (out-Net net) i) refl at (λ inner is. of_part inner path part is there)
    where
      below : (o : Option Net) → part_below (out-Net net) i ≡ o → option_and_then (λ inner. part_at inner path) o ≡ Some part
          → ((inner : Net) → part_at inner path ≡ Some part → IsTrue (is_of_net inner l)) → IsTrue (is_of_net net l)
      below None is at later = cc
      below (Some inner) is at later = one_level net ∙ of_part_below (out-Net net) i inner is (later inner at)

  -- so are those of one level of a part
  pub of_form : (net : Net) (path : List ℕ) (form : Net-F Net) → option_map out-Net (part_at net path) ≡ Some form → IsTrue (is_of_form form) → IsTrue (is_of_net net l)
  of_form net path form at there = by (part_at net path) refl at
    where
      by : (o : Option Net) → part_at net path ≡ o → option_map out-Net o ≡ Some form → IsTrue (is_of_net net l)
      by None is at = cc
      by (Some part) is at =
          let same : out-Net part ≡ form = cc in
          of_part net path part is (one_level part ∙ ap is_of_form same ∙ there)
