-- The parts of a network that fits its boxes fit them.
use Rattle.std.proofs.Common.{◌≡◌, ℕ, zero, suc, List, [], ◌∷◌, refl, sym, ap, subst, ◌∙◌}
use Rattle.std.specs.Prelude.{slice_get, Option, None, Some, unwrap_or}
use Rattle.std.specs.List.{All}
use Rattle.std.specs.Option.{option_and_then}
use mathlib.Core.Logic.{∥∥₁_map}
use Rattle.std.proofs.lemmas.List.Elements.{All-head, All-tail}
use Rattle.sn_net.specs.declared.expr.BoxProgram.{BoxProgram}
use Rattle.sn_net.specs.declared.net.Net.{Net}
use Rattle.sn_net.specs.declared.net.Net.TheOpen.{Net-F}
use Rattle.sn_net.specs.declared.net.Net.TheFolds.{ind-Net}
use Rattle.sn_net.specs.declared.net.Net.TheViews.{out-Net, out-roll-Net}
use Rattle.sn_net.specs.declared.filter.Filter.{Filter}
use Rattle.sn_net.specs.declared.net.Net.TheVariants as form
use Rattle.sn_net.specs.Filter.{IsClosed}
use Rattle.sn_net.specs.WellFormed.{FitsBoxes, IsWellFormed}
use Rattle.sn_net.proofs.Sound.{parts, parts_formed}
use Rattle.sn_net.proofs.Fits.{filter_closed}
use Rattle.sn_view.specs.Parts.{part_at, part_below}

some_is : {X : Type 0} (P : X → Type 0) (x y : X) → Some x ≡ Some y → P x → P y
some_is {X} P x y is p = let f : Option X → X = λ o. unwrap_or o x in subst P (ap f is) p

in_list : (P : Net → Type 0) (nets : List Net) (i : ℕ) (p : Net) → All P nets → slice_get nets i ≡ Some p → P p
in_list P [] i p all is = absurd (let none : None ≡ Some p = is in cc)
in_list P (net ∷ nets) zero p all is = some_is P net p is (All-head P net nets all)
in_list P (net ∷ nets) (suc i) p all is = in_list P nets i p (All-tail P net nets all) is

below_has : (P : Net → Type 0) (x : Net-F Net) (i : ℕ) (p : Net) → All P (parts x) → part_below x i ≡ Some p → P p
below_has P (Net-F.Box place number) i p all is = absurd (cc)
below_has P (Net-F.Filter filter) i p all is = absurd (cc)
below_has P (Net-F.Sync place patterns) i p all is = absurd (cc)
below_has P (Net-F.Serial left right) zero p all is = some_is P left p is (All-head P left (right ∷ []) all)
below_has P (Net-F.Serial left right) (suc zero) p all is = some_is P right p is (All-head P right [] (All-tail P left (right ∷ []) all))
below_has P (Net-F.Serial left right) (suc (suc i)) p all is = absurd (cc)
below_has P (Net-F.Choice place merge branches faces) i p all is = in_list P branches i p all is
below_has P (Net-F.Star place merge body exit guard) zero p all is = some_is P body p is (All-head P body [] all)
below_has P (Net-F.Star place merge body exit guard) (suc i) p all is = absurd (cc)
below_has P (Net-F.Split place merge body id) zero p all is = some_is P body p is (All-head P body [] all)
below_has P (Net-F.Split place merge body id) (suc i) p all is = absurd (cc)

module _ (boxes : List BoxProgram) where
  abbrev Keeps : Net → Type 0
  Keeps net = (i : ℕ) (p : Net) → IsWellFormed boxes net → part_below (out-Net net) i ≡ Some p → IsWellFormed boxes p

  below_formed : (net : Net) → Keeps net
  below_formed = ind-Net Keeps (λ x y known i p formed is.
      below_has (IsWellFormed boxes) x i p (parts_formed boxes x formed) (ap (λ form. part_below form i) (sym (out-roll-Net x)) ∙ is))

  -- the part at the end of a path
  pub part_formed : (net : Net) (path : List ℕ) (p : Net) → IsWellFormed boxes net → part_at net path ≡ Some p → IsWellFormed boxes p
  part_formed net [] p formed is = some_is (IsWellFormed boxes) net p is formed
  part_formed net (i ∷ path) p formed is = at (part_below (out-Net net) i) refl is (λ q below there. part_formed q path p (below_formed net i q formed below) there)
    where
      at : (o : Option Net) → part_below (out-Net net) i ≡ o → option_and_then (λ part. part_at part path) o ≡ Some p
          → ((q : Net) → part_below (out-Net net) i ≡ Some q → part_at q path ≡ Some p → IsWellFormed boxes p) → IsWellFormed boxes p
      at None e is next = absurd (cc)
      at (Some q) e is next = next q e is

  pub part_fits : (net : Net) (path : List ℕ) (p : Net) → FitsBoxes boxes net → part_at net path ≡ Some p → FitsBoxes boxes p
  part_fits net path p fits is = ∥∥₁_map fits (λ formed. part_formed net path p formed is)

  -- so a filter is closed
  pub filter_at : (net : Net) (path : List ℕ) (p : Net) (filter : Filter) → FitsBoxes boxes net → part_at net path ≡ Some p → p ≡ form.Filter filter → IsClosed filter
  filter_at net path p filter fits there is = filter_closed boxes filter (subst (FitsBoxes boxes) is (part_fits net path p fits there))
