-- How high and how wide a tree is, level by level.
use Rattle.std.proofs.Common.{◌≡◌, ℕ, suc, ◌≤◌, List, [], ◌∷◌, length, map as each, refl, ap, ◌∙◌, arith}
use Rattle.std.proofs.Math.Nat.{max-le, le-max_left, le-max_right}
use Rattle.sn_net.specs.Face.{face}
use Rattle.sn_net.specs.declared.expr.BoxProgram.{BoxProgram}
use Rattle.sn_net.specs.declared.net.Net.{Net}
use Rattle.sn_net.specs.declared.net.Net.TheFolds.{fold_out-Net, map-Net}
use Rattle.sn_net.specs.declared.net.Net.TheOpen.{Net-F}
use Rattle.sn_net.specs.declared.net.Net.TheViews.{out-Net}
use Rattle.sn_scope.specs.Trees.{most_variants}
use Rattle.sn_scope_rules.specs.Limits.{Fits, greatest, height, parts_in, parts_of}
use Rattle.sn_scope_rules.specs.Standing.{StandsIn, StandsWithin}
use Rattle.sn_scope_rules.specs.Standing.StandsIn.{here, later}
use Rattle.sn_scope_rules.specs.Standing.StandsWithin.{deeper, itself}
use Rattle.sn_scope_rules.proofs.Held.{Each}

parts_map : (f : Net → ℕ) (x : Net-F Net) → parts_in (map-Net Net ℕ f x) ≡ each f (parts_in x)
parts_map f (Net-F.Box place number) = refl
parts_map f (Net-F.Filter filter) = refl
parts_map f (Net-F.Sync place patterns) = refl
parts_map f (Net-F.Serial left right) = refl
parts_map f (Net-F.Choice place merge branches faces) = refl
parts_map f (Net-F.Star place merge body exit guard) = refl
parts_map f (Net-F.Split place merge body tag) = refl

height_is : (t : Net) → height t ≡ suc (greatest (each height (parts_of t)))
height_is t = fold_out-Net ℕ (λ form. suc (greatest (parts_in form))) t ∙ ap (λ hs. suc (greatest hs)) (parts_map height (out-Net t))

below : (n : ℕ) (trees : List Net) → Each (λ t. height t ≤ n) trees → greatest (each height trees) ≤ n
below n [] all = omega arith
below n (t ∷ ts) all = max-le (all t here) (below n ts (λ u at. all u (later at)))

above : (n : ℕ) (trees : List Net) → greatest (each height trees) ≤ n → Each (λ t. height t ≤ n) trees
above n [] least u at = elim at [ ]
above n (t ∷ ts) least u here = omega (arith, least, le-max_left (height t) (greatest (each height ts)))
above n (t ∷ ts) least u (later at) = above n ts (omega (arith, least, le-max_right (height t) (greatest (each height ts)))) u at

module _ (boxes : List BoxProgram) where
  -- a tree fits where its parts fit with a level less, and its own face is narrow
  pub fits_up : (n : ℕ) (t : Net) → Each (Fits boxes n) (parts_of t) → length (face boxes t) ≤ most_variants → Fits boxes (suc n) t
  fits_up n t parts narrow = record {
    low = let least = below n (parts_of t) (λ p at. (parts p at).low) in let is = height_is t in omega (arith, least, is);
    narrow = λ node at. each_narrow node t at (λ p at. (parts p at).narrow) narrow;
  }
    where
      each_narrow : (node whole : Net) → StandsWithin parts_of node whole → ((p : Net) → StandsIn p (parts_of whole) → (inner : Net) → StandsWithin parts_of inner p
          → length (face boxes inner) ≤ most_variants)
          → length (face boxes whole) ≤ most_variants → length (face boxes node) ≤ most_variants
      each_narrow node whole itself inner own = own
      each_narrow node whole (deeper {part} at within) inner own = inner part at node within

  pub fits_parts : (n : ℕ) (t : Net) → Fits boxes (suc n) t → Each (Fits boxes n) (parts_of t)
  fits_parts n t fits p at = record {
    low = above n (parts_of t) (let is = height_is t in let low = fits.low in omega (arith, is, low)) p at;
    narrow = λ node within. fits.narrow node (deeper at within);
  }

  pub fits_none : (t : Net) → Fits boxes 0 t → ⊥
  fits_none t fits = absurd (let is = height_is t in let low = fits.low in omega (arith, is, low))
