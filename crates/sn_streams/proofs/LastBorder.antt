-- A segment without items at the end, as a regrouping.
use Rattle.std.proofs.Common.{◌≡◌, ℕ, suc, List, [], ◌∷◌, ◌++◌, length, pred, refl, sym, ap, ap₂, ◌∙◌, subst, subst₂, append-nil}
use Rattle.sn_streams.specs.Segments.{Segments, regrouped}
use Rattle.sn_streams.specs.Trees.{Tree, Allows, one}
use Rattle.sn_streams.proofs.Silence.{no_segment_answered}
use Rattle.sn_streams.proofs.Trees.{tree_is_lawful, tree_keeps}

module _ {A : Type 0} where
  abbrev with_last : Segments A → Segments A
  with_last xss = xss ++ ([] ∷ [])

  -- each segment as it is, and then one of none
  abbrev one_more : Segments A → List ℕ
  one_more [] = 0 ∷ []
  one_more (xs ∷ xss) = 1 ∷ one_more xss

  -- each segment as it is, and the last of two
  abbrev one_less : Segments A → List ℕ
  one_less [] = []
  one_less (xs ∷ []) = 2 ∷ []
  one_less (xs ∷ (ys ∷ xss)) = 1 ∷ one_less (ys ∷ xss)

  lengthened : (xss zss : Segments A) → length zss ≡ length xss → regrouped (one_more xss) zss ≡ with_last zss
  lengthened [] [] e = refl
  lengthened [] (zs ∷ zss) e = cc
  lengthened (xs ∷ xss) [] e = cc
  lengthened (xs ∷ xss) (zs ∷ zss) e = ap₂ (λ us uss. us ∷ uss) (append-nil zs) (lengthened xss zss (ap pred e))

  shortened : (xs : List A) (xss zss : Segments A) → length zss ≡ suc (length xss) → regrouped (one_less (xs ∷ xss)) (with_last zss) ≡ zss
  shortened xs xss [] e = cc
  shortened xs [] (zs ∷ []) e = ap (λ us. us ∷ []) (append-nil zs)
  shortened xs [] (zs ∷ (vs ∷ zss)) e = cc
  shortened xs (ys ∷ xss) (zs ∷ zss) e = ap₂ (λ us uss. us ∷ uss) (append-nil zs) (shortened ys xss zss (ap pred e))

  length-with_last : (xss : Segments A) → length (with_last xss) ≡ suc (length xss)
  length-with_last [] = refl
  length-with_last (xs ∷ xss) = ap suc (length-with_last xss)

pub added : {A S : Type 0} (t : Tree A S) (xss yss : Segments A) → Allows t xss yss → Allows t (xss ++ ([] ∷ [])) (yss ++ ([] ∷ []))
added {A} t xss yss h =
    subst₂ (λ (uss vss : Segments A). Allows t uss vss) (lengthened xss xss refl) (lengthened xss yss (tree_keeps t xss yss h))
    ((tree_is_lawful t).regroups (one_more xss) xss yss h)

pub removed : {A S : Type 0} (t : Tree A S) (xss yss : Segments A) → Allows t (xss ++ ([] ∷ [])) (yss ++ ([] ∷ [])) → Allows t xss yss
removed {A} t [] yss h = at yss (ap pred (sym (length-with_last yss) ∙ tree_keeps t ([] ∷ []) (yss ++ ([] ∷ [])) h))
  where
    allowed : Allows t [] []
    allowed =
        let first : Allows t [] (one t []) = (tree_is_lawful t).allows [] in
        subst (λ (zss : Segments A). Allows t [] zss) (no_segment_answered t (one t []) first) first

    at : (zss : Segments A) → length zss ≡ 0 → Allows t [] zss
    at [] e = allowed
    at (zs ∷ zss) e = cc
removed {A} t (xs ∷ xss) yss h =
    let lengths : length yss ≡ suc (length xss) =
    ap pred (sym (length-with_last yss) ∙ tree_keeps t ((xs ∷ xss) ++ ([] ∷ [])) (yss ++ ([] ∷ [])) h ∙ length-with_last (xs ∷ xss)) in
    subst₂ (λ (uss vss : Segments A). Allows t uss vss) (shortened xs xss (xs ∷ xss) refl) (shortened xs xss yss lengths)
    ((tree_is_lawful t).regroups (one_less (xs ∷ xss)) ((xs ∷ xss) ++ ([] ∷ [])) (yss ++ ([] ∷ [])) h)
