-- Ways to parts of parts.
use Rattle.std.proofs.Common.{ℕ, Bool, IsTrue, List, [], ◌∷◌, ◌++◌}
use Rattle.sn_record.specs.LabelSet.{Labels, contains, union}
use Rattle.sn_net.specs.Filter.{tag}
use Rattle.sn_typing.specs.Outline.{Outline, Series, Choice, Star, Split}
use Rattle.sn_typing.specs.Flow.{HasFace, MayTake, SurelyLeaves, Comes, Flows}
use Rattle.sn_typing.specs.Reached.{Turn, Left, Right, Branch, Body, Reached, Reached.{here, left, right, branch, inside, replica}}
use Rattle.sn_typing.specs.Accepted.{IsReached}

-- what a part reaches, the whole reaches
pub reached_on : (net : Outline) (v : Labels) (way : List Turn) (part : Outline) (u : Labels) (more : List Turn) (last : Outline) (w : Labels)
    → Reached net v way part u → Reached part u more last w → Reached net v (way ++ more) last w
reached_on net v way part u more last w (here net' v') rest = rest
reached_on net v way part u more last w (left a b v' way' part' u' reached) rest = left a b v (way' ++ more) last w (reached_on a v way' part u more last w reached rest)
reached_on net v way part u more last w (right a b v' z way' part' u' flow reached) rest = right a b v z (way' ++ more) last w flow (reached_on b z way' part u more last w reached rest)
reached_on net v way part u more last w (branch place faces branches v' i z way' part' u' has unbeaten reached) rest =
    branch place faces branches v i z (way' ++ more) last w has unbeaten (reached_on (branches i) (union v z) way' part u more last w reached rest)
reached_on net v way part u more last w (inside exit guarded body v' z way' part' u' come stays reached) rest =
    inside exit guarded body v z (way' ++ more) last w come stays (reached_on body z way' part u more last w reached rest)
reached_on net v way part u more last w (replica place id body v' way' part' u' there reached) rest =
    replica place id body v (way' ++ more) last w there (reached_on body v way' part u more last w reached rest)

module _ (root : Outline) (input : List Labels) (way : List Turn) where
  pub one_more : (net : Outline) (v : Labels) (turn : Turn) (last : Outline) (w : Labels) → IsReached root input way net v → Reached net v (turn ∷ []) last w → IsReached root input (way ++ turn ∷ []) last w
  one_more net v turn last w is rest = record { variant = is.variant; listed = is.listed; reached = reached_on root is.variant way net v (turn ∷ []) last w is.reached rest }

  pub to_left : (a b : Outline) (v : Labels) → IsReached root input way (Series a b) v → IsReached root input (way ++ Left ∷ []) a v
  to_left a b v is = one_more (Series a b) v Left a v is (left a b v [] a v (here a v))

  pub to_right : (a b : Outline) (v w : Labels) → IsReached root input way (Series a b) v → Flows a v w → IsReached root input (way ++ Right ∷ []) b w
  to_right a b v w is flow = one_more (Series a b) v Right b w is (right a b v w [] b w flow (here b w))

  pub to_branch : (place : ℕ) (faces : List (List Labels)) (branches : ℕ → Outline) (v : Labels) (i : ℕ) (w : Labels) → IsReached root input way (Choice place faces branches) v
      → HasFace faces v → MayTake faces i w v → IsReached root input (way ++ Branch i ∷ []) (branches i) (union v w)
  to_branch place faces branches v i w is has unbeaten =
      one_more (Choice place faces branches) v (Branch i) (branches i) (union v w) is
      (branch place faces branches v i w [] (branches i) (union v w) has unbeaten (here (branches i) (union v w)))

  pub to_body : (exit : Labels) (guarded : Bool) (body : Outline) (v u : Labels) → IsReached root input way (Star exit guarded body) v
      → Comes exit guarded (Flows body) v u → (SurelyLeaves exit guarded u → ⊥) → IsReached root input (way ++ Body ∷ []) body u
  to_body exit guarded body v u is come stays = one_more (Star exit guarded body) v Body body u is (inside exit guarded body v u [] body u come stays (here body u))

  pub to_replica : (place id : ℕ) (body : Outline) (v : Labels) → IsReached root input way (Split place id body) v → IsTrue (contains v (tag id)) → IsReached root input (way ++ Body ∷ []) body v
  to_replica place id body v is there = one_more (Split place id body) v Body body v is (replica place id body v [] body v there (here body v))
