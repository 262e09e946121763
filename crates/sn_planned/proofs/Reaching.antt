-- What is reached from what is reached.
use Rattle.std.proofs.Common.{ℕ, Bool, IsTrue, List, [], ◌∷◌, ◌++◌}
use Rattle.sn_record.specs.LabelSet.{Labels, contains, union}
use Rattle.sn_net.specs.Filter.{tag}
use Rattle.sn_typing.specs.Outline.{Outline, Series, Choice, Star, Split}
use Rattle.sn_typing.specs.Flow.{Comes, Flows, HasFace, MayTake, Safe, SurelyLeaves}
use Rattle.sn_typing.specs.Reached.{Reached, Reached.{here, left, right, branch, inside, replica}, Turn, Left, Right, Branch, Body}
use Rattle.sn_typing.specs.Accepted.{IsReached}

pub reached_on : (net : Outline) (v : Labels) (way : List Turn) (part : Outline) (u : Labels) (way' : List Turn) (part' : Outline) (u' : Labels)
    → Reached net v way part u → Reached part u way' part' u' → Reached net v (way ++ way') part' u'
reached_on net v way part u way' part' u' (here n w) on = on
reached_on net v way part u way' part' u' (left a b w before p z rest) on = left a b w (before ++ way') part' u' (reached_on a w before p z way' part' u' rest on)
reached_on net v way part u way' part' u' (right a b w x before p z flow rest) on = right a b w x (before ++ way') part' u' flow (reached_on b x before p z way' part' u' rest on)
reached_on net v way part u way' part' u' (branch place faces branches w i x before p z has taken rest) on =
    branch place faces branches w i x (before ++ way') part' u' has taken (reached_on (branches i) (union w x) before p z way' part' u' rest on)
reached_on net v way part u way' part' u' (inside exit guarded body w x before p z comes stays rest) on =
    inside exit guarded body w x (before ++ way') part' u' comes stays (reached_on body x before p z way' part' u' rest on)
reached_on net v way part u way' part' u' (replica place id body w before p z there rest) on =
    replica place id body w (before ++ way') part' u' there (reached_on body w before p z way' part' u' rest on)

module _ (root : Outline) (input : List Labels) (way : List Turn) where
  further : (part : Outline) (v : Labels) (way' : List Turn) (part' : Outline) (u : Labels) → IsReached root input way part v → Reached part v way' part' u → IsReached root input (way ++ way') part' u
  further part v way' part' u from on = record { variant = from.variant; listed = from.listed; reached = reached_on root from.variant way part v way' part' u from.reached on }

  pub to_left : (a b : Outline) (v : Labels) → IsReached root input way (Series a b) v → IsReached root input (way ++ Left ∷ []) a v
  to_left a b v from = further (Series a b) v (Left ∷ []) a v from (left a b v [] a v (here a v))

  pub to_right : (a b : Outline) (v u : Labels) → IsReached root input way (Series a b) v → Flows a v u → IsReached root input (way ++ Right ∷ []) b u
  to_right a b v u from flow = further (Series a b) v (Right ∷ []) b u from (right a b v u [] b u flow (here b u))

  pub to_branch : (place : ℕ) (faces : List (List Labels)) (branches : ℕ → Outline) (v : Labels) (i : ℕ) (w : Labels) → IsReached root input way (Choice place faces branches) v
      → HasFace faces v → MayTake faces i w v → IsReached root input (way ++ Branch i ∷ []) (branches i) (union v w)
  to_branch place faces branches v i w from has taken =
      further (Choice place faces branches) v (Branch i ∷ []) (branches i) (union v w) from
      (branch place faces branches v i w [] (branches i) (union v w) has taken (here (branches i) (union v w)))

  pub to_body : (exit : Labels) (guarded : Bool) (body : Outline) (v u : Labels) → IsReached root input way (Star exit guarded body) v
      → Comes exit guarded (Flows body) v u → (SurelyLeaves exit guarded u → ⊥) → IsReached root input (way ++ Body ∷ []) body u
  to_body exit guarded body v u from comes stays =
      further (Star exit guarded body) v (Body ∷ []) body u from (inside exit guarded body v u [] body u comes stays (here body u))

  pub to_replica : (place id : ℕ) (body : Outline) (v : Labels) → IsReached root input way (Split place id body) v → IsTrue (contains v (tag id)) → IsReached root input (way ++ Body ∷ []) body v
  to_replica place id body v from there = further (Split place id body) v (Body ∷ []) body v from (replica place id body v [] body v there (here body v))

-- what is reached from a variant for which the network is safe is safe for what reaches it
pub reached_safe : (net : Outline) (v : Labels) (way : List Turn) (part : Outline) (u : Labels) → Safe net v → Reached net v way part u → Safe part u
reached_safe net v way part u safe (here n w) = safe
reached_safe net v way part u safe (left a b w before p z rest) = reached_safe a w before part u safe.0 rest
reached_safe net v way part u safe (right a b w x before p z flow rest) = reached_safe b x before part u (safe.1 x flow) rest
reached_safe net v way part u safe (branch place faces branches w i x before p z has taken rest) = reached_safe (branches i) (union w x) before part u (safe.1 i x taken) rest
reached_safe net v way part u safe (inside exit guarded body w x before p z comes stays rest) = reached_safe body x before part u (safe x comes stays) rest
reached_safe net v way part u safe (replica place id body w before p z there rest) = reached_safe body w before part u safe.1 rest
