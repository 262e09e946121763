-- The parts of a network and the variants that reach them.
use Rattle.std.specs.Prelude.{ℕ, List, [], ◌∷◌, IsTrue}
use Rattle.sn_record.specs.LabelSet.{Labels, contains, union}
use Rattle.sn_net.specs.Filter.{tag}
use Rattle.sn_typing.specs.Outline.{Outline, Series, Choice, Star, Split}
use Rattle.sn_typing.specs.Flow.{Flows, HasFace, MayTake, Comes, SurelyLeaves}

-- the way from a network to one of its parts
pub data Turn : Type 0 where
  Left : Turn
  Right : Turn
  Branch : (index : ℕ) → Turn
  Body : Turn

-- From a network and a variant, the part at the way is reached with the variant u.
pub data Reached : Outline → Labels → List Turn → Outline → Labels → Type 0 where
  here : (net : Outline) (v : Labels) → Reached net v [] net v
  left : (a b : Outline) (v : Labels) (way : List Turn) (part : Outline) (u : Labels) → Reached a v way part u → Reached (Series a b) v (Left ∷ way) part u
  right : (a b : Outline) (v w : Labels) (way : List Turn) (part : Outline) (u : Labels) → Flows a v w → Reached b w way part u → Reached (Series a b) v (Right ∷ way) part u
  branch : (place : ℕ) (faces : List (List Labels)) (branches : ℕ → Outline) (v : Labels) (i : ℕ) (w : Labels) (way : List Turn) (part : Outline) (u : Labels)
      → HasFace faces v → MayTake faces i w v → Reached (branches i) (union v w) way part u → Reached (Choice place faces branches) v (Branch i ∷ way) part u
  inside : (exit : Labels) (guarded : _) (body : Outline) (v w : Labels) (way : List Turn) (part : Outline) (u : Labels)
      → Comes exit guarded (Flows body) v w → (SurelyLeaves exit guarded w → ⊥) → Reached body w way part u → Reached (Star exit guarded body) v (Body ∷ way) part u
  replica : (place id : ℕ) (body : Outline) (v : Labels) (way : List Turn) (part : Outline) (u : Labels)
      → IsTrue (contains v (tag id)) → Reached body v way part u → Reached (Split place id body) v (Body ∷ way) part u
