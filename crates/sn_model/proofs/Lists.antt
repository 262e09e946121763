-- What machines without a memory answer, and streams of one segment.
use Rattle.std.proofs.Common.{◌≡◌, List, [], ◌∷◌, ◌++◌, map, refl, sym, ap, ap₂, ◌∙◌, subst}
use Rattle.std.specs.List.{flat_map}
use Rattle.sn_streams.specs.Machines.{Machine, emitted, after, transduced}
use Rattle.sn_streams.specs.Segments.{Segments, first_segment}
use Rattle.sn_streams.specs.OneByOne.{rest, start}
use Rattle.sn_streams.proofs.OneByOne.{one_is_a_machine}
use Rattle.sn_streams.proofs.Trees.{tree_is_lawful}
use Rattle.sn_net.specs.declared.net.Net.{Net}
use Rattle.sn_net.specs.Item.{ModelItem}
use Rattle.sn_net.specs.Cell.{CellState, Passing}
use Rattle.sn_model.specs.Meaning.{MayAnswer, MayAnswerList, Setting, one, one_list, tree}

module _ (answer : ModelItem → List ModelItem) where
  abbrev forgetful : Machine ModelItem CellState
  forgetful = record { next = λ s x. s; emits = λ s x. answer x }

  emitted-alone : (xs : List ModelItem) → emitted forgetful Passing xs ≡ flat_map answer xs
  emitted-alone [] = refl
  emitted-alone (x ∷ xs) = ap (λ ys. answer x ++ ys) (emitted-alone xs)

  after-alone : (xs : List ModelItem) → after forgetful Passing xs ≡ Passing
  after-alone [] = refl
  after-alone (x ∷ xs) = after-alone xs

  pub transduced-alone : (xss : Segments ModelItem) → transduced forgetful Passing xss ≡ map (flat_map answer) xss
  transduced-alone [] = refl
  transduced-alone (xs ∷ xss) =
      ap₂ (λ ys yss. ys ∷ yss) (emitted-alone xs) (ap (λ q. transduced forgetful q xss) (after-alone xs) ∙ transduced-alone xss)

-- a plain list is answered by what is given item by item
pub one_list-rest : (s : Setting) (net : Net) (xs : List ModelItem) → one_list s net xs ≡ rest (tree s net) (start (tree s net)) xs
one_list-rest s net xs = ap first_segment (one_is_a_machine (tree s net) (xs ∷ []))

-- in one segment
pub one-segment : (s : Setting) (net : Net) (xs : List ModelItem) → one s net (xs ∷ []) ≡ one_list s net xs ∷ []
one-segment s net xs = one_is_a_machine (tree s net) (xs ∷ []) ∙ ap (λ ys. ys ∷ []) (sym (one_list-rest s net xs))

-- what is given on one thread is allowed
pub one_list-allowed : (s : Setting) (net : Net) (xs : List ModelItem) → MayAnswerList s net xs (one_list s net xs)
one_list-allowed s net xs = subst (MayAnswer s net (xs ∷ [])) (one-segment s net xs) ((tree_is_lawful (tree s net)).allows (xs ∷ []))
