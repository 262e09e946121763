-- A loop that works off the stack of a star: what it gave so far, and what is left to do.
use Rattle.std.proofs.Common.{◌≡◌, ℕ, List, [], ◌++◌, refl, sym, ap, ◌∙◌, append-nil, append_assoc}
use Rattle.sn_net.specs.Item.{ModelItem}
use Rattle.sn_pass.specs.Levels.{StarParts, Levels, Entry, stack_gives, stack_keeps}
use Rattle.sn_pass.proofs.Keeping.{same_trans}
use Rattle.sn_pass.proofs.Turns.{SameLevels, levels_refl, gives_same, keeps_same, Turned}

module _ (star : StarParts) (depth : ℕ) (start : Levels) (first : List Entry) where
  -- What was given so far, with what the stack still gives, is what the first stack gives; and so for what bodies keep.
  pub record IsWorkedOff (given : List ModelItem) (states : Levels) (stack : List Entry) : Type 0 where
    pub gives : stack_gives star depth start first ≡ given ++ stack_gives star depth states stack
    pub keeps : SameLevels star (stack_keeps star depth start first) (stack_keeps star depth states stack)

  pub work_begins : IsWorkedOff [] start first
  work_begins = record { gives = refl; keeps = levels_refl star (stack_keeps star depth start first) }

  pub work_goes_on : (given out : List ModelItem) (states later : Levels) (stack others : List Entry)
      → IsWorkedOff given states stack → Turned star depth states stack out later others → IsWorkedOff (given ++ out) later others
  work_goes_on given out states later stack others before turn = record {
    gives =
        before.gives ∙ ap (λ ys. given ++ ys) turn.gives
        ∙ sym (append_assoc given out (stack_gives star depth later others));
    keeps = λ j. same_trans star.body _ (stack_keeps star depth states stack j) _ (before.keeps j) (turn.keeps j);
  }

  -- the same from states that the bodies cannot tell apart, which takes as many turns
  pub work_from : (given : List ModelItem) (states others : Levels) (stack : List Entry)
      → IsWorkedOff given states stack → SameLevels star states others → IsWorkedOff given others stack
  work_from given states others stack before same = record {
    gives = before.gives ∙ ap (λ ys. given ++ ys) (gives_same star depth states others stack same);
    keeps = λ j. same_trans star.body _ (stack_keeps star depth states stack j) _ (before.keeps j) (keeps_same star depth states others stack same j);
  }

  pub work_ends : (given : List ModelItem) (states : Levels) → IsWorkedOff given states []
      → (stack_gives star depth start first ≡ given) × SameLevels star (stack_keeps star depth start first) states
  work_ends given states before = (before.gives ∙ append-nil given, before.keeps)
