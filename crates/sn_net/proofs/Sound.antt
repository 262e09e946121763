-- What a well-formed network gives: a sound level, well-formed parts, and boxes that there are.
use Rattle.std.proofs.Common.{◌≡◌, ℕ, ◌<◌, Bool, true, false, ◌&&◌, IsTrue, List, [], ◌∷◌, length, map, refl, sym, ap, ◌∙◌, subst, arith}
use Rattle.std.specs.Prelude.{nat_lt}
use Rattle.std.specs.List.{All, list_all}
use Rattle.std.proofs.lemmas.List.Elements.{All-head, All-tail, All-cons, All-nil, All-weaker}
use Rattle.std.proofs.lemmas.Bool.Decides.{nat_tests}
use Rattle.sn_net.specs.declared.expr.BoxProgram.{BoxProgram}
use Rattle.sn_net.specs.declared.net.Net.{Net}
use Rattle.sn_net.specs.declared.net.Net.TheOpen.{Net-F}
use Rattle.sn_net.specs.declared.net.Net.TheFolds.{fold-roll-Net, ind-Net, map-Net, every-Net, every_here-Net, every_held-Net}
use Rattle.sn_net.specs.declared.net.Net.TheViews.{roll-Net, out-roll-Net}
use Rattle.sn_net.specs.Face.{is_numbered, numbered_step}
use Rattle.sn_net.specs.WellFormed.{IsSound, IsWellFormed}

-- the parts of one level, from left to right
abbrev pub parts : {A : Type 0} → Net-F A → List A
parts (Net-F.Box place number) = []
parts (Net-F.Filter filter) = []
parts (Net-F.Sync place patterns) = []
parts (Net-F.Serial left right) = left ∷ right ∷ []
parts (Net-F.Choice place merge branches faces) = branches
parts (Net-F.Star place merge body exit guard) = body ∷ []
parts (Net-F.Split place merge body id) = body ∷ []

-- the parts of a level that was mapped
parts-map : {A B : Type 0} (f : A → B) (x : Net-F A) → parts (map-Net A B f x) ≡ map f (parts x)
parts-map f (Net-F.Box place number) = refl
parts-map f (Net-F.Filter filter) = refl
parts-map f (Net-F.Sync place patterns) = refl
parts-map f (Net-F.Serial left right) = refl
parts-map f (Net-F.Choice place merge branches faces) = refl
parts-map f (Net-F.Star place merge body exit guard) = refl
parts-map f (Net-F.Split place merge body id) = refl

-- what each of a list has with it
all_firsts : {A : Type 0} (P : A → Type 0) (xs : List ((x : A) × P x)) → All P (map (λ e. e.0) xs)
all_firsts P [] = All-nil P
all_firsts P (x ∷ xs) = All-cons P x.0 (map (λ e. e.0) xs) x.1 (all_firsts P xs)

module _ (boxes : List BoxProgram) where
  -- the level of a well-formed network is sound
  pub level_sound : (x : Net-F Net) → IsWellFormed boxes (roll-Net x) → IsSound boxes x
  level_sound x formed = subst (IsSound boxes) (out-roll-Net x) (every_here-Net (IsSound boxes) (roll-Net x) formed.sound)

  -- its parts are well formed
  pub parts_formed : (x : Net-F Net) → IsWellFormed boxes (roll-Net x) → All (IsWellFormed boxes) (parts x)
  parts_formed x formed =
      let sound = every-Net (IsSound boxes) in
      let held = every_held-Net (IsSound boxes) (roll-Net x) formed.sound in
      All-weaker sound (IsWellFormed boxes) (λ net below. record { closed = formed.closed; sound = below }) (parts x)
      (subst (All sound) (sym (parts-map (λ e. e.0) held.0) ∙ ap parts (held.1 ∙ out-roll-Net x)) (all_firsts sound (parts held.0)))

  abbrev Keeps : Net → Type 0
  Keeps net = IsWellFormed boxes net → IsTrue (is_numbered boxes net)

  both : (a b : Bool) → IsTrue a → IsTrue b → IsTrue (a && b)
  both true b p q = q
  both false b p q = cc

  below_test : (n m : ℕ) → n < m → nat_lt n m ≡ true
  below_test n m below = grind (arith, nat_tests)

  each_numbered : (nets : List ((net : Net) × Keeps net)) → All (IsWellFormed boxes) (map (λ e. e.0) nets) → IsTrue (list_all (λ branch. branch) (map (is_numbered boxes) (map (λ e. e.0) nets)))
  each_numbered [] formed = refl
  each_numbered (net ∷ nets) formed =
      both _ _ (net.1 (All-head (IsWellFormed boxes) net.0 _ formed)) (each_numbered nets (All-tail (IsWellFormed boxes) net.0 _ formed))

  -- each box in a well-formed network is one of the boxes
  pub formed_numbered : (net : Net) → Keeps net
  formed_numbered = ind-Net Keeps (λ x y is. subst (λ z. Keeps (roll-Net z)) is
      (elim y as (λ z. Keeps (roll-Net (map-Net _ _ (λ e. e.0) z))) [
        | Net-F.Box place number ↦ λ formed. fold-roll-Net Bool (numbered_step (length boxes)) (Net-F.Box place number) ∙ below_test number (length boxes) (level_sound (Net-F.Box place number) formed)
        | Net-F.Filter filter ↦ λ formed. fold-roll-Net Bool (numbered_step (length boxes)) (Net-F.Filter filter)
        | Net-F.Sync place patterns ↦ λ formed. fold-roll-Net Bool (numbered_step (length boxes)) (Net-F.Sync place patterns)
        | Net-F.Serial left right ↦ λ formed.
            let whole = parts_formed (Net-F.Serial left.0 right.0) formed in
            fold-roll-Net Bool (numbered_step (length boxes)) (Net-F.Serial left.0 right.0)
            ∙ both _ _ (left.1 (All-head (IsWellFormed boxes) left.0 (right.0 ∷ []) whole)) (right.1 (All-head (IsWellFormed boxes) right.0 [] (All-tail (IsWellFormed boxes) left.0 (right.0 ∷ []) whole)))
        | Net-F.Choice place merge branches faces ↦ λ formed.
            fold-roll-Net Bool (numbered_step (length boxes)) (Net-F.Choice place merge (map (λ e. e.0) branches) faces)
            ∙ each_numbered branches (parts_formed (Net-F.Choice place merge (map (λ e. e.0) branches) faces) formed)
        | Net-F.Star place merge body exit guard ↦ λ formed.
            fold-roll-Net Bool (numbered_step (length boxes)) (Net-F.Star place merge body.0 exit guard)
            ∙ body.1 (All-head (IsWellFormed boxes) body.0 [] (parts_formed (Net-F.Star place merge body.0 exit guard) formed))
        | Net-F.Split place merge body id ↦ λ formed.
            fold-roll-Net Bool (numbered_step (length boxes)) (Net-F.Split place merge body.0 id)
            ∙ body.1 (All-head (IsWellFormed boxes) body.0 [] (parts_formed (Net-F.Split place merge body.0 id) formed))
      ]))
