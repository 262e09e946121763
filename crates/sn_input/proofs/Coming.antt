-- What is still to come of a file, line by line.
use Rattle.std.proofs.Common.{◌≡◌, ◌∙◌, ℕ, ◌+◌, ◌<◌, ◌≤◌, List, [], ◌∷◌, length, drop, get_or, refl, sym, ap, subst, inl, inr}
use Rattle.std.specs.Prelude.{Result, Ok, Err, ◌↔◌, ◌⊎◌}
use Rattle.std.proofs.lemmas.List.{drop_more, drop_all}
use Rattle.sn_input.specs.declared.input.Input.{Input}
use Rattle.sn_input.specs.declared.input.InputFault.{InputFault}
use Rattle.sn_input.specs.declared.input.InputFault.TheVariants.{Memory}
use Rattle.sn_input.specs.Reading.{Reads, ReadsFile}
use Rattle.sn_input.specs.Steps.{GoesOn, EndsWith}

abbrev Outcome : Type 0
Outcome = Result Input InputFault

-- what the n-th line and those after it give is what the file gives
abbrev pub IsToCome : List (List ℕ) → List ℕ → ℕ → Input → List (List ℕ) → Type 0
IsToCome names bytes n input lines = (result : Outcome) → Reads n input lines result ↔ ReadsFile names bytes result

none_left : {n : ℕ} {input : Input} {result : Outcome} → Reads n input [] result → result ≡ Ok input
none_left Reads.end = refl

module _ (names : List (List ℕ)) (bytes : List ℕ) (lines : List (List ℕ)) (n i : ℕ) (input : Input) (to_come : IsToCome names bytes n input (drop i lines)) where
  module _ (line : List ℕ) (here : i < length lines) (at : line ≡ get_or lines i line) where
    rest : drop i lines ≡ line ∷ drop (i + 1) lines
    rest = drop_more lines i line here ∙ ap (λ l. l ∷ drop (i + 1) lines) (sym at)

    -- the line went through
    pub to_come_more : (j : ℕ) (next : Input) → j ≡ i + 1 → GoesOn input n line next → IsToCome names bytes (n + 1) next (drop j lines)
    to_come_more j next is goes result =
        let all : drop i lines ≡ line ∷ drop j lines = rest ∙ ap (λ k. line ∷ drop k lines) (sym is) in (
          λ reads. (to_come result).0 (subst (λ ls. Reads n input ls result) (sym all) ((goes (drop j lines) result).1 reads)),
          λ reads. (goes (drop j lines) result).0 (subst (λ ls. Reads n input ls result) all ((to_come result).1 reads)),
        )

    -- the line ended the reading
    pub refused : (fault : InputFault) → (fault ≡ Memory) ⊎ EndsWith input n line fault → (fault ≡ Memory) ⊎ ReadsFile names bytes (Err fault)
    refused fault why = elim why [
      | inl memory ↦ inl memory
      | inr ends ↦ inr ((to_come (Err fault)).0 (subst (λ ls. Reads n input ls (Err fault)) (sym rest) ((ends (drop (i + 1) lines) (Err fault)).1 refl)))
    ]

    pub refused_once : (fault : InputFault) → (fault ≡ Memory) ⊎ EndsWith input n line fault → (outcome : Outcome) → ReadsFile names bytes outcome → (Err fault ≡ outcome) ⊎ (◌≡◌ {A = Outcome} (Err fault) (Err Memory))
    refused_once fault why outcome reads = elim why [
      | inl memory ↦ inr (ap (λ f. Err f) memory)
      | inr ends ↦ inl (sym ((ends (drop (i + 1) lines) outcome).0 (subst (λ ls. Reads n input ls outcome) rest ((to_come outcome).1 reads))))
    ]

  -- all lines went through
  module _ (past : length lines ≤ i) where
    pub answered : ReadsFile names bytes (Ok input)
    answered = (to_come (Ok input)).0 (subst (λ ls. Reads n input ls (Ok input)) (sym (drop_all i lines past)) Reads.end)

    pub answered_once : (outcome : Outcome) → ReadsFile names bytes outcome → (Ok input ≡ outcome) ⊎ (◌≡◌ {A = Outcome} (Ok input) (Err Memory))
    answered_once outcome reads = inl (sym (none_left (subst (λ ls. Reads n input ls outcome) (drop_all i lines past) ((to_come outcome).1 reads))))
