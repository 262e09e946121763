-- Characters in front that pass a test, as far as they do.
use Rattle.std.proofs.Common.{◌≡◌, ℕ, ◌≤◌, Bool, true, false, List, [], ◌∷◌, ◌++◌, length, refl, sym, ap, ◌∙◌, subst, arith}
use Rattle.std.specs.List.{list_all}
use Rattle.std.proofs.lemmas.Bool.{false≢true, and_parts}
use Rattle.sn_lexer.specs.Fronts.{past, Stops}

-- no front that passes is longer than one behind which the test fails
pub run_longest : (test : ℕ → Bool) (word rest other more : List ℕ) → list_all test other ≡ true → Stops test rest → word ++ rest ≡ other ++ more → length other ≤ length word
run_longest test word rest [] more passes stops same = omega arith
run_longest test [] [] (o ∷ other) more passes stops same = cc
run_longest test [] (c ∷ rest) (o ∷ other) more passes stops same =
    let head : c ≡ o = cc in
    absurd (false≢true (sym stops ∙ ap test head ∙ (and_parts (test o) (list_all test other) passes).0))
run_longest test (c ∷ word) rest (o ∷ other) more passes stops same =
    let tail : word ++ rest ≡ other ++ more = cc in
    let shorter = run_longest test word rest other more (and_parts (test o) (list_all test other) passes).1 stops tail in
    omega arith

-- fronts that are as long are one
pub same_front : (word rest other more : List ℕ) → length word ≡ length other → word ++ rest ≡ other ++ more → (word ≡ other) × (rest ≡ more)
same_front [] rest [] more long same = (refl, same)
same_front [] rest (o ∷ other) more long same = absurd (omega arith)
same_front (c ∷ word) rest [] more long same = absurd (omega arith)
same_front (c ∷ word) rest (o ∷ other) more long same =
    let head : c ≡ o = cc in
    let tail : word ++ rest ≡ other ++ more = cc in
    let shorter : length word ≡ length other = omega arith in
    let parts = same_front word rest other more shorter tail in
    ((λ i. head i ∷ parts.0 i), parts.1)

-- two fronts that pass, with the test failing behind both, are one
pub run_once : (test : ℕ → Bool) (word rest other more : List ℕ) → list_all test word ≡ true → list_all test other ≡ true → Stops test rest → Stops test more → word ++ rest ≡ other ++ more → (word ≡ other) × (rest ≡ more)
run_once test word rest other more passes passes' stops stops' same =
    let below = run_longest test word rest other more passes' stops same in
    let above = run_longest test other more word rest passes stops' (sym same) in
    same_front word rest other more (omega arith) same

-- the characters in front that pass, and those past them
pub record IsRun (test : ℕ → Bool) (cs rest : List ℕ) : Type 0 where
  pub word : List ℕ
  pub passes : list_all test word ≡ true
  pub front : cs ≡ word ++ rest
  pub stops : Stops test rest

pub run_past : (test : ℕ → Bool) (cs : List ℕ) → IsRun test cs (past test cs)
run_past test [] = record { word = []; passes = refl; front = refl; stops = tt }
run_past test (c ∷ cs) =
    elim (test c) as (λ b. test c ≡ b → IsRun test (c ∷ cs) (past test (c ∷ cs))) [
      | true ↦ λ e.
          let run = run_past test cs in
          let skip : past test (c ∷ cs) ≡ past test cs = rw e refl in
          subst (IsRun test (c ∷ cs)) (sym skip) record {
            word = c ∷ run.word;
            passes = rw e run.passes;
            front = ap (λ xs. c ∷ xs) run.front;
            stops = run.stops;
          }
      | false ↦ λ e.
          let stay : past test (c ∷ cs) ≡ c ∷ cs = rw e refl in
          subst (IsRun test (c ∷ cs)) (sym stay) record { word = []; passes = refl; front = refl; stops = e }
    ] refl
