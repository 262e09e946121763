-- What `run` is given is what `trace` is, and one number more.
use Rattle.std.proofs.Common.{◌≡◌, ◌∙◌, ℕ, List, ◌∷◌, refl, ap}
use Rattle.std.specs.Prelude.{Option, Some, None}
use Rattle.sn_words.specs.Clap.{run_arguments_in}
use Rattle.sn_words.specs.Words.{Text, asked_by, makes_run, need, number_in, numbers_in, plan, positionals_in, run_form, trace_form}
use Rattle.sn_words.specs.declared.command.Command.{Command}

abbrev pub Both : Type 0
Both = List Text × List ℕ

abbrev both : List Text → List ℕ → Both
both words numbers = (words, numbers)

-- the number is asked for before the others, or behind them
either_first : (words : Option (List Text)) (number : Option ℕ) (numbers : Option (List ℕ))
    → need words (λ ws. need (need number (λ n. need numbers (λ ns. Some (n ∷ ns)))) (λ ns. makes_run ws ns))
    ≡ need (need words (λ ws. need numbers (λ ns. Some (both ws ns)))) (λ (found : Both). need number (λ n. makes_run found.0 (n ∷ found.1)))
either_first None number numbers = refl
either_first (Some ws) None None = refl
either_first (Some ws) None (Some ns) = refl
either_first (Some ws) (Some n) None = refl
either_first (Some ws) (Some n) (Some ns) = refl

-- the command of both
abbrev pub with_plan : Option Both → Option ℕ → Option Command
with_plan found number = need found (λ (f : Both). need number (λ n. makes_run f.0 (n ∷ f.1)))

pub asked_run : (look : Text → Option Text) → asked_by run_form look ≡ with_plan (run_arguments_in look) (number_in look plan)
asked_run look = either_first (positionals_in look trace_form.words) (number_in look plan) (numbers_in look trace_form.settings)

pub run_of : (look : Text → Option Text) (found : Option Both) (number : Option ℕ) → run_arguments_in look ≡ found → number_in look plan ≡ number → asked_by run_form look ≡ with_plan found number
run_of look found number f n = asked_run look ∙ (λ i. with_plan (f i) (n i))

pub none_of : (look : Text → Option Text) → run_arguments_in look ≡ None → asked_by run_form look ≡ None
none_of look f = asked_run look ∙ ap (λ o. with_plan o (number_in look plan)) f

pub none_without : (look : Text → Option Text) → number_in look plan ≡ None → asked_by run_form look ≡ None
none_without look n = asked_run look ∙ ap (with_plan (run_arguments_in look)) n ∙ nothing (run_arguments_in look)
  where
    nothing : (found : Option Both) → with_plan found None ≡ None
    nothing None = refl
    nothing (Some f) = refl
