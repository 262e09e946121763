use Rattle.std.proofs.Common.{◌≡◌, ◌∙◌, ◌+◌, ◌<◌, ℕ, List, ap, sym, map, fold, length, get_or, drop, drop-cons, add-one}
use Rattle.clap.specs.Simple.{App, with_rule}
use Rattle.sn_words.specs.Clap.{told_word, told_option}
use Rattle.sn_words.specs.Words.{Text}
use Rattle.sn_words.proofs.forms.command_form.Goals as goal

-- a turn takes the element at its place
turn : {A : Type 0} (step : App → Text → App) (text : A → Text) (xs : List A) (i : ℕ) (d : A) (now next whole : App) → i < length xs
    → next ≡ step now (text (get_or xs i d)) → fold step now (map text (drop i xs)) ≡ whole → fold step next (map text (drop (i + 1) xs)) ≡ whole
turn step text xs i d now next whole within is so_far =
    rw (add-one, is) (sym (ap (λ left. fold step now (map text left)) (drop-cons xs i d within)) ∙ so_far)

pub loop-word-preserved : goal.loop-word-preserved
loop-word-preserved c = (
  turn (λ a name. with_rule a (told_word name)) _ _ _ _ _ _ _ c.loop-word-test.true c.in_ok-form.ensures.shape c.loop-word.invariant.0,
  c.in_ok-form.ensures.local c.loop-word.invariant.1,
)

pub loop-option-preserved : goal.loop-option-preserved
loop-option-preserved c = (
  turn (λ a name. with_rule a (told_option name)) _ _ _ _ _ _ _ c.loop-option-test.true c.in_ok-form-2.ensures.shape c.loop-option.invariant.0,
  c.in_ok-form-2.ensures.local c.loop-option.invariant.1,
)
