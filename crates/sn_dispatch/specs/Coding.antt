-- By which a proof tells two forks apart.
use Rattle.std.specs.Prelude.{ℕ, List, refl}
use Rattle.std.specs.Coded.{Coded, code_by, coded×, coded_list, coded_ℕ}
use Rattle.sn_view.specs.Epochs.{Epochs}

-- epochs are stored as their three parts
abbrev pub epochs_code : Coded Epochs
epochs_code =
    code_by (ℕ × (ℕ × List ℕ)) (coded× coded_ℕ (coded× coded_ℕ (coded_list coded_ℕ)))
    (λ e. (e.input, (e.output, e.children))) (λ parts. record { input = parts.0; output = parts.1.0; children = parts.1.1 })
    (λ e. refl)
