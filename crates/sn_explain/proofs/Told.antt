-- From words in front of a line to what the line tells.
use Rattle.std.proofs.Common.{◌≡◌, ◌++◌, ℕ, List, ◌∙◌, ap, sym}
use Rattle.std.specs.Prelude.{Option, Some, None, IfSome}
use Rattle.sn_explain.specs.declared.kind.Kind.{Kind}
use Rattle.sn_explain.specs.declared.reading.Refusal.{Refusal}
use Rattle.sn_explain.specs.Kinds.{words_of}
use Rattle.sn_explain.specs.Numbers.{BeginsWith}
use Rattle.sn_explain.specs.Explanations.{Tells}

pub told : (line rest : List ℕ) (kind : Kind) (r : Option Refusal) → line ≡ words_of kind ++ rest
    → IfSome r (λ x. x.kind ≡ kind) → IfSome r (λ x. BeginsWith rest x.number) → IfSome r (Tells line)
told line rest kind None spelled same number = tt
told line rest kind (Some x) spelled same number = record {
  rest = rest;
  spelled = spelled ∙ ap (λ k. words_of k ++ rest) (sym same);
  number = number;
}
