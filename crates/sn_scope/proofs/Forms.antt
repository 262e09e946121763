-- One level of an expression over tags and of a network, form by form.
use Rattle.std.proofs.Common.{◌≡◌, ℕ, List, Option, Result, Ok, Err, IfOk, OnOk, sym, ap, ◌∙◌}
use Rattle.std.proofs.lemmas.Result.{IfOk-weaker}
use Rattle.sn_ast.specs.declared.network.NetExpr.{NetExpr, fold-roll-NetExpr}
use Rattle.sn_ast.specs.declared.network.NetForm.{NetForm, fold-NetForm}
use Rattle.sn_ast.specs.declared.network.NetForm.TheFolds.{fold-roll-NetForm, map-NetForm}
use Rattle.sn_ast.specs.declared.network.NetForm.TheOpen.{NetForm-F}
use Rattle.sn_ast.specs.declared.network.NetForm.TheViews.{roll-NetForm}
use Rattle.sn_ast.specs.declared.tag_expr.TExpr.{TExpr, fold-roll-TExpr}
use Rattle.sn_ast.specs.declared.tag_expr.TForm.{TForm, fold-TForm}
use Rattle.sn_ast.specs.declared.tag_expr.TForm.TheFolds.{fold-roll-TForm, map-TForm}
use Rattle.sn_ast.specs.declared.tag_expr.TForm.TheOpen.{TForm-F}
use Rattle.sn_ast.specs.declared.tag_expr.TForm.TheViews.{roll-TForm}
use Rattle.sn_tagexpr.specs.declared.expr.TagExpr.{TagExpr}
use Rattle.sn_label_scope.specs.Refusals.{Check}
use Rattle.sn_label_scope.specs.declared.refusal.Refusal.{Refusal}
use Rattle.sn_scope.specs.Networks.{network_at, network_required, network_step, required_step}
use Rattle.sn_scope.specs.Tags.{tag_expr, tag_step}
use Rattle.sn_scope.specs.declared.network.Network.{Network}
use Rattle.sn_scope.specs.declared.scopes.Scopes.{Scopes}

-- two facts of one answer
pub both : {A E : Type 0} (r : Result A E) (P : A → Type 0) (Q : Type 0) → IfOk r P → OnOk r Q → IfOk r (λ x. P x × Q)
both (Ok x) P Q p q = (p, q)
both (Err e) P Q p q = tt

module _ (names : List (List ℕ)) where
  abbrev tag_form : TForm → TagExpr
  tag_form = fold-TForm TagExpr TagExpr (tag_step names) (λ e. e.form)

  -- an expression whose form is known
  pub tag_level : (e : TExpr) (x : TForm-F TForm TExpr) (form : TForm) → e.form ≡ form → roll-TForm x ≡ form →
      tag_expr names e ≡ tag_step names (map-TForm TForm TExpr TagExpr TagExpr tag_form (tag_expr names) x)
  tag_level e x form is rolls =
      fold-roll-TExpr TagExpr TagExpr (tag_step names) (λ e. e.form) (record { form = e.form; at = e.at })
      ∙ ap tag_form (is ∙ sym rolls) ∙ fold-roll-TForm TagExpr TagExpr (tag_step names) (λ e. e.form) x

module _ (names : List (List ℕ)) (scopes : Scopes) where
  abbrev network_form : NetForm → ℕ → Network
  network_form = fold-NetForm (ℕ → Network) Network (network_step names scopes) (λ n. n.form n.at)

  abbrev required_form : NetForm → ℕ → Check
  required_form = fold-NetForm (ℕ → Check) Check (required_step names scopes) (λ n. n.form n.at)

  -- a network whose form is known, and its checks
  pub network_level : (n : NetExpr) (x : NetForm-F NetForm NetExpr) (form : NetForm) → n.form ≡ form → roll-NetForm x ≡ form →
      network_at names scopes n ≡ network_step names scopes (map-NetForm NetForm NetExpr (ℕ → Network) Network network_form (network_at names scopes) x) n.at
  network_level n x form is rolls =
      fold-roll-NetExpr (ℕ → Network) Network (network_step names scopes) (λ n. n.form n.at) (record { form = n.form; at = n.at })
      ∙ ap (λ made. made n.at) (ap network_form (is ∙ sym rolls) ∙ fold-roll-NetForm (ℕ → Network) Network (network_step names scopes) (λ n. n.form n.at) x)

  pub required_level : (n : NetExpr) (x : NetForm-F NetForm NetExpr) (form : NetForm) → n.form ≡ form → roll-NetForm x ≡ form →
      network_required names scopes n ≡ required_step names scopes (map-NetForm NetForm NetExpr (ℕ → Check) Check required_form (network_required names scopes) x) n.at
  required_level n x form is rolls =
      fold-roll-NetExpr (ℕ → Check) Check (required_step names scopes) (λ n. n.form n.at) (record { form = n.form; at = n.at })
      ∙ ap (λ check. check n.at) (ap required_form (is ∙ sym rolls) ∙ fold-roll-NetForm (ℕ → Check) Check (required_step names scopes) (λ n. n.form n.at) x)

  -- what was made of one level, and what is refused behind it
  pub network_here : {E : Type 0} (n : NetExpr) (x : NetForm-F NetForm NetExpr) (form : NetForm) → n.form ≡ form → roll-NetForm x ≡ form → (r : Result Network E) (least new : Option Refusal) →
      IfOk r (λ made. (made ≡ network_step names scopes (map-NetForm NetForm NetExpr (ℕ → Network) Network network_form (network_at names scopes) x) n.at)
      × (new ≡ required_step names scopes (map-NetForm NetForm NetExpr (ℕ → Check) Check required_form (network_required names scopes) x) n.at least)) →
      IfOk r (λ made. (made ≡ network_at names scopes n) × (new ≡ network_required names scopes n least))
  network_here n x form is rolls r least new here =
      IfOk-weaker r _ _ (λ made two. (two.0 ∙ sym (network_level n x form is rolls), two.1 ∙ ap (λ check. check least) (sym (required_level n x form is rolls)))) here
