-- Which tags expressions name.
use Rattle.std.proofs.Common.{ℕ, Bool, true, false, ◌&&◌, IsTrue, refl, sym, ap, ◌∙◌, subst}
use Rattle.sn_tagexpr.specs.declared.expr.TagExpr.{TagExpr}
use Rattle.sn_tagexpr.specs.declared.expr.TagExpr.TheOpen.{TagExpr-F}
use Rattle.sn_tagexpr.specs.declared.expr.TagExpr.TheFolds.{fold-roll-TagExpr, ind-TagExpr, map-TagExpr}
use Rattle.sn_tagexpr.specs.declared.expr.TagExpr.TheViews.{roll-TagExpr}
use Rattle.sn_tagexpr.specs.Evaluation.{every_tag, every_tag_step}

both : (a b c d : Bool) → (IsTrue a → IsTrue c) → (IsTrue b → IsTrue d) → IsTrue (a && b) → IsTrue (c && d)
both true b c d f g holds = ap (λ e. e && d) (f refl) ∙ g holds
both false b c d f g holds = cc

-- what holds where each tag passes a test holds where each passes a weaker one
module _ (p q : ℕ → Bool) (weaker : (id : ℕ) → IsTrue (p id) → IsTrue (q id)) where
  abbrev Goes : TagExpr → Type 0
  Goes e = IsTrue (every_tag p e) → IsTrue (every_tag q e)

  level : (x : TagExpr-F TagExpr) → (IsTrue (every_tag_step p (map-TagExpr _ _ (every_tag p) x)) → IsTrue (every_tag_step q (map-TagExpr _ _ (every_tag q) x))) → Goes (roll-TagExpr x)
  level x goes holds = fold-roll-TagExpr Bool (every_tag_step q) x ∙ goes (sym (fold-roll-TagExpr Bool (every_tag_step p) x) ∙ holds)

  pub every_tag-weaker : (e : TagExpr) → IsTrue (every_tag p e) → IsTrue (every_tag q e)
  every_tag-weaker = ind-TagExpr Goes (λ x y is. subst (λ z. Goes (roll-TagExpr z)) is
      (elim y as (λ z. Goes (roll-TagExpr (map-TagExpr _ _ (λ e. e.0) z))) [
        | TagExpr-F.Number n ↦ level (TagExpr-F.Number n) (λ holds. holds)
        | TagExpr-F.Tag id ↦ level (TagExpr-F.Tag id) (weaker id)
        | TagExpr-F.Neg e ↦ level (TagExpr-F.Neg e.0) e.1
        | TagExpr-F.Not e ↦ level (TagExpr-F.Not e.0) e.1
        | TagExpr-F.Op op e f ↦ level (TagExpr-F.Op op e.0 f.0) (both _ _ _ _ e.1 f.1)
        | TagExpr-F.And e f ↦ level (TagExpr-F.And e.0 f.0) (both _ _ _ _ e.1 f.1)
        | TagExpr-F.Or e f ↦ level (TagExpr-F.Or e.0 f.0) (both _ _ _ _ e.1 f.1)
        | TagExpr-F.Cond c e f ↦ level (TagExpr-F.Cond c.0 e.0 f.0) (both _ _ _ _ c.1 (both _ _ _ _ e.1 f.1))
      ]))
