-- The texts of networks.
use Rattle.std.specs.Prelude.{ℕ, Bool, List, [], ◌∷◌, ◌++◌, map, codes, Option, Some, None}
use Rattle.std.specs.Fmt.{decimal}
use Rattle.std.specs.List.{flat_map}
use Rattle.sn_ast.specs.declared.network.ArmAt.{ArmAt}
use Rattle.sn_ast.specs.declared.network.ItemAt.{ItemAt}
use Rattle.sn_ast.specs.declared.network.ItemSource.{ItemSource}
use Rattle.sn_ast.specs.declared.network.ItemSource.TheVariants.{Same, Field, Expr}
use Rattle.sn_ast.specs.declared.network.NetExpr.{NetExpr, fold-NetExpr}
use Rattle.sn_ast.specs.declared.network.NetForm.TheOpen.{NetForm-F}
use Rattle.sn_ast.specs.declared.network.TemplateAt.{TemplateAt}
use Rattle.sn_ast.specs.declared.tag_expr.TExpr.{TExpr}
use Rattle.sn_print.specs.Expressions.{Shown, alone, compound, operand, tag_text}
use Rattle.sn_print.specs.Labels.{label_text, variant_text}
use Rattle.sn_print.specs.Words.{chosen, in_angles, in_parentheses, joined}

abbrev pub source_text : ItemSource → List ℕ
source_text Same = []
source_text (Field name) = codes "=" ++ name.text
source_text (Expr e) = codes "=" ++ tag_text e

abbrev pub item_text : ItemAt → List ℕ
item_text i = label_text i.target ++ source_text i.source

abbrev pub template_text : TemplateAt → List ℕ
template_text t = codes "{" ++ (joined (codes ",") (map item_text t.items) ++ codes "}")

abbrev pub templates_text : List TemplateAt → List ℕ
templates_text templates = joined (codes ";") (map template_text templates)

-- the arms of a filter, and the word before its last list
abbrev pub arm_text : ArmAt → List ℕ
arm_text arm = codes " if " ++ (in_parentheses (tag_text arm.guard) ++ (codes " -> " ++ templates_text arm.templates))

abbrev pub else_text : List ArmAt → List ℕ
else_text [] = []
else_text (arm ∷ arms) = codes " else"

abbrev pub arms_text : List ArmAt → List ℕ
arms_text arms = flat_map arm_text arms ++ else_text arms

abbrev pub guard_text : Option TExpr → List ℕ
guard_text None = []
guard_text (Some e) = codes " if " ++ in_parentheses (tag_text e)

-- the operator of a split, with its mark where the replicas are spread
abbrev pub split_operator : Bool → Bool → List ℕ
split_operator det spread = chosen spread (chosen det (codes " !!@ ") (codes " !@ ")) (chosen det (codes " !! ") (codes " ! "))

-- one level of a network
abbrev pub net_step : NetForm-F Shown Shown → Shown
net_step (NetForm-F.Name name) = alone name.text
net_step NetForm-F.Identity = alone (codes "[]")
net_step (NetForm-F.Filter pattern arms templates) =
    alone (codes "[" ++ (variant_text pattern ++ (arms_text arms ++ (codes " -> " ++ (templates_text templates ++ codes "]")))))
net_step (NetForm-F.Sync patterns) = alone (codes "[|" ++ (joined (codes ",") (map variant_text patterns) ++ codes "|]"))
net_step (NetForm-F.Serial parts) = compound (joined (codes " .. ") (map operand parts))
net_step (NetForm-F.Choice det branches) = compound (joined (chosen det (codes " || ") (codes " | ")) (map operand branches))
net_step (NetForm-F.Star det body exit guard) =
    compound (operand body ++ (chosen det (codes " ** ") (codes " * ") ++ (variant_text exit ++ guard_text guard)))
net_step (NetForm-F.Split det spread body tag) = compound (operand body ++ (split_operator det spread ++ in_angles tag.text))
net_step (NetForm-F.Placed body node) = compound (operand body ++ (codes "@" ++ decimal node))

abbrev pub net_shown : NetExpr → Shown
net_shown = fold-NetExpr Shown Shown net_step (λ n. n.form)

abbrev pub net_text : NetExpr → List ℕ
net_text n = (net_shown n).text
