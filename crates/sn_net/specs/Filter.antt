-- Filters: which labels a template takes and sets.
use Rattle.std.specs.Prelude.{◌≢◌, ◌++◌, ℕ, Bool, IsTrue, List, All, AllPairs}
use Rattle.std.specs.List.{flat_map}
use Rattle.sn_record.specs.declared.label.Label.{Label}
use Rattle.sn_record.specs.declared.label.Kind.TheVariants.{Field, Tag}
use Rattle.sn_record.specs.LabelSet.{Labels, contains}
use Rattle.sn_tagexpr.specs.declared.expr.TagExpr.{TagExpr}
use Rattle.sn_tagexpr.specs.Evaluation.{every_tag}
use Rattle.sn_net.specs.declared.filter.Part.{Part}
use Rattle.sn_net.specs.declared.filter.Part.TheVariants.{Copy, Rename, Compute}
use Rattle.sn_net.specs.declared.filter.Template.{Template}
use Rattle.sn_net.specs.declared.filter.Arm.{Arm}
use Rattle.sn_net.specs.declared.filter.Filter.{Filter}

-- the field and the tag with a number
abbrev pub field : ℕ → Label
field id = record { kind = Field; id = id }

abbrev pub tag : ℕ → Label
tag id = record { kind = Tag; id = id }

-- each tag that the expression names is among the labels
abbrev pub is_over : Labels → TagExpr → Bool
is_over labels = every_tag (λ id. contains labels (tag id))

-- the label that a part sets
abbrev pub target : Part → Label
target (Copy label) = label
target (Rename new old) = field new
target (Compute id expr) = tag id

-- each label that it copies, renames or computes from is among the labels
abbrev pub is_from : Labels → Part → Bool
is_from labels (Copy label) = contains labels label
is_from labels (Rename new old) = contains labels (field old)
is_from labels (Compute id expr) = is_over labels expr

-- each part takes from labels of the pattern, and no two parts set one label
pub record IsClosedTemplate (pattern : Labels) (template : Template) : Type 0 where
  pub named : All (λ part. IsTrue (is_from pattern part)) template.parts
  pub apart : AllPairs (λ part other. target part ≢ target other) template.parts

-- the guard names tags of the pattern alone, and each template is closed
pub record IsClosedArm (pattern : Labels) (arm : Arm) : Type 0 where
  pub guard : IsTrue (is_over pattern arm.guard)
  pub templates : All (IsClosedTemplate pattern) arm.templates

-- each arm is closed over the pattern, and so is each template of the last list
pub record IsClosed (filter : Filter) : Type 0 where
  pub arms : All (IsClosedArm filter.pattern) filter.arms
  pub last : All (IsClosedTemplate filter.pattern) filter.templates

-- the templates of all lists: those of each arm in order, and then those of the last list
abbrev pub every_template : Filter → List Template
every_template filter = flat_map (λ arm. arm.templates) filter.arms ++ filter.templates
