-- The texts of labels, variants, tuples, types and signatures.
use Rattle.std.specs.Prelude.{ℕ, List, ◌++◌, map, codes, if◌then◌else◌}
use Rattle.sn_ast.specs.declared.label.LabelAt.{LabelAt}
use Rattle.sn_ast.specs.declared.label.Sig.{Sig}
use Rattle.sn_ast.specs.declared.label.Sig.TheVariants.{Arrow, Named as NamedSig}
use Rattle.sn_ast.specs.declared.label.Tuple.{Tuple}
use Rattle.sn_ast.specs.declared.label.TypePart.{TypePart}
use Rattle.sn_ast.specs.declared.label.TypePart.TheVariants.{Set, Named}
use Rattle.sn_ast.specs.declared.label.Variant.{Variant}
use Rattle.sn_print.specs.Words.{in_angles, joined}

abbrev pub label_text : LabelAt → List ℕ
label_text l = if l.tag then in_angles l.name.text else l.name.text

abbrev pub labels_text : List LabelAt → List ℕ
labels_text labels = joined (codes ",") (map label_text labels)

abbrev pub variant_text : Variant → List ℕ
variant_text v = codes "{" ++ (labels_text v.labels ++ codes "}")

abbrev pub tuple_text : Tuple → List ℕ
tuple_text t = codes "(" ++ (labels_text t.labels ++ codes ")")

abbrev pub part_text : TypePart → List ℕ
part_text (Set v) = variant_text v
part_text (Named name) = name.text

abbrev pub types_text : List TypePart → List ℕ
types_text parts = joined (codes " | ") (map part_text parts)

abbrev pub sig_text : Sig → List ℕ
sig_text (Arrow input output) = types_text input ++ (codes " -> " ++ types_text output)
sig_text (NamedSig name) = name.text
