-- The text of a picture.
use Rattle.std.specs.Prelude.{ℕ, List, [], ◌∷◌, ◌++◌, ◌==◌, codes, decimal, if◌then◌else◌}
use Rattle.std.specs.List.{flat_map}
use Rattle.sn_draw.specs.declared.statement.Flow.{Flow}
use Rattle.sn_draw.specs.declared.statement.Flow.TheVariants as flow
use Rattle.sn_draw.specs.declared.statement.Shape.{Shape}
use Rattle.sn_draw.specs.declared.statement.Shape.TheVariants as shape
use Rattle.sn_draw.specs.declared.statement.Statement.{Statement}
use Rattle.sn_draw.specs.declared.statement.Statement.TheVariants.{Open, Close, Node, Edge}

-- a quote and a backslash have a backslash in front, and a line feed is `\n`
abbrev pub escaped : ℕ → List ℕ
escaped byte = if byte == 34 then 92 ∷ 34 ∷ [] else (if byte == 92 then 92 ∷ 92 ∷ [] else (if byte == 10 then 92 ∷ 110 ∷ [] else byte ∷ []))

abbrev pub quoted : List ℕ → List ℕ
quoted text = 34 ∷ (flat_map escaped text ++ 34 ∷ [])

abbrev pub shape_text : Shape → List ℕ
shape_text shape.End = codes "shape=plaintext"
shape_text shape.Box = codes "shape=box, style=filled, fillcolor=\"#dbe9f6\""
shape_text shape.Filter = codes "shape=box, style=\"rounded,filled\", fillcolor=\"#f4f4e4\""
shape_text shape.Cell = codes "shape=component, style=filled, fillcolor=\"#e8f3e4\""
shape_text shape.Fork = codes "shape=diamond"
shape_text shape.MergeInOrder = codes "shape=octagon, peripheries=2"
shape_text shape.MergeFreely = codes "shape=octagon, style=dashed"

abbrev pub flow_text : Flow → List ℕ
flow_text flow.Some = codes "style=solid"
flow_text flow.Back = codes "style=solid, constraint=false"
flow_text flow.Nothing = codes "style=dotted"

-- attributes and a label, up to the end of the line
abbrev pub attributes : List ℕ → List ℕ → List ℕ
attributes more label = codes " [" ++ (more ++ (codes ", label=" ++ (quoted label ++ codes "];\n")))

abbrev pub node_name : ℕ → List ℕ
node_name number = codes "n" ++ decimal number

abbrev pub cluster_name : ℕ → List ℕ
cluster_name number = codes "cluster_" ++ decimal number

-- what opens a cluster, behind its name
abbrev pub opening : List ℕ → List ℕ
opening label = codes " {\nlabel=" ++ (quoted label ++ codes ";\n")

abbrev pub statement_text : Statement → List ℕ
statement_text (Open number label) = codes "subgraph " ++ (cluster_name number ++ opening label)
statement_text Close = codes "}\n"
statement_text (Node number shape label) = node_name number ++ attributes (shape_text shape) label
statement_text (Edge from to flow label) = node_name from ++ (codes " -> " ++ (node_name to ++ attributes (flow_text flow) label))

abbrev pub header : List ℕ
header = codes "digraph network {\nranksep=0.1;\nnodesep=0.25;\ngraph [fontname=\"Helvetica\", fontsize=10, color=\"#888888\", labeljust=l];\nnode [fontname=\"Helvetica\", fontsize=10, margin=\"0.08,0.03\", width=0.2, height=0.2];\nedge [fontname=\"Helvetica\", fontsize=9, arrowsize=0.6];\n"

-- a picture under a title, with one line for each statement
abbrev pub picture_text : List ℕ → List Statement → List ℕ
picture_text title statements = header ++ (codes "label=" ++ (quoted title ++ (codes ";\nlabelloc=t;\n" ++ (flat_map statement_text statements ++ codes "}\n"))))
