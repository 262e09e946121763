-- Box declarations that are not refused make closed boxes.
use Rattle.std.proofs.Common.{◌≡◌, ◌≢◌, ℕ, false, not, IsTrue, nat_le, List, [], ◌∷◌, length, map as each, All, fold, refl, sym, ap, ◌∙◌, subst, subst₂, true≢false, arith}
use Rattle.std.specs.FinMap as finite
use Rattle.std.specs.Ordering.{eq_by_cmp}
use Rattle.std.specs.Option.{is_none}
use Rattle.std.proofs.lemmas.Bool.{not-true, or_parts}
use Rattle.std.proofs.lemmas.Cmp.{eq_by_cmp_equiv}
use Rattle.std.proofs.lemmas.List.{length-map}
use Rattle.std.proofs.lemmas.List.Elements.{All-nil, All-cons, All-map, All-weaker}
use Rattle.std.proofs.lemmas.List.Kept.{AllPairs-cons}
use Rattle.sn_ast.specs.declared.declaration.BoxDecl.{BoxDecl}
use Rattle.sn_ast.specs.declared.declaration.FunDecl.{FunDecl}
use Rattle.sn_ast.specs.declared.label.Ident.{Ident}
use Rattle.sn_ast.specs.declared.label.LabelAt.{LabelAt}
use Rattle.sn_ast.specs.declared.label.Tuple.{Tuple}
use Rattle.sn_names.specs.Names.{entered, is_held}
use Rattle.sn_net.specs.Boxes.{IsClosedBox, IsTuple, closed_step, is_closed_at}
use Rattle.sn_net.specs.declared.expr.Expr.{Expr, fold-Expr}
use Rattle.sn_net.specs.declared.expr.Fun.{Fun}
use Rattle.sn_record.specs.declared.label.Label.{Label}
use Rattle.sn_record.specs.Label.{label_cmp, label_cmp_total}
use Rattle.sn_record.specs.LabelSet.{Labels, contains}
use Rattle.sn_record.proofs.Sets.{contains-insert}
use Rattle.sn_label_scope.specs.Labels.{label_at, no_repeats}
use Rattle.sn_label_scope.specs.Refusals.{required}
use Rattle.sn_label_scope.specs.declared.refusal.Reason.TheVariants.{Twice, Arity}
use Rattle.sn_label_scope.proofs.Checks.{Tells, required_tells, tells_each}
use Rattle.sn_box_scope.specs.Variables.{field_variable, label_variable}
use Rattle.sn_box_scope.specs.Functions.{builtin_named}
use Rattle.sn_box_scope.specs.Expressions.{expr_at}
use Rattle.sn_box_scope.specs.Boxes.{box_at, box_required, fun_at, fun_required, names_apart, tuple_at, tuple_required}
use Rattle.sn_box_scope.proofs.ClosedExpressions.{IsOver, expr_tells}

-- a label that is not in a set with one label more is another, and was not in the set
another : (set : Labels) (added label : Label) → contains (finite.insert set added tt) label ≡ false → (added ≢ label) × (contains set label ≡ false)
another set added label absent =
    let parts = or_parts (eq_by_cmp label_cmp label added) (contains set label) (sym (contains-insert set added label) ∙ absent) in
    (λ same. true≢false (sym (ap (eq_by_cmp label_cmp label) same ∙ (eq_by_cmp_equiv label_cmp_total).refl label) ∙ parts.0), parts.1)

-- no label of the list is in the set
abbrev AreNew : Labels → List Label → Type 0
AreNew set labels = All (λ label. contains set label ≡ false) labels

-- labels that are not refused are apart, and none of them is in the set
labels_tell : (names : List (List ℕ)) (set : Labels) (labels : List LabelAt) → Tells (no_repeats names set labels) (IsTuple (each (label_at names) labels) × AreNew set (each (label_at names) labels))
labels_tell names set [] least none = (none, (λ i j d before within. absurd (omega arith), All-nil _))
labels_tell names set (label ∷ labels) least none =
    let added = label_at names label in
    let others = each (label_at names) labels in
    let rest = labels_tell names (finite.insert set added tt) labels (required (not (contains set added)) Twice label.name.at least) none in
    let new = required_tells (not (contains set added)) Twice label.name.at least rest.0 in
    let apart = All-weaker (λ other. contains (finite.insert set added tt) other ≡ false) (λ other. (added ≢ other) × (contains set other ≡ false)) (another set added) others rest.1.1 in (
      new.0,
      (
        AllPairs-cons (λ one other. one ≢ other) added others (λ i d within. (apart i d within).0) rest.1.0,
        All-cons (λ other. contains set other ≡ false) added others (not-true (contains set added) new.1) (λ i d within. (apart i d within).1),
      ),
    )

tuple_tells : (names : List (List ℕ)) (tuple : Tuple) → Tells (λ least. tuple_required names least tuple) (IsTuple (tuple_at names tuple))
tuple_tells names tuple least none = let told = labels_tell names finite.empty tuple.labels least none in (told.0, told.1.0)

-- names that are not refused leave no refusal before them
apart_tell : (seen : List (List ℕ)) (names : List Ident) → Tells (names_apart seen names) (Unit {0})
apart_tell seen [] least none = (none, tt)
apart_tell seen (name ∷ names) least none =
    let rest = apart_tell (entered seen name.text) names (required (not (is_held seen name.text)) Twice name.at least) none in
    ((required_tells (not (is_held seen name.text)) Twice name.at least rest.0).0, tt)

-- a function that is not refused is closed over its parameters
fun_tells : (declaration : BoxDecl) (fun : FunDecl) → Tells (λ least. fun_required declaration least fun) (IsOver declaration (fun_at declaration fun).params (fun_at declaration fun).body)
fun_tells declaration fun least none =
    let variables = each field_variable fun.params in
    let named = required (is_none (builtin_named fun.name.text)) Twice fun.name.at least in
    let few = required (nat_le (length fun.params) 8) Arity fun.name.at named in
    let body = expr_tells declaration fun.body variables (names_apart [] fun.params few) none in
    let apart = apart_tell [] fun.params few body.0 in
    let sized = required_tells (nat_le (length fun.params) 8) Arity fun.name.at named apart.0 in
    let first = required_tells (is_none (builtin_named fun.name.text)) Twice fun.name.at least sized.0 in
    (first.0, subst (λ n. IsOver declaration n (expr_at declaration fun.body variables)) (length-map fun.params field_variable) body.1)

-- the sizes of a box's functions and output tuples are those of its declaration
sizes_of_funs : (declaration : BoxDecl) (funs : List FunDecl) → each (λ (fun : Fun). fun.params) (each (fun_at declaration) funs) ≡ each (λ fun. length fun.params) funs
sizes_of_funs declaration [] = refl
sizes_of_funs declaration (fun ∷ funs) = ap (λ sizes. length fun.params ∷ sizes) (sizes_of_funs declaration funs)

sizes_of_outputs : (names : List (List ℕ)) (tuples : List Tuple) → each (λ (labels : List Label). length labels) (each (tuple_at names) tuples) ≡ each (λ tuple. length tuple.labels) tuples
sizes_of_outputs names [] = refl
sizes_of_outputs names (tuple ∷ tuples) =
    ap (λ size. size ∷ each (λ (labels : List Label). length labels) (each (tuple_at names) tuples)) (length-map tuple.labels (label_at names))
    ∙ ap (λ sizes. length tuple.labels ∷ sizes) (sizes_of_outputs names tuples)

-- what is closed over the sizes of the declaration is closed in the box
closed_in : (names : List (List ℕ)) (declaration : BoxDecl) (n : ℕ) (expr : Expr) → IsOver declaration n expr → IsTrue (is_closed_at (box_at names declaration) n expr)
closed_in names declaration n expr = subst₂ (λ funs outputs. IsTrue (fold-Expr (ℕ → _) (closed_step funs outputs) expr n)) (sym (sizes_of_funs declaration declaration.funs)) (sym (sizes_of_outputs names declaration.outputs))

-- where nothing of a box declaration is refused, the box is closed
pub box_tells : (names : List (List ℕ)) (declaration : BoxDecl) → Tells (box_required names declaration) (IsClosedBox (box_at names declaration))
box_tells names declaration least none =
    let program = box_at names declaration in
    let variables = each label_variable declaration.input.labels in
    let entered = tuple_required names least declaration.input in
    let emitted = fold (tuple_required names) entered declaration.outputs in
    let named = names_apart [] (each (λ fun. fun.name) declaration.funs) emitted in
    let called = fold (fun_required declaration) named declaration.funs in
    let body = expr_tells declaration declaration.body variables called none in
    let funs = tells_each (fun_required declaration) (λ fun. IsOver declaration (fun_at declaration fun).params (fun_at declaration fun).body) (fun_tells declaration) declaration.funs named body.0 in
    let apart = apart_tell [] (each (λ fun. fun.name) declaration.funs) emitted funs.0 in
    let outputs = tells_each (tuple_required names) (λ tuple. IsTuple (tuple_at names tuple)) (tuple_tells names) declaration.outputs entered apart.0 in
    let input = tuple_tells names declaration.input least outputs.0 in
    let closed = All-weaker _ (λ fun. IsTrue (is_closed_at program (fun_at declaration fun).params (fun_at declaration fun).body)) (λ fun. closed_in names declaration (fun_at declaration fun).params (fun_at declaration fun).body) declaration.funs funs.1 in
    let same : length variables ≡ length program.input = length-map declaration.input.labels label_variable ∙ sym (length-map declaration.input.labels (label_at names)) in (
      input.0,
      record {
        input = input.1;
        outputs = All-map IsTuple (tuple_at names) declaration.outputs outputs.1;
        funs = All-map (λ (fun : Fun). IsTrue (is_closed_at program fun.params fun.body)) (fun_at declaration) declaration.funs closed;
        body = closed_in names declaration (length program.input) program.body (subst (λ n. IsOver declaration n program.body) same body.1);
      },
    )
