-- Checks of boxes find what breaks their rules.
use Rattle.std.proofs.Common.{◌≡◌, ℕ, ◌+◌, ◌≤◌, ◌==◌, Bool, true, false, ◌||◌, nat_lt, nat_le, if◌then◌else◌, List, [], ◌∷◌, length, map as each, Option, Some, None, fold, ◌⊎◌, inl, inr, refl, sym, ap, ◌∙◌, subst, subst₂, arith}
use Rattle.std.specs.List.{list_any}
use Rattle.std.specs.Option.{is_none}
use Rattle.std.proofs.lemmas.Bool.Decides.{nat_tests}
use Rattle.std.proofs.lemmas.List.{length-map}
use Rattle.sn_ast.specs.declared.box_expr.BExpr.{BExpr, fold-roll-BExpr}
use Rattle.sn_ast.specs.declared.box_expr.BForm.{BForm, fold-BForm}
use Rattle.sn_ast.specs.declared.box_expr.BForm.TheFolds.{fold-roll-BForm, ind-BExpr, map-BForm}
use Rattle.sn_ast.specs.declared.box_expr.BForm.TheOpen.{BForm-F}
use Rattle.sn_ast.specs.declared.box_expr.BForm.TheViews.{out-BForm, out-roll-BForm, out-roll-BExpr, roll-BForm, roll-BExpr}
use Rattle.sn_ast.specs.declared.declaration.BoxDecl.{BoxDecl}
use Rattle.sn_ast.specs.declared.declaration.FunDecl.{FunDecl}
use Rattle.sn_ast.specs.declared.label.Ident.{Ident}
use Rattle.sn_ast.specs.declared.label.Tuple.{Tuple}
use Rattle.sn_box_scope.specs.Boxes.{box_required, fun_required, names_apart, tuple_required}
use Rattle.sn_box_scope.specs.Expressions.{expr_required, output_number, output_required, parts_required, required_step}
use Rattle.sn_box_scope.specs.Functions.{builtin_named, call_required, size_required}
use Rattle.sn_box_scope.specs.Variables.{field_variable, is_named, label_variable, last_named, variable_number, variable_required, with_bound}
use Rattle.sn_label_scope.specs.Refusals.{Check, required}
use Rattle.sn_label_scope.specs.declared.refusal.Reason.TheVariants.{Unknown, Twice, Arity}
use Rattle.sn_label_scope.specs.declared.refusal.Refusal.{Refusal}
use Rattle.sn_net.specs.Boxes.{has_size}
use Rattle.sn_record.specs.Value.{is_printable_text}
use Rattle.sn_scope_rules.specs.Boxes.{BoxBreaks, ExprBreaks, FormBreaks, FunBreaks, IdentsBreak, Seen, Variable, arguments_of, form_of, output_at, parts_in, parts_of, place_of, seen}
use Rattle.sn_scope_rules.specs.Boxes.BoxBreaks.{in_body, in_fun, in_input, in_names, in_output}
use Rattle.sn_scope_rules.specs.Boxes.ExprBreaks.{in_form}
use Rattle.sn_scope_rules.specs.Boxes.FormBreaks.{argument_count, no_such_function, no_such_name, no_such_tag, not_printable, no_such_output, output_count}
use Rattle.sn_scope_rules.specs.Boxes.FunBreaks.{built_in, in_fun_body, in_parameters, parameter_count}
use Rattle.sn_scope_rules.specs.Labels.{LabelsBreak}
use Rattle.sn_scope_rules.specs.Refusals.{arity, unknown}
use Rattle.sn_scope_rules.specs.Standing.{StandsIn, StandsWithin}
use Rattle.sn_scope_rules.specs.Standing.StandsWithin.{deeper, itself}
use Rattle.sn_scope_rules.proofs.Calls.{called_is, output_takes, takes}
use Rattle.sn_scope_rules.proofs.Checks.{Among, Fails, Finds, among_cases, among_cons, among_none, finds_both, finds_each, finds_nothing, finds_required, finds_same}
use Rattle.sn_scope_rules.proofs.Held.{HeldBox}
use Rattle.sn_scope_rules.proofs.Idents.{idents_find}
use Rattle.sn_scope_rules.proofs.Labels.{labels_break}
use Rattle.sn_scope_rules.proofs.Standing.{within_cases}

-- the number of a variable is one of theirs where one has the name
last_is : (tag : Bool) (name : List ℕ) (found place : ℕ) (variables : List Variable) (n : ℕ) → place + length variables ≤ n
    → nat_lt (last_named tag name found place variables) n ≡ (nat_lt found n || list_any (is_named tag name) variables)
last_is tag name found place [] n within = grind (arith, nat_tests)
last_is tag name found place (variable ∷ variables) n within =
    last_is tag name (if is_named tag name variable then place else found) (place + 1) variables n (grind (arith, within)) ∙ one_more (is_named tag name variable)
  where
    below : nat_lt place n ≡ true
    below = grind (arith, nat_tests, within)

    one_more : (b : Bool) → (nat_lt (if b then place else found) n || list_any (is_named tag name) variables) ≡ (nat_lt found n || (b || list_any (is_named tag name) variables))
    one_more true = ap (λ x. x || list_any (is_named tag name) variables) below ∙ either (nat_lt found n)
      where
        either : (b : Bool) → true ≡ (b || true)
        either true = refl
        either false = refl
    one_more false = refl

pub stands_is : (tag : Bool) (name : List ℕ) (variables : List Variable) → nat_lt (variable_number tag name variables) (length variables) ≡ list_any (is_named tag name) variables
stands_is tag name variables = last_is tag name (length variables) 0 variables (length variables) (grind arith) ∙ ap (λ b. b || list_any (is_named tag name) variables) none
  where
    none : nat_lt (length variables) (length variables) ≡ false
    none = grind (arith, nat_tests)

module _ (declaration : BoxDecl) where
  abbrev Breaks : Seen → Refusal → Type 0
  Breaks = ExprBreaks declaration

  -- what is refused in a form, and in the expressions that it is made of
  abbrev LevelBreaks : ℕ → List Variable → BForm-F BForm BExpr → Refusal → Type 0
  LevelBreaks place variables x r = FormBreaks declaration variables place x r ⊎ Among Breaks (parts_in variables x) r

  abbrev Here : Seen → Refusal → Type 0
  Here e r = LevelBreaks (place_of e.expr) e.variables (form_of e.expr) r

  expr_to : (e : Seen) (r : Refusal) → Here e r → Breaks e r
  expr_to e r (inl one) = in_form itself one
  expr_to e r (inr one) = nested one.0 one.1 one.2
    where
      nested : (part : Seen) → StandsIn part (parts_of e) → Breaks part r → Breaks e r
      nested part at (in_form inner breaks) = in_form (deeper at inner) breaks

  expr_from : (e : Seen) (r : Refusal) → Breaks e r → Here e r
  expr_from e r (in_form {part} at breaks) = sides (within_cases parts_of Form part e at breaks)
    where
      Form : Seen → Type 0
      Form n = FormBreaks declaration n.variables (place_of n.expr) (form_of n.expr) r

      sides : Form e ⊎ ((part : Seen) × StandsIn part (parts_of e) × ((y : Seen) × StandsWithin parts_of y part × Form y)) → Here e r
      sides (inl one) = inl one
      sides (inr one) = inr (one.0, one.1, in_form one.2.1 one.2.2)

  -- the check of a form
  abbrev form_check : BForm → ℕ → List Variable → Check
  form_check = fold-BForm (ℕ → List Variable → Check) (List Variable → Check) (required_step declaration) (λ e. e.form e.at)

  abbrev check_of : BExpr → List Variable → Check
  check_of = expr_required declaration

  abbrev FormFinds : BForm → Type 0
  FormFinds form = (place : ℕ) (variables : List Variable) → Finds (form_check form place variables) (LevelBreaks place variables (out-BForm form))

  abbrev ExprFinds : BExpr → Type 0
  ExprFinds e = (variables : List Variable) → Finds (check_of e variables) (Breaks (seen variables e))

  level : (x : BForm-F BForm BExpr)
      → ((place : ℕ) (variables : List Variable) → Finds (required_step declaration (map-BForm BForm BExpr (ℕ → List Variable → Check) (List Variable → Check) form_check check_of x) place variables) (LevelBreaks place variables x))
      → FormFinds (roll-BForm x)
  level x found = subst₂ (λ (check : ℕ → List Variable → Check) (form : BForm-F BForm BExpr). (place : ℕ) (variables : List Variable) → Finds (check place variables) (LevelBreaks place variables form))
      (sym (fold-roll-BForm (ℕ → List Variable → Check) (List Variable → Check) (required_step declaration) (λ e. e.form e.at) x)) (sym (out-roll-BForm x)) found

  whole : (place : ℕ) (form : BForm) → FormFinds form → ExprFinds (roll-BExpr (record { at = place; form = form }))
  whole place form found variables = finds_same (check_of e variables) (Here (seen variables e)) (Breaks (seen variables e))
      (subst₂ (λ (check : List Variable → Check) (n : _). Finds (check variables) (LevelBreaks n.at variables (out-BForm n.form)))
      (sym (fold-roll-BExpr (ℕ → List Variable → Check) (List Variable → Check) (required_step declaration) (λ e. e.form e.at) (record { at = place; form = form }))) (sym (out-roll-BExpr (record { at = place; form = form }))) (found place variables))
      (expr_to (seen variables e)) (expr_from (seen variables e))
    where
      e : BExpr
      e = roll-BExpr (record { at = place; form = form })

  abbrev Found : Type 0
  Found = (e : BExpr) × ExprFinds e

  abbrev exprs : List Found → List BExpr
  exprs parts = each (λ (e : Found). e.0) parts

  -- one part, two and three
  one_finds : (e : Found) (variables : List Variable) → Finds (check_of e.0 variables) (Among Breaks (seen variables e.0 ∷ []))
  one_finds e variables = finds_same (check_of e.0 variables) (Breaks (seen variables e.0)) (Among Breaks (seen variables e.0 ∷ [])) (e.1 variables) (λ r one. among_cons Breaks (seen variables e.0) [] r (inl one)) from
    where
      alone : (r : Refusal) → Breaks (seen variables e.0) r ⊎ Among Breaks [] r → Breaks (seen variables e.0) r
      alone r (inl breaks) = breaks
      alone r (inr none) = absurd (among_none Breaks r none)

      from : (r : Refusal) → Among Breaks (seen variables e.0 ∷ []) r → Breaks (seen variables e.0) r
      from r one = alone r (among_cases Breaks (seen variables e.0) [] r one)

  more_find : (e : Found) (variables : List Variable) (rest : Check) (parts : List Seen) → Finds rest (Among Breaks parts) → Finds (λ least. rest (check_of e.0 variables least)) (Among Breaks (seen variables e.0 ∷ parts))
  more_find e variables rest parts found = finds_same (λ least. rest (check_of e.0 variables least)) (λ r. Breaks (seen variables e.0) r ⊎ Among Breaks parts r) (Among Breaks (seen variables e.0 ∷ parts))
      (finds_both (check_of e.0 variables) rest (Breaks (seen variables e.0)) (Among Breaks parts) (e.1 variables) found) (among_cons Breaks (seen variables e.0) parts) (among_cases Breaks (seen variables e.0) parts)

  two_find : (e f : Found) (variables : List Variable) → Finds (λ least. check_of f.0 variables (check_of e.0 variables least)) (Among Breaks (seen variables e.0 ∷ seen variables f.0 ∷ []))
  two_find e f variables = more_find e variables (check_of f.0 variables) (seen variables f.0 ∷ []) (one_finds f variables)

  all_find : (parts : List Found) (variables : List Variable) → Finds (parts_required (each check_of (exprs parts)) variables) (Among Breaks (each (seen variables) (exprs parts)))
  all_find [] variables = finds_nothing (Among Breaks []) (among_none Breaks)
  all_find (part ∷ parts) variables = more_find part variables (parts_required (each check_of (exprs parts)) variables) (each (seen variables) (exprs parts)) (all_find parts variables)

  -- a form in which nothing is refused of its own
  abbrev IsFree : BForm-F BForm BExpr → Type 0
  IsFree x = (place : ℕ) (variables : List Variable) (r : Refusal) → FormBreaks declaration variables place x r → ⊥

  parts_alone : (x : BForm-F BForm BExpr) → IsFree x → (place : ℕ) (variables : List Variable) (check : Check) → Finds check (Among Breaks (parts_in variables x)) → Finds check (LevelBreaks place variables x)
  parts_alone x free place variables check found = finds_same check (Among Breaks (parts_in variables x)) (LevelBreaks place variables x) found (λ r one. inr one) from
    where
      from : (r : Refusal) → LevelBreaks place variables x r → Among Breaks (parts_in variables x) r
      from r (inl one) = absurd (free place variables r one)
      from r (inr one) = one

  free_number : (n : _) → IsFree (BForm-F.Number n)
  free_number n place variables r one = elim one [ ]

  free_neg : (e : BExpr) → IsFree (BForm-F.Neg e)
  free_neg e place variables r one = elim one [ ]

  free_not : (e : BExpr) → IsFree (BForm-F.Not e)
  free_not e place variables r one = elim one [ ]

  free_op : (o : _) (e f : BExpr) → IsFree (BForm-F.Op o e f)
  free_op o e f place variables r one = elim one [ ]

  free_and : (e f : BExpr) → IsFree (BForm-F.And e f)
  free_and e f place variables r one = elim one [ ]

  free_or : (e f : BExpr) → IsFree (BForm-F.Or e f)
  free_or e f place variables r one = elim one [ ]

  free_if : (c e f : BExpr) → IsFree (BForm-F.If c e f)
  free_if c e f place variables r one = elim one [ ]

  free_let : (name : Ident) (e f : BExpr) → IsFree (BForm-F.Let name e f)
  free_let name e f place variables r one = elim one [ ]

  free_seq : (parts : List BExpr) → IsFree (BForm-F.Seq parts)
  free_seq parts place variables r one = elim one [ ]

  free_list : (parts : List BExpr) → IsFree (BForm-F.ListLit parts)
  free_list parts place variables r one = elim one [ ]

  -- a form of no parts that is refused where a test fails
  alone_finds : (x : BForm-F BForm BExpr) (place : ℕ) (variables : List Variable) (check : Check) (Own : Refusal → Type 0) → Finds check Own
      → ((r : Refusal) → Own r → FormBreaks declaration variables place x r) → ((r : Refusal) → FormBreaks declaration variables place x r → Own r) → ((r : Refusal) → Among Breaks (parts_in variables x) r → ⊥)
      → Finds check (LevelBreaks place variables x)
  alone_finds x place variables check Own found to from none = finds_same check Own (LevelBreaks place variables x) found (λ r own. inl (to r own)) back
    where
      back : (r : Refusal) → LevelBreaks place variables x r → Own r
      back r (inl one) = from r one
      back r (inr one) = absurd (none r one)

  -- parts, and then what is refused of the form itself
  after_parts : (x : BForm-F BForm BExpr) (place : ℕ) (variables : List Variable) (parts own : Check) (Own : Refusal → Type 0) → Finds parts (Among Breaks (parts_in variables x)) → Finds own Own
      → ((r : Refusal) → Own r → FormBreaks declaration variables place x r) → ((r : Refusal) → FormBreaks declaration variables place x r → Own r)
      → Finds (λ least. own (parts least)) (LevelBreaks place variables x)
  after_parts x place variables parts own Own first second to from = finds_same (λ least. own (parts least)) (λ r. Among Breaks (parts_in variables x) r ⊎ Own r) (LevelBreaks place variables x)
      (finds_both parts own (Among Breaks (parts_in variables x)) Own first second) forth back
    where
      forth : (r : Refusal) → Among Breaks (parts_in variables x) r ⊎ Own r → LevelBreaks place variables x r
      forth r (inl one) = inr one
      forth r (inr own) = inl (to r own)

      back : (r : Refusal) → LevelBreaks place variables x r → Among Breaks (parts_in variables x) r ⊎ Own r
      back r (inl one) = inr (from r one)
      back r (inr one) = inl one

  text_finds : (text : List ℕ) (place : ℕ) (variables : List Variable) → Finds (required (is_printable_text text) Unknown place) (LevelBreaks place variables (BForm-F.TextLit text))
  text_finds text place variables = alone_finds (BForm-F.TextLit text) place variables (required (is_printable_text text) Unknown place) (Fails (is_printable_text text) Unknown place) (finds_required (is_printable_text text) Unknown place)
      (λ r fails. subst (FormBreaks declaration variables place (BForm-F.TextLit text)) fails.1 (not_printable fails.0)) from (among_none Breaks)
    where
      from : (r : Refusal) → FormBreaks declaration variables place (BForm-F.TextLit text) r → Fails (is_printable_text text) Unknown place r
      from r (not_printable odd) = (odd, refl)

  tag_finds : (name : Ident) (place : ℕ) (variables : List Variable) → Finds (variable_required true name variables) (LevelBreaks place variables (BForm-F.Tag name))
  tag_finds name place variables = alone_finds (BForm-F.Tag name) place variables (variable_required true name variables) (Fails ok Unknown name.at) (finds_required ok Unknown name.at)
      (λ r fails. subst (FormBreaks declaration variables place (BForm-F.Tag name)) fails.1 (no_such_tag (sym (stands_is true name.text variables) ∙ fails.0))) from (among_none Breaks)
    where
      ok : Bool
      ok = nat_lt (variable_number true name.text variables) (length variables)

      from : (r : Refusal) → FormBreaks declaration variables place (BForm-F.Tag name) r → Fails ok Unknown name.at r
      from r (no_such_tag none) = (stands_is true name.text variables ∙ none, refl)

  name_finds : (name : Ident) (place : ℕ) (variables : List Variable) → Finds (variable_required false name variables) (LevelBreaks place variables (BForm-F.Name name))
  name_finds name place variables = alone_finds (BForm-F.Name name) place variables (variable_required false name variables) (Fails ok Unknown name.at) (finds_required ok Unknown name.at)
      (λ r fails. subst (FormBreaks declaration variables place (BForm-F.Name name)) fails.1 (no_such_name (sym (stands_is false name.text variables) ∙ fails.0))) from (among_none Breaks)
    where
      ok : Bool
      ok = nat_lt (variable_number false name.text variables) (length variables)

      from : (r : Refusal) → FormBreaks declaration variables place (BForm-F.Name name) r → Fails ok Unknown name.at r
      from r (no_such_name none) = (stands_is false name.text variables ∙ none, refl)

  -- a call of no function, or with more or fewer arguments than it takes
  abbrev Misfits : Option ℕ → ℕ → ℕ → Refusal → Type 0
  Misfits (Some size) count at r = Fails (count == size) Arity at r
  Misfits None count at r = unknown at ≡ r

  size_finds : (size : Option ℕ) (count at : ℕ) → Finds (size_required size count at) (Misfits size count at)
  size_finds (Some size) count at = finds_required (count == size) Arity at
  size_finds None count at = finds_same (required false Unknown at) (Fails false Unknown at) (Misfits None count at) (finds_required false Unknown at) (λ r fails. fails.1) (λ r same. (refl, same))

  misfit_to : (name : Ident) (parts : List BExpr) (variables : List Variable) (place : ℕ) (found : Option ℕ) → arguments_of declaration.funs name.text ≡ found → (r : Refusal)
      → Misfits found (length parts) name.at r → FormBreaks declaration variables place (BForm-F.Call name parts) r
  misfit_to name parts variables place (Some size) is r fails = subst (FormBreaks declaration variables place (BForm-F.Call name parts)) fails.1 (argument_count size is fails.0)
  misfit_to name parts variables place None is r same = subst (FormBreaks declaration variables place (BForm-F.Call name parts)) same (no_such_function is)

  misfit_from : (name : Ident) (parts : List BExpr) (variables : List Variable) (place : ℕ) (r : Refusal)
      → FormBreaks declaration variables place (BForm-F.Call name parts) r → Misfits (arguments_of declaration.funs name.text) (length parts) name.at r
  misfit_from name parts variables place r (no_such_function none) = subst (λ found. Misfits found (length parts) name.at (unknown name.at)) (sym none) refl
  misfit_from name parts variables place r (argument_count size is wrong) = subst (λ found. Misfits found (length parts) name.at (arity name.at)) (sym is) (wrong, refl)

  call_finds : (name : Ident) (parts : List Found) (place : ℕ) (variables : List Variable)
      → Finds (λ least. call_required declaration.funs name (length (each check_of (exprs parts))) (parts_required (each check_of (exprs parts)) variables least)) (LevelBreaks place variables (BForm-F.Call name (exprs parts)))
  call_finds name parts place variables = subst (λ count. Finds (λ least. call_required declaration.funs name count (parts_required (each check_of (exprs parts)) variables least)) (LevelBreaks place variables (BForm-F.Call name (exprs parts))))
      (sym (length-map (exprs parts) check_of))
      (after_parts (BForm-F.Call name (exprs parts)) place variables (parts_required (each check_of (exprs parts)) variables) (call_required declaration.funs name (length (exprs parts))) (Misfits found (length (exprs parts)) name.at)
      (all_find parts variables) (subst (λ size. Finds (size_required size (length (exprs parts)) name.at) (Misfits found (length (exprs parts)) name.at)) (sym (called_is declaration.funs name.text)) (size_finds found (length (exprs parts)) name.at)) (misfit_to name (exprs parts) variables place found refl) (misfit_from name (exprs parts) variables place))
    where
      found : Option ℕ
      found = arguments_of declaration.funs name.text

  out_finds : (n : ℕ) (parts : List Found) (place : ℕ) (variables : List Variable)
      → Finds (λ least. output_required declaration n (length (each check_of (exprs parts))) place (parts_required (each check_of (exprs parts)) variables least)) (LevelBreaks place variables (BForm-F.Out n (exprs parts)))
  out_finds n parts place variables = subst (λ count. Finds (λ least. output_required declaration n count place (parts_required (each check_of (exprs parts)) variables least)) (LevelBreaks place variables (BForm-F.Out n (exprs parts))))
      (sym (length-map (exprs parts) check_of))
      (after_parts (BForm-F.Out n (exprs parts)) place variables (parts_required (each check_of (exprs parts)) variables) (required ok Arity place) (Fails ok Arity place)
      (all_find parts variables) (finds_required ok Arity place) to from)
    where
      ok : Bool
      ok = has_size (each (λ tuple. length tuple.labels) declaration.outputs) (output_number (length declaration.outputs) n) (length (exprs parts))

      same : ok ≡ takes (output_at declaration.outputs n) (length (exprs parts))
      same = output_takes declaration.outputs n (length (exprs parts))

      by_output : (output : Option Tuple) → output_at declaration.outputs n ≡ output → takes output (length (exprs parts)) ≡ false → FormBreaks declaration variables place (BForm-F.Out n (exprs parts)) (arity place)
      by_output None is wrong = no_such_output is
      by_output (Some output) is wrong = output_count output is wrong

      to : (r : Refusal) → Fails ok Arity place r → FormBreaks declaration variables place (BForm-F.Out n (exprs parts)) r
      to r fails = subst (FormBreaks declaration variables place (BForm-F.Out n (exprs parts))) fails.1 (by_output (output_at declaration.outputs n) refl (sym same ∙ fails.0))

      from : (r : Refusal) → FormBreaks declaration variables place (BForm-F.Out n (exprs parts)) r → Fails ok Arity place r
      from r (no_such_output none) = (same ∙ ap (λ output. takes output (length (exprs parts))) none, refl)
      from r (output_count output is wrong) = (same ∙ ap (λ output. takes output (length (exprs parts))) is ∙ wrong, refl)

  -- what follows a `let` sees its name
  let_finds : (name : Ident) (e f : Found) (variables : List Variable)
      → Finds (λ least. check_of f.0 (with_bound variables name) (check_of e.0 variables least)) (Among Breaks (seen variables e.0 ∷ seen (with_bound variables name) f.0 ∷ []))
  let_finds name e f variables = more_find e variables (check_of f.0 (with_bound variables name)) (seen (with_bound variables name) f.0 ∷ []) (one_finds f (with_bound variables name))

  -- the check of an expression finds what breaks its rules
  pub expr_finds : (e : BExpr) (variables : List Variable) → Finds (expr_required declaration e variables) (ExprBreaks declaration (seen variables e))
  expr_finds = ind-BExpr FormFinds ExprFinds
      (λ x y is. subst (λ z. FormFinds (roll-BForm z)) is (level (map-BForm _ _ BForm BExpr (λ e. e.0) (λ e. e.0) y) (elim y as (λ z. (place : ℕ) (variables : List Variable) → Finds
      (required_step declaration (map-BForm BForm BExpr (ℕ → List Variable → Check) (List Variable → Check) form_check check_of (map-BForm _ _ BForm BExpr (λ e. e.0) (λ e. e.0) z)) place variables)
      (LevelBreaks place variables (map-BForm _ _ BForm BExpr (λ e. e.0) (λ e. e.0) z))) [
        | BForm-F.Number i ↦ λ place variables. parts_alone (BForm-F.Number i) (free_number i) place variables (λ least. least) (finds_nothing (Among Breaks []) (among_none Breaks))
        | BForm-F.TextLit text ↦ text_finds text
        | BForm-F.Tag name ↦ tag_finds name
        | BForm-F.Name name ↦ name_finds name
        | BForm-F.Neg e ↦ λ place variables. parts_alone (BForm-F.Neg e.0) (free_neg e.0) place variables (check_of e.0 variables) (one_finds e variables)
        | BForm-F.Not e ↦ λ place variables. parts_alone (BForm-F.Not e.0) (free_not e.0) place variables (check_of e.0 variables) (one_finds e variables)
        | BForm-F.Op o e f ↦ λ place variables. parts_alone (BForm-F.Op o e.0 f.0) (free_op o e.0 f.0) place variables (λ least. check_of f.0 variables (check_of e.0 variables least)) (two_find e f variables)
        | BForm-F.And e f ↦ λ place variables. parts_alone (BForm-F.And e.0 f.0) (free_and e.0 f.0) place variables (λ least. check_of f.0 variables (check_of e.0 variables least)) (two_find e f variables)
        | BForm-F.Or e f ↦ λ place variables. parts_alone (BForm-F.Or e.0 f.0) (free_or e.0 f.0) place variables (λ least. check_of f.0 variables (check_of e.0 variables least)) (two_find e f variables)
        | BForm-F.If c e f ↦ λ place variables. parts_alone (BForm-F.If c.0 e.0 f.0) (free_if c.0 e.0 f.0) place variables (λ least. check_of f.0 variables (check_of e.0 variables (check_of c.0 variables least)))
            (more_find c variables (λ least. check_of f.0 variables (check_of e.0 variables least)) (seen variables e.0 ∷ seen variables f.0 ∷ []) (two_find e f variables))
        | BForm-F.Let name e f ↦ λ place variables. parts_alone (BForm-F.Let name e.0 f.0) (free_let name e.0 f.0) place variables (λ least. check_of f.0 (with_bound variables name) (check_of e.0 variables least)) (let_finds name e f variables)
        | BForm-F.Seq parts ↦ λ place variables. parts_alone (BForm-F.Seq (exprs parts)) (free_seq (exprs parts)) place variables (parts_required (each check_of (exprs parts)) variables) (all_find parts variables)
        | BForm-F.ListLit parts ↦ λ place variables. parts_alone (BForm-F.ListLit (exprs parts)) (free_list (exprs parts)) place variables (parts_required (each check_of (exprs parts)) variables) (all_find parts variables)
        | BForm-F.Call name parts ↦ call_finds name parts
        | BForm-F.Out n parts ↦ out_finds n parts
      ])))
      (λ x y is. subst (λ z. ExprFinds (roll-BExpr z)) is (whole y.at y.form.0 y.form.1))

  -- a function: its name, how many parameters it has, their names, and its body
  module _ (fun : FunDecl) where
    abbrev own_name : Bool
    own_name = is_none (builtin_named fun.name.text)

    abbrev few : Bool
    few = nat_le (length fun.params) 8

    abbrev InFunBody : Refusal → Type 0
    InFunBody = Breaks (seen (each field_variable fun.params) fun.body)

    abbrev InFun : Refusal → Type 0
    InFun r = Fails own_name Twice fun.name.at r ⊎ (Fails few Arity fun.name.at r ⊎ (IdentsBreak fun.params r ⊎ InFunBody r))

    fun_to : (r : Refusal) → InFun r → FunBreaks declaration fun r
    fun_to r (inl fails) = subst (FunBreaks declaration fun) fails.1 (built_in fails.0)
    fun_to r (inr (inl fails)) = subst (FunBreaks declaration fun) fails.1 (parameter_count fails.0)
    fun_to r (inr (inr (inl one))) = in_parameters one
    fun_to r (inr (inr (inr one))) = in_fun_body one

    fun_from : (r : Refusal) → FunBreaks declaration fun r → InFun r
    fun_from r (built_in known) = inl (known, refl)
    fun_from r (parameter_count many) = inr (inl (many, refl))
    fun_from r (in_parameters one) = inr (inr (inl one))
    fun_from r (in_fun_body one) = inr (inr (inr one))

    pub fun_finds : Finds (λ least. fun_required declaration least fun) (FunBreaks declaration fun)
    fun_finds = finds_same (λ least. fun_required declaration least fun) InFun (FunBreaks declaration fun)
        (finds_both (required own_name Twice fun.name.at) (λ least. body (names_apart [] fun.params (required few Arity fun.name.at least))) (Fails own_name Twice fun.name.at) (λ r. Fails few Arity fun.name.at r ⊎ (IdentsBreak fun.params r ⊎ InFunBody r))
        (finds_required own_name Twice fun.name.at)
        (finds_both (required few Arity fun.name.at) (λ least. body (names_apart [] fun.params least)) (Fails few Arity fun.name.at) (λ r. IdentsBreak fun.params r ⊎ InFunBody r) (finds_required few Arity fun.name.at)
        (finds_both (names_apart [] fun.params) body (IdentsBreak fun.params) InFunBody (idents_find fun.params) (expr_finds fun.body (each field_variable fun.params))))) fun_to fun_from
      where
        body : Check
        body = expr_required declaration fun.body (each field_variable fun.params)

-- a box: its tuples, the names of its functions, its functions, and its body
module _ (names : List (List ℕ)) (declaration : BoxDecl) where
  abbrev fun_names : List Ident
  fun_names = each (λ fun. fun.name) declaration.funs

  abbrev InTuple : Tuple → Refusal → Type 0
  InTuple tuple = LabelsBreak tuple.labels

  abbrev InBody : Refusal → Type 0
  InBody = ExprBreaks declaration (seen (each label_variable declaration.input.labels) declaration.body)

  abbrev InBox : Refusal → Type 0
  InBox r = InTuple declaration.input r ⊎ (Among InTuple declaration.outputs r ⊎ (IdentsBreak fun_names r ⊎ (Among (FunBreaks declaration) declaration.funs r ⊎ InBody r)))

  box_to : (r : Refusal) → InBox r → BoxBreaks declaration r
  box_to r (inl one) = in_input one
  box_to r (inr (inl one)) = in_output one.1 one.2
  box_to r (inr (inr (inl one))) = in_names one
  box_to r (inr (inr (inr (inl one)))) = in_fun one.1 one.2
  box_to r (inr (inr (inr (inr one)))) = in_body one

  box_from : (r : Refusal) → BoxBreaks declaration r → InBox r
  box_from r (in_input one) = inl one
  box_from r (in_output {output} at one) = inr (inl (output, at, one))
  box_from r (in_names one) = inr (inr (inl one))
  box_from r (in_fun {fun} at one) = inr (inr (inr (inl (fun, at, one))))
  box_from r (in_body one) = inr (inr (inr (inr one)))

  -- the check of a box finds what breaks its rules
  pub box_finds : HeldBox names declaration → Finds (box_required names declaration) (BoxBreaks declaration)
  box_finds held = finds_same (box_required names declaration) InBox (BoxBreaks declaration)
      (finds_both (λ least. tuple_required names least declaration.input) (λ least. body (funs (names_apart [] fun_names (outputs least)))) (InTuple declaration.input)
      (λ r. Among InTuple declaration.outputs r ⊎ (IdentsBreak fun_names r ⊎ (Among (FunBreaks declaration) declaration.funs r ⊎ InBody r))) (labels_break names declaration.input.labels held.0)
      (finds_both outputs (λ least. body (funs (names_apart [] fun_names least))) (Among InTuple declaration.outputs) (λ r. IdentsBreak fun_names r ⊎ (Among (FunBreaks declaration) declaration.funs r ⊎ InBody r))
      (finds_each (tuple_required names) InTuple declaration.outputs (λ tuple at. labels_break names tuple.labels (held.1 tuple at)))
      (finds_both (names_apart [] fun_names) (λ least. body (funs least)) (IdentsBreak fun_names) (λ r. Among (FunBreaks declaration) declaration.funs r ⊎ InBody r) (idents_find fun_names)
      (finds_both funs body (Among (FunBreaks declaration) declaration.funs) InBody (finds_each (fun_required declaration) (FunBreaks declaration) declaration.funs (λ fun at. fun_finds declaration fun))
      (expr_finds declaration declaration.body (each label_variable declaration.input.labels)))))) box_to box_from
    where
      outputs : Check
      outputs least = fold (tuple_required names) least declaration.outputs

      funs : Check
      funs least = fold (fun_required declaration) least declaration.funs

      body : Check
      body = expr_required declaration declaration.body (each label_variable declaration.input.labels)
