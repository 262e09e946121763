-- A closed box emits records of its outputs alone.
use Rattle.std.proofs.Common.{◌≡◌, ◌==◌, ℕ, zero, suc, ◌+◌, ◌&&◌, ◌||◌, Bool, true, false, not, cond, if◌then◌else◌, IsTrue, List, [], ◌∷◌, ◌++◌, length, map as each, slice_get, unwrap_or, Option, None, Some, Result, Ok, Err, refl, sym, ap, ◌∙◌, subst, arith}
use Rattle.std.specs.List.{All, AllByRecursion as Each, list_any, Contains}
use Rattle.std.specs.Option.{option_map}
use Rattle.std.specs.Ordering.{eq_by_cmp}
use Rattle.std.specs.FinMap as map
use Rattle.std.proofs.lemmas.Bool.{and_parts}
use Rattle.std.proofs.lemmas.Bool.Decides.{nat_tests}
use Rattle.std.proofs.lemmas.List.{length-map, length_push}
use Rattle.std.proofs.lemmas.Option.{slice_get-map, slice_get_within, get_or_from_slice_get}
use Rattle.sn_record.specs.declared.item.FaultKind.{FaultKind}
use Rattle.sn_record.specs.declared.item.FaultKind.TheVariants.{Kind}
use Rattle.sn_record.specs.declared.label.Label.{Label}
use Rattle.sn_record.specs.declared.value.Value.{Value}
use Rattle.sn_record.specs.declared.value.Value.TheViews.{out-Value}
use Rattle.sn_record.specs.Label.{label_cmp}
use Rattle.sn_record.specs.LabelSet.{Labels, union, minus}
use Rattle.sn_record.specs.Record.{Entries, Matches}
use Rattle.sn_record.proofs.Records.{contains_key-insert}
use Rattle.sn_record.proofs.Scores.{is_match-Matches}
use Rattle.sn_net.specs.declared.expr.BoxProgram.{BoxProgram}
use Rattle.sn_net.specs.declared.expr.Fun.{Fun}
use Rattle.sn_net.specs.declared.expr.Expr.{Expr}
use Rattle.sn_net.specs.declared.expr.Expr.TheOpen.{Expr-F}
use Rattle.sn_net.specs.declared.expr.Expr.TheFolds.{fold_out-Expr, map-Expr}
use Rattle.sn_net.specs.declared.expr.Expr.TheViews.{out-Expr}
use Rattle.sn_net.specs.Boxes.{all_closed, closed_step, has_size, is_closed_at, IsClosedBox}
use Rattle.sn_net.specs.BoxValues.{condition, combined, truth_of, negative, opposite}
use Rattle.sn_net.specs.BoxEvaluation.{Progress, Outcome, Outcome.{Gives, Faults}, Evaluator, followed, ended, all_values, last_value, unless_decided, called, emitting, with_emitted, with_values, fits_kind, node, with_unit, evaluation, body_outcome, values_at, answered, inheriting, box_answer}
use Rattle.sn_net.specs.Cell.{CellState, Passing}
use Rattle.sn_net.specs.Face.{variant_of}
use Rattle.sn_net.specs.Item.{ModelItem, Stuck}
use Rattle.sn_model.specs.Components.{answering, call_record}
use Rattle.sn_typing.specs.Outline.{box_outline}
use Rattle.sn_typing.specs.Flow.{Flows, Takes}
use Rattle.sn_typing.specs.Typed.{IsOf}
use Rattle.sn_typing.proofs.Subsets.{or_false, or_turned}
use Rattle.sn_sound.proofs.Carried.{each_append}
use Rattle.sn_sound.proofs.Emitted.{inherits, made_matches, only_variant}
use Rattle.sn_sound.proofs.Follows.{Answers}
use Rattle.sn_sound.proofs.Scores.{contains_mapped, all_at}

-- the record has all labels of one of the outputs
pub record IsOutput (outputs : List (List Label)) (made : Entries) : Type 0 where
  pub labels : List Label
  pub listed : Contains outputs labels
  pub matched : Matches made (variant_of labels)

-- each record that was emitted so far is of an output, and what is given has P
abbrev Ends : {A : Type 0} → List (List Label) → (A → Type 0) → Outcome A → Type 0
Ends outputs P (Gives x progress) = P x × Each (IsOutput outputs) progress.emitted
Ends outputs P (Faults fault emitted) = Each (IsOutput outputs) emitted

abbrev Any : {A : Type 0} → A → Type 0
Any x = Unit {0}

-- as many labels as values are all set
abbrev set_labels : List Label → Label → Bool
set_labels labels l = list_any (eq_by_cmp label_cmp l) labels

values_set : (labels : List Label) (values : List Value) (made result : Entries) → length values ≡ length labels → with_values labels values made ≡ Ok result
    → (l : Label) → map.contains_key result l ≡ (map.contains_key made l || set_labels labels l)
values_set [] values made result as_many is l =
    let same : made ≡ result = cc in
    ap (λ (m : Entries). map.contains_key m l) (sym same) ∙ sym (or_false (map.contains_key made l))
values_set (label ∷ labels) [] made result as_many is l = absurd (omega (arith, as_many))
values_set (label ∷ labels) (value ∷ values) made result as_many is l =
    at (fits_kind label.kind (out-Value value)) is (λ same. values_set labels values (map.insert made label value) result (omega (arith, as_many)) same l)
  where
    at : (b : Bool) → cond b (with_values labels values (map.insert made label value)) (Err Kind) ≡ Ok result
        → (with_values labels values (map.insert made label value) ≡ Ok result → map.contains_key result l ≡ (map.contains_key (map.insert made label value) l || set_labels labels l))
        → map.contains_key result l ≡ (map.contains_key made l || (eq_by_cmp label_cmp l label || set_labels labels l))
    at true e later =
        later e ∙ ap (λ b. b || set_labels labels l) (contains_key-insert made label value l) ∙ or_turned (eq_by_cmp label_cmp l label) (map.contains_key made l) (set_labels labels l)
    at false e later = cc

module _ (program : BoxProgram) where
  abbrev Well : List Entries → Type 0
  Well = Each (IsOutput program.outputs)

  abbrev Good : {A : Type 0} → (A → Type 0) → Outcome A → Type 0
  Good P outcome = Ends program.outputs P outcome

  -- the expression is closed over some variables
  abbrev Closed : Expr → Type 0
  Closed e = (n : ℕ) × IsTrue (is_closed_at program n e)

  -- the evaluator emits records of outputs alone
  abbrev Emits : Evaluator → Type 0
  Emits evaluate = (e : Expr) (variables : List Value) (progress : Progress) → Closed e → Well progress.emitted → Good Any (evaluate e variables progress)

  followed_good : {A B : Type 0} (P : A → Type 0) (Q : B → Type 0) (outcome : Outcome A) (next : A → Progress → Outcome B) → Good P outcome
      → ((x : A) (progress : Progress) → P x → Well progress.emitted → Good Q (next x progress)) → Good Q (followed outcome next)
  followed_good P Q (Gives x progress) next good more = more x progress good.0 good.1
  followed_good P Q (Faults fault emitted) next good more = good

  ended_good : {A : Type 0} (given : Result A FaultKind) (progress : Progress) → Well progress.emitted → Good Any (ended given progress)
  ended_good (Ok x) progress well = (tt, well)
  ended_good (Err fault) progress well = well

  emitted_good : (labels : List Label) → Contains program.outputs labels → (values : List Value) → length values ≡ length labels → (progress : Progress) → Well progress.emitted
      → (made : Result Entries FaultKind) → with_values labels values map.empty ≡ made → Good Any (with_emitted made progress)
  emitted_good labels listed values as_many progress well (Err fault) is = well
  emitted_good labels listed values as_many progress well (Ok made) is = (
    tt,
    each_append (IsOutput program.outputs) progress.emitted (made ∷ []) well (
      record {
        labels = labels;
        listed = listed;
        matched = made_matches labels made (values_set labels values map.empty made as_many is);
      },
      tt,
    ),
  )

  same_size : (outputs : List (List Label)) (number n : ℕ) (labels : List Label) → slice_get outputs number ≡ Some labels
      → IsTrue (has_size (each (λ labels. length labels) outputs) number n) → length labels ≡ n
  same_size outputs number n labels is sized =
      let here : slice_get (each (λ (labels : List Label). length labels) outputs) number ≡ Some (length labels) = slice_get-map (λ (labels : List Label). length labels) outputs number ∙ ap (option_map (λ (labels : List Label). length labels)) is in
      let test : IsTrue (length labels == n) = sym (ap (λ (size : Option ℕ). unwrap_or (option_map (λ size. size == n) size) false) here) ∙ sized in
      grind (arith, nat_tests, test)

  contains_got : (outputs : List (List Label)) (number : ℕ) (labels : List Label) → slice_get outputs number ≡ Some labels → Contains outputs labels
  contains_got outputs number labels is = (number, slice_get_within outputs number labels is, get_or_from_slice_get outputs number labels labels is)

  module _ (evaluate : Evaluator) (emits : Emits evaluate) (closed_funs : All (λ fun. IsTrue (is_closed_at program fun.params fun.body)) program.funs) where
    abbrev AllClosed : List Expr → ℕ → Type 0
    AllClosed parts n = IsTrue (all_closed (each (λ e m. is_closed_at program m e) parts) n)

    all_values_good : (parts : List Expr) (variables values : List Value) (progress : Progress) (n size : ℕ) → AllClosed parts n → length values + length parts ≡ size
        → Well progress.emitted → Good (λ (made : List Value). length made ≡ size) (all_values evaluate parts variables values progress)
    all_values_good [] variables values progress n size closed as_many well = (omega (arith, as_many), well)
    all_values_good (part ∷ parts) variables values progress n size closed as_many well =
        let both = and_parts (is_closed_at program n part) _ closed in
        followed_good Any (λ (made : List Value). length made ≡ size) (evaluate part variables progress) _ (emits part variables progress (n, both.0) well)
        (λ v now any good. all_values_good parts variables (values ++ v ∷ []) now n size both.1 (omega (arith, as_many, length_push values v)) good)

    last_value_good : (parts : List Expr) (variables : List Value) (value : Value) (progress : Progress) (n : ℕ) → AllClosed parts n → Well progress.emitted
        → Good Any (last_value evaluate parts variables value progress)
    last_value_good [] variables value progress n closed well = (tt, well)
    last_value_good (part ∷ parts) variables value progress n closed well =
        let both = and_parts (is_closed_at program n part) _ closed in
        followed_good Any Any (evaluate part variables progress) _ (emits part variables progress (n, both.0) well)
        (λ v now any good. last_value_good parts variables v now n both.1 good)

    one_good : (e : Expr) (variables : List Value) (next : Value → Result Value FaultKind) (progress : Progress) → Closed e → Well progress.emitted
        → Good Any (followed (evaluate e variables progress) (λ v. ended (next v)))
    one_good e variables next progress closed well =
        followed_good Any Any (evaluate e variables progress) _ (emits e variables progress closed well) (λ v now any good. ended_good (next v) now good)

    unless_decided_good : (decided : Bool) (part : Expr) (variables : List Value) (value : Bool) (progress : Progress) → Closed part → Well progress.emitted
        → Good Any (unless_decided evaluate decided part variables value progress)
    unless_decided_good true part variables value progress closed well = (tt, well)
    unless_decided_good false part variables value progress closed well = one_good part variables truth_of progress closed well

    called_good : (number : ℕ) (arguments : List Value) (progress : Progress) → Well progress.emitted → Good Any (called evaluate (slice_get program.funs number) arguments progress)
    called_good number arguments progress well = at (slice_get program.funs number) refl
      where
        at : (b : Option Fun) → slice_get program.funs number ≡ b → Good Any (called evaluate b arguments progress)
        at None is = well
        at (Some function) is = emits function.body arguments progress (function.params, all_at (λ fun. IsTrue (is_closed_at program fun.params fun.body)) program.funs number function closed_funs is) well

    emitting_good : (number : ℕ) (values : List Value) (progress : Progress) → IsTrue (has_size (each (λ labels. length labels) program.outputs) number (length values)) → Well progress.emitted
        → Good Any (emitting (slice_get program.outputs number) values progress)
    emitting_good number values progress sized well = at (slice_get program.outputs number) refl
      where
        at : (b : Option (List Label)) → slice_get program.outputs number ≡ b → Good Any (emitting b values progress)
        at None is = well
        at (Some labels) is =
            emitted_good labels (contains_got program.outputs number labels is) values (sym (same_size program.outputs number (length values) labels is sized)) progress well
            (with_values labels values map.empty) refl

    abbrev closes : Expr-F Expr → ℕ → Type 0
    closes x n = IsTrue (closed_step (each (λ fun. fun.params) program.funs) (each (λ labels. length labels) program.outputs) (map-Expr _ _ (λ e m. is_closed_at program m e) x) n)

    node_good : (x : Expr-F Expr) (n : ℕ) (variables : List Value) (progress : Progress) → closes x n → Well progress.emitted → Good Any (node program evaluate x variables progress)
    node_good (Expr-F.Int i) n variables progress closed well = (tt, well)
    node_good (Expr-F.TextLit text) n variables progress closed well = ended_good _ progress well
    node_good (Expr-F.Var i) n variables progress closed well = ended_good _ progress well
    node_good (Expr-F.Neg e) n variables progress closed well = one_good e variables negative progress (n, closed) well
    node_good (Expr-F.Not e) n variables progress closed well = one_good e variables opposite progress (n, closed) well
    node_good (Expr-F.Op op e f) n variables progress closed well =
        let both = and_parts (is_closed_at program n e) (is_closed_at program n f) closed in
        followed_good Any Any (evaluate e variables progress) _ (emits e variables progress (n, both.0) well) (λ left now any good. one_good f variables (combined op left) now (n, both.1) good)
    node_good (Expr-F.And e f) n variables progress closed well =
        let both = and_parts (is_closed_at program n e) (is_closed_at program n f) closed in
        followed_good Any Any (evaluate e variables progress) _ (emits e variables progress (n, both.0) well)
        (λ left now any good. followed_good Any Any (ended (condition left) now) _ (ended_good (condition left) now good) (λ holds later any' good'. unless_decided_good (not holds) f variables false later (n, both.1) good'))
    node_good (Expr-F.Or e f) n variables progress closed well =
        let both = and_parts (is_closed_at program n e) (is_closed_at program n f) closed in
        followed_good Any Any (evaluate e variables progress) _ (emits e variables progress (n, both.0) well)
        (λ left now any good. followed_good Any Any (ended (condition left) now) _ (ended_good (condition left) now good) (λ holds later any' good'. unless_decided_good holds f variables true later (n, both.1) good'))
    node_good (Expr-F.If c e f) n variables progress closed well =
        let first = and_parts (is_closed_at program n c) (is_closed_at program n e && is_closed_at program n f) closed in
        let both = and_parts (is_closed_at program n e) (is_closed_at program n f) first.1 in
        followed_good Any Any (evaluate c variables progress) _ (emits c variables progress (n, first.0) well)
        (λ test now any good. followed_good Any Any (ended (condition test) now) _ (ended_good (condition test) now good)
        (λ holds later any' good'. emits (if holds then e else f) variables later (chosen holds both.0 both.1) good'))
      where
        chosen : (b : Bool) → IsTrue (is_closed_at program n e) → IsTrue (is_closed_at program n f) → Closed (if b then e else f)
        chosen true one other = (n, one)
        chosen false one other = (n, other)
    node_good (Expr-F.Let bound rest) n variables progress closed well =
        let both = and_parts (is_closed_at program n bound) (is_closed_at program (n + 1) rest) closed in
        followed_good Any Any (evaluate bound variables progress) _ (emits bound variables progress (n, both.0) well) (λ v now any good. emits rest (variables ++ v ∷ []) now (n + 1, both.1) good)
    node_good (Expr-F.Seq parts) n variables progress closed well = last_value_good parts variables _ progress n closed well
    node_good (Expr-F.ListLit parts) n variables progress closed well =
        followed_good (λ (made : List Value). length made ≡ length parts) Any (all_values evaluate parts variables [] progress) _
        (all_values_good parts variables [] progress n (length parts) closed (omega arith) well) (λ values now any good. ended_good _ now good)
    node_good (Expr-F.Call number parts) n variables progress closed well =
        let both = and_parts _ (all_closed (each (λ e m. is_closed_at program m e) parts) n) closed in
        followed_good (λ (made : List Value). length made ≡ length parts) Any (all_values evaluate parts variables [] progress) _
        (all_values_good parts variables [] progress n (length parts) both.1 (omega arith) well) (λ values now any good. called_good number values now good)
    node_good (Expr-F.Builtin function parts) n variables progress closed well =
        let both = and_parts _ (all_closed (each (λ e m. is_closed_at program m e) parts) n) closed in
        followed_good (λ (made : List Value). length made ≡ length parts) Any (all_values evaluate parts variables [] progress) _
        (all_values_good parts variables [] progress n (length parts) both.1 (omega arith) well) (λ values now any good. ended_good _ now good)
    node_good (Expr-F.Emit number parts) n variables progress closed well =
        let both = and_parts (has_size (each (λ labels. length labels) program.outputs) number (length (each (λ e m. is_closed_at program m e) parts))) (all_closed (each (λ e m. is_closed_at program m e) parts) n) closed in
        let sized : IsTrue (has_size (each (λ labels. length labels) program.outputs) number (length parts)) =
        sym (ap (has_size (each (λ labels. length labels) program.outputs) number) (length-map parts (λ e m. is_closed_at program m e))) ∙ both.0 in
        followed_good (λ (made : List Value). length made ≡ length parts) Any (all_values evaluate parts variables [] progress) _
        (all_values_good parts variables [] progress n (length parts) both.1 (omega arith) well)
        (λ values now as_many good. emitting_good number values now (subst (λ size. IsTrue (has_size (each (λ labels. length labels) program.outputs) number size)) (sym as_many) sized) good)

  module _ (closed_funs : All (λ fun. IsTrue (is_closed_at program fun.params fun.body)) program.funs) where
    opened : (e : Expr) (n : ℕ) → IsTrue (is_closed_at program n e)
        → IsTrue (closed_step (each (λ fun. fun.params) program.funs) (each (λ labels. length labels) program.outputs) (map-Expr _ _ (λ e m. is_closed_at program m e) (out-Expr e)) n)
    opened e n closed =
        sym (ap (λ (test : ℕ → Bool). test n) (fold_out-Expr (ℕ → Bool) (closed_step (each (λ fun. fun.params) program.funs) (each (λ labels. length labels) program.outputs)) e)) ∙ closed

    evaluation_good : (levels : ℕ) → Emits (evaluation program levels)
    evaluation_good zero e variables progress closed well = well
    evaluation_good (suc levels) e variables progress (n, closed) well = at (evaluation_good levels) progress.fuel
      where
        at : Emits (evaluation program levels) → (fuel : ℕ) → Good Any (with_unit fuel progress.emitted (node program (evaluation program levels) (out-Expr e) variables))
        at emits zero = well
        at emits (suc fuel) =
            node_good (evaluation program levels) emits closed_funs (out-Expr e) n variables (record { fuel = fuel; emitted = progress.emitted }) (opened e n closed) well

  -- each emitted record, with what it inherits, is of what flows out
  module _ (place : ℕ) (r : Entries) (v : Labels) (takes : Takes (variant_of program.input ∷ []) v) (from : Matches r v) where
    abbrev out : Labels → Type 0
    out = Flows (box_outline place (Some program)) v

    inherit_each : (emitted : List Entries) → Well emitted → Each (IsOf out) (inheriting program r emitted)
    inherit_each [] well = tt
    inherit_each (made ∷ emitted) well = (
      record {
        variant = union (variant_of well.0.labels) (minus v (variant_of program.input));
        listed = (takes, (variant_of well.0.labels, contains_mapped variant_of program.outputs well.0.labels well.0.listed, refl));
        matched = inherits r made (variant_of well.0.labels) v (variant_of program.input) well.0.matched from;
      },
      inherit_each emitted well.1,
    )

    answered_each : (outcome : Outcome Value) → Good Any outcome → Each (IsOf out) (answered program place r outcome)
    answered_each (Gives value progress) good = inherit_each progress.emitted good.1
    answered_each (Faults fault emitted) good = each_append (IsOf out) (inheriting program r emitted) _ (inherit_each emitted good) (tt, tt)

  pub box_answers : (place fuel : ℕ) → IsClosedBox program
      → Answers (variant_of program.input ∷ []) (Flows (box_outline place (Some program))) (record { next = λ (s : CellState) (x : ModelItem). s; emits = λ s x. answering (call_record (Some program) place fuel) x }) Passing
  box_answers place fuel closed = record {
    start = tt;
    records = λ q r v here takes matches. (
      here,
      subst (λ b. Each (IsOf (Flows (box_outline place (Some program)) v)) (cond b (box_answer program place r fuel) (Stuck place ∷ [])))
          (sym ((is_match-Matches r (variant_of program.input)).1 (only_variant (variant_of program.input) r v takes.has matches)))
          (answered_each place r v takes matches (body_outcome program r fuel)
          (evaluation_good closed.funs fuel program.body (values_at r program.input) (record { fuel = fuel; emitted = [] }) (length program.input, closed.body) tt)),
    );
    faults = λ q fault here. (here, refl);
  }
