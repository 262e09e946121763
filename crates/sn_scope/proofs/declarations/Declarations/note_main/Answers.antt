use Rattle.std.proofs.Common.{◌≡◌, ◌&&◌, true, false, cond, codes, Some, sym, ap, ◌∙◌}
use Rattle.std.specs.Str.{bytes_eq}
use Rattle.sn_scope.specs.Scopes.{is_outermost}
use Rattle.sn_scope.proofs.declarations.Declarations.note_main.Goals as goal
use Rattle.sn_scope.proofs.declarations.Declarations.note_main.Goals.{else-is_outermost-via-then-is_outermost+else-eq, else-is_outermost-via-else-is_outermost}

pub returns-then-eq : goal.returns-then-eq
returns-then-eq c =
    let st = c.args.self.now in
    let outer : is_outermost st.scopes ≡ true = sym c.is_outermost.ensures ∙ c.if-is_outermost.true in
    let same : bytes_eq c.args.name.now.text (codes "main") ≡ true =
    ap (λ n. bytes_eq n (codes "main")) (sym c.as_slice.ensures) ∙ ap (bytes_eq c.as_slice.result.now) (sym c.as_slice-then-is_outermost.ensures) ∙ sym c.eq.ensures ∙ c.if-eq.true in
    let both : (is_outermost st.scopes && bytes_eq c.args.name.now.text (codes "main")) ≡ true = ap (λ b. b && bytes_eq c.args.name.now.text (codes "main")) outer ∙ same in
    ap (λ b. record st { main = cond b (Some c.args.claim) st.main }) (sym both)

pub returns-else-is_outermost : goal.returns-else-is_outermost
returns-else-is_outermost c =
    let st = c.args.self.now in
    elim c.else-is_outermost.branch [
      | else-is_outermost-via-then-is_outermost+else-eq w ↦
          let outer : is_outermost st.scopes ≡ true = sym c.is_outermost.ensures ∙ w.if-is_outermost.true in
          let other : bytes_eq c.args.name.now.text (codes "main") ≡ false =
          ap (λ n. bytes_eq n (codes "main")) (sym w.as_slice.ensures) ∙ ap (bytes_eq w.as_slice.result.now) (sym w.as_slice-then-is_outermost.ensures) ∙ sym w.eq.ensures ∙ w.if-eq.false in
          ap (λ b. record st { main = cond b (Some c.args.claim) st.main }) (sym (ap (λ b. b && bytes_eq c.args.name.now.text (codes "main")) outer ∙ other))
      | else-is_outermost-via-else-is_outermost w ↦ ap (λ b. record st { main = cond (b && bytes_eq c.args.name.now.text (codes "main")) (Some c.args.claim) st.main }) (sym w.if-is_outermost.false ∙ c.is_outermost.ensures)
    ]
