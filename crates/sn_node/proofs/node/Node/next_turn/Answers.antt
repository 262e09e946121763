use Rattle.std.proofs.Common.{◌≡◌, ℕ, false, sym, subst, ◌∙◌}
use Rattle.std.specs.Prelude.{IfNone}
use Rattle.sn_net.specs.Dispatchers.{stream_key}
use Rattle.sn_view.specs.Next.{may_merge}
use Rattle.sn_node.specs.Seen.{node_of}
use Rattle.sn_node.proofs.MayMerge.{no_turn, stuck_turn}
use Rattle.sn_node.proofs.node.Node.next_turn.Goals as goal

pub returns-in_err-c-clause-none : goal.returns-in_err-c-clause-none
returns-in_err-c-clause-none c =
    let n = node_of c.args.self.now in
    subst (λ found. IfNone found ((d : ℕ) → may_merge n d ≡ false)) (sym c.from_residual-in_err-c.ensures)
    (no_turn n (stream_key c.in_ok-key.key) c.requires.turns (sym c.serves_own.ensures ∙ c.if-serves_own.false) (sym c.in_ok-key.ensures) (sym c.in_err-c.ensures.number))

pub returns-clause-none : goal.returns-clause-none
returns-clause-none c =
    stuck_turn (node_of c.args.self.now) (stream_key c.in_ok-key.key) c.in_ok-c.c c.requires.turns (sym c.serves_own.ensures ∙ c.if-serves_own.false) (sym c.in_ok-key.ensures)
    c.requires.distinct (sym c.in_ok-c.ensures.number) (sym c.may_merge.ensures ∙ c.if-may_merge.false)
