use Rattle.std.proofs.Common.{◌∙◌, sym, arith}
use Rattle.std.specs.FinMap as map
use Rattle.sn_net.proofs.Orders.{cmp_decided, cmp_goes_on, cmp_longer, cmp_shorter, cmp_ended, length-keys}
use Rattle.sn_net.proofs.faces.compare.Goals as goal

pub returns-then-i-len : goal.returns-then-i-len
returns-then-i-len c =
    let xs = map.keys c.args.left.now in
    let ys = map.keys c.args.right.now in
    sym (cmp_longer xs ys c.loop-i.i (omega (arith, length-keys c.args.right.now, c.len.ensures, c.if-i-len.true)) (omega (arith, length-keys c.args.left.now, c.len-i-end.ensures, c.loop-i-test.true))) ∙ c.loop-i.invariant.1

pub returns-then-ne : goal.returns-then-ne
returns-then-ne c =
    sym (cmp_decided (map.keys c.args.left.now) (map.keys c.args.right.now) c.loop-i.i c.at.result c.at-in-loop-i.result c.cmp-order.result c.at.ensures c.at-in-loop-i.ensures c.cmp-order.ensures c.if-ne.ensures)
    ∙ c.loop-i.invariant.1

pub loop-i-preserved : goal.loop-i-preserved
loop-i-preserved c = (
  omega (arith, c.len.ensures, c.if-i-len.false),
  sym (cmp_goes_on (map.keys c.args.left.now) (map.keys c.args.right.now) c.loop-i.i c.at.result c.at-in-loop-i.result c.cmp-order.result c.at.ensures c.at-in-loop-i.ensures c.cmp-order.ensures c.if-ne.ensures)
      ∙ c.loop-i.invariant.1,
)

pub returns-then-len : goal.returns-then-len
returns-then-len c =
    let xs = map.keys c.args.left.now in
    let ys = map.keys c.args.right.now in
    sym (cmp_shorter xs ys c.loop-i.i (omega (arith, length-keys c.args.left.now, c.len-i-end.ensures, c.loop-i-test.false)) (omega (arith, length-keys c.args.right.now, c.len-2.ensures, c.len-3.ensures, c.if-len.true, c.len-i-end.ensures, c.loop-i.auto.i-end))) ∙ c.loop-i.invariant.1

pub returns : goal.returns
returns c =
    let xs = map.keys c.args.left.now in
    let ys = map.keys c.args.right.now in
    sym (cmp_ended xs ys c.loop-i.i (omega (arith, length-keys c.args.left.now, c.len-i-end.ensures, c.loop-i-test.false)) (omega (arith, length-keys c.args.right.now, length-keys c.args.left.now, c.len-2.ensures, c.len-3.ensures, c.if-len.false, c.len-i-end.ensures, c.loop-i-test.false))) ∙ c.loop-i.invariant.1
