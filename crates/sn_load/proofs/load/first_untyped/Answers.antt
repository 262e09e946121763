use Rattle.std.proofs.Common.{not, sym, ap, ◌∙◌, arith}
use Rattle.std.specs.FinMap as finite
use Rattle.sn_record.specs.Record.{Entries}
use Rattle.sn_pieces.specs.Lines.{is_of_type}
use Rattle.sn_load.proofs.Loading.{first_at, none_at}
use Rattle.sn_load.proofs.load.first_untyped.Goals as goal

pub returns-then-not-is_of_type : goal.returns-then-not-is_of_type
returns-then-not-is_of_type c =
    let r = c.index-records-i.result in
    first_at (λ (r : Entries). not (is_of_type c.args.variants.now r)) c.args.records.now c.loop-i.i r c.loop-i-test.true (λ k l. c.loop-i.invariant k r l)
    (ap (λ (r : Entries). not (is_of_type c.args.variants.now r)) (sym c.index-records-i.is) ∙ ap not (sym c.is_of_type.ensures) ∙ ap not c.if-not-is_of_type.true)

pub returns : goal.returns
returns c = none_at (λ (r : Entries). not (is_of_type c.args.variants.now r)) c.args.records.now finite.empty (λ k l. c.loop-i.invariant k finite.empty (omega (arith, c.loop-i-test.false)))
