use Rattle.std.proofs.Common.{◌≡◌, ◌<◌, List, ℕ, true, length, ap, sym, ◌∙◌, arith}
use Rattle.std.specs.Str.{bytes_eq}
use Rattle.std.proofs.lemmas.List.{get_or_default}
use Rattle.sn_io.specs.declared.mem_files.StoredFile.{StoredFile}
use Rattle.sn_io.proofs.Stored.{is_place, no_place}
use Rattle.sn_io.proofs.mem_files.place.Goals as goal

pub returns-then-eq : goal.returns-then-eq
returns-then-eq c =
    let within : c.loop-i.i < length c.args.stored.now = omega arith in
    let here : bytes_eq c.index-stored-i.result.name c.args.name.now ≡ true = ap (λ (n : List ℕ). bytes_eq n c.args.name.now) (sym c.as_slice.ensures) ∙ sym c.eq.ensures ∙ c.if-eq.true in
    is_place c.args.stored.now c.args.name.now c.loop-i.i c.loop-i.invariant within (λ d. ap (λ (file : StoredFile). bytes_eq file.name c.args.name.now) (get_or_default c.args.stored.now c.loop-i.i d c.index-stored-i.result within ∙ sym c.index-stored-i.is) ∙ here)

pub returns : goal.returns
returns c = no_place c.args.stored.now c.args.name.now c.loop-i.i c.loop-i.invariant (omega arith)
