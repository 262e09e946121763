use Rattle.std.proofs.Common.{◌≡◌, List, ℕ, Some, ap, refl, ◌∙◌}
use Rattle.std.proofs.lemmas.Slice.Eq.{bytes_eq-Decides}
use Rattle.sn_io.specs.declared.mem_files.StoredFile.{StoredFile}
use Rattle.sn_io.proofs.Stored.{part_replaced, others_replaced, found_added, others_added, faults_added}
use Rattle.sn_io.proofs.mem_files.MemFiles.add.Goals as goal

pub returns-in-Some-clause-others : goal.returns-in-Some-clause-others
returns-in-Some-clause-others c other differs =
    let place = rw c.as_slice.ensures.value at c.in-Some.ensures in
    let named : c.index_mut.result.now.name ≡ c.args.name.now = ap (λ (file : StoredFile). file.name) c.index_mut.ensures.value ∙ (bytes_eq-Decides _ _).0 (place.named c.index_mut.result.now) in
    rw (others_replaced c.args.self.now.stored.items c.in-Some.i c.index_mut.result.now (record c.index_mut.result.now { bytes = c.in_ok-bytes.bytes }) place.within c.index_mut.ensures.value refl other (λ e. differs (e ∙ named))) refl

pub returns-in-Some-clause-faults : goal.returns-in-Some-clause-faults
returns-in-Some-clause-faults c any =
    let place = rw c.as_slice.ensures.value at c.in-Some.ensures in
    let kept = part_replaced c.args.self.now.stored.items c.in-Some.i c.index_mut.result.now (record c.index_mut.result.now { bytes = c.in_ok-bytes.bytes }) place.within c.index_mut.ensures.value refl (λ file. file.faults) refl any in
    rw kept refl

pub returns-in_ok-push-in-None-clause-added : goal.returns-in_ok-push-in-None-clause-added
returns-in_ok-push-in-None-clause-added c =
    let none = rw c.as_slice.ensures.value at c.in-None.ensures in
    let file : StoredFile = record { name = c.in_ok-name-in-None.name; bytes = c.in_ok-bytes.bytes; faults = c.args.self.now.other_faults } in
    let found = found_added c.args.self.now.stored.items file c.args.name.now c.in_ok-name-in-None.ensures none in
    rw (c.in_ok-push-in-None.ensures.items, found) (ap (λ (bytes : List ℕ). Some bytes) c.in_ok-bytes.ensures)

pub returns-in_ok-push-in-None-clause-others : goal.returns-in_ok-push-in-None-clause-others
returns-in_ok-push-in-None-clause-others c other differs =
    let file : StoredFile = record { name = c.in_ok-name-in-None.name; bytes = c.in_ok-bytes.bytes; faults = c.args.self.now.other_faults } in
    let same = others_added c.args.self.now.stored.items file c.args.name.now c.in_ok-name-in-None.ensures other differs in
    rw (c.in_ok-push-in-None.ensures.items, same) refl

pub returns-in_ok-push-in-None-clause-faults : goal.returns-in_ok-push-in-None-clause-faults
returns-in_ok-push-in-None-clause-faults c any =
    rw c.in_ok-push-in-None.ensures.items (faults_added c.args.self.now.stored.items _ any)
