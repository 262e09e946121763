use Rattle.std.proofs.Common.{refl, arith}
use Rattle.sn_io.proofs.Stored.{part_replaced, faults_replaced, fault_replaced}
use Rattle.sn_io.proofs.mem_files.MemFiles.begin_read.Goals as goal

pub returns-then-is_planned-clause-fault : goal.returns-then-is_planned-clause-fault
returns-then-is_planned-clause-fault c =
    let place = rw c.as_slice.ensures.value at c.in-Some.ensures in
    fault_replaced _ _ _ c.index_mut-file.result.now _ place c.index_mut-file.ensures.value refl (omega (arith, c.saturating_add-file.ensures)) c.args.self.now.other_faults

pub returns-then-is_planned-clause-later : goal.returns-then-is_planned-clause-later
returns-then-is_planned-clause-later c any =
    let place = rw c.as_slice.ensures.value at c.in-Some.ensures in
    faults_replaced c.args.self.now.stored.items c.in-Some.i c.index_mut-file.result.now _ place.within c.index_mut-file.ensures.value refl (omega (arith, c.saturating_add-file.ensures)) c.args.self.now.other_faults any

pub returns-then-is_planned-clause-same : goal.returns-then-is_planned-clause-same
returns-then-is_planned-clause-same c any =
    let place = rw c.as_slice.ensures.value at c.in-Some.ensures in
    part_replaced c.args.self.now.stored.items c.in-Some.i c.index_mut-file.result.now _ place.within c.index_mut-file.ensures.value refl (λ file. file.bytes) refl any
