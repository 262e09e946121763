use Rattle.std.proofs.Common.{◌≡◌, ◌<◌, ℕ, false, get_or}
use Rattle.std.specs.Str.{bytes_eq}
use Rattle.sn_io.specs.declared.mem_files.StoredFile.{StoredFile}
use Rattle.sn_io.proofs.mem_files.place.Given as goal

abbrev pub invariant-loop-i : goal.invariant-loop-i
invariant-loop-i l = (k : ℕ) (d : StoredFile) → k < l.i → bytes_eq (get_or l.stored k d).name l.name ≡ false
