-- What contracts see of files in memory.
use Rattle.std.specs.Prelude.{◌≡◌, ◌<◌, ℕ, true, List, length, get_or, set, Option, Some}
use Rattle.std.specs.List.{find}
use Rattle.std.specs.Str.{bytes_eq}
use Rattle.std.specs.Option.{option_map, unwrap_or}
use Rattle.sn_io.specs.declared.plan.Plan.{Plan}
use Rattle.sn_io.specs.declared.mem_files.StoredFile.{StoredFile}
use Rattle.sn_io.specs.declared.mem_files.MemFiles.{MemFiles}

-- the first file of a name
abbrev pub file_named : List StoredFile → List ℕ → Option StoredFile
file_named files name = find (λ file. bytes_eq file.name name) files

-- the bytes of a name that was added
abbrev pub bytes_in : MemFiles → List ℕ → Option (List ℕ)
bytes_in files name = option_map (λ file. file.bytes) (file_named files.stored.items name)

-- the count of faults of a name: its own, or the one of all names that were not added
abbrev pub faults_in : MemFiles → List ℕ → ℕ
faults_in files name = unwrap_or (option_map (λ file. file.faults) (file_named files.stored.items name)) files.other_faults

-- the greatest number of bytes that a call asked for
abbrev pub asked_in : MemFiles → ℕ
asked_in files = files.asked

abbrev pub files_plan : MemFiles → Plan
files_plan files = files.plan

-- the bytes and the count of each name stay, and what was asked for
pub record KeepsFiles (old new : MemFiles) : Type 0 where
  pub asked : asked_in new ≡ asked_in old
  pub bytes : (name : List ℕ) → bytes_in new name ≡ bytes_in old name
  pub faults : (name : List ℕ) → faults_in new name ≡ faults_in old name

-- the first file of that name stands at place i
pub record IsPlace (files : List StoredFile) (name : List ℕ) (i : ℕ) : Type 0 where
  pub within : i < length files
  pub named : (d : StoredFile) → bytes_eq (get_or files i d).name name ≡ true
  pub found : (d : StoredFile) → file_named files name ≡ Some (get_or files i d)
  pub put : (file : StoredFile) → bytes_eq file.name name ≡ true → file_named (set files i file) name ≡ Some file

-- the files themselves stay, and so do the counts of all names
pub record KeepsStored (old new : MemFiles) : Type 0 where
  pub stored : new.stored.items ≡ old.stored.items
  pub others : new.other_faults ≡ old.other_faults
