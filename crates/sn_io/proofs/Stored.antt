-- Look-ups of names in files that were searched or changed.
use Rattle.std.proofs.Common.{◌≡◌, ◌≢◌, ℕ, zero, suc, ◌<◌, ◌≤◌, ◌++◌, Bool, true, false, List, [], ◌∷◌, length, get_or, set, cond, Option, None, Some, refl, ap, sym, ◌∙◌, arith}
use Rattle.std.specs.List.{find, position_or_len, slice_get}
use Rattle.std.specs.Option.{option_map, option_or, unwrap_or}
use Rattle.std.specs.Str.{bytes_eq}
use Rattle.std.proofs.lemmas.List.Folds.{find_at, find-set, find_past, find-append}
use Rattle.std.proofs.lemmas.List.Sums.{position_or_len_is}
use Rattle.std.proofs.lemmas.Option.{slice_get-get_or, slice_get_past}
use Rattle.std.proofs.lemmas.Slice.Eq.{bytes_eq-Decides}
use Rattle.sn_io.specs.declared.mem_files.StoredFile.{StoredFile}
use Rattle.sn_io.specs.Causes.{Rose}
use Rattle.sn_io.specs.FilesInMemory.{file_named, IsPlace}

module _ (files : List StoredFile) (name : List ℕ) (i : ℕ) (before : (k : ℕ) (d : StoredFile) → k < i → bytes_eq (get_or files k d).name name ≡ false) where
  -- where a walk along the files meets the name
  pub is_place : i < length files → ((d : StoredFile) → bytes_eq (get_or files i d).name name ≡ true) → IsPlace files name i
  is_place within named =
      let test : StoredFile → Bool = λ file. bytes_eq file.name name in
      let first : (d : StoredFile) → position_or_len test files ≡ i = λ d. position_or_len_is test files i d (omega arith) (λ k below. before k d below) (λ _. named d) in
      record {
        within = within;
        named = named;
        found = λ d. find_at test files ∙ ap (slice_get files) (first d) ∙ slice_get-get_or files i d within;
        put = λ file passes. find-set test files i file (sym (first file)) within passes;
      }

  -- and where it has met them all
  pub no_place : i ≡ length files → file_named files name ≡ None
  no_place all =
      let test : StoredFile → Bool = λ file. bytes_eq file.name name in
      let none : StoredFile = record { name = []; bytes = []; faults = 0 } in
      let past : position_or_len test files ≡ i = position_or_len_is test files i none (omega arith) (λ k below. before k none below) (λ within. absurd (omega arith)) in
      find_at test files ∙ slice_get_past files _ (omega arith)

-- a search finds the same before and after a file was replaced by one that passes alike, or it finds the two
pub find_replaced : (R : Option StoredFile → Option StoredFile → Type 0) → ((x : Option StoredFile) → R x x) → (test : StoredFile → Bool) (files : List StoredFile) (i : ℕ) (before now : StoredFile) → i < length files → before ≡ get_or files i before → test now ≡ test before → R (Some before) (Some now) → R (find test files) (find test (set files i now))
find_replaced R same test [] i before now within is alike related = absurd (omega arith)
find_replaced R same test (file ∷ files) zero before now within is alike related =
    let first : test file ≡ test before = ap test (sym is) in
    rw (alike, first) (elim (test before) as (λ b. R (cond b (Some file) (find test files)) (cond b (Some now) (find test files))) [
      | true ↦ rw (sym is) related
      | false ↦ same _
    ])
find_replaced R same test (file ∷ files) (suc i) before now within is alike related =
    elim (test file) as (λ b. R (cond b (Some file) (find test files)) (cond b (Some file) (find test (set files i now)))) [
      | true ↦ same _
      | false ↦ find_replaced R same test files i before now (omega arith) is alike related
    ]

-- two names that differ fail the test
fails_other : (xs ys : List ℕ) → ys ≢ xs → bytes_eq xs ys ≡ false
fails_other xs ys other = elim (bytes_eq xs ys) as (λ b. bytes_eq xs ys ≡ b → b ≡ false) [
  | true ↦ λ e. absurd (other (sym ((bytes_eq-Decides xs ys).0 e)))
  | false ↦ λ _. refl
] refl

module _ (files : List StoredFile) (i : ℕ) (before now : StoredFile) (within : i < length files) (is : before ≡ get_or files i before) (named : now.name ≡ before.name) where
  -- what a replaced file kept is what is found of each name
  pub part_replaced : {A : Type 0} (part : StoredFile → A) → part now ≡ part before → (name : List ℕ) → option_map part (file_named (set files i now) name) ≡ option_map part (file_named files name)
  part_replaced {A} part kept name =
      let Keeps : Option StoredFile → Option StoredFile → Type 0 = λ old new. option_map part new ≡ option_map part old in
      find_replaced Keeps (λ _. refl) (λ file. bytes_eq file.name name) files i before now within is (ap (λ (n : List ℕ). bytes_eq n name) named) (ap (λ (x : A). Some x) kept)

  -- where the count of the replaced file did not fall, no name's did
  pub faults_replaced : before.faults ≤ now.faults → (others : ℕ) (name : List ℕ) → unwrap_or (option_map (λ file. file.faults) (file_named files name)) others ≤ unwrap_or (option_map (λ file. file.faults) (file_named (set files i now) name)) others
  faults_replaced later others name =
      let Later : Option StoredFile → Option StoredFile → Type 0 = λ old new. unwrap_or (option_map (λ file. file.faults) old) others ≤ unwrap_or (option_map (λ file. file.faults) new) others in
      find_replaced Later (λ _. omega arith) (λ file. bytes_eq file.name name) files i before now within is (ap (λ (n : List ℕ). bytes_eq n name) named) later

  -- a replaced file is not found by another name
  pub others_replaced : (name : List ℕ) → name ≢ now.name → file_named (set files i now) name ≡ file_named files name
  others_replaced name other =
      let fails : bytes_eq now.name name ≡ false = fails_other now.name name other in
      let failed : bytes_eq (get_or files i before).name name ≡ false = ap (λ (file : StoredFile). bytes_eq file.name name) (sym is) ∙ ap (λ (n : List ℕ). bytes_eq n name) (sym named) ∙ fails in
      find_past (λ file. bytes_eq file.name name) files i now before failed fails

-- a fault that the first file of a name counted is one of that name
pub fault_replaced : (files : List StoredFile) (name : List ℕ) (i : ℕ) (before now : StoredFile) → IsPlace files name i → before ≡ get_or files i before → now.name ≡ before.name → Rose before.faults now.faults → (others : ℕ) → Rose (unwrap_or (option_map (λ file. file.faults) (file_named files name)) others) (unwrap_or (option_map (λ file. file.faults) (file_named (set files i now) name)) others)
fault_replaced files name i before now place is named rose others =
    let count : Option StoredFile → ℕ = λ found. unwrap_or (option_map (λ file. file.faults) found) others in
    let passes : bytes_eq now.name name ≡ true = ap (λ (n : List ℕ). bytes_eq n name) (named ∙ ap (λ (file : StoredFile). file.name) is) ∙ place.named before in
    let was : count (file_named files name) ≡ before.faults = ap count (place.found before) ∙ ap (λ (file : StoredFile). file.faults) (sym is) in
    let became : count (file_named (set files i now) name) ≡ now.faults = ap count (place.put now passes) in
    rw (was, became) rose

module _ (files : List StoredFile) (file : StoredFile) (name : List ℕ) (named : file.name ≡ name) where
  -- a file that was added last is found by its name, if no other was
  pub found_added : file_named files name ≡ None → file_named (files ++ file ∷ []) name ≡ Some file
  found_added none = find-append _ files (file ∷ []) ∙ rw (none, (bytes_eq-Decides file.name name).1 named) refl

  -- and by no other name
  pub others_added : (other : List ℕ) → other ≢ name → file_named (files ++ file ∷ []) other ≡ file_named files other
  others_added other differs =
      find-append _ files (file ∷ []) ∙ rw (fails_other file.name other (λ e. differs (e ∙ named))) (elim (file_named files other) as (λ found. option_or found None ≡ found) [
        | None ↦ refl
        | Some x ↦ refl
      ])

-- a file that begins at the count of all other names changes no name's count
pub faults_added : (files : List StoredFile) (file : StoredFile) (any : List ℕ) → unwrap_or (option_map (λ stored. stored.faults) (file_named (files ++ file ∷ []) any)) file.faults ≡ unwrap_or (option_map (λ stored. stored.faults) (file_named files any)) file.faults
faults_added files file any =
    let count : Option StoredFile → ℕ = λ found. unwrap_or (option_map (λ stored. stored.faults) found) file.faults in
    ap count (find-append (λ (stored : StoredFile). bytes_eq stored.name any) files (file ∷ [])) ∙ elim (file_named files any) as (λ found. count (option_or found (cond (bytes_eq file.name any) (Some file) None)) ≡ count found) [
      | None ↦ elim (bytes_eq file.name any) as (λ b. count (cond b (Some file) None) ≡ file.faults) [ true ↦ refl | false ↦ refl ]
      | Some x ↦ refl
    ]
