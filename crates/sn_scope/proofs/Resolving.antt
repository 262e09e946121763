-- From what was declared to what a program is resolved to.
use Rattle.std.proofs.Common.{◌≡◌, ◌⊎◌, ℕ, ◌-◌, ◌<◌, ◌≤◌, nat_le, nat_lt, true, false, cond, List, [], ◌∷◌, length, All, Option, Some, None, Result, Ok, Err, IfOk, refl, sym, ap, subst, ◌∙◌, arith}
use Rattle.std.proofs.lemmas.List.Elements.{All-nil, All-cons}
use Rattle.std.proofs.lemmas.Bool.Decides.{nat_tests}
use mathlib.Core.Logic.{inl, inr}
use Rattle.sn_ast.specs.declared.declaration.Program.{Program}
use Rattle.sn_net.specs.Net.{nodes}
use Rattle.sn_net.specs.WellFormed.{IsWellFormed}
use Rattle.sn_net.specs.declared.expr.BoxProgram.{BoxProgram}
use Rattle.sn_net.specs.declared.net.Claim.{Claim}
use Rattle.sn_net.specs.declared.net.Net.{Net}
use Rattle.sn_scope.specs.Declarations.{declarations_of}
use Rattle.sn_scope.specs.Numbering.{names_of}
use Rattle.sn_scope.specs.Resolution.{fault_at, most_names, resolution, resolution_under, resolved, unless_refused, with_main}
use Rattle.sn_scope.specs.Trees.{claim_at, claims_within, fitting, led_by, most_nodes, or_refused, tree_of}
use Rattle.sn_scope.specs.declared.declarations.Declarations.{Declarations}
use Rattle.sn_scope.specs.declared.declarations.Pending.{Pending}
use Rattle.sn_label_scope.specs.declared.refusal.Refusal.{Refusal}
use Rattle.sn_scope.specs.declared.resolved.Parts.{Parts}
use Rattle.sn_label_scope.specs.declared.fault.ScopeFault.{ScopeFault}
use Rattle.sn_label_scope.specs.declared.fault.ScopeFault.TheVariants as cause
use Rattle.sn_scope.proofs.SoundTrees.{trees_are_sound}

-- what is decided where the names and the declarations are known
under : (program : Program) (names : List (List ℕ)) (st : Declarations) → names ≡ names_of program → st ≡ declarations_of names program → resolution program ≡ unless_refused names st st.refusals
under program names st is_names is_st = ap (λ ns. resolution_under ns program) (sym is_names) ∙ ap (λ s. unless_refused names s s.refusals) (sym is_st)

pub refused_at : (program : Program) (names : List (List ℕ)) (st : Declarations) (refusal : Refusal) → names ≡ names_of program → st ≡ declarations_of names program → st.refusals ≡ Some refusal →
    resolution program ≡ Err (fault_at refusal.reason refusal.at)
refused_at program names st refusal is_names is_st some = under program names st is_names is_st ∙ ap (unless_refused names st) some

pub not_refused : (program : Program) (names : List (List ℕ)) (st : Declarations) → names ≡ names_of program → st ≡ declarations_of names program → st.refusals ≡ None →
    resolution program ≡ with_main names st st.main
not_refused program names st is_names is_st none = under program names st is_names is_st ∙ ap (unless_refused names st) none

abbrev AreFormed : List BoxProgram → List Claim → Type 0
AreFormed boxes claims = All (λ claim. IsWellFormed boxes claim.net) claims

abbrev AllFormed : List BoxProgram → Result (List Claim) ℕ → Type 0
AllFormed boxes claims = IfOk claims (AreFormed boxes)

led_formed : (boxes : List BoxProgram) (claim : Claim) → IsWellFormed boxes claim.net → (claims : Result (List Claim) ℕ) → AllFormed boxes claims → AllFormed boxes (led_by (claim ∷ []) claims)
led_formed boxes claim formed (Ok more) all = All-cons (λ c. IsWellFormed boxes c.net) claim more formed all
led_formed boxes claim formed (Err place) all = tt

-- a claim that is not refused, before others
claim_formed : (st : Declarations) (room : ℕ) (pending : Pending) (rest : Net → Result (List Claim) ℕ) → ((tree : Net) → AllFormed st.boxes (rest tree)) →
    (made : Option Net) → ((tree : Net) → made ≡ Some tree → IsWellFormed st.boxes tree) →
    AllFormed st.boxes (or_refused pending.place (fitting room made) (λ tree. led_by (claim_at st pending tree ∷ []) (rest tree)))
claim_formed st room pending rest all None formed = tt
claim_formed st room pending rest all (Some tree) formed =
    elim (nat_le (nodes tree) room) as (λ b. AllFormed st.boxes (or_refused pending.place (cond b (Some tree) None) (λ t. led_by (claim_at st pending t ∷ []) (rest t)))) [
      | true ↦ led_formed st.boxes (claim_at st pending tree) (formed tree refl) (rest tree) (all tree)
      | false ↦ tt
    ]

-- where each tree is well formed, each claim is
claims_formed : (st : Declarations) → ((number : ℕ) (tree : Net) → tree_of st.boxes st.nets number ≡ Some tree → IsWellFormed st.boxes tree) → (room : ℕ) (pending : List Pending) → AllFormed st.boxes (claims_within st room pending)
claims_formed st sound room [] = All-nil (λ c. IsWellFormed st.boxes c.net)
claims_formed st sound room (pending ∷ more) =
    claim_formed st room pending (λ tree. claims_within st (room - nodes tree) more) (λ tree. claims_formed st sound (room - nodes tree) more) (tree_of st.boxes st.nets pending.net) (sound pending.net)

abbrev IsFormed : Parts → Type 0
IsFormed r = All (λ claim. IsWellFormed r.boxes claim.net) r.claims

resolved_formed : (names : List (List ℕ)) (boxes : List BoxProgram) (main : ℕ) (claims : Result (List Claim) ℕ) → AllFormed boxes claims → IfOk (resolved names boxes main claims) IsFormed
resolved_formed names boxes main (Ok claims) formed =
    elim (nat_lt main (length claims)) as (λ b. IfOk (cond b (Ok (record { names = names; boxes = boxes; claims = claims; main = main })) (Err cause.NoMain)) IsFormed) [
      | true ↦ formed
      | false ↦ tt
    ]
resolved_formed names boxes main (Err place) formed = tt

main_formed : (names : List (List ℕ)) (st : Declarations) → ((number : ℕ) (tree : Net) → tree_of st.boxes st.nets number ≡ Some tree → IsWellFormed st.boxes tree) → (main : Option ℕ) → IfOk (with_main names st main) IsFormed
main_formed names st sound None = tt
main_formed names st sound (Some main) =
    elim (nat_le (length names) most_names) as (λ b. IfOk (cond b (resolved names st.boxes main (claims_within st most_nodes st.claims)) (Err cause.TooManyNames)) IsFormed) [
      | true ↦ resolved_formed names st.boxes main (claims_within st most_nodes st.claims) (claims_formed st sound most_nodes st.claims)
      | false ↦ tt
    ]

-- where nothing is refused, what is resolved is well formed
pub all_formed : (program : Program) (names : List (List ℕ)) (st : Declarations) (r : Parts) → st ≡ declarations_of names program → st.refusals ≡ None → with_main names st st.main ≡ Ok r → IsFormed r
all_formed program names st r is_st none is =
    let sound : (number : ℕ) (tree : Net) → tree_of st.boxes st.nets number ≡ Some tree → IsWellFormed st.boxes tree =
    λ number tree made. subst (λ s. IsWellFormed s.boxes tree) (sym is_st)
    (trees_are_sound names program number tree (ap (λ s. s.refusals) (sym is_st) ∙ none) (ap (λ s. tree_of s.boxes s.nets number) (sym is_st) ∙ made)) in
    subst (λ x. IfOk x IsFormed) is (main_formed names st sound st.main)

abbrev HasMain : Parts → Type 0
HasMain r = r.main < length r.claims

resolved_main : (names : List (List ℕ)) (boxes : List BoxProgram) (main : ℕ) (claims : Result (List Claim) ℕ) → IfOk (resolved names boxes main claims) HasMain
resolved_main names boxes main (Ok claims) =
    elim (nat_lt main (length claims)) as (λ b. nat_lt main (length claims) ≡ b → IfOk (cond b (Ok (record { names = names; boxes = boxes; claims = claims; main = main })) (Err cause.NoMain)) HasMain) [
      | true ↦ λ below. grind (arith, nat_tests, below)
      | false ↦ λ _. tt
    ] refl
resolved_main names boxes main (Err place) = tt

main_within : (names : List (List ℕ)) (st : Declarations) (main : Option ℕ) → IfOk (with_main names st main) HasMain
main_within names st None = tt
main_within names st (Some main) =
    elim (nat_le (length names) most_names) as (λ b. IfOk (cond b (resolved names st.boxes main (claims_within st most_nodes st.claims)) (Err cause.TooManyNames)) HasMain) [
      | true ↦ resolved_main names st.boxes main (claims_within st most_nodes st.claims)
      | false ↦ tt
    ]

-- the program's claim is one of the claims
pub has_main : (names : List (List ℕ)) (st : Declarations) (r : Parts) → with_main names st st.main ≡ Ok r → HasMain r
has_main names st r is = subst (λ x. IfOk x HasMain) is (main_within names st st.main)

-- what is decided from the number of the program's claim, the names and the claims
pub with_all : (names held : List (List ℕ)) (st : Declarations) (main : ℕ) (boxes : List BoxProgram) (claims : List Claim) → st.main ≡ Some main → length names ≤ most_names →
    claims_within st most_nodes st.claims ≡ Ok claims → main < length claims → held ≡ names → boxes ≡ st.boxes → with_main names st st.main ≡ Ok (record { names = held; boxes = boxes; claims = claims; main = main })
with_all names held st main boxes claims is_main few is_claims below is_names is_boxes =
    let fits : nat_le (length names) most_names ≡ true = grind (arith, nat_tests, few) in
    let within : nat_lt main (length claims) ≡ true = grind (arith, nat_tests, below) in
    ap (with_main names st) is_main
    ∙ ap (λ b. cond b (resolved names st.boxes main (claims_within st most_nodes st.claims)) (Err cause.TooManyNames)) fits
    ∙ ap (resolved names st.boxes main) is_claims
    ∙ ap (λ b. cond b (Ok (record { names = names; boxes = st.boxes; claims = claims; main = main })) (Err cause.NoMain)) within
    ∙ ap (λ ns. Ok (record { names = ns; boxes = st.boxes; claims = claims; main = main })) (sym is_names)
    ∙ ap (λ bs. Ok (record { names = held; boxes = bs; claims = claims; main = main })) (sym is_boxes)

pub with_many : (names : List (List ℕ)) (st : Declarations) (main : ℕ) → st.main ≡ Some main → most_names < length names → with_main names st st.main ≡ Err cause.TooManyNames
with_many names st main is_main many =
    let past : nat_le (length names) most_names ≡ false = grind (arith, nat_tests, many) in
    ap (with_main names st) is_main ∙ ap (λ b. cond b (resolved names st.boxes main (claims_within st most_nodes st.claims)) (Err cause.TooManyNames)) past

with_few : (names : List (List ℕ)) (st : Declarations) (main : ℕ) → st.main ≡ Some main → length names ≤ most_names → with_main names st st.main ≡ resolved names st.boxes main (claims_within st most_nodes st.claims)
with_few names st main is_main few =
    let fits : nat_le (length names) most_names ≡ true = grind (arith, nat_tests, few) in
    ap (with_main names st) is_main ∙ ap (λ b. cond b (resolved names st.boxes main (claims_within st most_nodes st.claims)) (Err cause.TooManyNames)) fits

-- why it is not decided, in the words of the whole
pub no_main : (names : List (List ℕ)) (st : Declarations) (fault : ScopeFault) → (fault ≡ cause.Memory) ⊎ ((st.main ≡ None) × (fault ≡ cause.NoMain)) → (fault ≡ cause.Memory) ⊎ (with_main names st st.main ≡ Err fault)
no_main names st fault (inl memory) = inl memory
no_main names st fault (inr none) = inr (ap (with_main names st) none.0 ∙ ap Err (sym none.1))

pub not_resolved : (names : List (List ℕ)) (st : Declarations) (main : ℕ) (fault : ScopeFault) → st.main ≡ Some main → length names ≤ most_names →
    (fault ≡ cause.Memory) ⊎ ((any : List (List ℕ)) → resolved any st.boxes main (claims_within st most_nodes st.claims) ≡ Err fault) → (fault ≡ cause.Memory) ⊎ (with_main names st st.main ≡ Err fault)
not_resolved names st main fault is_main few (inl memory) = inl memory
not_resolved names st main fault is_main few (inr told) = inr (with_few names st main is_main few ∙ told names)
