-- What a program is resolved to is what its declarations say.
use Rattle.std.proofs.Common.{◌≡◌, ◌↔◌, ℕ, ◌<◌, ◌≤◌, ◌+◌, ◌-◌, Bool, true, false, nat_le, nat_lt, if◌then◌else◌, List, [], ◌∷◌, ◌++◌, length, map as each, Option, Some, None, Result, Ok, Err, slice_get, ◌⊎◌, inl, inr, refl, sym, ap, ◌∙◌, subst, append-nil, arith}
use Rattle.std.proofs.lemmas.Bool.Decides.{nat_tests}
use Rattle.std.proofs.lemmas.List.Sums.{sum_by-cons}
use Rattle.std.proofs.lemmas.Option.{get_or_from_slice_get, none-some, same_Some, slice_get_within}
use Rattle.sn_ast.specs.declared.declaration.Program.{Program}
use Rattle.sn_label_scope.specs.declared.fault.ScopeFault.{ScopeFault}
use Rattle.sn_label_scope.specs.declared.fault.ScopeFault.TheVariants.{Unknown, Twice, Arity, Memory, NoMain, GuardTag, TooLarge, TooManyNames}
use Rattle.sn_label_scope.specs.declared.refusal.Refusal.{Refusal}
use Rattle.sn_net.specs.Net.{nodes}
use Rattle.sn_net.specs.declared.expr.BoxProgram.{BoxProgram}
use Rattle.sn_net.specs.declared.net.Claim.{Claim}
use Rattle.sn_net.specs.declared.net.Net.{Net}
use Rattle.sn_scope.specs.Built.{part_of}
use Rattle.sn_scope.specs.Declarations.{declarations_of, start}
use Rattle.sn_scope.specs.Numbering.{names_of}
use Rattle.sn_scope.specs.Resolution.{fault_at, most_names, resolution, resolved, unless_refused, with_main}
use Rattle.sn_scope.specs.Trees.{claim_at, claims_within, fitting, led_by, most_levels, most_nodes, or_refused, then_some, tree, tree_of}
use Rattle.sn_scope.specs.declared.declarations.Declarations.{Declarations}
use Rattle.sn_scope.specs.declared.declarations.Pending.{Pending}
use Rattle.sn_scope.specs.declared.declarations.Signature.{Signature}
use Rattle.sn_scope.specs.declared.network.Network.TheVariants.{Named}
use Rattle.sn_scope.specs.declared.resolved.Parts.{Parts}
use Rattle.sn_scope.proofs.Levels.{component-Named}
use Rattle.sn_scope_rules.specs.Claims.{ClaimOf, HasMain, Signed, TreeOfNet, all_nodes, is_main, name_of}
use Rattle.sn_scope_rules.specs.Declared.{boxes_in}
use Rattle.sn_scope_rules.specs.Limits.{Fits}
use Rattle.sn_scope_rules.specs.Programs.{ProgramBreaks}
use Rattle.sn_scope_rules.specs.Programs.ProgramBreaks.{in_decl}
use Rattle.sn_scope_rules.specs.Results.{HasNoMain, HasTooLarge, HasTooManyNames, IsResolved, IsSigned, IsWhole, Unbroken, boxes_of}
use Rattle.sn_scope_rules.specs.Standing.{Beside, StandsIn}
use Rattle.sn_scope_rules.specs.Types.{SignatureOf}
use Rattle.sn_scope_rules.proofs.Checks.{IsLeast}
use Rattle.sn_scope_rules.proofs.Declarations.{program_refuses}
use Rattle.sn_scope_rules.proofs.Declaring.{PendingMeans, RowTells, all_tell, beside_length, knows_start}
use Rattle.sn_scope_rules.proofs.Levels.{At, then_to}
use Rattle.sn_scope_rules.proofs.Mains.{Within, main_found, main_none}
use Rattle.sn_scope_rules.proofs.Once.{signature_once}
use Rattle.sn_scope_rules.proofs.OneMain.{one_main}
use Rattle.sn_scope_rules.proofs.Resolutions.{fault_back, refusal_in, refuses_none}
use Rattle.sn_scope_rules.proofs.Signed.{read_in, signed_once}

-- the nodes of a tree and of others
nodes_first : (t : Net) (ts : List Net) → all_nodes (t ∷ ts) ≡ nodes t + all_nodes ts
nodes_first t ts = sum_by-cons (λ n. n) (nodes t) (each nodes ts)

-- a tree that there is room for
fitting_to : (room : ℕ) (made : Option Net) (t : Net) → fitting room made ≡ Some t → (made ≡ Some t) × (nodes t ≤ room)
fitting_to room made t is =
    let found = then_to made (λ u. if nat_le (nodes u) room then Some u else None) t is in
    cases found.0 found.1 (nat_le (nodes found.0) room) refl found.2
  where
    cases : (u : Net) → made ≡ Some u → (b : Bool) → nat_le (nodes u) room ≡ b → (if b then Some u else None) ≡ Some t → (made ≡ Some t) × (nodes t ≤ room)
    cases u at true few same = (at ∙ same, subst (λ v. nodes v ≤ room) (same_Some u t same) (grind (arith, nat_tests, few)))
    cases u at false few same = absurd (none-some t same)

fitting_from : (room : ℕ) (made : Option Net) (t : Net) → made ≡ Some t → nodes t ≤ room → fitting room made ≡ Some t
fitting_from room made t is few =
    let holds : nat_le (nodes t) room ≡ true = grind (arith, nat_tests, few) in
    ap (fitting room) is ∙ ap (λ b. if b then Some t else None) holds

module _ (names : List (List ℕ)) (boxes : List BoxProgram) (st : Declarations) (boxes_are : st.boxes ≡ boxes) where
  -- the tree of a claim's net
  abbrev made_of : Pending → Option Net
  made_of pending = tree_of st.boxes st.nets pending.net

  tree_at : (pending : Pending) (net : Signed) → PendingMeans names boxes st pending net → At boxes most_levels (made_of pending) (TreeOfNet names boxes net)
  tree_at pending net means = subst (λ made. At boxes most_levels made (TreeOfNet names boxes net)) same (means.tree [] most_levels)
    where
      same : part_of boxes most_levels (st.nets ++ []) (Named pending.net) ≡ made_of pending
      same = (λ i. part_of (sym boxes_are i) most_levels (append-nil st.nets i) (Named pending.net))
          ∙ ap (λ c. then_some c (tree st.boxes most_levels st.nets)) (component-Named st.nets pending.net)

  claim_of : (pending : Pending) (net : Signed) → PendingMeans names boxes st pending net → (t : Net) → TreeOfNet names boxes net t → ClaimOf names boxes net (claim_at st pending t)
  claim_of pending net means t one = record {
    place = means.place;
    tree = one;
    types = subst (λ (s : Signature). SignatureOf names net.outside net.sig s.input s.output) (sym (get_or_from_slice_get st.signatures pending.signature
        (record { input = means.types.0; output = means.types.1 }) (record { input = []; output = [] }) means.types.3)) means.types.2;
  }

  -- trees of nets, each of which fits, in so much room
  abbrev EachFits : List Signed → List Net → Type 0
  EachFits nets trees = Beside (λ net t. TreeOfNet names boxes net t × Fits boxes most_levels t) nets trees

  record Large (room : ℕ) (nets : List Signed) (at : ℕ) : Type 0 where
    before : List Signed
    net : Signed
    behind : List Signed
    order : nets ≡ before ++ net ∷ behind
    place : (name_of net).at ≡ at
    trees : List Net
    each_fits : EachFits before trees
    few : all_nodes trees ≤ room
    too_large : (t : Net) → TreeOfNet names boxes net t → Fits boxes most_levels t → all_nodes trees + nodes t ≤ room → ⊥

  abbrev net_of : Claim → Net
  net_of claim = claim.net

  abbrev Outcome : ℕ → List Signed → Result (List Claim) ℕ → Type 0
  Outcome room nets (Ok claims) = Beside (ClaimOf names boxes) nets claims × EachFits nets (each net_of claims) × (all_nodes (each net_of claims) ≤ room)
  Outcome room nets (Err at) = Large room nets at

  -- a claim whose tree fits, and those behind it
  outcome_more : (pending : Pending) (net : Signed) (nets : List Signed) (room : ℕ) (t : Net) → PendingMeans names boxes st pending net → TreeOfNet names boxes net t
      → Fits boxes most_levels t → nodes t ≤ room
      → (rest : Result (List Claim) ℕ) → Outcome (room - nodes t) nets rest → Outcome room (net ∷ nets) (led_by (claim_at st pending t ∷ []) rest)
  outcome_more pending net nets room t means one fits few (Ok claims) outcome = (
    (claim_of pending net means t one, outcome.0),
    ((one, fits), outcome.1),
    let split = nodes_first t (each net_of claims) in let rest = outcome.2 in omega
        (arith, split, rest, few),
  )
  outcome_more pending net nets room t means one fits few (Err at) large = record {
    before = net ∷ large.before;
    net = large.net;
    behind = large.behind;
    order = ap (λ xs. net ∷ xs) large.order;
    place = large.place;
    trees = t ∷ large.trees;
    each_fits = ((one, fits), large.each_fits);
    few = let split = nodes_first t large.trees in let rest = large.few in omega (arith, split, rest, few);
    too_large = λ u own fitted within. large.too_large u own fitted (let split = nodes_first t large.trees in omega (arith, split, within, few));
  }

  outcome : (ps : List Pending) (nets : List Signed) → Beside (PendingMeans names boxes st) ps nets → (room : ℕ) → Outcome room nets (claims_within st room ps)
  outcome [] [] all room = (tt, tt, omega arith)
  outcome [] (net ∷ nets) all room = absurd all
  outcome (pending ∷ ps) [] all room = absurd all
  outcome (pending ∷ ps) (net ∷ nets) all room = cases (outcome ps nets all.1) (fitting room (made_of pending)) refl
    where
      next : Net → Result (List Claim) ℕ
      next t = led_by (claim_at st pending t ∷ []) (claims_within st (room - nodes t) ps)

      cases : ((left : ℕ) → Outcome left nets (claims_within st left ps)) → (found : Option Net) → fitting room (made_of pending) ≡ found
          → Outcome room (net ∷ nets) (or_refused pending.place found next)
      cases rest None none = record {
        before = [];
        net = net;
        behind = nets;
        order = refl;
        place = sym all.0.place;
        trees = [];
        each_fits = tt;
        few = omega arith;
        too_large = λ t one fits within. none-some t (sym none ∙ fitting_from room (made_of pending) t ((tree_at pending net all.0 t).1 (one, fits)) (omega (arith, within)));
      }
      cases rest (Some t) is =
          let made = fitting_to room (made_of pending) t is in
          let known = (tree_at pending net all.0 t).0 made.0 in
          outcome_more pending net nets room t all.0 known.0 known.1 made.1 (claims_within st (room - nodes t) ps) (rest (room - nodes t))

  -- where each tree fits, there are the claims
  all_fit : (ps : List Pending) (nets : List Signed) (trees : List Net) → Beside (PendingMeans names boxes st) ps nets → EachFits nets trees → (room : ℕ)
      → all_nodes trees ≤ room → (claims : List Claim) × (claims_within st room ps ≡ Ok claims)
  all_fit [] [] trees all fits room few = ([], refl)
  all_fit [] (net ∷ nets) trees all fits room few = absurd all
  all_fit (pending ∷ ps) [] trees all fits room few = absurd all
  all_fit (pending ∷ ps) (net ∷ nets) [] all fits room few = absurd fits
  all_fit (pending ∷ ps) (net ∷ nets) (t ∷ trees) all fits room few =
      let split = nodes_first t trees in
      let rest = all_fit ps nets trees all.1 fits.1 (room - nodes t) (omega (arith, split, few)) in (
        claim_at st pending t ∷ rest.0,
        ap (λ found. or_refused pending.place found (λ u. led_by (claim_at st pending u ∷ []) (claims_within st (room - nodes u) ps)))
            (fitting_from room (made_of pending) t ((tree_at pending net all.0 t).1 fits.0) (omega (arith, split, few))) ∙ ap (led_by (claim_at st pending t ∷ [])) rest.1,
      )

  -- where one does not, that one is refused
  one_large : (before : List Signed) (net : Signed) (behind : List Signed) (trees : List Net) (ps : List Pending)
      → Beside (PendingMeans names boxes st) ps (before ++ net ∷ behind) → EachFits before trees → (room : ℕ) → all_nodes trees ≤ room
      → ((t : Net) → TreeOfNet names boxes net t → Fits boxes most_levels t → all_nodes trees + nodes t ≤ room → ⊥) → claims_within st room ps ≡ Err (name_of net).at
  one_large [] net behind (u ∷ trees) ps all fits room few large = absurd fits
  one_large [] net behind [] [] all fits room few large = absurd all
  one_large [] net behind [] (pending ∷ ps) all fits room few large = cases (fitting room (made_of pending)) refl
    where
      next : Net → Result (List Claim) ℕ
      next t = led_by (claim_at st pending t ∷ []) (claims_within st (room - nodes t) ps)

      cases : (found : Option Net) → fitting room (made_of pending) ≡ found → or_refused pending.place found next ≡ Err (name_of net).at
      cases None none = ap (λ at. Err at) all.0.place
      cases (Some t) is =
          let made = fitting_to room (made_of pending) t is in
          let known = (tree_at pending net all.0 t).0 made.0 in
          let within = made.1 in
          absurd (large t known.0 known.1 (omega (arith, within)))
  one_large (first ∷ before) net behind [] ps all fits room few large = absurd fits
  one_large (first ∷ before) net behind (t ∷ trees) [] all fits room few large = absurd all
  one_large (first ∷ before) net behind (t ∷ trees) (pending ∷ ps) all fits room few large =
      let split = nodes_first t trees in
      ap (λ found. or_refused pending.place found (λ u. led_by (claim_at st pending u ∷ []) (claims_within st (room - nodes u) ps)))
      (fitting_from room (made_of pending) t ((tree_at pending first all.0 t).1 fits.0) (omega (arith, split, few)))
      ∙ ap (led_by (claim_at st pending t ∷ [])) (one_large before net behind trees ps all.1 fits.1 (room - nodes t) (omega (arith, split, few))
      (λ u own fitted within. large u own fitted (omega (arith, split, within, few))))

  -- claims of the same nets are the same
  same_claim : (pending : Pending) (net : Signed) → PendingMeans names boxes st pending net → (x y : Claim) → ClaimOf names boxes net x → ClaimOf names boxes net y
      → Fits boxes most_levels x.net → Fits boxes most_levels y.net → x ≡ y
  same_claim pending net means x y one other low flat =
      let trees = same_Some x.net y.net (sym ((tree_at pending net means x.net).1 (one.tree, low)) ∙ (tree_at pending net means y.net).1 (other.tree, flat)) in
      let types = signature_once names net.outside net.sig x.input x.output one.types y.input y.output other.types in
      let places = one.place ∙ sym other.place in
      λ i. record { place = places i; net = trees i; input = types.0 i; output = types.1 i }

  claims_once : (ps : List Pending) (nets : List Signed) (xs ys : List Claim) → Beside (PendingMeans names boxes st) ps nets → Beside (ClaimOf names boxes) nets xs
      → EachFits nets (each net_of xs)
      → Beside (ClaimOf names boxes) nets ys → EachFits nets (each net_of ys) → xs ≡ ys
  claims_once [] [] [] [] all one fits other fitted = refl
  claims_once [] [] [] (y ∷ ys) all one fits other fitted = absurd other
  claims_once [] [] (x ∷ xs) ys all one fits other fitted = absurd one
  claims_once [] (net ∷ nets) xs ys all one fits other fitted = absurd all
  claims_once (pending ∷ ps) [] xs ys all one fits other fitted = absurd all
  claims_once (pending ∷ ps) (net ∷ nets) [] ys all one fits other fitted = absurd one
  claims_once (pending ∷ ps) (net ∷ nets) (x ∷ xs) [] all one fits other fitted = absurd other
  claims_once (pending ∷ ps) (net ∷ nets) (x ∷ xs) (y ∷ ys) all one fits other fitted =
      λ i. same_claim pending net all.0 x y one.0 other.0 fits.0.1 fitted.0.1 i ∷ claims_once ps nets xs ys all.1 one.1 fits.1 other.1 fitted.1 i

-- a program that breaks no rule
module _ (program : Program) where
  abbrev names : List (List ℕ)
  names = names_of program

  abbrev boxes : List BoxProgram
  boxes = boxes_of program

  abbrev state : Declarations
  state = declarations_of names program

  nothing_refused : (found : Option Refusal) → IsLeast (ProgramBreaks program) found → Unbroken program → found ≡ None
  nothing_refused None least unbroken = refl
  nothing_refused (Some r) least unbroken = absurd (unbroken r least.stands)

  module _ (unbroken : Unbroken program) where
    row : RowTells names boxes start state [] [] program.decls
    row = all_tell names (boxes_in program.decls) program.decls start [] [] (knows_start names (boxes_in program.decls)) (λ before d at r one. unbroken r (in_decl at one))
        ([], sym (append-nil (boxes_in program.decls)))

    resolution_is : resolution program ≡ with_main names state state.main
    resolution_is = ap (unless_refused names state) (nothing_refused state.refusals (program_refuses program) unbroken)

    pendings : Beside (PendingMeans names boxes state) state.claims row.nets
    pendings = subst (λ ps. Beside (PendingMeans names boxes state) ps row.nets) (sym row.claims_are) row.beside

    claimed : Outcome names boxes state row.boxes_are most_nodes row.nets (claims_within state most_nodes state.claims)
    claimed = outcome names boxes state row.boxes_are state.claims row.nets pendings most_nodes

    -- the net that is the program's, or there is none
    abbrev IsAt : ℕ → Type 0
    IsAt i = (net : Signed) × (slice_get row.nets i ≡ Some net) × (is_main net ≡ true)

    main_at : (i : ℕ) → state.main ≡ Some i → IsAt i
    main_at i is = either (main_found 0 None row.nets i (sym row.main_is ∙ is))
      where
        either : (Path (Option ℕ) None (Some i)) ⊎ Within row.nets 0 i → IsAt i
        either (inl none) = absurd (none-some i none)
        either (inr one) = (one.1, subst (λ k. slice_get row.nets k ≡ Some one.1) (let at = one.2 in omega (arith, at)) one.3, one.4)

    has_main : (i : ℕ) → state.main ≡ Some i → HasMain row.nets
    has_main i is = let one = main_at i is in (one.0, read_in row.nets i one.0 one.1, one.2)

    abbrev NoneIs : Type 0
    NoneIs = (net : Signed) → StandsIn net row.nets → is_main net ≡ false

    none_is : state.main ≡ None → NoneIs
    none_is is = (main_none 0 None row.nets (sym row.main_is ∙ is)).1

    -- what comes in each case
    comes_no_main : state.main ≡ None → resolution program ≡ Err NoMain
    comes_no_main is = resolution_is ∙ ap (with_main names state) is

    comes_many : (i : ℕ) → state.main ≡ Some i → most_names < length names → resolution program ≡ Err TooManyNames
    comes_many i is many =
        let test : nat_le (length names) most_names ≡ false = grind (arith, nat_tests, many) in
        resolution_is ∙ ap (with_main names state) is ∙ ap (λ b. if b then resolved names state.boxes i (claims_within state most_nodes state.claims) else Err TooManyNames) test

    comes_resolved : (i : ℕ) → state.main ≡ Some i → length names ≤ most_names → resolution program ≡ resolved names state.boxes i (claims_within state most_nodes state.claims)
    comes_resolved i is few =
        let test : nat_le (length names) most_names ≡ true = grind (arith, nat_tests, few) in
        resolution_is ∙ ap (with_main names state) is ∙ ap (λ b. if b then resolved names state.boxes i (claims_within state most_nodes state.claims) else Err TooManyNames) test

    comes_large : (i at : ℕ) → state.main ≡ Some i → length names ≤ most_names → claims_within state most_nodes state.claims ≡ Err at → resolution program ≡ Err (TooLarge at)
    comes_large i at is few large = comes_resolved i is few ∙ ap (resolved names state.boxes i) large

    abbrev parts_with : ℕ → List Claim → Parts
    parts_with i claims = record { names = names; boxes = state.boxes; claims = claims; main = i }

    comes_whole : (i : ℕ) (claims : List Claim) → state.main ≡ Some i → length names ≤ most_names → claims_within state most_nodes state.claims ≡ Ok claims
        → Beside (ClaimOf names boxes) row.nets claims
        → resolution program ≡ Ok (parts_with i claims)
    comes_whole i claims is few whole beside =
        let within = slice_get_within row.nets i (main_at i is).0 (main_at i is).1 in
        let many = beside_length (ClaimOf names boxes) row.nets claims beside in
        let test : nat_lt i (length claims) ≡ true = grind (arith, nat_tests, within, many) in
        comes_resolved i is few ∙ ap (resolved names state.boxes i) whole ∙ ap (λ b. if b then Ok (parts_with i claims) else Err NoMain) test

    -- what is so in each case
    abbrev Case : Result Parts ScopeFault → Type 0
    Case (Ok parts) = IsResolved program parts × IsWhole program
    Case (Err (Unknown at)) = ⊥
    Case (Err (Twice at)) = ⊥
    Case (Err (Arity at)) = ⊥
    Case (Err NoMain) = HasNoMain program
    Case (Err (GuardTag at)) = ⊥
    Case (Err (TooLarge at)) = HasTooLarge program at
    Case (Err TooManyNames) = HasTooManyNames program
    Case (Err Memory) = ⊥

    case_resolved : (i : ℕ) → state.main ≡ Some i → length names ≤ most_names → (claims : Result (List Claim) ℕ) → claims_within state most_nodes state.claims ≡ claims
        → Outcome names boxes state row.boxes_are most_nodes row.nets claims → Case (resolution program)
    case_resolved i is few (Ok claims) same known = subst Case (sym (comes_whole i claims is few same known.0)) (
      record {
        unbroken = unbroken;
        names = refl;
        few = few;
        boxes = row.boxes_are;
        all = row.nets;
        signed = row.signed_in;
        claims = known.0;
        fitting = record { each_fits = known.1; room = known.2 };
        main = (main_at i is).0;
        main_at = (main_at i is).1;
        main_is = (main_at i is).2;
      },
      record {
        unbroken = unbroken;
        all = row.nets;
        signed = row.signed_in;
        main = has_main i is;
        few = few;
        trees = each (λ
            (c : Claim). c.net) claims;
        fitting = record { each_fits = known.1; room = known.2 };
      },
    )
    case_resolved i is few (Err at) same large = subst Case (sym (comes_large i at is few same)) (record {
      unbroken = unbroken;
      all = row.nets;
      signed = row.signed_in;
      main = has_main i is;
      few = few;
      large = record {
        before = large.before;
        net = large.net;
        behind = large.behind;
        order = large.order;
        place = large.place;
        trees = large.trees;
        fit = record { each_fits = large.each_fits; room = large.few };
        too_large = large.too_large;
      };
    })

    case_main : (main : Option ℕ) → state.main ≡ main → Case (resolution program)
    case_main None is = subst Case (sym (comes_no_main is)) (record { unbroken = unbroken; all = row.nets; signed = row.signed_in; none = none_is is })
    case_main (Some i) is = by_count (nat_le (length names) most_names) refl
      where
        by_count : (b : Bool) → nat_le (length names) most_names ≡ b → Case (resolution program)
        by_count true test = case_resolved i is (grind (arith, nat_tests, test)) (claims_within state most_nodes state.claims) refl claimed
        by_count false test =
            let many : most_names < length names = grind (arith, nat_tests, test) in
            subst Case (sym (comes_many i is many)) (record { unbroken = unbroken; all = row.nets; signed = row.signed_in; main = has_main i is; many = many })

    the_case : Case (resolution program)
    the_case = case_main state.main refl

    -- the nets with a signature, however they were found
    same_nets : (all : List Signed) → IsSigned program all → row.nets ≡ all
    same_nets all signed = signed_once [] [] program.decls row.nets row.signed_in all signed

    -- where one is the program's, it was found
    main_there : (all : List Signed) → IsSigned program all → HasMain all → (i : ℕ) × (state.main ≡ Some i)
    main_there all signed main = cases state.main refl
      where
        cases : (found : Option ℕ) → state.main ≡ found → (i : ℕ) × (state.main ≡ Some i)
        cases (Some i) is = (i, is)
        cases None is = absurd_by (sym (none_is is main.0 (subst (StandsIn main.0) (sym (same_nets all signed)) main.1)) ∙ main.2)
          where
            absurd_by : false ≡ true → (i : ℕ) × (state.main ≡ Some i)
            absurd_by wrong = cc

  -- a result that is none of the refusals at a place
  unbroken_by : (result : Result Parts ScopeFault) → resolution program ≡ result → refusal_in result ≡ None → Unbroken program
  unbroken_by result same none = (refuses_none program).0 (λ r refused. none-some r (sym none ∙ ap refusal_in (sym same ∙ refused) ∙ fault_at_is r))
    where
      fault_at_is : (r : Refusal) → refusal_in (Err (fault_at r.reason r.at)) ≡ Some r
      fault_at_is r = fault_back r.reason r.at

  pub is_given : ((parts : Parts) × (resolution program ≡ Ok parts)) ↔ IsWhole program
  is_given = (λ given. (subst (Case (unbroken_by (Ok given.0) given.1 refl)) given.1 (the_case (unbroken_by (Ok given.0) given.1 refl))).1, to)
    where
      to : IsWhole program → (parts : Parts) × (resolution program ≡ Ok parts)
      to whole =
          let u = whole.unbroken in
          let main = main_there u whole.all whole.signed whole.main in
          let fits = subst (λ nets. EachFits names boxes state (row u).boxes_are nets whole.trees) (sym (same_nets u whole.all whole.signed)) whole.fitting.each_fits in
          let found = all_fit names boxes state (row u).boxes_are state.claims (row u).nets whole.trees (pendings u) fits most_nodes whole.fitting.room in
          let known = subst (Outcome names boxes state (row u).boxes_are most_nodes (row u).nets) found.1 (claimed u) in
          (parts_with u main.0 found.0, comes_whole u main.0 found.0 main.1 whole.few found.1 known.0)

  -- the parts are one thing
  resolved_once : (p q : Parts) → IsResolved program p → IsResolved program q → p ≡ q
  resolved_once p q one other =
      let u = one.unbroken in
      let all = same_nets u one.all one.signed in
      let others = same_nets u other.all other.signed in
      let claims = claims_once names boxes state (row u).boxes_are state.claims (row u).nets p.claims q.claims (pendings u)
      (subst (λ nets. Beside (ClaimOf names boxes) nets p.claims) (sym all) one.claims) (subst (λ nets. EachFits names boxes state (row u).boxes_are nets (each (λ
      (c : Claim). c.net) p.claims)) (sym all) one.fitting.each_fits)
      (subst (λ nets. Beside (ClaimOf names boxes) nets q.claims) (sym others) other.claims) (subst (λ nets. EachFits names boxes state (row u).boxes_are nets (each (λ
      (c : Claim). c.net) q.claims)) (sym others) other.fitting.each_fits) in
      let main = one_main [] [] program.decls (row u).nets (row u).signed_in (λ before d at r breaks. u r (in_decl at breaks)) p.main q.main
      (one.main, subst (λ nets. slice_get nets p.main ≡ Some one.main) (sym all) one.main_at, one.main_is)
      (other.main, subst (λ nets. slice_get nets q.main ≡ Some other.main) (sym others) other.main_at, other.main_is) in
      let named = one.names ∙ sym other.names in
      let boxed = one.boxes ∙ sym other.boxes in
      λ i. record { names = named i; boxes = boxed i; claims = claims i; main = main i }

  gives : (parts : Parts) → resolution program ≡ Ok parts → IsResolved program parts
  gives parts same = (subst (Case (unbroken_by (Ok parts) same refl)) same (the_case (unbroken_by (Ok parts) same refl))).0

  pub is_resolved : (parts : Parts) → (resolution program ≡ Ok parts) ↔ IsResolved program parts
  is_resolved parts = (gives parts, to)
    where
      to : IsResolved program parts → resolution program ≡ Ok parts
      to one =
          let given = is_given.1 (record {
            unbroken = one.unbroken;
            all = one.all;
            signed = one.signed;
            main = (one.main, read_in one.all parts.main one.main one.main_at, one.main_is);
            few = one.few;
            trees = each (λ (c : Claim). c.net) parts.claims;
            fitting = one.fitting;
          }) in
          given.1 ∙ ap (λ p. Ok p) (resolved_once given.0 parts (gives given.0 given.1) one)

  pub no_main : (resolution program ≡ Err NoMain) ↔ HasNoMain program
  no_main = (λ same. subst (Case (unbroken_by (Err NoMain) same refl)) same (the_case (unbroken_by (Err NoMain) same refl)), to)
    where
      to : HasNoMain program → resolution program ≡ Err NoMain
      to has = cases state.main refl
        where
          cases : (found : Option ℕ) → state.main ≡ found → resolution program ≡ Err NoMain
          cases None is = comes_no_main has.unbroken is
          cases (Some i) is =
              let main = has_main has.unbroken i is in
              absurd_by (sym (has.none main.0 (subst (StandsIn main.0) (same_nets has.unbroken has.all has.signed) main.1)) ∙ main.2)
            where
              absurd_by : false ≡ true → resolution program ≡ Err NoMain
              absurd_by wrong = cc

  pub too_many : (resolution program ≡ Err TooManyNames) ↔ HasTooManyNames program
  too_many = (
    λ same. subst (Case (unbroken_by (Err TooManyNames) same refl)) same (the_case (unbroken_by (Err TooManyNames) same refl)),
    λ has. let main = main_there has.unbroken has.all has.signed has.main in comes_many has.unbroken main.0 main.1 has.many,
  )

  pub too_large : (at : ℕ) → (resolution program ≡ Err (TooLarge at)) ↔ HasTooLarge program at
  too_large at = (λ same. subst (Case (unbroken_by (Err (TooLarge at)) same refl)) same (the_case (unbroken_by (Err (TooLarge at)) same refl)), to)
    where
      to : HasTooLarge program at → resolution program ≡ Err (TooLarge at)
      to has =
          let u = has.unbroken in
          let large = has.large in
          let main = main_there u has.all has.signed has.main in
          let all = subst (Beside (PendingMeans names boxes state) state.claims) (same_nets u has.all has.signed ∙ large.order) (pendings u) in
          comes_large u main.0 at main.1 has.few
          (one_large names boxes state (row u).boxes_are large.before large.net large.behind large.trees state.claims all large.fit.each_fits most_nodes large.fit.room large.too_large
          ∙ ap (λ place. Err place) large.place)
