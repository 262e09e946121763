-- What is found in a program stands in it, and which number a box has.
use Rattle.std.proofs.Common.{◌≡◌, ℕ, Bool, true, false, List, [], ◌∷◌, ◌++◌, length, Some, None, option_map, slice_get, refl, sym, ap, ◌∙◌, subst, append_assoc}
use Rattle.std.specs.Option.{option_or}
use Rattle.std.proofs.lemmas.Option.{none-some, same_Some, slice_get-map}
use Rattle.sn_ast.specs.declared.declaration.BoxDecl.{BoxDecl}
use Rattle.sn_ast.specs.declared.declaration.Decl.{Decl}
use Rattle.sn_ast.specs.declared.declaration.Decl.TheFolds.{fold_out-Decl, fold_out-NetDecl, map-Decl}
use Rattle.sn_ast.specs.declared.declaration.Decl.TheOpen.{Decl-F}
use Rattle.sn_ast.specs.declared.declaration.Decl.TheViews.{out-Decl, out-NetDecl}
use Rattle.sn_ast.specs.declared.declaration.NetDecl.{NetDecl}
use Rattle.sn_ast.specs.declared.declaration.Program.{Program}
use Rattle.sn_box_scope.specs.Boxes.{box_at}
use Rattle.sn_scope.specs.Numbering.{names_of}
use Rattle.sn_scope_rules.specs.Declared.{StandsAt, boxes_before, boxes_in, boxes_of, boxes_step, net_step}
use Rattle.sn_scope_rules.specs.Declared.StandsAt.{inner, outermost}
use Rattle.sn_scope_rules.specs.Results.{boxes_of as program_boxes}
use Rattle.sn_scope_rules.specs.Standing.{StandsBehind}
use Rattle.sn_scope_rules.specs.Standing.StandsBehind.{foremost, further}
use Rattle.sn_scope_rules.specs.Visible.{Around, first_named, found_at, further_on, has_name, within}
use Rattle.sn_scope_rules.proofs.Declaring.{net_boxes_of}
use Rattle.sn_scope_rules.proofs.Known.{still_there}
use Rattle.sn_scope_rules.proofs.Levels.{map_to}
use Rattle.sn_scope_rules.proofs.Places.{Found, first_step}
use Rattle.sn_scope_rules.proofs.Standing.{together_map}
use Rattle.sn_scope_rules.proofs.Visible.{get_last}

-- the first with the name stands behind those before it
first_behind : (name : List ℕ) (decls : List Decl) (found : Decl × List Decl) → first_named name decls ≡ Some found → StandsBehind found.0 found.1 decls
first_behind name [] found is = absurd (none-some found is)
first_behind name (d ∷ ds) found is = cases (has_name name d) refl (first_behind name ds) is
  where
    cases : (b : Bool) → has_name name d ≡ b → ((more : Decl × List Decl) → first_named name ds ≡ Some more → StandsBehind more.0 more.1 ds)
        → first_step d (first_named name ds) b ≡ Some found → StandsBehind found.0 found.1 (d ∷ ds)
    cases true same rest at = subst (λ (f : Decl × List Decl). StandsBehind f.0 f.1 (d ∷ ds)) (same_Some (d, []) found at) foremost
    cases false same rest at =
        let more = map_to (first_named name ds) (further_on d) found at in
        subst (λ (f : Decl × List Decl). StandsBehind f.0 f.1 (d ∷ ds)) more.2 (further (rest more.0 more.1))

-- what stands before a declaration stands in the same list
pub behind_before : (d e : Decl) (before some decls : List Decl) → StandsBehind e some before → StandsBehind d before decls → StandsBehind e some decls
behind_before d e before some decls at foremost = elim at [ ]
behind_before d e before some decls foremost (further rest) = foremost
behind_before d e before some decls (further at) (further rest) = further (behind_before d e _ _ _ at rest)

module _ (program : Program) where
  -- found in a scope, or in those around it
  either_found : (decls : List Decl) (outer : Around) (name : List ℕ) (decl : Decl) (there : Around) → ((before : List Decl) → StandsBehind decl before decls
      → StandsAt program (before ∷ outer) decl)
      → (found_at outer name ≡ Some (decl, there) → StandsAt program there decl) → found_at (decls ∷ outer) name ≡ Some (decl, there) → StandsAt program there decl
  either_found decls outer name decl there own around is = cases (first_named name decls) refl is
    where
      cases : (found : Found) → first_named name decls ≡ found → option_or (option_map (within outer) found) (found_at outer name) ≡ Some (decl, there) → StandsAt program there decl
      cases None none same = around same
      cases (Some (d, before)) at same =
          let tied = same_Some (d, before ∷ outer) (decl, there) same in
          let one : d ≡ decl = ap (λ (f : Decl × Around). f.0) tied in
          subst (λ a. StandsAt program a decl) (ap (λ (f : Decl × Around). f.1) tied) (own before (subst (λ x. StandsBehind x before decls) one (first_behind name decls
          (d, before) at)))

  found_around : (around : Around) (d : Decl) → StandsAt program around d → (name : List ℕ) (decl : Decl) (there : Around) → found_at around name ≡ Some (decl, there)
      → StandsAt program there decl
  found_around around d (outermost {before} at) name decl there is =
      either_found before [] name decl there (λ some one. outermost (behind_before d decl before some program.decls one at)) (λ none. absurd (none-some (decl, there) none)) is
  found_around around d (inner {before} {around = outer} {decl = whole} net standing is_net at) name decl there is =
      either_found before outer name decl there (λ some one. inner net standing is_net (behind_before d decl before some (out-NetDecl net).decls one at))
      (λ later. found_around outer whole standing name decl there later) is

  pub found_in_net : (around there : Around) (d decl : Decl) (net : NetDecl) (name : List ℕ) → StandsAt program around d → out-Decl d ≡ Decl-F.NetDecl net
      → found_at ((out-NetDecl net).decls ∷ around) name ≡ Some (decl, there)
      → StandsAt program there decl
  found_in_net around there d decl net name standing is_net is = either_found (out-NetDecl net).decls around name decl there (λ some one. inner net standing is_net one)
      (found_around around d standing name decl there) is

  -- the boxes of a list of declarations are those before one, its own, and later ones
  abbrev Begin : List BoxDecl → List BoxDecl → Type 0
  Begin all some = (later : List BoxDecl) × (all ≡ some ++ later)

  behind_begin : (d : Decl) (before decls : List Decl) → StandsBehind d before decls → Begin (boxes_in decls) (boxes_in before ++ boxes_of d)
  behind_begin d before decls (foremost {xs}) = (boxes_in xs, refl)
  behind_begin d before decls (further {y} {before = some} {xs} at) =
      let rest = behind_begin d some xs at in (
        rest.0,
        ap (λ more. boxes_of y ++ more) rest.1 ∙ sym (append_assoc (boxes_of y) (boxes_in some ++ boxes_of d) rest.0)
            ∙ ap (λ more. more ++ rest.0) (sym (append_assoc (boxes_of y) (boxes_in some) (boxes_of d))),
      )

  net_has : (d : Decl) (net : NetDecl) → out-Decl d ≡ Decl-F.NetDecl net → boxes_of d ≡ boxes_in (out-NetDecl net).decls
  net_has d net is = fold_out-Decl (List BoxDecl) (List BoxDecl) boxes_step net_step d
      ∙ ap (λ x. boxes_step (map-Decl Decl NetDecl (List BoxDecl) (List BoxDecl) boxes_of net_boxes_of x)) is
      ∙ fold_out-NetDecl (List BoxDecl) (List BoxDecl) boxes_step net_step net ∙ together_map boxes_of (out-NetDecl net).decls

  standing_begin : (around : Around) (d : Decl) → StandsAt program around d → Begin (boxes_in program.decls) (boxes_before around ++ boxes_of d)
  standing_begin around d (outermost {before} at) = behind_begin d before program.decls at
  standing_begin around d (inner {before} {around = outer} {decl = whole} net standing is at) =
      let first = standing_begin outer whole standing in
      let own = behind_begin d before (out-NetDecl net).decls at in (
        own.0 ++ first.0,
        first.1 ∙ ap (λ bs. (boxes_before outer ++ bs) ++ first.0) (net_has whole net is ∙ own.1)
            ∙ ap (λ bs. bs ++ first.0) (sym (append_assoc (boxes_before outer) (boxes_in before ++ boxes_of d) own.0)
            ∙ ap (λ bs. bs ++ own.0) (sym (append_assoc (boxes_before outer) (boxes_in before) (boxes_of d))))
            ∙ append_assoc ((boxes_before outer ++ boxes_in before) ++ boxes_of d) own.0 first.0,
      )

  pub box_numbered : (around : Around) (d : Decl) (declaration : BoxDecl) → StandsAt program around d → out-Decl d ≡ Decl-F.BoxDecl declaration
      → slice_get (program_boxes program) (length (boxes_before around)) ≡ Some (box_at (names_of program) declaration)
  box_numbered around d declaration standing is =
      let begin = standing_begin around d standing in
      slice_get-map (box_at (names_of program)) (boxes_in program.decls) (length (boxes_before around))
      ∙ ap (option_map (box_at (names_of program))) (ap (λ bs. slice_get bs (length (boxes_before around))) (begin.1 ∙ ap (λ bs. (boxes_before around ++ bs) ++ begin.0) has)
      ∙ still_there (boxes_before around ++ declaration ∷ []) begin.0 (length (boxes_before around)) declaration (get_last (boxes_before around) declaration (length
      (boxes_before around)) refl))
    where
      has : boxes_of d ≡ declaration ∷ []
      has = fold_out-Decl (List BoxDecl) (List BoxDecl) boxes_step net_step d ∙ ap (λ x. boxes_step (map-Decl Decl NetDecl (List BoxDecl) (List BoxDecl) boxes_of net_boxes_of x)) is
