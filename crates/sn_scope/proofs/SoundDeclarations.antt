-- Where nothing of a source is refused, each component that it declares is sound, and each box is closed.
use Rattle.std.proofs.Common.{◌≡◌, ℕ, not, List, [], ◌∷◌, ◌++◌, length, map as each, Option, Some, None, All, is_some, sym, subst, map-id}
use Rattle.std.proofs.lemmas.List.Elements.{All-nil, All-push}
use Rattle.sn_ast.specs.declared.declaration.BoxDecl.{BoxDecl}
use Rattle.sn_ast.specs.declared.declaration.Decl.{Decl}
use Rattle.sn_ast.specs.declared.declaration.Decl.TheFolds.{fold-roll-Decl, fold-roll-NetDecl, ind-Decl, map-Decl}
use Rattle.sn_ast.specs.declared.declaration.Decl.TheOpen.{Decl-F}
use Rattle.sn_ast.specs.declared.declaration.Decl.TheViews.{roll-Decl, roll-NetDecl}
use Rattle.sn_ast.specs.declared.declaration.NetDecl.{NetDecl}
use Rattle.sn_ast.specs.declared.declaration.Program.{Program}
use Rattle.sn_ast.specs.declared.label.Ident.{Ident}
use Rattle.sn_ast.specs.declared.label.Sig.{Sig}
use Rattle.sn_ast.specs.declared.label.Sig.TheVariants.{Arrow, Named as NamedSig}
use Rattle.sn_ast.specs.declared.label.TypePart.{TypePart}
use Rattle.sn_ast.specs.declared.label.TypePart.TheVariants.{Set, Named as NamedType}
use Rattle.sn_ast.specs.declared.network.NetExpr.{NetExpr}
use Rattle.sn_names.specs.Names.{is_held}
use Rattle.sn_net.specs.Boxes.{IsClosedBox}
use Rattle.sn_net.specs.declared.expr.BoxProgram.{BoxProgram}
use Rattle.sn_box_scope.specs.Boxes.{box_at, box_required}
use Rattle.sn_scope.specs.Declarations.{Change, after, after_box, after_net, after_sig, after_type, all_after, decl_step, declarations_of, ended, net_number, net_signature, net_step, number_at, start, with_claim, with_meaning, with_net, with_net_signature, with_signature, within}
use Rattle.sn_scope.specs.Networks.{network_at}
use Rattle.sn_scope.specs.Scopes.{signature_of, type_of}
use Rattle.sn_scope.specs.Types.{part_required, type_at, type_required}
use Rattle.sn_scope.specs.declared.declarations.Declarations.{Declarations}
use Rattle.sn_scope.specs.declared.declarations.Pending.{Pending}
use Rattle.sn_scope.specs.declared.network.Component.{Component}
use Rattle.sn_scope.specs.declared.network.Network.{Network}
use Rattle.sn_scope.specs.declared.network.Network.TheVariants.{Named, Made}
use Rattle.sn_label_scope.specs.declared.refusal.Reason.TheVariants.{Unknown, Twice}
use Rattle.sn_scope.specs.declared.scopes.Meaning.{Meaning}
use Rattle.sn_scope.specs.declared.scopes.Meaning.TheVariants as meaning
use Rattle.sn_scope.specs.declared.scopes.Scopes.{Scopes}
use Rattle.sn_label_scope.proofs.Checks.{Tells, required_tells, tells_each, tells_weaker, variant_tells}
use Rattle.sn_box_scope.proofs.ClosedBoxes.{box_tells}
use Rattle.sn_scope.proofs.SoundComponents.{IsSoundComponent, IsSoundNetwork, made_sound}
use Rattle.sn_scope.proofs.SoundNetworks.{network_tells}

-- each component is sound
abbrev pub AreSound : List Component → Type 0
AreSound = All IsSoundComponent

-- each box is closed
abbrev pub AreClosed : List BoxProgram → Type 0
AreClosed = All IsClosedBox

-- so are those that were declared
abbrev AllSound : Declarations → Type 0
AllSound st = AreSound st.nets × AreClosed st.boxes

-- where it leaves no refusal, there was none before, and sound components and closed boxes stay so
abbrev pub IsSafe : Change → Type 0
IsSafe change = (st : Declarations) → (change st).refusals ≡ None → (st.refusals ≡ None) × (AllSound st → AllSound (change st))

-- types that are not refused leave no refusal before them
type_tells : (names : List (List ℕ)) (scopes : Scopes) (parts : List TypePart) → Tells (type_required names scopes parts) (Unit {0})
type_tells names scopes parts = tells_weaker _ _ _ (tells_each (part_required names scopes) (λ part. Unit {0}) part_tells parts) (λ all. tt)
  where
    part_tells : (part : TypePart) → Tells (λ least. part_required names scopes least part) (Unit {0})
    part_tells (Set variant) = variant_tells names variant
    part_tells (NamedType name) = tells_weaker _ _ _ (required_tells (is_some (type_of scopes name.text)) Unknown name.at) (λ known. tt)

safe_meaning : (name : Ident) (meaning : Meaning) → IsSafe (with_meaning name meaning)
safe_meaning name meaning st none = ((required_tells (not (is_held st.scopes.current.names name.text)) Twice name.at st.refusals none).0, λ sound. sound)

safe_signature : (names : List (List ℕ)) (sig : Sig) → IsSafe (with_signature names sig)
safe_signature names (Arrow input output) st none =
    let after_input = type_tells names st.scopes output (type_required names st.scopes input st.refusals) none in
    ((type_tells names st.scopes input st.refusals after_input.0).0, λ sound. sound)
safe_signature names (NamedSig name) st none = ((required_tells (is_some (signature_of st.scopes name.text)) Unknown name.at st.refusals none).0, λ sound. sound)

safe_net_signature : (names : List (List ℕ)) (sig : Option Sig) → IsSafe (with_net_signature names sig)
safe_net_signature names None st none = (none, λ sound. sound)
safe_net_signature names (Some sig) st none = safe_signature names sig st none

safe_claim : (name : Ident) (signature : Option ℕ) (net : ℕ) (before : List Pending) → IsSafe (with_claim name signature net before)
safe_claim name None net before st none = (none, λ sound. sound)
safe_claim name (Some signature) net before st none = (none, λ sound. sound)

one_more : (network : Network) (nets : List Component) → IsSoundNetwork network → AreSound nets → AreSound (with_net network nets)
one_more (Named number) nets sound all = all
one_more (Made component) nets sound all = All-push IsSoundComponent nets component all (made_sound component sound)

safe_ended : (names : List (List ℕ)) (connect : NetExpr) → IsSafe (ended names connect)
safe_ended names connect st none =
    let told = network_tells names st.scopes connect st.refusals none in
    (told.0, λ all. (one_more (network_at names st.scopes connect) st.nets told.1 all.0, all.1))

safe_type : (names : List (List ℕ)) (name : Ident) (parts : List TypePart) → IsSafe (after_type names name parts)
safe_type names name parts st none =
    let types = record st { types = st.types ++ type_at names st.scopes st.types parts ∷ []; refusals = type_required names st.scopes parts st.refusals } in
    let named = safe_meaning name (meaning.«Type» (length st.types)) types none in
    ((type_tells names st.scopes parts st.refusals named.0).0, λ sound. sound)

safe_sig : (names : List (List ℕ)) (name : Ident) (sig : Sig) → IsSafe (after_sig names name sig)
safe_sig names name sig st none =
    let named = safe_meaning name (meaning.Signature (number_at sig st)) (with_signature names sig st) none in
    safe_signature names sig st named.0

safe_box : (names : List (List ℕ)) (declaration : BoxDecl) → IsSafe (after_box names declaration)
safe_box names declaration st none =
    let program = box_at names declaration in
    let made = record st { boxes = st.boxes ++ program ∷ []; refusals = box_required names declaration st.refusals } in
    let named = safe_meaning declaration.name (meaning.Box (length st.boxes)) made none in
    let told = box_tells names declaration st.refusals named.0 in
    (told.0, λ all. (all.0, All-push IsClosedBox st.boxes program all.1 told.1))

module _ (names : List (List ℕ)) where
  abbrev SafeDecl : Decl → Type 0
  SafeDecl d = IsSafe (after names d)

  abbrev SafeNet : NetDecl → Type 0
  SafeNet d = IsSafe (after_net names d)

  abbrev Inner : Type 0
  Inner = (d : Decl) × SafeDecl d

  -- safe declarations are safe one after the other
  safe_row : {A : Type 0} (decl : A → Decl) → ((x : A) → SafeDecl (decl x)) → (xs : List A) → IsSafe (all_after (each (after names) (each decl xs)))
  safe_row decl safe [] st none = (none, λ sound. sound)
  safe_row decl safe (x ∷ xs) st none =
      let rest = safe_row decl safe xs (after names (decl x) st) none in
      let first = safe x st rest.0 in
      (first.0, λ sound. rest.1 (first.1 sound))

  -- a net is safe where its inner declarations are
  safe_net : (name : Ident) (sig : Option Sig) (decls : List Inner) (connect : NetExpr)
      → IsSafe (net_step names (record { name = name; sig = sig; decls = each (after names) (each (λ e. e.0) decls); connect = connect }))
  safe_net name sig decls connect st none =
      let opened = with_net_signature names sig st in
      let inner = all_after (each (after names) (each (λ (e : Inner). e.0) decls)) (within opened) in
      let number = net_number names connect inner in
      let closed = ended names connect inner in
      let claimed = with_claim name (net_signature sig st) number opened.claims closed in
      let named = safe_meaning name (meaning.Net number) claimed none in
      let claim = safe_claim name (net_signature sig st) number opened.claims closed named.0 in
      let net = safe_ended names connect inner claim.0 in
      let declared = safe_row (λ (e : Inner). e.0) (λ e. e.1) decls (within opened) net.0 in
      let signed = safe_net_signature names sig st declared.0 in
      (signed.0, λ sound. named.1 (claim.1 (net.1 (declared.1 (signed.1 sound)))))

  -- a declaration is safe
  pub safe_after : (d : Decl) → IsSafe (after names d)
  safe_after = ind-Decl SafeDecl SafeNet
      (λ x y is. subst (λ z. SafeDecl (roll-Decl z)) is
      (elim y as (λ z. SafeDecl (roll-Decl (map-Decl _ _ Decl NetDecl (λ e. e.0) (λ e. e.0) z))) [
        | Decl-F.BoxDecl b ↦ subst IsSafe (sym (fold-roll-Decl Change Change (decl_step names) (net_step names) (Decl-F.BoxDecl b))) (safe_box names b)
        | Decl-F.NetDecl net ↦ subst IsSafe (sym (fold-roll-Decl Change Change (decl_step names) (net_step names) (Decl-F.NetDecl net.0))) net.1
        | Decl-F.TypeDecl name parts ↦ subst IsSafe (sym (fold-roll-Decl Change Change (decl_step names) (net_step names) (Decl-F.TypeDecl name parts))) (safe_type names name parts)
        | Decl-F.SigDecl name sig ↦ subst IsSafe (sym (fold-roll-Decl Change Change (decl_step names) (net_step names) (Decl-F.SigDecl name sig))) (safe_sig names name sig)
      ]))
      (λ x y is. subst (λ z. SafeNet (roll-NetDecl z)) is
      (subst IsSafe (sym (fold-roll-NetDecl Change Change (decl_step names) (net_step names) (record { name = y.name; sig = y.sig; decls = each (λ e. e.0) y.decls; connect = y.connect })))
      (safe_net y.name y.sig y.decls y.connect)))

  -- where nothing of a program is refused, all that it declares is sound
  all_are_sound : (program : Program) → (declarations_of names program).refusals ≡ None → AllSound (declarations_of names program)
  all_are_sound program none =
      let safe = subst (λ decls. IsSafe (all_after (each (after names) decls))) (map-id program.decls) (safe_row (λ d. d) safe_after program.decls) in
      (safe start none).1 (All-nil IsSoundComponent, All-nil IsClosedBox)

  -- each component that it declares is sound
  pub nets_are_sound : (program : Program) → (declarations_of names program).refusals ≡ None → AreSound (declarations_of names program).nets
  nets_are_sound program none = (all_are_sound program none).0

  -- each box that it declares is closed
  pub boxes_are_closed : (program : Program) → (declarations_of names program).refusals ≡ None → AreClosed (declarations_of names program).boxes
  boxes_are_closed program none = (all_are_sound program none).1
