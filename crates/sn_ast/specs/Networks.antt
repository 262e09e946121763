-- The grammar of networks: which tokens spell which of them. In each relation the last list is what follows.
use Rattle.std.specs.Prelude.{ℕ, pos, Bool, true, false, List, [], ◌∷◌, ◌≡◌, Option, Some, None}
use Rattle.sn_ast.specs.Labels.{IsVariant}
use Rattle.sn_ast.specs.Measures.{Measuring}
use Rattle.sn_ast.specs.Rows.{append, no_parts, with_part}
use Rattle.sn_ast.specs.TagExprs.{TagExpr}
use Rattle.sn_ast.specs.Terminals.{label_of, link_of}
use Rattle.sn_ast.specs.declared.label.Ident.{Ident}
use Rattle.sn_ast.specs.declared.label.LabelAt.{LabelAt}
use Rattle.sn_ast.specs.declared.label.Variant.{Variant}
use Rattle.sn_ast.specs.declared.network.ArmAt.{ArmAt}
use Rattle.sn_ast.specs.declared.network.ItemAt.{ItemAt}
use Rattle.sn_ast.specs.declared.network.ItemSource.TheVariants.{Same, Field, Expr}
use Rattle.sn_ast.specs.declared.network.NetExpr.{NetExpr}
use Rattle.sn_ast.specs.declared.network.NetForm.TheVariants as net_form
use Rattle.sn_ast.specs.declared.network.TemplateAt.{TemplateAt}
use Rattle.sn_ast.specs.declared.tag_expr.TExpr.{TExpr}
use Rattle.sn_ast.specs.declared.terminal.Keyword.TheVariants.{If, Else}
use Rattle.sn_ast.specs.declared.terminal.Link.TheVariants.{Branch as BranchLink, Star as StarLink, Split as SplitLink, Place as PlaceLink}
use Rattle.sn_ast.specs.declared.terminal.Symbol.{Symbol as SomeSymbol}
use Rattle.sn_ast.specs.declared.terminal.Symbol.TheVariants.{OpenParen, CloseParen, OpenBrace, CloseBrace, OpenBracket, CloseBracket, OpenSync, CloseSync, Comma, Semicolon, Assign, Arrow, Dots, At}
use Rattle.sn_ast.specs.declared.terminal.Terminal.{Terminal}
use Rattle.sn_ast.specs.declared.terminal.Terminal.TheVariants.{Name, Tag, Number, Keyword, Symbol}

-- the items of a template
abbrev pub same_item : LabelAt → ItemAt
same_item l = record { target = l; source = Same }

abbrev pub renamed_item : Ident → Ident → ItemAt
renamed_item new old = record { target = record { tag = false; name = new }; source = Field old }

abbrev pub computed_item : Ident → TExpr → ItemAt
computed_item tag e = record { target = record { tag = true; name = tag }; source = Expr e }

-- an arm of a filter
abbrev pub arm_of : TExpr → List TemplateAt → ArmAt
arm_of guard templates = record { guard = guard; templates = templates }

-- the nodes of a network
abbrev pub filter_at : ℕ → Variant → List ArmAt → List TemplateAt → NetExpr
filter_at at pattern arms templates = record { at = at; form = net_form.Filter pattern arms templates }

abbrev pub sync_at : ℕ → List Variant → NetExpr
sync_at at patterns = record { at = at; form = net_form.Sync patterns }

abbrev pub serial_at : ℕ → List NetExpr → NetExpr
serial_at at parts = record { at = at; form = net_form.Serial parts }

abbrev pub choice_at : Bool → ℕ → List NetExpr → NetExpr
choice_at det at branches = record { at = at; form = net_form.Choice det branches }

abbrev pub star_at : Bool → ℕ → Variant → Option TExpr → NetExpr → NetExpr
star_at det at exit guard body = record { at = at; form = net_form.Star det body exit guard }

abbrev pub split_at : Bool → Bool → ℕ → Ident → NetExpr → NetExpr
split_at det spread at tag body = record { at = at; form = net_form.Split det spread body tag }

abbrev pub placed_at : ℕ → ℕ → NetExpr → NetExpr
placed_at at node body = record { at = at; form = net_form.Placed body node }

module _ {F : Type 0 → Type 0} (m : Measuring F) where
  abbrev pub with_star : Bool → ℕ → F NetExpr → Variant → F NetExpr
  with_star det at body exit = m.raise (m.each (star_at det at exit None) body)

  abbrev pub with_guarded_star : Bool → ℕ → F NetExpr → Variant → F TExpr → F NetExpr
  with_guarded_star det at body exit guard = m.raise (m.join (λ b g. star_at det at exit (Some g) b) body guard)

  abbrev pub with_split : Bool → Bool → ℕ → F NetExpr → Ident → F NetExpr
  with_split det spread at body tag = m.raise (m.each (split_at det spread at tag) body)

  abbrev pub with_place : ℕ → F NetExpr → ℕ → F NetExpr
  with_place at body node = m.raise (m.each (placed_at at node) body)

  -- the part p after those of a serial list, if there are any; the place of a serial list is that of its first dots
  abbrev pub serial_of : Option (ℕ × F (List NetExpr)) → F NetExpr → F NetExpr
  serial_of None p = p
  serial_of (Some so_far) p = m.raise (m.each (serial_at so_far.0) (with_part m so_far.1 p))

  abbrev pub chained : Option (ℕ × F (List NetExpr)) → ℕ → F NetExpr → Option (ℕ × F (List NetExpr))
  chained None at p = Some (at, with_part m (no_parts m) p)
  chained (Some so_far) at p = Some (so_far.0, with_part m so_far.1 p)

  -- the branch p after those of a choice, if there are any; the place of a choice is that of its first operator
  abbrev pub choice_with : Option (Bool × ℕ × F (List NetExpr)) → F NetExpr → F NetExpr
  choice_with None p = p
  choice_with (Some so_far) p = m.raise (m.each (choice_at so_far.0 so_far.1) (with_part m so_far.2 p))

  abbrev pub branched : Option (Bool × ℕ × F (List NetExpr)) → Bool → ℕ → F NetExpr → Option (Bool × ℕ × F (List NetExpr))
  branched None det at p = Some (det, at, with_part m (no_parts m) p)
  branched (Some so_far) det at p = Some (so_far.0, so_far.1, with_part m so_far.2 p)

-- a choice has one operator
abbrev pub GoesOn : {W : Type 0} → Option (Bool × ℕ × W) → Bool → Type 0
GoesOn None det = Unit {0}
GoesOn (Some so_far) det = so_far.0 ≡ det

-- item = ID [ "=" ID ] | TAG [ "=" texpr ]
pub data Item {F : Type 0 → Type 0} (m : Measuring F) : List Terminal → F ItemAt → List Terminal → Type 0 where
  same : {x : Terminal} {l : LabelAt} {us : List Terminal} → label_of x ≡ Some l → Item m (x ∷ us) (m.leaf (same_item l)) us
  renamed : {at : ℕ} {new old : Ident} {us : List Terminal} →
      Item m (Name new ∷ Symbol Assign at ∷ Name old ∷ us) (m.leaf (renamed_item new old)) us
  computed : {at : ℕ} {tag : Ident} {e : F TExpr} {ts us : List Terminal} →
      TagExpr m ts e us → Item m (Tag tag ∷ Symbol Assign at ∷ ts) (m.each (computed_item tag) e) us

-- { "," item } "}", after the items so far
pub data MoreItems {F : Type 0 → Type 0} (m : Measuring F) : F (List ItemAt) → List Terminal → F (List ItemAt) → List Terminal → Type 0 where
  last_item : {at : ℕ} {all : F (List ItemAt)} {us : List Terminal} → MoreItems m all (Symbol CloseBrace at ∷ us) all us
  more_items : {at : ℕ} {i : F ItemAt} {so_far all : F (List ItemAt)} {ts us vs : List Terminal} →
      Item m ts i us → MoreItems m (with_part m so_far i) us all vs → MoreItems m so_far (Symbol Comma at ∷ ts) all vs

-- [ item { "," item } ] "}"
pub data Items {F : Type 0 → Type 0} (m : Measuring F) : List Terminal → F (List ItemAt) → List Terminal → Type 0 where
  no_items : {at : ℕ} {us : List Terminal} → Items m (Symbol CloseBrace at ∷ us) (no_parts m) us
  items : {i : F ItemAt} {all : F (List ItemAt)} {ts us vs : List Terminal} →
      Item m ts i us → MoreItems m (with_part m (no_parts m) i) us all vs → Items m ts all vs

-- template = "{" [ item { "," item } ] "}"
pub data Template {F : Type 0 → Type 0} (m : Measuring F) : List Terminal → F TemplateAt → List Terminal → Type 0 where
  template : {at : ℕ} {all : F (List ItemAt)} {ts us : List Terminal} →
      Items m ts all us → Template m (Symbol OpenBrace at ∷ ts) (m.each (λ is. record { items = is; at = at }) all) us

-- { ";" template } "]", after the templates so far
pub data MoreTemplates {F : Type 0 → Type 0} (m : Measuring F) : F (List TemplateAt) → List Terminal → F (List TemplateAt) → List Terminal → Type 0 where
  last_template : {at : ℕ} {all : F (List TemplateAt)} {us : List Terminal} → MoreTemplates m all (Symbol CloseBracket at ∷ us) all us
  more_templates : {at : ℕ} {t : F TemplateAt} {so_far all : F (List TemplateAt)} {ts us vs : List Terminal} →
      Template m ts t us → MoreTemplates m (with_part m so_far t) us all vs → MoreTemplates m so_far (Symbol Semicolon at ∷ ts) all vs

-- { ";" template }, after the templates so far of an arm
pub data ArmTemplates {F : Type 0 → Type 0} (m : Measuring F) : F (List TemplateAt) → List Terminal → F (List TemplateAt) → List Terminal → Type 0 where
  arm_ends : {all : F (List TemplateAt)} {us : List Terminal} → ArmTemplates m all us all us
  arm_goes_on : {at : ℕ} {t : F TemplateAt} {so_far all : F (List TemplateAt)} {ts us vs : List Terminal} →
      Template m ts t us → ArmTemplates m (with_part m so_far t) us all vs → ArmTemplates m so_far (Symbol Semicolon at ∷ ts) all vs

-- arm = "if" "(" texpr ")" "->" template { ";" template }, whose parentheses are not counted
pub data Arm {F : Type 0 → Type 0} (m : Measuring F) : List Terminal → F ArmAt → List Terminal → Type 0 where
  arm : {at opening close arrow : ℕ} {g : F TExpr} {t : F TemplateAt} {all : F (List TemplateAt)} {ts us vs ws : List Terminal} →
      TagExpr m ts g (Symbol CloseParen close ∷ Symbol Arrow arrow ∷ us) → Template m us t vs → ArmTemplates m (with_part m (no_parts m) t) vs all ws →
      Arm m (Keyword If at ∷ Symbol OpenParen opening ∷ ts) (m.join arm_of g all) ws

-- { arm } "else" "->", after the arms so far
pub data MoreArms {F : Type 0 → Type 0} (m : Measuring F) : F (List ArmAt) → List Terminal → F (List ArmAt) → List Terminal → Type 0 where
  last_arm : {at arrow : ℕ} {all : F (List ArmAt)} {us : List Terminal} → MoreArms m all (Keyword Else at ∷ Symbol Arrow arrow ∷ us) all us
  more_arms : {a : F ArmAt} {so_far all : F (List ArmAt)} {ts us vs : List Terminal} →
      Arm m ts a us → MoreArms m (with_part m so_far a) us all vs → MoreArms m so_far ts all vs

-- "->" | arm { arm } "else" "->"
pub data Arms {F : Type 0 → Type 0} (m : Measuring F) : List Terminal → F (List ArmAt) → List Terminal → Type 0 where
  no_arms : {arrow : ℕ} {us : List Terminal} → Arms m (Symbol Arrow arrow ∷ us) (no_parts m) us
  arms : {a : F ArmAt} {all : F (List ArmAt)} {ts us vs : List Terminal} →
      Arm m ts a us → MoreArms m (with_part m (no_parts m) a) us all vs → Arms m ts all vs

-- template { ";" template } "]", behind the arms of a filter
pub data LastTemplates {F : Type 0 → Type 0} (m : Measuring F) (at : ℕ) (pattern : Variant) (arms : F (List ArmAt)) : List Terminal → F NetExpr → List Terminal → Type 0 where
  last_templates : {t : F TemplateAt} {all : F (List TemplateAt)} {us vs ws : List Terminal} →
      Template m us t vs → MoreTemplates m (with_part m (no_parts m) t) vs all ws → LastTemplates m at pattern arms us (m.join (filter_at at pattern) arms all) ws

-- variant ( "->" | arm { arm } "else" "->" ) template { ";" template } "]", after the filter's opening bracket
pub data Filter {F : Type 0 → Type 0} (m : Measuring F) (at : ℕ) : List Terminal → F NetExpr → List Terminal → Type 0 where
  filter : {pattern : Variant} {arms : F (List ArmAt)} {n : F NetExpr} {ts us vs ws : List Terminal} →
      IsVariant ts pattern us → Arms m us arms vs → LastTemplates m at pattern arms vs n ws → Filter m at ts n ws

-- { "," variant } "|]", after the patterns so far
pub data MorePatterns : List Variant → List Terminal → List Variant → List Terminal → Type 0 where
  last_pattern : {at : ℕ} {all : List Variant} {us : List Terminal} → MorePatterns all (Symbol CloseSync at ∷ us) all us
  more_patterns : {at : ℕ} {v : Variant} {so_far all : List Variant} {ts us vs : List Terminal} →
      IsVariant ts v us → MorePatterns (append so_far v) us all vs → MorePatterns so_far (Symbol Comma at ∷ ts) all vs

-- variant { "," variant } "|]", after a synchrocell's opening bracket
pub data Patterns : List Terminal → List Variant → List Terminal → Type 0 where
  patterns : {v : Variant} {all : List Variant} {ts us vs : List Terminal} →
      IsVariant ts v us → MorePatterns (v ∷ []) us all vs → Patterns ts all vs

mutual
  -- atom = ID | "[" "]" | "[" filter | "[|" patterns | "(" choice ")"
  pub data Atom {F : Type 0 → Type 0} (m : Measuring F) : List Terminal → F NetExpr → List Terminal → Type 0 where
    name : {name : Ident} {us : List Terminal} →
        Atom m (Name name ∷ us) (m.leaf (record { at = name.at; form = net_form.Name name })) us
    identity : {at close : ℕ} {us : List Terminal} →
        Atom m (Symbol OpenBracket at ∷ Symbol CloseBracket close ∷ us) (m.leaf (record { at = at; form = net_form.Identity })) us
    filtered : {at : ℕ} {n : F NetExpr} {ts us : List Terminal} → Filter m at ts n us → Atom m (Symbol OpenBracket at ∷ ts) n us
    sync : {at : ℕ} {all : List Variant} {ts us : List Terminal} →
        Patterns ts all us → Atom m (Symbol OpenSync at ∷ ts) (m.leaf (sync_at at all)) us
    parens : {at close : ℕ} {n : F NetExpr} {ts us : List Terminal} →
        Network m ts n (Symbol CloseParen close ∷ us) → Atom m (Symbol OpenParen at ∷ ts) (m.parens n) us

  -- post = atom { star | split | placed }
  pub data Post {F : Type 0 → Type 0} (m : Measuring F) : List Terminal → F NetExpr → List Terminal → Type 0 where
    post : {p q : F NetExpr} {ts us vs : List Terminal} → Atom m ts p us → Posts m p us q vs → Post m ts q vs

  -- star = ( "**" | "*" ) variant [ "if" "(" texpr ")" ], split = ( "!!" | "!" ) [ "@" ] TAG, placed = "@" NUMBER
  pub data Posts {F : Type 0 → Type 0} (m : Measuring F) : F NetExpr → List Terminal → F NetExpr → List Terminal → Type 0 where
    bare : {p : F NetExpr} {us : List Terminal} → Posts m p us p us
    star : {at : ℕ} {s : SomeSymbol} {det : Bool} {exit : Variant} {p q : F NetExpr} {ts us vs : List Terminal} →
        link_of s ≡ Some (StarLink det) → IsVariant ts exit us → Posts m (with_star m det at p exit) us q vs →
        Posts m p (Symbol s at ∷ ts) q vs
    guarded_star : {at if_at opening close : ℕ} {s : SomeSymbol} {det : Bool} {exit : Variant} {g : F TExpr} {p q : F NetExpr} {ts us vs ws : List Terminal} →
        link_of s ≡ Some (StarLink det) → IsVariant ts exit (Keyword If if_at ∷ Symbol OpenParen opening ∷ us) →
        TagExpr m us g (Symbol CloseParen close ∷ vs) → Posts m (with_guarded_star m det at p exit g) vs q ws →
        Posts m p (Symbol s at ∷ ts) q ws
    split : {at : ℕ} {s : SomeSymbol} {det : Bool} {tag : Ident} {p q : F NetExpr} {us vs : List Terminal} →
        link_of s ≡ Some (SplitLink det) → Posts m (with_split m det false at p tag) us q vs → Posts m p (Symbol s at ∷ Tag tag ∷ us) q vs
    spread_split : {at spread_at : ℕ} {s : SomeSymbol} {det : Bool} {tag : Ident} {p q : F NetExpr} {us vs : List Terminal} →
        link_of s ≡ Some (SplitLink det) → Posts m (with_split m det true at p tag) us q vs →
        Posts m p (Symbol s at ∷ Symbol At spread_at ∷ Tag tag ∷ us) q vs
    placed : {at number_at node : ℕ} {s : SomeSymbol} {p q : F NetExpr} {us vs : List Terminal} →
        link_of s ≡ Some PlaceLink → Posts m (with_place m at p node) us q vs →
        Posts m p (Symbol s at ∷ Number (pos node) number_at ∷ us) q vs

  -- serial = post { ".." post }
  pub data Serial {F : Type 0 → Type 0} (m : Measuring F) : List Terminal → F NetExpr → List Terminal → Type 0 where
    serial : {p s : F NetExpr} {ts us vs : List Terminal} → Post m ts p us → MoreSerial m None p us s vs → Serial m ts s vs

  -- { ".." post }, after the parts so far and then p
  pub data MoreSerial {F : Type 0 → Type 0} (m : Measuring F) : Option (ℕ × F (List NetExpr)) → F NetExpr → List Terminal → F NetExpr → List Terminal → Type 0 where
    last : {so_far : Option (ℕ × F (List NetExpr))} {p : F NetExpr} {us : List Terminal} →
        MoreSerial m so_far p us (serial_of m so_far p) us
    dots : {at : ℕ} {so_far : Option (ℕ × F (List NetExpr))} {p q s : F NetExpr} {ts us vs : List Terminal} →
        Post m ts q us → MoreSerial m (chained m so_far at p) q us s vs → MoreSerial m so_far p (Symbol Dots at ∷ ts) s vs

  -- network = serial [ "||" serial { "||" serial } | "|" serial { "|" serial } ]
  pub data Network {F : Type 0 → Type 0} (m : Measuring F) : List Terminal → F NetExpr → List Terminal → Type 0 where
    network : {s n : F NetExpr} {ts us vs : List Terminal} → Serial m ts s us → MoreBranches m None s us n vs → Network m ts n vs

  -- the further branches, after those so far and then s
  pub data MoreBranches {F : Type 0 → Type 0} (m : Measuring F) : Option (Bool × ℕ × F (List NetExpr)) → F NetExpr → List Terminal → F NetExpr → List Terminal → Type 0 where
    final : {so_far : Option (Bool × ℕ × F (List NetExpr))} {s : F NetExpr} {us : List Terminal} →
        MoreBranches m so_far s us (choice_with m so_far s) us
    branch : {at : ℕ} {sym : SomeSymbol} {det : Bool} {so_far : Option (Bool × ℕ × F (List NetExpr))} {s q n : F NetExpr} {ts us vs : List Terminal} →
        link_of sym ≡ Some (BranchLink det) → GoesOn so_far det → Serial m ts q us → MoreBranches m (branched m so_far det at s) q us n vs →
        MoreBranches m so_far s (Symbol sym at ∷ ts) n vs
