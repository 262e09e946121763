-- Tokens spell one network, up to what may follow it.
use Rattle.std.proofs.Common.{◌≡◌, ◌∙◌, ℕ, ◌<◌, Bool, true, false, List, [], ◌∷◌, Option, Some, None, refl, sym, ap, subst, arith}
use Rattle.sn_ast.specs.Measures.{Measuring}
use Rattle.sn_ast.specs.Networks.{arm_of, branched, chained, computed_item, filter_at, same_item, sync_at, with_guarded_star, with_split, with_star}
use Rattle.sn_ast.specs.Networks.{Item, same, renamed, computed, MoreItems, last_item, more_items, Items, no_items, items, Template, template, MoreTemplates, last_template, more_templates, ArmTemplates, arm_ends, arm_goes_on, Arm, arm, MoreArms, last_arm, more_arms, Arms, no_arms, arms, LastTemplates, last_templates, Filter, filter, MorePatterns, last_pattern, more_patterns, Patterns, patterns, Atom, name, identity, filtered, sync, parens, Post, post, Posts, bare, star, guarded_star, split, spread_split, placed, Serial, serial, MoreSerial, last, dots, Network, network, MoreBranches, final, branch}
use Rattle.sn_ast.specs.Rows.{append, no_parts, with_part}
use Rattle.sn_ast.specs.TagExprs.{TagExpr}
use Rattle.sn_ast.specs.declared.label.Variant.{Variant}
use Rattle.sn_ast.specs.declared.network.ArmAt.{ArmAt}
use Rattle.sn_ast.specs.declared.network.ItemAt.{ItemAt}
use Rattle.sn_ast.specs.declared.network.NetExpr.{NetExpr}
use Rattle.sn_ast.specs.declared.network.TemplateAt.{TemplateAt}
use Rattle.sn_ast.specs.declared.terminal.Keyword.TheVariants.{If}
use Rattle.sn_ast.specs.declared.terminal.Link.TheVariants as link
use Rattle.sn_ast.specs.declared.terminal.Symbol.TheVariants.{CloseParen}
use Rattle.sn_ast.specs.declared.terminal.Terminal.{Terminal}
use Rattle.sn_ast.specs.declared.terminal.Terminal.TheVariants.{Keyword, Symbol}
use Rattle.sn_outcomes.proofs.Fronts.{rank, net_rank, symbol_link, behind, along}
use Rattle.sn_outcomes.proofs.LabelOnce.{variant_once}
use Rattle.sn_outcomes.proofs.TagOnce.{tag_expr_once}

module _ {F : Type 0 → Type 0} (m : Measuring F) where
  item_once : {i j : F ItemAt} {ts us vs : List Terminal} → Item m ts i us → Item m ts j vs → rank us < 1 → rank vs < 1 → (i ≡ j) × (us ≡ vs)
  item_once (same {l = l} is) (same {l = l'} is') p q =
      let labels : Some l ≡ Some l' = sym is ∙ is' in
      let one : l ≡ l' = cc in
      (ap (λ x. m.leaf (same_item x)) one, refl)
  item_once (same is) renamed p q = absurd (omega arith)
  item_once (same is) (computed e) p q = absurd (omega arith)
  item_once renamed (same is) p q = absurd (omega arith)
  item_once renamed renamed p q = (refl, refl)
  item_once (computed e) (same is) p q = absurd (omega arith)
  item_once (computed {tag = word} d) (computed k) p q =
      let first = tag_expr_once m d k p q in
      (ap (m.each (computed_item word)) first.0, first.1)

  items_front : {es fs : F (List ItemAt)} {us vs : List Terminal} → MoreItems m es us fs vs → rank us < 1
  items_front last_item = omega arith
  items_front (more_items a d) = omega arith

  more_items_once : {so_far es fs : F (List ItemAt)} {ts us vs : List Terminal} → MoreItems m so_far ts es us → MoreItems m so_far ts fs vs → (es ≡ fs) × (us ≡ vs)
  more_items_once last_item last_item = (refl, refl)
  more_items_once {so_far} {fs} {vs} (more_items a d) (more_items b k) =
      let first = item_once a b (items_front d) (items_front k) in
      more_items_once d (along (λ x ts. MoreItems m x ts fs vs) (ap (with_part m so_far) first.0) first.1 k)

  items_once : {es fs : F (List ItemAt)} {ts us vs : List Terminal} → Items m ts es us → Items m ts fs vs → (es ≡ fs) × (us ≡ vs)
  items_once no_items no_items = (refl, refl)
  items_once no_items (items (same is) k) = absurd cc
  items_once (items (same is) k) no_items = absurd cc
  items_once {fs} {vs} (items a d) (items b k) =
      let first = item_once a b (items_front d) (items_front k) in
      more_items_once d (along (λ x ts. MoreItems m x ts fs vs) (ap (with_part m (no_parts m)) first.0) first.1 k)

  template_once : {t u : F TemplateAt} {ts us vs : List Terminal} → Template m ts t us → Template m ts u vs → (t ≡ u) × (us ≡ vs)
  template_once (template {at} d) (template k) =
      let first = items_once d k in
      (ap (m.each (λ is. record { items = is; at = at })) first.0, first.1)

  more_templates_once : {so_far es fs : F (List TemplateAt)} {ts us vs : List Terminal} → MoreTemplates m so_far ts es us → MoreTemplates m so_far ts fs vs → (es ≡ fs) × (us ≡ vs)
  more_templates_once last_template last_template = (refl, refl)
  more_templates_once {so_far} {fs} {vs} (more_templates a d) (more_templates b k) =
      let first = template_once a b in
      more_templates_once d (along (λ x ts. MoreTemplates m x ts fs vs) (ap (with_part m so_far) first.0) first.1 k)

  arm_templates_once : {so_far es fs : F (List TemplateAt)} {ts us vs : List Terminal} → ArmTemplates m so_far ts es us → ArmTemplates m so_far ts fs vs → rank us < 1 → rank vs < 1
      → (es ≡ fs) × (us ≡ vs)
  arm_templates_once arm_ends arm_ends p q = (refl, refl)
  arm_templates_once arm_ends (arm_goes_on a d) p q = absurd (omega arith)
  arm_templates_once (arm_goes_on a d) arm_ends p q = absurd (omega arith)
  arm_templates_once {so_far} {fs} {vs} (arm_goes_on a d) (arm_goes_on b k) p q =
      let first = template_once a b in
      arm_templates_once d (along (λ x ts. ArmTemplates m x ts fs vs) (ap (with_part m so_far) first.0) first.1 k) p q

  arm_once : {a b : F ArmAt} {ts us vs : List Terminal} → Arm m ts a us → Arm m ts b vs → rank us < 1 → rank vs < 1 → (a ≡ b) × (us ≡ vs)
  arm_once {vs} (arm a c d) (arm {t = t'} {all = all'} {vs = ws'} a' c' d') p q =
      let first = tag_expr_once m a a' (omega arith) (omega arith) in
      let second = template_once c (subst (λ ts. Template m ts t' ws') (sym (ap (λ ts. behind (behind ts)) first.1)) c') in
      let third = arm_templates_once d (along (λ x ts. ArmTemplates m x ts all' vs) (ap (with_part m (no_parts m)) second.0) second.1 d') p q in
      (λ i. m.join arm_of (first.0 i) (third.0 i), third.1)

  -- an arm begins with its own word
  abbrev BeginsArm : List Terminal → Type 0
  BeginsArm (Keyword If at ∷ ts) = Unit {0}
  BeginsArm ts = ⊥

  arm_begins : {a : F ArmAt} {ts us : List Terminal} → Arm m ts a us → BeginsArm ts
  arm_begins (arm a c d) = tt

  arms_front : {es fs : F (List ArmAt)} {us vs : List Terminal} → MoreArms m es us fs vs → rank us < 1
  arms_front last_arm = omega arith
  arms_front (more_arms (arm a c d) k) = omega arith

  more_arms_once : {so_far es fs : F (List ArmAt)} {ts us vs : List Terminal} → MoreArms m so_far ts es us → MoreArms m so_far ts fs vs → (es ≡ fs) × (us ≡ vs)
  more_arms_once last_arm last_arm = (refl, refl)
  more_arms_once last_arm (more_arms a k) = absurd (arm_begins a)
  more_arms_once (more_arms a d) last_arm = absurd (arm_begins a)
  more_arms_once {so_far} {fs} {vs} (more_arms a d) (more_arms b k) =
      let first = arm_once a b (arms_front d) (arms_front k) in
      more_arms_once d (along (λ x ts. MoreArms m x ts fs vs) (ap (with_part m so_far) first.0) first.1 k)

  arms_once : {es fs : F (List ArmAt)} {ts us vs : List Terminal} → Arms m ts es us → Arms m ts fs vs → (es ≡ fs) × (us ≡ vs)
  arms_once no_arms no_arms = (refl, refl)
  arms_once no_arms (arms a k) = absurd (arm_begins a)
  arms_once (arms a d) no_arms = absurd (arm_begins a)
  arms_once {fs} {vs} (arms a d) (arms b k) =
      let first = arm_once a b (arms_front d) (arms_front k) in
      more_arms_once d (along (λ x ts. MoreArms m x ts fs vs) (ap (with_part m (no_parts m)) first.0) first.1 k)

  last_once : {at : ℕ} {pattern other : Variant} {arms others : F (List ArmAt)} {n o : F NetExpr} {us vs ws xs : List Terminal} → pattern ≡ other → arms ≡ others → us ≡ vs
      → LastTemplates m at pattern arms us n ws → LastTemplates m at other others vs o xs → (n ≡ o) × (ws ≡ xs)
  last_once {at} {xs} p q r (last_templates c d) (last_templates {t = t'} {all = all'} {vs = ws'} c' d') =
      let third = template_once c (subst (λ ts. Template m ts t' ws') (sym r) c') in
      let fourth = more_templates_once d (along (λ x ts. MoreTemplates m x ts all' xs) (ap (with_part m (no_parts m)) third.0) third.1 d') in
      (λ i. m.join (filter_at at (p i)) (q i) (fourth.0 i), fourth.1)

  filter_once : {at : ℕ} {n o : F NetExpr} {ts us vs : List Terminal} → Filter m at ts n us → Filter m at ts o vs → (n ≡ o) × (us ≡ vs)
  filter_once (filter a b c) (filter {arms = arms'} {vs = ws'} a' b' c') =
      let first = variant_once a a' in
      let second = arms_once b (subst (λ ts. Arms m ts arms' ws') (sym first.1) b') in
      last_once first.0 second.0 second.1 c c'

more_patterns_once : {so_far all others : List Variant} {ts us vs : List Terminal} → MorePatterns so_far ts all us → MorePatterns so_far ts others vs → (all ≡ others) × (us ≡ vs)
more_patterns_once last_pattern last_pattern = (refl, refl)
more_patterns_once {so_far} {others} {vs} (more_patterns a d) (more_patterns b k) =
    let first = variant_once a b in
    more_patterns_once d (along (λ x ts. MorePatterns (append so_far x) ts others vs) first.0 first.1 k)

patterns_once : {all others : List Variant} {ts us vs : List Terminal} → Patterns ts all us → Patterns ts others vs → (all ≡ others) × (us ≡ vs)
patterns_once {others} {vs} (patterns a d) (patterns b k) =
    let first = variant_once a b in
    more_patterns_once d (along (λ x ts. MorePatterns (x ∷ []) ts others vs) first.0 first.1 k)

module _ {F : Type 0 → Type 0} (m : Measuring F) where
  -- what follows a part
  posts_front : {p q : F NetExpr} {at : ℕ} {us vs : List Terminal} → Posts m p (Keyword If at ∷ us) q vs → net_rank vs < 3 → ⊥
  posts_front bare p = omega arith

  serial_front : {so_far : Option (ℕ × F (List NetExpr))} {p s : F NetExpr} {us vs : List Terminal} → MoreSerial m so_far p us s vs → net_rank vs < 2 → net_rank us < 3
  serial_front last p = omega arith
  serial_front (dots a d) p = omega arith

  branches_front : {so_far : Option (Bool × ℕ × F (List NetExpr))} {s n : F NetExpr} {us vs : List Terminal} → MoreBranches m so_far s us n vs → net_rank vs < 1 → net_rank us < 2
  branches_front final p = omega arith
  branches_front (branch {at} {sym = s} {ts} is on a d) p = let r : net_rank (Symbol s at ∷ ts) ≡ 1 = ap (symbol_link s) is in omega arith

  mutual
    atom_once : {n o : F NetExpr} {ts us vs : List Terminal} → Atom m ts n us → Atom m ts o vs → (n ≡ o) × (us ≡ vs)
    atom_once name name = (refl, refl)
    atom_once identity identity = (refl, refl)
    atom_once identity (filtered (filter v t k)) = elim v [ ]
    atom_once (filtered (filter v t k)) identity = elim v [ ]
    atom_once (filtered d) (filtered k) = filter_once m d k
    atom_once (sync {at} d) (sync k) = let first = patterns_once d k in (ap (λ all. m.leaf (sync_at at all)) first.0, first.1)
    atom_once (parens d) (parens k) = let first = network_once d k (omega arith) (omega arith) in (ap m.parens first.0, ap behind first.1)

    post_once : {n o : F NetExpr} {ts us vs : List Terminal} → Post m ts n us → Post m ts o vs → net_rank us < 3 → net_rank vs < 3 → (n ≡ o) × (us ≡ vs)
    post_once {o} {vs} (post a d) (post b k) p q =
        let first = atom_once a b in
        posts_once d (along (λ x ts. Posts m x ts o vs) first.0 first.1 k) p q

    posts_once : {n o r : F NetExpr} {ts us vs : List Terminal} → Posts m r ts n us → Posts m r ts o vs → net_rank us < 3 → net_rank vs < 3 → (n ≡ o) × (us ≡ vs)
    posts_once bare bare p q = (refl, refl)
    posts_once bare (star {at} {s} {ts} is v k) p q = let r : net_rank (Symbol s at ∷ ts) ≡ 3 = ap (symbol_link s) is in absurd (omega arith)
    posts_once bare (guarded_star {at} {s = s} {ts} is v g k) p q = let r : net_rank (Symbol s at ∷ ts) ≡ 3 = ap (symbol_link s) is in absurd (omega arith)
    posts_once bare (split {at} {s} {us = ts} is k) p q = let r = ap (symbol_link s) is in absurd (omega arith)
    posts_once bare (spread_split {s = s} is k) p q = let r = ap (symbol_link s) is in absurd (omega arith)
    posts_once bare (placed {s = s} is k) p q = let r = ap (symbol_link s) is in absurd (omega arith)
    posts_once (star {at} {s} {ts} is v d) bare p q = let r : net_rank (Symbol s at ∷ ts) ≡ 3 = ap (symbol_link s) is in absurd (omega arith)
    posts_once (guarded_star {at} {s = s} {ts} is v g d) bare p q = let r : net_rank (Symbol s at ∷ ts) ≡ 3 = ap (symbol_link s) is in absurd (omega arith)
    posts_once (split {at} {s} {us = ts} is d) bare p q = let r = ap (symbol_link s) is in absurd (omega arith)
    posts_once (spread_split {s = s} is d) bare p q = let r = ap (symbol_link s) is in absurd (omega arith)
    posts_once (placed {s = s} is d) bare p q = let r = ap (symbol_link s) is in absurd (omega arith)
    posts_once {o} {r} {vs} (star {at} {det = det} is v d) (star {det = det'} is' w k) p q =
        let first = variant_once v w in
        let links : Some (link.Star det) ≡ Some (link.Star det') = sym is ∙ is' in
        let det_is : det ≡ det' = cc in
        posts_once d (along (λ x ts. Posts m x ts o vs) (λ i. with_star m (det_is i) at r (first.0 i)) first.1 k) p q
    posts_once {r} {us} (star {at} {det = det} {exit = exit} {q = n} is v d) (guarded_star is' w g k) p q =
        let first = variant_once v w in
        absurd (posts_front (subst (λ ts. Posts m (with_star m det at r exit) ts n us) first.1 d) p)
    posts_once {o} {r} {vs} (guarded_star is v g d) (star {at} {det = det'} {exit = exit'} is' w k) p q =
        let first = variant_once w v in
        absurd (posts_front (subst (λ ts. Posts m (with_star m det' at r exit') ts o vs) first.1 k) q)
    posts_once {o} {r} {vs} (guarded_star {at} {det = det} is v g d) (guarded_star {close = close'} {det = det'} {g = g'} {vs = ws'} is' w g_is k) p q =
        let first = variant_once v w in
        let inner : _ ≡ _ = ap (λ ts. behind (behind ts)) first.1 in
        let second = tag_expr_once m g (subst (λ ts. TagExpr m ts g' (Symbol CloseParen close' ∷ ws')) (sym inner) g_is) (omega arith) (omega arith) in
        let links : Some (link.Star det) ≡ Some (link.Star det') = sym is ∙ is' in
        let det_is : det ≡ det' = cc in
        posts_once d (along (λ x ts. Posts m x ts o vs) (λ i. with_guarded_star m (det_is i) at r (first.0 i) (second.0 i)) (ap behind second.1) k) p q
    posts_once (star is v d) (split is' k) p q = elim v [ ]
    posts_once (split is' k) (star is v d) p q = elim v [ ]
    posts_once (guarded_star is v g d) (split is' k) p q = elim v [ ]
    posts_once (split is' k) (guarded_star is v g d) p q = elim v [ ]
    posts_once (star is v d) (spread_split is' k) p q = elim v [ ]
    posts_once (spread_split is' k) (star is v d) p q = elim v [ ]
    posts_once (guarded_star is v g d) (spread_split is' k) p q = elim v [ ]
    posts_once (spread_split is' k) (guarded_star is v g d) p q = elim v [ ]
    posts_once (star is v d) (placed is' k) p q = elim v [ ]
    posts_once (placed is' k) (star is v d) p q = elim v [ ]
    posts_once (guarded_star is v g d) (placed is' k) p q = elim v [ ]
    posts_once (placed is' k) (guarded_star is v g d) p q = elim v [ ]
    posts_once {o} {r} {vs} (split {at} {det = det} {tag = word} {us = ws} is d) (split {det = det'} is' k) p q =
        let links : Some (link.Split det) ≡ Some (link.Split det') = sym is ∙ is' in
        let det_is : det' ≡ det = cc in
        posts_once d (subst (λ b. Posts m (with_split m b false at r word) ws o vs) det_is k) p q
    posts_once {o} {r} {vs} (spread_split {at} {det = det} {tag = word} {us = ws} is d) (spread_split {det = det'} is' k) p q =
        let links : Some (link.Split det) ≡ Some (link.Split det') = sym is ∙ is' in
        let det_is : det' ≡ det = cc in
        posts_once d (subst (λ b. Posts m (with_split m b true at r word) ws o vs) det_is k) p q
    posts_once (placed is d) (placed is' k) p q = posts_once d k p q

    serial_once : {n o : F NetExpr} {ts us vs : List Terminal} → Serial m ts n us → Serial m ts o vs → net_rank us < 2 → net_rank vs < 2 → (n ≡ o) × (us ≡ vs)
    serial_once {o} {vs} (serial a d) (serial b k) p q =
        let first = post_once a b (serial_front d p) (serial_front k q) in
        more_serial_once d (along (λ x ts. MoreSerial m None x ts o vs) first.0 first.1 k) p q

    more_serial_once : {so_far : Option (ℕ × F (List NetExpr))} {r n o : F NetExpr} {ts us vs : List Terminal} → MoreSerial m so_far r ts n us → MoreSerial m so_far r ts o vs → net_rank us < 2 → net_rank vs < 2 → (n ≡ o) × (us ≡ vs)
    more_serial_once last last p q = (refl, refl)
    more_serial_once last (dots b k) p q = absurd (omega arith)
    more_serial_once (dots a d) last p q = absurd (omega arith)
    more_serial_once {so_far} {r} {o} {vs} (dots {at} a d) (dots b k) p q =
        let first = post_once a b (serial_front d p) (serial_front k q) in
        more_serial_once d (along (λ x ts. MoreSerial m (chained m so_far at r) x ts o vs) first.0 first.1 k) p q

    pub network_once : {n o : F NetExpr} {ts us vs : List Terminal} → Network m ts n us → Network m ts o vs → net_rank us < 1 → net_rank vs < 1 → (n ≡ o) × (us ≡ vs)
    network_once {o} {vs} (network a d) (network b k) p q =
        let first = serial_once a b (branches_front d p) (branches_front k q) in
        more_branches_once d (along (λ x ts. MoreBranches m None x ts o vs) first.0 first.1 k) p q

    more_branches_once : {so_far : Option (Bool × ℕ × F (List NetExpr))} {r n o : F NetExpr} {ts us vs : List Terminal} → MoreBranches m so_far r ts n us → MoreBranches m so_far r ts o vs → net_rank us < 1 → net_rank vs < 1 → (n ≡ o) × (us ≡ vs)
    more_branches_once final final p q = (refl, refl)
    more_branches_once final (branch {at} {sym = s} {ts} is on b k) p q = let r : net_rank (Symbol s at ∷ ts) ≡ 1 = ap (symbol_link s) is in absurd (omega arith)
    more_branches_once (branch {at} {sym = s} {ts} is on a d) final p q = let r : net_rank (Symbol s at ∷ ts) ≡ 1 = ap (symbol_link s) is in absurd (omega arith)
    more_branches_once {so_far} {r} {o} {vs} (branch {at} {det = det} {q = e} is on a d) (branch {det = det'} {q = e'} is' on' b k) p q =
        let first = serial_once a b (branches_front d p) (branches_front k q) in
        let links : Some (link.Branch det) ≡ Some (link.Branch det') = sym is ∙ is' in
        let det_is : det ≡ det' = cc in
        let both : (det, e) ≡ (det', e') = λ i. (det_is i, first.0 i) in
        more_branches_once d (along (λ (x : Bool × F NetExpr) ts. MoreBranches m (branched m so_far x.0 at r) x.1 ts o vs) both first.1 k) p q
