-- A map of parts carries the grammar of networks both ways.
use Rattle.std.proofs.Common.{ℕ, Bool, true, false, List, [], ◌≡◌, Option, Some, None, refl, ◌∙◌, ap}
use Rattle.sn_ast.proofs.Maps.{Map, each_of, join_of, row_of, pair_of, node_of, parens_of}
use Rattle.sn_ast.proofs.TransferTags.{to_tag_expr, from_tag_expr}
use Rattle.sn_ast.specs.Measures.{Measuring}
use Rattle.sn_ast.specs.Networks.{computed_item, arm_of, filter_at, serial_at, choice_at, star_at, split_at, placed_at, with_star, with_guarded_star, with_split, with_place, serial_of, chained, choice_with, branched, GoesOn}
use Rattle.sn_ast.specs.Networks.{Item, same, renamed, computed, MoreItems, last_item, more_items, Items, no_items, items, Template, template, MoreTemplates, last_template, more_templates, Filter, filter}
use Rattle.sn_ast.specs.Networks.{ArmTemplates, arm_ends, arm_goes_on, Arm, arm, MoreArms, last_arm, more_arms, Arms, no_arms, arms, LastTemplates, last_templates}
use Rattle.sn_ast.specs.Networks.{Atom, name, identity, filtered, sync, parens, Post, post, Posts, bare, star, guarded_star, split, spread_split, placed, Serial, serial, MoreSerial, last, dots, Network, network, MoreBranches, final, branch}
use Rattle.sn_ast.specs.Rows.{no_parts, with_part}
use Rattle.sn_ast.specs.declared.label.Variant.{Variant}
use Rattle.sn_ast.specs.declared.network.ArmAt.{ArmAt}
use Rattle.sn_ast.specs.declared.network.ItemAt.{ItemAt}
use Rattle.sn_ast.specs.declared.network.NetExpr.{NetExpr}
use Rattle.sn_ast.specs.declared.network.TemplateAt.{TemplateAt}
use Rattle.sn_ast.specs.declared.terminal.Terminal.{Terminal}

module _ {F G : Type 0 → Type 0} (m : Measuring F) (n : Measuring G) (h : Map m n) where
  to_item : {i : F ItemAt} {ts us : List Terminal} → Item m ts i us → Item n ts (h.map i) us
  to_item (same i) = rw h.of_leaf (same i)
  to_item renamed = rw h.of_leaf renamed
  to_item (computed a) = rw h.of_each (computed (to_tag_expr m n h a))

  to_more_items : {so_far all : F (List ItemAt)} {ts us : List Terminal} → MoreItems m so_far ts all us → MoreItems n (h.map so_far) ts (h.map all) us
  to_more_items last_item = last_item
  to_more_items (more_items a d) = more_items (to_item a) (rw h.of_join at (to_more_items d))

  to_items : {all : F (List ItemAt)} {ts us : List Terminal} → Items m ts all us → Items n ts (h.map all) us
  to_items no_items = rw h.of_leaf no_items
  to_items (items a d) = items (to_item a) (rw (h.of_join, h.of_leaf) at (to_more_items d))

  to_template : {t : F TemplateAt} {ts us : List Terminal} → Template m ts t us → Template n ts (h.map t) us
  to_template (template d) = rw h.of_each (template (to_items d))

  to_more_templates : {so_far all : F (List TemplateAt)} {ts us : List Terminal} →
      MoreTemplates m so_far ts all us → MoreTemplates n (h.map so_far) ts (h.map all) us
  to_more_templates last_template = last_template
  to_more_templates (more_templates a d) = more_templates (to_template a) (rw h.of_join at (to_more_templates d))

  to_arm_templates : {so_far all : F (List TemplateAt)} {ts us : List Terminal} →
      ArmTemplates m so_far ts all us → ArmTemplates n (h.map so_far) ts (h.map all) us
  to_arm_templates arm_ends = arm_ends
  to_arm_templates (arm_goes_on a d) = arm_goes_on (to_template a) (rw h.of_join at (to_arm_templates d))

  to_arm : {a : F ArmAt} {ts us : List Terminal} → Arm m ts a us → Arm n ts (h.map a) us
  to_arm (arm g a d) = rw h.of_join (arm (to_tag_expr m n h g) (to_template a) (rw (h.of_join, h.of_leaf) at (to_arm_templates d)))

  to_more_arms : {so_far all : F (List ArmAt)} {ts us : List Terminal} → MoreArms m so_far ts all us → MoreArms n (h.map so_far) ts (h.map all) us
  to_more_arms last_arm = last_arm
  to_more_arms (more_arms a d) = more_arms (to_arm a) (rw h.of_join at (to_more_arms d))

  to_arms : {all : F (List ArmAt)} {ts us : List Terminal} → Arms m ts all us → Arms n ts (h.map all) us
  to_arms no_arms = rw h.of_leaf no_arms
  to_arms (arms a d) = arms (to_arm a) (rw (h.of_join, h.of_leaf) at (to_more_arms d))

  to_last_templates : {at : ℕ} {pattern : Variant} {before : F (List ArmAt)} {e : F NetExpr} {ts us : List Terminal} →
      LastTemplates m at pattern before ts e us → LastTemplates n at pattern (h.map before) ts (h.map e) us
  to_last_templates (last_templates a d) = rw h.of_join (last_templates (to_template a) (rw (h.of_join, h.of_leaf) at (to_more_templates d)))

  pub to_filter : {at : ℕ} {e : F NetExpr} {ts us : List Terminal} → Filter m at ts e us → Filter n at ts (h.map e) us
  to_filter (filter v a d) = filter v (to_arms a) (to_last_templates d)

  from_item : {y : G ItemAt} {ts us : List Terminal} → Item n ts y us → (i : F ItemAt) × Item m ts i us × (h.map i ≡ y)
  from_item (same i) = (m.leaf _, same i, h.of_leaf _)
  from_item renamed = (m.leaf _, renamed, h.of_leaf _)
  from_item (computed {tag} a) =
      let p = from_tag_expr m n h a in (m.each (computed_item tag) p.0, computed p.1, each_of m n h (computed_item tag) p.2)

  from_more_items : {x y : G (List ItemAt)} {ts us : List Terminal} → MoreItems n x ts y us →
      (so_far : F (List ItemAt)) → h.map so_far ≡ x → (all : F (List ItemAt)) × MoreItems m so_far ts all us × (h.map all ≡ y)
  from_more_items last_item so_far s = (so_far, last_item, s)
  from_more_items (more_items a d) so_far s =
      let p = from_item a in
      let r = from_more_items d (with_part m so_far p.0) (row_of m n h s p.2) in
      (r.0, more_items p.1 r.1, r.2)

  from_items : {y : G (List ItemAt)} {ts us : List Terminal} → Items n ts y us → (all : F (List ItemAt)) × Items m ts all us × (h.map all ≡ y)
  from_items no_items = (no_parts m, no_items, h.of_leaf [])
  from_items (items a d) =
      let p = from_item a in
      let r = from_more_items d (with_part m (no_parts m) p.0) (row_of m n h (h.of_leaf []) p.2) in
      (r.0, items p.1 r.1, r.2)

  from_template : {y : G TemplateAt} {ts us : List Terminal} → Template n ts y us → (t : F TemplateAt) × Template m ts t us × (h.map t ≡ y)
  from_template (template {at} d) =
      let p = from_items d in
      let f : List ItemAt → TemplateAt = λ is. record { items = is; at = at } in
      (m.each f p.0, template p.1, each_of m n h f p.2)

  from_more_templates : {x y : G (List TemplateAt)} {ts us : List Terminal} → MoreTemplates n x ts y us →
      (so_far : F (List TemplateAt)) → h.map so_far ≡ x → (all : F (List TemplateAt)) × MoreTemplates m so_far ts all us × (h.map all ≡ y)
  from_more_templates last_template so_far s = (so_far, last_template, s)
  from_more_templates (more_templates a d) so_far s =
      let p = from_template a in
      let r = from_more_templates d (with_part m so_far p.0) (row_of m n h s p.2) in
      (r.0, more_templates p.1 r.1, r.2)

  from_arm_templates : {x y : G (List TemplateAt)} {ts us : List Terminal} → ArmTemplates n x ts y us →
      (so_far : F (List TemplateAt)) → h.map so_far ≡ x → (all : F (List TemplateAt)) × ArmTemplates m so_far ts all us × (h.map all ≡ y)
  from_arm_templates arm_ends so_far s = (so_far, arm_ends, s)
  from_arm_templates (arm_goes_on a d) so_far s =
      let p = from_template a in
      let r = from_arm_templates d (with_part m so_far p.0) (row_of m n h s p.2) in
      (r.0, arm_goes_on p.1 r.1, r.2)

  from_arm : {y : G ArmAt} {ts us : List Terminal} → Arm n ts y us → (a : F ArmAt) × Arm m ts a us × (h.map a ≡ y)
  from_arm (arm g a d) =
      let q = from_tag_expr m n h g in
      let p = from_template a in
      let r = from_arm_templates d (with_part m (no_parts m) p.0) (row_of m n h (h.of_leaf []) p.2) in
      (m.join arm_of q.0 r.0, arm q.1 p.1 r.1, join_of m n h arm_of q.2 r.2)

  from_more_arms : {x y : G (List ArmAt)} {ts us : List Terminal} → MoreArms n x ts y us →
      (so_far : F (List ArmAt)) → h.map so_far ≡ x → (all : F (List ArmAt)) × MoreArms m so_far ts all us × (h.map all ≡ y)
  from_more_arms last_arm so_far s = (so_far, last_arm, s)
  from_more_arms (more_arms a d) so_far s =
      let p = from_arm a in
      let r = from_more_arms d (with_part m so_far p.0) (row_of m n h s p.2) in
      (r.0, more_arms p.1 r.1, r.2)

  from_arms : {y : G (List ArmAt)} {ts us : List Terminal} → Arms n ts y us → (all : F (List ArmAt)) × Arms m ts all us × (h.map all ≡ y)
  from_arms no_arms = (no_parts m, no_arms, h.of_leaf [])
  from_arms (arms a d) =
      let p = from_arm a in
      let r = from_more_arms d (with_part m (no_parts m) p.0) (row_of m n h (h.of_leaf []) p.2) in
      (r.0, arms p.1 r.1, r.2)

  from_last_templates : {at : ℕ} {pattern : Variant} {x : G (List ArmAt)} {y : G NetExpr} {ts us : List Terminal} → LastTemplates n at pattern x ts y us →
      (before : F (List ArmAt)) → h.map before ≡ x → (e : F NetExpr) × LastTemplates m at pattern before ts e us × (h.map e ≡ y)
  from_last_templates {at} {pattern} (last_templates a d) before s =
      let p = from_template a in
      let r = from_more_templates d (with_part m (no_parts m) p.0) (row_of m n h (h.of_leaf []) p.2) in
      (m.join (filter_at at pattern) before r.0, last_templates p.1 r.1, join_of m n h (filter_at at pattern) s r.2)

  pub from_filter : {at : ℕ} {y : G NetExpr} {ts us : List Terminal} → Filter n at ts y us → (e : F NetExpr) × Filter m at ts e us × (h.map e ≡ y)
  from_filter (filter v a d) = let p = from_arms a in let r = from_last_templates d p.0 p.2 in (r.0, filter v p.1 r.1, r.2)

  -- the parts of a serial list so far
  abbrev chain_map : Option (ℕ × F (List NetExpr)) → Option (ℕ × G (List NetExpr))
  chain_map None = None
  chain_map (Some x) = Some (x.0, h.map x.1)

  -- the branches of a choice so far
  abbrev choice_map : Option (Bool × ℕ × F (List NetExpr)) → Option (Bool × ℕ × G (List NetExpr))
  choice_map None = None
  choice_map (Some x) = Some (x.0, x.1, h.map x.2)

  of_serial : (o : Option (ℕ × F (List NetExpr))) (p : F NetExpr) → h.map (serial_of m o p) ≡ serial_of n (chain_map o) (h.map p)
  of_serial None p = refl
  of_serial (Some x) p = node_of m n h (serial_at x.0) (row_of m n h refl refl)

  of_chained : (o : Option (ℕ × F (List NetExpr))) (at : ℕ) (p : F NetExpr) → chain_map (chained m o at p) ≡ chained n (chain_map o) at (h.map p)
  of_chained None at p = ap (λ z. Some (at, z)) (row_of m n h (h.of_leaf []) refl)
  of_chained (Some x) at p = ap (λ z. Some (x.0, z)) (row_of m n h refl refl)

  of_choice : (o : Option (Bool × ℕ × F (List NetExpr))) (p : F NetExpr) → h.map (choice_with m o p) ≡ choice_with n (choice_map o) (h.map p)
  of_choice None p = refl
  of_choice (Some x) p = node_of m n h (choice_at x.0 x.1) (row_of m n h refl refl)

  of_branched : (o : Option (Bool × ℕ × F (List NetExpr))) (det : Bool) (at : ℕ) (p : F NetExpr) →
      choice_map (branched m o det at p) ≡ branched n (choice_map o) det at (h.map p)
  of_branched None det at p = ap (λ z. Some (det, at, z)) (row_of m n h (h.of_leaf []) refl)
  of_branched (Some x) det at p = ap (λ z. Some (x.0, x.1, z)) (row_of m n h refl refl)

  to_goes_on : (o : Option (Bool × ℕ × F (List NetExpr))) (det : Bool) → GoesOn o det → GoesOn (choice_map o) det
  to_goes_on None det g = g
  to_goes_on (Some x) det g = g

  from_goes_on : (o : Option (Bool × ℕ × F (List NetExpr))) (det : Bool) → GoesOn (choice_map o) det → GoesOn o det
  from_goes_on None det g = g
  from_goes_on (Some x) det g = g

  mutual
    to_atom : {e : F NetExpr} {ts us : List Terminal} → Atom m ts e us → Atom n ts (h.map e) us
    to_atom name = rw h.of_leaf name
    to_atom identity = rw h.of_leaf identity
    to_atom (filtered d) = filtered (to_filter d)
    to_atom (sync d) = rw h.of_leaf (sync d)
    to_atom (parens d) = rw h.of_parens (parens (to_network d))

    to_post : {e : F NetExpr} {ts us : List Terminal} → Post m ts e us → Post n ts (h.map e) us
    to_post (post a d) = post (to_atom a) (to_posts d)

    to_posts : {p q : F NetExpr} {ts us : List Terminal} → Posts m p ts q us → Posts n (h.map p) ts (h.map q) us
    to_posts bare = bare
    to_posts (star i v d) = star i v (rw (h.of_raise, h.of_each) at (to_posts d))
    to_posts (guarded_star i v g d) = guarded_star i v (to_tag_expr m n h g) (rw (h.of_raise, h.of_join) at (to_posts d))
    to_posts (split i d) = split i (rw (h.of_raise, h.of_each) at (to_posts d))
    to_posts (spread_split i d) = spread_split i (rw (h.of_raise, h.of_each) at (to_posts d))
    to_posts (placed i d) = placed i (rw (h.of_raise, h.of_each) at (to_posts d))

    to_serial : {e : F NetExpr} {ts us : List Terminal} → Serial m ts e us → Serial n ts (h.map e) us
    to_serial (serial a d) = serial (to_post a) (to_more_serial d)

    to_more_serial : {o : Option (ℕ × F (List NetExpr))} {p s : F NetExpr} {ts us : List Terminal} →
        MoreSerial m o p ts s us → MoreSerial n (chain_map o) (h.map p) ts (h.map s) us
    to_more_serial (last {so_far = o} {p}) = rw (of_serial o p) last
    to_more_serial (dots {at} {so_far = o} {p} a d) = dots (to_post a) (rw (of_chained o at p) at (to_more_serial d))

    pub to_network : {e : F NetExpr} {ts us : List Terminal} → Network m ts e us → Network n ts (h.map e) us
    to_network (network a d) = network (to_serial a) (to_more_branches d)

    to_more_branches : {o : Option (Bool × ℕ × F (List NetExpr))} {p s : F NetExpr} {ts us : List Terminal} →
        MoreBranches m o p ts s us → MoreBranches n (choice_map o) (h.map p) ts (h.map s) us
    to_more_branches (final {so_far = o} {s}) = rw (of_choice o s) final
    to_more_branches (branch {at} {det} {so_far = o} {s} i g a d) =
        branch i (to_goes_on o det g) (to_serial a) (rw (of_branched o det at s) at (to_more_branches d))

  mutual
    from_atom : {y : G NetExpr} {ts us : List Terminal} → Atom n ts y us → (e : F NetExpr) × Atom m ts e us × (h.map e ≡ y)
    from_atom name = (m.leaf _, name, h.of_leaf _)
    from_atom identity = (m.leaf _, identity, h.of_leaf _)
    from_atom (filtered d) = let p = from_filter d in (p.0, filtered p.1, p.2)
    from_atom (sync d) = (m.leaf _, sync d, h.of_leaf _)
    from_atom (parens d) = let p = from_network d in (m.parens p.0, parens p.1, parens_of m n h p.2)

    from_post : {y : G NetExpr} {ts us : List Terminal} → Post n ts y us → (e : F NetExpr) × Post m ts e us × (h.map e ≡ y)
    from_post (post a d) = let p = from_atom a in let r = from_posts d p.0 p.2 in (r.0, post p.1 r.1, r.2)

    from_posts : {x y : G NetExpr} {ts us : List Terminal} → Posts n x ts y us →
        (p : F NetExpr) → h.map p ≡ x → (q : F NetExpr) × Posts m p ts q us × (h.map q ≡ y)
    from_posts bare p s = (p, bare, s)
    from_posts (star {at} {det} {exit} i v d) p s =
        let r = from_posts d (with_star m det at p exit) (node_of m n h (star_at det at exit None) s) in
        (r.0, star i v r.1, r.2)
    from_posts (guarded_star {at} {det} {exit} i v a d) p s =
        let g = from_tag_expr m n h a in
        let r = from_posts d (with_guarded_star m det at p exit g.0) (pair_of m n h (λ b c. star_at det at exit (Some c) b) s g.2) in
        (r.0, guarded_star i v g.1 r.1, r.2)
    from_posts (split {at} {det} {tag} i d) p s =
        let r = from_posts d (with_split m det false at p tag) (node_of m n h (split_at det false at tag) s) in
        (r.0, split i r.1, r.2)
    from_posts (spread_split {at} {det} {tag} i d) p s =
        let r = from_posts d (with_split m det true at p tag) (node_of m n h (split_at det true at tag) s) in
        (r.0, spread_split i r.1, r.2)
    from_posts (placed {at} {node} i d) p s =
        let r = from_posts d (with_place m at p node) (node_of m n h (placed_at at node) s) in
        (r.0, placed i r.1, r.2)

    from_serial : {y : G NetExpr} {ts us : List Terminal} → Serial n ts y us → (e : F NetExpr) × Serial m ts e us × (h.map e ≡ y)
    from_serial (serial a d) = let p = from_post a in let r = from_more_serial d None p.0 refl p.2 in (r.0, serial p.1 r.1, r.2)

    from_more_serial : {v : Option (ℕ × G (List NetExpr))} {x y : G NetExpr} {ts us : List Terminal} → MoreSerial n v x ts y us →
        (o : Option (ℕ × F (List NetExpr))) (p : F NetExpr) → chain_map o ≡ v → h.map p ≡ x →
        (e : F NetExpr) × MoreSerial m o p ts e us × (h.map e ≡ y)
    from_more_serial last o p s t = (serial_of m o p, last, of_serial o p ∙ rw (s, t) refl)
    from_more_serial (dots {at} a d) o p s t =
        let q = from_post a in
        let r = from_more_serial d (chained m o at p) q.0 (of_chained o at p ∙ rw (s, t) refl) q.2 in
        (r.0, dots q.1 r.1, r.2)

    pub from_network : {y : G NetExpr} {ts us : List Terminal} → Network n ts y us → (e : F NetExpr) × Network m ts e us × (h.map e ≡ y)
    from_network (network a d) = let p = from_serial a in let r = from_more_branches d None p.0 refl p.2 in (r.0, network p.1 r.1, r.2)

    from_more_branches : {v : Option (Bool × ℕ × G (List NetExpr))} {x y : G NetExpr} {ts us : List Terminal} → MoreBranches n v x ts y us →
        (o : Option (Bool × ℕ × F (List NetExpr))) (p : F NetExpr) → choice_map o ≡ v → h.map p ≡ x →
        (e : F NetExpr) × MoreBranches m o p ts e us × (h.map e ≡ y)
    from_more_branches final o p s t = (choice_with m o p, final, of_choice o p ∙ rw (s, t) refl)
    from_more_branches (branch {at} {det} i g a d) o p s t =
        let q = from_serial a in
        let r = from_more_branches d (branched m o det at p) q.0 (of_branched o det at p ∙ rw (s, t) refl) q.2 in
        (r.0, branch i (from_goes_on o det (rw s g)) q.1 r.1, r.2)
