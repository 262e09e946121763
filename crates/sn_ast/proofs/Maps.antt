-- A map from what one way of putting parts together makes to what another makes, and what it makes of rows and nodes.
use Rattle.std.proofs.Common.{List, ◌≡◌, refl, ◌∙◌, ap}
use Rattle.sn_ast.specs.Measures.{Measuring}
use Rattle.sn_ast.specs.Rows.{append, with_part}

pub record Map {F G : Type 0 → Type 0} (m : Measuring F) (n : Measuring G) : Type 1 where
  pub map : {A : Type 0} → F A → G A
  pub of_leaf : {A : Type 0} (a : A) → map (m.leaf a) ≡ n.leaf a
  pub of_each : {A B : Type 0} (f : A → B) (p : F A) → map (m.each f p) ≡ n.each f (map p)
  pub of_join : {A B C : Type 0} (f : A → B → C) (p : F A) (q : F B) → map (m.join f p q) ≡ n.join f (map p) (map q)
  pub of_raise : {A : Type 0} (p : F A) → map (m.raise p) ≡ n.raise (map p)
  pub of_parens : {A : Type 0} (p : F A) → map (m.parens p) ≡ n.parens (map p)

-- the same where the parts are mapped to given ones
module _ {F G : Type 0 → Type 0} (m : Measuring F) (n : Measuring G) (h : Map m n) where
  pub each_of : {A B : Type 0} {p : F A} {x : G A} (f : A → B) → h.map p ≡ x → h.map (m.each f p) ≡ n.each f x
  each_of f e = h.of_each f _ ∙ ap (n.each f) e

  pub join_of : {A B C : Type 0} {p : F A} {q : F B} {x : G A} {y : G B} (f : A → B → C) → h.map p ≡ x → h.map q ≡ y →
      h.map (m.join f p q) ≡ n.join f x y
  join_of f d e = h.of_join f _ _ ∙ rw (d, e) refl

  pub row_of : {A : Type 0} {p : F (List A)} {e : F A} {x : G (List A)} {y : G A} → h.map p ≡ x → h.map e ≡ y →
      h.map (with_part m p e) ≡ with_part n x y
  row_of s t = join_of append s t

  pub parens_of : {A : Type 0} {p : F A} {x : G A} → h.map p ≡ x → h.map (m.parens p) ≡ n.parens x
  parens_of e = h.of_parens _ ∙ ap n.parens e

  -- a node over one part, and over two and three
  pub node_of : {A B : Type 0} {p : F A} {x : G A} (f : A → B) → h.map p ≡ x → h.map (m.raise (m.each f p)) ≡ n.raise (n.each f x)
  node_of f e = h.of_raise _ ∙ ap n.raise (each_of f e)

  pub pair_of : {A B C : Type 0} {p : F A} {q : F B} {x : G A} {y : G B} (f : A → B → C) → h.map p ≡ x → h.map q ≡ y →
      h.map (m.raise (m.join f p q)) ≡ n.raise (n.join f x y)
  pair_of f d e = h.of_raise _ ∙ ap n.raise (join_of f d e)

  pub triple_of : {A B C D : Type 0} {p : F A} {q : F B} {r : F C} {x : G A} {y : G B} {z : G C} (f : A → B → C → D) →
      h.map p ≡ x → h.map q ≡ y → h.map r ≡ z →
      h.map (m.raise (m.join (λ g c. g c) (m.join f p q) r)) ≡ n.raise (n.join (λ g c. g c) (n.join f x y) z)
  triple_of f c d e = h.of_raise _ ∙ ap n.raise (join_of (λ g c. g c) (join_of f c d) e)
