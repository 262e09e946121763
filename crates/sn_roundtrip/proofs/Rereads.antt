-- Texts that are read as parts of a program again, and how like the first ones they are.
use Rattle.std.proofs.Common.{◌≡◌, ℕ, ◌+◌, ◌≤◌, max, List, map, refl, sym, ap, ◌∙◌, arith}
use Rattle.std.proofs.lemmas.List.{map-append}
use Rattle.sn_ast.specs.Measures.{measured}
use Rattle.sn_ast.specs.Rows.{append, with_part}
use Rattle.sn_ast.specs.declared.measure.Measured.{Measured}
use Rattle.sn_ast.specs.declared.terminal.Terminal.{Terminal}
use Rattle.sn_roundtrip.proofs.Spans.{Begin, End, Span}

-- What the terminals are read as, before any others.
pub record Reread {A : Type 0} (R : List Terminal → A → List Terminal → Type 0) (Good : A → Type 0) (says : List Terminal → List Terminal) : Type 0 where
  pub again : A
  pub reads : (us : List Terminal) → R (says us) again us
  pub good : Good again

abbrev pub reread : {A : Type 0} {R : List Terminal → A → List Terminal → Type 0} {Good : A → Type 0} {says : List Terminal → List Terminal} (again : A) →
    ((us : List Terminal) → R (says us) again us) → Good again → Reread R Good says
reread again reads good = record { again = again; reads = reads; good = good }

-- A text that is read so wherever it stands.
pub record Readable (b : Begin) (e : End) (text : List ℕ) {A : Type 0} (R : List Terminal → A → List Terminal → Type 0) (Good : A → Type 0) : Type 0 where
  pub span : Span b e text
  pub rereads : (p : ℕ) → Reread R Good (span.said p)

-- A text that is shown, in the form in which it is read.
pub record Shows (b : Begin) (e : End) (shown : List ℕ) {A : Type 0} (R : List Terminal → A → List Terminal → Type 0) (Good : A → Type 0) : Type 0 where
  pub text : List ℕ
  pub is : shown ≡ text
  pub reads : Readable b e text R Good

pub same_two : {A B C : Type 0} (f : A → B → C) {a c : A} {b d : B} → a ≡ c → b ≡ d → f a b ≡ f c d
same_two f x y = λ i. f (x i) (y i)

-- The part that is read again is the first one apart from places, as high, and has fewer parentheses open at once than
-- the first is high, or as many.
pub record Like {A : Type 0} (plain : A → A) (spare : ℕ) (part again : Measured A) : Type 0 where
  pub value : plain again.value ≡ plain part.value
  pub height : again.height ≡ part.height
  pub room : again.open_at_once + spare ≤ part.height

pub max_room : (a b s h k : ℕ) → a + s ≤ h → b + s ≤ k → max a b + s ≤ max h k
max_room a b s h k f g = grind (arith)

module _ {A : Type 0} (plain : A → A) where
  pub like_leaf : (a again : A) → plain again ≡ plain a → Like plain 0 (measured.leaf a) (measured.leaf again)
  like_leaf a again is = record { value = is; height = refl; room = omega arith }

  -- in counted parentheses
  pub like_parens : {part again : Measured A} → Like plain 1 part again → Like plain 0 part (measured.parens again)
  like_parens l = record { value = l.value; height = l.height; room = omega (arith, l.room) }

  pub like_loose : {part again : Measured A} → Like plain 1 part again → Like plain 0 part again
  like_loose l = record { value = l.value; height = l.height; room = omega (arith, l.room) }

-- a part in parentheses is read again as the part itself
pub like_inside : {A : Type 0} (plain : A → A) {spare : ℕ} {part again : Measured A} → Like plain spare part again → Like plain spare (measured.parens part) again
like_inside plain l = record { value = l.value; height = l.height; room = l.room }

-- a node over one part, over two and three
module _ {A B : Type 0} (plain_a : A → A) (plain : B → B) (g : A → B) where
  pub like_each : {part again : Measured A} {spare : ℕ} (f h : A → B) → ((a : A) → plain (f a) ≡ g (plain_a a)) → ((a : A) → plain (h a) ≡ g (plain_a a)) →
      Like plain_a spare part again → Like plain spare (measured.each f part) (measured.each h again)
  like_each {part} {again} f h law again_law l = record { value = again_law again.value ∙ ap g l.value ∙ sym (law part.value); height = l.height; room = l.room }

pub like_raise : {A : Type 0} (plain : A → A) {part again : Measured A} → Like plain 0 part again → Like plain 1 (measured.raise part) (measured.raise again)
like_raise plain l = record { value = l.value; height = ap (λ n. n + 1) l.height; room = omega (arith, l.room) }

module _ {A B C : Type 0} (plain_a : A → A) (plain_b : B → B) (plain : C → C) (g : A → B → C) where
  pub like_join : {p again_p : Measured A} {q again_q : Measured B} (f h : A → B → C) → ((a : A) (b : B) → plain (f a b) ≡ g (plain_a a) (plain_b b)) →
      ((a : A) (b : B) → plain (h a b) ≡ g (plain_a a) (plain_b b)) →
      Like plain_a 0 p again_p → Like plain_b 0 q again_q → Like plain 0 (measured.join f p q) (measured.join h again_p again_q)
  like_join {p} {again_p} {q} {again_q} f h law again_law l m = record {
    value = again_law again_p.value again_q.value ∙ (λ i. g (l.value i) (m.value i)) ∙ sym (law p.value q.value);
    height = λ i. max (l.height i) (m.height i);
    room = max_room again_p.open_at_once again_q.open_at_once 0 p.height q.height l.room m.room;
  }

module _ {A B C D : Type 0} (plain_a : A → A) (plain_b : B → B) (plain_c : C → C) (plain : D → D) (g : A → B → C → D) where
  pub like_three : {p again_p : Measured A} {q again_q : Measured B} {r again_r : Measured C} (f h : A → B → C → D) →
      ((a : A) (b : B) (c : C) → plain (f a b c) ≡ g (plain_a a) (plain_b b) (plain_c c)) →
      ((a : A) (b : B) (c : C) → plain (h a b c) ≡ g (plain_a a) (plain_b b) (plain_c c)) →
      Like plain_a 0 p again_p → Like plain_b 0 q again_q → Like plain_c 0 r again_r →
      Like plain 0 (measured.join (λ k z. k z) (measured.join f p q) r) (measured.join (λ k z. k z) (measured.join h again_p again_q) again_r)
  like_three {p} {again_p} {q} {again_q} {r} {again_r} f h law again_law l m n = record {
    value = again_law again_p.value again_q.value again_r.value ∙ (λ i. g (l.value i) (m.value i) (n.value i)) ∙ sym (law p.value q.value r.value);
    height = λ i. max (max (l.height i) (m.height i)) (n.height i);
    room = max_room (max again_p.open_at_once again_q.open_at_once) again_r.open_at_once 0 (max p.height q.height) r.height
        (max_room again_p.open_at_once again_q.open_at_once 0 p.height q.height l.room m.room) n.room;
  }

-- one more part in a row
pub like_row : {A : Type 0} (plain : A → A) {row again_row : Measured (List A)} {p again_p : Measured A} → Like (map plain) 0 row again_row → Like plain 0 p again_p →
    Like (map plain) 0 (with_part measured row p) (with_part measured again_row again_p)
like_row plain l m = like_join (map plain) plain (map plain) append append append (λ row a. map-append plain row _) (λ row a. map-append plain row _) l m
