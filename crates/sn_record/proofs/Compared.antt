-- Lists that are compared one element at a time.
use Rattle.std.proofs.Common.{arith, ◌≡◌, ℕ, ◌+◌, ◌<◌, List, take, length, slice_index_or, sym, ◌∙◌, ap}
use Rattle.std.proofs.Common.{[]}
use Rattle.sn_record.specs.declared.value.Value.{Value}
use Rattle.sn_record.specs.declared.value.Value.TheOpen.{Value-F}
use Rattle.sn_record.specs.declared.value.Value.TheVariants.{List as Many, rolls-List}
use Rattle.sn_record.specs.declared.value.Value.TheViews.{out-Value, out-roll-Value}
use Rattle.std.proofs.lemmas.List.{get_or_read, take_all, take_more_same}

module _ {X : Type 0} where
  -- the elements at one index of two equal lists
  pub met : (xs ys : List X) (i : ℕ) (x y : X) → x ≡ slice_index_or xs i x → y ≡ slice_index_or ys i y → i < length xs → xs ≡ ys → x ≡ y
  met xs ys i x y at_x at_y within e = get_or_read xs i x within at_x y ∙ ap (λ l. slice_index_or l i y) e ∙ sym at_y

  pub one_more : (xs ys : List X) (i : ℕ) (x y : X) → x ≡ slice_index_or xs i x → y ≡ slice_index_or ys i y → i < length xs → i < length ys → x ≡ y
      → take i xs ≡ take i ys → take (i + 1) xs ≡ take (i + 1) ys
  one_more xs ys i x y at_x at_y within inside e so_far =
      take_more_same xs ys i y within inside so_far (sym (get_or_read xs i x within at_x y) ∙ e ∙ at_y)

  -- all of them are the same
  pub in_all : (xs ys : List X) (i : ℕ) → i ≡ length xs → length xs ≡ length ys → take i xs ≡ take i ys → xs ≡ ys
  in_all xs ys i long same e = sym (take_all i xs (omega arith)) ∙ e ∙ take_all i ys (omega arith)

abbrev elements_of : Value-F Value → List Value
elements_of (Value-F.Int n) = []
elements_of (Value-F.Text t) = []
elements_of (Value-F.List vs) = vs

-- the elements of a list value
abbrev pub elements : Value → List Value
elements v = elements_of (out-Value v)

pub elements-List : (vs : List Value) → elements (Many vs) ≡ vs
elements-List vs = ap elements (sym (rolls-List vs)) ∙ ap elements_of (out-roll-Value (Value-F.List vs))

-- equal list values have equal elements
pub same_elements : (a b : Value) (xs ys : List Value) → a ≡ Many xs → b ≡ Many ys → a ≡ b → xs ≡ ys
same_elements a b xs ys at_a at_b e = sym (elements-List xs) ∙ ap elements (sym at_a ∙ e ∙ at_b) ∙ elements-List ys
