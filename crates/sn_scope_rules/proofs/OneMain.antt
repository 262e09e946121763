-- Where no name is declared twice, one net at most is the program's.
use Rattle.std.proofs.Common.{◌≡◌, ℕ, zero, suc, ◌<◌, ◌+◌, ◌==◌, ◌&&◌, ◌||◌, Bool, true, false, List, [], ◌∷◌, ◌++◌, length, Some, slice_get, bytes_eq, codes, ◌⊎◌, inl, inr, refl, sym, ap, ◌∙◌, subst, arith}
use Rattle.std.proofs.lemmas.List.Folds.{list_any-append}
use Rattle.std.proofs.lemmas.Option.{none-some, same_Some}
use Rattle.sn_ast.specs.declared.declaration.Decl.{Decl}
use Rattle.sn_ast.specs.declared.declaration.Decl.TheOpen.{Decl-F}
use Rattle.sn_ast.specs.declared.declaration.Decl.TheViews.{out-Decl, out-NetDecl}
use Rattle.sn_ast.specs.declared.declaration.NetDecl.{NetDecl}
use Rattle.sn_names.proofs.NamesLaws.{same_text}
use Rattle.sn_scope_rules.specs.Claims.{Signed, SignedIn, is_main}
use Rattle.sn_scope_rules.specs.Claims.SignedIn.{no_more, no_net, signed_net, unsigned_net}
use Rattle.sn_scope_rules.specs.Standing.{StandsIn}
use Rattle.sn_scope_rules.specs.Standing.StandsIn.{here, later}
use Rattle.sn_scope_rules.specs.Visible.{Around, has_name, is_declared, name_in, name_of}
use Rattle.sn_scope_rules.proofs.Declaring.{RowFine, fine_first, fine_name, fine_rest}
use Rattle.sn_scope_rules.proofs.Mains.{not_outermost}
use Rattle.sn_scope_rules.proofs.Signed.{read_in}
use Rattle.sn_scope_rules.proofs.Standing.{in_either, none_in}

abbrev main_name : List ℕ
main_name = codes "main"

and_false : (b : Bool) → (b && false) ≡ false
and_false true = refl
and_false false = refl

or_true : (b : Bool) → (b || true) ≡ true
or_true true = refl
or_true false = refl

of_both : (m : Signed) (xs ys : List Signed) → ((n : Signed) → StandsIn n xs → is_main n ≡ false) → ((n : Signed) → StandsIn n ys → is_main n ≡ false) → StandsIn m (xs ++ ys)
    → is_main m ≡ false
of_both m xs ys one other at = either (in_either m xs ys at)
  where
    either : StandsIn m xs ⊎ StandsIn m ys → is_main m ≡ false
    either (inl left) = one m left
    either (inr right) = other m right

of_first : (m first : Signed) (xs : List Signed) → is_main first ≡ false → ((n : Signed) → StandsIn n xs → is_main n ≡ false) → StandsIn m (first ∷ xs) → is_main m ≡ false
of_first m first xs one other here = one
of_first m first xs one other (later at) = other m at

-- no net within another is the program's
inner_none : (before : List Decl) (outer : Around) (decls : List Decl) (nets : List Signed) → SignedIn before outer decls nets → 0 < length outer → (m : Signed)
    → StandsIn m nets → is_main m ≡ false
inner_none before outer decls nets no_more within m at = absurd (none_in m at)
inner_none before outer decls nets (no_net kind rest) within m at = inner_none _ _ _ _ rest within m at
inner_none before outer decls nets (unsigned_net {inner} {more} net is none own rest) within m at =
    of_both m inner more (inner_none _ _ _ _ own (omega arith)) (inner_none _ _ _ _ rest within) at
inner_none before outer decls nets (signed_net {inner} {more} net sig is some own rest) within m at =
    of_first m _ (inner ++ more) (not_outermost outer _ within) (λ n there. of_both n inner more (inner_none _ _ _ _ own (omega arith)) (inner_none _ _ _ _ rest within) there) at

-- one more declaration
still_declared : (before : List Decl) (d : Decl) → is_declared before main_name ≡ true → is_declared (before ++ d ∷ []) main_name ≡ true
still_declared before d there = list_any-append (has_name main_name) before (d ∷ []) ∙ ap (λ b. b || is_declared (d ∷ []) main_name) there

now_declared : (before : List Decl) (d : Decl) → has_name main_name d ≡ true → is_declared (before ++ d ∷ []) main_name ≡ true
now_declared before d is = list_any-append (has_name main_name) before (d ∷ []) ∙ ap (λ b. is_declared before main_name || (b || false)) is ∙ or_true (is_declared before main_name)

-- the net that a declaration is has its name
net_named : (d : Decl) (net : NetDecl) → out-Decl d ≡ Decl-F.NetDecl net → has_name main_name d ≡ bytes_eq (out-NetDecl net).name.text main_name
net_named d net at = ap (λ x. bytes_eq (name_in x).text main_name) at

-- the name is not declared again
not_again : (before : List Decl) (outer : Around) (d : Decl) (net : NetDecl) → is_declared before (name_of d).text ≡ false → is_declared before main_name ≡ true
    → out-Decl d ≡ Decl-F.NetDecl net → (one : Bool) → (one && bytes_eq (out-NetDecl net).name.text main_name) ≡ false
not_again before outer d net fresh there at one = cases (has_name main_name d) refl
  where
    cases : (b : Bool) → has_name main_name d ≡ b → (one && bytes_eq (out-NetDecl net).name.text main_name) ≡ false
    cases true is = absurd_by (sym fresh ∙ ap (is_declared before) (same_text (name_of d).text main_name is) ∙ there)
      where
        absurd_by : false ≡ true → (one && bytes_eq (out-NetDecl net).name.text main_name) ≡ false
        absurd_by wrong = cc
    cases false is = ap (λ b. one && b) (sym (net_named d net at) ∙ is) ∙ and_false one

-- so no later net is the program's
later_none : (before : List Decl) (outer : Around) (decls : List Decl) (nets : List Signed) → SignedIn before outer decls nets → RowFine before outer decls
    → is_declared before main_name ≡ true → (m : Signed) → StandsIn m nets → is_main m ≡ false
later_none before outer decls nets no_more fine there m at = absurd (none_in m at)
later_none before outer decls nets (no_net {decls = rest_of} {decl} kind rest) fine there m at = later_none _ _ _ _ rest (fine_rest before outer decl rest_of fine)
    (still_declared before decl there) m at
later_none before outer decls nets (unsigned_net {decls = rest_of} {decl} {inner} {more} net is none own rest) fine there m at =
    of_both m inner more (inner_none _ _ _ _ own (omega arith)) (later_none _ _ _ _ rest (fine_rest before outer decl rest_of fine) (still_declared before decl there)) at
later_none before outer decls nets (signed_net {decls = rest_of} {decl} {inner} {more} net sig is some own rest) fine there m at =
    of_first m _ (inner ++ more) (not_again before outer decl net (fine_name before outer decl (fine_first before outer decl rest_of fine)) there is (suc (length outer) == 1))
    (λ n within. of_both n inner more (inner_none _ _ _ _ own (omega arith)) (later_none _ _ _ _ rest (fine_rest before outer decl rest_of fine)
    (still_declared before decl there)) within) at

-- an element of two lists in a row
read_either : {A : Type 0} (xs ys : List A) (i : ℕ) (x : A) → slice_get (xs ++ ys) i ≡ Some x → StandsIn x xs ⊎ ((k : ℕ) × (i ≡ length xs + k) × (slice_get ys k ≡ Some x))
read_either [] ys i x is = inr (i, omega arith, is)
read_either (y ∷ xs) ys zero x is = inl (subst (λ z. StandsIn z (y ∷ xs)) (same_Some y x is) here)
read_either (y ∷ xs) ys (suc i) x is = further (read_either xs ys i x is)
  where
    further : StandsIn x xs ⊎ ((k : ℕ) × (i ≡ length xs + k) × (slice_get ys k ≡ Some x)) → StandsIn x (y ∷ xs) ⊎ ((k : ℕ) × (suc i ≡ suc (length xs) + k) × (slice_get ys k ≡ Some x))
    further (inl at) = inl (later at)
    further (inr one) = let same = one.1 in inr (one.0, omega (arith, same), one.2)

-- the place of the program's net
abbrev pub IsAt : List Signed → ℕ → Type 0
IsAt nets i = (m : Signed) × (slice_get nets i ≡ Some m) × (is_main m ≡ true)

abbrev pub Alone : List Signed → Type 0
Alone nets = (i j : ℕ) → IsAt nets i → IsAt nets j → i ≡ j

behind_none : (xs ys : List Signed) → ((n : Signed) → StandsIn n xs → is_main n ≡ false) → (i : ℕ) → IsAt (xs ++ ys) i → (k : ℕ) × (i ≡ length xs + k) × IsAt ys k
behind_none xs ys none i at = either (read_either xs ys i at.0 at.1)
  where
    either : StandsIn at.0 xs ⊎ ((k : ℕ) × (i ≡ length xs + k) × (slice_get ys k ≡ Some at.0)) → (k : ℕ) × (i ≡ length xs + k) × IsAt ys k
    either (inl left) = absurd_by (sym (none at.0 left) ∙ at.2)
      where
        absurd_by : false ≡ true → (k : ℕ) × (i ≡ length xs + k) × IsAt ys k
        absurd_by wrong = cc
    either (inr one) = (one.0, one.1, (at.0, one.2, at.2))

alone_behind : (xs ys : List Signed) → ((n : Signed) → StandsIn n xs → is_main n ≡ false) → Alone ys → Alone (xs ++ ys)
alone_behind xs ys none alone i j one other =
    let a = behind_none xs ys none i one in
    let b = behind_none xs ys none j other in
    a.1 ∙ ap (λ k. length xs + k) (alone a.0 b.0 a.2 b.2) ∙ sym b.1

-- either the first is the program's, and no other, or one of the others
alone_first : (first : Signed) (nets : List Signed) → (is_main first ≡ true → (n : Signed) → StandsIn n nets → is_main n ≡ false) → Alone nets → Alone (first ∷ nets)
alone_first first nets none alone zero zero one other = refl
alone_first first nets none alone zero (suc j) one other = absurd_by (sym (none (ap is_main (same_Some first one.0 one.1) ∙ one.2) other.0 (read_in nets j other.0 other.1)) ∙ other.2)
  where
    absurd_by : false ≡ true → 0 ≡ suc j
    absurd_by wrong = cc
alone_first first nets none alone (suc i) zero one other = absurd_by (sym (none (ap is_main (same_Some first other.0 other.1) ∙ other.2) one.0 (read_in nets i one.0 one.1)) ∙ one.2)
  where
    absurd_by : false ≡ true → suc i ≡ 0
    absurd_by wrong = cc
alone_first first nets none alone (suc i) (suc j) one other = ap suc (alone i j one other)

named_main : (one name : Bool) → (one && name) ≡ true → name ≡ true
named_main one true is = refl
named_main one false is = sym (and_false one) ∙ is

-- one place at most
pub one_main : (before : List Decl) (outer : Around) (decls : List Decl) (nets : List Signed) → SignedIn before outer decls nets → RowFine before outer decls → Alone nets
one_main before outer decls nets no_more fine = λ i j one other. absurd (none-some one.0 one.1)
one_main before outer decls nets (no_net {decls = rest_of} {decl} kind rest) fine = one_main _ _ _ _ rest (fine_rest before outer decl rest_of fine)
one_main before outer decls nets (unsigned_net {decls = rest_of} {decl} {inner} {more} net is none own rest) fine =
    alone_behind inner more (inner_none _ _ _ _ own (omega arith)) (one_main _ _ _ _ rest (fine_rest before outer decl rest_of fine))
one_main before outer decls nets (signed_net {decls = rest_of} {decl} {inner} {more} net sig is some own rest) fine =
    alone_first _ (inner ++ more)
    (λ main n within. of_both n inner more (inner_none _ _ _ _ own (omega arith)) (later_none _ _ _ _ rest (fine_rest before outer decl rest_of fine)
    (now_declared before decl (net_named decl net is ∙ named_main (suc (length outer) == 1) (bytes_eq (out-NetDecl net).name.text main_name) main))) within)
    (alone_behind inner more (inner_none _ _ _ _ own (omega arith)) (one_main _ _ _ _ rest (fine_rest before outer decl rest_of fine)))
