-- Sets of variants that others are added to.
use Rattle.std.proofs.Common.{◌≡◌, ◌⊎◌, inl, inr, ℕ, ◌<◌, ◌≤◌, ◌+◌, Bool, true, false, ◌||◌, ◌&&◌, IsTrue, List, [], ◌∷◌, ◌++◌, length, get_or, take, drop, refl, sym, ap, ◌∙◌, subst, arith, length-append, append_assoc, append-nil}
use Rattle.std.specs.List.{Contains, list_any}
use Rattle.std.proofs.lemmas.List.{take_more, take-append-drop}
use Rattle.std.proofs.lemmas.List.Elements.{Contains-append_left, Contains-append_right, Contains-append_cases}
use Rattle.sn_record.specs.LabelSet.{Labels, contains}
use Rattle.sn_record.proofs.Sets.{same_labels}
use Rattle.sn_record.specs.Fits.{fits}
use Rattle.sn_types.specs.RecordType.{is_same}
use Rattle.sn_record.proofs.Fitting.{fits-Fits, fits_itself}
use Rattle.sn_typing.specs.Accepted.{most_variants}
use Rattle.std.specs.Prelude.{Err}
use Rattle.sn_flow.specs.declared.stop.Stop.{Stop}
use Rattle.sn_flow.specs.declared.stop.Stop.TheVariants.{TooMany, Memory}
use Rattle.sn_flow.specs.Visits.{Added, Adds, Overflows}
use Rattle.sn_flow.proofs.Lists.{cases, none, head, behind, distinct_push, too_many}

both_parts : (a b : Bool) → IsTrue (a && b) → IsTrue a × IsTrue b
both_parts true b e = (refl, e)
both_parts false b e = cc

both_from : (a b : Bool) → IsTrue a → IsTrue b → IsTrue (a && b)
both_from true b e f = f
both_from false b e f = cc

same_bool : (a b : Bool) → (IsTrue a → IsTrue b) → (IsTrue b → IsTrue a) → a ≡ b
same_bool true b f g = sym (f refl)
same_bool false true f g = g refl
same_bool false false f g = refl

pub same_is : (s t : Labels) → IsTrue (is_same s t) → s ≡ t
same_is s t test =
    let parts = both_parts (fits s t) (fits t s) test in
    same_labels s t (λ l. same_bool (contains s l) (contains t l) (((fits-Fits s t).0 parts.0).within l) (((fits-Fits t s).0 parts.1).within l))

pub is_same_itself : (s : Labels) → IsTrue (is_same s s)
is_same_itself s = let test = (fits-Fits s s).1 (fits_itself s) in both_from (fits s s) (fits s s) test test

pub among : (sets : List Labels) (v : Labels) → IsTrue (list_any (λ s. is_same s v) sets) → Contains sets v
among [] v test = cc
among (s ∷ sets) v test = at (is_same s v) refl test (λ rest. among sets v rest)
  where
    at : (b : Bool) → is_same s v ≡ b → IsTrue (b || list_any (λ s. is_same s v) sets) → (IsTrue (list_any (λ s. is_same s v) sets) → Contains sets v) → Contains (s ∷ sets) v
    at true is e later = subst (λ (t : Labels). Contains (t ∷ sets) v) (sym (same_is s v is)) (head v sets)
    at false is e later = behind s sets v (later e)

pub among_test : (sets : List Labels) (v : Labels) → Contains sets v → IsTrue (list_any (λ s. is_same s v) sets)
among_test [] v there = absurd (none v there)
among_test (s ∷ sets) v there = which (cases s sets v there) (λ rest. among_test sets v rest)
  where
    here : (b c : Bool) → IsTrue b → IsTrue (b || c)
    here true c e = refl
    here false c e = cc

    later : (b c : Bool) → IsTrue c → IsTrue (b || c)
    later true c e = refl
    later false c e = e

    which : (s ≡ v) ⊎ Contains sets v → (Contains sets v → IsTrue (list_any (λ s. is_same s v) sets)) → IsTrue (list_any (λ s. is_same s v) (s ∷ sets))
    which (inl same) rest = here (is_same s v) _ (subst (λ (t : Labels). IsTrue (is_same s t)) same (is_same_itself s))
    which (inr there) rest = later (is_same s v) _ (rest there)

pub not_among : (sets : List Labels) (v : Labels) → list_any (λ s. is_same s v) sets ≡ false → Contains sets v → ⊥
not_among sets v test there = differ (sym (among_test sets v there) ∙ test)
  where
    differ : true ≡ false → ⊥
    differ e = cc

pub adds_nothing : (sets : List Labels) → Adds sets [] sets
adds_nothing sets = record {
  distinct = λ distinct. distinct;
  few = λ few. few;
  same = λ u. ((λ there. inl there), at u);
  rest = [];
  longer = sym (append-nil sets);
}
  where
    at : (u : Labels) → Contains sets u ⊎ Contains [] u → Contains sets u
    at u (inl there) = there
    at u (inr nothing) = absurd (none u nothing)

one_cases : (v u : Labels) → Contains (v ∷ []) u → v ≡ u
one_cases v u there = at (cases v [] u there)
  where
    at : (v ≡ u) ⊎ Contains [] u → v ≡ u
    at (inl same) = same
    at (inr nothing) = absurd (none u nothing)

pub adds_known : (sets : List Labels) (v : Labels) → Contains sets v → Adds sets (v ∷ []) sets
adds_known sets v known = record {
  distinct = λ distinct. distinct;
  few = λ few. few;
  same = λ u. ((λ there. inl there), at u);
  rest = [];
  longer = sym (append-nil sets);
}
  where
    at : (u : Labels) → Contains sets u ⊎ Contains (v ∷ []) u → Contains sets u
    at u (inl there) = there
    at u (inr one) = subst (Contains sets) (one_cases v u one) known

pub adds_new : (sets : List Labels) (v : Labels) → (Contains sets v → ⊥) → length sets < most_variants → Adds sets (v ∷ []) (sets ++ v ∷ [])
adds_new sets v new room = record {
  distinct = λ distinct. distinct_push sets v distinct new;
  few = λ few. omega (arith, room, length-append sets (v ∷ []));
  same = λ u. (Contains-append_cases sets (v ∷ []) u, at u);
  rest = v ∷ [];
  longer = refl;
}
  where
    at : (u : Labels) → Contains sets u ⊎ Contains (v ∷ []) u → Contains (sets ++ v ∷ []) u
    at u (inl there) = Contains-append_left sets (v ∷ []) u there
    at u (inr one) = Contains-append_right sets (v ∷ []) u one

pub overflow : (sets : List Labels) (v : Labels) → (Contains sets v → ⊥) → most_variants ≤ length sets → Overflows sets (v ∷ [])
overflow sets v new full distinct few =
    too_many sets v (λ u. Contains sets u ⊎ Contains (v ∷ []) u) distinct new full (λ u there. inl there) (inr (head v [])) few

pub adds_more : (sets more mid also last : List Labels) → Adds sets more mid → Adds mid also last → Adds sets (more ++ also) last
adds_more sets more mid also last first second = record {
  distinct = λ distinct. second.distinct (first.distinct distinct);
  few = λ few. second.few (first.few few);
  same = λ u. ((λ there. to u ((second.same u).0 there)), from u);
  rest = first.rest ++ second.rest;
  longer = second.longer ∙ ap (λ (m : List Labels). m ++ second.rest) first.longer ∙ append_assoc sets first.rest second.rest;
}
  where
    to_first : (u : Labels) → Contains sets u ⊎ Contains more u → Contains sets u ⊎ Contains (more ++ also) u
    to_first u (inl there) = inl there
    to_first u (inr there) = inr (Contains-append_left more also u there)

    to : (u : Labels) → Contains mid u ⊎ Contains also u → Contains sets u ⊎ Contains (more ++ also) u
    to u (inl there) = to_first u ((first.same u).0 there)
    to u (inr there) = inr (Contains-append_right more also u there)

    from_more : (u : Labels) → Contains more u ⊎ Contains also u → Contains last u
    from_more u (inl there) = (second.same u).1 (inl ((first.same u).1 (inr there)))
    from_more u (inr there) = (second.same u).1 (inr there)

    from : (u : Labels) → Contains sets u ⊎ Contains (more ++ also) u → Contains last u
    from u (inl there) = (second.same u).1 (inl ((first.same u).1 (inl there)))
    from u (inr there) = from_more u (Contains-append_cases more also u there)

pub overflows_more : (sets more mid also whole : List Labels) → Adds sets more mid → Overflows mid also → ((u : Labels) → Contains (more ++ also) u → Contains whole u) → Overflows sets whole
overflows_more sets more mid also whole first stops within distinct few =
    stops (first.distinct distinct) (record { all = few.all; few = few.few; listed = λ u there. few.listed u (at u there) })
  where
    before : (u : Labels) → Contains sets u ⊎ Contains more u → Contains sets u ⊎ Contains whole u
    before u (inl there) = inl there
    before u (inr there) = inr (within u (Contains-append_left more also u there))

    at : (u : Labels) → Contains mid u ⊎ Contains also u → Contains sets u ⊎ Contains whole u
    at u (inl there) = before u ((first.same u).0 there)
    at u (inr there) = inr (within u (Contains-append_right more also u there))

-- the three ways of adding one
pub add_known : (sets slice : List Labels) (v : Labels) (b : Bool) → slice ≡ sets → b ≡ list_any (λ s. is_same s v) slice → b ≡ true → Adds sets (v ∷ []) sets
add_known sets slice v b same is test = adds_known sets v (among sets v (sym (ap (λ (all : List Labels). list_any (λ s. is_same s v) all) same) ∙ sym is ∙ test))

new_to : (sets slice : List Labels) (v : Labels) (b : Bool) → slice ≡ sets → b ≡ list_any (λ s. is_same s v) slice → b ≡ false → Contains sets v → ⊥
new_to sets slice v b same is test = not_among sets v (sym (ap (λ (all : List Labels). list_any (λ s. is_same s v) all) same) ∙ sym is ∙ test)

pub add_full : (sets slice : List Labels) (v : Labels) (b : Bool) (n : ℕ) → slice ≡ sets → b ≡ list_any (λ s. is_same s v) slice → b ≡ false → n ≡ length sets → most_variants ≤ n → Overflows sets (v ∷ [])
add_full sets slice v b n same is test size full = overflow sets v (new_to sets slice v b same is test) (omega (arith, size, full))

pub add_new : (sets slice after : List Labels) (v : Labels) (b : Bool) (n : ℕ) → slice ≡ sets → b ≡ list_any (λ s. is_same s v) slice → b ≡ false → n ≡ length sets → n < most_variants
    → after ≡ sets ++ v ∷ [] → Adds sets (v ∷ []) after
add_new sets slice after v b n same is test size room pushed =
    subst (Adds sets (v ∷ [])) (sym pushed) (adds_new sets v (new_to sets slice v b same is test) (omega (arith, size, room)))

-- one more of a list
pub adds_next : (sets more mid last : List Labels) (i : ℕ) (v : Labels) → i < length more → get_or more i v ≡ v → Adds sets (take i more) mid → Adds mid (v ∷ []) last → Adds sets (take (i + 1) more) last
adds_next sets more mid last i v below here first second =
    subst (λ (ms : List Labels). Adds sets ms last) (sym (take_more more i v below ∙ ap (λ (u : Labels). take i more ++ u ∷ []) here)) (adds_more sets (take i more) mid (v ∷ []) last first second)

pub taken_within : (n : ℕ) (xs : List Labels) (u : Labels) → Contains (take n xs) u → Contains xs u
taken_within n xs u there = subst (λ (ys : List Labels). Contains ys u) (take-append-drop n xs) (Contains-append_left (take n xs) (drop n xs) u there)

pub add_all_stops : (sets more mid last after : List Labels) (i : ℕ) (v : Labels) (stop : Stop) → i < length more → get_or more i v ≡ v → Adds sets (take i more) mid → Added mid (v ∷ []) last (Err stop)
    → Added sets more after (Err stop)
add_all_stops sets more mid last after i v TooMany below here first stops =
    overflows_more sets (take i more) mid (v ∷ []) more first stops
    (λ u there. taken_within (i + 1) more u (subst (λ (ms : List Labels). Contains ms u) (sym (take_more more i v below ∙ ap (λ (z : Labels). take i more ++ z ∷ []) here)) there))
add_all_stops sets more mid last after i v Memory below here first stops = tt
