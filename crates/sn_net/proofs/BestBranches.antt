-- The best branch, found a branch at a time, is the first whose face has the greatest score.
use Rattle.std.proofs.Common.{◌≡◌, ℕ, ◌+◌, ◌<◌, ◌≤◌, IfSome, Bool, true, false, cond, List, [], ◌∷◌, get_or, take, Option, None, Some, refl, sym, ap, ◌∙◌, subst, arith}
use Rattle.std.specs.Prelude.{◌==◌, unwrap_or}
use Rattle.std.specs.List.{All, position, position_from}
use Rattle.std.specs.Option.{option_map, option_and_then}
use Rattle.std.proofs.lemmas.Bool.Decides.{nat_tests}
use Rattle.std.proofs.lemmas.Iterator.Adapters.{position_from-zero}
use Rattle.std.proofs.lemmas.List.{get_or-take, length-take}
use Rattle.std.proofs.lemmas.List.Elements.{All-nil, All-cons, All-weaker, All-get_or, All-from_get_or}
use Rattle.std.proofs.lemmas.List.Quantifiers.{position-Some}
use Rattle.std.proofs.lemmas.Option.{none-some, slice_get-get_or}
use Rattle.sn_record.specs.LabelSet.{Labels}
use Rattle.sn_record.specs.Record.{Entries, greater, score}
use Rattle.sn_net.specs.declared.routing.Best.{Best}
use Rattle.sn_net.specs.Best.{IsBest, better, after_branch, best_from}
use Rattle.sn_net.specs.Route.{best_score, best_branch, scores}

-- the better of what was found before and of what comes behind it
abbrev pub joined : Option Best → Option Best → Option Best
joined best None = best
joined best (Some next) = better best next

joined-none : (next : Option Best) → joined None next ≡ next
joined-none None = refl
joined-none (Some next) = refl

better-join : (a b c : Best) → better (better (Some a) b) c ≡ joined (Some a) (better (Some b) c)
better-join a b c = grind (arith, nat_tests)

joined-join : (a b c : Option Best) → joined (joined a b) c ≡ joined a (joined b c)
joined-join a b None = refl
joined-join a None (Some c) = refl
joined-join None (Some b) (Some c) = sym (joined-none (better (Some b) c))
joined-join (Some a) (Some b) (Some c) = better-join a b c

after_branch-joined : (best : Option Best) (i : ℕ) (size : Option ℕ) → after_branch best i size ≡ joined best (after_branch None i size)
after_branch-joined best i None = refl
after_branch-joined best i (Some size) = refl

-- the best of the branches from i on
abbrev best_of : ℕ → List (List Labels) → Entries → Option Best
best_of i [] r = None
best_of i (face ∷ faces) r = joined (after_branch None i (score face r)) (best_of (i + 1) faces r)

best_from-joined : (best : Option Best) (i : ℕ) (faces : List (List Labels)) (r : Entries) → best_from best i faces r ≡ joined best (best_of i faces r)
best_from-joined best i [] r = refl
best_from-joined best i (face ∷ faces) r =
    best_from-joined (after_branch best i (score face r)) (i + 1) faces r
    ∙ ap (λ b. joined b (best_of (i + 1) faces r)) (after_branch-joined best i (score face r))
    ∙ joined-join best (after_branch None i (score face r)) (best_of (i + 1) faces r)

abbrev size_of : Best → ℕ
size_of best = best.size

abbrev branch_of : Best → ℕ
branch_of best = best.branch

-- its size is the greatest score
size_joined : (i : ℕ) (size : Option ℕ) (behind : Option Best) → option_map size_of (joined (after_branch None i size) behind) ≡ greater size (option_map size_of behind)
size_joined i None behind = ap (option_map size_of) (joined-none behind)
size_joined i (Some size) None = refl
size_joined i (Some size) (Some next) = grind (arith, nat_tests)

best_of-size : (i : ℕ) (faces : List (List Labels)) (r : Entries) → option_map size_of (best_of i faces r) ≡ best_score faces r
best_of-size i [] r = refl
best_of-size i (face ∷ faces) r =
    size_joined i (score face r) (best_of (i + 1) faces r) ∙ ap (greater (score face r)) (best_of-size (i + 1) faces r)

-- whether the size is n
abbrev is_size : ℕ → Option ℕ → Bool
is_size n size = unwrap_or (option_map (λ m. m == n) size) false

-- its place is the first where there is that score
branch_joined : (i : ℕ) (size : Option ℕ) (behind : Option Best) (place : ℕ → Option ℕ)
    → option_map branch_of behind ≡ option_and_then place (option_map size_of behind)
    → option_map branch_of (joined (after_branch None i size) behind) ≡ option_and_then (λ n. cond (is_size n size) (Some i) (place n)) (greater size (option_map size_of behind))
branch_joined i None None place found = refl
branch_joined i None (Some next) place found = found
branch_joined i (Some size) None place found = grind (arith, nat_tests)
branch_joined i (Some size) (Some next) place found = grind (arith, nat_tests)

best_of-branch : (i : ℕ) (faces : List (List Labels)) (r : Entries)
    → option_map branch_of (best_of i faces r) ≡ option_and_then (λ n. position_from (scores r n) i faces) (best_score faces r)
best_of-branch i [] r = refl
best_of-branch i (face ∷ faces) r =
    let behind = best_of (i + 1) faces r in
    let place : ℕ → Option ℕ = λ n. position_from (scores r n) (i + 1) faces in
    branch_joined i (score face r) behind place (best_of-branch (i + 1) faces r ∙ ap (option_and_then place) (sym (best_of-size (i + 1) faces r)))
    ∙ ap (λ most. option_and_then (λ n. cond (scores r n face) (Some i) (place n)) (greater (score face r) most)) (best_of-size (i + 1) faces r)

same_place : (faces : List (List Labels)) (r : Entries) (most : Option ℕ) → option_and_then (λ n. position_from (scores r n) 0 faces) most ≡ option_and_then (λ n. position (scores r n) faces) most
same_place faces r None = refl
same_place faces r (Some n) = sym (position_from-zero (scores r n) faces)

-- the place of the best of all branches
pub best_from-branch : (faces : List (List Labels)) (r : Entries) → option_map branch_of (best_from None 0 faces r) ≡ best_branch faces r
best_from-branch faces r =
    ap (option_map branch_of) (best_from-joined None 0 faces r ∙ joined-none (best_of 0 faces r)) ∙ best_of-branch 0 faces r ∙ same_place faces r (best_score faces r)

-- the place of the best so far, once there are no more branches
pub last_best : (best found : Option Best) (faces left : List (List Labels)) (i : ℕ) (r : Entries)
    → left ≡ [] → best_from best i left r ≡ best_from None 0 faces r → best ≡ found → option_map branch_of found ≡ best_branch faces r
last_best best found faces left i r none going is =
    ap (option_map branch_of) (sym is ∙ ap (λ rest. best_from best i rest r) (sym none) ∙ going) ∙ best_from-branch faces r

-- the size, if there is one, is at most the other
abbrev Within : Option ℕ → Option ℕ → Type 0
Within most None = Unit {0}
Within None (Some n) = ⊥
Within (Some m) (Some n) = n ≤ m

Within-left : (size most : Option ℕ) → Within (greater size most) size
Within-left None most = tt
Within-left (Some n) None = omega arith
Within-left (Some n) (Some m) = omega arith

Within-right : (size most other : Option ℕ) → Within most other → Within (greater size most) other
Within-right size most None below = tt
Within-right None most (Some k) below = below
Within-right (Some n) None (Some k) below = absurd below
Within-right (Some n) (Some m) (Some k) below = omega (arith, below)

-- no score is greater than the greatest
all_within : (faces : List (List Labels)) (r : Entries) → All (λ face. Within (best_score faces r) (score face r)) faces
all_within [] r = All-nil (λ face. Within None (score face r))
all_within (face ∷ faces) r =
    let most = best_score faces r in
    let P : List Labels → Type 0 = λ other. Within (greater (score face r) most) (score other r) in
    All-cons P face faces (Within-left (score face r) most)
    (All-weaker (λ other. Within most (score other r)) P (λ other. Within-right (score face r) most (score other r)) faces (all_within faces r))

at_most : (size : ℕ) (other : Option ℕ) → Within (Some size) other → IfSome other (λ n. n ≤ size)
at_most size None below = tt
at_most size (Some n) below = below

below_or_same : (size : ℕ) (other : Option ℕ) → Within (Some size) other → is_size size other ≡ false → IfSome other (λ n. n < size)
below_or_same size None below differs = tt
below_or_same size (Some n) below differs = grind (arith, nat_tests)

same_size : (n : ℕ) (size : Option ℕ) → is_size n size ≡ true → size ≡ Some n
same_size n None test = cc
same_size n (Some m) test = grind (arith, nat_tests)

no_score : (most size : Option ℕ) → most ≡ None → Within most size → size ≡ None
no_score most None is below = refl
no_score None (Some n) is below = absurd below
no_score (Some m) (Some n) is below = cc

best_branch-best_of : (faces : List (List Labels)) (r : Entries) → best_branch faces r ≡ option_map branch_of (best_of 0 faces r)
best_branch-best_of faces r = sym (best_of-branch 0 faces r ∙ same_place faces r (best_score faces r))

-- at the first place of the greatest score, the branch is best
best_at : (faces : List (List Labels)) (r : Entries) (i size : ℕ) → best_score faces r ≡ Some size → position (scores r size) faces ≡ Some i → IsBest faces r i
best_at faces r i size most first =
    let found = position-Some (scores r size) faces i [] first in
    let within : All (λ face. Within (Some size) (score face r)) faces = subst (λ m. All (λ face. Within m (score face r)) faces) most (all_within faces r) in
    let smaller : List Labels → Type 0 = λ face. IfSome (score face r) (λ n. n < size) in
    record {
      face = get_or faces i [];
      size = size;
      here = slice_get-get_or faces i [] found.0;
      scored = same_size size (score (get_or faces i []) r) found.1;
      greatest = All-weaker (λ face. Within (Some size) (score face r)) _ (λ face. at_most size (score face r)) faces within;
      leftmost = All-from_get_or smaller (take i faces) [] (λ k short.
          let earlier : k < i = omega (arith, length-take i faces, short) in
          subst smaller (sym (get_or-take i faces k [] earlier))
          (below_or_same size (score (get_or faces k []) r) (All-get_or (λ face. Within (Some size) (score face r)) faces k [] (omega (arith, earlier, found.0)) within) (found.2 k earlier)));
    }

best_found : (faces : List (List Labels)) (r : Entries) (i : ℕ) (best : Option Best) → best_of 0 faces r ≡ best → best_branch faces r ≡ Some i → IsBest faces r i
best_found faces r i None is there = absurd (none-some i (sym (best_branch-best_of faces r ∙ ap (option_map branch_of) is) ∙ there))
best_found faces r i (Some best) is there =
    let most : best_score faces r ≡ Some best.size = sym (best_of-size 0 faces r) ∙ ap (option_map size_of) is in
    best_at faces r i best.size most (ap (option_and_then (λ n. position (scores r n) faces)) (sym most) ∙ there)

pub best_branch-Some : (faces : List (List Labels)) (r : Entries) (i : ℕ) → best_branch faces r ≡ Some i → IsBest faces r i
best_branch-Some faces r i there = best_found faces r i (best_of 0 faces r) refl there

nothing_found : (faces : List (List Labels)) (r : Entries) (best : Option Best) → best_of 0 faces r ≡ best → best_branch faces r ≡ None → best_score faces r ≡ None
nothing_found faces r None is there = sym (best_of-size 0 faces r) ∙ ap (option_map size_of) is
nothing_found faces r (Some best) is there = absurd (none-some best.branch (sym there ∙ best_branch-best_of faces r ∙ ap (option_map branch_of) is))

pub best_branch-None : (faces : List (List Labels)) (r : Entries) → best_branch faces r ≡ None → All (λ face. score face r ≡ None) faces
best_branch-None faces r there =
    All-weaker (λ face. Within (best_score faces r) (score face r)) _ (λ face. no_score (best_score faces r) (score face r) (nothing_found faces r (best_of 0 faces r) refl there)) faces (all_within faces r)
