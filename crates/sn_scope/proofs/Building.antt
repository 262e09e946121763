-- Trees that are built of their parts, and the room that they take.
use Rattle.std.proofs.Common.{◌≡◌, ℕ, zero, suc, ◌+◌, ◌-◌, ◌<◌, ◌≤◌, nat_le, true, false, cond, List, [], ◌∷◌, ◌++◌, length, drop, map, fold, sum, All, Option, Some, None, IfSome, option_map, refl, sym, ap, subst, ◌∙◌, append_assoc, append-nil, arith}
use Rattle.std.proofs.lemmas.List.{map-append}
use Rattle.std.proofs.lemmas.List.Sums.{fold-append}
use Rattle.std.proofs.lemmas.List.Elements.{All-nil, All-push}
use Rattle.sn_record.specs.LabelSet.{Labels}
use Rattle.sn_tagexpr.specs.declared.expr.TagExpr.{TagExpr}
use Rattle.sn_net.specs.declared.expr.BoxProgram.{BoxProgram}
use Rattle.sn_net.specs.declared.faced.Faced.{Faced}
use Rattle.sn_net.specs.declared.filter.Filter.{Filter}
use Rattle.sn_net.specs.declared.net.Merge.{Merge}
use Rattle.sn_net.specs.declared.net.Net.{Net}
use Rattle.sn_net.specs.declared.net.Net.TheVariants as net
use Rattle.sn_net.specs.Face.{face}
use Rattle.sn_net.specs.Faced.{IsFaced, face_of, net_of}
use Rattle.sn_net.specs.Net.{nodes}
use Rattle.sn_scope.specs.Built.{AreBuilt, AreMade, IsBuilt, IsMade, all_nodes, narrowed, node_of}
use Rattle.sn_scope.specs.Trees.{all_some, in_series, most_variants, narrow, then_some, tree}
use Rattle.sn_scope.specs.declared.network.Component.{Component}
use Rattle.sn_scope.specs.declared.network.Network.{Network}
use Rattle.sn_net.proofs.Forms.{all_faced}
use Rattle.sn_scope.proofs.Nodes.{nodes-Box, nodes-Choice, nodes-Filter, nodes-Serial, nodes-Split, nodes-Star, nodes-Sync, nodes-positive}

-- a tree whose face is too wide is none
pub narrow_built : (boxes : List BoxProgram) (defined : Option Net) (old new : ℕ) (built : Option Faced) → IsBuilt boxes defined old new built → IsBuilt boxes (then_some defined (narrow boxes)) old new (narrowed built)
narrow_built boxes None old new None made = tt
narrow_built boxes (Some tree) old new None less =
    elim (nat_le (length (face boxes tree)) most_variants) as (λ b. IfSome (cond b (Some tree) None) (λ n. old < nodes n)) [
      | true ↦ less
      | false ↦ tt
    ]
narrow_built boxes defined old new (Some faced) made =
    let wide : nat_le (length faced.face) most_variants ≡ nat_le (length (face boxes faced.net)) most_variants = ap (λ sets. nat_le (length sets) most_variants) made.beside in
    let whole : then_some defined (narrow boxes) ≡ cond (nat_le (length faced.face) most_variants) (Some faced.net) None =
    ap (λ d. then_some d (narrow boxes)) made.same ∙ ap (λ b. cond b (Some faced.net) None) (sym wide) in
    elim (nat_le (length faced.face) most_variants) as (λ b. then_some defined (narrow boxes) ≡ cond b (Some faced.net) None → IsBuilt boxes (then_some defined (narrow boxes)) old new (cond b (Some faced) None)) [
      | true ↦ λ is. record { same = is; beside = made.beside; room = made.room }
      | false ↦ λ is. subst (λ d. IfSome d (λ n. old < nodes n)) (sym is) tt
    ] whole

-- where one part was not built, the parts in series were not
pub left_unbuilt : (boxes : List BoxProgram) (left right : Option Net) (old new : ℕ) → IsBuilt boxes left old new None → IsBuilt boxes (in_series left right) (suc old) new None
left_unbuilt boxes None right old new less = tt
left_unbuilt boxes (Some l) None old new less = tt
left_unbuilt boxes (Some l) (Some r) old new less = omega (arith, nodes-Serial l r, less)

pub right_unbuilt : (boxes : List BoxProgram) (left right : Option Net) (old between new : ℕ) (first : Faced) → IsMade boxes left old between first → IsBuilt boxes right between new None → IsBuilt boxes (in_series left right) (suc old) new None
right_unbuilt boxes left None old between new first made less = subst (λ l. IfSome (in_series l None) (λ n. suc old < nodes n)) (sym made.same) tt
right_unbuilt boxes left (Some r) old between new first made less =
    subst (λ l. IfSome (in_series l (Some r)) (λ n. suc old < nodes n)) (sym made.same) (omega (arith, nodes-Serial first.net r, less, made.room))

-- both were built, and so is the node over them
pub serial_built : (boxes : List BoxProgram) (left right : Option Net) (old between new : ℕ) (first second faced : Faced) → IsMade boxes left old between first → IsMade boxes right between new second →
    faced.net ≡ net.Serial first.net second.net → IsFaced boxes faced → IsMade boxes (in_series left right) (suc old) new faced
serial_built boxes left right old between new first second faced l r is beside = record {
  same = ap (λ t. in_series t right) l.same ∙ ap (λ t. in_series (Some first.net) t) r.same ∙ ap Some (sym is);
  beside = beside;
  room = omega (arith, ap nodes is, nodes-Serial first.net second.net, l.room, r.room);
}

pub box_built : (boxes : List BoxProgram) (place number old : ℕ) (faced : Faced) → faced.net ≡ net.Box place number → IsFaced boxes faced → IsMade boxes (Some (net.Box place number)) (suc old) old faced
box_built boxes place number old faced is beside = record { same = ap Some (sym is); beside = beside; room = omega (arith, ap nodes is, nodes-Box place number) }

pub filter_built : (boxes : List BoxProgram) (filter : Filter) (old : ℕ) (faced : Faced) → faced.net ≡ net.Filter filter → IsFaced boxes faced → IsMade boxes (Some (net.Filter filter)) (suc old) old faced
filter_built boxes filter old faced is beside = record { same = ap Some (sym is); beside = beside; room = omega (arith, ap nodes is, nodes-Filter filter) }

pub sync_built : (boxes : List BoxProgram) (place : ℕ) (patterns : List Labels) (old : ℕ) (faced : Faced) → faced.net ≡ net.Sync place patterns → IsFaced boxes faced → IsMade boxes (Some (net.Sync place patterns)) (suc old) old faced
sync_built boxes place patterns old faced is beside = record { same = ap Some (sym is); beside = beside; room = omega (arith, ap nodes is, nodes-Sync place patterns) }

-- a node over one part
pub star_built : (boxes : List BoxProgram) (place : ℕ) (merge : Merge) (exit : Labels) (guard : Option TagExpr) (body : Option Net) (old new : ℕ) (part faced : Faced) → IsMade boxes body old new part →
    faced.net ≡ net.Star place merge part.net exit guard → IsFaced boxes faced → IsMade boxes (option_map (λ tree. net.Star place merge tree exit guard) body) (suc old) new faced
star_built boxes place merge exit guard body old new part faced made is beside = record {
  same = ap (option_map (λ tree. net.Star place merge tree exit guard)) made.same ∙ ap Some (sym is);
  beside = beside;
  room = omega (arith, ap nodes is, nodes-Star place merge part.net exit guard, made.room);
}

pub star_unbuilt : (boxes : List BoxProgram) (place : ℕ) (merge : Merge) (exit : Labels) (guard : Option TagExpr) (body : Option Net) (old new : ℕ) → IsBuilt boxes body old new None →
    IsBuilt boxes (option_map (λ tree. net.Star place merge tree exit guard) body) (suc old) new None
star_unbuilt boxes place merge exit guard None old new less = tt
star_unbuilt boxes place merge exit guard (Some body) old new less = omega (arith, nodes-Star place merge body exit guard, less)

pub split_built : (boxes : List BoxProgram) (place : ℕ) (merge : Merge) (tag : ℕ) (body : Option Net) (old new : ℕ) (part faced : Faced) → IsMade boxes body old new part →
    faced.net ≡ net.Split place merge part.net tag → IsFaced boxes faced → IsMade boxes (option_map (λ tree. net.Split place merge tree tag) body) (suc old) new faced
split_built boxes place merge tag body old new part faced made is beside = record {
  same = ap (option_map (λ tree. net.Split place merge tree tag)) made.same ∙ ap Some (sym is);
  beside = beside;
  room = omega (arith, ap nodes is, nodes-Split place merge part.net tag, made.room);
}

pub split_unbuilt : (boxes : List BoxProgram) (place : ℕ) (merge : Merge) (tag : ℕ) (body : Option Net) (old new : ℕ) → IsBuilt boxes body old new None →
    IsBuilt boxes (option_map (λ tree. net.Split place merge tree tag) body) (suc old) new None
split_unbuilt boxes place merge tag None old new less = tt
split_unbuilt boxes place merge tag (Some body) old new less = omega (arith, nodes-Split place merge body tag, less)

-- a node over the trees of branches
pub choice_built : (boxes : List BoxProgram) (place : ℕ) (merge : Merge) (branches : Option (List Net)) (old new : ℕ) (made : List Faced) (faced : Faced) → AreMade boxes branches old new made →
    faced.net ≡ net.Choice place merge (map net_of made) (map face_of made) → IsFaced boxes faced →
    IsMade boxes (option_map (λ nets. net.Choice place merge nets (map (face boxes) nets)) branches) (suc old) new faced
choice_built boxes place merge branches old new made faced all is beside = record {
  same = ap (option_map (λ nets. net.Choice place merge nets (map (face boxes) nets))) all.same ∙ ap Some (ap (net.Choice place merge (map net_of made)) (sym (all_faced boxes made all.beside)) ∙ sym is);
  beside = beside;
  room = omega (arith, ap nodes is, nodes-Choice place merge (map net_of made) (map face_of made), all.room);
}

pub choice_unbuilt : (boxes : List BoxProgram) (place : ℕ) (merge : Merge) (branches : Option (List Net)) (old new : ℕ) → AreBuilt boxes branches old new None →
    IsBuilt boxes (option_map (λ nets. net.Choice place merge nets (map (face boxes) nets)) branches) (suc old) new None
choice_unbuilt boxes place merge None old new less = tt
choice_unbuilt boxes place merge (Some nets) old new less = omega (arith, nodes-Choice place merge nets (map (face boxes) nets), less)

-- a tree with levels left is its node, where the face is narrow
pub tree_level : (boxes : List BoxProgram) (levels : ℕ) (nets : List Component) (component : Component) → 0 < levels → tree boxes levels nets component ≡ then_some (node_of boxes (levels - 1) nets component) (narrow boxes)
tree_level boxes zero nets component more = absurd (omega (arith, more))
tree_level boxes (suc levels) nets component more = let less : levels ≡ suc levels - 1 = omega arith in ap (λ l. then_some (node_of boxes l nets component) (narrow boxes)) less

pub tree_low : (boxes : List BoxProgram) (levels : ℕ) (nets : List Component) (component : Component) (old new : ℕ) → levels ≡ 0 → IsBuilt boxes (tree boxes levels nets component) old new None
tree_low boxes zero nets component old new low = tt
tree_low boxes (suc levels) nets component old new low = absurd (omega (arith, low))

-- without room nothing is built
pub tree_full : (boxes : List BoxProgram) (defined : Option Net) (old new : ℕ) → old ≡ 0 → IsBuilt boxes defined old new None
tree_full boxes None old new full = tt
tree_full boxes (Some tree) old new full = omega (arith, full, nodes-positive tree)

-- room was taken for the node, and its face decides
pub tree_built : (boxes : List BoxProgram) (levels : ℕ) (nets : List Component) (component : Component) (old mid new : ℕ) (built : Option Faced) → 0 < levels → suc mid ≡ old →
    IsBuilt boxes (node_of boxes (levels - 1) nets component) (suc mid) new built → IsBuilt boxes (tree boxes levels nets component) old new (narrowed built)
tree_built boxes levels nets component old mid new built more taken made =
    subst (λ d. IsBuilt boxes d old new (narrowed built)) (sym (tree_level boxes levels nets component more))
    (narrow_built boxes _ old new built (subst (λ o. IsBuilt boxes (node_of boxes (levels - 1) nets component) o new built) taken made))

-- of the parts, those before the rest were made
pub record IsPartly (boxes : List BoxProgram) (part : Network → Option Net) (networks rest : List Network) (old room : ℕ) (made : List Faced) : Type 0 where
  pub whole : all_some (map part networks) ≡ option_map (λ nets. map net_of made ++ nets) (all_some (map part rest))
  pub beside : All (IsFaced boxes) made
  pub room_left : all_nodes (map net_of made) + room ≡ old

behind_none : (nets : Option (List Net)) → nets ≡ option_map (λ more. [] ++ more) nets
behind_none None = refl
behind_none (Some nets) = refl

pub partly_begun : (boxes : List BoxProgram) (part : Network → Option Net) (networks : List Network) (room : ℕ) → IsPartly boxes part networks networks room room []
partly_begun boxes part networks room = record { whole = behind_none (all_some (map part networks)); beside = All-nil (IsFaced boxes); room_left = omega arith }

behind_more : (made : List Net) (net : Net) (more : Option (List Net)) →
    option_map (λ nets. made ++ nets) (then_some (Some net) (λ n. option_map (λ nets. n ∷ nets) more)) ≡ option_map (λ nets. (made ++ net ∷ []) ++ nets) more
behind_more made net None = refl
behind_more made net (Some nets) = ap Some (sym (append_assoc made (net ∷ []) nets))

sum_from : (start : ℕ) (counts : List ℕ) → fold ◌+◌ start counts ≡ start + sum counts
sum_from start [] = omega arith
sum_from start (count ∷ counts) = omega (arith, sum_from (start + count) counts, sum_from (0 + count) counts)

nodes-both : (xs ys : List Net) → all_nodes (xs ++ ys) ≡ all_nodes xs + all_nodes ys
nodes-both xs ys = ap sum (map-append nodes xs ys) ∙ fold-append ◌+◌ 0 (map nodes xs) (map nodes ys) ∙ sum_from (all_nodes xs) (map nodes ys)

nodes-one : (net : Net) → all_nodes (net ∷ []) ≡ nodes net
nodes-one net = omega arith

nodes-first : (net : Net) (nets : List Net) → all_nodes (net ∷ nets) ≡ nodes net + all_nodes nets
nodes-first net nets = nodes-both (net ∷ []) nets ∙ ap (λ n. n + all_nodes nets) (nodes-one net)

pub partly_more : (boxes : List BoxProgram) (part : Network → Option Net) (networks rest : List Network) (next : Network) (more : List Network) (old room left : ℕ) (made : List Faced) (faced : Faced) →
    IsPartly boxes part networks rest old room made → rest ≡ next ∷ more → IsMade boxes (part next) room left faced → IsPartly boxes part networks more old left (made ++ faced ∷ [])
partly_more boxes part networks rest next more old room left made faced partly is built =
    let names : map net_of (made ++ faced ∷ []) ≡ map net_of made ++ faced.net ∷ [] = map-append net_of made (faced ∷ []) in
    record {
      whole =
          partly.whole
          ∙ ap (λ r. option_map (λ nets. map net_of made ++ nets) (all_some (map part r))) is
          ∙ ap (λ n. option_map (λ nets. map net_of made ++ nets) (then_some n (λ net. option_map (λ nets. net ∷ nets) (all_some (map part more))))) built.same
          ∙ behind_more (map net_of made) faced.net (all_some (map part more))
          ∙ ap (λ front. option_map (λ nets. front ++ nets) (all_some (map part more))) (sym names);
      beside = All-push (IsFaced boxes) made faced partly.beside built.beside;
      room_left = omega (arith, ap all_nodes names, nodes-both (map net_of made) (faced.net ∷ []), nodes-one faced.net, partly.room_left, built.room);
    }

unbuilt_behind : (made : List Net) (next : Option Net) (more : Option (List Net)) (old room : ℕ) → all_nodes made + room ≡ old → IfSome next (λ net. room < nodes net) →
    IfSome (option_map (λ nets. made ++ nets) (then_some next (λ net. option_map (λ nets. net ∷ nets) more))) (λ nets. old < all_nodes nets)
unbuilt_behind made None more old room left less = tt
unbuilt_behind made (Some net) None old room left less = tt
unbuilt_behind made (Some net) (Some nets) old room left less = omega (arith, nodes-both made (net ∷ nets), nodes-first net nets, left, less)

pub partly_unbuilt : (boxes : List BoxProgram) (part : Network → Option Net) (networks rest : List Network) (next : Network) (more : List Network) (old room left : ℕ) (made : List Faced) →
    IsPartly boxes part networks rest old room made → rest ≡ next ∷ more → IsBuilt boxes (part next) room left None → AreBuilt boxes (all_some (map part networks)) old left None
partly_unbuilt boxes part networks rest next more old room left made partly is less =
    subst (λ d. IfSome d (λ nets. old < all_nodes nets)) (sym (partly.whole ∙ ap (λ r. option_map (λ nets. map net_of made ++ nets) (all_some (map part r))) is))
    (unbuilt_behind (map net_of made) (part next) (all_some (map part more)) old room partly.room_left less)

-- nothing is left past the end
pub drop_past : {A : Type 0} (n : ℕ) (xs : List A) → length xs ≤ n → drop n xs ≡ []
drop_past zero [] past = refl
drop_past zero (x ∷ xs) past = absurd (omega (arith, past))
drop_past (suc n) [] past = refl
drop_past (suc n) (x ∷ xs) past = drop_past n xs (omega (arith, past))

pub partly_done : (boxes : List BoxProgram) (part : Network → Option Net) (networks rest : List Network) (old room : ℕ) (made : List Faced) →
    IsPartly boxes part networks rest old room made → rest ≡ [] → AreMade boxes (all_some (map part networks)) old room made
partly_done boxes part networks rest old room made partly is = record {
  same = partly.whole ∙ ap (λ r. option_map (λ nets. map net_of made ++ nets) (all_some (map part r))) is ∙ ap Some (append-nil (map net_of made));
  beside = partly.beside;
  room = partly.room_left;
}
