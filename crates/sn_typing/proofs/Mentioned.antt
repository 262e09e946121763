-- What flows out of a network has no labels but those that came and those that the network mentions.
use Rattle.std.proofs.Common.{Bool, map as each, sym, subst}
use Rattle.sn_record.specs.LabelSet.{Labels, IsSubset, union, minus}
use Rattle.sn_record.proofs.Sets.{IsSubset-union_left, IsSubset-union_right, IsSubset-minus}
use Rattle.sn_typing.specs.Outline.{Outline, Component, Series, Choice, Star, Split}
use Rattle.sn_typing.specs.Flow.{Comes, Comes.{first, next}, Flows}
use Rattle.sn_typing.proofs.Subsets.{within_within, union_within}
use Rattle.sn_typing.proofs.Listed.{among_each, contained_among}
use Rattle.sn_typing.proofs.SubsetLists.{all_of, among_all}
use Rattle.sn_typing.proofs.FaceVariants.{placed, face_variants}

-- of the branches of a choice those that have a face variant
pub mentions : Outline → Labels
mentions (Component place takes named outputs) = all_of outputs
mentions (Series left right) = union (mentions left) (mentions right)
mentions (Choice place faces branch) = all_of (each (λ p. union p.1 (mentions (branch p.0))) (face_variants faces).answers)
mentions (Star exit guarded body) = union exit (mentions body)
mentions (Split place id body) = mentions body

in_left : (s v t : Labels) → IsSubset s v → IsSubset s (union v t)
in_left s v t within = within_within s v (union v t) within (IsSubset-union_left v t)

in_right : (s v t : Labels) → IsSubset s t → IsSubset s (union v t)
in_right s v t within = within_within s t (union v t) within (IsSubset-union_right v t)

by_parts : (u s t whole : Labels) → IsSubset u (union s t) → IsSubset s whole → IsSubset t whole → IsSubset u whole
by_parts u s t whole within one other = within_within u (union s t) whole within (union_within s t whole one other)

pub comes_mentioned : (exit : Labels) (guarded : Bool) (body : Labels → Labels → Type 0) (v bound : Labels)
    → ((u w : Labels) → body u w → IsSubset w (union u bound)) → (u : Labels) → Comes exit guarded body v u → IsSubset u (union v bound)
comes_mentioned exit guarded body v bound step u first = IsSubset-union_left v bound
comes_mentioned exit guarded body v bound step u (next t w come stays flow) =
    by_parts u t bound (union v bound) (step t u flow) (comes_mentioned exit guarded body v bound step t come) (IsSubset-union_right v bound)

pub flows_mentioned : (net : Outline) (v u : Labels) → Flows net v u → IsSubset u (union v (mentions net))
unfolding mentions
flows_mentioned (Component place takes named outputs) v u (has, (o, listed, is)) =
    let set = in_right o v (all_of outputs) (among_all outputs o (contained_among outputs o listed)) in
    let inherited = in_left (minus v named) v (all_of outputs) (IsSubset-minus v named) in
    subst (λ t. IsSubset t (union v (all_of outputs))) (sym is) (union_within o (minus v named) (union v (all_of outputs)) set inherited)
flows_mentioned (Series left right) v u (w, flow, further) =
    let both = union (mentions left) (mentions right) in
    let of_left = in_right (mentions left) v both (IsSubset-union_left (mentions left) (mentions right)) in
    let of_right = in_right (mentions right) v both (IsSubset-union_right (mentions left) (mentions right)) in
    let between = by_parts w v (mentions left) (union v both) (flows_mentioned left v w flow) (IsSubset-union_left v both) of_left in
    by_parts u w (mentions right) (union v both) (flows_mentioned right w u further) between of_right
flows_mentioned (Choice place faces branch) v u (has, (i, w, unbeaten, flow)) =
    let all = mentions (Choice place faces branch) in
    let own = mentions (branch i) in
    let listed = (face_variants faces).complete (placed i w) unbeaten.own in
    let there = among_all _ (union w own) (among_each (λ p. union p.1 (mentions (branch p.0))) (face_variants faces).answers (placed i w) listed) in
    let of_face = in_right w v all (within_within w (union w own) all (IsSubset-union_left w own) there) in
    let of_branch = in_right own v all (within_within own (union w own) all (IsSubset-union_right w own) there) in
    let before = union_within v w (union v all) (IsSubset-union_left v all) of_face in
    by_parts u (union v w) own (union v all) (flows_mentioned (branch i) (union v w) u flow) before of_branch
flows_mentioned (Star exit guarded body) v u (w, come, alike, is) =
    let both = union exit (mentions body) in
    let coming = comes_mentioned exit guarded (Flows body) v (mentions body) (λ s t flow. flows_mentioned body s t flow) w come in
    let of_body = in_right (mentions body) v both (IsSubset-union_right exit (mentions body)) in
    let of_exit = in_right exit v both (IsSubset-union_left exit (mentions body)) in
    let inside = by_parts w v (mentions body) (union v both) coming (IsSubset-union_left v both) of_body in
    subst (λ t. IsSubset t (union v both)) (sym is) (union_within w exit (union v both) inside of_exit)
flows_mentioned (Split place id body) v u (there, flow) = flows_mentioned body v u flow
