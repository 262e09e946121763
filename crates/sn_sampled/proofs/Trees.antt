-- The tree of the built-in source's claim.
use Rattle.std.proofs.Common.{◌≡◌, ℕ, suc, ◌+◌, ◌<◌, ◌≤◌, cond, List, [], ◌∷◌, ◌++◌, option_map, length, map as each, Option, Some, None, refl, sym, ap, ◌∙◌, arith}
use Rattle.std.specs.FinMap as map
use Rattle.std.proofs.lemmas.Bool.{le-leb, lt-ltb}
use Rattle.std.proofs.lemmas.List.{length-map}
use Rattle.sn_box_scope.specs.Boxes.{box_at}
use Rattle.sn_label_scope.specs.Labels.{variant_at}
use Rattle.sn_net.specs.Face.{variants, variants_step, variant_cmp, ascending, face, with_tag, box_variant}
use Rattle.sn_net.specs.Net.{nodes}
use Rattle.sn_net.specs.declared.expr.BoxProgram.{BoxProgram}
use Rattle.sn_net.specs.declared.net.Claim.{Claim}
use Rattle.sn_net.specs.declared.net.Merge.TheVariants.{Det}
use Rattle.sn_net.specs.declared.net.Net.{Net}
use Rattle.sn_net.specs.declared.net.Net.TheFolds.{fold-roll-Net}
use Rattle.sn_net.specs.declared.net.Net.TheOpen.{Net-F}
use Rattle.sn_net.specs.declared.net.Net.TheVariants as net
use Rattle.sn_net.proofs.Orders.{variant_cmp_total}
use Rattle.sn_net.proofs.Variants.{variants-Filter, variants-Serial, variants-Star, variants-Split}
use Rattle.sn_record.specs.LabelSet.{Labels}
use Rattle.sn_scope.specs.Built.{part_of, parts_of, node_of}
use Rattle.sn_scope.specs.Resolution.{resolution, resolution_under, most_names, unless_refused, with_main, resolved}
use Rattle.sn_scope.specs.Trees.{tree, tree_of, then_some, narrow, fitting, most_nodes, in_series, or_refused, claim_at, claims_within, led_by}
use Rattle.sn_scope.specs.declared.declarations.Declarations.{Declarations}
use Rattle.sn_scope.specs.declared.network.Component.{Component}
use Rattle.sn_scope.specs.declared.network.Component.TheVariants as component
use Rattle.sn_scope.specs.declared.network.Network.TheVariants.{Made}
use Rattle.sn_scope.specs.declared.resolved.Parts.{Parts}
use Rattle.sn_scope.proofs.Fitting.{tree_at}
use Rattle.sn_scope.proofs.Levels.{node-Box, node-Filter, node-Serial, node-Star, node-Split, part-Made}
use Rattle.sn_scope.proofs.Nodes.{nodes-Box, nodes-Filter, nodes-Serial, nodes-Star, nodes-Split}
use Rattle.std.specs.Prelude.{Ok, Err}
use Rattle.sn_label_scope.specs.declared.fault.ScopeFault.TheVariants.{NoMain, TooManyNames}
use Rattle.sn_sampled.proofs.Tree.{twice_box, input_variant, output_variant, source_tree}
use Rattle.sn_sampled.proofs.Entered.{the_names, source_names}
use Rattle.sn_sampled.proofs.Declared.{start_part, step_part, exit_labels, exit_guard, call_component, star_component, split_component, main_component, declared_all, source_declared}

-- a list in ascending order is no longer than before
set_short : (sets : List Labels) → map.len (map.from_entries {X = Unit {0}} {R = variant_cmp} (each (λ variant. (variant, tt)) sets)) ≤ length sets
set_short [] = let none = map.len-empty variant_cmp (Unit {0}) in omega arith
set_short (v ∷ sets) =
    let more = map.len-insert variant_cmp_total (map.from_entries {X = Unit {0}} {R = variant_cmp} (each (λ variant. (variant, tt)) sets)) v tt in
    let rest = set_short sets in
    at_most _ _ _ _ more rest
  where
    at_most : (b : _) (n m k : ℕ) → n ≡ cond b m (m + 1) → m ≤ k → n ≤ suc k
    at_most b n m k is short = grind arith

ascending_short : (sets : List Labels) → length (ascending sets) ≤ length sets
ascending_short sets =
    let same = length-map (map.entries (map.from_entries {X = Unit {0}} {R = variant_cmp} (each (λ variant. (variant, tt)) sets))) (λ (e : Labels × Unit {0}). e.0) in
    let size = map.len-entries (map.from_entries {X = Unit {0}} {R = variant_cmp} (each (λ variant. (variant, tt)) sets)) in
    let short = set_short sets in
    omega arith

abbrev pub the_boxes : List BoxProgram
the_boxes = box_at the_names twice_box ∷ []

abbrev the_nets : List Component
the_nets = main_component ∷ []

-- the component has the tree, with so many levels
abbrev IsTree : ℕ → Component → Net → Type 0
IsTree levels made t = tree the_boxes levels the_nets made ≡ Some t

-- a node whose face is narrow is a tree
made_tree : (levels : ℕ) (made : Component) (t : Net) (sets : List Labels) → node_of the_boxes levels the_nets made ≡ Some t → variants the_boxes t ≡ sets → length sets ≤ 1024 →
    IsTree (suc levels) made t
made_tree levels made t sets node_is same few =
    let short = ascending_short (variants the_boxes t) in
    let size = ap length same in
    let narrow_face : length (face the_boxes t) ≤ 1024 = omega arith in
    ap (λ o. then_some o (narrow the_boxes)) node_is ∙ ap (λ b. cond b (Some t) None) (le-leb (length (face the_boxes t)) 1024 narrow_face)

-- the trees of the parts
abbrev pub step_net : Net
step_net = net.Filter step_part

abbrev pub star_net : Net
star_net = net.Star 166 Det step_net exit_labels exit_guard

abbrev pub split_net : Net
split_net = net.Split 190 Det star_net 2

abbrev pub start_net : Net
start_net = net.Filter start_part

abbrev pub behind_net : Net
behind_net = net.Serial start_net split_net

abbrev pub call_net : Net
call_net = net.Box 90 0

abbrev pub main_net : Net
main_net = net.Serial call_net behind_net

part_is : (levels : ℕ) (made : Component) (t : Net) → IsTree levels made t → part_of the_boxes levels the_nets (Made made) ≡ Some t
part_is levels made t made_is = part-Made the_boxes levels the_nets (Made made) made refl ∙ made_is

step_tree : IsTree 252 (component.Filter step_part) step_net
step_tree = made_tree 251 (component.Filter step_part) step_net (step_part.pattern ∷ [])
    (node-Filter the_boxes (part_of the_boxes 251 the_nets) (parts_of the_boxes 251 the_nets) step_part)
    (variants-Filter the_boxes step_part) (omega arith)

star_variants : variants the_boxes star_net ≡ step_part.pattern ∷ exit_labels ∷ []
star_variants = variants-Star the_boxes 166 Det step_net exit_labels exit_guard ∙ ap (λ sets. sets ++ exit_labels ∷ []) (variants-Filter the_boxes step_part)

star_tree : IsTree 253 star_component star_net
star_tree = made_tree 252 star_component star_net (step_part.pattern ∷ exit_labels ∷ [])
    (node-Star the_boxes (part_of the_boxes 252 the_nets) (parts_of the_boxes 252 the_nets) 166 Det (Made (component.Filter step_part)) exit_labels exit_guard
    ∙ ap (option_map (λ made. net.Star 166 Det made exit_labels exit_guard)) (part_is 252 (component.Filter step_part) step_net step_tree))
    star_variants (omega arith)

split_tree : IsTree 254 split_component split_net
split_tree = made_tree 253 split_component split_net (with_tag 2 step_part.pattern ∷ with_tag 2 exit_labels ∷ [])
    (node-Split the_boxes (part_of the_boxes 253 the_nets) (parts_of the_boxes 253 the_nets) 190 Det (Made star_component) 2
    ∙ ap (option_map (λ made. net.Split 190 Det made 2)) (part_is 253 star_component star_net star_tree))
    (variants-Split the_boxes 190 Det star_net 2 ∙ ap (each (with_tag 2)) star_variants) (omega arith)

start_tree : IsTree 254 (component.Filter start_part) start_net
start_tree = made_tree 253 (component.Filter start_part) start_net (start_part.pattern ∷ [])
    (node-Filter the_boxes (part_of the_boxes 253 the_nets) (parts_of the_boxes 253 the_nets) start_part)
    (variants-Filter the_boxes start_part) (omega arith)

abbrev behind_component : Component
behind_component = component.Serial (Made (component.Filter start_part) ∷ Made split_component ∷ [])

behind_tree : IsTree 255 behind_component behind_net
behind_tree = made_tree 254 behind_component behind_net (start_part.pattern ∷ [])
    (node-Serial the_boxes (part_of the_boxes 254 the_nets) (parts_of the_boxes 254 the_nets) (Made (component.Filter start_part) ∷ Made split_component ∷ [])
    ∙ (λ i. in_series (part_is 254 (component.Filter start_part) start_net start_tree i) (part_is 254 split_component split_net split_tree i)))
    (variants-Serial the_boxes start_net split_net ∙ variants-Filter the_boxes start_part) (omega arith)

call_variants : variants the_boxes call_net ≡ box_variant the_boxes 0 ∷ []
call_variants = ap (variants the_boxes) (sym (net.rolls-Box 90 0)) ∙ fold-roll-Net (List Labels) (variants_step the_boxes) (Net-F.Box 90 0)

call_tree : IsTree 255 call_component call_net
call_tree = made_tree 254 call_component call_net (box_variant the_boxes 0 ∷ []) (node-Box the_boxes (part_of the_boxes 254 the_nets) (parts_of the_boxes 254 the_nets) 90 0)
    call_variants (omega arith)

main_tree : IsTree 256 main_component main_net
main_tree = made_tree 255 main_component main_net (box_variant the_boxes 0 ∷ [])
    (node-Serial the_boxes (part_of the_boxes 255 the_nets) (parts_of the_boxes 255 the_nets) (Made call_component ∷ Made (component.Filter start_part) ∷ Made split_component ∷ [])
    ∙ (λ i. in_series (part_is 255 call_component call_net call_tree i) (behind_tree i)))
    (variants-Serial the_boxes call_net behind_net ∙ call_variants) (omega arith)

main_nodes : nodes main_net ≡ 7
main_nodes =
    let star = nodes-Star 166 Det step_net exit_labels exit_guard in
    let split = nodes-Split 190 Det star_net 2 in
    let step = nodes-Filter step_part in
    let start = nodes-Filter start_part in
    let behind = nodes-Serial start_net split_net in
    let call = nodes-Box 90 0 in
    let whole = nodes-Serial call_net behind_net in
    omega arith

abbrev pub the_claim : Claim
the_claim = record { place = 44; net = main_net; input = variant_at the_names input_variant ∷ []; output = variant_at the_names output_variant ∷ [] }

abbrev pub the_parts : Parts
the_parts = record { names = the_names; boxes = the_boxes; claims = the_claim ∷ []; main = 0 }

-- a tree whose nodes find room fits
fits : (room : ℕ) (defined : Option Net) (t : Net) → defined ≡ Some t → nodes t ≤ room → fitting room defined ≡ Some t
fits room defined t is few = ap (fitting room) is ∙ ap (λ b. cond b (Some t) None) (le-leb (nodes t) room few)

main_found : tree_of the_boxes the_nets 0 ≡ Some main_net
main_found = tree_at the_boxes the_nets 0 main_component (omega arith) refl ∙ main_tree

main_fits : fitting most_nodes (tree_of the_boxes the_nets 0) ≡ Some main_net
main_fits = fits most_nodes (tree_of the_boxes the_nets 0) main_net main_found (let count = main_nodes in omega arith)

-- one claim whose tree fits, and a program that has no other
one_claim : (st : Declarations) (room place number signature : ℕ) (t : Net) → fitting room (tree_of st.boxes st.nets number) ≡ Some t →
    claims_within st room (record { place = place; net = number; signature = signature } ∷ []) ≡ Ok (claim_at st (record { place = place; net = number; signature = signature }) t ∷ [])
one_claim st room place number signature t is =
    ap (λ made. or_refused place made (λ t. led_by (claim_at st (record { place = place; net = number; signature = signature }) t ∷ []) (Ok []))) is

no_refusal : (names : List (List ℕ)) (st : Declarations) (claims : List Claim) → st.refusals ≡ None → st.main ≡ Some 0 → length names ≤ most_names →
    claims_within st most_nodes st.claims ≡ Ok claims → 0 < length claims → unless_refused names st st.refusals ≡ Ok (record { names = names; boxes = st.boxes; claims = claims; main = 0 })
no_refusal names st claims none main few fit some =
    ap (unless_refused names st) none
    ∙ ap (with_main names st) main
    ∙ ap (λ b. cond b (resolved names st.boxes 0 (claims_within st most_nodes st.claims)) (Err TooManyNames)) (le-leb (length names) most_names few)
    ∙ ap (resolved names st.boxes 0) fit
    ∙ ap (λ b. cond b (Ok (record { names = names; boxes = st.boxes; claims = claims; main = 0 })) (Err NoMain)) (lt-ltb 0 (length claims) some)

source_parts : unless_refused the_names declared_all declared_all.refusals ≡ Ok the_parts
source_parts = no_refusal the_names declared_all (the_claim ∷ []) refl refl (omega arith) (one_claim declared_all most_nodes 44 0 0 main_net main_fits) (omega arith)

pub source_resolved : resolution source_tree ≡ Ok the_parts
source_resolved =
    ap (λ names. resolution_under names source_tree) source_names
    ∙ ap (λ st. unless_refused the_names st st.refusals) source_declared
    ∙ source_parts
