-- What the variants of a network are, form by form.
use Rattle.std.proofs.Common.{◌≡◌, ℕ, ◌<◌, ◌≤◌, Bool, IsTrue, List, [], ◌∷◌, ◌++◌, length, get_or, take, map, sym, ap, ◌∙◌, subst}
use Rattle.std.specs.List.{flat_map, list_all}
use Rattle.std.proofs.lemmas.List.{append_assoc, take_all}
use Rattle.std.proofs.lemmas.List.Folds.{list_all-map}
use Rattle.std.proofs.lemmas.List.Sums.{AllPass-from_list_all}
use Rattle.sn_record.specs.LabelSet.{Labels}
use Rattle.sn_tagexpr.specs.declared.expr.TagExpr.{TagExpr}
use Rattle.std.specs.Prelude.{Option}
use Rattle.sn_net.specs.declared.expr.BoxProgram.{BoxProgram}
use Rattle.sn_net.specs.declared.filter.Filter.{Filter}
use Rattle.sn_net.specs.declared.net.Merge.{Merge}
use Rattle.sn_net.specs.declared.net.Net.{Net}
use Rattle.sn_net.specs.declared.net.Net.TheOpen.{Net-F}
use Rattle.sn_net.specs.declared.net.Net.TheFolds.{fold-roll-Net}
use Rattle.sn_net.specs.declared.net.Net.TheVariants.{Filter as FilterLeaf, Sync, Serial, Choice, Star, Split, rolls-Filter, rolls-Sync, rolls-Serial, rolls-Choice, rolls-Star, rolls-Split}
use Rattle.sn_net.specs.Face.{variants, variants_step, with_tag, is_numbered, numbered_step}

-- a filter has its pattern
pub variants-Filter : (boxes : List BoxProgram) (filter : Filter) → variants boxes (FilterLeaf filter) ≡ filter.pattern ∷ []
variants-Filter boxes filter = ap (variants boxes) (sym (rolls-Filter filter)) ∙ fold-roll-Net (List Labels) (variants_step boxes) (Net-F.Filter filter)

-- a synchrocell has its patterns
pub variants-Sync : (boxes : List BoxProgram) (place : ℕ) (patterns : List Labels) → variants boxes (Sync place patterns) ≡ patterns
variants-Sync boxes place patterns = ap (variants boxes) (sym (rolls-Sync place patterns)) ∙ fold-roll-Net (List Labels) (variants_step boxes) (Net-F.Sync place patterns)

-- networks in series have those of the left one
pub variants-Serial : (boxes : List BoxProgram) (left right : Net) → variants boxes (Serial left right) ≡ variants boxes left
variants-Serial boxes left right = ap (variants boxes) (sym (rolls-Serial left right)) ∙ fold-roll-Net (List Labels) (variants_step boxes) (Net-F.Serial left right)

-- a choice has those of its branches, one after the other
pub variants-Choice : (boxes : List BoxProgram) (place : ℕ) (merge : Merge) (branches : List Net) (faces : List (List Labels))
    → variants boxes (Choice place merge branches faces) ≡ flat_map (λ branch. branch) (map (variants boxes) branches)
variants-Choice boxes place merge branches faces =
    ap (variants boxes) (sym (rolls-Choice place merge branches faces)) ∙ fold-roll-Net (List Labels) (variants_step boxes) (Net-F.Choice place merge branches faces)

-- a star has those of its body, and its exit pattern
pub variants-Star : (boxes : List BoxProgram) (place : ℕ) (merge : Merge) (body : Net) (exit : Labels) (guard : Option TagExpr)
    → variants boxes (Star place merge body exit guard) ≡ variants boxes body ++ exit ∷ []
variants-Star boxes place merge body exit guard =
    ap (variants boxes) (sym (rolls-Star place merge body exit guard)) ∙ fold-roll-Net (List Labels) (variants_step boxes) (Net-F.Star place merge body exit guard)

-- a split has those of its body, with the tag added
pub variants-Split : (boxes : List BoxProgram) (place : ℕ) (merge : Merge) (body : Net) (id : ℕ) → variants boxes (Split place merge body id) ≡ map (with_tag id) (variants boxes body)
variants-Split boxes place merge body id =
    ap (variants boxes) (sym (rolls-Split place merge body id)) ∙ fold-roll-Net (List Labels) (variants_step boxes) (Net-F.Split place merge body id)

-- a choice names boxes that there are where each branch does
pub numbered-Choice : (boxes : List BoxProgram) (place : ℕ) (merge : Merge) (branches : List Net) (faces : List (List Labels))
    → is_numbered boxes (Choice place merge branches faces) ≡ list_all (is_numbered boxes) branches
numbered-Choice boxes place merge branches faces =
    ap (is_numbered boxes) (sym (rolls-Choice place merge branches faces)) ∙ fold-roll-Net Bool (numbered_step (length boxes)) (Net-F.Choice place merge branches faces)
    ∙ list_all-map (λ branch. branch) (is_numbered boxes) branches

-- a split does where its body does
pub numbered-Split : (boxes : List BoxProgram) (place : ℕ) (merge : Merge) (body : Net) (id : ℕ) → is_numbered boxes (Split place merge body id) ≡ is_numbered boxes body
numbered-Split boxes place merge body id =
    ap (is_numbered boxes) (sym (rolls-Split place merge body id)) ∙ fold-roll-Net Bool (numbered_step (length boxes)) (Net-F.Split place merge body id)

-- each branch of a choice that names boxes that there are does so
pub branch_numbered : (boxes : List BoxProgram) (net : Net) (place : ℕ) (merge : Merge) (branches items : List Net) (faces : List (List Labels)) (i : ℕ) (branch : Net)
    → net ≡ Choice place merge branches faces → items ≡ branches → IsTrue (is_numbered boxes net) → i < length items → branch ≡ get_or items i branch → IsTrue (is_numbered boxes branch)
branch_numbered boxes net place merge branches items faces i branch is same numbered within at_i =
    let each_one : IsTrue (list_all (is_numbered boxes) branches) = sym (numbered-Choice boxes place merge branches faces) ∙ ap (is_numbered boxes) (sym is) ∙ numbered in
    ap (is_numbered boxes) (at_i ∙ ap (λ nets. get_or nets i branch) same) ∙ AllPass-from_list_all (is_numbered boxes) branches each_one i branch (subst (λ nets. i < length nets) same within)

-- what was added for the first branches, once there are no more
pub all_branches : (boxes : List BoxProgram) (net : Net) (place : ℕ) (merge : Merge) (branches items : List Net) (faces : List (List Labels)) (i : ℕ) (before : List Labels)
    → net ≡ Choice place merge branches faces → items ≡ branches → length items ≤ i
    → before ++ flat_map (λ branch. branch) (map (variants boxes) (take i items)) ≡ before ++ variants boxes net
all_branches boxes net place merge branches items faces i before is same past =
    ap (λ nets. before ++ flat_map (λ branch. branch) (map (variants boxes) nets)) (take_all i items past ∙ same)
    ∙ ap (λ sets. before ++ sets) (sym (variants-Choice boxes place merge branches faces) ∙ ap (variants boxes) (sym is))

-- what was added for the body of a star, and its exit pattern
pub body_and_exit : (boxes : List BoxProgram) (net : Net) (place : ℕ) (merge : Merge) (body part : Net) (exit : Labels) (guard : Option TagExpr) (before after : List Labels)
    → net ≡ Star place merge body exit guard → part ≡ body → after ≡ before ++ variants boxes part → after ++ exit ∷ [] ≡ before ++ variants boxes net
body_and_exit boxes net place merge body part exit guard before after is same added =
    ap (λ sets. sets ++ exit ∷ []) (added ∙ ap (λ n. before ++ variants boxes n) same) ∙ append_assoc before (variants boxes body) (exit ∷ [])
    ∙ ap (λ sets. before ++ sets) (sym (variants-Star boxes place merge body exit guard) ∙ ap (variants boxes) (sym is))
