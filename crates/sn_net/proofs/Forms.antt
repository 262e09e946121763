-- The face of each form of network, by the faces of its parts.
use Rattle.std.proofs.Common.{◌≡◌, ℕ, List, [], ◌∷◌, ◌++◌, map, refl, sym, ap, ◌∙◌}
use Rattle.std.specs.Prelude.{Option}
use Rattle.std.specs.List.{All, flat_map}
use Rattle.std.proofs.lemmas.List.Elements.{All-head, All-tail}
use Rattle.sn_record.specs.LabelSet.{Labels}
use Rattle.sn_tagexpr.specs.declared.expr.TagExpr.{TagExpr}
use Rattle.sn_net.specs.declared.expr.BoxProgram.{BoxProgram}
use Rattle.sn_net.specs.declared.faced.Faced.{Faced}
use Rattle.sn_net.specs.declared.filter.Filter.{Filter}
use Rattle.sn_net.specs.declared.net.Merge.{Merge}
use Rattle.sn_net.specs.declared.net.Net.{Net}
use Rattle.sn_net.specs.declared.net.Net.TheVariants.{Filter as FilterLeaf, Sync, Serial, Choice, Star, Split}
use Rattle.sn_net.specs.Face.{variants, with_tag, ascending, face}
use Rattle.sn_net.specs.Faced.{IsFaced, net_of, face_of}
use Rattle.sn_net.proofs.SortedSets.{HoldAlike, alike-append, alike-map, ascending-alike, ascending-settled, ascending-one}
use Rattle.sn_net.proofs.Variants.{variants-Filter, variants-Sync, variants-Serial, variants-Choice, variants-Star, variants-Split}

pub face-Filter : (boxes : List BoxProgram) (filter : Filter) → face boxes (FilterLeaf filter) ≡ filter.pattern ∷ []
face-Filter boxes filter = ap ascending (variants-Filter boxes filter) ∙ ascending-one filter.pattern

pub face-Sync : (boxes : List BoxProgram) (place : ℕ) (patterns : List Labels) → face boxes (Sync place patterns) ≡ ascending patterns
face-Sync boxes place patterns = ap ascending (variants-Sync boxes place patterns)

pub face-Serial : (boxes : List BoxProgram) (left right : Net) → face boxes (Serial left right) ≡ face boxes left
face-Serial boxes left right = ap ascending (variants-Serial boxes left right)

-- the faces of networks hold what their variants do
faces_alike : (boxes : List BoxProgram) (nets : List Net) → HoldAlike (flat_map (λ sets. sets) (map (face boxes) nets)) (flat_map (λ sets. sets) (map (variants boxes) nets))
faces_alike boxes [] = λ test. refl
faces_alike boxes (net ∷ nets) = alike-append (face boxes net) (variants boxes net) _ _ (ascending-alike (variants boxes net)) (faces_alike boxes nets)

pub face-Choice : (boxes : List BoxProgram) (place : ℕ) (merge : Merge) (branches : List Net) (faces : List (List Labels))
    → face boxes (Choice place merge branches faces) ≡ ascending (flat_map (λ sets. sets) (map (face boxes) branches))
face-Choice boxes place merge branches faces =
    ap ascending (variants-Choice boxes place merge branches faces) ∙ sym (ascending-settled _ _ (faces_alike boxes branches))

pub face-Star : (boxes : List BoxProgram) (place : ℕ) (merge : Merge) (body : Net) (exit : Labels) (guard : Option TagExpr)
    → face boxes (Star place merge body exit guard) ≡ ascending (face boxes body ++ exit ∷ [])
face-Star boxes place merge body exit guard =
    ap ascending (variants-Star boxes place merge body exit guard)
    ∙ sym (ascending-settled _ _ (alike-append (face boxes body) (variants boxes body) (exit ∷ []) (exit ∷ []) (ascending-alike (variants boxes body)) (λ test. refl)))

pub face-Split : (boxes : List BoxProgram) (place : ℕ) (merge : Merge) (body : Net) (id : ℕ) → face boxes (Split place merge body id) ≡ ascending (map (with_tag id) (face boxes body))
face-Split boxes place merge body id =
    ap ascending (variants-Split boxes place merge body id)
    ∙ sym (ascending-settled _ _ (alike-map (with_tag id) (face boxes body) (variants boxes body) (ascending-alike (variants boxes body))))

-- what stands beside networks is the face of each
pub all_faced : (boxes : List BoxProgram) (branches : List Faced) → All (IsFaced boxes) branches → map face_of branches ≡ map (face boxes) (map net_of branches)
all_faced boxes [] faced = refl
all_faced boxes (branch ∷ branches) faced =
    λ i. All-head (IsFaced boxes) branch branches faced i ∷ all_faced boxes branches (All-tail (IsFaced boxes) branch branches faced) i
