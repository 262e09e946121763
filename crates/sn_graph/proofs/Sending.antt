-- Entries sent one after another.
use Rattle.std.proofs.Common.{◌≡◌, ℕ, zero, suc, List, [], ◌∷◌, ◌++◌, refl, sym, ap, ◌∙◌, append_assoc, append-nil}
use Rattle.std.proofs.lemmas.List.{map-append}
use Rattle.sn_net.specs.Item.{ModelItem}
use Rattle.sn_view.specs.View.{Entry, Plain, Waiting, Node, Child, View, Target, Out, ToNode, ToChild, changed_at, at_node, waits_more, keeps_more, child_gives}
use Rattle.sn_view.specs.Next.{send, plain}

pub changed-id : {X : Type 0} (f : X → X) → ((x : X) → f x ≡ x) → (i : ℕ) (xs : List X) → changed_at i f xs ≡ xs
changed-id f same i [] = refl
changed-id f same zero (x ∷ xs) = ap (λ y. y ∷ xs) (same x)
changed-id f same (suc i) (x ∷ xs) = ap (λ ys. x ∷ ys) (changed-id f same i xs)

pub changed-twice : {X : Type 0} (f g h : X → X) → ((x : X) → g (f x) ≡ h x) → (i : ℕ) (xs : List X) → changed_at i g (changed_at i f xs) ≡ changed_at i h xs
changed-twice f g h same i [] = refl
changed-twice f g h same zero (x ∷ xs) = ap (λ y. y ∷ xs) (same x)
changed-twice f g h same (suc i) (x ∷ xs) = ap (λ ys. x ∷ ys) (changed-twice f g h same i xs)

waits-nil : (n : Node) → waits_more [] n ≡ n
waits-nil n = ap (λ ws. record n { waiting = ws }) (append-nil n.waiting)

keeps-nil : (c : Child) → keeps_more [] c ≡ c
keeps-nil c = ap (λ es. record c { kept = es }) (append-nil c.kept)

gives-nil : (c : ℕ) (n : Node) → child_gives c [] n ≡ n
gives-nil c n = ap (λ cs. record n { children = cs }) (changed-id (keeps_more []) keeps-nil c n.children)

-- sending nothing
pub send-nil : (t : Target) (g : View) → send t [] g ≡ g
send-nil Out g = ap (λ es. record g { ready = es }) (append-nil g.ready)
send-nil (ToNode n) g = ap (λ ns. record g { nodes = ns }) (changed-id (waits_more []) waits-nil n g.nodes)
send-nil (ToChild n c) g = ap (λ ns. record g { nodes = ns }) (changed-id (child_gives c []) (gives-nil c) n g.nodes)

waits-append : (a b : List Waiting) (n : Node) → waits_more b (waits_more a n) ≡ waits_more (a ++ b) n
waits-append a b n = ap (λ ws. record n { waiting = ws }) (append_assoc n.waiting a b)

keeps-append : (a b : List (Entry ModelItem)) (c : Child) → keeps_more b (keeps_more a c) ≡ keeps_more (a ++ b) c
keeps-append a b c = ap (λ es. record c { kept = es }) (append_assoc c.kept a b)

gives-append : (c : ℕ) (a b : List (Entry ModelItem)) (n : Node) → child_gives c b (child_gives c a n) ≡ child_gives c (a ++ b) n
gives-append c a b n = ap (λ cs. record n { children = cs }) (changed-twice (keeps_more a) (keeps_more b) (keeps_more (a ++ b)) (keeps-append a b) c n.children)

-- sending one list after another
pub send-append : (t : Target) (a b : List (Entry ModelItem)) (g : View) → send t b (send t a g) ≡ send t (a ++ b) g
send-append Out a b g = ap (λ es. record g { ready = es }) (append_assoc g.ready a b)
send-append (ToNode n) a b g =
    ap (λ ns. record g { nodes = ns }) (changed-twice (waits_more (plain a)) (waits_more (plain b)) (waits_more (plain a ++ plain b)) (waits-append (plain a) (plain b)) n g.nodes)
    ∙ ap (λ ws. at_node n (waits_more ws) g) (sym (map-append (λ entry. Plain entry) a b))
send-append (ToChild n c) a b g =
    ap (λ ns. record g { nodes = ns }) (changed-twice (child_gives c a) (child_gives c b) (child_gives c (a ++ b)) (gives-append c a b) n g.nodes)
