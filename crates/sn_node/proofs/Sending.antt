-- Sending nothing changes nothing.
use Rattle.std.proofs.Common.{◌≡◌, ℕ, zero, suc, List, [], ◌∷◌, refl, ap, append-nil}
use Rattle.sn_view.specs.View.{Node, Child, View, Target, Out, ToNode, ToChild, changed_at, waits_more, keeps_more, child_gives}
use Rattle.sn_view.specs.Next.{send}

changed-id : {X : Type 0} (f : X → X) → ((x : X) → f x ≡ x) → (i : ℕ) (xs : List X) → changed_at i f xs ≡ xs
changed-id f same i [] = refl
changed-id f same zero (x ∷ xs) = ap (λ y. y ∷ xs) (same x)
changed-id f same (suc i) (x ∷ xs) = ap (λ ys. x ∷ ys) (changed-id f same i xs)

waits-nil : (n : Node) → waits_more [] n ≡ n
waits-nil n = ap (λ ws. record n { waiting = ws }) (append-nil n.waiting)

keeps-nil : (c : Child) → keeps_more [] c ≡ c
keeps-nil c = ap (λ es. record c { kept = es }) (append-nil c.kept)

gives-nil : (c : ℕ) (n : Node) → child_gives c [] n ≡ n
gives-nil c n = ap (λ cs. record n { children = cs }) (changed-id (keeps_more []) keeps-nil c n.children)

pub send-nil : (t : Target) (g : View) → send t [] g ≡ g
send-nil Out g = ap (λ es. record g { ready = es }) (append-nil g.ready)
send-nil (ToNode n) g = ap (λ ns. record g { nodes = ns }) (changed-id (waits_more []) waits-nil n g.nodes)
send-nil (ToChild n c) g = ap (λ ns. record g { nodes = ns }) (changed-id (child_gives c []) (gives-nil c) n g.nodes)
