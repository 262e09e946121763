-- An item that waits at a fork has a route there.
use Rattle.std.proofs.Common.{◌≡◌, [], ◌∷◌, ◌++◌, sym, ap, ◌∙◌, subst, append_assoc}
use Rattle.std.proofs.lemmas.Option.{same_Some}
use Rattle.sn_streams.specs.Forks.{Router}
use Rattle.sn_streams.specs.Trees.{Fork}
use Rattle.sn_histories.specs.Entries.{Item}
use Rattle.sn_histories.specs.Histories.{In}
use Rattle.sn_net.specs.Item.{ModelItem, modelled}
use Rattle.sn_net.specs.declared.net.Net.{Net}
use Rattle.sn_net.specs.declared.net.Net.TheViews.{out-Net}
use Rattle.sn_net.specs.declared.routing.Key.TheVariants as key
use Rattle.sn_net_histories.specs.Histories.{IsAtRun, history}
use Rattle.sn_routed.proofs.Coming.{has_key}
use Rattle.sn_stream.specs.Ends.{passed}
use Rattle.sn_fork.specs.Facts.{Forks, Wants, key_in, place_in, steps_to}
use Rattle.sn_fork.specs.Seen.{Forking}

pub never_stuck : (f : Forking) → Forks f → Wants f key.Stuck → ⊥
never_stuck f forks (net, item, there, waits, stuck) =
    let s = forks.stands in
    let same : net ≡ s.net = same_Some net s.net (sym there ∙ s.there) in
    let comes : history f.run (steps_to f) In ≡ forks.received ++ (Item (modelled item) ∷ forks.begins.0) =
    sym s.comes ∙ sym forks.begins.1 ∙ ap (λ l. l ++ forks.begins.0) (forks.got ∙ ap (λ l. forks.received ++ passed l) waits)
    ∙ append_assoc forks.received (Item (modelled item) ∷ []) forks.begins.0 in
    has_key f.run (steps_to f) s.merge (place_in (out-Net s.net)) (key_in f.left (out-Net s.net)) s.child s.seg forks.received forks.begins.0 (modelled item)
    (subst (λ (r : Router ModelItem). IsAtRun f.run (steps_to f) (record { part = Fork s.merge r s.child; seg = s.seg })) s.routes s.at) comes
    (ap (λ (n : Net). key_in f.left (out-Net n) (modelled item)) (sym same) ∙ stuck)
