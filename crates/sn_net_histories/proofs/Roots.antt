-- The whole network as a place of its own.
use Rattle.std.proofs.Common.{◌≡◌, ◌∙◌, ℕ, Bool, true, List, [], ◌∷◌, ◌++◌, map, refl, ap}
use Rattle.sn_histories.proofs.Histories.{plain_end}
use Rattle.sn_histories.specs.Entries.{Item, End}
use Rattle.sn_histories.specs.Sites.{Step}
use Rattle.sn_model.specs.Meaning.{tree}
use Rattle.sn_model.specs.Run.{given, setting_of, input_of}
use Rattle.sn_model.specs.declared.run.Run.{Run}
use Rattle.sn_net.specs.declared.net.Net.{Net}
use Rattle.sn_net.specs.declared.net.Net.TheOpen.{Net-F}
use Rattle.sn_net.specs.declared.net.Net.TheFolds.{fold_out-Net, map-Net}
use Rattle.sn_net.specs.declared.net.Net.TheViews.{out-Net}
use Rattle.sn_net_histories.specs.Histories.{leads_step, leads_somewhere}
use Rattle.sn_net_histories.specs.Places.{history_at, root_at}
use Rattle.sn_net_histories.specs.declared.place.Port.TheVariants as port

-- no steps stay at the network
no_step : (depth : ℕ) (layer : Net-F (List Step → Bool)) → leads_step depth layer [] ≡ true
no_step depth (Net-F.Box place number) = refl
no_step depth (Net-F.Filter filter) = refl
no_step depth (Net-F.Sync place patterns) = refl
no_step depth (Net-F.Serial left right) = refl
no_step depth (Net-F.Choice place merge branches faces) = refl
no_step depth (Net-F.Star place merge body exit guard) = refl
no_step depth (Net-F.Split place merge body id) = refl

pub root_leads : (depth : ℕ) (net : Net) → leads_somewhere depth net [] ≡ true
root_leads depth net =
    ap (λ leads. leads []) (fold_out-Net (List Step → Bool) (leads_step depth) net) ∙ no_step depth (map-Net _ _ (leads_somewhere depth) (out-Net net))

pub root_comes : (run : Run) → history_at run (root_at port.In) ≡ map Item (input_of run) ++ (End ∷ [])
root_comes run = refl

pub root_leaves : (run : Run) → history_at run (root_at port.Out) ≡ map Item (given run) ++ (End ∷ [])
root_leaves run = plain_end (tree (setting_of run) run.net) (input_of run)
