-- What flows within a network, as items of the model.
use Rattle.sn_net.specs.Item.{ModelItem, Rec, Fault, Stuck}
use Rattle.sn_pass.specs.declared.flowing.Flowing.{Flowing}
use Rattle.sn_pass.specs.declared.flowing.Flowing.TheVariants as flowing

abbrev pub flows : Flowing → ModelItem
flows (flowing.Rec r) = Rec r
flows (flowing.Fault fault) = Fault fault
flows (flowing.Stuck place) = Stuck place
