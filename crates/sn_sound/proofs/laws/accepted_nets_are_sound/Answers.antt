use Rattle.sn_sound.proofs.Items.{accepted_is_sound, accepted_list_is_sound}
use Rattle.sn_sound.proofs.laws.accepted_nets_are_sound.Goals as goal

pub returns-clause-lists : goal.returns-clause-lists
returns-clause-lists c = λ s claim xs ys formed accepted typed answers. accepted_list_is_sound s claim formed accepted xs ys typed answers

pub returns-clause-streams : goal.returns-clause-streams
returns-clause-streams c = λ s claim xss yss formed accepted typed answers. accepted_is_sound s claim formed accepted xss yss typed answers
