use Rattle.sn_sound.proofs.Items.{typed_list_never_stuck, typed_never_stuck}
use Rattle.sn_sound.proofs.laws.no_record_lacks_a_route.Goals as goal

pub returns-clause-lists : goal.returns-clause-lists
returns-clause-lists c = λ s net xs ys formed typed answers. typed_list_never_stuck s net formed xs ys typed answers

pub returns-clause-streams : goal.returns-clause-streams
returns-clause-streams c = λ s net xss yss formed typed answers. typed_never_stuck s net formed xss yss typed answers
