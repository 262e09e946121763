use Rattle.std.proofs.Common.{refl, rules}
use Rattle.sn_net.specs.declared.net.Net.TheViews.{the_lemmas}
use Rattle.sn_net.specs.declared.net.Net.TheVariants as form
use Rattle.sn_flow.proofs.Formed.{left_formed, right_formed, split_formed, star_formed}
use Rattle.sn_plan.specs.Used.{is_used}
use Rattle.sn_plan.proofs.Trims.{box_trims, choice_result, filter_trims, kept_fit, left_at, right_at, serial_trims, split_at, split_trims, star_at, star_trims, sync_trims}
use Rattle.sn_plan.proofs.trimming.+trimming.Goals as goal

pub trim-trim_part-requires : goal.trim-trim_part-requires
trim-trim_part-requires t c = (search (rules, the_lemmas), left_formed c.args.boxes.now c.args.net c.requires c.in-Serial.left c.in-Serial.right c.in-Serial.left c.in-Serial.is refl)

pub trim-trim_part-requires-in-Serial : goal.trim-trim_part-requires-in-Serial
trim-trim_part-requires-in-Serial t c = (search (rules, the_lemmas), right_formed c.args.boxes.now c.args.net c.requires c.in-Serial.left c.in-Serial.right c.in-Serial.right c.in-Serial.is refl)

pub trim-choice_of-requires : goal.trim-choice_of-requires
trim-choice_of-requires t c =
    kept_fit c.args.boxes.now c.args.net c.in-Choice.place c.in-Choice.merge c.in-Choice.branches c.in_ok-branches-in-Choice.branches c.in-Choice._faces (is_used c.args.table.now) c.requires c.in-Choice.is c.in_ok-branches-in-Choice.ensures

pub trim-trim_part-requires-in-Star : goal.trim-trim_part-requires-in-Star
trim-trim_part-requires-in-Star t c =
    (search (rules, the_lemmas), star_formed c.args.boxes.now c.args.net c.requires c.in-Star.place c.in-Star.merge c.in-Star.body c.in-Star.exit c.in-Star.guard c.in-Star.body c.in-Star.is refl)

pub trim-trim_part-requires-in-Split : goal.trim-trim_part-requires-in-Split
trim-trim_part-requires-in-Split t c =
    (search (rules, the_lemmas), split_formed c.args.boxes.now c.args.net c.requires c.in-Split.place c.in-Split.merge c.in-Split.body c.in-Split.tag c.in-Split.body c.in-Split.is refl)

pub trim-returns-in-Box : goal.trim-returns-in-Box
trim-returns-in-Box t c = λ root input way stands.
    box_trims c.args.boxes.now root input way c.args.net (form.Box c.in-Box.place c.in-Box.number) c.args.table.now c.in-Box.place c.in-Box.number c.in-Box.is refl

pub trim-returns-in-Filter : goal.trim-returns-in-Filter
trim-returns-in-Filter t c = λ root input way stands.
    filter_trims c.args.boxes.now root input way c.args.net (form.Filter c.in-Filter.filter) c.args.table.now c.in-Filter.filter c.in-Filter.is refl

pub trim-returns-in-Sync : goal.trim-returns-in-Sync
trim-returns-in-Sync t c = λ root input way stands.
    sync_trims c.args.boxes.now root input way c.args.net (form.Sync c.in-Sync.place c.in-Sync.patterns) c.args.table.now c.in-Sync.place c.in-Sync.patterns c.in-Sync.is refl

pub trim-returns-in_ok-right-in-Serial : goal.trim-returns-in_ok-right-in-Serial
trim-returns-in_ok-right-in-Serial t c = λ root input way stands.
    let made = form.Serial c.in_ok-left-in-Serial.left c.in_ok-right-in-Serial.right in
    serial_trims c.args.boxes.now root input way c.args.net made c.args.table.now c.in-Serial.left c.in_ok-left-in-Serial.left c.in-Serial.right c.in_ok-right-in-Serial.right c.in-Serial.is refl
    (c.in_ok-left-in-Serial.ensures root input _ (left_at c.args.boxes.now root input way c.args.net made c.args.table.now c.in-Serial.left c.in-Serial.right c.in-Serial.is stands))
    (c.in_ok-right-in-Serial.ensures root input _ (right_at c.args.boxes.now root input way c.args.net made c.args.table.now c.in-Serial.left c.in-Serial.right c.in-Serial.is stands))

pub trim-returns-in_ok-branches-in-Choice : goal.trim-returns-in_ok-branches-in-Choice
trim-returns-in_ok-branches-in-Choice t c = λ root input way stands.
    choice_result c.args.boxes.now root input way c.args.net c.args.table.now c.choice_of.result c.in-Choice.place c.in-Choice.merge c.in-Choice.branches c.in_ok-branches-in-Choice.branches c.in-Choice._faces
    c.in-Choice.is c.in_ok-branches-in-Choice.ensures c.choice_of.ensures stands

pub trim-returns-in_ok-body-in-Star : goal.trim-returns-in_ok-body-in-Star
trim-returns-in_ok-body-in-Star t c = λ root input way stands.
    let made = form.Star c.in-Star.place c.in-Star.merge c.in_ok-body-in-Star.body c.in-Star.exit c.in-Star.guard in
    star_trims c.args.boxes.now root input way c.args.net made c.args.table.now c.in-Star.place c.in-Star.merge c.in-Star.body c.in_ok-body-in-Star.body c.in-Star.exit c.in-Star.guard c.in-Star.is refl
    (c.in_ok-body-in-Star.ensures root input _ (star_at c.args.boxes.now root input way c.args.net made c.args.table.now c.in-Star.place c.in-Star.merge c.in-Star.body c.in-Star.exit c.in-Star.guard c.in-Star.is stands))

pub trim-returns-in_ok-body-in-Split : goal.trim-returns-in_ok-body-in-Split
trim-returns-in_ok-body-in-Split t c = λ root input way stands.
    let made = c.split_of.result in
    split_trims c.args.boxes.now root input way c.args.net made c.args.table.now c.in-Split.place c.in-Split.merge c.in-Split.body c.in_ok-body-in-Split.body c.in-Split.tag c.in-Split.is c.split_of.ensures
    (c.in_ok-body-in-Split.ensures root input _ (split_at c.args.boxes.now root input way c.args.net made c.args.table.now c.in-Split.place c.in-Split.merge c.in-Split.body c.in-Split.tag c.in-Split.is stands))
