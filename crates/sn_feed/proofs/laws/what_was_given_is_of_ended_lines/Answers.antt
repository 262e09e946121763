use Rattle.sn_feed.proofs.Ended.{so_far}
use Rattle.sn_feed.proofs.laws.what_was_given_is_of_ended_lines.Goals as goal

pub returns : goal.returns
returns c = λ run claim names bytes feed items answers. so_far run claim names bytes feed items answers
