-- Demand 1 holds.
-- Assumes nothing.
use mathlib.Core.Path.{ap, ◌∙◌}
use Rattle.spi.specs.Talk.{asks}
use Rattle.call.specs.Outcome.{ended}
use Rattle.driver.specs.Demand1.{after, FollowsTalk, Demand1}
use Rattle.driver.proofs.Runs.{follows, run_talk, outcome_talk}
use Rattle.driver.proofs.Ends.{turns_fall_lem, over_at_none_lem, every_call_ends_lem}
use Rattle.driver.proofs.Nodes.{over_agrees_lem, wrong_answers_lem}
use Rattle.driver.proofs.Keeps.{refused_keeps_lem, finish_keeps_lem}
use Rattle.driver.proofs.Starts.{starts_as_talk_lem, refuses_first_lem}
use Rattle.driver.proofs.Exchanges.{addresses_below_lem, exchanges_fit_lem, room_enough_lem}

follows_talk_lem : FollowsTalk
follows_talk_lem call xs =
    (follows.asked (after call xs) ∙ ap asks (run_talk call xs), outcome_talk (after call xs) ∙ ap (ended (λ o. o)) (run_talk call xs))

pub demand1 : Demand1
demand1 = record {
  turns_fall = turns_fall_lem;
  over_at_none = over_at_none_lem;
  every_call_ends = every_call_ends_lem;
  over_agrees = over_agrees_lem;
  refused_keeps = refused_keeps_lem;
  finish_keeps = finish_keeps_lem;
  refuses_first = refuses_first_lem;
  wrong_answers = wrong_answers_lem;
  starts_as_talk = starts_as_talk_lem;
  follows_talk = follows_talk_lem;
  addresses_below = addresses_below_lem;
  exchanges_fit = exchanges_fit_lem;
  room_enough = room_enough_lem;
}
