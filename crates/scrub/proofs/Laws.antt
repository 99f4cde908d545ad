-- Every law of scrub steps is proved.
-- Assumes nothing.
use Prim.Native.Nat.{zero, suc, ◌+◌}
use mathlib.Core.Path.{refl, ap}
use Rattle.spi.specs.declared.refusal.Refusal.{Refusal}
use Rattle.spi.specs.declared.ask.Ask.{Ask}
use Rattle.spi.specs.Reply.{crc_reply}
use Rattle.spi.specs.Talk.{Talk, done, refused, ask, on_checked}
use Rattle.call.specs.declared.Outcome.{Outcome}
use Rattle.register.specs.Talk.{checked_talk}
use Rattle.scrub.specs.Talk.{checked_by}
use Rattle.scrub.specs.Laws.{ChecksAsRead, Laws}
use Rattle.scrub.proofs.Words.{agrees_bits_lem, rewritten_bits_lem}
use Rattle.scrub.proofs.Runs.{seven}
use Rattle.scrub.proofs.Counts.{tells_as_read_lem}
use Rattle.scrub.proofs.Visits.{moves, waits, stays, never_refused_lem, visits}

checks_as_read_lem : ChecksAsRead
unfolding checked_by checked_talk
checks_as_read_lem address count zero = refl
checks_as_read_lem address count (suc left) =
    ap (λ (t : Talk Outcome). ask (Ask.Checked address) (λ a rx. on_checked refused (crc_reply Refusal.SpiRead address a rx) t (λ w. done (Outcome.Checked w count))))
    (checks_as_read_lem address (count + 1) left)

pub laws : Laws
laws = record {
  agrees_bits = agrees_bits_lem;
  rewritten_bits = rewritten_bits_lem;
  checks_as_read = checks_as_read_lem;
  tells_as_read = tells_as_read_lem;
  seven = seven;
  moves = moves;
  waits = waits;
  stays = stays;
  never_refused = never_refused_lem;
  visits = visits;
}
