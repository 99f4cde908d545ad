-- The machine of the code follows the talk, and ends as it does.
-- Assumes nothing.
use mathlib.Core.Path.{◌≡◌, refl, ap, ◌∙◌}
use mathlib.Core.Bool.{Bool, true, false}
use mathlib.Core.List.{List}
use Prim.Native.Nat.{ℕ, ◌+◌}
use lib.ListN.{length}
use lib.Dec.{eqb, ltb, leb}
use borrow.Author.Tests.{eqb-true}
use Rattle.std.specs.Prelude.{if◌then◌else◌, Result}
use Rattle.laws.proofs.Choice.{by_if}
use Rattle.field.specs.Field.{flag}
use Rattle.fifo.specs.Control.{TXEN, RXTSEN, payload_of, is_fifo}
use Rattle.fifo.specs.Status.{TFNRFNIF}
use Rattle.words.specs.Words.{round_up}
use Rattle.parts.specs.Parts.{put}
use Rattle.spi.specs.declared.refusal.Refusal.{Refusal}
use Rattle.spi.specs.declared.ask.Answer.{Answer}
use Rattle.spi.specs.Ram.{in_range}
use Rattle.spi.specs.Reply.{word_reply, pair_reply, done_reply}
use Rattle.spi.specs.Talk.{Talk, refused, on_done, asks, answered, run, Follows}
use Rattle.spi.proofs.Talks.{if_ap, on_word_lem, on_pair_lem, on_done_lem, runs}
use Rattle.call.specs.declared.Found.{Found}
use Rattle.call.specs.Outcome.{ended}
use Rattle.fetch.specs.declared.Want.{Want}
use Rattle.rx_fifo.specs.Fetch.{Fetch}
use Rattle.fetch.specs.FetchAt.{FetchAt}
use Rattle.rx_fifo.specs.Step.{held_of, held_at, step_of, ask_from, ask_of, first_at, lent_at, has_next_start, lent_start}
use Rattle.fetch.specs.Step.{after_control, after_status, by_status, after_address, after_header, to_time, to_body, after_again, after_time, stamped, after_body, next_at}
use Rattle.rx_fifo.specs.Outcome.{message_of, outcome_at, outcome_of, size_at, filled, filled_by}
use Rattle.rx_fifo.specs.Talk.{Fetched, talk_at, talk_of, held_talk, to_time_talk, to_body_talk, last_talk, has_next_talk, lent_talk, outcome_by, lent_after}
use Rattle.rx_fifo.proofs.Bytes.{held_message}

-- a function goes into a choice, and is known of each way
on_if : {A B : Type 0} (f : A → B) (b : Bool) (x y : A) (x' y' : B) → f x ≡ x' → f y ≡ y' → f (if b then x else y) ≡ (if b then x' else y')
on_if f true x y x' y' h l = h
on_if f false x y x' y' h l = l

-- ---- each transition

status_talk_lem : (want : Want) (fifo : ℕ) (held : List ℕ) (next : Bool) → talk_at want fifo held (by_status want next) ≡ held_talk want fifo next
status_talk_lem Want.HasNext fifo held next = refl
status_talk_lem Want.Peek fifo held next = if_ap (talk_at Want.Peek fifo held) next _ _
status_talk_lem Want.Get fifo held next = if_ap (talk_at Want.Get fifo held) next _ _

last_talk_lem : (want : Want) (fifo : ℕ) (held : List ℕ) (f : Found) → talk_at want fifo held (after_body want f) ≡ last_talk want fifo (message_of f held)
last_talk_lem Want.HasNext fifo held f = refl
last_talk_lem Want.Peek fifo held f = refl
last_talk_lem Want.Get fifo held f = refl

module _ (want : Want) (fifo : ℕ) (held : List ℕ) where
  abbrev to : FetchAt → Talk Fetched
  to = talk_at want fifo held

  time_talk_lem : (x : ℕ) (f : Found) → to (to_time x f) ≡ to_time_talk want fifo x f
  unfolding to_time
  time_talk_lem x f = if_ap to (in_range x 4) _ _

  body_talk_lem : (x : ℕ) (f : Found) → to (to_body x f) ≡ to_body_talk want fifo x f
  unfolding to_body
  body_talk_lem x f = if_ap to (in_range x (round_up f.len)) _ _

  -- the payload's answer is held where it has the length that was asked for
  held_talk_lem : (f : Found) (a : Answer) (rx : List ℕ)
      → talk_at want fifo (held_of held rx) (on_done FetchAt.Refused (done_reply Refusal.SpiRead a (length rx) (round_up f.len)) (after_body want f))
      ≡ on_done refused (done_reply Refusal.SpiRead a (length rx) (round_up f.len)) (last_talk want fifo (message_of f rx))
  held_talk_lem f Answer.Exchanged rx =
      by_if (λ (d : Result (Unit {0}) Refusal). talk_at want fifo (held_of held rx) (on_done FetchAt.Refused d (after_body want f)) ≡ on_done refused d (last_talk want fifo (message_of f rx)))
      (eqb (length rx) (round_up f.len))
      (λ t. last_talk_lem want fifo (held_of held rx) f ∙ ap (last_talk want fifo) (held_message f held rx (eqb-true _ _ t)))
      (λ t. refl)
  held_talk_lem f Answer.Failed rx = refl
  held_talk_lem f Answer.Waited rx = refl

  -- ---- a step is an answer

  step_talk : (at : FetchAt) (a : Answer) (rx : List ℕ) → talk_at want fifo (held_at at held rx) (next_at want at a rx) ≡ answered (to at) a rx
  unfolding answered after_control after_status after_address after_header after_again after_time
  step_talk FetchAt.Control a rx =
      on_word_lem to FetchAt.Refused refused (λ r. refl) (word_reply Refusal.SpiRead a rx) after_control _ (λ w. if_ap to (flag TXEN w) _ _)
  step_talk FetchAt.Status a rx =
      on_word_lem to FetchAt.Refused refused (λ r. refl) (word_reply Refusal.SpiRead a rx) (after_status want) _ (λ v. status_talk_lem want fifo held (flag TFNRFNIF v))
  step_talk FetchAt.Address a rx =
      on_word_lem to FetchAt.Refused refused (λ r. refl) (word_reply Refusal.SpiRead a rx) after_address _
      (λ u. on_if to (ltb 0xFBFF u) _ _ _ _ refl (if_ap to (in_range (u + 0x400) 8) _ _))
  step_talk (FetchAt.Header m) a rx =
      on_pair_lem to FetchAt.Refused refused (λ r. refl) (pair_reply Refusal.SpiRead a rx) (after_header m) _ (λ a b. refl)
  step_talk (FetchAt.Again m f) a rx =
      on_word_lem to FetchAt.Refused refused (λ r. refl) (word_reply Refusal.SpiRead a rx) (after_again m f) _
      (λ w. on_if to (ltb (payload_of w) f.len) _ _ _ _ refl (on_if to (flag RXTSEN w) _ _ _ _ (time_talk_lem (m + 8) f) (body_talk_lem (m + 8) f)))
  step_talk (FetchAt.Time x f) a rx =
      on_word_lem to FetchAt.Refused refused (λ r. refl) (word_reply Refusal.SpiRead a rx) (after_time x f) _ (λ t. body_talk_lem (x + 4) (stamped f t))
  step_talk (FetchAt.Body x f) a rx = held_talk_lem f a rx
  step_talk (FetchAt.Next f) a rx =
      on_word_lem to FetchAt.Refused refused (λ r. refl) (word_reply Refusal.SpiRead a rx) (λ w. FetchAt.Commit w f) _ (λ w. refl)
  step_talk (FetchAt.Commit w f) a rx =
      on_done_lem to FetchAt.Refused refused (λ r. refl) (done_reply Refusal.SpiRead a (length rx) 0) (FetchAt.Done f) _ refl
  step_talk (FetchAt.Done f) a rx = refl
  step_talk FetchAt.Empty a rx = refl
  step_talk (FetchAt.Told next) a rx = refl
  step_talk (FetchAt.Refused r) a rx = refl

  -- ---- what is asked, how the call ends, and what it leaves in the lent buffer

  none : (buf : List ℕ) → filled held 0 buf ≡ buf
  unfolding filled put
  none buf = by_if (λ (l : List ℕ). l ≡ buf) (leb 64 (length buf)) (λ t. refl) (λ t. refl)

  alike : (at : FetchAt) → (ask_from fifo at ≡ asks (to at)) × (outcome_at at held ≡ ended outcome_by (to at)) × ((buf : List ℕ) → filled held (size_at at) buf ≡ lent_after (to at) buf)
  unfolding filled message_of
  alike FetchAt.Control = (refl, refl, none)
  alike FetchAt.Status = (refl, refl, none)
  alike FetchAt.Address = (refl, refl, none)
  alike (FetchAt.Header m) = (refl, refl, none)
  alike (FetchAt.Again m f) = (refl, refl, none)
  alike (FetchAt.Time x f) = (refl, refl, none)
  alike (FetchAt.Body x f) = (refl, refl, none)
  alike (FetchAt.Next f) = (refl, refl, none)
  alike (FetchAt.Commit w f) = (refl, refl, none)
  alike (FetchAt.Done f) = (refl, refl, λ buf. refl)
  alike FetchAt.Empty = (refl, refl, none)
  alike (FetchAt.Told next) = (refl, refl, none)
  alike (FetchAt.Refused r) = (refl, refl, none)

-- ---- the laws; peek and get start by `lent_start`, and `peek_talk` and `get_talk` are `lent_talk`

pub follows : Follows step_of ask_of talk_of
unfolding step_of ask_of talk_of
follows = record {
  stepped = λ s a rx. step_talk s.want s.fifo s.held s.at a rx;
  asked = λ s. (alike s.want s.fifo s.held s.at).0;
}

pub run_talk : (s : Fetch) (xs : List (Answer × List ℕ)) → talk_of (run step_of s xs) ≡ run answered (talk_of s) xs
run_talk = runs step_of ask_of talk_of follows

pub has_next_start_talk : (fifo : ℕ) → talk_of (has_next_start fifo) ≡ has_next_talk fifo
unfolding talk_of has_next_start first_at has_next_talk
has_next_start_talk fifo = if_ap (talk_at Want.HasNext fifo _) (is_fifo fifo) _ _

pub lent_start_talk : (want : Want) (fifo room : ℕ) → talk_of (lent_start want fifo room) ≡ lent_talk want fifo room
unfolding talk_of lent_start lent_at lent_talk
lent_start_talk want fifo room = on_if (talk_at want fifo _) (is_fifo fifo) _ _ _ _ (if_ap (talk_at want fifo _) (ltb room 64) _ _) refl

pub outcome_talk : (s : Fetch) → outcome_of s ≡ ended outcome_by (talk_of s)
unfolding outcome_of talk_of
outcome_talk s = (alike s.want s.fifo s.held s.at).1

pub fill_law : (s : Fetch) (buf : List ℕ) → filled_by s buf ≡ lent_after (talk_of s) buf
unfolding filled_by talk_of
fill_law s = (alike s.want s.fifo s.held s.at).2
