-- A peek only reads: the chip is as the bus steps alone leave it.
-- Assumes nothing.
use Rattle.std.specs.Prelude.{Result, Ok, Err}
use Prim.Native.Nat.{ℕ}
use mathlib.Core.Path.{◌≡◌, refl, sym, ap, ◌∙◌}
use mathlib.Core.Bool.{true}
use mathlib.Core.List.{List, [], ◌∷◌, ◌++◌}
use lib.ListN.{length, replicate}
use lib.Dec.{ltb}
use Rattle.laws.proofs.Choice.{by_if}
use Rattle.field.specs.Field.{flag}
use Rattle.fifo.specs.Control.{TXEN, RXTSEN, CiFIFOCON, payload_of, is_fifo}
use Rattle.fifo.specs.Status.{CiFIFOSTA, TFNRFNIF}
use Rattle.fifo.specs.UserAddress.{CiFIFOUA}
use Rattle.words.specs.Words.{round_up}
use Rattle.spi.specs.declared.refusal.Refusal.{Refusal}
use Rattle.spi.specs.declared.ask.Answer.{Answer}
use Rattle.spi.specs.Ram.{in_range}
use Rattle.spi.specs.Reply.{done_reply}
use Rattle.spi.specs.Talk.{on_word, on_pair, on_done}
use Rattle.call.specs.declared.Found.{Found}
use Rattle.plan.specs.Plan.{Plan}
use Rattle.tx_fifo.specs.Push.{Push as Pushes}
use Rattle.fetch.specs.declared.Want.{Want}
use Rattle.fetch.specs.FetchAt.{FetchAt}
use Rattle.fetch.specs.Step.{after_control, after_status, after_address, after_header, to_time, to_body, after_again, after_time, stamped, next_by, next_at}
use Rattle.rx_fifo.specs.Step as fetch
use Rattle.driver.specs.Call.{Call}
use Rattle.driver.specs.Start.{idle_plan, idle_push, of_fetch}
use Rattle.driver.specs.Step.{ask_of, step_of, outcome_of}
use Rattle.driver.specs.Send.{body_of}
use Rattle.state.specs.declared.Model.{Model}
use Rattle.reach.specs.Bus.{Bus}
use Rattle.history.specs.Command.{Peek}
use Rattle.history.specs.History.{Begin, Said, Doing, idle, busy, World, Heard, answered, heard, is_over, settled, event, after}
use Rattle.history.specs.Demand.{buses, calm, all}
use Rattle.history.proofs.Line.{world}
use Rattle.history.proofs.Asks.{hear_keeps}
use Rattle.history.proofs.PlanAsks.{nothing_keeps}
use Rattle.history.proofs.Fetchings.{fetching}
use Rattle.history.proofs.Calm.{spoken_of, after_calm, buses_append}

-- ---- where a peek gets to

-- a read comes next, or the call is over
abbrev Looks : FetchAt → Type 0
Looks FetchAt.Control = Unit {0}
Looks FetchAt.Status = Unit {0}
Looks FetchAt.Address = Unit {0}
Looks (FetchAt.Header x) = Unit {0}
Looks (FetchAt.Again x f) = Unit {0}
Looks (FetchAt.Time x f) = Unit {0}
Looks (FetchAt.Body x f) = Unit {0}
Looks (FetchAt.Next f) = ⊥
Looks (FetchAt.Commit w f) = ⊥
Looks (FetchAt.Done f) = Unit {0}
Looks FetchAt.Empty = Unit {0}
Looks (FetchAt.Told next) = Unit {0}
Looks (FetchAt.Refused r) = Unit {0}

-- by whatever is answered
by_word : (k : ℕ → FetchAt) → ((w : ℕ) → Looks (k w)) → (o : Result ℕ Refusal) → Looks (on_word FetchAt.Refused o k)
by_word k h (Ok w) = h w
by_word k h (Err r) = tt

by_pair : (k : ℕ → ℕ → FetchAt) → ((v w : ℕ) → Looks (k v w)) → (o : Result (ℕ × ℕ) Refusal) → Looks (on_pair FetchAt.Refused o k)
by_pair k h (Ok (v, w)) = h v w
by_pair k h (Err r) = tt

by_done : (a : FetchAt) → Looks a → (o : Result (Unit {0}) Refusal) → Looks (on_done FetchAt.Refused o a)
by_done a h (Ok _) = h
by_done a h (Err r) = tt

body_looks : (x : ℕ) (f : Found) → Looks (to_body x f)
unfolding to_body
body_looks x f = by_if Looks (in_range x (round_up f.len)) (λ e. tt) (λ e. tt)

next_looks : (a : FetchAt) → Looks a → (word : Result ℕ Refusal) (pair : Result (ℕ × ℕ) Refusal) (r : Answer) (k : ℕ) → Looks (next_by Want.Peek a word pair r k)
unfolding after_control after_status after_address after_header to_time after_again after_time
next_looks FetchAt.Control l word pair r k = by_word after_control (λ w. by_if Looks (flag TXEN w) (λ e. tt) (λ e. tt)) word
next_looks FetchAt.Status l word pair r k = by_word (after_status Want.Peek) (λ w. by_if Looks (flag TFNRFNIF w) (λ e. tt) (λ e. tt)) word
next_looks FetchAt.Address l word pair r k =
    by_word after_address (λ w. by_if Looks (ltb 0xFBFF w) (λ e. tt) (λ e. by_if Looks (in_range _ 8) (λ g. tt) (λ g. tt))) word
next_looks (FetchAt.Header x) l word pair r k = by_pair (after_header x) (λ v w. tt) pair
next_looks (FetchAt.Again x f) l word pair r k =
    by_word (after_again x f) (λ w. by_if Looks (ltb (payload_of w) f.len) (λ e. tt)
    (λ e. by_if Looks (flag RXTSEN w) (λ e. by_if Looks (in_range _ 4) (λ g. tt) (λ g. tt)) (λ e. body_looks _ f))) word
next_looks (FetchAt.Time x f) l word pair r k = by_word (after_time x f) (λ w. body_looks _ (stamped f w)) word
next_looks (FetchAt.Body x f) l word pair r k = by_done (FetchAt.Done f) tt (done_reply Refusal.SpiRead r k (round_up f.len))
next_looks (FetchAt.Next f) l word pair r k = absurd l
next_looks (FetchAt.Commit w f) l word pair r k = absurd l
next_looks (FetchAt.Done f) l word pair r k = tt
next_looks FetchAt.Empty l word pair r k = tt
next_looks (FetchAt.Told next) l word pair r k = tt
next_looks (FetchAt.Refused x) l word pair r k = tt

-- ---- the chip

-- no call is under way
idle_leaves : (bs : List (List Bus)) (c : Model) (t : List Said) → (after (calm bs) (world c idle t)).chip ≡ buses (all bs) c
unfolding after calm buses event
idle_leaves [] c t = refl
idle_leaves (b ∷ bs) c t =
    ap (λ (v : World). v.chip) (after_calm b bs c idle t) ∙ idle_leaves bs (buses b c) (t ++ spoken_of b c) ∙ sym (buses_append b (all bs) c)

module _ (n : ℕ) (buf : List ℕ) (p : Plan) (u : Pushes) where
  abbrev at : List ℕ → FetchAt → Call
  at held a = fetching Want.Peek n held a p u

  -- what it asks leaves it
  chip_stays : (held : List ℕ) (a : FetchAt) (c : Model) → Looks a → (heard true (at held a) c).chip ≡ c
  unfolding heard answered ask_of fetch.ask_of body_of
  chip_stays held FetchAt.Control c l = hear_keeps [] c (CiFIFOCON.address n) 4
  chip_stays held FetchAt.Status c l = hear_keeps [] c (CiFIFOSTA.address n) 4
  chip_stays held FetchAt.Address c l = hear_keeps [] c (CiFIFOUA.address n) 4
  chip_stays held (FetchAt.Header x) c l = hear_keeps [] c x 8
  chip_stays held (FetchAt.Again x f) c l = hear_keeps [] c (CiFIFOCON.address n) 4
  chip_stays held (FetchAt.Time x f) c l = hear_keeps [] c x 4
  chip_stays held (FetchAt.Body x f) c l = hear_keeps [] c x (round_up f.len)
  chip_stays held (FetchAt.Next f) c l = absurd l
  chip_stays held (FetchAt.Commit w f) c l = absurd l
  chip_stays held (FetchAt.Done f) c l = nothing_keeps [] c
  chip_stays held FetchAt.Empty c l = nothing_keeps [] c
  chip_stays held (FetchAt.Told next) c l = nothing_keeps [] c
  chip_stays held (FetchAt.Refused r) c l = nothing_keeps [] c

  -- with the bus steps bs before the exchanges, from v on: c is the chip at v
  abbrev Leaves : List (List Bus) → World → Model → Type 0
  Leaves bs v c = (after (calm bs) v).chip ≡ buses (all bs) c

  -- the call goes on, or is over
  settles : (bs : List (List Bus)) → ((held : List ℕ) (a : FetchAt) (c : Model) (t : List Said) → Looks a → Leaves bs (world c (busy (Peek n buf) (at held a)) t) c)
      → (held : List ℕ) (a : FetchAt) (rx : List ℕ) (c : Model) (t : List Said) → Looks a → Leaves bs (settled c t (Peek n buf) (at held a) rx) c
  unfolding settled
  settles bs go held a rx c t l = by_if (λ (v : World). Leaves bs v c) (is_over (outcome_of (at held a))) (λ e. idle_leaves bs c _) (λ e. go held a c t l)

  peek_leaves : (bs : List (List Bus)) (held : List ℕ) (a : FetchAt) (c : Model) (t : List Said) → Looks a → Leaves bs (world c (busy (Peek n buf) (at held a)) t) c
  unfolding after calm buses event step_of fetch.step_of
  peek_leaves [] held a c t l = refl
  peek_leaves (b ∷ bs) held a c t l =
      let d : Model = buses b c in
      let h : Heard = heard true (at held a) d in
      let to : FetchAt = next_at Want.Peek a h.answer h.rx in
      ap (λ (v : World). v.chip) (after_calm b bs c (busy (Peek n buf) (at held a)) t)
      ∙ settles bs (peek_leaves bs) (fetch.held_at a held h.rx) to h.rx h.chip (t ++ spoken_of b c) (next_looks a l _ _ h.answer (length h.rx))
      ∙ ap (buses (all bs)) (chip_stays held a d l)
      ∙ sym (buses_append b (all bs) c)

-- where it starts
start_looks : (n room : ℕ) → Looks (fetch.lent_at n room)
unfolding fetch.lent_at
start_looks n room = by_if Looks (is_fifo n) (λ e. by_if Looks (ltb room 64) (λ g. tt) (λ g. tt)) (λ e. tt)

pub peek_keeps_lem : (v : World) → v.doing ≡ idle → (n : ℕ) (buf : List ℕ) (bs : List (List Bus)) → (after (Begin (Peek n buf) ∷ calm bs) v).chip ≡ buses (all bs) v.chip
unfolding after event of_fetch fetch.lent_start
peek_keeps_lem v e n buf bs =
    ap (λ (d : Doing). (after (calm bs) (event (Begin (Peek n buf)) d v.chip v.said)).chip) e
    ∙ settles n buf idle_plan idle_push bs (peek_leaves n buf idle_plan idle_push bs) (replicate 64 0) (fetch.lent_at n (length buf)) [] v.chip v.said
    (start_looks n (length buf))
