-- Each exchange of has-next, peek and get keeps what is true of the world.
-- Assumes nothing.
use Prim.Native.Nat.{ℕ, ◌+◌, ◌-◌, ◌≤◌, ◌<◌}
use native.Mathlib.Omega.{arith}
use borrow.Author.Tests.{ltb-true, ltb-false, lt-ltb}
use mathlib.Core.Path.{◌≡◌, refl, sym, ap, subst, ◌∙◌}
use mathlib.Core.Bool.{Bool, true, false}
use mathlib.Core.List.{List, [], ◌∷◌, append-nil}
use lib.Dec.{ltb}
use lib.ListN.{length, replicate}
use Rattle.laws.proofs.Choice.{by_if}
use Rattle.field.specs.Field.{mark}
use Rattle.fifo.specs.Control.{CiFIFOCON, UINC, is_fifo}
use Rattle.parts.specs.Parts.{part, put}
use Rattle.words.specs.Words.{le_bytes, round_up}
use Rattle.words.proofs.Laws.{up_four}
use Rattle.spi.specs.declared.refusal.Refusal.{Refusal}
use Rattle.spi.specs.declared.ask.Ask.{Ask}
use Rattle.spi.specs.declared.ask.Answer.{Answer}
use Rattle.message.specs.Message.{Message, body_at, holds, decoding}
use Rattle.place.specs.declared.Register.{Register}
use Rattle.call.specs.declared.Found.{Found}
use Rattle.call.specs.declared.Outcome.{Outcome}
use Rattle.plan.specs.Plan.{Plan}
use Rattle.tx_fifo.specs.Push.{Push as Pushes}
use Rattle.fetch.specs.declared.Want.{Want}
use Rattle.fetch.specs.FetchAt.{FetchAt}
use Rattle.fetch.specs.Step.{by_status, after_body, next_at}
use Rattle.rx_fifo.specs.Step as fetch
use Rattle.rx_fifo.specs.Outcome as found
use Rattle.driver.specs.Call.{Call}
use Rattle.driver.specs.Start.{idle_plan, idle_push, of_fetch}
use Rattle.ring.specs.declared.ring.Fifo.{Fifo}
use Rattle.ring.specs.Ring.{sending, depth, place, taken, increased}
use Rattle.ring.specs.Layout.{stamped, size}
use Rattle.state.specs.declared.Model.{Model}
use Rattle.state.specs.Model.{fifo_at, frozen_at, with_fifo}
use Rattle.bank.specs.Registers.{word_of}
use Rattle.bus.specs.Held.{slot_of}
use Rattle.history.specs.Command.{Command, lent, started}
use Rattle.history.specs.History.{Said, called, idle, hears, heard, settled, goes_on, is_over}
use Rattle.history.specs.Lists.{only, found_in, accepted_in, handed_out_in, queued_in}
use Rattle.history.specs.Demand.{NotCaused, Ordinary, Told}
use Rattle.history.proofs.Sound.{Sound, Asked}
use Rattle.history.proofs.Line.{spoken}
use Rattle.history.proofs.Bus.{Listed, Moves, oldest, map_only, quiet}
use Rattle.history.proofs.Slots.{ram_long, slot_inside, next_asked, less_held}
use Rattle.history.proofs.Asks.{hear_control, hear_status, hear_address, hear_ram, hear_behind, tell_control}
use Rattle.history.proofs.Replies.{Gentle, control_gentle, control_asked, mark_small, fetch_control, fetch_status, fetch_address, fetch_next, fetch_commit, control_stamp, control_payload, uinc_written}
use Rattle.history.proofs.Fetching.{plain}
use Rattle.history.proofs.Fetching as reading
use Rattle.history.proofs.Fetchings.{fetched, fetching, turned, failed, still, over}
use Rattle.history.proofs.Mid.{Receives, Some, Oldest, Has, FetchMid}
use Rattle.history.proofs.QueueLists.{queue_quiet}
use Rattle.history.proofs.QueueSlots.{fifo_queue}
use Rattle.history.proofs.Inv.{Lent, FetchAsked, fetches, Tale, Inv, goes_on_lem, says_more, silent_out}
use Rattle.history.proofs.Kept.{spoken_sound}
use Rattle.bus.specs.Queue.{held_queue}

-- ---- what is said

-- a call of this kind tells what it may
told_ordinary : (want : Want) (n : ℕ) (buf : List ℕ) (o : Outcome) → Ordinary o → Told (fetched want n buf) o
told_ordinary Want.HasNext n buf o h = h
told_ordinary Want.Peek n buf o h = h
told_ordinary Want.Get n buf o h = h

-- nothing is accepted
accepts_none : (want : Want) (n : ℕ) (buf : List ℕ) (o : Outcome) (b : List ℕ) (j : ℕ) → accepted_in j (called (fetched want n buf) o b) ≡ []
accepts_none Want.HasNext n buf o b j = refl
accepts_none Want.Peek n buf o b j = refl
accepts_none Want.Get n buf o b j = refl

-- nothing is queued
queues_none : (want : Want) (n : ℕ) (buf : List ℕ) (o : Outcome) (b : List ℕ) → queued_in (called (fetched want n buf) o b) ≡ []
queues_none Want.HasNext n buf o b = refl
queues_none Want.Peek n buf o b = refl
queues_none Want.Get n buf o b = refl

-- nothing is handed out
abbrev GivesNone : Want → ℕ → List ℕ → Outcome → Type 0
GivesNone want n buf o = (b : List ℕ) (j : ℕ) → handed_out_in j (called (fetched want n buf) o b) ≡ []

-- ---- by what is wanted

by_status_lem : (P : FetchAt → Type 0) (want : Want) (x : Bool) → ((y : Bool) → P (FetchAt.Told y)) → (x ≡ true → P FetchAt.Address) → (x ≡ false → P FetchAt.Empty)
    → P (by_status want x)
by_status_lem P Want.HasNext x f g h = f x
by_status_lem P Want.Peek x f g h = by_if P x g h
by_status_lem P Want.Get x f g h = by_if P x g h

-- only a get goes on, and what does not hands nothing out
pub by_body : (P : FetchAt → Type 0) (want : Want) (f : Found) → (((n : ℕ) (buf : List ℕ) (o : Outcome) → GivesNone want n buf o) → P (FetchAt.Done f))
    → (want ≡ Want.Get → P (FetchAt.Next f)) → P (after_body want f)
by_body P Want.HasNext f g h = g (λ n buf o b j. refl)
by_body P Want.Peek f g h = g (λ n buf o b j. refl)
by_body P Want.Get f g h = h refl

-- ---- a get that is done

-- the buffer it was lent has room for every payload
get_lent : (want : Want) (n : ℕ) (buf : List ℕ) → want ≡ Want.Get → Lent want buf → 64 ≤ length (lent (fetched want n buf))
get_lent Want.HasNext n buf e b = let z : ◌≡◌ {A = ℕ} 0 1 = cc in absurd (omega (arith, z))
get_lent Want.Peek n buf e b = b
get_lent Want.Get n buf e b = b

get_gives : (want : Want) (n : ℕ) (buf : List ℕ) → want ≡ Want.Get → (o : Outcome) (b : List ℕ) (j : ℕ)
    → handed_out_in j (called (fetched want n buf) o b) ≡ only j n (found_in o b)
get_gives want n buf e o b j = rw e

-- UINC takes the oldest of a FIFO that receives and holds one
increased_taken : (frozen : ℕ) (g : Fifo) → sending frozen ≡ false → 0 < g.count → increased frozen g ≡ taken frozen g
unfolding increased
increased_taken frozen g r some = rw (r, lt-ltb 0 g.count some)

-- ---- each exchange

module _ (X : ℕ → Type 0) {U : Type 0} (c : Model) (o : Sound c) (q : Asked X c) (t : List Said) (l : Listed c t) (e : Tale U c t)
    (want : Want) (n : ℕ) (buf : List ℕ) (p : Plan) (u : Pushes) where
  abbrev k : Command
  k = fetched want n buf

  abbrev at : List ℕ → FetchAt → Call
  at held a = fetching want n held a p u

  abbrev After : Model → List ℕ → List ℕ → FetchAt → Type 0
  After d held rx a = Inv X U (settled d t k (at held a) rx)

  abbrev said_at : List ℕ → FetchAt → Said
  said_at held a = called k (found.outcome_at a held) (found.filled held (found.size_at a) (lent k))

  -- it is over
  ends : (d : Model) (held rx : List ℕ) (a : FetchAt) → Sound d → Asked X d → is_over (found.outcome_at a held) ≡ true → Moves c (said_at held a) d → held_queue d ≡ held_queue c
      → Ordinary (found.outcome_at a held) → After d held rx a
  ends d held rx a s y x m hq w =
      rw (over want n buf held a p u t d rx x)
      (says_more X c t l e d idle (said_at held a) s y m (λ v. queue_quiet c d (said_at held a) hq (queues_none want n buf (found.outcome_at a held) (found.filled held (found.size_at a) (lent k))) refl) (told_ordinary want n buf (found.outcome_at a held) w) tt)

  -- and nothing was handed out
  shows : (held rx : List ℕ) (a : FetchAt) → is_over (found.outcome_at a held) ≡ true → GivesNone want n buf (found.outcome_at a held)
      → Ordinary (found.outcome_at a held) → After c held rx a
  shows held rx a x y w =
      let filled : List ℕ = found.filled held (found.size_at a) (lent k) in
      ends c held rx a o q x (quiet c c (said_at held a) (accepts_none want n buf (found.outcome_at a held) filled) (y filled) (λ j. refl)) refl w

  refuses : (held rx : List ℕ) (r : Refusal) → NotCaused r → After c held rx (FetchAt.Refused r)
  refuses held rx r w = shows held rx (FetchAt.Refused r) refl (λ b j. silent_out j k (Outcome.Refused r) b refl) w

  empties : (held rx : List ℕ) → After c held rx FetchAt.Empty
  empties held rx = shows held rx FetchAt.Empty refl (λ b j. silent_out j k Outcome.Empty b refl) tt

  answers : (held rx : List ℕ) (x : Bool) → After c held rx (FetchAt.Told x)
  answers held rx true = shows held rx (FetchAt.Told true) refl (λ b j. silent_out j k Outcome.Yes b refl) tt
  answers held rx false = shows held rx (FetchAt.Told false) refl (λ b j. silent_out j k Outcome.No b refl) tt

  module _ (i : is_fifo n ≡ true) (b : Lent want buf) where
    -- it still asks for something, and nothing of the chip changed
    stays : (held : List ℕ) → length held ≡ 64 → (rx : List ℕ) (a : FetchAt) → found.outcome_at a held ≡ Outcome.Running → FetchMid c want n held a → FetchAsked (X n) a → After c held rx a
    stays held h rx a x g z =
        rw (still want n buf held a p u t c rx x)
        (goes_on_lem X c t l e c k (at held a) o q (λ j. refl) refl (fetches want n buf held a p u i b h g z refl refl))

    -- the oldest slot is in RAM
    room : slot_of c n 0 + size (frozen_at c n) ≤ 2048
    room = slot_inside c o n 0 i (omega arith)

    header_room : slot_of c n 0 + 8 ≤ 2048
    unfolding size
    header_room = omega (arith, room)

    module _ (held : List ℕ) (h : length held ≡ 64) where
      abbrev Exchanged : FetchAt → Type 0
      Exchanged a = Inv X U (goes_on t k (at held a) (heard true (at held a) c))

      reads_control : Exchanged FetchAt.Control
      reads_control =
          let rx : List ℕ = le_bytes (word_of c (Register.Control n)) in
          rw (turned want n held FetchAt.Control p u t k c _ _ _ (hear_control [] c n i) (fetch_control c n want))
          (by_if (After c held rx) (sending (frozen_at c n)) (λ x. refuses held rx Refusal.FifoNotRx refl) (λ x. stays held h rx FetchAt.Status refl x tt))

      reads_status : Receives c n → Exchanged FetchAt.Status
      reads_status g =
          let rx : List ℕ = le_bytes (word_of c (Register.Status n)) in
          rw (turned want n held FetchAt.Status p u t k c _ _ _ (hear_status [] c n i) (fetch_status c n want o g))
          (by_status_lem (After c held rx) want (ltb 0 (fifo_at c n).count) (answers held rx)
          (λ x. stays held h rx FetchAt.Address refl (g, ltb-true _ _ x) tt) (λ x. empties held rx))

      reads_address : Receives c n → Some c n → Exchanged FetchAt.Address
      reads_address g s =
          rw (turned want n held FetchAt.Address p u t k c _ _ _ (hear_address [] c n i) (fetch_address c n want o g header_room))
          (stays held h _ (FetchAt.Header _) refl (g, s, refl) tt)

      module _ (m : Message) (old : Oldest c n m) where
        abbrev slot : ℕ
        slot = slot_of c n 0

        abbrev fr : ℕ
        fr = frozen_at c n

        decoded : decoding false (stamped fr) (part c.ram slot (size fr)) ≡ holds m
        decoded = reading.item_is c n old.rx ∙ old.item

        reads_header : Exchanged (FetchAt.Header (slot + 0x400))
        reads_header =
            rw (turned want n held (FetchAt.Header (slot + 0x400)) p u t k c _ _ _ (hear_ram [] c slot 8 header_room refl)
            (reading.next_header c.ram slot fr m (ram_long c o) room decoded want))
            (stays held h _ (FetchAt.Again (slot + 0x400) (plain m)) refl (m, record { oldest = old; place = omega arith }, refl) tt)

        reads_again : Exchanged (FetchAt.Again (slot + 0x400) (plain m))
        reads_again =
            let rx : List ℕ = le_bytes (word_of c (Register.Control n)) in
            rw (turned want n held (FetchAt.Again (slot + 0x400) (plain m)) p u t k c _ _ _ (hear_control [] c n i)
            (reading.next_again c.ram slot fr m (ram_long c o) room decoded want (word_of c (Register.Control n)) (control_stamp c n old.rx) (control_payload c n)))
            (by_if (After c held rx) (stamped fr)
            (λ x. stays held h rx (FetchAt.Time (slot + 0x400 + 8) (plain m)) refl (m, record { oldest = old; place = refl }, refl, x) tt)
            (λ x. stays held h rx (FetchAt.Body (slot + 0x400 + 8) (found.found_of m)) refl (m, record { oldest = old; place = rw x }, refl) tt))

        reads_time : stamped fr ≡ true → Exchanged (FetchAt.Time (slot + 0x400 + 8) (plain m))
        reads_time x =
            rw (turned want n held (FetchAt.Time (slot + 0x400 + 8) (plain m)) p u t k c _ _ _
            (hear_behind [] c slot 8 4 (reading.time_in c.ram slot fr m (ram_long c o) room decoded x) refl)
            (reading.next_time c.ram slot fr m (ram_long c o) room decoded want x))
            (stays held h _ (FetchAt.Body (slot + 0x400 + 12) (found.found_of m)) refl (m, record { oldest = old; place = rw x }, refl) tt)

        reads_body : Exchanged (FetchAt.Body (slot + 0x400 + body_at (stamped fr)) (found.found_of m))
        reads_body =
            let len : ℕ = round_up (length m.payload) in
            let rx : List ℕ = part c.ram (slot + body_at (stamped fr)) len in
            let all : List ℕ = fetch.held_of held rx in
            rw (turned want n held (FetchAt.Body (slot + 0x400 + body_at (stamped fr)) (found.found_of m)) p u t k c rx c (after_body want (found.found_of m))
            (hear_behind [] c slot (body_at (stamped fr)) len (reading.body_in c.ram slot fr m (ram_long c o) room decoded) (up_four (length m.payload)))
            (reading.next_body c.ram slot fr m (ram_long c o) room decoded want (slot + 0x400 + body_at (stamped fr))))
            (by_body (After c all rx) want (found.found_of m)
            (λ none. shows all rx (FetchAt.Done (found.found_of m)) refl (none n buf _) tt)
            (λ g. stays all (reading.held_length held rx h) rx (FetchAt.Next (found.found_of m)) refl
            (m, record { get = g; oldest = old; found = refl; message = reading.body_held c.ram slot fr m (ram_long c o) room decoded held }) tt))

        module _ (f : Found) (has : Has c want n held f m) where
          reads_next : Exchanged (FetchAt.Next f)
          reads_next =
              rw (turned want n held (FetchAt.Next f) p u t k c _ _ _ (hear_control [] c n i) (fetch_next want f (word_of c (Register.Control n))))
              (stays held h _ (FetchAt.Commit _ f) refl (m, has, control_gentle c n o) (λ x. control_asked c n ∙ q n x))

          -- what is said is the message, its payload in the buffer
          hands_out : (j : ℕ) → handed_out_in j (said_at held (FetchAt.Done f)) ≡ only j n (m ∷ [])
          hands_out j =
              let y : found.message_of (found.found_of m) held ≡ m = rw has.found at has.message in
              let put_is : found.filled held f.len (lent k) ≡ put (lent k) 0 m.payload
              = rw has.found (reading.filled_is m held (lent k) y (get_lent want n buf has.get b)) in
              get_gives want n buf has.get (found.outcome_at (FetchAt.Done f) held) (found.filled held f.len (lent k)) j
              ∙ rw (has.message, put_is)
              (ap (λ (x : Message). only j n (x ∷ []))
              (reading.put_message m (lent k) (reading.seq_none c.ram slot fr m (ram_long c o) room decoded)
              (reading.payload_most c.ram slot fr m (ram_long c o) room decoded)))

          -- the oldest is taken
          writes_control : (w : ℕ) → Gentle w → FetchAsked (X n) (FetchAt.Commit w f) → Exchanged (FetchAt.Commit w f)
          unfolding taken
          writes_control w y z =
              let (g, written, eh, ec, ea) = uinc_written c n o w y.small y.freset in
              let one : Fifo = taken fr g in
              let d : Model = with_fifo c n one in
              let some : 0 < g.count = omega (arith, ec, old.some) in
              let tells : spoken (Ask.Word (CiFIFOCON.address n) (mark UINC true w)) [] c ≡ hears Answer.Exchanged [] d
              = tell_control [] c n i (mark UINC true w) (mark_small w y.small)
              ∙ ap (λ (x : Model). hears Answer.Exchanged [] x) (written ∙ ap (with_fifo c n) (increased_taken fr g old.rx some)) in
              rw (turned want n held (FetchAt.Commit w f) p u t k c [] d _ tells (fetch_commit want f w))
              (ends d held [] (FetchAt.Done f) (spoken_sound _ [] c o _ tells refl) (next_asked c o n i one X q (λ x. ea ∙ z x)) refl
              (λ j x. rw (accepts_none want n buf _ _ j, hands_out j, map_only j n m)
              (append-nil _ ∙ less_held c o n i one (ap (λ (x : ℕ). place (depth fr) x 1) eh) (ap (λ (x : ℕ). x - 1) ec) old.some j ∙ rw old.item)) (fifo_queue c n one) tt)

      -- ---- all of them

      pub fetch_exchanged : (a : FetchAt) → FetchMid c want n held a → FetchAsked (X n) a → Exchanged a
      fetch_exchanged FetchAt.Control g z = reads_control
      fetch_exchanged FetchAt.Status g z = reads_status g
      fetch_exchanged FetchAt.Address g z = reads_address g.0 g.1
      fetch_exchanged (FetchAt.Header x) g z =
          let (m, item) = oldest c o t l n i g.1 in
          subst (λ (y : ℕ). Exchanged (FetchAt.Header y)) (sym g.2) (reads_header m (record { rx = g.0; some = g.1; item = item }))
      fetch_exchanged (FetchAt.Again x f) g z =
          let (m, r, known) = g in
          let place : slot_of c n 0 + 0x400 ≡ x = omega (arith, r.place) in
          subst Exchanged (λ j. FetchAt.Again (place j) (sym known j)) (reads_again m r.oldest)
      fetch_exchanged (FetchAt.Time x f) g z =
          let (m, r, known, time) = g in
          subst Exchanged (λ j. FetchAt.Time (sym r.place j) (sym known j)) (reads_time m r.oldest time)
      fetch_exchanged (FetchAt.Body x f) g z =
          let (m, r, known) = g in
          subst Exchanged (λ j. FetchAt.Body (sym r.place j) (sym known j)) (reads_body m r.oldest)
      fetch_exchanged (FetchAt.Next f) g z = let (m, has) = g in reads_next m has.oldest f has
      fetch_exchanged (FetchAt.Commit w f) g z = let (m, has, gentle) = g in writes_control m has.oldest f has w gentle z
      fetch_exchanged (FetchAt.Done f) g z = absurd g
      fetch_exchanged FetchAt.Empty g z = absurd g
      fetch_exchanged (FetchAt.Told next) g z = absurd g
      fetch_exchanged (FetchAt.Refused r) g z = absurd g

      -- one that fails is 1
      failed_at : (a : FetchAt) → FetchMid c want n held a → next_at want a Answer.Failed [] ≡ FetchAt.Refused Refusal.SpiRead
      failed_at FetchAt.Control g = refl
      failed_at FetchAt.Status g = refl
      failed_at FetchAt.Address g = refl
      failed_at (FetchAt.Header x) g = refl
      failed_at (FetchAt.Again x f) g = refl
      failed_at (FetchAt.Time x f) g = refl
      failed_at (FetchAt.Body x f) g = refl
      failed_at (FetchAt.Next f) g = refl
      failed_at (FetchAt.Commit w f) g = refl
      failed_at (FetchAt.Done f) g = absurd g
      failed_at FetchAt.Empty g = absurd g
      failed_at (FetchAt.Told next) g = absurd g
      failed_at (FetchAt.Refused r) g = absurd g

      pub fetch_failed : (a : FetchAt) → FetchMid c want n held a → Inv X U (goes_on t k (at held a) (heard false (at held a) c))
      fetch_failed a g = rw (failed want n held a p u t k c, failed_at a g) (refuses (fetch.held_at a held []) [] Refusal.SpiRead refl)

-- ---- the beginning, refused or not

module _ (X : ℕ → Type 0) {U : Type 0} (c : Model) (o : Sound c) (q : Asked X c) (t : List Said) (l : Listed c t) (e : Tale U c t) where
  abbrev Begun : Want → ℕ → List ℕ → FetchAt → Type 0
  Begun want n buf a = After X c o q t l e want n buf idle_plan idle_push c (replicate 64 0) [] a

  begins : (want : Want) (n : ℕ) (buf : List ℕ) → is_fifo n ≡ true → Lent want buf → Begun want n buf FetchAt.Control
  begins want n buf i b = stays X c o q t l e want n buf idle_plan idle_push i b (replicate 64 0) refl [] FetchAt.Control refl tt tt

  refused : (want : Want) (n : ℕ) (buf : List ℕ) (r : Refusal) → NotCaused r → Begun want n buf (FetchAt.Refused r)
  refused want n buf r w = refuses X c o q t l e want n buf idle_plan idle_push (replicate 64 0) [] r w

  -- peek and get
  lent_begins : (want : Want) → ((buf : List ℕ) → 64 ≤ length buf → Lent want buf) → (n : ℕ) (buf : List ℕ) → Begun want n buf (fetch.lent_at n (length buf))
  unfolding fetch.lent_at
  lent_begins want b n buf =
      by_if (Begun want n buf) (is_fifo n)
      (λ i. by_if (Begun want n buf) (ltb (length buf) 64) (λ x. refused want n buf Refusal.BufferTooSmall refl) (λ x. begins want n buf i (b buf (ltb-false _ _ x))))
      (λ i. refused want n buf Refusal.BadNumber refl)

  pub fetch_begins : (want : Want) (n : ℕ) (buf : List ℕ) → Inv X U (settled c t (fetched want n buf) (started (fetched want n buf)) [])
  unfolding of_fetch fetch.has_next_start fetch.lent_start fetch.first_at
  fetch_begins Want.HasNext n buf =
      by_if (Begun Want.HasNext n buf) (is_fifo n) (λ i. begins Want.HasNext n buf i tt) (λ i. refused Want.HasNext n buf Refusal.BadNumber refl)
  fetch_begins Want.Peek n buf = lent_begins Want.Peek (λ x b. b) n buf
  fetch_begins Want.Get n buf = lent_begins Want.Get (λ x b. b) n buf
