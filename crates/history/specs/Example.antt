-- One history, written out: a torque command goes out and an answer comes in, with every exchange answered and with the push's write
-- to RAM failed.
-- Assumes nothing.
use Rattle.std.specs.Prelude.{ℕ, ◌≡◌, true, false, List, [], ◌∷◌, replicate, Some, Ok}
use Rattle.fifo.specs.Control.{CiFIFOCON}
use Rattle.filter.specs.Control.{CiFLTCON}
use Rattle.parts.specs.Parts.{put}
use Rattle.spi.specs.declared.ask.Ask.{Ask}
use Rattle.spi.specs.Ask.{sent, wanted}
use Rattle.header.specs.declared.Header.{Header}
use Rattle.message.specs.Message.{Message}
use Rattle.call.specs.declared.Outcome.{Outcome}
use Rattle.call.specs.Numbers.{outcome_numbers}
use Rattle.tx_fifo.specs.Step.{to_send}
use Rattle.rx_fifo.specs.Outcome.{found_of}
use Rattle.state.specs.declared.Model.{Model}
use Rattle.state.specs.Model.{reset}
use Rattle.bus.specs.Bus.{Output, frame, nothing}
use Rattle.bus.specs.Held.{held}
use Rattle.reach.specs.Bus.{Send, Sort}
use Rattle.reach.specs.Reach.{Happening, Exchange as exchanges, lived}
use Rattle.history.specs.Command.{Push, Request, Get}
use Rattle.history.specs.History.{Event, Begin, Exchange, Fail, On, Said, called, left, arrived}
use Rattle.history.specs.Demand.{Leaves, world}

-- ---- the chip

-- the bytes that the driver sends to write a register
abbrev pub writing : (address w : ℕ) → Happening
writing address w = let ask = Ask.Word address w in exchanges (sent ask []) (wanted ask)

-- FIFO 1 sends and has two slots (TXEN 1, FSIZE 1); FIFO 2 receives with a timestamp and has one (RXTSEN 1); PLSIZE 0 of both is
-- 8 bytes; filter 3, the only one enabled, gives FIFO 2 every frame (FLTEN3 1, F3BP 2, its mask 0); all else stays as after RESET
abbrev pub since₀ : List Happening
since₀ = writing (CiFIFOCON.address 1) 0x01000080 ∷ writing (CiFIFOCON.address 2) 0x00000020 ∷ writing (CiFLTCON.address 0) 0x82000000 ∷ []

-- reset with zeros in its RAM, and set so
unfoldable pub c₀ : Model
c₀ = lived since₀ (reset (replicate 2048 0))

-- CiCON with REQOP, TXQEN and STEF at 0
abbrev pub w₀ : ℕ
w₀ = 0x00000760

-- histories may begin there
abbrev pub Begins : Type 0
Begins = Leaves c₀ w₀

-- ---- what happens

abbrev pub torque : Header
torque = record { extended = false; id = 0x123; rtr = false; brs = true; fdf = true; esi = false }

abbrev pub torque_bytes : List ℕ
torque_bytes = 0x10 ∷ 0x27 ∷ 0x00 ∷ 0x01 ∷ []

abbrev pub feedback : Header
feedback = record { extended = true; id = 0x18DA00F1; rtr = false; brs = false; fdf = false; esi = false }

-- a classic frame has 8 bytes where its DLC is above 8
abbrev pub feedback_dlc : ℕ
feedback_dlc = 12

abbrev pub feedback_bytes : List ℕ
feedback_bytes = 1 ∷ 2 ∷ 3 ∷ 4 ∷ 5 ∷ 6 ∷ 7 ∷ 8 ∷ []

-- the buffer that is lent to the get
abbrev pub buffer : List ℕ
buffer = replicate 64 0xFF

-- a push with a send in between that finds no request; a request, the send, a frame that arrives and is sorted, and a get; e is the exchange
-- that writes the object to RAM
abbrev pub story : Event → List Event
story e =
    Begin (Push 1 torque 5 torque_bytes) ∷ Exchange ∷ Exchange ∷ On (Send 1) ∷ Exchange ∷ e ∷ Exchange
    ∷ Begin (Request 1) ∷ Exchange ∷ Exchange ∷ On (Send 1) ∷ On (Sort feedback feedback_dlc 77 feedback_bytes)
    ∷ Begin (Get 2 buffer) ∷ Exchange ∷ Exchange ∷ Exchange ∷ Exchange ∷ Exchange ∷ Exchange ∷ Exchange ∷ Exchange ∷ Exchange ∷ []

-- ---- what is said

-- the frame as FIFO 2 receives it: filter 3 took it
abbrev pub received : Message
received = record { header = feedback; dlc = feedback_dlc; filter = 3; seq = 0; stamp = Some 77; payload = feedback_bytes }

-- what the push ends with, and what the send after the request then finds
abbrev pub saying : Outcome → Output → List Said
saying o out =
    left 1 nothing ∷ called (Push 1 torque 5 torque_bytes) o [] ∷ called (Request 1) Outcome.Done [] ∷ left 1 out
    ∷ arrived 2 received (Ok tt) ∷ called (Get 2 buffer) (Outcome.Message (found_of received)) (put buffer 0 feedback_bytes) ∷ []

-- what was pushed is what is sent, and what arrived is what is handed out
abbrev pub Sends : Type 0
Sends = (world c₀ w₀ (story Exchange)).said ≡ saying Outcome.Done (frame (to_send torque 5 torque_bytes))

-- the push answers 2, FIFO 1 holds nothing, and nothing is sent
abbrev pub SendsNot : Type 0
SendsNot =
    let v = world c₀ w₀ (story Fail) in
    (o : Outcome) × (outcome_numbers o ≡ 2 ∷ []) × (v.said ≡ saying o nothing) × (held v.chip 1 ≡ [])
