-- Document 02, request 8, in histories: a frame that the filters sorted is handed out with the number of the filter that took it.
-- Assumes nothing.
use Rattle.std.specs.Prelude.{ℕ, ◌%◌, ◌^◌, ◌≡◌, List, ◌∷◌, ◌++◌, length, Ok}
use Rattle.header.specs.declared.Header.{Header}
use Rattle.call.specs.declared.Found.{Found}
use Rattle.call.specs.declared.Outcome.{Outcome}
use Rattle.rx_fifo.specs.Outcome.{message_of}
use Rattle.state.specs.declared.Model.{Model}
use Rattle.bus.specs.Bus.{incoming}
use Rattle.bus.specs.Sort.{sort_of}
use Rattle.reach.specs.Bus.{Sort}
use Rattle.history.specs.Command.{Get}
use Rattle.history.specs.History.{Event, On, Said, called}
use Rattle.history.specs.Lists.{accepted, handed_out}
use Rattle.history.specs.Demand.{Leaves, start, world, Lasts}

-- the get by which FIFO n hands out a message after i others: f is told of it, and its payload is in the lent buffer
pub record HandsOut (n i : ℕ) (said : List Said) (f : Found) (buffer : List ℕ) : Type 0 where
  pub before : List Said
  pub behind : List Said
  pub lent : List ℕ
  pub is : said ≡ before ++ (called (Get n lent) (Outcome.Message f) buffer ∷ behind)
  pub others : length (handed_out n before) ≡ i

-- a frame that sort delivered, the events es before it and ds behind it: where its FIFO accepted i messages before it, the get by which that FIFO
-- hands out one after i others tells the filter that took it, and every other field of it
abbrev pub FilterTold : Type 0
FilterTold =
    (c : Model) (w : ℕ) → Leaves c w → (es ds : List Event) (header : Header) (dlc time : ℕ) (payload : List ℕ) (f : Found) (buffer : List ℕ)
    → let all = es ++ (On (Sort header dlc time payload) ∷ ds) in
    let v = world c w es in
    let s = sort_of v.chip header dlc (time % 2 ^ 32) payload in
    Lasts all (start c w) → s.delivery ≡ Ok tt
    → HandsOut s.fifo (length (accepted s.fifo v.said)) (world c w all).said f buffer
    → (f.filter ≡ s.filter) × (message_of f buffer ≡ incoming v.chip s.fifo s.filter header dlc (time % 2 ^ 32) payload)
