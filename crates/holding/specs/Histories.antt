-- The messages of a log that calls made, clearings among them (R-9 of document 02, with R-4's season): from 0 or an answered position up to another, neither of a term
-- that is cleared, they are the history's between the two, before the first claim that is still open, each with the position where its extent ends.
-- `history-messages` (proofs/Histories.antt) proves `HistoryMessages`, and `placed-bodies` proves `PlacedBodies`.
use Rattle.std.specs.Prelude.{◌≡◌, List, [], ◌∷◌, ℕ, ◌+◌, ◌≤◌, ℤ, Ok}
use Rattle.model.specs.Publication.{open_of}
use Rattle.model.specs.History.{Call, left, Shape, open·, committed, aborted, Extent, message, claimed·, padding, size_of, no_terms, AllGiven}
use Rattle.model.specs.History.{messages as messages_of}
use Rattle.model.specs.Demand.{opened, shape, history, Start}
use Rattle.tally.specs.Walk.{Stream, stream_of, between}
use Rattle.tally.specs.Histories.{Tallied}
use Rattle.holding.specs.Messages.{Message, idle, messages}
use Rattle.holding.specs.Holding.{cards, cards_in}

-- ---- a history's messages

-- those of extents that lie from p on, up to the first claim that is still open, each with the end of its extent
unfoldable pub placed : Shape → ℕ → List Extent → List Message
placed c p [] = []
placed c p (message re m ∷ h) = let end = p + size_of c (message re m) in record { body = m; end = end } ∷ placed c end h
placed c p (claimed· open· b ∷ h) = []
placed c p (claimed· committed b ∷ h) = let end = p + size_of c (claimed· committed b) in record { body = b; end = end } ∷ placed c end h
placed c p (claimed· aborted b ∷ h) = placed c (p + size_of c (claimed· aborted b)) h
placed c p (padding n ∷ h) = placed c (p + size_of c (padding n)) h

unfoldable pub bodies : List Message → List (List ℕ)
bodies [] = []
bodies (m ∷ ms) = m.body ∷ bodies ms

-- Their bodies are the messages that demand 3 and the season tell of.
abbrev pub PlacedBodies : Type 0
PlacedBodies = (c : Shape) (p : ℕ) (h : List Extent) → bodies (placed c p h) ≡ messages_of h

-- ---- they are the log's

-- the history cut in three as the tally cuts it; the messages between the two positions are the middle's, and so are the cards of a find
pub record SameMessages (c : Shape) (s : Stream) (h : List Extent) (from to : ℕ) : Type 0 where
  pub parts : Tallied c s h from to
  pub same : messages s idle (between s from to) ≡ placed c from parts.middle
  pub same-cards : (find : ℕ) → cards_in s find from to ≡ cards find (placed c from parts.middle)

-- with the season's premises
abbrev pub HistoryMessages : Type 0
HistoryMessages =
    (log : List ℕ) (term mtu initial session stream : ℤ) → (open_of log term mtu initial session stream).answer ≡ Ok tt
    → (calls : List Call)
    → let w = opened log term mtu initial session stream in let end = left w calls in
    AllGiven (shape w) [] no_terms w calls
    → (from to : ℕ) → Start w calls from → Start w calls to → from ≤ to
    → SameMessages (shape w) (stream_of end.record· end.log) (history w calls) from to
