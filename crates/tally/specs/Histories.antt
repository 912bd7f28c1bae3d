-- What a tally tells of a log that calls made, clearings among them (R-1 of document 02, with R-4's season): from 0 or an answered position up to another, neither of a
-- term that is cleared, its body bytes are those of the history's messages between the two, before the first claim that is still open, and its walk ends at that claim,
-- or at the second position.
-- `history-tallied` (proofs/Histories.antt) proves `HistoryTallied`.
use Rattle.std.specs.Prelude.{◌≡◌, ℕ, ◌+◌, ◌≤◌, List, [], ◌∷◌, ◌++◌, ℤ, Ok}
use Rattle.model.specs.Publication.{open_of}
use Rattle.model.specs.History.{Call, left, Shape, open·, committed, aborted, Extent, message, claimed·, padding, size_all, messages, total, no_terms, AllGiven}
use Rattle.model.specs.Demand.{opened, shape, history, Start}
use Rattle.tally.specs.Walk.{Stream, stream_of, between, end_of}
use Rattle.tally.specs.Tally.{sums_of}

-- ---- the history between two positions

-- the extents before the first claim that is still open
unfoldable pub closed : List Extent → List Extent
closed [] = []
closed (message re m ∷ h) = message re m ∷ closed h
closed (claimed· open· b ∷ h) = []
closed (claimed· committed b ∷ h) = claimed· committed b ∷ closed h
closed (claimed· aborted b ∷ h) = claimed· aborted b ∷ closed h
closed (padding n ∷ h) = padding n ∷ closed h

-- the two positions cut the history in three; what the walk between them tells of the middle
pub record Tallied (c : Shape) (s : Stream) (h : List Extent) (from to : ℕ) : Type 0 where
  pub before : List Extent
  pub middle : List Extent
  pub behind : List Extent
  pub whole : h ≡ before ++ (middle ++ behind)
  pub first : size_all c before ≡ from
  pub second : size_all c before + size_all c middle ≡ to
  pub body : (sums_of (between s from to)).body ≡ total (messages middle)
  pub end : end_of from (between s from to) ≡ from + size_all c (closed middle)

-- ---- with the season's premises

-- The stream may have outgrown its three terms. While no term is cleared, `Start` (model's Demand) asks only that a position is 0 or answered.
abbrev pub HistoryTallied : Type 0
HistoryTallied =
    (log : List ℕ) (term mtu initial session stream : ℤ) → (open_of log term mtu initial session stream).answer ≡ Ok tt
    → (calls : List Call)
    → let w = opened log term mtu initial session stream in let end = left w calls in
    AllGiven (shape w) [] no_terms w calls
    → (from to : ℕ) → Start w calls from → Start w calls to → from ≤ to
    → Tallied (shape w) (stream_of end.record· end.log) (history w calls) from to
