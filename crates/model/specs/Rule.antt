-- The deciding rule (R-10 of document 02): which check decided an offer or a claim. Every rule has a number, a place in the order, and a test of its
-- own, which does not ask what the other rules say; the rule answered is the first in the order whose test holds. Publication answers it;
-- DecidingRule says what it tells of the answer. Read Publication next.
use Rattle.std.specs.Prelude.{ℕ, ◌+◌, ◌*◌, Bool, true, false, cond, ◌&&◌, not, List, [], ◌∷◌, eqb, leb, ltb, ℤ, pos}
use Rattle.model.specs.declared.Reading.{Reading}
use Rattle.model.specs.declared.Rule.{Rule}
use Rattle.model.specs.declared.Rule.TheVariants.{IllegalArgument, IllegalRecord, PublicationClosed, ExceedsMaxPayloadLength, CountOutOfStep, LimitPastMaxPosition, BackPressured, NotConnected, ExceedsMaxMessageLength, TailOverflow, TripPastMaxPosition, LastTerm, NotCleared, TermRotated, Unfragmented, Fragmented, Claimed}
use Rattle.model.specs.FrameDescriptor.{space}
use Rattle.model.specs.LogBufferDescriptor.{payload_limit, message_limit, greatest, sound, id_minus, last_term}
use Rattle.model.specs.TermAppender.{need}

-- ---- number and place

-- document 01's number of the answer that the rule gives: two rules give 6, and two give 7
abbrev pub rule_number : Rule → ℤ
rule_number IllegalArgument = pos 1
rule_number IllegalRecord = pos 2
rule_number PublicationClosed = pos 5
rule_number ExceedsMaxPayloadLength = pos 4
rule_number CountOutOfStep = pos 6
rule_number LimitPastMaxPosition = pos 7
rule_number BackPressured = pos 8
rule_number NotConnected = pos 9
rule_number ExceedsMaxMessageLength = pos 10
rule_number TailOverflow = pos 11
rule_number TripPastMaxPosition = pos 7
rule_number LastTerm = pos 12
rule_number NotCleared = pos 19
rule_number TermRotated = pos 6
rule_number Unfragmented = pos 0
rule_number Fragmented = pos 0
rule_number Claimed = pos 0

-- Document 01's order, as R-3 and R-4 of document 02 amend it, one for both calls: 1, 2, 5, 4 (claims), 6 (count), 7/8/9, 10 (offers), 11, then on a trip
-- 7, 12, 19, 6; then what is accepted.
unfoldable pub order : List Rule
order =
    IllegalArgument ∷ IllegalRecord ∷ PublicationClosed ∷ ExceedsMaxPayloadLength ∷ CountOutOfStep
    ∷ LimitPastMaxPosition ∷ BackPressured ∷ NotConnected
    ∷ ExceedsMaxMessageLength ∷ TailOverflow
    ∷ TripPastMaxPosition ∷ LastTerm ∷ NotCleared ∷ TermRotated
    ∷ Unfragmented ∷ Fragmented ∷ Claimed ∷ []

-- the place in it, from 1
abbrev pub rule_place : Rule → ℕ
rule_place IllegalArgument = 1
rule_place IllegalRecord = 2
rule_place PublicationClosed = 3
rule_place ExceedsMaxPayloadLength = 4
rule_place CountOutOfStep = 5
rule_place LimitPastMaxPosition = 6
rule_place BackPressured = 7
rule_place NotConnected = 8
rule_place ExceedsMaxMessageLength = 9
rule_place TailOverflow = 10
rule_place TripPastMaxPosition = 11
rule_place LastTerm = 12
rule_place NotCleared = 13
rule_place TermRotated = 14
rule_place Unfragmented = 15
rule_place Fragmented = 16
rule_place Claimed = 17

-- The tail moves first: by the rules that stand behind 11, which are those of a trip and those that accept.
abbrev pub moves : Rule → Bool
moves x = ltb (rule_place TailOverflow) (rule_place x)

-- those of a trip: from 7 by a trip to rotated
abbrev pub is_trip : Rule → Bool
is_trip x = moves x && leb (rule_place x) (rule_place TermRotated)

-- ---- the tests

-- what is asked for: a message, or a claim, of so many bytes
pub data Asked : Type 0 where
  message claim : ℕ → Asked

abbrev pub bytes_of : Asked → ℕ
bytes_of (message m) = m
bytes_of (claim m) = m

abbrev pub is_claim : Asked → Bool
is_claim (message m) = false
is_claim (claim m) = true

-- an append needs its aligned length, or for a fragmented message the sum over its frames
abbrev pub needs : Reading → Asked → ℕ
needs v (message m) = need (payload_limit v) m
needs v (claim m) = space m

-- rows 7 to 9: the position, its offset not cut to the term, is not below the limit
abbrev pub stands_at : Reading → ℕ
stands_at v = v.count * v.term + v.offset

abbrev pub not_below : Reading → Bool
not_below v = leb v.limit (stands_at v)

-- offset + need exceeds the term length (equal fits)
abbrev pub trips : Reading → Asked → Bool
trips v a = ltb v.term (v.offset + needs v a)

-- Each rule's row of document 01's table, for a record read so whose next partition is marked or not, and a log of n bytes. On a trip 7's sum has the
-- offset twice.
unfoldable pub holds : Reading → Bool → ℕ → Asked → Rule → Bool
holds v ready n a IllegalArgument = ltb 2147483647 (bytes_of a)
holds v ready n a IllegalRecord = not (sound v n)
holds v ready n a PublicationClosed = v.closed
holds v ready n a ExceedsMaxPayloadLength = is_claim a && ltb (payload_limit v) (bytes_of a)
holds v ready n a CountOutOfStep = not (eqb (id_minus v.id v.initial) v.count)
holds v ready n a LimitPastMaxPosition = not_below v && leb (greatest v) (stands_at v + bytes_of a)
holds v ready n a BackPressured = not_below v && eqb v.connected 1
holds v ready n a NotConnected = not_below v && not (eqb v.connected 1)
holds v ready n a ExceedsMaxMessageLength = not (is_claim a) && (ltb (payload_limit v) (bytes_of a) && ltb (message_limit v) (bytes_of a))
holds v ready n a TailOverflow = ltb 2147483647 (v.offset + needs v a)
holds v ready n a TripPastMaxPosition = trips v a && ltb (greatest v) (stands_at v + v.offset)
holds v ready n a LastTerm = trips v a && last_term v.count
holds v ready n a NotCleared = trips v a && not ready
holds v ready n a TermRotated = trips v a
holds v ready n a Unfragmented = not (is_claim a) && leb (bytes_of a) (payload_limit v)
holds v ready n a Fragmented = not (is_claim a) && ltb (payload_limit v) (bytes_of a)
holds v ready n a Claimed = is_claim a

-- ---- the rule

-- the first of a list whose test holds; of the whole order one always does (`DecidingRule`)
unfoldable pub first_of : (Rule → Bool) → List Rule → Rule
first_of test [] = Claimed
first_of test (x ∷ xs) = cond (test x) x (first_of test xs)

unfoldable pub decided : Reading → Bool → ℕ → Asked → Rule
decided v ready n a = first_of (holds v ready n a) order
