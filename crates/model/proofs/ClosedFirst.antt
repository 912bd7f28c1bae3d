-- The theorem of specs/ClosedFirst.antt: two rungs that changed places answer alike but where both refuse.
use Rattle.std.specs.Prelude.{Result, Err, ⊤}
use Rattle.model.specs.declared.Error.{Error}
use mathlib.Core.Path.{◌≡◌, refl, ap}
use mathlib.Core.Bool.{Bool, true, false, ◌&&◌, not}
use Prim.Native.Nat.{ℕ, ◌*◌}
use mathlib.Core.List.{List}
use native.Mathlib.Omega.{arith}
use lib.Dec.{ltb}
use lib.ListN.{length}
use lib.IntN.{ℤ}
use Rattle.model.specs.declared.LogRecord.{LogRecord}
use Rattle.model.specs.declared.Reading.{Reading}
use Rattle.model.specs.declared.Error.TheVariants.{IllegalArgument, IllegalRecord, ExceedsMaxPayloadLength, PublicationClosed}
use Rattle.model.specs.declared.Claimed.{Claimed}
use Rattle.model.specs.Bytes.{word}
use Rattle.model.specs.FrameDescriptor.{space}
use Rattle.model.specs.LogBufferDescriptor.{active, reading, payload_limit, sound}
use Rattle.model.specs.TermAppender.{claimed}
use Rattle.model.specs.Publication.{refuse_if, after_closed, tail_room, next_by, log_by, claimed_by, claim_verdict, claim_of, claim_bytes}
use Rattle.model.specs.ClosedFirst.{claim_verdict_before, claim_before, claim_bytes_before, closed_and_long, FiveForFour, AsBefore, ClosedFirst}
use Rattle.model.proofs.Anchors as Anchors

-- the two ladders, over what their four tests say: rows 1 and 2, closed, too long
abbrev closed_rung : Bool → Bool → Bool → Bool → Result ⊤ Error → Result ⊤ Error
closed_rung a b c d rest = refuse_if a IllegalArgument (refuse_if (not b) IllegalRecord (refuse_if c PublicationClosed (refuse_if d ExceedsMaxPayloadLength rest)))

abbrev long_rung : Bool → Bool → Bool → Bool → Result ⊤ Error → Result ⊤ Error
long_rung a b c d rest = refuse_if a IllegalArgument (refuse_if (not b) IllegalRecord (refuse_if d ExceedsMaxPayloadLength (refuse_if c PublicationClosed rest)))

both-refuse : (a b c d : Bool) (rest : Result ⊤ Error) → not a && (b && (c && d)) ≡ true → (closed_rung a b c d rest ≡ Err PublicationClosed) × (long_rung a b c d rest ≡ Err ExceedsMaxPayloadLength)
both-refuse true b c d rest h = absurd (let z : ◌≡◌ {A = ℕ} 0 1 = cc in omega arith)
both-refuse false false c d rest h = absurd (let z : ◌≡◌ {A = ℕ} 0 1 = cc in omega arith)
both-refuse false true false d rest h = absurd (let z : ◌≡◌ {A = ℕ} 0 1 = cc in omega arith)
both-refuse false true true false rest h = absurd (let z : ◌≡◌ {A = ℕ} 0 1 = cc in omega arith)
both-refuse false true true true rest h = (refl, refl)

one-refuses : (a b c d : Bool) (rest : Result ⊤ Error) → not a && (b && (c && d)) ≡ false → closed_rung a b c d rest ≡ long_rung a b c d rest
one-refuses true b c d rest h = refl
one-refuses false false c d rest h = refl
one-refuses false true false d rest h = refl
one-refuses false true true false rest h = refl
one-refuses false true true true rest h = absurd (let z : ◌≡◌ {A = ℕ} 0 1 = cc in omega arith)

module _ (r : LogRecord) (log : List ℕ) (m : ℤ) where
  abbrev v : Reading
  v = reading r

  abbrev rest : Result ⊤ Error
  rest = after_closed v (word m) (tail_room v (space (word m)))

  -- what a claim leaves and answers, by its verdict
  abbrev reply : Result ⊤ Error → LogRecord × Result Claimed Error
  reply x = (next_by r v (space (word m)) x, claimed_by r v (word m) x)

  abbrev bytes : Result ⊤ Error → List ℕ
  bytes x = log_by r v log (claimed v log (active r * v.term) (word m)) (space (word m)) x

  turned : closed_and_long r log m ≡ true → FiveForFour r log m
  unfolding closed_and_long claim_verdict claim_verdict_before claim_of claim_before claim_bytes claim_bytes_before
  turned h =
      let two = both-refuse (ltb 2147483647 (word m)) (sound v (length log)) v.closed (ltb (payload_limit v) (word m)) rest h in
      record { before = ap reply two.1; now = ap reply two.0; log-before = ap bytes two.1; log-now = ap bytes two.0 }

  stays : closed_and_long r log m ≡ false → AsBefore r log m
  unfolding closed_and_long claim_verdict claim_verdict_before claim_of claim_before claim_bytes claim_bytes_before
  stays h =
      let same = one-refuses (ltb 2147483647 (word m)) (sound v (length log)) v.closed (ltb (payload_limit v) (word m)) rest h in
      record { reply = ap reply same; bytes = ap bytes same }

pub closed-first : ClosedFirst
unfolding ClosedFirst
closed-first r log m = (turned r log m, stays r log m)
