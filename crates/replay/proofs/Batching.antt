-- A batch, reply by reply.
use Rattle.std.specs.Prelude.{Result, Ok, Err}
use Rattle.model.specs.declared.Error.{Error}
use Prim.Native.Nat.{ℕ, suc, ◌+◌, ◌-◌, ◌/◌, ◌≤◌, ◌<◌}
use mathlib.Core.Path.{◌≡◌, refl, sym, ap, ◌∙◌}
use mathlib.Core.Bool.{Bool, false, ◌&&◌}
use mathlib.Core.List.{List}
use native.Mathlib.Omega.{arith}
use borrow.Author.Tests.{le-leb, lt-leb}
use lib.Dec.{leb}
use lib.ListN.{length}
use Rattle.model.specs.declared.LogRecord.{LogRecord}
use Rattle.model.specs.declared.Error.TheVariants.{IllegalArgument}
use Rattle.model.specs.declared.Replayed.{Replayed}
use Rattle.model.specs.declared.Replayed.TheVariants.{InLog, InBuffer, End}
use Rattle.model.specs.Bytes.{long}
use Rattle.model.specs.Replay.{ReplayState, NextReply, next_of}
use Rattle.model.proofs.Both.{both_true, and-false}
use Rattle.model.proofs.Choice.{cond-true, cond-false}
use Rattle.replay.specs.Batches.{Batch, laid_at, ending, batch_by, batch_from, batch_of}

module _ (r : LogRecord) (log : List ℕ) (s : ReplayState) (slots : List ℕ) where
  abbrev Lent : Bool
  Lent = leb (length s.buffer) 2147483647 && leb (length slots) 2147483647

  abbrev NoBatch : Batch
  NoBatch = record { answer = Err IllegalArgument; next = s; numbers = slots }

  no-batch : Lent ≡ false → NoBatch ≡ batch_of r log s slots
  unfolding batch_of
  no-batch h = sym (cond-false Lent (batch_from (length slots / 4) r log s slots 0) NoBatch h)

  pub batch-buffer : 2147483647 < length s.buffer → NoBatch ≡ batch_of r log s slots
  batch-buffer h = no-batch (ap (λ (b : Bool). b && leb (length slots) 2147483647) (lt-leb (length s.buffer) 2147483647 h))

  pub batch-numbers : 2147483647 < length slots → NoBatch ≡ batch_of r log s slots
  batch-numbers h = no-batch (ap (λ (b : Bool). leb (length s.buffer) 2147483647 && b) (lt-leb (length slots) 2147483647 h) ∙ and-false (leb (length s.buffer) 2147483647))

  pub batch-starts : length s.buffer ≤ 2147483647 → length slots ≤ 2147483647 → batch_from (length slots / 4) r log s slots 0 ≡ batch_of r log s slots
  unfolding batch_of
  batch-starts h k = sym (cond-true Lent (batch_from (length slots / 4) r log s slots 0) NoBatch (both_true (le-leb _ _ h) (le-leb _ _ k)))

  module _ (i : ℕ) where
    pub batch-none : (left : ℕ) → left ≡ 0 → ◌≡◌ {A = Batch} (record { answer = Ok i; next = s; numbers = slots }) (batch_from left r log s slots i)
    unfolding batch_from
    batch-none left e = sym (ap (λ (n : ℕ). batch_from n r log s slots i) e)

    -- one reply more
    module _ (left : ℕ) (h : 0 < left) (y : NextReply) (e : y ≡ next_of r log s) where
      by : batch_by y.next slots i y.answer (λ out. batch_from (left - 1) r log y.next out (i + 1)) ≡ batch_from left r log s slots i
      unfolding batch_from
      by =
          let l : suc (left - 1) ≡ left = omega arith in
          ap (λ (x : NextReply). batch_by x.next slots i x.answer (λ out. batch_from (left - 1) r log x.next out (i + 1))) e ∙ ap (λ (n : ℕ). batch_from n r log s slots i) l

      pub batch-goes : (from n : ℕ) → y.answer ≡ Ok (InLog from n) → batch_from (left - 1) r log y.next (laid_at slots i 1 from n (long y.next.image.position)) (i + 1) ≡ batch_from left r log s slots i
      batch-goes from n q = sym (ap (λ (a : Result Replayed Error). batch_by y.next slots i a (λ out. batch_from (left - 1) r log y.next out (i + 1))) q) ∙ by

      pub batch-ends : ((from n : ℕ) → y.answer ≡ Ok (InLog from n) → ⊥) → ending y.next slots i y.answer ≡ batch_from left r log s slots i
      batch-ends o = go y.answer o ∙ by
        where
          go : (a : Result Replayed Error) → ((from n : ℕ) → a ≡ Ok (InLog from n) → ⊥) → ending y.next slots i a ≡ batch_by y.next slots i a (λ out. batch_from (left - 1) r log y.next out (i + 1))
          go (Ok (InLog from n)) o = absurd (o from n refl)
          go (Ok (InBuffer at n)) o = refl
          go (Ok End) o = refl
          go (Err e) o = refl
