-- A count's numbers are those of the messages that a replay gives: how many there are, and their bytes.
use Rattle.std.specs.Prelude.{Result, Ok, Err}
use Rattle.model.specs.declared.Error.{Error}
use Prim.Native.Nat.{ℕ, zero, suc, ◌+◌, ◌*◌, ◌≤◌, ◌<◌}
use mathlib.Core.Path.{◌≡◌, refl, sym, ap, ap₂, ◌∙◌}
use mathlib.Core.Bool.{Bool, true, cond}
use mathlib.Core.List.{List, [], ◌∷◌}
use native.Mathlib.Omega.{arith}
use lib.ListN.{length, take, drop, length-drop}
use lib.Seq.{length-take-le}
use lib.IntN.{ℤ, pos}
use Rattle.model.specs.declared.LogRecord.{LogRecord}
use Rattle.model.specs.declared.Replayed.{Replayed}
use Rattle.model.specs.declared.Replayed.TheVariants.{InLog, InBuffer, End}
use Rattle.model.specs.LogBufferDescriptor.{reading}
use Rattle.model.specs.History.{World, total}
use Rattle.model.specs.Replay.{ReplayState, NextReply, next_of, from_start, standing, message_by, replayed}
use Rattle.model.specs.Demand.{GivesAll}
use Rattle.model.proofs.Season.{Few}
use Rattle.replay.specs.declared.Counted.{Counted}
use Rattle.replay.specs.Replays.{Tally, added_to, gives_by, length_by, counted_by, count_from, count_of}
use Rattle.replay.proofs.Inside.{next-inside, Inside}

counted-as : ℕ → ℕ → Result Counted Error
counted-as n b = Ok (record { messages = n; bytes = b })

module _ (r : LogRecord) (log : List ℕ) where
  -- a reply that gives a message gives one of the length that it answers
  message-is : (s : ReplayState) (a : Result Replayed Error) (rest : List (List ℕ)) (m : List ℕ) (ms : List (List ℕ)) → Inside log s a → message_by log s a rest ≡ m ∷ ms
      → ((gives_by a ≡ true) × (length_by a ≡ length m)) × (rest ≡ ms)
  message-is s (Ok (InLog from n)) rest m ms i e =
      let l : length (take n (drop from log)) ≡ n = length-take-le n (drop from log) (omega (arith, length-drop from log, i)) in
      ((refl, sym l ∙ ap length (let q : take n (drop from log) ≡ m = cc in q)), cc)
  message-is s (Ok (InBuffer at n)) rest m ms i e =
      let l : length (take n (drop at s.buffer)) ≡ n = length-take-le n (drop at s.buffer) (omega (arith, length-drop at s.buffer, i)) in
      ((refl, sym l ∙ ap length (let q : take n (drop at s.buffer) ≡ m = cc in q)), cc)
  message-is s (Ok End) rest m ms i e = absurd (let z : ◌≡◌ {A = ℕ} 0 1 = cc in omega arith)
  message-is s (Err x) rest m ms i e = absurd (let z : ◌≡◌ {A = ℕ} 0 1 = cc in omega arith)

  by_end : (y : NextReply) (n b : ℕ) (x : Tally) → y.answer ≡ Ok End
      → (cond (gives_by y.answer) x (record { answer = counted_by y.answer n b; buffer = y.next.buffer })).answer ≡ Ok (record { messages = n; bytes = b })
  by_end y n b x e = ap (λ (a : Result Replayed Error). (cond (gives_by a) x (record { answer = counted_by a n b; buffer = y.next.buffer })).answer) e

  counting : (ms : List (List ℕ)) (s : ReplayState) (left n b : ℕ) → length ms < left → b + total ms ≤ 18446744073709551615
      → replayed (suc (length ms)) r log s ≡ ms → (next_of r log (standing (length ms) r log s)).answer ≡ Ok End
      → (count_from left r log s n b).answer ≡ Ok (record { messages = n + length ms; bytes = b + total ms })
  unfolding count_from standing total replayed counted-as
  counting ms s zero n b h k e last = absurd (omega arith)
  counting [] s (suc left) n b h k e last =
      by_end (next_of r log s) n b _ last ∙ ap₂ counted-as (let x : n ≡ n + 0 = omega arith in x) (let x : b ≡ b + 0 = omega arith in x)
  counting (m ∷ ms) s (suc left) n b h k e last =
      let y = next_of r log s in
      let g = message-is y.next y.answer (replayed (suc (length ms)) r log y.next) m ms (next-inside r log s) e in
      let sum : added_to b (length_by y.answer) ≡ b + length m = ap (added_to b) g.0.1 ∙ omega arith in
      ap (λ (t : Bool). (cond t (count_from left r log y.next (n + 1) (added_to b (length_by y.answer))) (record { answer = counted_by y.answer n b; buffer = y.next.buffer })).answer) g.0.0
      ∙ ap (λ (c : ℕ). (count_from left r log y.next (n + 1) c).answer) sum
      ∙ counting ms y.next left (n + 1) (b + length m) (omega arith) (omega arith) g.1 last
      ∙ ap₂ counted-as (let x : n + 1 + length ms ≡ n + suc (length ms) = omega arith in x) (let x : b + length m + total ms ≡ b + (length m + total ms) = omega arith in x)

pub counts_all : (w : World) (p : ℕ) (session : ℤ) (lent : List ℕ) (ms : List (List ℕ)) → GivesAll w p session lent ms → Few w.record· ms
    → (count_of w.record· w.log (pos p) session lent).answer ≡ Ok (record { messages = length ms; bytes = total ms })
unfolding counted-as
counts_all w p session lent ms g f =
    counting w.record· w.log ms (from_start (pos p) session lent) (3 * (reading w.record·).term + 1) 0 0 (omega (arith, f.messages)) (omega (arith, f.bytes))
    (g.each (suc (length ms)) (omega arith)) (g.ended (length ms) (omega arith))
    ∙ ap₂ counted-as (let x : 0 + length ms ≡ length ms = omega arith in x) (let x : 0 + total ms ≡ total ms = omega arith in x)
