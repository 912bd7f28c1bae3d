-- A fragment that passes through lies in the log; where it is refused the buffer is as it was.
use Rattle.std.specs.Prelude.{Option, Some, None, Result, Ok, Err}
use mathlib.Core.Path.{◌≡◌, refl, sym, ap, ap₂, ◌∙◌}
use mathlib.Core.Bool.{cond}
use mathlib.Core.List.{List}
use Prim.Native.Nat.{ℕ, ◌+◌, ◌-◌, ◌*◌, ◌≤◌, ◌<◌}
use native.Mathlib.Omega.{arith}
use lib.ListN.{length}
use lib.IntN.{ℤ, pos}
use mir.Syntax.{w32}
use mir.Val.{SFits, to_z, of_z}
use mir.Facts.{to_z-of_z, to_z_pos}
use borrow.Author.Rules.{rules}
use Rattle.model.specs.declared.LogRecord.{LogRecord}
use Rattle.model.specs.declared.Reading.{Reading}
use Rattle.model.specs.declared.Error.{Error}
use Rattle.model.specs.declared.Assembled.{Assembled}
use Rattle.model.specs.declared.Assembled.TheVariants.{Nothing, Fragment, Message}
use Rattle.model.specs.declared.Replayed.{Replayed}
use Rattle.model.specs.TermReader.{natural}
use Rattle.model.specs.LogBufferDescriptor.{reading}
use Rattle.model.specs.FragmentAssembler.{assemble_of}
use Rattle.model.specs.Replay.{ReplayState}
use Rattle.image.specs.Images.{state_of as image_state}
use Rattle.replay.specs.declared.Replay.{Replay}
use Rattle.replay.specs.declared.TurnReply.{TurnReply}
use Rattle.replay.specs.Replays.{state_of, Turned, turned, stops, elsewhere_on, elsewhere_by, elsewhere_next, fragment_turn}
use Rattle.replay.proofs.Turns.{fragment-is, fragment-in, refused-keeps}
use Rattle.replay.proofs.give.Goals as goal

-- the partition and the offset, as the assembler takes them
part : (k : ℕ) → k < 3 → to_z w32 k ≡ pos k
part k h = to_z_pos w32 (omega arith)

offset : (o : ℕ) (entry : ℤ) → SFits w32 entry → o ≡ natural (to_z w32 (of_z w32 entry)) - 32 → o < 2147483648 → to_z w32 o ≡ pos (natural entry - 32)
offset o entry f e h = to_z_pos w32 (omega arith) ∙ ap pos (e ∙ ap (λ (z : ℤ). natural z - 32) (to_z-of_z f))

inside : (r : LogRecord) (log : List ℕ) (s : ReplayState) (v : Reading) (k o at n : ℕ) (entry : ℤ) → v ≡ reading r → to_z w32 k ≡ pos k → to_z w32 o ≡ pos (natural entry - 32)
    → (assemble_of r log s.sessions s.buffer (to_z w32 k) (to_z w32 o)).answer ≡ Ok (Fragment at n) → k * v.term + at ≤ length log
inside r log s v k o at n entry ev p q e =
    let t = ap (λ (v : Reading). k * v.term) ev in
    let f = fragment-in r log s.sessions s.buffer k (natural entry - 32) at n (ap₂ (λ (p o : ℤ). (assemble_of r log s.sessions s.buffer p o).answer) (sym p) (sym q) ∙ e) in
    omega (arith, t, f)

pub overflow_mul-k : goal.overflow_mul-k
overflow_mul-k c =
    let a = c.args in
    let e : c.on_fragment-reply.result.answer ≡ Ok (Fragment c.in-Fragment.at c.in-Fragment.n) = search rules in
    let i = inside a.rec a.log.now (state_of a.before a.buffer.now) c.read_active-v.result a.k c.frame_offset.result c.in-Fragment.at c.in-Fragment.n a.entry c.read_active-v.ensures (part a.k c.requires)
    (offset c.frame_offset.result a.entry c.ranges.entry c.frame_offset.ensures.0 c.frame_offset.ensures.1)
    (sym c.on_fragment-reply.ensures.answer_value.0 ∙ e) in
    record { fits = omega (arith, i, c.well_formed) }

pub overflow_add-k : goal.overflow_add-k
overflow_add-k c =
    let a = c.args in
    let e : c.on_fragment-reply.result.answer ≡ Ok (Fragment c.in-Fragment.at c.in-Fragment.n) = search rules in
    let i = inside a.rec a.log.now (state_of a.before a.buffer.now) c.read_active-v.result a.k c.frame_offset.result c.in-Fragment.at c.in-Fragment.n a.entry c.read_active-v.ensures (part a.k c.requires)
    (offset c.frame_offset.result a.entry c.ranges.entry c.frame_offset.ensures.0 c.frame_offset.ensures.1)
    (sym c.on_fragment-reply.ensures.answer_value.0 ∙ e) in
    record { fits = omega (arith, i, c.well_formed) }

-- the turn by an answer that is no part of the log, as the code makes it
abbrev elsewhere-by : Replay → Replay → List ℕ → Result Assembled Error → Turned
elsewhere-by before next left a = record { answer = cond (elsewhere_on a) None (Some (elsewhere_by a)); next = state_of (elsewhere_next before next a) left }

made : (before next : Replay) (left : List ℕ) (t : TurnReply) (a : Result Assembled Error)
    → (t.answer ≡ cond (elsewhere_on a) None (Some (elsewhere_by a))) × (t.next ≡ elsewhere_next before next a) → turned t left ≡ elsewhere-by before next left a
made before next left t a h = ap₂ {C = Turned} (λ (x : Option (Result Replayed Error)) (q : Replay). record { answer = x; next = state_of q left }) h.0 h.1

refused : (base : ℕ) (before next : Replay) (buffer left : List ℕ) (a : Result Assembled Error) (e : Error) → a ≡ Err e → left ≡ buffer
    → elsewhere-by before next left a ≡ fragment_turn base (state_of before buffer) (state_of next left) a
refused base before next buffer left a e h k =
    ap (elsewhere-by before next left) h ∙ ap (λ (b : List ℕ). stops (state_of before b) (Err e)) k ∙ sym (ap (fragment_turn base (state_of before buffer) (state_of next left)) h)

passed : (base : ℕ) (before next : Replay) (s : ReplayState) (left : List ℕ) (b : Assembled) → ((at n : ℕ) → b ≡ Fragment at n → ⊥)
    → elsewhere-by before next left (Ok b) ≡ fragment_turn base s (state_of next left) (Ok b)
passed base before next s left Nothing none = refl
passed base before next s left (Fragment at n) none = absurd (none at n refl)
passed base before next s left (Message at n) none = refl

pub returns-in_default : goal.returns-in_default
returns-in_default c =
    let a = c.args in
    let g = c.on_fragment-reply.ensures in
    let x = c.on_fragment-reply.result.answer in
    let kept = g.buffer_after ∙ refused-keeps a.rec a.log.now (state_of a.before a.buffer.now).sessions a.buffer.now _ _ c.in_default.field-0 (sym g.answer_value.0 ∙ c.in_default.is) in
    made a.before _ c.on_fragment-reply.new.buffer c.elsewhere.result x c.elsewhere.ensures
    ∙ refused (a.k * c.read_active-v.result.term) a.before _ a.buffer.now _ x c.in_default.field-0 c.in_default.is kept
    ∙ fragment-is a.rec a.log.now (state_of a.before a.buffer.now) (image_state a.passed) a.k a.entry _ _ (a.k * c.read_active-v.result.term) _ _ x (part a.k c.requires)
    (offset c.frame_offset.result a.entry c.ranges.entry c.frame_offset.ensures.0 c.frame_offset.ensures.1) (ap (λ (v : Reading). a.k * v.term) c.read_active-v.ensures)
    g.answer_value.0 g.answer_value.1 g.buffer_after

pub returns-in_default-assembled : goal.returns-in_default-assembled
returns-in_default-assembled c =
    let a = c.args in
    let g = c.on_fragment-reply.ensures in
    let e = c.elsewhere-in_default-assembled in
    made a.before _ c.on_fragment-reply.new.buffer e.result (Ok c.in-Ok.assembled) e.ensures
    ∙ passed (a.k * c.read_active-v.result.term) a.before _ (state_of a.before a.buffer.now) _ c.in-Ok.assembled c.in_default-assembled.not-Fragment
    ∙ fragment-is a.rec a.log.now (state_of a.before a.buffer.now) (image_state a.passed) a.k a.entry _ _ (a.k * c.read_active-v.result.term) _ _ (Ok c.in-Ok.assembled) (part a.k c.requires)
    (offset c.frame_offset.result a.entry c.ranges.entry c.frame_offset.ensures.0 c.frame_offset.ensures.1) (ap (λ (v : Reading). a.k * v.term) c.read_active-v.ensures)
    (sym c.in-Ok.is ∙ g.answer_value.0) g.answer_value.1 g.buffer_after
