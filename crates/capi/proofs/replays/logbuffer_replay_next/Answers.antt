-- A whole message is found as it lies: then the reply and the one word are the definition's. All else is the promise of `next_by_all`.
use Rattle.std.proofs.Common.{rules, ◌≡◌, ◌+◌, ◌-◌, ◌*◌, ◌/◌, length, List, ℕ, ℤ, pos, w64, to_z, Some, Ok, sym, ap, ◌∙◌, arith}
use lib.ListN.{set}
use mir.Facts.{to_z_pos}
use Rattle.model.specs.declared.LogRecord.{LogRecord}
use Rattle.model.specs.declared.Replayed.TheVariants.{InLog}
use Rattle.model.specs.Bytes.{long}
use Rattle.model.specs.LogBufferDescriptor.{reading}
use Rattle.model.specs.Replay.{NextReply, next_of}
use Rattle.image.specs.declared.Image.{Image}
use Rattle.image.specs.Images.{state_of as image_state}
use Rattle.logbuffer.specs.Assembler.{sessions_of}
use Rattle.logbuffer.proofs.Signed.{long-by}
use Rattle.replay.specs.InPlace.{whole_in}
use Rattle.replay.specs.declared.frames.Whole.{Whole}
use Rattle.replay.specs.Replays.{state_of}
use Rattle.replay.proofs.InPlace.{Told, told, whole_says, whole_reply}
use Rattle.capi.specs.Words.{record_in, image_in, assembler_from, assembler_to, replay_in, replay_out}
use Rattle.capi.specs.Replies.{next_reply}
use Rattle.capi.proofs.Promised.{of-2}
use Rattle.capi.proofs.replays.logbuffer_replay_next.Goals as goal

-- what was found, by the words as they were given
found : (replay rec : List ℤ) (log buffer : List ℕ) (p : ℕ) (w : Whole) (r : LogRecord) (i : Image) → i ≡ image_in replay → r ≡ record_in rec → p ≡ long i.position
    → Some w ≡ whole_in r log (image_state i) (length buffer) → Told (record_in rec) log (image_state (image_in replay)) (length buffer) p w
found replay rec log buffer p w r i ei er ep ew =
    told (record_in rec) log (image_state (image_in replay)) (length buffer) p w (ep ∙ ap (λ (x : Image). long x.position) ei)
    (of-2 (λ (x : LogRecord) (y : Image). whole_in x log (image_state y) (length buffer)) ew er ei)

pub overflow_add-end : goal.overflow_add-end
overflow_add-end c =
    let a = c.args in
    let h = found a.replay.now a.rec.now a.log.now a.buffer.now _ c.in-Some.whole c.record_in.result c.replay_image-image.result c.replay_image-image.ensures c.record_in.ensures (long-by c.replay_image-image.result.position c.long-p.ensures.0 (search rules)) (sym c.in-Some.is ∙ c.next_whole.ensures) in
    omega arith

pub overflow_mul-end : goal.overflow_mul-end
overflow_mul-end c =
    let a = c.args in
    let h = found a.replay.now a.rec.now a.log.now a.buffer.now _ c.in-Some.whole c.record_in.result c.replay_image-image.result c.replay_image-image.ensures c.record_in.ensures (long-by c.replay_image-image.result.position c.long-p.ensures.0 (search rules)) (sym c.in-Some.is ∙ c.next_whole.ensures) in
    omega arith

pub overflow_add-end-2 : goal.overflow_add-end-2
overflow_add-end-2 c =
    let a = c.args in
    let h = found a.replay.now a.rec.now a.log.now a.buffer.now _ c.in-Some.whole c.record_in.result c.replay_image-image.result c.replay_image-image.ensures c.record_in.ensures (long-by c.replay_image-image.result.position c.long-p.ensures.0 (search rules)) (sym c.in-Some.is ∙ c.next_whole.ensures) in
    omega arith

pub overflow_add-result : goal.overflow_add-result
overflow_add-result c =
    let a = c.args in
    let h = found a.replay.now a.rec.now a.log.now a.buffer.now _ c.in-Some.whole c.record_in.result c.replay_image-image.result c.replay_image-image.ensures c.record_in.ensures (long-by c.replay_image-image.result.position c.long-p.ensures.0 (search rules)) (sym c.in-Some.is ∙ c.next_whole.ensures) in
    omega arith

pub overflow_sub-result : goal.overflow_sub-result
overflow_sub-result c =
    let a = c.args in
    let h = found a.replay.now a.rec.now a.log.now a.buffer.now _ c.in-Some.whole c.record_in.result c.replay_image-image.result c.replay_image-image.ensures c.record_in.ensures (long-by c.replay_image-image.result.position c.long-p.ensures.0 (search rules)) (sym c.in-Some.is ∙ c.next_whole.ensures) in
    omega arith

pub returns-clause-value : goal.returns-clause-value
returns-clause-value c =
    let a = c.args in
    let h = found a.replay.now a.rec.now a.log.now a.buffer.now _ c.in-Some.whole c.record_in.result c.replay_image-image.result c.replay_image-image.ensures c.record_in.ensures (long-by c.replay_image-image.result.position c.long-p.ensures.0 (search rules)) (sym c.in-Some.is ∙ c.next_whole.ensures) in
    let k = c.in-Some.whole.length in
    let t = state_of (replay_in a.replay.now) a.buffer.now in
    let e : whole_reply (reading (record_in a.rec.now)).term t k ≡ next_of (record_in a.rec.now) a.log.now t = whole_says (record_in a.rec.now) a.log.now t k h.said h.some in
    ap (λ (x : ℕ). next_reply (Ok (InLog (x + 32) (k - 32)))) h.index_is ∙ ap (λ (y : NextReply). next_reply y.answer) e

pub returns-clause-replay_after : goal.returns-clause-replay_after
returns-clause-replay_after c =
    let a = c.args in
    let h = found a.replay.now a.rec.now a.log.now a.buffer.now _ c.in-Some.whole c.record_in.result c.replay_image-image.result c.replay_image-image.ensures c.record_in.ensures (long-by c.replay_image-image.result.position c.long-p.ensures.0 (search rules)) (sym c.in-Some.is ∙ c.next_whole.ensures) in
    let k = c.in-Some.whole.length in
    let t = state_of (replay_in a.replay.now) a.buffer.now in
    let e : whole_reply (reading (record_in a.rec.now)).term t k ≡ next_of (record_in a.rec.now) a.log.now t = whole_says (record_in a.rec.now) a.log.now t k h.said h.some in
    let i = image_in a.replay.now in
    let p-is : c.long-p.result ≡ long i.position = long-by c.replay_image-image.result.position c.long-p.ensures.0 (search rules) ∙ ap (λ (x : Image). long x.position) c.replay_image-image.ensures in
    let z : to_z w64 (c.long-p.result + (k + 31) / 32 * 32) ≡ pos (long i.position + (k + 31) / 32 * 32) = to_z_pos w64 (omega arith) ∙ ap (λ (x : ℕ). pos (x + (k + 31) / 32 * 32)) p-is in
    c.position_out.ensures ∙ ap (λ (x : ℤ). assembler_to (set a.replay.now 0 x) 2 (sessions_of (assembler_from a.replay.now 2))) z ∙ ap (λ (y : NextReply). replay_out a.replay.now y.next) e

pub returns-clause-buffer_after : goal.returns-clause-buffer_after
returns-clause-buffer_after c =
    let a = c.args in
    let h = found a.replay.now a.rec.now a.log.now a.buffer.now _ c.in-Some.whole c.record_in.result c.replay_image-image.result c.replay_image-image.ensures c.record_in.ensures (long-by c.replay_image-image.result.position c.long-p.ensures.0 (search rules)) (sym c.in-Some.is ∙ c.next_whole.ensures) in
    let k = c.in-Some.whole.length in
    let t = state_of (replay_in a.replay.now) a.buffer.now in
    let e : whole_reply (reading (record_in a.rec.now)).term t k ≡ next_of (record_in a.rec.now) a.log.now t = whole_says (record_in a.rec.now) a.log.now t k h.said h.some in
    ap (λ (y : NextReply). y.next.buffer) e
