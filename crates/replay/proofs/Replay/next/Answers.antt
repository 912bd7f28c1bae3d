-- Row 1; a whole message, which is found as it lies; or the turns.
use Rattle.std.proofs.Common.{rules, ◌+◌, ◌-◌, ◌*◌, ◌/◌, length, ℕ, ℤ, pos, w64, Ok, sym, ap, ap₂, ◌∙◌, arith}
use mir.Facts.{to_z_pos}
use Rattle.model.specs.declared.Replayed.TheVariants.{InLog}
use Rattle.model.specs.Image.{moved_to}
use Rattle.model.specs.Replay.{NextReply, giving}
use Rattle.image.specs.Images.{state_of as image_state}
use Rattle.logbuffer.specs.Assembler.{sessions_of}
use Rattle.logbuffer.proofs.Signed.{long-by}
use Rattle.replay.specs.Replays.{state_of}
use Rattle.replay.proofs.InPlace.{Told, told, whole_says}
use Rattle.replay.proofs.Turns.{next-refused}
use Rattle.replay.proofs.Replay.next.Goals as goal

pub returns-then-buffer-gt2147483647 : goal.returns-then-buffer-gt2147483647
returns-then-buffer-gt2147483647 c = let a = c.args in next-refused a.rec a.log.now (state_of a.self a.buffer.now) (omega (arith, c.if-buffer-gt2147483647.true))

found : (c : goal.After-long-p) → let a = c.args in Told a.rec a.log.now (image_state a.self.image) (length a.buffer.now) c.long-p.result c.in-Some.whole
found c =
    let a = c.args in
    told a.rec a.log.now (image_state a.self.image) (length a.buffer.now) c.long-p.result c.in-Some.whole (long-by a.self.image.position c.long-p.ensures.0 (search rules)) (sym c.in-Some.is ∙ c.next_whole.ensures)

pub overflow_add-image : goal.overflow_add-image
overflow_add-image c = let h = found c in omega arith

pub overflow_mul-image : goal.overflow_mul-image
overflow_mul-image c = let h = found c in omega arith

pub overflow_add-image-2 : goal.overflow_add-image-2
overflow_add-image-2 c = let h = found c in omega arith

pub overflow_cast-image : goal.overflow_cast-image
overflow_cast-image c = let h = found c in record { sfits = omega arith }

pub overflow_add-result : goal.overflow_add-result
overflow_add-result c =
    let a = c.args in
    let h =
    told a.rec a.log.now (image_state a.self.image) (length a.buffer.now) c.long-p.result c.in-Some.whole (long-by a.self.image.position c.long-p.ensures.0 (search rules)) (sym c.in-Some.is ∙ c.next_whole.ensures) in
    omega arith

pub overflow_sub-result : goal.overflow_sub-result
overflow_sub-result c =
    let a = c.args in
    let h =
    told a.rec a.log.now (image_state a.self.image) (length a.buffer.now) c.long-p.result c.in-Some.whole (long-by a.self.image.position c.long-p.ensures.0 (search rules)) (sym c.in-Some.is ∙ c.next_whole.ensures) in
    h.header

pub returns : goal.returns
returns c =
    let a = c.args in
    let p-is = long-by a.self.image.position c.long-p.ensures.0 (search rules) in
    let h = told a.rec a.log.now (image_state a.self.image) (length a.buffer.now) c.long-p.result c.in-Some.whole p-is (sym c.in-Some.is ∙ c.next_whole.ensures) in
    let n = c.in-Some.whole.length in
    ap₂ {C = NextReply} (λ (z : ℤ) (x : ℕ). giving (record { image = moved_to (image_state a.self.image) z; sessions = sessions_of a.self.assembler; buffer = a.buffer.now }) (Ok (InLog (x + 32) (n - 32))))
    (to_z_pos w64 (omega arith) ∙ ap (λ (x : ℕ). pos (x + (n + 31) / 32 * 32)) p-is) h.index_is
    ∙ whole_says a.rec a.log.now (state_of a.self a.buffer.now) n h.said h.some
