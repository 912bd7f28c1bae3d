-- The ladder answers, or lets the block be read.
use Rattle.std.specs.Prelude.{Ok}
use Rattle.std.proofs.Common.{◌≡◌, true, length, sym, ap, ◌∙◌, to_z, of_z, rules}
use mir.Syntax.{w64}
use mir.Facts.{to_z-of_z}
use Rattle.model.specs.declared.ReadVerdict.TheVariants.{Read, Closed}
use Rattle.model.specs.TermReader.{natural}
use Rattle.image.specs.Images.{state_of, block_reply_of, block_read}
use Rattle.image.proofs.Rungs.{answered, readable-read}
use Rattle.image.proofs.Blocks.{as-block, block-kept}
use Rattle.image.proofs.Replies.{block-replied}
use Rattle.image.proofs.Image.block_poll.Goals as goal

pub block_at-to-requires : goal.block_at-to-requires
block_at-to-requires c =
    let a = c.args in
    let k = readable-read true _ (length a.log.now) (state_of a.self) (answered c.in-Ok-Read.is c.in-Ok-Read.field-0-is c.readable.ensures) in
    (c.read_active-v.ensures, (k.sound, (k.high, (k.p-32, c.natural-most.ensures.1))))

pub returns-in-Err : goal.returns-in-Err
returns-in-Err c =
    let a = c.args in
    ap block_reply_of (as-block a.rec a.log.now (state_of a.self) a.limit _ _ c.read_active-v.ensures (c.natural-most.ensures.0 ∙ ap natural (to_z-of_z c.ranges.limit)) _ (sym c.in-Err.is ∙ c.readable.ensures))

pub returns-in-Ok-Closed : goal.returns-in-Ok-Closed
returns-in-Ok-Closed c =
    let a = c.args in
    ap block_reply_of (as-block a.rec a.log.now (state_of a.self) a.limit _ _ c.read_active-v.ensures (c.natural-most.ensures.0 ∙ ap natural (to_z-of_z c.ranges.limit)) (Ok Closed) (answered c.in-Ok-Closed.is c.in-Ok-Closed.field-0-is c.readable.ensures))

pub returns-in-Ok-Read : goal.returns-in-Ok-Read
returns-in-Ok-Read c =
    let a = c.args in
    let t = c.block_at-to in
    let z : to_z w64 (of_z w64 t.result.position) ≡ t.result.position = to_z-of_z {w = w64} {z = t.result.position} (search rules) in
    let v = c.read_active-v.result in
    let n = c.natural-most.result in
    block-replied (state_of a.self) _ t.result (block_read v a.log.now (state_of a.self) n) z t.ensures (block-kept v a.log.now (state_of a.self) n)
    ∙ ap block_reply_of (as-block a.rec a.log.now (state_of a.self) a.limit _ _ c.read_active-v.ensures (c.natural-most.ensures.0 ∙ ap natural (to_z-of_z c.ranges.limit)) (Ok Read) (answered c.in-Ok-Read.is c.in-Ok-Read.field-0-is c.readable.ensures))
