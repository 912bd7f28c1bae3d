-- The bytes that the library writes are the field's.
use Rattle.std.proofs.Common.{◌≡◌, length, ap, ◌∙◌}
use Rattle.model.specs.Bytes.{le4, splice}
use Rattle.logbuffer.proofs.Copies.{laid-over}
use Rattle.shelf.proofs.Counts.{bytes_four}
use Rattle.shelf.proofs.bytes.put_count.Goals as goal

pub returns : goal.returns
unfolding le4
returns c =
    let y : c.copy_from_slice.new.self ≡ le4 c.args.n = c.copy_from_slice.ensures.after ∙ c.to_le_bytes.ensures ∙ bytes_four c.args.n in
    laid-over c.args.out.now 0 4 c.copy_from_slice.new.self (ap length y) ∙ ap (splice c.args.out.now 0) y
