-- Each number is read by itself.
use Rattle.std.proofs.Common.{◌≡◌, rules}
use Rattle.model.specs.Bytes.{word}
use Rattle.model.specs.LogBufferDescriptor.{reading}
use Rattle.logbuffer.proofs.Signed.{word-by}
use Rattle.logbuffer.proofs.argument.place.Statement.{statement}
use Rattle.logbuffer.proofs.argument.place.Tie as tie

returns : tie.Need-returns
returns c =
    let s = c in
    let v : c.read_active.result ≡ reading s.args.rec = c.read_active.ensures in
    let k : c.word.result ≡ word s.args.partition = word-by s.args.partition c.word.ensures.0 s.ranges.partition in
    let at : c.word-2.result ≡ word s.args.offset = word-by s.args.offset c.word-2.ensures.0 s.ranges.offset in
    (cc, (c.word.ensures.1, c.word-2.ensures.1))

pub place_spec : {M : Type 1} → statement M
place_spec = tie.close (tie.spec (search rules) (search rules) (search rules) returns)
