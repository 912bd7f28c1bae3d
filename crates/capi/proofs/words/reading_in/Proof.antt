-- The tail of the active partition is the word at its number.
use mathlib.Core.Path.{◌≡◌, ap, ap₂, ◌∙◌}
use Prim.Native.Nat.{ℕ, ◌%◌}
use native.Mathlib.Omega.{arith}
use mir.Syntax.{w32, w64}
use mir.Val.{SFits}
use mir.Facts.{to_z-of_z}
use Rattle.model.specs.declared.LogRecord.{LogRecord}
use Rattle.model.specs.Bytes.{word}
use Rattle.model.specs.LogBufferDescriptor.{active}
use Rattle.logbuffer.specs.Reads.{reading_with}
use Rattle.logbuffer.proofs.RawTails.{reading-with}
use Rattle.logbuffer.proofs.Signed.{word-by}
use Rattle.capi.specs.Words.{at, record_in}
use Rattle.capi.proofs.Kept.{tail_at}
use borrow.Author.Rules.{rules}
use Rattle.capi.proofs.words.reading_in.Statement.{statement}
use Rattle.capi.proofs.words.reading_in.Tie as tie

count_fits : (c : tie.After-record_in-rec) → SFits w32 c.record_in-rec.result.active_term_count
count_fits c = search rules

raw-fits : (c : tie.After-read_with-arg-1) → SFits w64 (at c.args.w.now (c.word-k.result % 3))
raw-fits c = search rules

returns : tie.Need-returns
returns c =
    let w = c.args.w.now in
    let r = c.record_in-rec in
    let k : c.word-k.result % 3 ≡ active (record_in w) =
    ap (λ (n : ℕ). n % 3) (word-by r.result.active_term_count c.word-k.ensures.0 (count_fits c.before.before.before.before) ∙ ap (λ (x : LogRecord). word x.active_term_count) r.ensures) in
    let tail = to_z-of_z (raw-fits c.before) ∙ ap (at w) k ∙ tail_at w (active (record_in w)) (omega arith) in
    c.read_with.ensures ∙ ap₂ reading_with r.ensures tail ∙ reading-with (record_in w) (active (record_in w))

pub reading_in_spec : {M : Type 1} → statement M
reading_in_spec = tie.close (tie.spec (search rules) (search rules) (search rules) (search rules) (search rules) returns)
