-- The call's promise, carried into the reply and the words; signed arguments that were handed on are those given.
use mathlib.Core.Path.{ap, ◌∙◌}
use lib.IntN.{ℤ}
use mir.Facts.{to_z-of_z}
use Rattle.model.specs.declared.LogRecord.{LogRecord}
use Rattle.model.specs.FragmentAssembler.{assemble_of}
use Rattle.logbuffer.specs.declared.fragment_assembler.FragmentAssembler.{FragmentAssembler}
use Rattle.logbuffer.specs.Assembler.{sessions_of}
use Rattle.capi.specs.Words.{assembler_out}
use Rattle.capi.specs.Replies.{assembly_reply}
use Rattle.capi.proofs.Promised.{of-4}
use borrow.Author.Rules.{rules}
use Rattle.capi.proofs.replays.logbuffer_assembler_on_fragment.Statement.{statement}
use Rattle.capi.proofs.replays.logbuffer_assembler_on_fragment.Tie as tie

returns : tie.Need-returns
returns c =
    let s = c in
    let a = s.args in
    let f = c.on_fragment-o.ensures in
    let q0 = of-4 (λ (r : LogRecord) (g : FragmentAssembler) (x : ℤ) (y : ℤ). (assemble_of r a.log.now (sessions_of g) a.buffer.now x y).answer) f.0.0 c.record_in.ensures c.assembler_in-one.ensures (to_z-of_z s.ranges.partition) (to_z-of_z s.ranges.offset) in
    let q1 = of-4 (λ (r : LogRecord) (g : FragmentAssembler) (x : ℤ) (y : ℤ). (assemble_of r a.log.now (sessions_of g) a.buffer.now x y).next) f.0.1 c.record_in.ensures c.assembler_in-one.ensures (to_z-of_z s.ranges.partition) (to_z-of_z s.ranges.offset) in
    let q2 = of-4 (λ (r : LogRecord) (g : FragmentAssembler) (x : ℤ) (y : ℤ). (assemble_of r a.log.now (sessions_of g) a.buffer.now x y).buffer) f.1 c.record_in.ensures c.assembler_in-one.ensures (to_z-of_z s.ranges.partition) (to_z-of_z s.ranges.offset) in
    (c.assembled.ensures ∙ ap assembly_reply q0, (c.assembler_out.ensures ∙ ap (assembler_out a.assembler.now) q1, q2))

pub logbuffer_assembler_on_fragment_spec : {M : Type 1} → statement M
logbuffer_assembler_on_fragment_spec =
    tie.close (tie.spec (search rules) (search rules) (search rules) (search rules) (search rules) (search rules) returns)
