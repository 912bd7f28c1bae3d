-- The loop is left at the session's place, or behind the last id.
use Rattle.std.proofs.Common.{take, sym, ap, ◌∙◌, arith, length-take-le, to_z-of_z, w32, to_z, of_z}
use Rattle.model.specs.FragmentAssembler.{place_in}
use Rattle.logbuffer.proofs.Sessions.{left_here, left-on, left-none}
use Rattle.logbuffer.proofs.fragment_assembler.place_in.Goals as goal

pub loop-i-init : goal.loop-i-init
loop-i-init c = omega arith

pub returns-then-id-session : goal.returns-then-id-session
returns-then-id-session c =
    let s = c.args in
    let same = to_z-of_z {w = w32} c.ranges.session in
    let here = left_here (take s.n s.ids.now) (to_z w32 (of_z w32 s.session)) c.loop-i.i c.loop-i-test.true (c.if-id-session.true ∙ ap (of_z w32) (sym same)) c.loop-i.invariant in
    (sym here ∙ ap (place_in (take s.n s.ids.now)) same, omega (arith, length-take-le s.n s.ids.now c.requires))

pub loop-i-preserved : goal.loop-i-preserved
loop-i-preserved c =
    let s = c.args in
    let same = to_z-of_z {w = w32} c.ranges.session in
    left-on (take s.n s.ids.now) (to_z w32 (of_z w32 s.session)) c.loop-i.i c.loop-i-test.true (λ q. c.if-id-session.false (q ∙ ap (of_z w32) same)) c.loop-i.invariant

pub returns : goal.returns
returns c =
    let s = c.args in
    let behind = left-none (take s.n s.ids.now) (to_z w32 (of_z w32 s.session)) c.loop-i.i (omega arith) c.loop-i.invariant in
    (omega (arith, length-take-le s.n s.ids.now c.requires) ∙ sym behind ∙ ap (place_in (take s.n s.ids.now)) (to_z-of_z {w = w32} c.ranges.session), omega arith)
