-- The core's session is entered where it was not refused.
use mathlib.Core.Path.{◌≡◌, sym, ap, ◌∙◌}
use mathlib.Core.Bool.{false}
use native.Mathlib.Omega.{arith}
use lib.IntN.{ℤ}
use mir.Syntax.{w32}
use mir.Val.{to_z, of_z}
use mir.Facts.{to_z-of_z}
use borrow.Author.Rules.{rules}
use Rattle.logbuffer.specs.Assembler.{sessions_as, held_at, join_of}
use Rattle.logbuffer.proofs.Sessions.{held_by}
use Rattle.replay.specs.InPlace.{is_refused}
use Rattle.replay.proofs.InPlace.{refused-is, kept-not}
use Rattle.replay.proofs.frames.give.Goals as goal

pub returns-clause-held_after : goal.returns-clause-held_after
returns-clause-held_after c =
    let a = c.args in
    let j = c.join-joined in
    let s = sessions_as a.count a.ids.now a.held.now in
    let J = join_of s a.buffer.now a.log.now a.index a.offset in
    let x = j.result in
    let z : to_z w32 (of_z w32 x.session) ≡ x.session = to_z-of_z {w = w32} {z = x.session} (search rules) in
    let n : is_refused J.answer ≡ false = sym (ap is_refused j.ensures.enters.answers) ∙ sym (refused-is _) ∙ sym c.is_err.ensures.value ∙ c.if-is_err.false in
    held_by s x.place (to_z w32 (of_z w32 x.session)) x.held c.entered_with.result (omega arith) c.entered_with.ensures
    ∙ ap (λ (y : ℤ). held_at s x.place y x.held) z ∙ j.ensures.enters.leaves ∙ sym (kept-not s J.next J.answer n)
