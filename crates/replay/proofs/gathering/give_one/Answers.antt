-- What the core answers, by its parts: a frame that is refused is not passed, and any other is.
use Rattle.std.specs.Prelude.{Result}
use mathlib.Core.Path.{◌≡◌, sym, ap, ap₂, ◌∙◌}
use mathlib.Core.Bool.{true, false}
use mathlib.Core.List.{List}
use Prim.Native.Nat.{ℕ, ◌+◌, ◌-◌, ◌%◌}
use lib.IntN.{ℤ}
use Rattle.model.specs.declared.Error.{Error}
use Rattle.model.specs.declared.Assembled.{Assembled}
use Rattle.model.specs.declared.Replayed.{Replayed as Message}
use Rattle.model.specs.FragmentAssembler.{Sessions, Assembly}
use Rattle.model.specs.FrameDescriptor.{align}
use Rattle.model.proofs.Choice.{cond-true, cond-false}
use Rattle.logbuffer.specs.Assembler.{sessions_as, join_of}
use Rattle.replay.specs.declared.frames.Gathered.{Gathered}
use Rattle.replay.specs.InPlace.{kept_as, kept_by, replied_by, is_refused}
use Rattle.replay.specs.Gather.{gathered_as, gathering_of}
use Rattle.replay.proofs.Gather.{led_to}
use Rattle.logbuffer.proofs.Shifts.{offset-by}
use Rattle.replay.proofs.InPlace.{refused-is, kept-so, kept-not}
use Rattle.replay.proofs.gathering.give_one.Goals as goal

led : (s : Sessions) (A J : Assembly) (g : Gathered) (ids : List ℤ) (held buffer : List ℕ) (count : ℕ) (answer : Result Assembled Error) (index n left p : ℕ) (y : Result Message Error) (t : Sessions)
    → A ≡ J → answer ≡ A.answer → sessions_as count ids held ≡ kept_by s A → buffer ≡ A.buffer → g ≡ gathered_as count left p y → y ≡ replied_by index n answer → kept_as s J.next J.answer ≡ t
    → gathering_of g ids held buffer ≡ led_to left p t J.buffer (replied_by index n J.answer)
led s A J g ids held buffer count answer index n left p y t j a h b e r k =
    ap (λ (x : Gathered). gathering_of x ids held buffer) e
    ∙ ap₂ (λ (x : Sessions) (z : List ℕ). led_to left p x z y) (h ∙ ap (kept_by s) j ∙ k) (b ∙ ap (λ (x : Assembly). x.buffer) j)
    ∙ ap (led_to left p t J.buffer) (r ∙ ap (replied_by index n) (a ∙ ap (λ (x : Assembly). x.answer) j))

pub returns-then-is_err : goal.returns-then-is_err
returns-then-is_err c =
    let a = c.args in
    let s = sessions_as a.count a.ids.now a.held.now in
    let J = join_of s a.buffer.now a.log.now a.index (a.p % a.term) in
    let g = c.give-given.ensures in
    let j = ap (join_of s a.buffer.now a.log.now a.index) (offset-by a.term c.requires.0.1.high (c.requires.0.1.one_bit c.requires.0.0) a.p) in
    let e : is_refused J.answer ≡ true = sym (ap is_refused (g.answer_value ∙ ap (λ (x : Assembly). x.answer) j)) ∙ sym (refused-is _) ∙ sym c.is_err.ensures.value ∙ c.if-is_err.true in
    led s _ J _ _ _ _ _ _ a.index a.n a.left a.p _ s j g.answer_value g.held_after g.buffer_after c.gathered_as.ensures c.reply_by-reply.ensures (kept-so s J.next J.answer e)
    ∙ sym (cond-true (is_refused J.answer) _ (led_to (a.left - 1) (a.p + align a.n) J.next J.buffer (replied_by a.index a.n J.answer)) e)

pub returns : goal.returns
returns c =
    let a = c.args in
    let s = sessions_as a.count a.ids.now a.held.now in
    let J = join_of s a.buffer.now a.log.now a.index (a.p % a.term) in
    let g = c.give-given.ensures in
    let j = ap (join_of s a.buffer.now a.log.now a.index) (offset-by a.term c.requires.0.1.high (c.requires.0.1.one_bit c.requires.0.0) a.p) in
    let e : is_refused J.answer ≡ false = sym (ap is_refused (g.answer_value ∙ ap (λ (x : Assembly). x.answer) j)) ∙ sym (refused-is _) ∙ sym c.is_err.ensures.value ∙ c.if-is_err.false in
    led s _ J _ _ _ _ _ _ a.index a.n (a.left - 1) (a.p + align a.n) _ J.next j g.answer_value g.held_after g.buffer_after c.gathered_as-2.ensures c.reply_by-reply.ensures (kept-not s J.next J.answer e)
    ∙ sym (cond-false (is_refused J.answer) (led_to a.left a.p s J.buffer (replied_by a.index a.n J.answer)) _ e)
