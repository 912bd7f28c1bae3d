-- Where the message fits, the log is as it was and has the room; else what began it is all.
use Rattle.std.proofs.Common.{◌≡◌, ℕ, ◌+◌, ◌*◌, ◌≤◌, List, [], ◌∷◌, length, sym, ap, ◌∙◌, arith, rules}
use Rattle.model.specs.LogBufferDescriptor.{Sound}
use Rattle.model.specs.FrameDescriptor.{space}
use Rattle.model.specs.TermAppender.{fragment, written, bytes_by}
use Rattle.logbuffer.proofs.Appending.{no-fit, fits, one_written}
use Rattle.logbuffer.proofs.term_appender.one_frame.Statement.{statement}
use Rattle.logbuffer.proofs.term_appender.one_frame.Tie as tie

-- an append that fits: the log is as it was, and its partition has the room
fit : (c : tie.In-Fit) → (let s = c.args in
    (c.begin_append-way.new.log ≡ s.log.now) × (Sound s.v (length s.log.now) × ((s.v.offset + space (length s.message.now) ≤ s.v.term) × (s.k * s.v.term + s.v.term ≤ length s.log.now))))
fit c = let s = c in
    fits s.args.v s.args.k s.args.log.now c.begin_append-way.new.log (space (length s.args.message.now)) s.args.given
    (sym c.in-Fit.is ∙ c.begin_append-way.ensures.0) c.begin_append-way.ensures.1 s.requires.0

mul-write-fragment : tie.Need-overflow_mul-k
mul-write-fragment c = let f = fit c.before in omega (arith, f.1)

add-write-fragment : tie.Need-overflow_add-k
add-write-fragment c = let f = fit c.before in omega (arith, f.1)

write-fragment-requires : tie.Need-write_fragment-requires
write-fragment-requires c κs = let f = fit c.before in let s = c in
    (omega (arith, f.1.1, ap length f.0), (s.requires.1.0, omega arith))

returns : tie.Need-returns-in-Fit
returns c = let s = c.args in
    let f = fit c.before.before.before.before in
    let made : List ℕ → List ℕ = λ l. written s.v l (s.k * s.v.term) s.v.offset (fragment 192 s.reserved s.message.now ∷ []) in
    (c.begin_append-way.ensures.0, one_written _ _ _ (s.k * s.v.term) s.v.offset _ c.write_fragment.ensures ∙ ap made f.0 ∙ ap (bytes_by s.v s.k s.log.now (made s.log.now)) (sym c.in-Fit.is ∙ c.begin_append-way.ensures.0))

returns-2 : tie.Need-returns-in_default
returns-2 c = let s = c.args in
    let b = c.begin_append-way in
    let new = written s.v s.log.now (s.k * s.v.term) s.v.offset (fragment 192 s.reserved s.message.now ∷ []) in
    (b.ensures.0, b.ensures.1 ∙ ap (bytes_by s.v s.k s.log.now s.log.now) (sym b.ensures.0) ∙ no-fit s.v s.k s.log.now new b.result c.in_default.in_default-own.keys2 ∙ ap (bytes_by s.v s.k s.log.now new) b.ensures.0)

pub one_frame_spec : {M : Type 1} → statement M
one_frame_spec =
    tie.close
    (tie.spec
    (search rules)
    (search rules)
    (search rules)
    (search rules)
    (search rules)
    mul-write-fragment
    add-write-fragment
    write-fragment-requires
    (search rules)
    returns
    (search rules)
    returns-2)
