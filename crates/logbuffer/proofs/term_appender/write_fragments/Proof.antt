-- The writer at entry on the whole message is the writer now on what is left of it: that is `Left`. A turn takes one fragment off, and the
-- last one ends it.
use Rattle.std.proofs.Common.{◌≡◌, ℕ, ◌+◌, ◌-◌, ◌*◌, ◌/◌, ◌≤◌, List, length, take, drop, sym, refl, ap, ◌∙◌, subst, arith, length-drop, length-take-le, take_all, drop-drop}
use Rattle.model.specs.Bytes.{splice}
use Rattle.model.specs.TermAppender.{fragment, fragment_bytes, written, cut}
use Rattle.model.proofs.Cut.{Left, need-is, left-all, left-more, left-last}
use Rattle.logbuffer.proofs.term_appender.write_fragments.Statement.{statement}
use Rattle.logbuffer.proofs.term_appender.write_fragments.Tie as tie

abbrev invariant-loop : tie.invariant-loop-at
invariant-loop log₀ base v payload reserved message offset₀ at₀ flags₀ log offset at flags =
    (at ≤ length message) × ((length log ≡ length log₀) × ((flags ≤ 128) × Left v log base offset payload flags reserved (drop at message) (written v log₀ base v.offset (cut payload reserved message))))

abbrev decreases-loop : tie.decreases-loop-at
decreases-loop log₀ base v payload reserved message offset₀ at₀ flags₀ log offset at flags = length message - at

loop-holds : tie.Need-loop-at-init invariant-loop decreases-loop
loop-holds c = let s = c in (omega arith, (refl, (omega arith, left-all s.args.v s.args.log.now s.args.base s.args.payload s.args.reserved s.args.message.now (omega (arith, s.requires.1.1.1.1.0, need-is s.args.payload s.args.reserved s.args.message.now)))))

-- what a turn's fragment leaves, and that it has room
turn : (c : tie.In-loop-at invariant-loop decreases-loop) → (let l = c.loop-at in let s = c.args in
    Left s.v (splice l.log (s.base + l.offset) (fragment_bytes s.v l.offset (fragment l.flags s.reserved (take s.payload (drop l.at s.message.now))))) s.base
    (l.offset + (s.payload + 32)) s.payload 0 s.reserved (drop s.payload (drop l.at s.message.now)) (written s.v s.log.now s.base s.v.offset (cut s.payload s.reserved s.message.now))
    × (l.offset + (s.payload + 32) ≤ s.v.term))
turn c =
    let l = c.loop-at in
    let s = c.args in
    left-more s.v l.log s.base l.offset s.payload l.flags s.reserved (drop l.at s.message.now) _ l.invariant.1.1.1 (omega (arith, length-drop l.at s.message.now))
    (omega arith) c.requires.1.1.1.0

-- its body is a whole payload
part-is : (c : tie.In-loop-at invariant-loop decreases-loop) → (let l = c.loop-at in let s = c.args in
    (take (l.at + s.payload - l.at) (drop l.at s.message.now) ≡ take s.payload (drop l.at s.message.now)) × (length (take (l.at + s.payload - l.at) (drop l.at s.message.now)) ≡ s.payload))
part-is c =
    let l = c.loop-at in
    let s = c.args in
    let n : l.at + s.payload - l.at ≡ s.payload = omega arith in
    let e : take (l.at + s.payload - l.at) (drop l.at s.message.now) ≡ take s.payload (drop l.at s.message.now) = ap (λ (k : ℕ). take k (drop l.at s.message.now)) n in
    (e, ap length e ∙ length-take-le s.payload (drop l.at s.message.now) (omega (arith, length-drop l.at s.message.now)))

-- what the last fragment leaves
ended : (c : tie.After-loop-at invariant-loop decreases-loop) → (let l = c.loop-at in let s = c.args in
    (splice l.log (s.base + l.offset) (fragment_bytes s.v l.offset (fragment (l.flags + 64) s.reserved (drop l.at s.message.now)))
    ≡ written s.v s.log.now s.base s.v.offset (cut s.payload s.reserved s.message.now))
    × (l.offset + (length (drop l.at s.message.now) + 32 + 31) / 32 * 32 ≤ s.v.term))
ended c =
    let l = c.loop-at in
    let s = c.args in
    left-last s.v l.log s.base l.offset s.payload l.flags s.reserved (drop l.at s.message.now) _ l.invariant.1.1.1 (omega (arith, length-drop l.at s.message.now))

-- its body is all that is left
rest-is : (c : tie.After-loop-at invariant-loop decreases-loop) → (let l = c.loop-at in let s = c.args in
    take (length s.message.now - l.at) (drop l.at s.message.now) ≡ drop l.at s.message.now)
rest-is c =
    let l = c.loop-at in
    let s = c.args in
    take_all (length s.message.now - l.at) (drop l.at s.message.now) (omega (arith, length-drop l.at s.message.now))

add-write-fragment : tie.Need-overflow_add-base invariant-loop decreases-loop
add-write-fragment c = let r = (turn c.before.before).1 in omega arith

write-fragment-requires : tie.Need-write_fragment-requires invariant-loop decreases-loop
write-fragment-requires c κs = let r = (turn c.before.before).1 in let l = c.loop-at in let s = c in (omega (arith, l.invariant.1.0, (part-is c.before.before).1), (s.requires.1.0, (omega arith, omega (arith, s.requires.1.1.1.1.1, (part-is c.before.before).1))))

add-offset : tie.Need-overflow_add-offset invariant-loop decreases-loop
add-offset c = let r = (turn c.before.before.before.before.before).1 in omega arith

add-offset-2 : tie.Need-overflow_add-offset-in-loop-at invariant-loop decreases-loop
add-offset-2 c = let r = (turn c.before.before.before.before.before).1 in omega arith

loop-again : tie.Need-loop-at-preserved invariant-loop decreases-loop
loop-again c = let l = c.loop-at in
    let s = c.args in
    let w = c.write_fragment in
    let goal = written s.v s.log.now s.base s.v.offset (cut s.payload s.reserved s.message.now) in
    let rest = drop (l.at + s.payload) s.message.now in
    let e = w.ensures ∙ ap (λ (b : List ℕ). splice l.log (s.base + l.offset) (fragment_bytes s.v l.offset (fragment l.flags s.reserved b))) (part-is c.before.before.before.before.before).0 in (
      omega arith,
      (
        w.auto.log ∙ l.invariant.1.0,
        (
          omega arith,
          subst (λ (x : List ℕ). Left s.v x s.base (l.offset + (s.payload + 32)) s.payload 0 s.reserved rest goal) (sym e)
              (subst (λ (m : List ℕ). Left s.v (splice l.log (s.base + l.offset) (fragment_bytes s.v l.offset (fragment l.flags s.reserved (take s.payload (drop l.at s.message.now))))) s.base (l.offset + (s.payload + 32)) s.payload 0 s.reserved m goal)
              (drop-drop s.payload l.at s.message.now) (turn c.before.before.before.before.before).0),
        ),
      ),
    )

add-write-fragment-2 : tie.Need-overflow_add-base-2 invariant-loop decreases-loop
add-write-fragment-2 c = let r = (ended c.before.before).1 in omega arith

write-fragment-requires-2 : tie.Need-write_fragment-requires-2 invariant-loop decreases-loop
write-fragment-requires-2 c κs = let r = (ended c.before.before).1 in let l = c.loop-at in let s = c in (omega (arith, l.invariant.1.0, ap length (rest-is c.before.before)), (s.requires.1.0, (omega arith, omega (arith, s.requires.1.1.1.1.1, ap length (rest-is c.before.before)))))

same_length : tie.Need-shape_of-log invariant-loop decreases-loop
same_length c = c.write_fragment-2.auto.log ∙ c.loop-at.invariant.1.0

returns : tie.Need-returns invariant-loop decreases-loop
returns c = let l = c.loop-at in
    let s = c.args in
    c.write_fragment-2.ensures ∙ ap (λ (b : List ℕ). splice l.log (s.base + l.offset) (fragment_bytes s.v l.offset (fragment (l.flags + 64) s.reserved b))) (rest-is c.before.before.before.before.before) ∙ (ended c.before.before.before.before.before).0

pub write_fragments_spec : {M : Type 1} → statement M
write_fragments_spec =
    tie.close
    (tie.spec
    invariant-loop
    decreases-loop
    loop-holds
    (λ c. omega arith)
    (λ c. omega arith)
    (λ c. omega arith)
    (λ c. omega arith)
    (λ c. omega arith)
    add-write-fragment
    write-fragment-requires
    (λ c. omega arith)
    add-offset
    add-offset-2
    (λ c. omega arith)
    loop-again
    (λ c. omega arith)
    (λ c. omega arith)
    (λ c. omega arith)
    add-write-fragment-2
    (λ c. omega arith)
    write-fragment-requires-2
    same_length
    returns)
