-- Over, or the poll's answer says what kind of turn it is.
use Rattle.std.specs.Prelude.{Result, Ok, Err}
use Rattle.model.specs.declared.Error.{Error}
use mathlib.Core.Path.{◌≡◌, sym, ap, ap₂, ◌∙◌}
use mathlib.Core.List.{List}
use Prim.Native.Nat.{ℕ, ◌≤◌}
use lib.Count.{ones}
use lib.ListN.{length}
use mir.Syntax.{w32}
use mir.Val.{SFits}
use mir.Facts.{to_z-of_z}
use native.Mathlib.Omega.{arith}
use Rattle.model.specs.declared.Reading.{Reading}
use Rattle.model.specs.declared.Polled.{Polled}
use Rattle.model.specs.declared.Replayed.TheVariants.{End}
use Rattle.model.specs.Bytes.{long}
use Rattle.model.specs.LogBufferDescriptor.{reading, Sound, partition_of, index_by_position}
use Rattle.model.specs.Image.{Image}
use Rattle.model.specs.Replay.{ReplayState, is_over, poll_one}
use Rattle.image.specs.Images.{state_of as image_state, poll_reply_of}
use Rattle.image.specs.declared.PollReply.{PollReply}
use Rattle.model.proofs.Sound.{sound-true}
use Rattle.model.proofs.Choice.{cond-true, cond-false}
use Rattle.logbuffer.proofs.Signed.{long-by}
use Rattle.logbuffer.proofs.Shifts.{partition-by}
use Rattle.replay.specs.Replays.{state_of, refusal_by, stops, goes_on, turn_said, turn_of}
use Rattle.replay.specs.InPlace.{over_by}
use Rattle.replay.proofs.Turns.{polled-sound, turned_as, fragment-one, turn-fragment, turn-quiet, turn-padding}
use Rattle.replay.proofs.InPlace.{over-is, readings}
use borrow.Author.Rules.{rules}
use Rattle.replay.proofs.turn.Statement.{statement}
use Rattle.replay.proofs.turn.Tie as tie

abbrev st : tie.After-is_over → tie.Start
st c = c.before.before.before.before.before.before.before.before

-- the numbers that the turn goes by
abbrev S : tie.After-is_over → ReplayState
S c = state_of (st c).args.replay (st c).args.buffer.now

abbrev log : tie.After-is_over → List ℕ
log c = (st c).args.log.now

read_is : (c : tie.After-is_over) → c.read_active-v.result ≡ reading (st c).args.rec
read_is c = c.read_active-v.ensures

term_is : (c : tie.After-is_over) → c.read_active-v.result.term ≡ (reading (st c).args.rec).term
term_is c = ap (λ (v : Reading). v.term) (read_is c)

p-is : (c : tie.After-is_over) → c.long-p.result ≡ long (S c).image.position
p-is c = long-by (st c).args.replay.image.position c.long-p.ensures.0 (search rules)

-- whether it is over
over : (c : tie.After-is_over) → c.is_over.result ≡ is_over (st c).args.rec (log c) (S c).image.position
over c =
    c.is_over.ensures ∙ ap₂ (λ (v : Reading) (p : ℕ). over_by v (length (log c)) p) (read_is c) (p-is c) ∙ sym (over-is (st c).args.rec (log c) (S c).image.position)

abbrev at : tie.After-poll_one-one → tie.After-is_over
at c = c.before.before

polled : (c : tie.After-poll_one-one) → c.poll_one-one.result.polled ≡ poll_reply_of (poll_one (st (at c)).args.rec (log (at c)) (S (at c)).image)
polled c = c.poll_one-one.ensures.0

answered : (c : tie.After-poll_one-one) (x : Result Polled Error) → c.poll_one-one.result.polled.answer ≡ x → turn_said (st (at c)).args.rec (log (at c)) (S (at c)) x ≡ turn_of (st (at c)).args.rec (log (at c)) (S (at c))
answered c x e =
    ap (turn_said (st (at c)).args.rec (log (at c)) (S (at c))) (sym e ∙ ap (λ (y : PollReply). y.answer) (polled c))
    ∙ sym (cond-false (is_over (st (at c)).args.rec (log (at c)) (S (at c)).image.position) (stops (S (at c)) (Ok End)) _ (sym (over (at c)) ∙ c.if-is_over.false))

next-is : (c : tie.After-poll_one-one) → image_state c.poll_one-one.result.polled.next ≡ (poll_one (st (at c)).args.rec (log (at c)) (S (at c)).image).next
next-is c = ap (λ (y : PollReply). image_state y.next) (polled c)

term_fits : (s : tie.Start) → SFits w32 s.args.rec.term_length
term_fits s = search rules

is-over-requires : tie.Need-is_over-requires
is-over-requires c κs = let s = c in readings s.args.rec _ c.read_active-v.ensures (term_fits c.before.before.before.before.before.before.before)

returns : tie.Need-returns-then-is_over
returns c =
    let o = c in
    turned_as c.stopped.result _ _ (st c.before.before).args.buffer.now c.stopped.ensures
    ∙ sym (cond-true (is_over (st c.before.before).args.rec (log c.before.before) (S c.before.before).image.position) (stops (S c.before.before) (Ok End)) _ (sym (over c.before.before) ∙ c.if-is_over.true))

returns-2 : tie.Need-returns-in_default
returns-2 c =
    let told = c.in_default.is in
    let q = c in
    turned_as c.stopped-in_default.result _ _ (st (at c.before.before.before.before.before)).args.buffer.now c.stopped-in_default.ensures
    ∙ ap (stops (S (at c.before.before.before.before.before))) (c.refusal.ensures ∙ ap refusal_by told)
    ∙ answered c.before.before.before.before.before (Err c.in_default.field-0) told

-- a poll that answers fragments found the record sound
so : (q : tie.After-poll_one-one) (n m : ℕ) → q.poll_one-one.result.polled.answer ≡ Ok (record { fragments = n; entries = m }) → Sound (reading (st (at q)).args.rec) (length (log (at q)))
so q n m e = sound-true _ _ (polled-sound (st (at q)).args.rec (log (at q)) (S (at q)).image n m (sym (ap (λ (y : PollReply). y.answer) (polled q)) ∙ e))

cast-position-bits-to-shift : tie.Need-overflow_cast-term
cast-position-bits-to-shift c = let q = c in omega (arith, term_is (at c.before.before.before.before.before), (so c.before.before.before.before.before _ _ c.in-Ok.is).term-high)

part-is : (c : tie.After-index_by_position-k) → let q = c in c.index_by_position-k.result ≡ partition_of (long (S (at c.before.before.before.before.before.before.before)).image.position) (reading (st (at c.before.before.before.before.before.before.before)).args.rec).term
part-is c =
    let q = c in
    let o = at c.before.before.before.before.before.before.before in
    let k = so c.before.before.before.before.before.before.before _ _ c.in-Ok.is in
    let term = o.read_active-v.result.term in
    let high : term ≤ 1073741824 = omega (arith, term_is o, k.term-high) in
    let one : ones term ≡ 1 = ap ones (term_is o) ∙ k.one_bit in
    c.index_by_position-k.ensures ∙ ap (index_by_position o.long-p.result) c.position_bits_to_shift-bits.ensures ∙ partition-by term high one o.long-p.result
    ∙ ap₂ partition_of (p-is o) (term_is o)

give-requires : tie.Need-give-requires
give-requires c κs = omega (arith, c.index_by_position-k.ensures)

returns-3 : tie.Need-returns-then-read-ne0
returns-3 c =
    let q = c in
    let o = at c.before.before.before.before.before.before.before.before.before.before.before.before in
    let a = c.in-Ok in
    c.give.ensures
    ∙ fragment-one (st o).args.rec (log o) (S o) a.read.fragments a.read.entries _ _ _ (next-is c.before.before.before.before.before.before.before.before.before.before.before.before)
    (part-is c.before.before.before.before.before) (to_z-of_z {w = w32} {z = q.poll_one-one.result.entry} (search rules) ∙ q.poll_one-one.ensures.1)
    ∙ turn-fragment (st o).args.rec (log o) (S o) a.read.fragments a.read.entries c.if-read-ne0.true
    ∙ answered c.before.before.before.before.before.before.before.before.before.before.before.before (Ok a.read) a.is

returns-4 : tie.Need-returns-then-long-p
returns-4 c =
    let q = c in
    let o = at c.before.before.before.before.before.before.before.before.before in
    let a = c.in-Ok in
    turned_as c.stopped-then-long-p.result _ _ (st o).args.buffer.now c.stopped-then-long-p.ensures
    ∙ turn-quiet (st o).args.rec (log o) (S o) a.read.fragments a.read.entries c.if-read-ne0.false
    (ap (λ (i : Image). long i.position) (sym (next-is c.before.before.before.before.before.before.before.before.before)) ∙ sym (long-by q.poll_one-one.result.polled.next.position c.long.ensures.0 (search rules)) ∙ c.if-long-p.true ∙ p-is o)
    ∙ answered c.before.before.before.before.before.before.before.before.before (Ok a.read) a.is

returns-5 : tie.Need-returns
returns-5 c =
    let q = c in
    let o = at c.before.before.before.before.before.before.before.before in
    let a = c.in-Ok in
    ap (λ (i : Image). goes_on (record { image = i; sessions = (S o).sessions; buffer = (S o).buffer })) (next-is c.before.before.before.before.before.before.before.before)
    ∙ turn-padding (st o).args.rec (log o) (S o) a.read.fragments a.read.entries c.if-read-ne0.false
    (λ e. c.if-long-p.false (long-by q.poll_one-one.result.polled.next.position c.long.ensures.0 (search rules) ∙ ap (λ (i : Image). long i.position) (next-is c.before.before.before.before.before.before.before.before) ∙ e ∙ sym (p-is o)))
    ∙ answered c.before.before.before.before.before.before.before.before (Ok a.read) a.is

pub turn_spec : {M : Type 1} → statement M
turn_spec =
    tie.close
    (tie.spec
    (search rules)
    (search rules)
    is-over-requires
    (search rules)
    returns
    (search rules)
    (search rules)
    (search rules)
    (search rules)
    (search rules)
    returns-2
    cast-position-bits-to-shift
    (search rules)
    (search rules)
    give-requires
    (search rules)
    returns-3
    (search rules)
    (search rules)
    returns-4
    returns-5)
