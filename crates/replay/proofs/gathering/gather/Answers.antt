-- One frame more, or the last that is looked at: a frame that is taken is the definition's step (`led_on`).
use Rattle.std.specs.Prelude.{Result}
use Rattle.std.proofs.Common.{◌≡◌, ◌-◌, ◌+◌, List, length, ℕ, ℤ, set, refl, sym, ap, ap₂, ◌∙◌, arith, rules}
use lib.Seq.{set_out}
use Rattle.model.specs.declared.Error.{Error}
use Rattle.model.specs.declared.Replayed.{Replayed}
use Rattle.logbuffer.specs.Assembler.{sessions_as}
use Rattle.replay.specs.declared.gathering.Current.{Current}
use Rattle.replay.specs.declared.frames.Gathered.{Gathered}
use Rattle.replay.specs.Gather.{at_hand, gathered_as, gathering_of, gather_from}
use Rattle.replay.proofs.InPlace.{data-found}
use Rattle.replay.proofs.Gather.{led_to, gather_none, gather-stays, taken_last, taken_on}
use Rattle.replay.proofs.Fragments.{frame_none, frame-here}
use Rattle.replay.proofs.gathering.gather.Goals as goal

pub loop-taken-init : goal.loop-taken-init
loop-taken-init c =
    let a = c.args in
    let e = c.current_as-current.ensures in
    let held-16 : length a.held.now ≡ 16 = search rules in
    let z : a.most - 0 ≡ a.most = omega arith in
    record {
      knows = λ h. absurd (omega (arith, ap (λ (x : Current). x.place) e, h));
      leads =
          ap₂ (λ (n : ℕ) (x : Current). gather_from n a.log.now a.term a.stop a.position (at_hand a.count a.ids.now a.held.now x) a.buffer.now) z e
          ∙ ap (λ (h : List ℕ). gather_from a.most a.log.now a.term a.stop a.position (sessions_as a.count a.ids.now h) a.buffer.now) (set_out a.held.now 16 0 (omega (arith, held-16)));
    }

-- what is told of where it stands
stands : (r : Gathered) (count left p : ℕ) (y : Result Replayed Error) (ids : List ℤ) (held laid buffer : List ℕ) → r ≡ gathered_as count left p y → held ≡ laid
    → gathering_of r ids held buffer ≡ led_to left p (sessions_as count ids laid) buffer y
stands r count left p y ids held laid buffer e h = ap₂ (λ (x : Gathered) (k : List ℕ). gathering_of x ids k buffer) e h

pub returns-in_default : goal.returns-in_default
returns-in_default c =
    let a = c.args in
    let l = c.loop-taken in
    let left = a.most - l.taken in
    stands c.gathered_as.result l.entered left l.p _ l.ids c.settle.new.held _ l.buffer c.gathered_as.ensures c.settle.ensures
    ∙ gather-stays a.log.now a.term a.stop l.p (at_hand l.entered l.ids l.held l.current) l.buffer left (omega arith) _ refl (frame_none a.log.now a.term a.stop l.p (sym c.in_default.is ∙ c.data_at.ensures))
    ∙ l.invariant.leads

-- ---- a data frame, taken

pub take-step-requires : goal.take-step-requires
take-step-requires c =
    let a = c.args in
    let l = c.loop-taken in
    let d = frame-here a.log.now a.term a.stop l.p c.in-Some.frame (sym c.in-Some.is ∙ c.data_at.ensures) in
    let f = data-found a.log.now a.term a.stop l.p c.in-Some.frame.length (sym d.0) d.1.0 in (
      (c.requires.0, (f.some, omega (arith, f.below, c.requires.1 f.some))),
      (omega arith, (d.1.1, l.invariant.knows)),
    )

pub returns-then-not-is_end : goal.returns-then-not-is_end
returns-then-not-is_end c =
    let a = c.args in
    let l = c.loop-taken in
    let t = c.take-step in
    let d = frame-here a.log.now a.term a.stop l.p c.in-Some.frame (sym c.in-Some.is ∙ c.data_at.ensures) in
    let kept = set t.new.held t.result.current.place t.result.current.bytes in
    ap (λ (h : List ℕ). gathering_of t.result.gathered t.new.ids h t.new.buffer) c.settle-then-not-is_end.ensures
    ∙ taken_last a.log.now a.term a.stop l.p (at_hand l.entered l.ids l.held l.current) l.buffer (a.most - l.taken) (omega arith) c.in-Some.frame.length d.0 (λ e. omega (arith, d.1.0, e))
    (gathering_of t.result.gathered t.new.ids kept t.new.buffer) t.ensures.buffer_after (sym c.is_end.ensures ∙ c.if-not-is_end.true)
    ∙ l.invariant.leads

pub loop-taken-preserved : goal.loop-taken-preserved
loop-taken-preserved c =
    let a = c.args in
    let l = c.loop-taken in
    let t = c.take-step in
    let d = frame-here a.log.now a.term a.stop l.p c.in-Some.frame (sym c.in-Some.is ∙ c.data_at.ensures) in
    let kept = set t.new.held t.result.current.place t.result.current.bytes in
    record {
      knows = t.ensures.knows;
      leads =
          taken_on a.log.now a.term a.stop l.p (at_hand l.entered l.ids l.held l.current) l.buffer (a.most - l.taken) (omega arith) c.in-Some.frame.length d.0 (λ e. omega (arith, d.1.0, e))
          (gathering_of t.result.gathered t.new.ids kept t.new.buffer) t.ensures.buffer_after (a.most - (l.taken + 1)) (omega arith) (sym c.is_end.ensures ∙ c.if-not-is_end.false)
          ∙ l.invariant.leads;
    }

-- ---- all turns taken

pub returns : goal.returns
returns c =
    let a = c.args in
    let l = c.loop-taken in
    let left = a.most - l.taken in
    let none : left ≡ 0 = omega arith in
    let s = at_hand l.entered l.ids l.held l.current in
    stands c.gathered_as-2.result l.entered 0 l.p _ l.ids c.settle-2.new.held _ l.buffer c.gathered_as-2.ensures c.settle-2.ensures
    ∙ gather_none a.log.now a.term a.stop l.p s l.buffer 0 refl
    ∙ ap (λ (n : ℕ). gather_from n a.log.now a.term a.stop l.p s l.buffer) (sym none)
    ∙ l.invariant.leads
