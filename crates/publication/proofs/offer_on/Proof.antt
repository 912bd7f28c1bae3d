-- The append's answer, taken apart, leads where `after` says; `offer-by` ties that to the offer's definition.
use Rattle.std.specs.Prelude.{Ok, Err}
use native.Mathlib.Omega.{arith}
use mathlib.Core.Path.{◌≡◌, refl, sym, ap, ap₂, ◌∙◌}
use mathlib.Core.Logic.{⊎_elim}
use mathlib.Core.Bool.{Bool}
use mathlib.Core.List.{[], ◌∷◌}
use Prim.Native.Nat.{ℕ, ◌+◌, ◌*◌, ◌%◌, ◌<◌}
use lib.ListN.{length}
use lib.IntN.{ℤ, pos}
use mir.Syntax.{w32, w64}
use mir.Val.{to_z, of_z, SFits}
use mir.Facts.{to_z-of_z, to_z_pos}
use types.Run.{OneOf}
use denote.Enum.Declared.{tag_of}
use Rattle.model.specs.contracts.Appended.{the_type}
use Rattle.model.specs.declared.LogRecord.{LogRecord}
use Rattle.model.specs.declared.Reading.{Reading}
use Rattle.model.specs.declared.Error.{Error}
use Rattle.model.specs.declared.Rule.{Rule}
use Rattle.model.specs.declared.Appended.{Appended}
use Rattle.model.specs.declared.Appended.TheVariants.{Offset, Tripped, Refused}
use Rattle.model.specs.declared.OfferReply.{OfferReply}
use Rattle.model.specs.Bytes.{word, long}
use Rattle.model.specs.LogBufferDescriptor.{reading_of, active, is_ready, Sound}
use Rattle.model.specs.Publication.{offer_of, offer_bytes}
use Rattle.model.proofs.Sound.{sound-true, bounds, begin-most}
use Rattle.model.proofs.OfferLaws.{Passed, passed, after, after_by}
use Rattle.publication.proofs.OfferBy.{active-by, ready_by, offer-by, end_by, turns-by}
use Rattle.publication.specs.Trips.{next_marked}
use borrow.Author.Rules.{rules}
use Rattle.publication.proofs.offer_on.Statement.{statement}
use Rattle.publication.proofs.offer_on.Tie as tie

-- of three answers, neither an offset nor a refusal
neither : (a : Appended) → OneOf (1 ∷ 2 ∷ []) (tag_of the_type a) → OneOf (0 ∷ 1 ∷ []) (tag_of the_type a) → a ≡ Tripped
neither (Offset o) h k = absurd (⊎_elim (λ e. omega arith) (λ e. omega arith) h)
neither Tripped h k = refl
neither (Refused e) h k = absurd (⊎_elim (λ e. omega arith) (λ e. omega arith) k)

pass : (s : tie.Start) → Passed s.args.v (length s.args.log.now) (length s.args.message.now)
pass s = passed _ _ _ s.requires.1

so : (s : tie.Start) → Sound s.args.v (length s.args.log.now)
so s = sound-true _ _ (pass s).is-sound

part : (s : tie.Start) → s.args.v.count % 3 ≡ active s.args.rec
part s = active-by s.args.rec s.args.v s.requires.0

-- a reply by its parts
trip-reply : (n n' : LogRecord) (e e' : Error) (x x' : Rule) → n ≡ n' → e ≡ e' → x ≡ x'
    → ◌≡◌ {A = OfferReply} (record { next = n; answer = Err e; rule = x }) (record { next = n'; answer = Err e'; rule = x' })
trip-reply n n' e e' x x' p q s = cc

-- what the append leads to
module _ (c : tie.After-append_message-a) where
  abbrev start : tie.Start
  start = c.before.before.before.before.before

  law : (after start.args.v (is_ready start.args.rec) (length start.args.message.now) c.append_message-a.result ≡ offer_of start.args.rec start.args.log.now start.args.message.now)
      × (c.append_message-a.new.log ≡ offer_bytes start.args.rec start.args.log.now start.args.message.now start.args.reserved)
  law =
      let a = start.args in
      offer-by a.rec a.log.now a.message.now a.v (a.v.count % 3) a.v.id c.append_message-a.result (part start) start.requires.0 refl c.append_message-a.ensures.0
      c.append_message-a.new.log a.reserved (long (to_z w64 (of_z w64 a.reserved))) (ap long (to_z-of_z start.ranges.reserved)) start.requires.1 c.append_message-a.ensures.1

  ready : next_marked c.append_message-a.result.next start.args.v ≡ is_ready start.args.rec
  ready =
      let a = start.args in
      ready_by a.rec a.log.now a.message.now a.v (a.v.count % 3) a.v.id c.append_message-a.result (part start) start.requires.0 refl c.append_message-a.ensures.0

  ends : (end : ℕ) → c.append_message-a.result.answer ≡ Offset end → start.args.v.count * start.args.v.term + end < 9223372036854775808
  ends end h =
      let a = start.args in
      omega (
        arith,
        end_by a.rec a.log.now a.message.now a.v (a.v.count % 3) a.v.id c.append_message-a.result (part start) start.requires.0 refl c.append_message-a.ensures.0 end h,
        begin-most a.v (bounds _ _ (so start)),
        so start,
      )

sub-payload : tie.Need-overflow_sub-payload
sub-payload c = omega (arith, (so c.before.before.before).mtu-low)

append-message-requires : tie.Need-append_message-a-requires
append-message-requires c κs = let s = c in (s.requires.0 ∙ ap (reading_of s.args.rec) (sym (part c.before.before.before.before)), (omega arith, (omega (arith, (so c.before.before.before.before).mtu-low), (omega (arith, (so c.before.before.before.before).mtu-high), (omega (arith, (so c.before.before.before.before).mtu-32, (so c.before.before.before.before).mtu-low), (pass c.before.before.before.before).short)))))

-- the term id that is handed over is that of the tail
given_is : (c : tie.After-own_term_id-term_id) → (let s = c in word (to_z w32 (of_z w32 c.own_term_id-term_id.result)) ≡ s.args.v.id)
given_is c = let s = c in
    ap word (to_z-of_z {w = w32} {z = c.own_term_id-term_id.result} (search rules)) ∙ c.own_term_id-term_id.ensures
    ∙ ap (λ (n : ℕ). (reading_of s.args.rec n).id) (part c.before.before.before.before.before.before.before.before.before.before.before) ∙ sym (ap (λ (x : Reading). x.id) s.requires.0)

after-trip-requires : tie.Need-after_trip-t-requires
after-trip-requires c κs =
    let d = c in
    let s = c in
    let a = s.args in
    let e = neither d.append_message-a.result.answer c.in_default.in_default-own.keys2 c.in_default-answer.in_default-answer-own.keys2 in
    let three : length a.rec.tails ≡ 3 = search rules in
    let active-fits : SFits w32 a.rec.active_term_count = search rules in (
      bounds _ _ (so c.before.before.before.before.before.before.before.before.before.before.before.before),
      (
        c.begin_position-begin.ensures,
        turns-by a.rec a.log.now a.message.now a.v (a.v.count % 3) a.v.id d.append_message-a.result (part c.before.before.before.before.before.before.before.before.before.before.before.before) s.requires.0 refl d.append_message-a.ensures.0
            (to_z w32 (of_z w32 a.rec.active_term_count)) (to_z w32 (of_z w32 c.own_term_id-term_id.result)) (to_z-of_z active-fits) (given_is c.before) three (omega (arith, (so c.before.before.before.before.before.before.before.before.before.before.before.before).mtu-32, (so c.before.before.before.before.before.before.before.before.before.before.before.before).mtu-low)) e,
      ),
    )

returns : tie.Need-returns-in_default-answer
returns c =
    let d = c.before.before.before.before.before.before.before.before.before in
    let a = c.args in
    let e = neither d.append_message-a.result.answer c.in_default.in_default-own.keys2 c.in_default-answer.in_default-answer-own.keys2 in (
      trip-reply _ _ _ _ _ _ c.after_trip-t.ensures.0 c.after_trip-t.ensures.1.0 c.after_trip-t.ensures.1.1
          ∙ ap (λ (b : Bool). after_by a.v b (length a.message.now) d.append_message-a.result.next Tripped) (ready d)
          ∙ sym (ap (after_by a.v (is_ready a.rec) (length a.message.now) d.append_message-a.result.next) e) ∙ (law d).0,
      (law d).1,
    )

returns-2 : tie.Need-returns-in_default
returns-2 c =
    let d = c.before.before.before.before.before.before in
    let a = c.args in
    (trip-reply _ _ _ _ _ _ refl refl c.of_refusal.ensures ∙ sym (ap (after_by a.v (is_ready a.rec) (length a.message.now) d.append_message-a.result.next) c.in-Refused.is) ∙ (law d).0, (law d).1)

begin-position-requires : tie.Need-begin_position-begin-requires
begin-position-requires c κs = let s = c in (bounds _ _ (so c.before.before), (so c.before.before).one_bit)

add-t22 : tie.Need-overflow_add-result
add-t22 c = omega (arith, ends c.before.before.before.before _ c.in-Offset.is, c.begin_position-begin.ensures)

cast-t27 : tie.Need-overflow_cast-result
cast-t27 c = record { sfits = omega (arith, ends c.before.before.before.before _ c.in-Offset.is, c.begin_position-begin.ensures) }

returns-3 : tie.Need-returns
returns-3 c =
    let d = c.before.before.before.before.before in
    let a = c.args in
    let begin = c.begin_position-begin.ensures in
    let end = c.in-Offset.end in (
      ap₂ {C = OfferReply} (λ (z : ℤ) (x : Rule). record { next = d.append_message-a.result.next; answer = Ok z; rule = x }) (to_z_pos w64 (omega (arith, ends d _ c.in-Offset.is, begin)) ∙ ap (λ (x : ℕ). pos (x + end)) begin) c.of_message.ensures
          ∙ sym (ap (after_by a.v (is_ready a.rec) (length a.message.now) d.append_message-a.result.next) c.in-Offset.is) ∙ (law d).0,
      (law d).1,
    )

pub offer_on_spec : {M : Type 1} → statement M
offer_on_spec =
    tie.close
    (tie.spec
    begin-position-requires
    sub-payload
    append-message-requires
    (search rules)
    (search rules)
    (search rules)
    after-trip-requires
    (search rules)
    returns
    (search rules)
    (search rules)
    returns-2
    add-t22
    cast-t27
    (search rules)
    (search rules)
    returns-3)
