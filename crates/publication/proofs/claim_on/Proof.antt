-- The claiming append's answer, taken apart, leads where `after` says; `claim-by` ties that to the claim's definition.
use Rattle.std.specs.Prelude.{Ok, Err}
use native.Mathlib.Omega.{arith}
use mathlib.Core.Path.{◌≡◌, refl, sym, ap, subst, ◌∙◌}
use mathlib.Core.Logic.{⊎_elim}
use mathlib.Core.Bool.{Bool}
use mathlib.Core.List.{[], ◌∷◌}
use Prim.Native.Nat.{ℕ, ◌+◌, ◌*◌, ◌%◌, ◌≤◌, ◌<◌}
use lib.ListN.{length}
use lib.IntN.{ℤ, pos}
use mir.Syntax.{w32, w64}
use mir.Val.{to_z, of_z, SFits}
use mir.Facts.{to_z-of_z, to_z_pos}
use types.Run.{OneOf}
use denote.Enum.Declared.{tag_of}
use Rattle.model.specs.contracts.AppendedClaim.{the_type}
use Rattle.model.specs.declared.LogRecord.{LogRecord}
use Rattle.model.specs.declared.Claim.{Claim}
use Rattle.model.specs.declared.Reading.{Reading}
use Rattle.model.specs.declared.Error.{Error}
use Rattle.model.specs.declared.Rule.{Rule}
use Rattle.model.specs.declared.Rule.TheVariants.{Claimed as ByClaim}
use Rattle.model.specs.declared.AppendedClaim.{AppendedClaim}
use Rattle.model.specs.declared.AppendedClaim.TheVariants.{Claimed, Tripped, Refused}
use Rattle.model.specs.declared.ClaimReply.{ClaimReply}
use Rattle.model.specs.Bytes.{word}
use Rattle.model.specs.FrameDescriptor.{space}
use Rattle.model.specs.LogBufferDescriptor.{reading_of, active, is_ready, Sound}
use Rattle.model.specs.Publication.{claim_of, claim_bytes}
use Rattle.model.proofs.Append.{claiming_reply, claiming_bytes}
use Rattle.model.proofs.Sound.{sound-true, bounds, begin-most}
use Rattle.publication.proofs.OfferBy.{active-by}
use Rattle.publication.proofs.ClaimLaws.{Passed, passed, after, after_by, claim-by, claim-ready, claim-end, claim-turns}
use Rattle.publication.specs.Trips.{next_marked}
use borrow.Author.Rules.{rules}
use Rattle.publication.proofs.claim_on.Statement.{statement}
use Rattle.publication.proofs.claim_on.Tie as tie

-- of three answers, neither a claim nor a refusal
neither : (a : AppendedClaim) → OneOf (1 ∷ 2 ∷ []) (tag_of the_type a) → OneOf (0 ∷ 1 ∷ []) (tag_of the_type a) → a ≡ Tripped
neither (Claimed o x) h k = absurd (⊎_elim (λ e. omega arith) (λ e. omega arith) h)
neither Tripped h k = refl
neither (Refused e) h k = absurd (⊎_elim (λ e. omega arith) (λ e. omega arith) k)

-- a reply by its parts
trip-reply : (n n' : LogRecord) (e e' : Error) (x x' : Rule) → n ≡ n' → e ≡ e' → x ≡ x'
    → ◌≡◌ {A = ClaimReply} (record { next = n; answer = Err e; rule = x }) (record { next = n'; answer = Err e'; rule = x' })
trip-reply n n' e e' x x' p q s = cc

pass : (s : tie.Start) → Passed s.args.v (length s.args.log.now) (word s.args.length)
pass s = passed _ _ _ s.requires.1

so : (s : tie.Start) → Sound s.args.v (length s.args.log.now)
so s = sound-true _ _ (pass s).is-sound

part : (s : tie.Start) → s.args.v.count % 3 ≡ active s.args.rec
part s = active-by s.args.rec s.args.v s.requires.0

-- the term id that is handed over is that of the tail
given_is : (c : tie.After-own_term_id-term_id) → (let s = c in word (to_z w32 (of_z w32 c.own_term_id-term_id.result)) ≡ s.args.v.id)
given_is c = let s = c in
    ap word (to_z-of_z {w = w32} {z = c.own_term_id-term_id.result} (search rules)) ∙ c.own_term_id-term_id.ensures
    ∙ ap (λ (n : ℕ). (reading_of s.args.rec n).id) (part c.before.before.before) ∙ sym (ap (λ (x : Reading). x.id) s.requires.0)

asked : (c : tie.After-word) → c.word.result ≡ word c.args.length
asked c = c.word.ensures.0 ∙ ap (of_z w32) (to_z-of_z c.ranges.length)

module _ (c : tie.After-claiming-a) where
  abbrev start : tie.Start
  start = c.before.before.before.before.before.before

  abbrev k· : ℕ
  k· = start.args.v.count % 3

  does : (c.claiming-a.result ≡ claiming_reply start.args.rec start.args.log.now k· (word start.args.length) start.args.v.id)
      × (c.claiming-a.new.log ≡ claiming_bytes start.args.rec start.args.log.now k· (word start.args.length) start.args.v.id)
  does =
      let a = start.args in
      let e = asked c.before in (
        c.claiming-a.ensures.0 ∙ ap (λ (n : ℕ). claiming_reply a.rec a.log.now k· n a.v.id) e,
        c.claiming-a.ensures.1 ∙ ap (λ (n : ℕ). claiming_bytes a.rec a.log.now k· n a.v.id) e,
      )

  law : (after start.args.v (is_ready start.args.rec) c.claiming-a.result ≡ claim_of start.args.rec start.args.log.now start.args.length)
      × (c.claiming-a.new.log ≡ claim_bytes start.args.rec start.args.log.now start.args.length)
  law =
      let a = start.args in
      claim-by a.rec a.log.now a.v k· (word a.length) a.v.id c.claiming-a.result (part start) start.requires.0 refl does.0 c.claiming-a.new.log a.length refl start.requires.1 does.1

  ready : next_marked c.claiming-a.result.next start.args.v ≡ is_ready start.args.rec
  ready =
      let a = start.args in
      claim-ready a.rec a.log.now a.v k· (word a.length) a.v.id c.claiming-a.result (part start) start.requires.0 refl does.0

  ends : (end : ℕ) (x : Claim) → c.claiming-a.result.answer ≡ Claimed end x → start.args.v.count * start.args.v.term + end < 9223372036854775808
  ends end x h =
      let a = start.args in
      omega (arith, claim-end a.rec a.log.now a.v k· (word a.length) a.v.id c.claiming-a.result (part start) start.requires.0 refl does.0 end x h, begin-most a.v (bounds _ _ (so start)), so start)

claiming-requires : tie.Need-claiming-a-requires
claiming-requires c κs = let s = c in (
  s.requires.0 ∙ ap (reading_of s.args.rec) (sym (part c.before.before.before.before.before)),
  (omega arith, (subst (λ (n : ℕ). s.args.v.offset + space n ≤ 2147483647) (sym (asked c)) (pass c.before.before.before.before.before).room, given_is c.before.before)),
)

after-trip-requires : tie.Need-after_trip-t-requires
after-trip-requires c κs =
    let d = c in
    let s = c in
    let a = s.args in
    let e = neither d.claiming-a.result.answer c.in_default.in_default-own.keys2 c.in_default-answer.in_default-answer-own.keys2 in
    let three : length a.rec.tails ≡ 3 = search rules in
    let active-fits : SFits w32 a.rec.active_term_count = search rules in (
      bounds _ _ (so c.before.before.before.before.before.before.before.before.before.before.before.before),
      (
        c.begin_position-begin.ensures,
        claim-turns a.rec a.log.now a.v (a.v.count % 3) (word a.length) a.v.id d.claiming-a.result (part c.before.before.before.before.before.before.before.before.before.before.before.before) s.requires.0 refl (does c.before.before.before.before.before.before).0
            (to_z w32 (of_z w32 a.rec.active_term_count)) (to_z w32 (of_z w32 d.own_term_id-term_id.result)) (to_z-of_z active-fits) (given_is c.before.before.before.before.before.before.before.before.before) three e,
      ),
    )

returns : tie.Need-returns-in_default-answer
returns c =
    let d = c in
    let a = c.args in
    let e = neither d.claiming-a.result.answer c.in_default.in_default-own.keys2 c.in_default-answer.in_default-answer-own.keys2 in (
      trip-reply _ _ _ _ _ _ c.after_trip-t.ensures.0 c.after_trip-t.ensures.1.0 c.after_trip-t.ensures.1.1
          ∙ ap (λ (b : Bool). after_by a.v b d.claiming-a.result.next Tripped) (ready c.before.before.before.before.before.before.before.before)
          ∙ sym (ap (after_by a.v (is_ready a.rec) d.claiming-a.result.next) e) ∙ (law c.before.before.before.before.before.before.before.before).0,
      (law c.before.before.before.before.before.before.before.before).1,
    )

returns-2 : tie.Need-returns-in_default
returns-2 c =
    let d = c in
    let a = c.args in
    (trip-reply _ _ _ _ _ _ refl refl c.of_refusal.ensures ∙ sym (ap (after_by a.v (is_ready a.rec) d.claiming-a.result.next) c.in-Refused.is) ∙ (law c.before.before.before.before.before.before).0, (law c.before.before.before.before.before.before).1)

begin-position-requires : tie.Need-begin_position-begin-requires
begin-position-requires c κs = let s = c in (bounds _ _ (so c.before), (so c.before).one_bit)

add-t21 : tie.Need-overflow_add-result
add-t21 c = omega (arith, ends c.before.before.before.before _ _ c.in-Claimed.is, c.begin_position-begin.ensures)

cast-t25 : tie.Need-overflow_cast-result
cast-t25 c = record { sfits = omega (arith, ends c.before.before.before.before _ _ c.in-Claimed.is, c.begin_position-begin.ensures) }

returns-3 : tie.Need-returns
returns-3 c =
    let d = c in
    let a = c.args in
    let begin = c.begin_position-begin.ensures in
    let end = c.in-Claimed.end in (
      ap {B = ClaimReply} (λ (z : ℤ). record { next = d.claiming-a.result.next; answer = Ok (record { position = z; claim = c.in-Claimed.claim }); rule = ByClaim }) (to_z_pos w64 (omega (arith, ends c.before.before.before.before _ _ c.in-Claimed.is, begin)) ∙ ap (λ (x : ℕ). pos (x + end)) begin)
          ∙ sym (ap (after_by a.v (is_ready a.rec) d.claiming-a.result.next) c.in-Claimed.is) ∙ (law c.before.before.before.before).0,
      (law c.before.before.before.before).1,
    )

pub claim_on_spec : {M : Type 1} → statement M
claim_on_spec =
    tie.close
    (tie.spec
    begin-position-requires
    (search rules)
    (search rules)
    claiming-requires
    (search rules)
    (search rules)
    after-trip-requires
    (search rules)
    returns
    (search rules)
    (search rules)
    returns-2
    add-t21
    cast-t25
    (search rules)
    returns-3)
