-- A length below 0 is refused; any other is the number of its bits, and is judged before the append.
use Rattle.publication.proofs.ClaimLaws.{claim-1, claim-refused}
use Rattle.publication.proofs.Lengths.{length-bits, length-casts}
use Rattle.logbuffer.proofs.Signs.{negative}
use Rattle.model.proofs.Sound.{id-small, initial-small}
use Rattle.model.specs.Publication.{claim_verdict, claim_of, claim_bytes}
use Rattle.model.specs.Bytes.{word}
use Rattle.model.specs.declared.Error.TheVariants.{IllegalArgument}
use Rattle.model.specs.declared.Reading.{Reading}
use mir.Facts.{to_z-of_z}
use lib.ListN.{length}
use Prim.Native.Nat.{ℕ, ◌<◌}
use native.Mathlib.Omega.{arith}
use Rattle.model.specs.declared.Rule.TheVariants.{IllegalArgument as ByArgument}
use mathlib.Core.Path.{refl, sym, ap, ap₂, subst, ◌∙◌}
use borrow.Author.Rules.{rules}
use Rattle.publication.proofs.try_claim.Statement.{statement}
use Rattle.publication.proofs.try_claim.Tie as tie

returns : tie.Need-returns-then-length-lt0
returns c = let s = c in
    let below = negative s.args.length s.ranges.length c.if-length-lt0.true in
    claim-refused s.args.rec s.args.log.now s.args.length IllegalArgument ByArgument refl (sym (claim-1 _ _ _ (omega arith)))

cast-before-claim : tie.Need-overflow_cast-length
cast-before-claim c = let s = c in length-casts s.args.length s.ranges.length c.if-length-lt0.false

before-claim-requires : tie.Need-before_claim-requires
before-claim-requires c κs = subst (λ (x : Reading). (x.id < 4294967296) × (x.initial < 4294967296)) (sym c.read_active-v.ensures) (id-small _ _, initial-small _ _)

claim-on-requires : tie.Need-claim_on-requires
claim-on-requires c κs = let s = c in (
  c.read_active-v.ensures,
  ap (claim_verdict c.read_active-v.result (length s.args.log.now)) (ap word (to_z-of_z s.ranges.length) ∙ sym (length-bits s.args.length s.ranges.length c.if-length-lt0.false))
      ∙ sym c.before_claim.ensures ∙ c.in-Ok.is,
)

returns-2 : tie.Need-returns-in-Err
returns-2 c = let s = c in
    claim-refused s.args.rec s.args.log.now s.args.length _ _ c.of_refusal.ensures
    (ap₂ (λ (x : Reading) (n : ℕ). claim_verdict x (length s.args.log.now) n) (sym c.read_active-v.ensures) (sym (length-bits s.args.length s.ranges.length c.if-length-lt0.false))
    ∙ sym c.before_claim.ensures ∙ c.in-Err.is)

returns-3 : tie.Need-returns-in-Ok
returns-3 c = let s = c in
    let e = to_z-of_z s.ranges.length in
    (c.claim_on.ensures.0 ∙ ap (claim_of s.args.rec s.args.log.now) e, c.claim_on.ensures.1 ∙ ap (claim_bytes s.args.rec s.args.log.now) e)

pub try_claim_spec : {M : Type 1} → statement M
try_claim_spec =
    tie.close
    (tie.spec
    returns
    (search rules)
    cast-before-claim
    before-claim-requires
    (search rules)
    (search rules)
    (search rules)
    claim-on-requires
    returns-2
    (search rules)
    returns-3)
