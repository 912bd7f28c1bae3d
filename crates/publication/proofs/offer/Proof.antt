-- Refused before the append, or `offer_on`.
use Rattle.std.specs.Prelude.{Ok}
use Rattle.publication.proofs.OfferBy.{refused-by}
use Rattle.model.proofs.Sound.{id-small, initial-small}
use Rattle.model.specs.Publication.{before_append, offer_bytes}
use Rattle.model.specs.declared.Reading.{Reading}
use mir.Facts.{to_z-of_z}
use lib.ListN.{length}
use Prim.Native.Nat.{◌<◌}
use mathlib.Core.Path.{sym, ap, subst, ◌∙◌}
use borrow.Author.Rules.{rules}
use Rattle.publication.proofs.offer.Statement.{statement}
use Rattle.publication.proofs.offer.Tie as tie

before-offer-requires : tie.Need-before_offer-requires
before-offer-requires c κs = subst (λ (x : Reading). (x.id < 4294967296) × (x.initial < 4294967296)) (sym c.read_active-v.ensures) (id-small _ _, initial-small _ _)

offer-on-requires : tie.Need-offer_on-requires
offer-on-requires c κs = (c.read_active-v.ensures, sym c.before_offer.ensures ∙ c.in-Ok.is)

returns : tie.Need-returns-in-Err
returns c = let a = c.args in
    refused-by a.rec a.log.now a.message.now a.reserved_value _ _ c.of_refusal.ensures
    (ap (λ (x : Reading). before_append x (length a.log.now) (length a.message.now) (Ok tt)) (sym c.read_active-v.ensures) ∙ sym c.before_offer.ensures ∙ c.in-Err.is)

returns-2 : tie.Need-returns-in-Ok
returns-2 c = let s = c in
    (c.offer_on.ensures.0, c.offer_on.ensures.1 ∙ ap (offer_bytes s.args.rec s.args.log.now s.args.message.now) (to_z-of_z s.ranges.reserved_value))

pub offer_spec : {M : Type 1} → statement M
offer_spec =
    tie.close
    (tie.spec
    (search rules)
    before-offer-requires
    (search rules)
    (search rules)
    (search rules)
    offer-on-requires
    returns
    (search rules)
    returns-2)
