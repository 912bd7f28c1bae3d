-- The header is asked at the position's place, where it is not refused.
use mathlib.Core.Path.{◌≡◌, sym, ap₂, ◌∙◌}
use Prim.Native.Nat.{ℕ, ◌/◌, ◌%◌}
use native.Mathlib.Omega.{arith}
use lib.ListN.{length}
use mir.Syntax.{w32}
use mir.Val.{SFits}
use mir.Facts.{to_z-of_z}
use Rattle.model.specs.TermReader.{header_call}
use Rattle.image.proofs.Places.{At, at_place, term-length}
use Rattle.image.proofs.Blocks.{signed, term-id-is, not-refused}
use borrow.Author.Rules.{rules}
use Rattle.image.proofs.block.term_id_at.Statement.{statement}
use Rattle.image.proofs.block.term_id_at.Tie as tie

place : (c : tie.Start) → At c.args.v (length c.args.log.now) c.args.p
place c = at_place _ _ _ c.requires.1.0 c.requires.1.1

partition-of-requires : tie.Need-partition_of-requires
partition-of-requires c κs = term-length _ _ c.requires.1.0

cast-fields : tie.Need-overflow_cast-partition_of
cast-fields c = record { sfits = omega (arith, c.partition_of.ensures.1) }

offset-of-requires : tie.Need-offset_of-requires
offset-of-requires c κs = term-length _ _ c.requires.1.0

cast-fields-2 : tie.Need-overflow_cast-offset_of
cast-fields-2 c = let s = c in record { sfits = omega (arith, c.offset_of.ensures, (place c.before.before.before).below, (place c.before.before.before).term-high) }

-- what the header answers at the place of the position
asked : (c : tie.After-fields) → (let a = c.args in header_call a.rec a.log.now (signed (a.p / a.v.term % 3)) (signed (a.p % a.v.term)) ≡ c.fields.result)
asked c =
    let a = c.args in
    sym (c.fields.ensures ∙ ap₂ (λ (x y : ℕ). header_call a.rec a.log.now (signed x) (signed y)) c.partition_of.ensures.0 c.offset_of.ensures)

returns : tie.Need-returns-in_default
returns c =
    let s = c in
    absurd (not-refused s.args.rec s.args.log.now s.args.v s.args.p s.requires.0 s.requires.1.0 s.requires.1.1 _ (asked c.before ∙ c.in_default.is))

returns-2 : tie.Need-returns
returns-2 c =
    let s = c in
    let f : SFits w32 c.in-Ok.fields.term_id = record { sfits = c.struct_told-1.given.1.1.1.1.1.1.1.0.1 } in
    to_z-of_z f ∙ term-id-is s.args.rec s.args.log.now s.args.v s.args.p s.requires.0 s.requires.1.0 s.requires.1.1 _ (asked c.before.before ∙ c.in-Ok.is)

pub term_id_at_spec : {M : Type 1} → statement M
term_id_at_spec =
    tie.close
    (tie.spec
    partition-of-requires
    cast-fields
    offset-of-requires
    cast-fields-2
    (search rules)
    (search rules)
    (search rules)
    returns
    returns-2)
