-- The scan is asked at the position's place.
use mathlib.Core.Path.{sym, ap₂, ◌∙◌}
use Prim.Native.Nat.{ℕ}
use native.Mathlib.Omega.{arith}
use lib.ListN.{length}
use Rattle.model.specs.TermScan.{scan_of}
use Rattle.image.proofs.Places.{At, at_place, term-length}
use Rattle.image.proofs.Blocks.{signed, scan-is}
use borrow.Author.Rules.{rules}
use Rattle.image.proofs.block.scan_at.Statement.{statement}
use Rattle.image.proofs.block.scan_at.Tie as tie

place : (c : tie.Start) → At c.args.v (length c.args.log.now) c.args.p
place c = at_place _ _ _ c.requires.1.0 c.requires.1.1.0

partition-of-requires : tie.Need-partition_of-requires
partition-of-requires c κs = term-length _ _ c.requires.1.0

cast-scan : tie.Need-overflow_cast-partition_of
cast-scan c = record { sfits = omega (arith, c.partition_of.ensures.1) }

offset-of-requires : tie.Need-offset_of-requires
offset-of-requires c κs = term-length _ _ c.requires.1.0

cast-scan-2 : tie.Need-overflow_cast-offset_of
cast-scan-2 c = let s = c in record { sfits = omega (arith, c.offset_of.ensures, (place c.before.before.before).below, (place c.before.before.before).term-high) }

cast-scan-3 : tie.Need-overflow_cast-end
cast-scan-3 c = let s = c in record { sfits = omega (arith, s.requires.1.1.1, (place c.before.before.before).term-high) }

returns : tie.Need-returns
returns c =
    let s = c in
    let a = s.args in
    c.scan.ensures ∙ ap₂ (λ (x y : ℕ). scan_of a.rec a.log.now (signed x) (signed y) (signed a.end)) c.partition_of.ensures.0 c.offset_of.ensures
    ∙ sym (scan-is a.rec a.log.now a.v a.p s.requires.0 s.requires.1.0 s.requires.1.1.0 a.end s.requires.1.1.1)

pub scan_at_spec : {M : Type 1} → statement M
scan_at_spec =
    tie.close
    (tie.spec
    partition-of-requires
    cast-scan
    offset-of-requires
    cast-scan-2
    cast-scan-3
    (search rules)
    returns)
