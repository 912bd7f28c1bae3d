-- Every way but a refusal has the tail that moves, which has room for itself.
use Rattle.std.proofs.Common.{◌≡◌, ◌+◌, ◌*◌, ◌%◌, ℤ, sym, ap, ◌∙◌, arith, to_z-of_z, w64, to_z, rules}
use Rattle.model.specs.LogBufferDescriptor.{raw_of}
use Rattle.logbuffer.specs.declared.way.Way.{Way}
use Rattle.logbuffer.specs.Ways.{way_by}
use Rattle.logbuffer.proofs.Ways.{way-moves}
use Rattle.logbuffer.proofs.way.way_by.Statement.{statement}
use Rattle.logbuffer.proofs.way.way_by.Tie as tie

returns : tie.Need-returns-in-Refuse
returns c =
    let a = c.args in c.refused.ensures ∙ ap (way_by a.v a.needed) (sym c.in-Refuse.is)

add-end : tie.Need-overflow_add-end
add-end c = let s = c in omega (arith, (way-moves s.args.v s.args.needed s.args.course c.in_default.in_default-own.keys2 s.requires.1).1)

add-to-i64 : tie.Need-overflow_add-v
add-to-i64 c = let s = c in omega (arith, (way-moves s.args.v s.args.needed s.args.course c.in_default.in_default-own.keys2 s.requires.1).1)

returns-2 : tie.Need-returns
unfolding raw_of
returns-2 c = let s = c in let a = s.args in
    let e : a.v.id * 4294967296 + (a.v.offset + a.needed) ≡ a.v.id % 4294967296 * 4294967296 + (a.v.offset + a.needed) = omega (arith, s.requires.0) in
    ap {B = Way} (λ (z : ℤ). record { course = a.course; end = a.v.offset + a.needed; tail = z }) (to_z-of_z {w = w64} {z = c.to_i64.result} (search rules) ∙ c.to_i64.ensures ∙ ap (to_z w64) e)
    ∙ (way-moves a.v a.needed a.course c.in_default.in_default-own.keys2 s.requires.1).0

pub way_by_spec : {M : Type 1} → statement M
way_by_spec =
    tie.close
    (tie.spec
    (search rules)
    (search rules)
    returns
    add-end
    (search rules)
    add-to-i64
    (search rules)
    returns-2)
