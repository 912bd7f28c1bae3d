-- Every way but a refusal stores the tail, at the constant that k is.
use Rattle.std.proofs.Common.{◌≡◌, length, ◌∙◌, arith, to_z-of_z, w64, rules}
use Rattle.logbuffer.proofs.Ways.{tail-moves, none_moves, refused-moves}
use Rattle.logbuffer.proofs.way.moved.Statement.{statement}
use Rattle.logbuffer.proofs.way.moved.Tie as tie

returns-2 : tie.Need-returns-then-k-eq0
returns-2 c = let a = c.args in
    c.with_tails.ensures ∙ tail-moves a.rec a.k 0 a.way a.way.course _ c.in_default.in_default-own.keys2 (omega arith) (to_z-of_z {w = w64} {z = a.way.tail} (search rules))

returns-3 : tie.Need-returns-then-k-eq1
returns-3 c = let a = c.args in
    c.with_tails-then-k-eq1.ensures ∙ tail-moves a.rec a.k 1 a.way a.way.course _ c.in_default.in_default-own.keys2 (omega arith) (to_z-of_z {w = w64} {z = a.way.tail} (search rules))

returns-4 : tie.Need-returns-then-k-eq2
returns-4 c = let a = c.args in
    c.with_tails-then-k-eq2.ensures ∙ tail-moves a.rec a.k 2 a.way a.way.course _ c.in_default.in_default-own.keys2 (omega arith) (to_z-of_z {w = w64} {z = a.way.tail} (search rules))

returns-5 : tie.Need-returns
returns-5 c =
    let s = c in
    let three : length s.args.rec.tails ≡ 3 = s.well_formed.0.1.1.0.1.0.1 in
    none_moves s.args.rec s.args.k s.args.way s.args.way.course (omega arith)

-- The answer at the test of the way stands in the list, by no name that has the test in it.
pub moved_spec : {M : Type 1} → statement M
moved_spec =
    tie.close
    (tie.spec
    (search rules)
    (λ c. search (rules, refused-moves))
    (search rules)
    (search rules)
    returns-2
    (search rules)
    (search rules)
    returns-3
    (search rules)
    (search rules)
    returns-4
    returns-5)
