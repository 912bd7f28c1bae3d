-- Each test that fails refuses; behind them the frame is joined.
use Rattle.std.proofs.Common.{◌≡◌, Bool, false, ◌&&◌, eqb, leb, length, sym, ap, ◌∙◌, arith, rules, ne_eqb}
use borrow.Author.Tests.{not-true, not-false, lt-leb}
use Rattle.model.specs.FragmentAssembler.{Sessions}
use Rattle.model.proofs.Both.{and-false}
use Rattle.logbuffer.specs.Assembler.{sessions_as, Framed, is_framed}
use Rattle.logbuffer.proofs.Assembly.{framed-true, not-joined, join-yes, enters-as, join-no}
use Rattle.logbuffer.proofs.fragment_assembler.join.Statement.{statement}
use Rattle.logbuffer.proofs.fragment_assembler.join.Tie as tie

abbrev ss : tie.Start → Sessions
ss s = sessions_as s.args.count s.args.ids.now s.args.held.now

-- a test that fails, of three
second : (a b c : Bool) → b ≡ false → (a && (b && c)) ≡ false
second a b c e = ap (λ (x : Bool). a && (x && c)) e ∙ and-false a

third : (a b c : Bool) → c ≡ false → (a && (b && c)) ≡ false
third a b c e = ap (λ (x : Bool). a && (b && x)) e ∙ ap (λ (x : Bool). a && x) (and-false b) ∙ and-false a

framed : (c : tie.Else-not-is_whole) → let a = c.args in Framed a.log.now a.index
framed c = let a = c.args in framed-true a.log.now a.index (sym c.is_whole.ensures ∙ not-false _ c.if-not-is_whole.false-raw)

returns : tie.Need-returns-then-not-is_whole
returns c =
    let s = c in
    let a = s.args in
    let no : (is_framed a.log.now a.index && (leb a.offset 4294967295 && eqb (length a.ids.now) 16)) ≡ false =
    ap (λ (x : Bool). x && (leb a.offset 4294967295 && eqb (length a.ids.now) 16)) (sym c.is_whole.ensures ∙ not-true _ c.if-not-is_whole.true-raw) in
    (not-joined (ss c.before.before.before.before.before.before) a.buffer.now a.log.now a.index a.offset _ _ no c.holding.ensures, ap (λ x. x.buffer) (join-no (ss c.before.before.before.before.before.before) a.buffer.now a.log.now a.index a.offset no))

returns-2 : tie.Need-returns-then-offset-gt4294967295
returns-2 c =
    let s = c in
    let a = s.args in
    let no = second (is_framed a.log.now a.index) _ (eqb (length a.ids.now) 16) (lt-leb a.offset 4294967295 (omega arith)) in
    (not-joined (ss c.before.before.before.before.before.before.before) a.buffer.now a.log.now a.index a.offset _ _ no c.holding-then-offset-gt4294967295.ensures, ap (λ x. x.buffer) (join-no (ss c.before.before.before.before.before.before.before) a.buffer.now a.log.now a.index a.offset no))

returns-3 : tie.Need-returns-then-ids-ne16
returns-3 c =
    let s = c in
    let a = s.args in
    let no = third (is_framed a.log.now a.index) (leb a.offset 4294967295) _ (ne_eqb (length a.ids.now) 16 c.if-ids-ne16.true) in
    (not-joined (ss c.before.before.before.before.before.before.before.before) a.buffer.now a.log.now a.index a.offset _ _ no c.holding-then-ids-ne16.ensures, ap (λ x. x.buffer) (join-no (ss c.before.before.before.before.before.before.before.before) a.buffer.now a.log.now a.index a.offset no))

join-frame-requires : tie.Need-join_frame-requires
join-frame-requires c κs = (omega arith, (framed c.before.before.before, omega arith))

returns-4 : tie.Need-returns
returns-4 c =
    let s = c in
    let a = s.args in
    let j = c.join_frame in
    let q = join-yes (ss c.before.before.before.before.before.before.before.before.before.before.before) a.buffer.now a.log.now a.index a.offset (framed c.before.before.before.before.before.before) (omega arith) (omega arith) in
    (enters-as (ss c.before.before.before.before.before.before.before.before.before.before.before) a.buffer.now a.log.now a.index a.offset _ _ _ j.ensures.0 q, j.ensures.1 ∙ ap (λ x. x.buffer) q)

pub join_spec : {M : Type 1} → statement M
join_spec =
    tie.close
    (tie.spec
    (search rules)
    (search rules)
    returns
    (search rules)
    returns-2
    (search rules)
    returns-3
    join-frame-requires
    (search rules)
    returns-4)
