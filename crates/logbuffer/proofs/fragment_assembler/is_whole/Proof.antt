-- A length that is finished, has a header, and ends in the log.
use Rattle.std.proofs.Common.{◌≡◌, ℕ, ◌+◌, ◌-◌, ◌≤◌, leb, length, sym, ◌∙◌, arith, rules, le-leb}
use borrow.Author.Tests.{lt-leb}
use Rattle.model.proofs.Choice.{split}
use Rattle.logbuffer.proofs.Assembly.{framed-unfinished, framed-short, framed-by}
use Rattle.logbuffer.proofs.fragment_assembler.is_whole.Statement.{statement}
use Rattle.logbuffer.proofs.fragment_assembler.is_whole.Tie as tie

returns : tie.Need-returns-in_default
returns c = let a = c.args in framed-unfinished a.log.now a.index _ c.length_at.ensures c.in_default.in_default-own.keys2

returns-2 : tie.Need-returns-then-n-lt-HEADER_LENGTH
returns-2 c =
    let a = c.args in
    let l = c.length_at in
    framed-short a.log.now a.index _ l.ensures _ c.in-Finished.is (omega arith)

-- a sum compared by the difference, where there is one
by_difference : (n i m : ℕ) → i ≤ m → leb n (m - i) ≡ leb (i + n) m
by_difference n i m h = split (i + n) m (λ l. le-leb n (m - i) (omega arith) ∙ sym (le-leb (i + n) m l)) (λ l. lt-leb n (m - i) (omega arith) ∙ sym (lt-leb (i + n) m l))

returns-3 : tie.Need-returns-then-index-size
returns-3 c =
    let a = c.args in
    let l = c.length_at in
    sym (lt-leb (a.index + c.in-Finished.n) (length a.log.now) (omega arith)) ∙ framed-by a.log.now a.index _ l.ensures _ c.in-Finished.is (omega arith)

returns-4 : tie.Need-returns
returns-4 c =
    let a = c.args in
    let l = c.length_at in
    by_difference c.in-Finished.n a.index (length a.log.now) (omega arith) ∙ framed-by a.log.now a.index _ l.ensures _ c.in-Finished.is (omega arith)

pub is_whole_spec : {M : Type 1} → statement M
is_whole_spec = tie.close (tie.spec (search rules) (search rules) returns returns-2 returns-3 returns-4)
