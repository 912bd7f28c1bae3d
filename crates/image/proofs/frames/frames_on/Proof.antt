-- The place of the position, and the leaf library's read of its partition to the term's end.
use Rattle.std.specs.Prelude.{Result, ⊤}
use Rattle.model.specs.declared.Error.{Error}
use mathlib.Core.Path.{sym, ap, ap₂, ◌∙◌}
use mathlib.Core.List.{List}
use Prim.Native.Nat.{ℕ, ◌%◌}
use lib.IntN.{ℤ}
use lib.ListN.{length}
use Rattle.model.specs.TermReader.{read_walk, frames_by, read_from, entries_by}
use Rattle.model.specs.declared.TermRead.{TermRead}
use Rattle.model.specs.LogBufferDescriptor.{partition_of}
use Rattle.logbuffer.specs.Reads.{read_on_verdict}
use Rattle.logbuffer.proofs.ReadOn.{on-walked}
use Rattle.image.proofs.Places.{term-length, read-good}
use borrow.Author.Rules.{rules}
use Rattle.image.proofs.frames.frames_on.Statement.{statement}
use Rattle.image.proofs.frames.frames_on.Tie as tie

offset-of-requires : tie.Need-offset_of-requires
offset-of-requires c κs = term-length _ _ c.requires.0

returns : tie.Need-returns
returns c =
    let s = c in
    let a = s.args in
    let n = length a.entries.now in
    let at = c.offset_of.ensures in
    let k = partition_of a.p a.v.term in
    let o = a.p % a.v.term in
    let w = read_walk a.v a.log.now k o a.limit in
    let e = sym (on-walked a.v a.log.now k o a.limit a.entries.now (read-good a.v (length a.log.now) a.p a.limit n s.requires.0 s.requires.1.0 s.requires.1.1.0)) in
    let said : ℕ → ℕ → (Result TermRead Error) = λ (x y : ℕ). read_from y (frames_by (read_walk a.v a.log.now x y a.limit) (read_on_verdict a.v a.log.now x y a.limit n)) in
    let wrote : ℕ → ℕ → List ℤ = λ (x y : ℕ). entries_by a.entries.now (read_walk a.v a.log.now x y a.limit) (read_on_verdict a.v a.log.now x y a.limit n) in (
      c.read_on.ensures.0 ∙ ap₂ said s.requires.1.1.1 at ∙ ap (λ (x : Result ⊤ Error). read_from o (frames_by w x)) e,
      c.read_on.ensures.1 ∙ ap₂ wrote s.requires.1.1.1 at ∙ ap (entries_by a.entries.now w) e,
    )

pub frames_on_spec : {M : Type 1} → statement M
frames_on_spec = tie.close (tie.spec offset-of-requires (search rules) (search rules) returns)
