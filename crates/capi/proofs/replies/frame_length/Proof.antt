-- Case by case on the length.
use borrow.Author.Rules.{rules}
use Rattle.capi.proofs.replies.frame_length.Statement.{statement}
use Rattle.capi.proofs.replies.frame_length.Tie as tie

returns : tie.Need-returns-in-Free
returns c = rw c.in-Free.is

returns-2 : tie.Need-returns-in-Writing
returns-2 c = rw c.in-Writing.is

returns-3 : tie.Need-returns-in-Finished
returns-3 c = rw c.in-Finished.is

pub frame_length_spec : {M : Type 1} → statement M
frame_length_spec =
    tie.close (tie.spec (search rules) (search rules) (search rules) returns returns-2 returns-3)
