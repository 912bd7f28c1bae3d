-- Case by case on the answer; a refusal's number is that of its error.
use mathlib.Core.Path.{sym, ap, ◌∙◌}
use borrow.Author.Rules.{rules}
use Rattle.capi.specs.Replies.{frame_length_reply}
use Rattle.capi.proofs.replies.frame_length_read.Statement.{statement}
use Rattle.capi.proofs.replies.frame_length_read.Tie as tie

returns : tie.Need-returns-in-Ok
returns c = c.frame_length.ensures ∙ ap frame_length_reply (sym c.in-Ok.is)

returns-2 : tie.Need-returns-in-Err
returns-2 c = search (rules, ← c.number.ensures, c.in-Err.is)

pub frame_length_read_spec : {M : Type 1} → statement M
frame_length_read_spec =
    tie.close
    (tie.spec
    (search rules)
    (search rules)
    (search rules)
    (search rules)
    returns
    returns-2)
