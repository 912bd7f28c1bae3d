-- Refused, or the record with the position.
use Rattle.std.specs.Prelude.{Result, Ok, ⊤}
use Rattle.model.specs.declared.Error.{Error}
use mathlib.Core.Path.{◌≡◌, sym, ap, ◌∙◌}
use lib.IntN.{ℤ}
use mir.Facts.{to_z-of_z}
use borrow.Author.Rules.{rules}
use Rattle.model.specs.Bytes.{long}
use Rattle.model.specs.LogBufferDescriptor.{with_slowest, noted}
use Rattle.model.specs.Publication.{reply_by, raise_of}
use Rattle.publication.proofs.ClearLaws.{raise-by}
use Rattle.publication.proofs.clearing.set_slowest_position.Statement.{statement}
use Rattle.publication.proofs.clearing.set_slowest_position.Tie as tie

-- the reply by the verdict
law : (c : tie.After-before_raise) (x : Result ⊤ Error) → c.before_raise.result ≡ x
    → (let a = c.args in reply_by a.rec (with_slowest a.rec a.position) x ≡ raise_of a.rec a.position)
law c x h =
    let s = c in
    raise-by s.args.rec s.args.position _ _ x c.read_active-v.ensures (c.long.ensures.0 ∙ ap long (to_z-of_z s.ranges.position)) (sym h ∙ c.before_raise.ensures)

returns : tie.Need-returns-in-Err
returns c = law c.before _ c.in-Err.is

returns-2 : tie.Need-returns-in-Ok
unfolding with_slowest noted
returns-2 c =
    let s = c in
    ap (λ (z : ℤ). record { next = with_slowest s.args.rec z; answer = Ok tt }) (to_z-of_z s.ranges.position) ∙ law c.before (Ok tt) c.in-Ok.is

pub set_slowest_position_spec : {M : Type 1} → statement M
set_slowest_position_spec =
    tie.close
    (tie.spec (search rules) (search rules) (search rules) (search rules) (search rules) returns returns-2)
