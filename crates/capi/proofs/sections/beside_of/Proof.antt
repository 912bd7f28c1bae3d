-- Each signed number that was read and handed on is the record's.
use mathlib.Core.Path.{◌≡◌}
use lib.IntN.{ℤ}
use mir.Facts.{to_z-of_z}
use mir.Syntax.{w32, w64}
use Rattle.model.specs.declared.LogRecord.{LogRecord}
use Rattle.metadata.specs.declared.Beside.{Beside}
use Rattle.metadata.specs.Metadata.{beside_of}
use borrow.Author.Rules.{rules}
use Rattle.capi.proofs.sections.beside_of.Statement.{statement}
use Rattle.capi.proofs.sections.beside_of.Tie as tie

rebuilt : (r : LogRecord) (a b c d : ℤ) → a ≡ r.session_id → b ≡ r.stream_id → c ≡ r.publication_limit → d ≡ r.slowest_position
    → ◌≡◌ {A = Beside} (record { session_id = a; stream_id = b; publication_limit = c; is_closed = r.is_closed; slowest_position = d; is_cleared = r.is_cleared }) (beside_of r)
unfolding beside_of
rebuilt r a b c d ea eb ec ed = cc

returns : tie.Need-returns
returns c = let r = c.args.rec in
    rebuilt r _ _ _ _
    (to_z-of_z {w = w32} {z = r.session_id} (search rules)) (to_z-of_z {w = w32} {z = r.stream_id} (search rules))
    (to_z-of_z {w = w64} {z = r.publication_limit} (search rules)) (to_z-of_z {w = w64} {z = r.slowest_position} (search rules))

pub beside_of_spec : {M : Type 1} → statement M
beside_of_spec = tie.close (tie.spec returns)
