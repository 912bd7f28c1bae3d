-- Each word that is stored is the number given, since a signed number that fits is the number of its bits.
use mathlib.Core.Path.{◌≡◌, ap, ap₂, ◌∙◌}
use mathlib.Core.List.{List}
use lib.IntN.{ℤ}
use lib.ListN.{set}
use mir.Facts.{to_z-of_z}
use mir.Syntax.{w32, w64}
use mir.Val.{to_z, of_z}
use borrow.Author.Rules.{rules}
use Rattle.model.specs.declared.LogRecord.{LogRecord}
use Rattle.capi.specs.Words.{at, pair_of, tails_out, marks_out, record_out}
use Rattle.capi.proofs.Promised.{promised64}
use Rattle.capi.proofs.words.record_out.Statement.{statement}
use Rattle.capi.proofs.words.record_out.Tie as tie

tails-same : (w : List ℤ) (r : LogRecord) (a b c d : ℤ) → a ≡ at r.tails 0 → b ≡ at r.tails 1 → c ≡ at r.tails 2 → d ≡ pair_of r.active_term_count r.initial_term_id
    → set (set (set (set w 0 a) 1 b) 2 c) 3 d ≡ tails_out w r
tails-same w r a b c d e f g h = cc

same : (w : List ℤ) (r : LogRecord) (v : List ℤ) (a b c d : ℤ) → v ≡ marks_out (set (set (set (set w 0 a) 1 b) 2 c) 3 d) r
    → a ≡ at r.tails 0 → b ≡ at r.tails 1 → c ≡ at r.tails 2 → d ≡ pair_of r.active_term_count r.initial_term_id → v ≡ record_out w r
same w r v a b c d q e f g h = q ∙ ap (λ (x : List ℤ). marks_out x r) (tails-same w r a b c d e f g h)

returns : tie.Need-returns
returns c = let s = c in
    let r = s.args.next in
    same s.args.w.now r _ _ _ _ _ c.marks_out.ensures (search rules) (search rules) (search rules)
    (promised64 (c.pair.ensures ∙ ap₂ pair_of (to_z-of_z {w = w32} {z = r.active_term_count} (search rules)) (to_z-of_z {w = w32} {z = r.initial_term_id} (search rules))) (search rules))

pub record_out_spec : {M : Type 1} → statement M
record_out_spec =
    tie.close
    (tie.spec (search rules) (search rules) (search rules) (search rules) (search rules) (search rules) (search rules) (search rules) (search rules) returns)
