-- The raw tail cut to its id, read back; at the constant that k is.
use mathlib.Core.Path.{◌≡◌, ap, ◌∙◌}
use Prim.Native.Nat.{ℕ}
use native.Mathlib.Omega.{arith}
use lib.IntN.{ℤ}
use mir.Syntax.{w32, w64}
use mir.Val.{SFits, to_z, of_z}
use mir.Facts.{to_z-of_z}
use borrow.Author.Rules.{rules}
use Rattle.model.specs.Bytes.{word}
use Rattle.model.specs.LogBufferDescriptor.{term_id_of, tail_of, reading_of}
use Rattle.model.proofs.Moving.{term-id-back}
use Rattle.publication.proofs.own_term_id.Statement.{statement}
use Rattle.publication.proofs.own_term_id.Tie as tie

own : (s : tie.Start) (k : ℕ) (z : ℤ) → SFits w64 (tail_of s.args.rec k) → z ≡ term_id_of (to_z w64 (of_z w64 (tail_of s.args.rec k))) → SFits w32 z → k ≡ s.args.k
    → word (to_z w32 (of_z w32 z)) ≡ (reading_of s.args.rec s.args.k).id
unfolding reading_of
own s k z f e g h =
    ap word (to_z-of_z {w = w32} {z = z} g ∙ e ∙ ap term_id_of (to_z-of_z f)) ∙ term-id-back _ f
    ∙ ap (λ (n : ℕ). (reading_of s.args.rec n).id) h

returns : tie.Need-returns-then-k-eq0
returns c = own c.before.before.before 0 c.term_id.result (search rules) c.term_id.ensures (search rules) (omega arith)

returns-2 : tie.Need-returns-then-k-eq1
returns-2 c = own c.before.before.before.before 1 c.term_id-then-k-eq1.result (search rules) c.term_id-then-k-eq1.ensures (search rules) (omega arith)

returns-3 : tie.Need-returns
returns-3 c = own c.before.before.before.before 2 c.term_id-2.result (search rules) c.term_id-2.ensures (search rules) (omega arith)

pub own_term_id_spec : {M : Type 1} → statement M
own_term_id_spec =
    tie.close
    (tie.spec
    (search rules)
    (search rules)
    returns
    (search rules)
    (search rules)
    returns-2
    (search rules)
    (search rules)
    returns-3)
