-- Each signed number that is handed on is itself, and each raw tail that of its id.
use Rattle.publication.proofs.OpenLaws.{opened-by}
use Rattle.model.specs.LogBufferDescriptor.{id_minus, raw_of}
use Rattle.model.specs.Bytes.{word}
use mir.Facts.{to_z-of_z}
use mir.Syntax.{w64}
use Prim.Native.Nat.{ℕ}
use mathlib.Core.Path.{◌≡◌, ap, ◌∙◌}
use borrow.Author.Rules.{rules}
use Rattle.publication.proofs.opening.opened.Statement.{statement}
use Rattle.publication.proofs.opening.opened.Tie as tie

returns : tie.Need-returns
returns c =
    let s = c in
    let e : c.word-id.result ≡ word s.args.initial_term_id = c.word-id.ensures.0 ∙ ap word (to_z-of_z s.ranges.initial_term_id) in
    opened-by _ _ _ _ _ _ _ _ _ _ _ _ _ (to_z-of_z s.ranges.term_length) (to_z-of_z s.ranges.mtu_length) (to_z-of_z s.ranges.initial_term_id) (to_z-of_z s.ranges.session_id) (to_z-of_z s.ranges.stream_id)
    (to_z-of_z {w = w64} {z = c.raw_tail-first.result} (search rules) ∙ c.raw_tail-first.ensures ∙ ap (λ (n : ℕ). raw_of n 0) e)
    (to_z-of_z {w = w64} {z = c.raw_tail-second.result} (search rules) ∙ c.raw_tail-second.ensures ∙ ap (λ (n : ℕ). raw_of n 0) (c.id_minus.ensures ∙ ap (λ (n : ℕ). id_minus n 2) e))
    (to_z-of_z {w = w64} {z = c.raw_tail-third.result} (search rules) ∙ c.raw_tail-third.ensures ∙ ap (λ (n : ℕ). raw_of n 0) (c.id_minus-2.ensures ∙ ap (λ (n : ℕ). id_minus n 1) e))

pub opened_spec : {M : Type 1} → statement M
opened_spec =
    tie.close
    (tie.spec
    (search rules)
    (search rules)
    (search rules)
    (search rules)
    (search rules)
    (search rules)
    (search rules)
    returns)
