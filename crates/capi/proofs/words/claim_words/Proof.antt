-- Two pairs.
use mathlib.Core.Path.{ap₂}
use mathlib.Core.List.{[], ◌∷◌}
use lib.IntN.{ℤ}
use Rattle.capi.proofs.Halves.{pair-by}
use borrow.Author.Rules.{rules}
use Rattle.capi.proofs.words.claim_words.Statement.{statement}
use Rattle.capi.proofs.words.claim_words.Tie as tie

returns : tie.Need-returns
returns c =
    let k = c.args.claim in
    ap₂ (λ (a b : ℤ). a ∷ b ∷ []) (pair-by k.partition k.offset c.pair.ensures (search rules) (search rules) (search rules)) (pair-by k.length k.term_id c.pair-2.ensures (search rules) (search rules) (search rules))

pub claim_words_spec : {M : Type 1} → statement M
claim_words_spec =
    tie.close (tie.spec (search rules) (search rules) returns)
