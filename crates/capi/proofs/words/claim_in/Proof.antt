-- Number by number: each is a half of its word.
use mathlib.Core.Path.{◌≡◌}
use lib.IntN.{ℤ}
use borrow.Author.Rules.{rules}
use Rattle.model.specs.declared.Claim.{Claim}
use Rattle.capi.specs.Words.{low_of, high_of, claim_in}
use Rattle.capi.proofs.Halves.{low_by, high-by}
use Rattle.capi.proofs.words.claim_in.Statement.{statement}
use Rattle.capi.proofs.words.claim_in.Tie as tie

same : (x y a b l i : ℤ) → a ≡ low_of x → b ≡ high_of x → l ≡ low_of y → i ≡ high_of y → ◌≡◌ {A = Claim} (record { partition = a; offset = b; length = l; term_id = i }) (claim_in x y)
same x y a b l i ea eb el ei = cc

returns : tie.Need-returns
returns c =
    let s = c in
    same s.args.first s.args.second _ _ _ _ (low_by s.args.first c.low.ensures s.ranges.first (search rules)) (high-by s.args.first c.high.ensures s.ranges.first (search rules))
    (low_by s.args.second c.low-2.ensures s.ranges.second (search rules)) (high-by s.args.second c.high-2.ensures s.ranges.second (search rules))

pub claim_in_spec : {M : Type 1} → statement M
claim_in_spec =
    tie.close (tie.spec (search rules) (search rules) (search rules) (search rules) returns)
