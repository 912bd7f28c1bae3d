-- No sums, three times.
use mathlib.Core.Path.{ap, ◌∙◌}
use mathlib.Core.List.{[]}
use borrow.Author.Rules.{rules}
use Rattle.model.specs.Answers.{answered}
use Rattle.tally.specs.declared.Sums.{Sums}
use Rattle.tally.specs.declared.Partitions.{Partitions}
use Rattle.capi.specs.Tallies.{sums_at}
use Rattle.capi.proofs.tallies.no_partitions.Statement.{statement}
use Rattle.capi.proofs.tallies.no_partitions.Tie as tie

abbrev of_three : Sums → Sums → Sums → Partitions
of_three a b c = record { p0 = a; p1 = b; p2 = c }

returns : tie.Need-returns
returns c =
    let none = sums_at 0 (answered []) in
    let b = c in
    let a = c in
    ap (λ (s : Sums). of_three s b.no_sums-2.result c.no_sums-3.result) a.no_sums.ensures
    ∙ ap (λ (s : Sums). of_three none s c.no_sums-3.result) b.no_sums-2.ensures
    ∙ ap (λ (s : Sums). of_three none none s) c.no_sums-3.ensures

pub no_partitions_spec : {M : Type 1} → statement M
no_partitions_spec = tie.close (tie.spec (search rules) (search rules) (search rules) returns)
