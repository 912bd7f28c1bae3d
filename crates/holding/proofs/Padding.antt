-- A note with 0 behind it.
use Rattle.std.proofs.Common.{◌≡◌, ℕ, ◌+◌, ◌-◌, ◌≤◌, List, ◌++◌, length, take, drop, sym, ap, ◌∙◌, arith}
use Rattle.std.proofs.Math.ListN.{replicate}
use Rattle.std.proofs.Math.Seq.{take-append-add}
use Rattle.std.proofs.lemmas.List.{drop-replicate, take-replicate}
use Rattle.holding.specs.Holding.{padded}

-- laid over 255 bytes of 0
pub padded-by : (s : List ℕ) (n : ℕ) → length s ≡ n → n ≤ 255 → s ++ drop n (replicate 255 0) ≡ padded s
unfolding padded
padded-by s n e h =
    let k : length s + (255 - n) ≡ 255 = omega arith in
    let l : 255 - n ≤ 255 = omega arith in
    ap (λ (z : List ℕ). s ++ z) (drop-replicate n 255 0 ∙ sym (take-replicate (255 - n) 255 0 l))
    ∙ sym (take-append-add s (replicate 255 0) (255 - n)) ∙ ap (λ (m : ℕ). take m (s ++ replicate 255 0)) k
