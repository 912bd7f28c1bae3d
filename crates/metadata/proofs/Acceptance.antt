-- Bytes are accepted exactly where their size is 320, each byte of the gaps is 0 and the header length is 32.
use mathlib.Core.Path.{◌≡◌}
use Prim.Native.Nat.{ℕ}
use mathlib.Core.Bool.{true}
use mathlib.Core.List.{List}
use borrow.Author.Tests.{eq-eqb, eqb-true}
use lib.ListN.{length, drop}
use Rattle.model.specs.Bytes.{u32}
use Rattle.model.proofs.Both.{and-true, both_true}
use Rattle.metadata.specs.Metadata.{header_length, zero_from, accepted}
use Rattle.metadata.specs.Theorems.{Acceptance}
use Rattle.metadata.proofs.Gaps.{zero-all, zero-each}

-- what the judge of bytes has looked at
pub record Judged (s : List ℕ) : Type 0 where
  pub size : length s ≡ 320
  pub pad-1 : zero_from 100 s 28 ≡ true
  pub pad-2 : zero_from 112 s 144 ≡ true
  pub pad-3 : zero_from 36 s 284 ≡ true
  pub header : u32 (drop 268 s) ≡ header_length

pub judged : (s : List ℕ) → accepted s ≡ true → Judged s
unfolding accepted
judged s h =
    let a = and-true _ _ h in
    let b = and-true _ _ a.1 in
    let c = and-true _ _ b.1 in
    let d = and-true _ _ c.1 in
    record { size = eqb-true (length s) 320 a.0; pad-1 = b.0; pad-2 = c.0; pad-3 = d.0; header = eqb-true (u32 (drop 268 s)) header_length d.1 }

pub accepted-exactly : Acceptance
unfolding accepted
accepted-exactly s = (
  λ h. let j = judged s h in
      record { size = j.size; gap-1 = zero-each 100 s 28 j.pad-1; gap-2 = zero-each 112 s 144 j.pad-2; gap-3 = zero-each 36 s 284 j.pad-3; header = j.header },
  λ g. both_true (eq-eqb (length s) 320 g.size)
      (both_true (zero-all 100 s 28 g.gap-1) (both_true (zero-all 112 s 144 g.gap-2) (both_true (zero-all 36 s 284 g.gap-3) (eq-eqb (u32 (drop 268 s)) header_length g.header)))),
)
