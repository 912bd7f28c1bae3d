-- A record that is sound with the bits of all tails and of a claim's offset is sound with its own tail, and the claim is good; so the commit of `model` is done.
use Rattle.std.specs.Prelude.{Ok}
use Rattle.std.proofs.Common.{◌≡◌, ℕ, zero, suc, ◌+◌, ◌%◌, ◌≤◌, Bool, true, false, ◌&&◌, leb, List, length, sym, ap, ◌∙◌, arith, eq-eqb, le-leb, leb-true}
use lib.Bits.{bit_or, or_mod}
use Rattle.model.specs.declared.Claim.{Claim}
use Rattle.model.specs.declared.LogRecord.{LogRecord}
use Rattle.model.specs.Bytes.{word, long, splice, le4}
use Rattle.model.specs.FrameDescriptor.{align}
use Rattle.model.specs.LogBufferDescriptor.{tail_of, offset_of, active, reading, reading_of, sound, Sound}
use Rattle.model.specs.BufferClaim.{claim_start, good_claim, matches, claim_check, commit_of, commit_bytes}
use Rattle.model.proofs.Both.{and-true}
use Rattle.model.proofs.BufferClaim.{claim-inside}
use Rattle.model.proofs.Choice.{cond-false}
use Rattle.model.proofs.Sound.{sound-true, sound-by}
use Rattle.logbuffer.specs.Commits.{all_bits, read_all, claim_fits, commit_fits, commit_fit_bytes}
use Rattle.logbuffer.proofs.Eithers.{left-most, right-most, left-multiple, right-multiple}

-- what is asked, on partition, offset and length
abbrev pub fit_numbers : LogRecord → ℕ → Claim → ℕ → ℕ → ℕ → Bool
fit_numbers r n c k o l = leb k 2 && (leb 32 l && (sound (read_all r c) n && leb (o + align l) (read_all r c).term))

pub fit-by : (r : LogRecord) (n : ℕ) (c : Claim) (k o l : ℕ) → k ≡ word c.partition → o ≡ word c.offset → l ≡ word c.length → fit_numbers r n c k o l ≡ claim_fits r n c
unfolding claim_fits
fit-by r n c k o l ek eo el = cc

module _ (r : LogRecord) (c : Claim) where
  abbrev o· : ℕ → ℕ
  o· k = offset_of (tail_of r k)

  -- the lower halves' bits
  halves : all_bits r c % 4294967296 ≡ bit_or (bit_or (bit_or (o· 0) (o· 1)) (o· 2)) (word c.offset % 4294967296)
  halves =
      or_mod (bit_or (bit_or (long (tail_of r 0)) (long (tail_of r 1))) (long (tail_of r 2))) (word c.offset) 32
      ∙ ap (λ (x : ℕ). bit_or x (word c.offset % 4294967296))
      (or_mod (bit_or (long (tail_of r 0)) (long (tail_of r 1))) (long (tail_of r 2)) 32
      ∙ ap (λ (x : ℕ). bit_or x (o· 2)) (or_mod (long (tail_of r 0)) (long (tail_of r 1)) 32))

  module _ (n : ℕ) (s : Sound (read_all r c) n) where
    multiple : bit_or (bit_or (bit_or (o· 0) (o· 1)) (o· 2)) (word c.offset % 4294967296) % 32 ≡ 0
    multiple = ap (λ (x : ℕ). x % 32) (sym halves) ∙ s.offset-32

    multiples : bit_or (bit_or (o· 0) (o· 1)) (o· 2) % 32 ≡ 0
    multiples = left-multiple _ _ multiple

    high : bit_or (bit_or (o· 0) (o· 1)) (o· 2) ≤ 2147483647
    high = omega (arith, s.offset-high, halves, left-most (bit_or (bit_or (o· 0) (o· 1)) (o· 2)) (word c.offset % 4294967296))

    pub offset-32 : word c.offset % 32 ≡ 0
    offset-32 = let e : word c.offset % 4294967296 % 32 ≡ 0 = right-multiple (bit_or (bit_or (o· 0) (o· 1)) (o· 2)) _ multiple in omega arith

    tail-good : (k : ℕ) → k ≤ 2 → (o· k % 32 ≡ 0) × (o· k ≤ 2147483647)
    tail-good zero h = (left-multiple (o· 0) (o· 1) (left-multiple _ (o· 2) multiples), omega (arith, high, left-most (bit_or (o· 0) (o· 1)) (o· 2), left-most (o· 0) (o· 1)))
    tail-good (suc zero) h = (right-multiple (o· 0) (o· 1) (left-multiple _ (o· 2) multiples), omega (arith, high, left-most (bit_or (o· 0) (o· 1)) (o· 2), right-most (o· 0) (o· 1)))
    tail-good (suc (suc zero)) h = (right-multiple (bit_or (o· 0) (o· 1)) (o· 2) multiples, omega (arith, high, right-most (bit_or (o· 0) (o· 1)) (o· 2)))
    tail-good (suc (suc (suc k))) h = absurd (omega arith)

    pub sound-own : sound (reading r) n ≡ true
    unfolding reading_of
    sound-own =
        let t = tail-good (active r) (omega arith) in
        sym (sound-by (reading r) n s.term-low s.term-high s.one_bit s.mtu-low s.mtu-high s.mtu-32 s.count-high s.limit-high s.slowest-high s.slowest-32 t.0 t.1)
        ∙ eq-eqb n _ s.three

-- what it says where it is so
pub record Fit (r : LogRecord) (n : ℕ) (c : Claim) : Type 0 where
  pub part : word c.partition ≤ 2
  pub low : 32 ≤ word c.length
  pub so : Sound (read_all r c) n
  pub inside : word c.offset + align (word c.length) ≤ (read_all r c).term

pub fit-true : (r : LogRecord) (n : ℕ) (c : Claim) → claim_fits r n c ≡ true → Fit r n c
unfolding claim_fits
fit-true r n c h =
    let p1 = and-true (leb (word c.partition) 2) _ h in
    let p2 = and-true (leb 32 (word c.length)) _ p1.1 in
    let p3 = and-true (sound (read_all r c) n) _ p2.1 in
    record { part = leb-true _ _ p1.0; low = leb-true _ _ p2.0; so = sound-true _ _ p3.0; inside = leb-true _ _ p3.1 }

-- the frame, with its slack, lies in the log
pub fit-inside : (r : LogRecord) (n : ℕ) (c : Claim) → Fit r n c → claim_start (read_all r c) c + align (word c.length) ≤ n
fit-inside r n c f = claim-inside (read_all r c) n c (record { part = f.part; multiple = offset-32 r c n f.so; low = f.low; inside = f.inside }) f.so

pub good-own : (r : LogRecord) (n : ℕ) (c : Claim) → Fit r n c → good_claim (reading r) c ≡ true
unfolding good_claim reading_of
good-own r n c f =
    let most : (read_all r c).term ≤ 2147483647 = omega (arith, f.so.term-high) in
    simp (le-leb _ _ f.part, eq-eqb _ _ (offset-32 r c n f.so), le-leb _ _ f.low, le-leb _ _ f.inside, le-leb _ _ most)

module _ (r : LogRecord) (log : List ℕ) (c : Claim) where
  -- nothing done
  pub not-fit : commit_fits r log c ≡ false → (false ≡ commit_fits r log c) × (log ≡ commit_fit_bytes r log c)
  not-fit h = (sym h, sym (cond-false _ _ _ h))

  pub no-fit : false ≡ claim_fits r (length log) c → (false ≡ commit_fits r log c) × (log ≡ commit_fit_bytes r log c)
  no-fit h = not-fit (ap (λ (b : Bool). b && matches log (claim_start (read_all r c) c) c) (sym h))

  -- the call of `model`
  pub commit-fits : commit_fits r log c ≡ true → (Ok tt ≡ commit_of r log c) × (splice log (claim_start (read_all r c) c) (le4 (word c.length)) ≡ commit_bytes r log c)
  unfolding commit_of commit_bytes claim_check reading_of
  commit-fits h =
      let p = and-true (claim_fits r (length log) c) _ h in
      let f = fit-true r (length log) c p.0 in
      (simp (good-own r (length log) c f, sound-own r c (length log) f.so, p.1), simp (good-own r (length log) c f, sound-own r c (length log) f.so, p.1))
