-- Each test that fails finds none; behind them the frame at the partition's base says.
use Rattle.std.proofs.Common.{◌≡◌, ◌*◌, ◌/◌, ◌%◌, ◌<◌, ◌^◌, length, ℕ, ◌+◌, ◌-◌, List, Option, Some, None, bit_and, sym, ap, ap₂, subst, ◌∙◌, arith}
use Rattle.model.specs.LogBufferDescriptor.{partition_of, bits_to_shift}
use Rattle.logbuffer.specs.Whole.{length_found, whole_frame}
use Rattle.logbuffer.proofs.Shifts.{shifted, offset-by}
use Rattle.replay.specs.declared.frames.Whole.{Whole}
use Rattle.replay.specs.declared.frames.Found.{Found}
use Rattle.replay.specs.InPlace.{TermsOf, index_at, whole_at, whole_with, found_none}
use Rattle.replay.proofs.InPlace.{data-past, data-empty, data-off, whole-none, whole_in, whole-put}
use Rattle.replay.proofs.frames.whole_from.Goals as goal

abbrev Says : List ℕ → ℕ → ℕ → ℕ → Found → Type 0
Says log term stop p x = (x.frame ≡ whole_with (index_at term p) (whole_at log term stop p)) × (x.base ≡ x.number % 3 * term)

-- none there
says_none : (log : List ℕ) (number base term stop p : ℕ) (x : Found) → x ≡ found_none number base → base ≡ number % 3 * term → 0 ≡ whole_at log term stop p → Says log term stop p x
says_none log number base term stop p x e b h = subst (Says log term stop p) (sym e) (ap (whole_with (index_at term p)) h, b)

pub returns-then-p-stop : goal.returns-then-p-stop
returns-then-p-stop c =
    let a = c.args in
    says_none a.log.now a.number a.base a.term a.stop a.p _ c.none.ensures c.requires.1 (whole-none a.log.now a.term a.stop a.p (sym (data-past a.log.now a.term a.stop a.p c.if-p-stop.true)))

pub returns-then-term-eq0 : goal.returns-then-term-eq0
returns-then-term-eq0 c =
    let a = c.args in
    says_none a.log.now a.number a.base a.term a.stop a.p _ c.none-then-term-eq0.ensures c.requires.1
    (whole-none a.log.now a.term a.stop a.p (sym (data-empty a.log.now a.term a.stop a.p c.if-term-eq0.true)))

pub returns-then-p-ne0 : goal.returns-then-p-ne0
returns-then-p-ne0 c =
    let a = c.args in
    says_none a.log.now a.number a.base a.term a.stop a.p _ c.none-then-p-ne0.ensures c.requires.1
    (whole-none a.log.now a.term a.stop a.p (sym (data-off a.log.now a.term a.stop a.p c.if-p-ne0.true)))

-- what the tests leave, of a term that has one bit
module _ (log : List ℕ) (term stop p : ℕ) (t : TermsOf (length log) term) (none : ¬ (term ≡ 0)) where
  -- the bits to shift are the term's
  bits_are : (b : ℕ) → b ≡ bits_to_shift term → 2 ^ b ≡ term
  bits_are b e = ap (λ (x : ℕ). 2 ^ x) e ∙ shifted term t.fits.high (t.fits.one_bit (omega (arith, none)))

  room : bit_and p (term - 1) ≡ p % term
  room = offset-by term t.fits.high (t.fits.one_bit (omega (arith, none))) p

  index_is : (base : ℕ) → base ≡ partition_of p term * term → base + bit_and p (term - 1) ≡ index_at term p
  index_is base e = ap₂ (λ (x y : ℕ). x + y) e room

  -- the length that was found there
  found : (base : ℕ) (o : Option ℕ) → base ≡ partition_of p term * term → o ≡ length_found (whole_frame log (base + bit_and p (term - 1)) (term - bit_and p (term - 1))) → p < stop → p % 32 ≡ 0
      → o ≡ length_found (whole_at log term stop p)
  found base o e eo l h =
      eo ∙ ap₂ (λ (x y : ℕ). length_found (whole_frame log x (term - y))) (index_is base e) room ∙ ap length_found (whole_in log term stop p t l (omega (arith, none)) h)

pub base_at-begin-requires : goal.base_at-begin-requires
base_at-begin-requires c =
    let a = c.args in
    (c.requires.0.fits.high, (c.requires.1, ap (λ (x : ℕ). a.p / x) (bits_are a.log.now a.term a.stop a.p c.requires.0 c.if-term-eq0.false _ c.position_bits_to_shift.ensures)))

pub returns-in-Some : goal.returns-in-Some
returns-in-Some c =
    let a = c.args in
    let e = c.base_at-begin.ensures.0 in
    let n = c.in-Some.length in (
      ap {B = Option Whole} (λ (x : ℕ). Some (record { index = x; length = n })) (index_is a.log.now a.term a.stop a.p c.requires.0 c.if-term-eq0.false _ e)
          ∙ whole-put (index_at a.term a.p) _ (Some n)
          (found a.log.now a.term a.stop a.p c.requires.0 c.if-term-eq0.false _ (Some n) e (sym c.in-Some.is ∙ c.whole_length.ensures) c.if-p-stop.false c.if-p-ne0.false),
      e ∙ ap (λ (x : ℕ). a.p / x % 3 * a.term) (sym (bits_are a.log.now a.term a.stop a.p c.requires.0 c.if-term-eq0.false _ c.position_bits_to_shift.ensures)),
    )

pub returns-in-None : goal.returns-in-None
returns-in-None c =
    let a = c.args in
    let e = c.base_at-begin.ensures.0 in (
      whole-put (index_at a.term a.p) _ None (found a.log.now a.term a.stop a.p c.requires.0 c.if-term-eq0.false _ None e (sym c.in-None.is ∙ c.whole_length.ensures) c.if-p-stop.false c.if-p-ne0.false),
      e ∙ ap (λ (x : ℕ). a.p / x % 3 * a.term) (sym (bits_are a.log.now a.term a.stop a.p c.requires.0 c.if-term-eq0.false _ c.position_bits_to_shift.ensures)),
    )
