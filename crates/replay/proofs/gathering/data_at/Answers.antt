-- Each test that fails finds none; behind them the frame at the place says.
use Rattle.std.proofs.Common.{rules, ◌≡◌, ◌%◌, ◌<◌, length, drop, ℕ, ℤ, ◌-◌, List, Option, Some, None, bit_and, w32, sym, ap, ap₂, ◌∙◌, arith, to_z-of_z}
use Rattle.std.specs.Option.{option_map}
use Rattle.logbuffer.specs.Fragments.{fragment_at}
use Rattle.logbuffer.specs.declared.fragment_assembler.FragmentHeader.{FragmentHeader}
use Rattle.logbuffer.proofs.Shifts.{offset-by}
use Rattle.replay.specs.declared.gathering.DataFrame.{DataFrame}
use Rattle.replay.specs.InPlace.{TermsOf, index_at}
use Rattle.replay.specs.Gather.{frame_with, frame_found}
use Rattle.replay.proofs.InPlace.{data-past, data-empty, data-off}
use Rattle.replay.proofs.Fragments.{fragment-found}
use Rattle.replay.proofs.gathering.data_at.Goals as goal

pub returns-then-p-stop : goal.returns-then-p-stop
returns-then-p-stop c = let a = c.args in ap (frame_with (drop (index_at a.term a.p) a.log.now) (index_at a.term a.p)) (data-past a.log.now a.term a.stop a.p c.if-p-stop.true)

pub returns-then-term-eq0 : goal.returns-then-term-eq0
returns-then-term-eq0 c = let a = c.args in ap (frame_with (drop (index_at a.term a.p) a.log.now) (index_at a.term a.p)) (data-empty a.log.now a.term a.stop a.p c.if-term-eq0.true)

pub returns-then-p-ne0 : goal.returns-then-p-ne0
returns-then-p-ne0 c = let a = c.args in ap (frame_with (drop (index_at a.term a.p) a.log.now) (index_at a.term a.p)) (data-off a.log.now a.term a.stop a.p c.if-p-ne0.true)

-- the fragment that was found, with its index
found : (log : List ℕ) (term stop p : ℕ) → TermsOf (length log) term → p < stop → ¬ (term ≡ 0) → p % 32 ≡ 0 → (index : ℕ) (o : Option FragmentHeader) → index ≡ index_at term p
    → o ≡ fragment_at log index (term - bit_and p (term - 1))
    → option_map (λ (x : FragmentHeader). record { index = index_at term p; length = x.length; flags = x.flags; session = x.session }) o ≡ frame_found log term stop p
found log term stop p t l none e index o ei eo =
    let room : bit_and p (term - 1) ≡ p % term = offset-by term t.fits.high (t.fits.one_bit (omega (arith, none))) p in
    ap (option_map (λ (x : FragmentHeader). record { index = index_at term p; length = x.length; flags = x.flags; session = x.session })) (eo ∙ ap₂ (λ (x y : ℕ). fragment_at log x (term - y)) ei room)
    ∙ fragment-found log term stop p t l (omega (arith, none)) e

pub returns-in_err-fragment : goal.returns-in_err-fragment
returns-in_err-fragment c =
    let a = c.args in
    let z : c.from_residual.result ≡ None = search rules in
    z ∙ found a.log.now a.term a.stop a.p c.requires c.if-p-stop.false c.if-term-eq0.false c.if-p-ne0.false _ None c.index_at-index.ensures (sym c.in_err-fragment.was ∙ c.fragment_at.ensures)

pub returns : goal.returns
returns c =
    let a = c.args in
    let f = c.in_ok-fragment.fragment in
    ap₂ {C = Option DataFrame} (λ (i : ℕ) (z : ℤ). Some (record { index = i; length = f.length; flags = f.flags; session = z })) c.index_at-index.ensures (to_z-of_z {w = w32} {z = f.session} (search rules))
    ∙ found a.log.now a.term a.stop a.p c.requires c.if-p-stop.false c.if-term-eq0.false c.if-p-ne0.false _ (Some f) c.index_at-index.ensures (sym c.in_ok-fragment.was ∙ c.fragment_at.ensures)
