-- By what was and what is closed.
use mathlib.Core.Path.{◌≡◌, sym, ap, ◌∙◌}
use mathlib.Core.Bool.{true, false}
use Prim.Native.Nat.{ℕ, ◌/◌}
use mathlib.Core.List.{List}
use lib.IntN.{ℤ}
use lib.ListN.{set}
use mir.Syntax.{w64}
use mir.Val.{to_z}
use Rattle.model.specs.Bytes.{long}
use Rattle.image.specs.declared.Image.{Image}
use Rattle.image.specs.Images.{state_of}
use Rattle.logbuffer.proofs.Signed.{long-by}
use Rattle.capi.specs.Words.{at, flag_of, shut_bits, shut_out}
use Rattle.capi.proofs.Promised.{promised64}
use borrow.Author.Rules.{rules}
use Rattle.capi.proofs.words.shut_out.Statement.{statement}
use Rattle.capi.proofs.words.shut_out.Tie as tie

closed : (w : List ℤ) (r : Image) → flag_of (long (at w 1) / 4294967296) ≡ true → w ≡ shut_out w (state_of r)
closed w r e = rw (e)

left : (w : List ℤ) (r : Image) → flag_of (long (at w 1) / 4294967296) ≡ false → r.is_closed ≡ false → w ≡ shut_out w (state_of r)
left w r e f = rw (e, f)

now-closed : (w : List ℤ) (r : Image) (x : ℤ) → flag_of (long (at w 1) / 4294967296) ≡ false → r.is_closed ≡ true → x ≡ to_z w64 (shut_bits (long (at w 1)) r.is_eos) → set w 1 x ≡ shut_out w (state_of r)
now-closed w r x e f g = rw (e, f, g)

returns : tie.Need-returns-then-flag
returns c =
    let w = c.args.w.now in
    let l = long-by (at w 1) c.long-bits.ensures.0 (search (rules, c.long-arg-1.given)) in
    closed w c.args.next (sym (ap (λ (n : ℕ). flag_of (n / 4294967296)) l) ∙ sym c.flag.ensures ∙ c.if-flag.true)

returns-2 : tie.Need-returns-then-next
returns-2 c =
    let w = c.args.w.now in
    let l = long-by (at w 1) c.long-bits.ensures.0 (search (rules, c.long-arg-1.given)) in
    now-closed w c.args.next _ (sym (ap (λ (n : ℕ). flag_of (n / 4294967296)) l) ∙ sym c.flag.ensures ∙ c.if-flag.false) c.if-next.true (promised64 (c.to_i64.ensures ∙ ap (to_z w64) (c.shut.ensures ∙ ap (λ (n : ℕ). shut_bits n c.args.next.is_eos) l)) (search rules))

returns-3 : tie.Need-returns-else-next
returns-3 c =
    let w = c.args.w.now in
    let l = long-by (at w 1) c.long-bits.ensures.0 (search (rules, c.long-arg-1.given)) in
    left w c.args.next (sym (ap (λ (n : ℕ). flag_of (n / 4294967296)) l) ∙ sym c.flag.ensures ∙ c.if-flag.false) c.if-next.false

pub shut_out_spec : {M : Type 1} → statement M
shut_out_spec =
    tie.close (tie.spec (search rules) (search rules) (search rules) returns (search rules) (search rules) (search rules) returns-2 returns-3)
