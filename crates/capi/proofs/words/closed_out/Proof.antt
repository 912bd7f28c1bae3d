-- By what was and what is closed.
use mathlib.Core.Path.{◌≡◌, refl, sym, ap, ◌∙◌}
use mathlib.Core.Bool.{Bool, true, false, not}
use Prim.Native.Nat.{ℕ, ◌+◌, ◌%◌, ◌<◌}
use mathlib.Core.List.{List}
use native.Mathlib.Omega.{arith}
use borrow.Author.Tests.{eqb-true}
use lib.Dec.{eqb}
use lib.IntN.{ℤ}
use lib.ListN.{set}
use mir.Syntax.{w64}
use mir.Val.{to_z}
use Rattle.model.specs.Bytes.{long}
use Rattle.model.specs.declared.LogRecord.{LogRecord}
use Rattle.logbuffer.proofs.Signed.{long-by}
use Rattle.capi.specs.Words.{at, flag_of, closed_out}
use Rattle.capi.proofs.Promised.{promised64}
use borrow.Author.Rules.{rules}
use Rattle.capi.proofs.words.closed_out.Statement.{statement}
use Rattle.capi.proofs.words.closed_out.Tie as tie

closed : (w : List ℤ) (r : LogRecord) → flag_of (long (at w 9)) ≡ true → w ≡ closed_out w r
closed w r e = rw (e)

left : (w : List ℤ) (r : LogRecord) → flag_of (long (at w 9)) ≡ false → r.is_closed ≡ false → w ≡ closed_out w r
left w r e f = rw (e, f)

now-closed : (w : List ℤ) (r : LogRecord) (x : ℤ) → flag_of (long (at w 9)) ≡ false → r.is_closed ≡ true → x ≡ to_z w64 (long (at w 9) + 1) → set w 9 x ≡ closed_out w r
now-closed w r x e f g = rw (e, f, g)

returns : tie.Need-returns-then-flag
returns c =
    let w = c.args.w.now in
    let l = long-by (at w 9) c.long-bits.ensures.0 (search (rules, c.long-arg-1.given)) in
    closed w c.args.next (sym (ap flag_of l) ∙ sym c.flag.ensures ∙ c.if-flag.true)

returns-2 : tie.Need-returns-then-next
returns-2 c =
    let w = c.args.w.now in
    let l = long-by (at w 9) c.long-bits.ensures.0 (search (rules, c.long-arg-1.given)) in
    now-closed w c.args.next _ (sym (ap flag_of l) ∙ sym c.flag.ensures ∙ c.if-flag.false) c.if-next.true (promised64 (c.to_i64.ensures ∙ ap (λ (n : ℕ). to_z w64 (n + 1)) l) (search rules))

returns-3 : tie.Need-returns-else-next
returns-3 c =
    let w = c.args.w.now in
    let l = long-by (at w 9) c.long-bits.ensures.0 (search (rules, c.long-arg-1.given)) in
    left w c.args.next (sym (ap flag_of l) ∙ sym c.flag.ensures ∙ c.if-flag.false) c.if-next.false

even : (n : ℕ) → n < 18446744073709551616 → flag_of n ≡ false → n + 1 < 18446744073709551616
even n h e = go (eqb (n % 256) 0) refl e
  where
    go : (b : Bool) → eqb (n % 256) 0 ≡ b → not b ≡ false → n + 1 < 18446744073709551616
    go true q t = omega (arith, eqb-true (n % 256) 0 q)
    go false q t = absurd (let z : ◌≡◌ {A = ℕ} 0 1 = cc in omega arith)

add-to-i64 : tie.Need-overflow_add-bits
add-to-i64 c = record { fits = even c.long-bits.result c.long-bits.ensures.1 (sym c.flag.ensures ∙ c.if-flag.false) }

pub closed_out_spec : {M : Type 1} → statement M
closed_out_spec =
    tie.close (tie.spec (search rules) (search rules) (search rules) returns add-to-i64 (search rules) (search rules) returns-2 returns-3)
