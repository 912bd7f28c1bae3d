-- Refused, or the part between the two places cleared, and the partition marked.
use Rattle.std.specs.Prelude.{Result, Ok, ⊤}
use Rattle.model.specs.declared.Error.{Error}
use mathlib.Core.Path.{◌≡◌, sym, ap, ◌∙◌}
use mathlib.Core.Bool.{true}
use Prim.Native.Nat.{◌*◌, ◌≤◌}
use native.Mathlib.Nat.{mul-le-mul}
use native.Mathlib.Omega.{arith}
use lib.ListN.{length}
use mir.Facts.{to_z-of_z}
use borrow.Author.Rules.{rules}
use Rattle.model.specs.declared.LogRecord.{LogRecord}
use Rattle.model.specs.Bytes.{word}
use Rattle.model.specs.LogBufferDescriptor.{Sound, with_mark}
use Rattle.model.specs.Publication.{reply_by, cleared_by, clear_of, clear_bytes}
use Rattle.model.proofs.Sound.{sound-true}
use Rattle.publication.proofs.ClearLaws.{clear-passed, clear-by, cleared-is}
use Rattle.publication.proofs.clearing.clear_partition.Statement.{statement}
use Rattle.publication.proofs.clearing.clear_partition.Tie as tie

module _ (c : tie.After-before_clear) where
  abbrev start : tie.Start
  start = c.before.before.before.before

  -- reply and bytes by the verdict
  law : (x : Result ⊤ Error) → c.before_clear.result ≡ x
      → (reply_by start.args.rec (with_mark start.args.rec c.word-k.result true) x ≡ clear_of start.args.rec start.args.log.now start.args.partition)
      × (cleared_by c.read_active-v.result start.args.log.now c.word-k.result x ≡ clear_bytes start.args.rec start.args.log.now start.args.partition)
  law x h =
      clear-by start.args.rec start.args.log.now start.args.partition c.read_active-v.result c.word-k.result x c.read_active-v.ensures
      (c.word-k.ensures.0 ∙ ap word (to_z-of_z start.ranges.partition)) (sym h ∙ c.before_clear.ensures)

  low : c.before_clear.result ≡ Ok tt → c.word-k.result ≤ 2
  low h = (clear-passed _ _ _ (sym c.before_clear.ensures ∙ h)).0

  so : c.before_clear.result ≡ Ok tt → Sound c.read_active-v.result (length start.args.log.now)
  so h = sound-true _ _ (clear-passed _ _ _ (sym c.before_clear.ensures ∙ h)).1

  begins : (h : c.before_clear.result ≡ Ok tt) → c.word-k.result * c.read_active-v.result.term ≤ 2 * c.read_active-v.result.term
  begins h = mul-le-mul (low h) (omega arith)

mul-from : tie.Need-overflow_mul-from
mul-from c = let d = c in let h = c.in-Ok.is in omega (arith, begins c.before h, (so c.before h).term-high)

add-to : tie.Need-overflow_add-to
add-to c = let d = c in let h = c.in-Ok.is in omega (arith, begins c.before h, (so c.before h).term-high)

part-clear-end : tie.Need-slice_bounds-clear-end
part-clear-end c = let d = c in let h = c.in-Ok.is in omega (arith, begins c.before h, (so c.before h).three, (so c.before h).term-low)

marked-requires : tie.Need-marked-requires
marked-requires c κs = let h = low c.before.before.before.before.before c.in-Ok.is in omega arith

returns : tie.Need-returns-in-Err
returns c = law c.before _ c.in-Err.is

returns-2 : tie.Need-returns-in-Ok
returns-2 c =
    let d = c in
    let h = c.in-Ok.is in
    let w = law c.before.before.before.before.before.before (Ok tt) h in (
      ap (λ (x : LogRecord). record { next = x; answer = Ok tt }) c.marked.ensures ∙ w.0,
      cleared-is (start c.before.before.before.before.before.before).args.log.now c.clear.new.bytes _ _ d.read_active-v.result.term (omega arith) (omega (arith, begins c.before.before.before.before.before.before h, (so c.before.before.before.before.before.before h).three, (so c.before.before.before.before.before.before h).term-low))
          c.clear.ensures ∙ w.1,
    )

pub clear_partition_spec : {M : Type 1} → statement M
clear_partition_spec =
    tie.close
    (tie.spec
    (search rules)
    (search rules)
    (search rules)
    (search rules)
    (search rules)
    mul-from
    add-to
    (search rules)
    (search rules)
    part-clear-end
    (search rules)
    marked-requires
    returns
    (search rules)
    returns-2)
