-- Room for a header, then the frame, then the log's end.
use Rattle.std.proofs.Common.{◌≡◌, ℕ, Option, Some, drop, ℤ, sym, refl, ap, ◌∙◌, ap₂, arith, get_or-drop, drop-drop, to_z-of_z, w32, to_z, rules}
use Rattle.model.specs.Bytes.{i32}
use Rattle.model.specs.declared.Frame.TheVariants.{Data}
use Rattle.model.specs.FrameDescriptor.{frame_at, flags_at}
use Rattle.model.specs.FragmentAssembler.{session_at}
use Rattle.model.proofs.FrameLaws.{lies}
use Rattle.logbuffer.specs.Whole.{data_length}
use Rattle.logbuffer.specs.declared.fragment_assembler.FragmentHeader.{FragmentHeader}
use Rattle.logbuffer.proofs.Whole.{no-data}
use Rattle.logbuffer.proofs.Fragments.{fragment-none, fragment-short, fragment-past, fragment-so}
use Rattle.logbuffer.proofs.fragment_assembler.fragment_at.Statement.{statement}
use Rattle.logbuffer.proofs.fragment_assembler.fragment_at.Tie as tie

returns : tie.Need-returns-then-size-lt-HEADER_LENGTH
returns c = let a = c.args in fragment-short a.log.now a.at a.room (omega arith)

returns-2 : tie.Need-returns-then-at-size
returns-2 c = let a = c.args in fragment-short a.log.now a.at a.room (omega arith)

returns-3 : tie.Need-returns-in_default
returns-3 c =
    let a = c.args in
    let x = c.frame_inside in
    fragment-none a.log.now a.at a.room (ap data_length (sym x.ensures) ∙ no-data x.result c.in_default.in_default-own.keys2)

-- the frame that was found, and its length
module _ (k : tie.In-Data) where
  abbrev n : ℕ
  n = k.in-Data.n

  found : let a = k.args in frame_at (drop a.at a.log.now) a.room ≡ Data n
  found = sym k.frame_inside.ensures ∙ k.in-Data.is

  long : let a = k.args in data_length (frame_at (drop a.at a.log.now) a.room) ≡ n
  long = ap data_length found

returns-4 : tie.Need-returns-then-n-size
returns-4 c =
    let a = c.args in
    fragment-past a.log.now a.at a.room (omega (arith, long c.before))

-- by its parts
by : (n m f g : ℕ) (y z : ℤ) → n ≡ m → f ≡ g → y ≡ z → ◌≡◌ {A = FragmentHeader} (record { length = n; flags = f; session = y }) (record { length = m; flags = g; session = z })
by n m f g y z en ef ez =
    ap₂ {C = FragmentHeader} (λ (i j : ℕ). record { length = i; flags = j; session = y }) en ef ∙ ap {B = FragmentHeader} (λ (w : ℤ). record { length = m; flags = g; session = w }) ez

returns-5 : tie.Need-returns
returns-5 c =
    let k = c.before.before.before.before in
    let a = c.args in
    let e = long k in
    ap {B = Option FragmentHeader} Some
    (by (n k) _ _ (flags_at (drop a.at a.log.now)) _ (session_at (drop a.at a.log.now)) (sym e)
    (c.byte.ensures.0 ∙ sym (get_or-drop a.at a.log.now 5 0))
    (to_z-of_z {w = w32} {z = c.to_i32.result} (search rules) ∙ c.to_i32.ensures ∙ ap (to_z w32) c.word4.ensures.0 ∙ ap i32 (sym (drop-drop 12 a.at a.log.now))))
    ∙ fragment-so a.log.now a.at a.room (omega (arith, e, (lies (drop a.at a.log.now) a.room (Data (n k)) (found k) refl).header)) (omega (arith, e))

pub fragment_at_spec : {M : Type 1} → statement M
fragment_at_spec =
    tie.close
    (tie.spec
    returns
    returns-2
    (search rules)
    (search rules)
    returns-3
    (search rules)
    returns-4
    (search rules)
    (search rules)
    (search rules)
    (search rules)
    (search rules)
    returns-5)
