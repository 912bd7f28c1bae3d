-- The scan's answer is opened, and the block is where it went.
use Rattle.std.specs.Prelude.{Result, Ok, Err}
use mathlib.Core.Path.{◌≡◌, sym, ap, ap₂, ◌∙◌}
use mathlib.Core.Bool.{Bool, false}
use native.Mathlib.Omega.{arith}
use Prim.Native.Nat.{ℕ, ◌+◌, ◌-◌, ◌%◌, ◌≤◌}
use lib.ListN.{length}
use lib.IntN.{ℤ, pos}
use mir.Syntax.{w64, w32}
use mir.Val.{SFits, to_z, of_z}
use mir.Facts.{to_z-of_z, to_z_pos}
use Rattle.model.specs.TermScan.{scan_refusal}
use Rattle.model.specs.declared.Block.{Block}
use Rattle.model.specs.declared.ReadVerdict.{ReadVerdict}
use Rattle.model.specs.declared.ReadVerdict.TheVariants.{Read}
use Rattle.model.specs.declared.Error.{Error}
use Rattle.model.specs.Bytes.{long}
use Rattle.model.specs.Image.{refuse_if, unsound_at, unsound_frame_of, block_end, block_length}
use Rattle.logbuffer.proofs.Signed.{long-by}
use Rattle.image.specs.declared.block.BlockTo.{BlockTo}
use Rattle.image.specs.Images.{state_of, block_to, block_said}
use Rattle.image.proofs.Places.{At, at_place, term-length}
use Rattle.image.proofs.Blocks.{block-unsound, block-sound, block_size, block_in, block-empty, block-some}
use borrow.Author.Rules.{rules}
use Rattle.image.proofs.block.block_at.Statement.{statement}
use Rattle.image.proofs.block.block_at.Tie as tie

p-is : (c : tie.After-long-p) → c.long-p.result ≡ long c.args.image.position
p-is c =
    let z = c.args.image.position in
    let f : SFits w64 z = search rules in
    long-by z c.long-p.ensures.0 f

p-32 : (c : tie.After-long-p) → c.long-p.result % 32 ≡ 0
p-32 c = ap (λ (x : ℕ). x % 32) (p-is c) ∙ c.requires.1.1.1.0

place : (c : tie.After-long-p) → At c.args.v (length c.args.log.now) c.long-p.result
place c = at_place _ _ _ c.requires.1.0 (p-32 c)

p-high : (c : tie.After-long-p) → c.long-p.result ≤ 2305843009213693952
p-high c = omega (arith, p-is c, c.requires.1.1.0, (place c).term-high)

-- the offset that the scan came to
stop-in : (c : tie.In-Ok) → (c.long-p.result % c.args.v.term ≤ c.in-Ok.stop) × (c.in-Ok.stop ≤ c.args.v.term)
stop-in c =
    let a = c.args in
    block_in a.v a.log.now a.limit _ _ _ (p-is c.before.before.before) c.end_offset-end.ensures _ c.scan_at-scanned.ensures _ (omega (arith, (place c.before.before.before).below)) c.in-Ok.is

size_is : (c : tie.In-Ok) → c.in-Ok.stop - c.long-p.result % c.args.v.term ≡ block_length c.args.v c.args.log.now (long c.args.image.position) c.args.limit
size_is c = let a = c.args in block_size a.v a.log.now a.limit _ _ _ (p-is c.before.before.before) c.end_offset-end.ensures _ c.scan_at-scanned.ensures _ c.in-Ok.is

-- the position after the block
abbrev to : (c : tie.In-Ok) → ℕ
to c = c.long-p.result + (c.in-Ok.stop - c.long-p.result % c.args.v.term)

to_high : (c : tie.In-Ok) → to c ≤ 4611686018427387904
to_high c = omega (arith, p-high c.before.before.before, (stop-in c).1, (place c.before.before.before).term-high)

-- the same by the offset as the code has it
size-at : (c : tie.After-offset_of-at) → c.in-Ok.stop - c.offset_of-at.result ≡ block_length c.args.v c.args.log.now (long c.args.image.position) c.args.limit
size-at c = ap (λ (x : ℕ). c.in-Ok.stop - x) c.offset_of-at.ensures ∙ size_is c.before

position-is : (c : tie.After-offset_of-at) → to_z w64 (c.long-p.result + (c.in-Ok.stop - c.offset_of-at.result)) ≡ pos (long c.args.image.position + block_length c.args.v c.args.log.now (long c.args.image.position) c.args.limit)
position-is c = to_z_pos w64 (omega (arith, to_high c.before, c.offset_of-at.ensures)) ∙ ap₂ (λ (x y : ℕ). pos (x + y)) (p-is c.before.before.before.before) (size-at c)

abbrev said : (s : tie.Start) → Result ReadVerdict Error → BlockTo
said s x = block_to (block_said s.args.v s.args.log.now (state_of s.args.image) s.args.limit x)

abbrev judged : (s : tie.Start) → Bool → Result ReadVerdict Error
judged s b = refuse_if b (unsound_frame_of s.args.v s.args.log.now (long s.args.image.position)) (Ok Read)

sound-is : (c : tie.In-Ok) → judged c.before.before.before.before.before.before false ≡ judged c.before.before.before.before.before.before (unsound_at c.args.v c.args.log.now (long c.args.image.position) (block_end c.args.v (long c.args.image.position) c.args.limit) 1)
sound-is c = let a = c.args in ap (judged c.before.before.before.before.before.before) (sym (block-sound a.v a.log.now a.limit _ _ _ (p-is c.before.before.before) c.end_offset-end.ensures _ c.scan_at-scanned.ensures _ c.in-Ok.is))

add-end-offset : tie.Need-overflow_add-p
add-end-offset c = omega (arith, p-high c, c.requires.1.1.1.1)

end-offset-requires : tie.Need-end_offset-end-requires
end-offset-requires c κs = term-length _ _ c.requires.1.0

scan-at-requires : tie.Need-scan_at-scanned-requires
scan-at-requires c κs = let s = c in (s.requires.0, (s.requires.1.0, (p-32 c.before, omega (arith, c.end_offset-end.ensures))))

returns : tie.Need-returns-in_default
returns c =
    let a = c.args in
    let s = c.before.before.before.before.before.before.before.before in
    let f : SFits w64 a.image.position = search rules in
    let u = block-unsound a.v a.log.now a.limit _ _ _ (p-is c.before.before.before.before.before) c.end_offset-end.ensures _ c.scan_at-scanned.ensures _ c.in_default.is in
    ap {B = BlockTo} (λ (z : ℤ). record { position = z; answer = Err c.refusal.result }) (to_z-of_z f)
    ∙ ap {B = BlockTo} (λ (y : Error). record { position = a.image.position; answer = Err y }) (c.refusal.ensures ∙ ap scan_refusal c.in_default.is ∙ u.1) ∙ ap (λ (b : Bool). said s (judged s b)) (sym u.0)

offset-of-requires : tie.Need-offset_of-at-requires
offset-of-requires c κs = term-length _ _ c.requires.1.0

sub-n : tie.Need-overflow_sub-n
sub-n c = omega (arith, c.offset_of-at.ensures, (stop-in c.before).0)

add-position : tie.Need-overflow_add-position
add-position c = record { fits = omega (arith, c.offset_of-at.ensures, to_high c.before) }

cast-position : tie.Need-overflow_cast-position
cast-position c = record { sfits = omega (arith, c.offset_of-at.ensures, to_high c.before) }

returns-2 : tie.Need-returns-then-n-eq0
returns-2 c =
    let s = c in
    let made : ℤ → Result Block Error → BlockTo = λ (z : ℤ) (b : Result Block Error). record { position = z; answer = b } in
    ap₂ made (position-is c.before) (block-empty s.args.v s.args.log.now (state_of s.args.image) s.args.limit _ (size-at c.before) c.if-n-eq0.true) ∙ ap (said c.before.before.before.before.before.before.before.before) (sound-is c.before.before)

term-id-at-requires : tie.Need-term_id_at-id-requires
term-id-at-requires c κs = let s = c in (s.requires.0, (s.requires.1.0, p-32 c.before.before.before.before.before))

returns-3 : tie.Need-returns
returns-3 c =
    let s = c in
    let q = c in
    let made : ℤ → Result Block Error → BlockTo = λ (z : ℤ) (b : Result Block Error). record { position = z; answer = b } in
    let n = q.in-Ok.stop - q.offset_of-at.result in
    let told : ℕ → ℤ → ℤ → (Result Block Error) = λ (x : ℕ) (y z : ℤ). Ok (record { offset = x; length = n; session_id = y; term_id = z }) in
    let at = q.long-p.result % s.args.v.term in
    let f : SFits w32 s.args.image.session_id = search rules in
    let g : SFits w32 c.term_id_at-id.result = search rules in
    ap₂ made (position-is c.before.before.before)
    (ap (λ (x : ℕ). told x (to_z w32 (of_z w32 s.args.image.session_id)) (to_z w32 (of_z w32 c.term_id_at-id.result))) q.offset_of-at.ensures ∙ ap₂ (told at) (to_z-of_z f) (to_z-of_z g) ∙ block-some s.args.v s.args.log.now (state_of s.args.image) s.args.limit _ (size-at c.before.before.before) _ _ c.if-n-eq0.false (p-is c.before.before.before.before.before.before.before) c.term_id_at-id.ensures)
    ∙ ap (said c.before.before.before.before.before.before.before.before.before.before) (sound-is c.before.before.before.before)

pub block_at_spec : {M : Type 1} → statement M
block_at_spec =
    tie.close
    (tie.spec
    (search rules)
    add-end-offset
    end-offset-requires
    scan-at-requires
    (search rules)
    (search rules)
    (search rules)
    returns
    offset-of-requires
    sub-n
    add-position
    cast-position
    returns-2
    term-id-at-requires
    returns-3)
