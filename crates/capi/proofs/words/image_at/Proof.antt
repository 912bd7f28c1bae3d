-- Field by field: each is what its word says.
use mathlib.Core.Path.{◌≡◌, ap, ◌∙◌}
use mathlib.Core.Bool.{Bool}
use Prim.Native.Nat.{ℕ, ◌/◌}
use lib.IntN.{ℤ}
use mir.Facts.{to_z-of_z}
use Rattle.model.specs.Bytes.{long}
use Rattle.image.specs.declared.Image.{Image}
use Rattle.logbuffer.proofs.Signed.{long-by}
use Rattle.capi.specs.Words.{low_of, flag_of, image_at}
use Rattle.capi.proofs.Halves.{low_by}
use borrow.Author.Rules.{rules}
use Rattle.capi.proofs.words.image_at.Statement.{statement}
use Rattle.capi.proofs.words.image_at.Tie as tie

same : (p w x y : ℤ) (a b : Bool) → x ≡ p → y ≡ low_of w → a ≡ flag_of (long w / 4294967296) → b ≡ flag_of (long w / 1099511627776)
    → ◌≡◌ {A = Image} (record { position = x; session_id = y; is_closed = a; is_eos = b }) (image_at p w)
same p w x y a b e f g h = cc

returns : tie.Need-returns
returns c =
    let s = c in
    let w = s.args.w in
    let l = long-by w c.long-bits.ensures.0 s.ranges.w in
    same s.args.position w _ _ _ _ (to_z-of_z s.ranges.position) (low_by w c.low.ensures s.ranges.w (search rules))
    (c.flag.ensures ∙ ap (λ (n : ℕ). flag_of (n / 4294967296)) l) (c.flag-2.ensures ∙ ap (λ (n : ℕ). flag_of (n / 1099511627776)) l)

pub image_at_spec : {M : Type 1} → statement M
image_at_spec =
    tie.close (tie.spec (search rules) (search rules) (search rules) (search rules) returns)
