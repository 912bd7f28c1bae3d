-- Field by field: each is what its word says.
use mathlib.Core.Path.{◌≡◌, ap, ◌∙◌}
use mathlib.Core.Bool.{Bool}
use mathlib.Core.List.{List, [], ◌∷◌}
use Prim.Native.Nat.{ℕ, ◌/◌}
use lib.IntN.{ℤ}
use mir.Syntax.{w64}
use mir.Facts.{to_z-of_z}
use Rattle.model.specs.Bytes.{long}
use Rattle.model.specs.declared.LogRecord.{LogRecord}
use Rattle.logbuffer.proofs.Signed.{long-by}
use Rattle.capi.specs.Words.{at, low_of, high_of, flag_of, bit_of, record_in}
use Rattle.capi.proofs.Halves.{low_by, high-by}
use borrow.Author.Rules.{rules}
use Rattle.capi.proofs.words.record_in.Statement.{statement}
use Rattle.capi.proofs.words.record_in.Tie as tie

same : (w : List ℤ) (t0 t1 t2 a b c d e f g l n o u i v : ℤ) (z x y k : Bool) → t0 ≡ at w 0 → t1 ≡ at w 1 → t2 ≡ at w 2 → a ≡ low_of (at w 3) → b ≡ high_of (at w 3)
    → c ≡ low_of (at w 4) → d ≡ high_of (at w 4) → e ≡ low_of (at w 5) → f ≡ high_of (at w 5) → g ≡ low_of (at w 6) → l ≡ at w 7 → n ≡ at w 8 → z ≡ flag_of (long (at w 9))
    → o ≡ at w 10 → x ≡ bit_of (long (at w 11)) → y ≡ bit_of (long (at w 11) / 2) → k ≡ bit_of (long (at w 11) / 4) → u ≡ low_of (at w 12) → i ≡ at w 13 → v ≡ high_of (at w 12)
    → ◌≡◌ {A = LogRecord} (record { tails = t0 ∷ t1 ∷ t2 ∷ []; active_term_count = a; initial_term_id = b; term_length = c; mtu_length = d; session_id = e; stream_id = f; is_connected = g; publication_limit = l; end_of_stream_position = n; is_closed = z; slowest_position = o; is_cleared = x ∷ y ∷ k ∷ []; active_transport_count = u; correlation_id = i; page_size = v }) (record_in w)
same w t0 t1 t2 a b c d e f g l n o u i v z x y k h1 h2 h3 h4 h5 h6 h7 h8 h9 h10 h11 h12 h13 h14 h15 h16 h17 h18 h19 h20 = cc

returns : tie.Need-returns
returns c =
    let w = c.args.w.now in
    let marks = long-by (at w 11) c.long-marks.ensures.0 (search (rules, c.long-arg-1.given)) in
    same w _ _ _ _ _ _ _ _ _ _ _ _ _ _ _ _ _ _ _ _ (search rules) (search rules) (search rules)
    (low_by (at w 3) c.low.ensures (search rules) (search rules))
    (high-by (at w 3) c.high.ensures (search rules) (search rules))
    (low_by (at w 4) c.low-2.ensures (search rules) (search rules))
    (high-by (at w 4) c.high-2.ensures (search rules) (search rules))
    (low_by (at w 5) c.low-3.ensures (search rules) (search rules))
    (high-by (at w 5) c.high-3.ensures (search rules) (search rules))
    (low_by (at w 6) c.low-4.ensures (search rules) (search rules))
    (to_z-of_z {w = w64} (search (rules, c.result-4-1.given)))
    (to_z-of_z {w = w64} (search (rules, c.result-5-1.given)))
    (c.flag.ensures ∙ ap flag_of (long-by (at w 9) c.long.ensures.0 (search (rules, c.long-arg-2-1.given))))
    (to_z-of_z {w = w64} (search (rules, c.result-6-1.given)))
    (c.bit.ensures ∙ ap bit_of marks)
    (c.bit-2.ensures ∙ ap (λ (n : ℕ). bit_of (n / 2)) marks)
    (c.bit-3.ensures ∙ ap (λ (n : ℕ). bit_of (n / 4)) marks)
    (low_by (at w 12) c.low-5.ensures (search rules) (search rules))
    (to_z-of_z {w = w64} (search (rules, c.result-7-1.given)))
    (high-by (at w 12) c.high-4.ensures (search rules) (search rules))

pub record_in_spec : {M : Type 1} → statement M
record_in_spec =
    tie.close
    (tie.spec
    (search rules) (search rules) (search rules) (search rules) (search rules) (search rules) (search rules) (search rules) (search rules) (search rules) (search rules)
    (search rules) (search rules) (search rules) (search rules) (search rules) (search rules) (search rules) (search rules) (search rules) (search rules) (search rules)
    (search rules) (search rules) (search rules) (search rules) (search rules) (search rules) (search rules) (search rules) (search rules) (search rules) (search rules) returns)
