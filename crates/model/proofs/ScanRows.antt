-- The rows of the three scans at the place that their code reads: what rows 1 and 2 refuse, and that the scan follows where they pass.
use Rattle.std.specs.Prelude.{Result, Ok, Err, ⊤}
use mathlib.Core.Path.{◌≡◌, ap, ap₂, ◌∙◌}
use mathlib.Core.Bool.{Bool, true, ◌&&◌}
use mathlib.Core.List.{List}
use Prim.Native.Nat.{ℕ, ◌+◌, ◌-◌, ◌*◌, ◌%◌, min}
use lib.Dec.{eqb, ltb}
use lib.ListN.{length, drop}
use lib.IntN.{ℤ}
use Rattle.model.specs.declared.LogRecord.{LogRecord}
use Rattle.model.specs.declared.Place.{Place}
use Rattle.model.specs.declared.Error.{Error}
use Rattle.model.specs.declared.GapScanned.{GapScanned}
use Rattle.model.specs.FrameDescriptor.{frame_at, is_unsound, unsound_frame_at}
use Rattle.model.specs.LogBufferDescriptor.{sound, good_partition, good_offset, within_term, place_of, first_rows, frame_row}
use Rattle.model.specs.Bytes.{word}
use Rattle.model.specs.TermReader.{natural}
use Rattle.model.proofs.GapLaws.{gap_found}
use Rattle.model.proofs.Rows.{rows-refuse, rows_then}
use Rattle.model.specs.TermScan.{scan_verdict, scan_from, scan_judge, scan_by, scan_of, rebuild, gap_judge, gap_by, gap_of, Available, available_from, availability_judge, availability_by, availability_of}

-- where the place's term starts
abbrev base : Place → ℕ
base p = p.partition * p.read.term

-- whether the frame there is unsound, and its refusal
abbrev unsound_at : List ℕ → Place → Bool
unsound_at log p = is_unsound (frame_at (drop (base p + p.offset) log) (p.read.term - p.offset))

abbrev refusal_at : List ℕ → Place → Error
refusal_at log p = unsound_frame_at log (base p) p.offset

-- rows 1 and 2, with what row 1 asks
abbrev rows : List ℕ → Place → Bool → Result ⊤ Error
rows log p good = first_rows good (sound p.read (length log)) (Ok tt)

module _ {A : Type 0} (by : Result ⊤ Error → A) (log : List ℕ) (p : Place) (good first : Bool) (u : Error) where
  refused : {e : Error} → rows log p good ≡ Err e → by (Err e) ≡ by (scan_verdict good (sound p.read (length log)) first u)
  unfolding scan_verdict
  refused h = ap by (rows-refuse good (sound p.read (length log)) (frame_row first u) h)

  passed : rows log p good ≡ Ok tt → by (frame_row first u) ≡ by (scan_verdict good (sound p.read (length log)) first u)
  unfolding scan_verdict
  passed h = ap by (rows_then good (sound p.read (length log)) (frame_row first u) h)

module _ (r : LogRecord) (log : List ℕ) (partition offset : ℤ) (p : Place) (ep : p ≡ place_of r partition offset) where
  -- ---- scan

  module _ (limit : ℤ) (most : ℕ) (em : most ≡ natural limit) where
    abbrev good_scan : Bool
    good_scan = good_partition p.partition && (good_offset p.offset p.read && within_term most p.read)

    abbrev scanned : Place → ℕ → Result ⊤ Error → Result ℕ Error
    scanned x l = scan_by (scan_from x.read.term log (base x) x.read.term l true x.offset)

    abbrev scan_first : Place → ℕ → Bool
    scan_first x l = ltb x.offset l && unsound_at log x

    as-scan : scanned p most (scan_verdict good_scan (sound p.read (length log)) (scan_first p most) (refusal_at log p)) ≡ scan_of r log partition offset limit
    unfolding scan_of scan_judge
    as-scan =
        ap₂
        (λ (x : Place) (l : ℕ). scanned x l (scan_verdict (good_partition x.partition && (good_offset x.offset x.read && within_term l x.read)) (sound x.read (length log)) (scan_first x l) (refusal_at log x)))
        ep em

    pub scan-refused : {e : Error} → rows log p good_scan ≡ Err e → Err e ≡ scan_of r log partition offset limit
    scan-refused h = refused (scanned p most) log p good_scan (scan_first p most) (refusal_at log p) h ∙ as-scan

    pub scan-goes : rows log p good_scan ≡ Ok tt → scanned p most (frame_row (scan_first p most) (refusal_at log p)) ≡ scan_of r log partition offset limit
    scan-goes h = passed (scanned p most) log p good_scan (scan_first p most) (refusal_at log p) h ∙ as-scan

  -- ---- scan_for_gap

  module _ (id high : ℤ) (mark : ℕ) (em : mark ≡ word high) where
    abbrev good_gap : Bool
    good_gap = good_partition p.partition && (good_offset p.offset p.read && (eqb (mark % 32) 0 && within_term mark p.read))

    abbrev gapped : Place → ℕ → Result ⊤ Error → Result GapScanned Error
    gapped x m = gap_by (gap_found id log (base x) x.read.term m (rebuild x.read.term log (base x) x.read.term m x.offset))

    as-gap : gapped p mark (scan_verdict good_gap (sound p.read (length log)) (unsound_at log p) (refusal_at log p)) ≡ gap_of r log partition id offset high
    unfolding gap_of gap_judge
    as-gap =
        ap₂
        (λ (x : Place) (m : ℕ). gapped x m (scan_verdict (good_partition x.partition && (good_offset x.offset x.read && (eqb (m % 32) 0 && within_term m x.read))) (sound x.read (length log)) (unsound_at log x) (refusal_at log x)))
        ep em

    pub gap-refused : {e : Error} → rows log p good_gap ≡ Err e → Err e ≡ gap_of r log partition id offset high
    gap-refused h = refused (gapped p mark) log p good_gap (unsound_at log p) (refusal_at log p) h ∙ as-gap

    pub gap-goes : rows log p good_gap ≡ Ok tt → gapped p mark (frame_row (unsound_at log p) (refusal_at log p)) ≡ gap_of r log partition id offset high
    gap-goes h = passed (gapped p mark) log p good_gap (unsound_at log p) (refusal_at log p) h ∙ as-gap

  -- ---- scan_for_availability

  module _ (maximum : ℤ) (most : ℕ) (em : most ≡ min (natural maximum) (p.read.term - p.offset)) where
    abbrev good_availability : Bool
    good_availability = good_partition p.partition && good_offset p.offset p.read

    abbrev reached : Place → ℕ → Available
    reached x m = available_from x.read.term log (base x) x.read.term x.offset m 0 0

    as-available : availability_by (reached p most) (scan_verdict good_availability (sound p.read (length log)) (unsound_at log p) (refusal_at log p)) ≡ availability_of r log partition offset maximum
    unfolding availability_of availability_judge
    as-available =
        let f : Place → ℕ → (Result ℤ Error) = λ (x : Place) (m : ℕ). availability_by (reached x m) (scan_verdict (good_partition x.partition && good_offset x.offset x.read) (sound x.read (length log)) (unsound_at log x) (refusal_at log x)) in
        ap (f p) em ∙ ap (λ (x : Place). f x (min (natural maximum) (x.read.term - x.offset))) ep

    pub available-refused : {e : Error} → rows log p good_availability ≡ Err e → Err e ≡ availability_of r log partition offset maximum
    available-refused h = refused (availability_by (reached p most)) log p good_availability (unsound_at log p) (refusal_at log p) h ∙ as-available

    pub available-goes : rows log p good_availability ≡ Ok tt → availability_by (reached p most) (frame_row (unsound_at log p) (refusal_at log p)) ≡ availability_of r log partition offset maximum
    available-goes h = passed (availability_by (reached p most)) log p good_availability (unsound_at log p) (refusal_at log p) h ∙ as-available
