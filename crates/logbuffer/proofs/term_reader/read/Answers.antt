-- Rows 1 and 2 are judged at the place that is read; then `read_frames` walks, and its answer is opened.
use Rattle.std.specs.Prelude.{Ok, Err, ℤ, List}
use Rattle.std.proofs.Common.{◌≡◌, ℕ, ◌*◌, true, [], length, sym, refl, ap, ◌∙◌, arith, rules}
use Rattle.model.specs.declared.Place.{Place}
use Rattle.model.specs.declared.LogRecord.{LogRecord}
use Rattle.model.specs.declared.FramesRead.{FramesRead}
use Rattle.model.specs.LogBufferDescriptor.{sound, place_of, first_rows}
use Rattle.model.specs.TermReader.{natural, good_walk, frames_refusal, read_from, read_of, read_entries, frames_of, frames_entries}
use Rattle.model.proofs.Rows.{rows_pass}
use Rattle.model.proofs.PlaceLaws.{Started}
use Rattle.model.proofs.ReadLaws.{good_read, read-placed, read-refused, read_goes, read_walk_lem, frames-moved}
use Rattle.logbuffer.proofs.Passing.{rows-of}
use Rattle.logbuffer.proofs.term_reader.read.Goals as goal

place : (p : Place) (n most slots : ℕ) → first_rows (good_read p most slots) (sound p.read n) (Ok tt) ≡ Ok tt → Started p.read n p.partition p.offset
place p n most slots h = let g = rows_pass (good_read p most slots) (sound p.read n) h in read-placed p n most slots g.0 g.1

walks : (p : Place) (n most slots : ℕ) → first_rows (good_read p most slots) (sound p.read n) (Ok tt) ≡ Ok tt
    → good_walk n (p.partition * p.read.term) p.read.term p.read.term p.offset most slots ≡ true
walks p n most slots h = let g = rows_pass (good_read p most slots) (sound p.read n) h in read_walk_lem p n most slots g.0 g.1

-- the walk's answer
goes : (r : LogRecord) (log : List ℕ) (partition offset limit : ℤ) (slots after : List ℤ) (p : Place) (most : ℕ) (frames : FramesRead) → p ≡ place_of r partition offset → most ≡ natural limit
    → first_rows (good_read p most (length slots)) (sound p.read (length log)) (Ok tt) ≡ Ok tt
    → frames ≡ frames_of log (p.partition * p.read.term) p.read.term p.read.term p.offset most [] slots
    → after ≡ frames_entries log (p.partition * p.read.term) p.read.term p.read.term p.offset most [] slots
    → (read_from p.offset frames ≡ read_of r log partition offset limit slots) × (after ≡ read_entries r log partition offset limit slots)
goes r log partition offset limit slots after p most frames ep em h ef ea =
    let e = read_goes r log partition offset limit slots p most ep em h in (ap (read_from p.offset) ef ∙ e.0, ea ∙ e.1)

pub returns-in_err-first_rows-clause-value : goal.returns-in_err-first_rows-clause-value
returns-in_err-first_rows-clause-value c =
    let a = c.args in
    let p = c.place-p.result in
    let e : c.from_residual.result ≡ Err c.in_err-first_rows.field-0.0 = search rules in
    e
    ∙ (read-refused a.rec a.log.now a.partition a.offset a.fragment_limit a.entries.now p c.natural-most.result (c.place-p.ensures.0 ∙ search rules) (c.natural-most.ensures.0 ∙ search rules)
    (rows-of p.read (length a.log.now) _ _ _ _ c.good_read-good.ensures c.first_rows.ensures c.in_err-first_rows.was)).0

pub returns-in_err-first_rows-clause-entries_after : goal.returns-in_err-first_rows-clause-entries_after
returns-in_err-first_rows-clause-entries_after c =
    let a = c.args in
    let p = c.place-p.result in
    (read-refused a.rec a.log.now a.partition a.offset a.fragment_limit a.entries.now p c.natural-most.result (c.place-p.ensures.0 ∙ search rules) (c.natural-most.ensures.0 ∙ search rules)
    (rows-of p.read (length a.log.now) _ _ _ _ c.good_read-good.ensures c.first_rows.ensures c.in_err-first_rows.was)).1

pub overflow_mul-base : goal.overflow_mul-base
overflow_mul-base c =
    let a = c.args in
    let p = c.place-p.result in
    let n = length a.log.now in
    let f = place p n c.natural-most.result (length a.entries.now) (rows-of p.read n _ _ _ _ c.good_read-good.ensures c.first_rows.ensures c.in_ok-first_rows.was) in
    record { fits = omega (arith, f.inside, c.well_formed) }

pub returns-in_default-clause-value : goal.returns-in_default-clause-value
returns-in_default-clause-value c =
    let a = c.args in
    let p = c.place-p.result in
    let told = c.in_default.is in
    let h = rows-of p.read (length a.log.now) (good_read p c.natural-most.result (length a.entries.now)) _ _ (Ok tt) c.good_read-good.ensures c.first_rows.ensures c.in_ok-first_rows.was in
    let g = goes a.rec a.log.now a.partition a.offset a.fragment_limit a.entries.now c.read_frames-frames.new.entries p c.natural-most.result c.read_frames-frames.result
    (c.place-p.ensures.0 ∙ search rules) (c.natural-most.ensures.0 ∙ search rules) h c.read_frames-frames.ensures.value c.read_frames-frames.ensures.entries_after in
    ap Err (c.refusal.ensures ∙ ap frames_refusal told) ∙ ap (read_from p.offset) (sym told) ∙ g.0

pub returns-in_default-clause-entries_after : goal.returns-in_default-clause-entries_after
returns-in_default-clause-entries_after c =
    let a = c.args in
    let p = c.place-p.result in
    let h = rows-of p.read (length a.log.now) (good_read p c.natural-most.result (length a.entries.now)) _ _ (Ok tt) c.good_read-good.ensures c.first_rows.ensures c.in_ok-first_rows.was in
    (goes a.rec a.log.now a.partition a.offset a.fragment_limit a.entries.now c.read_frames-frames.new.entries p c.natural-most.result c.read_frames-frames.result
    (c.place-p.ensures.0 ∙ search rules) (c.natural-most.ensures.0 ∙ search rules) h c.read_frames-frames.ensures.value c.read_frames-frames.ensures.entries_after).1

pub overflow_add-result : goal.overflow_add-result
overflow_add-result c =
    let a = c.args in
    let p = c.place-p.result in
    let n = length a.log.now in
    let slots = length a.entries.now in
    let h = rows-of p.read n (good_read p c.natural-most.result slots) _ _ (Ok tt) c.good_read-good.ensures c.first_rows.ensures c.in_ok-first_rows.was in
    let m = frames-moved _ _ _ _ _ _ [] _ (walks p n c.natural-most.result slots h) refl _ (sym c.read_frames-frames.ensures.value ∙ c.in-Walked.is) in
    record { fits = omega (arith, m, place p n c.natural-most.result slots h) }

pub returns-clause-value : goal.returns-clause-value
returns-clause-value c =
    let a = c.args in
    let p = c.place-p.result in
    let h = rows-of p.read (length a.log.now) (good_read p c.natural-most.result (length a.entries.now)) _ _ (Ok tt) c.good_read-good.ensures c.first_rows.ensures c.in_ok-first_rows.was in
    let g = goes a.rec a.log.now a.partition a.offset a.fragment_limit a.entries.now c.read_frames-frames.new.entries p c.natural-most.result c.read_frames-frames.result
    (c.place-p.ensures.0 ∙ search rules) (c.natural-most.ensures.0 ∙ search rules) h c.read_frames-frames.ensures.value c.read_frames-frames.ensures.entries_after in
    ap (read_from p.offset) (sym c.in-Walked.is) ∙ g.0

pub returns-clause-entries_after : goal.returns-clause-entries_after
returns-clause-entries_after c =
    let a = c.args in
    let p = c.place-p.result in
    let h = rows-of p.read (length a.log.now) (good_read p c.natural-most.result (length a.entries.now)) _ _ (Ok tt) c.good_read-good.ensures c.first_rows.ensures c.in_ok-first_rows.was in
    (goes a.rec a.log.now a.partition a.offset a.fragment_limit a.entries.now c.read_frames-frames.new.entries p c.natural-most.result c.read_frames-frames.result
    (c.place-p.ensures.0 ∙ search rules) (c.natural-most.ensures.0 ∙ search rules) h c.read_frames-frames.ensures.value c.read_frames-frames.ensures.entries_after).1
