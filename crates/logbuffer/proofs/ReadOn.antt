-- A read of a partition by the record's numbers: what its row 1 says, and the verdict by it.
use Rattle.std.specs.Prelude.{Ok, Err}
use Rattle.std.proofs.Common.{◌≡◌, ℕ, ◌+◌, ◌*◌, ◌/◌, ◌%◌, ◌≤◌, true, false, cond, eqb, leb, List, length, ℤ, eqb-true, leb-true}
use Rattle.model.specs.declared.Reading.{Reading}
use Rattle.model.specs.declared.Error.TheVariants.{IllegalArgument}
use Rattle.model.specs.FrameDescriptor.{unsound_frame_at}
use Rattle.model.specs.LogBufferDescriptor.{sound, Sound, good_partition}
use Rattle.model.specs.TermReader.{first_unsound, read_walk, read_from, frames_by, entries_by}
use Rattle.model.proofs.Both.{and-true}
use Rattle.model.proofs.Sound.{sound-true, term-32}
use Rattle.model.proofs.PlaceLaws.{part_in}
use Rattle.logbuffer.specs.Reads.{good_read_on, read_on_verdict}

pub record GoodReadOn (v : Reading) (n k at limit slots : ℕ) : Type 0 where
  pub so : Sound v n
  pub inside : k * v.term + v.term ≤ n
  pub term-32 : v.term % 32 ≡ 0
  pub at-32 : at % 32 ≡ 0
  pub room : limit ≤ slots / 2

pub good-read-on : (v : Reading) (n k at limit slots : ℕ) → good_read_on v n k at limit slots ≡ true → GoodReadOn v n k at limit slots
good-read-on v n k at limit slots h =
    let p0 = and-true (sound v n) _ h in
    let p1 = and-true (good_partition k) _ p0.1 in
    let p2 = and-true (eqb (at % 32) 0) _ p1.1 in
    let p3 = and-true (leb slots 2147483647) _ p2.1 in
    let s = sound-true v n p0.0 in
    record { so = s; inside = part_in v n k s (leb-true _ _ p1.0); term-32 = term-32 v n s; at-32 = eqb-true _ _ p2.0; room = leb-true _ _ p3.1 }

module _ (v : Reading) (log : List ℕ) (k at limit : ℕ) (slots : List ℤ) where
  pub on-refused : good_read_on v (length log) k at limit (length slots) ≡ false
      → (Err IllegalArgument ≡ read_from at (frames_by (read_walk v log k at limit) (read_on_verdict v log k at limit (length slots))))
      × (slots ≡ entries_by slots (read_walk v log k at limit) (read_on_verdict v log k at limit (length slots)))
  unfolding read_on_verdict
  on-refused h = (rw h, rw h)

  pub on-walked : good_read_on v (length log) k at limit (length slots) ≡ true
      → cond (first_unsound log (k * v.term) v.term v.term at limit) (Err (unsound_frame_at log (k * v.term) at)) (Ok tt) ≡ read_on_verdict v log k at limit (length slots)
  unfolding read_on_verdict
  on-walked h = rw h
