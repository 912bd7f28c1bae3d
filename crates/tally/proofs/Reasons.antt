-- Why a walk ended, and the refusal of its first frame, by what was read at the place.
use Rattle.std.specs.Prelude.{Ok, Err}
use Rattle.std.proofs.Common.{◌≡◌, ℕ, ◌*◌, ◌%◌, ◌<◌, ◌≤◌, Bool, false, List, refl, ap, le-ltb, lt-ltb, eq-eqb, ne_eqb}
use Rattle.model.specs.declared.FrameLength.{FrameLength}
use Rattle.model.specs.declared.Frame.{Frame}
use Rattle.model.specs.declared.Frame.TheVariants.{Absent, Unsound, Padding, Data}
use Rattle.model.specs.FrameDescriptor.{length_at, is_unsound, unsound_frame}
use Rattle.model.specs.LogBufferDescriptor.{partition_of}
use Rattle.model.proofs.FrameLaws.{unsound-refusal}
use Rattle.tally.specs.declared.step.Stop.TheVariants.{Reached}
use Rattle.tally.specs.Walk.{Stream, bytes_at, frame_in, seen, own_id, why_by, why}
use Rattle.tally.specs.Span.{first_frame}

-- a frame by a match that has left the unsound ones behind
pub not-unsound : (x : Frame) → ((n : ℕ) → x ≡ Unsound n → ⊥) → is_unsound x ≡ false
not-unsound Absent h = refl
not-unsound (Unsound n) h = absurd (h n refl)
not-unsound (Padding n) h = refl
not-unsound (Data n) h = refl

module _ (s : Stream) (to p : ℕ) where
  pub why-reached : p ≡ to → Reached ≡ why s to p
  unfolding why
  why-reached e = rw (eq-eqb p to e)

  pub why-by : (l : FrameLength) (u o : Bool) → (p ≡ to → ⊥) → length_at (bytes_at s p) ≡ l → is_unsound (seen s p) ≡ u → own_id s p ≡ o → why_by l u o ≡ why s to p
  unfolding why
  why-by l u o n el eu eo = rw (ne_eqb p to n, el, eu, eo)

module _ (term : ℕ) (log : List ℕ) (from to : ℕ) where
  pub first-none : to ≤ from → Ok tt ≡ first_frame term log from to
  unfolding first_frame
  first-none h = rw (le-ltb from to h)

  pub first-sound : from < to → is_unsound (frame_in term log from) ≡ false → Ok tt ≡ first_frame term log from to
  unfolding first_frame
  first-sound h e = rw (lt-ltb from to h, e)

  pub first-unsound : (n : ℕ) → from < to → frame_in term log from ≡ Unsound n → Err (unsound_frame n (from % term)) ≡ first_frame term log from to
  unfolding first_frame frame_in
  first-unsound n h e = rw (lt-ltb from to h, e) (ap Err (unsound-refusal log (partition_of from term * term) term (from % term) n e))
