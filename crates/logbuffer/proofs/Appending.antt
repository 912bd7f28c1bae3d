-- What the parts of an append hand on to each other: the log by the way that was taken.
use Rattle.std.proofs.Common.{◌≡◌, ℕ, ◌+◌, ◌*◌, ◌≤◌, List, [], ◌∷◌, length, sym, refl, ap, ◌∙◌, ⊎_elim, arith}
use types.Run.{OneOf}
use denote.Enum.Declared.{tag_of}
use Rattle.model.specs.declared.Reading.{Reading}
use Rattle.model.specs.declared.Course.{Course}
use Rattle.model.specs.declared.Course.TheVariants.{Refuse, Stray, Trip, Fit}
use Rattle.model.specs.Bytes.{splice}
use Rattle.model.specs.LogBufferDescriptor.{Sound}
use Rattle.model.specs.TermAppender.{Fragment, fragment_bytes, written, course, bytes_by}
use Rattle.model.specs.contracts.Course.{the_type}
use Rattle.model.proofs.Append.{course-says, base-in}

-- all but a trip leave the log to what comes after them
pub no-trip : (v : Reading) (k : ℕ) (log : List ℕ) (x : Course) → OneOf (0 ∷ 1 ∷ 3 ∷ []) (tag_of the_type x) → log ≡ bytes_by v k log log x
no-trip v k log (Refuse e) h = refl
no-trip v k log Stray h = refl
no-trip v k log Trip h = absurd (⊎_elim (λ e. omega arith) (⊎_elim (λ e. omega arith) (λ e. omega arith)) h)
no-trip v k log Fit h = refl

-- and all but one that fits are done with that
pub no-fit : (v : Reading) (k : ℕ) (log new : List ℕ) (x : Course) → OneOf (0 ∷ 1 ∷ 2 ∷ []) (tag_of the_type x) → bytes_by v k log log x ≡ bytes_by v k log new x
no-fit v k log new (Refuse e) h = refl
no-fit v k log new Stray h = refl
no-fit v k log new Trip h = refl
no-fit v k log new Fit h = absurd (⊎_elim (λ e. omega arith) (⊎_elim (λ e. omega arith) (λ e. omega arith)) h)

-- what an append that fits says, and that its log is as it was
pub fits : (v : Reading) (k : ℕ) (log now : List ℕ) (nd g : ℕ) → Fit ≡ course v (length log) nd g → now ≡ bytes_by v k log log (course v (length log) nd g) → k ≤ 2
    → (now ≡ log) × (Sound v (length log) × ((v.offset + nd ≤ v.term) × (k * v.term + v.term ≤ length log)))
fits v k log now nd g e h l =
    let w = course-says v (length log) nd g Fit (sym e) in
    (h ∙ sym (ap (bytes_by v k log log) e), (w.0.sound-so, (w.1, omega (arith, base-in k v.term l, w.0.sound-so.three))))

-- a frame by itself is all that is written
pub one_written : (v : Reading) (log out : List ℕ) (base offset : ℕ) (f : Fragment) → out ≡ splice log (base + offset) (fragment_bytes v offset f) → out ≡ written v log base offset (f ∷ [])
unfolding written
one_written v log out base offset f e = e
