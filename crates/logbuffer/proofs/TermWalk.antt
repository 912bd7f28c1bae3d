-- What the walk to a term's end came to is the answer of `read_term`: `read_frames` with no handler, told by its offset and its fragments.
use Rattle.std.specs.Prelude.{Ok, Err}
use Rattle.std.proofs.Common.{◌≡◌, ℕ, zero, suc, ◌+◌, ◌-◌, ◌≤◌, cond, List, [], drop, ℤ, refl, ap, ◌∙◌, arith}
use Rattle.model.specs.FrameDescriptor.{unsound_frame_at}
use Rattle.model.specs.TermReader.{next_action, walk, first_unsound, frames_by, entries_by, read_from}
use Rattle.model.proofs.WalkLoop.{Came, walk_by}
use Rattle.model.proofs.ReaderLaws.{frames-came}

pub term-came : (log : List ℕ) (base term at limit : ℕ) (slots out : List ℤ) (offset count settled : ℕ) → at ≤ offset
    → Came log base term term at limit [] slots out (walk_by count count (offset - at) settled)
    → (Ok (record { offset = offset; fragments = count }) ≡ read_from at (frames_by (walk term log base term term at limit []) (cond (first_unsound log base term term at limit) (Err (unsound_frame_at log base at)) (Ok tt))))
    × (out ≡ entries_by slots (walk term log base term term at limit []) (cond (first_unsound log base term term at limit) (Err (unsound_frame_at log base at)) (Ok tt)))
term-came log base term at limit slots out offset count settled h k =
    let f = frames-came log base term term at limit [] slots out count count (offset - at) (offset - at) settled k refl in
    let e : offset ≡ at + (offset - at) = omega arith in
    (ap (λ (n : ℕ). Ok (record { offset = n; fragments = count })) e ∙ ap (read_from at) f.0, f.1)

-- nobody handles: every fragment is let pass
pub no-action : (k : ℕ) → 4 ≡ next_action (drop k [])
no-action zero = refl
no-action (suc k) = refl
