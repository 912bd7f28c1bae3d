-- A walk gives no more than its limit: `NothingCut` of specs/Theorems.antt.
use mathlib.Core.Bool.{Bool, true, false, cond}
use Prim.Native.Nat.{ℕ, zero, suc, ◌+◌, ◌-◌, ◌≤◌}
use mathlib.Core.List.{List, [], ◌∷◌}
use native.Mathlib.Omega.{arith}
use lib.Dec.{eqb, leb}
use lib.ListN.{length, drop}
use Rattle.model.specs.declared.Frame.{Frame}
use Rattle.model.specs.declared.Frame.TheVariants.{Absent, Unsound, Padding, Data}
use Rattle.model.specs.FrameDescriptor.{align, frame_at, flags_at, ends}
use Rattle.model.specs.TermReader.{Walked, still, next_action, rest_actions, handed, handed_by, over, walk}
use Rattle.capi.specs.Theorems.{NothingCut}

abbrev AtMost : ℕ → Walked → Type 0
AtMost limit w = (w.fragments ≤ limit) × (length w.entries ≤ limit)

none : (limit : ℕ) → AtMost limit still
none limit = (omega arith, omega arith)

handed-most : (action at n limit : ℕ) (whole : Bool) (w : Walked) → AtMost limit w → AtMost (suc limit) (handed_by action at n whole w)
handed-most action at n limit whole w h = go (eqb action 1) (eqb action 2)
  where
    go : (a b : Bool) → AtMost (suc limit) (cond {A = Walked} a (record { entries = (at + 32, n - 32) ∷ []; fragments = 0; moved = 0; settled = 0 }) (cond b (handed at n whole still) (handed at n whole w)))
    go true b = (omega arith, omega arith)
    go false true = (omega arith, omega arith)
    go false false = (omega (arith, h.0), omega (arith, h.1))

over-most : (x : Frame) (whole : Bool) (at limit : ℕ) (acts : List ℕ) (go : ℕ → ℕ → List ℕ → Walked) → ((a l : ℕ) (more : List ℕ) → AtMost l (go a l more))
    → AtMost (suc limit) (over x whole at limit acts go)
over-most Absent whole at limit acts go h = none (suc limit)
over-most (Unsound n) whole at limit acts go h = none (suc limit)
over-most (Padding n) whole at limit acts go h = h (at + align n) (suc limit) acts
over-most (Data n) whole at limit acts go h =
    handed-most (next_action acts) at n limit whole (go (at + align n) limit (rest_actions acts)) (h (at + align n) limit (rest_actions acts))

either : (b : Bool) (limit : ℕ) (w : Walked) → AtMost limit w → AtMost limit (cond b still w)
either true limit w h = none limit
either false limit w h = h

pub narrow : NothingCut
unfolding walk
narrow zero log base term end at limit acts = none limit
narrow (suc fuel) log base term end at zero acts = none zero
narrow (suc fuel) log base term end at (suc limit) acts =
    either (leb end at) (suc limit)
    (over (frame_at (drop (base + at) log) (term - at)) (ends (flags_at (drop (base + at) log))) at limit acts (λ a l more. walk fuel log base term end a l more))
    (over-most (frame_at (drop (base + at) log) (term - at)) (ends (flags_at (drop (base + at) log))) at limit acts (λ a l more. walk fuel log base term end a l more)
    (λ a l more. narrow fuel log base term end a l more))
