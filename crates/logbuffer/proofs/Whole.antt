-- A whole message's frame, by the tests of the code.
use Rattle.std.proofs.Common.{◌≡◌, ℕ, zero, suc, Some, None, ◌+◌, ◌/◌, ◌%◌, ◌<◌, ◌≤◌, Bool, true, false, cond, ◌&&◌, List, [], ◌∷◌, length, drop, sym, refl, ap, ◌∙◌, ⊎_elim, arith, eq-eqb, eqb-true}
use types.Run.{OneOf}
use denote.Enum.Declared.{tag_of}
use Rattle.model.specs.contracts.Frame.{the_type}
use Rattle.model.specs.declared.Frame.{Frame}
use Rattle.model.specs.declared.Frame.TheVariants.{Absent, Unsound, Padding, Data}
use Rattle.model.specs.FrameDescriptor.{frame_at, flags_at, begins, ends}
use Rattle.model.proofs.Both.{both_true}
use Rattle.model.proofs.Choice.{cond-true, cond-false, le_yes, le-no}
use Rattle.logbuffer.specs.Whole.{data_length, whole_length, length_found, whole_frame}

-- no data frame
pub no-data : (x : Frame) → OneOf (0 ∷ 1 ∷ 2 ∷ []) (tag_of the_type x) → data_length x ≡ 0
no-data Absent h = refl
no-data (Unsound m) h = refl
no-data (Padding m) h = refl
no-data (Data m) h = absurd (⊎_elim (λ e. omega arith) (⊎_elim (λ e. omega arith) (λ e. omega arith)) h)

-- the two flags stand side by side
both_bits : (x : ℕ) → x % 2 ≡ 1 → x / 2 % 2 ≡ 1 → x % 4 ≡ 3
both_bits x a b = omega arith

pub not-both : (f : ℕ) → ¬ (f / 64 % 4 ≡ 3) → (begins f && ends f) ≡ false
not-both f h = go (begins f) (ends f) refl refl
  where
    halves : f / 64 / 2 ≡ f / 128
    halves = omega arith

    go : (a b : Bool) → begins f ≡ a → ends f ≡ b → (a && b) ≡ false
    go true true ea eb = absurd (h (both_bits (f / 64) (eqb-true (f / 64 % 2) 1 eb) (ap (λ (x : ℕ). x % 2) halves ∙ eqb-true (f / 128 % 2) 1 ea)))
    go true false ea eb = refl
    go false b ea eb = refl

pub both : (f : ℕ) → f / 64 % 4 ≡ 3 → (begins f && ends f) ≡ true
both f h = both_true (eq-eqb (f / 128 % 2) 1 (omega arith)) (eq-eqb (f / 64 % 2) 1 (omega arith))

-- a length that is some is found
pub found : (n : ℕ) → 0 < n → Some n ≡ length_found n
found zero h = absurd (omega arith)
found (suc n) h = refl

module _ (log : List ℕ) (at room : ℕ) where
  abbrev frame· : List ℕ
  frame· = drop at log

  pub no_room : length log < at + 32 → None ≡ length_found (whole_frame log at room)
  unfolding whole_frame
  no_room h = ap length_found (sym (le-no (at + 32) (length log) _ 0 h))

  -- a frame that was read there
  pub whole-as : at + 32 ≤ length log → whole_length (flags_at frame·) (frame_at frame· room) ≡ whole_frame log at room
  unfolding whole_frame
  whole-as h = sym (le_yes (at + 32) (length log) _ 0 h)

either : (b : Bool) → ◌≡◌ {A = ℕ} (cond b 0 0) 0
either true = refl
either false = refl

pub none-whole : (f : ℕ) (x : Frame) → data_length x ≡ 0 → whole_length f x ≡ 0
none-whole f x e = ap (λ (n : ℕ). cond (begins f && ends f) n 0) e ∙ either (begins f && ends f)

pub part-whole : (f : ℕ) (x : Frame) → ¬ (f / 64 % 4 ≡ 3) → whole_length f x ≡ 0
part-whole f x h = cond-false (begins f && ends f) (data_length x) 0 (not-both f h)

pub is_whole : (f : ℕ) (x : Frame) → f / 64 % 4 ≡ 3 → whole_length f x ≡ data_length x
is_whole f x h = cond-true (begins f && ends f) (data_length x) 0 (both f h)
