-- A part written over is its bytes laid over the list; and bytes laid chunk by chunk are laid at once.
use Rattle.std.proofs.Common.{◌≡◌, ℕ, ◌+◌, ◌≤◌, List, ◌++◌, length, take, drop, sym, ap, ◌∙◌, arith, length-drop, length-take-le, drop-drop, take-add}
use Rattle.std.proofs.lemmas.List.{take-append-drop}
use borrow.Rule.Slice.PartMut.{put_mid}
use Rattle.model.specs.Bytes.{splice}
use Rattle.model.proofs.Splice.{splice-more}

pub laid-over : (d : List ℕ) (b k : ℕ) (y : List ℕ) → length y ≡ k → put_mid b k d y ≡ splice d b y
unfolding splice
laid-over d b k y e = ap (λ (x : List ℕ). take b d ++ (y ++ x)) (drop-drop k b d ∙ ap (λ (n : ℕ). drop (b + n) d) (sym e))

-- a chunk behind what has been copied
pub more : (d s : List ℕ) (b a i m : ℕ) → b + i ≤ length d → a + i ≤ length s
    → splice (splice d b (take i (drop a s))) (b + i) (take m (drop (a + i) s)) ≡ splice d b (take (i + m) (drop a s))
more d s b a i m h k =
    let t = take i (drop a s) in
    let l : length t ≡ i = length-take-le i (drop a s) (omega (arith, length-drop a s)) in
    splice-more d b t (take m (drop (a + i) s)) (b + i) (omega arith) (omega arith)
    ∙ ap (splice d b) (ap (λ (x : List ℕ). t ++ take m x) (sym (drop-drop i a s)) ∙ sym (take-add i m (drop a s)))

-- nothing copied yet
pub none_yet : (d s : List ℕ) (b a : ℕ) → d ≡ splice d b (take 0 (drop a s))
unfolding splice
none_yet d s b a = sym (take-append-drop b d) ∙ ap (λ (n : ℕ). take b d ++ drop n d) (omega arith)
