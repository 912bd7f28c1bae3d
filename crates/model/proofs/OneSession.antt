-- An assembler of one session with room for `cap` bytes, and that it makes of a history's frames the history's messages. The assembler
-- of 16 sessions does the same as long as one session is all it sees (Assembling).
use mathlib.Core.Path.{◌≡◌, refl, sym, ap, ◌∙◌}
use mathlib.Core.Bool.{Bool, true, false, cond, ◌&&◌}
use Prim.Native.Nat.{ℕ, zero, suc, ◌+◌, ◌-◌, ◌≤◌, ◌<◌}
use native.Mathlib.Nat.{le_of_lt}
use mathlib.Core.List.{List, [], ◌∷◌, ◌++◌, append_assoc, append-nil}
use native.Mathlib.Omega.{arith}
use borrow.Author.Tests.{le-ltb, ne_eqb}
use lib.Dec.{ltb, eqb}
use lib.ListN.{length, take, drop, length-append, length-drop, take-append-drop}
use lib.Seq.{length-take-le}
use Rattle.model.specs.Bytes.{zeros, long}
use Rattle.model.specs.FrameDescriptor.{begins, ends}
use Rattle.model.specs.TermAppender.{Fragment, fragment, cut_from, cut}
use Rattle.model.specs.History.{Shape, open·, committed, aborted, Extent, message, claimed·, padding, messages}
use Rattle.model.specs.Demand.{Holds}
use Rattle.model.proofs.Choice.{cond-false, cond-case, split}
use Rattle.model.proofs.Cells.{Cell, cell}
use Rattle.model.proofs.Cut.{cut-last, cut-more}

-- ---- a history's frames

abbrev pub cell_of : Fragment → Cell
cell_of (fragment fl re b) = cell committed fl re b

unfoldable pub cells : List Fragment → List Cell
cells [] = []
cells (f ∷ fs) = cell_of f ∷ cells fs

unfoldable pub frames : Shape → Extent → List Cell
frames c (message re m) = cells (cut c.payload (long re) m)
frames c (claimed· k b) = cell k 192 0 b ∷ []
frames c (padding n) = cell aborted 192 0 (zeros (n - 32)) ∷ []

unfoldable pub flat : Shape → List Extent → List Cell
flat c [] = []
flat c (e ∷ h) = frames c e ++ flat c h

-- what is handed out of them, to the first claim still open: flags and body
unfoldable pub frags_of : List Cell → List (ℕ × List ℕ)
frags_of [] = []
frags_of (cell open· fl re b ∷ fs) = []
frags_of (cell committed fl re b ∷ fs) = (fl, b) ∷ frags_of fs
frags_of (cell aborted fl re b ∷ fs) = frags_of fs

-- ---- the assembler

-- what it holds, what it has given out, and whether it ever dropped a message that was too long
pub record Asm : Type 0 where
  pub held : List ℕ
  pub out : List (List ℕ)
  pub lost : Bool

abbrev pub empty : Asm
empty = record { held = []; out = []; lost = false }

abbrev pub gives : Asm → List ℕ → List ℕ → Asm
gives a h m = record { held = h; out = a.out ++ (m ∷ []); lost = a.lost }

abbrev pub keeps : Asm → List ℕ → Asm
keeps a h = record { held = h; out = a.out; lost = a.lost }

abbrev pub loses : Asm → Asm
loses a = record { held = []; out = a.out; lost = true }

unfoldable pub take_in : ℕ → Asm → ℕ × List ℕ → Asm
take_in cap a f =
    cond (begins f.0 && ends f.0) (gives a a.held f.1)
    (cond (begins f.0) (cond (ltb cap (length f.1)) (loses a) (keeps a f.1))
    (cond (eqb (length a.held) 0) a
    (cond (ltb cap (length a.held + length f.1)) (loses a)
    (cond (ends f.0) (gives a [] (a.held ++ f.1)) (keeps a (a.held ++ f.1))))))

unfoldable pub takes-in : ℕ → Asm → List (ℕ × List ℕ) → Asm
takes-in cap a [] = a
takes-in cap a (f ∷ fs) = takes-in cap (take_in cap a f) fs

pub takes-append : (cap : ℕ) (a : Asm) (fs gs : List (ℕ × List ℕ)) → takes-in cap a (fs ++ gs) ≡ takes-in cap (takes-in cap a fs) gs
unfolding takes-in
takes-append cap a [] gs = refl
takes-append cap a (f ∷ fs) gs = takes-append cap (take_in cap a f) fs gs

-- what was lost stays lost
take-lost : (cap : ℕ) (a : Asm) (f : ℕ × List ℕ) → a.lost ≡ true → (take_in cap a f).lost ≡ true
unfolding take_in
take-lost cap a f e =
    cond-case (λ (x : Asm). x.lost ≡ true) (begins f.0 && ends f.0) (gives a a.held f.1) _ (λ q. e)
    (λ q. cond-case (λ (x : Asm). x.lost ≡ true) (begins f.0) _ _
    (λ q. cond-case (λ (x : Asm). x.lost ≡ true) (ltb cap (length f.1)) (loses a) (keeps a f.1) (λ q. refl) (λ q. e))
    (λ q. cond-case (λ (x : Asm). x.lost ≡ true) (eqb (length a.held) 0) a _ (λ q. e)
    (λ q. cond-case (λ (x : Asm). x.lost ≡ true) (ltb cap (length a.held + length f.1)) (loses a) _ (λ q. refl)
    (λ q. cond-case (λ (x : Asm). x.lost ≡ true) (ends f.0) (gives a [] (a.held ++ f.1)) (keeps a (a.held ++ f.1)) (λ q. e) (λ q. e)))))

pub takes-lost : (cap : ℕ) (a : Asm) (fs : List (ℕ × List ℕ)) → a.lost ≡ true → (takes-in cap a fs).lost ≡ true
unfolding takes-in
takes-lost cap a [] e = e
takes-lost cap a (f ∷ fs) e = takes-lost cap (take_in cap a f) fs (take-lost cap a f e)

-- what was given out stays given out
take-grow : (cap : ℕ) (a : Asm) (f : ℕ × List ℕ) → length a.out ≤ length (take_in cap a f).out
unfolding take_in
take-grow cap a f =
    let P : Asm → Type 0 = λ x. length a.out ≤ length x.out in
    let more : (m : List ℕ) → length a.out ≤ length (a.out ++ (m ∷ [])) = λ m. omega (arith, length-append a.out (m ∷ [])) in
    cond-case P (begins f.0 && ends f.0) (gives a a.held f.1) _ (λ q. more f.1)
    (λ q. cond-case P (begins f.0) _ _
    (λ q. cond-case P (ltb cap (length f.1)) (loses a) (keeps a f.1) (λ q. omega arith) (λ q. omega arith))
    (λ q. cond-case P (eqb (length a.held) 0) a _ (λ q. omega arith)
    (λ q. cond-case P (ltb cap (length a.held + length f.1)) (loses a) _ (λ q. omega arith)
    (λ q. cond-case P (ends f.0) (gives a [] (a.held ++ f.1)) (keeps a (a.held ++ f.1)) (λ q. more (a.held ++ f.1)) (λ q. omega arith)))))

pub takes-grow : (cap : ℕ) (a : Asm) (fs : List (ℕ × List ℕ)) → length a.out ≤ length (takes-in cap a fs).out
unfolding takes-in
takes-grow cap a [] = omega arith
takes-grow cap a (f ∷ fs) = omega (arith, take-grow cap a f, takes-grow cap (take_in cap a f) fs)

-- ---- the frames of a message through it

abbrev has : List ℕ → List (List ℕ) → Asm
has h o = record { held = h; out = o; lost = false }

whole_in : (cap : ℕ) (x b : List ℕ) (o : List (List ℕ)) → take_in cap (has x o) (192, b) ≡ has x (o ++ (b ∷ []))
unfolding take_in
whole_in cap x b o = refl

first-in : (cap : ℕ) (x b : List ℕ) (o : List (List ℕ)) → length b ≤ cap → take_in cap (has x o) (128, b) ≡ has b o
unfolding take_in
first-in cap x b o h = cond-false (ltb cap (length b)) (loses (has x o)) (has b o) (le-ltb cap (length b) h)

mid-in : (cap : ℕ) (x b : List ℕ) (o : List (List ℕ)) → zero < length x → length x + length b ≤ cap → take_in cap (has x o) (0, b) ≡ has (x ++ b) o
unfolding take_in
mid-in cap x b o k h =
    cond-false (eqb (length x) 0) (has x o) _ (ne_eqb (length x) 0 (λ e. omega arith))
    ∙ cond-false (ltb cap (length x + length b)) (loses (has x o)) (has (x ++ b) o) (le-ltb cap (length x + length b) h)

end-in : (cap : ℕ) (x b : List ℕ) (o : List (List ℕ)) → zero < length x → length x + length b ≤ cap → take_in cap (has x o) (64, b) ≡ has [] (o ++ ((x ++ b) ∷ []))
unfolding take_in
end-in cap x b o k h =
    cond-false (eqb (length x) 0) (has x o) _ (ne_eqb (length x) 0 (λ e. omega arith))
    ∙ cond-false (ltb cap (length x + length b)) (loses (has x o)) (has [] (o ++ ((x ++ b) ∷ []))) (le-ltb cap (length x + length b) h)

-- the frames after the first
later : (cap f pay re : ℕ) (x b : List ℕ) (o : List (List ℕ)) → zero < pay → zero < length x → length b < f → length x + length b ≤ cap
    → takes-in cap (has x o) (frags_of (cells (cut_from f pay 0 re b))) ≡ has [] (o ++ ((x ++ b) ∷ []))
unfolding takes-in frags_of cells
later cap zero pay re x b o hp hx hf hc = absurd (omega arith)
later cap (suc f) pay re x b o hp hx hf hc =
    split (length b) pay
    (λ k. ap (λ (l : List Fragment). takes-in cap (has x o) (frags_of (cells l))) (cut-last f pay 0 re b k) ∙ end-in cap x b o hx hc)
    (λ k. ap (λ (l : List Fragment). takes-in cap (has x o) (frags_of (cells l))) (cut-more f pay 0 re b k)
    ∙ ap (λ (a : Asm). takes-in cap a (frags_of (cells (cut_from f pay 0 re (drop pay b))))) (mid-in cap x (take pay b) o hx (omega (arith, length-take-le pay b (le_of_lt k))))
    ∙ later cap f pay re (x ++ take pay b) (drop pay b) o hp (omega (arith, length-append x (take pay b))) (omega (arith, length-drop pay b))
    (omega (arith, length-append x (take pay b), length-drop pay b, length-take-le pay b (le_of_lt k)))
    ∙ ap (λ (m : List ℕ). has [] (o ++ (m ∷ []))) (append_assoc x (take pay b) (drop pay b) ∙ ap (λ (r : List ℕ). x ++ r) (take-append-drop pay b)))

-- all frames of a message
whole : (cap pay re : ℕ) (b : List ℕ) (o : List (List ℕ)) → zero < pay → (pay < length b → length b ≤ cap)
    → takes-in cap (has [] o) (frags_of (cells (cut pay re b))) ≡ has [] (o ++ (b ∷ []))
unfolding takes-in frags_of cells cut
whole cap pay re b o hp hc =
    split (length b) pay
    (λ k. ap (λ (l : List Fragment). takes-in cap (has [] o) (frags_of (cells l))) (cut-last (length b) pay 128 re b k) ∙ whole_in cap [] b o)
    (λ k. ap (λ (l : List Fragment). takes-in cap (has [] o) (frags_of (cells l))) (cut-more (length b) pay 128 re b k)
    ∙ ap (λ (a : Asm). takes-in cap a (frags_of (cells (cut_from (length b) pay 0 re (drop pay b))))) (first-in cap [] (take pay b) o (omega (arith, hc k, length-take-le pay b (le_of_lt k))))
    ∙ later cap (length b) pay re (take pay b) (drop pay b) o hp (omega (arith, length-take-le pay b (le_of_lt k))) (omega (arith, length-drop pay b))
    (omega (arith, length-drop pay b, length-take-le pay b (le_of_lt k), hc k))
    ∙ ap (λ (m : List ℕ). has [] (o ++ (m ∷ []))) (take-append-drop pay b))

frags-cells : (fs : List Fragment) (gs : List Cell) → frags_of (cells fs ++ gs) ≡ frags_of (cells fs) ++ frags_of gs
unfolding frags_of cells
frags-cells [] gs = refl
frags-cells (fragment fl re b ∷ fs) gs = ap {B = List (ℕ × List ℕ)} (λ (r : List (ℕ × List ℕ)). (fl, b) ∷ r) (frags-cells fs gs)

-- the assembler makes the messages of a history's frames
pub made : (c : Shape) (cap : ℕ) (h : List Extent) (o : List (List ℕ)) → zero < c.payload → Holds c cap h → takes-in cap (has [] o) (frags_of (flat c h)) ≡ has [] (o ++ messages h)
unfolding flat frames messages takes-in frags_of Holds
made c cap [] o hp hc = ap (has []) (sym (append-nil o))
made c cap (message re b ∷ h) o hp hc =
    ap (takes-in cap (has [] o)) (frags-cells (cut c.payload (long re) b) (flat c h))
    ∙ takes-append cap (has [] o) (frags_of (cells (cut c.payload (long re) b))) (frags_of (flat c h))
    ∙ ap (λ (a : Asm). takes-in cap a (frags_of (flat c h))) (whole cap c.payload (long re) b o hp hc.0)
    ∙ made c cap h (o ++ (b ∷ [])) hp hc.1
    ∙ ap (has []) (append_assoc o (b ∷ []) (messages h))
made c cap (claimed· open· b ∷ h) o hp hc = ap (has []) (sym (append-nil o))
made c cap (claimed· committed b ∷ h) o hp hc =
    ap (λ (a : Asm). takes-in cap a (frags_of (flat c h))) (whole_in cap [] b o)
    ∙ made c cap h (o ++ (b ∷ [])) hp hc
    ∙ ap (has []) (append_assoc o (b ∷ []) (messages h))
made c cap (claimed· aborted b ∷ h) o hp hc = made c cap h o hp hc
made c cap (padding n ∷ h) o hp hc = made c cap h o hp hc
