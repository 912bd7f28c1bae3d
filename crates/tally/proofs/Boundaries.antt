-- Two positions at which an extent ends, as every answered one is, cut the history in three.
use Rattle.std.proofs.Common.{◌≡◌, ℕ, ◌+◌, ◌-◌, ◌≤◌, List, [], ◌∷◌, ◌++◌, refl, ap, ◌∙◌, arith}
use Rattle.model.specs.History.{Shape, Extent, size_of, size_all}
use Rattle.model.proofs.Season.{Boundary}

pub record Parted (c : Shape) (from to : ℕ) (h : List Extent) : Type 0 where
  pub before : List Extent
  pub between· : List Extent
  pub behind : List Extent
  pub whole : h ≡ before ++ (between· ++ behind)
  pub first : size_all c before ≡ from
  pub second : size_all c before + size_all c between· ≡ to

-- two cuts of one history, the first of them not behind the second
cut_twice : (c : Shape) (from to : ℕ) (h a x b y : List Extent) → h ≡ a ++ x → h ≡ b ++ y → size_all c a ≡ from → size_all c b ≡ to → from ≤ to → Parted c from to h
unfolding size_all
cut_twice c from to h [] x b y e d p q o = record { before = []; between· = b; behind = y; whole = d; first = p; second = omega (arith, q) }
cut_twice c from to h (f ∷ a) x [] y e d p q o =
    record { before = []; between· = []; behind = h; whole = refl; first = omega (arith, p, q); second = omega (arith, q) }
cut_twice c from to h (f ∷ a) x (g ∷ b) y e d p q o =
    let head : f ≡ g = cc in
    let tail : a ++ x ≡ b ++ y = cc in
    let size : size_of c f ≡ size_of c g = ap (size_of c) head in
    let r = cut_twice c (from - size_of c f) (to - size_of c f) (a ++ x) a x b y refl tail (omega (arith, p)) (omega (arith, q, size)) (omega arith) in
    record {
      before = f ∷ r.before;
      between· = r.between·;
      behind = r.behind;
      whole = e ∙ ap (λ (l : List Extent). f ∷ l) r.whole;
      first = omega (arith, r.first, p);
      second = omega (arith, r.second, q, size);
    }

pub parted : (c : Shape) (from to : ℕ) (h : List Extent) → Boundary c from h → Boundary c to h → from ≤ to → Parted c from to h
parted c from to h a b o = cut_twice c from to h a.front a.back b.front b.back a.cut b.cut a.at b.at o
