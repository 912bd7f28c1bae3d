-- The assembler of 16 sessions, given frames of one session, does what an assembler of one session does.
use mathlib.Core.Path.{◌≡◌, refl, sym, ap, ap₂, ◌∙◌, subst}
use mathlib.Core.Bool.{Bool, true, false, cond, ◌&&◌, ◌||◌}
use mathlib.Core.Logic.{◌⊎◌, inl, inr, ⊎_elim}
use Prim.Native.Nat.{ℕ, ◌+◌, ◌*◌, ◌%◌, ◌≤◌, ◌<◌, min}
use mathlib.Core.List.{List, [], ◌∷◌, ◌++◌, append_assoc, append-nil}
use native.Mathlib.Omega.{arith}
use borrow.Author.Tests.{ltb-false, eqb-false}
use lib.Dec.{leb, ltb, eqb}
use lib.ListN.{length, take, drop, get_or, length-append, length-set}
use lib.Seq.{take_at, get_or-set_same}
use lib.IntN.{ℤ, pos}
use mir.Syntax.{w32}
use mir.Val.{to_z}
use Rattle.model.specs.declared.Joining.{Joining}
use Rattle.model.specs.declared.Joining.TheVariants.{Through, Ignore, Full, TooLong, Join, Complete}
use Rattle.model.specs.Bytes.{word, splice}
use Rattle.model.specs.FrameDescriptor.{begins, ends}
use Rattle.model.specs.FragmentAssembler.{Sessions, fresh, entered, place_in, place_of, holding, part_length, joining, sessions_by, buffer_by, assembled_by}
use Rattle.model.specs.Replay.{handed_out}
use Rattle.model.specs.History.{Shape}
use Rattle.model.proofs.Choice.{cond_both, eq_yes}
use Rattle.model.proofs.Splice.{length-splice}
use Rattle.model.proofs.OneSession.{Asm, gives, keeps, take_in}

-- the session that a log's frames carry
abbrev pub sid : Shape → ℤ
sid c = to_z w32 (c.session % 4294967296)

-- the bookkeeping and the lent buffer hold `held` for that session, in the first part
pub record Same (c : Shape) (size : ℕ) (s : Sessions) (buffer held : List ℕ) : Type 0 where
  pub long : length buffer ≡ size
  pub ids : 0 < length s.ids
  pub slots : 0 < length s.held
  pub table : ((entered s ≡ 0) × (held ≡ [])) ⊎ ((entered s ≡ 1) × (get_or s.ids 0 (pos 0) ≡ sid c) × (get_or s.held 0 0 ≡ length held))
  pub bytes : take (length held) buffer ≡ held

pub fresh-same : (c : Shape) (buffer : List ℕ) → Same c (length buffer) fresh buffer []
fresh-same c buffer = record { long = refl; ids = omega arith; slots = omega arith; table = inl (refl, refl); bytes = refl }

-- ---- its place is the first

one_in : (l : List ℤ) (z : ℤ) → 0 < length l → get_or l 0 (pos 0) ≡ z → place_in (take 1 l) z ≡ 0
unfolding place_in
one_in [] z h e = absurd (omega arith)
one_in (x ∷ l) z h e = eq_yes (word x) (word z) 0 _ (ap word e)

none_in : (l : List ℤ) (z : ℤ) → place_in (take 0 l) z ≡ 0
unfolding place_in
none_in l z = refl

module _ (c : Shape) (size : ℕ) (s : Sessions) (buffer held : List ℕ) (r : Same c size s buffer held) where
  first-place : place_of s (sid c) ≡ 0
  first-place =
      ⊎_elim
      (λ t. ap (λ (k : ℕ). place_in (take k s.ids) (sid c)) t.0 ∙ none_in s.ids (sid c))
      (λ t. ap (λ (k : ℕ). place_in (take k s.ids) (sid c)) t.0 ∙ one_in s.ids (sid c) r.ids t.1)
      r.table

  -- what it is told to ignore
  ignores : (leb (entered s) 0 || eqb (get_or s.held 0 0) 0) ≡ eqb (length held) 0
  ignores =
      ⊎_elim
      (λ t. ap₂ (λ (k : ℕ) (l : List ℕ). (leb k 0 || eqb (get_or s.held 0 0) 0)) t.0 t.1 ∙ ap (λ (l : List ℕ). eqb (length l) 0) (sym t.1))
      (λ t. ap₂ (λ (k n : ℕ). (leb k 0 || eqb n 0)) t.0 t.2)
      r.table

  holds : ¬ (length held ≡ 0) → get_or s.held 0 0 ≡ length held
  holds h = ⊎_elim (λ t. absurd (h (ap length t.1))) (λ t. t.2) r.table

  few : entered s ≤ 1
  few = ⊎_elim (λ t. omega arith) (λ t. omega arith) r.table

  entered-one : (n : ℕ) → entered (holding s 0 (sid c) n) ≡ 1
  unfolding holding
  entered-one n = ⊎_elim (λ t. ap (λ (k : ℕ). min (cond (ltb 0 k) k 1) 16) t.0) (λ t. ap (λ (k : ℕ). min (cond (ltb 0 k) k 1) 16) t.0) r.table

  -- the session entered, with other bytes held
  now-holds : (buffer' held' : List ℕ) → length buffer' ≡ size → take (length held') buffer' ≡ held' → Same c size (holding s 0 (sid c) (length held')) buffer' held'
  unfolding holding
  now-holds buffer' held' l b =
      record {
        long = l;
        ids = omega (arith, length-set s.ids 0 (sid c), r.ids);
        slots = omega (arith, length-set s.held 0 (length held'), r.slots);
        table = inr (entered-one (length held'), get_or-set_same s.ids 0 (sid c) (pos 0) r.ids, get_or-set_same s.held 0 (length held') 0 r.slots);
        bytes = b;
      }

-- ---- one frame

start-bytes : (buffer b : List ℕ) → take (length b) (splice buffer 0 b) ≡ b
unfolding splice
start-bytes buffer b = take_at b (drop (0 + length b) buffer) (length b) refl

-- whether a frame is refused
abbrev pub drops : Joining → Bool
drops Through = false
drops Ignore = false
drops Full = true
drops (TooLong k) = true
drops (Join k from) = false
drops (Complete k from) = false

never : false ≡ true → {A : Type 0} → A
never e = absurd (let z : ◌≡◌ {A = ℕ} 0 1 = cc in omega arith)

-- `joining`, the session's place given
unfoldable at_place : Sessions → ℕ → ℕ → ℕ → ℕ → Joining
at_place s k flags n part =
    cond (begins flags && ends flags) Through
    (cond (begins flags)
    (cond (leb 16 k) Full (cond (ltb part n) (TooLong k) (Join k 0)))
    (cond (leb (entered s) k || eqb (get_or s.held k 0) 0) Ignore
    (cond (ltb part (get_or s.held k 0 + n)) (TooLong k)
    (cond (ends flags) (Complete k (get_or s.held k 0)) (Join k (get_or s.held k 0))))))

joins_at : (s : Sessions) (z : ℤ) (flags n part : ℕ) → joining s z flags n part ≡ at_place s (place_of s z) flags n part
unfolding joining at_place
joins_at s z flags n part = refl

module _ (c : Shape) (size : ℕ) (s : Sessions) (buffer held : List ℕ) (r : Same c size s buffer held) (o : List (List ℕ)) (l : Bool)
    (log : List ℕ) (base at flags : ℕ) (b : List ℕ) (body : take (length b) (drop (base + at) log) ≡ b) where
  abbrev part : ℕ
  part = part_length (length buffer)

  -- what it does is like what the other does
  abbrev Alike : Joining → Asm → Type 0
  Alike x y =
      Same c size (sessions_by s (sid c) (length b) x) (buffer_by buffer b x) y.held
      × (o ++ handed_out log base (buffer_by buffer b x) (assembled_by at (length b) part x) ≡ y.out)
      × (drops x ≡ true → y.lost ≡ true)

  -- bytes behind those held, in the first part
  more : List ℕ
  more = splice buffer (length held) b

  module _ (room : length held + length b ≤ part) where
    inside : length held ≤ length buffer
    inside = omega arith

    more-long : length more ≡ size
    unfolding more
    more-long = length-splice buffer (length held) b (omega arith) ∙ r.long

    more_bytes : take (length held + length b) more ≡ held ++ b
    unfolding more splice
    more_bytes =
        ap (λ (l : List ℕ). take (length held + length b) (l ++ (b ++ drop (length held + length b) buffer))) r.bytes
        ∙ ap (take (length held + length b)) (sym (append_assoc held b (drop (length held + length b) buffer)))
        ∙ take_at (held ++ b) (drop (length held + length b) buffer) (length held + length b) (length-append held b)

    more-held : take (length (held ++ b)) more ≡ held ++ b
    more-held = ap (λ (n : ℕ). take n more) (length-append held b) ∙ more_bytes

  -- the session emptied
  emptied : Same c size (holding s 0 (sid c) 0) buffer []
  emptied = now-holds c size s buffer held r buffer [] r.long refl

  -- nothing is handed out
  nothing : o ++ [] ≡ o
  nothing = append-nil o

  -- the first part starts at 0
  spot : (n : ℕ) → 0 * part + n ≡ n
  spot n = omega arith

  begun : length b ≤ part → Alike (Join 0 0) (keeps (record { held = held; out = o; lost = l }) b)
  begun h = (
    subst (λ (n : ℕ). Same c size (holding s 0 (sid c) n) (splice buffer (0 * part + 0) b) b) (omega arith)
        (subst (λ (q : ℕ). Same c size (holding s 0 (sid c) (length b)) (splice buffer q b) b) (sym (spot 0))
        (now-holds c size s buffer held r (splice buffer 0 b) b (length-splice buffer 0 b (omega arith) ∙ r.long) (start-bytes buffer b))),
    nothing,
    λ e. never e,
  )

  module _ (some : ¬ (length held ≡ 0)) (room : length held + length b ≤ part) where
    count : get_or s.held 0 0 ≡ length held
    count = holds c size s buffer held r some

    joined-on : Alike (Join 0 (length held)) (keeps (record { held = held; out = o; lost = l }) (held ++ b))
    unfolding more
    joined-on = (
      subst (λ (q : ℕ). Same c size (holding s 0 (sid c) (length held + length b)) (splice buffer q b) (held ++ b)) (sym (spot (length held)))
          (subst (λ (n : ℕ). Same c size (holding s 0 (sid c) n) (splice buffer (length held) b) (held ++ b)) (length-append held b)
          (now-holds c size s buffer held r (splice buffer (length held) b) (held ++ b) (more-long room) (more-held room))),
      nothing,
      λ e. never e,
    )

    completed : Alike (Complete 0 (length held)) (gives (record { held = held; out = o; lost = l }) [] (held ++ b))
    unfolding more
    completed =
        let z : 0 * part ≡ 0 = omega arith in (
          subst (λ (q : ℕ). Same c size (holding s 0 (sid c) 0) (splice buffer q b) []) (sym (spot (length held)))
              (now-holds c size s buffer held r (splice buffer (length held) b) [] (more-long room) refl),
          ap₂ (λ (q p : ℕ). o ++ (take (length held + length b) (drop p (splice buffer q b)) ∷ [])) (spot (length held)) z
              ∙ ap (λ (m : List ℕ). o ++ (m ∷ [])) (more_bytes room),
          λ e. never e,
        )

  like : Alike (at_place s 0 flags (length b) part) (take_in part (record { held = held; out = o; lost = l }) (flags, b))
  unfolding at_place take_in
  like =
      cond_both Alike (begins flags && ends flags) (begins flags && ends flags) _ _ _ _ refl
      (λ e. (r, ap (λ (m : List ℕ). o ++ (m ∷ [])) body, λ e. never e))
      (λ e. cond_both Alike (begins flags) (begins flags) _ _ _ _ refl
      (λ e. cond_both Alike (ltb part (length b)) (ltb part (length b)) _ _ _ _ refl (λ e. (emptied, nothing, λ e. refl)) (λ e. begun (ltb-false part (length b) e)))
      (λ e. cond_both Alike (leb (entered s) 0 || eqb (get_or s.held 0 0) 0) (eqb (length held) 0) _ _ _ _ (ignores c size s buffer held r) (λ e. (r, nothing, λ e. never e))
      (λ z. let k = holds c size s buffer held r (eqb-false (length held) 0 z) in
      cond_both Alike (ltb part (get_or s.held 0 0 + length b)) (ltb part (length held + length b)) _ _ _ _ (ap (λ (n : ℕ). ltb part (n + length b)) k) (λ e. (emptied, nothing, λ e. refl))
      (λ e. let h = ltb-false part (length held + length b) e in
      cond_both Alike (ends flags) (ends flags) _ _ _ _ refl
      (λ q. subst (λ (n : ℕ). Alike (Complete 0 n) (gives (record { held = held; out = o; lost = l }) [] (held ++ b))) (sym k) (completed (eqb-false (length held) 0 z) h))
      (λ q. subst (λ (n : ℕ). Alike (Join 0 n) (keeps (record { held = held; out = o; lost = l }) (held ++ b))) (sym k) (joined-on (eqb-false (length held) 0 z) h))))))

  pub joins-alike : Alike (joining s (sid c) flags (length b) part) (take_in part (record { held = held; out = o; lost = l }) (flags, b))
  joins-alike =
      subst (λ (x : Joining). Alike x (take_in part (record { held = held; out = o; lost = l }) (flags, b)))
      (sym (joins_at s (sid c) flags (length b) part ∙ ap (λ (k : ℕ). at_place s k flags (length b) part) (first-place c size s buffer held r))) like
