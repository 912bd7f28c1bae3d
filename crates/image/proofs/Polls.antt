-- What the leaf library's walk answers, told as a poll of an image: p is the image's position as the code has it.
use Rattle.std.specs.Prelude.{Result, Ok, Err}
use mathlib.Core.Path.{◌≡◌, refl, sym, ap, ap₂, subst, ◌∙◌}
use mathlib.Core.Bool.{Bool, true, false, cond, ◌&&◌}
use mathlib.Core.List.{List, []}
use Prim.Native.Nat.{ℕ, zero, suc, ◌+◌, ◌-◌, ◌*◌, ◌/◌, ◌%◌, ◌≤◌}
use native.Mathlib.Omega.{arith}
use native.Mathlib.Nat.{mod-le}
use lib.Dec.{leb}
use lib.ListN.{length, drop}
use lib.IntN.{ℤ, pos}
use Rattle.model.specs.declared.LogRecord.{LogRecord}
use Rattle.model.specs.declared.Reading.{Reading}
use Rattle.model.specs.declared.Error.{Error}
use Rattle.model.specs.declared.ReadVerdict.{ReadVerdict}
use Rattle.model.specs.declared.ReadVerdict.TheVariants.{Read, Closed}
use Rattle.model.specs.declared.Walk.{Walk}
use Rattle.model.specs.declared.Polled.{Polled}
use Rattle.model.specs.declared.FramesRead.{FramesRead}
use Rattle.model.specs.declared.FramesRead.TheVariants.{Walked as AllWalked, Refused as WalkRefused}
use Rattle.model.specs.Bytes.{long}
use Rattle.model.specs.LogBufferDescriptor.{reading, partition_of}
use Rattle.model.specs.declared.TermRead.{TermRead}
use Rattle.model.specs.declared.Frame.{Frame}
use Rattle.model.specs.declared.Frame.TheVariants.{Absent, Unsound, Padding, Data}
use Rattle.model.specs.FrameDescriptor.{align, frame_at, flags_at, ends}
use Rattle.model.specs.TermReader.{Walked, still, over, walk, walk_of, frames_by, frames_refusal, read_from, entries_by, laid, natural, good_entries, good_actions}
use Rattle.model.specs.Image.{Image as State, PollReply, moved_to, refuse_if, readable, walk_at, unsound_at, unsound_frame_of, end_offset, poll_reply, poll_verdict, poll_of, bounded_poll_of, controlled_poll_of}
use Rattle.model.proofs.Choice.{cond-case, ok-same}
use Rattle.model.proofs.ReadLaws.{walk-moved}
use Rattle.model.proofs.Sound.{sound-true}
use Rattle.image.specs.declared.PollReply.{PollReply as Reply}
use Rattle.image.specs.declared.frames.PolledTo.{PolledTo}
use Rattle.image.specs.Images.{poll_by, image_of, poll_reply_of, polled_to}
use Rattle.image.proofs.Replies.{only-moved, poll-replied}
use Rattle.image.proofs.Rungs.{after, readable-read, poll-after, poll-by}
use Rattle.image.proofs.Places.{walked-first, refused-first}

-- the answer F of a walk that left the lent entries as `out`, from a position p
module _ (v : Reading) (log : List ℕ) (slots : List ℤ) (end limit : ℕ) (acts : List ℕ) (p q : ℕ) (same : p ≡ q) (F : FramesRead) (out : List ℤ)
    (answer : F ≡ frames_by (walk_at v log p end limit acts) (cond (unsound_at v log p end limit) (Err (unsound_frame_of v log p)) (Ok tt)))
    (left : out ≡ entries_by slots (walk_at v log p end limit acts) (cond (unsound_at v log p end limit) (Err (unsound_frame_of v log p)) (Ok tt))) where
  pub frames-unsound : (e : Error) → F ≡ WalkRefused e → (unsound_at v log q end limit ≡ true) × ((out ≡ slots) × (frames_refusal F ≡ unsound_frame_of v log q))
  frames-unsound e h =
      let u = refused-first (unsound_at v log p end limit) (walk_at v log p end limit acts) (unsound_frame_of v log p) e (sym answer ∙ h) in (
        ap (λ (x : ℕ). unsound_at v log x end limit) (sym same) ∙ u.0,
        (
          left ∙ ap (λ (t : Bool). entries_by slots (walk_at v log p end limit acts) (cond t (Err (unsound_frame_of v log p)) (Ok tt))) u.0,
          ap frames_refusal h ∙ u.1 ∙ ap (unsound_frame_of v log) same,
        ),
      )

  pub frames-walked : (w : Walk) → F ≡ AllWalked w
      → (unsound_at v log q end limit ≡ false) × ((walk_of (walk_at v log q end limit acts) ≡ w) × (out ≡ laid slots (walk_at v log q end limit acts).entries))
  frames-walked w h =
      let u = walked-first (unsound_at v log p end limit) (walk_at v log p end limit acts) (unsound_frame_of v log p) w (sym answer ∙ h) in (
        ap (λ (x : ℕ). unsound_at v log x end limit) (sym same) ∙ u.0,
        (
          ap (λ (x : ℕ). walk_of (walk_at v log x end limit acts)) (sym same) ∙ u.1,
          left ∙ ap (λ (t : Bool). entries_by slots (walk_at v log p end limit acts) (cond t (Err (unsound_frame_of v log p)) (Ok tt))) u.0
              ∙ ap (λ (x : ℕ). laid slots (walk_at v log x end limit acts).entries) same,
        ),
      )

  -- it stays in its term
  pub frames-moved : (w : Walk) → F ≡ AllWalked w → w.moved ≤ v.term
  frames-moved w h =
      let e = (frames-walked w h).1.0 in
      omega (arith, ap (λ (x : Walk). x.moved) e, walk-moved v.term log (q / v.term % 3 * v.term) v.term end (q % v.term) limit acts)

-- ---- a read to the term's end, with no handler

-- every fragment has its entry
abbrev Counted : Walked → Type 0
Counted w = w.fragments ≡ length w.entries

each-counted : (fuel : ℕ) (log : List ℕ) (base term end at limit : ℕ) → Counted (walk fuel log base term end at limit [])
unfolding walk
each-counted zero log base term end at limit = refl
each-counted (suc fuel) log base term end at zero = refl
each-counted (suc fuel) log base term end at (suc limit) =
    let go : ℕ → ℕ → List ℕ → Walked = λ a l more. walk fuel log base term end a l more in
    cond-case Counted (leb end at) still (over (frame_at (drop (base + at) log) (term - at)) (ends (flags_at (drop (base + at) log))) at limit [] go) (λ _. refl)
    (λ _. by (frame_at (drop (base + at) log) (term - at)) (ends (flags_at (drop (base + at) log))) go (λ a l. each-counted fuel log base term end a l))
  where
    by : (x : Frame) (whole : Bool) (go : ℕ → ℕ → List ℕ → Walked) → ((a l : ℕ) → Counted (go a l [])) → Counted (over x whole at limit [] go)
    by Absent whole go h = refl
    by (Unsound n) whole go h = refl
    by (Padding n) whole go h = h (at + align n) (suc limit)
    by (Data n) whole go h = ap suc (h (at + align n) limit)

-- the read's answer, taken apart, is a walk's
read-walked : (at : ℕ) (F : FramesRead) (t : TermRead) → read_from at F ≡ Ok t → (w : Walk) × ((F ≡ AllWalked w) × ((at + w.moved ≡ t.offset) × (w.fragments ≡ t.fragments)))
read-walked at (AllWalked w) t h = let e = ok-same h in (w, (refl, (ap (λ (y : TermRead). y.offset) e, ap (λ (y : TermRead). y.fragments) e)))
read-walked at (WalkRefused x) t h = absurd (let z : ◌≡◌ {A = ℕ} 0 1 = cc in omega arith)

read-refused : (at : ℕ) (F : FramesRead) (e : Error) → read_from at F ≡ Err e → F ≡ WalkRefused e
read-refused at (AllWalked w) e h = absurd (let z : ◌≡◌ {A = ℕ} 0 1 = cc in omega arith)
read-refused at (WalkRefused x) e h = cc

module _ (v : Reading) (log : List ℕ) (slots : List ℤ) (limit p q : ℕ) (same : p ≡ q) (R : Result TermRead Error) (out : List ℤ)
    (answer : R ≡ read_from (p % v.term) (frames_by (walk_at v log p v.term limit []) (cond (unsound_at v log p v.term limit) (Err (unsound_frame_of v log p)) (Ok tt))))
    (left : out ≡ entries_by slots (walk_at v log p v.term limit []) (cond (unsound_at v log p v.term limit) (Err (unsound_frame_of v log p)) (Ok tt))) where
  abbrev F : FramesRead
  F = frames_by (walk_at v log p v.term limit []) (cond (unsound_at v log p v.term limit) (Err (unsound_frame_of v log p)) (Ok tt))

  pub on-unsound : (e : Error) → R ≡ Err e → (unsound_at v log q v.term limit ≡ true) × ((out ≡ slots) × (e ≡ unsound_frame_of v log q))
  on-unsound e h =
      let x = read-refused (p % v.term) F e (sym answer ∙ h) in
      let u = frames-unsound v log slots v.term limit [] p q same F out refl left e x in
      (u.0, (u.1.0, sym (ap frames_refusal x) ∙ u.1.1))

  pub record Read-to (e f : ℕ) : Type 0 where
    pub sound-so : unsound_at v log q v.term limit ≡ false
    pub ended : p % v.term + (walk_at v log q v.term limit []).moved ≡ e
    pub fragments : (walk_at v log q v.term limit []).fragments ≡ f
    pub entries : length (walk_at v log q v.term limit []).entries ≡ f
    pub written : out ≡ laid slots (walk_at v log q v.term limit []).entries
    pub in-term : e ≤ p % v.term + v.term

  pub on-walked : (t : TermRead) → R ≡ Ok t → Read-to t.offset t.fragments
  on-walked t h =
      let x = read-walked (p % v.term) F t (sym answer ∙ h) in
      let u = frames-walked v log slots v.term limit [] p q same F out refl left x.0 x.1.0 in
      let m = frames-moved v log slots v.term limit [] p q same F out refl left x.0 x.1.0 in
      let c = each-counted v.term log (partition_of q v.term * v.term) v.term v.term (q % v.term) limit in
      record {
        sound-so = u.0;
        ended = ap (λ (y : Walk). p % v.term + y.moved) u.1.0 ∙ x.1.1.0;
        fragments = ap (λ (y : Walk). y.fragments) u.1.0 ∙ x.1.1.1;
        entries = sym c ∙ ap (λ (y : Walk). y.fragments) u.1.0 ∙ x.1.1.1;
        written = u.1.1;
        in-term = omega (arith, m, x.1.1.0);
      }

-- ---- a call with no limit position ends with its term

module _ (v : Reading) (log : List ℕ) (i : State) (slots : List ℤ) (good : Bool) (limit : ℕ) (acts : List ℕ) where
  abbrev ending : ℕ → PollReply
  ending e = poll_reply i slots (walk_at v log (long i.position) e limit acts) (poll_verdict v log i good e limit)

  -- the reply, once the image has taken the position that the call came to
  pub replied : (e : ℕ) (z : ℤ) (t : PolledTo) → z ≡ t.position → t ≡ polled_to (ending e)
      → ◌≡◌ {A = Reply} (record { next = image_of (moved_to i z); answer = t.answer }) (poll_reply_of (ending e))
  replied e z t ez et = poll-replied i z t (ending e) ez et (only-moved i (walk_at v log (long i.position) e limit acts).moved (poll_verdict v log i good e limit))

  -- a verdict that lets nothing be read decides, wherever the call ends
  decided : (e : ℕ) (x : Result ReadVerdict Error) → x ≡ readable good v (length log) i (Ok Read)
      → ending e ≡ poll_reply i slots (walk_at v log (long i.position) e limit acts) (after x (refuse_if (unsound_at v log (long i.position) e limit) (unsound_frame_of v log (long i.position)) (Ok Read)))
  decided e x h = ap (poll_reply i slots (walk_at v log (long i.position) e limit acts)) (sym (poll-after v log i good e limit x h))

  -- where the image is, what is answered, and the lent entries, told as the reply
  abbrev pub Says : ℕ → ℤ → Result Polled Error → List ℤ → Type 0
  Says e z a out = ◌≡◌ {A = PolledTo} (record { position = z; answer = a }) (polled_to (ending e)) × (out ≡ (ending e).slots)

  pub says-refused : (e : ℕ) (x : Error) → Err x ≡ readable good v (length log) i (Ok Read) → Says e i.position (Err x) slots
  says-refused e x h = let k = sym (decided e (Err x) h) in (ap polled_to k, ap (λ (y : PollReply). y.slots) k)

  pub says-closed : (e : ℕ) → Ok Closed ≡ readable good v (length log) i (Ok Read) → Says e i.position (Ok (record { fragments = 0; entries = 0 })) slots
  says-closed e h = let k = sym (decided e (Ok Closed) h) in (ap polled_to k, ap (λ (y : PollReply). y.slots) k)

  pub to-term : ending (end_offset v (long i.position) 9223372036854775807) ≡ ending v.term
  to-term = go (readable good v (length log) i (Ok Read)) refl
    where
      go : (x : Result ReadVerdict Error) → x ≡ readable good v (length log) i (Ok Read) → ending (end_offset v (long i.position) 9223372036854775807) ≡ ending v.term
      go (Ok Read) h =
          let k = readable-read good v (length log) i h in
          let e : end_offset v (long i.position) 9223372036854775807 ≡ v.term = omega (arith, k.high, (sound-true _ _ k.sound).term-high) in
          ap ending e
      go (Ok Closed) h = decided _ (Ok Closed) h ∙ sym (decided v.term (Ok Closed) h)
      go (Err e) h = decided _ (Err e) h ∙ sym (decided v.term (Err e) h)

-- ---- the walk's answer, told as the reply of a call whose ladder has passed

module _ (v : Reading) (log : List ℕ) (i : State) (slots : List ℤ) (good : Bool) (limit : ℕ) (acts : List ℕ) (told : Ok Read ≡ readable good v (length log) i (Ok Read)) where
  abbrev by-row : ℕ → Bool → PollReply
  by-row e b = poll_reply i slots (walk_at v log (long i.position) e limit acts) (refuse_if b (unsound_frame_of v log (long i.position)) (Ok Read))

  row-is : (e : ℕ) (b : Bool) → unsound_at v log (long i.position) e limit ≡ b → by-row e b ≡ ending v log i slots good limit acts e
  row-is e b h = ap (poll_reply i slots (walk_at v log (long i.position) e limit acts)) (poll-by v log i good e limit b h told)

  says-unsound : (e : ℕ) (x : Error) (out : List ℤ) → unsound_at v log (long i.position) e limit ≡ true → out ≡ slots → x ≡ unsound_frame_of v log (long i.position)
      → Says v log i slots good limit acts e i.position (Err x) out
  says-unsound e x out h o k =
      let r = row-is e true h in
      let made : Error → PolledTo = λ (y : Error). record { position = i.position; answer = Err y } in
      (ap made k ∙ ap polled_to r, o ∙ ap (λ (y : PollReply). y.slots) r)

  module _ (end e p : ℕ) (ee : end ≡ e) (ep : p ≡ long i.position) (F : FramesRead) (out : List ℤ)
      (answer : F ≡ frames_by (walk_at v log p end limit acts) (cond (unsound_at v log p end limit) (Err (unsound_frame_of v log p)) (Ok tt)))
      (left : out ≡ entries_by slots (walk_at v log p end limit acts) (cond (unsound_at v log p end limit) (Err (unsound_frame_of v log p)) (Ok tt))) where
    pub says-first : (x : Error) → F ≡ WalkRefused x → Says v log i slots good limit acts e i.position (Err (frames_refusal F)) out
    says-first x h =
        let u = frames-unsound v log slots end limit acts p _ ep F out answer left x h in
        subst (λ (n : ℕ). Says v log i slots good limit acts n i.position (Err (frames_refusal F)) out) ee (says-unsound end _ out u.0 u.1.0 u.1.1)

    pub says-walked : (w : Walk) → F ≡ AllWalked w → Says v log i slots good limit acts e (pos (p + w.moved)) (Ok (record { fragments = w.fragments; entries = w.entries })) out
    says-walked w h =
        let u = frames-walked v log slots end limit acts p _ ep F out answer left w h in
        let r = row-is end false u.0 in
        let to : ℕ → Walk → PolledTo = λ (q : ℕ) (y : Walk). record { position = pos (q + y.moved); answer = Ok (record { fragments = y.fragments; entries = y.entries }) } in
        subst (λ (n : ℕ). Says v log i slots good limit acts n (pos (p + w.moved)) (Ok (record { fragments = w.fragments; entries = w.entries })) out) ee
        (ap₂ to ep (sym u.1.0) ∙ ap polled_to r, u.1.1 ∙ ap (λ (y : PollReply). y.slots) r)

    pub walked-to : (w : Walk) → F ≡ AllWalked w → p + w.moved ≤ 4611686018427387904
    walked-to w h =
        let k = readable-read good v (length log) i told in
        let m = frames-moved v log slots end limit acts p _ ep F out answer left w h in
        omega (arith, ep, k.high, m, (sound-true _ _ k.sound).term-high)

module _ (v : Reading) (log : List ℕ) (i : State) (slots : List ℤ) (good : Bool) (limit : ℕ) (told : Ok Read ≡ readable good v (length log) i (Ok Read))
    (p at : ℕ) (ep : p ≡ long i.position) (ea : at ≡ p % v.term) (R : Result TermRead Error) (out : List ℤ)
    (answer : R ≡ read_from (p % v.term) (frames_by (walk_at v log p v.term limit []) (cond (unsound_at v log p v.term limit) (Err (unsound_frame_of v log p)) (Ok tt))))
    (left : out ≡ entries_by slots (walk_at v log p v.term limit []) (cond (unsound_at v log p v.term limit) (Err (unsound_frame_of v log p)) (Ok tt))) where
  pub says-on-refused : (x : Error) → R ≡ Err x → Says v log i slots good limit [] v.term i.position (Err x) out
  says-on-refused x h =
      let u = on-unsound v log slots limit p _ ep R out answer left x h in
      says-unsound v log i slots good limit [] told v.term x out u.0 u.1.0 u.1.1

  on-low : at ≤ p
  on-low = omega (arith, ea, mod-le p v.term)

  pub says-on-read : (t : TermRead) → R ≡ Ok t → Says v log i slots good limit [] v.term (pos (p - at + t.offset)) (Ok (record { fragments = t.fragments; entries = t.fragments })) out
  says-on-read t h =
      let u = on-walked v log slots limit p _ ep R out answer left t h in
      let r = row-is v log i slots good limit [] told v.term false u.sound-so in
      let z : p - at + t.offset ≡ long i.position + (walk_at v log (long i.position) v.term limit []).moved = omega (arith, on-low, ea, u.ended, ep) in
      let to : ℕ → ℕ → ℕ → PolledTo = λ (q f e : ℕ). record { position = pos q; answer = Ok (record { fragments = f; entries = e }) } in
      (ap (λ (q : ℕ). to q t.fragments t.fragments) z ∙ ap₂ (to _) (sym u.fragments) (sym u.entries) ∙ ap polled_to r, u.written ∙ ap (λ (y : PollReply). y.slots) r)

  pub read-to : (t : TermRead) → R ≡ Ok t → (at ≤ p) × (p - at + t.offset ≤ 4611686018427387904)
  read-to t h =
      let k = readable-read good v (length log) i told in
      let u = on-walked v log slots limit p _ ep R out answer left t h in
      (on-low, omega (arith, on-low, ea, ep, u.in-term, k.high, (sound-true _ _ k.sound).term-high))

-- ---- the three calls, with the numbers as the code has them

module _ (log : List ℕ) (i : State) (slots : List ℤ) (fragments : ℤ) (v : Reading) where
  pub as-numbers : (limit : ℕ) (good : Bool) → limit ≡ natural fragments → good ≡ good_entries (length slots) limit → ending v log i slots good limit [] v.term ≡ poll_by v log i slots fragments
  as-numbers limit good el eg =
      ap (λ (b : Bool). ending v log i slots b limit [] v.term) eg ∙ ap (λ (l : ℕ). ending v log i slots (good_entries (length slots) l) l [] v.term) el

  pub as-poll : (r : LogRecord) → v ≡ reading r → poll_by v log i slots fragments ≡ poll_of r log i slots fragments
  unfolding poll_of
  as-poll r ev = ap (λ (x : Reading). poll_by x log i slots fragments) ev

module _ (r : LogRecord) (log : List ℕ) (i : State) (slots : List ℤ) (fragments : ℤ) (v : Reading) (limit : ℕ) (good : Bool) (ev : v ≡ reading r) (el : limit ≡ natural fragments) where
  pub as-controlled : (acts : List ℕ) → good ≡ (good_entries (length slots) limit && (good_actions acts && (leb (length acts) 2147483647 && leb limit (length acts))))
      → ending v log i slots good limit acts (end_offset v (long i.position) 9223372036854775807) ≡ controlled_poll_of r log i slots acts fragments
  unfolding controlled_poll_of
  as-controlled acts eg =
      let f : Reading → ℕ → PollReply = λ (x : Reading) (l : ℕ). ending x log i slots (good_entries (length slots) l && (good_actions acts && (leb (length acts) 2147483647 && leb l (length acts)))) l acts x.term in
      to-term v log i slots good limit acts ∙ ap (λ (b : Bool). ending v log i slots b limit acts v.term) eg ∙ ap₂ f ev el

  pub as-bounded : (position : ℤ) (bound : ℕ) → good ≡ good_entries (length slots) limit → bound ≡ natural position
      → ending v log i slots good limit [] (end_offset v (long i.position) bound) ≡ bounded_poll_of r log i slots position fragments
  unfolding bounded_poll_of
  as-bounded position bound eg eb =
      let f : Reading → ℕ → ℕ → Bool → PollReply = λ (x : Reading) (l b : ℕ) (g : Bool). ending x log i slots g l [] (end_offset x (long i.position) b) in
      ap₂ (λ (x : Reading) (l : ℕ). f x l bound good) ev el ∙ ap₂ (f (reading r) (natural fragments)) eb (eg ∙ ap (good_entries (length slots)) el)
