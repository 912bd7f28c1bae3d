-- A walk over a log's messages, as a batch and a count go: by a whole message as it lies, or by a reply with the sessions lent. It keeps the term.
use Rattle.std.specs.Prelude.{Some, Result, Ok}
use Rattle.model.specs.declared.Error.{Error}
use Prim.Native.Nat.{ℕ, ◌+◌, ◌-◌, ◌*◌, ◌/◌, ◌≤◌, ◌<◌}
use mathlib.Core.Path.{◌≡◌, refl, sym, ap, ap₂, ◌∙◌}
use mathlib.Core.Bool.{true}
use mathlib.Core.List.{List}
use native.Mathlib.Omega.{arith}
use lib.IntN.{ℤ, pos}
use lib.ListN.{length}
use mir.Syntax.{w32, w64}
use mir.Val.{SFits, to_z, of_z}
use mir.Facts.{to_z-of_z, to_z_pos}
use Rattle.model.specs.declared.LogRecord.{LogRecord}
use Rattle.model.specs.declared.Replayed.TheVariants.{InLog}
use Rattle.model.specs.Bytes.{long}
use Rattle.model.specs.LogBufferDescriptor.{reading}
use Rattle.model.specs.FrameDescriptor.{align}
use Rattle.model.specs.Image.{Image, moved_to}
use Rattle.model.specs.Replay.{ReplayState, NextReply, next_of}
use Rattle.replay.specs.declared.Replay.{Replay}
use Rattle.replay.specs.declared.BatchReply.{BatchReply}
use Rattle.replay.specs.Batches.{Batch, laid_at, batch_from, batch_reply_of}
use Rattle.replay.specs.declared.frames.Whole.{Whole}
use Rattle.replay.specs.InPlace.{stop_at, index_at, whole_at, open_term, whole_of, whole_with}
use Rattle.replay.specs.Replays.{state_of, added_to, gives_by, length_by, count_from, count_of}
use Rattle.replay.proofs.InPlace.{open-moved, whole-near, whole-some, whole_says, whole_reply}
use Rattle.replay.proofs.Gather.{open_kept}
use Rattle.replay.proofs.Turns.{count-goes}
use Rattle.replay.proofs.Batching.{batch-goes}

-- where the image stands behind n bytes at p, by the numbers of the code
abbrev pub behind : Image → ℕ → ℕ → Image
behind i p n = moved_to i (to_z w64 (p + (n + 31) / 32 * 32))

-- a whole message, found where the image stands
pub record Here (r : LogRecord) (log : List ℕ) (i : Image) (lent term p : ℕ) (w : Whole) : Type 0 where
  pub some : 0 < w.length
  pub said : whole_of r log i lent ≡ w.length
  pub position : p < 2305843009213693952
  pub header : 32 ≤ w.length
  pub small : w.length < 2147483648
  pub index_found : w.index ≡ index_at term p
  pub index_is : index_at term p ≡ index_at (reading r).term (long i.position)
  pub index_small : index_at term p < 3221225472
  pub end_is : p + (w.length + 31) / 32 * 32 ≡ long i.position + align w.length
  pub behind_is : to_z w64 (p + (w.length + 31) / 32 * 32) ≡ pos (long i.position + align w.length)
  pub term_kept : term ≡ open_term (behind i p w.length) (reading r) (length log) lent

pub here : (r : LogRecord) (log : List ℕ) (i : Image) (lent term stop p : ℕ) (w : Whole) → term ≡ open_term i (reading r) (length log) lent → stop ≡ stop_at (reading r) → p ≡ long i.position
    → Some w ≡ whole_with (index_at term p) (whole_at log term stop p) → Here r log i lent term p w
here r log i lent term stop p w et es ep ew =
    let n = w.length in
    let f = whole-some (index_at term p) (whole_at log term stop p) w ew in
    let said : whole_of r log i lent ≡ n =
    sym (sym f.0 ∙ ap (λ (x : ℕ). whole_at log term x p) es ∙ ap₂ (λ (t q : ℕ). whole_at log t (stop_at (reading r)) q) et ep) in
    let near = whole-near r log i lent n said f.1.1 in
    let same : index_at term p ≡ index_at (open_term i (reading r) (length log) lent) (long i.position) = ap₂ index_at et ep in
    let ends : p + (n + 31) / 32 * 32 ≡ long i.position + align n = ap (λ (x : ℕ). x + align n) ep in
    let low : p < 2305843009213693952 = omega (arith, near.position, ep) in
    record {
      some = f.1.1;
      said = said;
      position = low;
      header = near.header;
      small = near.small;
      index_found = f.1.0;
      index_is = same ∙ ap (λ (t : ℕ). index_at t (long i.position)) near.term_is;
      index_small = omega (arith, same, near.index);
      end_is = ends;
      behind_is = to_z_pos w64 (omega (arith, low, near.small)) ∙ ap pos ends;
      term_kept = et ∙ sym (open-moved i (to_z w64 (p + (n + 31) / 32 * 32)) (reading r) (length log) lent);
    }

-- a reply keeps the term too
pub term_on : (r : LogRecord) (log : List ℕ) (s : ReplayState) (y : NextReply) (term lent : ℕ) → term ≡ open_term s.image (reading r) (length log) (length s.buffer) → lent ≡ length s.buffer
    → y ≡ next_of r log s → term ≡ open_term y.next.image (reading r) (length log) lent
term_on r log s y term lent et el ey =
    et ∙ ap (open_term s.image (reading r) (length log)) (sym el) ∙ sym (open_kept r log s y (reading r) (length log) lent ey)

-- ---- counted

module _ (r : LogRecord) (log : List ℕ) (s : ReplayState) (messages bytes left less sum : ℕ) (some : 0 < left) (one : less ≡ left - 1) where
  pub count_whole : (term p : ℕ) (w : Whole) → Here r log s.image (length s.buffer) term p w → sum ≡ added_to bytes (w.length - 32)
      → count_from less r log (record { image = behind s.image p w.length; sessions = s.sessions; buffer = s.buffer }) (messages + 1) sum ≡ count_from left r log s messages bytes
  count_whole term p w h e =
      let n = w.length in
      ap₂ (λ (k b : ℕ). count_from k r log (record { image = behind s.image p n; sessions = s.sessions; buffer = s.buffer }) (messages + 1) b) one e
      ∙ ap (λ (y : ℤ). count_from (left - 1) r log (record { image = moved_to s.image y; sessions = s.sessions; buffer = s.buffer }) (messages + 1) (added_to bytes (n - 32))) h.behind_is
      ∙ count-goes r log s messages bytes left some (whole_reply (reading r).term s n) (whole_says r log s n h.said h.some) refl

  pub count_reply : (y : NextReply) → y ≡ next_of r log s → gives_by y.answer ≡ true → sum ≡ added_to bytes (length_by y.answer)
      → count_from less r log y.next (messages + 1) sum ≡ count_from left r log s messages bytes
  count_reply y ey g e =
      ap₂ (λ (k b : ℕ). count_from k r log y.next (messages + 1) b) one e ∙ count-goes r log s messages bytes left some y ey g

pub count_signed : (r : LogRecord) (log : List ℕ) (from session : ℤ) (buffer : List ℕ) → SFits w64 from → SFits w32 session
    → count_of r log (to_z w64 (of_z w64 from)) (to_z w32 (of_z w32 session)) buffer ≡ count_of r log from session buffer
count_signed r log from session buffer ef es = ap₂ (λ (x y : ℤ). count_of r log x y buffer) (to_z-of_z ef) (to_z-of_z es)

-- ---- in a batch

-- a batch that ends, by its two parts
pub batch_made : (x : BatchReply) (p : Replay) (a : Result ℕ Error) (buffer numbers : List ℕ) → x.next ≡ p → x.answer ≡ a
    → batch_reply_of x buffer numbers ≡ record { answer = a; next = state_of p buffer; numbers = numbers }
batch_made x p a buffer numbers ep ea = ap₂ {C = Batch} (λ (q : Replay) (y : Result ℕ Error). record { answer = y; next = state_of q buffer; numbers = numbers }) ep ea

module _ (r : LogRecord) (log : List ℕ) (s : ReplayState) (slots out : List ℕ) (i left less : ℕ) (some : 0 < left) (one : less ≡ left - 1) where
  pub batch_whole : (term p : ℕ) (w : Whole) → Here r log s.image (length s.buffer) term p w → out ≡ laid_at slots i 1 (w.index + 32) (w.length - 32) (p + (w.length + 31) / 32 * 32)
      → batch_from less r log (record { image = behind s.image p w.length; sessions = s.sessions; buffer = s.buffer }) out (i + 1) ≡ batch_from left r log s slots i
  batch_whole term p w h e =
      let n = w.length in
      let X = index_at (reading r).term (long s.image.position) in
      let at = long s.image.position + align n in
      ap₂ (λ (k : ℕ) (o : List ℕ). batch_from k r log (record { image = behind s.image p n; sessions = s.sessions; buffer = s.buffer }) o (i + 1)) one
      (e ∙ ap₂ (λ (j q : ℕ). laid_at slots i 1 (j + 32) (n - 32) q) (h.index_found ∙ h.index_is) h.end_is)
      ∙ ap (λ (y : ℤ). batch_from (left - 1) r log (record { image = moved_to s.image y; sessions = s.sessions; buffer = s.buffer }) (laid_at slots i 1 (X + 32) (n - 32) at) (i + 1)) h.behind_is
      ∙ batch-goes r log s slots i left some (whole_reply (reading r).term s n) (whole_says r log s n h.said h.some) (X + 32) (n - 32) refl

  pub batch_on : (y : NextReply) → y ≡ next_of r log s → (from n p : ℕ) → y.answer ≡ Ok (InLog from n) → p ≡ long y.next.image.position → out ≡ laid_at slots i 1 from n p
      → batch_from less r log y.next out (i + 1) ≡ batch_from left r log s slots i
  batch_on y ey from n p ea ep e =
      ap₂ (λ (k : ℕ) (o : List ℕ). batch_from k r log y.next o (i + 1)) one (e ∙ ap (laid_at slots i 1 from n) ep)
      ∙ batch-goes r log s slots i left some y ey from n ea
