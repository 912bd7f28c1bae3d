-- An append by the numbers that were read is the one that the definitions answer.
use mathlib.Core.Path.{◌≡◌, refl, sym, subst, ap, ◌∙◌}
use mathlib.Core.List.{List}
use Prim.Native.Nat.{ℕ, ◌+◌, ◌*◌, ◌%◌, ◌≤◌, ◌<◌}
use native.Mathlib.Omega.{arith}
use lib.ListN.{length}
use lib.IntN.{ℤ, pos}
use mir.Syntax.{w32}
use mir.Val.{to_z}
use Rattle.model.specs.declared.LogRecord.{LogRecord}
use Rattle.model.specs.declared.Reading.{Reading}
use Rattle.model.specs.declared.Claim.{Claim}
use Rattle.model.specs.declared.AppendReply.{AppendReply}
use Rattle.model.specs.declared.AppendClaimReply.{AppendClaimReply}
use Rattle.model.specs.FrameDescriptor.{space}
use Rattle.model.specs.LogBufferDescriptor.{reading_of}
use Rattle.model.specs.TermAppender.{cut, need, written, claimed, bytes_by, claim_record, claim_appended_by}
use Rattle.model.proofs.Sound.{id-small}
use Rattle.model.proofs.Append.{append_reply, append_bytes, claiming_reply, claiming_bytes, unfragmented-good}
use Rattle.logbuffer.specs.declared.way.Way.{Way}
use Rattle.logbuffer.specs.Ways.{way_by, course_of, claim_course, claim_way, one_way_bytes, reply_with, claim_reply_with}
use Rattle.logbuffer.proofs.Ways.{message-by, message-good, one-is, claim-by, claim-course}

pub append-by : (r : LogRecord) (log out m : List ℕ) (v : Reading) (k p z z' : ℕ) (w : Way) (reply : AppendReply) → v ≡ reading_of r k → k ≤ 2 → 32 ≤ p → p ≤ 65472 → p % 32 ≡ 0
    → length m ≤ 2147483647 → z ≡ z' → w ≡ way_by v (need p (length m)) (course_of v (length log) k p (length m) v.id)
    → out ≡ bytes_by v k log (written v log (k * v.term) v.offset (cut p z m)) (course_of v (length log) k p (length m) v.id) → reply ≡ reply_with r k w
    → (reply ≡ append_reply r log k p m v.id) × (out ≡ append_bytes r log k p m z' v.id)
append-by r log out m v k p z z' w reply ev hk low high multiple short ez ew eo er =
    let b = message-by r log out m v k p v.id v.id z z' w reply ev refl ez ew eo er in
    let e = message-good r log m k p z' v.id hk low (omega arith) multiple short in
    (b.0 ∙ e.0, b.1 ∙ e.1)

-- the same of a message that one frame holds
pub one-by : (r : LogRecord) (log out m : List ℕ) (v : Reading) (k p z z' : ℕ) (w : Way) (reply : AppendReply) → v ≡ reading_of r k → k ≤ 2 → 32 ≤ p → p ≤ 65472 → p % 32 ≡ 0
    → length m ≤ 2147483647 → z ≡ z' → length m ≤ p → w ≡ claim_way v log k (length m) v.id → out ≡ one_way_bytes v log k m z v.id → reply ≡ reply_with r k w
    → (reply ≡ append_reply r log k p m v.id) × (out ≡ append_bytes r log k p m z' v.id)
one-by r log out m v k p z z' w reply ev hk low high multiple short ez one ew eo er =
    let hid : v.id < 4294967296 = subst (λ (u : Reading). u.id < 4294967296) (sym ev) (id-small r k) in
    let e = one-is v k p v.id z log m hk hid low (omega arith) multiple one short in
    append-by r log out m v k p z z' w reply ev hk low high multiple short ez (ew ∙ e.0) (eo ∙ e.1) er

pub claiming-by : (r : LogRecord) (log out : List ℕ) (v : Reading) (k n : ℕ) (w : Way) (c : Claim) (reply : AppendClaimReply) → v ≡ reading_of r k → k ≤ 2 → n ≤ 2147483647
    → w ≡ way_by v (space n) (claim_course v (length log) k n v.id) → out ≡ bytes_by v k log (claimed v log (k * v.term) n) (claim_course v (length log) k n v.id)
    → reply ≡ claim_reply_with r k w c → c ≡ claim_record v k n
    → (reply ≡ claiming_reply r log k n v.id) × (out ≡ claiming_bytes r log k n v.id)
claiming-by r log out v k n w c reply ev hk short ew eo er ec =
    let b = claim-by r log out v k n v.id v.id w c reply ev refl ew eo er (λ _ _. ec) in
    let e = claim-course r (length log) k n v.id ∙ unfragmented-good r (length log) k n v.id hk short in
    (b.0 ∙ ap (claim_appended_by r (reading_of r k) k n) e, b.1 ∙ ap (bytes_by (reading_of r k) k log (claimed (reading_of r k) log (k * (reading_of r k).term) n)) e)

-- the claim's record, number by number
pub claim-record-is : (v : Reading) (k n : ℕ) (a b l i : ℤ) → a ≡ pos k → b ≡ pos v.offset → l ≡ pos (n + 32) → i ≡ to_z w32 v.id
    → record { partition = a; offset = b; length = l; term_id = i } ≡ claim_record v k n
unfolding claim_record
claim-record-is v k n a b l i ea eb el ei = cc
