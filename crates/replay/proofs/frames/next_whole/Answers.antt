-- The term, if it is open, and the frame at the image's position.
use Rattle.std.proofs.Common.{rules, ◌≡◌, length, ℕ, refl, sym, ap, ap₂, subst, ◌∙◌, arith}
use Rattle.model.specs.declared.Reading.{Reading}
use Rattle.model.specs.Bytes.{long}
use Rattle.model.specs.LogBufferDescriptor.{reading}
use Rattle.image.specs.Images.{state_of as image_state}
use Rattle.logbuffer.proofs.Signed.{long-by}
use Rattle.replay.specs.InPlace.{TermsOf, stop_at, index_at, whole_at, open_term, whole_of, whole_with}
use Rattle.replay.proofs.InPlace.{open-terms, readings, whole-near, whole-at}
use Rattle.replay.proofs.frames.next_whole.Goals as goal

pub stop_at-requires : goal.stop_at-requires
stop_at-requires c = readings c.args.rec _ c.read_active-v.ensures (search rules)

pub whole_from-found-requires : goal.whole_from-found-requires
whole_from-found-requires c = (subst (TermsOf (length c.args.log.now)) (sym c.open_term-term.ensures) (open-terms _ _ _ _), omega arith)

pub returns : goal.returns
returns c =
    let a = c.args in
    let r = a.rec in
    let i = image_state a.image in
    let log = a.log.now in
    let p = long a.image.position in
    let term = open_term i (reading r) (length log) a.lent in
    let p-is : c.long-p.result ≡ p = long-by a.image.position c.long-p.ensures.0 (search rules) in
    let term_is : c.open_term-term.result ≡ term = c.open_term-term.ensures ∙ ap (λ (v : Reading). open_term i v (length log) a.lent) c.read_active-v.ensures in
    let stop_is : c.stop_at.result ≡ stop_at (reading r) = c.stop_at.ensures ∙ ap stop_at c.read_active-v.ensures in
    c.whole_from-found.ensures.0
    ∙ ap (λ (x : ℕ). whole_with (index_at c.open_term-term.result c.long-p.result) (whole_at log c.open_term-term.result x c.long-p.result)) stop_is
    ∙ ap₂ (λ (t q : ℕ). whole_with (index_at t q) (whole_at log t (stop_at (reading r)) q)) term_is p-is
    ∙ whole-at (index_at term p) (index_at (reading r).term p) (whole_of r log i a.lent) (λ h. ap (λ (t : ℕ). index_at t p) (whole-near r log i a.lent _ refl h).term_is)
