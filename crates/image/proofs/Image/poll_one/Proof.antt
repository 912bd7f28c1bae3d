-- A poll with room for one entry; the entry is the first of what it wrote.
use mathlib.Core.Path.{◌≡◌, refl, ap, ◌∙◌}
use mathlib.Core.Bool.{true}
use mathlib.Core.List.{List, []}
use lib.ListN.{get_or, replicate}
use lib.IntN.{ℤ, pos}
use mir.Syntax.{w32, w64}
use mir.Val.{to_z, of_z}
use mir.Facts.{to_z-of_z}
use Rattle.model.specs.Bytes.{long}
use Rattle.model.specs.Image.{end_offset}
use Rattle.image.specs.Images.{state_of, poll_reply_of}
use Rattle.image.proofs.Polls.{as-numbers, as-poll, to-term, replied}
use borrow.Author.Rules.{rules}
use Rattle.image.proofs.Image.poll_one.Statement.{statement}
use Rattle.image.proofs.Image.poll_one.Tie as tie

returns : tie.Need-returns
returns c =
    let s = c in
    let a = s.args in
    let v = c.read_active-v.result in
    let f = c.poll_frames-to in
    let two = replicate 2 (pos 0) in
    let z : to_z w64 (of_z w64 f.result.position) ≡ f.result.position = to_z-of_z {w = w64} {z = f.result.position} (search rules) in
    let k = to-term v a.log.now (state_of a.self) two true 1 [] ∙ as-numbers a.log.now (state_of a.self) two (pos 1) v 1 true refl refl ∙ as-poll a.log.now (state_of a.self) two (pos 1) v a.rec c.read_active-v.ensures in
    let n = replied v a.log.now (state_of a.self) two true 1 [] (end_offset v (long a.self.position) 9223372036854775807) _ f.result z f.ensures.0 in
    (n ∙ ap poll_reply_of k, to_z-of_z {w = w32} {z = get_or f.new.entries 0 (pos 0)} (search rules) ∙ ap (λ (s : List ℤ). get_or s 0 (pos 0)) (f.ensures.1 ∙ ap (λ x. x.slots) k))

pub poll_one_spec : {M : Type 1} → statement M
poll_one_spec =
    tie.close
    (tie.spec
    (search rules)
    (search rules)
    (search rules)
    (search rules)
    (search rules)
    (λ c κs. λ h. (refl, refl))
    (search rules)
    returns)
