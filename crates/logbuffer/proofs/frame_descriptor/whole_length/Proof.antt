-- Room for a header, then the frame, then both flags by one test.
use Rattle.std.proofs.Common.{◌≡◌, ◌<◌, drop, sym, refl, ap, ◌∙◌, ap₂, arith, get_or-drop, rules}
use Rattle.model.specs.declared.Frame.TheVariants.{Data}
use Rattle.model.specs.FrameDescriptor.{frame_at, flags_at}
use Rattle.model.proofs.FrameLaws.{Lies, lies}
use Rattle.logbuffer.specs.Whole.{whole_length, length_found, whole_frame}
use Rattle.logbuffer.proofs.Whole.{no-data, found as is-found, no_room, whole-as, none-whole, part-whole, is_whole}
use Rattle.logbuffer.proofs.frame_descriptor.whole_length.Statement.{statement}
use Rattle.logbuffer.proofs.frame_descriptor.whole_length.Tie as tie

returns : tie.Need-returns-then-size-lt-HEADER_LENGTH
returns c = let a = c.args in no_room a.log.now a.at a.room (omega arith)

returns-2 : tie.Need-returns-then-at-size
returns-2 c = let a = c.args in no_room a.log.now a.at a.room (omega arith)

returns-3 : tie.Need-returns-in_default
returns-3 c =
    let a = c.args in
    let x = c.frame_inside.result in
    ap length_found
    (sym (none-whole (flags_at (drop a.at a.log.now)) x (no-data x c.in_default.in_default-own.keys2))
    ∙ ap (whole_length (flags_at (drop a.at a.log.now))) c.frame_inside.ensures ∙ whole-as a.log.now a.at a.room (omega arith))

-- the flags byte by its own index
flags : (c : tie.After-byte) → let a = c.args in c.byte.result ≡ flags_at (drop a.at a.log.now)
flags c = let a = c.args in c.byte.ensures.0 ∙ sym (get_or-drop a.at a.log.now 5 0)

-- the frame that was found, as one of that length
found : (c : tie.After-byte) → let a = c.args in Data c.in-Data.n ≡ frame_at (drop a.at a.log.now) a.room
found c = sym c.in-Data.is ∙ c.frame_inside.ensures

-- and its whole length as that of the place
whole : (c : tie.After-byte) → let a = c.args in whole_length c.byte.result (Data c.in-Data.n) ≡ whole_frame a.log.now a.at a.room
whole c = let a = c.args in ap₂ whole_length (flags c) (found c) ∙ whole-as a.log.now a.at a.room (omega arith)

-- a data frame has a length
some : (c : tie.After-byte) → 0 < c.in-Data.n
some c = let l : Lies c.in-Data.n c.args.room = lies _ _ (Data c.in-Data.n) (sym (found c)) refl in omega (arith, l.header)

-- The answers at the test of the flags stand in the list, by no name that has the test in it.
pub whole_length_spec : {M : Type 1} → statement M
whole_length_spec =
    tie.close
    (tie.spec
    returns
    returns-2
    (search rules)
    (search rules)
    returns-3
    (search rules)
    (search rules)
    (λ c. ap length_found (sym (part-whole c.byte.result (Data c.in-Data.n) (λ e. omega arith)) ∙ whole c.before))
    (λ c. is-found c.in-Data.n (some c.before) ∙ ap length_found (sym (is_whole c.byte.result (Data c.in-Data.n) (omega arith)) ∙ whole c.before)))
