-- A trip pads, and leaves no other way the log changed.
use Rattle.std.proofs.Common.{length, sym, ap, ◌∙◌, arith, rules}
use Rattle.model.specs.declared.Course.TheVariants.{Trip}
use Rattle.model.specs.TermAppender.{bytes_by}
use Rattle.model.proofs.Sound.{term-32}
use Rattle.model.proofs.Append.{Goes, course-says, base-in}
use Rattle.logbuffer.proofs.Appending.{no-trip}
use Rattle.logbuffer.proofs.term_appender.begin_append.Statement.{statement}
use Rattle.logbuffer.proofs.term_appender.begin_append.Tie as tie

-- a trip is one past the term's end, in a sound log
trips : (c : tie.In-Trip) → (let s = c.args in Goes s.v (length s.log.now) s.needed s.given Trip)
trips c = let s = c.args in course-says s.v (length s.log.now) s.needed s.given Trip (sym c.judge-way.ensures ∙ c.in-Trip.is)

mul-write-padding : tie.Need-overflow_mul-k
mul-write-padding c = let s = c in let w = trips c.before in omega (arith, base-in s.args.k s.args.v.term s.requires.0, w.0.sound-so)

write-padding-requires : tie.Need-write_padding-requires
write-padding-requires c κs = let s = c in
    let w = trips c.before in
    let z = term-32 s.args.v _ w.0.sound-so in
    (omega (arith, base-in s.args.k s.args.v.term s.requires.0, w.0.sound-so.three), (s.requires.1.0, (omega (arith, w.0.sound-so), λ h. omega (arith, w.0.sound-so.offset-32))))

returns : tie.Need-returns-in-Trip
returns c = let s = c.args in
    let e = sym c.in-Trip.is ∙ c.judge-way.ensures in
    (c.judge-way.ensures, c.write_padding.ensures ∙ ap (bytes_by s.v s.k s.log.now s.log.now) e)

returns-2 : tie.Need-returns-in_default
returns-2 c = let s = c.args in
    (c.judge-way.ensures, no-trip s.v s.k s.log.now c.judge-way.result c.in_default.in_default-own.keys2 ∙ ap (bytes_by s.v s.k s.log.now s.log.now) c.judge-way.ensures)

pub begin_append_spec : {M : Type 1} → statement M
begin_append_spec =
    tie.close
    (tie.spec
    (search rules)
    (search rules)
    mul-write-padding
    write-padding-requires
    (search rules)
    returns
    returns-2)
