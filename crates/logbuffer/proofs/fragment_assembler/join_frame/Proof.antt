-- What is said of a frame (`joining`) is done with it.
use Rattle.std.specs.Prelude.{Result}
use Rattle.model.specs.declared.Error.{Error}
use Rattle.std.proofs.Common.{◌≡◌, ℕ, ◌+◌, ◌-◌, ◌/◌, ◌<◌, ◌≤◌, length, drop, ℤ, sym, refl, ap, ◌∙◌, subst, arith, to_z-of_z, w32, to_z, of_z, rules}
use Rattle.model.specs.Bytes.{i32}
use Rattle.model.specs.FragmentAssembler.{Sessions, holding, joining, sessions_by, assembled_by, joined_at}
use Rattle.model.specs.declared.Assembled.{Assembled}
use Rattle.model.specs.declared.Joining.{Joining}
use Rattle.model.specs.declared.Joining.TheVariants.{Through, Ignore, Full, TooLong, Join, Complete}
use Rattle.logbuffer.specs.Assembler.{sessions_as, Enters, held_at, leaving}
use Rattle.logbuffer.specs.declared.fragment_assembler.Joined.{Joined}
use Rattle.logbuffer.proofs.Sessions.{part_in, held_in}
use Rattle.logbuffer.proofs.Assembly.{three, Fit, join-fits, Done, done}
use Rattle.logbuffer.proofs.fragment_assembler.join_frame.Statement.{statement}
use Rattle.logbuffer.proofs.fragment_assembler.join_frame.Tie as tie

-- the numbers read from the header
abbrev st : tie.After-joining → tie.Start
st c = c.before.before.before.before.before.before.before.before

abbrev ss : tie.After-joining → Sessions
ss c = sessions_as (st c).args.count (st c).args.ids.now (st c).args.held.now

abbrev w : tie.After-joining → ℕ
w c = c.finished_length-n.result

abbrev z : tie.After-joining → ℤ
z c = to_z w32 (of_z w32 c.to_i32-session.result)

abbrev part : tie.After-joining → ℕ
part c = length (st c).args.buffer.now / 16

session : (c : tie.After-joining) → z c ≡ i32 (drop ((st c).args.place + 12) (st c).args.log.now)
session c = to_z-of_z {w = w32} {z = c.to_i32-session.result} (search rules) ∙ c.to_i32-session.ensures ∙ ap (to_z w32) c.word4.ensures.0

joins : (c : tie.After-joining) → c.joining.result ≡ joining (ss c) (z c) c.byte-flags.result (w c - 32) (part c)
joins c = c.joining.ensures

abbrev assembled : (c : tie.After-joining) → Joining → Result Assembled Error
assembled c x = assembled_by ((st c).args.at + 32) (w c - 32) (part c) x

abbrev entered : (c : tie.After-joining) → Joining → Sessions
entered c x = sessions_by (ss c) (z c) (w c - 32) x

-- what was said of a frame is what is done with it, and it fits
does : (c : tie.After-joining) (x : Joining) → c.joining.result ≡ x
    → Done (ss c) (st c).args.buffer.now (st c).args.log.now (st c).args.place (st c).args.at (w c) c.byte-flags.result (z c) x
    ≡ joined_at (ss c) (st c).args.buffer.now (drop (st c).args.place (st c).args.log.now) (st c).args.at
does c x e =
    done (ss c) (st c).args.buffer.now (st c).args.log.now (st c).args.place (st c).args.at (w c) c.byte-flags.result (z c) x
    c.finished_length-n.ensures.0 c.byte-flags.ensures.0 (session c) (sym e ∙ joins c)

fits : (c : tie.After-joining) (x : Joining) → c.joining.result ≡ x → Fit (w c - 32) (part c) x
fits c x e = subst (Fit (w c - 32) (part c)) (sym (joins c) ∙ e) (join-fits (ss c) (z c) c.byte-flags.result (w c - 32) (part c))

held : (c : tie.After-joining) (k n : ℕ) → k < 16 → held_at (ss c) k (z c) n ≡ holding (ss c) k (z c) n
held c k n h = held_in (ss c) k (z c) n h

body-in : (c : tie.After-joining) → (st c).args.place + 32 + (w c - 32) ≤ length (st c).args.log.now
body-in c = omega (arith, (st c).requires, c.finished_length-n.ensures.0)

finished-length-requires : tie.Need-finished_length-n-requires
finished-length-requires c κs = c.requires.1.0.finished

append-requires : tie.Need-append-requires
append-requires c κs =
    let f = fits c.before.before (Join c.in-Join.k c.in-Join.from) c.in-Join.is in (refl, (f.0, (f.1, body-in c.before.before)))

add-holding : tie.Need-overflow_add-from
add-holding c =
    record { fits = omega (arith, (fits c.before.before.before.before.before (Join c.in-Join.k c.in-Join.from) c.in-Join.is).1, (st c.before.before.before.before.before).well_formed) }

append-requires-2 : tie.Need-append-requires-in-Complete
append-requires-2 c κs =
    let f = fits c.before.before (Complete c.in-Complete.k c.in-Complete.from) c.in-Complete.is in (refl, (f.0, (f.1, body-in c.before.before)))

mul-t36 : tie.Need-overflow_mul-k
mul-t36 c =
    record { fits = omega (arith, part_in c.in-Complete.k (part c.before.before.before.before.before) (length (st c.before.before.before.before.before).args.buffer.now) refl (fits c.before.before.before.before.before (Complete c.in-Complete.k c.in-Complete.from) c.in-Complete.is).0, (st c.before.before.before.before.before).well_formed) }

-- what is left, by its numbers
by : (c : tie.After-joining) (r : Joined) (x : Joining) (k n : ℕ) (a : Result Assembled Error) → c.joining.result ≡ x → r ≡ leaving k (z c) n a
    → (a ≡ assembled c x) × (held_at (ss c) k (z c) n ≡ entered c x)
    → Enters (ss c) r (joined_at (ss c) (st c).args.buffer.now (drop (st c).args.place (st c).args.log.now) (st c).args.at)
by c r x k n a e h w =
    let t = three _ _ (does c x e) in
    record {
      answers = ap (λ (y : Joined). y.answer) h ∙ w.0 ∙ t.0.0;
      leaves = ap (λ (y : Joined). held_at (ss c) y.place y.session y.held) h ∙ w.1 ∙ t.0.1;
    }

returns : tie.Need-returns-in-Through
returns c = (by c.before.before _ Through 16 0 _ c.in-Through.is c.holding.ensures (refl, refl), (three _ _ (does c.before.before Through c.in-Through.is)).1)

returns-2 : tie.Need-returns-in-Ignore
returns-2 c = (by c.before.before _ Ignore 16 0 _ c.in-Ignore.is c.holding-in-Ignore.ensures (refl, refl), (three _ _ (does c.before.before Ignore c.in-Ignore.is)).1)

returns-3 : tie.Need-returns-in-Full
returns-3 c = (by c.before.before _ Full 16 0 _ c.in-Full.is c.holding-in-Full.ensures (refl, refl), (three _ _ (does c.before.before Full c.in-Full.is)).1)

returns-4 : tie.Need-returns-in-TooLong
returns-4 c =
    let k = c.in-TooLong.k in
    let h = c.in-TooLong.is in
    (by c.before.before _ (TooLong k) k 0 _ h c.holding-in-TooLong.ensures (refl, held c.before.before k 0 (fits c.before.before (TooLong k) h)), (three _ _ (does c.before.before (TooLong k) h)).1)

returns-5 : tie.Need-returns-in-Join
returns-5 c =
    let k = c.in-Join.k in
    let from = c.in-Join.from in
    let h = c.in-Join.is in
    (by c.before.before.before.before.before.before _ (Join k from) k (from + (w c.before.before.before.before.before.before - 32)) _ h c.holding-in-Join.ensures (refl, held c.before.before.before.before.before.before k _ (fits c.before.before.before.before.before.before (Join k from) h).0), c.append.ensures ∙ (three _ _ (does c.before.before.before.before.before.before (Join k from) h)).1)

returns-6 : tie.Need-returns-in-Complete
returns-6 c =
    let k = c.in-Complete.k in
    let from = c.in-Complete.from in
    let h = c.in-Complete.is in
    (by c.before.before.before.before.before.before _ (Complete k from) k 0 _ h c.holding-in-Complete.ensures (refl, held c.before.before.before.before.before.before k 0 (fits c.before.before.before.before.before.before (Complete k from) h).0), c.append-in-Complete.ensures ∙ (three _ _ (does c.before.before.before.before.before.before (Complete k from) h)).1)

-- The answer for the sum of a whole message stands in the list, by no name that has what is added in it.
pub join_frame_spec : {M : Type 1} → statement M
join_frame_spec =
    tie.close
    (tie.spec
    finished-length-requires
    (search rules)
    (search rules)
    (search rules)
    (search rules)
    (search rules)
    (search rules)
    (search rules)
    (search rules)
    (search rules)
    (search rules)
    (search rules)
    (search rules)
    (search rules)
    (search rules)
    (search rules)
    (search rules)
    (search rules)
    (search rules)
    append-requires
    add-holding
    (search rules)
    (search rules)
    (search rules)
    append-requires-2
    mul-t36
    (λ c. record { fits = omega (arith, (fits c.before.before.before.before.before (Complete c.in-Complete.k c.in-Complete.from) c.in-Complete.is).1, (st c.before.before.before.before.before).well_formed) })
    (search rules)
    returns
    returns-2
    returns-3
    returns-4
    (search rules)
    returns-5
    (search rules)
    returns-6)
