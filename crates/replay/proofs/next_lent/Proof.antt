-- Data frames as they lie, and behind them the turns that are left.
use mathlib.Core.Path.{◌≡◌, sym, ap, ap₂, subst, ◌∙◌}
use mathlib.Core.Bool.{true, false}
use Prim.Native.Nat.{ℕ, ◌+◌, ◌*◌}
use native.Mathlib.Omega.{arith}
use borrow.Author.Rules.{rules}
use borrow.Author.Tests.{not-true, not-false}
use lib.IntN.{ℤ}
use lib.ListN.{length}
use mir.Syntax.{w32, w64}
use mir.Val.{to_z, of_z, SFits}
use mir.Facts.{to_z-of_z}
use Rattle.model.specs.LogBufferDescriptor.{reading}
use Rattle.model.specs.Image.{moved_to}
use Rattle.model.specs.Replay.{ReplayState, giving, next_from, next_of}
use Rattle.model.proofs.Choice.{cond-true, cond-false}
use Rattle.model.proofs.Sound.{sound-true}
use Rattle.image.specs.Images.{state_of as image_state}
use Rattle.logbuffer.proofs.Signed.{word-by, long-by}
use Rattle.replay.specs.declared.Replay.{Replay}
use Rattle.replay.specs.InPlace.{TermsOf}
use Rattle.replay.specs.Replays.{replay_of, state_of}
use Rattle.replay.specs.Gather.{Gathering, gathering_of, gather_from, is_end}
use Rattle.replay.proofs.InPlace.{open-found, open-terms, stop-high}
use Rattle.replay.proofs.Turns.{next-starts}
use Rattle.replay.proofs.Gather.{behind, resumed, gather-next}
use Rattle.replay.proofs.next_lent.Statement.{statement}
use Rattle.replay.proofs.next_lent.Tie as tie

-- where the call begins
abbrev S : tie.Start → ReplayState
S s = state_of (replay_of s.args.start s.args.count s.args.ids.now s.args.held.now) s.args.buffer.now

gather-requires : tie.Need-gather-gathered-requires
gather-requires c κs =
    let s = c in
    let t = s.requires.1.0 in (
      subst (TermsOf (length s.args.log.now)) (sym t) (open-terms _ _ _ _),
      λ some. let k = sound-true _ _ (open-found _ _ _ _ s.args.reach.term (sym t) some).sound-so in
          omega (arith, s.requires.1.1, stop-high (reading s.args.rec), k.term-high),
    )

term_fits : (s : tie.Start) → SFits w32 s.args.rec.term_length
term_fits s = search rules

module _ (f : tie.After-gather-gathered) where
  abbrev s : tie.Start
  s = f.before.before.before.before.before.before.before.before.before.before

  abbrev G : Gathering
  G = gathering_of f.gather-gathered.result f.gather-gathered.new.ids f.gather-gathered.new.held f.gather-gathered.new.buffer

  fits : SFits w64 s.args.start.position
  fits = search rules

  ids-16 : length s.args.ids.now ≡ 16
  ids-16 = search rules

  -- from where it stands now, all comes as was asked
  comes : resumed s.args.rec s.args.log.now (image_state s.args.start) G ≡ next_of s.args.rec s.args.log.now (S s)
  comes =
      let w = f.word in
      let a = s.args in
      let p = long-by a.start.position f.long-p.ensures.0 fits in
      ap (resumed a.rec a.log.now (image_state a.start))
      (f.gather-gathered.ensures ∙ ap₂ (λ (x y : ℕ). gather_from (3 * w.result + 1) a.log.now a.reach.term x y (S s).sessions a.buffer.now) s.requires.1.1 p)
      ∙ gather-next a.rec a.log.now (3 * w.result + 1) (S s) a.reach.term s.requires.1.0 ids-16 fits
      ∙ next-starts a.rec a.log.now (S s) w.result (word-by a.rec.term_length w.ensures.0 (term_fits s)) s.requires.0

-- the position behind the frames, as the image has it
placed : (c : tie.After-to_i64-position) → let f = c.before.before.before in to_z w64 (of_z w64 c.to_i64-position.result) ≡ to_z w64 f.gather-gathered.result.position
placed c = to_z-of_z {w = w64} {z = c.to_i64-position.result} (search rules) ∙ c.to_i64-position.ensures

returns : tie.Need-returns-then-not-is_end
returns c =
    let f = c in
    let a = (s c.before.before.before.before.before).args in
    let g = f.gather-gathered.result in
    let e : is_end g.answer ≡ false = sym c.is_end.ensures ∙ not-true _ c.if-not-is_end.true-raw in
    ap (λ (z : ℤ). giving (record { image = moved_to (image_state a.start) z; sessions = (G c.before.before.before.before.before).sessions; buffer = (G c.before.before.before.before.before).buffer }) g.answer) (placed c.before.before)
    ∙ sym (cond-false (is_end g.answer) (next_from g.left a.rec a.log.now (behind a.rec a.log.now (image_state a.start) (G c.before.before.before.before.before))) _ e) ∙ comes c.before.before.before.before.before

returns-2 : tie.Need-returns
returns-2 c =
    let u = c in
    let f = c in
    let a = (s c.before.before.before.before.before.before.before.before.before.before.before.before.before.before.before.before.before).args in
    let g = f.gather-gathered.result in
    let k = c in
    let e : is_end g.answer ≡ true = sym k.is_end.ensures ∙ not-false _ k.if-not-is_end.false-raw in
    u.turns-reply.ensures
    ∙ ap (λ (x : Replay). next_from g.left a.rec a.log.now (state_of x f.gather-gathered.new.buffer)) u.replay_of-replay.ensures
    ∙ ap (λ (z : ℤ). next_from g.left a.rec a.log.now (record { image = moved_to (image_state a.start) z; sessions = (G c.before.before.before.before.before.before.before.before.before.before.before.before.before.before.before.before.before).sessions; buffer = (G c.before.before.before.before.before.before.before.before.before.before.before.before.before.before.before.before.before).buffer })) (placed c.before.before.before.before.before.before.before.before.before.before.before.before.before.before)
    ∙ sym (cond-true (is_end g.answer) _ (giving (behind a.rec a.log.now (image_state a.start) (G c.before.before.before.before.before.before.before.before.before.before.before.before.before.before.before.before.before)) g.answer) e) ∙ comes c.before.before.before.before.before.before.before.before.before.before.before.before.before.before.before.before.before

pub next_lent_spec : {M : Type 1} → statement M
next_lent_spec =
    tie.close
    (tie.spec
    (search rules)
    (λ c. record { fits = omega (arith, c.word.ensures.1) })
    (λ c. record { fits = omega (arith, c.word.ensures.1) })
    (search rules)
    gather-requires
    (search rules)
    (search rules)
    (search rules)
    returns
    (search rules)
    (search rules)
    (search rules)
    returns-2)
