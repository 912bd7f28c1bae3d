-- A test that fails settles what is asked; where none fails, the length is stored where the claim's frame starts.
use Rattle.std.proofs.Common.{◌≡◌, ℕ, ◌+◌, ◌≤◌, true, ◌&&◌, length, sym, ap, ◌∙◌, ap₂, arith, w32, SFits, rules, le-leb}
use borrow.Author.Tests.{not-true, not-false, lt-leb}
use Rattle.model.specs.declared.Reading.{Reading}
use Rattle.model.specs.Bytes.{word, splice, le4}
use Rattle.model.specs.LogBufferDescriptor.{sound}
use Rattle.model.specs.FrameDescriptor.{align}
use Rattle.model.specs.BufferClaim.{claim_start, matches}
use Rattle.model.proofs.Choice.{cond-true}
use Rattle.logbuffer.specs.Commits.{read_all, claim_fits}
use Rattle.logbuffer.proofs.Signed.{word-by}
use Rattle.logbuffer.proofs.Commits.{fit_numbers, fit-by, Fit, fit-true, fit-inside, not-fit, no-fit}
use Rattle.logbuffer.proofs.buffer_claim.commit_fit.Statement.{statement}
use Rattle.logbuffer.proofs.buffer_claim.commit_fit.Tie as tie

partition-fits : (s : tie.Start) → SFits w32 s.args.claim.partition
partition-fits s = search rules

offset-fits : (s : tie.Start) → SFits w32 s.args.claim.offset
offset-fits s = search rules

length-fits : (s : tie.Start) → SFits w32 s.args.claim.length
length-fits s = search rules

-- what is asked, by the numbers that were read
module _ (c : tie.After-word) where
  abbrev s· : tie.Start
  s· = c.before.before.before.before.before.before.before

  length-is : c.word-length.result ≡ word s·.args.claim.length
  length-is = word-by s·.args.claim.length c.word-length.ensures.0 (length-fits s·)

  law : fit_numbers s·.args.rec (length s·.args.log.now) s·.args.claim c.word.result c.word-offset.result c.word-length.result ≡ claim_fits s·.args.rec (length s·.args.log.now) s·.args.claim
  law =
      fit-by s·.args.rec (length s·.args.log.now) s·.args.claim _ _ _ (word-by s·.args.claim.partition c.word.ensures.0 (partition-fits s·))
      (word-by s·.args.claim.offset c.word-offset.ensures.0 (offset-fits s·)) length-is

-- the record that was judged
sound-is : (c : tie.Else-not-is_sound) → (let s = s· c.before.before.before.before.before in sound (read_all s.args.rec s.args.claim) (length s.args.log.now) ≡ true)
sound-is c =
    let s = s· c.before.before.before.before.before in
    ap (λ (v : Reading). sound v (length s.args.log.now)) (sym c.read_all-v.ensures) ∙ sym c.is_sound.ensures ∙ not-false _ c.if-not-is_sound.false-raw

term_is : (c : tie.After-read_all-v) → (let s = s· c.before.before.before in c.read_all-v.result.term ≡ (read_all s.args.rec s.args.claim).term)
term_is c = ap (λ (v : Reading). v.term) c.read_all-v.ensures

yes : (c : tie.Else-offset-length) → (let s = s· c.before.before.before.before.before.before.before in claim_fits s.args.rec (length s.args.log.now) s.args.claim ≡ true)
yes c =
    let s = s· c.before.before.before.before.before.before.before in
    let t = term_is c.before.before.before.before in
    let inside : c.word-offset.result + align c.word-length.result ≤ (read_all s.args.rec s.args.claim).term = omega (arith, t, c.if-offset-length.false) in
    sym (simp (le-leb _ _ c.if-word-gt2.false, le-leb _ _ c.if-length-lt-HEADER_LENGTH.false, sound-is c.before.before, le-leb _ _ inside) at (law c.before.before.before.before.before.before.before))

fit : (c : tie.Else-offset-length) → (let s = s· c.before.before.before.before.before.before.before in Fit s.args.rec (length s.args.log.now) s.args.claim)
fit c = fit-true _ _ _ (yes c)

at-is : (c : tie.After-start-at) → (let s = s· c.before.before.before.before.before.before.before.before in c.start-at.result ≡ claim_start (read_all s.args.rec s.args.claim) s.args.claim)
at-is c = let s = s· c.before.before.before.before.before.before.before.before in c.start-at.ensures ∙ ap (λ (v : Reading). claim_start v s.args.claim) c.read_all-v.ensures

inside : (c : tie.After-start-at) → (let s = s· c.before.before.before.before.before.before.before.before in c.start-at.result + align (word s.args.claim.length) ≤ length s.args.log.now)
inside c = omega (arith, at-is c, fit-inside _ _ _ (fit c.before))

returns : tie.Need-returns-then-word-gt2
returns c = let s = s· c.before in no-fit s.args.rec s.args.log.now s.args.claim (simp (lt-leb _ _ c.if-word-gt2.true) at (law c.before))

returns-2 : tie.Need-returns-then-length-lt-HEADER_LENGTH
returns-2 c = let s = s· c.before.before in
    no-fit s.args.rec s.args.log.now s.args.claim (simp (le-leb _ _ c.if-word-gt2.false, lt-leb _ _ c.if-length-lt-HEADER_LENGTH.true) at (law c.before.before))

returns-3 : tie.Need-returns-then-not-is_sound
returns-3 c =
    let s = s· c.before.before.before.before.before in
    let no = ap (λ (v : Reading). sound v (length s.args.log.now)) (sym c.read_all-v.ensures) ∙ sym c.is_sound.ensures ∙ not-true _ c.if-not-is_sound.true-raw in
    no-fit s.args.rec s.args.log.now s.args.claim (simp (le-leb _ _ c.if-word-gt2.false, le-leb _ _ c.if-length-lt-HEADER_LENGTH.false, no) at (law c.before.before.before.before.before))

returns-4 : tie.Need-returns-then-offset-length
returns-4 c =
    let s = s· c.before.before.before.before.before.before.before in
    let t = term_is c.before.before.before.before in
    let past = lt-leb (c.word-offset.result + align c.word-length.result) (read_all s.args.rec s.args.claim).term (omega (arith, t, c.if-offset-length.true)) in
    no-fit s.args.rec s.args.log.now s.args.claim (simp (le-leb _ _ c.if-word-gt2.false, le-leb _ _ c.if-length-lt-HEADER_LENGTH.false, sound-is c.before.before, past) at (law c.before.before.before.before.before.before.before))

start-requires : tie.Need-start-at-requires
start-requires c κs = omega (arith, term_is c.before.before.before.before, (fit c).so.term-high)

shows-requires : tie.Need-shows-requires
shows-requires c κs = let i = inside c in let f = fit c.before in omega (arith, f.low, f.inside, f.so.term-high)

returns-5 : tie.Need-returns-then-not-shows
returns-5 c =
    let s = s· c.before.before.before.before.before.before.before.before.before.before in
    let no = ap (λ (i : ℕ). matches s.args.log.now i s.args.claim) (sym (at-is c.before.before)) ∙ sym c.shows.ensures ∙ not-true _ c.if-not-shows.true-raw in
    not-fit s.args.rec s.args.log.now s.args.claim (ap₂ ◌&&◌ (yes c.before.before.before) no)

put4-requires : tie.Need-put4-requires
put4-requires c κs = let i = inside c.before.before.before in let f = fit c.before.before.before.before in omega (arith, f.low)

returns-6 : tie.Need-returns
returns-6 c =
    let s = s· c.before.before.before.before.before.before.before.before.before.before.before.before.before.before in
    let at = at-is c.before.before.before.before.before.before in
    let m = ap (λ (i : ℕ). matches s.args.log.now i s.args.claim) (sym at) ∙ sym c.shows.ensures ∙ not-false _ c.if-not-shows.false-raw in
    let done = ap₂ ◌&&◌ (yes c.before.before.before.before.before.before.before) m in
    (sym done, c.put4.ensures ∙ ap₂ (λ (i n : ℕ). splice s.args.log.now i (le4 n)) at (length-is c.before.before.before.before.before.before.before.before.before.before.before.before.before.before) ∙ sym (cond-true _ _ _ done))

pub commit_fit_spec : {M : Type 1} → statement M
commit_fit_spec =
    tie.close
    (tie.spec
    (search rules)
    (search rules)
    (search rules)
    returns
    returns-2
    (search rules)
    (search rules)
    returns-3
    (search rules)
    (search rules)
    (search rules)
    returns-4
    start-requires
    shows-requires
    (search rules)
    returns-5
    put4-requires
    (search rules)
    returns-6)
