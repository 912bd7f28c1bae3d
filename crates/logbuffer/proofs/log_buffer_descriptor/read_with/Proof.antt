-- Each number is what its cast says of its field; a signed field passed on is the field.
use Rattle.std.proofs.Common.{◌≡◌, ℕ, ◌/◌, ◌<◌, ℤ, ap, ◌∙◌, arith, to_z-of_z, w32, w64, SFits, rules}
use Rattle.model.specs.declared.LogRecord.{LogRecord}
use Rattle.model.specs.Bytes.{word, long}
use Rattle.model.specs.LogBufferDescriptor.{id_bits, id_of, term_id_of, offset_of}
use Rattle.logbuffer.specs.Reads.{reading_with}
use Rattle.logbuffer.proofs.RawTails.{id-bits}
use Rattle.logbuffer.proofs.Signed.{word-by, long-by}
use Rattle.logbuffer.proofs.log_buffer_descriptor.read_with.Statement.{statement}
use Rattle.logbuffer.proofs.log_buffer_descriptor.read_with.Tie as tie

same-reading : (r : LogRecord) (raw : ℤ) (t m c i s st co l b o sl : ℕ) → t ≡ word r.term_length → m ≡ word r.mtu_length → c ≡ word r.active_term_count → i ≡ id_bits (word r.initial_term_id)
    → s ≡ word r.session_id → st ≡ word r.stream_id → co ≡ word r.is_connected → l ≡ long r.publication_limit → b ≡ id_of raw → o ≡ offset_of raw → sl ≡ long r.slowest_position
    → record { term = t; mtu = m; count = c; initial = i; session = s; stream = st; connected = co; limit = l; id = b; offset = o; closed = r.is_closed; slowest = sl } ≡ reading_with r raw
unfolding reading_with
same-reading r raw t m c i s st co l b o sl h1 h2 h3 h4 h5 h6 h7 h8 h9 h10 h11 = cc

id-fits : (c : tie.After-term_id) → SFits w32 c.term_id.result
id-fits c = search rules

term_fits : (c : tie.Start) → SFits w32 c.args.rec.term_length
term_fits c = search rules

mtu-fits : (c : tie.Start) → SFits w32 c.args.rec.mtu_length
mtu-fits c = search rules

count_fits : (c : tie.Start) → SFits w32 c.args.rec.active_term_count
count_fits c = search rules

initial-fits : (c : tie.Start) → SFits w32 c.args.rec.initial_term_id
initial-fits c = search rules

session-fits : (c : tie.Start) → SFits w32 c.args.rec.session_id
session-fits c = search rules

stream-fits : (c : tie.Start) → SFits w32 c.args.rec.stream_id
stream-fits c = search rules

connected-fits : (c : tie.Start) → SFits w32 c.args.rec.is_connected
connected-fits c = search rules

limit-fits : (c : tie.Start) → SFits w64 c.args.rec.publication_limit
limit-fits c = search rules

slowest-fits : (c : tie.Start) → SFits w64 c.args.rec.slowest_position
slowest-fits c = search rules

-- the upper half of the tail
id-is : (c : tie.After-word-id) → (let s = c.args in c.word-id.result ≡ long s.raw_tail / 4294967296)
id-is c =
    let s = c in
    word-by c.term_id.result c.word-id.ensures.0 (id-fits c.before) ∙ id-bits _ _ s.ranges.raw_tail (c.term_id.ensures ∙ ap term_id_of (to_z-of_z s.ranges.raw_tail))

-- a number of 32 bits is its own 32 bits
own_bits : (n m : ℕ) → n ≡ m → n < 4294967296 → n ≡ id_bits m
own_bits n m e h = omega arith

returns : tie.Need-returns
returns d =
    let c = d in
    let s = d in
    let r = s.args.rec in
    let w = d in
    same-reading r s.args.raw_tail _ _ _ _ _ _ _ _ _ _ _
    (word-by r.term_length c.word.ensures.0 (term_fits d.before.before.before.before.before.before.before.before.before.before.before.before.before.before.before.before.before.before.before.before.before))
    (word-by r.mtu_length c.word-2.ensures.0 (mtu-fits d.before.before.before.before.before.before.before.before.before.before.before.before.before.before.before.before.before.before.before.before.before))
    (word-by r.active_term_count c.word-3.ensures.0 (count_fits d.before.before.before.before.before.before.before.before.before.before.before.before.before.before.before.before.before.before.before.before.before))
    (own_bits _ _ (word-by r.initial_term_id c.word-4.ensures.0 (initial-fits d.before.before.before.before.before.before.before.before.before.before.before.before.before.before.before.before.before.before.before.before.before)) c.word-4.ensures.1)
    (word-by r.session_id c.word-5.ensures.0 (session-fits d.before.before.before.before.before.before.before.before.before.before.before.before.before.before.before.before.before.before.before.before.before))
    (word-by r.stream_id c.word-6.ensures.0 (stream-fits d.before.before.before.before.before.before.before.before.before.before.before.before.before.before.before.before.before.before.before.before.before))
    (word-by r.is_connected c.word-7.ensures.0 (connected-fits d.before.before.before.before.before.before.before.before.before.before.before.before.before.before.before.before.before.before.before.before.before))
    (long-by r.publication_limit c.long.ensures.0 (limit-fits d.before.before.before.before.before.before.before.before.before.before.before.before.before.before.before.before.before.before.before.before.before))
    (own_bits _ _ (id-is d.before.before.before.before.before.before.before.before.before.before.before.before.before.before.before.before.before.before.before) w.word-id.ensures.1)
    (c.offset_bits-offset.ensures ∙ ap offset_of (to_z-of_z s.ranges.raw_tail))
    (long-by r.slowest_position d.long-2.ensures.0 (slowest-fits d.before.before.before.before.before.before.before.before.before.before.before.before.before.before.before.before.before.before.before.before.before))

pub read_with_spec : {M : Type 1} → statement M
read_with_spec =
    tie.close
    (tie.spec
    (search rules)
    (search rules)
    (search rules)
    (search rules)
    (search rules)
    (search rules)
    (search rules)
    (search rules)
    (search rules)
    (search rules)
    (search rules)
    (search rules)
    returns)
