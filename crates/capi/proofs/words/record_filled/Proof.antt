-- Word by word.
use mathlib.Core.Path.{◌≡◌, ap, ◌∙◌}
use mathlib.Core.List.{List}
use lib.IntN.{ℤ, pos}
use lib.ListN.{set}
use mir.Syntax.{w32, w64}
use mir.Val.{SFits}
use mir.Facts.{to_z-of_z}
use Rattle.model.specs.declared.LogRecord.{LogRecord}
use Rattle.capi.specs.Words.{bit_number, count_out, pair_of, marks_word, record_out}
use Rattle.capi.proofs.Halves.{pair-by}
use Rattle.capi.proofs.Promised.{promised64}
use borrow.Author.Rules.{rules}
use Rattle.capi.proofs.words.record_filled.Statement.{statement}
use Rattle.capi.proofs.words.record_filled.Tie as tie

same : (v u : List ℤ) (r : LogRecord) (a b c d e k f g h i : ℤ) → v ≡ u → a ≡ pair_of r.term_length r.mtu_length → b ≡ pair_of r.session_id r.stream_id
    → c ≡ pair_of r.is_connected (pos 0) → d ≡ r.publication_limit → e ≡ r.end_of_stream_position → k ≡ count_out (bit_number r.is_closed) → f ≡ r.slowest_position
    → g ≡ marks_word 0 r → h ≡ pair_of r.active_transport_count r.page_size → i ≡ r.correlation_id
    → set (set (set (set (set (set (set (set (set (set v 4 a) 5 b) 6 c) 7 d) 8 e) 9 k) 10 f) 11 g) 12 h) 13 i
    ≡ set (set (set (set (set (set (set (set (set (set u 4 (pair_of r.term_length r.mtu_length)) 5 (pair_of r.session_id r.stream_id)) 6 (pair_of r.is_connected (pos 0))) 7 r.publication_limit) 8 r.end_of_stream_position) 9 (count_out (bit_number r.is_closed))) 10 r.slowest_position) 11 (marks_word 0 r)) 12 (pair_of r.active_transport_count r.page_size)) 13 r.correlation_id
same v u r a b c d e k f g h i h1 h2 h3 h4 h5 h6 h7 h8 h9 h10 h11 = cc

end_fits : (c : tie.Start) → SFits w64 c.args.next.end_of_stream_position
end_fits c = search rules

connected-fits : (c : tie.Start) → SFits w32 c.args.next.is_connected
connected-fits c = search rules

limit-fits : (c : tie.Start) → SFits w64 c.args.next.publication_limit
limit-fits c = search rules

slowest-fits : (c : tie.Start) → SFits w64 c.args.next.slowest_position
slowest-fits c = search rules

transports-fits : (c : tie.Start) → SFits w32 c.args.next.active_transport_count
transports-fits c = search rules

page-fits : (c : tie.Start) → SFits w32 c.args.next.page_size
page-fits c = search rules

id-fits : (c : tie.Start) → SFits w64 c.args.next.correlation_id
id-fits c = search rules

term_fits : (c : tie.Start) → SFits w32 c.args.next.term_length
term_fits c = search rules

mtu-fits : (c : tie.Start) → SFits w32 c.args.next.mtu_length
mtu-fits c = search rules

session-fits : (c : tie.Start) → SFits w32 c.args.next.session_id
session-fits c = search rules

stream-fits : (c : tie.Start) → SFits w32 c.args.next.stream_id
stream-fits c = search rules

returns : tie.Need-returns
returns c =
    let t = c in
    let s = t.args in
    let r = s.next in
    same _ (record_out s.w.now r) r _ _ _ _ _ _ _ _ _ _ c.record_out.ensures
    (pair-by r.term_length r.mtu_length c.pair.ensures (term_fits c.before.before.before.before.before.before.before.before.before.before.before.before.before.before.before.before.before.before.before.before) (mtu-fits c.before.before.before.before.before.before.before.before.before.before.before.before.before.before.before.before.before.before.before.before) (let k = c.pair.type_inv in search (rules, k)))
    (pair-by r.session_id r.stream_id c.pair-2.ensures (session-fits c.before.before.before.before.before.before.before.before.before.before.before.before.before.before.before.before.before.before.before.before) (stream-fits c.before.before.before.before.before.before.before.before.before.before.before.before.before.before.before.before.before.before.before.before) (let k = c.pair-2.type_inv in search (rules, k)))
    (pair-by r.is_connected (pos 0) c.pair-3.ensures (connected-fits c.before.before.before.before.before.before.before.before.before.before.before.before.before.before.before.before.before.before.before.before) (search rules) (let k = c.pair-3.type_inv in search (rules, k)))
    (to_z-of_z (limit-fits c.before.before.before.before.before.before.before.before.before.before.before.before.before.before.before.before.before.before.before.before)) (to_z-of_z (end_fits c.before.before.before.before.before.before.before.before.before.before.before.before.before.before.before.before.before.before.before.before))
    (promised64 (c.to_i64.ensures ∙ ap count_out c.bit_number.ensures) (let k = c.to_i64.type_inv in search (rules, k)))
    (to_z-of_z (slowest-fits c.before.before.before.before.before.before.before.before.before.before.before.before.before.before.before.before.before.before.before.before)) (promised64 c.marks_word.ensures (let k = c.marks_word.type_inv in search (rules, k)))
    (pair-by r.active_transport_count r.page_size c.pair-4.ensures (transports-fits c.before.before.before.before.before.before.before.before.before.before.before.before.before.before.before.before.before.before.before.before) (page-fits c.before.before.before.before.before.before.before.before.before.before.before.before.before.before.before.before.before.before.before.before) (let k = c.pair-4.type_inv in search (rules, k)))
    (to_z-of_z (id-fits c.before.before.before.before.before.before.before.before.before.before.before.before.before.before.before.before.before.before.before.before))

pub record_filled_spec : {M : Type 1} → statement M
record_filled_spec =
    tie.close
    (tie.spec
    (search rules) (search rules) (search rules) (search rules) (search rules) (search rules) (search rules) (search rules) (search rules)
    (search rules) (search rules) (search rules) (search rules) (search rules) (search rules) (search rules) (search rules) (search rules) returns)
