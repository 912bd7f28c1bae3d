-- Each signed number that was read and stored is the record's.
use Rattle.std.proofs.Common.{◌≡◌, List, ℤ, to_z-of_z, w32, w64, rules}
use Rattle.model.specs.declared.LogRecord.{LogRecord}
use Rattle.model.specs.LogBufferDescriptor.{changed}
use Rattle.logbuffer.proofs.way.with_tails.Statement.{statement}
use Rattle.logbuffer.proofs.way.with_tails.Tie as tie

rebuilt : (r : LogRecord) (t : List ℤ) (a b c d e f g i j k l m n : ℤ) → a ≡ r.active_term_count → b ≡ r.initial_term_id → c ≡ r.term_length → d ≡ r.mtu_length → e ≡ r.session_id → f ≡ r.stream_id → g ≡ r.is_connected → i ≡ r.publication_limit → j ≡ r.end_of_stream_position → k ≡ r.slowest_position → l ≡ r.active_transport_count → m ≡ r.correlation_id → n ≡ r.page_size
    → record {
      tails = t;
      active_term_count = a;
      initial_term_id = b;
      term_length = c;
      mtu_length = d;
      session_id = e;
      stream_id = f;
      is_connected = g;
      publication_limit = i;
      end_of_stream_position = j;
      is_closed = r.is_closed;
      slowest_position = k;
      is_cleared = r.is_cleared;
      active_transport_count = l;
      correlation_id = m;
      page_size = n;
    } ≡ changed r t r.active_term_count r.publication_limit r.is_closed
unfolding changed
rebuilt r t a b c d e f g i j k l m n ea eb ec ed ee ef eg ei ej ek el em en = cc

returns : tie.Need-returns
returns c = let r = c.args.rec in
    rebuilt r c.args.tails _ _ _ _ _ _ _ _ _ _ _ _ _
    (to_z-of_z {w = w32} {z = r.active_term_count} (search rules))
    (to_z-of_z {w = w32} {z = r.initial_term_id} (search rules))
    (to_z-of_z {w = w32} {z = r.term_length} (search rules))
    (to_z-of_z {w = w32} {z = r.mtu_length} (search rules))
    (to_z-of_z {w = w32} {z = r.session_id} (search rules))
    (to_z-of_z {w = w32} {z = r.stream_id} (search rules))
    (to_z-of_z {w = w32} {z = r.is_connected} (search rules))
    (to_z-of_z {w = w64} {z = r.publication_limit} (search rules))
    (to_z-of_z {w = w64} {z = r.end_of_stream_position} (search rules))
    (to_z-of_z {w = w64} {z = r.slowest_position} (search rules))
    (to_z-of_z {w = w32} {z = r.active_transport_count} (search rules))
    (to_z-of_z {w = w64} {z = r.correlation_id} (search rules))
    (to_z-of_z {w = w32} {z = r.page_size} (search rules))

pub with_tails_spec : {M : Type 1} → statement M
with_tails_spec = tie.close (tie.spec returns)
