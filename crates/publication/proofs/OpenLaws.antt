-- An opening by the numbers that the code has.
use Rattle.std.specs.Prelude.{Result, Ok, Err, ⊤}
use Rattle.model.specs.declared.Error.{Error}
use mathlib.Core.Path.{◌≡◌, sym, ap}
use mathlib.Core.Bool.{Bool, true, false}
use mathlib.Core.List.{List, [], ◌∷◌}
use Prim.Native.Nat.{ℕ}
use lib.ListN.{length}
use lib.IntN.{ℤ, pos}
use Rattle.model.specs.declared.LogRecord.{LogRecord}
use Rattle.model.specs.declared.Error.TheVariants.{IllegalRecord}
use Rattle.model.specs.Bytes.{word, zeros}
use Rattle.model.specs.LogBufferDescriptor.{id_minus, raw_of, reading, sound}
use Rattle.model.specs.Publication.{opened_record, no_record, open_verdict, open_by, open_bytes_by, open_of, open_bytes}

pub opened-by : (term mtu initial session stream term' mtu' initial' session' stream' a b c : ℤ) → term' ≡ term → mtu' ≡ mtu → initial' ≡ initial → session' ≡ session → stream' ≡ stream
    → a ≡ raw_of (word initial) 0 → b ≡ raw_of (id_minus (word initial) 2) 0 → c ≡ raw_of (id_minus (word initial) 1) 0
    → record {
      tails = a ∷ b ∷ c ∷ [];
      active_term_count = pos 0;
      initial_term_id = initial';
      term_length = term';
      mtu_length = mtu';
      session_id = session';
      stream_id = stream';
      is_connected = pos 1;
      publication_limit = pos 0;
      end_of_stream_position = pos 9223372036854775807;
      is_closed = false;
      slowest_position = pos 0;
      is_cleared = false ∷ true ∷ true ∷ [];
      active_transport_count = pos 0;
      correlation_id = pos 0;
      page_size = pos 0;
    } ≡ opened_record term mtu initial session stream
unfolding opened_record
opened-by term mtu initial session stream term' mtu' initial' session' stream' a b c e1 e2 e3 e4 e5 ea eb ec = cc

abbrev judged : Bool → Result ⊤ Error
judged true = Ok tt
judged false = Err IllegalRecord

module _ (log : List ℕ) (term mtu initial session stream : ℤ) where
  abbrev made : LogRecord
  made = opened_record term mtu initial session stream

  verdict : (b : Bool) → sound (reading made) (length log) ≡ b → open_verdict made (length log) ≡ judged b
  unfolding open_verdict
  verdict true h = simp h
  verdict false h = simp h

  pub open_no : sound (reading made) (length log) ≡ false
      → (record { next = no_record; answer = Err IllegalRecord } ≡ open_of log term mtu initial session stream) × (log ≡ open_bytes log term mtu initial session stream)
  unfolding open_of open_bytes
  open_no h = (sym (ap (open_by made) (verdict false h)), sym (ap (open_bytes_by log) (verdict false h)))

  pub open_done : sound (reading made) (length log) ≡ true
      → (record { next = made; answer = Ok tt } ≡ open_of log term mtu initial session stream) × (zeros (length log) ≡ open_bytes log term mtu initial session stream)
  unfolding open_of open_bytes
  open_done h = (sym (ap (open_by made) (verdict true h)), sym (ap (open_bytes_by log) (verdict true h)))
