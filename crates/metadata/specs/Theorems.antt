-- What is proved of the definitions, as statements. proofs/ has a proof of each, under the name that is said with it.
use Rattle.std.specs.Prelude.{◌≡◌, ℕ, ◌<◌, true, List, length, get_or, Ok}
use Rattle.std.specs.Int.{w32, w64}
use Rattle.std.proofs.Common.{SFits}
use Rattle.model.specs.declared.LogRecord.{LogRecord}
use Rattle.model.specs.LogBufferDescriptor.{tail_of}
use Rattle.metadata.specs.declared.Beside.{Beside}
use Rattle.metadata.specs.Metadata.{accepted, beside_of, Section}
use Rattle.metadata.specs.Calls.{write_of, write_bytes, read_of}

-- Three tails, and numbers that fit their fields: what every record of the code has, by its type.
pub record Fits (r : LogRecord) : Type 0 where
  pub three : length r.tails ≡ 3
  pub tail : (k : ℕ) → SFits w64 (tail_of r k)
  pub count : SFits w32 r.active_term_count
  pub initial : SFits w32 r.initial_term_id
  pub term : SFits w32 r.term_length
  pub mtu : SFits w32 r.mtu_length
  pub connected : SFits w32 r.is_connected
  pub end : SFits w64 r.end_of_stream_position
  pub transports : SFits w32 r.active_transport_count
  pub correlation : SFits w64 r.correlation_id
  pub page : SFits w32 r.page_size

-- A record that was written, into whatever bytes, is read back as itself, if it is given what it has beside its section (RoundTrips,
-- `written_read`).
abbrev pub WrittenRead : Type 0
WrittenRead = (r : LogRecord) (out : List ℕ) → Fits r → write_of r (length out) ≡ Ok tt → read_of (write_bytes r out) (beside_of r) ≡ record { next = r; answer = Ok tt }

-- What was read as a record is what writing that record gives, byte for byte, into any 320 bytes; and it has beside it what was given (RoundTrips,
-- `read-written`).
abbrev pub ReadWritten : Type 0
ReadWritten = (s : List ℕ) (b : Beside) (out : List ℕ) → ((i : ℕ) → get_or s i 0 < 256) → (read_of s b).answer ≡ Ok tt → length out ≡ 320
    → (write_of (read_of s b).next (length out) ≡ Ok tt) × ((write_bytes (read_of s b).next out ≡ s) × (beside_of (read_of s b).next ≡ b))

-- Bytes are a section exactly where size, gaps and header length are right (Acceptance, `accepted-exactly`).
abbrev pub Acceptance : Type 0
Acceptance = (s : List ℕ) → (accepted s ≡ true → Section s) × (Section s → accepted s ≡ true)

-- An output is touched by no refusal (RoundTrips, `untouched`).
abbrev pub Untouched : Type 0
Untouched = (r : LogRecord) (out : List ℕ) → (write_of r (length out) ≡ Ok tt → ⊥) → write_bytes r out ≡ out
