-- Pieces laid one behind the other, and the parts of a section.
-- Cases is named here, so that the checker meets a wrong definition first in a fact about it.
use mathlib.Core.Path.{◌≡◌, refl, sym, ap, ap₂, ◌∙◌}
use Prim.Native.Nat.{ℕ, ◌+◌, ◌≤◌}
use mathlib.Core.List.{List, [], ◌∷◌, ◌++◌, append_assoc, append-nil}
use native.Mathlib.Omega.{arith}
use lib.IntN.{ℤ}
use lib.ListN.{length, take, drop, length-append, drop_of_length-le}
use lib.Seq.{take-add, drop-drop}
use Rattle.model.specs.declared.LogRecord.{LogRecord}
use Rattle.model.specs.Bytes.{le4, le8, zeros, splice}
use Rattle.model.proofs.Splice.{splice-more}
use Rattle.metadata.specs.Metadata.{counters, connection, ids, lengths, section}
use Rattle.metadata.proofs.Cases as Cases

-- ---- laid

-- what has been laid over an output from an index, as far as another
pub record Laid (out : List ℕ) (at : ℕ) (done now : List ℕ) (to : ℕ) : Type 0 where
  pub is : now ≡ splice out at done
  pub reach : at + length done ≡ to

pub first : (out : List ℕ) (at : ℕ) (new : List ℕ) {now : List ℕ} (n : ℕ) → length new ≡ n → now ≡ splice out at new → Laid out at new now (at + n)
first out at new n l e = record { is = e; reach = ap (λ (k : ℕ). at + k) l }

pub then : {out done last now : List ℕ} {at to : ℕ} (new : List ℕ) (n : ℕ) → Laid out at done last to → at ≤ length out → length new ≡ n → now ≡ splice last to new
    → Laid out at (done ++ new) now (to + n)
then {out} {done} {last} {now} {at} {to} new n g h l e =
    record {
      is = e ∙ ap (λ (x : List ℕ). splice x to new) g.is ∙ splice-more out at done new to g.reach h;
      reach = omega (arith, length-append done new, g.reach);
    }

-- pieces put together from the left are those put together from the right
pub right-3 : (a b c : List ℕ) → (a ++ b) ++ c ≡ a ++ (b ++ c)
right-3 a b c = append_assoc a b c

pub right-4 : (a b c d : List ℕ) → ((a ++ b) ++ c) ++ d ≡ a ++ (b ++ (c ++ d))
right-4 a b c d = append_assoc (a ++ b) c d ∙ append_assoc a b (c ++ d)

pub right-5 : (a b c d e : List ℕ) → (((a ++ b) ++ c) ++ d) ++ e ≡ a ++ (b ++ (c ++ (d ++ e)))
right-5 a b c d e = append_assoc ((a ++ b) ++ c) d e ∙ right-4 a b c (d ++ e)

-- all of it
pub whole : (out new : List ℕ) → length new ≡ length out → splice out 0 new ≡ new
unfolding splice
whole out new e = ap (λ (x : List ℕ). new ++ x) (drop_of_length-le out {i = 0 + length new} (omega arith)) ∙ append-nil new

-- ---- the parts

pub length8 : (n : ℕ) → length (le8 n) ≡ 8
unfolding le8 le4
length8 n = refl

pub length4 : (n : ℕ) → length (le4 n) ≡ 4
unfolding le4
length4 n = refl

module _ (r : LogRecord) where
  pub length-counters : length (counters r) ≡ 128
  unfolding counters le8 le4 zeros
  length-counters = refl

  pub length-connection : length (connection r) ≡ 128
  unfolding connection le8 le4 zeros
  length-connection = refl

  pub length_ids : length (ids r) ≡ 16
  unfolding ids le8 le4
  length_ids = refl

  pub length-lengths : length (lengths r) ≡ 48
  unfolding lengths le4 zeros
  length-lengths = refl

  pub length-section : length (section r) ≡ 320
  unfolding section
  length-section =
      omega (arith, length-append (counters r) (connection r ++ (ids r ++ lengths r)), length-append (connection r) (ids r ++ lengths r), length-append (ids r) (lengths r), length-counters, length-connection, length_ids, length-lengths)

-- ---- taken apart

-- n bytes at an index, and m behind them
pub joined : {a b : List ℕ} (n m k : ℕ) (s : List ℕ) → a ≡ take n (drop k s) → b ≡ take m (drop (k + n) s) → a ++ b ≡ take (n + m) (drop k s)
joined n m k s ea eb = ap₂ (λ (x y : List ℕ). x ++ y) ea (eb ∙ ap (take m) (sym (drop-drop n k s))) ∙ sym (take-add n m (drop k s))

-- ---- a record by its fields

pub three-same : (a b c x y z : ℤ) → a ≡ x → b ≡ y → c ≡ z → a ∷ b ∷ c ∷ [] ≡ x ∷ y ∷ z ∷ []
three-same a b c x y z p q r = cc

pub by-fields : (r : LogRecord) (t : List ℤ) (a b c d e f g h i j k l m : ℤ) → t ≡ r.tails → a ≡ r.active_term_count → b ≡ r.initial_term_id → c ≡ r.term_length → d ≡ r.mtu_length
    → e ≡ r.session_id → f ≡ r.stream_id → g ≡ r.is_connected → h ≡ r.publication_limit → i ≡ r.end_of_stream_position → j ≡ r.slowest_position
    → k ≡ r.active_transport_count → l ≡ r.correlation_id → m ≡ r.page_size
    → ◌≡◌ {A = LogRecord} (record {
      tails = t;
      active_term_count = a;
      initial_term_id = b;
      term_length = c;
      mtu_length = d;
      session_id = e;
      stream_id = f;
      is_connected = g;
      publication_limit = h;
      end_of_stream_position = i;
      is_closed = r.is_closed;
      slowest_position = j;
      is_cleared = r.is_cleared;
      active_transport_count = k;
      correlation_id = l;
      page_size = m;
    }) (record {
      tails = r.tails;
      active_term_count = r.active_term_count;
      initial_term_id = r.initial_term_id;
      term_length = r.term_length;
      mtu_length = r.mtu_length;
      session_id = r.session_id;
      stream_id = r.stream_id;
      is_connected = r.is_connected;
      publication_limit = r.publication_limit;
      end_of_stream_position = r.end_of_stream_position;
      is_closed = r.is_closed;
      slowest_position = r.slowest_position;
      is_cleared = r.is_cleared;
      active_transport_count = r.active_transport_count;
      correlation_id = r.correlation_id;
      page_size = r.page_size;
    })
by-fields r t a b c d e f g h i j k l m et ea eb ec ed ee ef eg eh ei ej ek el em = cc
