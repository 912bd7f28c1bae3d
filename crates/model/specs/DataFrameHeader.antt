-- The 32 header bytes of a data frame, written and read. Taken from the Aeron Transport Protocol Specification as document 01's
-- "Frame" tells it: fields in this order, without gaps, little-endian.
--
--    0        4    5    6     8        12       16       20       24               32
--    +--------+----+----+-----+--------+--------+--------+--------+----------------+
--    | length | V  | F  |type | term   |session | stream | term   | reserved value | body ..
--    |  i32   | u8 | u8 | u16 | offset |  id    |  id    |  id    |      i64       |
--    +--------+----+----+-----+--------+--------+--------+--------+----------------+
-- Every definition that reads or writes a header goes by this file. Read FrameDescriptor next.
use Rattle.std.specs.Prelude.{ℕ, List, ◌∷◌, ◌++◌, drop, get_or}
use Rattle.model.specs.Bytes.{le2, le4, le8, u16, u32, u64}

-- the fields, each as the number that its bits are
pub record Header : Type 0 where
  pub length : ℕ
  pub version : ℕ
  pub flags : ℕ
  pub type : ℕ
  pub offset : ℕ
  pub session : ℕ
  pub stream : ℕ
  pub id : ℕ
  pub reserved : ℕ

-- all fields but the reserved value: the 24 bytes that writing a header sets
unfoldable pub header24 : Header → List ℕ
header24 h = le4 h.length ++ (h.version ∷ h.flags ∷ (le2 h.type ++ (le4 h.offset ++ (le4 h.session ++ (le4 h.stream ++ le4 h.id)))))

-- the 32 bytes
unfoldable pub header_bytes : Header → List ℕ
header_bytes h = header24 h ++ le8 h.reserved

-- where the type lies, which an abort stores by itself; the length, which it and a commit store, is the first field
abbrev pub type_field : ℕ
type_field = 6

-- the header at the beginning of s, read field by field
abbrev pub header_at : List ℕ → Header
header_at s =
    record {
      length = u32 s;
      version = get_or s 4 0;
      flags = get_or s 5 0;
      type = u16 (drop type_field s);
      offset = u32 (drop 8 s);
      session = u32 (drop 12 s);
      stream = u32 (drop 16 s);
      id = u32 (drop 20 s);
      reserved = u64 (drop 24 s);
    }
