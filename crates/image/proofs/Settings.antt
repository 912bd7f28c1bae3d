-- set_position, is_end_of_stream and close, over the code's reading of the record.
use Rattle.std.specs.Prelude.{Result, Ok, Err}
use Rattle.model.specs.declared.Error.{Error}
use mathlib.Core.Path.{◌≡◌, sym, ap, ap₂, ◌∙◌}
use mathlib.Core.Bool.{Bool, true, cond}
use mathlib.Core.List.{List}
use Prim.Native.Nat.{ℕ}
use lib.ListN.{length}
use lib.IntN.{ℤ}
use Rattle.model.specs.declared.LogRecord.{LogRecord}
use Rattle.model.specs.declared.Reading.{Reading}
use Rattle.model.specs.declared.Error.TheVariants.{IllegalRecord}
use Rattle.model.specs.declared.ReadVerdict.{ReadVerdict}
use Rattle.model.specs.declared.ReadVerdict.TheVariants.{Read}
use Rattle.model.specs.Bytes.{long}
use Rattle.model.specs.LogBufferDescriptor.{reading, sound}
use Rattle.model.specs.Image.{Image as State, ImageReply, readable, reachable, set_by, set_position_of, at_end, end_by, end_of_stream_of, close_image_of}

module _ (r : LogRecord) (log : List ℕ) (i : State) (v : Reading) (ev : v ≡ reading r) where
  pub as-set : (new : ℤ) (p : ℕ) (x : Result ReadVerdict Error) → p ≡ long new → x ≡ readable true v (length log) i (reachable v (long i.position) p (Ok Read))
      → set_by i new x ≡ set_position_of r log i new
  unfolding set_position_of
  as-set new p x ep ex =
      ap (set_by i new) ex
      ∙ ap₂ (λ (u : Reading) (q : ℕ). set_by i new (readable true u (length log) i (reachable u (long i.position) q (Ok Read)))) ev ep

  pub as-end : (x : Result ReadVerdict Error) → x ≡ readable true v (length log) i (Ok Read) → end_by r i x ≡ end_of_stream_of r log i
  unfolding end_of_stream_of
  as-end x ex = ap (end_by r i) ex ∙ ap (λ (u : Reading). end_by r i (readable true u (length log) i (Ok Read))) ev

  abbrev pub closing : (b c : Bool) → ImageReply
  closing b c =
      cond b (record { answer = Ok tt; next = cond c i (record { position = i.position; session = i.session; closed = true; eos = at_end r i }) })
      (record { answer = Err IllegalRecord; next = i })

  -- closing, by its two tests
  pub as-close : (b c : Bool) → sound v (length log) ≡ b → i.closed ≡ c → closing b c ≡ close_image_of r log i
  unfolding close_image_of
  as-close b c eb ec = ap₂ closing (sym eb ∙ ap (λ (u : Reading). sound u (length log)) ev) (sym ec)
