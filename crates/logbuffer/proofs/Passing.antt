-- What `first_rows` answered, by the row that it was asked with.
use Rattle.std.specs.Prelude.{ℕ, Bool, Result, Ok, ⊤}
use Rattle.std.proofs.Common.{◌≡◌, sym, ap, ◌∙◌}
use Rattle.model.specs.declared.Reading.{Reading}
use Rattle.model.specs.declared.Error.{Error}
use Rattle.model.specs.LogBufferDescriptor.{sound, first_rows}

pub rows-of : (v : Reading) (n : ℕ) (good g : Bool) (r x : Result ⊤ Error) → g ≡ good → r ≡ first_rows g (sound v n) (Ok tt) → r ≡ x
    → first_rows good (sound v n) (Ok tt) ≡ x
rows-of v n good g r x eg er ex = ap (λ (b : Bool). first_rows b (sound v n) (Ok tt)) (sym eg) ∙ sym er ∙ ex
