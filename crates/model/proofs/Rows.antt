-- Rows 1 and 2, which the readers' calls share: what they leave of a call's own rows where they refuse, and where they pass.
use Rattle.std.specs.Prelude.{Result, Ok, Err, ⊤}
use mathlib.Core.Path.{◌≡◌, refl, sym}
use mathlib.Core.Bool.{Bool, true, false}
use Prim.Native.Nat.{ℕ}
use native.Mathlib.Omega.{arith}
use Rattle.model.specs.declared.Error.{Error}
use Rattle.model.specs.declared.Error.TheVariants.{IllegalArgument, IllegalRecord}
use Rattle.model.specs.LogBufferDescriptor.{first_rows}

-- by the two tests
pub row-1 : (good sound : Bool) → good ≡ false → Err IllegalArgument ≡ first_rows good sound (Ok tt)
row-1 good sound h = sym (rw h)

pub row-2 : (good sound : Bool) → good ≡ true → sound ≡ false → Err IllegalRecord ≡ first_rows good sound (Ok tt)
row-2 good sound h s = sym (rw (h, s))

pub no_row : (good sound : Bool) → good ≡ true → sound ≡ true → Ok tt ≡ first_rows good sound (Ok tt)
no_row good sound h s = sym (rw (h, s))

-- with rows of a call's own behind them
pub rows-refuse : (good sound : Bool) (own : Result ⊤ Error) {e : Error} → first_rows good sound (Ok tt) ≡ Err e → Err e ≡ first_rows good sound own
rows-refuse true true own h = absurd (let z : ◌≡◌ {A = ℕ} 0 1 = cc in omega arith)
rows-refuse true false own h = sym h
rows-refuse false sound own h = sym h

pub rows_pass : (good sound : Bool) → first_rows good sound (Ok tt) ≡ Ok tt → (good ≡ true) × (sound ≡ true)
rows_pass true true h = (refl, refl)
rows_pass true false h = absurd (let z : ◌≡◌ {A = ℕ} 0 1 = cc in omega arith)
rows_pass false sound h = absurd (let z : ◌≡◌ {A = ℕ} 0 1 = cc in omega arith)

pub rows_then : (good sound : Bool) (own : Result ⊤ Error) → first_rows good sound (Ok tt) ≡ Ok tt → own ≡ first_rows good sound own
rows_then true true own h = refl
rows_then true false own h = absurd (let z : ◌≡◌ {A = ℕ} 0 1 = cc in omega arith)
rows_then false sound own h = absurd (let z : ◌≡◌ {A = ℕ} 0 1 = cc in omega arith)

-- where all rows pass
pub rows-passed : (good sound : Bool) (own : Result ⊤ Error) → first_rows good sound own ≡ Ok tt → (first_rows good sound (Ok tt) ≡ Ok tt) × (own ≡ Ok tt)
rows-passed true true own h = (refl, h)
rows-passed true false own h = absurd (let z : ◌≡◌ {A = ℕ} 0 1 = cc in omega arith)
rows-passed false sound own h = absurd (let z : ◌≡◌ {A = ℕ} 0 1 = cc in omega arith)
