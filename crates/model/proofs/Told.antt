-- Equal answers are told alike: a contract that fixes an answer fixes document 01's number and values, whatever the enum.
use mathlib.Core.Path.{◌≡◌, ap}
use Rattle.model.specs.Answers.{Told}

pub told-alike : {A : Type 0} (tell : A → Told) (x y : A) → x ≡ y → tell x ≡ tell y
told-alike tell x y e = ap tell e
