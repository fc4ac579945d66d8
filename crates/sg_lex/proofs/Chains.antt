-- What holds of the one answer of a test, and of a value that is there.
use Rattle.std.proofs.Common.{◌≡◌, Bool, true, false, subst}
use Rattle.std.specs.Prelude.{None, Some, MatchBool, MatchOption}
use Rattle.std.specs.declared.option.Option.{Option}

pub on_true : (X Y : Type 0) (b : Bool) → MatchBool b X Y → b ≡ true → X
on_true X Y true m e = m
on_true X Y false m e = absurd (let f : false ≡ true = e in cc)

pub on_some : {A : Type 0} (X : Type 0) (P : A → Type 0) (o : Option A) (v : A) → MatchOption o X P → o ≡ Some v → P v
on_some X P (Some w) v m e = subst P (let f : w ≡ v = cc in f) m
on_some X P None v m e = absurd cc
