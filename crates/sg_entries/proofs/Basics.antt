-- Choices and what they say.
use Rattle.std.proofs.Common.{◌≡◌, Bool, true, false, if◌then◌else◌, refl}
use Rattle.std.specs.Prelude.{None, Some}
use Rattle.std.specs.declared.option.Option.{Option}

pub some_is : {X : Type 0} (x y : X) → Some x ≡ Some y → x ≡ y
some_is x y e = cc

-- nothing is not something
pub none_some : {X : Type 0} (Y : Type 0) (x : X) → None ≡ Some x → Y
none_some Y x e = absurd (let f = e in cc)

pub if_then : {X : Type 0} (b : Bool) (x y : X) → b ≡ true → (if b then x else y) ≡ x
if_then true x y h = refl
if_then false x y h = absurd (let e : false ≡ true = h in cc)

pub if_else : {X : Type 0} (b : Bool) (x y : X) → b ≡ false → (if b then x else y) ≡ y
if_else false x y h = refl
if_else true x y h = absurd (let e : true ≡ false = h in cc)

-- a choice whose outcome is known
pub chosen : {X : Type 0} (Y : Type 0) (b : Bool) (x : X) (o : Option X) (next : X) → (if b then Some x else o) ≡ Some next
    → (b ≡ true → x ≡ next → Y) → (b ≡ false → o ≡ Some next → Y) → Y
chosen Y true x o next e hit miss = hit refl (some_is x next e)
chosen Y false x o next e hit miss = miss refl e

pub not_both : (Y : Type 0) (b : Bool) → b ≡ true → b ≡ false → Y
not_both Y true h g = absurd (let e : true ≡ false = g in cc)
not_both Y false h g = absurd (let e : false ≡ true = h in cc)
