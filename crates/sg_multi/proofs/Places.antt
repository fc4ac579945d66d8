-- Members at places of a list, one of which changes.
use Rattle.std.proofs.Common.{◌≡◌, ℕ, zero, suc, ◌<◌, List, [], ◌∷◌, Some, length, refl, sym, ◌∙◌, ap, arith, slice_set}
use Rattle.std.specs.Prelude.{IfOk, OnErr, OnOk, slice_get, slice_index_or}
use Rattle.std.specs.declared.result.Result.{Result}
use Rattle.std.specs.declared.result.Result.TheVariants.{Ok, Err}
use Rattle.sg_multi.specs.Members.{ChangesAt, Membered, view_in}
use Rattle.sg_sim.specs.sg_clients.WorldView.{WorldView}

-- what is read at a place stands there
pub read_there : {T : Type 0} (xs : List T) (k : ℕ) (d : T) → k < length xs → slice_get xs k ≡ Some (slice_index_or xs k d)
read_there [] k d below = absurd (omega (arith, below))
read_there (x ∷ xs) zero d below = refl
read_there (x ∷ xs) (suc k) d below = read_there xs k d (omega (arith, below))

pub now_there : (inside members : List Membered) (place : ℕ) (old : Membered) → inside ≡ members → place < length members → old ≡ slice_index_or inside place old → slice_get members place ≡ Some old
now_there inside members place old same below value =
    read_there members place old below ∙ ap (λ x. Some x) (ap (λ l. slice_index_or l place old) (sym same) ∙ sym value)

pub same_there : (members : List Membered) (place : ℕ) (old m : Membered) → slice_get members place ≡ Some old → slice_get members place ≡ Some m → old ≡ m
same_there members place old m a b = let both : Some old ≡ Some m = sym a ∙ b in cc both

-- the member at a place is another one, whose service, tables and plan are the same
pub changed : (members inside : List Membered) (place : ℕ) (old new m : Membered) (now : WorldView) → inside ≡ members → slice_get members place ≡ Some m → old ≡ m → view_in new ≡ now → new.service ≡ old.service
    → new.world.tables ≡ old.world.tables → new.world.plan ≡ old.world.plan → ChangesAt members place m now (slice_set inside place new)
changed members inside place old new m now same there is view service tables plan = record {
  new = new;
  are = ap (λ l. slice_set l place new) same;
  there = there;
  view_is = view;
  service = service ∙ ap (λ x. x.service) is;
  tables = tables ∙ ap (λ x. x.world.tables) is;
  plan = plan ∙ ap (λ x. x.world.plan) is;
}

-- ---- results

pub ok_both : {A E : Type 0} (P Q R : A → Type 0) (r : Result A E) → IfOk r P → IfOk r Q → ((a : A) → P a → Q a → R a) → IfOk r R
ok_both P Q R (Ok a) p q so = so a p q
ok_both P Q R (Err e) p q so = tt

pub ok_each : {A E : Type 0} (P Q : A → Type 0) (r : Result A E) → IfOk r P → ((a : A) → P a → Q a) → IfOk r Q
ok_each P Q (Ok a) is so = so a is
ok_each P Q (Err e) is so = tt

pub ok_so : {A E : Type 0} (P Q : Type 0) (r : Result A E) → (P → Q) → OnOk r P → OnOk r Q
ok_so P Q (Ok a) so is = so is
ok_so P Q (Err e) so is = tt

pub err_so : {A E : Type 0} (P Q : Type 0) (r : Result A E) → (P → Q) → OnErr r P → OnErr r Q
err_so P Q (Ok a) so is = tt
err_so P Q (Err e) so is = so is
