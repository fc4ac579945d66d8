-- In no service does a query wait.
use Rattle.std.proofs.Common.{◌≡◌, ℕ, suc, Bool, true, false, List, [], ◌∷◌, refl}
use Rattle.std.specs.Prelude.{◌&&◌, ◌||◌, not}
use Rattle.std.specs.List.{list_all}
use Rattle.std.proofs.lemmas.Bool.{and_parts}
use Rattle.sg_facts.specs.Facts.{Fun}
use Rattle.sg_interpret.specs.sg_described.Described.{Described, described_of}
use Rattle.sg_interpret.specs.sg_described.NeverZero.{all_from}
use Rattle.sg_interpret.specs.sg_described.Safe.{IsSafe, is_plain_fun}
use Rattle.sg_load.proofs.Services.{none_waits}
use Rattle.sg_load.specs.sg_plain.Answering.{no_query_waits}
use Rattle.sg_multi.specs.Serving.{IsFit, answering_at}
use Rattle.sg_multi.specs.declared.served.Served.{Served}
use Rattle.sg_multi.specs.declared.served.Served.TheVariants.{BuiltIn, Own}

both : (a b : Bool) → a ≡ true → b ≡ true → (a && b) ≡ true
both true b one other = other
both false b one other = absurd (cc one)

second : (a b : Bool) → b ≡ true → (a || b) ≡ true
second true b is = refl
second false b is = is

unasked : (query words texts block : Bool) → ((not query && words) && texts) ≡ true → not (query && block) ≡ true
unasked true words texts block is = absurd (cc is)
unasked false words texts block is = refl

none_asks : (d : Described) (n : ℕ) (funs : List Fun) → all_from (is_plain_fun d) n funs ≡ true → list_all (λ f. not (f.query && f.block)) funs ≡ true
none_asks d n [] is = refl
none_asks d n (f ∷ funs) is =
    let parts = and_parts (is_plain_fun d n f) (all_from (is_plain_fun d) (suc n) funs) is in
    both (not (f.query && f.block)) (list_all (λ g. not (g.query && g.block)) funs) (unasked f.query _ _ f.block parts.0) (none_asks d (suc n) funs parts.1)

pub no_query : (d : Described) → IsSafe d → no_query_waits d.facts ≡ true
no_query d safe = second d.facts.global (list_all (λ f. not (f.query && f.block)) d.facts.funs) (none_asks d 1 d.facts.funs safe.plain.funs)

-- in one that can be recovered
pub no_query_at : (served : Served) → IsFit served → no_query_waits (answering_at served).facts ≡ true
no_query_at (BuiltIn kind) fit = none_waits kind
no_query_at (Own d) fit = no_query (described_of d) fit
