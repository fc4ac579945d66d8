-- Each service id is new when it is added.
use Rattle.std.proofs.Common.{ℕ, [], ◌∷◌, arith, length-append, map, nat_eq, subst, sym}
use Rattle.std.specs.Borrow.{Bor}
use Rattle.std.specs.List.{IsDistinct}
use Rattle.std.specs.Map.{keys_of}
use Rattle.std.specs.Map.Iter.{deref_pair}
use Rattle.std.proofs.lemmas.Map.Iter.{iter_end}
use Rattle.sg_name.specs.declared.named.Standing.{Standing}
use Rattle.sg_name.specs.Names.{IsOneToOne}
use Rattle.sg_name.specs.Inside.Both.{GoesBack}
use Rattle.sg_name.proofs.Prefixes.{all_are, free_real, more_back, shown-more}
use Rattle.sg_name.proofs.both.refill.Goals as goal

pub add-requires-clause-unknown : goal.add-requires-clause-unknown
add-requires-clause-unknown c =
    let begun = c.into_iter-id-iterator.ensures.into_iter_gives in
    let are = all_are c.args.standings.now.entries c.all.yielded _ c.all.id-iterator c.next.new.self c.next.result (c.in-Some.id, c.in-Some.standing) begun.0 c.all.yielded_by c.in-Some.is c.next.ensures.steps in
    free_real (map deref_pair c.all.yielded) (c.in-Some.id.now, c.in-Some.standing.now) c.next.new.self c.all.ids.entries
    (subst (λ all. IsDistinct nat_eq (keys_of all)) are begun.4) (subst IsOneToOne are c.requires.apart) c.all.invariant.back

pub all-preserved : goal.all-preserved
all-preserved c =
    let begun = c.into_iter-id-iterator.ensures.into_iter_gives in
    let item : Bor ℕ × Bor Standing = (c.in-Some.id, c.in-Some.standing) in
    let are = all_are c.args.standings.now.entries c.all.yielded _ c.all.id-iterator c.next.new.self c.next.result item begun.0 c.all.yielded_by c.in-Some.is c.next.ensures.steps in
    record {
      back = subst (λ known. GoesBack known c.add.new.map.entries) (sym (shown-more c.all.yielded item))
          (more_back (map deref_pair c.all.yielded) (c.in-Some.id.now, c.in-Some.standing.now) c.next.new.self c.all.ids.entries
          (subst (λ all. IsDistinct nat_eq (keys_of all)) are begun.4) (subst IsOneToOne are c.requires.apart) c.all.invariant.back
          c.add.new.map.entries c.add.ensures.updates.0);
      len = omega (arith, length-append c.all.yielded (item ∷ []), c.add.ensures.len, c.all.invariant.len);
      spare = omega (arith, length-append c.all.yielded (item ∷ []), c.add.ensures.spare, c.all.invariant.spare);
    }

pub returns-clause-back : goal.returns-clause-back
returns-clause-back c =
    let begun = c.into_iter-id-iterator.ensures.into_iter_gives in
    let end = iter_end deref_pair c.args.standings.now.entries c.all.yielded _ c.all.id-iterator c.next.new.self c.next.result begun.0 c.all.yielded_by c.in-None.is c.next.ensures.steps in
    subst (λ known. GoesBack known c.all.ids.entries) end.0 c.all.invariant.back
