-- All that descriptors can come to is found.
use Rattle.std.proofs.Common.{◌≡◌, ℕ, ◌^◌, ◌<◌, Bool, true, List, [], ◌∷◌, length, refl, sym, ◌∙◌, ap, subst, arith}
use Rattle.std.specs.List.{Contains}
use Rattle.sg_facts.specs.Facts.{Field, fun_at, state_after}
use Rattle.sg_facts.specs.Fields.{number_of}
use Rattle.sg_facts.specs.Interface.{Declared, declares}
use Rattle.sg_facts.specs.Walks.{IsReachable, made, moved, may_lead}
use Rattle.sg_facts.specs.Inside.Walking.{none_set}
use Rattle.sg_walk.specs.declared.place.Place.{Place}
use Rattle.sg_walk.specs.declared.place.Triple.{Triple}
use Rattle.sg_walk.specs.ReachedStates.Inside.Bits.{bits, set_numbered}
use Rattle.sg_walk.specs.ReachedStates.Inside.Places.{IsMadeAt, IsClosed, IsPlace}
use Rattle.sg_walk.specs.ReachedStates.Triples.{IsReachedTriple}
use Rattle.sg_walk.proofs.ReachedStates.Sets.{bits-none, bits-number_of, length-led, number_of-bits, number_of-small}

length-none : (fields : List Field) → length (none_set fields) ≡ length fields
length-none [] = refl
length-none (f ∷ fields) = let r = length-none fields in omega (arith, r)

-- a set that descriptors can come to is one of the fields
pub length-reached : (i : Declared) (by state : ℕ) (set : List Bool) → IsReachable i by state set → length set ≡ length i.facts.fields
length-reached i by state set (made fun set' declared creation leads) = length-led _ 0 (none_set i.facts.fields) set' leads ∙ length-none i.facts.fields
length-reached i by state set (moved by' fun state' old new reached moves goes_on leads) = length-led _ 0 old new leads ∙ length-reached i by' state' old reached

-- and is that of its number
set_back : (i : Declared) (set : List Bool) → length set ≡ length i.facts.fields → set_numbered i (number_of set) ≡ set
set_back i set l = ap (λ n. bits n (number_of set)) (sym l) ∙ bits-number_of set

-- what is reached by a set is reached by its number
pub place_reached : (i : Declared) (by state : ℕ) (set : List Bool) → IsReachable i by state set → IsPlace i by (record { state = state; mask = number_of set })
place_reached i by state set reached =
    let l = length-reached i by state set reached in
    (subst (λ n. number_of set < 2 ^ n) l (number_of-small set), subst (IsReachable i by state) (sym (set_back i set l)) reached)

-- what begins is reached
pub begun_reached : (i : Declared) (fun : ℕ) (q : Place) → IsMadeAt i fun q → IsPlace i fun q
begun_reached i fun q b = (
  b.led.1,
  subst (λ s. IsReachable i fun s (set_numbered i q.mask)) (sym b.led.0)
      (made fun (set_numbered i q.mask) b.declared b.creation (ap (λ l. may_lead (fun_at i.facts.funs fun).effects 0 l (set_numbered i q.mask)) (sym (bits-none i.facts.fields)) ∙ b.led.2)),
)

module _ (i : Declared) (places : List Place) (closed : IsClosed i places) where
  -- all that is reached was found
  all_by : (by state : ℕ) (set : List Bool) → ((q : Place) → IsMadeAt i by q → Contains places q) → IsReachable i by state set
      → Contains places (record { state = state; mask = number_of set })
  all_by by state set begun (made fun set' declared creation leads) =
      let l : length set' ≡ length i.facts.fields = length-led _ 0 (none_set i.facts.fields) set' leads ∙ length-none i.facts.fields in
      begun (record { state = state_after i.facts fun fun; mask = number_of set' }) (record {
        declared = declared;
        creation = creation;
        led = (
          refl,
          subst (λ n. number_of set' < 2 ^ n) l (number_of-small set'),
          ap (λ s. may_lead (fun_at i.facts.funs fun).effects 0 s (set_numbered i (number_of set'))) (bits-none i.facts.fields)
              ∙ ap (λ s. may_lead (fun_at i.facts.funs fun).effects 0 (none_set i.facts.fields) s) (set_back i set' l) ∙ leads,
        );
      })
  all_by by state set begun (moved by' fun state' old new reached moves goes_on leads) =
      let lo : length old ≡ length i.facts.fields = length-reached i by' state' old reached in
      let ln : length new ≡ length i.facts.fields = length-led _ 0 old new leads ∙ lo in
      closed (record { state = state'; mask = number_of old }) (record { state = state_after i.facts fun state'; mask = number_of new }) (all_by by' state' old begun reached) (
        fun,
        record {
          moves = moves;
          goes_on = goes_on;
          led = (
            refl,
            subst (λ n. number_of new < 2 ^ n) ln (number_of-small new),
            ap (λ s. may_lead (fun_at i.facts.funs fun).effects 0 s (set_numbered i (number_of new))) (set_back i old lo)
                ∙ ap (λ s. may_lead (fun_at i.facts.funs fun).effects 0 old s) (set_back i new ln) ∙ leads,
          );
        },
      )

  pub all_found : (by : ℕ) (p : Place) → ((q : Place) → IsMadeAt i by q → Contains places q) → IsPlace i by p → Contains places p
  all_found by p begun (small, reached) =
      subst (λ m. Contains places (record { state = p.state; mask = m })) (number_of-bits (length i.facts.fields) p.mask small) (all_by by p.state (set_numbered i p.mask) begun reached)

-- a triple is reached just where its place is
pub triple_place : (i : Declared) (t : Triple) → IsReachedTriple i t → IsPlace i t.made (record { state = t.state; mask = t.mask })
triple_place i t (set, number, reached) = subst (λ m. IsPlace i t.made (record { state = t.state; mask = m })) number (place_reached i t.made t.state set reached)

pub place_triple : (i : Declared) (t : Triple) → IsPlace i t.made (record { state = t.state; mask = t.mask }) → IsReachedTriple i t
place_triple i t (small, reached) = (set_numbered i t.mask, number_of-bits (length i.facts.fields) t.mask small, reached)

-- what descriptors of a function can come to, that function is declared
pub made_declared : (i : Declared) (by state : ℕ) (set : List Bool) → IsReachable i by state set → declares i by ≡ true
made_declared i by state set (made fun set' declared creation leads) = declared
made_declared i by state set (moved by' fun state' old new reached moves goes_on leads) = made_declared i by' state' old reached
