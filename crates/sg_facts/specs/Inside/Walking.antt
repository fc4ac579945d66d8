-- The steps by which walks and tables are made, one by one, as the proofs name them.
use Rattle.std.specs.Prelude.{ℕ, ◌≡◌, ◌==◌, Bool, true, false, ◌&&◌, ◌||◌, not, nat_lt, List, length, map}
use Rattle.std.specs.Option.{option_map_or}
use Rattle.std.specs.declared.option.Option.{Option}
use Rattle.sg_facts.specs.Facts.{Field, fun_at}
use Rattle.sg_facts.specs.Interface.{Declared, declares, steps_on}
use Rattle.std.specs.declared.cmp.Ordering.TheVariants.{Less}
use Rattle.std.specs.Ordering.{nat_cmp, ordering_then}
use Rattle.std.specs.List.{AllPairs}
use Rattle.sg_facts.specs.declared.tables.WalkLine.{WalkLine}
use Rattle.sg_facts.specs.declared.shape.Leaves.{Leaves}
use Rattle.sg_facts.specs.declared.shape.Leaves.TheVariants.{Of}
use Rattle.std.specs.declared.cmp.Ordering.{Ordering}
use Rattle.sg_facts.specs.Walks.{FieldMark, Spot, good, no_later, restores, restores_fields, unknown, unset}

-- no field is set
abbrev pub none_set : List Field → List Bool
none_set fields = map (λ f. false) fields

-- whether a walk may begin with a function: a declared creation that is neither terminal nor a query
abbrev pub may_begin : Declared → ℕ → Bool
may_begin i fun =
    declares i fun && (fun_at i.facts.funs fun).creation && not (fun_at i.facts.funs fun).terminal && not (fun_at i.facts.funs fun).query

-- whether a walk may go on with a function: a declared recover step that is neither terminal nor a query
abbrev pub may_go_on : Declared → Spot → ℕ → Bool
may_go_on i s fun =
    declares i fun && steps_on i s.state fun && not (fun_at i.facts.funs fun).terminal && not (fun_at i.facts.funs fun).query

-- a field that is set has the row's value; one that isn't is 0 or empty, or has the row's value
abbrev pub restores_field : FieldMark → Bool → Bool
restores_field mark set = elim mark [ good ↦ true | unset ↦ not set | unknown ↦ false ]

-- whether a walk that leads to a spot restores a state with a set of fields; no walk, None, restores nothing
abbrev pub restores_at : Option Spot → ℕ → List Bool → Bool
restores_at spot state set = option_map_or (λ s. (s.state == state) && restores_fields s.marks set) spot false

-- a walk restores a state with a set of fields
abbrev pub Restores : Declared → List ℕ → ℕ → List Bool → Type 0
Restores i walk state set = restores i walk state set ≡ true

-- whether a walk goes before another, or is it: it is shorter, or as long and no later
abbrev pub no_worse : List ℕ → List ℕ → Bool
no_worse a b = nat_lt (length a) (length b) || ((length a == length b) && no_later a b)

-- whether a line is for a creation, a state and the number of a set of fields
abbrev pub is_for : ℕ → ℕ → ℕ → WalkLine → Bool
is_for made state mask line = (line.made == made) && (line.state == state) && (line.mask == mask)

-- how a line stands to these: by the creation, then by the state, then by the set's number
abbrev pub line_order : WalkLine → ℕ → ℕ → ℕ → Ordering
line_order line made state mask = ordering_then (ordering_then (nat_cmp line.made made) (nat_cmp line.state state)) (nat_cmp line.mask mask)

-- each line is before all later ones
abbrev pub IsAscending : List WalkLine → Type 0
IsAscending lines = AllPairs (λ a b. line_order a b.made b.state b.mask ≡ Less) lines

-- the function whose state another leaves is declared
abbrev pub LeavesDeclared : Declared → Leaves → Type 0
LeavesDeclared i leaves = elim leaves [ Of other ↦ declares i other ≡ true | _ ↦ Unit {0} ]
