use Rattle.std.proofs.Common.{◌≡◌, ◌++◌, drop, map}
use Rattle.sg_print.specs.TablesText.{set_names}
use Rattle.sg_print.proofs.tables.names_in.Given as goal

-- the fields so far, and those to come
abbrev pub invariant-fields : goal.invariant-fields
invariant-fields l =
    set_names (map (λ f. record { name = f.name.now; text = f.text }) l.fields) l.mask
    ≡ map (λ n. n.now) l.names.items ++ set_names (map (λ f. record { name = f.name.now; text = f.text }) (drop l.field-index l.fields)) l.left
