-- A script is made of flawless parts alone.
use Rattle.std.proofs.Common.{◌≡◌, ◌∙◌, true, subst, sym}
use Rattle.std.specs.List.{list_all}
use Rattle.sg_script.specs.Inside.Held.{is_held}
use Rattle.sg_script.proofs.Held.{flawless_held}
use Rattle.sg_script.proofs.reading.script_in.Goals as goal

pub script_of-requires : goal.script_of-requires
script_of-requires c =
    subst (λ parts. list_all is_held parts ≡ true) (c.as_slice.ensures ∙ sym c.as_slice-in-None.ensures)
    (flawless_held c.from_ref.result.now c.as_slice.result.now c.in-None.ensures)
