-- A patch that fits the file which the service has fits the stored one.
use Rattle.std.proofs.Common.{◌≡◌, ◌≤◌, None, Some, subst}
use Rattle.std.specs.Prelude.{IfSome, length}
use Rattle.std.specs.declared.option.Option.{Option}
use Rattle.sg_facts.specs.declared.outcome.Patch.{Patch}
use Rattle.sg_facts.specs.Invoke.{IfPatch}
use Rattle.sg_facts.specs.Object.{Object, file_at}
use Rattle.sg_store.specs.Spans.{FitsPatch}
use Rattle.sg_store.specs.Stored.{HasRoom, Stored, bytes_of, files_in}

-- where the file is stored as the service has it, and was given room
pub fits_stored : (o : Object) (s : Stored) (patch : Option Patch) → IfPatch o patch → IfSome patch (λ p. file_at o.files p.key ≡ bytes_of s p.key)
    → IfSome patch (λ p. HasRoom s p.key) → IfSome patch (FitsPatch (files_in s))
fits_stored o s None fits same room = tt
fits_stored o s (Some p) fits same room = record {
  bytes = fits.bytes;
  within = subst (λ b. p.from ≤ length b) same fits.within;
  end = fits.end;
  room = room;
}
