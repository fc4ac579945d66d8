-- The first fields are blank.
use Rattle.std.proofs.Common.{◌≡◌, length, map, take}
use Rattle.sg_track.specs.Drafts.{blank_draft}
use Rattle.sg_track.proofs.make.blank_drafts.Given as goal

abbrev pub invariant-fields : goal.invariant-fields
invariant-fields l = record {
  made : take l.at l.drafts ≡ map blank_draft (take l.at l.fields);
  all : length l.drafts ≡ 8;
}
