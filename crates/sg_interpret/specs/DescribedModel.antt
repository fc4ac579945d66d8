-- A described service as plain data, with the laws that it keeps to.
use Rattle.sg_described.specs.sg_slots.RowModel.{RowModel}
use Rattle.sg_described.specs.Described.{Described}
use Rattle.sg_described.specs.DescribedSound.{IsDescribedSound}
use Rattle.sg_described.specs.Meaning.{described_parts, described_table}
use Rattle.sg_described.specs.Safe.{made_safe}
use Rattle.sg_described.proofs.Keeping.SafeLaw.{made_is_safe, made_keeps_laws}

-- of a description that isn't safe it is the service without functions
abbrev pub described_model : Described → RowModel
described_model d = record {
  facts = (made_safe d).facts;
  ask = described_table (made_safe d);
  parts = described_parts (made_safe d);
  sound = IsDescribedSound (made_safe d);
  fileless = (made_is_safe d).plain.fileless;
  answers_and_keeps = (made_keeps_laws d).answers_and_keeps;
  answers_alike = (made_keeps_laws d).answers_alike;
  walk_goes_on = (made_keeps_laws d).walk_goes_on;
  blocked_stays = (made_keeps_laws d).blocked_stays;
  shape_allows = (made_keeps_laws d).shape_allows;
  counts_slowly = (made_keeps_laws d).counts_slowly;
}
