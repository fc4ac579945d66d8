pub mod OfServices
pub mod Apart
pub mod Cuts
pub mod Dividers
pub mod Divided
pub mod LastLine
pub mod Gathering
pub mod OneCut
pub mod OneInput
pub mod OneMulti
pub mod OneRun
pub mod OneVerdict
pub mod PlacedLine
pub mod ReadAs
pub mod Said
pub use Rattle.sg_print.proofs.sg_parse
pub use Rattle.sg_stub.proofs as sg_stub
pub use Rattle.sg_stub.proofs.sg_check
pub use Rattle.sg_stub.proofs.sg_check.sg_walk
pub use Rattle.sg_entries.proofs as sg_entries
