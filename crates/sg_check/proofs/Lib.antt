pub mod Bits
pub mod Marked
pub mod Calls
pub mod Gaining
pub mod Listing
pub mod Seeking
pub mod Unique
pub mod Fitting
pub mod Stages
pub use Rattle.sg_check_statements.proofs as sg_check_statements
pub use Rattle.sg_check_statements.proofs.sg_facts as sg_facts
pub use Rattle.sg_walk.proofs as sg_walk
