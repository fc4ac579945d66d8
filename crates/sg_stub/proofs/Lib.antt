pub mod TripleSets
pub mod Before
pub mod OneTable
pub use Rattle.sg_check.proofs.sg_check_statements as sg_check_statements
pub use Rattle.sg_check.proofs as sg_check
