pub mod Alone
pub mod AnyInputs
pub mod OneMore
pub mod OwnTelling
pub mod OneSaid
pub mod Parts
pub mod Texts
pub mod Walking
pub use Rattle.sg_explain.proofs.sg_input as sg_input
