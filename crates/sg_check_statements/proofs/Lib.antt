pub mod Firsts
pub mod FirstFact
pub mod Clear
pub mod Judged
pub mod Sets
pub mod Anywhere
pub mod Bits
pub use Rattle.sg_facts.proofs as sg_facts
