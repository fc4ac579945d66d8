pub mod Described
pub mod DescribedLaws
pub mod DescribedSound
pub mod Known
pub mod Meaning
pub mod NeverZero
pub mod Safe
pub mod Waiting
pub mod Walking
pub use Rattle.sg_slots.specs as sg_slots
pub use Rattle.sg_facts.specs as sg_facts
