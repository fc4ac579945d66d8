pub use Rattle.sg_facts.specs as sg_facts
pub use Rattle.sg_slots.specs as sg_slots
