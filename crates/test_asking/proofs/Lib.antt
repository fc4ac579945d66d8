pub use Rattle.sg_facts.proofs as sg_facts
