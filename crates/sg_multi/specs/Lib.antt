pub mod Beginning
pub mod Calls
pub mod Ends
pub mod Inside
pub mod Members
pub mod Merged
pub mod Playable
pub mod Played
pub mod Playing
pub mod Report
pub mod Serving
pub mod SeveralServices
pub use Rattle.sg_facts.specs as sg_facts
pub use Rattle.sg_edge.specs as sg_edge
pub use Rattle.sg_interpret.specs as sg_interpret
pub use Rattle.sg_load.specs as sg_load
pub use Rattle.sg_sim.specs as sg_sim
